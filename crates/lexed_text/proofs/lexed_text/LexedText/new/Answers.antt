-- The runs are of tokens whose bytes are the text's.
use Rattle.std.proofs.Common.{◌∙◌, length, ap, arith}
use Rattle.lexed_text.proofs.Renewals.{tokens-fit}
use Rattle.lexed_text.proofs.lexed_text.LexedText.new.Goals as goal

pub cut_runs-requires-clause-fits : goal.cut_runs-requires-clause-fits
cut_runs-requires-clause-fits c =
    let are = c.as_slice.ensures.value ∙ c.in_ok-tokens.ensures in
    let small = c.in_ok-text.text.bytes.ok.0 in
    tokens-fit c.args.text.now _ c.utf8.text are (omega (arith, ap length c.in_ok-text.ensures.ok, small))

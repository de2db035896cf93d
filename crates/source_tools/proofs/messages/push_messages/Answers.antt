use Rattle.std.proofs.Common.{◌≡◌, ◌∙◌, arith}
use Rattle.source_tools.proofs.messages.push_messages.Goals as goal

pub push_errors-requires : goal.push_errors-requires
push_errors-requires c =
    let same : c.in_ok-index.index ≡ c.args.document.now.text = c.in_ok-index.ensures ∙ c.text.ensures.text in
    rw same (omega (arith, c.text.ensures.fits))

pub returns : goal.returns
returns c =
    let same : c.in_ok-index.index ≡ c.args.document.now.text = c.in_ok-index.ensures ∙ c.text.ensures.text in
    let said = rw (same, c.as_slice.ensures.value, c.in_ok-errors.ensures, c.errors.ensures) at c.in_ok-push_errors.ensures in
    said

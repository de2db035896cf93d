use Rattle.std.proofs.Common.{arith, ap, length}
use Rattle.parser_input.specs.Stored.{Whole}
use Rattle.parser_input.proofs.LexedSteps.{seen-length}
use Rattle.parser_input.proofs.lexed_str.LexedStr.len.Goals as goal

pub returns : goal.returns
returns c =
    let s = c.self.inside in
    omega (arith, c.len.ensures, ap (λ (w : Whole). length w.leaves) c.self.view_is, seen-length s.text.now 0 s.leaves.items)

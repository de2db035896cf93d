use Rattle.std.proofs.Common.{◌≡◌, ◌∙◌, ◌==◌, ℕ, arith, ap, length}
use Rattle.std.specs.Vec.{vec_len}
use Rattle.parser_input.specs.Stored.{Whole}
use Rattle.parser_input.proofs.LexedSteps.{seen-length}
use Rattle.parser_input.proofs.lexed_str.LexedStr.is_empty.Goals as goal

pub returns : goal.returns
returns c =
    let s = c.self.inside in
    let same : vec_len s.leaves ≡ length c.args.self.now.leaves = omega (arith, ap (λ (w : Whole). length w.leaves) c.self.view_is, seen-length s.text.now 0 s.leaves.items) in
    c.is_empty.ensures ∙ ap (λ (n : ℕ). n == 0) same

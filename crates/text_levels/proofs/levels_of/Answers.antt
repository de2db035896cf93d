use Rattle.std.proofs.Common.{◌≡◌, ℕ, ◌<◌, ◌∙◌, ap, arith, chars, length}
use Rattle.parser_input.specs.Kind.{raw_of}
use Rattle.parser_input.specs.Lexed.{lexed}
use Rattle.parser_input.specs.Stored.{Whole, leaf_at}
use Rattle.text_levels.proofs.KindLists.{counts-on}
use Rattle.text_levels.proofs.levels_of.Goals as goal

pub loop-i-preserved : goal.loop-i-preserved
loop-i-preserved c =
    let is = c.in_ok-leaves.ensures in
    let ls = lexed c.args.edition (chars c.args.text.now) in
    let same : raw_of c.kind.result ≡ (leaf_at ls c.loop-i.i).leaf.kind = c.kind.ensures ∙ ap (λ (w : Whole). (leaf_at w.leaves c.loop-i.i).leaf.kind) is in
    let within : c.loop-i.i < length ls = omega (arith, c.loop-i-test.true, c.len-i-end.ensures, ap (λ (w : Whole). length w.leaves) is) in
    counts-on ls _ _ _ _ _ within same c.in_ok-count.ensures c.loop-i.invariant

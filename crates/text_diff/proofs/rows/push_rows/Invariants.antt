use Rattle.std.proofs.Common.{◌≡◌, ◌++◌, map, take}
use Rattle.std.specs.List.{flat_map}
use Rattle.text_diff.specs.Unified.{marked}
use Rattle.text_diff.proofs.rows.push_rows.Given as goal

abbrev pub invariant-loop-line : goal.invariant-loop-line
invariant-loop-line l =
    l.text.items ≡ l.fn.text.items ++ flat_map (λ x. marked l.mark x) (map (λ x. x.now) (take l.line-index l.lines))

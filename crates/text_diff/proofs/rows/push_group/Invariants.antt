use Rattle.std.proofs.Common.{◌≡◌, ◌++◌, map, drop}
use Rattle.std.specs.List.{flat_map}
use Rattle.text_diff.specs.Hunks.{rows_in}
use Rattle.text_diff.specs.Unified.{row_text}
use Rattle.text_diff.proofs.rows.push_group.Given as goal

abbrev pub invariant-loop-change : goal.invariant-loop-change
invariant-loop-change l =
    l.text.items ++ flat_map row_text (rows_in (map (λ x. x.now) l.old) (map (λ x. x.now) l.new) l.at (drop l.change-index l.changes) l.to)
    ≡ l.fn.text.items ++ flat_map row_text (rows_in (map (λ x. x.now) l.old) (map (λ x. x.now) l.new) l.fn.from l.changes l.to)

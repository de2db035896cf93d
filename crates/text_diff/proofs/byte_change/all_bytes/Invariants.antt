use Rattle.std.proofs.Common.{◌≡◌, map, take}
use Rattle.text_diff.specs.Bytes.{bytes_of}
use Rattle.text_diff.proofs.byte_change.all_bytes.Given as goal

abbrev pub invariant-loop-change : goal.invariant-loop-change
invariant-loop-change l =
    l.found.items ≡ map (bytes_of (map (λ x. x.now) l.fn.old) (map (λ x. x.now) l.fn.new)) (take l.change-index l.changes)

use Rattle.std.specs.Prelude.{◌≡◌, ◌++◌, map, drop}
use Rattle.parser_input.specs.Stored.{offset}
use Rattle.rust_document.specs.Reading.{of_leaves}
use Rattle.rust_document.specs.Seen.{message_of_error}
use Rattle.rust_document.proofs.read.append_faults.Given as goal

-- The messages so far, with those of the leaves that are left, are all.
abbrev pub invariant-loop-leaf : goal.invariant-loop-leaf
invariant-loop-leaf l =
    (map message_of_error l.errors.items ++ of_leaves (offset l.lexed.leaves l.leaf) (drop l.leaf l.lexed.leaves))
    ≡ (map message_of_error l.fn.errors.items ++ of_leaves 0 l.lexed.leaves)

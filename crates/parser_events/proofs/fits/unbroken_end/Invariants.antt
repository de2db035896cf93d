use Rattle.std.proofs.Common.{◌≡◌, ◌≤◌, ◌+◌, drop, length}
use Rattle.parser_input.specs.Lexed.{leaves_of}
use Rattle.parser_events.specs.Fits.{is_unbroken}
use Rattle.parser_events.proofs.fits.unbroken_end.Given as goal

-- the leaves that are left are unbroken just where all are
abbrev pub invariant-leaves : goal.invariant-leaves
invariant-leaves l =
    (l.end ≤ length l.lexed.leaves)
    × (l.end + l.left ≡ l.fn.start + l.fn.n)
    × (is_unbroken l.left (drop l.end (leaves_of l.lexed.leaves)) ≡ is_unbroken l.fn.n (drop l.fn.start (leaves_of l.lexed.leaves)))

abbrev pub decreases-leaves : goal.decreases-leaves
decreases-leaves l = l.left

use Rattle.std.specs.Prelude.{◌≡◌, ◌≤◌, length}
use Rattle.document_requests.specs.Floats.{after_string}
use Rattle.document_requests.proofs.floats.after_string.Given as goal

-- the string that is left ends where the whole one does
abbrev pub invariant-bytes : goal.invariant-bytes
invariant-bytes l = (after_string l.rest ≡ after_string l.text) × (length l.rest ≤ length l.text)

abbrev pub decreases-bytes : goal.decreases-bytes
decreases-bytes l = length l.rest

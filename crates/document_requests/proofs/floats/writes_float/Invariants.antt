use Rattle.std.specs.Prelude.{◌≡◌, length}
use Rattle.document_requests.specs.Floats.{outside_strings, has_point_or_exponent, writes_float}
use Rattle.document_requests.proofs.floats.writes_float.Given as goal

-- what is left decides
abbrev pub invariant-bytes : goal.invariant-bytes
invariant-bytes l = writes_float l.text ≡ has_point_or_exponent (outside_strings l.rest)

abbrev pub decreases-bytes : goal.decreases-bytes
decreases-bytes l = length l.rest

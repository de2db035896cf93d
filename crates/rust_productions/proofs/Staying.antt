-- What makes no look peeks.
use Rattle.std.proofs.Common.{◌≤◌, arith}
use Rattle.parser_events.specs.View.{View}
use Rattle.rust_grammar.specs.Meaning.{Reading}
use Rattle.rust_productions.specs.Looks.{Peeks, Stays}
use Rattle.rust_productions.specs.Reads.{Does}

pub stays-peeks : {old new : View} → Does (λ (s : Reading). s) old new → Stays old new → Peeks 0 old new
stays-peeks same stays = record { same = same; left = stays.left; looks = omega (arith, stays.looks) }

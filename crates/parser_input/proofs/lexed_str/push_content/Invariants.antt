use Rattle.std.proofs.Common.{◌-◌, length}
use Rattle.parser_input.specs.Stored.{Found}
use Rattle.parser_input.proofs.lexed_str.push_content.Given as goal

abbrev pub invariant-leaves : goal.invariant-leaves
invariant-leaves l = Found l.edition l.text l.place l.leaves.items

abbrev pub decreases-leaves : goal.decreases-leaves
decreases-leaves l = length l.text - l.place

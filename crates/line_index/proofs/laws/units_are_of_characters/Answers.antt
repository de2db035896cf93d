use Rattle.line_index.proofs.EncodeLemmas.{units-chars}
use Rattle.line_index.proofs.laws.units_are_of_characters.Goals as goal

pub returns : goal.returns
returns c = λ e cs. units-chars e cs

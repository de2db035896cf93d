use Rattle.rowan_green.proofs.Joining.{fits_middle, none_unless}
use Rattle.rowan_green.proofs.node.GreenNode.splice_many.Goals as goal

pub returns-then-is_none-clause-refused : goal.returns-then-is_none-clause-refused
returns-then-is_none-clause-refused c = λ f. none_unless _ _ _ c.fitting_len.ensures c.if-is_none.ensures (fits_middle _ _ _ f)

use Rattle.parser_input.proofs.SliceLaws.{leaves-slices, pieces-slices}
use Rattle.parser_input.proofs.laws.spans_are_slices.Goals as goal

pub returns-clause-leaves : goal.returns-clause-leaves
returns-clause-leaves c = leaves-slices

pub returns-clause-pieces : goal.returns-clause-pieces
returns-clause-pieces c = pieces-slices

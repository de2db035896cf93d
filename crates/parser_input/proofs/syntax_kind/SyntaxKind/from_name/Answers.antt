use Rattle.std.proofs.Common.{refl}
use Rattle.parser_input.proofs.KindTable.{found-kind}
use Rattle.parser_input.specs.KindTable.{all_kinds}
use Rattle.parser_input.proofs.syntax_kind.SyntaxKind.from_name.Goals as goal

-- The list that was looked through is read off the call, and then compared as a whole: the search itself is not computed.
pub returns-clause-inverse : goal.returns-clause-inverse
unfolding all_kinds
returns-clause-inverse c kind named = found-kind kind c.args.name.now c.kind_named.result _ c.kind_named.ensures.first refl named

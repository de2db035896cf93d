-- Each arm sees what the look asks.
use Rattle.std.proofs.Common.{inl, inr, refl}
use Rattle.rust_grammar.specs.Rule as rules
use Rattle.rust_grammar.specs.Calls.{AnyType, Attribute, Visibility}
use Rattle.rust_grammar.specs.Expressions.{expressions}
use Rattle.rust_grammar.specs.Items.{items}
use Rattle.rust_grammar.specs.Meaning.{begins_below, look_of}
use Rattle.rust_grammar.specs.Notation.{◌▸◌, ⁅◌⁆, ◌*, ◌!, any_of, is_longer, no_longer, longest, one_of, row}
use Rattle.rust_grammar.specs.Paths.{paths}
use Rattle.rust_grammar.specs.Patterns.{patterns}
use Rattle.rust_grammar.specs.Rule.{begins, in_mode, from_start, is_silent, passes, shift, there_at}
use Rattle.rust_grammar.specs.Statements.{statements}
use Rattle.rust_grammar.specs.Types.{types}
use Rattle.rust_grammar.specs.Whole.{rule, whole}
use Rattle.rust_productions.proofs.Facts.{begun, nothing, ◌and◌}
use Rattle.rust_productions.proofs.Looking.{saw-arm, saw-not}
use Rattle.rust_productions.proofs.Seen.{saw-before, starts-here}
use Rattle.rust_productions.proofs.Peeking.{peeks-then}
use Rattle.grammar_reader.proofs.grammar.items.members.at_tuple_field.Goals as goal

pub returns-in-POUND-clause-sees : goal.returns-in-POUND-clause-sees
unfolding look_of begins_below whole rule items statements expressions patterns types paths there_at shift passes is_silent begins in_mode from_start row one_of any_of no_longer longest is_longer
returns-in-POUND-clause-sees c cond = elim c.in-POUND.is [ inl a ↦ starts-here (Attribute * ▸ ⁅ Visibility ⁆ ▸ AnyType !) (saw-arm a (c.current.ensures.sees cond) and nothing) refl | inr b ↦ starts-here (Attribute * ▸ ⁅ Visibility ⁆ ▸ AnyType !) (saw-arm b (c.current.ensures.sees cond) and nothing) refl ]

pub returns-in_default-clause-sees : goal.returns-in_default-clause-sees
unfolding look_of begins_below whole rule items statements expressions patterns types paths there_at shift passes is_silent begins in_mode from_start row one_of any_of no_longer longest is_longer
returns-in_default-clause-sees c cond = starts-here (Attribute * ▸ ⁅ Visibility ⁆ ▸ AnyType !) (saw-not c.in_default.not-POUND (c.current.ensures.sees cond) and saw-not c.in_default.not-PUB_KW (c.current.ensures.sees cond) and begun rules.any_type (saw-before c.current.ensures.peeks.same (c.at_type.ensures.sees cond)) nothing) refl

pub returns-in_default-clause-peeks : goal.returns-in_default-clause-peeks
returns-in_default-clause-peeks c = peeks-then c.current.ensures.peeks c.at_type.ensures.peeks

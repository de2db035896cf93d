-- Each arm sees what the look asks.
use Rattle.std.proofs.Common.{inl, inr, refl}
use Rattle.rust_grammar.specs.Calls.{Attribute, Name, Visibility}
use Rattle.rust_grammar.specs.Expressions.{expressions}
use Rattle.rust_grammar.specs.Items.{items}
use Rattle.rust_grammar.specs.Meaning.{begins_below, look_of}
use Rattle.rust_grammar.specs.Notation.{◌▸◌, ⁅◌⁆, ◌*, ◌!, any_of, is_longer, no_longer, longest, one_of, row}
use Rattle.rust_grammar.specs.Paths.{paths}
use Rattle.rust_grammar.specs.Patterns.{patterns}
use Rattle.rust_grammar.specs.Rule.{begins, in_mode, from_start, is_silent, passes, shift, there_at}
use Rattle.rust_grammar.specs.Statements.{statements}
use Rattle.rust_grammar.specs.Types.{types}
use Rattle.rust_grammar.specs.Whole.{rule, whole}
use Rattle.rust_productions.proofs.Facts.{nothing, ◌and◌}
use Rattle.rust_productions.proofs.Looking.{saw-arm, saw-not}
use Rattle.rust_productions.proofs.Seen.{starts-here}
use Rattle.rust_productions.proofs.grammar.items.at_named_member.Goals as goal

pub returns-in-POUND-clause-sees : goal.returns-in-POUND-clause-sees
unfolding look_of begins_below whole rule items statements expressions patterns types paths there_at shift passes is_silent begins in_mode from_start row one_of any_of no_longer longest is_longer
returns-in-POUND-clause-sees c cond = elim c.in-POUND.is [ inl a ↦ starts-here (Attribute * ▸ ⁅ Visibility ⁆ ▸ Name !) (saw-arm a (c.current.ensures.sees cond) and nothing) refl | inr b ↦ elim b [ inl d ↦ starts-here (Attribute * ▸ ⁅ Visibility ⁆ ▸ Name !) (saw-arm d (c.current.ensures.sees cond) and nothing) refl | inr e ↦ starts-here (Attribute * ▸ ⁅ Visibility ⁆ ▸ Name !) (saw-arm e (c.current.ensures.sees cond) and nothing) refl ] ]

pub returns-in_default-clause-sees : goal.returns-in_default-clause-sees
unfolding look_of begins_below whole rule items statements expressions patterns types paths there_at shift passes is_silent begins in_mode from_start row one_of any_of no_longer longest is_longer
returns-in_default-clause-sees c cond = starts-here (Attribute * ▸ ⁅ Visibility ⁆ ▸ Name !) (saw-not c.in_default.not-POUND (c.current.ensures.sees cond) and saw-not c.in_default.not-PUB_KW (c.current.ensures.sees cond) and saw-not c.in_default.not-IDENT (c.current.ensures.sees cond) and nothing) refl

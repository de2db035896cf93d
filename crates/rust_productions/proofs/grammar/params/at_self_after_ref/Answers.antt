-- Each arm sees what the look asks.
use Rattle.std.proofs.Common.{Bool, false, true, inl, inr, refl}
use Rattle.parser_input.specs.Kinds as kinds
use Rattle.parser_events.specs.View.{View}
use Rattle.rust_grammar.specs.Notation.{any_of, row}
use Rattle.rust_grammar.specs.Rule.{Kind, there_at}
use Rattle.rust_grammar.specs.Items.{self_begins}
use Rattle.rust_productions.specs.Reads.{Saw}
use Rattle.rust_productions.specs.declared.condition.Condition.{Condition}
use Rattle.rust_productions.proofs.Facts.{nothing, ◌and◌}
use Rattle.rust_productions.proofs.Looking.{saw-arm, saw-not}
use Rattle.rust_productions.proofs.Seen.{saw-before, saw-told}
use Rattle.rust_productions.proofs.Peeking.{peeks-then}
use Rattle.rust_productions.proofs.grammar.params.at_self_after_ref.Goals as goal

-- after `&mut`, the third token tells
by-third : {c : Condition} {v : View} (b : Bool) → Saw c (Kind 0 kinds.AMP) v true → Saw c (Kind 1 kinds.MUT_KW) v true → Saw c (Kind 2 kinds.SELF_KW) v b → Saw c self_begins v b
unfolding any_of row there_at
by-third true f g h = saw-told (f and g and h and nothing) refl
by-third false f g h = saw-told (f and g and h and nothing) refl

pub returns-in-SELF_KW-clause-sees : goal.returns-in-SELF_KW-clause-sees
unfolding any_of row there_at
returns-in-SELF_KW-clause-sees c cond = elim c.in-SELF_KW.is [ inl a ↦ saw-told (c.requires cond and saw-arm a (c.nth.ensures.sees cond) and nothing) refl | inr b ↦ saw-told (c.requires cond and saw-arm b (c.nth.ensures.sees cond) and nothing) refl ]

pub returns-in-MUT_KW-clause-sees : goal.returns-in-MUT_KW-clause-sees
returns-in-MUT_KW-clause-sees c cond = by-third c.at_third.result (c.requires cond) (saw-arm c.in-MUT_KW.is (c.nth.ensures.sees cond)) (saw-before c.nth.ensures.peeks.same (c.at_third.ensures.sees cond))

pub returns-in-MUT_KW-clause-peeks : goal.returns-in-MUT_KW-clause-peeks
returns-in-MUT_KW-clause-peeks c = peeks-then c.nth.ensures.peeks c.at_third.ensures.peeks

pub returns-in_default-clause-sees : goal.returns-in_default-clause-sees
unfolding any_of row there_at
returns-in_default-clause-sees c cond = saw-told (c.requires cond and saw-not c.in_default.not-SELF_KW (c.nth.ensures.sees cond) and saw-not c.in_default.not-LIFETIME_IDENT (c.nth.ensures.sees cond) and saw-not c.in_default.not-MUT_KW (c.nth.ensures.sees cond) and nothing) refl

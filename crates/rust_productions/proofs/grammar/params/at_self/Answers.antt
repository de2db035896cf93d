-- Each arm sees what the look asks.
use Rattle.std.proofs.Common.{Bool, false, true, refl, arith}
use Rattle.parser_input.specs.Kinds as kinds
use Rattle.parser_events.specs.View.{View}
use Rattle.rust_grammar.specs.Notation.{any_of, row}
use Rattle.rust_grammar.specs.Rule.{Kind, there_at}
use Rattle.rust_grammar.specs.Items.{self_begins}
use Rattle.rust_productions.specs.Reads.{Saw}
use Rattle.rust_productions.specs.declared.condition.Condition.{Condition}
use Rattle.rust_productions.proofs.Facts.{nothing, ◌and◌}
use Rattle.rust_productions.proofs.Looking.{saw-arm, saw-not}
use Rattle.rust_productions.proofs.Seen.{saw-after, saw-before, saw-told}
use Rattle.rust_productions.proofs.Peeking.{peeks-then, peeks-within}
use Rattle.rust_productions.proofs.grammar.params.at_self.Goals as goal

-- after `mut`, the second token tells
by-second : {c : Condition} {v : View} (b : Bool) → Saw c (Kind 0 kinds.MUT_KW) v true → Saw c (Kind 1 kinds.SELF_KW) v b → Saw c self_begins v b
unfolding any_of row there_at
by-second true f g = saw-told (f and g and nothing) refl
by-second false f g = saw-told (f and g and nothing) refl

pub returns-in-SELF_KW-clause-sees : goal.returns-in-SELF_KW-clause-sees
unfolding any_of row there_at
returns-in-SELF_KW-clause-sees c cond = saw-told (saw-arm c.in-SELF_KW.is (c.current.ensures.sees cond) and nothing) refl

pub returns-in-MUT_KW-clause-sees : goal.returns-in-MUT_KW-clause-sees
returns-in-MUT_KW-clause-sees c cond = by-second c.at_second.result (saw-arm c.in-MUT_KW.is (c.current.ensures.sees cond)) (saw-before c.current.ensures.peeks.same (c.at_second.ensures.sees cond))

pub returns-in-MUT_KW-clause-peeks : goal.returns-in-MUT_KW-clause-peeks
returns-in-MUT_KW-clause-peeks c = peeks-within (peeks-then c.current.ensures.peeks c.at_second.ensures.peeks) (omega arith)

pub at_self_after_ref-requires : goal.at_self_after_ref-requires
at_self_after_ref-requires c = λ cond. saw-after c.current.ensures.peeks.same (saw-arm c.in-AMP.is (c.current.ensures.sees cond))

pub returns-in-AMP-clause-sees : goal.returns-in-AMP-clause-sees
returns-in-AMP-clause-sees c cond = saw-before c.current.ensures.peeks.same (c.at_self_after_ref.ensures.sees cond)

pub returns-in-AMP-clause-peeks : goal.returns-in-AMP-clause-peeks
returns-in-AMP-clause-peeks c = peeks-then c.current.ensures.peeks c.at_self_after_ref.ensures.peeks

pub returns-in_default-clause-sees : goal.returns-in_default-clause-sees
unfolding any_of row there_at
returns-in_default-clause-sees c cond = saw-told (saw-not c.in_default.not-SELF_KW (c.current.ensures.sees cond) and saw-not c.in_default.not-MUT_KW (c.current.ensures.sees cond) and saw-not c.in_default.not-AMP (c.current.ensures.sees cond) and nothing) refl

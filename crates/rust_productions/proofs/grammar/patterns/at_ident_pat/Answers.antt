-- Each path sees what the look asks.
use Rattle.std.proofs.Common.{inl, inr, refl, arith}
use Rattle.rust_grammar.specs.Notation.{one_of, row}
use Rattle.rust_grammar.specs.Rule.{there_at}
use Rattle.rust_productions.proofs.Facts.{nothing, saw-so, ◌and◌}
use Rattle.rust_productions.proofs.Looking.{saw-arm, saw-not}
use Rattle.rust_productions.proofs.Seen.{saw-before, saw-told}
use Rattle.rust_productions.proofs.Peeking.{peeks-then, peeks-within}
use Rattle.rust_productions.proofs.grammar.patterns.at_ident_pat.Goals as goal

pub returns-then-not-at-clause-sees : goal.returns-then-not-at-clause-sees
unfolding row one_of there_at
returns-then-not-at-clause-sees c cond = saw-told (saw-so (c.at.ensures.sees cond) c.if-not-at.true and nothing) refl

pub returns-then-at_pair_after-clause-sees : goal.returns-then-at_pair_after-clause-sees
unfolding row one_of there_at
returns-then-at_pair_after-clause-sees c cond = saw-told (saw-so (c.at.ensures.sees cond) c.if-not-at.false and saw-before c.at.ensures.peeks.same (saw-so (c.at_pair_after.ensures.sees cond) c.if-at_pair_after.true) and nothing) refl

pub returns-in-L_PAREN-clause-sees : goal.returns-in-L_PAREN-clause-sees
unfolding row one_of there_at
returns-in-L_PAREN-clause-sees c cond = elim c.in-L_PAREN.is [ inl a ↦ saw-told (saw-so (c.at.ensures.sees cond) c.if-not-at.false and saw-before c.at.ensures.peeks.same (saw-so (c.at_pair_after.ensures.sees cond) c.if-at_pair_after.false) and saw-before c.at.ensures.peeks.same (saw-before c.at_pair_after.ensures.peeks.same (saw-arm a (c.nth.ensures.sees cond))) and nothing) refl | inr b ↦ elim b [ inl d ↦ saw-told (saw-so (c.at.ensures.sees cond) c.if-not-at.false and saw-before c.at.ensures.peeks.same (saw-so (c.at_pair_after.ensures.sees cond) c.if-at_pair_after.false) and saw-before c.at.ensures.peeks.same (saw-before c.at_pair_after.ensures.peeks.same (saw-arm d (c.nth.ensures.sees cond))) and nothing) refl | inr e ↦ saw-told (saw-so (c.at.ensures.sees cond) c.if-not-at.false and saw-before c.at.ensures.peeks.same (saw-so (c.at_pair_after.ensures.sees cond) c.if-at_pair_after.false) and saw-before c.at.ensures.peeks.same (saw-before c.at_pair_after.ensures.peeks.same (saw-arm e (c.nth.ensures.sees cond))) and nothing) refl ] ]

pub returns-in_default-clause-sees : goal.returns-in_default-clause-sees
unfolding row one_of there_at
returns-in_default-clause-sees c cond = saw-told (saw-so (c.at.ensures.sees cond) c.if-not-at.false and saw-before c.at.ensures.peeks.same (saw-so (c.at_pair_after.ensures.sees cond) c.if-at_pair_after.false) and saw-before c.at.ensures.peeks.same (saw-before c.at_pair_after.ensures.peeks.same (saw-not c.in_default.not-L_PAREN (c.nth.ensures.sees cond))) and saw-before c.at.ensures.peeks.same (saw-before c.at_pair_after.ensures.peeks.same (saw-not c.in_default.not-L_CURLY (c.nth.ensures.sees cond))) and saw-before c.at.ensures.peeks.same (saw-before c.at_pair_after.ensures.peeks.same (saw-not c.in_default.not-BANG (c.nth.ensures.sees cond))) and nothing) refl

pub returns-then-at_pair_after-clause-peeks : goal.returns-then-at_pair_after-clause-peeks
returns-then-at_pair_after-clause-peeks c = peeks-within (peeks-then c.at.ensures.peeks c.at_pair_after.ensures.peeks) (omega arith)

pub returns-in-L_PAREN-clause-peeks : goal.returns-in-L_PAREN-clause-peeks
returns-in-L_PAREN-clause-peeks c = peeks-then c.at.ensures.peeks (peeks-then c.at_pair_after.ensures.peeks c.nth.ensures.peeks)

pub returns-in_default-clause-peeks : goal.returns-in_default-clause-peeks
returns-in_default-clause-peeks c = peeks-then c.at.ensures.peeks (peeks-then c.at_pair_after.ensures.peeks c.nth.ensures.peeks)

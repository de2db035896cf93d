-- At the end no token is left.
use Rattle.rust_grammar.specs.Notation.{row}
use Rattle.rust_grammar.specs.Rule.{there_at}
use Rattle.rust_productions.proofs.Facts.{saw-so}
use Rattle.rust_productions.proofs.Seen.{saw-before, saw-either-left, saw-either-right, saw-always}
use Rattle.rust_productions.proofs.Peeking.{peeks-then}
use Rattle.rust_productions.proofs.grammar.lists.at_list_end.Goals as goal

pub returns-then-at_end-clause-sees : goal.returns-then-at_end-clause-sees
unfolding row there_at
returns-then-at_end-clause-sees c cond = saw-either-left (saw-so (c.at_end.ensures.sees cond) c.if-at_end.true)

pub returns-clause-sees : goal.returns-clause-sees
unfolding row there_at
returns-clause-sees c cond = saw-either-right (saw-so (c.at_end.ensures.sees cond) c.if-at_end.false) (saw-before c.at_end.ensures.peeks.same (saw-always (c.at.ensures.sees cond)))

pub returns-clause-peeks : goal.returns-clause-peeks
returns-clause-peeks c = peeks-then c.at_end.ensures.peeks c.at.ensures.peeks

-- Each path sees what the look asks.
use Rattle.rust_productions.proofs.Facts.{saw-so}
use Rattle.rust_productions.proofs.Seen.{saw-before, saw-either-right}
use Rattle.grammar_reader.proofs.PathArgs.{after-colons}
use Rattle.rust_productions.proofs.Peeking.{peeks-then}
use Rattle.grammar_reader.proofs.grammar.paths.at_args.Goals as goal

pub returns-then-at_colons_before_args-clause-sees : goal.returns-then-at_colons_before_args-clause-sees
returns-then-at_colons_before_args-clause-sees c cond = after-colons c.args.mode (saw-so (c.at_colons_before_args.ensures.sees cond) c.if-at_colons_before_args.true)

pub returns-in-Type-clause-sees : goal.returns-in-Type-clause-sees
returns-in-Type-clause-sees c cond =
    rw c.in-Type.is (saw-either-right (saw-so (c.at_colons_before_args.ensures.sees cond) c.if-at_colons_before_args.false) (saw-before c.at_colons_before_args.ensures.peeks.same (c.at_angle.ensures.sees cond)))

pub returns-in-Type-clause-peeks : goal.returns-in-Type-clause-peeks
returns-in-Type-clause-peeks c = peeks-then c.at_colons_before_args.ensures.peeks c.at_angle.ensures.peeks

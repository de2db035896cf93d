-- Each path sees what the look asks.
use Rattle.std.proofs.Common.{arith}
use Rattle.rust_grammar.specs.Notation.{row}
use Rattle.rust_grammar.specs.Rule.{there_at}
use Rattle.rust_productions.proofs.ByHand.{does-nothing}
use Rattle.rust_productions.proofs.Words.{saw-both}
use Rattle.rust_productions.proofs.Seen.{saw-always, saw-no-left, saw-off, saw-on}
use Rattle.rust_productions.proofs.grammar.expressions.at_body.Goals as goal

pub returns-in-On-clause-sees : goal.returns-in-On-clause-sees
unfolding row there_at
returns-in-On-clause-sees c = saw-both (saw-on c.in-On.is) (saw-always (c.at.ensures.sees c.args.condition))

pub returns-in-Off-clause-sees : goal.returns-in-Off-clause-sees
returns-in-Off-clause-sees c = saw-no-left (saw-off c.in-Off.is)

pub returns-in-Off-clause-peeks : goal.returns-in-Off-clause-peeks
returns-in-Off-clause-peeks c = record {
  same = does-nothing _;
  left = omega arith;
  looks = omega arith;
}

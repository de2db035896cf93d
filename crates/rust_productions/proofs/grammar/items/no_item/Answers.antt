-- Each path reads what the rule comes to there.
use Rattle.std.proofs.Common.{arith, sym, ◌∙◌, true≢false}
use Rattle.rust_productions.specs.Reads.{On}
use Rattle.rust_productions.proofs.ByHand.{completes-leave, completes-wrap}
use Rattle.rust_productions.proofs.Given.{where-given, where-nothing, where-so}
use Rattle.rust_productions.proofs.grammar.items.no_item.Goals as goal

pub complete-requires : goal.complete-requires
complete-requires c = (c.error.ensures.reads On).does.innermost _ c.requires.innermost

pub returns-then-given-clause-completes : goal.returns-then-given-clause-completes
returns-then-given-clause-completes c = λ cond. where-so c.if-given.true (where-given (completes-wrap (c.error.ensures.reads cond) c.complete.ensures.closes))

pub returns-then-given-clause-takes : goal.returns-then-given-clause-takes
returns-then-given-clause-takes c = record {
  takes = λ e. absurd (true≢false (sym c.if-given.true ∙ e));
  left = omega arith;
  looks = omega arith;
}

pub skip-requires : goal.skip-requires
skip-requires c = c.requires.some c.if-given.false

pub abandon-requires : goal.abandon-requires
abandon-requires c = (c.skip.ensures.reads On).does.innermost _ c.requires.innermost

pub returns-clause-completes : goal.returns-clause-completes
returns-clause-completes c = λ cond. where-so c.if-given.false (where-nothing (completes-leave (c.skip.ensures.reads cond) c.abandon.ensures.leaves))

pub returns-clause-takes : goal.returns-clause-takes
returns-clause-takes c = record {
  takes = λ _. record { left = omega arith; looks = omega arith };
  left = omega arith;
  looks = omega arith;
}

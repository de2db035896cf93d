-- Each path reads what the rule comes to there.
use Rattle.std.proofs.Common.{refl, arith}
use Rattle.rust_grammar.specs.Expressions.{expressions}
use Rattle.rust_grammar.specs.Items.{items}
use Rattle.rust_grammar.specs.Meaning.{begins_below, look_of}
use Rattle.rust_grammar.specs.Notation.{any_of, is_longer, no_longer, longest, one_of, row}
use Rattle.rust_grammar.specs.Paths.{paths}
use Rattle.rust_grammar.specs.Patterns.{patterns}
use Rattle.rust_grammar.specs.Rule.{begins, in_mode, from_start, is_silent, passes, shift, there_at}
use Rattle.rust_grammar.specs.Statements.{statements}
use Rattle.rust_grammar.specs.Types.{types}
use Rattle.rust_grammar.specs.Whole.{rule, whole}
use Rattle.rust_grammar.specs.Rule as rules
use Rattle.rust_productions.proofs.Begins.{saw-expr-path, saw-type-path}
use Rattle.rust_productions.proofs.ByHand.{after-look, reads-call}
use Rattle.rust_productions.proofs.Choices.{reads-here}
use Rattle.rust_productions.proofs.Facts.{begun, nothing, saw-so}
use Rattle.rust_productions.proofs.Seen.{begins-here, saw-after}
use Rattle.rust_productions.proofs.grammar.paths.expect_path.Goals as goal

pub path-requires : goal.path-requires
unfolding look_of begins_below whole rule items statements expressions patterns types paths there_at shift passes is_silent begins in_mode from_start row one_of any_of no_longer longest is_longer
path-requires c = record {
  begins = record {
    sees = λ cond. saw-after c.at_path.ensures.peeks.same (begins-here rules.path refl (begun rules.type_path (saw-type-path (saw-so (c.at_path.ensures.sees cond) c.if-at_path.true)) (begun rules.expr_path (saw-expr-path (saw-so (c.at_path.ensures.sees cond) c.if-at_path.true)) (begun rules.path (saw-so (c.at_path.ensures.sees cond) c.if-at_path.true) (nothing)))) refl);
    some = omega (arith, c.at_path.ensures.some c.if-at_path.true, c.at_path.ensures.peeks.left);
  };
}

pub returns-then-at_path-clause-reads : goal.returns-then-at_path-clause-reads
unfolding look_of begins_below whole rule items statements expressions patterns types paths there_at shift passes is_silent begins in_mode from_start row one_of any_of no_longer longest is_longer
returns-then-at_path-clause-reads c cond = reads-here (begun rules.type_path (saw-type-path (saw-so (c.at_path.ensures.sees cond) c.if-at_path.true)) (begun rules.expr_path (saw-expr-path (saw-so (c.at_path.ensures.sees cond) c.if-at_path.true)) (begun rules.path (saw-so (c.at_path.ensures.sees cond) c.if-at_path.true) (nothing)))) (after-look cond c.at_path.ensures.peeks.same (reads-call cond (c.path.ensures.gives cond)))

pub returns-clause-reads : goal.returns-clause-reads
unfolding look_of begins_below whole rule items statements expressions patterns types paths there_at shift passes is_silent begins in_mode from_start row one_of any_of no_longer longest is_longer
returns-clause-reads c cond = reads-here (begun rules.type_path (saw-type-path (saw-so (c.at_path.ensures.sees cond) c.if-at_path.false)) (begun rules.expr_path (saw-expr-path (saw-so (c.at_path.ensures.sees cond) c.if-at_path.false)) (begun rules.path (saw-so (c.at_path.ensures.sees cond) c.if-at_path.false) (nothing)))) (after-look cond c.at_path.ensures.peeks.same ((c.error.ensures.reads cond)))

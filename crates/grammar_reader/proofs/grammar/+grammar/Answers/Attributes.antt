-- Attributes.
use Rattle.std.proofs.Common.{refl, arith}
use Rattle.rust_grammar.specs.Rule as rules
use Rattle.rust_grammar.specs.Expressions.{expressions}
use Rattle.rust_grammar.specs.Items.{items}
use Rattle.rust_grammar.specs.Meaning.{begins_below, look_of}
use Rattle.rust_grammar.specs.Notation.{any_of, is_longer, no_longer, longest, one_of, row, next, wide}
use Rattle.rust_grammar.specs.Paths.{paths}
use Rattle.rust_grammar.specs.Patterns.{patterns}
use Rattle.rust_grammar.specs.Rule.{begins, in_mode, from_start, is_silent, passes, shift, there_at, When}
use Rattle.rust_grammar.specs.Statements.{statements}
use Rattle.rust_grammar.specs.Types.{types}
use Rattle.rust_grammar.specs.Whole.{rule, whole}
use Rattle.rust_productions.proofs.ByHand.{after-look, does-then, reads-call, reads-mode, reads-node, reads-nothing, reads-then}
use Rattle.rust_productions.proofs.Choices.{from_start-after, gives-from_start, reads-here}
use Rattle.rust_productions.proofs.Facts.{begun, nothing, saw-so, ◌and◌}
use Rattle.rust_productions.proofs.Seen.{saw-after, saw-before, saw-inside, ends-at-end, saw-else, saw-told}
use Rattle.rust_grammar.specs.Words.{'#'}
use Rattle.rust_grammar.specs.Calls.{Attribute}
use Rattle.rust_productions.proofs.Turns.{last-turn, next-turn}
use Rattle.rust_productions.specs.Reads.{looks}
use Rattle.rust_productions.specs.Looks.{tokens}
use Rattle.rust_productions.specs.declared.condition.Condition.TheVariants.{On, Off}
use Rattle.grammar_reader.proofs.grammar.+grammar.Goals as goal

pub attributes::attribute-complete-requires : goal.attributes::attribute-complete-requires
attributes::attribute-complete-requires t c = (c.expect-2.ensures.reads On).does.innermost _ (c.expect_meta.ensures.reads.does.innermost _ ((c.expect.ensures.reads On).does.innermost _ ((c.eat.ensures.reads On).does.innermost _ ((c.take.ensures.reads On).does.innermost _ c.start-attribute.ensures.marker))))

pub attributes::attribute-returns-clause-gives : goal.attributes::attribute-returns-clause-gives
unfolding look_of begins_below whole rule items statements expressions patterns types paths there_at shift passes is_silent begins in_mode from_start row one_of any_of no_longer longest is_longer
attributes::attribute-returns-clause-gives t c = λ cond. gives-from_start (from_start-after refl (reads-node cond c.start-attribute.ensures.opens
    (reads-then cond (c.take.ensures.reads cond) (reads-then cond (c.eat.ensures.reads cond) (reads-then cond (c.expect.ensures.reads cond) (reads-then cond (reads-mode cond c.expect_meta.ensures.reads) (c.expect-2.ensures.reads cond))))) c.complete.ensures.closes))

pub attributes::opt_value-returns-then-at-clause-reads : goal.attributes::opt_value-returns-then-at-clause-reads
unfolding look_of begins_below whole rule items statements expressions patterns types paths there_at shift passes is_silent begins in_mode from_start row one_of any_of no_longer longest is_longer
attributes::opt_value-returns-then-at-clause-reads t c = reads-here (saw-so (c.at.ensures.sees c.args.condition) c.if-at.true and nothing) (after-look _ c.at.ensures.peeks.same (reads-then _ (c.take.ensures.reads c.args.condition) c.expect_expression.ensures.reads))

pub attributes::opt_value-returns-then-at_token_tree-clause-reads : goal.attributes::opt_value-returns-then-at_token_tree-clause-reads
unfolding look_of begins_below whole rule items statements expressions patterns types paths there_at shift passes is_silent begins in_mode from_start row one_of any_of no_longer longest is_longer
attributes::opt_value-returns-then-at_token_tree-clause-reads t c = reads-here (saw-so (c.at.ensures.sees c.args.condition) c.if-at.false and begun rules.token_tree (saw-before c.at.ensures.peeks.same (saw-so (c.at_token_tree.ensures.sees c.args.condition) c.if-at_token_tree.true)) nothing) (after-look _ c.at.ensures.peeks.same (after-look _ c.at_token_tree.ensures.peeks.same (reads-call _ (c.token_tree.ensures.gives c.args.condition))))

pub attributes::opt_value-returns-else-at_token_tree-clause-reads : goal.attributes::opt_value-returns-else-at_token_tree-clause-reads
unfolding look_of begins_below whole rule items statements expressions patterns types paths there_at shift passes is_silent begins in_mode from_start row one_of any_of no_longer longest is_longer
attributes::opt_value-returns-else-at_token_tree-clause-reads t c = reads-here (saw-so (c.at.ensures.sees c.args.condition) c.if-at.false and begun rules.token_tree (saw-before c.at.ensures.peeks.same (saw-so (c.at_token_tree.ensures.sees c.args.condition) c.if-at_token_tree.false)) nothing) (reads-nothing _ (does-then c.at.ensures.peeks.same c.at_token_tree.ensures.peeks.same))

pub attributes::outer_attributes-turns-preserved : goal.attributes::outer_attributes-turns-preserved
unfolding tokens look_of begins_below whole rule items statements expressions patterns types paths there_at shift passes is_silent begins in_mode from_start row one_of any_of no_longer longest is_longer
attributes::outer_attributes-turns-preserved t c = record {
  innermost = λ n i. (c.attribute.ensures.gives On).does.innermost n (c.at_new.ensures.peeks.same.innermost n (c.turns.invariant.innermost n i));
  goes = λ cond.
      next-turn cond (When (wide (next '#')) Attribute) (ends-at-end cond (When (wide (next '#')) Attribute) refl) _ _ _ (c.turns.invariant.goes cond) (saw-told (saw-so (c.at_new.ensures.sees cond) c.turns-test.true and nothing) refl)
      (reads-here (saw-so (c.at_new.ensures.sees cond) c.turns-test.true and nothing) (after-look cond c.at_new.ensures.peeks.same (reads-call cond (c.attribute.ensures.gives cond)))) (omega (arith, c.attribute.ensures.takes.left, c.at_new.ensures.peeks.left));
  left = omega (arith, c.turns.invariant.left, c.attribute.ensures.takes.left, c.at_new.ensures.peeks.left);
  looks = omega (arith, c.turns.invariant.looks, c.attribute.ensures.takes.looks, c.at_new.ensures.peeks.looks);
}

pub attributes::outer_attributes-returns-clause-reads : goal.attributes::outer_attributes-returns-clause-reads
unfolding look_of begins_below whole rule items statements expressions patterns types paths there_at shift passes is_silent begins in_mode from_start row one_of any_of no_longer longest is_longer
attributes::outer_attributes-returns-clause-reads t c = λ cond. last-turn cond (When (wide (next '#')) Attribute) (ends-at-end cond (When (wide (next '#')) Attribute) refl) _ _ _ (c.turns.invariant.goes cond) (saw-told (saw-so (c.at_new.ensures.sees cond) c.turns-test.false and nothing) refl) c.at_new.ensures.peeks.same

pub attributes::expect_meta-meta-requires : goal.attributes::expect_meta-meta-requires
attributes::expect_meta-meta-requires t c = (omega arith, ((λ d. saw-after c.at_meta.ensures.peeks.same (saw-so (c.at_meta.ensures.sees d) c.if-at_meta.true)), omega (arith, c.at_meta.ensures.some c.if-at_meta.true, c.at_meta.ensures.peeks.left)))

pub attributes::expect_meta-returns-then-at_meta-clause-reads : goal.attributes::expect_meta-returns-then-at_meta-clause-reads
unfolding look_of begins_below whole rule items statements expressions patterns types paths there_at shift passes is_silent begins in_mode from_start row one_of any_of no_longer longest is_longer
attributes::expect_meta-returns-then-at_meta-clause-reads t c = reads-here (begun rules.meta (saw-so (c.at_meta.ensures.sees Off) c.if-at_meta.true) nothing) (after-look Off c.at_meta.ensures.peeks.same (reads-call Off c.meta.ensures.gives))

pub attributes::expect_meta-returns-clause-reads : goal.attributes::expect_meta-returns-clause-reads
unfolding look_of begins_below whole rule items statements expressions patterns types paths there_at shift passes is_silent begins in_mode from_start row one_of any_of no_longer longest is_longer
attributes::expect_meta-returns-clause-reads t c = reads-here (begun rules.meta (saw-so (c.at_meta.ensures.sees Off) c.if-at_meta.false) nothing) (after-look Off c.at_meta.ensures.peeks.same (c.error.ensures.reads Off))

pub attributes::meta-returns-then-at_new-clause-gives : goal.attributes::meta-returns-then-at_new-clause-gives
unfolding look_of begins_below whole rule items statements expressions patterns types paths there_at shift passes is_silent begins in_mode from_start row one_of any_of no_longer longest is_longer
attributes::meta-returns-then-at_new-clause-gives t c = gives-from_start (from_start-after refl (reads-here (saw-so (c.at_new.ensures.sees c.args.condition) c.if-at_new.true and nothing) (after-look _ c.at_new.ensures.peeks.same c.unsafe_meta.ensures.reads)))

pub attributes::meta-path_meta-requires : goal.attributes::meta-path_meta-requires
unfolding look_of begins_below whole rule items statements expressions patterns types paths there_at shift passes is_silent begins in_mode from_start row one_of any_of no_longer longest is_longer
attributes::meta-path_meta-requires t c = (omega arith, ((λ d. saw-after c.at_new.ensures.peeks.same (saw-else (looks rules.path) (looks rules.meta) (saw-so (c.at_new.ensures.sees d) c.if-at_new.false and nothing) (c.requires.begins d) refl)), omega (arith, c.requires.some, c.at_new.ensures.peeks.left)))

pub attributes::meta-returns-clause-gives : goal.attributes::meta-returns-clause-gives
unfolding look_of begins_below whole rule items statements expressions patterns types paths there_at shift passes is_silent begins in_mode from_start row one_of any_of no_longer longest is_longer
attributes::meta-returns-clause-gives t c = gives-from_start (from_start-after refl (reads-here (saw-so (c.at_new.ensures.sees c.args.condition) c.if-at_new.false and nothing) (after-look _ c.at_new.ensures.peeks.same c.path_meta.ensures.reads)))

pub attributes::path_meta-returns-clause-reads : goal.attributes::path_meta-returns-clause-reads
attributes::path_meta-returns-clause-reads t c = reads-node c.args.condition c.start-meta.ensures.opens (reads-then c.args.condition (reads-call c.args.condition (c.path.ensures.gives c.args.condition)) c.opt_value.ensures.reads) c.complete.ensures.closes

pub attributes::path_meta-complete-requires : goal.attributes::path_meta-complete-requires
attributes::path_meta-complete-requires t c = c.opt_value.ensures.reads.does.innermost _ ((c.path.ensures.gives On).does.innermost _ (c.start-meta.ensures.marker))

pub attributes::path_meta-path-requires : goal.attributes::path_meta-path-requires
attributes::path_meta-path-requires t c = record { begins = record { sees = λ cond. saw-inside c.start-meta.ensures.opens (c.requires.begins cond); some = omega (arith, c.requires.some, c.start-meta.ensures.stays.left) } }

pub attributes::unsafe_meta-returns-clause-reads : goal.attributes::unsafe_meta-returns-clause-reads
attributes::unsafe_meta-returns-clause-reads t c = reads-node c.args.condition c.start-meta.ensures.opens (reads-then c.args.condition (c.take.ensures.reads c.args.condition) (reads-then c.args.condition (c.expect.ensures.reads c.args.condition) (reads-then c.args.condition (c.expect_path.ensures.reads c.args.condition) (reads-then c.args.condition c.opt_value.ensures.reads (c.expect-2.ensures.reads c.args.condition))))) c.complete.ensures.closes

pub attributes::unsafe_meta-complete-requires : goal.attributes::unsafe_meta-complete-requires
attributes::unsafe_meta-complete-requires t c = (c.expect-2.ensures.reads On).does.innermost _ (c.opt_value.ensures.reads.does.innermost _ ((c.expect_path.ensures.reads On).does.innermost _ ((c.expect.ensures.reads On).does.innermost _ ((c.take.ensures.reads On).does.innermost _ (c.start-meta.ensures.marker)))))

pub attributes::outer_attributes-attribute-requires : goal.attributes::outer_attributes-attribute-requires
attributes::outer_attributes-attribute-requires t c = (omega (arith, c.turns.invariant.left, c.at_new.ensures.peeks.left), omega (arith, c.at_new.ensures.some c.turns-test.true, c.at_new.ensures.peeks.left))

-- Fields of expressions and of patterns.
use Rattle.std.proofs.Common.{true, refl, subst, arith}
use Rattle.parser_input.specs.declared.syntax_kind.SyntaxKind.TheVariants as variants
use Rattle.rust_grammar.specs.Rule as rules
use Rattle.rust_grammar.specs.Expressions.{expressions}
use Rattle.rust_grammar.specs.Items.{items}
use Rattle.rust_grammar.specs.Meaning.{begins_below, look_of}
use Rattle.rust_grammar.specs.Notation.{any_of, is_longer, no_longer, longest, one_of, row}
use Rattle.rust_grammar.specs.Paths.{paths}
use Rattle.rust_grammar.specs.Patterns.{patterns}
use Rattle.rust_grammar.specs.Rule.{begins, in_mode, from_start, is_silent, passes, shift, there_at}
use Rattle.rust_grammar.specs.Statements.{statements}
use Rattle.rust_grammar.specs.Types.{types}
use Rattle.rust_grammar.specs.Whole.{rule, whole}
use Rattle.rust_grammar.specs.Calls.{Name}
use Rattle.rust_grammar.specs.Notation.{◌▸◌, ⁅◌⁆, ◌! }
use Rattle.rust_grammar.specs.Rule.{Look, One}
use Rattle.rust_grammar.specs.Words.{'mut', 'ref'}
use Rattle.grammar_reader.specs.declared.grammar.paths.Mode.TheVariants as modes
use Rattle.grammar_reader.proofs.PathArgs.{any-mode, paths-begin}
use Rattle.rust_productions.specs.Reads.{looks, Saw}
use Rattle.rust_productions.specs.declared.condition.Condition.TheVariants.{On}
use Rattle.rust_productions.proofs.ByHand.{after-look, reads-call, reads-node, reads-nothing, reads-then, completes-look, completes-then, completes-wrap, completes-leave}
use Rattle.rust_productions.proofs.Choices.{from_start-after, gives-from_start, reads-here, from_start-completes, from_start-here, from_start-look, completes-here}
use Rattle.rust_productions.proofs.Facts.{begun, nothing, saw-so, ◌and◌}
use Rattle.rust_productions.proofs.Seen.{begins-else, saw-after, saw-before, saw-else, saw-inside, saw-left}
use Rattle.rust_productions.proofs.Operators.{no-end}
use Rattle.grammar_reader.proofs.grammar.+grammar.Goals as goal

pub fields::field_value-named_value-requires : goal.fields::field_value-named_value-requires
fields::field_value-named_value-requires t c = (omega arith, omega (arith, c.at_named_field.ensures.some c.if-at_named_field.true, c.at_named_field.ensures.peeks.left))

pub fields::field_value-other_fields-requires : goal.fields::field_value-other_fields-requires
fields::field_value-other_fields-requires t c = (omega arith, omega (arith, c.at_pair.ensures.some c.if-at_pair.true (λ e. absurd (omega (arith, e))), c.at_pair.ensures.peeks.left, c.at_named_field.ensures.peeks.left))

pub fields::named_value-complete-requires : goal.fields::named_value-complete-requires
fields::named_value-complete-requires t c = c.expect_expression.ensures.reads.does.innermost _ ((c.take.ensures.reads On).does.innermost _ ((c.name_of_field.ensures.reads On).does.innermost _ c.start-node.ensures.marker))

pub fields::named_value-returns-clause-reads : goal.fields::named_value-returns-clause-reads
fields::named_value-returns-clause-reads t c = reads-node _ c.start-node.ensures.opens (reads-then _ (c.name_of_field.ensures.reads c.args.condition) (reads-then _ (c.take.ensures.reads c.args.condition) c.expect_expression.ensures.reads)) c.complete.ensures.closes

pub fields::other_fields-returns-clause-reads : goal.fields::other_fields-returns-clause-reads
fields::other_fields-returns-clause-reads t c = (reads-then _ (c.take_pair.ensures.reads c.args.condition _ _) c.opt_expression.ensures.reads)

pub fields::opt_expression-expression-requires : goal.fields::opt_expression-expression-requires
fields::opt_expression-expression-requires t c = (omega arith, (saw-after c.at_expression.ensures.peeks.same (saw-so c.at_expression.ensures.sees c.if-at_expression.true), omega (arith, c.at_expression.ensures.some c.if-at_expression.true, c.at_expression.ensures.peeks.left)))

pub fields::opt_expression-returns-then-at_expression-clause-reads : goal.fields::opt_expression-returns-then-at_expression-clause-reads
unfolding look_of begins_below whole rule items statements expressions patterns types paths there_at shift passes is_silent begins in_mode from_start row one_of any_of no_longer longest is_longer
fields::opt_expression-returns-then-at_expression-clause-reads t c = reads-here (begun rules.expression (saw-so c.at_expression.ensures.sees c.if-at_expression.true) nothing) (after-look _ c.at_expression.ensures.peeks.same (reads-call _ c.expression.ensures.gives))

pub fields::opt_expression-returns-else-at_expression-clause-reads : goal.fields::opt_expression-returns-else-at_expression-clause-reads
unfolding look_of begins_below whole rule items statements expressions patterns types paths there_at shift passes is_silent begins in_mode from_start row one_of any_of no_longer longest is_longer
fields::opt_expression-returns-else-at_expression-clause-reads t c = reads-here (begun rules.expression (saw-so c.at_expression.ensures.sees c.if-at_expression.false) nothing) (reads-nothing _ c.at_expression.ensures.peeks.same)

pub fields::path_value-path_with_args-requires : goal.fields::path_value-path_with_args-requires
fields::path_value-path_with_args-requires t c = (omega arith, ((λ d. saw-inside c.start-value.ensures.opens (saw-inside c.start-node.ensures.opens (c.requires.begins d))), omega arith))

pub fields::path_value-complete-requires : goal.fields::path_value-complete-requires
fields::path_value-complete-requires t c = (c.path_with_args.ensures.gives On).does.innermost _ c.start-value.ensures.marker

pub fields::path_value-complete-requires-2 : goal.fields::path_value-complete-requires-2
fields::path_value-complete-requires-2 t c = c.complete.ensures.closes.innermost _ ((c.path_with_args.ensures.gives On).does.innermost _ (c.start-value.ensures.opens.innermost _ c.start-node.ensures.marker))

pub fields::path_value-returns-clause-reads : goal.fields::path_value-returns-clause-reads
fields::path_value-returns-clause-reads t c = λ cond. reads-node cond c.start-node.ensures.opens (reads-node cond c.start-value.ensures.opens (reads-call cond (c.path_with_args.ensures.gives cond)) c.complete.ensures.closes) c.complete-2.ensures.closes

pub fields::named_pattern-complete-requires : goal.fields::named_pattern-complete-requires
fields::named_pattern-complete-requires t c = (c.expect_part.ensures.reads On).does.innermost _ ((c.take.ensures.reads On).does.innermost _ ((c.name_of_field.ensures.reads On).does.innermost _ c.start-node.ensures.marker))

pub fields::named_pattern-returns-clause-reads : goal.fields::named_pattern-returns-clause-reads
fields::named_pattern-returns-clause-reads t c = λ cond. reads-node cond c.start-node.ensures.opens (reads-then cond (c.name_of_field.ensures.reads cond) (reads-then cond (c.take.ensures.reads cond) (c.expect_part.ensures.reads cond))) c.complete.ensures.closes

pub fields::pattern_field-returns-then-at_pair-clause-gives : goal.fields::pattern_field-returns-then-at_pair-clause-gives
unfolding look_of begins_below whole rule items statements expressions patterns types paths there_at shift passes is_silent begins in_mode from_start row one_of any_of no_longer longest is_longer
fields::pattern_field-returns-then-at_pair-clause-gives t c = λ cond. gives-from_start (from_start-here (saw-so (c.at_new.ensures.sees cond) c.if-at_new.false and saw-before c.at_new.ensures.peeks.same (saw-so (c.at_pair.ensures.sees cond) c.if-at_pair.true) and nothing) (from_start-look c.at_new.ensures.peeks.same (from_start-look c.at_pair.ensures.peeks.same (from_start-after refl (c.rest_pat.ensures.reads cond)))))

pub fields::pattern_field-returns-then-at_named_field-clause-gives : goal.fields::pattern_field-returns-then-at_named_field-clause-gives
unfolding look_of begins_below whole rule items statements expressions patterns types paths there_at shift passes is_silent begins in_mode from_start row one_of any_of no_longer longest is_longer
fields::pattern_field-returns-then-at_named_field-clause-gives t c = λ cond. gives-from_start (from_start-here (saw-so (c.at_new.ensures.sees cond) c.if-at_new.false and saw-before c.at_new.ensures.peeks.same (saw-so (c.at_pair.ensures.sees cond) c.if-at_pair.false) and saw-before c.at_new.ensures.peeks.same (saw-before c.at_pair.ensures.peeks.same (saw-so (c.at_named_field.ensures.sees cond) c.if-at_named_field.true)) and nothing) (from_start-look c.at_new.ensures.peeks.same (from_start-look c.at_pair.ensures.peeks.same (from_start-look c.at_named_field.ensures.peeks.same (from_start-after refl (c.named_pattern.ensures.reads cond))))))

pub fields::pattern_field-returns-clause-gives : goal.fields::pattern_field-returns-clause-gives
unfolding look_of begins_below whole rule items statements expressions patterns types paths there_at shift passes is_silent begins in_mode from_start row one_of any_of no_longer longest is_longer
fields::pattern_field-returns-clause-gives t c = λ cond. gives-from_start (from_start-here (saw-so (c.at_new.ensures.sees cond) c.if-at_new.false and saw-before c.at_new.ensures.peeks.same (saw-so (c.at_pair.ensures.sees cond) c.if-at_pair.false) and saw-before c.at_new.ensures.peeks.same (saw-before c.at_pair.ensures.peeks.same (saw-so (c.at_named_field.ensures.sees cond) c.if-at_named_field.false)) and nothing) (from_start-look c.at_new.ensures.peeks.same (from_start-look c.at_pair.ensures.peeks.same (from_start-look c.at_named_field.ensures.peeks.same (from_start-after refl (c.shorthand.ensures.reads cond))))))

pub fields::pattern_field-returns-then-at_new-clause-gives : goal.fields::pattern_field-returns-then-at_new-clause-gives
unfolding look_of begins_below whole rule items statements expressions patterns types paths there_at shift passes is_silent begins in_mode from_start row one_of any_of no_longer longest is_longer
fields::pattern_field-returns-then-at_new-clause-gives t c = λ cond. gives-from_start (from_start-here (saw-so (c.at_new.ensures.sees cond) c.if-at_new.true and nothing) (from_start-look c.at_new.ensures.peeks.same (c.attributed_pattern_field.ensures.from_start cond)))

pub fields::pattern_field-named_pattern-requires : goal.fields::pattern_field-named_pattern-requires
fields::pattern_field-named_pattern-requires t c = (omega arith, omega (arith, c.at_named_field.ensures.some c.if-at_named_field.true, c.at_named_field.ensures.peeks.left, c.at_pair.ensures.peeks.left, c.at_new.ensures.peeks.left))

pub fields::pattern_field-shorthand-requires-clause-begins : goal.fields::pattern_field-shorthand-requires-clause-begins
unfolding look_of begins_below whole rule items statements expressions patterns types paths there_at shift passes is_silent begins in_mode from_start row one_of any_of no_longer longest is_longer
fields::pattern_field-shorthand-requires-clause-begins t c = λ cond. saw-after c.at_named_field.ensures.peeks.same (saw-after c.at_pair.ensures.peeks.same (saw-after c.at_new.ensures.peeks.same (saw-else (begins looks (⁅ One 'ref' ⁆ ▸ ⁅ One 'mut' ⁆ ▸ Name !)) (looks rules.pattern_field) (saw-so (c.at_new.ensures.sees cond) c.if-at_new.false and saw-before c.at_new.ensures.peeks.same (saw-so (c.at_pair.ensures.sees cond) c.if-at_pair.false) and saw-before c.at_new.ensures.peeks.same (saw-before c.at_pair.ensures.peeks.same (saw-so (c.at_named_field.ensures.sees cond) c.if-at_named_field.false)) and nothing) (c.requires.begins cond) refl)))

pub fields::attributed_pattern_field-after_attributes-requires : goal.fields::attributed_pattern_field-after_attributes-requires
fields::attributed_pattern_field-after_attributes-requires t c = (omega arith, (c.attributes.ensures.reads On).does.innermost _ ((c.attribute.ensures.gives On).does.innermost _ (c.start-node.ensures.marker)))

pub fields::attributed_pattern_field-returns-clause-from_start : goal.fields::attributed_pattern_field-returns-clause-from_start
fields::attributed_pattern_field-returns-clause-from_start t c = λ cond. from_start-completes c.start-node.ensures.opens (completes-then (reads-call cond (c.attribute.ensures.gives cond)) (completes-then (c.attributes.ensures.reads cond) (c.after_attributes.ensures.completes cond)))

pub fields::after_attributes-returns-then-at_pair-clause-completes : goal.fields::after_attributes-returns-then-at_pair-clause-completes
unfolding look_of begins_below whole rule items statements expressions patterns types paths there_at shift passes is_silent begins in_mode from_start row one_of any_of no_longer longest is_longer
fields::after_attributes-returns-then-at_pair-clause-completes t c = λ cond. completes-here (saw-so (c.at_pair.ensures.sees cond) c.if-at_pair.true and nothing) (completes-look c.at_pair.ensures.peeks.same (completes-wrap (c.take_pair.ensures.reads cond _ _) c.complete.ensures.closes))

pub fields::after_attributes-returns-then-at_attributed_named_field-clause-completes : goal.fields::after_attributes-returns-then-at_attributed_named_field-clause-completes
unfolding look_of begins_below whole rule items statements expressions patterns types paths there_at shift passes is_silent begins in_mode from_start row one_of any_of no_longer longest is_longer
fields::after_attributes-returns-then-at_attributed_named_field-clause-completes t c = λ cond. completes-here (saw-so (c.at_pair.ensures.sees cond) c.if-at_pair.false and saw-before c.at_pair.ensures.peeks.same (saw-so (c.at_attributed_named_field.ensures.sees cond) c.if-at_attributed_named_field.true) and nothing) (completes-look c.at_pair.ensures.peeks.same (completes-look c.at_attributed_named_field.ensures.peeks.same (completes-wrap (reads-then cond (c.name_of_field.ensures.reads cond) (reads-then cond (c.take.ensures.reads cond) (c.expect_part.ensures.reads cond))) c.complete-then-at_attributed_named_field.ensures.closes)))

pub fields::after_attributes-returns-clause-completes : goal.fields::after_attributes-returns-clause-completes
unfolding look_of begins_below whole rule items statements expressions patterns types paths there_at shift passes is_silent begins in_mode from_start row one_of any_of no_longer longest is_longer
fields::after_attributes-returns-clause-completes t c = λ cond. completes-here (saw-so (c.at_pair.ensures.sees cond) c.if-at_pair.false and saw-before c.at_pair.ensures.peeks.same (saw-so (c.at_attributed_named_field.ensures.sees cond) c.if-at_attributed_named_field.false) and nothing) (completes-look c.at_pair.ensures.peeks.same (completes-look c.at_attributed_named_field.ensures.peeks.same (completes-wrap (c.any_binding.ensures.reads cond) c.complete-2.ensures.closes)))

pub fields::after_attributes-complete-requires : goal.fields::after_attributes-complete-requires
fields::after_attributes-complete-requires t c = (c.take_pair.ensures.reads On 0 0).does.innermost _ (c.at_pair.ensures.peeks.same.innermost _ (c.requires.innermost))

pub fields::after_attributes-complete-requires-then-at_attributed_named_field : goal.fields::after_attributes-complete-requires-then-at_attributed_named_field
fields::after_attributes-complete-requires-then-at_attributed_named_field t c = (c.expect_part.ensures.reads On).does.innermost _ ((c.take.ensures.reads On).does.innermost _ ((c.name_of_field.ensures.reads On).does.innermost _ (c.at_attributed_named_field.ensures.peeks.same.innermost _ (c.at_pair.ensures.peeks.same.innermost _ (c.requires.innermost)))))

pub fields::after_attributes-complete-requires-2 : goal.fields::after_attributes-complete-requires-2
fields::after_attributes-complete-requires-2 t c = (c.any_binding.ensures.reads On).does.innermost _ (c.at_attributed_named_field.ensures.peeks.same.innermost _ (c.at_pair.ensures.peeks.same.innermost _ (c.requires.innermost)))

pub fields::attributed_value-value_after_attributes-requires : goal.fields::attributed_value-value_after_attributes-requires
fields::attributed_value-value_after_attributes-requires t c = (omega arith, (c.attributes.ensures.reads On).does.innermost _ ((c.attribute.ensures.gives On).does.innermost _ c.start-node.ensures.marker))

pub fields::attributed_value-returns-clause-from_start : goal.fields::attributed_value-returns-clause-from_start
fields::attributed_value-returns-clause-from_start t c = from_start-completes c.start-node.ensures.opens (completes-then (reads-call _ (c.attribute.ensures.gives c.args.condition)) (completes-then (c.attributes.ensures.reads c.args.condition) c.value_after_attributes.ensures.completes))

pub fields::value_after_attributes-returns-then-at_attributed_named_field-clause-completes : goal.fields::value_after_attributes-returns-then-at_attributed_named_field-clause-completes
unfolding look_of begins_below whole rule items statements expressions patterns types paths there_at shift passes is_silent begins in_mode from_start row one_of any_of no_longer longest is_longer
fields::value_after_attributes-returns-then-at_attributed_named_field-clause-completes t c = completes-here (saw-so (c.at_attributed_named_field.ensures.sees c.args.condition) c.if-at_attributed_named_field.true and nothing) (completes-look c.at_attributed_named_field.ensures.peeks.same (completes-wrap (reads-then c.args.condition (c.name_of_field.ensures.reads c.args.condition) (reads-then c.args.condition (c.take.ensures.reads c.args.condition) c.expect_expression.ensures.reads)) c.complete.ensures.closes))

pub fields::value_after_attributes-returns-clause-completes : goal.fields::value_after_attributes-returns-clause-completes
unfolding look_of begins_below whole rule items statements expressions patterns types paths there_at shift passes is_silent begins in_mode from_start row one_of any_of no_longer longest is_longer
fields::value_after_attributes-returns-clause-completes t c = completes-here (saw-so (c.at_attributed_named_field.ensures.sees c.args.condition) c.if-at_attributed_named_field.false and saw-before c.at_attributed_named_field.ensures.peeks.same (saw-so (c.at_pair.ensures.sees c.args.condition) c.if-at_pair.false) and nothing) (completes-look c.at_attributed_named_field.ensures.peeks.same (completes-look c.at_pair.ensures.peeks.same (completes-wrap (c.const_path.ensures.reads c.args.condition) c.complete-2.ensures.closes)))

pub fields::value_after_attributes-complete-requires : goal.fields::value_after_attributes-complete-requires
fields::value_after_attributes-complete-requires t c = c.expect_expression.ensures.reads.does.innermost _ ((c.take.ensures.reads On).does.innermost _ ((c.name_of_field.ensures.reads On).does.innermost _ (c.at_attributed_named_field.ensures.peeks.same.innermost _ (c.requires.innermost))))

pub fields::value_after_attributes-complete-requires-2 : goal.fields::value_after_attributes-complete-requires-2
fields::value_after_attributes-complete-requires-2 t c = (c.const_path.ensures.reads On).does.innermost _ (c.at_pair.ensures.peeks.same.innermost _ (c.at_attributed_named_field.ensures.peeks.same.innermost _ (c.requires.innermost)))

pub fields::field_value-returns-then-at_new-clause-gives : goal.fields::field_value-returns-then-at_new-clause-gives
unfolding look_of begins_below whole rule items statements expressions patterns types paths there_at shift passes is_silent begins in_mode from_start row one_of any_of no_longer longest is_longer
fields::field_value-returns-then-at_new-clause-gives t c = gives-from_start (from_start-here (saw-so (c.at_new.ensures.sees c.args.condition) c.if-at_new.true and nothing) (from_start-look c.at_new.ensures.peeks.same c.attributed_value.ensures.from_start))

pub fields::field_value-returns-then-at_named_field-clause-gives : goal.fields::field_value-returns-then-at_named_field-clause-gives
unfolding look_of begins_below whole rule items statements expressions patterns types paths there_at shift passes is_silent begins in_mode from_start row one_of any_of no_longer longest is_longer
fields::field_value-returns-then-at_named_field-clause-gives t c = gives-from_start (from_start-here (saw-so (c.at_new.ensures.sees c.args.condition) c.if-at_new.false and saw-before c.at_new.ensures.peeks.same (saw-so (c.at_named_field.ensures.sees c.args.condition) c.if-at_named_field.true) and nothing) (from_start-look c.at_new.ensures.peeks.same (from_start-look c.at_named_field.ensures.peeks.same (from_start-after refl c.named_value.ensures.reads))))

pub fields::value_after_attributes-returns-then-at_pair-clause-completes : goal.fields::value_after_attributes-returns-then-at_pair-clause-completes
unfolding look_of begins_below whole rule items statements expressions patterns types paths there_at shift passes is_silent begins in_mode from_start row one_of any_of no_longer longest is_longer
fields::value_after_attributes-returns-then-at_pair-clause-completes t c = completes-here (saw-so (c.at_attributed_named_field.ensures.sees c.args.condition) c.if-at_attributed_named_field.false and saw-before c.at_attributed_named_field.ensures.peeks.same (saw-so (c.at_pair.ensures.sees c.args.condition) c.if-at_pair.true) and nothing) (completes-look c.at_attributed_named_field.ensures.peeks.same (completes-look c.at_pair.ensures.peeks.same (completes-leave c.other_fields.ensures.reads c.abandon.ensures.leaves)))

pub fields::value_after_attributes-abandon-requires : goal.fields::value_after_attributes-abandon-requires
fields::value_after_attributes-abandon-requires t c = c.other_fields.ensures.reads.does.innermost _ (c.at_pair.ensures.peeks.same.innermost _ (c.at_attributed_named_field.ensures.peeks.same.innermost _ c.requires.innermost))

pub fields::value_after_attributes-other_fields-requires : goal.fields::value_after_attributes-other_fields-requires
fields::value_after_attributes-other_fields-requires t c = (omega arith, omega (arith, c.at_pair.ensures.some c.if-at_pair.true (no-end variants.DOT refl), c.at_pair.ensures.peeks.left))

pub fields::field_value-path_value-requires : goal.fields::field_value-path_value-requires
unfolding look_of begins_below whole rule items statements expressions patterns types paths there_at shift passes is_silent begins in_mode from_start row one_of any_of no_longer longest is_longer
fields::field_value-path_value-requires t c = (omega arith, ((λ d. saw-after c.at_pair.ensures.peeks.same (saw-after c.at_named_field.ensures.peeks.same (saw-after c.at_new.ensures.peeks.same (any-mode (subst (λ (l : Look). Saw c.args.condition l c.args.p.now true) (paths-begin modes.Expr) (begins-else rules.expr_path rules.field_value refl (saw-so (c.at_new.ensures.sees c.args.condition) c.if-at_new.false and saw-before c.at_new.ensures.peeks.same (saw-so (c.at_named_field.ensures.sees c.args.condition) c.if-at_named_field.false) and saw-before c.at_new.ensures.peeks.same (saw-before c.at_named_field.ensures.peeks.same (saw-so (c.at_pair.ensures.sees c.args.condition) c.if-at_pair.false)) and nothing) c.requires.begins refl)))))), omega arith))

pub fields::field_value-returns-then-at_pair-clause-gives : goal.fields::field_value-returns-then-at_pair-clause-gives
unfolding look_of begins_below whole rule items statements expressions patterns types paths there_at shift passes is_silent begins in_mode from_start row one_of any_of no_longer longest is_longer
fields::field_value-returns-then-at_pair-clause-gives t c = gives-from_start (from_start-here (saw-so (c.at_new.ensures.sees c.args.condition) c.if-at_new.false and saw-before c.at_new.ensures.peeks.same (saw-so (c.at_named_field.ensures.sees c.args.condition) c.if-at_named_field.false) and saw-left (saw-before c.at_new.ensures.peeks.same (saw-before c.at_named_field.ensures.peeks.same (saw-so (c.at_pair.ensures.sees c.args.condition) c.if-at_pair.true))) and saw-before c.at_new.ensures.peeks.same (saw-before c.at_named_field.ensures.peeks.same (saw-so (c.at_pair.ensures.sees c.args.condition) c.if-at_pair.true)) and nothing) (from_start-look c.at_new.ensures.peeks.same (from_start-look c.at_named_field.ensures.peeks.same (from_start-look c.at_pair.ensures.peeks.same (from_start-after refl c.other_fields.ensures.reads)))))

pub fields::field_value-returns-clause-gives : goal.fields::field_value-returns-clause-gives
unfolding look_of begins_below whole rule items statements expressions patterns types paths there_at shift passes is_silent begins in_mode from_start row one_of any_of no_longer longest is_longer
fields::field_value-returns-clause-gives t c = gives-from_start (from_start-here (saw-so (c.at_new.ensures.sees c.args.condition) c.if-at_new.false and saw-before c.at_new.ensures.peeks.same (saw-so (c.at_named_field.ensures.sees c.args.condition) c.if-at_named_field.false) and saw-before c.at_new.ensures.peeks.same (saw-before c.at_named_field.ensures.peeks.same (saw-so (c.at_pair.ensures.sees c.args.condition) c.if-at_pair.false)) and begun rules.expr_path (begins-else rules.expr_path rules.field_value refl (saw-so (c.at_new.ensures.sees c.args.condition) c.if-at_new.false and saw-before c.at_new.ensures.peeks.same (saw-so (c.at_named_field.ensures.sees c.args.condition) c.if-at_named_field.false) and saw-before c.at_new.ensures.peeks.same (saw-before c.at_named_field.ensures.peeks.same (saw-so (c.at_pair.ensures.sees c.args.condition) c.if-at_pair.false)) and nothing) c.requires.begins refl) nothing) (from_start-look c.at_new.ensures.peeks.same (from_start-look c.at_named_field.ensures.peeks.same (from_start-look c.at_pair.ensures.peeks.same (from_start-after refl (c.path_value.ensures.reads c.args.condition))))))

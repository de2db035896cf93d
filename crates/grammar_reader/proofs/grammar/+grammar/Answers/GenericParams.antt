-- Generic parameters, bounds and `where`.
use Rattle.std.proofs.Common.{true, refl, sym, subst, arith}
use Rattle.rust_grammar.specs.Rule as rules
use Rattle.rust_grammar.specs.Expressions.{expressions}
use Rattle.rust_grammar.specs.Items.{items}
use Rattle.rust_grammar.specs.Meaning.{begins_below, look_of}
use Rattle.rust_grammar.specs.Notation.{any_of, is_longer, no_longer, longest, one_of, row}
use Rattle.rust_grammar.specs.Paths.{paths}
use Rattle.rust_grammar.specs.Patterns.{patterns}
use Rattle.rust_grammar.specs.Rule.{begins, in_mode, from_start, is_silent, passes, shift, there_at}
use Rattle.rust_grammar.specs.Statements.{statements}
use Rattle.rust_grammar.specs.Types.{types}
use Rattle.rust_grammar.specs.Whole.{rule, whole}
use Rattle.rust_grammar.specs.Calls.{Bound, WherePred}
use Rattle.rust_grammar.specs.Notation.{◌▸◌, ⁅◌⁆}
use Rattle.rust_grammar.specs.Rule.{Look, One}
use Rattle.rust_grammar.specs.Words.{'comma', '+'}
use Rattle.grammar_reader.specs.declared.grammar.paths.Mode.TheVariants as modes
use Rattle.grammar_reader.proofs.PathArgs.{paths-begin}
use Rattle.rust_productions.specs.Looks.{tokens}
use Rattle.rust_productions.specs.Reads.{Saw}
use Rattle.rust_productions.specs.declared.condition.Condition.TheVariants.{On}
use Rattle.rust_productions.proofs.ByHand.{after-look, reads-call, reads-node, reads-nothing, reads-or, reads-then, reads-when}
use Rattle.rust_productions.proofs.Choices.{from_start-after, from_start-here, from_start-look, gives-from_start, reads-here}
use Rattle.rust_productions.proofs.Facts.{begun, nothing, saw-so, ◌and◌}
use Rattle.rust_productions.proofs.Looking.{saw-arm, saw-not}
use Rattle.rust_productions.proofs.Seen.{begins-else, ends-at-end, saw-after, saw-before, saw-inside}
use Rattle.rust_productions.proofs.Turns.{last-turn, next-turn}
use Rattle.grammar_reader.proofs.grammar.+grammar.Goals as goal

pub generic_params::bound-plain_bound-requires : goal.generic_params::bound-plain_bound-requires
generic_params::bound-plain_bound-requires t c = (omega arith, (record { sees = λ d. saw-after c.at_new_bound.ensures.peeks.same (c.requires.begins d); some = omega (arith, c.at_new_bound.ensures.peeks.left) }, (λ d. saw-after c.at_new_bound.ensures.peeks.same (saw-so (c.at_new_bound.ensures.sees d) c.if-at_new_bound.false))))

pub generic_params::bound-returns-then-at_new_bound-clause-gives : goal.generic_params::bound-returns-then-at_new_bound-clause-gives
unfolding look_of begins_below whole rule items statements expressions patterns types paths there_at shift passes is_silent begins in_mode from_start row one_of any_of no_longer longest is_longer
generic_params::bound-returns-then-at_new_bound-clause-gives t c = λ cond. gives-from_start (from_start-after refl (reads-here (saw-so (c.at_new_bound.ensures.sees cond) c.if-at_new_bound.true and nothing) (after-look cond c.at_new_bound.ensures.peeks.same (c.new_bound.ensures.reads cond))))

pub generic_params::bound-returns-clause-gives : goal.generic_params::bound-returns-clause-gives
unfolding look_of begins_below whole rule items statements expressions patterns types paths there_at shift passes is_silent begins in_mode from_start row one_of any_of no_longer longest is_longer
generic_params::bound-returns-clause-gives t c = λ cond. gives-from_start (from_start-after refl (reads-here (saw-so (c.at_new_bound.ensures.sees cond) c.if-at_new_bound.false and nothing) (after-look cond c.at_new_bound.ensures.peeks.same (c.plain_bound.ensures.reads cond))))

pub generic_params::plain_bound-lifetime_or_path-requires : goal.generic_params::plain_bound-lifetime_or_path-requires
generic_params::plain_bound-lifetime_or_path-requires t c = (omega arith, (record { sees = λ d. saw-inside c.start-node.ensures.opens (c.requires.begins.sees d); some = omega (arith, c.requires.begins.some, c.start-node.ensures.stays.left) }, (λ d. saw-inside c.start-node.ensures.opens (c.requires.plain d))))

pub generic_params::plain_bound-complete-requires : goal.generic_params::plain_bound-complete-requires
generic_params::plain_bound-complete-requires t c = (c.lifetime_or_path.ensures.reads On).does.innermost _ c.start-node.ensures.marker

pub generic_params::plain_bound-returns-clause-reads : goal.generic_params::plain_bound-returns-clause-reads
generic_params::plain_bound-returns-clause-reads t c = λ cond. reads-node cond c.start-node.ensures.opens (c.lifetime_or_path.ensures.reads cond) c.complete.ensures.closes

pub generic_params::lifetime_or_path-returns-in-LIFETIME_IDENT-clause-reads : goal.generic_params::lifetime_or_path-returns-in-LIFETIME_IDENT-clause-reads
unfolding look_of begins_below whole rule items statements expressions patterns types paths there_at shift passes is_silent begins in_mode from_start row one_of any_of no_longer longest is_longer
generic_params::lifetime_or_path-returns-in-LIFETIME_IDENT-clause-reads t c = λ cond. reads-here (saw-arm c.in-LIFETIME_IDENT.is (c.current.ensures.sees cond) and nothing) (after-look cond c.current.ensures.peeks.same (reads-call cond (c.lifetime.ensures.gives cond)))

pub generic_params::lifetime_or_path-returns-in-QUESTION-clause-reads : goal.generic_params::lifetime_or_path-returns-in-QUESTION-clause-reads
unfolding look_of begins_below whole rule items statements expressions patterns types paths there_at shift passes is_silent begins in_mode from_start row one_of any_of no_longer longest is_longer
generic_params::lifetime_or_path-returns-in-QUESTION-clause-reads t c = λ cond. reads-here (saw-arm c.in-QUESTION.is (c.current.ensures.sees cond) and nothing) (after-look cond c.current.ensures.peeks.same (c.path_after_question.ensures.reads cond))

pub generic_params::lifetime_or_path-lifetime-requires : goal.generic_params::lifetime_or_path-lifetime-requires
generic_params::lifetime_or_path-lifetime-requires t c = omega (arith, c.requires.begins.some, c.current.ensures.peeks.left)

pub generic_params::lifetime_or_path-path_after_question-requires : goal.generic_params::lifetime_or_path-path_after_question-requires
generic_params::lifetime_or_path-path_after_question-requires t c = (omega arith, omega (arith, c.requires.begins.some, c.current.ensures.peeks.left))

pub generic_params::lifetime_or_path-path_type-requires : goal.generic_params::lifetime_or_path-path_type-requires
unfolding look_of begins_below whole rule items statements expressions patterns types paths there_at shift passes is_silent begins in_mode from_start row one_of any_of no_longer longest is_longer
generic_params::lifetime_or_path-path_type-requires t c = (omega arith, ((λ d. saw-after c.current.ensures.peeks.same (subst (λ (l : Look). Saw d l c.args.p.now true) (paths-begin modes.Type) (begins-else rules.type_path rules.bound refl (saw-not c.in_default.not-LIFETIME_IDENT (c.current.ensures.sees d) and saw-not c.in_default.not-QUESTION (c.current.ensures.sees d) and c.requires.plain d and nothing) (c.requires.begins.sees d) refl))), omega (arith, c.requires.begins.some, c.current.ensures.peeks.left)))

pub generic_params::lifetime_or_path-returns-in_default-clause-reads : goal.generic_params::lifetime_or_path-returns-in_default-clause-reads
unfolding look_of begins_below whole rule items statements expressions patterns types paths there_at shift passes is_silent begins in_mode from_start row one_of any_of no_longer longest is_longer
generic_params::lifetime_or_path-returns-in_default-clause-reads t c = λ cond. reads-here (saw-not c.in_default.not-LIFETIME_IDENT (c.current.ensures.sees cond) and saw-not c.in_default.not-QUESTION (c.current.ensures.sees cond) and (begun rules.type_path (begins-else rules.type_path rules.bound refl (saw-not c.in_default.not-LIFETIME_IDENT (c.current.ensures.sees cond) and saw-not c.in_default.not-QUESTION (c.current.ensures.sees cond) and c.requires.plain cond and nothing) (c.requires.begins.sees cond) refl) nothing)) (after-look cond c.current.ensures.peeks.same (c.path_type.ensures.reads cond))

pub generic_params::path_after_question-returns-clause-reads : goal.generic_params::path_after_question-returns-clause-reads
generic_params::path_after_question-returns-clause-reads t c = λ cond. (reads-then cond (c.take.ensures.reads cond) (c.expect_part.ensures.reads cond))

pub generic_params::bounds-complete-requires : goal.generic_params::bounds-complete-requires
generic_params::bounds-complete-requires t c = (c.opt_bounds.ensures.reads On).does.innermost _ c.start-list.ensures.marker

pub generic_params::bounds-returns-clause-gives : goal.generic_params::bounds-returns-clause-gives
unfolding look_of begins_below whole rule items statements expressions patterns types paths there_at shift passes is_silent begins in_mode from_start row one_of any_of no_longer longest is_longer
generic_params::bounds-returns-clause-gives t c = λ cond. gives-from_start (from_start-after refl (reads-node cond c.start-list.ensures.opens (c.opt_bounds.ensures.reads cond) c.complete.ensures.closes))

pub generic_params::opt_bounds-bound-requires : goal.generic_params::opt_bounds-bound-requires
generic_params::opt_bounds-bound-requires t c = (omega arith, ((λ d. saw-after c.at_bound.ensures.peeks.same (saw-so (c.at_bound.ensures.sees d) c.if-at_bound.true)), omega (arith, c.at_bound.ensures.some c.if-at_bound.true, c.at_bound.ensures.peeks.left)))

pub generic_params::opt_bounds-returns-then-at_bound-clause-reads : goal.generic_params::opt_bounds-returns-then-at_bound-clause-reads
unfolding look_of begins_below whole rule items statements expressions patterns types paths there_at shift passes is_silent begins in_mode from_start row one_of any_of no_longer longest is_longer
generic_params::opt_bounds-returns-then-at_bound-clause-reads t c = λ cond. reads-here (begun rules.bound (saw-so (c.at_bound.ensures.sees cond) c.if-at_bound.true) nothing) (after-look cond c.at_bound.ensures.peeks.same (reads-then cond (reads-call cond (c.bound.ensures.gives cond)) (c.further_bounds.ensures.reads cond)))

pub generic_params::opt_bounds-returns-else-at_bound-clause-reads : goal.generic_params::opt_bounds-returns-else-at_bound-clause-reads
unfolding look_of begins_below whole rule items statements expressions patterns types paths there_at shift passes is_silent begins in_mode from_start row one_of any_of no_longer longest is_longer
generic_params::opt_bounds-returns-else-at_bound-clause-reads t c = λ cond. reads-here (begun rules.bound (saw-so (c.at_bound.ensures.sees cond) c.if-at_bound.false) nothing) (reads-nothing cond c.at_bound.ensures.peeks.same)

pub generic_params::further_bounds-turns-preserved : goal.generic_params::further_bounds-turns-preserved
unfolding tokens look_of begins_below whole rule items statements expressions patterns types paths there_at shift passes is_silent begins in_mode from_start row one_of any_of no_longer longest is_longer
generic_params::further_bounds-turns-preserved t c = record {
  goes = λ cond. next-turn cond (One '+' ▸ ⁅ Bound ⁆) (ends-at-end cond (One '+' ▸ ⁅ Bound ⁆) refl) _ _ _ (c.turns.invariant.goes cond) (saw-so (c.at.ensures.sees cond) c.turns-test.true)
      (after-look cond c.at.ensures.peeks.same (c.further_bound.ensures.reads cond)) (omega (arith, c.further_bound.ensures.takes.left, c.at.ensures.peeks.left));
  left = omega (arith, c.turns.invariant.left, c.further_bound.ensures.takes.left, c.at.ensures.peeks.left);
  looks = omega (arith, c.turns.invariant.looks, c.further_bound.ensures.takes.looks, c.at.ensures.peeks.looks);
}

pub generic_params::further_bounds-returns-clause-reads : goal.generic_params::further_bounds-returns-clause-reads
unfolding look_of begins_below whole rule items statements expressions patterns types paths there_at shift passes is_silent begins in_mode from_start row one_of any_of no_longer longest is_longer
generic_params::further_bounds-returns-clause-reads t c = λ cond. last-turn cond (One '+' ▸ ⁅ Bound ⁆) (ends-at-end cond (One '+' ▸ ⁅ Bound ⁆) refl) _ _ _ (c.turns.invariant.goes cond) (saw-so (c.at.ensures.sees cond) c.turns-test.false) c.at.ensures.peeks.same

pub generic_params::further_bound-returns-clause-reads : goal.generic_params::further_bound-returns-clause-reads
generic_params::further_bound-returns-clause-reads t c = λ cond. (reads-then cond (c.take.ensures.reads cond) (c.opt_bound.ensures.reads cond))

pub generic_params::opt_bound-bound-requires : goal.generic_params::opt_bound-bound-requires
generic_params::opt_bound-bound-requires t c = (omega arith, ((λ d. saw-after c.at_bound.ensures.peeks.same (saw-so (c.at_bound.ensures.sees d) c.if-at_bound.true)), omega (arith, c.at_bound.ensures.some c.if-at_bound.true, c.at_bound.ensures.peeks.left)))

pub generic_params::opt_bound-returns-then-at_bound-clause-reads : goal.generic_params::opt_bound-returns-then-at_bound-clause-reads
unfolding look_of begins_below whole rule items statements expressions patterns types paths there_at shift passes is_silent begins in_mode from_start row one_of any_of no_longer longest is_longer
generic_params::opt_bound-returns-then-at_bound-clause-reads t c = λ cond. reads-here (begun rules.bound (saw-so (c.at_bound.ensures.sees cond) c.if-at_bound.true) nothing) (after-look cond c.at_bound.ensures.peeks.same (reads-call cond (c.bound.ensures.gives cond)))

pub generic_params::opt_bound-returns-else-at_bound-clause-reads : goal.generic_params::opt_bound-returns-else-at_bound-clause-reads
unfolding look_of begins_below whole rule items statements expressions patterns types paths there_at shift passes is_silent begins in_mode from_start row one_of any_of no_longer longest is_longer
generic_params::opt_bound-returns-else-at_bound-clause-reads t c = λ cond. reads-here (begun rules.bound (saw-so (c.at_bound.ensures.sees cond) c.if-at_bound.false) nothing) (reads-nothing cond c.at_bound.ensures.peeks.same)

pub generic_params::bounds_after_colon-returns-then-at-clause-reads : goal.generic_params::bounds_after_colon-returns-then-at-clause-reads
unfolding look_of begins_below whole rule items statements expressions patterns types paths there_at shift passes is_silent begins in_mode from_start row one_of any_of no_longer longest is_longer
generic_params::bounds_after_colon-returns-then-at-clause-reads t c = λ cond. reads-here (saw-so (c.at.ensures.sees cond) c.if-at.true and nothing) (after-look cond c.at.ensures.peeks.same (reads-then cond (c.take.ensures.reads cond) (reads-call cond (c.bounds.ensures.gives cond))))

pub generic_params::bounds_after_colon-returns-else-at-clause-reads : goal.generic_params::bounds_after_colon-returns-else-at-clause-reads
unfolding look_of begins_below whole rule items statements expressions patterns types paths there_at shift passes is_silent begins in_mode from_start row one_of any_of no_longer longest is_longer
generic_params::bounds_after_colon-returns-else-at-clause-reads t c = λ cond. reads-here (saw-so (c.at.ensures.sees cond) c.if-at.false and nothing) (reads-nothing cond c.at.ensures.peeks.same)

pub generic_params::for_binder-returns-clause-reads : goal.generic_params::for_binder-returns-clause-reads
generic_params::for_binder-returns-clause-reads t c = λ cond. reads-then cond (c.take.ensures.reads cond) (c.expect_part.ensures.reads cond)

pub generic_params::lifetime_and_bounds-returns-clause-reads : goal.generic_params::lifetime_and_bounds-returns-clause-reads
generic_params::lifetime_and_bounds-returns-clause-reads t c = λ cond. reads-then cond (reads-call cond (c.lifetime.ensures.gives cond)) (c.bounds_after_colon.ensures.reads cond)

pub generic_params::lifetime_param-complete-requires : goal.generic_params::lifetime_param-complete-requires
generic_params::lifetime_param-complete-requires t c = (c.lifetime_and_bounds.ensures.reads On).does.innermost _ c.start-node.ensures.marker

pub generic_params::lifetime_param-returns-clause-reads : goal.generic_params::lifetime_param-returns-clause-reads
generic_params::lifetime_param-returns-clause-reads t c = λ cond. reads-node cond c.start-node.ensures.opens (c.lifetime_and_bounds.ensures.reads cond) c.complete.ensures.closes

pub generic_params::type_param-complete-requires : goal.generic_params::type_param-complete-requires
generic_params::type_param-complete-requires t c = (c.opt_type_after.ensures.reads On).does.innermost _ ((c.bounds_after_colon.ensures.reads On).does.innermost _ ((c.name.ensures.gives On).does.innermost _ c.start-node.ensures.marker))

pub generic_params::type_param-returns-clause-reads : goal.generic_params::type_param-returns-clause-reads
generic_params::type_param-returns-clause-reads t c = λ cond. reads-node cond c.start-node.ensures.opens (reads-then cond (reads-call cond (c.name.ensures.gives cond)) (reads-then cond (c.bounds_after_colon.ensures.reads cond) (c.opt_type_after.ensures.reads cond))) c.complete.ensures.closes

pub generic_params::generic_param-returns-then-at_new_param-clause-gives : goal.generic_params::generic_param-returns-then-at_new_param-clause-gives
unfolding look_of begins_below whole rule items statements expressions patterns types paths there_at shift passes is_silent begins in_mode from_start row one_of any_of no_longer longest is_longer
generic_params::generic_param-returns-then-at_new_param-clause-gives t c = λ cond. gives-from_start (from_start-here (saw-so (c.at_new_param.ensures.sees cond) c.if-at_new_param.true and nothing) (from_start-look c.at_new_param.ensures.peeks.same (c.new_param.ensures.from_start cond)))

pub generic_params::generic_param-returns-then-at-clause-gives : goal.generic_params::generic_param-returns-then-at-clause-gives
unfolding look_of begins_below whole rule items statements expressions patterns types paths there_at shift passes is_silent begins in_mode from_start row one_of any_of no_longer longest is_longer
generic_params::generic_param-returns-then-at-clause-gives t c = λ cond. gives-from_start (from_start-here (saw-so (c.at_new_param.ensures.sees cond) c.if-at_new_param.false and saw-before c.at_new_param.ensures.peeks.same (saw-so (c.at.ensures.sees cond) c.if-at.true) and nothing) (from_start-look c.at_new_param.ensures.peeks.same (from_start-look c.at.ensures.peeks.same (from_start-after refl (c.lifetime_param.ensures.reads cond)))))

pub generic_params::generic_param-returns-clause-gives : goal.generic_params::generic_param-returns-clause-gives
unfolding look_of begins_below whole rule items statements expressions patterns types paths there_at shift passes is_silent begins in_mode from_start row one_of any_of no_longer longest is_longer
generic_params::generic_param-returns-clause-gives t c = λ cond. gives-from_start (from_start-here (saw-so (c.at_new_param.ensures.sees cond) c.if-at_new_param.false and saw-before c.at_new_param.ensures.peeks.same (saw-so (c.at.ensures.sees cond) c.if-at.false) and nothing) (from_start-look c.at_new_param.ensures.peeks.same (from_start-look c.at.ensures.peeks.same (from_start-after refl (c.type_param.ensures.reads cond)))))

pub generic_params::lifetime_or_type-lifetime-requires : goal.generic_params::lifetime_or_type-lifetime-requires
generic_params::lifetime_or_type-lifetime-requires t c = omega (arith, c.requires.begins.some, c.at.ensures.peeks.left)

pub generic_params::lifetime_or_type-any_type-requires : goal.generic_params::lifetime_or_type-any_type-requires
unfolding look_of begins_below whole rule items statements expressions patterns types paths there_at shift passes is_silent begins in_mode from_start row one_of any_of no_longer longest is_longer
generic_params::lifetime_or_type-any_type-requires t c = (omega arith, record { sees = λ d. saw-after c.at.ensures.peeks.same (begins-else rules.any_type rules.where_pred refl (saw-so (c.at.ensures.sees d) c.if-at.false and c.requires.plain d and nothing) (c.requires.begins.sees d) refl); some = omega (arith, c.requires.begins.some, c.at.ensures.peeks.left) })

pub generic_params::lifetime_or_type-returns-then-at-clause-reads : goal.generic_params::lifetime_or_type-returns-then-at-clause-reads
unfolding look_of begins_below whole rule items statements expressions patterns types paths there_at shift passes is_silent begins in_mode from_start row one_of any_of no_longer longest is_longer
generic_params::lifetime_or_type-returns-then-at-clause-reads t c = λ cond. reads-here (saw-so (c.at.ensures.sees cond) c.if-at.true and nothing) (after-look cond c.at.ensures.peeks.same (reads-call cond (c.lifetime.ensures.gives cond)))

pub generic_params::lifetime_or_type-returns-clause-reads : goal.generic_params::lifetime_or_type-returns-clause-reads
unfolding look_of begins_below whole rule items statements expressions patterns types paths there_at shift passes is_silent begins in_mode from_start row one_of any_of no_longer longest is_longer
generic_params::lifetime_or_type-returns-clause-reads t c = λ cond. reads-here (saw-so (c.at.ensures.sees cond) c.if-at.false and nothing) (after-look cond c.at.ensures.peeks.same (reads-call cond (c.any_type.ensures.gives cond)))

pub generic_params::pred_bounds-returns-clause-reads : goal.generic_params::pred_bounds-returns-clause-reads
generic_params::pred_bounds-returns-clause-reads t c = λ cond. reads-then cond (c.expect.ensures.reads cond) (reads-call cond (c.bounds.ensures.gives cond))

pub generic_params::where_pred-binder_pred-requires : goal.generic_params::where_pred-binder_pred-requires
generic_params::where_pred-binder_pred-requires t c = (omega arith, omega (arith, c.requires.begins.some, c.at_new_pred.ensures.peeks.left))

pub generic_params::where_pred-plain_pred-requires : goal.generic_params::where_pred-plain_pred-requires
generic_params::where_pred-plain_pred-requires t c = (omega arith, (record { sees = λ d. saw-after c.at_new_pred.ensures.peeks.same (c.requires.begins.sees d); some = omega (arith, c.requires.begins.some, c.at_new_pred.ensures.peeks.left) }, (λ d. saw-after c.at_new_pred.ensures.peeks.same (saw-so (c.at_new_pred.ensures.sees d) c.if-at_new_pred.false))))

pub generic_params::where_pred-returns-then-at_new_pred-clause-gives : goal.generic_params::where_pred-returns-then-at_new_pred-clause-gives
unfolding look_of begins_below whole rule items statements expressions patterns types paths there_at shift passes is_silent begins in_mode from_start row one_of any_of no_longer longest is_longer
generic_params::where_pred-returns-then-at_new_pred-clause-gives t c = λ cond. gives-from_start (from_start-after refl (reads-or cond (saw-so (c.at_new_pred.ensures.sees cond) c.if-at_new_pred.true) (reads-when cond (after-look cond c.at_new_pred.ensures.peeks.same (c.binder_pred.ensures.reads cond)))))

pub generic_params::where_pred-returns-clause-gives : goal.generic_params::where_pred-returns-clause-gives
unfolding look_of begins_below whole rule items statements expressions patterns types paths there_at shift passes is_silent begins in_mode from_start row one_of any_of no_longer longest is_longer
generic_params::where_pred-returns-clause-gives t c = λ cond. gives-from_start (from_start-after refl (reads-here (saw-so (c.at_new_pred.ensures.sees cond) c.if-at_new_pred.false and nothing) (after-look cond c.at_new_pred.ensures.peeks.same (c.plain_pred.ensures.reads cond))))

pub generic_params::binder_pred-complete-requires : goal.generic_params::binder_pred-complete-requires
generic_params::binder_pred-complete-requires t c = (c.pred_bounds.ensures.reads On).does.innermost _ ((c.expect_part.ensures.reads On).does.innermost _ ((c.for_binder.ensures.reads On).does.innermost _ c.start-node.ensures.marker))

pub generic_params::binder_pred-returns-clause-reads : goal.generic_params::binder_pred-returns-clause-reads
generic_params::binder_pred-returns-clause-reads t c = λ cond. reads-node cond c.start-node.ensures.opens (reads-then cond (c.for_binder.ensures.reads cond) (reads-then cond (c.expect_part.ensures.reads cond) (c.pred_bounds.ensures.reads cond))) c.complete.ensures.closes

pub generic_params::plain_pred-lifetime_or_type-requires : goal.generic_params::plain_pred-lifetime_or_type-requires
generic_params::plain_pred-lifetime_or_type-requires t c = (omega arith, (record { sees = λ d. saw-inside c.start-node.ensures.opens (c.requires.begins.sees d); some = omega (arith, c.requires.begins.some, c.start-node.ensures.stays.left) }, (λ d. saw-inside c.start-node.ensures.opens (c.requires.plain d))))

pub generic_params::plain_pred-complete-requires : goal.generic_params::plain_pred-complete-requires
generic_params::plain_pred-complete-requires t c = (c.pred_bounds.ensures.reads On).does.innermost _ ((c.lifetime_or_type.ensures.reads On).does.innermost _ c.start-node.ensures.marker)

pub generic_params::plain_pred-returns-clause-reads : goal.generic_params::plain_pred-returns-clause-reads
generic_params::plain_pred-returns-clause-reads t c = λ cond. reads-node cond c.start-node.ensures.opens (reads-then cond (c.lifetime_or_type.ensures.reads cond) (c.pred_bounds.ensures.reads cond)) c.complete.ensures.closes

pub generic_params::where_clause-complete-requires : goal.generic_params::where_clause-complete-requires
generic_params::where_clause-complete-requires t c = (c.opt_preds.ensures.reads On).does.innermost _ ((c.take.ensures.reads On).does.innermost _ c.start-node.ensures.marker)

pub generic_params::where_clause-returns-clause-gives : goal.generic_params::where_clause-returns-clause-gives
unfolding look_of begins_below whole rule items statements expressions patterns types paths there_at shift passes is_silent begins in_mode from_start row one_of any_of no_longer longest is_longer
generic_params::where_clause-returns-clause-gives t c = λ cond. gives-from_start (from_start-after refl (reads-node cond c.start-node.ensures.opens (reads-then cond (c.take.ensures.reads cond) (c.opt_preds.ensures.reads cond)) c.complete.ensures.closes))

pub generic_params::opt_preds-where_pred-requires : goal.generic_params::opt_preds-where_pred-requires
generic_params::opt_preds-where_pred-requires t c = (omega arith, record { sees = λ d. saw-after c.at_where_pred.ensures.peeks.same (saw-so (c.at_where_pred.ensures.sees d) c.if-at_where_pred.true); some = omega (arith, c.at_where_pred.ensures.some c.if-at_where_pred.true, c.at_where_pred.ensures.peeks.left) })

pub generic_params::opt_preds-returns-then-at_where_pred-clause-reads : goal.generic_params::opt_preds-returns-then-at_where_pred-clause-reads
unfolding look_of begins_below whole rule items statements expressions patterns types paths there_at shift passes is_silent begins in_mode from_start row one_of any_of no_longer longest is_longer
generic_params::opt_preds-returns-then-at_where_pred-clause-reads t c = λ cond. reads-here (begun rules.where_pred (saw-so (c.at_where_pred.ensures.sees cond) c.if-at_where_pred.true) nothing) (after-look cond c.at_where_pred.ensures.peeks.same (reads-then cond (reads-call cond (c.where_pred.ensures.gives cond)) (c.further_preds.ensures.reads cond)))

pub generic_params::opt_preds-returns-else-at_where_pred-clause-reads : goal.generic_params::opt_preds-returns-else-at_where_pred-clause-reads
unfolding look_of begins_below whole rule items statements expressions patterns types paths there_at shift passes is_silent begins in_mode from_start row one_of any_of no_longer longest is_longer
generic_params::opt_preds-returns-else-at_where_pred-clause-reads t c = λ cond. reads-here (begun rules.where_pred (saw-so (c.at_where_pred.ensures.sees cond) c.if-at_where_pred.false) nothing) (reads-nothing cond c.at_where_pred.ensures.peeks.same)

pub generic_params::further_preds-turns-preserved : goal.generic_params::further_preds-turns-preserved
unfolding tokens look_of begins_below whole rule items statements expressions patterns types paths there_at shift passes is_silent begins in_mode from_start row one_of any_of no_longer longest is_longer
generic_params::further_preds-turns-preserved t c = record {
  goes = λ cond. next-turn cond (One 'comma' ▸ ⁅ WherePred ⁆) (ends-at-end cond (One 'comma' ▸ ⁅ WherePred ⁆) refl) _ _ _ (c.turns.invariant.goes cond) (saw-so (c.at.ensures.sees cond) c.turns-test.true)
      (after-look cond c.at.ensures.peeks.same (c.further_pred.ensures.reads cond)) (omega (arith, c.further_pred.ensures.takes.left, c.at.ensures.peeks.left));
  left = omega (arith, c.turns.invariant.left, c.further_pred.ensures.takes.left, c.at.ensures.peeks.left);
  looks = omega (arith, c.turns.invariant.looks, c.further_pred.ensures.takes.looks, c.at.ensures.peeks.looks);
}

pub generic_params::further_preds-returns-clause-reads : goal.generic_params::further_preds-returns-clause-reads
unfolding look_of begins_below whole rule items statements expressions patterns types paths there_at shift passes is_silent begins in_mode from_start row one_of any_of no_longer longest is_longer
generic_params::further_preds-returns-clause-reads t c = λ cond. last-turn cond (One 'comma' ▸ ⁅ WherePred ⁆) (ends-at-end cond (One 'comma' ▸ ⁅ WherePred ⁆) refl) _ _ _ (c.turns.invariant.goes cond) (saw-so (c.at.ensures.sees cond) c.turns-test.false) c.at.ensures.peeks.same

pub generic_params::further_pred-returns-clause-reads : goal.generic_params::further_pred-returns-clause-reads
generic_params::further_pred-returns-clause-reads t c = λ cond. reads-then cond (c.take.ensures.reads cond) (c.opt_part.ensures.reads cond)

-- Paths, segment by segment.
use Rattle.std.proofs.Common.{refl, sym, subst, arith}
use Rattle.parser_input.specs.Kinds.{PATH, PATH_SEGMENT}
use Rattle.rust_grammar.specs.Calls.{Ref}
use Rattle.rust_grammar.specs.Notation.{◌▸◌, ◌!, ◌⟨◌⟩, ◌<⟨◌⟩}
use Rattle.rust_grammar.specs.Rule as rules
use Rattle.rust_grammar.specs.Rule.{Rule, One, Unless}
use Rattle.rust_grammar.specs.Shared.{colons_before_more}
use Rattle.rust_grammar.specs.Words.{'::'}
use Rattle.rust_grammar.specs.Expressions.{expressions}
use Rattle.rust_grammar.specs.Items.{items}
use Rattle.rust_grammar.specs.Meaning.{begins_below, look_of}
use Rattle.rust_grammar.specs.Notation.{any_of, is_longer, no_longer, longest, one_of, row}
use Rattle.rust_grammar.specs.Paths.{paths}
use Rattle.rust_grammar.specs.Patterns.{patterns}
use Rattle.rust_grammar.specs.Rule.{begins, in_mode, from_start, is_silent, passes, shift, there_at}
use Rattle.rust_grammar.specs.Statements.{statements}
use Rattle.rust_grammar.specs.Types.{types}
use Rattle.rust_grammar.specs.Whole.{rule, whole}
use Rattle.grammar_reader.specs.Told.{args_of}
use Rattle.grammar_reader.specs.declared.grammar.paths.Mode.TheVariants as modes
use Rattle.grammar_reader.proofs.PathArgs.{args-begin, path-row, reads-in-place}
use Rattle.rust_productions.specs.Looks.{tokens}
use Rattle.rust_productions.specs.Reads.{FromStart}
use Rattle.rust_productions.specs.declared.condition.Condition.TheVariants.{On}
use Rattle.rust_productions.proofs.ByHand.{after-look, completes-leave, completes-then, does-then, reads-call, reads-node, reads-nothing, reads-none, reads-opt, reads-then, reads-unless, reads-when, reads-wrap}
use Rattle.rust_productions.proofs.Choices.{from_start-after, from_start-completes, gives-from_start, reads-here}
use Rattle.rust_productions.proofs.Facts.{begun, nothing, saw-so, ◌and◌}
use Rattle.rust_productions.proofs.Seen.{ends-at-end, saw-after, saw-before, saw-inside, saw-left}
use Rattle.rust_productions.proofs.Turns.{last-turn, next-turn}
use Rattle.grammar_reader.proofs.grammar.+grammar.Goals as goal

pub paths::generic_args-opt_colons-requires : goal.paths::generic_args-opt_colons-requires
paths::generic_args-opt_colons-requires t c = record { begins = record { sees = λ cond. saw-inside c.start-list.ensures.opens (c.requires.begins cond); some = omega arith } }

pub paths::generic_args-complete-requires : goal.paths::generic_args-complete-requires
paths::generic_args-complete-requires t c = (c.rest_of_list.ensures.reads On).does.innermost _ ((c.take.ensures.reads On).does.innermost _ ((c.opt_colons.ensures.reads On).does.innermost _ c.start-list.ensures.marker))

pub paths::generic_args-returns-clause-gives : goal.paths::generic_args-returns-clause-gives
unfolding look_of begins_below whole rule items statements expressions patterns types paths there_at shift passes is_silent begins in_mode from_start row one_of any_of no_longer longest is_longer
paths::generic_args-returns-clause-gives t c = λ cond. gives-from_start (from_start-after refl (reads-when cond (reads-node cond c.start-list.ensures.opens (reads-then cond (c.opt_colons.ensures.reads cond) (reads-then cond (c.take.ensures.reads cond) (c.rest_of_list.ensures.reads cond))) c.complete.ensures.closes)))

pub paths::first_segment-first_word-requires-clause-begins : goal.paths::first_segment-first_word-requires-clause-begins
paths::first_segment-first_word-requires-clause-begins t c = λ cond. saw-inside c.start-segment.ensures.opens (saw-inside c.start-path.ensures.opens (c.requires.begins cond))

pub paths::first_segment-complete-requires : goal.paths::first_segment-complete-requires
paths::first_segment-complete-requires t c = ((c.opt_args.ensures.reads On).does.innermost _ ((c.first_word.ensures.reads On).does.innermost _ c.start-segment.ensures.marker))

pub paths::first_segment-complete-requires-2 : goal.paths::first_segment-complete-requires-2
paths::first_segment-complete-requires-2 t c = c.complete.ensures.closes.innermost _ ((c.opt_args.ensures.reads On).does.innermost _ ((c.first_word.ensures.reads On).does.innermost _ (c.start-segment.ensures.opens.innermost _ c.start-path.ensures.marker)))

pub paths::first_segment-returns-clause-reads : goal.paths::first_segment-returns-clause-reads
paths::first_segment-returns-clause-reads t c = λ cond. reads-node cond c.start-path.ensures.opens (reads-node cond c.start-segment.ensures.opens (reads-in-place (c.first_word.ensures.reads cond) (c.opt_args.ensures.reads cond)) c.complete.ensures.closes) c.complete-2.ensures.closes

pub paths::expect_segment-complete-requires : goal.paths::expect_segment-complete-requires
paths::expect_segment-complete-requires t c = (c.opt_args.ensures.reads On).does.innermost _ ((c.name_ref.ensures.gives On).does.innermost _ c.start-segment.ensures.marker)

pub paths::expect_segment-returns-then-at_name_ref-clause-reads : goal.paths::expect_segment-returns-then-at_name_ref-clause-reads
unfolding look_of begins_below whole rule items statements expressions patterns types paths there_at shift passes is_silent begins in_mode from_start row one_of any_of no_longer longest is_longer
paths::expect_segment-returns-then-at_name_ref-clause-reads t c = λ cond. reads-here (begun rules.name_ref (saw-so (c.at_name_ref.ensures.sees cond) c.if-at_name_ref.true) nothing) (after-look cond c.at_name_ref.ensures.peeks.same (reads-node cond c.start-segment.ensures.opens (reads-then cond (reads-call cond (c.name_ref.ensures.gives cond)) (c.opt_args.ensures.reads cond)) c.complete.ensures.closes))

pub paths::expect_segment-returns-clause-reads : goal.paths::expect_segment-returns-clause-reads
unfolding look_of begins_below whole rule items statements expressions patterns types paths there_at shift passes is_silent begins in_mode from_start row one_of any_of no_longer longest is_longer
paths::expect_segment-returns-clause-reads t c = λ cond. reads-here (begun rules.name_ref (saw-so (c.at_name_ref.ensures.sees cond) c.if-at_name_ref.false) nothing) (after-look cond c.at_name_ref.ensures.peeks.same (c.error.ensures.reads cond))

pub paths::next_segment-wrap-requires : goal.paths::next_segment-wrap-requires
paths::next_segment-wrap-requires t c = (c.expect_segment.ensures.reads On).does.innermost _ ((c.take_pair.ensures.reads On 0 0).does.innermost _ c.requires.innermost)

pub paths::next_segment-returns-clause-reads : goal.paths::next_segment-returns-clause-reads
paths::next_segment-returns-clause-reads t c = λ cond. reads-wrap cond (reads-then cond (c.take_pair.ensures.reads cond _ _) (c.expect_segment.ensures.reads cond)) c.wrap.ensures.wraps

pub paths::next_segments-turns-preserved : goal.paths::next_segments-turns-preserved
unfolding tokens look_of begins_below whole rule items statements expressions patterns types paths there_at shift passes is_silent begins in_mode from_start row one_of any_of no_longer longest is_longer
paths::next_segments-turns-preserved t c = record {
  marker = c.next_segment-path.ensures.takes.marker;
  goes = λ cond.
      next-turn cond (Unless colons_before_more (PATH <⟨ One '::' ▸ (PATH_SEGMENT ⟨ Ref ▸ args_of c.args.mode ⟩) ! ⟩)) (ends-at-end cond (Unless colons_before_more (PATH <⟨ One '::' ▸ (PATH_SEGMENT ⟨ Ref ▸ args_of c.args.mode ⟩) ! ⟩)) refl) _ _ _ (c.turns.invariant.goes cond) (saw-so (c.at_next_segment.ensures.sees cond) c.turns-test.true)
      (after-look cond c.at_next_segment.ensures.peeks.same (reads-unless cond (c.next_segment-path.ensures.reads cond)))
      (omega (arith, c.next_segment-path.ensures.takes.left, c.at_next_segment.ensures.peeks.left));
  left = omega (arith, c.turns.invariant.left, c.next_segment-path.ensures.takes.left, c.at_next_segment.ensures.peeks.left);
  looks = omega (arith, c.turns.invariant.looks, c.next_segment-path.ensures.takes.looks, c.at_next_segment.ensures.peeks.looks);
}

pub paths::next_segments-returns-clause-reads : goal.paths::next_segments-returns-clause-reads
unfolding look_of begins_below whole rule items statements expressions patterns types paths there_at shift passes is_silent begins in_mode from_start row one_of any_of no_longer longest is_longer
paths::next_segments-returns-clause-reads t c = λ cond. last-turn cond (Unless colons_before_more (PATH <⟨ One '::' ▸ (PATH_SEGMENT ⟨ Ref ▸ args_of c.args.mode ⟩) ! ⟩)) (ends-at-end cond (Unless colons_before_more (PATH <⟨ One '::' ▸ (PATH_SEGMENT ⟨ Ref ▸ args_of c.args.mode ⟩) ! ⟩)) refl) _ _ _ (c.turns.invariant.goes cond) (saw-so (c.at_next_segment.ensures.sees cond) c.turns-test.false) c.at_next_segment.ensures.peeks.same

pub paths::path_with_args-first_segment-requires : goal.paths::path_with_args-first_segment-requires
paths::path_with_args-first_segment-requires t c = (omega arith, (λ cond. saw-inside c.start-frame.ensures.opens (c.requires.begins cond), omega arith))

pub paths::path_with_args-next_segments-frame-requires : goal.paths::path_with_args-next_segments-frame-requires
paths::path_with_args-next_segments-frame-requires t c = (omega arith, (c.first_segment.ensures.reads On).does.innermost _ c.start-frame.ensures.marker)

pub paths::path_with_args-returns-clause-gives : goal.paths::path_with_args-returns-clause-gives
paths::path_with_args-returns-clause-gives t c = λ cond. gives-from_start (subst (λ (r : Rule). FromStart cond r c.args.p.now c.abandon.new.p) (sym (path-row c.args.mode))
    (from_start-completes c.start-frame.ensures.opens (completes-then (c.first_segment.ensures.reads cond) (completes-leave (c.next_segments-frame.ensures.reads cond) c.abandon.ensures.leaves))))

pub paths::paren_args-opt_colons_before_paren-requires : goal.paths::paren_args-opt_colons_before_paren-requires
paths::paren_args-opt_colons_before_paren-requires t c = record { begins = record { sees = λ d. saw-inside c.start-list.ensures.opens (c.requires.begins.sees d); some = omega (arith, c.requires.begins.some, c.start-list.ensures.stays.left) } }

pub paths::paren_args-complete-requires : goal.paths::paren_args-complete-requires
paths::paren_args-complete-requires t c = (c.rest_of_list.ensures.reads On).does.innermost _ ((c.take.ensures.reads On).does.innermost _ ((c.opt_colons_before_paren.ensures.reads On).does.innermost _ c.start-list.ensures.marker))

pub paths::paren_args-returns-clause-reads : goal.paths::paren_args-returns-clause-reads
paths::paren_args-returns-clause-reads t c = λ cond. reads-node cond c.start-list.ensures.opens (reads-then cond (c.opt_colons_before_paren.ensures.reads cond) (reads-then cond (c.take.ensures.reads cond) (c.rest_of_list.ensures.reads cond))) c.complete.ensures.closes

pub paths::opt_type_args-fn_args-requires : goal.paths::opt_type_args-fn_args-requires
paths::opt_type_args-fn_args-requires t c = (omega arith, record { sees = λ d. saw-after c.at_fn_args.ensures.peeks.same (saw-so (c.at_fn_args.ensures.sees d) c.if-at_fn_args.true); some = omega (arith, c.at_fn_args.ensures.some c.if-at_fn_args.true, c.at_fn_args.ensures.peeks.left) })

pub paths::opt_type_args-returns-then-at_fn_args-clause-reads : goal.paths::opt_type_args-returns-then-at_fn_args-clause-reads
unfolding look_of begins_below whole rule items statements expressions patterns types paths there_at shift passes is_silent begins in_mode from_start row one_of any_of no_longer longest is_longer
paths::opt_type_args-returns-then-at_fn_args-clause-reads t c = λ cond. reads-here (saw-so (c.at_fn_args.ensures.sees cond) c.if-at_fn_args.true and nothing) (after-look _ c.at_fn_args.ensures.peeks.same (c.fn_args.ensures.reads cond))

pub paths::opt_type_args-generic_args-requires : goal.paths::opt_type_args-generic_args-requires
paths::opt_type_args-generic_args-requires t c = (omega arith, (λ cond. saw-after c.at_args.ensures.peeks.same (args-begin modes.Type (saw-so (c.at_args.ensures.sees cond) c.if-at_args.true)), omega (arith, c.at_args.ensures.some c.if-at_args.true, c.at_args.ensures.peeks.left)))

pub paths::opt_type_args-returns-then-at_args-clause-reads : goal.paths::opt_type_args-returns-then-at_args-clause-reads
unfolding look_of begins_below whole rule items statements expressions patterns types paths there_at shift passes is_silent begins in_mode from_start row one_of any_of no_longer longest is_longer
paths::opt_type_args-returns-then-at_args-clause-reads t c = λ cond. reads-here (saw-so (c.at_fn_args.ensures.sees cond) c.if-at_fn_args.false and saw-before c.at_fn_args.ensures.peeks.same (saw-so (c.at_args.ensures.sees cond) c.if-at_args.true) and nothing) (after-look _ c.at_fn_args.ensures.peeks.same (after-look _ c.at_args.ensures.peeks.same (reads-call _ (c.generic_args.ensures.gives cond))))

pub paths::opt_type_args-returns-else-at_args-clause-reads : goal.paths::opt_type_args-returns-else-at_args-clause-reads
unfolding look_of begins_below whole rule items statements expressions patterns types paths there_at shift passes is_silent begins in_mode from_start row one_of any_of no_longer longest is_longer
paths::opt_type_args-returns-else-at_args-clause-reads t c = λ cond. reads-here (saw-so (c.at_fn_args.ensures.sees cond) c.if-at_fn_args.false and saw-before c.at_fn_args.ensures.peeks.same (saw-so (c.at_args.ensures.sees cond) c.if-at_args.false) and nothing) (reads-nothing _ (does-then c.at_fn_args.ensures.peeks.same c.at_args.ensures.peeks.same))

pub paths::opt_args-returns-in-Expr-clause-reads : goal.paths::opt_args-returns-in-Expr-clause-reads
paths::opt_args-returns-in-Expr-clause-reads t c = λ cond. rw c.in-Expr.is (c.opt_expr_args.ensures.reads cond)

pub paths::opt_args-returns-in-Type-clause-reads : goal.paths::opt_args-returns-in-Type-clause-reads
paths::opt_args-returns-in-Type-clause-reads t c = λ cond. rw c.in-Type.is (c.opt_type_args.ensures.reads cond)

pub paths::opt_expr_args-generic_args-requires : goal.paths::opt_expr_args-generic_args-requires
paths::opt_expr_args-generic_args-requires t c = (omega arith, (λ cond. saw-after c.at_args.ensures.peeks.same (args-begin modes.Expr (saw-so (c.at_args.ensures.sees cond) c.if-at_args.true)), omega (arith, c.at_args.ensures.some c.if-at_args.true, c.at_args.ensures.peeks.left)))

pub paths::opt_expr_args-returns-then-at_args-clause-reads : goal.paths::opt_expr_args-returns-then-at_args-clause-reads
unfolding look_of begins_below whole rule items statements expressions patterns types paths there_at shift passes is_silent begins in_mode from_start row one_of any_of no_longer longest is_longer
paths::opt_expr_args-returns-then-at_args-clause-reads t c = λ cond. reads-here (saw-so (c.at_args.ensures.sees cond) c.if-at_args.true and nothing) (after-look _ c.at_args.ensures.peeks.same (reads-call _ (c.generic_args.ensures.gives cond)))

pub paths::opt_expr_args-returns-else-at_args-clause-reads : goal.paths::opt_expr_args-returns-else-at_args-clause-reads
unfolding look_of begins_below whole rule items statements expressions patterns types paths there_at shift passes is_silent begins in_mode from_start row one_of any_of no_longer longest is_longer
paths::opt_expr_args-returns-else-at_args-clause-reads t c = λ cond. reads-here (saw-so (c.at_args.ensures.sees cond) c.if-at_args.false and nothing) (reads-nothing _ c.at_args.ensures.peeks.same)

pub paths::qualified_path-next_segments-requires : goal.paths::qualified_path-next_segments-requires
paths::qualified_path-next_segments-requires t c = (omega arith, (c.qualifier.ensures.reads On).does.innermost _ c.requires.innermost)

pub paths::qualified_path-returns-clause-reads : goal.paths::qualified_path-returns-clause-reads
paths::qualified_path-returns-clause-reads t c = λ cond. reads-then _ (c.qualifier.ensures.reads cond) (c.next_segments.ensures.reads cond)

pub paths::qualifier-complete-requires : goal.paths::qualifier-complete-requires
paths::qualifier-complete-requires t c = (c.anchor.ensures.reads On).does.innermost _ c.start-segment.ensures.marker

pub paths::qualifier-complete-requires-2 : goal.paths::qualifier-complete-requires-2
paths::qualifier-complete-requires-2 t c = c.complete.ensures.closes.innermost _ ((c.anchor.ensures.reads On).does.innermost _ (c.start-segment.ensures.opens.innermost _ c.start-path.ensures.marker))

pub paths::qualifier-returns-clause-reads : goal.paths::qualifier-returns-clause-reads
paths::qualifier-returns-clause-reads t c = λ cond. reads-node cond c.start-path.ensures.opens (reads-node cond c.start-segment.ensures.opens (c.anchor.ensures.reads cond) c.complete.ensures.closes) c.complete-2.ensures.closes

pub paths::anchor-complete-requires : goal.paths::anchor-complete-requires
paths::anchor-complete-requires t c = (c.expect.ensures.reads On).does.innermost _ ((c.opt_as_trait.ensures.reads On).does.innermost _ ((c.expect_part.ensures.reads On).does.innermost _ ((c.take.ensures.reads On).does.innermost _ c.start-node.ensures.marker)))

pub paths::anchor-returns-clause-reads : goal.paths::anchor-returns-clause-reads
paths::anchor-returns-clause-reads t c = λ cond. reads-node _ c.start-node.ensures.opens (reads-then _ (c.take.ensures.reads cond) (reads-then _ (c.expect_part.ensures.reads cond) (reads-then _ (c.opt_as_trait.ensures.reads cond) (c.expect.ensures.reads cond)))) c.complete.ensures.closes

pub paths::opt_as_trait-returns-then-at-clause-reads : goal.paths::opt_as_trait-returns-then-at-clause-reads
unfolding look_of begins_below whole rule items statements expressions patterns types paths there_at shift passes is_silent begins in_mode from_start row one_of any_of no_longer longest is_longer
paths::opt_as_trait-returns-then-at-clause-reads t c = λ cond. reads-opt _ (saw-so (c.at.ensures.sees cond) c.if-at.true) (after-look _ c.at.ensures.peeks.same (reads-then _ (c.take.ensures.reads cond) (c.expect_part.ensures.reads cond)))

pub paths::opt_as_trait-returns-else-at-clause-reads : goal.paths::opt_as_trait-returns-else-at-clause-reads
unfolding look_of begins_below whole rule items statements expressions patterns types paths there_at shift passes is_silent begins in_mode from_start row one_of any_of no_longer longest is_longer
paths::opt_as_trait-returns-else-at-clause-reads t c = λ cond. reads-none _ (saw-so (c.at.ensures.sees cond) c.if-at.false) c.at.ensures.peeks.same

pub paths::fn_args-returns-then-at_dots_args-clause-reads : goal.paths::fn_args-returns-then-at_dots_args-clause-reads
unfolding look_of begins_below whole rule items statements expressions patterns types paths there_at shift passes is_silent begins in_mode from_start row one_of any_of no_longer longest is_longer
paths::fn_args-returns-then-at_dots_args-clause-reads t c = λ cond. reads-here (saw-so (c.at_dots_args.ensures.sees cond) c.if-at_dots_args.true and saw-left (saw-so (c.at_dots_args.ensures.sees cond) c.if-at_dots_args.true) and nothing) (after-look cond c.at_dots_args.ensures.peeks.same (c.dots_args.ensures.reads cond))

pub paths::fn_args-returns-then-at_colons_dots_args-clause-reads : goal.paths::fn_args-returns-then-at_colons_dots_args-clause-reads
unfolding look_of begins_below whole rule items statements expressions patterns types paths there_at shift passes is_silent begins in_mode from_start row one_of any_of no_longer longest is_longer
paths::fn_args-returns-then-at_colons_dots_args-clause-reads t c = λ cond. reads-here (saw-so (c.at_dots_args.ensures.sees cond) c.if-at_dots_args.false and saw-before c.at_dots_args.ensures.peeks.same (saw-so (c.at_colons_dots_args.ensures.sees cond) c.if-at_colons_dots_args.true) and saw-left (saw-before c.at_dots_args.ensures.peeks.same (saw-so (c.at_colons_dots_args.ensures.sees cond) c.if-at_colons_dots_args.true)) and nothing) (after-look cond c.at_dots_args.ensures.peeks.same (after-look cond c.at_colons_dots_args.ensures.peeks.same (c.colons_dots_args.ensures.reads cond)))

pub paths::fn_args-returns-clause-reads : goal.paths::fn_args-returns-clause-reads
unfolding look_of begins_below whole rule items statements expressions patterns types paths there_at shift passes is_silent begins in_mode from_start row one_of any_of no_longer longest is_longer
paths::fn_args-returns-clause-reads t c = λ cond. reads-here (saw-so (c.at_dots_args.ensures.sees cond) c.if-at_dots_args.false and saw-before c.at_dots_args.ensures.peeks.same (saw-so (c.at_colons_dots_args.ensures.sees cond) c.if-at_colons_dots_args.false) and nothing) (after-look cond c.at_dots_args.ensures.peeks.same (after-look cond c.at_colons_dots_args.ensures.peeks.same (reads-then cond (c.paren_args.ensures.reads cond) (c.opt_ret_type.ensures.reads cond))))

pub paths::fn_args-paren_args-requires : goal.paths::fn_args-paren_args-requires
paths::fn_args-paren_args-requires t c = (omega arith, record { sees = λ d. saw-after c.at_colons_dots_args.ensures.peeks.same (saw-after c.at_dots_args.ensures.peeks.same (c.requires.begins.sees d)); some = omega (arith, c.requires.begins.some, c.at_dots_args.ensures.peeks.left, c.at_colons_dots_args.ensures.peeks.left) })

-- Types, arm by arm.
use Rattle.std.proofs.Common.{true, refl, subst, arith}
use Rattle.rust_grammar.specs.Rule as rules
use Rattle.parser_input.specs.Kinds as kinds
use Rattle.rust_grammar.specs.Rule.{Kind, Look}
use Rattle.rust_grammar.specs.Expressions.{expressions}
use Rattle.rust_grammar.specs.Items.{items}
use Rattle.rust_grammar.specs.Meaning.{begins_below, look_of}
use Rattle.rust_grammar.specs.Notation.{wide, any_of, is_longer, no_longer, longest, one_of, row}
use Rattle.rust_grammar.specs.Paths.{path_begins, paths}
use Rattle.rust_grammar.specs.Patterns.{patterns}
use Rattle.rust_grammar.specs.Rule.{begins, in_mode, from_start, is_silent, passes, shift, there_at}
use Rattle.rust_grammar.specs.Statements.{statements}
use Rattle.rust_grammar.specs.Types.{fn_ptr_begins, for_or_path_begins, front_path_begins, new_type_begins, types}
use Rattle.rust_grammar.specs.Whole.{rule, whole}
use Rattle.grammar_reader.specs.declared.grammar.paths.Mode.TheVariants as modes
use Rattle.grammar_reader.proofs.PathArgs.{as-word, paths-begin}
use Rattle.grammar_reader.proofs.Seeing.{fn-ptr-begins, saw-without}
use Rattle.rust_productions.specs.Reads.{looks, Saw}
use Rattle.rust_productions.specs.declared.condition.Condition.TheVariants.{On}
use Rattle.rust_productions.proofs.Begins.{saw-begun-path}
use Rattle.rust_productions.proofs.ByHand.{after-look, completes-leave, does-nothing, goes, reads-call, reads-mode, reads-more, reads-node, reads-none, reads-nothing, reads-opt, reads-or, reads-then, reads-wrap}
use Rattle.rust_productions.proofs.Choices.{from_start-after, from_start-completes, gives-from_start, reads-here}
use Rattle.rust_productions.proofs.Facts.{begun, nothing, saw-so, ◌and◌}
use Rattle.rust_productions.proofs.Looking.{saw-arm, saw-not}
use Rattle.rust_productions.proofs.Seen.{begins-else, saw-after, saw-before, saw-else, saw-inside, saw-none}
use Rattle.grammar_reader.proofs.grammar.+grammar.Goals as goal

pub types::any_type-returns-clause-gives : goal.types::any_type-returns-clause-gives
types::any_type-returns-clause-gives t c = λ cond. gives-from_start (from_start-completes c.start-frame.ensures.opens (completes-leave (c.inside-frame.ensures.reads cond) c.abandon.ensures.leaves))

pub types::inside-returns-in-L_PAREN-clause-reads : goal.types::inside-returns-in-L_PAREN-clause-reads
unfolding look_of begins_below whole rule items statements expressions patterns types paths there_at shift passes is_silent begins in_mode from_start row one_of any_of no_longer longest is_longer
types::inside-returns-in-L_PAREN-clause-reads t c = λ cond. reads-here (saw-arm c.in-L_PAREN.is (c.current.ensures.sees cond) and nothing) (after-look _ c.current.ensures.peeks.same (c.paren_type.ensures.reads cond))

pub types::inside-returns-in-L_BRACK-clause-reads : goal.types::inside-returns-in-L_BRACK-clause-reads
unfolding look_of begins_below whole rule items statements expressions patterns types paths there_at shift passes is_silent begins in_mode from_start row one_of any_of no_longer longest is_longer
types::inside-returns-in-L_BRACK-clause-reads t c = λ cond. reads-here (saw-arm c.in-L_BRACK.is (c.current.ensures.sees cond) and nothing) (after-look _ c.current.ensures.peeks.same (c.bracket_type.ensures.reads cond))

pub types::inside-returns-in-BANG-clause-reads : goal.types::inside-returns-in-BANG-clause-reads
unfolding look_of begins_below whole rule items statements expressions patterns types paths there_at shift passes is_silent begins in_mode from_start row one_of any_of no_longer longest is_longer
types::inside-returns-in-BANG-clause-reads t c = λ cond. reads-here (saw-arm c.in-BANG.is (c.current.ensures.sees cond) and nothing) (after-look _ c.current.ensures.peeks.same (c.word_type.ensures.reads cond))

pub types::inside-returns-in-UNDERSCORE-clause-reads : goal.types::inside-returns-in-UNDERSCORE-clause-reads
unfolding look_of begins_below whole rule items statements expressions patterns types paths there_at shift passes is_silent begins in_mode from_start row one_of any_of no_longer longest is_longer
types::inside-returns-in-UNDERSCORE-clause-reads t c = λ cond. reads-here (saw-arm c.in-UNDERSCORE.is (c.current.ensures.sees cond) and nothing) (after-look _ c.current.ensures.peeks.same (c.word_type-in-UNDERSCORE.ensures.reads cond))

pub types::inside-returns-in-STAR-clause-reads : goal.types::inside-returns-in-STAR-clause-reads
unfolding look_of begins_below whole rule items statements expressions patterns types paths there_at shift passes is_silent begins in_mode from_start row one_of any_of no_longer longest is_longer
types::inside-returns-in-STAR-clause-reads t c = λ cond. reads-here (saw-arm c.in-STAR.is (c.current.ensures.sees cond) and nothing) (after-look _ c.current.ensures.peeks.same (c.ptr_type.ensures.reads cond))

pub types::inside-returns-in-AMP-clause-reads : goal.types::inside-returns-in-AMP-clause-reads
unfolding look_of begins_below whole rule items statements expressions patterns types paths there_at shift passes is_silent begins in_mode from_start row one_of any_of no_longer longest is_longer
types::inside-returns-in-AMP-clause-reads t c = λ cond. reads-here (saw-arm c.in-AMP.is (c.current.ensures.sees cond) and nothing) (after-look _ c.current.ensures.peeks.same (c.ref_type.ensures.reads cond))

pub types::inside-returns-in-IMPL_KW-clause-reads : goal.types::inside-returns-in-IMPL_KW-clause-reads
unfolding look_of begins_below whole rule items statements expressions patterns types paths there_at shift passes is_silent begins in_mode from_start row one_of any_of no_longer longest is_longer
types::inside-returns-in-IMPL_KW-clause-reads t c = λ cond. reads-here (saw-arm c.in-IMPL_KW.is (c.current.ensures.sees cond) and nothing) (after-look _ c.current.ensures.peeks.same (c.bounded_type.ensures.reads cond))

pub types::inside-returns-in-DYN_KW-clause-reads : goal.types::inside-returns-in-DYN_KW-clause-reads
unfolding look_of begins_below whole rule items statements expressions patterns types paths there_at shift passes is_silent begins in_mode from_start row one_of any_of no_longer longest is_longer
types::inside-returns-in-DYN_KW-clause-reads t c = λ cond. reads-here (saw-arm c.in-DYN_KW.is (c.current.ensures.sees cond) and nothing) (after-look _ c.current.ensures.peeks.same (c.bounded_type-in-DYN_KW.ensures.reads cond))

pub types::inside-returns-in-BANG-clause-takes : goal.types::inside-returns-in-BANG-clause-takes
types::inside-returns-in-BANG-clause-takes t c = record {
  left = omega arith;
  looks = omega arith;
  marker = (c.word_type.ensures.reads On).does.innermost _ (c.current.ensures.peeks.same.innermost _ c.requires.innermost);
}

pub types::inside-returns-in-UNDERSCORE-clause-takes : goal.types::inside-returns-in-UNDERSCORE-clause-takes
types::inside-returns-in-UNDERSCORE-clause-takes t c = record {
  left = omega arith;
  looks = omega arith;
  marker = (c.word_type-in-UNDERSCORE.ensures.reads On).does.innermost _ (c.current.ensures.peeks.same.innermost _ c.requires.innermost);
}

pub types::inside-returns-then-at_dyn_word : goal.types::inside-returns-then-at_dyn_word
unfolding look_of begins_below whole rule items statements expressions patterns types paths there_at shift passes is_silent begins in_mode from_start row one_of any_of no_longer longest is_longer
types::inside-returns-then-at_dyn_word t c = record {
  reads = λ cond. reads-here (saw-not c.in_default.not-L_PAREN (c.current.ensures.sees cond) and saw-not c.in_default.not-L_BRACK (c.current.ensures.sees cond) and saw-not c.in_default.not-BANG (c.current.ensures.sees cond) and saw-not c.in_default.not-UNDERSCORE (c.current.ensures.sees cond) and saw-not c.in_default.not-STAR (c.current.ensures.sees cond) and saw-not c.in_default.not-AMP (c.current.ensures.sees cond) and saw-not c.in_default.not-IMPL_KW (c.current.ensures.sees cond) and saw-not c.in_default.not-DYN_KW (c.current.ensures.sees cond) and saw-before c.current.ensures.peeks.same (saw-so (c.at_dyn_word.ensures.sees cond) c.if-at_dyn_word.true) and nothing) (after-look _ c.current.ensures.peeks.same (after-look _ c.at_dyn_word.ensures.peeks.same (as-word (c.bounded_type-then-at_dyn_word.ensures.reads cond))));
  takes = record {
    left = omega (arith, c.bounded_type-then-at_dyn_word.ensures.takes.left, c.at_dyn_word.ensures.peeks.left, c.current.ensures.peeks.left);
    looks = omega (arith, c.bounded_type-then-at_dyn_word.ensures.takes.looks, c.at_dyn_word.ensures.peeks.looks, c.current.ensures.peeks.looks);
    marker = (c.bounded_type-then-at_dyn_word.ensures.reads On).does.innermost _ (c.at_dyn_word.ensures.peeks.same.innermost _ (c.current.ensures.peeks.same.innermost _ c.requires.innermost));
  };
}

pub types::bounded_type-complete-requires : goal.types::bounded_type-complete-requires
types::bounded_type-complete-requires t c = (c.bounds.ensures.gives On).does.innermost _ ((c.take.ensures.reads On).does.innermost _ c.start-node.ensures.marker)

pub types::bounded_type-returns-clause-reads : goal.types::bounded_type-returns-clause-reads
types::bounded_type-returns-clause-reads t c = λ cond. reads-node cond c.start-node.ensures.opens (reads-then cond (c.take.ensures.reads cond) (reads-call cond (c.bounds.ensures.gives cond))) c.complete.ensures.closes

pub types::inside-returns-in-IMPL_KW-clause-takes : goal.types::inside-returns-in-IMPL_KW-clause-takes
types::inside-returns-in-IMPL_KW-clause-takes t c = record {
  left = omega arith;
  looks = omega arith;
  marker = (c.bounded_type.ensures.reads On).does.innermost _ (c.current.ensures.peeks.same.innermost _ c.requires.innermost);
}

pub types::inside-returns-in-DYN_KW-clause-takes : goal.types::inside-returns-in-DYN_KW-clause-takes
types::inside-returns-in-DYN_KW-clause-takes t c = record {
  left = omega arith;
  looks = omega arith;
  marker = (c.bounded_type-in-DYN_KW.ensures.reads On).does.innermost _ (c.current.ensures.peeks.same.innermost _ c.requires.innermost);
}

pub types::path_type-path_with_args-requires : goal.types::path_type-path_with_args-requires
types::path_type-path_with_args-requires t c = (omega arith, (λ d. saw-inside c.start-node.ensures.opens (c.requires.begins d), omega arith))

pub types::path_type-complete-requires : goal.types::path_type-complete-requires
types::path_type-complete-requires t c = (c.path_with_args.ensures.gives On).does.innermost _ c.start-node.ensures.marker

pub types::path_type-returns-clause-reads : goal.types::path_type-returns-clause-reads
types::path_type-returns-clause-reads t c = λ cond. reads-node cond c.start-node.ensures.opens (reads-call cond (c.path_with_args.ensures.gives cond)) c.complete.ensures.closes

pub types::ptr_type-complete-requires : goal.types::ptr_type-complete-requires
types::ptr_type-complete-requires t c = (c.expect_part.ensures.reads On).does.innermost _ ((c.const_or_mut.ensures.reads On).does.innermost _ ((c.take.ensures.reads On).does.innermost _ c.start-node.ensures.marker))

pub types::ptr_type-returns-clause-reads : goal.types::ptr_type-returns-clause-reads
types::ptr_type-returns-clause-reads t c = λ cond. reads-node _ c.start-node.ensures.opens (reads-then _ (c.take.ensures.reads cond) (reads-then _ (c.const_or_mut.ensures.reads cond) (c.expect_part.ensures.reads cond))) c.complete.ensures.closes

pub types::ref_type-complete-requires : goal.types::ref_type-complete-requires
types::ref_type-complete-requires t c = (c.expect_part.ensures.reads On).does.innermost _ ((c.eat.ensures.reads On).does.innermost _ ((c.opt_lifetime.ensures.reads On).does.innermost _ ((c.take.ensures.reads On).does.innermost _ c.start-node.ensures.marker)))

pub types::ref_type-returns-clause-reads : goal.types::ref_type-returns-clause-reads
types::ref_type-returns-clause-reads t c = λ cond. reads-node _ c.start-node.ensures.opens (reads-then _ (c.take.ensures.reads cond) (reads-then _ (c.opt_lifetime.ensures.reads cond) (reads-then _ (c.eat.ensures.reads cond) (c.expect_part.ensures.reads cond)))) c.complete.ensures.closes

pub types::paren_type-after_paren-requires : goal.types::paren_type-after_paren-requires
types::paren_type-after_paren-requires t c = (omega arith, (c.take.ensures.reads On).does.innermost _ c.requires.innermost)

pub types::paren_type-returns-clause-reads : goal.types::paren_type-returns-clause-reads
types::paren_type-returns-clause-reads t c = λ cond. reads-then _ (c.take.ensures.reads cond) (c.after_paren.ensures.reads cond)

pub types::after_paren-wrap-requires : goal.types::after_paren-wrap-requires
types::after_paren-wrap-requires t c = (c.take.ensures.reads On).does.innermost _ (c.at.ensures.peeks.same.innermost _ c.requires.innermost)

pub types::after_paren-returns-then-at-clause-reads : goal.types::after_paren-returns-then-at-clause-reads
unfolding look_of begins_below whole rule items statements expressions patterns types paths there_at shift passes is_silent begins in_mode from_start row one_of any_of no_longer longest is_longer
types::after_paren-returns-then-at-clause-reads t c = λ cond. reads-here (saw-so (c.at.ensures.sees cond) c.if-at.true and nothing) (after-look _ c.at.ensures.peeks.same (reads-wrap _ (c.take.ensures.reads cond) c.wrap.ensures.wraps))

pub types::after_paren-returns-clause-reads : goal.types::after_paren-returns-clause-reads
unfolding look_of begins_below whole rule items statements expressions patterns types paths there_at shift passes is_silent begins in_mode from_start row one_of any_of no_longer longest is_longer
types::after_paren-returns-clause-reads t c = λ cond. reads-here (saw-so (c.at.ensures.sees cond) c.if-at.false and nothing) (after-look _ c.at.ensures.peeks.same (reads-then _ (c.expect_part.ensures.reads cond) (c.tuple_tail.ensures.reads cond)))

pub types::bracket_type-after_element-requires : goal.types::bracket_type-after_element-requires
types::bracket_type-after_element-requires t c = (omega arith, (c.expect_part.ensures.reads On).does.innermost _ ((c.take.ensures.reads On).does.innermost _ c.requires.innermost))

pub types::bracket_type-returns-clause-reads : goal.types::bracket_type-returns-clause-reads
types::bracket_type-returns-clause-reads t c = λ cond. reads-then _ (c.take.ensures.reads cond) (reads-then _ (c.expect_part.ensures.reads cond) (c.after_element.ensures.reads cond))

pub types::after_element-wrap-requires : goal.types::after_element-wrap-requires
types::after_element-wrap-requires t c = (c.expect.ensures.reads On).does.innermost _ ((c.array_length.ensures.reads On).does.innermost _ ((c.take.ensures.reads On).does.innermost _ (c.at.ensures.peeks.same.innermost _ c.requires.innermost)))

pub types::after_element-wrap-requires-2 : goal.types::after_element-wrap-requires-2
types::after_element-wrap-requires-2 t c = (c.expect-2.ensures.reads On).does.innermost _ (c.at.ensures.peeks.same.innermost _ c.requires.innermost)

pub types::after_element-returns-then-at-clause-reads : goal.types::after_element-returns-then-at-clause-reads
unfolding look_of begins_below whole rule items statements expressions patterns types paths there_at shift passes is_silent begins in_mode from_start row one_of any_of no_longer longest is_longer
types::after_element-returns-then-at-clause-reads t c = λ cond. reads-here (saw-so (c.at.ensures.sees cond) c.if-at.true and nothing) (after-look cond c.at.ensures.peeks.same (reads-wrap cond (reads-then cond (c.take.ensures.reads cond) (reads-then cond (c.array_length.ensures.reads cond) (c.expect.ensures.reads cond))) c.wrap.ensures.wraps))

pub types::after_element-returns-clause-reads : goal.types::after_element-returns-clause-reads
unfolding look_of begins_below whole rule items statements expressions patterns types paths there_at shift passes is_silent begins in_mode from_start row one_of any_of no_longer longest is_longer
types::after_element-returns-clause-reads t c = λ cond. reads-here (saw-so (c.at.ensures.sees cond) c.if-at.false and nothing) (after-look cond c.at.ensures.peeks.same (reads-wrap cond (c.expect-2.ensures.reads cond) c.wrap-2.ensures.wraps))

pub types::array_length-returns-clause-reads : goal.types::array_length-returns-clause-reads
types::array_length-returns-clause-reads t c = λ cond. reads-node cond c.start-node.ensures.opens (reads-mode cond c.expect_expression.ensures.reads) c.complete.ensures.closes

pub types::ret_type-complete-requires : goal.types::ret_type-complete-requires
types::ret_type-complete-requires t c = (c.expect_part.ensures.reads On).does.innermost _ ((c.take_pair.ensures.reads On 0 0).does.innermost _ c.start-node.ensures.marker)

pub types::ret_type-returns-clause-gives : goal.types::ret_type-returns-clause-gives
unfolding look_of begins_below whole rule items statements expressions patterns types paths there_at shift passes is_silent begins in_mode from_start row one_of any_of no_longer longest is_longer
types::ret_type-returns-clause-gives t c = λ cond. gives-from_start (from_start-after refl (reads-node _ c.start-node.ensures.opens (reads-then _ (c.take_pair.ensures.reads cond _ _) (c.expect_part.ensures.reads cond)) c.complete.ensures.closes))

pub types::opt_type_after-returns-then-at-clause-reads : goal.types::opt_type_after-returns-then-at-clause-reads
unfolding look_of begins_below whole rule items statements expressions patterns types paths there_at shift passes is_silent begins in_mode from_start row one_of any_of no_longer longest is_longer
types::opt_type_after-returns-then-at-clause-reads t c = λ cond. reads-opt _ (saw-so (c.at.ensures.sees cond) c.if-at.true) (after-look _ c.at.ensures.peeks.same (reads-then _ (c.take.ensures.reads cond) (c.expect_part.ensures.reads cond)))

pub types::opt_type_after-returns-else-at-clause-reads : goal.types::opt_type_after-returns-else-at-clause-reads
unfolding look_of begins_below whole rule items statements expressions patterns types paths there_at shift passes is_silent begins in_mode from_start row one_of any_of no_longer longest is_longer
types::opt_type_after-returns-else-at-clause-reads t c = λ cond. reads-none _ (saw-so (c.at.ensures.sees cond) c.if-at.false) c.at.ensures.peeks.same

pub types::opt_ret_type-returns-then-at_pair-clause-reads : goal.types::opt_ret_type-returns-then-at_pair-clause-reads
unfolding look_of begins_below whole rule items statements expressions patterns types paths there_at shift passes is_silent begins in_mode from_start row one_of any_of no_longer longest is_longer
types::opt_ret_type-returns-then-at_pair-clause-reads t c = λ cond. reads-here (saw-so (c.at_pair.ensures.sees cond) c.if-at_pair.true and nothing) (after-look _ c.at_pair.ensures.peeks.same (reads-call _ (c.ret_type.ensures.gives _)))

pub types::opt_ret_type-returns-else-at_pair-clause-reads : goal.types::opt_ret_type-returns-else-at_pair-clause-reads
unfolding look_of begins_below whole rule items statements expressions patterns types paths there_at shift passes is_silent begins in_mode from_start row one_of any_of no_longer longest is_longer
types::opt_ret_type-returns-else-at_pair-clause-reads t c = λ cond. reads-here (saw-so (c.at_pair.ensures.sees cond) c.if-at_pair.false and nothing) (reads-nothing _ c.at_pair.ensures.peeks.same)

pub types::type_no_bounds-bare_or_any-frame-requires : goal.types::type_no_bounds-bare_or_any-frame-requires
types::type_no_bounds-bare_or_any-frame-requires t c = (omega arith, (record { sees = λ d. saw-inside c.start-frame.ensures.opens (c.requires.begins.sees d); some = omega (arith, c.requires.begins.some, c.start-frame.ensures.stays.left) }, c.start-frame.ensures.marker))

pub types::type_no_bounds-returns-clause-gives : goal.types::type_no_bounds-returns-clause-gives
types::type_no_bounds-returns-clause-gives t c = λ cond. gives-from_start (from_start-completes c.start-frame.ensures.opens (completes-leave (c.bare_or_any-frame.ensures.reads cond) c.abandon.ensures.leaves))

pub types::bare_or_any-for_or_path-requires : goal.types::bare_or_any-for_or_path-requires
types::bare_or_any-for_or_path-requires t c = (omega arith, (record { sees = λ d. saw-after c.at_bare_type.ensures.peeks.same (c.at_bare_type.ensures.front c.if-at_bare_type.true d); some = omega (arith, c.at_bare_type.ensures.some c.if-at_bare_type.true, c.at_bare_type.ensures.peeks.left) }, c.at_bare_type.ensures.peeks.same.innermost _ c.requires.innermost))

pub types::bare_or_any-inside-requires : goal.types::bare_or_any-inside-requires
unfolding look_of begins_below whole rule items statements expressions patterns types paths there_at shift passes is_silent begins in_mode from_start row one_of any_of no_longer longest is_longer
types::bare_or_any-inside-requires t c = (omega arith, (record { sees = λ d. saw-after c.at_bare_type.ensures.peeks.same (saw-else (looks rules.any_type) (looks rules.type_no_bounds) (saw-so (c.at_bare_type.ensures.sees d) c.if-at_bare_type.false and nothing) (c.requires.begins.sees d) refl); some = omega (arith, c.requires.begins.some, c.at_bare_type.ensures.peeks.left) }, c.at_bare_type.ensures.peeks.same.innermost _ c.requires.innermost))

pub types::bare_or_any-returns-then-at_bare_type-clause-reads : goal.types::bare_or_any-returns-then-at_bare_type-clause-reads
unfolding look_of begins_below whole rule items statements expressions patterns types paths there_at shift passes is_silent begins in_mode from_start row one_of any_of no_longer longest is_longer
types::bare_or_any-returns-then-at_bare_type-clause-reads t c = λ cond. reads-here (saw-so (c.at_bare_type.ensures.sees cond) c.if-at_bare_type.true and nothing) (after-look _ c.at_bare_type.ensures.peeks.same (c.for_or_path.ensures.reads cond))

pub types::bare_or_any-returns-clause-reads : goal.types::bare_or_any-returns-clause-reads
unfolding look_of begins_below whole rule items statements expressions patterns types paths there_at shift passes is_silent begins in_mode from_start row one_of any_of no_longer longest is_longer
types::bare_or_any-returns-clause-reads t c = λ cond. reads-here (saw-so (c.at_bare_type.ensures.sees cond) c.if-at_bare_type.false and nothing) (after-look _ c.at_bare_type.ensures.peeks.same (reads-more _ (goes rules.any_type _ (c.inside.ensures.reads cond))))

pub types::for_or_path-returns-then-at-clause-reads : goal.types::for_or_path-returns-then-at-clause-reads
unfolding look_of begins_below whole rule items statements expressions patterns types paths there_at shift passes is_silent begins in_mode from_start row one_of any_of no_longer longest is_longer
types::for_or_path-returns-then-at-clause-reads t c = λ cond. reads-or _ (saw-so (c.at.ensures.sees cond) c.if-at.true) (after-look _ c.at.ensures.peeks.same (c.for_type.ensures.reads cond))

pub types::for_or_path-returns-then-at-clause-takes : goal.types::for_or_path-returns-then-at-clause-takes
types::for_or_path-returns-then-at-clause-takes t c = record {
  left = omega (arith, c.for_type.ensures.takes.left, c.at.ensures.peeks.left);
  looks = omega (arith, c.for_type.ensures.takes.looks, c.at.ensures.peeks.looks);
  marker = (c.for_type.ensures.reads On).does.innermost _ (c.at.ensures.peeks.same.innermost _ c.requires.innermost);
}

pub types::for_or_path-front_path-frame-requires : goal.types::for_or_path-front_path-frame-requires
unfolding look_of begins_below whole rule items statements expressions patterns types paths there_at shift passes is_silent begins in_mode from_start row one_of any_of no_longer longest is_longer
types::for_or_path-front_path-frame-requires t c = (omega arith, (record { sees = λ d. saw-after c.at.ensures.peeks.same (saw-else front_path_begins for_or_path_begins (saw-so (c.at.ensures.sees d) c.if-at.false and nothing) (c.requires.begins.sees d) refl); some = omega (arith, c.requires.begins.some, c.at.ensures.peeks.left) }, c.at.ensures.peeks.same.innermost _ c.requires.innermost))

pub types::for_or_path-returns-clause-reads : goal.types::for_or_path-returns-clause-reads
unfolding look_of begins_below whole rule items statements expressions patterns types paths there_at shift passes is_silent begins in_mode from_start row one_of any_of no_longer longest is_longer
types::for_or_path-returns-clause-reads t c = λ cond. reads-here (saw-so (c.at.ensures.sees cond) c.if-at.false and nothing) (after-look _ c.at.ensures.peeks.same (reads-then _ (c.front_path-frame.ensures.reads cond) (c.type_of_path.ensures.reads cond)))

pub types::front_path-qualified_path-requires : goal.types::front_path-qualified_path-requires
types::front_path-qualified_path-requires t c = (omega arith, (c.at.ensures.peeks.same.innermost _ c.requires.innermost, omega (arith, c.at.ensures.some c.if-at.true (λ e. absurd (omega (arith, e))), c.at.ensures.peeks.left)))

pub types::front_path-returns-then-at-clause-reads : goal.types::front_path-returns-then-at-clause-reads
unfolding look_of begins_below whole rule items statements expressions patterns types paths there_at shift passes is_silent begins in_mode from_start row one_of any_of no_longer longest is_longer
types::front_path-returns-then-at-clause-reads t c = λ cond. reads-here (saw-so (c.at.ensures.sees cond) c.if-at.true and nothing) (after-look _ c.at.ensures.peeks.same (c.qualified_path.ensures.reads cond))

pub types::front_path-path_with_args-requires : goal.types::front_path-path_with_args-requires
unfolding look_of begins_below whole rule items statements expressions patterns types paths there_at shift passes is_silent begins in_mode from_start row one_of any_of no_longer longest is_longer
types::front_path-path_with_args-requires t c = (omega arith, (λ d. saw-after c.at.ensures.peeks.same (saw-begun-path (saw-else path_begins front_path_begins (saw-so (c.at.ensures.sees d) c.if-at.false and nothing) (c.requires.begins.sees d) refl)), omega (arith, c.requires.begins.some, c.at.ensures.peeks.left)))

pub types::front_path-returns-clause-reads : goal.types::front_path-returns-clause-reads
unfolding look_of begins_below whole rule items statements expressions patterns types paths there_at shift passes is_silent begins in_mode from_start row one_of any_of no_longer longest is_longer
types::front_path-returns-clause-reads t c = λ cond. reads-here (saw-so (c.at.ensures.sees cond) c.if-at.false and nothing) (after-look _ c.at.ensures.peeks.same (reads-call _ (c.path_with_args.ensures.gives cond)))

pub types::front_path-returns-clause-takes : goal.types::front_path-returns-clause-takes
types::front_path-returns-clause-takes t c = record {
  left = omega (arith, c.path_with_args.ensures.takes.left, c.at.ensures.peeks.left);
  looks = omega (arith, c.path_with_args.ensures.takes.looks, c.at.ensures.peeks.looks);
  marker = (c.path_with_args.ensures.gives On).does.innermost _ (c.at.ensures.peeks.same.innermost _ c.requires.innermost);
}

pub types::for_type-complete-requires : goal.types::for_type-complete-requires
types::for_type-complete-requires t c = (c.expect_part.ensures.reads On).does.innermost _ ((c.for_binder.ensures.reads On).does.innermost _ c.start-node.ensures.marker)

pub types::for_type-returns-clause-reads : goal.types::for_type-returns-clause-reads
types::for_type-returns-clause-reads t c = λ cond. reads-node _ c.start-node.ensures.opens (reads-then _ (c.for_binder.ensures.reads cond) (c.expect_part.ensures.reads cond)) c.complete.ensures.closes

pub types::opt_plus_bounds-wrap-frame-requires-then-at : goal.types::opt_plus_bounds-wrap-frame-requires-then-at
types::opt_plus_bounds-wrap-frame-requires-then-at t c = (c.bounds_after_plus.ensures.reads On).does.innermost _ c.wrap-frame.ensures.marker

pub types::opt_plus_bounds-returns-then-at-clause-reads : goal.types::opt_plus_bounds-returns-then-at-clause-reads
unfolding look_of begins_below whole rule items statements expressions patterns types paths there_at shift passes is_silent begins in_mode from_start row one_of any_of no_longer longest is_longer
types::opt_plus_bounds-returns-then-at-clause-reads t c = λ cond. reads-here (saw-so (c.at.ensures.sees cond) c.if-at.true and nothing) (after-look _ c.at.ensures.peeks.same (reads-then _ (reads-wrap _ (reads-nothing _ (does-nothing _)) c.wrap-frame.ensures.wraps) (reads-then _ (reads-wrap _ (c.bounds_after_plus.ensures.reads cond) c.wrap-frame-then-at.ensures.wraps) (reads-wrap _ (reads-nothing _ (does-nothing _)) c.wrap.ensures.wraps))))

pub types::opt_plus_bounds-returns-clause-reads : goal.types::opt_plus_bounds-returns-clause-reads
unfolding look_of begins_below whole rule items statements expressions patterns types paths there_at shift passes is_silent begins in_mode from_start row one_of any_of no_longer longest is_longer
types::opt_plus_bounds-returns-clause-reads t c = λ cond. reads-here (saw-so (c.at.ensures.sees cond) c.if-at.false and nothing) (reads-nothing _ c.at.ensures.peeks.same)

pub types::bounds_after_plus-returns-clause-reads : goal.types::bounds_after_plus-returns-clause-reads
types::bounds_after_plus-returns-clause-reads t c = λ cond. reads-then _ (c.take.ensures.reads cond) (reads-then _ (c.opt_bound.ensures.reads cond) (c.further_bounds.ensures.reads cond))

pub types::lifetime_bounds-complete-requires : goal.types::lifetime_bounds-complete-requires
types::lifetime_bounds-complete-requires t c = (c.further_bounds.ensures.reads On).does.innermost _ ((c.lifetime_bound.ensures.reads On).does.innermost _ c.start-list.ensures.marker)

pub types::lifetime_bounds-complete-requires-2 : goal.types::lifetime_bounds-complete-requires-2
types::lifetime_bounds-complete-requires-2 t c = c.complete.ensures.closes.innermost _ ((c.further_bounds.ensures.reads On).does.innermost _ ((c.lifetime_bound.ensures.reads On).does.innermost _ (c.start-list.ensures.opens.innermost _ c.start-node.ensures.marker)))

pub types::lifetime_bounds-returns-clause-reads : goal.types::lifetime_bounds-returns-clause-reads
types::lifetime_bounds-returns-clause-reads t c = λ cond. reads-node _ c.start-node.ensures.opens (reads-node _ c.start-list.ensures.opens (reads-then _ (c.lifetime_bound.ensures.reads cond) (c.further_bounds.ensures.reads cond)) c.complete.ensures.closes) c.complete-2.ensures.closes

pub types::inside-new_type-requires : goal.types::inside-new_type-requires
types::inside-new_type-requires t c = (omega arith, (record { sees = λ d. saw-after c.at_new_type.ensures.peeks.same (saw-so (c.at_new_type.ensures.sees d) c.if-at_new_type.true); some = omega (arith, c.at_new_type.ensures.some c.if-at_new_type.true, c.at_new_type.ensures.peeks.left) }, c.at_new_type.ensures.peeks.same.innermost _ (c.at_dyn_word.ensures.peeks.same.innermost _ (c.current.ensures.peeks.same.innermost _ c.requires.innermost))))

pub types::inside-returns-then-at_new_type : goal.types::inside-returns-then-at_new_type
unfolding look_of begins_below whole rule items statements expressions patterns types paths there_at shift passes is_silent begins in_mode from_start row one_of any_of no_longer longest is_longer
types::inside-returns-then-at_new_type t c = record {
  reads = λ cond. reads-here (saw-not c.in_default.not-L_PAREN (c.current.ensures.sees cond) and saw-not c.in_default.not-L_BRACK (c.current.ensures.sees cond) and saw-not c.in_default.not-BANG (c.current.ensures.sees cond) and saw-not c.in_default.not-UNDERSCORE (c.current.ensures.sees cond) and saw-not c.in_default.not-STAR (c.current.ensures.sees cond) and saw-not c.in_default.not-AMP (c.current.ensures.sees cond) and saw-not c.in_default.not-IMPL_KW (c.current.ensures.sees cond) and saw-not c.in_default.not-DYN_KW (c.current.ensures.sees cond) and saw-before c.current.ensures.peeks.same (saw-so (c.at_dyn_word.ensures.sees cond) c.if-at_dyn_word.false) and saw-before c.current.ensures.peeks.same (saw-before c.at_dyn_word.ensures.peeks.same (saw-so (c.at_new_type.ensures.sees cond) c.if-at_new_type.true)) and nothing) (after-look _ c.current.ensures.peeks.same (after-look _ c.at_dyn_word.ensures.peeks.same (after-look _ c.at_new_type.ensures.peeks.same (c.new_type.ensures.reads cond))));
  takes = record {
    left = omega (arith, c.new_type.ensures.takes.left, c.at_new_type.ensures.peeks.left, c.at_dyn_word.ensures.peeks.left, c.current.ensures.peeks.left);
    looks = omega (arith, c.new_type.ensures.takes.looks, c.at_new_type.ensures.peeks.looks, c.at_dyn_word.ensures.peeks.looks, c.current.ensures.peeks.looks);
    marker = c.new_type.ensures.takes.marker;
  };
}

pub types::inside-path_type-requires : goal.types::inside-path_type-requires
unfolding look_of begins_below whole rule items statements expressions patterns types paths there_at shift passes is_silent begins in_mode from_start row one_of any_of no_longer longest is_longer
types::inside-path_type-requires t c = (
  omega arith,
  (λ d. saw-after c.at_new_type.ensures.peeks.same (saw-after c.at_dyn_word.ensures.peeks.same (saw-after c.current.ensures.peeks.same (subst (λ (l : Look). Saw d l c.args.p.now true) (paths-begin modes.Type) (begins-else rules.type_path rules.any_type refl (saw-not c.in_default.not-L_PAREN (c.current.ensures.sees d) and saw-not c.in_default.not-L_BRACK (c.current.ensures.sees d) and saw-not c.in_default.not-BANG (c.current.ensures.sees d) and saw-not c.in_default.not-UNDERSCORE (c.current.ensures.sees d) and saw-not c.in_default.not-STAR (c.current.ensures.sees d) and saw-not c.in_default.not-AMP (c.current.ensures.sees d) and saw-not c.in_default.not-IMPL_KW (c.current.ensures.sees d) and saw-not c.in_default.not-DYN_KW (c.current.ensures.sees d) and saw-before c.current.ensures.peeks.same (saw-so (c.at_dyn_word.ensures.sees d) c.if-at_dyn_word.false) and saw-before c.current.ensures.peeks.same (saw-before c.at_dyn_word.ensures.peeks.same (saw-so (c.at_new_type.ensures.sees d) c.if-at_new_type.false)) and nothing) (c.requires.begins.sees d) refl)))), omega (arith, c.requires.begins.some, c.at_new_type.ensures.peeks.left, c.at_dyn_word.ensures.peeks.left, c.current.ensures.peeks.left)),
)

pub types::inside-returns-else-at_new_type : goal.types::inside-returns-else-at_new_type
unfolding look_of begins_below whole rule items statements expressions patterns types paths there_at shift passes is_silent begins in_mode from_start row one_of any_of no_longer longest is_longer
types::inside-returns-else-at_new_type t c = record {
  reads = λ cond. reads-here (saw-not c.in_default.not-L_PAREN (c.current.ensures.sees cond) and saw-not c.in_default.not-L_BRACK (c.current.ensures.sees cond) and saw-not c.in_default.not-BANG (c.current.ensures.sees cond) and saw-not c.in_default.not-UNDERSCORE (c.current.ensures.sees cond) and saw-not c.in_default.not-STAR (c.current.ensures.sees cond) and saw-not c.in_default.not-AMP (c.current.ensures.sees cond) and saw-not c.in_default.not-IMPL_KW (c.current.ensures.sees cond) and saw-not c.in_default.not-DYN_KW (c.current.ensures.sees cond) and saw-before c.current.ensures.peeks.same (saw-so (c.at_dyn_word.ensures.sees cond) c.if-at_dyn_word.false) and saw-before c.current.ensures.peeks.same (saw-before c.at_dyn_word.ensures.peeks.same (saw-so (c.at_new_type.ensures.sees cond) c.if-at_new_type.false)) and (begun rules.type_path (begins-else rules.type_path rules.any_type refl (saw-not c.in_default.not-L_PAREN (c.current.ensures.sees cond) and saw-not c.in_default.not-L_BRACK (c.current.ensures.sees cond) and saw-not c.in_default.not-BANG (c.current.ensures.sees cond) and saw-not c.in_default.not-UNDERSCORE (c.current.ensures.sees cond) and saw-not c.in_default.not-STAR (c.current.ensures.sees cond) and saw-not c.in_default.not-AMP (c.current.ensures.sees cond) and saw-not c.in_default.not-IMPL_KW (c.current.ensures.sees cond) and saw-not c.in_default.not-DYN_KW (c.current.ensures.sees cond) and saw-before c.current.ensures.peeks.same (saw-so (c.at_dyn_word.ensures.sees cond) c.if-at_dyn_word.false) and saw-before c.current.ensures.peeks.same (saw-before c.at_dyn_word.ensures.peeks.same (saw-so (c.at_new_type.ensures.sees cond) c.if-at_new_type.false)) and nothing) (c.requires.begins.sees cond) refl) nothing)) (after-look _ c.current.ensures.peeks.same (after-look _ c.at_dyn_word.ensures.peeks.same (after-look _ c.at_new_type.ensures.peeks.same (c.path_type.ensures.reads cond))));
  takes = record {
    left = omega (arith, c.path_type.ensures.takes.left, c.at_new_type.ensures.peeks.left, c.at_dyn_word.ensures.peeks.left, c.current.ensures.peeks.left);
    looks = omega (arith, c.path_type.ensures.takes.looks, c.at_new_type.ensures.peeks.looks, c.at_dyn_word.ensures.peeks.looks, c.current.ensures.peeks.looks);
    marker = (c.path_type.ensures.reads On).does.innermost _ (c.at_new_type.ensures.peeks.same.innermost _ (c.at_dyn_word.ensures.peeks.same.innermost _ (c.current.ensures.peeks.same.innermost _ c.requires.innermost)));
  };
}

pub types::any_type-inside-frame-requires : goal.types::any_type-inside-frame-requires
types::any_type-inside-frame-requires t c = (omega arith, (record { sees = λ d. saw-inside c.start-frame.ensures.opens (c.requires.begins.sees d); some = omega (arith, c.requires.begins.some, c.start-frame.ensures.stays.left) }, c.start-frame.ensures.marker))

pub types::after_paren-tuple_tail-requires : goal.types::after_paren-tuple_tail-requires
types::after_paren-tuple_tail-requires t c = (omega arith, (c.expect_part.ensures.reads On).does.innermost _ (c.at.ensures.peeks.same.innermost _ c.requires.innermost))

pub types::inside-returns-in-STAR-clause-takes : goal.types::inside-returns-in-STAR-clause-takes
types::inside-returns-in-STAR-clause-takes t c = record {
  left = omega (arith, c.ptr_type.ensures.takes.left, c.current.ensures.peeks.left);
  looks = omega (arith, c.ptr_type.ensures.takes.looks, c.current.ensures.peeks.looks);
  marker = (c.ptr_type.ensures.reads On).does.innermost _ (c.current.ensures.peeks.same.innermost _ c.requires.innermost);
}

pub types::inside-returns-in-AMP-clause-takes : goal.types::inside-returns-in-AMP-clause-takes
types::inside-returns-in-AMP-clause-takes t c = record {
  left = omega (arith, c.ref_type.ensures.takes.left, c.current.ensures.peeks.left);
  looks = omega (arith, c.ref_type.ensures.takes.looks, c.current.ensures.peeks.looks);
  marker = (c.ref_type.ensures.reads On).does.innermost _ (c.current.ensures.peeks.same.innermost _ c.requires.innermost);
}

pub types::new_type-returns-then-at-clause-reads : goal.types::new_type-returns-then-at-clause-reads
unfolding look_of begins_below whole rule items statements expressions patterns types paths there_at shift passes is_silent begins in_mode from_start row one_of any_of no_longer longest is_longer
types::new_type-returns-then-at-clause-reads t c = λ cond. reads-here (saw-so (c.at.ensures.sees cond) c.if-at.true and nothing) (after-look cond c.at.ensures.peeks.same (c.lifetime_bounds.ensures.reads cond))

pub types::new_type-returns-then-at_fn_ptr-clause-reads : goal.types::new_type-returns-then-at_fn_ptr-clause-reads
unfolding look_of begins_below whole rule items statements expressions patterns types paths there_at shift passes is_silent begins in_mode from_start row one_of any_of no_longer longest is_longer
types::new_type-returns-then-at_fn_ptr-clause-reads t c = λ cond. reads-or cond (fn-ptr-begins (saw-before c.at.ensures.peeks.same (saw-so (c.at_fn_ptr.ensures.sees cond) c.if-at_fn_ptr.true))) (after-look cond c.at.ensures.peeks.same (after-look cond c.at_fn_ptr.ensures.peeks.same (c.fn_ptr_type.ensures.reads cond)))

pub types::new_type-returns-clause-reads : goal.types::new_type-returns-clause-reads
unfolding look_of begins_below whole rule items statements expressions patterns types paths there_at shift passes is_silent begins in_mode from_start row one_of any_of no_longer longest is_longer
types::new_type-returns-clause-reads t c = λ cond.
    let none = saw-before c.at.ensures.peeks.same (saw-so (c.at_fn_ptr.ensures.sees cond) c.if-at_fn_ptr.false) in
    reads-here (saw-so (c.at.ensures.sees cond) c.if-at.false and saw-none (Kind 0 kinds.FN_KW) fn_ptr_begins nothing none refl and saw-none (Kind 0 kinds.EXTERN_KW) fn_ptr_begins nothing none refl and saw-without (Kind 0 kinds.UNSAFE_KW) (wide new_type_begins) (none and nothing) (c.requires.begins.sees cond) refl and nothing) (after-look cond c.at.ensures.peeks.same (after-look cond c.at_fn_ptr.ensures.peeks.same (reads-then cond (c.for_or_path-frame.ensures.reads cond) (c.opt_plus_bounds.ensures.reads cond))))

pub types::new_type-fn_ptr_type-requires : goal.types::new_type-fn_ptr_type-requires
types::new_type-fn_ptr_type-requires t c = (omega arith, record { sees = λ d. saw-after c.at_fn_ptr.ensures.peeks.same (saw-so (c.at_fn_ptr.ensures.sees d) c.if-at_fn_ptr.true); some = omega (arith, c.requires.begins.some, c.at_fn_ptr.ensures.some c.if-at_fn_ptr.true, c.at.ensures.peeks.left, c.at_fn_ptr.ensures.peeks.left) })

pub types::new_type-for_or_path-frame-requires : goal.types::new_type-for_or_path-frame-requires
unfolding look_of begins_below whole rule items statements expressions patterns types paths there_at shift passes is_silent begins in_mode from_start row one_of any_of no_longer longest is_longer
types::new_type-for_or_path-frame-requires t c = (omega arith, (record { sees = λ d. saw-after c.at_fn_ptr.ensures.peeks.same (saw-after c.at.ensures.peeks.same (saw-else for_or_path_begins (wide new_type_begins) (saw-so (c.at.ensures.sees d) c.if-at.false and saw-before c.at.ensures.peeks.same (saw-so (c.at_fn_ptr.ensures.sees d) c.if-at_fn_ptr.false) and nothing) (c.requires.begins.sees d) refl)); some = omega (arith, c.requires.begins.some, c.at.ensures.peeks.left, c.at_fn_ptr.ensures.peeks.left) }, c.at_fn_ptr.ensures.peeks.same.innermost _ (c.at.ensures.peeks.same.innermost _ c.requires.innermost)))

pub types::new_type-opt_plus_bounds-requires : goal.types::new_type-opt_plus_bounds-requires
types::new_type-opt_plus_bounds-requires t c = (omega arith, c.for_or_path-frame.ensures.takes.marker)

pub types::new_type-returns-then-at_fn_ptr-clause-takes : goal.types::new_type-returns-then-at_fn_ptr-clause-takes
types::new_type-returns-then-at_fn_ptr-clause-takes t c = record {
  left = omega (arith, c.fn_ptr_type.ensures.takes.left, c.at_fn_ptr.ensures.peeks.left, c.at.ensures.peeks.left);
  looks = omega (arith, c.fn_ptr_type.ensures.takes.looks, c.at_fn_ptr.ensures.peeks.looks, c.at.ensures.peeks.looks);
  marker = (c.fn_ptr_type.ensures.reads On).does.innermost _ (c.at_fn_ptr.ensures.peeks.same.innermost _ (c.at.ensures.peeks.same.innermost _ c.requires.innermost));
}

pub types::new_type-returns-then-at-clause-takes : goal.types::new_type-returns-then-at-clause-takes
types::new_type-returns-then-at-clause-takes t c = record {
  left = omega (arith, c.lifetime_bounds.ensures.takes.left, c.at.ensures.peeks.left);
  looks = omega (arith, c.lifetime_bounds.ensures.takes.looks, c.at.ensures.peeks.looks);
  marker = (c.lifetime_bounds.ensures.reads On).does.innermost _ (c.at.ensures.peeks.same.innermost _ c.requires.innermost);
}

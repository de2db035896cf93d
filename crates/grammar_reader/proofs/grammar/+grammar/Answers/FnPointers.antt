-- Function pointer types.
use Rattle.rust_grammar.specs.Expressions.{expressions}
use Rattle.rust_grammar.specs.Items.{items}
use Rattle.rust_grammar.specs.Meaning.{begins_below, look_of}
use Rattle.rust_grammar.specs.Notation.{any_of, is_longer, no_longer, longest, one_of, row, wide, next}
use Rattle.rust_grammar.specs.Paths.{paths}
use Rattle.rust_grammar.specs.Patterns.{patterns}
use Rattle.rust_grammar.specs.Rule.{begins, in_mode, from_start, is_silent, passes, shift, there_at, Kind, spelled_at, When}
use Rattle.rust_grammar.specs.Statements.{statements}
use Rattle.rust_grammar.specs.Types.{types, dyn_begins, new_type_begins, dots_name_or_type, fn_ptr_param}
use Rattle.rust_grammar.specs.Whole.{rule, whole}
use Rattle.rust_grammar.specs.Words.{'::', '#'}
use Rattle.rust_productions.proofs.ByHand.{after-look, completes-leave, completes-then, reads-call, reads-node, reads-then}
use Rattle.rust_productions.proofs.Choices.{from_start-after, from_start-completes, from_start-here, gives-from_start, reads-here}
use Rattle.std.proofs.Common.{arith, refl}
use Rattle.rust_productions.proofs.Facts.{begun, nothing, saw-so, ◌and◌}
use Rattle.rust_productions.specs.Looks.{tokens}
use Rattle.rust_productions.specs.Reads.{looks}
use Rattle.rust_productions.specs.declared.condition.Condition.TheVariants.{On}
use Rattle.rust_productions.proofs.Given.{reads-three}
use Rattle.rust_productions.proofs.Seen.{saw-after, saw-before, saw-inside, saw-none, ends-at-end, saw-else, saw-told}
use Rattle.rust_grammar.specs.Rule as rules
use Rattle.parser_input.specs.Kinds as kinds
use Rattle.rust_grammar.specs.Calls.{Attribute}
use Rattle.rust_productions.proofs.Turns.{first-turn, next-turn}
use Rattle.grammar_reader.proofs.grammar.+grammar.Goals as goal

pub fn_pointers::fn_ptr_type-returns-clause-reads : goal.fn_pointers::fn_ptr_type-returns-clause-reads
fn_pointers::fn_ptr_type-returns-clause-reads t c = λ cond. reads-node cond c.start-node.ensures.opens (reads-three cond (c.fn_ptr_words.ensures.reads cond) (reads-then cond (c.expect_part.ensures.reads cond) (c.opt_ret_type.ensures.reads cond))) c.complete.ensures.closes

pub fn_pointers::fn_ptr_type-complete-requires : goal.fn_pointers::fn_ptr_type-complete-requires
fn_pointers::fn_ptr_type-complete-requires t c = (c.opt_ret_type.ensures.reads On).does.innermost _ ((c.expect_part.ensures.reads On).does.innermost _ ((c.fn_ptr_words.ensures.reads On).does.innermost _ (c.start-node.ensures.marker)))

pub fn_pointers::fn_ptr_type-fn_ptr_words-requires : goal.fn_pointers::fn_ptr_type-fn_ptr_words-requires
fn_pointers::fn_ptr_type-fn_ptr_words-requires t c = record { begins = record { sees = λ d. saw-inside c.start-node.ensures.opens (c.requires.begins.sees d); some = omega (arith, c.requires.begins.some, c.start-node.ensures.stays.left) } }

pub fn_pointers::dots_or_type-returns-then-at_dots_dot-clause-reads : goal.fn_pointers::dots_or_type-returns-then-at_dots_dot-clause-reads
unfolding look_of begins_below whole rule items statements expressions patterns types paths there_at shift passes is_silent begins in_mode from_start row one_of any_of no_longer longest is_longer
fn_pointers::dots_or_type-returns-then-at_dots_dot-clause-reads t c = λ cond. reads-here (saw-so (c.at_dots_dot.ensures.sees cond) c.if-at_dots_dot.true and nothing) (after-look cond c.at_dots_dot.ensures.peeks.same (c.take_three_dots.ensures.reads cond))

pub fn_pointers::dots_or_type-returns-clause-reads : goal.fn_pointers::dots_or_type-returns-clause-reads
unfolding look_of begins_below whole rule items statements expressions patterns types paths there_at shift passes is_silent begins in_mode from_start row one_of any_of no_longer longest is_longer
fn_pointers::dots_or_type-returns-clause-reads t c = λ cond. reads-here (saw-so (c.at_dots_dot.ensures.sees cond) c.if-at_dots_dot.false and nothing) (after-look cond c.at_dots_dot.ensures.peeks.same (c.expect_part.ensures.reads cond))

pub fn_pointers::missing_type-complete-requires : goal.fn_pointers::missing_type-complete-requires
fn_pointers::missing_type-complete-requires t c = (c.missing_path.ensures.gives On).does.innermost _ (c.start-node.ensures.marker)

pub fn_pointers::dots_name_or_type-returns-then-at_dots_dot-clause-reads : goal.fn_pointers::dots_name_or_type-returns-then-at_dots_dot-clause-reads
unfolding look_of begins_below whole rule items statements expressions patterns types paths there_at shift passes is_silent begins in_mode from_start row one_of any_of no_longer longest is_longer
fn_pointers::dots_name_or_type-returns-then-at_dots_dot-clause-reads t c = λ cond. reads-here (saw-so (c.at_dots_dot.ensures.sees cond) c.if-at_dots_dot.true and nothing) (after-look cond c.at_dots_dot.ensures.peeks.same (c.take_three_dots.ensures.reads cond))

pub fn_pointers::dots_name_or_type-returns-then-at_named_param-clause-reads : goal.fn_pointers::dots_name_or_type-returns-then-at_named_param-clause-reads
unfolding look_of begins_below whole rule items statements expressions patterns types paths there_at shift passes is_silent begins in_mode from_start row one_of any_of no_longer longest is_longer
fn_pointers::dots_name_or_type-returns-then-at_named_param-clause-reads t c = λ cond. reads-here (saw-so (c.at_dots_dot.ensures.sees cond) c.if-at_dots_dot.false and saw-before c.at_dots_dot.ensures.peeks.same (saw-so (c.at_named_param.ensures.sees cond) c.if-at_named_param.true) and nothing) (after-look cond c.at_dots_dot.ensures.peeks.same (after-look cond c.at_named_param.ensures.peeks.same (c.named_param.ensures.reads cond)))

pub fn_pointers::dots_name_or_type-returns-then-at_type-clause-reads : goal.fn_pointers::dots_name_or_type-returns-then-at_type-clause-reads
unfolding look_of begins_below whole rule items statements expressions patterns types paths there_at shift passes is_silent begins in_mode from_start row one_of any_of no_longer longest is_longer
fn_pointers::dots_name_or_type-returns-then-at_type-clause-reads t c = λ cond. reads-here (saw-so (c.at_dots_dot.ensures.sees cond) c.if-at_dots_dot.false and saw-before c.at_dots_dot.ensures.peeks.same (saw-so (c.at_named_param.ensures.sees cond) c.if-at_named_param.false) and begun rules.any_type (saw-before c.at_dots_dot.ensures.peeks.same (saw-before c.at_named_param.ensures.peeks.same (saw-so (c.at_type.ensures.sees cond) c.if-at_type.true))) (nothing)) (after-look cond c.at_dots_dot.ensures.peeks.same (after-look cond c.at_named_param.ensures.peeks.same (after-look cond c.at_type.ensures.peeks.same (reads-call cond (c.any_type.ensures.gives cond)))))

pub fn_pointers::dots_name_or_type-returns-clause-reads : goal.fn_pointers::dots_name_or_type-returns-clause-reads
unfolding look_of begins_below whole rule items statements expressions patterns types paths there_at shift passes is_silent begins in_mode from_start row one_of any_of no_longer longest is_longer
fn_pointers::dots_name_or_type-returns-clause-reads t c = λ cond. reads-here (saw-so (c.at_dots_dot.ensures.sees cond) c.if-at_dots_dot.false and saw-before c.at_dots_dot.ensures.peeks.same (saw-so (c.at_named_param.ensures.sees cond) c.if-at_named_param.false) and begun rules.any_type (saw-before c.at_dots_dot.ensures.peeks.same (saw-before c.at_named_param.ensures.peeks.same (saw-so (c.at_type.ensures.sees cond) c.if-at_type.false))) (nothing)) (after-look cond c.at_dots_dot.ensures.peeks.same (after-look cond c.at_named_param.ensures.peeks.same (after-look cond c.at_type.ensures.peeks.same (reads-call cond (c.missing_type.ensures.gives cond)))))

pub fn_pointers::dots_name_or_type-named_param-requires : goal.fn_pointers::dots_name_or_type-named_param-requires
fn_pointers::dots_name_or_type-named_param-requires t c = (omega arith, record { sees = λ d. saw-after c.at_named_param.ensures.peeks.same (c.at_named_param.ensures.pattern c.if-at_named_param.true d); some = omega (arith, c.at_named_param.ensures.some c.if-at_named_param.true, c.at_named_param.ensures.peeks.left) })

pub fn_pointers::dots_name_or_type-any_type-requires : goal.fn_pointers::dots_name_or_type-any_type-requires
fn_pointers::dots_name_or_type-any_type-requires t c = (omega arith, record { sees = λ d. saw-after c.at_type.ensures.peeks.same (saw-so (c.at_type.ensures.sees d) c.if-at_type.true); some = omega (arith, c.at_type.ensures.some c.if-at_type.true, c.at_dots_dot.ensures.peeks.left, c.at_named_param.ensures.peeks.left, c.at_type.ensures.peeks.left) })

pub fn_pointers::dots_name_or_type-missing_type-requires : goal.fn_pointers::dots_name_or_type-missing_type-requires
fn_pointers::dots_name_or_type-missing_type-requires t c = (omega arith, λ d. saw-after c.at_type.ensures.peeks.same (saw-so (c.at_type.ensures.sees d) c.if-at_type.false))

pub fn_pointers::missing_type-missing_path-requires : goal.fn_pointers::missing_type-missing_path-requires
fn_pointers::missing_type-missing_path-requires t c = (omega arith, λ d. saw-inside c.start-node.ensures.opens (c.requires.none d))

pub fn_pointers::missing_type-returns-clause-gives : goal.fn_pointers::missing_type-returns-clause-gives
unfolding look_of begins_below whole rule items statements expressions patterns types paths there_at shift passes is_silent begins in_mode from_start row one_of any_of no_longer longest is_longer
fn_pointers::missing_type-returns-clause-gives t c = λ cond. gives-from_start (from_start-here (saw-none (Kind 0 kinds.L_PAREN) (looks rules.any_type) nothing (c.requires.none cond) refl and saw-none (Kind 0 kinds.BANG) (looks rules.any_type) nothing (c.requires.none cond) refl and saw-none (Kind 0 kinds.STAR) (looks rules.any_type) nothing (c.requires.none cond) refl and saw-none (Kind 0 kinds.L_BRACK) (looks rules.any_type) nothing (c.requires.none cond) refl and saw-none (Kind 0 kinds.AMP) (looks rules.any_type) nothing (c.requires.none cond) refl and saw-none (Kind 0 kinds.UNDERSCORE) (looks rules.any_type) nothing (c.requires.none cond) refl and saw-none (Kind 0 kinds.IMPL_KW) (looks rules.any_type) nothing (c.requires.none cond) refl and saw-none (Kind 0 kinds.DYN_KW) (looks rules.any_type) nothing (c.requires.none cond) refl and saw-none (dyn_begins) (looks rules.any_type) nothing (c.requires.none cond) refl and saw-none (wide new_type_begins) (looks rules.any_type) nothing (c.requires.none cond) refl and nothing) (from_start-after refl (reads-node cond c.start-node.ensures.opens (reads-call cond (c.missing_path.ensures.gives cond)) c.complete.ensures.closes)))

pub fn_pointers::named_param-returns-clause-reads : goal.fn_pointers::named_param-returns-clause-reads
fn_pointers::named_param-returns-clause-reads t c = λ cond. reads-then cond (reads-call cond (c.single_pattern.ensures.gives cond)) (reads-then cond (c.expect.ensures.reads cond) (c.dots_or_type.ensures.reads cond))

pub fn_pointers::named_param-single_pattern-requires : goal.fn_pointers::named_param-single_pattern-requires
fn_pointers::named_param-single_pattern-requires t c = (omega arith, (c.requires.begins.sees, c.requires.begins.some))

pub fn_pointers::missing_path-missing_segment-requires : goal.fn_pointers::missing_path-missing_segment-requires
fn_pointers::missing_path-missing_segment-requires t c = (omega arith, λ d. saw-inside c.start-frame.ensures.opens (c.requires.none d))

pub fn_pointers::missing_path-next_segments-frame-requires : goal.fn_pointers::missing_path-next_segments-frame-requires
fn_pointers::missing_path-next_segments-frame-requires t c = (omega arith, (c.missing_segment.ensures.reads On).does.innermost _ c.start-frame.ensures.marker)

pub fn_pointers::missing_path-returns-clause-gives : goal.fn_pointers::missing_path-returns-clause-gives
unfolding rule items statements expressions patterns types paths
fn_pointers::missing_path-returns-clause-gives t c = λ cond. gives-from_start (from_start-completes c.start-frame.ensures.opens (completes-then (c.missing_segment.ensures.reads cond) (completes-leave (c.next_segments-frame.ensures.reads cond) c.abandon.ensures.leaves)))

pub fn_pointers::missing_segment-returns-clause-reads : goal.fn_pointers::missing_segment-returns-clause-reads
unfolding look_of begins_below whole rule items statements expressions patterns types paths there_at shift passes is_silent begins in_mode from_start row one_of any_of no_longer longest is_longer
fn_pointers::missing_segment-returns-clause-reads t c = λ cond. reads-node cond c.start-path.ensures.opens (reads-node cond c.start-segment.ensures.opens (reads-here (saw-none (spelled_at 0 '::') (looks rules.any_type) nothing (saw-inside c.start-segment.ensures.opens (saw-inside c.start-path.ensures.opens (c.requires.none cond))) refl and begun rules.name_ref (saw-none (looks rules.name_ref) (looks rules.any_type) nothing (saw-inside c.start-segment.ensures.opens (saw-inside c.start-path.ensures.opens (c.requires.none cond))) refl) nothing) (reads-then cond (c.error.ensures.reads cond) (c.opt_type_args.ensures.reads cond))) c.complete.ensures.closes) c.complete-2.ensures.closes

pub fn_pointers::missing_segment-complete-requires : goal.fn_pointers::missing_segment-complete-requires
fn_pointers::missing_segment-complete-requires t c = (c.opt_type_args.ensures.reads On).does.innermost _ ((c.error.ensures.reads On).does.innermost _ (c.start-segment.ensures.marker))

pub fn_pointers::missing_segment-complete-requires-2 : goal.fn_pointers::missing_segment-complete-requires-2
fn_pointers::missing_segment-complete-requires-2 t c = c.complete.ensures.closes.innermost _ ((c.opt_type_args.ensures.reads On).does.innermost _ ((c.error.ensures.reads On).does.innermost _ (c.start-segment.ensures.opens.innermost _ (c.start-path.ensures.marker))))

pub fn_pointers::fn_ptr_param-returns-clause-reads : goal.fn_pointers::fn_ptr_param-returns-clause-reads
fn_pointers::fn_ptr_param-returns-clause-reads t c = λ cond. reads-node cond c.start-node.ensures.opens (c.attributed_or_bare.ensures.reads cond) c.complete.ensures.closes

pub fn_pointers::fn_ptr_param-complete-requires : goal.fn_pointers::fn_ptr_param-complete-requires
fn_pointers::fn_ptr_param-complete-requires t c = (c.attributed_or_bare.ensures.reads On).does.innermost _ (c.start-node.ensures.marker)

pub fn_pointers::fn_ptr_param-attributed_or_bare-requires : goal.fn_pointers::fn_ptr_param-attributed_or_bare-requires
unfolding look_of begins_below whole rule items statements expressions patterns types paths there_at shift passes is_silent begins in_mode from_start row one_of any_of no_longer longest is_longer
fn_pointers::fn_ptr_param-attributed_or_bare-requires t c = (omega arith, record { sees = λ d. saw-inside c.start-node.ensures.opens (c.requires.begins.sees d); some = omega (arith, c.requires.begins.some, c.start-node.ensures.stays.left) })

pub fn_pointers::attributed_or_bare-returns-then-at_new-clause-reads : goal.fn_pointers::attributed_or_bare-returns-then-at_new-clause-reads
unfolding tokens look_of begins_below whole rule items statements expressions patterns types paths there_at shift passes is_silent begins in_mode from_start row one_of any_of no_longer longest is_longer
fn_pointers::attributed_or_bare-returns-then-at_new-clause-reads t c = λ cond.
    let first = next-turn cond (When (wide (next '#')) Attribute) (ends-at-end cond (When (wide (next '#')) Attribute) refl) _ _ _ first-turn (saw-told (saw-so (c.at_new.ensures.sees cond) c.if-at_new.true and nothing) refl) (reads-here (saw-so (c.at_new.ensures.sees cond) c.if-at_new.true and nothing) (after-look cond c.at_new.ensures.peeks.same (reads-call cond (c.attribute.ensures.gives cond)))) (omega (arith, c.attribute.ensures.takes.left, c.at_new.ensures.peeks.left)) in
    reads-then cond (first.rest _ (c.outer_attributes.ensures.reads cond)) (c.dots_name_or_type.ensures.reads cond)

pub fn_pointers::attributed_or_bare-bare_param-requires : goal.fn_pointers::attributed_or_bare-bare_param-requires
unfolding look_of begins_below whole rule items statements expressions patterns types paths there_at shift passes is_silent begins in_mode from_start row one_of any_of no_longer longest is_longer
fn_pointers::attributed_or_bare-bare_param-requires t c = (omega arith, record { sees = λ d. saw-after c.at_new.ensures.peeks.same (saw-else (begins looks dots_name_or_type) (begins looks fn_ptr_param) (saw-so (c.at_new.ensures.sees d) c.if-at_new.false and nothing) (c.requires.begins.sees d) refl); some = omega (arith, c.requires.begins.some, c.at_new.ensures.peeks.left) })

pub fn_pointers::attributed_or_bare-returns-clause-reads : goal.fn_pointers::attributed_or_bare-returns-clause-reads
unfolding look_of begins_below whole rule items statements expressions patterns types paths there_at shift passes is_silent begins in_mode from_start row one_of any_of no_longer longest is_longer
fn_pointers::attributed_or_bare-returns-clause-reads t c = λ cond. reads-here (saw-so (c.at_new.ensures.sees cond) c.if-at_new.false and nothing) (after-look cond c.at_new.ensures.peeks.same (c.bare_param.ensures.reads cond))

pub fn_pointers::bare_param-returns-then-at_dots_dot-clause-reads : goal.fn_pointers::bare_param-returns-then-at_dots_dot-clause-reads
unfolding look_of begins_below whole rule items statements expressions patterns types paths there_at shift passes is_silent begins in_mode from_start row one_of any_of no_longer longest is_longer
fn_pointers::bare_param-returns-then-at_dots_dot-clause-reads t c = λ cond. reads-here (saw-so (c.at_dots_dot.ensures.sees cond) c.if-at_dots_dot.true and nothing) (after-look cond c.at_dots_dot.ensures.peeks.same (c.take_three_dots.ensures.reads cond))

pub fn_pointers::bare_param-returns-then-at_named_param-clause-reads : goal.fn_pointers::bare_param-returns-then-at_named_param-clause-reads
unfolding look_of begins_below whole rule items statements expressions patterns types paths there_at shift passes is_silent begins in_mode from_start row one_of any_of no_longer longest is_longer
fn_pointers::bare_param-returns-then-at_named_param-clause-reads t c = λ cond. reads-here (saw-so (c.at_dots_dot.ensures.sees cond) c.if-at_dots_dot.false and saw-before c.at_dots_dot.ensures.peeks.same (saw-so (c.at_named_param.ensures.sees cond) c.if-at_named_param.true) and nothing) (after-look cond c.at_dots_dot.ensures.peeks.same (after-look cond c.at_named_param.ensures.peeks.same (c.named_param.ensures.reads cond)))

pub fn_pointers::bare_param-returns-clause-reads : goal.fn_pointers::bare_param-returns-clause-reads
unfolding look_of begins_below whole rule items statements expressions patterns types paths there_at shift passes is_silent begins in_mode from_start row one_of any_of no_longer longest is_longer
fn_pointers::bare_param-returns-clause-reads t c = λ cond. reads-here (saw-so (c.at_dots_dot.ensures.sees cond) c.if-at_dots_dot.false and saw-before c.at_dots_dot.ensures.peeks.same (saw-so (c.at_named_param.ensures.sees cond) c.if-at_named_param.false) and begun rules.any_type (saw-else (looks rules.any_type) (begins looks dots_name_or_type) (saw-so (c.at_dots_dot.ensures.sees cond) c.if-at_dots_dot.false and saw-before c.at_dots_dot.ensures.peeks.same (saw-so (c.at_named_param.ensures.sees cond) c.if-at_named_param.false) and nothing) (c.requires.begins.sees cond) refl) nothing) (after-look cond c.at_dots_dot.ensures.peeks.same (after-look cond c.at_named_param.ensures.peeks.same (reads-call cond (c.any_type.ensures.gives cond))))

pub fn_pointers::bare_param-named_param-requires : goal.fn_pointers::bare_param-named_param-requires
fn_pointers::bare_param-named_param-requires t c = (omega arith, record { sees = λ d. saw-after c.at_named_param.ensures.peeks.same (c.at_named_param.ensures.pattern c.if-at_named_param.true d); some = omega (arith, c.at_named_param.ensures.some c.if-at_named_param.true, c.at_named_param.ensures.peeks.left) })

pub fn_pointers::bare_param-any_type-requires : goal.fn_pointers::bare_param-any_type-requires
unfolding look_of begins_below whole rule items statements expressions patterns types paths there_at shift passes is_silent begins in_mode from_start row one_of any_of no_longer longest is_longer
fn_pointers::bare_param-any_type-requires t c = (omega arith, record { sees = λ d. saw-after c.at_named_param.ensures.peeks.same (saw-after c.at_dots_dot.ensures.peeks.same (saw-else (looks rules.any_type) (begins looks dots_name_or_type) (saw-so (c.at_dots_dot.ensures.sees d) c.if-at_dots_dot.false and saw-before c.at_dots_dot.ensures.peeks.same (saw-so (c.at_named_param.ensures.sees d) c.if-at_named_param.false) and nothing) (c.requires.begins.sees d) refl)); some = omega (arith, c.requires.begins.some, c.at_dots_dot.ensures.peeks.left, c.at_named_param.ensures.peeks.left) })

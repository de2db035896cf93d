-- Items that only the whole language has.
use Rattle.rust_grammar.specs.Expressions.{expressions}
use Rattle.rust_grammar.specs.Items.{items, contextual_words_begin, default_word, new_item_begins, words_begin}
use Rattle.rust_grammar.specs.Meaning.{begins_below, look_of}
use Rattle.rust_grammar.specs.Notation.{any_of, is_longer, no_longer, longest, one_of, row, wide}
use Rattle.rust_grammar.specs.Paths.{paths}
use Rattle.rust_grammar.specs.Patterns.{patterns}
use Rattle.rust_grammar.specs.Rule.{begins, in_mode, from_start, is_silent, passes, shift, there_at}
use Rattle.rust_grammar.specs.Statements.{statements}
use Rattle.rust_grammar.specs.Types.{types}
use Rattle.rust_grammar.specs.Whole.{rule, whole}
use Rattle.rust_productions.specs.declared.condition.Condition.TheVariants.{On}
use Rattle.rust_productions.proofs.ByHand.{after-look, completes-look, completes-then, completes-wrap, reads-call, reads-then}
use Rattle.std.proofs.Common.{ap, arith, refl, sym, ◌∙◌}
use Rattle.rust_productions.proofs.Choices.{completes-here, reads-here}
use Rattle.rust_productions.proofs.Facts.{nothing, saw-so, ◌and◌}
use Rattle.parser_input.specs.Kind.{raw_of}
use Rattle.rust_productions.proofs.Seen.{saw-after, saw-before, saw-else}
use Rattle.rust_productions.proofs.Looking.{saw-arm, saw-not}
use Rattle.grammar_reader.proofs.grammar.+grammar.Goals as goal

pub items::new_items::new_item-returns-then-at_extern_crate-clause-completes : goal.items::new_items::new_item-returns-then-at_extern_crate-clause-completes
unfolding look_of begins_below whole rule items statements expressions patterns types paths there_at shift passes is_silent begins in_mode from_start row one_of any_of no_longer longest is_longer
items::new_items::new_item-returns-then-at_extern_crate-clause-completes t c = completes-here (saw-so (c.at_extern_crate.ensures.sees c.args.condition) c.if-at_extern_crate.true and nothing) (completes-look c.at_extern_crate.ensures.peeks.same (c.extern_crate.ensures.completes c.args.condition))

pub items::new_items::new_item-returns-then-at_union-clause-completes : goal.items::new_items::new_item-returns-then-at_union-clause-completes
unfolding look_of begins_below whole rule items statements expressions patterns types paths there_at shift passes is_silent begins in_mode from_start row one_of any_of no_longer longest is_longer
items::new_items::new_item-returns-then-at_union-clause-completes t c = completes-here (saw-so (c.at_extern_crate.ensures.sees c.args.condition) c.if-at_extern_crate.false and saw-before c.at_extern_crate.ensures.peeks.same (saw-so (c.at_union.ensures.sees c.args.condition) c.if-at_union.true) and nothing) (completes-look c.at_extern_crate.ensures.peeks.same (completes-look c.at_union.ensures.peeks.same (c.union_item.ensures.completes c.args.condition)))

pub items::new_items::new_item-returns-then-at_macro_rules-clause-completes : goal.items::new_items::new_item-returns-then-at_macro_rules-clause-completes
unfolding look_of begins_below whole rule items statements expressions patterns types paths there_at shift passes is_silent begins in_mode from_start row one_of any_of no_longer longest is_longer
items::new_items::new_item-returns-then-at_macro_rules-clause-completes t c = completes-here (saw-so (c.at_extern_crate.ensures.sees c.args.condition) c.if-at_extern_crate.false and saw-before c.at_extern_crate.ensures.peeks.same (saw-so (c.at_union.ensures.sees c.args.condition) c.if-at_union.false) and saw-before c.at_extern_crate.ensures.peeks.same (saw-before c.at_union.ensures.peeks.same (saw-so (c.at_macro_rules.ensures.sees c.args.condition) c.if-at_macro_rules.true)) and nothing) (completes-look c.at_extern_crate.ensures.peeks.same (completes-look c.at_union.ensures.peeks.same (completes-look c.at_macro_rules.ensures.peeks.same (c.macro_rules.ensures.completes c.args.condition))))

pub items::new_items::new_item-returns-then-at-clause-completes : goal.items::new_items::new_item-returns-then-at-clause-completes
unfolding look_of begins_below whole rule items statements expressions patterns types paths there_at shift passes is_silent begins in_mode from_start row one_of any_of no_longer longest is_longer
items::new_items::new_item-returns-then-at-clause-completes t c = completes-here (saw-so (c.at_extern_crate.ensures.sees c.args.condition) c.if-at_extern_crate.false and saw-before c.at_extern_crate.ensures.peeks.same (saw-so (c.at_union.ensures.sees c.args.condition) c.if-at_union.false) and saw-before c.at_extern_crate.ensures.peeks.same (saw-before c.at_union.ensures.peeks.same (saw-so (c.at_macro_rules.ensures.sees c.args.condition) c.if-at_macro_rules.false)) and saw-before c.at_extern_crate.ensures.peeks.same (saw-before c.at_union.ensures.peeks.same (saw-before c.at_macro_rules.ensures.peeks.same (saw-so (c.at.ensures.sees c.args.condition) c.if-at.true))) and nothing) (completes-look c.at_extern_crate.ensures.peeks.same (completes-look c.at_union.ensures.peeks.same (completes-look c.at_macro_rules.ensures.peeks.same (completes-look c.at.ensures.peeks.same (c.macro_def.ensures.completes c.args.condition)))))

pub items::new_items::new_item-returns-clause-completes : goal.items::new_items::new_item-returns-clause-completes
unfolding look_of begins_below whole rule items statements expressions patterns types paths there_at shift passes is_silent begins in_mode from_start row one_of any_of no_longer longest is_longer
items::new_items::new_item-returns-clause-completes t c = completes-here (saw-so (c.at_extern_crate.ensures.sees c.args.condition) c.if-at_extern_crate.false and saw-before c.at_extern_crate.ensures.peeks.same (saw-so (c.at_union.ensures.sees c.args.condition) c.if-at_union.false) and saw-before c.at_extern_crate.ensures.peeks.same (saw-before c.at_union.ensures.peeks.same (saw-so (c.at_macro_rules.ensures.sees c.args.condition) c.if-at_macro_rules.false)) and saw-before c.at_extern_crate.ensures.peeks.same (saw-before c.at_union.ensures.peeks.same (saw-before c.at_macro_rules.ensures.peeks.same (saw-so (c.at.ensures.sees c.args.condition) c.if-at.false))) and nothing) (completes-look c.at_extern_crate.ensures.peeks.same (completes-look c.at_union.ensures.peeks.same (completes-look c.at_macro_rules.ensures.peeks.same (completes-look c.at.ensures.peeks.same c.item_words.ensures.completes))))

pub items::new_items::new_item-extern_crate-requires : goal.items::new_items::new_item-extern_crate-requires
items::new_items::new_item-extern_crate-requires t c = record { some = omega (arith, c.requires.begins.some, c.at_extern_crate.ensures.some c.if-at_extern_crate.true, c.at_extern_crate.ensures.peeks.left); innermost = c.at_extern_crate.ensures.peeks.same.innermost _ (c.requires.innermost) }

pub items::new_items::new_item-union_item-requires : goal.items::new_items::new_item-union_item-requires
items::new_items::new_item-union_item-requires t c = (omega arith, (omega (arith, c.requires.begins.some, c.at_union.ensures.some c.if-at_union.true, c.at_extern_crate.ensures.peeks.left, c.at_union.ensures.peeks.left), c.at_union.ensures.peeks.same.innermost _ (c.at_extern_crate.ensures.peeks.same.innermost _ (c.requires.innermost))))

pub items::new_items::new_item-macro_rules-requires : goal.items::new_items::new_item-macro_rules-requires
items::new_items::new_item-macro_rules-requires t c = record { some = omega (arith, c.requires.begins.some, c.at_macro_rules.ensures.some c.if-at_macro_rules.true, c.at_extern_crate.ensures.peeks.left, c.at_union.ensures.peeks.left, c.at_macro_rules.ensures.peeks.left); innermost = c.at_macro_rules.ensures.peeks.same.innermost _ (c.at_union.ensures.peeks.same.innermost _ (c.at_extern_crate.ensures.peeks.same.innermost _ (c.requires.innermost))) }

pub items::new_items::new_item-macro_def-requires : goal.items::new_items::new_item-macro_def-requires
items::new_items::new_item-macro_def-requires t c = record { some = omega (arith, c.requires.begins.some, c.at.ensures.some c.if-at.true (λ e. absurd (omega (arith, e))), c.at_extern_crate.ensures.peeks.left, c.at_union.ensures.peeks.left, c.at_macro_rules.ensures.peeks.left, c.at.ensures.peeks.left); innermost = c.at.ensures.peeks.same.innermost _ (c.at_macro_rules.ensures.peeks.same.innermost _ (c.at_union.ensures.peeks.same.innermost _ (c.at_extern_crate.ensures.peeks.same.innermost _ (c.requires.innermost)))) }

pub items::new_items::new_item-item_words-requires : goal.items::new_items::new_item-item_words-requires
unfolding look_of begins_below whole rule items statements expressions patterns types paths there_at shift passes is_silent begins in_mode from_start row one_of any_of no_longer longest is_longer
items::new_items::new_item-item_words-requires t c = (omega arith, (record { sees = λ d. saw-after c.at.ensures.peeks.same (saw-after c.at_macro_rules.ensures.peeks.same (saw-after c.at_union.ensures.peeks.same (saw-after c.at_extern_crate.ensures.peeks.same (saw-else words_begin (wide new_item_begins) (saw-so (c.at_extern_crate.ensures.sees d) c.if-at_extern_crate.false and saw-before c.at_extern_crate.ensures.peeks.same (saw-so (c.at_union.ensures.sees d) c.if-at_union.false) and saw-before c.at_extern_crate.ensures.peeks.same (saw-before c.at_union.ensures.peeks.same (saw-so (c.at_macro_rules.ensures.sees d) c.if-at_macro_rules.false)) and saw-before c.at_extern_crate.ensures.peeks.same (saw-before c.at_union.ensures.peeks.same (saw-before c.at_macro_rules.ensures.peeks.same (saw-so (c.at.ensures.sees d) c.if-at.false))) and nothing) (c.requires.begins.sees d) refl)))); some = omega (arith, c.requires.begins.some, c.at_extern_crate.ensures.peeks.left, c.at_union.ensures.peeks.left, c.at_macro_rules.ensures.peeks.left, c.at.ensures.peeks.left) }, c.at.ensures.peeks.same.innermost _ (c.at_macro_rules.ensures.peeks.same.innermost _ (c.at_union.ensures.peeks.same.innermost _ (c.at_extern_crate.ensures.peeks.same.innermost _ c.requires.innermost)))))

pub items::new_items::union_item-returns-clause-completes : goal.items::new_items::union_item-returns-clause-completes
items::new_items::union_item-returns-clause-completes t c = λ cond. completes-wrap (reads-then cond (c.take_contextual.ensures.reads cond) (reads-then cond (reads-call cond (c.name.ensures.gives cond)) (reads-then cond (c.opt_part.ensures.reads cond) (reads-then cond (c.opt_part-2.ensures.reads cond) (c.expect_part.ensures.reads cond))))) c.complete.ensures.closes

pub items::new_items::union_item-complete-requires : goal.items::new_items::union_item-complete-requires
items::new_items::union_item-complete-requires t c = (c.expect_part.ensures.reads On).does.innermost _ ((c.opt_part-2.ensures.reads On).does.innermost _ ((c.opt_part.ensures.reads On).does.innermost _ ((c.name.ensures.gives On).does.innermost _ ((c.take_contextual.ensures.reads On).does.innermost _ (c.requires.innermost)))))

pub items::new_items::words_from_async-returns-clause-completes : goal.items::new_items::words_from_async-returns-clause-completes
items::new_items::words_from_async-returns-clause-completes t c = completes-then (c.opt_async_word.ensures.reads c.args.condition) c.words_from_gen.ensures.completes

pub items::new_items::words_from_async-words_from_gen-requires : goal.items::new_items::words_from_async-words_from_gen-requires
items::new_items::words_from_async-words_from_gen-requires t c = (omega arith, (c.opt_async_word.ensures.reads On).does.innermost _ (c.requires.innermost))

pub items::new_items::words_from_gen-returns-clause-completes : goal.items::new_items::words_from_gen-returns-clause-completes
items::new_items::words_from_gen-returns-clause-completes t c = completes-then (c.opt_gen_word.ensures.reads c.args.condition) c.words_from_unsafe.ensures.completes

pub items::new_items::words_from_gen-words_from_unsafe-requires : goal.items::new_items::words_from_gen-words_from_unsafe-requires
items::new_items::words_from_gen-words_from_unsafe-requires t c = (omega arith, (c.opt_gen_word.ensures.reads On).does.innermost _ (c.requires.innermost))

pub items::new_items::words_from_unsafe-returns-clause-completes : goal.items::new_items::words_from_unsafe-returns-clause-completes
items::new_items::words_from_unsafe-returns-clause-completes t c = completes-then (c.opt_unsafe_word.ensures.reads c.args.condition) c.safe_or_abi.ensures.completes

pub items::new_items::words_from_unsafe-safe_or_abi-requires : goal.items::new_items::words_from_unsafe-safe_or_abi-requires
items::new_items::words_from_unsafe-safe_or_abi-requires t c = (omega arith, (c.opt_unsafe_word.ensures.reads On).does.innermost _ (c.requires.innermost))

pub items::new_items::safe_or_abi-returns-clause-completes : goal.items::new_items::safe_or_abi-returns-clause-completes
items::new_items::safe_or_abi-returns-clause-completes t c = completes-then (c.opt_safe_word.ensures.reads c.args.condition) c.abi_or_words.ensures.completes

pub items::new_items::safe_or_abi-abi_or_words-requires : goal.items::new_items::safe_or_abi-abi_or_words-requires
items::new_items::safe_or_abi-abi_or_words-requires t c = (omega arith, (c.opt_safe_word.ensures.reads On).does.innermost _ (c.requires.innermost))

pub items::new_items::abi_or_words-returns-then-at-clause-completes : goal.items::new_items::abi_or_words-returns-then-at-clause-completes
unfolding look_of begins_below whole rule items statements expressions patterns types paths there_at shift passes is_silent begins in_mode from_start row one_of any_of no_longer longest is_longer
items::new_items::abi_or_words-returns-then-at-clause-completes t c = completes-here (saw-so (c.at.ensures.sees c.args.condition) c.if-at.true and nothing) (completes-look c.at.ensures.peeks.same (completes-then (c.read_abi.ensures.reads c.args.condition) c.after_abi.ensures.completes))

pub items::new_items::abi_or_words-returns-clause-completes : goal.items::new_items::abi_or_words-returns-clause-completes
unfolding look_of begins_below whole rule items statements expressions patterns types paths there_at shift passes is_silent begins in_mode from_start row one_of any_of no_longer longest is_longer
items::new_items::abi_or_words-returns-clause-completes t c = completes-here (saw-so (c.at.ensures.sees c.args.condition) c.if-at.false and nothing) (completes-look c.at.ensures.peeks.same (completes-then (c.opt_auto_word.ensures.reads c.args.condition) (completes-then (c.opt_default_words.ensures.reads c.args.condition) c.item_word.ensures.completes)))

pub items::new_items::abi_or_words-after_abi-requires : goal.items::new_items::abi_or_words-after_abi-requires
items::new_items::abi_or_words-after_abi-requires t c = (omega arith, (c.read_abi.ensures.reads On).does.innermost _ (c.at.ensures.peeks.same.innermost _ (c.requires.innermost)))

pub items::new_items::abi_or_words-item_word-requires : goal.items::new_items::abi_or_words-item_word-requires
items::new_items::abi_or_words-item_word-requires t c = (omega arith, (c.opt_default_words.ensures.reads On).does.innermost _ ((c.opt_auto_word.ensures.reads On).does.innermost _ (c.at.ensures.peeks.same.innermost _ (c.requires.innermost))))

pub items::new_items::after_abi-returns-then-at-clause-completes : goal.items::new_items::after_abi-returns-then-at-clause-completes
unfolding look_of begins_below whole rule items statements expressions patterns types paths there_at shift passes is_silent begins in_mode from_start row one_of any_of no_longer longest is_longer
items::new_items::after_abi-returns-then-at-clause-completes t c = completes-here (saw-so (c.at.ensures.sees c.args.condition) c.if-at.true and nothing) (completes-look c.at.ensures.peeks.same (completes-wrap (c.item_list.ensures.reads c.args.condition) c.complete.ensures.closes))

pub items::new_items::after_abi-returns-clause-completes : goal.items::new_items::after_abi-returns-clause-completes
unfolding look_of begins_below whole rule items statements expressions patterns types paths there_at shift passes is_silent begins in_mode from_start row one_of any_of no_longer longest is_longer
items::new_items::after_abi-returns-clause-completes t c = completes-here (saw-so (c.at.ensures.sees c.args.condition) c.if-at.false and nothing) (completes-look c.at.ensures.peeks.same c.item_word.ensures.completes)

pub items::new_items::after_abi-complete-requires : goal.items::new_items::after_abi-complete-requires
items::new_items::after_abi-complete-requires t c = (c.item_list.ensures.reads On).does.innermost _ (c.at.ensures.peeks.same.innermost _ (c.requires.innermost))

pub items::new_items::after_abi-item_word-requires : goal.items::new_items::after_abi-item_word-requires
items::new_items::after_abi-item_word-requires t c = (omega arith, c.at.ensures.peeks.same.innermost _ (c.requires.innermost))

pub items::new_items::item_word-returns-in-FN_KW-clause-completes : goal.items::new_items::item_word-returns-in-FN_KW-clause-completes
unfolding look_of begins_below whole rule items statements expressions patterns types paths there_at shift passes is_silent begins in_mode from_start row one_of any_of no_longer longest is_longer
items::new_items::item_word-returns-in-FN_KW-clause-completes t c = completes-here (saw-arm c.in-FN_KW.is (c.current.ensures.sees c.args.condition) and nothing) (completes-look c.current.ensures.peeks.same (c.plain_fn.ensures.completes c.args.condition))

pub items::new_items::item_word-returns-in-TRAIT_KW-clause-completes : goal.items::new_items::item_word-returns-in-TRAIT_KW-clause-completes
unfolding look_of begins_below whole rule items statements expressions patterns types paths there_at shift passes is_silent begins in_mode from_start row one_of any_of no_longer longest is_longer
items::new_items::item_word-returns-in-TRAIT_KW-clause-completes t c = completes-here (saw-arm c.in-TRAIT_KW.is (c.current.ensures.sees c.args.condition) and nothing) (completes-look c.current.ensures.peeks.same (c.plain_trait.ensures.completes c.args.condition))

pub items::new_items::item_word-returns-in-IMPL_KW-clause-completes : goal.items::new_items::item_word-returns-in-IMPL_KW-clause-completes
unfolding look_of begins_below whole rule items statements expressions patterns types paths there_at shift passes is_silent begins in_mode from_start row one_of any_of no_longer longest is_longer
items::new_items::item_word-returns-in-IMPL_KW-clause-completes t c = completes-here (saw-arm c.in-IMPL_KW.is (c.current.ensures.sees c.args.condition) and nothing) (completes-look c.current.ensures.peeks.same (c.plain_impl.ensures.completes c.args.condition))

pub items::new_items::item_word-returns-in-STATIC_KW-clause-completes : goal.items::new_items::item_word-returns-in-STATIC_KW-clause-completes
unfolding look_of begins_below whole rule items statements expressions patterns types paths there_at shift passes is_silent begins in_mode from_start row one_of any_of no_longer longest is_longer
items::new_items::item_word-returns-in-STATIC_KW-clause-completes t c = completes-here (saw-arm c.in-STATIC_KW.is (c.current.ensures.sees c.args.condition) and nothing) (completes-look c.current.ensures.peeks.same c.static_item.ensures.completes)

pub items::new_items::item_word-returns-in-CONST_KW-clause-completes : goal.items::new_items::item_word-returns-in-CONST_KW-clause-completes
unfolding look_of begins_below whole rule items statements expressions patterns types paths there_at shift passes is_silent begins in_mode from_start row one_of any_of no_longer longest is_longer
items::new_items::item_word-returns-in-CONST_KW-clause-completes t c = completes-here (saw-arm c.in-CONST_KW.is (c.current.ensures.sees c.args.condition) and nothing) (completes-look c.current.ensures.peeks.same c.const_item.ensures.completes)

pub items::new_items::item_word-returns-in-TYPE_KW-clause-completes : goal.items::new_items::item_word-returns-in-TYPE_KW-clause-completes
unfolding look_of begins_below whole rule items statements expressions patterns types paths there_at shift passes is_silent begins in_mode from_start row one_of any_of no_longer longest is_longer
items::new_items::item_word-returns-in-TYPE_KW-clause-completes t c = completes-here (saw-arm c.in-TYPE_KW.is (c.current.ensures.sees c.args.condition) and nothing) (completes-look c.current.ensures.peeks.same c.type_alias.ensures.completes)

pub items::new_items::item_word-returns-in_default-clause-completes : goal.items::new_items::item_word-returns-in_default-clause-completes
unfolding look_of begins_below whole rule items statements expressions patterns types paths there_at shift passes is_silent begins in_mode from_start row one_of any_of no_longer longest is_longer
items::new_items::item_word-returns-in_default-clause-completes t c = completes-here (saw-not c.in_default.not-FN_KW (c.current.ensures.sees c.args.condition) and saw-not c.in_default.not-TRAIT_KW (c.current.ensures.sees c.args.condition) and saw-not c.in_default.not-IMPL_KW (c.current.ensures.sees c.args.condition) and saw-not c.in_default.not-STATIC_KW (c.current.ensures.sees c.args.condition) and saw-not c.in_default.not-CONST_KW (c.current.ensures.sees c.args.condition) and saw-not c.in_default.not-TYPE_KW (c.current.ensures.sees c.args.condition) and nothing) (completes-look c.current.ensures.peeks.same (completes-wrap (c.error.ensures.reads c.args.condition) c.complete.ensures.closes))

pub items::new_items::item_word-complete-requires : goal.items::new_items::item_word-complete-requires
items::new_items::item_word-complete-requires t c = (c.error.ensures.reads On).does.innermost _ (c.current.ensures.peeks.same.innermost _ (c.requires.innermost))

pub items::new_items::item_word-plain_fn-requires : goal.items::new_items::item_word-plain_fn-requires
items::new_items::item_word-plain_fn-requires t c = (omega arith, (omega (arith, c.current.ensures.some (λ e. absurd (omega (arith, sym (ap raw_of c.in-FN_KW.is) ∙ e))), c.current.ensures.peeks.left), c.current.ensures.peeks.same.innermost _ (c.requires.innermost)))

pub items::new_items::item_word-plain_trait-requires : goal.items::new_items::item_word-plain_trait-requires
items::new_items::item_word-plain_trait-requires t c = (omega arith, (omega (arith, c.current.ensures.some (λ e. absurd (omega (arith, sym (ap raw_of c.in-TRAIT_KW.is) ∙ e))), c.current.ensures.peeks.left), c.current.ensures.peeks.same.innermost _ (c.requires.innermost)))

pub items::new_items::item_word-plain_impl-requires : goal.items::new_items::item_word-plain_impl-requires
items::new_items::item_word-plain_impl-requires t c = (omega arith, (omega (arith, c.current.ensures.some (λ e. absurd (omega (arith, sym (ap raw_of c.in-IMPL_KW.is) ∙ e))), c.current.ensures.peeks.left), c.current.ensures.peeks.same.innermost _ (c.requires.innermost)))

pub items::new_items::item_word-static_item-requires : goal.items::new_items::item_word-static_item-requires
items::new_items::item_word-static_item-requires t c = (omega arith, (omega (arith, c.current.ensures.some (λ e. absurd (omega (arith, sym (ap raw_of c.in-STATIC_KW.is) ∙ e))), c.current.ensures.peeks.left), c.current.ensures.peeks.same.innermost _ (c.requires.innermost)))

pub items::new_items::item_word-const_item-requires : goal.items::new_items::item_word-const_item-requires
items::new_items::item_word-const_item-requires t c = (omega arith, (omega (arith, c.current.ensures.some (λ e. absurd (omega (arith, sym (ap raw_of c.in-CONST_KW.is) ∙ e))), c.current.ensures.peeks.left), c.current.ensures.peeks.same.innermost _ (c.requires.innermost)))

pub items::new_items::item_word-type_alias-requires : goal.items::new_items::item_word-type_alias-requires
items::new_items::item_word-type_alias-requires t c = (omega arith, (omega (arith, c.current.ensures.some (λ e. absurd (omega (arith, sym (ap raw_of c.in-TYPE_KW.is) ∙ e))), c.current.ensures.peeks.left), c.current.ensures.peeks.same.innermost _ (c.requires.innermost)))

pub items::new_items::item_words-returns-then-at_const_word-clause-completes : goal.items::new_items::item_words-returns-then-at_const_word-clause-completes
unfolding look_of begins_below whole rule items statements expressions patterns types paths there_at shift passes is_silent begins in_mode from_start row one_of any_of no_longer longest is_longer
items::new_items::item_words-returns-then-at_const_word-clause-completes t c = completes-here (saw-so (c.at_const_word.ensures.sees c.args.condition) c.if-at_const_word.true and nothing) (completes-look c.at_const_word.ensures.peeks.same (completes-then (c.take.ensures.reads c.args.condition) c.words_from_async.ensures.completes))

pub items::new_items::item_words-returns-then-at_async_word-clause-completes : goal.items::new_items::item_words-returns-then-at_async_word-clause-completes
unfolding look_of begins_below whole rule items statements expressions patterns types paths there_at shift passes is_silent begins in_mode from_start row one_of any_of no_longer longest is_longer
items::new_items::item_words-returns-then-at_async_word-clause-completes t c = completes-here (saw-so (c.at_const_word.ensures.sees c.args.condition) c.if-at_const_word.false and saw-before c.at_const_word.ensures.peeks.same (saw-so (c.at_async_word.ensures.sees c.args.condition) c.if-at_async_word.true) and nothing) (completes-look c.at_const_word.ensures.peeks.same (completes-look c.at_async_word.ensures.peeks.same (completes-then (c.take-then-at_async_word.ensures.reads c.args.condition) c.words_from_gen.ensures.completes)))

pub items::new_items::item_words-returns-then-at_gen_word-clause-completes : goal.items::new_items::item_words-returns-then-at_gen_word-clause-completes
unfolding look_of begins_below whole rule items statements expressions patterns types paths there_at shift passes is_silent begins in_mode from_start row one_of any_of no_longer longest is_longer
items::new_items::item_words-returns-then-at_gen_word-clause-completes t c = completes-here (saw-so (c.at_const_word.ensures.sees c.args.condition) c.if-at_const_word.false and saw-before c.at_const_word.ensures.peeks.same (saw-so (c.at_async_word.ensures.sees c.args.condition) c.if-at_async_word.false) and saw-before c.at_const_word.ensures.peeks.same (saw-before c.at_async_word.ensures.peeks.same (saw-so (c.at_gen_word.ensures.sees c.args.condition) c.if-at_gen_word.true)) and nothing) (completes-look c.at_const_word.ensures.peeks.same (completes-look c.at_async_word.ensures.peeks.same (completes-look c.at_gen_word.ensures.peeks.same (completes-then (c.take-then-at_gen_word.ensures.reads c.args.condition) c.words_from_unsafe.ensures.completes))))

pub items::new_items::item_words-returns-then-at_unsafe_word-clause-completes : goal.items::new_items::item_words-returns-then-at_unsafe_word-clause-completes
unfolding look_of begins_below whole rule items statements expressions patterns types paths there_at shift passes is_silent begins in_mode from_start row one_of any_of no_longer longest is_longer
items::new_items::item_words-returns-then-at_unsafe_word-clause-completes t c = completes-here (saw-so (c.at_const_word.ensures.sees c.args.condition) c.if-at_const_word.false and saw-before c.at_const_word.ensures.peeks.same (saw-so (c.at_async_word.ensures.sees c.args.condition) c.if-at_async_word.false) and saw-before c.at_const_word.ensures.peeks.same (saw-before c.at_async_word.ensures.peeks.same (saw-so (c.at_gen_word.ensures.sees c.args.condition) c.if-at_gen_word.false)) and saw-before c.at_const_word.ensures.peeks.same (saw-before c.at_async_word.ensures.peeks.same (saw-before c.at_gen_word.ensures.peeks.same (saw-so (c.at_unsafe_word.ensures.sees c.args.condition) c.if-at_unsafe_word.true))) and nothing) (completes-look c.at_const_word.ensures.peeks.same (completes-look c.at_async_word.ensures.peeks.same (completes-look c.at_gen_word.ensures.peeks.same (completes-look c.at_unsafe_word.ensures.peeks.same (completes-then (c.take-then-at_unsafe_word.ensures.reads c.args.condition) c.safe_or_abi.ensures.completes)))))

pub items::new_items::item_words-returns-clause-completes : goal.items::new_items::item_words-returns-clause-completes
unfolding look_of begins_below whole rule items statements expressions patterns types paths there_at shift passes is_silent begins in_mode from_start row one_of any_of no_longer longest is_longer
items::new_items::item_words-returns-clause-completes t c = completes-here (saw-so (c.at_const_word.ensures.sees c.args.condition) c.if-at_const_word.false and saw-before c.at_const_word.ensures.peeks.same (saw-so (c.at_async_word.ensures.sees c.args.condition) c.if-at_async_word.false) and saw-before c.at_const_word.ensures.peeks.same (saw-before c.at_async_word.ensures.peeks.same (saw-so (c.at_gen_word.ensures.sees c.args.condition) c.if-at_gen_word.false)) and saw-before c.at_const_word.ensures.peeks.same (saw-before c.at_async_word.ensures.peeks.same (saw-before c.at_gen_word.ensures.peeks.same (saw-so (c.at_unsafe_word.ensures.sees c.args.condition) c.if-at_unsafe_word.false))) and nothing) (completes-look c.at_const_word.ensures.peeks.same (completes-look c.at_async_word.ensures.peeks.same (completes-look c.at_gen_word.ensures.peeks.same (completes-look c.at_unsafe_word.ensures.peeks.same c.contextual_words.ensures.completes))))

pub items::new_items::item_words-words_from_async-requires : goal.items::new_items::item_words-words_from_async-requires
items::new_items::item_words-words_from_async-requires t c = (omega arith, (c.take.ensures.reads On).does.innermost _ (c.at_const_word.ensures.peeks.same.innermost _ (c.requires.innermost)))

pub items::new_items::item_words-words_from_gen-requires : goal.items::new_items::item_words-words_from_gen-requires
items::new_items::item_words-words_from_gen-requires t c = (omega arith, (c.take-then-at_async_word.ensures.reads On).does.innermost _ (c.at_async_word.ensures.peeks.same.innermost _ (c.at_const_word.ensures.peeks.same.innermost _ (c.requires.innermost))))

pub items::new_items::item_words-words_from_unsafe-requires : goal.items::new_items::item_words-words_from_unsafe-requires
items::new_items::item_words-words_from_unsafe-requires t c = (omega arith, (c.take-then-at_gen_word.ensures.reads On).does.innermost _ (c.at_gen_word.ensures.peeks.same.innermost _ (c.at_async_word.ensures.peeks.same.innermost _ (c.at_const_word.ensures.peeks.same.innermost _ (c.requires.innermost)))))

pub items::new_items::item_words-safe_or_abi-requires : goal.items::new_items::item_words-safe_or_abi-requires
items::new_items::item_words-safe_or_abi-requires t c = (omega arith, (c.take-then-at_unsafe_word.ensures.reads On).does.innermost _ (c.at_unsafe_word.ensures.peeks.same.innermost _ (c.at_gen_word.ensures.peeks.same.innermost _ (c.at_async_word.ensures.peeks.same.innermost _ (c.at_const_word.ensures.peeks.same.innermost _ (c.requires.innermost))))))

pub items::new_items::item_words-contextual_words-requires : goal.items::new_items::item_words-contextual_words-requires
unfolding look_of begins_below whole rule items statements expressions patterns types paths there_at shift passes is_silent begins in_mode from_start row one_of any_of no_longer longest is_longer
items::new_items::item_words-contextual_words-requires t c = (omega arith, (record { sees = λ d. saw-after c.at_unsafe_word.ensures.peeks.same (saw-after c.at_gen_word.ensures.peeks.same (saw-after c.at_async_word.ensures.peeks.same (saw-after c.at_const_word.ensures.peeks.same (saw-else contextual_words_begin words_begin (saw-so (c.at_const_word.ensures.sees d) c.if-at_const_word.false and saw-before c.at_const_word.ensures.peeks.same (saw-so (c.at_async_word.ensures.sees d) c.if-at_async_word.false) and saw-before c.at_const_word.ensures.peeks.same (saw-before c.at_async_word.ensures.peeks.same (saw-so (c.at_gen_word.ensures.sees d) c.if-at_gen_word.false)) and saw-before c.at_const_word.ensures.peeks.same (saw-before c.at_async_word.ensures.peeks.same (saw-before c.at_gen_word.ensures.peeks.same (saw-so (c.at_unsafe_word.ensures.sees d) c.if-at_unsafe_word.false))) and nothing) (c.requires.begins.sees d) refl)))); some = omega (arith, c.requires.begins.some, c.at_const_word.ensures.peeks.left, c.at_async_word.ensures.peeks.left, c.at_gen_word.ensures.peeks.left, c.at_unsafe_word.ensures.peeks.left) }, c.at_unsafe_word.ensures.peeks.same.innermost _ (c.at_gen_word.ensures.peeks.same.innermost _ (c.at_async_word.ensures.peeks.same.innermost _ (c.at_const_word.ensures.peeks.same.innermost _ c.requires.innermost)))))

pub items::new_items::contextual_words-returns-then-at_safe_word-clause-completes : goal.items::new_items::contextual_words-returns-then-at_safe_word-clause-completes
unfolding look_of begins_below whole rule items statements expressions patterns types paths there_at shift passes is_silent begins in_mode from_start row one_of any_of no_longer longest is_longer
items::new_items::contextual_words-returns-then-at_safe_word-clause-completes t c = completes-here (saw-so (c.at_safe_word.ensures.sees c.args.condition) c.if-at_safe_word.true and nothing) (completes-look c.at_safe_word.ensures.peeks.same (completes-then (c.take_contextual.ensures.reads c.args.condition) c.abi_or_words.ensures.completes))

pub items::new_items::contextual_words-returns-then-at-clause-completes : goal.items::new_items::contextual_words-returns-then-at-clause-completes
unfolding look_of begins_below whole rule items statements expressions patterns types paths there_at shift passes is_silent begins in_mode from_start row one_of any_of no_longer longest is_longer
items::new_items::contextual_words-returns-then-at-clause-completes t c = completes-here (saw-so (c.at_safe_word.ensures.sees c.args.condition) c.if-at_safe_word.false and saw-before c.at_safe_word.ensures.peeks.same (saw-so (c.at.ensures.sees c.args.condition) c.if-at.true) and nothing) (completes-look c.at_safe_word.ensures.peeks.same (completes-look c.at.ensures.peeks.same (completes-then (c.read_abi.ensures.reads c.args.condition) c.after_abi.ensures.completes)))

pub items::new_items::contextual_words-returns-then-at_auto_word-clause-completes : goal.items::new_items::contextual_words-returns-then-at_auto_word-clause-completes
unfolding look_of begins_below whole rule items statements expressions patterns types paths there_at shift passes is_silent begins in_mode from_start row one_of any_of no_longer longest is_longer
items::new_items::contextual_words-returns-then-at_auto_word-clause-completes t c = completes-here (saw-so (c.at_safe_word.ensures.sees c.args.condition) c.if-at_safe_word.false and saw-before c.at_safe_word.ensures.peeks.same (saw-so (c.at.ensures.sees c.args.condition) c.if-at.false) and saw-before c.at_safe_word.ensures.peeks.same (saw-before c.at.ensures.peeks.same (saw-so (c.at_auto_word.ensures.sees c.args.condition) c.if-at_auto_word.true)) and nothing) (completes-look c.at_safe_word.ensures.peeks.same (completes-look c.at.ensures.peeks.same (completes-look c.at_auto_word.ensures.peeks.same (completes-then (c.take_contextual-then-at_auto_word.ensures.reads c.args.condition) (completes-then (c.opt_default_words.ensures.reads c.args.condition) c.item_word.ensures.completes)))))

pub items::new_items::contextual_words-returns-clause-completes : goal.items::new_items::contextual_words-returns-clause-completes
unfolding look_of begins_below whole rule items statements expressions patterns types paths there_at shift passes is_silent begins in_mode from_start row one_of any_of no_longer longest is_longer
items::new_items::contextual_words-returns-clause-completes t c = completes-here (saw-so (c.at_safe_word.ensures.sees c.args.condition) c.if-at_safe_word.false and saw-before c.at_safe_word.ensures.peeks.same (saw-so (c.at.ensures.sees c.args.condition) c.if-at.false) and saw-before c.at_safe_word.ensures.peeks.same (saw-before c.at.ensures.peeks.same (saw-so (c.at_auto_word.ensures.sees c.args.condition) c.if-at_auto_word.false)) and saw-else default_word contextual_words_begin (saw-so (c.at_safe_word.ensures.sees c.args.condition) c.if-at_safe_word.false and saw-before c.at_safe_word.ensures.peeks.same (saw-so (c.at.ensures.sees c.args.condition) c.if-at.false) and saw-before c.at_safe_word.ensures.peeks.same (saw-before c.at.ensures.peeks.same (saw-so (c.at_auto_word.ensures.sees c.args.condition) c.if-at_auto_word.false)) and nothing) (c.requires.begins.sees c.args.condition) refl and nothing) (completes-look c.at_safe_word.ensures.peeks.same (completes-look c.at.ensures.peeks.same (completes-look c.at_auto_word.ensures.peeks.same (completes-then (c.take_contextual-2.ensures.reads c.args.condition) (completes-then (c.eat.ensures.reads c.args.condition) (completes-then (c.opt_unsafe_after_default.ensures.reads c.args.condition) c.item_word-2.ensures.completes))))))

pub items::new_items::contextual_words-abi_or_words-requires : goal.items::new_items::contextual_words-abi_or_words-requires
items::new_items::contextual_words-abi_or_words-requires t c = (omega arith, (c.take_contextual.ensures.reads On).does.innermost _ (c.at_safe_word.ensures.peeks.same.innermost _ (c.requires.innermost)))

pub items::new_items::contextual_words-after_abi-requires : goal.items::new_items::contextual_words-after_abi-requires
items::new_items::contextual_words-after_abi-requires t c = (omega arith, (c.read_abi.ensures.reads On).does.innermost _ (c.at.ensures.peeks.same.innermost _ (c.at_safe_word.ensures.peeks.same.innermost _ (c.requires.innermost))))

pub items::new_items::contextual_words-item_word-requires : goal.items::new_items::contextual_words-item_word-requires
items::new_items::contextual_words-item_word-requires t c = (omega arith, (c.opt_default_words.ensures.reads On).does.innermost _ ((c.take_contextual-then-at_auto_word.ensures.reads On).does.innermost _ (c.at_auto_word.ensures.peeks.same.innermost _ (c.at.ensures.peeks.same.innermost _ (c.at_safe_word.ensures.peeks.same.innermost _ (c.requires.innermost))))))

pub items::new_items::contextual_words-item_word-requires-2 : goal.items::new_items::contextual_words-item_word-requires-2
items::new_items::contextual_words-item_word-requires-2 t c = (omega arith, (c.opt_unsafe_after_default.ensures.reads On).does.innermost _ ((c.eat.ensures.reads On).does.innermost _ ((c.take_contextual-2.ensures.reads On).does.innermost _ (c.at_auto_word.ensures.peeks.same.innermost _ (c.at.ensures.peeks.same.innermost _ (c.at_safe_word.ensures.peeks.same.innermost _ (c.requires.innermost)))))))

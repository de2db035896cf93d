-- Each path reads what the rule comes to there.
use Rattle.std.proofs.Common.{inl, inr, refl, arith}
use Rattle.rust_grammar.specs.Expressions.{expressions}
use Rattle.rust_grammar.specs.Items.{items}
use Rattle.rust_grammar.specs.Meaning.{begins_below, look_of}
use Rattle.rust_grammar.specs.Notation.{any_of, is_longer, no_longer, longest, one_of, row}
use Rattle.rust_grammar.specs.Paths.{paths}
use Rattle.rust_grammar.specs.Patterns.{patterns}
use Rattle.rust_grammar.specs.Rule.{begins, in_mode, from_start, is_silent, passes, shift, there_at}
use Rattle.rust_grammar.specs.Statements.{statements}
use Rattle.rust_grammar.specs.Types.{types}
use Rattle.rust_grammar.specs.Whole.{rule, whole}
use Rattle.rust_grammar.specs.Rule as rules
use Rattle.rust_productions.proofs.Facts.{nothing, saw-so, ◌and◌}
use Rattle.rust_productions.proofs.Seen.{saw-before, saw-told}
use Rattle.rust_productions.proofs.Peeking.{peeks-then, peeks-within}
use Rattle.rust_productions.proofs.grammar.item_words.at_words.Goals as goal

pub returns-then-at_auto_word-clause-sees : goal.returns-then-at_auto_word-clause-sees
unfolding look_of begins_below whole rule items statements expressions patterns types paths there_at shift passes is_silent begins in_mode from_start row one_of any_of no_longer longest is_longer
returns-then-at_auto_word-clause-sees c cond = saw-told (saw-so (c.at_auto_word.ensures.sees cond) c.if-at_auto_word.true and nothing) refl

pub returns-then-at_auto_word-clause-peeks : goal.returns-then-at_auto_word-clause-peeks
returns-then-at_auto_word-clause-peeks c = peeks-within (c.at_auto_word.ensures.peeks) (omega arith)

pub returns-then-at_default_word-clause-sees : goal.returns-then-at_default_word-clause-sees
unfolding look_of begins_below whole rule items statements expressions patterns types paths there_at shift passes is_silent begins in_mode from_start row one_of any_of no_longer longest is_longer
returns-then-at_default_word-clause-sees c cond = saw-told (saw-so (c.at_auto_word.ensures.sees cond) c.if-at_auto_word.false and saw-before c.at_auto_word.ensures.peeks.same (saw-so (c.at_default_word.ensures.sees cond) c.if-at_default_word.true) and nothing) refl

pub returns-then-at_default_word-clause-peeks : goal.returns-then-at_default_word-clause-peeks
returns-then-at_default_word-clause-peeks c = peeks-within (peeks-then c.at_auto_word.ensures.peeks (c.at_default_word.ensures.peeks)) (omega arith)

pub returns-then-at_safe_word-clause-sees : goal.returns-then-at_safe_word-clause-sees
unfolding look_of begins_below whole rule items statements expressions patterns types paths there_at shift passes is_silent begins in_mode from_start row one_of any_of no_longer longest is_longer
returns-then-at_safe_word-clause-sees c cond = saw-told (saw-so (c.at_auto_word.ensures.sees cond) c.if-at_auto_word.false and saw-before c.at_auto_word.ensures.peeks.same (saw-so (c.at_default_word.ensures.sees cond) c.if-at_default_word.false) and saw-before c.at_auto_word.ensures.peeks.same (saw-before c.at_default_word.ensures.peeks.same (saw-so (c.at_safe_word.ensures.sees cond) c.if-at_safe_word.true)) and nothing) refl

pub returns-then-at_safe_word-clause-peeks : goal.returns-then-at_safe_word-clause-peeks
returns-then-at_safe_word-clause-peeks c = peeks-within (peeks-then c.at_auto_word.ensures.peeks (peeks-then c.at_default_word.ensures.peeks (c.at_safe_word.ensures.peeks))) (omega arith)

pub returns-then-at_const_word-clause-sees : goal.returns-then-at_const_word-clause-sees
unfolding look_of begins_below whole rule items statements expressions patterns types paths there_at shift passes is_silent begins in_mode from_start row one_of any_of no_longer longest is_longer
returns-then-at_const_word-clause-sees c cond = saw-told (saw-so (c.at_auto_word.ensures.sees cond) c.if-at_auto_word.false and saw-before c.at_auto_word.ensures.peeks.same (saw-so (c.at_default_word.ensures.sees cond) c.if-at_default_word.false) and saw-before c.at_auto_word.ensures.peeks.same (saw-before c.at_default_word.ensures.peeks.same (saw-so (c.at_safe_word.ensures.sees cond) c.if-at_safe_word.false)) and saw-before c.at_auto_word.ensures.peeks.same (saw-before c.at_default_word.ensures.peeks.same (saw-before c.at_safe_word.ensures.peeks.same (saw-so (c.at_const_word.ensures.sees cond) c.if-at_const_word.true))) and nothing) refl

pub returns-then-at_const_word-clause-peeks : goal.returns-then-at_const_word-clause-peeks
returns-then-at_const_word-clause-peeks c = peeks-within (peeks-then c.at_auto_word.ensures.peeks (peeks-then c.at_default_word.ensures.peeks (peeks-then c.at_safe_word.ensures.peeks (c.at_const_word.ensures.peeks)))) (omega arith)

pub returns-then-at_async_word-clause-sees : goal.returns-then-at_async_word-clause-sees
unfolding look_of begins_below whole rule items statements expressions patterns types paths there_at shift passes is_silent begins in_mode from_start row one_of any_of no_longer longest is_longer
returns-then-at_async_word-clause-sees c cond = saw-told (saw-so (c.at_auto_word.ensures.sees cond) c.if-at_auto_word.false and saw-before c.at_auto_word.ensures.peeks.same (saw-so (c.at_default_word.ensures.sees cond) c.if-at_default_word.false) and saw-before c.at_auto_word.ensures.peeks.same (saw-before c.at_default_word.ensures.peeks.same (saw-so (c.at_safe_word.ensures.sees cond) c.if-at_safe_word.false)) and saw-before c.at_auto_word.ensures.peeks.same (saw-before c.at_default_word.ensures.peeks.same (saw-before c.at_safe_word.ensures.peeks.same (saw-so (c.at_const_word.ensures.sees cond) c.if-at_const_word.false))) and saw-before c.at_auto_word.ensures.peeks.same (saw-before c.at_default_word.ensures.peeks.same (saw-before c.at_safe_word.ensures.peeks.same (saw-before c.at_const_word.ensures.peeks.same (saw-so (c.at_async_word.ensures.sees cond) c.if-at_async_word.true)))) and nothing) refl

pub returns-then-at_async_word-clause-peeks : goal.returns-then-at_async_word-clause-peeks
returns-then-at_async_word-clause-peeks c = peeks-within (peeks-then c.at_auto_word.ensures.peeks (peeks-then c.at_default_word.ensures.peeks (peeks-then c.at_safe_word.ensures.peeks (peeks-then c.at_const_word.ensures.peeks (c.at_async_word.ensures.peeks))))) (omega arith)

pub returns-then-at_gen_word-clause-sees : goal.returns-then-at_gen_word-clause-sees
unfolding look_of begins_below whole rule items statements expressions patterns types paths there_at shift passes is_silent begins in_mode from_start row one_of any_of no_longer longest is_longer
returns-then-at_gen_word-clause-sees c cond = saw-told (saw-so (c.at_auto_word.ensures.sees cond) c.if-at_auto_word.false and saw-before c.at_auto_word.ensures.peeks.same (saw-so (c.at_default_word.ensures.sees cond) c.if-at_default_word.false) and saw-before c.at_auto_word.ensures.peeks.same (saw-before c.at_default_word.ensures.peeks.same (saw-so (c.at_safe_word.ensures.sees cond) c.if-at_safe_word.false)) and saw-before c.at_auto_word.ensures.peeks.same (saw-before c.at_default_word.ensures.peeks.same (saw-before c.at_safe_word.ensures.peeks.same (saw-so (c.at_const_word.ensures.sees cond) c.if-at_const_word.false))) and saw-before c.at_auto_word.ensures.peeks.same (saw-before c.at_default_word.ensures.peeks.same (saw-before c.at_safe_word.ensures.peeks.same (saw-before c.at_const_word.ensures.peeks.same (saw-so (c.at_async_word.ensures.sees cond) c.if-at_async_word.false)))) and saw-before c.at_auto_word.ensures.peeks.same (saw-before c.at_default_word.ensures.peeks.same (saw-before c.at_safe_word.ensures.peeks.same (saw-before c.at_const_word.ensures.peeks.same (saw-before c.at_async_word.ensures.peeks.same (saw-so (c.at_gen_word.ensures.sees cond) c.if-at_gen_word.true))))) and nothing) refl

pub returns-then-at_gen_word-clause-peeks : goal.returns-then-at_gen_word-clause-peeks
returns-then-at_gen_word-clause-peeks c = peeks-within (peeks-then c.at_auto_word.ensures.peeks (peeks-then c.at_default_word.ensures.peeks (peeks-then c.at_safe_word.ensures.peeks (peeks-then c.at_const_word.ensures.peeks (peeks-then c.at_async_word.ensures.peeks (c.at_gen_word.ensures.peeks)))))) (omega arith)

pub returns-then-at_unsafe_word-clause-sees : goal.returns-then-at_unsafe_word-clause-sees
unfolding look_of begins_below whole rule items statements expressions patterns types paths there_at shift passes is_silent begins in_mode from_start row one_of any_of no_longer longest is_longer
returns-then-at_unsafe_word-clause-sees c cond = saw-told (saw-so (c.at_auto_word.ensures.sees cond) c.if-at_auto_word.false and saw-before c.at_auto_word.ensures.peeks.same (saw-so (c.at_default_word.ensures.sees cond) c.if-at_default_word.false) and saw-before c.at_auto_word.ensures.peeks.same (saw-before c.at_default_word.ensures.peeks.same (saw-so (c.at_safe_word.ensures.sees cond) c.if-at_safe_word.false)) and saw-before c.at_auto_word.ensures.peeks.same (saw-before c.at_default_word.ensures.peeks.same (saw-before c.at_safe_word.ensures.peeks.same (saw-so (c.at_const_word.ensures.sees cond) c.if-at_const_word.false))) and saw-before c.at_auto_word.ensures.peeks.same (saw-before c.at_default_word.ensures.peeks.same (saw-before c.at_safe_word.ensures.peeks.same (saw-before c.at_const_word.ensures.peeks.same (saw-so (c.at_async_word.ensures.sees cond) c.if-at_async_word.false)))) and saw-before c.at_auto_word.ensures.peeks.same (saw-before c.at_default_word.ensures.peeks.same (saw-before c.at_safe_word.ensures.peeks.same (saw-before c.at_const_word.ensures.peeks.same (saw-before c.at_async_word.ensures.peeks.same (saw-so (c.at_gen_word.ensures.sees cond) c.if-at_gen_word.false))))) and saw-before c.at_auto_word.ensures.peeks.same (saw-before c.at_default_word.ensures.peeks.same (saw-before c.at_safe_word.ensures.peeks.same (saw-before c.at_const_word.ensures.peeks.same (saw-before c.at_async_word.ensures.peeks.same (saw-before c.at_gen_word.ensures.peeks.same (saw-so (c.at_unsafe_word.ensures.sees cond) c.if-at_unsafe_word.true)))))) and nothing) refl

pub returns-then-at_unsafe_word-clause-peeks : goal.returns-then-at_unsafe_word-clause-peeks
returns-then-at_unsafe_word-clause-peeks c = peeks-within (peeks-then c.at_auto_word.ensures.peeks (peeks-then c.at_default_word.ensures.peeks (peeks-then c.at_safe_word.ensures.peeks (peeks-then c.at_const_word.ensures.peeks (peeks-then c.at_async_word.ensures.peeks (peeks-then c.at_gen_word.ensures.peeks (c.at_unsafe_word.ensures.peeks))))))) (omega arith)

pub returns-then-at_extern_word-clause-sees : goal.returns-then-at_extern_word-clause-sees
unfolding look_of begins_below whole rule items statements expressions patterns types paths there_at shift passes is_silent begins in_mode from_start row one_of any_of no_longer longest is_longer
returns-then-at_extern_word-clause-sees c cond = saw-told (saw-so (c.at_auto_word.ensures.sees cond) c.if-at_auto_word.false and saw-before c.at_auto_word.ensures.peeks.same (saw-so (c.at_default_word.ensures.sees cond) c.if-at_default_word.false) and saw-before c.at_auto_word.ensures.peeks.same (saw-before c.at_default_word.ensures.peeks.same (saw-so (c.at_safe_word.ensures.sees cond) c.if-at_safe_word.false)) and saw-before c.at_auto_word.ensures.peeks.same (saw-before c.at_default_word.ensures.peeks.same (saw-before c.at_safe_word.ensures.peeks.same (saw-so (c.at_const_word.ensures.sees cond) c.if-at_const_word.false))) and saw-before c.at_auto_word.ensures.peeks.same (saw-before c.at_default_word.ensures.peeks.same (saw-before c.at_safe_word.ensures.peeks.same (saw-before c.at_const_word.ensures.peeks.same (saw-so (c.at_async_word.ensures.sees cond) c.if-at_async_word.false)))) and saw-before c.at_auto_word.ensures.peeks.same (saw-before c.at_default_word.ensures.peeks.same (saw-before c.at_safe_word.ensures.peeks.same (saw-before c.at_const_word.ensures.peeks.same (saw-before c.at_async_word.ensures.peeks.same (saw-so (c.at_gen_word.ensures.sees cond) c.if-at_gen_word.false))))) and saw-before c.at_auto_word.ensures.peeks.same (saw-before c.at_default_word.ensures.peeks.same (saw-before c.at_safe_word.ensures.peeks.same (saw-before c.at_const_word.ensures.peeks.same (saw-before c.at_async_word.ensures.peeks.same (saw-before c.at_gen_word.ensures.peeks.same (saw-so (c.at_unsafe_word.ensures.sees cond) c.if-at_unsafe_word.false)))))) and saw-before c.at_auto_word.ensures.peeks.same (saw-before c.at_default_word.ensures.peeks.same (saw-before c.at_safe_word.ensures.peeks.same (saw-before c.at_const_word.ensures.peeks.same (saw-before c.at_async_word.ensures.peeks.same (saw-before c.at_gen_word.ensures.peeks.same (saw-before c.at_unsafe_word.ensures.peeks.same (saw-so (c.at_extern_word.ensures.sees cond) c.if-at_extern_word.true))))))) and nothing) refl

pub returns-then-at_extern_word-clause-peeks : goal.returns-then-at_extern_word-clause-peeks
returns-then-at_extern_word-clause-peeks c = peeks-within (peeks-then c.at_auto_word.ensures.peeks (peeks-then c.at_default_word.ensures.peeks (peeks-then c.at_safe_word.ensures.peeks (peeks-then c.at_const_word.ensures.peeks (peeks-then c.at_async_word.ensures.peeks (peeks-then c.at_gen_word.ensures.peeks (peeks-then c.at_unsafe_word.ensures.peeks (c.at_extern_word.ensures.peeks)))))))) (omega arith)

pub returns-clause-sees : goal.returns-clause-sees
unfolding look_of begins_below whole rule items statements expressions patterns types paths there_at shift passes is_silent begins in_mode from_start row one_of any_of no_longer longest is_longer
returns-clause-sees c cond = saw-told (saw-so (c.at_auto_word.ensures.sees cond) c.if-at_auto_word.false and saw-before c.at_auto_word.ensures.peeks.same (saw-so (c.at_default_word.ensures.sees cond) c.if-at_default_word.false) and saw-before c.at_auto_word.ensures.peeks.same (saw-before c.at_default_word.ensures.peeks.same (saw-so (c.at_safe_word.ensures.sees cond) c.if-at_safe_word.false)) and saw-before c.at_auto_word.ensures.peeks.same (saw-before c.at_default_word.ensures.peeks.same (saw-before c.at_safe_word.ensures.peeks.same (saw-so (c.at_const_word.ensures.sees cond) c.if-at_const_word.false))) and saw-before c.at_auto_word.ensures.peeks.same (saw-before c.at_default_word.ensures.peeks.same (saw-before c.at_safe_word.ensures.peeks.same (saw-before c.at_const_word.ensures.peeks.same (saw-so (c.at_async_word.ensures.sees cond) c.if-at_async_word.false)))) and saw-before c.at_auto_word.ensures.peeks.same (saw-before c.at_default_word.ensures.peeks.same (saw-before c.at_safe_word.ensures.peeks.same (saw-before c.at_const_word.ensures.peeks.same (saw-before c.at_async_word.ensures.peeks.same (saw-so (c.at_gen_word.ensures.sees cond) c.if-at_gen_word.false))))) and saw-before c.at_auto_word.ensures.peeks.same (saw-before c.at_default_word.ensures.peeks.same (saw-before c.at_safe_word.ensures.peeks.same (saw-before c.at_const_word.ensures.peeks.same (saw-before c.at_async_word.ensures.peeks.same (saw-before c.at_gen_word.ensures.peeks.same (saw-so (c.at_unsafe_word.ensures.sees cond) c.if-at_unsafe_word.false)))))) and saw-before c.at_auto_word.ensures.peeks.same (saw-before c.at_default_word.ensures.peeks.same (saw-before c.at_safe_word.ensures.peeks.same (saw-before c.at_const_word.ensures.peeks.same (saw-before c.at_async_word.ensures.peeks.same (saw-before c.at_gen_word.ensures.peeks.same (saw-before c.at_unsafe_word.ensures.peeks.same (saw-so (c.at_extern_word.ensures.sees cond) c.if-at_extern_word.false))))))) and nothing) refl

pub returns-clause-peeks : goal.returns-clause-peeks
returns-clause-peeks c = peeks-within (peeks-then c.at_auto_word.ensures.peeks (peeks-then c.at_default_word.ensures.peeks (peeks-then c.at_safe_word.ensures.peeks (peeks-then c.at_const_word.ensures.peeks (peeks-then c.at_async_word.ensures.peeks (peeks-then c.at_gen_word.ensures.peeks (peeks-then c.at_unsafe_word.ensures.peeks (c.at_extern_word.ensures.peeks)))))))) (omega arith)

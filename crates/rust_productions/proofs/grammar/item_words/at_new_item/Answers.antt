-- Each path reads what the rule comes to there.
use Rattle.std.proofs.Common.{inl, inr, refl, arith}
use Rattle.rust_grammar.specs.Expressions.{expressions}
use Rattle.rust_grammar.specs.Items.{items}
use Rattle.rust_grammar.specs.Meaning.{begins_below, look_of}
use Rattle.rust_grammar.specs.Notation.{any_of, is_longer, no_longer, longest, one_of, row}
use Rattle.rust_grammar.specs.Paths.{paths}
use Rattle.rust_grammar.specs.Patterns.{patterns}
use Rattle.rust_grammar.specs.Rule.{begins, in_mode, from_start, is_silent, passes, shift, there_at}
use Rattle.rust_grammar.specs.Statements.{statements}
use Rattle.rust_grammar.specs.Types.{types}
use Rattle.rust_grammar.specs.Whole.{rule, whole}
use Rattle.rust_grammar.specs.Rule as rules
use Rattle.rust_productions.proofs.Facts.{nothing, saw-so, ◌and◌}
use Rattle.rust_productions.proofs.Seen.{saw-before, saw-told}
use Rattle.rust_productions.proofs.Peeking.{peeks-then, peeks-within, stays-then}
use Rattle.rust_productions.proofs.grammar.item_words.at_new_item.Goals as goal

pub returns-then-not-at_whole-clause-sees : goal.returns-then-not-at_whole-clause-sees
unfolding look_of begins_below whole rule items statements expressions patterns types paths there_at shift passes is_silent begins in_mode from_start row one_of any_of no_longer longest is_longer
returns-then-not-at_whole-clause-sees c cond = saw-told (saw-so (c.at_whole.ensures.sees cond) c.if-not-at_whole.true and nothing) refl

pub returns-then-at_extern_crate-clause-sees : goal.returns-then-at_extern_crate-clause-sees
unfolding look_of begins_below whole rule items statements expressions patterns types paths there_at shift passes is_silent begins in_mode from_start row one_of any_of no_longer longest is_longer
returns-then-at_extern_crate-clause-sees c cond = saw-told (saw-so (c.at_whole.ensures.sees cond) c.if-not-at_whole.false and saw-before c.at_whole.ensures.same (saw-so (c.at_extern_crate.ensures.sees cond) c.if-at_extern_crate.true) and nothing) refl

pub returns-then-at_extern_crate-clause-peeks : goal.returns-then-at_extern_crate-clause-peeks
returns-then-at_extern_crate-clause-peeks c = peeks-within (stays-then c.at_whole.ensures.same c.at_whole.ensures.stays (c.at_extern_crate.ensures.peeks)) (omega arith)

pub returns-then-at_union-clause-sees : goal.returns-then-at_union-clause-sees
unfolding look_of begins_below whole rule items statements expressions patterns types paths there_at shift passes is_silent begins in_mode from_start row one_of any_of no_longer longest is_longer
returns-then-at_union-clause-sees c cond = saw-told (saw-so (c.at_whole.ensures.sees cond) c.if-not-at_whole.false and saw-before c.at_whole.ensures.same (saw-so (c.at_extern_crate.ensures.sees cond) c.if-at_extern_crate.false) and saw-before c.at_whole.ensures.same (saw-before c.at_extern_crate.ensures.peeks.same (saw-so (c.at_union.ensures.sees cond) c.if-at_union.true)) and nothing) refl

pub returns-then-at_union-clause-peeks : goal.returns-then-at_union-clause-peeks
returns-then-at_union-clause-peeks c = peeks-within (stays-then c.at_whole.ensures.same c.at_whole.ensures.stays (peeks-then c.at_extern_crate.ensures.peeks (c.at_union.ensures.peeks))) (omega arith)

pub returns-then-at_macro_rules-clause-sees : goal.returns-then-at_macro_rules-clause-sees
unfolding look_of begins_below whole rule items statements expressions patterns types paths there_at shift passes is_silent begins in_mode from_start row one_of any_of no_longer longest is_longer
returns-then-at_macro_rules-clause-sees c cond = saw-told (saw-so (c.at_whole.ensures.sees cond) c.if-not-at_whole.false and saw-before c.at_whole.ensures.same (saw-so (c.at_extern_crate.ensures.sees cond) c.if-at_extern_crate.false) and saw-before c.at_whole.ensures.same (saw-before c.at_extern_crate.ensures.peeks.same (saw-so (c.at_union.ensures.sees cond) c.if-at_union.false)) and saw-before c.at_whole.ensures.same (saw-before c.at_extern_crate.ensures.peeks.same (saw-before c.at_union.ensures.peeks.same (saw-so (c.at_macro_rules.ensures.sees cond) c.if-at_macro_rules.true))) and nothing) refl

pub returns-then-at_macro_rules-clause-peeks : goal.returns-then-at_macro_rules-clause-peeks
returns-then-at_macro_rules-clause-peeks c = peeks-within (stays-then c.at_whole.ensures.same c.at_whole.ensures.stays (peeks-then c.at_extern_crate.ensures.peeks (peeks-then c.at_union.ensures.peeks (c.at_macro_rules.ensures.peeks)))) (omega arith)

pub returns-then-at-clause-sees : goal.returns-then-at-clause-sees
unfolding look_of begins_below whole rule items statements expressions patterns types paths there_at shift passes is_silent begins in_mode from_start row one_of any_of no_longer longest is_longer
returns-then-at-clause-sees c cond = saw-told (saw-so (c.at_whole.ensures.sees cond) c.if-not-at_whole.false and saw-before c.at_whole.ensures.same (saw-so (c.at_extern_crate.ensures.sees cond) c.if-at_extern_crate.false) and saw-before c.at_whole.ensures.same (saw-before c.at_extern_crate.ensures.peeks.same (saw-so (c.at_union.ensures.sees cond) c.if-at_union.false)) and saw-before c.at_whole.ensures.same (saw-before c.at_extern_crate.ensures.peeks.same (saw-before c.at_union.ensures.peeks.same (saw-so (c.at_macro_rules.ensures.sees cond) c.if-at_macro_rules.false))) and saw-before c.at_whole.ensures.same (saw-before c.at_extern_crate.ensures.peeks.same (saw-before c.at_union.ensures.peeks.same (saw-before c.at_macro_rules.ensures.peeks.same (saw-so (c.at.ensures.sees cond) c.if-at.true)))) and nothing) refl

pub returns-then-at-clause-peeks : goal.returns-then-at-clause-peeks
returns-then-at-clause-peeks c = peeks-within (stays-then c.at_whole.ensures.same c.at_whole.ensures.stays (peeks-then c.at_extern_crate.ensures.peeks (peeks-then c.at_union.ensures.peeks (peeks-then c.at_macro_rules.ensures.peeks (c.at.ensures.peeks))))) (omega arith)

pub returns-then-at_words-clause-sees : goal.returns-then-at_words-clause-sees
unfolding look_of begins_below whole rule items statements expressions patterns types paths there_at shift passes is_silent begins in_mode from_start row one_of any_of no_longer longest is_longer
returns-then-at_words-clause-sees c cond = saw-told (saw-so (c.at_whole.ensures.sees cond) c.if-not-at_whole.false and saw-before c.at_whole.ensures.same (saw-so (c.at_extern_crate.ensures.sees cond) c.if-at_extern_crate.false) and saw-before c.at_whole.ensures.same (saw-before c.at_extern_crate.ensures.peeks.same (saw-so (c.at_union.ensures.sees cond) c.if-at_union.false)) and saw-before c.at_whole.ensures.same (saw-before c.at_extern_crate.ensures.peeks.same (saw-before c.at_union.ensures.peeks.same (saw-so (c.at_macro_rules.ensures.sees cond) c.if-at_macro_rules.false))) and saw-before c.at_whole.ensures.same (saw-before c.at_extern_crate.ensures.peeks.same (saw-before c.at_union.ensures.peeks.same (saw-before c.at_macro_rules.ensures.peeks.same (saw-so (c.at.ensures.sees cond) c.if-at.false)))) and saw-before c.at_whole.ensures.same (saw-before c.at_extern_crate.ensures.peeks.same (saw-before c.at_union.ensures.peeks.same (saw-before c.at_macro_rules.ensures.peeks.same (saw-before c.at.ensures.peeks.same (saw-so (c.at_words.ensures.sees cond) c.if-at_words.true))))) and nothing) refl

pub returns-then-at_words-clause-peeks : goal.returns-then-at_words-clause-peeks
returns-then-at_words-clause-peeks c = peeks-within (stays-then c.at_whole.ensures.same c.at_whole.ensures.stays (peeks-then c.at_extern_crate.ensures.peeks (peeks-then c.at_union.ensures.peeks (peeks-then c.at_macro_rules.ensures.peeks (peeks-then c.at.ensures.peeks (c.at_words.ensures.peeks)))))) (omega arith)

pub returns-clause-sees : goal.returns-clause-sees
unfolding look_of begins_below whole rule items statements expressions patterns types paths there_at shift passes is_silent begins in_mode from_start row one_of any_of no_longer longest is_longer
returns-clause-sees c cond = saw-told (saw-so (c.at_whole.ensures.sees cond) c.if-not-at_whole.false and saw-before c.at_whole.ensures.same (saw-so (c.at_extern_crate.ensures.sees cond) c.if-at_extern_crate.false) and saw-before c.at_whole.ensures.same (saw-before c.at_extern_crate.ensures.peeks.same (saw-so (c.at_union.ensures.sees cond) c.if-at_union.false)) and saw-before c.at_whole.ensures.same (saw-before c.at_extern_crate.ensures.peeks.same (saw-before c.at_union.ensures.peeks.same (saw-so (c.at_macro_rules.ensures.sees cond) c.if-at_macro_rules.false))) and saw-before c.at_whole.ensures.same (saw-before c.at_extern_crate.ensures.peeks.same (saw-before c.at_union.ensures.peeks.same (saw-before c.at_macro_rules.ensures.peeks.same (saw-so (c.at.ensures.sees cond) c.if-at.false)))) and saw-before c.at_whole.ensures.same (saw-before c.at_extern_crate.ensures.peeks.same (saw-before c.at_union.ensures.peeks.same (saw-before c.at_macro_rules.ensures.peeks.same (saw-before c.at.ensures.peeks.same (saw-so (c.at_words.ensures.sees cond) c.if-at_words.false))))) and nothing) refl

pub returns-clause-peeks : goal.returns-clause-peeks
returns-clause-peeks c = peeks-within (stays-then c.at_whole.ensures.same c.at_whole.ensures.stays (peeks-then c.at_extern_crate.ensures.peeks (peeks-then c.at_union.ensures.peeks (peeks-then c.at_macro_rules.ensures.peeks (peeks-then c.at.ensures.peeks (c.at_words.ensures.peeks)))))) (omega arith)

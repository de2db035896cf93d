-- Each path sees what the look asks.
use Rattle.std.proofs.Common.{refl}
use Rattle.rust_grammar.specs.Expressions.{expressions}
use Rattle.rust_grammar.specs.Items.{items}
use Rattle.rust_grammar.specs.Meaning.{begins_below, look_of}
use Rattle.rust_grammar.specs.Notation.{any_of, is_longer, no_longer, longest, one_of, row}
use Rattle.rust_grammar.specs.Paths.{paths}
use Rattle.rust_grammar.specs.Patterns.{patterns}
use Rattle.rust_grammar.specs.Rule.{begins, in_mode, from_start, is_silent, passes, shift, there_at}
use Rattle.rust_grammar.specs.Statements.{statements}
use Rattle.rust_grammar.specs.Types.{types}
use Rattle.rust_grammar.specs.Whole.{rule, whole}
use Rattle.rust_productions.proofs.Facts.{nothing, ◌and◌}
use Rattle.rust_productions.proofs.Looking.{saw-arm, saw-not}
use Rattle.rust_productions.proofs.Seen.{saw-after, saw-before, saw-told}
use Rattle.rust_productions.proofs.Peeking.{peeks-then}
use Rattle.rust_productions.proofs.grammar.items.at_fn.Goals as goal

pub returns-in-FN_KW-clause-sees : goal.returns-in-FN_KW-clause-sees
unfolding look_of begins_below whole rule items statements expressions patterns types paths there_at shift passes is_silent begins in_mode from_start row one_of any_of no_longer longest is_longer
returns-in-FN_KW-clause-sees c cond = saw-told (saw-arm c.in-FN_KW.is (c.current.ensures.sees cond) and nothing) refl

pub at_fn_after_const-requires : goal.at_fn_after_const-requires
unfolding look_of begins_below whole rule items statements expressions patterns types paths there_at shift passes is_silent begins in_mode from_start row one_of any_of no_longer longest is_longer
at_fn_after_const-requires c = λ cond. saw-after c.current.ensures.peeks.same (saw-told (saw-arm c.in-CONST_KW.is (c.current.ensures.sees cond) and nothing) refl)

pub returns-in-CONST_KW-clause-sees : goal.returns-in-CONST_KW-clause-sees
returns-in-CONST_KW-clause-sees c cond = saw-before c.current.ensures.peeks.same (c.at_fn_after_const.ensures.sees cond)

pub returns-in-CONST_KW-clause-peeks : goal.returns-in-CONST_KW-clause-peeks
returns-in-CONST_KW-clause-peeks c = peeks-then c.current.ensures.peeks c.at_fn_after_const.ensures.peeks

pub at_fn_after_unsafe-requires : goal.at_fn_after_unsafe-requires
unfolding look_of begins_below whole rule items statements expressions patterns types paths there_at shift passes is_silent begins in_mode from_start row one_of any_of no_longer longest is_longer
at_fn_after_unsafe-requires c = λ cond. saw-after c.current.ensures.peeks.same (saw-told (saw-arm c.in-UNSAFE_KW.is (c.current.ensures.sees cond) and nothing) refl)

pub returns-in-UNSAFE_KW-clause-sees : goal.returns-in-UNSAFE_KW-clause-sees
returns-in-UNSAFE_KW-clause-sees c cond = saw-before c.current.ensures.peeks.same (c.at_fn_after_unsafe.ensures.sees cond)

pub returns-in-UNSAFE_KW-clause-peeks : goal.returns-in-UNSAFE_KW-clause-peeks
returns-in-UNSAFE_KW-clause-peeks c = peeks-then c.current.ensures.peeks c.at_fn_after_unsafe.ensures.peeks

pub returns-in_default-clause-sees : goal.returns-in_default-clause-sees
unfolding look_of begins_below whole rule items statements expressions patterns types paths there_at shift passes is_silent begins in_mode from_start row one_of any_of no_longer longest is_longer
returns-in_default-clause-sees c cond = saw-told (saw-not c.in_default.not-FN_KW (c.current.ensures.sees cond) and saw-not c.in_default.not-CONST_KW (c.current.ensures.sees cond) and saw-not c.in_default.not-UNSAFE_KW (c.current.ensures.sees cond) and nothing) refl

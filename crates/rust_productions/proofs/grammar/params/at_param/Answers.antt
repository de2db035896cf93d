-- Where no pattern begins, none of the tokens is next that a parameter `self` begins with.
use Rattle.std.proofs.Common.{Bool, true, false, refl, arith}
use Rattle.parser_input.specs.Kinds.{AMP, MUT_KW, SELF_KW}
use Rattle.parser_events.specs.View.{View}
use Rattle.rust_grammar.specs.Expressions.{expressions}
use Rattle.rust_grammar.specs.Items.{items, new_param_begins}
use Rattle.rust_grammar.specs.Meaning.{begins_below, look_of}
use Rattle.rust_grammar.specs.Notation.{wide, any_of, is_longer, no_longer, longest, one_of, row}
use Rattle.rust_grammar.specs.Paths.{paths}
use Rattle.rust_grammar.specs.Patterns.{patterns}
use Rattle.rust_grammar.specs.Rule.{Kind, begins, in_mode, from_start, is_silent, passes, shift, there_at}
use Rattle.rust_grammar.specs.Statements.{statements}
use Rattle.rust_grammar.specs.Types.{types}
use Rattle.rust_grammar.specs.Whole.{rule, whole}
use Rattle.rust_grammar.specs.Rule as rules
use Rattle.rust_productions.specs.Reads.{looks, Saw, Condition}
use Rattle.rust_productions.proofs.Facts.{begun, nothing, saw-so, ◌and◌}
use Rattle.rust_productions.proofs.Peeking.{peeks-then, peeks-within}
use Rattle.rust_productions.proofs.Seen.{begins-row, saw-before, saw-none}
use Rattle.rust_productions.proofs.grammar.params.at_param.Goals as goal

as-pattern : (b : Bool) {c : Condition} {v : View} → Saw c (wide new_param_begins) v false → Saw c (looks rules.pattern) v b → Saw c (looks rules.param) v b
unfolding look_of begins_below whole rule items statements expressions patterns types paths there_at shift passes is_silent begins in_mode from_start row one_of any_of no_longer longest is_longer
as-pattern true old saw = begins-row rules.param (old and begun rules.pattern saw nothing) refl
as-pattern false old saw = begins-row rules.param (old and saw-none (Kind 0 SELF_KW) (looks rules.pattern) nothing saw refl and saw-none (Kind 0 MUT_KW) (looks rules.pattern) nothing saw refl and saw-none (Kind 0 AMP) (looks rules.pattern) nothing saw refl and begun rules.pattern saw nothing) refl

pub returns-then-at_new_param-clause-sees : goal.returns-then-at_new_param-clause-sees
unfolding look_of begins_below whole rule items statements expressions patterns types paths there_at shift passes is_silent begins in_mode from_start row one_of any_of no_longer longest is_longer
returns-then-at_new_param-clause-sees c cond = begins-row rules.param (saw-so (c.at_new_param.ensures.sees cond) c.if-at_new_param.true and nothing) refl

pub returns-then-at_new_param-clause-peeks : goal.returns-then-at_new_param-clause-peeks
returns-then-at_new_param-clause-peeks c = peeks-within c.at_new_param.ensures.peeks (omega arith)

pub returns-clause-sees : goal.returns-clause-sees
returns-clause-sees c cond = as-pattern _ (saw-so (c.at_new_param.ensures.sees cond) c.if-at_new_param.false) (saw-before c.at_new_param.ensures.peeks.same (c.at_pattern.ensures.sees cond))

pub returns-clause-peeks : goal.returns-clause-peeks
returns-clause-peeks c = peeks-within (peeks-then c.at_new_param.ensures.peeks c.at_pattern.ensures.peeks) (omega arith)

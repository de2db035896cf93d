-- Each path reads what the rule comes to there.
-- Each path reads what the rule comes to there.
use Rattle.rust_grammar.specs.Expressions.{expressions}
use Rattle.rust_grammar.specs.Items.{items}
use Rattle.rust_grammar.specs.Meaning.{begins_below, look_of}
use Rattle.rust_grammar.specs.Notation.{any_of, is_longer, no_longer, longest, one_of, row}
use Rattle.rust_grammar.specs.Paths.{paths}
use Rattle.rust_grammar.specs.Patterns.{patterns}
use Rattle.rust_grammar.specs.Rule.{begins, in_mode, from_start, is_silent, passes, shift, there_at, Kind}
use Rattle.rust_grammar.specs.Statements.{statements}
use Rattle.rust_grammar.specs.Types.{types, fn_ptr_begins}
use Rattle.rust_grammar.specs.Whole.{rule, whole}
use Rattle.rust_grammar.specs.Rule as rules
use Rattle.rust_productions.proofs.ByHand.{after-look, reads-then}
use Rattle.rust_productions.proofs.Choices.{reads-here}
use Rattle.rust_productions.proofs.Facts.{nothing, ◌and◌}
use Rattle.rust_productions.proofs.Looking.{saw-arm, saw-not}
use Rattle.parser_input.specs.Kinds.{FN_KW}
use Rattle.std.proofs.Common.{refl}
use Rattle.rust_productions.proofs.Seen.{saw-else}
use Rattle.rust_productions.proofs.grammar.types.fn_ptr_words.Goals as goal

pub returns-in-UNSAFE_KW-clause-reads : goal.returns-in-UNSAFE_KW-clause-reads
unfolding look_of begins_below whole rule items statements expressions patterns types paths there_at shift passes is_silent begins in_mode from_start row one_of any_of no_longer longest is_longer
returns-in-UNSAFE_KW-clause-reads c = λ cond. reads-here (saw-arm c.in-UNSAFE_KW.is (c.current.ensures.sees cond) and nothing) (after-look cond c.current.ensures.peeks.same (reads-then cond (c.take.ensures.reads cond) (reads-then cond (c.opt_abi.ensures.reads cond) (c.expect.ensures.reads cond))))

pub returns-in-EXTERN_KW-clause-reads : goal.returns-in-EXTERN_KW-clause-reads
unfolding look_of begins_below whole rule items statements expressions patterns types paths there_at shift passes is_silent begins in_mode from_start row one_of any_of no_longer longest is_longer
returns-in-EXTERN_KW-clause-reads c = λ cond. reads-here (saw-arm c.in-EXTERN_KW.is (c.current.ensures.sees cond) and nothing) (after-look cond c.current.ensures.peeks.same (reads-then cond (c.read_abi.ensures.reads cond) (c.expect-in-EXTERN_KW.ensures.reads cond)))

pub returns-in_default-clause-reads : goal.returns-in_default-clause-reads
unfolding look_of begins_below whole rule items statements expressions patterns types paths there_at shift passes is_silent begins in_mode from_start row one_of any_of no_longer longest is_longer
returns-in_default-clause-reads c = λ cond. reads-here (saw-else (Kind 0 FN_KW) fn_ptr_begins (saw-not c.in_default.not-UNSAFE_KW (c.current.ensures.sees cond) and saw-not c.in_default.not-EXTERN_KW (c.current.ensures.sees cond) and nothing) (c.requires.begins.sees cond) refl and nothing) (after-look cond c.current.ensures.peeks.same (c.take-in_default.ensures.reads cond))

-- Each path reads what the rule comes to there.
use Rattle.rust_grammar.specs.Expressions.{expressions}
use Rattle.rust_grammar.specs.Items.{items}
use Rattle.rust_grammar.specs.Meaning.{begins_below, look_of}
use Rattle.rust_grammar.specs.Notation.{any_of, is_longer, no_longer, longest, one_of, row}
use Rattle.rust_grammar.specs.Paths.{paths}
use Rattle.rust_grammar.specs.Patterns.{patterns}
use Rattle.rust_grammar.specs.Rule.{begins, in_mode, from_start, is_silent, passes, shift, there_at}
use Rattle.rust_grammar.specs.Statements.{statements}
use Rattle.rust_grammar.specs.Types.{types}
use Rattle.rust_grammar.specs.Whole.{rule, whole}
use Rattle.rust_productions.proofs.ByHand.{after-look}
use Rattle.rust_productions.proofs.Choices.{reads-here}
use Rattle.rust_productions.proofs.Facts.{nothing, ◌and◌}
use Rattle.rust_productions.proofs.Looking.{left-arm, saw-arm, saw-not}
use Rattle.rust_productions.proofs.grammar.names.take_literal.Goals as goal

pub returns-in-INT_NUMBER-clause-reads : goal.returns-in-INT_NUMBER-clause-reads
unfolding look_of begins_below whole rule items statements expressions patterns types paths there_at shift passes is_silent begins in_mode from_start row one_of any_of no_longer longest is_longer
returns-in-INT_NUMBER-clause-reads c cond = reads-here (left-arm c.in-INT_NUMBER.is (c.current.ensures.end cond) and saw-arm c.in-INT_NUMBER.is (c.current.ensures.sees cond) and nothing) (after-look cond c.current.ensures.peeks.same ((c.take.ensures.reads cond)))

pub returns-in-FLOAT_NUMBER-clause-reads : goal.returns-in-FLOAT_NUMBER-clause-reads
unfolding look_of begins_below whole rule items statements expressions patterns types paths there_at shift passes is_silent begins in_mode from_start row one_of any_of no_longer longest is_longer
returns-in-FLOAT_NUMBER-clause-reads c cond = reads-here (left-arm c.in-FLOAT_NUMBER.is (c.current.ensures.end cond) and saw-arm c.in-FLOAT_NUMBER.is (c.current.ensures.sees cond) and nothing) (after-look cond c.current.ensures.peeks.same ((c.take-in-FLOAT_NUMBER.ensures.reads cond)))

pub returns-in-CHAR-clause-reads : goal.returns-in-CHAR-clause-reads
unfolding look_of begins_below whole rule items statements expressions patterns types paths there_at shift passes is_silent begins in_mode from_start row one_of any_of no_longer longest is_longer
returns-in-CHAR-clause-reads c cond = reads-here (left-arm c.in-CHAR.is (c.current.ensures.end cond) and saw-arm c.in-CHAR.is (c.current.ensures.sees cond) and nothing) (after-look cond c.current.ensures.peeks.same ((c.take-in-CHAR.ensures.reads cond)))

pub returns-in-BYTE-clause-reads : goal.returns-in-BYTE-clause-reads
unfolding look_of begins_below whole rule items statements expressions patterns types paths there_at shift passes is_silent begins in_mode from_start row one_of any_of no_longer longest is_longer
returns-in-BYTE-clause-reads c cond = reads-here (left-arm c.in-BYTE.is (c.current.ensures.end cond) and saw-arm c.in-BYTE.is (c.current.ensures.sees cond) and nothing) (after-look cond c.current.ensures.peeks.same ((c.take-in-BYTE.ensures.reads cond)))

pub returns-in-STRING-clause-reads : goal.returns-in-STRING-clause-reads
unfolding look_of begins_below whole rule items statements expressions patterns types paths there_at shift passes is_silent begins in_mode from_start row one_of any_of no_longer longest is_longer
returns-in-STRING-clause-reads c cond = reads-here (left-arm c.in-STRING.is (c.current.ensures.end cond) and saw-arm c.in-STRING.is (c.current.ensures.sees cond) and nothing) (after-look cond c.current.ensures.peeks.same ((c.take-in-STRING.ensures.reads cond)))

pub returns-in-BYTE_STRING-clause-reads : goal.returns-in-BYTE_STRING-clause-reads
unfolding look_of begins_below whole rule items statements expressions patterns types paths there_at shift passes is_silent begins in_mode from_start row one_of any_of no_longer longest is_longer
returns-in-BYTE_STRING-clause-reads c cond = reads-here (left-arm c.in-BYTE_STRING.is (c.current.ensures.end cond) and saw-arm c.in-BYTE_STRING.is (c.current.ensures.sees cond) and nothing) (after-look cond c.current.ensures.peeks.same ((c.take-in-BYTE_STRING.ensures.reads cond)))

pub returns-in-C_STRING-clause-reads : goal.returns-in-C_STRING-clause-reads
unfolding look_of begins_below whole rule items statements expressions patterns types paths there_at shift passes is_silent begins in_mode from_start row one_of any_of no_longer longest is_longer
returns-in-C_STRING-clause-reads c cond = reads-here (left-arm c.in-C_STRING.is (c.current.ensures.end cond) and saw-arm c.in-C_STRING.is (c.current.ensures.sees cond) and nothing) (after-look cond c.current.ensures.peeks.same ((c.take-in-C_STRING.ensures.reads cond)))

pub returns-in-TRUE_KW-clause-reads : goal.returns-in-TRUE_KW-clause-reads
unfolding look_of begins_below whole rule items statements expressions patterns types paths there_at shift passes is_silent begins in_mode from_start row one_of any_of no_longer longest is_longer
returns-in-TRUE_KW-clause-reads c cond = reads-here (left-arm c.in-TRUE_KW.is (c.current.ensures.end cond) and saw-arm c.in-TRUE_KW.is (c.current.ensures.sees cond) and nothing) (after-look cond c.current.ensures.peeks.same ((c.take-in-TRUE_KW.ensures.reads cond)))

pub returns-in_default-clause-reads : goal.returns-in_default-clause-reads
unfolding look_of begins_below whole rule items statements expressions patterns types paths there_at shift passes is_silent begins in_mode from_start row one_of any_of no_longer longest is_longer
returns-in_default-clause-reads c cond = reads-here (saw-not c.in_default.not-INT_NUMBER (c.current.ensures.sees cond) and saw-not c.in_default.not-FLOAT_NUMBER (c.current.ensures.sees cond) and saw-not c.in_default.not-CHAR (c.current.ensures.sees cond) and saw-not c.in_default.not-BYTE (c.current.ensures.sees cond) and saw-not c.in_default.not-STRING (c.current.ensures.sees cond) and saw-not c.in_default.not-BYTE_STRING (c.current.ensures.sees cond) and saw-not c.in_default.not-C_STRING (c.current.ensures.sees cond) and saw-not c.in_default.not-TRUE_KW (c.current.ensures.sees cond) and nothing) (after-look cond c.current.ensures.peeks.same ((c.take-in_default.ensures.reads cond)))

-- Each arm reads what the rule comes to there.
use Rattle.std.proofs.Common.{refl}
use Rattle.rust_grammar.specs.Expressions.{expressions}
use Rattle.rust_grammar.specs.Items.{items}
use Rattle.rust_grammar.specs.Meaning.{begins_below, look_of}
use Rattle.rust_grammar.specs.Notation.{any_of, is_longer, no_longer, longest, one_of, row}
use Rattle.rust_grammar.specs.Paths.{paths}
use Rattle.rust_grammar.specs.Patterns.{patterns}
use Rattle.rust_grammar.specs.Rule.{begins, in_mode, from_start, is_silent, passes, shift, there_at}
use Rattle.rust_grammar.specs.Statements.{statements}
use Rattle.rust_grammar.specs.Types.{types}
use Rattle.rust_grammar.specs.Whole.{rule, whole}
use Rattle.parser_input.specs.Kinds as kinds
use Rattle.rust_grammar.specs.Calls.{Name}
use Rattle.rust_grammar.specs.Notation.{◌▸◌, ⁅◌⁆, ◌! }
use Rattle.rust_grammar.specs.Rule.{Kind, One}
use Rattle.rust_grammar.specs.Words.{'mut', 'ref'}
use Rattle.rust_productions.specs.Reads.{looks}
use Rattle.rust_productions.proofs.ByHand.{after-look, reads-call}
use Rattle.rust_productions.proofs.Choices.{reads-here}
use Rattle.rust_productions.proofs.Facts.{nothing, ◌and◌}
use Rattle.rust_productions.proofs.Looking.{saw-arm, saw-not}
use Rattle.rust_productions.proofs.Seen.{saw-else}
use Rattle.rust_productions.proofs.grammar.fields.bound_name.Goals as goal

pub returns-in-REF_KW-clause-reads : goal.returns-in-REF_KW-clause-reads
unfolding look_of begins_below whole rule items statements expressions patterns types paths there_at shift passes is_silent begins in_mode from_start row one_of any_of no_longer longest is_longer
returns-in-REF_KW-clause-reads c cond = reads-here (saw-arm c.in-REF_KW.is (c.current.ensures.sees cond) and nothing) (after-look cond c.current.ensures.peeks.same (c.name_after_ref.ensures.reads cond))

pub returns-in-MUT_KW-clause-reads : goal.returns-in-MUT_KW-clause-reads
unfolding look_of begins_below whole rule items statements expressions patterns types paths there_at shift passes is_silent begins in_mode from_start row one_of any_of no_longer longest is_longer
returns-in-MUT_KW-clause-reads c cond = reads-here (saw-arm c.in-MUT_KW.is (c.current.ensures.sees cond) and nothing) (after-look cond c.current.ensures.peeks.same (c.name_after_mut.ensures.reads cond))

pub returns-in_default-clause-reads : goal.returns-in_default-clause-reads
unfolding look_of begins_below whole rule items statements expressions patterns types paths there_at shift passes is_silent begins in_mode from_start row one_of any_of no_longer longest is_longer
returns-in_default-clause-reads c cond =
    let neither = saw-not c.in_default.not-REF_KW (c.current.ensures.sees cond) and saw-not c.in_default.not-MUT_KW (c.current.ensures.sees cond) and nothing in
    reads-here (saw-not c.in_default.not-REF_KW (c.current.ensures.sees cond) and saw-not c.in_default.not-MUT_KW (c.current.ensures.sees cond) and saw-else (Kind 0 kinds.IDENT) (begins looks (⁅ One 'ref' ⁆ ▸ ⁅ One 'mut' ⁆ ▸ Name !)) neither (c.requires.begins cond) refl and nothing)
    (after-look cond c.current.ensures.peeks.same (reads-call cond (c.name.ensures.gives cond)))

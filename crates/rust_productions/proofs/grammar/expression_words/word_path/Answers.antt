-- A path of one word ends before a `!`.
use Rattle.std.proofs.Common.{true, refl}
use Rattle.parser_input.specs.Kinds.{BANG}
use Rattle.rust_grammar.specs.Rule.{Kind}
use Rattle.rust_grammar.specs.Rule as rules
use Rattle.rust_grammar.specs.Expressions.{expressions}
use Rattle.rust_grammar.specs.Items.{items}
use Rattle.rust_grammar.specs.Meaning.{begins_below, look_of}
use Rattle.rust_grammar.specs.Notation.{any_of, is_longer, no_longer, longest, one_of, row}
use Rattle.rust_grammar.specs.Paths.{paths}
use Rattle.rust_grammar.specs.Patterns.{patterns}
use Rattle.rust_grammar.specs.Rule.{begins, in_mode, from_start, is_silent, passes, shift, there_at}
use Rattle.rust_grammar.specs.Statements.{statements}
use Rattle.rust_grammar.specs.Types.{types}
use Rattle.rust_grammar.specs.Whole.{rule, whole}
use Rattle.rust_productions.specs.Reads.{Saw}
use Rattle.rust_productions.specs.declared.condition.Condition.TheVariants.{On}
use Rattle.rust_productions.proofs.ByHand.{completes-leave, does-nothing, reads-call, reads-node, reads-nothing, reads-then}
use Rattle.rust_productions.proofs.Choices.{from_start-after, from_start-completes, gives-from_start, reads-here}
use Rattle.rust_productions.proofs.Facts.{nothing, ◌and◌}
use Rattle.rust_productions.proofs.Seen.{saw-closed, saw-inside, saw-left, saw-right, saw-taken}
use Rattle.rust_productions.proofs.grammar.expression_words.word_path.Goals as goal

pub complete-requires : goal.complete-requires
complete-requires c = (c.take.ensures.reads On).does.innermost _ c.start-name.ensures.marker

pub complete-requires-2 : goal.complete-requires-2
complete-requires-2 c = c.complete.ensures.closes.innermost _ ((c.take.ensures.reads On).does.innermost _ (c.start-name.ensures.opens.innermost _ c.start-segment.ensures.marker))

pub complete-requires-3 : goal.complete-requires-3
complete-requires-3 c = c.complete-2.ensures.closes.innermost _ (c.complete.ensures.closes.innermost _ ((c.take.ensures.reads On).does.innermost _ (c.start-name.ensures.opens.innermost _ (c.start-segment.ensures.opens.innermost _ c.start-path.ensures.marker))))

pub abandon-requires : goal.abandon-requires
abandon-requires c = c.complete-3.ensures.closes.innermost _ (c.complete-2.ensures.closes.innermost _ (c.complete.ensures.closes.innermost _ ((c.take.ensures.reads On).does.innermost _ (c.start-name.ensures.opens.innermost _ (c.start-segment.ensures.opens.innermost _ (c.start-path.ensures.opens.innermost _ c.start-frame.ensures.marker))))))

pub returns-clause-gives : goal.returns-clause-gives
unfolding look_of begins_below whole rule items statements expressions patterns types paths there_at shift passes is_silent begins in_mode from_start row one_of any_of no_longer longest is_longer
returns-clause-gives c = λ cond.
    let seen = saw-inside c.start-segment.ensures.opens (saw-inside c.start-path.ensures.opens (saw-inside c.start-frame.ensures.opens (c.requires.begins.sees cond))) in
    let name = gives-from_start {x = rules.name_ref} (from_start-after refl (reads-here (saw-left seen and nothing) (reads-node cond c.start-name.ensures.opens (c.take.ensures.reads cond) c.complete.ensures.closes))) in
    let bang : Saw cond (Kind 0 BANG) c.complete.new.p true = saw-closed c.complete.ensures.closes (saw-taken (Kind 0 BANG) refl (c.take.ensures.reads cond) (saw-inside c.start-name.ensures.opens (saw-left (saw-right seen)))) in
    let segment = reads-here (saw-left seen and nothing) (reads-then cond (reads-call cond name) (reads-here (bang and nothing) (reads-nothing cond (does-nothing _)))) in
    let path = reads-node cond c.start-path.ensures.opens (reads-node cond c.start-segment.ensures.opens segment c.complete-2.ensures.closes) c.complete-3.ensures.closes in
    let over = reads-here (saw-closed c.complete-3.ensures.closes (saw-closed c.complete-2.ensures.closes bang) and nothing) (reads-nothing cond (does-nothing _)) in
    gives-from_start (from_start-completes c.start-frame.ensures.opens (completes-leave (reads-then cond path over) c.abandon.ensures.leaves))

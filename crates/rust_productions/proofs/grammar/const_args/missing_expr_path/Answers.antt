-- Each path reads what the rule comes to there.
use Rattle.std.proofs.Common.{refl}
use Rattle.rust_grammar.specs.Expressions.{expressions}
use Rattle.rust_grammar.specs.Items.{items}
use Rattle.rust_grammar.specs.Meaning.{begins_below, look_of}
use Rattle.rust_grammar.specs.Notation.{any_of, is_longer, no_longer, longest, one_of, row}
use Rattle.rust_grammar.specs.Paths.{paths}
use Rattle.rust_grammar.specs.Patterns.{patterns}
use Rattle.rust_grammar.specs.Rule.{begins, in_mode, from_start, is_silent, passes, shift, there_at}
use Rattle.rust_grammar.specs.Statements.{statements}
use Rattle.rust_grammar.specs.Types.{types}
use Rattle.rust_grammar.specs.Whole.{rule, whole}
use Rattle.rust_grammar.specs.Paths.{expr_args, next_segment}
use Rattle.rust_grammar.specs.Rule.{Unless}
use Rattle.rust_grammar.specs.Shared.{colons_before_more}
use Rattle.rust_productions.specs.Reads.{On}
use Rattle.rust_productions.proofs.ByHand.{completes-leave, completes-then, does-nothing}
use Rattle.rust_productions.proofs.Choices.{from_start-completes, gives-from_start}
use Rattle.rust_productions.proofs.Facts.{nothing, ◌and◌}
use Rattle.rust_productions.proofs.NoPath.{no-colons}
use Rattle.rust_productions.proofs.Seen.{ends-at-end, saw-inside, starts-here}
use Rattle.rust_productions.proofs.Turns.{first-turn, last-turn}
use Rattle.rust_productions.proofs.grammar.const_args.missing_expr_path.Goals as goal

pub missing_segment-requires : goal.missing_segment-requires
missing_segment-requires c = record { none = λ d. saw-inside c.start-frame.ensures.opens (c.requires.none d) }

pub abandon-requires : goal.abandon-requires
abandon-requires c = (c.missing_segment.ensures.reads On).does.innermost _ c.start-frame.ensures.marker

pub returns-clause-gives : goal.returns-clause-gives
unfolding look_of begins_below whole rule items statements expressions patterns types paths there_at shift passes is_silent begins in_mode from_start row one_of any_of no_longer longest is_longer
returns-clause-gives c cond = gives-from_start (from_start-completes c.start-frame.ensures.opens (completes-then (c.missing_segment.ensures.reads cond) (completes-leave (last-turn cond (Unless colons_before_more (next_segment expr_args)) (ends-at-end cond (Unless colons_before_more (next_segment expr_args)) refl) _ _ _ first-turn (starts-here (Unless colons_before_more (next_segment expr_args)) (no-colons (c.missing_segment.ensures.ends cond) and nothing) refl) (does-nothing _)) c.abandon.ensures.leaves)))

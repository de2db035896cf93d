-- Turn by turn.
use Rattle.std.proofs.Common.{refl, arith}
use Rattle.rust_productions.specs.Looks.{tokens}
use Rattle.parser_input.specs.Kinds.{PATH, PATH_SEGMENT}
use Rattle.rust_grammar.specs.Notation.{◌▸◌, ◌!, ◌⟨◌⟩, ◌<⟨◌⟩}
use Rattle.rust_grammar.specs.Words.{'::'}
use Rattle.rust_grammar.specs.Calls.{Ref}
use Rattle.rust_grammar.specs.Shared.{colons_before_more}
use Rattle.rust_grammar.specs.Rule.{Nothing, One, Unless}
use Rattle.rust_grammar.specs.Expressions.{expressions}
use Rattle.rust_grammar.specs.Items.{items}
use Rattle.rust_grammar.specs.Meaning.{begins_below, look_of}
use Rattle.rust_grammar.specs.Notation.{any_of, is_longer, no_longer, longest, one_of, row}
use Rattle.rust_grammar.specs.Paths.{paths}
use Rattle.rust_grammar.specs.Patterns.{patterns}
use Rattle.rust_grammar.specs.Rule.{begins, in_mode, from_start, is_silent, passes, shift, there_at}
use Rattle.rust_grammar.specs.Statements.{statements}
use Rattle.rust_grammar.specs.Types.{types}
use Rattle.rust_grammar.specs.Whole.{rule, whole}
use Rattle.rust_productions.proofs.ByHand.{after-look, reads-unless}
use Rattle.rust_productions.proofs.Facts.{saw-so}
use Rattle.rust_productions.proofs.Seen.{saw-after, ends-at-end}
use Rattle.rust_productions.proofs.Turns.{first-turn, next-turn, last-turn}
use Rattle.rust_productions.proofs.grammar.paths.next_segments.Goals as goal

pub turns-init : goal.turns-init
turns-init c = (λ cond. first-turn, omega arith, omega arith, c.requires)

pub turns-preserved : goal.turns-preserved
unfolding tokens look_of begins_below whole rule items statements expressions patterns types paths there_at shift passes is_silent begins in_mode from_start row one_of any_of no_longer longest is_longer
turns-preserved c = (λ cond. next-turn cond (Unless colons_before_more (PATH <⟨ One '::' ▸ (PATH_SEGMENT ⟨ Ref ▸ Nothing ⟩) ! ⟩)) (ends-at-end cond (Unless colons_before_more (PATH <⟨ One '::' ▸ (PATH_SEGMENT ⟨ Ref ▸ Nothing ⟩) ! ⟩)) refl) _ _ _ (c.turns.invariant.0 cond) (saw-so (c.at_next_segment.ensures.sees cond) c.turns-test.true) (after-look cond c.at_next_segment.ensures.peeks.same (reads-unless cond ((c.next_segment-path.ensures.reads cond)))) (omega (arith, c.next_segment-path.ensures.takes.left, c.at_next_segment.ensures.peeks.left)), omega (arith, c.turns.invariant.1), omega (arith, c.turns.invariant.2), c.next_segment-path.ensures.takes.marker)

pub returns-clause-reads : goal.returns-clause-reads
unfolding tokens look_of begins_below whole rule items statements expressions patterns types paths there_at shift passes is_silent begins in_mode from_start row one_of any_of no_longer longest is_longer
returns-clause-reads c cond = last-turn cond (Unless colons_before_more (PATH <⟨ One '::' ▸ (PATH_SEGMENT ⟨ Ref ▸ Nothing ⟩) ! ⟩)) (ends-at-end cond (Unless colons_before_more (PATH <⟨ One '::' ▸ (PATH_SEGMENT ⟨ Ref ▸ Nothing ⟩) ! ⟩)) refl) _ _ _ (c.turns.invariant.0 cond) (saw-so (c.at_next_segment.ensures.sees cond) c.turns-test.false) c.at_next_segment.ensures.peeks.same

pub next_segment-path-requires-clause-innermost : goal.next_segment-path-requires-clause-innermost
next_segment-path-requires-clause-innermost c = c.at_next_segment.ensures.peeks.same.innermost _ c.turns.invariant.3

pub returns-clause-asks : goal.returns-clause-asks
returns-clause-asks c = record {
  left = omega arith;
  looks = omega arith;
  marker = c.at_next_segment.ensures.peeks.same.innermost _ c.turns.invariant.3;
}

pub next_segment-path-requires-clause-some : goal.next_segment-path-requires-clause-some
next_segment-path-requires-clause-some c = omega (arith, c.at_next_segment.ensures.some c.turns-test.true, c.at_next_segment.ensures.peeks.left)

pub returns-clause-ends : goal.returns-clause-ends
returns-clause-ends c cond = saw-after c.at_next_segment.ensures.peeks.same (saw-so (c.at_next_segment.ensures.sees cond) c.turns-test.false)

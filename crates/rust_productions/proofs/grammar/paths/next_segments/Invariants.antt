-- What the repetition keeps.
use Rattle.std.specs.Prelude.{◌≤◌}
use Rattle.parser_input.specs.Kinds.{PATH, PATH_SEGMENT}
use Rattle.parser_events.specs.Stack.{IsInnermost}
use Rattle.rust_productions.specs.Looks.{tokens, spent}
use Rattle.rust_grammar.specs.Notation.{◌▸◌, ◌!, ◌⟨◌⟩, ◌<⟨◌⟩}
use Rattle.rust_grammar.specs.Words.{'::'}
use Rattle.rust_grammar.specs.Calls.{Ref}
use Rattle.rust_grammar.specs.Shared.{colons_before_more}
use Rattle.rust_grammar.specs.Rule.{Nothing, One, Unless}
use Rattle.rust_productions.specs.Reads.{Condition}
use Rattle.rust_productions.specs.Turns.{TurnsFrom}
use Rattle.rust_productions.proofs.grammar.paths.next_segments.Given as goal

abbrev pub invariant-turns : goal.invariant-turns
invariant-turns l = ((c : Condition) → TurnsFrom c (Unless colons_before_more (PATH <⟨ One '::' ▸ (PATH_SEGMENT ⟨ Ref ▸ Nothing ⟩) ! ⟩)) l.initial.p l.p) × (tokens l.p ≤ tokens l.initial.p) × (spent l.p ≤ spent l.initial.p) × IsInnermost l.path l.p.nodes

abbrev pub decreases-turns : goal.decreases-turns
decreases-turns l = tokens l.p

use Rattle.std.proofs.Common.{ℕ, length}
use Rattle.std.specs.Prelude.{string_bytes, List}
use Rattle.rowan_green.specs.declared.utility_types.NodeOrToken.TheVariants.{Node}
use Rattle.rowan.specs.Walk.{walk}
use Rattle.rowan.specs.Debug.{lines_of}
use Rattle.rowan.proofs.Printing.{Prints}
use Rattle.rowan.proofs.api.SyntaxNode.debug_tree.Given as goal

abbrev pub invariant-events : goal.invariant-events
invariant-events g l =
    let name : ℕ → List ℕ = λ raw. g.L.Language.name_of (g.L.Language.from_raw raw) in record {
      can : (goal.iterator-events g).can_next l.walk;
      finite : (goal.iterator-events g).is_finite l.walk;
      text : Prints (lines_of name 0 (walk (Node l.self))) (string_bytes l.text) (lines_of name l.depth l.walk);
    }

abbrev pub decreases-events : goal.decreases-events
decreases-events g l = length l.walk

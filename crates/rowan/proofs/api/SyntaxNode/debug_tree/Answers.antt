use Rattle.std.proofs.Common.{ℕ, List, ap, refl, ◌∙◌}
use Rattle.std.specs.Prelude.{string_bytes}
use Rattle.rowan_green.specs.declared.utility_types.NodeOrToken.TheVariants.{Node}
use Rattle.rowan.specs.Walk.{walk}
use Rattle.rowan.specs.Debug.{lines_of}
use Rattle.rowan.proofs.Printing.{prints_entered, prints_left}
use Rattle.rowan.proofs.api.SyntaxNode.debug_tree.Goals as goal
use Rattle.rowan.proofs.api.SyntaxNode.debug_tree.Goals.{in-Enter+in_ok-push_line-in-Enter, in-Leave}

pub events-preserved : goal.events-preserved
events-preserved g c =
    let name : ℕ → List ℕ = λ raw. g.L.Language.name_of (g.L.Language.from_raw raw) in
    let all = lines_of name 0 (walk (Node c.args.self.now)) in
    let a = string_bytes c.events.text in
    let to = string_bytes c.match-branch-3.text in
    let i = c.events.invariant.text in
    let s = c.in-Some.ensures.steps in
    let was = c.in_ok-element.was in record {
      can = tt;
      finite = tt;
      text = elim c.match-branch-3.branch [
        | in-Enter+in_ok-push_line-in-Enter w ↦
            prints_entered name all c.events.walk c.next.new.self c.in-Some.event c.in_ok-element.field-0 a (string_bytes w.push_line.new.to) to c.events.depth c.match-branch-3.depth i s was (ap string_bytes w.text-is) w.in-Enter.element w.in-Enter.is w.in_ok-push_line-in-Enter.ensures.line w.depth-is
        | in-Leave w ↦
            prints_left name all c.events.walk c.next.new.self c.in-Some.event c.in_ok-element.field-0 a a to c.events.depth c.match-branch-3.depth i s was (ap string_bytes w.text-is) _ w.in-Leave.is refl (w.depth-is ∙ w.saturating_sub-depth.ensures)
      ];
    }

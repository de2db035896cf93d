-- One index of the up-path after the other.
use Rattle.std.proofs.Common.{◌≡◌, ℕ, ◌-◌, ◌∷◌, ◌++◌, take, get_or, ap, sym, ◌∙◌, arith, option_map, Some, None}
use Rattle.syntax_tree.specs.Element.{Element}
use Rattle.syntax_tree.specs.Handle.{element_of, standing_at}
use Rattle.syntax_tree.proofs.WayLevels.{one_further, one_tree, none_further, standing_is}
use Rattle.syntax_tree.proofs.handle.SyntaxNode.element_at.Goals as goal

pub returns-in_default : goal.returns-in_default
returns-in_default c =
    let at = element_of c.loop-left.place in
    let left = c.loop-left.left in
    let w = c.args.way.now in
    let up = get_or w (left - 1) 0 ∷ at.place.up in
    let front = one_further w at.place.up left (omega arith) c.loop-left.invariant.within ∙ c.loop-left.invariant.rest in
    let none : standing_at at up ≡ None = sym c.in_ok-child.ensures ∙ ap (option_map element_of) c.in_default.is in
    let here = one_tree c.args.self.now at up (sym c.loop-left.invariant.number) (sym c.loop-left.invariant.tree) ∙ none in
    sym (none_further c.args.self.now (take (left - 1) w) up w front here)

pub returns : goal.returns
returns c =
    let at_end : c.loop-left.left ≡ 0 = omega arith in
    let at = element_of c.loop-left.place in
    let way = sym (ap (λ (n : ℕ). take n c.args.way.now ++ at.place.up) at_end) ∙ c.loop-left.invariant.rest in
    sym (ap (standing_at c.args.self.now) (sym way) ∙ c.loop-left.invariant.stands)

pub loop-left-preserved : goal.loop-left-preserved
loop-left-preserved c =
    let at = element_of c.loop-left.place in
    let left = c.loop-left.left in
    let w = c.args.way.now in
    let up = get_or w (left - 1) 0 ∷ at.place.up in
    let front = one_further w at.place.up left (omega arith) c.loop-left.invariant.within ∙ c.loop-left.invariant.rest in
    let some : standing_at at up ≡ Some (element_of c.in-Some.child) = sym c.in_ok-child.ensures ∙ ap (option_map element_of) c.in-Some.is in
    let is = standing_is at up (element_of c.in-Some.child) some in
    record {
      within = omega (arith, c.loop-left.invariant.within);
      number = ap (λ (e : Element). e.number) is ∙ c.loop-left.invariant.number;
      tree = ap (λ (e : Element). e.place.root) is ∙ c.loop-left.invariant.tree;
      rest = ap (λ (e : Element). take (left - 1) w ++ e.place.up) is ∙ front;
      stands =
          ap (λ (e : Element). standing_at c.args.self.now e.place.up) is
          ∙ one_tree c.args.self.now at up (sym c.loop-left.invariant.number) (sym c.loop-left.invariant.tree)
          ∙ some;
    }

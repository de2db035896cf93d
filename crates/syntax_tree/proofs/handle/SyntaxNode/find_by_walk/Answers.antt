-- No match is missed if the elements inside an element are skipped.
use Rattle.std.proofs.Common.{◌≡◌, List, ◌∷◌, ◌&&◌, ℕ, true, false, Some, nat_le, ap, sym, ◌∙◌, map, subst}
use Rattle.std.proofs.lemmas.Bool.{cond-true}
use Rattle.rowan_green.specs.declared.utility_types.NodeOrToken.TheVariants.{Node}
use Rattle.rowan.specs.Place.{Place, start_of, end_of}
use Rattle.rowan.specs.Walk.{Event, walk, entered}
use Rattle.rowan.specs.declared.utility_types.WalkEvent.TheVariants.{Enter}
use Rattle.rowan.proofs.Walks.{first_given}
use Rattle.syntax_tree.specs.Handle.{element_of, with_cursor}
use Rattle.syntax_tree.specs.Search.{is_of, first_in, first_of}
use Rattle.syntax_tree.specs.declared.element.SyntaxElement.{SyntaxElement}
use Rattle.syntax_tree.proofs.NestedWalks.{Nested, walk_nested, GoesOn, goes_over}
use Rattle.syntax_tree.proofs.handle.SyntaxNode.find_by_walk.Goals as goal

pub loop-event-init : goal.loop-event-init
loop-event-init c =
    let whole : c.in_ok-walk.walk ≡ walk (Node c.args.self.now.place) = c.in_ok-walk.ensures ∙ ap (λ (p : Place). walk (Node p)) c.cursor.ensures in
    let P : List Event → Type 0 = Nested in
    record {
      can = tt;
      finite = tt;
      nested = subst P (sym whole) (walk_nested c.args.self.now.place);
      same = ap (λ (w : List Event). first_in c.to_raw-kind.result c.args.range.start.0 c.args.range.end.0 (map (with_cursor c.args.self.now.number) (entered w))) (sym whole);
    }

pub returns-then-is_of : goal.returns-then-is_of
returns-then-is_of c =
    let n = c.args.self.now.number in
    let kind = c.to_raw-kind.result in
    let a = c.args.range.start.0 in
    let b = c.args.range.end.0 in
    let here = with_cursor n c.in-Enter.cursor in
    let element : c.numbered-element.result ≡ here = c.numbered-element.ensures ∙ ap (λ (t : ℕ). with_cursor t c.in-Enter.cursor) c.tree.ensures in
    let one : is_of kind a b (element_of here).place ≡ true =
    ap (λ (e : SyntaxElement). is_of kind a b (element_of e).place) (sym element) ∙ sym c.is_of.ensures ∙ c.if-is_of.true in
    let entered_it : c.loop-event.walk ≡ Enter c.in-Enter.cursor ∷ c.next.new.self =
    first_given _ _ _ _ c.in_ok-cursor.was c.in-Some.ensures.steps ∙ ap (λ (e : Event). e ∷ c.next.new.self) c.in-Enter.is in
    sym
    (c.loop-event.invariant.same
    ∙ ap (λ (w : List Event). first_in kind a b (map (with_cursor n) (entered w))) entered_it
    ∙ cond-true _ _ _ one
    ∙ ap Some (sym element))
    ∙ ap (λ (k : ℕ). first_of k a b c.args.self.now) c.to_raw-kind.ensures.number

gone_over : (c : goal.In_ok-skip_subtree) → GoesOn c.args.self.now.number c.to_raw-kind.result c.args.range.start.0 c.args.range.end.0 c.loop-event.walk c.skip_subtree.new.self
gone_over c =
    let n = c.args.self.now.number in
    let kind = c.to_raw-kind.result in
    let a = c.args.range.start.0 in
    let b = c.args.range.end.0 in
    let here = with_cursor n c.in-Enter.cursor in
    let element : c.numbered-element.result ≡ here = c.numbered-element.ensures ∙ ap (λ (t : ℕ). with_cursor t c.in-Enter.cursor) c.tree.ensures in
    let other : is_of kind a b (element_of here).place ≡ false =
    ap (λ (e : SyntaxElement). is_of kind a b (element_of e).place) (sym element) ∙ sym c.is_of.ensures ∙ c.if-is_of.false in
    let out : (nat_le (start_of (element_of here).place) a && nat_le b (end_of (element_of here).place)) ≡ false =
    ap (λ (e : SyntaxElement). nat_le (start_of (element_of e).place) a && nat_le b (end_of (element_of e).place)) (sym element) ∙ sym c.spans-spans.ensures ∙ c.if-not-spans.true in
    let entered_it : c.loop-event.walk ≡ Enter c.in-Enter.cursor ∷ c.next.new.self =
    first_given _ _ _ _ c.in_ok-cursor.was c.in-Some.ensures.steps ∙ ap (λ (e : Event). e ∷ c.next.new.self) c.in-Enter.is in
    let P : List Event → Type 0 = λ w. GoesOn n kind a b c.loop-event.walk w in
    subst P (sym c.in_ok-skip_subtree.ensures.ok) (goes_over n kind a b c.in-Enter.cursor c.loop-event.walk c.next.new.self entered_it c.loop-event.invariant.nested other out)

pub loop-event-smaller-in-Continue-branch-4 : goal.loop-event-smaller-in-Continue-branch-4
loop-event-smaller-in-Continue-branch-4 c = let on = gone_over c in on.shorter

pub loop-event-preserved-in-Continue-branch-4 : goal.loop-event-preserved-in-Continue-branch-4
loop-event-preserved-in-Continue-branch-4 c =
    let on = gone_over c in
    record {
      can = tt;
      finite = tt;
      nested = on.nested;
      same = c.loop-event.invariant.same ∙ on.same;
    }

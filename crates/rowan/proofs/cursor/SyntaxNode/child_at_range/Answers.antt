use Rattle.std.proofs.Common.{◌-◌, ◌≤◌, length, refl, arith, sym, ap, ◌∙◌, inl, inr}
use Rattle.std.proofs.lemmas.Bool.{false≢true}
use Rattle.rowan_green.specs.Forest.{tree_text}
use Rattle.rowan.specs.Place.{below, start_of, end_of, text_in}
use Rattle.rowan.specs.Around.{cursor_at}
use Rattle.rowan.proofs.Texts.{lt_or_ge}
use Rattle.rowan.proofs.Ranges.{from_child, found_here, none_here, none_after, start_found, found_early, found_reaches}
use Rattle.rowan.proofs.cursor.SyntaxNode.child_at_range.Goals.{then-end-from, else-end-from+in-Some}
use Rattle.rowan.proofs.cursor.SyntaxNode.child_at_range.Goals as goal

pub returns-in_default : goal.returns-in_default
returns-in_default c =
    let e = ap (λ o. length (text_in o)) c.green.ensures in
    elim (lt_or_ge (c.args.end - c.start-from.result - 1) (length (tree_text c.green.result.now))) [
      | inl k ↦ absurd (false≢true (c.in_default.ensures.found.1 k))
      | inr k ↦ sym (none_after c.args.self.now c.green.result.now c.args.start c.args.end c.green.ensures (omega (arith, e, k, c.start-from.ensures.start, c.if-end-from.false)))
    ]

pub returns-then-start-offset : goal.returns-then-start-offset
returns-then-start-offset c =
    let p = c.args.self.now in
    elim c.if-end-from.branch [
      | then-end-from w ↦
          let s = ap (λ x. x.1) w.index-is in
          sym (none_here p c.args.start c.args.end 0 refl (omega (arith, s, c.if-start-offset.true, c.start-from.ensures.start)))
      | else-end-from+in-Some w ↦
          let s = ap (λ x. x.1) w.index-is in
          let k = w.in-Some.ensures.child in
          let f = start_found p _ _ c.args.end _ _ w.green.ensures c.start-from.ensures.start w.if-end-from.false k in
          let i = found_early p _ _ c.args.end _ _ w.green.ensures c.start-from.ensures.start w.if-end-from.false k in
          sym (none_here p c.args.start c.args.end w.in-Some.found.index (from_child p c.args.start c.args.end w.in-Some.found.index i) (omega (arith, f, s, c.if-start-offset.true)))
    ]

pub returns : goal.returns
returns c =
    let p = c.args.self.now in
    elim c.if-end-from.branch [
      | then-end-from w ↦
          let s = ap (λ x. x.1) w.index-is in
          let n = ap (λ x. x.0) w.index-is in
          let l : start_of (below p 0) ≤ c.args.start = omega (arith, s, c.if-start-offset.false, c.start-from.ensures.start) in
          let r : c.args.end ≤ end_of (below p 0) = omega (arith, w.if-end-from.true, c.start-from.ensures.start) in
          let e = found_here p c.args.start c.args.end 0 refl l r ∙ ap (λ m. cursor_at (below p m)) (sym n) in
          rw e c.child.ensures.ok
      | else-end-from+in-Some w ↦
          let s = ap (λ x. x.1) w.index-is in
          let n = ap (λ x. x.0) w.index-is in
          let k = w.in-Some.ensures.child in
          let f = start_found p _ _ c.args.end _ _ w.green.ensures c.start-from.ensures.start w.if-end-from.false k in
          let i = found_early p _ _ c.args.end _ _ w.green.ensures c.start-from.ensures.start w.if-end-from.false k in
          let r = found_reaches p _ _ c.args.end _ _ w.green.ensures c.start-from.ensures.start w.if-end-from.false k in
          let l : start_of (below p w.in-Some.found.index) ≤ c.args.start = omega (arith, f, s, c.if-start-offset.false) in
          let e = found_here p c.args.start c.args.end w.in-Some.found.index (from_child p c.args.start c.args.end w.in-Some.found.index i) l r ∙ ap (λ m. cursor_at (below p m)) (sym n) in
          rw e c.child.ensures.ok
    ]

use Rattle.std.proofs.Common.{ℕ, ◌++◌, List, arith, sym, subst}
use Rattle.rowan_green.specs.Term.{Term, FitsNode}
use Rattle.rowan_green.specs.Balanced.{IsJoined}
use Rattle.rowan_green.proofs.Joining.{sides_some, fits_front, fits_back, lean_left_terms, lean_right_terms}
use Rattle.rowan_green.proofs.element_list_join.+joined.Goals as goal

pub joined-requires : goal.joined-requires
joined-requires t c =
    let j : IsJoined c.args.left.now.value c.in-Some.outer.value c.in-Some.inner.value =
    subst (λ (d : List Term × ℕ). IsJoined d c.in-Some.outer.value c.in-Some.inner.value) c.deref-then-left_height-right_height.ensures (sides_some _ _ _ _ _ c.in_ok-outer.ensures c.in-Some.is) in
    let f : FitsNode (c.args.left.now.value.0 ++ c.args.right.now.value.0) = c.requires in
    (omega (arith, j.height), fits_back c.in-Some.outer.value.0 _ (subst FitsNode (sym (lean_left_terms c.args.left.now.value c.args.right.now.value _ _ j)) f))

pub joined-requires-then-right_height-left_height : goal.joined-requires-then-right_height-left_height
joined-requires-then-right_height-left_height t c =
    let j : IsJoined c.args.right.now.value c.in-Some-2.inner.value c.in-Some-2.outer.value =
    subst (λ (d : List Term × ℕ). IsJoined d c.in-Some-2.inner.value c.in-Some-2.outer.value) c.deref-then-right_height-left_height.ensures (sides_some _ _ _ _ _ c.in_ok-inner.ensures c.in-Some-2.is) in
    let f : FitsNode (c.args.left.now.value.0 ++ c.args.right.now.value.0) = c.requires in
    (omega (arith, j.height), fits_front _ c.in-Some-2.outer.value.0 (subst FitsNode (sym (lean_right_terms c.args.left.now.value c.args.right.now.value _ _ j)) f))

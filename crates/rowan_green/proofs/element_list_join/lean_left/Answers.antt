use Rattle.std.proofs.Common.{ℕ, ◌≤◌, ◌<◌, List, arith, ap, subst}
use Rattle.rowan_green.specs.Term.{Term}
use Rattle.rowan_green.specs.Balanced.{IsJoined}
use Rattle.rowan_green.proofs.Joining.{sides_some, lean_left_inner, turn_left_front, turn_left_back}
use Rattle.rowan_green.proofs.element_list_join.lean_left.Goals as goal

pub forked-requires : goal.forked-requires
forked-requires c =
    let j : IsJoined c.args.left.now.value c.in-Some.outer.value c.in-Some.inner.value =
    subst (λ (d : List Term × ℕ). IsJoined d c.in-Some.outer.value c.in-Some.inner.value) c.deref.ensures (sides_some _ _ _ _ _ c.in_ok-outer.ensures c.in-Some.is) in
    let low : c.in-Some.inner.value.1 ≤ c.in-Some.outer.value.1 =
    omega (arith, c.if-height.true, c.height.ensures.height, c.height-2.ensures.height, ap (λ d. d.1) c.deref-2.ensures, ap (λ d. d.1) c.deref-3.ensures) in
    lean_left_inner _ _ _ _ j c.requires.higher c.requires.count c.requires.fits low

pub forked-requires-2 : goal.forked-requires-2
forked-requires-2 c =
    let j : IsJoined c.args.left.now.value c.in-Some.outer.value c.in-Some.inner.value =
    subst (λ (d : List Term × ℕ). IsJoined d c.in-Some.outer.value c.in-Some.inner.value) c.deref.ensures (sides_some _ _ _ _ _ c.in_ok-outer.ensures c.in-Some.is) in
    let k : IsJoined c.in-Some.inner.value c.in-Some-2.front.value c.in-Some-2.back.value =
    subst (λ (d : List Term × ℕ). IsJoined d c.in-Some-2.front.value c.in-Some-2.back.value) c.deref-4.ensures (sides_some _ _ _ _ _ c.in_ok-front.ensures c.in-Some-2.is) in
    let low : c.in-Some.outer.value.1 < c.in-Some.inner.value.1 =
    omega (arith, c.if-height.false, c.height.ensures.height, c.height-2.ensures.height, ap (λ d. d.1) c.deref-2.ensures, ap (λ d. d.1) c.deref-3.ensures) in
    turn_left_front _ _ _ _ _ _ j k c.requires.higher c.requires.fits low

pub forked-requires-3 : goal.forked-requires-3
forked-requires-3 c =
    let j : IsJoined c.args.left.now.value c.in-Some.outer.value c.in-Some.inner.value =
    subst (λ (d : List Term × ℕ). IsJoined d c.in-Some.outer.value c.in-Some.inner.value) c.deref.ensures (sides_some _ _ _ _ _ c.in_ok-outer.ensures c.in-Some.is) in
    let k : IsJoined c.in-Some.inner.value c.in-Some-2.front.value c.in-Some-2.back.value =
    subst (λ (d : List Term × ℕ). IsJoined d c.in-Some-2.front.value c.in-Some-2.back.value) c.deref-4.ensures (sides_some _ _ _ _ _ c.in_ok-front.ensures c.in-Some-2.is) in
    let low : c.in-Some.outer.value.1 < c.in-Some.inner.value.1 =
    omega (arith, c.if-height.false, c.height.ensures.height, c.height-2.ensures.height, ap (λ d. d.1) c.deref-2.ensures, ap (λ d. d.1) c.deref-3.ensures) in
    turn_left_back _ _ _ _ _ _ j k c.requires.higher c.requires.count c.requires.fits low

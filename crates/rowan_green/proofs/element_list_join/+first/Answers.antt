use Rattle.std.proofs.Common.{◌≡◌, ℕ, ◌-◌, ◌++◌, List, length, take, IfOk, arith, ap, sym, subst, ◌∙◌}
use Rattle.rowan_green.specs.Term.{Term, FitsNode}
use Rattle.rowan_green.specs.Balanced.{IsJoined}
use Rattle.rowan_green.proofs.Summing.{fits_take}
use Rattle.rowan_green.proofs.Joining.{sides_some, take_both}
use Rattle.rowan_green.proofs.element_list_join.+first.Goals as goal

pub joined-requires : goal.joined-requires
joined-requires t c =
    let j : IsJoined c.args.list.now.value c.in-Some.left.value c.in-Some.right.value =
    subst (λ (d : List Term × ℕ). IsJoined d c.in-Some.left.value c.in-Some.right.value) c.deref-2.ensures (sides_some _ _ _ _ _ c.in_ok-left.ensures c.in-Some.is) in
    let n : c.len-before.result ≡ length c.in-Some.left.value.0 = c.len-before.ensures.count ∙ ap (λ d. length d.0) c.deref-3.ensures in
    let m : c.in_ok-more.more.value.0 ≡ take (c.args.count - length c.in-Some.left.value.0) c.in-Some.right.value.0 =
    c.in_ok-more.ensures ∙ ap (λ k. take (c.args.count - k) c.in-Some.right.value.0) n in
    let e : c.in-Some.left.value.0 ++ c.in_ok-more.more.value.0 ≡ take c.args.count c.args.list.now.value.0 =
    ap (λ zs. c.in-Some.left.value.0 ++ zs) m ∙ take_both _ _ _ c.args.count j (omega (arith, n, c.if-count-before.false)) in
    subst FitsNode (sym e) (fits_take c.args.count _ j.fits)

pub returns : goal.returns
returns t c =
    let j : IsJoined c.args.list.now.value c.in-Some.left.value c.in-Some.right.value =
    subst (λ (d : List Term × ℕ). IsJoined d c.in-Some.left.value c.in-Some.right.value) c.deref-2.ensures (sides_some _ _ _ _ _ c.in_ok-left.ensures c.in-Some.is) in
    let n : c.len-before.result ≡ length c.in-Some.left.value.0 = c.len-before.ensures.count ∙ ap (λ d. length d.0) c.deref-3.ensures in
    let m : c.in_ok-more.more.value.0 ≡ take (c.args.count - length c.in-Some.left.value.0) c.in-Some.right.value.0 =
    c.in_ok-more.ensures ∙ ap (λ k. take (c.args.count - k) c.in-Some.right.value.0) n in
    let e : c.in-Some.left.value.0 ++ c.in_ok-more.more.value.0 ≡ take c.args.count c.args.list.now.value.0 =
    ap (λ zs. c.in-Some.left.value.0 ++ zs) m ∙ take_both _ _ _ c.args.count j (omega (arith, n, c.if-count-before.false)) in
    subst (λ (zs : List Term). IfOk c.joined.result (λ l. l.value.0 ≡ zs)) e c.joined.ensures.terms

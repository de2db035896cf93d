use Rattle.std.proofs.Common.{◌≡◌, ℕ, ◌-◌, ◌++◌, List, length, drop, IfOk, arith, ap, sym, subst, ◌∙◌}
use Rattle.rowan_green.specs.Term.{Term, FitsNode}
use Rattle.rowan_green.specs.Balanced.{IsJoined}
use Rattle.rowan_green.proofs.Summing.{fits_drop}
use Rattle.rowan_green.proofs.Joining.{sides_some, drop_both, drop_right}
use Rattle.rowan_green.proofs.element_list_join.+last.Goals as goal

pub returns-then-start-before : goal.returns-then-start-before
returns-then-start-before t c =
    let j : IsJoined c.args.list.now.value c.in-Some.left.value c.in-Some.right.value =
    subst (λ (d : List Term × ℕ). IsJoined d c.in-Some.left.value c.in-Some.right.value) c.deref.ensures (sides_some _ _ _ _ _ c.in_ok-left.ensures c.in-Some.is) in
    let n : c.len-before.result ≡ length c.in-Some.left.value.0 = c.len-before.ensures.count ∙ ap (λ d. length d.0) c.deref-2.ensures in
    let e : drop (c.args.start - c.len-before.result) c.in-Some.right.value.0 ≡ drop c.args.start c.args.list.now.value.0 =
    ap (λ k. drop (c.args.start - k) c.in-Some.right.value.0) n ∙ drop_right _ _ _ c.args.start j (omega (arith, n, c.if-start-before.true)) in
    subst (λ (zs : List Term). IfOk c.last.result (λ l. l.value.0 ≡ zs)) e c.last.ensures

pub joined-requires : goal.joined-requires
joined-requires t c =
    let j : IsJoined c.args.list.now.value c.in-Some.left.value c.in-Some.right.value =
    subst (λ (d : List Term × ℕ). IsJoined d c.in-Some.left.value c.in-Some.right.value) c.deref.ensures (sides_some _ _ _ _ _ c.in_ok-left.ensures c.in-Some.is) in
    let n : c.len-before.result ≡ length c.in-Some.left.value.0 = c.len-before.ensures.count ∙ ap (λ d. length d.0) c.deref-2.ensures in
    let e : c.in_ok-more.more.value.0 ++ c.in-Some.right.value.0 ≡ drop c.args.start c.args.list.now.value.0 =
    ap (λ zs. zs ++ c.in-Some.right.value.0) c.in_ok-more.ensures ∙ drop_both _ _ _ c.args.start j (omega (arith, n, c.if-start-before.false)) in
    subst FitsNode (sym e) (fits_drop c.args.start _ j.fits)

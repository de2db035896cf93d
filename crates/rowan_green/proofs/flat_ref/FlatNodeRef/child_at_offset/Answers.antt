use Rattle.std.proofs.Common.{◌≡◌, ◌≤◌, ◌^◌, length, arith, ap, ◌∙◌, subst}
use Rattle.rowan_green.specs.Term.{texts_of, term_len}
use Rattle.rowan_green.specs.declared.arena.Arena.{Arena}
use Rattle.rowan_green.specs.Arena.{term_in, terms_over, child_terms}
use Rattle.rowan_green.proofs.FlatRefLemmas.{term_as, children_len}
use Rattle.rowan_green.proofs.flat_ref.FlatNodeRef.child_at_offset.Goals as goal

pub find_child-place-requires-clause-inside : goal.find_child-place-requires-clause-inside
find_child-place-requires-clause-inside c =
    let a = c.self.inside.arena.now.value in
    let i = c.self.inside.index in
    let e = c.entry-entry.result in
    let es = c.children-children.result.now in
    let p = term_as a c.deref.result.now i e c.deref.ensures c.entry-entry.ensures.term in
    let q = subst (λ (d : Arena). terms_over d es ≡ child_terms (term_in d e)) c.deref-3.ensures c.children-children.ensures.children in
    let n = children_len a i (term_in a e) (terms_over a es) c.self.invariant p q in
    let l = c.text_len.ensures ∙ ap (λ (d : Arena). term_len (term_in d e)) c.deref-2.ensures in
    let m = ap (λ (d : Arena). length (texts_of (terms_over d es))) c.deref-5.ensures in
    omega (arith, n, l, m, c.if-offset-text_len.false)

pub overflow_add-result : goal.overflow_add-result
overflow_add-result c =
    let l : length c.children-children.result.now ≤ 2 ^ 32 = omega (arith, c.children-children.ensures.count) in
    let h = c.find_child-place.ensures.looks 32 l in
    omega (arith, h)

use Rattle.std.proofs.Common.{◌≡◌, ◌-◌, ◌<◌, take, arith, sym, ap, ◌∙◌, subst}
use Rattle.rowan_green.specs.Term.{text_of, children_of, term_count}
use Rattle.rowan.specs.Text.{IsCut, IsCharAt}
use Rattle.rowan.proofs.Parts.{whole_text, whole_count, child_count}
use Rattle.rowan.proofs.Characters.{child_cut, child_char, before_within}
use Rattle.rowan.proofs.text_search.char_in.Goals as goal

pub down-smaller : goal.down-smaller
down-smaller c =
    let n = child_count (children_of c.down.inside) c.in_ok-found.found.index _ c.in_ok-child.ensures in
    omega (arith, n, whole_count c.down.inside, ap term_count c.in-Node.is)

pub down-preserved : goal.down-preserved
down-preserved c =
    let h = c.in_ok-child.ensures in
    let f = c.in_ok-found.ensures.child in
    let z = c.text_len.ensures in
    let w = whole_text c.down.inside in
    let i = c.down.invariant in
    let u = subst (λ v. IsCut v c.down.end) (sym w) i.cut in
    let cut : IsCut (text_of c.in_ok-child.child) c.min-within.result = rw c.min-within.ensures (child_cut _ _ _ _ _ _ _ h f z u i.before) in
    record {
      cut = subst (λ e. IsCut (text_of e) c.min-within.result) c.in-Node.is cut;
      before = rw c.min-within.ensures (before_within _ _ _ _ _ _ _ h f z u i.before);
      found = λ r k.
          let q : IsCharAt (take c.min-within.result (text_of c.in_ok-child.child)) (c.down.byte - c.in_ok-found.found.start.0) r =
          subst (λ v. IsCharAt (take c.min-within.result (text_of v)) (c.down.byte - c.in_ok-found.found.start.0) r) (sym c.in-Node.is) k in
          i.found r (subst (λ v. IsCharAt (take c.down.end v) c.down.byte r) w
          (child_char _ _ _ _ _ _ _ h f z u i.before _ (subst (λ m. IsCharAt (take m (text_of c.in_ok-child.child)) (c.down.byte - c.in_ok-found.found.start.0) r) c.min-within.ensures q)));
    }

pub range-requires-clause-end_boundary : goal.range-requires-clause-end_boundary
range-requires-clause-end_boundary c =
    let i = c.down.invariant in
    let k : IsCut c.in-Some.text.now c.down.end = subst (λ v. IsCut v c.down.end) (sym c.in-Some.ensures) i.cut in
    (k.0, k.1 (omega arith))

pub range-requires-in-Token-clause-end_boundary : goal.range-requires-in-Token-clause-end_boundary
range-requires-in-Token-clause-end_boundary c =
    let h = c.in_ok-child.ensures in
    let f = c.in_ok-found.ensures.child in
    let z = c.text_len.ensures in
    let i = c.down.invariant in
    let u = subst (λ v. IsCut v c.down.end) (sym (whole_text c.down.inside)) i.cut in
    let cut : IsCut (text_of c.in_ok-child.child) c.min-within.result = rw c.min-within.ensures (child_cut _ _ _ _ _ _ _ h f z u i.before) in
    let some : c.down.byte - c.in_ok-found.found.start.0 < c.min-within.result = rw c.min-within.ensures (before_within _ _ _ _ _ _ _ h f z u i.before) in
    let e : text_of c.in_ok-child.child ≡ c.text.result.now = ap text_of c.in-Token.is ∙ sym c.text.ensures in
    let k : IsCut c.text.result.now c.min-within.result = subst (λ v. IsCut v c.min-within.result) e cut in
    (k.0, k.1 (omega arith))

pub returns-in-Token : goal.returns-in-Token
returns-in-Token c =
    let h = c.in_ok-child.ensures in
    let f = c.in_ok-found.ensures.child in
    let z = c.text_len.ensures in
    let w = whole_text c.down.inside in
    let i = c.down.invariant in
    let u = subst (λ v. IsCut v c.down.end) (sym w) i.cut in
    let m : c.min-within.result - 0 ≡ c.min-within.result = omega arith in
    let e : c.range-in-Token.result.now ≡ take c.min-within.result (text_of c.in_ok-child.child) = c.range-in-Token.ensures.value ∙ ap (λ k. take k c.text.result.now) m ∙ ap (λ v. take c.min-within.result v) (c.text.ensures ∙ sym (ap text_of c.in-Token.is)) in
    let r : IsCharAt (take c.min-within.result (text_of c.in_ok-child.child)) (c.down.byte - c.in_ok-found.found.start.0) c.char_of-in-Token.result = subst (λ v. IsCharAt v (c.down.byte - c.in_ok-found.found.start.0) c.char_of-in-Token.result) e c.char_of-in-Token.ensures in
    i.found _ (subst (λ v. IsCharAt (take c.down.end v) c.down.byte c.char_of-in-Token.result) w
    (child_char _ _ _ _ _ _ _ h f z u i.before _ (subst (λ k. IsCharAt (take k (text_of c.in_ok-child.child)) (c.down.byte - c.in_ok-found.found.start.0) c.char_of-in-Token.result) c.min-within.ensures r)))

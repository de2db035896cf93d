use Rattle.std.proofs.Common.{◌≡◌, ◌+◌, ◌-◌, ◌<◌, ◌≤◌, min, List, [], None, Some, slice_get, length, take, drop, ℕ, zero, suc, refl, ap, sym, ◌∙◌, subst, arith}
use Rattle.rowan_green.specs.Term.{Term, text_of, texts_of, children_of}
use Rattle.rowan.specs.ChildParts.{Rest, IsNext, IsWithin, YieldsPart, range_of}
use Rattle.rowan.proofs.Parts.{from_child}
use Rattle.rowan.proofs.Passing.{past_all, next-part}
use Rattle.rowan.proofs.child_parts.ChildPartsIterator.next.Goals as goal

take-nothing : (n : ℕ) → take {A = ℕ} n [] ≡ []
take-nothing zero = refl
take-nothing (suc n) = refl

drop-nothing : (n : ℕ) → drop {A = ℕ} n [] ≡ []
drop-nothing zero = refl
drop-nothing (suc n) = refl

pub returns-in_err-child-clause-steps : goal.returns-in_err-child-clause-steps
returns-in_err-child-clause-steps c =
    let es = children_of c.self.inside.node.now in
    let start = c.pass-index.result.1 in
    let none : None ≡ slice_get es c.pass-index.result.0 = sym c.in_err-child.was ∙ c.child.ensures in
    let bytes = c.pass-index.ensures.passed.bytes ∙ ap (λ l. drop start (texts_of l)) (past_all es c.pass-index.result.0 none) ∙ drop-nothing start in
    let range : range_of c.args.self.now ≡ [] =
    ap range_of (sym c.self.view_is) ∙ ap (take c.self.inside.len) bytes ∙ take-nothing c.self.inside.len in
    subst (λ o. YieldsPart c.args.self.now o c.args.self.now) (sym c.from_residual.ensures) range

pub overflow_sub-text_len : goal.overflow_sub-text_len
overflow_sub-text_len c =
    let es = children_of c.self.inside.node.now in
    let s = from_child es c.pass-index.result.0 c.in_ok-child.child c.in_ok-child.ensures in
    let h : c.pass-index.result.1 < length (text_of c.in_ok-child.child) = subst (λ l. IsWithin l c.pass-index.result.1) s c.pass-index.ensures.within in
    let z : _ ≡ length (text_of c.in_ok-child.child) = c.text_len.ensures in
    omega arith

pub returns-clause-steps : goal.returns-clause-steps
returns-clause-steps c =
    let es = children_of c.self.inside.node.now in
    let i = c.self.inside.index in
    let j = c.pass-index.result.0 in
    let start = c.pass-index.result.1 in
    let len = c.self.inside.len in
    let child = c.in_ok-child.child in
    let s = from_child es j child c.in_ok-child.ensures in
    let h : start < length (text_of child) = subst (λ l. IsWithin l start) s c.pass-index.ensures.within in
    let z : c.text_len.result.0 ≡ length (text_of child) = c.text_len.ensures in
    let next = next-part (drop i es) (drop j es) (drop (j + 1) es) child c.self.inside.skip len start c.text_len.result.0 c.min-len.result
    s z c.pass-index.ensures.passed (omega arith) (omega (arith, c.if-self-eq0.false)) c.min-len.ensures in
    subst (λ r. IsNext r (record { child = child; start = start; len = c.min-len.result }) (record { children = drop (j + 1) es; skip = 0; len = len - c.min-len.result })) c.self.view_is next

pub returns-clause-goes : goal.returns-clause-goes
returns-clause-goes c =
    let es = children_of c.self.inside.node.now in
    let s = from_child es c.pass-index.result.0 c.in_ok-child.child c.in_ok-child.ensures in
    let h : c.pass-index.result.1 < length (text_of c.in_ok-child.child) = subst (λ l. IsWithin l c.pass-index.result.1) s c.pass-index.ensures.within in
    let z : c.text_len.result.0 ≡ length (text_of c.in_ok-child.child) = c.text_len.ensures in
    let same : c.self.inside.len ≡ c.args.self.now.len = ap (λ (r : Rest). r.len) c.self.view_is in record {
      on = λ f. (tt, tt, omega (arith, same, c.min-len.ensures, c.if-self-eq0.false));
      keeps = tt;
      rests = λ f. tt;
    }

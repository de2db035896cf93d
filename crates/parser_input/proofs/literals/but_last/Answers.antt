use Rattle.std.proofs.Common.{◌≡◌, ◌∙◌, ◌+◌, ◌-◌, ◌≤◌, ◌<◌, ℕ, suc, List, [], ◌∷◌, refl, inl, inr, sym, ap, arith, true, false, take, drop, length, length-drop}
use Rattle.std.proofs.lemmas.List.{drop-drop}
use Rattle.rustc_lexer.proofs.Alike.{none_left}
use Rattle.parser_input.proofs.literals.but_last.Goals as goal

long : (xs : List ℕ) → (xs ≡ [] → ⊥) → 1 ≤ length xs
long [] some = absurd (some refl)
long (x ∷ xs) some = omega arith

pub inside-preserved : goal.inside-preserved
inside-preserved c =
    let text = c.args.text.now in
    let inv = c.inside.invariant in
    let k = inv.0 in
    let some : c.inside.ahead ≡ [] → ⊥ = λ e. let z : true ≡ false = sym (c.is_empty.ensures.1 e) ∙ c.inside-test.true in absurd (cc) in
    let at : c.bump-in-inside-2.new.self ≡ drop (suc k) text = c.bump-in-inside-2.ensures ∙ ap (λ (t : List ℕ). drop 1 t) inv.1 ∙ drop-drop 1 k text ∙ ap (λ (n : ℕ). drop n text) (let z : k + 1 ≡ suc k = omega arith in z) in
    let ahead = c.bump-in-inside.ensures ∙ ap (λ (t : List ℕ). drop 1 t) (inv.2 ∙ sym c.bump-in-inside-2.ensures) in
    let many : suc k < length text = omega (arith, long c.inside.ahead some, ap (λ (t : List ℕ). length t) inv.2, length-drop 1 c.inside.end, ap (λ (t : List ℕ). length t) inv.1, length-drop k text) in
    (suc k, at, ahead, inr many)

pub returns : goal.returns
returns c =
    let text = c.args.text.now in
    let inv = c.inside.invariant in
    let k = inv.0 in
    let none = none_left _ _ c.is_empty.ensures c.inside-test.false in
    let short : length c.inside.end ≤ 1 = omega (arith, ap (λ (t : List ℕ). length t) none, ap (λ (t : List ℕ). length t) inv.2, length-drop 1 c.inside.end) in
    let left : length c.inside.end ≡ length text - k = ap (λ (t : List ℕ). length t) inv.1 ∙ length-drop k text in
    let last : k ≡ length text - 1 = elim inv.3 [ inl zero ↦ omega arith | inr less ↦ omega arith ] in
    c.until.ensures k inv.1 ∙ ap (λ (n : ℕ). take n text) last

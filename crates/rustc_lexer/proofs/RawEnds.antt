-- A raw string closes at its first quote with its hashes after it.
use Rattle.std.proofs.Common.{◌≡◌, ℕ, suc, zero, ◌+◌, ◌<◌, Bool, true, false, ◌&&◌, ◌==◌, List, [], ◌∷◌, length, refl, sym, ◌∙◌, ap, subst, arith, inl, inr, eqb-true, eq-eqb}
use Rattle.std.specs.Bool.{MatchBool}
use Rattle.rustc_lexer.specs.Characters.{double_quote}
use Rattle.rustc_lexer.specs.Scan.{Taken, hashes_follow, raw}
use Rattle.rustc_lexer.specs.Endings.{ClosesRawAt}
use Rattle.rustc_lexer.proofs.Booleans.{bool_cases, and_left, and_right}
use Rattle.rustc_lexer.proofs.Steps.{raw-true, raw-false}

abbrev Ends : (n : ℕ) (text : List ℕ) (r : Taken Bool) → Type 0
Ends n text r =
    MatchBool r.value ((k : ℕ) × (r.taken ≡ suc k + n) × ClosesRawAt n text k × ((j : ℕ) → j < k → ClosesRawAt n text j → ⊥)) ((r.taken ≡ length text) × ((j : ℕ) → ClosesRawAt n text j → ⊥))

-- a place further on
later : (n : ℕ) (c : ℕ) (cs : List ℕ) (k : ℕ) → ClosesRawAt n cs k → ClosesRawAt n (c ∷ cs) (suc k)
later n c cs k p = record { inside = (let i = p.inside in omega arith); quote = p.quote; follow = p.follow }

none_before : (n : ℕ) (c : ℕ) (cs : List ℕ) → ((c == double_quote) && hashes_follow n cs) ≡ false → (k : ℕ) → ((j : ℕ) → j < k → ClosesRawAt n cs j → ⊥) → (j : ℕ) → j < suc k → ClosesRawAt n (c ∷ cs) j → ⊥
none_before n c cs h k before zero l p =
    let w : true ≡ false = sym (ap (λ t. t && hashes_follow n cs) (eq-eqb c double_quote p.quote) ∙ p.follow) ∙ h in
    let v : ⊥ = cc in v
none_before n c cs h k before (suc j) l p =
    before j (omega arith) (record { inside = (let i = p.inside in omega arith); quote = p.quote; follow = p.follow })

none_at : (n : ℕ) (c : ℕ) (cs : List ℕ) → ((c == double_quote) && hashes_follow n cs) ≡ false → ((j : ℕ) → ClosesRawAt n cs j → ⊥) → (j : ℕ) → ClosesRawAt n (c ∷ cs) j → ⊥
none_at n c cs h none j p = none_before n c cs h j (λ i l q. none i q) j (omega arith) p

wider : (n : ℕ) (c : ℕ) (cs : List ℕ) (v : Bool) (taken : ℕ) → ((c == double_quote) && hashes_follow n cs) ≡ false → Ends n cs (record { value = v; taken = taken }) → Ends n (c ∷ cs) (record { value = v; taken = suc taken })
wider n c cs true taken h e =
    (suc e.0, (let same = e.1 in omega arith), later n c cs e.0 e.2, none_before n c cs h e.0 e.3)
wider n c cs false taken h e = ((let same = e.0 in omega arith), none_at n c cs h e.1)

pub raw-ends : (n : ℕ) (text : List ℕ) → Ends n text (raw n text)
unfolding raw
raw-ends n [] = (refl, λ j p. let i = p.inside in absurd (omega arith))
raw-ends n (c ∷ cs) =
    elim (bool_cases ((c == double_quote) && hashes_follow n cs)) [
      | inl h ↦
          subst (λ r. Ends n (c ∷ cs) r) (sym (raw-true n c cs h))
          (0, (let z : suc n ≡ suc 0 + n = omega arith in z), record { inside = omega arith; quote = eqb-true c double_quote (and_left (c == double_quote) (hashes_follow n cs) h); follow = and_right (c == double_quote) (hashes_follow n cs) h }, λ j l p. absurd (omega arith))
      | inr h ↦
          subst (λ r. Ends n (c ∷ cs) r) (sym (raw-false n c cs h)) (wider n c cs (raw n cs).value (raw n cs).taken h (raw-ends n cs))
    ]

-- The last line feed of a text, character by character.
use Rattle.std.proofs.Common.{◌≡◌, ◌≢◌, ℕ, suc, ◌+◌, ◌<◌, ◌≤◌, List, ◌∷◌, drop, get_or, length, Bool, true, false, cond, eqb, refl, ap, sym, ◌∙◌, arith, Option, Some, None}
use Rattle.std.specs.Option.{option_or}
use Rattle.std.proofs.lemmas.Bool.Decides.{nat_tests}
use Rattle.std.proofs.lemmas.List.{at_drop_more, at_drop_all}
use Rattle.syntax_editor.specs.Indent.{after_line_feed}

-- the characters after the last line feed, if before `cs` one was found, with `k` characters after it, or none
abbrev pub since : Bool → ℕ → List ℕ → Option ℕ
since found k cs = option_or (after_line_feed cs) (cond found (Some (k + length cs)) None)

feed_by : (o : Option ℕ) (found : Bool) (k n : ℕ) → option_or (option_or o (Some n)) (cond found (Some (k + suc n)) None) ≡ option_or o (Some (0 + n))
feed_by None found k n = ap Some (omega arith)
feed_by (Some x) found k n = refl

other_by : (o : Option ℕ) (found : Bool) (k n : ℕ) → option_or (option_or o None) (cond found (Some (k + suc n)) None) ≡ option_or o (cond found (Some (k + 1 + n)) None)
other_by (Some x) found k n = refl
other_by None true k n = ap Some (omega arith)
other_by None false k n = refl

here : (found : Bool) (k : ℕ) (cs : List ℕ) (n c : ℕ) → (n < length cs) × (c ≡ get_or cs n c) → since found k (drop n cs) ≡ since found k (c ∷ drop (n + 1) cs)
here found k cs n c h = at_drop_more (since found k) cs n c h.0 ∙ ap (λ x. since found k (x ∷ drop (n + 1) cs)) (sym h.1)

pub since_feed : (found : Bool) (k : ℕ) (cs : List ℕ) (n c : ℕ) → (n < length cs) × (c ≡ get_or cs n c) → c ≡ 10 → since found k (drop n cs) ≡ since true 0 (drop (n + 1) cs)
since_feed found k cs n c h is =
    let rest = drop (n + 1) cs in
    here found k cs n c h
    ∙ ap (λ x. since found k (x ∷ rest)) is
    ∙ feed_by (after_line_feed rest) found k (length rest)

pub since_other : (found : Bool) (k : ℕ) (cs : List ℕ) (n c : ℕ) → (n < length cs) × (c ≡ get_or cs n c) → c ≢ 10 → since found k (drop n cs) ≡ since found (k + 1) (drop (n + 1) cs)
since_other found k cs n c h is =
    let rest = drop (n + 1) cs in
    let no : eqb c 10 ≡ false = grind (arith, nat_tests) in
    here found k cs n c h
    ∙ ap (λ b. option_or (option_or (after_line_feed rest) (cond b (Some (length rest)) None)) (cond found (Some (k + suc (length rest))) None)) no
    ∙ other_by (after_line_feed rest) found k (length rest)

-- at the end of the text
pub since_end : (found : Bool) (k : ℕ) (cs : List ℕ) (n : ℕ) → length cs ≤ n → since found k (drop n cs) ≡ cond found (Some k) None
since_end found k cs n h = at_drop_all (since found k) cs n h ∙ none_left found k
  where
    none_left : (found : Bool) (k : ℕ) → cond found (Some (k + 0)) None ≡ cond found (Some k) None
    none_left true k = ap Some (omega arith)
    none_left false k = refl

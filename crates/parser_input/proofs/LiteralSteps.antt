-- The parts of literals, as the code finds them.
use Rattle.std.proofs.Common.{◌≡◌, ℕ, zero, suc, ◌-◌, ◌<◌, ◌≤◌, Bool, true, false, not, ◌&&◌, List, [], ◌∷◌, ◌++◌, take, drop, get_or, Some, None, refl, sym, ◌∙◌, ap}
use Rattle.std.specs.Prelude.{leb}
use Rattle.std.specs.Char.{len_utf8}
use Rattle.std.proofs.lemmas.Bool.{le-leb, lt-leb}
use Rattle.rustc_lexer.specs.Rows.{first_fit}
use Rattle.parser_input.specs.Escapes.{is_sound, is_one}
use Rattle.parser_input.specs.Messages.{between_quotes, front, is_wide, quoted_message, when}
use Rattle.parser_input.specs.declared.literals.Quoted.{Quoted}
use Rattle.parser_input.specs.declared.message.Message.TheVariants.{UnterminatedLiteral, BadEscape, PastAscii, BadLength}

pub front-end : (n : ℕ) (t : List ℕ) → t ≡ [] → front n t ≡ []
unfolding front
front-end n [] e = refl
front-end n (c ∷ cs) e = absurd (cc)

pub front-stop : (n : ℕ) (t : List ℕ) → (t ≡ [] → ⊥) → n < len_utf8 (get_or t 0 0) → front n t ≡ []
unfolding front
front-stop n [] some h = absurd (some refl)
front-stop n (c ∷ cs) some h = let no : leb (len_utf8 c) n ≡ false = lt-leb (len_utf8 c) n h in rw (no, front) refl

pub front-more : (n : ℕ) (t : List ℕ) → (t ≡ [] → ⊥) → len_utf8 (get_or t 0 0) ≤ n → front n t ≡ get_or t 0 0 ∷ front (n - len_utf8 (get_or t 0 0)) (drop 1 t)
unfolding front
front-more n [] some h = absurd (some refl)
front-more n (c ∷ cs) some h = let yes : leb (len_utf8 c) n ≡ true = le-leb (len_utf8 c) n h in rw (yes, front) refl

pub uncons : (t : List ℕ) → (t ≡ [] → ⊥) → t ≡ get_or t 0 0 ∷ drop 1 t
uncons [] some = absurd (some refl)
uncons (c ∷ cs) some = refl

-- the next character moves to the front
pub take-next : (k : ℕ) (text rest xs : List ℕ) (x : ℕ) → drop k text ≡ x ∷ rest → take k text ++ x ∷ xs ≡ take (suc k) text ++ xs
take-next zero [] rest xs x e = absurd (cc)
take-next zero (y ∷ ys) rest xs x e = let same : x ≡ y = cc in ap (λ (z : ℕ). z ∷ xs) same
take-next (suc k) [] rest xs x e = absurd (cc)
take-next (suc k) (y ∷ ys) rest xs x e = ap (λ (l : List ℕ). y ∷ l) (take-next k ys rest xs x e)

pub quoted-open : (q : Quoted) (terminated : Bool) (t : List ℕ) → terminated ≡ false → Some UnterminatedLiteral ≡ quoted_message q terminated t
unfolding quoted_message first_fit
quoted-open q terminated t h = sym (rw h refl)

pub quoted-escape : (q : Quoted) (terminated : Bool) (t : List ℕ) → terminated ≡ true → is_sound q.rules 0 (between_quotes q t) ≡ false → Some BadEscape ≡ quoted_message q terminated t
unfolding quoted_message first_fit
quoted-escape q terminated t h s = sym (rw (h, s) refl)

pub quoted-wide : (q : Quoted) (terminated : Bool) (t : List ℕ) → terminated ≡ true → is_sound q.rules 0 (between_quotes q t) ≡ true → (q.is_ascii && is_wide t) ≡ true → Some PastAscii ≡ quoted_message q terminated t
unfolding quoted_message first_fit
quoted-wide q terminated t h s w = sym (rw (h, s, w) refl)

last_row : (b : Bool) → when b BadLength ≡ (elim b [ true ↦ Some BadLength | false ↦ None ])
last_row true = refl
last_row false = refl

pub quoted-length : (q : Quoted) (terminated : Bool) (t : List ℕ) → terminated ≡ true → is_sound q.rules 0 (between_quotes q t) ≡ true → (q.is_ascii && is_wide t) ≡ false → when (q.is_single && not (is_one q.rules (between_quotes q t))) BadLength ≡ quoted_message q terminated t
unfolding quoted_message first_fit
quoted-length q terminated t h s w = last_row (q.is_single && not (is_one q.rules (between_quotes q t))) ∙ sym (rw (h, s, w) refl)

-- How a text begins, and its empty lines: by its bytes and by its characters.
use Rattle.std.proofs.Common.{◌≡◌, ◌<◌, ◌==◌, ◌↔◌, ℕ, Bool, true, false, not, ◌&&◌, ◌||◌, List, [], ◌∷◌, ◌++◌, length, get_or, take, drop, eqb, refl, ap, sym, subst, ◌∙◌, append_assoc, length-append, arith}
use Rattle.std.specs.List.{starts_with}
use Rattle.std.specs.Str.{chars, IsUtf8}
use Rattle.std.specs.Str.Iter.{HasSubslice}
use Rattle.std.proofs.Math.Seq.{drop-append_seam, take-append_seam, get_or-append_seam}
use Rattle.std.proofs.lemmas.List.{take-append-drop}
use Rattle.std.proofs.Math.Utf8.{encode, encodes}
use Rattle.std.proofs.lemmas.Bool.Decides.{Decides-eqb}
use Rattle.std.proofs.lemmas.Slice.Eq.{starts_is}
use Rattle.std.proofs.lemmas.Str.{IsCharBoundary-before_ascii, IsUtf8-drop, IsUtf8-take, chars-append, cons_from_encodes, encode_ascii, encodes-chars}
use Rattle.parser_events.specs.Trivia.{AreAscii, begins_with, has_empty_line}

both : (a b : Bool) → (a && b) ≡ true → (a ≡ true) × (b ≡ true)
both true b h = (refl, h)
both false b h = absurd (cc)

either : (a b : Bool) → b ≡ true → (a || b) ≡ true
either true b h = refl
either false b h = h

pub same : (a b : Bool) → (a ≡ true → b ≡ true) → (b ≡ true → a ≡ true) → a ≡ b
same true b f g = sym (f refl)
same false true f g = g refl
same false false f g = refl

pub or-same : (a b x y : Bool) → a ≡ x → b ≡ y → (a || b) ≡ (x || y)
or-same a b x y e f = ap (λ (z : Bool). z || b) e ∙ ap (λ (z : Bool). x || z) f

pub and-same : (a b x y : Bool) → a ≡ x → b ≡ y → (a && b) ≡ (x && y)
and-same a b x y e f = ap (λ (z : Bool). z && b) e ∙ ap (λ (z : Bool). x && z) f

pub and-twice : (a b c x y : Bool) → (a && b) ≡ (a && x) → (a && c) ≡ (a && y) → ((a && b) && c) ≡ ((a && x) && y)
and-twice true b c x y e f = and-same b c x y e f
and-twice false b c x y e f = refl

-- bytes that are ASCII are characters too
pub read : (n : ℕ) (cs rest : List ℕ) → n < 128 → encodes cs ≡ n ∷ rest → (es : List ℕ) × (cs ≡ n ∷ es) × (encodes es ≡ rest)
read n cs rest h e = cons_from_encodes cs rest n (e ∙ sym (ap (λ (x : List ℕ). x ++ rest) (encode_ascii n h)))

pub written : (n : ℕ) (cs : List ℕ) → n < 128 → encodes (n ∷ cs) ≡ n ∷ encodes cs
written n cs h = ap (λ (x : List ℕ). x ++ encodes cs) (encode_ascii n h)

begun : (ns cs rest : List ℕ) → AreAscii ns → encodes cs ≡ ns ++ rest → begins_with ns cs ≡ true
unfolding begins_with
begun [] cs rest a e = refl
begun (n ∷ ns) cs rest a e =
    let at = read n cs (ns ++ rest) a.0 e in
    let more = begun ns at.0 rest a.1 at.2 in
    let itself : (n == n) ≡ true = (Decides-eqb n n).1 refl in
    subst (λ (x : List ℕ). begins_with (n ∷ ns) x ≡ true) (sym at.1) (rw itself more)

begun-bytes : (ns cs : List ℕ) → AreAscii ns → begins_with ns cs ≡ true → (rest : List ℕ) × (encodes cs ≡ ns ++ rest)
unfolding begins_with
begun-bytes [] cs a h = (encodes cs, refl)
begun-bytes (n ∷ ns) [] a h = absurd (cc)
begun-bytes (n ∷ ns) (c ∷ cs) a h =
    let parts = both (n == c) (begins_with ns cs) h in
    let more = begun-bytes ns cs a.1 parts.1 in
    let is : n ≡ c = (Decides-eqb n c).0 parts.0 in
    (more.0, ap (λ (x : ℕ). encodes (x ∷ cs)) (sym is) ∙ written n cs a.0 ∙ ap (λ (r : List ℕ). n ∷ r) more.1)

pub begins : (r : Bool) (ns bs : List ℕ) → AreAscii ns → IsUtf8 bs → r ≡ starts_with eqb bs ns → r ≡ begins_with ns (chars bs)
begins r ns bs a u e =
    let told = starts_is Decides-eqb bs ns r e in
    same r (begins_with ns (chars bs)) (λ h. begun ns (chars bs) (drop (length ns) bs) a (encodes-chars bs u ∙ told.0 h))
    (λ h. let b = begun-bytes ns (chars bs) a h in told.1 b.0 (sym (encodes-chars bs u) ∙ b.1))

-- The fourth character.

eqb-same : (d w : ℕ) → (d == w) ≡ (w == d)
eqb-same d w = same (d == w) (w == d) (λ h. (Decides-eqb w d).1 (sym ((Decides-eqb d w).0 h))) (λ h. (Decides-eqb d w).1 (sym ((Decides-eqb w d).0 h)))

guarded : (b x y : Bool) → (b ≡ true → x ≡ y) → (b && x) ≡ (b && y)
guarded true x y f = f refl
guarded false x y f = refl

and-true : (b : Bool) → (b && true) ≡ b
and-true true = refl
and-true false = refl

fourth : (a b c d : ℕ) (t : List ℕ) → 0 < d → begins_with (a ∷ b ∷ c ∷ []) t ≡ true → begins_with (a ∷ b ∷ c ∷ d ∷ []) t ≡ (get_or t 3 0 == d)
unfolding begins_with
fourth a b c d [] some h = absurd (cc)
fourth a b c d (x ∷ []) some h = absurd (let p = both (a == x) false h in cc)
fourth a b c d (x ∷ y ∷ []) some h = absurd (let p = both (a == x) ((b == y) && false) h in let q = both (b == y) false p.1 in cc)
fourth a b c d (x ∷ y ∷ z ∷ []) some h =
    let p = both (a == x) ((b == y) && ((c == z) && true)) h in
    let q = both (b == y) ((c == z) && true) p.1 in
    let r = both (c == z) true q.1 in
    let none : false ≡ (0 == d) = same false (0 == d) (λ e. absurd (cc)) (λ e. absurd (let z : 0 ≡ d = (Decides-eqb 0 d).0 e in omega (arith, z, some))) in
    rw (p.0, q.0, r.0) none
fourth a b c d (x ∷ y ∷ z ∷ w ∷ ws) some h =
    let p = both (a == x) ((b == y) && ((c == z) && true)) h in
    let q = both (b == y) ((c == z) && true) p.1 in
    let r = both (c == z) true q.1 in
    rw (p.0, q.0, r.0) (and-true (d == w) ∙ eqb-same d w)

-- three characters, and not this one after them
pub only-three : (a b c d : ℕ) (t : List ℕ) → 0 < d →
    (begins_with (a ∷ b ∷ c ∷ []) t && not (begins_with (a ∷ b ∷ c ∷ d ∷ []) t)) ≡ (begins_with (a ∷ b ∷ c ∷ []) t && not (get_or t 3 0 == d))
only-three a b c d t some =
    guarded (begins_with (a ∷ b ∷ c ∷ []) t) _ _ (λ h. ap not (fourth a b c d t some h))

-- Two line feeds.

longer : (c : ℕ) (cs : List ℕ) → has_empty_line cs ≡ true → has_empty_line (c ∷ cs) ≡ true
unfolding has_empty_line
longer c [] h = absurd (cc)
longer c (d ∷ cs) h = either ((c == 10) && (d == 10)) (has_empty_line (d ∷ cs)) h

later : (xs ys : List ℕ) → has_empty_line ys ≡ true → has_empty_line (xs ++ ys) ≡ true
later [] ys h = h
later (x ∷ xs) ys h = longer x (xs ++ ys) (later xs ys h)

at-once : (cs : List ℕ) → has_empty_line (10 ∷ 10 ∷ cs) ≡ true
unfolding has_empty_line
at-once cs = refl

empty-bytes : (cs : List ℕ) → has_empty_line cs ≡ true → HasSubslice (encodes cs) (10 ∷ 10 ∷ [])
unfolding has_empty_line
empty-bytes [] h = absurd (cc)
empty-bytes (c ∷ []) h = absurd (cc)
empty-bytes (c ∷ d ∷ cs) h = whichever ((c == 10) && (d == 10)) refl (empty-bytes (d ∷ cs))
  where
    whichever : (b : Bool) → ((c == 10) && (d == 10)) ≡ b → (has_empty_line (d ∷ cs) ≡ true → HasSubslice (encodes (d ∷ cs)) (10 ∷ 10 ∷ [])) → HasSubslice (encodes (c ∷ d ∷ cs)) (10 ∷ 10 ∷ [])
    whichever true e more =
        let p = both (c == 10) (d == 10) e in
        let c_is : c ≡ 10 = (Decides-eqb c 10).0 p.0 in
        let d_is : d ≡ 10 = (Decides-eqb d 10).0 p.1 in (
          [],
          encodes cs,
          ap (λ (x : ℕ). encodes (x ∷ d ∷ cs)) c_is ∙ ap (λ (x : ℕ). encodes (10 ∷ x ∷ cs)) d_is
              ∙ written 10 (10 ∷ cs) (omega arith) ∙ ap (λ (r : List ℕ). 10 ∷ r) (written 10 cs (omega arith)),
        )
    whichever false e more =
        let m = more (rw e at h) in
        (encode c ++ m.0, m.1, ap (λ (r : List ℕ). encode c ++ r) m.2 ∙ sym (append_assoc (encode c) m.0 (10 ∷ 10 ∷ m.1)))

bytes-empty : (bs : List ℕ) → IsUtf8 bs → HasSubslice bs (10 ∷ 10 ∷ []) → has_empty_line (chars bs) ≡ true
bytes-empty bs u h =
    let front = h.0 in
    let rest = h.1 in
    let i = length front in
    let split : bs ≡ front ++ (10 ∷ 10 ∷ rest) = h.2 in
    let rest_is : drop i bs ≡ 10 ∷ 10 ∷ rest = ap (drop i) split ∙ drop-append_seam front (10 ∷ 10 ∷ rest) in
    let front_is : take i bs ≡ front = ap (take i) split ∙ take-append_seam front (10 ∷ 10 ∷ rest) in
    let within : i < length bs = omega (arith, ap length split, length-append front (10 ∷ 10 ∷ rest)) in
    let byte : get_or bs i 0 ≡ 10 = ap (λ (x : List ℕ). get_or x i 0) split ∙ get_or-append_seam front 10 (10 ∷ rest) 0 in
    let boundary = IsCharBoundary-before_ascii bs i within (omega (arith, byte)) in
    let back = IsUtf8-drop bs i u boundary in
    let one = read 10 (chars (drop i bs)) (10 ∷ rest) (omega arith) (encodes-chars (drop i bs) back ∙ rest_is) in
    let two = read 10 one.0 rest (omega arith) one.2 in
    let is : chars bs ≡ chars (take i bs) ++ (10 ∷ 10 ∷ two.0) =
    ap chars (sym (take-append-drop i bs)) ∙ chars-append (take i bs) (drop i bs) (IsUtf8-take bs i u boundary)
    ∙ ap (λ (r : List ℕ). chars (take i bs) ++ r) (one.1 ∙ ap (λ (r : List ℕ). 10 ∷ r) two.1) in
    ap has_empty_line is ∙ later (chars (take i bs)) (10 ∷ 10 ∷ two.0) (at-once two.0)

pub empty-line : (r : Bool) (bs : List ℕ) → IsUtf8 bs → (r ≡ true) ↔ HasSubslice bs (10 ∷ 10 ∷ []) → r ≡ has_empty_line (chars bs)
empty-line r bs u h =
    same r (has_empty_line (chars bs)) (λ e. bytes-empty bs u (h.0 e))
    (λ e. h.1 (subst (λ (x : List ℕ). HasSubslice x (10 ∷ 10 ∷ [])) (encodes-chars bs u) (empty-bytes (chars bs) e)))

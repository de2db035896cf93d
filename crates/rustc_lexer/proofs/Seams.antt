-- Runs of bytes and runs of characters: a text's bytes after a run of bytes are its characters after a run of characters.
use Rattle.std.proofs.Common.{◌≡◌, ℕ, suc, zero, ◌+◌, ◌-◌, ◌<◌, ◌≤◌, Bool, true, false, ◌&&◌, ◌==◌, ltb, List, [], ◌∷◌, ◌++◌, length, take, drop, get_or, refl, sym, ◌∙◌, ap, subst, arith, chars, length-append, inl, inr, lit<, eqb-true}
use Rattle.std.specs.Str.{IsUtf8, IsCharBoundary}
use Rattle.std.proofs.Math.Utf8.{encodes, encode, scalars}
use Rattle.std.proofs.lemmas.List.{get_or_append_left, take-append-drop}
use Rattle.std.proofs.lemmas.Str.{encode_ascii, encodes-chars, chars-encodes, scalars-chars, inside_one, length-encode, len_utf8_bounds, IsCharBoundary-from_drop, IsCharBoundary-at_seam, encodes-append}
use Rattle.rustc_lexer.specs.Characters.{hash}
use Rattle.rustc_lexer.specs.Scan.{run_len}
use Rattle.rustc_lexer.proofs.Agree.{lt_or_ge}
use Rattle.rustc_lexer.proofs.Booleans.{bool_cases, and_left, and_right}
use Rattle.rustc_lexer.proofs.Steps.{run-true, run-false}
use Rattle.rustc_lexer.proofs.Runs.{run_none, run_after}
use Rattle.rustc_lexer.proofs.Wide.{small_and, wide_is}
use Rattle.rustc_lexer.proofs.Fits.{run_len-fits}
use Rattle.std.proofs.Math.Seq.{take-append_seam}

-- each byte of a character past ASCII is past ASCII
wide : (c k : ℕ) → 128 ≤ c → k < length (encode c) → 128 ≤ get_or (encode c) k 0
wide c k h l =
    let whole : get_or (encode c ++ []) k 0 ≡ get_or (encode c) k 0 = get_or_append_left (encode c) [] 0 k l in
    elim (lt_or_ge (get_or (encode c) k 0) 128) [
      | inl small ↦ let same = inside_one c [] (encode c ++ []) k refl l (omega arith) in absurd (omega arith)
      | inr big ↦ big
    ]

-- a run goes on over a front that passes whole
over : (p : ℕ → Bool) (xs ys : List ℕ) → ((k : ℕ) → k < length xs → p (get_or xs k 0) ≡ true) → run_len p (xs ++ ys) ≡ length xs + run_len p ys
over p [] ys h = omega arith
over p (x ∷ xs) ys h =
    let rest = over p xs ys (λ k l. h (suc k) (omega arith)) in
    let here = run-true p x (xs ++ ys) (h 0 (omega arith)) in
    omega arith

drop_front : (xs ys : List ℕ) (n : ℕ) → drop (length xs + n) (xs ++ ys) ≡ drop n ys
drop_front [] ys n = ap (λ k. drop k ys) (let z : 0 + n ≡ n = omega arith in z)
drop_front (x ∷ xs) ys n =
    ap (λ k. drop k (x ∷ xs ++ ys)) (let z : suc (length xs) + n ≡ suc (length xs + n) = omega arith in z) ∙ drop_front xs ys n

encode_some : (c : ℕ) → 0 < length (encode c)
encode_some c = omega (arith, length-encode c, (len_utf8_bounds c).0)

-- a run that the first byte of a character stops
held : (p : ℕ → Bool) (c : ℕ) (zs : List ℕ) → p (get_or (encode c) 0 0) ≡ false → run_len p (encode c ++ zs) ≡ 0
held p c zs h = run_none p (encode c ++ zs) (ap p (get_or_append_left (encode c) zs 0 0 (encode_some c)) ∙ h)

-- bytes and characters told apart by one test leave the same: where each byte past ASCII passes
pub run-open : (p : ℕ → Bool) → ((b : ℕ) → 128 ≤ b → p b ≡ true) → (cs : List ℕ) → drop (run_len p (encodes cs)) (encodes cs) ≡ encodes (drop (run_len p cs) cs)
unfolding run_len
run-open p wides [] = refl
run-open p wides (c ∷ cs) =
    elim (lt_or_ge c 128) [
      | inl small ↦
          let one : encode c ≡ c ∷ [] = encode_ascii c small in
          ap (λ z. drop (run_len p (z ++ encodes cs)) (z ++ encodes cs)) one ∙ elim (bool_cases (p c)) [
            | inl g ↦
                ap (λ n. drop n (c ∷ encodes cs)) (run-true p c (encodes cs) g) ∙ run-open p wides cs
                ∙ sym (ap (λ n. encodes (drop n (c ∷ cs))) (run-true p c cs g))
            | inr g ↦
                ap (λ n. drop n (c ∷ encodes cs)) (run-false p c (encodes cs) g) ∙ ap (λ z. z ++ encodes cs) (sym one)
                ∙ sym (ap (λ n. encodes (drop n (c ∷ cs))) (run-false p c cs g))
          ]
      | inr big ↦
          ap (λ n. drop n (encode c ++ encodes cs)) (over p (encode c) (encodes cs) (λ k l. wides (get_or (encode c) k 0) (wide c k big l)))
          ∙ drop_front (encode c) (encodes cs) (run_len p (encodes cs)) ∙ run-open p wides cs
          ∙ sym (ap (λ n. encodes (drop n (c ∷ cs))) (run-true p c cs (wides c big)))
    ]

-- where none does, the runs are as long too
pub run-ascii : (p : ℕ → Bool) → ((b : ℕ) → 128 ≤ b → p b ≡ false) → (cs : List ℕ) → run_len p (encodes cs) ≡ run_len p cs
unfolding run_len
run-ascii p wides [] = refl
run-ascii p wides (c ∷ cs) =
    elim (lt_or_ge c 128) [
      | inl small ↦
          ap (λ z. run_len p (z ++ encodes cs)) (encode_ascii c small) ∙ elim (bool_cases (p c)) [
            | inl g ↦ run-true p c (encodes cs) g ∙ ap suc (run-ascii p wides cs) ∙ sym (run-true p c cs g)
            | inr g ↦ run-false p c (encodes cs) g ∙ sym (run-false p c cs g)
          ]
      | inr big ↦
          held p c (encodes cs) (wides (get_or (encode c) 0 0) (wide c 0 big (encode_some c))) ∙ sym (run-false p c cs (wides c big))
    ]

pub run-closed : (p : ℕ → Bool) → ((b : ℕ) → 128 ≤ b → p b ≡ false) → (cs : List ℕ) → drop (run_len p (encodes cs)) (encodes cs) ≡ encodes (drop (run_len p cs) cs)
unfolding run_len
run-closed p wides [] = refl
run-closed p wides (c ∷ cs) =
    elim (lt_or_ge c 128) [
      | inl small ↦
          let one : encode c ≡ c ∷ [] = encode_ascii c small in
          ap (λ z. drop (run_len p (z ++ encodes cs)) (z ++ encodes cs)) one ∙ elim (bool_cases (p c)) [
            | inl g ↦
                ap (λ n. drop n (c ∷ encodes cs)) (run-true p c (encodes cs) g) ∙ run-closed p wides cs
                ∙ sym (ap (λ n. encodes (drop n (c ∷ cs))) (run-true p c cs g))
            | inr g ↦
                ap (λ n. drop n (c ∷ encodes cs)) (run-false p c (encodes cs) g) ∙ ap (λ z. z ++ encodes cs) (sym one)
                ∙ sym (ap (λ n. encodes (drop n (c ∷ cs))) (run-false p c cs g))
          ]
      | inr big ↦
          ap (λ n. drop n (encode c ++ encodes cs)) (held p c (encodes cs) (wides (get_or (encode c) 0 0) (wide c 0 big (encode_some c))))
          ∙ sym (ap (λ n. encodes (drop n (c ∷ cs))) (run-false p c cs (wides c big)))
    ]

scalars-drop : (n : ℕ) (cs : List ℕ) → scalars cs ≡ true → scalars (drop n cs) ≡ true
scalars-drop zero cs h = h
scalars-drop (suc n) [] h = h
scalars-drop (suc n) (c ∷ cs) h = scalars-drop n cs (and_right _ (scalars cs) h)

-- a place in a text, by its bytes and by its characters
pub record Seam (bs : List ℕ) (n m : ℕ) : Type 0 where
  pub boundary : IsCharBoundary bs n
  pub left : chars (drop n bs) ≡ drop m (chars bs)

pub seam : (bs : List ℕ) (n m : ℕ) → IsUtf8 bs → n ≤ length bs → drop n (encodes (chars bs)) ≡ encodes (drop m (chars bs)) → Seam bs n m
seam bs n m u within e =
    let whole : encodes (chars bs) ≡ bs = encodes-chars bs u in
    let good : scalars (drop m (chars bs)) ≡ true = scalars-drop m (chars bs) (scalars-chars bs u) in
    let left : drop n bs ≡ encodes (drop m (chars bs)) = ap (λ z. drop n z) (sym whole) ∙ e in
    record {
      boundary = IsCharBoundary-from_drop bs n within (drop m (chars bs), (good, sym left));
      left = ap chars left ∙ chars-encodes (drop m (chars bs)) good;
    }

-- after a run that non-ASCII bytes do not end
pub seam-open : (p : ℕ → Bool) → ((b : ℕ) → 128 ≤ b → p b ≡ true) → (bs : List ℕ) → IsUtf8 bs → Seam bs (run_len p bs) (run_len p (chars bs))
seam-open p wides bs u =
    let whole : encodes (chars bs) ≡ bs = encodes-chars bs u in
    seam bs (run_len p bs) (run_len p (chars bs)) u (run_len-fits p bs)
    (ap (λ z. drop (run_len p z) (encodes (chars bs))) (sym whole) ∙ run-open p wides (chars bs))

-- after a run of ASCII bytes
pub seam-closed : (p : ℕ → Bool) → ((b : ℕ) → 128 ≤ b → p b ≡ false) → (bs : List ℕ) → IsUtf8 bs → Seam bs (run_len p bs) (run_len p (chars bs))
seam-closed p wides bs u =
    let whole : encodes (chars bs) ≡ bs = encodes-chars bs u in
    seam bs (run_len p bs) (run_len p (chars bs)) u (run_len-fits p bs)
    (ap (λ z. drop (run_len p z) (encodes (chars bs))) (sym whole) ∙ run-closed p wides (chars bs))

-- a run of those that are ASCII and pass is the front of the run of those that pass
pub run-front : (p : ℕ → Bool) (cs : List ℕ) → drop (run_len p (drop (run_len (λ b. ltb b 128 && p b) cs) cs)) (drop (run_len (λ b. ltb b 128 && p b) cs) cs) ≡ drop (run_len p cs) cs
unfolding run_len
run-front p [] = refl
run-front p (c ∷ cs) =
    let t : ℕ → Bool = λ b. ltb b 128 && p b in
    elim (bool_cases (ltb c 128 && p c)) [
      | inl g ↦
          ap (λ n. drop (run_len p (drop n (c ∷ cs))) (drop n (c ∷ cs))) (run-true t c cs g) ∙ run-front p cs
          ∙ sym (ap (λ n. drop n (c ∷ cs)) (run-true p c cs (and_right (ltb c 128) (p c) g)))
      | inr g ↦ ap (λ n. drop (run_len p (drop n (c ∷ cs))) (drop n (c ∷ cs))) (run-false t c cs g)
    ]

-- what a search among the bytes of a text found, as a place in the text
pub open-found : (p : ℕ → Bool) → ((b : ℕ) → 128 ≤ b → p b ≡ true) → (bs bytes : List ℕ) (n : ℕ) → IsUtf8 bs → bytes ≡ bs → n ≡ run_len p bytes → Seam bs n (run_len p (chars bs))
open-found p wides bs bytes n u same found =
    let len : run_len p bs ≡ n = sym (found ∙ ap (λ z. run_len p z) same) in
    subst (λ k. Seam bs k (run_len p (chars bs))) len (seam-open p wides bs u)

pub closed-found : (p : ℕ → Bool) → ((b : ℕ) → 128 ≤ b → p b ≡ false) → (bs bytes : List ℕ) (n : ℕ) → IsUtf8 bs → bytes ≡ bs → n ≡ run_len p bytes → Seam bs n (run_len p (chars bs))
closed-found p wides bs bytes n u same found =
    let len : run_len p bs ≡ n = sym (found ∙ ap (λ z. run_len p z) same) in
    subst (λ k. Seam bs k (run_len p (chars bs))) len (seam-closed p wides bs u)

-- and all of it, if an ASCII character or nothing comes after it
pub run-front-all : (p : ℕ → Bool) (cs : List ℕ) → p 0 ≡ false → get_or (drop (run_len (λ b. ltb b 128 && p b) cs) cs) 0 0 < 128 → drop (run_len (λ b. ltb b 128 && p b) cs) cs ≡ drop (run_len p cs) cs
run-front-all p cs none small =
    let t : ℕ → Bool = λ b. ltb b 128 && p b in
    let front = drop (run_len t cs) cs in
    let stop : p (get_or front 0 0) ≡ false = small_and p (get_or front 0 0) small (run_after t cs (ap (λ z. true && z) none)) in
    sym (ap (λ n. drop n front) (run_none p front stop)) ∙ run-front p cs

-- after some of the hashes that are next
drop-hashes : (n : ℕ) (cs : List ℕ) → n ≤ run_len (λ c. c == hash) cs → drop n (encodes cs) ≡ encodes (drop n cs)
unfolding run_len
drop-hashes zero cs h = refl
drop-hashes (suc n) [] h = refl
drop-hashes (suc n) (c ∷ cs) h =
    let p : ℕ → Bool = λ z. z == hash in
    elim (bool_cases (c == hash)) [
      | inl g ↦
          let e = run-true p c cs g in
          let one : encode c ≡ c ∷ [] = encode_ascii c (let small : c < 128 = let is = eqb-true c hash g in omega arith in small) in
          ap (λ z. drop (suc n) (z ++ encodes cs)) one ∙ drop-hashes n cs (omega arith)
      | inr g ↦ let e = run-false p c cs g in absurd (omega arith)
    ]

pub seam-hashes : (n : ℕ) (bs bytes : List ℕ) (m : ℕ) → IsUtf8 bs → bytes ≡ bs → m ≡ run_len (λ b. b == hash) bytes → n ≤ m → Seam bs n n
seam-hashes n bs bytes m u same found h =
    let p : ℕ → Bool = λ z. z == hash in
    let len : m ≡ run_len p bs = found ∙ ap (λ z. run_len p z) same in
    let cs : run_len p bs ≡ run_len p (chars bs) =
    ap (λ z. run_len p z) (sym (encodes-chars bs u)) ∙ run-ascii p (λ b w. wide_is hash b (lit< tt) w) (chars bs) in
    seam bs n n u (omega (arith, run_len-fits p bs)) (drop-hashes n (chars bs) (omega arith))

-- the hashes counted among the bytes are those among the characters
pub hashes-chars : (bs bytes : List ℕ) (m : ℕ) → IsUtf8 bs → bytes ≡ bs → m ≡ run_len (λ b. b == hash) bytes → m ≡ run_len (λ c. c == hash) (chars bs)
hashes-chars bs bytes m u same found =
    let p : ℕ → Bool = λ z. z == hash in
    found ∙ ap (λ z. run_len p z) (same ∙ sym (encodes-chars bs u)) ∙ run-ascii p (λ b w. wide_is hash b (lit< tt) w) (chars bs)

scalars-take : (n : ℕ) (cs : List ℕ) → scalars cs ≡ true → scalars (take n cs) ≡ true
scalars-take zero cs h = refl
scalars-take (suc n) [] h = refl
scalars-take (suc n) (c ∷ cs) h =
    ap (λ b. b && scalars (take n cs)) (and_left _ (scalars cs) h) ∙ scalars-take n cs (and_right _ (scalars cs) h)

-- the front of a text up to a later place in it
pub record Front (bs ls : List ℕ) (n : ℕ) : Type 0 where
  pub shorter : length ls ≤ length bs
  pub boundary : IsCharBoundary bs (length bs - length ls)
  pub front : chars (take (length bs - length ls) bs) ≡ take n (chars bs)

pub front-until : (bs ls : List ℕ) (n : ℕ) → IsUtf8 bs → IsUtf8 ls → chars ls ≡ drop n (chars bs) → Front bs ls n
front-until bs ls n u v e =
    let cs = chars bs in
    let xs = encodes (take n cs) in
    let parts : bs ≡ xs ++ ls =
    sym (encodes-chars bs u) ∙ ap encodes (sym (take-append-drop n cs)) ∙ encodes-append (take n cs) (drop n cs)
    ∙ ap (λ z. xs ++ z) (ap encodes (sym e) ∙ encodes-chars ls v) in
    let sum : length bs ≡ length xs + length ls = ap length parts ∙ length-append xs ls in
    let len : length xs ≡ length bs - length ls = omega arith in
    let at : take (length bs - length ls) bs ≡ xs = ap (λ k. take k bs) (sym len) ∙ ap (λ z. take (length xs) z) parts ∙ take-append_seam xs ls in
    record {
      shorter = omega arith;
      boundary = subst (λ k. IsCharBoundary bs k) len (IsCharBoundary-at_seam bs xs ls parts v);
      front = ap chars at ∙ chars-encodes (take n cs) (scalars-take n cs (scalars-chars bs u));
    }

-- after an ASCII character
seam-ascii-list : (cs : List ℕ) → 0 < get_or cs 0 0 → get_or cs 0 0 < 128 → (1 ≤ length (encodes cs)) × (drop 1 (encodes cs) ≡ encodes (drop 1 cs))
seam-ascii-list [] h g = absurd (omega arith)
seam-ascii-list (c ∷ cs) h g =
    let one : encode c ≡ c ∷ [] = encode_ascii c g in
    (subst (λ z. 1 ≤ length (z ++ encodes cs)) (sym one) (omega arith), ap (λ z. drop 1 (z ++ encodes cs)) one)

pub seam-ascii : (bs : List ℕ) → IsUtf8 bs → 0 < get_or (chars bs) 0 0 → get_or (chars bs) 0 0 < 128 → Seam bs 1 1
seam-ascii bs u h g =
    let both = seam-ascii-list (chars bs) h g in
    let some : 1 ≤ length bs = subst (λ z. 1 ≤ length z) (encodes-chars bs u) both.0 in
    seam bs 1 1 u some both.1

-- A scan is blind if it does not depend on a name after what it takes.
use Rattle.std.proofs.Common.{◌≡◌, ℕ, suc, zero, ◌+◌, ◌≤◌, Bool, true, false, not, ◌&&◌, ◌||◌, ◌==◌, List, [], ◌∷◌, ◌++◌, length, take, drop, length-drop, refl, sym, ◌∙◌, ap, arith, inl, inr, if◌then◌else◌}
use Rattle.std.proofs.lemmas.List.{drop-append-le}
use Rattle.rustc_lexer.specs.Characters.{line_feed, double_quote, hash, tick, slash, backslash, is_id_start, is_id_continue}
use Rattle.rustc_lexer.specs.Scan.{Taken, Scan, give, skip, peek, look, ◌▸◌, spelled, begin, run_len, run, name_len, name, past, mark, block, quoted, hashes_follow, raw, ticked}
use Rattle.rustc_lexer.proofs.Takes.{Takes}
use Rattle.rustc_lexer.proofs.Booleans.{bool_cases}
use Rattle.rustc_lexer.proofs.Steps.{run-true, run-false, name-true, name-false, quoted-true, quoted-false, mark_cases, block-opens, block-ends, block-closes, block-neither, block-some, raw-true, raw-false, stops, ticked-closes, ticked-stops, ticked-goes}
use Rattle.rustc_lexer.proofs.Wide.{starts_continue}
use Rattle.plain_names.proofs.Names.{other-than, start-line_feed, start-hash, start-tick, start-slash}

pub take-front : (n : ℕ) (u xs : List ℕ) → n ≤ length u → take n (u ++ xs) ≡ take n u
take-front zero u xs h = refl
take-front (suc n) [] xs h = absurd (omega arith)
take-front (suc n) (c ∷ u) xs h = ap (λ z. c ∷ z) (take-front n u xs (omega arith))

-- two texts that begin with names, by their first characters and those after them
module _ (x y : ℕ) (xs ys : List ℕ) (sx : is_id_start x ≡ true) (sy : is_id_start y ≡ true) where
  pub record Blind {A : Type 0} (f : Scan A) : Type 0 where
    pub at : (u : List ℕ) → (f (u ++ x ∷ xs)).taken ≤ length u → f (u ++ y ∷ ys) ≡ f (u ++ x ∷ xs)

  pub blind-give : {A : Type 0} (a : A) → Blind (give a)
  unfolding give
  blind-give a = record { at = λ u h. refl }

  pub skipped : (n : ℕ) (u : List ℕ) → length (take n (u ++ x ∷ xs)) ≤ length u → length (take n (u ++ y ∷ ys)) ≡ length (take n (u ++ x ∷ xs))
  skipped zero u h = refl
  skipped (suc n) [] h = absurd (omega arith)
  skipped (suc n) (c ∷ u) h = ap suc (skipped n u (omega arith))

  pub blind-skip : (n : ℕ) → Blind (skip n)
  unfolding skip
  blind-skip n = record { at = λ u h. let H : ℕ → Taken ℕ = λ k. record { value = k; taken = k } in ap H (skipped n u h) }

  -- one scan after another, at one place
  pub next-at : {A B : Type 0} (f : Scan A) (g : A → Scan B) (u : List ℕ) → f (u ++ y ∷ ys) ≡ f (u ++ x ∷ xs) → ((a : A) → Blind (g a)) → ((f ▸ g) (u ++ x ∷ xs)).taken ≤ length u
      → (f ▸ g) (u ++ y ∷ ys) ≡ (f ▸ g) (u ++ x ∷ xs)
  unfolding ◌▸◌
  next-at {A} {B} f g u same q h =
      let m = (f (u ++ x ∷ xs)).taken in
      let v = (f (u ++ x ∷ xs)).value in
      let within : m ≤ length u = omega arith in
      let one : drop m (u ++ x ∷ xs) ≡ drop m u ++ x ∷ xs = drop-append-le m u (x ∷ xs) within in
      let other : drop m (u ++ y ∷ ys) ≡ drop m u ++ y ∷ ys = drop-append-le m u (y ∷ ys) within in
      let s = g v (drop m (u ++ x ∷ xs)) in
      let there : s ≡ g v (drop m u ++ x ∷ xs) = ap (g v) one in
      let less : (g v (drop m u ++ x ∷ xs)).taken ≤ length (drop m u) = omega (arith, ap (λ r. r.taken) there, length-drop m u) in
      let rest : g v (drop m (u ++ y ∷ ys)) ≡ s = ap (g v) other ∙ (q v).at (drop m u) less ∙ sym there in
      let H : Taken A → Taken B = λ r. record { value = (g r.value (drop r.taken (u ++ y ∷ ys))).value; taken = r.taken + (g r.value (drop r.taken (u ++ y ∷ ys))).taken } in
      let K : Taken B → Taken B = λ r. record { value = r.value; taken = m + r.taken } in
      ap H same ∙ ap K rest

  -- what is taken at first is no more than all that is taken
  pub first-less : {A B : Type 0} (f : Scan A) (g : A → Scan B) (zs : List ℕ) → (f zs).taken ≤ ((f ▸ g) zs).taken
  unfolding ◌▸◌
  first-less f g zs = omega arith

  pub blind-next : {A B : Type 0} (f : Scan A) (g : A → Scan B) → Blind f → ((a : A) → Blind (g a)) → Blind (f ▸ g)
  blind-next f g p q = record { at = λ u h. next-at f g u (p.at u (omega (arith, first-less f g (u ++ x ∷ xs), h))) q h }

  pub blind-spelled : {A : Type 0} (f : Scan A) → Blind f → Blind (spelled f)
  unfolding spelled
  blind-spelled {A} f p = record {
    at = λ u h.
        let m = (f (u ++ x ∷ xs)).taken in
        let text : take m (u ++ y ∷ ys) ≡ take m (u ++ x ∷ xs) = take-front m u (y ∷ ys) h ∙ sym (take-front m u (x ∷ xs) h) in
        let H : Taken A → Taken (A × List ℕ) = λ r. record { value = (r.value, take r.taken (u ++ y ∷ ys)); taken = r.taken } in
        let K : List ℕ → Taken (A × List ℕ) = λ t. record { value = ((f (u ++ x ∷ xs)).value, t); taken = m } in
        ap H (p.at u h) ∙ ap K text;
  }

  pub blind-if : {A : Type 0} (b : Bool) (f g : Scan A) → Blind f → Blind g → Blind (if b then f else g)
  blind-if true f g p q = p
  blind-if false f g p q = q

  -- a decision by a lookahead that is equal for both texts
  pub look-taken : {A B : Type 0} (tells : ℕ → ℕ → A) (g : A → Scan B) (zs : List ℕ) → (look tells ▸ g) zs ≡ g (tells (peek 0 zs) (peek 1 zs)) zs
  unfolding ◌▸◌ look
  look-taken {A} {B} tells g zs =
      let r = g (tells (peek 0 zs) (peek 1 zs)) zs in
      let K : ℕ → Taken B = λ n. record { value = r.value; taken = n } in
      ap K (let z : 0 + r.taken ≡ r.taken = omega arith in z)

  pub looked : {A B : Type 0} (tells : ℕ → ℕ → A) (g : A → Scan B) (u : List ℕ) (a : A) → g (tells (peek 0 (u ++ x ∷ xs)) (peek 1 (u ++ x ∷ xs))) ≡ g a → g (tells (peek 0 (u ++ y ∷ ys)) (peek 1 (u ++ y ∷ ys))) ≡ g a
      → Blind (g a) → ((look tells ▸ g) (u ++ x ∷ xs)).taken ≤ length u → (look tells ▸ g) (u ++ y ∷ ys) ≡ (look tells ▸ g) (u ++ x ∷ xs)
  looked tells g u a one other p h =
      let here : (look tells ▸ g) (u ++ x ∷ xs) ≡ g a (u ++ x ∷ xs) = look-taken tells g (u ++ x ∷ xs) ∙ ap (λ s. s (u ++ x ∷ xs)) one in
      let there : (look tells ▸ g) (u ++ y ∷ ys) ≡ g a (u ++ y ∷ ys) = look-taken tells g (u ++ y ∷ ys) ∙ ap (λ s. s (u ++ y ∷ ys)) other in
      there ∙ p.at u (omega (arith, ap (λ r. r.taken) here, h)) ∙ sym here

  pub blind-look : {A B : Type 0} (tells : ℕ → ℕ → A) (g : A → Scan B) → g (tells y (peek 0 ys)) ≡ g (tells x (peek 0 xs)) → ((c : ℕ) → tells c y ≡ tells c x) → ((a : A) → Blind (g a)) → Blind (look tells ▸ g)
  blind-look {A} {B} tells g first second p = record { at = by_front }
    where
      by_front : (u : List ℕ) → ((look tells ▸ g) (u ++ x ∷ xs)).taken ≤ length u → (look tells ▸ g) (u ++ y ∷ ys) ≡ (look tells ▸ g) (u ++ x ∷ xs)
      by_front [] h = looked tells g [] (tells x (peek 0 xs)) refl first (p _) h
      by_front (c ∷ []) h = looked tells g (c ∷ []) (tells c x) refl (ap g (second c)) (p _) h
      by_front (c ∷ d ∷ u) h = looked tells g (c ∷ d ∷ u) (tells c d) refl refl (p _) h

  -- or where it takes a character after the look
  pub blind-look-takes : {A B : Type 0} (tells : ℕ → ℕ → A) (g : A → Scan B) → 1 ≤ (g (tells x (peek 0 xs)) (x ∷ xs)).taken → ((c : ℕ) → tells c y ≡ tells c x) → ((a : A) → Blind (g a)) → Blind (look tells ▸ g)
  blind-look-takes {A} {B} tells g some second p = record { at = by_front }
    where
      by_front : (u : List ℕ) → ((look tells ▸ g) (u ++ x ∷ xs)).taken ≤ length u → (look tells ▸ g) (u ++ y ∷ ys) ≡ (look tells ▸ g) (u ++ x ∷ xs)
      by_front [] h = let here = ap (λ r. r.taken) (look-taken tells g (x ∷ xs)) in absurd (omega (arith, some, here, h))
      by_front (c ∷ []) h = looked tells g (c ∷ []) (tells c x) refl (ap g (second c)) (p _) h
      by_front (c ∷ d ∷ u) h = looked tells g (c ∷ d ∷ u) (tells c d) refl refl (p _) h

  -- what the next three characters decide
  pub blind-begin : {A B : Type 0} (tells : ℕ → ℕ → ℕ → A) (g : A → Scan B) → ((a : A) → Takes (g a))
      → ((c : ℕ) → (g (tells c x (peek 0 xs)) (c ∷ x ∷ xs)).taken ≤ 1 → tells c y (peek 0 ys) ≡ tells c x (peek 0 xs))
      → ((c d : ℕ) → tells c d y ≡ tells c d x) → ((a : A) → Blind (g a)) → Blind (begin tells g)
  unfolding begin
  blind-begin {A} {B} tells g t second third p = record { at = by_front }
    where
      by_front : (u : List ℕ) → (begin tells g (u ++ x ∷ xs)).taken ≤ length u → begin tells g (u ++ y ∷ ys) ≡ begin tells g (u ++ x ∷ xs)
      by_front [] h = let some = (t (tells x (peek 0 xs) (peek 1 xs))).at (x ∷ xs) (omega arith) in absurd (omega (arith, some, h))
      by_front (c ∷ []) h = ap (λ a. g a (c ∷ y ∷ ys)) (second c h) ∙ (p (tells c x (peek 0 xs))).at (c ∷ []) h
      by_front (c ∷ d ∷ []) h = ap (λ a. g a (c ∷ d ∷ y ∷ ys)) (third c d) ∙ (p (tells c d x)).at (c ∷ d ∷ []) h
      by_front (c ∷ d ∷ e ∷ u) h = (p (tells c d e)).at (c ∷ d ∷ e ∷ u) h

  -- The scans by recursion.

  pub run_len-blind : (p : ℕ → Bool) → p y ≡ p x → (u : List ℕ) → run_len p (u ++ x ∷ xs) ≤ length u → run_len p (u ++ y ∷ ys) ≡ run_len p (u ++ x ∷ xs)
  run_len-blind p same [] h = elim (bool_cases (p x)) [
    | inl g ↦ let e = run-true p x xs g in absurd (omega (arith, e, h))
    | inr g ↦ run-false p y ys (same ∙ g) ∙ sym (run-false p x xs g)
  ]
  run_len-blind p same (c ∷ u) h = elim (bool_cases (p c)) [
    | inl g ↦ let e = run-true p c (u ++ x ∷ xs) g in run-true p c (u ++ y ∷ ys) g ∙ ap suc (run_len-blind p same u (omega (arith, e, h))) ∙ sym e
    | inr g ↦ run-false p c (u ++ y ∷ ys) g ∙ sym (run-false p c (u ++ x ∷ xs) g)
  ]

  pub blind-run : (p : ℕ → Bool) → p y ≡ p x → Blind (run p)
  unfolding run
  blind-run p same = record { at = λ u h. let H : ℕ → Taken ℕ = λ k. record { value = k; taken = k } in ap H (run_len-blind p same u h) }

  pub continues : is_id_continue y ≡ is_id_continue x
  continues = starts_continue y sy ∙ sym (starts_continue x sx)

  name_len-blind : (u : List ℕ) → name_len (u ++ x ∷ xs) ≤ length u → name_len (u ++ y ∷ ys) ≡ name_len (u ++ x ∷ xs)
  name_len-blind [] h = let e = name-true x xs sx in absurd (omega (arith, e, h))
  name_len-blind (c ∷ u) h = elim (bool_cases (is_id_start c)) [
    | inl g ↦ let e = name-true c (u ++ x ∷ xs) g in name-true c (u ++ y ∷ ys) g ∙ ap suc (run_len-blind is_id_continue continues u (omega (arith, e, h))) ∙ sym e
    | inr g ↦ name-false c (u ++ y ∷ ys) g ∙ sym (name-false c (u ++ x ∷ xs) g)
  ]

  pub blind-name : Blind name
  unfolding name
  blind-name = record { at = λ u h. let H : ℕ → Taken ℕ = λ k. record { value = k; taken = k } in ap H (name_len-blind u h) }

  -- a character that no name begins with
  pub not-next : (k : ℕ) → is_id_start k ≡ false → (y == k) ≡ (x == k)
  not-next k none = other-than k y none sy ∙ sym (other-than k x none sx)

  quoted-some : (odd : Bool) (c : ℕ) (cs : List ℕ) → 1 ≤ (quoted odd (c ∷ cs)).taken
  quoted-some odd c cs = elim (bool_cases ((c == double_quote) && not odd)) [
    | inl g ↦ let e = ap (λ r. r.taken) (quoted-true odd c cs g) in omega (arith, e)
    | inr g ↦ let e = ap (λ r. r.taken) (quoted-false odd c cs g) in omega (arith, e)
  ]

  quoted-blind : (odd : Bool) (u : List ℕ) → (quoted odd (u ++ x ∷ xs)).taken ≤ length u → quoted odd (u ++ y ∷ ys) ≡ quoted odd (u ++ x ∷ xs)
  quoted-blind odd [] h = let some = quoted-some odd x xs in absurd (omega (arith, some, h))
  quoted-blind odd (c ∷ u) h = elim (bool_cases ((c == double_quote) && not odd)) [
    | inl g ↦ quoted-true odd c (u ++ y ∷ ys) g ∙ sym (quoted-true odd c (u ++ x ∷ xs) g)
    | inr g ↦
        let e = quoted-false odd c (u ++ x ∷ xs) g in
        quoted-false odd c (u ++ y ∷ ys) g ∙ ap past (quoted-blind ((c == backslash) && not odd) u (omega (arith, ap (λ r. r.taken) e, h))) ∙ sym e
  ]

  pub blind-quoted : (odd : Bool) → Blind (quoted odd)
  blind-quoted odd = record { at = quoted-blind odd }

  block-one : (d c : ℕ) (cs : List ℕ) → 1 ≤ (block d (c ∷ cs)).taken
  unfolding block
  block-one d c [] = omega arith
  block-one d c (e ∷ cs) = block-some d c e cs

  block-two : (d a b : ℕ) (cs : List ℕ) → 2 ≤ (block d (a ∷ b ∷ cs)).taken
  block-two zero a b cs = elim (mark_cases (mark a b)) [
    | inl h ↦ let t = ap (λ r. r.taken) (block-opens 0 a b cs h) in omega (arith, t)
    | inr (inl h) ↦ let t = ap (λ r. r.taken) (block-ends a b cs h) in omega (arith, t)
    | inr (inr h) ↦ let t = ap (λ r. r.taken) (block-neither 0 a b cs h) in let one = block-one 0 b cs in omega (arith, t, one)
  ]
  block-two (suc d) a b cs = elim (mark_cases (mark a b)) [
    | inl h ↦ let t = ap (λ r. r.taken) (block-opens (suc d) a b cs h) in omega (arith, t)
    | inr (inl h) ↦ let t = ap (λ r. r.taken) (block-closes d a b cs h) in omega (arith, t)
    | inr (inr h) ↦ let t = ap (λ r. r.taken) (block-neither (suc d) a b cs h) in let one = block-one (suc d) b cs in omega (arith, t, one)
  ]

  block-blind : (d : ℕ) (u : List ℕ) → (block d (u ++ x ∷ xs)).taken ≤ length u → block d (u ++ y ∷ ys) ≡ block d (u ++ x ∷ xs)
  block-blind d [] h = let some = block-one d x xs in absurd (omega (arith, some, h))
  block-blind d (a ∷ []) h = let some = block-two d a x xs in absurd (omega (arith, some, h))
  block-blind zero (a ∷ b ∷ u) h = elim (mark_cases (mark a b)) [
    | inl g ↦
        let e = block-opens 0 a b (u ++ x ∷ xs) g in
        block-opens 0 a b (u ++ y ∷ ys) g ∙ ap (λ r. past (past r)) (block-blind 1 u (omega (arith, ap (λ r. r.taken) e, h))) ∙ sym e
    | inr (inl g) ↦ block-ends a b (u ++ y ∷ ys) g ∙ sym (block-ends a b (u ++ x ∷ xs) g)
    | inr (inr g) ↦
        let e = block-neither 0 a b (u ++ x ∷ xs) g in
        block-neither 0 a b (u ++ y ∷ ys) g ∙ ap past (block-blind 0 (b ∷ u) (omega (arith, ap (λ r. r.taken) e, h))) ∙ sym e
  ]
  block-blind (suc d) (a ∷ b ∷ u) h = elim (mark_cases (mark a b)) [
    | inl g ↦
        let e = block-opens (suc d) a b (u ++ x ∷ xs) g in
        block-opens (suc d) a b (u ++ y ∷ ys) g ∙ ap (λ r. past (past r)) (block-blind (suc (suc d)) u (omega (arith, ap (λ r. r.taken) e, h))) ∙ sym e
    | inr (inl g) ↦
        let e = block-closes d a b (u ++ x ∷ xs) g in
        block-closes d a b (u ++ y ∷ ys) g ∙ ap (λ r. past (past r)) (block-blind d u (omega (arith, ap (λ r. r.taken) e, h))) ∙ sym e
    | inr (inr g) ↦
        let e = block-neither (suc d) a b (u ++ x ∷ xs) g in
        block-neither (suc d) a b (u ++ y ∷ ys) g ∙ ap past (block-blind (suc d) (b ∷ u) (omega (arith, ap (λ r. r.taken) e, h))) ∙ sym e
  ]

  pub blind-block : (d : ℕ) → Blind (block d)
  blind-block d = record { at = block-blind d }

  hashes-blind : (n : ℕ) (u : List ℕ) → hashes_follow n (u ++ y ∷ ys) ≡ hashes_follow n (u ++ x ∷ xs)
  unfolding hashes_follow
  hashes-blind zero u = refl
  hashes-blind (suc n) [] = ap (λ b. b && hashes_follow n ys) (other-than hash y start-hash sy) ∙ sym (ap (λ b. b && hashes_follow n xs) (other-than hash x start-hash sx))
  hashes-blind (suc n) (c ∷ u) = ap (λ b. (c == hash) && b) (hashes-blind n u)

  raw-some : (n c : ℕ) (cs : List ℕ) → 1 ≤ (raw n (c ∷ cs)).taken
  raw-some n c cs = elim (bool_cases ((c == double_quote) && hashes_follow n cs)) [
    | inl g ↦ let e = ap (λ r. r.taken) (raw-true n c cs g) in omega (arith, e)
    | inr g ↦ let e = ap (λ r. r.taken) (raw-false n c cs g) in omega (arith, e)
  ]

  raw-blind : (n : ℕ) (u : List ℕ) → (raw n (u ++ x ∷ xs)).taken ≤ length u → raw n (u ++ y ∷ ys) ≡ raw n (u ++ x ∷ xs)
  raw-blind n [] h = let some = raw-some n x xs in absurd (omega (arith, some, h))
  raw-blind n (c ∷ u) h =
      let same : ((c == double_quote) && hashes_follow n (u ++ y ∷ ys)) ≡ ((c == double_quote) && hashes_follow n (u ++ x ∷ xs)) = ap (λ b. (c == double_quote) && b) (hashes-blind n u) in
      elim (bool_cases ((c == double_quote) && hashes_follow n (u ++ x ∷ xs))) [
        | inl g ↦ raw-true n c (u ++ y ∷ ys) (same ∙ g) ∙ sym (raw-true n c (u ++ x ∷ xs) g)
        | inr g ↦
            let e = raw-false n c (u ++ x ∷ xs) g in
            raw-false n c (u ++ y ∷ ys) (same ∙ g) ∙ ap past (raw-blind n u (omega (arith, ap (λ r. r.taken) e, h))) ∙ sym e
      ]

  pub blind-raw : (n : ℕ) → Blind (raw n)
  blind-raw n = record { at = raw-blind n }

  stops-none : stops x xs ≡ false
  stops-none = ap (λ b. b || ((x == line_feed) && not (peek 0 xs == tick))) (other-than slash x start-slash sx) ∙ ap (λ b. false || (b && not (peek 0 xs == tick))) (other-than line_feed x start-line_feed sx)

  pub ticked-some : 1 ≤ (ticked false (x ∷ xs)).taken
  ticked-some = let e = ap (λ r. r.taken) (ticked-goes x xs (other-than tick x start-tick sx) stops-none) in omega (arith, e)

  stops-blind : (c : ℕ) (u : List ℕ) → stops c (u ++ y ∷ ys) ≡ stops c (u ++ x ∷ xs)
  stops-blind c [] = ap (λ b. (c == slash) || ((c == line_feed) && not b)) (not-next tick start-tick)
  stops-blind c (d ∷ u) = refl

  ticked-blind : (escaped : Bool) (u : List ℕ) → (ticked escaped (u ++ x ∷ xs)).taken ≤ length u → ticked escaped (u ++ y ∷ ys) ≡ ticked escaped (u ++ x ∷ xs)
  unfolding ticked
  ticked-blind true [] h = absurd (omega (arith, h))
  ticked-blind false [] h = let some = ticked-some in absurd (omega (arith, some, h))
  ticked-blind true (c ∷ u) h = ap past (ticked-blind false u (omega (arith, h)))
  ticked-blind false (c ∷ u) h = elim (bool_cases (c == tick)) [
    | inl g ↦ ticked-closes c (u ++ y ∷ ys) g ∙ sym (ticked-closes c (u ++ x ∷ xs) g)
    | inr g ↦ elim (bool_cases (stops c (u ++ x ∷ xs))) [
      | inl s ↦ ticked-stops c (u ++ y ∷ ys) g (stops-blind c u ∙ s) ∙ sym (ticked-stops c (u ++ x ∷ xs) g s)
      | inr s ↦
          let e = ticked-goes c (u ++ x ∷ xs) g s in
          ticked-goes c (u ++ y ∷ ys) g (stops-blind c u ∙ s) ∙ ap past (ticked-blind (c == backslash) u (omega (arith, ap (λ r. r.taken) e, h))) ∙ sym e
    ]
  ]

  pub blind-ticked : (escaped : Bool) → Blind (ticked escaped)
  blind-ticked escaped = record { at = ticked-blind escaped }

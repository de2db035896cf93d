-- A scan is calm if it takes at the end of a text what it takes before whitespace, for the results in question.
use Rattle.std.proofs.Common.{◌≡◌, ℕ, suc, zero, ◌+◌, ◌≤◌, Bool, true, false, not, ◌&&◌, ◌||◌, ◌==◌, List, [], ◌∷◌, ◌++◌, length, take, drop, refl, sym, ◌∙◌, ap, arith, inl, inr, if◌then◌else◌}
use Rattle.std.proofs.lemmas.List.{drop-append-le}
use Rattle.rustc_lexer.specs.Characters.{line_feed, double_quote, hash, tick, slash, backslash, is_whitespace, is_id_start, is_id_continue}
use Rattle.rustc_lexer.specs.Scan.{Taken, Scan, give, skip, peek, look, ◌▸◌, spelled, run_len, run, name_len, name, past, mark, block, quoted, hashes_follow, raw, ticked}
use Rattle.rustc_lexer.proofs.Booleans.{bool_cases}
use Rattle.rustc_lexer.proofs.Steps.{run-true, run-false, name-true, name-false, quoted-true, quoted-false, mark_cases, block-opens, block-ends, block-closes, block-neither, raw-true, raw-false, stops, ticked-closes, ticked-stops, ticked-goes}
use Rattle.rustc_lexer.proofs.Fits.{Fits, fits-give, fits-skip, fits-look, fits-next, fits-spelled, fits-if, fits-run, fits-name, fits-quoted, fits-block, fits-raw, fits-ticked}
use Rattle.plain_names.proofs.Blind.{take-front}

-- every value is in order
abbrev pub any : {A : Type 0} → A → Bool
any a = true

module _ (w : ℕ) (rest : List ℕ) (white : is_whitespace w ≡ true) where
  pub record Calm {A : Type 0} (f : Scan A) (ok : A → Bool) : Type 0 where
    pub at : (u : List ℕ) → ok (f u).value ≡ true → f (u ++ w ∷ rest) ≡ f u
    pub fits : Fits f

  pub calm-give : {A : Type 0} (a : A) (ok : A → Bool) → Calm (give a) ok
  unfolding give
  calm-give a ok = record { at = λ u h. refl; fits = fits-give a }

  -- what is calm whatever it gives is calm
  pub calm-any : {A : Type 0} (f : Scan A) (ok : A → Bool) → Calm f any → Calm f ok
  calm-any f ok p = record { at = λ u h. p.at u refl; fits = p.fits }

  -- one scan after another, at one place
  pub next-here : {A B : Type 0} (f : Scan A) (g : A → Scan B) (u : List ℕ) → f (u ++ w ∷ rest) ≡ f u → (f u).taken ≤ length u → g (f u).value (drop (f u).taken u ++ w ∷ rest) ≡ g (f u).value (drop (f u).taken u)
      → (f ▸ g) (u ++ w ∷ rest) ≡ (f ▸ g) u
  unfolding ◌▸◌
  next-here {A} {B} f g u same within there =
      let m = (f u).taken in
      let v = (f u).value in
      let here : drop m (u ++ w ∷ rest) ≡ drop m u ++ w ∷ rest = drop-append-le m u (w ∷ rest) within in
      let s : g v (drop m (u ++ w ∷ rest)) ≡ g v (drop m u) = ap (g v) here ∙ there in
      let H : Taken A → Taken B = λ r. record { value = (g r.value (drop r.taken (u ++ w ∷ rest))).value; taken = r.taken + (g r.value (drop r.taken (u ++ w ∷ rest))).taken } in
      let K : Taken B → Taken B = λ r. record { value = r.value; taken = m + r.taken } in
      ap H same ∙ ap K s

  pub next-at : {A B : Type 0} (f : Scan A) (g : A → Scan B) (ok : B → Bool) (u : List ℕ) → f (u ++ w ∷ rest) ≡ f u → (f u).taken ≤ length u → Calm (g (f u).value) ok → ok ((f ▸ g) u).value ≡ true
      → (f ▸ g) (u ++ w ∷ rest) ≡ (f ▸ g) u
  unfolding ◌▸◌
  next-at f g ok u same within q h = next-here f g u same within (q.at (drop (f u).taken u) h)

  value-next : {A B : Type 0} (f : Scan A) (g : A → Scan B) (u : List ℕ) → ((f ▸ g) u).value ≡ (g (f u).value (drop (f u).taken u)).value
  unfolding ◌▸◌
  value-next f g u = refl

  pub calm-next : {A B : Type 0} (f : Scan A) (g : A → Scan B) (before : A → Bool) (ok : B → Bool) → Calm f before → ((a : A) → Calm (g a) ok) → ((a : A) (zs : List ℕ) → ok (g a zs).value ≡ true → before a ≡ true) → Calm (f ▸ g) ok
  calm-next f g before ok p q back = record {
    at = λ u h. next-at f g ok u (p.at u (back (f u).value (drop (f u).taken u) (sym (ap ok (value-next f g u)) ∙ h))) (p.fits.at u) (q (f u).value) h;
    fits = fits-next f g p.fits (λ a. (q a).fits);
  }

  pub calm-spelled : {A : Type 0} (f : Scan A) (ok : A → Bool) → Calm f ok → Calm (spelled f) (λ s. ok s.0)
  unfolding spelled
  calm-spelled {A} f ok p = record {
    at = λ u h.
        let m = (f u).taken in
        let text : take m (u ++ w ∷ rest) ≡ take m u = take-front m u (w ∷ rest) (p.fits.at u) in
        let H : Taken A → Taken (A × List ℕ) = λ r. record { value = (r.value, take r.taken (u ++ w ∷ rest)); taken = r.taken } in
        let K : List ℕ → Taken (A × List ℕ) = λ t. record { value = ((f u).value, t); taken = m } in
        ap H (p.at u h) ∙ ap K text;
    fits = fits-spelled f p.fits;
  }

  pub calm-if : {A : Type 0} (b : Bool) (f g : Scan A) (ok : A → Bool) → Calm f ok → Calm g ok → Calm (if b then f else g) ok
  calm-if true f g ok p q = p
  calm-if false f g ok p q = q

  skipped : (n : ℕ) (u : List ℕ) → n ≤ length u → length (take n (u ++ w ∷ rest)) ≡ length (take n u)
  skipped n u h = ap length (take-front n u (w ∷ rest) h)

  pub skip-same : (n : ℕ) (u : List ℕ) → n ≤ length u → skip n (u ++ w ∷ rest) ≡ skip n u
  unfolding skip
  skip-same n u h = let H : ℕ → Taken ℕ = λ k. record { value = k; taken = k } in ap H (skipped n u h)

  -- after the first `n` characters of a text that has as many
  pub skip-then : {A : Type 0} (n : ℕ) (g : ℕ → Scan A) (ok : A → Bool) → ((k : ℕ) → Calm (g k) ok) → (u : List ℕ) → n ≤ length u → ok ((skip n ▸ g) u).value ≡ true → (skip n ▸ g) (u ++ w ∷ rest) ≡ (skip n ▸ g) u
  skip-then n g ok q u le h = next-at (skip n) g ok u (skip-same n u le) ((fits-skip n).at u) (q (skip n u).value) h

  -- looks
  pub look-is : {A B : Type 0} (tells : ℕ → ℕ → A) (g : A → Scan B) (zs : List ℕ) → (look tells ▸ g) zs ≡ g (tells (peek 0 zs) (peek 1 zs)) zs
  unfolding ◌▸◌ look
  look-is {A} {B} tells g zs =
      let r = g (tells (peek 0 zs) (peek 1 zs)) zs in
      let K : ℕ → Taken B = λ n. record { value = r.value; taken = n } in
      ap K (let z : 0 + r.taken ≡ r.taken = omega arith in z)

  pub looked : {A B : Type 0} (tells : ℕ → ℕ → A) (g : A → Scan B) (u : List ℕ) (a : A) → tells (peek 0 u) (peek 1 u) ≡ a → tells (peek 0 (u ++ w ∷ rest)) (peek 1 (u ++ w ∷ rest)) ≡ a → g a (u ++ w ∷ rest) ≡ g a u
      → (look tells ▸ g) (u ++ w ∷ rest) ≡ (look tells ▸ g) u
  looked tells g u a one other same =
      look-is tells g (u ++ w ∷ rest) ∙ ap (λ t. g t (u ++ w ∷ rest)) other ∙ same ∙ sym (look-is tells g u ∙ ap (λ t. g t u) one)

  pub look-value : {A B : Type 0} (tells : ℕ → ℕ → A) (g : A → Scan B) (ok : B → Bool) (u : List ℕ) → ok ((look tells ▸ g) u).value ≡ true → ok (g (tells (peek 0 u) (peek 1 u)) u).value ≡ true
  look-value tells g ok u h = sym (ap (λ r. ok r.value) (look-is tells g u)) ∙ h

  pub calm-look : {A B : Type 0} (tells : ℕ → ℕ → A) (g : A → Scan B) (ok : B → Bool) → tells w (peek 0 rest) ≡ tells 0 0 → ((c : ℕ) → tells c w ≡ tells c 0) → ((a : A) → Calm (g a) ok) → Calm (look tells ▸ g) ok
  calm-look {A} {B} tells g ok first second p = record { at = by_front; fits = fits-next (look tells) g (fits-look tells) (λ a. (p a).fits) }
    where
      by_front : (u : List ℕ) → ok ((look tells ▸ g) u).value ≡ true → (look tells ▸ g) (u ++ w ∷ rest) ≡ (look tells ▸ g) u
      by_front [] h = looked tells g [] (tells 0 0) refl first ((p _).at [] (look-value tells g ok [] h))
      by_front (c ∷ []) h = looked tells g (c ∷ []) (tells c 0) refl (second c) ((p _).at (c ∷ []) (look-value tells g ok (c ∷ []) h))
      by_front (c ∷ d ∷ u) h = looked tells g (c ∷ d ∷ u) (tells c d) refl refl ((p _).at (c ∷ d ∷ u) (look-value tells g ok (c ∷ d ∷ u) h))

  fits-choice : {B : Type 0} (g : ℕ → Scan B) (h : Scan B) → ((k : ℕ) → Fits (g k)) → Fits h → (b : Bool) → Fits (if b then (skip 1 ▸ g) else h)
  fits-choice g h p q b = fits-if b _ _ (fits-next (skip 1) g (fits-skip 1) p) q

  -- a character is taken where it is the one looked for
  pub calm-look-skip : {B : Type 0} (tells : ℕ → ℕ → Bool) (g : ℕ → Scan B) (h : Scan B) (ok : B → Bool) → tells 0 0 ≡ false → tells w (peek 0 rest) ≡ false → ((c : ℕ) → tells c w ≡ tells c 0) → ((k : ℕ) → Calm (g k) ok) → Calm h ok
      → Calm (look tells ▸ λ b. if b then (skip 1 ▸ g) else h) ok
  calm-look-skip {B} tells g h ok none first second p q = record {
    at = by_front;
    fits = fits-next (look tells) _ (fits-look tells) (fits-choice g h (λ k. (p k).fits) q.fits);
  }
    where
      choice : Bool → Scan B
      choice b = if b then (skip 1 ▸ g) else h

      there : (b : Bool) (c : ℕ) (u : List ℕ) → ok (choice b (c ∷ u)).value ≡ true → choice b (c ∷ u ++ w ∷ rest) ≡ choice b (c ∷ u)
      there true c u k = skip-then 1 g ok p (c ∷ u) (omega arith) k
      there false c u k = q.at (c ∷ u) k

      by_front : (u : List ℕ) → ok ((look tells ▸ choice) u).value ≡ true → (look tells ▸ choice) (u ++ w ∷ rest) ≡ (look tells ▸ choice) u
      by_front [] k = looked tells choice [] false none first (q.at [] (sym (ap (λ b. ok (choice b []).value) none) ∙ look-value tells choice ok [] k))
      by_front (c ∷ []) k = looked tells choice (c ∷ []) (tells c 0) refl (second c) (there (tells c 0) c [] (look-value tells choice ok (c ∷ []) k))
      by_front (c ∷ d ∷ u) k = looked tells choice (c ∷ d ∷ u) (tells c d) refl refl (there (tells c d) c (d ∷ u) (look-value tells choice ok (c ∷ d ∷ u) k))

  -- The scans by recursion.

  run_len-calm : (p : ℕ → Bool) → p w ≡ false → (u : List ℕ) → run_len p (u ++ w ∷ rest) ≡ run_len p u
  unfolding run_len
  run_len-calm p none [] = run-false p w rest none
  run_len-calm p none (c ∷ u) = elim (bool_cases (p c)) [
    | inl g ↦ run-true p c (u ++ w ∷ rest) g ∙ ap suc (run_len-calm p none u) ∙ sym (run-true p c u g)
    | inr g ↦ run-false p c (u ++ w ∷ rest) g ∙ sym (run-false p c u g)
  ]

  pub calm-run : (p : ℕ → Bool) → p w ≡ false → Calm (run p) any
  unfolding run
  calm-run p none = record { at = λ u h. let H : ℕ → Taken ℕ = λ k. record { value = k; taken = k } in ap H (run_len-calm p none u); fits = fits-run p }

  name_len-calm : is_id_start w ≡ false → is_id_continue w ≡ false → (u : List ℕ) → name_len (u ++ w ∷ rest) ≡ name_len u
  unfolding name_len
  name_len-calm none more [] = name-false w rest none
  name_len-calm none more (c ∷ u) = elim (bool_cases (is_id_start c)) [
    | inl g ↦ name-true c (u ++ w ∷ rest) g ∙ ap suc (run_len-calm is_id_continue more u) ∙ sym (name-true c u g)
    | inr g ↦ name-false c (u ++ w ∷ rest) g ∙ sym (name-false c u g)
  ]

  pub calm-name : is_id_start w ≡ false → is_id_continue w ≡ false → Calm name any
  unfolding name
  calm-name none more = record { at = λ u h. let H : ℕ → Taken ℕ = λ k. record { value = k; taken = k } in ap H (name_len-calm none more u); fits = fits-name }

  quoted-calm : (odd : Bool) (u : List ℕ) → (quoted odd u).value ≡ true → quoted odd (u ++ w ∷ rest) ≡ quoted odd u
  unfolding quoted
  quoted-calm odd [] h = let z : false ≡ true = h in cc
  quoted-calm odd (c ∷ u) h = elim (bool_cases ((c == double_quote) && not odd)) [
    | inl g ↦ quoted-true odd c (u ++ w ∷ rest) g ∙ sym (quoted-true odd c u g)
    | inr g ↦
        let e = quoted-false odd c u g in
        quoted-false odd c (u ++ w ∷ rest) g ∙ ap past (quoted-calm ((c == backslash) && not odd) u (sym (ap (λ r. r.value) e) ∙ h)) ∙ sym e
  ]

  pub calm-quoted : (odd : Bool) → Calm (quoted odd) (λ b. b)
  calm-quoted odd = record { at = quoted-calm odd; fits = fits-quoted odd }

  block-calm : (d : ℕ) (u : List ℕ) → (block d u).value ≡ true → block d (u ++ w ∷ rest) ≡ block d u
  unfolding block
  block-calm d [] h = let z : false ≡ true = h in cc
  block-calm d (a ∷ []) h = let z : false ≡ true = h in cc
  block-calm zero (a ∷ b ∷ u) h = elim (mark_cases (mark a b)) [
    | inl g ↦ let e = block-opens 0 a b u g in block-opens 0 a b (u ++ w ∷ rest) g ∙ ap (λ r. past (past r)) (block-calm 1 u (sym (ap (λ r. r.value) e) ∙ h)) ∙ sym e
    | inr (inl g) ↦ block-ends a b (u ++ w ∷ rest) g ∙ sym (block-ends a b u g)
    | inr (inr g) ↦ let e = block-neither 0 a b u g in block-neither 0 a b (u ++ w ∷ rest) g ∙ ap past (block-calm 0 (b ∷ u) (sym (ap (λ r. r.value) e) ∙ h)) ∙ sym e
  ]
  block-calm (suc d) (a ∷ b ∷ u) h = elim (mark_cases (mark a b)) [
    | inl g ↦ let e = block-opens (suc d) a b u g in block-opens (suc d) a b (u ++ w ∷ rest) g ∙ ap (λ r. past (past r)) (block-calm (suc (suc d)) u (sym (ap (λ r. r.value) e) ∙ h)) ∙ sym e
    | inr (inl g) ↦ let e = block-closes d a b u g in block-closes d a b (u ++ w ∷ rest) g ∙ ap (λ r. past (past r)) (block-calm d u (sym (ap (λ r. r.value) e) ∙ h)) ∙ sym e
    | inr (inr g) ↦ let e = block-neither (suc d) a b u g in block-neither (suc d) a b (u ++ w ∷ rest) g ∙ ap past (block-calm (suc d) (b ∷ u) (sym (ap (λ r. r.value) e) ∙ h)) ∙ sym e
  ]

  pub calm-block : (d : ℕ) → Calm (block d) (λ b. b)
  calm-block d = record { at = block-calm d; fits = fits-block d }

  hashes-calm : (w == hash) ≡ false → (n : ℕ) (u : List ℕ) → hashes_follow n (u ++ w ∷ rest) ≡ hashes_follow n u
  unfolding hashes_follow
  hashes-calm none zero u = refl
  hashes-calm none (suc n) [] = ap (λ b. b && hashes_follow n rest) none
  hashes-calm none (suc n) (c ∷ u) = ap (λ b. (c == hash) && b) (hashes-calm none n u)

  raw-calm : (w == hash) ≡ false → (n : ℕ) (u : List ℕ) → (raw n u).value ≡ true → raw n (u ++ w ∷ rest) ≡ raw n u
  unfolding raw
  raw-calm none n [] h = let z : false ≡ true = h in cc
  raw-calm none n (c ∷ u) h =
      let same : ((c == double_quote) && hashes_follow n (u ++ w ∷ rest)) ≡ ((c == double_quote) && hashes_follow n u) = ap (λ b. (c == double_quote) && b) (hashes-calm none n u) in
      elim (bool_cases ((c == double_quote) && hashes_follow n u)) [
        | inl g ↦ raw-true n c (u ++ w ∷ rest) (same ∙ g) ∙ sym (raw-true n c u g)
        | inr g ↦
            let e = raw-false n c u g in
            raw-false n c (u ++ w ∷ rest) (same ∙ g) ∙ ap past (raw-calm none n u (sym (ap (λ r. r.value) e) ∙ h)) ∙ sym e
      ]

  pub calm-raw : (w == hash) ≡ false → (n : ℕ) → Calm (raw n) (λ b. b)
  calm-raw none n = record { at = raw-calm none n; fits = fits-raw n }

  stops-calm : (w == tick) ≡ false → (c : ℕ) (u : List ℕ) → stops c (u ++ w ∷ rest) ≡ stops c u
  stops-calm none c [] = ap (λ b. (c == slash) || ((c == line_feed) && not b)) none
  stops-calm none c (d ∷ u) = refl

  ticked-calm : (w == tick) ≡ false → (escaped : Bool) (u : List ℕ) → (ticked escaped u).value ≡ true → ticked escaped (u ++ w ∷ rest) ≡ ticked escaped u
  unfolding ticked
  ticked-calm none escaped [] h = let z : false ≡ true = h in cc
  ticked-calm none true (c ∷ u) h = ap past (ticked-calm none false u h)
  ticked-calm none false (c ∷ u) h = elim (bool_cases (c == tick)) [
    | inl g ↦ ticked-closes c (u ++ w ∷ rest) g ∙ sym (ticked-closes c u g)
    | inr g ↦ elim (bool_cases (stops c u)) [
      | inl s ↦ ticked-stops c (u ++ w ∷ rest) g (stops-calm none c u ∙ s) ∙ sym (ticked-stops c u g s)
      | inr s ↦
          let e = ticked-goes c u g s in
          ticked-goes c (u ++ w ∷ rest) g (stops-calm none c u ∙ s) ∙ ap past (ticked-calm none (c == backslash) u (sym (ap (λ r. r.value) e) ∙ h)) ∙ sym e
    ]
  ]

  pub calm-ticked : (w == tick) ≡ false → (escaped : Bool) → Calm (ticked escaped) (λ b. b)
  calm-ticked none escaped = record { at = ticked-calm none escaped; fits = fits-ticked escaped }

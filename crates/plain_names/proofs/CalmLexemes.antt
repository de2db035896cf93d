-- The scan of each kind of closed lexeme is calm.
use Rattle.std.proofs.Common.{◌≡◌, ℕ, suc, ◌<◌, ◌≤◌, Bool, true, false, not, ◌&&◌, ◌||◌, ◌==◌, leb, List, [], ◌∷◌, ◌++◌, length, take, refl, sym, ◌∙◌, ap, subst, arith, inl, inr, eqb-true, Option, Some, None, is_some, if◌then◌else◌}
use Rattle.std.proofs.lemmas.Bool.{or_cases}
use Rattle.std.proofs.lemmas.Bool.Decides.{nat_tests}
use Rattle.std.specs.Char.{is_ascii_alphanumeric}
use Rattle.unicode_ident.proofs.IdentLemmas.{is_xid_continue-ascii}
use Rattle.unicode_ident.proofs.Computing.{unicode_ident}
use Rattle.rustc_lexer.specs.Characters.{double_quote, hash, tick, star, dot, slash, backslash, letter_b, letter_o, letter_x, is_whitespace, is_digit, is_hex_digit, is_id_start, is_id_continue}
use Rattle.rustc_lexer.specs.Rows.{row, first_fit}
use Rattle.rustc_lexer.specs.Scan.{Taken, Scan, give, skip, peek, look, ◌▸◌, spelled, raw, ticked}
use Rattle.rustc_lexer.specs.Lexeme.{body, suffix, literal, string, is_single, character_end, character, counted, raw_end, raw_string, digit_or_underscore, hex_or_underscore, digits, is_exponent, is_sign, is_point, exponent, fraction, base_of, digits_of, based, number}
use Rattle.plain_names.specs.ClosedTokens.{is_terminated}
use Rattle.rustc_lexer.specs.declared.token.Base.{Base}
use Rattle.rustc_lexer.specs.declared.token.Base.TheVariants.{Binary, Octal, Decimal, Hexadecimal}
use Rattle.rustc_lexer.specs.declared.token.LiteralKind.{LiteralKind}
use Rattle.plain_names.proofs.BlindLexemes.{Body}
use Rattle.rustc_lexer.proofs.Booleans.{bool_cases}
use Rattle.rustc_lexer.proofs.Fits.{Fits, fits-skip, fits-look, fits-next}
use Rattle.rustc_lexer.proofs.LexemesLocal.{sound-character_end}
use Rattle.rustc_lexer.proofs.Wide.{start_zero}
use Rattle.plain_names.proofs.Names.{white-starts-none}
use Rattle.plain_names.proofs.Blind.{take-front}
use Rattle.plain_names.proofs.Calm.{any, Calm, calm-give, next-at, calm-next, calm-spelled, calm-if, skip-then, look-is, looked, look-value, calm-look, calm-look-skip, calm-run, calm-name, calm-quoted, calm-raw, calm-ticked}

not-code : (p : ℕ → Bool) (k x : ℕ) → p k ≡ false → p x ≡ true → (x == k) ≡ false
not-code p k x none is = elim (bool_cases (x == k)) [
  | inr h ↦ h
  | inl h ↦ let w : true ≡ false = sym is ∙ ap p (eqb-true x k h) ∙ none in cc
]

-- tests that fail for whitespace
white-none : (p : ℕ → Bool) → ((c : ℕ) → (leb 9 c && leb c 13) ≡ true → p c ≡ false) → p 32 ≡ false → p 0x85 ≡ false → p 0x200E ≡ false → p 0x200F ≡ false → p 0x2028 ≡ false → p 0x2029 ≡ false
    → (c : ℕ) → is_whitespace c ≡ true → p c ≡ false
unfolding is_whitespace
white-none p low e1 e2 e3 e4 e5 e6 c h =
    elim (or_cases _ _ h) [
      | inr a ↦ ap p (eqb-true c 0x2029 a) ∙ e6
      | inl h ↦ elim (or_cases _ _ h) [
        | inr a ↦ ap p (eqb-true c 0x2028 a) ∙ e5
        | inl h ↦ elim (or_cases _ _ h) [
          | inr a ↦ ap p (eqb-true c 0x200F a) ∙ e4
          | inl h ↦ elim (or_cases _ _ h) [
            | inr a ↦ ap p (eqb-true c 0x200E a) ∙ e3
            | inl h ↦ elim (or_cases _ _ h) [
              | inr a ↦ ap p (eqb-true c 0x85 a) ∙ e2
              | inl h ↦ elim (or_cases _ _ h) [
                | inr a ↦ ap p (eqb-true c 32 a) ∙ e1
                | inl h ↦ low c h
              ]
            ]
          ]
        ]
      ]
    ]

low-continue : (c : ℕ) → (leb 9 c && leb c 13) ≡ true → is_id_continue c ≡ false
unfolding is_id_continue
low-continue c h =
    let small : c < 128 = grind (arith, nat_tests) in
    let letter : (is_ascii_alphanumeric c || (c == 95)) ≡ false = grind (arith, nat_tests) in
    is_xid_continue-ascii c small ∙ letter

pub white-continue : (c : ℕ) → is_whitespace c ≡ true → is_id_continue c ≡ false
unfolding is_id_continue unicode_ident
white-continue = white-none is_id_continue low-continue refl refl refl refl refl refl

low-hex : (c : ℕ) → (leb 9 c && leb c 13) ≡ true → hex_or_underscore c ≡ false
unfolding hex_or_underscore is_hex_digit is_digit
low-hex c h = grind (arith, nat_tests)

white-hex : (c : ℕ) → is_whitespace c ≡ true → hex_or_underscore c ≡ false
unfolding hex_or_underscore is_hex_digit is_digit
white-hex = white-none hex_or_underscore low-hex refl refl refl refl refl refl

low-decimal : (c : ℕ) → (leb 9 c && leb c 13) ≡ true → digit_or_underscore c ≡ false
unfolding digit_or_underscore is_digit
low-decimal c h = grind (arith, nat_tests)

white-decimal : (c : ℕ) → is_whitespace c ≡ true → digit_or_underscore c ≡ false
unfolding digit_or_underscore is_digit
white-decimal = white-none digit_or_underscore low-decimal refl refl refl refl refl refl

low-digit : (c : ℕ) → (leb 9 c && leb c 13) ≡ true → is_digit c ≡ false
unfolding is_digit
low-digit c h = grind (arith, nat_tests)

pub white-digit : (c : ℕ) → is_whitespace c ≡ true → is_digit c ≡ false
unfolding is_digit
white-digit = white-none is_digit low-digit refl refl refl refl refl refl

pub white-code : (k c : ℕ) → is_whitespace k ≡ false → is_whitespace c ≡ true → (c == k) ≡ false
white-code k c none is = not-code is_whitespace k c none is

counted-closed : (n : ℕ) (closed : Bool) → is_some (counted n closed) ≡ true → closed ≡ true
unfolding counted
counted-closed n true h = refl
counted-closed n false h = let w : false ≡ true = h in cc

pub and-last : (a b : Bool) → b ≡ false → (a && b) ≡ false
and-last true b h = h
and-last false b h = refl

pub and-middle : (a b c : Bool) → b ≡ false → ((a && b) && c) ≡ false
and-middle a b c h = ap (λ z. z && c) (and-last a b h)

-- the literal of a body came to its end
unfoldable pub ended : Body → Bool
ended b = is_terminated b.kind

module _ (w : ℕ) (rest : List ℕ) (white : is_whitespace w ≡ true) where
  pub at-hash : (w == hash) ≡ false
  unfolding is_whitespace
  at-hash = white-code hash w refl white

  pub at-tick : (w == tick) ≡ false
  unfolding is_whitespace
  at-tick = white-code tick w refl white

  pub at-quote : (w == double_quote) ≡ false
  unfolding is_whitespace
  at-quote = white-code double_quote w refl white

  pub at-dot : (w == dot) ≡ false
  unfolding is_whitespace
  at-dot = white-code dot w refl white

  pub at-slash : (w == slash) ≡ false
  unfolding is_whitespace
  at-slash = white-code slash w refl white

  pub at-star : (w == star) ≡ false
  unfolding is_whitespace
  at-star = white-code star w refl white

  at-code : (k : ℕ) → is_whitespace k ≡ false → (w == k) ≡ false
  at-code k none = white-code k w none white

  -- Numbers.

  calm-digits : (p : ℕ → Bool) → p w ≡ false → Calm w rest white (digits p) any
  unfolding digits
  calm-digits p none = calm-next w rest white _ _ any any (calm-spelled w rest white _ any (calm-run w rest white p none)) (λ s. calm-give w rest white _ any) (λ a zs h. refl)

  calm-body : (kind : LiteralKind) → Calm w rest white (body kind true) any
  calm-body kind = calm-give w rest white _ any

  -- a sign, if there is one
  signed-is : {B : Type 0} (k : ℕ → Scan B) (b : Bool) → ((if b then skip 1 else give 0) ▸ k) ≡ (if b then (skip 1 ▸ k) else (give 0 ▸ k))
  signed-is k true = refl
  signed-is k false = refl

  exponent_digits : ℕ → Scan (Option Bool)
  exponent_digits k = digits digit_or_underscore ▸ λ has. give (Some (not has))

  calm-exponent_digits : (k : ℕ) → Calm w rest white (exponent_digits k) any
  unfolding exponent_digits
  calm-exponent_digits k = calm-next w rest white _ _ any any (calm-digits digit_or_underscore (white-decimal w white)) (λ has. calm-give w rest white _ any) (λ a zs h. refl)

  sign-none : is_sign w ≡ false
  unfolding is_sign is_whitespace
  sign-none = ap (λ b. b || w == 45) (white-code 43 w refl white) ∙ white-code 45 w refl white

  exponent-none : is_exponent w ≡ false
  unfolding is_exponent is_whitespace
  exponent-none = ap (λ b. b || w == 69) (white-code 101 w refl white) ∙ white-code 69 w refl white

  signed_part : ℕ → Scan (Option Bool)
  signed_part k = look (λ a b. is_sign a) ▸ λ signed. (if signed then skip 1 else give 0) ▸ exponent_digits

  calm-signed : (k : ℕ) → Calm w rest white (signed_part k) any
  unfolding signed_part is_sign
  calm-signed k =
      let chosen : Bool → Scan (Option Bool) = λ b. if b then (skip 1 ▸ exponent_digits) else (give 0 ▸ exponent_digits) in
      let written : Bool → Scan (Option Bool) = λ b. (if b then skip 1 else give 0) ▸ exponent_digits in
      let same : written ≡ chosen = λ i b. (signed-is exponent_digits b) i in
      let tells : ℕ → ℕ → Bool = λ a b. is_sign a in
      subst (λ s. Calm w rest white (look tells ▸ s) any) (sym same)
      (calm-look-skip w rest white tells exponent_digits (give 0 ▸ exponent_digits) any refl sign-none (λ c. refl) calm-exponent_digits
      (calm-next w rest white (give 0) exponent_digits any any (calm-give w rest white 0 any) calm-exponent_digits (λ a zs h. refl)))

  pub calm-exponent : Calm w rest white exponent any
  unfolding exponent signed_part exponent_digits is_exponent
  calm-exponent = calm-look-skip w rest white (λ a b. is_exponent a) signed_part (give None) any refl exponent-none (λ c. refl) calm-signed (calm-give w rest white None any)

  point-none : (c : ℕ) → is_point w c ≡ false
  unfolding is_point
  point-none c = ap (λ b. b && not (c == dot || is_id_start c)) at-dot

  point-same : (c : ℕ) → is_point c w ≡ is_point c 0
  unfolding is_point
  point-same c =
      let one : (w == dot || is_id_start w) ≡ false = ap (λ b. b || is_id_start w) at-dot ∙ white-starts-none w white in
      let other : (0 == dot || is_id_start 0) ≡ false = start_zero in
      ap (λ b. c == dot && not b) (one ∙ sym other)

  pub digit-same : is_digit w ≡ is_digit 0
  unfolding is_digit
  digit-same = white-digit w white

  calm-fraction : (base : Base) → Calm w rest white (fraction base) any
  unfolding fraction is_point
  calm-fraction base =
      calm-look-skip w rest white is_point _ _ any refl (point-none (peek 0 rest)) point-same
      (λ k. calm-look w rest white (λ a b. is_digit a) _ any digit-same (λ c. refl) (λ more. calm-if w rest white more _ _ any
      (calm-next w rest white _ _ any any (calm-digits digit_or_underscore (white-decimal w white)) (λ _. calm-next w rest white _ _ any any calm-exponent (λ e. calm-body _) (λ a zs h. refl)) (λ a zs h. refl))
      (calm-body _)))
      (calm-next w rest white _ _ any any calm-exponent (λ e. calm-body _) (λ a zs h. refl))

  digits-none : (base : Base) → digits_of base w ≡ false
  unfolding digits_of
  digits-none Binary = white-decimal w white
  digits-none Octal = white-decimal w white
  digits-none Decimal = white-decimal w white
  digits-none Hexadecimal = white-hex w white

  -- a number, whose first characters are there
  least_of : Option Base → ℕ
  least_of None = 1
  least_of (Some base) = 2

  based-calm : (b : Option Base) (u : List ℕ) → least_of b ≤ length u → based b (u ++ w ∷ rest) ≡ based b u
  unfolding based least_of
  based-calm None u le =
      skip-then w rest white 1 _ any (λ k. calm-next w rest white _ _ any any (calm-digits digit_or_underscore (white-decimal w white)) (λ _. calm-fraction Decimal) (λ a zs h. refl)) u le refl
  based-calm (Some base) u le =
      skip-then w rest white 2 _ any (λ k. calm-next w rest white _ _ any any (calm-digits (digits_of base) (digits-none base)) (λ has. calm-if w rest white has _ _ any (calm-fraction base) (calm-body _)) (λ a zs h. refl)) u le refl

  base-none : (c : ℕ) → base_of c 0 ≡ None
  unfolding base_of first_fit
  base-none c = let Q : Bool → Bool → Bool → Option Base = λ a b d. first_fit (row a (Some Binary) ∷ row b (Some Octal) ∷ row d (Some Hexadecimal) ∷ []) None in
      λ i. Q (and-last (c == 48) (0 == letter_b) refl i) (and-last (c == 48) (0 == letter_o) refl i) (and-last (c == 48) (0 == letter_x) refl i)

  base-white : (c : ℕ) → base_of c w ≡ None
  unfolding base_of first_fit is_whitespace
  base-white c = let Q : Bool → Bool → Bool → Option Base = λ a b d. first_fit (row a (Some Binary) ∷ row b (Some Octal) ∷ row d (Some Hexadecimal) ∷ []) None in
      λ i. Q (and-last (c == 48) (w == letter_b) (white-code letter_b w refl white) i) (and-last (c == 48) (w == letter_o) (white-code letter_o w refl white) i) (and-last (c == 48) (w == letter_x) (white-code letter_x w refl white) i)

  least-two : (b : Option Base) (c d : ℕ) (u : List ℕ) → least_of b ≤ length (c ∷ d ∷ u)
  unfolding least_of
  least-two None c d u = omega arith
  least-two (Some base) c d u = omega arith

  pub number-calm : (u : List ℕ) → 1 ≤ length u → number (u ++ w ∷ rest) ≡ number u
  unfolding number least_of
  number-calm [] le = absurd (omega (arith, le))
  number-calm (c ∷ []) le = looked w rest white base_of based (c ∷ []) None (base-none c) (base-white c) (based-calm None (c ∷ []) le)
  number-calm (c ∷ d ∷ u) le = looked w rest white base_of based (c ∷ d ∷ u) (base_of c d) refl refl (based-calm (base_of c d) (c ∷ d ∷ u) (least-two (base_of c d) c d u))

  -- Literals.

  pub calm-suffix : (b : Bool) → Calm w rest white (suffix b) any
  unfolding suffix
  calm-suffix true = calm-name w rest white (white-starts-none w white) (white-continue w white)
  calm-suffix false = calm-give w rest white 0 any

  pub spelled-same : {A : Type 0} (f : Scan A) (u : List ℕ) → f (u ++ w ∷ rest) ≡ f u → (f u).taken ≤ length u → spelled f (u ++ w ∷ rest) ≡ spelled f u
  unfolding spelled
  spelled-same {A} f u same within =
      let m = (f u).taken in
      let text : take m (u ++ w ∷ rest) ≡ take m u = take-front m u (w ∷ rest) within in
      let H : Taken A → Taken (A × List ℕ) = λ r. record { value = (r.value, take r.taken (u ++ w ∷ rest)); taken = r.taken } in
      let K : List ℕ → Taken (A × List ℕ) = λ t. record { value = ((f u).value, t); taken = m } in
      ap H same ∙ ap K text

  pub spelled-taken : {A : Type 0} (f : Scan A) (u : List ℕ) → (spelled f u).taken ≡ (f u).taken
  unfolding spelled
  spelled-taken f u = refl

  pub literal-calm : (f : Scan Body) (u : List ℕ) → f (u ++ w ∷ rest) ≡ f u → (f u).taken ≤ length u → literal f (u ++ w ∷ rest) ≡ literal f u
  unfolding literal
  literal-calm f u same within =
      next-at w rest white _ _ any u (spelled-same f u same within) (omega (arith, within, spelled-taken f u))
      (calm-next w rest white _ _ any any (calm-suffix _) (λ _. calm-give w rest white _ any) (λ a zs h. refl)) refl

  pub string-calm : (more : ℕ) (kind : Bool → LiteralKind) → ((b : Bool) → is_terminated (kind b) ≡ b) → (u : List ℕ) → suc more ≤ length u → ended (string more kind u).value ≡ true → string more kind (u ++ w ∷ rest) ≡ string more kind u
  unfolding string ended give
  string-calm more kind e u le h =
      skip-then w rest white (suc more) _ ended
      (λ k. calm-next w rest white _ _ (λ b. b) ended (calm-quoted w rest white false) (λ closed. calm-give w rest white _ ended) (λ b zs g. sym (e b) ∙ g)) u le h

  calm-character_end : Calm w rest white character_end (λ b. b)
  unfolding character_end ticked
  calm-character_end = record { at = by_front; fits = sound-character_end.fits }
    where
      chosen : Bool → Scan Bool
      chosen single = if single then (skip 2 ▸ λ _. give true) else ticked false

      single-none : (c : ℕ) → is_single c 0 ≡ false
      single-none c = refl

      single-white : (c : ℕ) → is_single c w ≡ false
      single-white c = ap (λ b. b && not (c == backslash)) at-tick

      by_front : (u : List ℕ) → ((look is_single ▸ chosen) u).value ≡ true → (look is_single ▸ chosen) (u ++ w ∷ rest) ≡ (look is_single ▸ chosen) u
      by_front [] h = let z : false ≡ true = sym (ap (λ r. r.value) (look-is w rest white is_single chosen [])) ∙ h in cc
      by_front (c ∷ []) h = looked w rest white is_single chosen (c ∷ []) false (single-none c) (single-white c) ((calm-ticked w rest white at-tick false).at (c ∷ []) (look-value w rest white is_single chosen (λ b. b) (c ∷ []) h))
      by_front (c ∷ d ∷ u) h = looked w rest white is_single chosen (c ∷ d ∷ u) (is_single c d) refl refl (there (is_single c d) (look-value w rest white is_single chosen (λ b. b) (c ∷ d ∷ u) h))
        where
          there : (b : Bool) → (chosen b (c ∷ d ∷ u)).value ≡ true → chosen b (c ∷ d ∷ u ++ w ∷ rest) ≡ chosen b (c ∷ d ∷ u)
          there true g = skip-then w rest white 2 _ any (λ k. calm-give w rest white true any) (c ∷ d ∷ u) (omega arith) refl
          there false g = (calm-ticked w rest white at-tick false).at (c ∷ d ∷ u) g

  pub character-calm : (more : ℕ) (kind : Bool → LiteralKind) → ((b : Bool) → is_terminated (kind b) ≡ b) → (u : List ℕ) → suc more ≤ length u → ended (character more kind u).value ≡ true → character more kind (u ++ w ∷ rest) ≡ character more kind u
  unfolding character ended give
  character-calm more kind e u le h =
      skip-then w rest white (suc more) _ ended
      (λ k. calm-next w rest white _ _ (λ b. b) ended calm-character_end (λ closed. calm-give w rest white _ ended) (λ b zs g. sym (e b) ∙ g)) u le h

  raw_rest : ℕ → Bool → Scan (Option ℕ)
  raw_rest hashes quote = if quote then (raw hashes ▸ λ closed. give (counted hashes closed)) else give None

  calm-raw_rest : (hashes : ℕ) (quote : Bool) → Calm w rest white (raw_rest hashes quote) (λ o. is_some o)
  unfolding raw_rest give
  calm-raw_rest hashes quote =
      calm-if w rest white quote _ _ (λ o. is_some o)
      (calm-next w rest white _ _ (λ b. b) (λ o. is_some o) (calm-raw w rest white at-hash hashes) (λ closed. calm-give w rest white _ (λ o. is_some o)) (λ b zs g. counted-closed hashes b g))
      (calm-give w rest white None (λ o. is_some o))

  after_hashes : ℕ → Scan (Option ℕ)
  after_hashes hashes = look (λ a b. a == double_quote) ▸ λ quote. skip 1 ▸ λ _. raw_rest hashes quote

  fits-raw_rest : (hashes : ℕ) (quote : Bool) → Fits (raw_rest hashes quote)
  fits-raw_rest hashes quote = (calm-raw_rest hashes quote).fits

  none-after : (hashes : ℕ) → (after_hashes hashes []).value ≡ None
  unfolding after_hashes raw_rest ◌▸◌ look skip give
  none-after hashes = refl

  calm-after_hashes : (hashes : ℕ) → Calm w rest white (after_hashes hashes) (λ o. is_some o)
  unfolding after_hashes
  calm-after_hashes hashes = record {
    at = by_front;
    fits = fits-next (look tells) _ (fits-look tells) (λ quote. fits-next (skip 1) _ (fits-skip 1) (λ k. fits-raw_rest hashes quote));
  }
    where
      tells : ℕ → ℕ → Bool
      tells a b = a == double_quote

      by_front : (u : List ℕ) → is_some (after_hashes hashes u).value ≡ true → after_hashes hashes (u ++ w ∷ rest) ≡ after_hashes hashes u
      by_front [] h = let z : false ≡ true = sym (ap (λ o. is_some o) (none-after hashes)) ∙ h in cc
      by_front (c ∷ u) h =
          looked w rest white tells (λ quote. skip 1 ▸ λ _. raw_rest hashes quote) (c ∷ u) (c == double_quote) refl refl
          (skip-then w rest white 1 (λ _. raw_rest hashes (c == double_quote)) (λ o. is_some o) (λ k. calm-raw_rest hashes (c == double_quote)) (c ∷ u) (omega arith)
          (look-value w rest white tells (λ quote. skip 1 ▸ λ _. raw_rest hashes quote) (λ o. is_some o) (c ∷ u) h))

  calm-raw_end : Calm w rest white raw_end (λ o. is_some o)
  unfolding raw_end after_hashes raw_rest
  calm-raw_end = calm-next w rest white _ _ any (λ o. is_some o) (calm-run w rest white _ at-hash) calm-after_hashes (λ a zs h. refl)

  pub raw_string-calm : (more : ℕ) (kind : Option ℕ → LiteralKind) → ((o : Option ℕ) → is_terminated (kind o) ≡ is_some o) → (u : List ℕ) → suc more ≤ length u → ended (raw_string more kind u).value ≡ true → raw_string more kind (u ++ w ∷ rest) ≡ raw_string more kind u
  unfolding raw_string ended give
  raw_string-calm more kind e u le h =
      skip-then w rest white (suc more) _ ended
      (λ k. calm-next w rest white _ _ (λ o. is_some o) ended calm-raw_end (λ hashes. calm-give w rest white _ ended) (λ o zs g. sym (e o) ∙ g)) u le h

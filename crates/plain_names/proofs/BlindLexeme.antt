-- The lexeme at the start of a text is blind.
use Rattle.std.proofs.Common.{◌≡◌, ℕ, ◌≤◌, Bool, true, false, not, ◌&&◌, ◌||◌, ◌==◌, List, [], ◌∷◌, refl, sym, ◌∙◌, ap, subst, arith, inl, inr, eqb-true, if◌then◌else◌}
use Rattle.rustc_lexer.specs.Characters.{double_quote, hash, tick, star, slash, letter_b, letter_c, letter_r, is_whitespace, is_digit, is_id_start}
use Rattle.rustc_lexer.specs.Rows.{row, first_fit}
use Rattle.rustc_lexer.specs.Scan.{give, skip, peek, ◌▸◌, spelled, begin, ticked}
use Rattle.rustc_lexer.specs.Lexeme.{Case, Blank, ToLineEnd, ToPartner, RawName, RawText, Quoted, Ticked, Name, Number, Tick, Guard, Single, opens_raw, case_of, is_single, character_end, character, is_raw, lifetime, lexeme_in, lexeme}
use Rattle.plain_names.specs.TokenNames.{LexemesIgnoreNames}
use Rattle.rustc_lexer.specs.declared.token.LiteralKind.{LiteralKind}
use Rattle.rustc_lexer.specs.declared.token.LiteralKind.TheVariants.{Char, Byte, Str, ByteStr, CStr, RawStr, RawByteStr, RawCStr}
use Rattle.rustc_lexer.proofs.Booleans.{bool_cases}
use Rattle.rustc_lexer.proofs.Cases.{tick-case, char-case}
use Rattle.rustc_lexer.proofs.LexemesLocal.{takes-lexeme_in}
use Rattle.rustc_lexer.proofs.Wide.{start_zero}
use Rattle.plain_names.proofs.Names.{start-double_quote, start-hash, start-tick, start-star, start-slash}
use Rattle.plain_names.proofs.Blind.{Blind, look-taken, blind-begin, not-next}
use Rattle.plain_names.proofs.BlindLexemes.{takes-named, end-some, literal-taken, raw-one, raw-two, blind-lexeme_in}

third-none : (p q r : Bool) → (q && r) ≡ false → ((p && q) && r) ≡ false
third-none true q r h = h
third-none false q r h = refl

-- a case, by the tests of its rows
unfoldable of_tests : (a b c d e f g h i j k l m n o p : Bool) → Case
of_tests a b c d e f g h i j k l m n o p =
    first_fit (row a Blank ∷ row b ToLineEnd ∷ row c ToPartner ∷ row d RawName ∷ row e (RawText 0 (λ z. RawStr z)) ∷ row f (RawText 1 (λ z. RawByteStr z)) ∷ row g (RawText 1 (λ z. RawCStr z))
    ∷ row h (Ticked 1 (λ t. Byte t)) ∷ row i (Quoted 1 (λ t. ByteStr t)) ∷ row j (Quoted 1 (λ t. CStr t)) ∷ row k Name ∷ row l Number ∷ row m Tick ∷ row n (Ticked 0 (λ t. Char t))
    ∷ row o (Quoted 0 (λ t. Str t)) ∷ row p Guard ∷ []) Single

module _ (x y : ℕ) (xs ys : List ℕ) (sx : is_id_start x ≡ true) (sy : is_id_start y ≡ true) (px : (x == letter_r && opens_raw (peek 0 xs)) ≡ false) (py : (y == letter_r && opens_raw (peek 0 ys)) ≡ false) where
  opens-raw-same : opens_raw y ≡ opens_raw x
  opens-raw-same = ap (λ b. b || (y == double_quote)) (not-next x y xs ys sx sy hash start-hash) ∙ ap (λ b. (x == hash) || b) (not-next x y xs ys sx sy double_quote start-double_quote)

  guard-same : (y == hash || y == double_quote) ≡ (x == hash || x == double_quote)
  guard-same = opens-raw-same

  -- one character before the names, and no `'`
  case-one : (c : ℕ) → (c == tick) ≡ false → case_of c y (peek 0 ys) ≡ case_of c x (peek 0 xs)
  unfolding case_of is_raw of_tests
  case-one c none =
      let a = peek 0 xs in
      let b = peek 0 ys in
      let e2 : (c == slash && y == slash) ≡ (c == slash && x == slash) = ap (λ t. (c == slash) && t) (not-next x y xs ys sx sy slash start-slash) in
      let e3 : (c == slash && y == star) ≡ (c == slash && x == star) = ap (λ t. (c == slash) && t) (not-next x y xs ys sx sy star start-star) in
      let e4 : (c == letter_r && y == hash && is_id_start b) ≡ (c == letter_r && x == hash && is_id_start a) = raw-one x y xs ys sx sy c a b in
      let e5 : (c == letter_r && opens_raw y) ≡ (c == letter_r && opens_raw x) = ap (λ t. (c == letter_r) && t) opens-raw-same in
      let e6 : (c == letter_b && y == letter_r && opens_raw b) ≡ (c == letter_b && x == letter_r && opens_raw a) = third-none (c == letter_b) (y == letter_r) (opens_raw b) py ∙ sym (third-none (c == letter_b) (x == letter_r) (opens_raw a) px) in
      let e7 : (c == letter_c && y == letter_r && opens_raw b) ≡ (c == letter_c && x == letter_r && opens_raw a) = third-none (c == letter_c) (y == letter_r) (opens_raw b) py ∙ sym (third-none (c == letter_c) (x == letter_r) (opens_raw a) px) in
      let e8 : (c == letter_b && y == tick) ≡ (c == letter_b && x == tick) = ap (λ t. (c == letter_b) && t) (not-next x y xs ys sx sy tick start-tick) in
      let e9 : (c == letter_b && y == double_quote) ≡ (c == letter_b && x == double_quote) = ap (λ t. (c == letter_b) && t) (not-next x y xs ys sx sy double_quote start-double_quote) in
      let e10 : (c == letter_c && y == double_quote) ≡ (c == letter_c && x == double_quote) = ap (λ t. (c == letter_c) && t) (not-next x y xs ys sx sy double_quote start-double_quote) in
      let e13 : (c == tick && not (b == tick) && (is_id_start y || is_digit y)) ≡ (c == tick && not (a == tick) && (is_id_start x || is_digit x)) =
      ap (λ t. (t && not (b == tick)) && (is_id_start y || is_digit y)) none ∙ sym (ap (λ t. (t && not (a == tick)) && (is_id_start x || is_digit x)) none) in
      let e16 : (c == hash && (y == hash || y == double_quote)) ≡ (c == hash && (x == hash || x == double_quote)) = ap (λ t. (c == hash) && t) guard-same in
      λ i. of_tests (is_whitespace c) (e2 i) (e3 i) (e4 i) (e5 i) (e6 i) (e7 i) (e8 i) (e9 i) (e10 i) (is_id_start c) (is_digit c) (e13 i) (c == tick) (c == double_quote) (e16 i)

  -- before them stand two
  case-two : (c d : ℕ) → case_of c d y ≡ case_of c d x
  unfolding case_of is_raw of_tests
  case-two c d =
      let e4 : (c == letter_r && d == hash && is_id_start y) ≡ (c == letter_r && d == hash && is_id_start x) = raw-two x y xs ys sx sy c d in
      let e6 : (c == letter_b && d == letter_r && opens_raw y) ≡ (c == letter_b && d == letter_r && opens_raw x) = ap (λ t. (c == letter_b && d == letter_r) && t) opens-raw-same in
      let e7 : (c == letter_c && d == letter_r && opens_raw y) ≡ (c == letter_c && d == letter_r && opens_raw x) = ap (λ t. (c == letter_c && d == letter_r) && t) opens-raw-same in
      let e13 : (c == tick && not (y == tick) && (is_id_start d || is_digit d)) ≡ (c == tick && not (x == tick) && (is_id_start d || is_digit d)) =
      ap (λ t. (c == tick && not t) && (is_id_start d || is_digit d)) (not-next x y xs ys sx sy tick start-tick) in
      λ i. of_tests (is_whitespace c) (c == slash && d == slash) (c == slash && d == star) (e4 i) (c == letter_r && opens_raw d) (e6 i) (e7 i) (c == letter_b && d == tick) (c == letter_b && d == double_quote) (c == letter_c && d == double_quote)
      (is_id_start c) (is_digit c) (e13 i) (c == tick) (c == double_quote) (c == hash && (d == hash || d == double_quote))

  -- a `'` takes the name's first character too
  lifetime-two : (c : ℕ) → 2 ≤ (lifetime (c ∷ x ∷ xs)).taken
  unfolding lifetime ◌▸◌ spelled begin skip give
  lifetime-two c = let some = (takes-named (is_raw x (peek 0 xs) (peek 1 xs))).at (x ∷ xs) (omega arith) in omega (arith, some)

  end-takes : 1 ≤ (character_end (x ∷ xs)).taken
  unfolding character_end
  end-takes =
      let here = ap (λ r. r.taken) (look-taken x y xs ys sx sy is_single (λ single. if single then (skip 2 ▸ λ _. give true) else ticked false) (x ∷ xs)) in
      omega (arith, end-some x y xs ys sx sy (is_single x (peek 0 xs)), here)

  character-two : (kind : Bool → LiteralKind) (c : ℕ) → 2 ≤ (character 0 kind (c ∷ x ∷ xs)).taken
  unfolding character ◌▸◌ skip give
  character-two kind c = let some = end-takes in omega (arith, some)

  tick-two : (c : ℕ) → (c == tick) ≡ true → 2 ≤ (lexeme_in (case_of c x (peek 0 xs)) (c ∷ x ∷ xs)).taken
  unfolding lexeme_in
  tick-two c is =
      let P : ℕ → Type 0 = λ z. 2 ≤ (lexeme_in (case_of z x (peek 0 xs)) (c ∷ x ∷ xs)).taken in
      subst P (sym (eqb-true c tick is)) (elim (bool_cases (not (peek 0 xs == tick) && (is_id_start x || is_digit x))) [
        | inl h ↦ subst (λ k. 2 ≤ (lexeme_in k (c ∷ x ∷ xs)).taken) (sym (tick-case x (peek 0 xs) h)) (lifetime-two c)
        | inr h ↦
            subst (λ k. 2 ≤ (lexeme_in k (c ∷ x ∷ xs)).taken) (sym (char-case x (peek 0 xs) h))
            (let all = literal-taken x y xs ys sx sy (character 0 (λ t. Char t)) (c ∷ x ∷ xs) in let some = character-two (λ t. Char t) c in omega (arith, all, some))
      ])

  pub blind-lexeme : Blind x y xs ys sx sy lexeme
  unfolding lexeme
  blind-lexeme = blind-begin x y xs ys sx sy case_of lexeme_in takes-lexeme_in second case-two (blind-lexeme_in x y xs ys sx sy)
    where
      second : (c : ℕ) → (lexeme_in (case_of c x (peek 0 xs)) (c ∷ x ∷ xs)).taken ≤ 1 → case_of c y (peek 0 ys) ≡ case_of c x (peek 0 xs)
      second c h = elim (bool_cases (c == tick)) [
        | inl is ↦ let two = tick-two c is in absurd (omega (arith, two, h))
        | inr is ↦ case-one c is
      ]

none-there : is_id_start 0 ≡ true → ⊥
none-there h = let w : true ≡ false = sym h ∙ start_zero in cc

pub lexemes-blind : LexemesIgnoreNames
lexemes-blind front [] other a b h = absurd (none-there a.starts)
lexemes-blind front (x ∷ xs) [] a b h = absurd (none-there b.starts)
lexemes-blind front (x ∷ xs) (y ∷ ys) a b h = (blind-lexeme x y xs ys a.starts b.starts a.not_raw b.not_raw).at front h

-- A closed lexeme at the end of a text does not depend on whitespace after it; so the tokens of a text do not.
use Rattle.std.proofs.Common.{◌≡◌, ℕ, suc, zero, ◌≤◌, Bool, true, false, not, ◌&&◌, ◌||◌, ◌==◌, List, [], ◌∷◌, ◌++◌, length, drop, length-drop, refl, sym, ◌∙◌, ap, subst, arith, Option, is_some, if◌then◌else◌}
use Rattle.std.proofs.lemmas.List.{drop-append-le}
use Rattle.std.specs.List.{All}
use Rattle.std.proofs.lemmas.List.Elements.{All-head, All-tail}
use Rattle.rustc_lexer.specs.Characters.{double_quote, hash, tick, star, slash, letter_b, letter_c, letter_r, is_whitespace, is_digit, is_id_start, is_id_continue}
use Rattle.rustc_lexer.specs.Rows.{Row, row, first_fit}
use Rattle.rustc_lexer.specs.Scan.{Scan, give, skip, peek, look, ◌▸◌, spelled, begin, run, name, block}
use Rattle.rustc_lexer.specs.Lexeme.{Case, Blank, ToLineEnd, ToPartner, RawName, RawText, Quoted, Ticked, Name, Number, Tick, Guard, Single, opens_raw, cases, case_of, line_comment, block_comment, literal, string, character, raw_string, number, opens_literal, identifier, raw_identifier, is_raw, named, lifetime, sign, lexeme_in, lexeme}
use Rattle.rustc_lexer.specs.Tokens.{first_lexeme, tokens, cut}
use Rattle.plain_names.specs.ClosedTokens.{is_terminated, is_closed, SpaceEndsTokens}
use Rattle.rustc_lexer.specs.declared.token.LiteralKind.TheVariants.{Char, Byte, Str, ByteStr, CStr, RawStr, RawByteStr, RawCStr}
use Rattle.rustc_lexer.specs.declared.token.TokenKind.{TokenKind}
use Rattle.rustc_lexer.specs.declared.token.TokenKind.TheVariants.{UnknownPrefixLifetime, Lifetime, Literal, GuardedStrPrefix, Whitespace}
use Rattle.plain_names.proofs.BlindLexemes.{Body}
use Rattle.rustc_lexer.proofs.Fits.{Fits, fits-give, fits-skip, fits-look, fits-next, fits-if, fits-begin, fits-block}
use Rattle.rustc_lexer.proofs.LexemesLocal.{sound-named, sound-string, sound-character, sound-raw_string, sound-number, lexeme-fits, lexeme-takes}
use Rattle.rustc_lexer.proofs.Cutting.{first-same, tokens-cons}
use Rattle.rustc_lexer.proofs.Wide.{start_zero}
use Rattle.plain_names.proofs.Names.{white-starts-none}
use Rattle.plain_names.proofs.Blind.{take-front}
use Rattle.plain_names.proofs.Calm.{any, Calm, calm-give, next-here, next-at, calm-next, skip-same, skip-then, look-is, looked, calm-look, calm-run, calm-name, calm-block}
use Rattle.plain_names.proofs.CalmLexemes.{and-last, and-middle, white-code, white-continue, white-digit, at-hash, at-tick, at-quote, at-slash, at-star, spelled-same, spelled-taken, literal-calm, ended, number-calm, string-calm, character-calm, raw_string-calm}

-- Choices: what holds of each answer whose test holds, and of the last, holds of the one that is chosen.
abbrev pub EachRow : {A : Type 0} → (A → Type 0) → List (Row A) → Type 0
EachRow P [] = Unit {0}
EachRow P (r ∷ rs) = (r.test ≡ true → P r.answer) × EachRow P rs

pub chosen : {A : Type 0} (P : A → Type 0) (rs : List (Row A)) (d : A) → EachRow P rs → P d → P (first_fit rs d)
unfolding first_fit
chosen P [] d e p = p
chosen {A} P (r ∷ rs) d e p =
    let ih = chosen P rs d e.1 p in
    let Q : Bool → Type 0 = λ t. r.test ≡ t → P (elim t [ true ↦ r.answer | false ↦ first_fit rs d ]) in
    let by : (t : Bool) → Q t = λ t. elim t as Q [ true ↦ λ h. e.0 h | false ↦ λ h. ih ] in
    by r.test refl

-- how many characters a case takes for sure
unfoldable least : Case → ℕ
least Blank = 1
least ToLineEnd = 2
least ToPartner = 2
least RawName = 2
least (RawText more kind) = suc more
least (Quoted more kind) = suc more
least (Ticked more kind) = suc more
least Name = 1
least Number = 1
least Tick = 2
least Guard = 2
least Single = 1

-- the kinds of a case's literals tell whether they ended
abbrev Told : Case → Type 0
Told Blank = Unit {0}
Told ToLineEnd = Unit {0}
Told ToPartner = Unit {0}
Told RawName = Unit {0}
Told (RawText more kind) = (o : Option ℕ) → is_terminated (kind o) ≡ is_some o
Told (Quoted more kind) = (b : Bool) → is_terminated (kind b) ≡ b
Told (Ticked more kind) = (b : Bool) → is_terminated (kind b) ≡ b
Told Name = Unit {0}
Told Number = Unit {0}
Told Tick = Unit {0}
Told Guard = Unit {0}
Told Single = Unit {0}

told : (a b c : ℕ) → Told (case_of a b c)
unfolding case_of is_terminated
told a b c = chosen Told (cases a b c) Single
    (λ _. tt, (λ _. tt, (λ _. tt, (λ _. tt, (λ _ o. refl, (λ _ o. refl, (λ _ o. refl, (λ _ o. refl, (λ _ o. refl, (λ _ o. refl, (λ _. tt, (λ _. tt, (λ _. tt, (λ _ o. refl, (λ _ o. refl, (λ _. tt, tt)))))))))))))))) tt

least-two : (a b c : ℕ) → least (case_of a b c) ≤ 2
unfolding case_of least
least-two a b c = chosen (λ k. least k ≤ 2) (cases a b c) Single
    (λ _. omega arith, (λ _. omega arith, (λ _. omega arith, (λ _. omega arith, (λ _. omega arith, (λ _. omega arith, (λ _. omega arith, (λ _. omega arith, (λ _. omega arith, (λ _. omega arith, (λ _. omega arith, (λ _. omega arith, (λ _. omega arith, (λ _. omega arith, (λ _. omega arith, (λ _. omega arith, tt)))))))))))))))) (omega arith)

pub never : (t : Bool) → t ≡ false → t ≡ true → ⊥
never t f h = let w : false ≡ true = sym f ∙ h in cc

none-begins : (is_id_start 0 || is_digit 0) ≡ false
unfolding is_digit
none-begins = ap (λ b. b || is_digit 0) start_zero

least-one : (a : ℕ) → least (case_of a 0 0) ≤ 1
unfolding case_of least
least-one a =
    chosen (λ k. least k ≤ 1) (cases a 0 0) Single (
      λ _. omega arith,
      (
        λ h. absurd (never (a == slash && 0 == slash) (and-last (a == slash) (0 == slash) refl) h),
        (
          λ h. absurd (never (a == slash && 0 == star) (and-last (a == slash) (0 == star) refl) h),
          (
            λ h. absurd (never (a == letter_r && 0 == hash && is_id_start 0) (and-middle (a == letter_r) (0 == hash) (is_id_start 0) refl) h),
            (
              λ _. omega arith,
              (
                λ h. absurd (never (a == letter_b && 0 == letter_r && opens_raw 0) (and-middle (a == letter_b) (0 == letter_r) (opens_raw 0) refl) h),
                (
                  λ h. absurd (never (a == letter_c && 0 == letter_r && opens_raw 0) (and-middle (a == letter_c) (0 == letter_r) (opens_raw 0) refl) h),
                  (
                    λ h. absurd (never (a == letter_b && 0 == tick) (and-last (a == letter_b) (0 == tick) refl) h),
                    (
                      λ h. absurd (never (a == letter_b && 0 == double_quote) (and-last (a == letter_b) (0 == double_quote) refl) h),
                      (
                        λ h. absurd (never (a == letter_c && 0 == double_quote) (and-last (a == letter_c) (0 == double_quote) refl) h),
                        (
                          λ _. omega arith,
                          (
                            λ _. omega arith,
                            (
                              λ h. absurd (never (a == tick && not (0 == tick) && (is_id_start 0 || is_digit 0)) (and-last (a == tick && not (0 == tick)) (is_id_start 0 || is_digit 0) none-begins) h),
                              (
                                λ _. omega arith,
                                (
                                  λ _. omega arith,
                                  (λ h. absurd (never (a == hash && (0 == hash || 0 == double_quote)) (and-last (a == hash) (0 == hash || 0 == double_quote) refl) h), tt),
                                ),
                              ),
                            ),
                          ),
                        ),
                      ),
                    ),
                  ),
                ),
              ),
            ),
          ),
        ),
      ),
    ) (omega arith)

-- a case, by the tests of its rows
unfoldable of_tests : (a b c d e f g h i j k l m n o p : Bool) → Case
of_tests a b c d e f g h i j k l m n o p =
    first_fit (row a Blank ∷ row b ToLineEnd ∷ row c ToPartner ∷ row d RawName ∷ row e (RawText 0 (λ z. RawStr z)) ∷ row f (RawText 1 (λ z. RawByteStr z)) ∷ row g (RawText 1 (λ z. RawCStr z))
    ∷ row h (Ticked 1 (λ t. Byte t)) ∷ row i (Quoted 1 (λ t. ByteStr t)) ∷ row j (Quoted 1 (λ t. CStr t)) ∷ row k Name ∷ row l Number ∷ row m Tick ∷ row n (Ticked 0 (λ t. Char t))
    ∷ row o (Quoted 0 (λ t. Str t)) ∷ row p Guard ∷ []) Single

module _ (w : ℕ) (rest : List ℕ) (white : is_whitespace w ≡ true) where
  -- Names and lifetimes.

  opens-same : opens_literal w ≡ opens_literal 0
  unfolding opens_literal
  opens-same = ap (λ b. b || w == double_quote || w == tick) (at-hash w rest white) ∙ ap (λ b. false || b || w == tick) (at-quote w rest white) ∙ ap (λ b. false || false || b) (at-tick w rest white)

  identifier-calm : (u : List ℕ) → 1 ≤ length u → identifier (u ++ w ∷ rest) ≡ identifier u
  unfolding identifier
  identifier-calm u le =
      skip-then w rest white 1 _ any (λ k. calm-next w rest white _ _ any any (calm-run w rest white _ (white-continue w white)) (λ _. calm-look w rest white _ _ any opens-same (λ c. refl) (λ prefix. calm-give w rest white _ any)) (λ a zs h. refl)) u le refl

  calm-any-name : Calm w rest white name any
  calm-any-name = calm-name w rest white (white-starts-none w white) (white-continue w white)

  raw_identifier-calm : (u : List ℕ) → 2 ≤ length u → raw_identifier (u ++ w ∷ rest) ≡ raw_identifier u
  unfolding raw_identifier
  raw_identifier-calm u le =
      skip-then w rest white 2 _ any (λ k. calm-next w rest white _ _ any any calm-any-name (λ _. calm-give w rest white _ any) (λ a zs h. refl)) u le refl

  -- what a lifetime ends with
  after_word : Bool → Bool → Bool → Scan (ℕ → TokenKind)
  after_word digit t h =
      if t
      then (skip 1 ▸ λ _. give (λ n. Literal (Char true) n))
      else give (λ n. if h && not digit then UnknownPrefixLifetime else Lifetime digit)

  fits-after_word : (digit t h : Bool) → Fits (after_word digit t h)
  unfolding after_word
  fits-after_word digit t h = fits-if t _ _ (fits-next (skip 1) _ (fits-skip 1) (λ k. fits-give _)) (fits-give _)

  word-there : (digit t h : Bool) (u : List ℕ) → 1 ≤ length u → after_word digit t h (u ++ w ∷ rest) ≡ after_word digit t h u
  unfolding after_word give
  word-there digit true h u le = skip-then w rest white 1 _ any (λ k. calm-give w rest white _ any) u le refl
  word-there digit false h u le = refl

  word-none : (digit : Bool) → after_word digit false false (w ∷ rest) ≡ after_word digit false false []
  unfolding after_word give
  word-none digit = refl

  first_of_two : ℕ → ℕ → ℕ
  first_of_two a b = a

  word_by : Bool → ℕ → Scan (ℕ → TokenKind)
  word_by digit next = after_word digit (next == tick) (next == hash)

  word-end : (digit : Bool) → (look first_of_two ▸ word_by digit) (w ∷ rest) ≡ (look first_of_two ▸ word_by digit) []
  unfolding first_of_two word_by
  word-end digit =
      look-is w rest white first_of_two (word_by digit) (w ∷ rest)
      ∙ ap (λ t. after_word digit t (w == hash) (w ∷ rest)) (at-tick w rest white) ∙ ap (λ t. after_word digit false t (w ∷ rest)) (at-hash w rest white)
      ∙ word-none digit ∙ sym (look-is w rest white first_of_two (word_by digit) [])

  calm-word_end : (digit : Bool) → Calm w rest white (look first_of_two ▸ word_by digit) any
  unfolding first_of_two word_by
  calm-word_end digit = record { at = by_front; fits = fits-next (look first_of_two) _ (fits-look first_of_two) (λ next. fits-after_word digit (next == tick) (next == hash)) }
    where
      by_front : (u : List ℕ) → any ((look first_of_two ▸ word_by digit) u).value ≡ true → (look first_of_two ▸ word_by digit) (u ++ w ∷ rest) ≡ (look first_of_two ▸ word_by digit) u
      by_front [] h = word-end digit
      by_front (c ∷ u) h = looked w rest white first_of_two (word_by digit) (c ∷ u) c refl refl (word-there digit (c == tick) (c == hash) (c ∷ u) (omega arith))

  -- after the `'`: raw or not
  least_named : Bool → ℕ
  least_named true = 2
  least_named false = 1

  named-calm : (b : Bool) (u : List ℕ) → least_named b ≤ length u → named b (u ++ w ∷ rest) ≡ named b u
  unfolding named least_named first_of_two word_by after_word
  named-calm true u le = skip-then w rest white 2 _ any (λ k. calm-next w rest white _ _ any any calm-any-name (λ _. calm-give w rest white _ any) (λ a zs h. refl)) u le refl
  named-calm false [] le = absurd (omega (arith, le))
  named-calm false (c ∷ u) le =
      looked w rest white (λ a b. is_digit a) (λ digit. skip 1 ▸ λ _. run is_id_continue ▸ λ _. look first_of_two ▸ word_by digit) (c ∷ u) (is_digit c) refl refl
      (skip-then w rest white 1 _ any (λ k. calm-next w rest white _ _ any any (calm-run w rest white _ (white-continue w white)) (λ _. calm-word_end (is_digit c)) (λ a zs h. refl)) (c ∷ u) le refl)

  raw-none : (a b : ℕ) → is_raw a 0 b ≡ false
  unfolding is_raw
  raw-none a b = and-middle (a == letter_r) (0 == hash) (is_id_start b) refl

  raw-white : (a b : ℕ) → is_raw a w b ≡ false
  unfolding is_raw
  raw-white a b = and-middle (a == letter_r) (w == hash) (is_id_start b) (at-hash w rest white)

  raw-end : (a b : ℕ) → is_raw a b w ≡ is_raw a b 0
  unfolding is_raw
  raw-end a b = and-last (a == letter_r && b == hash) (is_id_start w) (white-starts-none w white) ∙ sym (and-last (a == letter_r && b == hash) (is_id_start 0) start_zero)

  raw-two : (a b : ℕ) → is_raw a b 0 ≡ false
  unfolding is_raw
  raw-two a b = and-last (a == letter_r && b == hash) (is_id_start 0) start_zero

  long-enough : (b : Bool) (c d e : ℕ) (u : List ℕ) → least_named b ≤ length (c ∷ d ∷ e ∷ u)
  unfolding least_named
  long-enough true c d e u = omega arith
  long-enough false c d e u = omega arith

  begin-named-calm : (u : List ℕ) → 1 ≤ length u → begin is_raw named (u ++ w ∷ rest) ≡ begin is_raw named u
  unfolding begin least_named
  begin-named-calm [] le = absurd (omega (arith, le))
  begin-named-calm (c ∷ []) le = ap (λ b. named b (c ∷ w ∷ rest)) (raw-white c (peek 0 rest)) ∙ named-calm false (c ∷ []) le ∙ sym (ap (λ b. named b (c ∷ [])) (raw-none c 0))
  begin-named-calm (c ∷ d ∷ []) le =
      ap (λ b. named b (c ∷ d ∷ w ∷ rest)) (raw-end c d ∙ raw-two c d) ∙ named-calm false (c ∷ d ∷ []) (omega arith) ∙ sym (ap (λ b. named b (c ∷ d ∷ [])) (raw-two c d))
  begin-named-calm (c ∷ d ∷ e ∷ u) le = named-calm (is_raw c d e) (c ∷ d ∷ e ∷ u) (long-enough (is_raw c d e) c d e u)

  lifetime_inside : Scan (ℕ → TokenKind)
  lifetime_inside = skip 1 ▸ λ _. begin is_raw named

  inside-calm : (u : List ℕ) → 2 ≤ length u → lifetime_inside (u ++ w ∷ rest) ≡ lifetime_inside u
  unfolding lifetime_inside skip
  inside-calm [] le = absurd (omega (arith, le))
  inside-calm (c ∷ u) le = next-here w rest white (skip 1) (λ _. begin is_raw named) (c ∷ u) (skip-same w rest white 1 (c ∷ u) (omega arith)) ((fits-skip 1).at (c ∷ u)) (begin-named-calm u (omega (arith, le)))

  lifetime-calm : (u : List ℕ) → 2 ≤ length u → lifetime (u ++ w ∷ rest) ≡ lifetime u
  unfolding lifetime lifetime_inside
  lifetime-calm u le =
      next-at w rest white (spelled lifetime_inside) _ any u (spelled-same w rest white lifetime_inside u (inside-calm u le) (inside-fits u)) (omega (arith, inside-fits u, spelled-taken w rest white lifetime_inside u)) (calm-give w rest white _ any) refl
    where
      inside-fits : (v : List ℕ) → (lifetime_inside v).taken ≤ length v
      inside-fits v = (fits-next (skip 1) (λ _. begin is_raw named) (fits-skip 1) (λ _. fits-begin is_raw named (λ b. (sound-named b).fits))).at v

  -- a closed block comment
  comment_inside : Scan Bool
  comment_inside = skip 2 ▸ λ _. block 0

  comment-value : (u : List ℕ) → is_closed (block_comment u).value ≡ (comment_inside u).value
  unfolding comment_inside block_comment is_closed ◌▸◌ spelled give
  comment-value u = refl

  comment-fits : (u : List ℕ) → (comment_inside u).taken ≤ length u
  unfolding comment_inside
  comment-fits u = (fits-next (skip 2) (λ _. block 0) (fits-skip 2) (λ _. fits-block 0)).at u

  comment-inside : (u : List ℕ) → 2 ≤ length u → (comment_inside u).value ≡ true → comment_inside (u ++ w ∷ rest) ≡ comment_inside u
  unfolding comment_inside
  comment-inside u le h = skip-then w rest white 2 (λ _. block 0) (λ b. b) (λ k. calm-block w rest white 0) u le h

  comment-calm : (u : List ℕ) → 2 ≤ length u → is_closed (block_comment u).value ≡ true → block_comment (u ++ w ∷ rest) ≡ block_comment u
  unfolding comment_inside block_comment
  comment-calm u le h =
      let same : comment_inside (u ++ w ∷ rest) ≡ comment_inside u = comment-inside u le (sym (comment-value u) ∙ h) in
      next-at w rest white (spelled comment_inside) _ any u (spelled-same w rest white comment_inside u same (comment-fits u)) (omega (arith, comment-fits u, spelled-taken w rest white comment_inside u)) (calm-give w rest white _ any) refl

  single-calm : (u : List ℕ) → 1 ≤ length u → (look (λ a b. sign a) ▸ λ kind. skip 1 ▸ λ _. give kind) (u ++ w ∷ rest) ≡ (look (λ a b. sign a) ▸ λ kind. skip 1 ▸ λ _. give kind) u
  single-calm [] le = absurd (omega (arith, le))
  single-calm (c ∷ u) le =
      looked w rest white (λ a b. sign a) (λ kind. skip 1 ▸ λ _. give kind) (c ∷ u) (sign c) refl refl (skip-then w rest white 1 (λ _. give (sign c)) any (λ k. calm-give w rest white _ any) (c ∷ u) le refl)

  guard-calm : (u : List ℕ) → 2 ≤ length u → (skip 2 ▸ λ _. give GuardedStrPrefix) (u ++ w ∷ rest) ≡ (skip 2 ▸ λ _. give GuardedStrPrefix) u
  guard-calm u le = skip-then w rest white 2 _ any (λ k. calm-give w rest white _ any) u le refl

  -- a literal is closed if its body is
  literal-ended : (f : Scan Body) (u : List ℕ) → is_closed (literal f u).value ≡ true → ended (f u).value ≡ true
  unfolding literal is_closed ended ◌▸◌ spelled give
  literal-ended f u h = h

  never-closed : (u : List ℕ) → is_closed (line_comment u).value ≡ true → ⊥
  unfolding line_comment is_closed ◌▸◌ give
  never-closed u h = let z : false ≡ true = h in cc

  never-blank : (u : List ℕ) → is_closed ((skip 1 ▸ λ _. run is_whitespace ▸ λ _. give Whitespace) u).value ≡ true → ⊥
  unfolding is_closed ◌▸◌ give
  never-blank u h = let z : false ≡ true = h in cc

  in-calm : (k : Case) → Told k → (u : List ℕ) → least k ≤ length u → is_closed (lexeme_in k u).value ≡ true → lexeme_in k (u ++ w ∷ rest) ≡ lexeme_in k u
  unfolding lexeme_in least
  in-calm Blank t u le h = absurd (never-blank u h)
  in-calm ToLineEnd t u le h = absurd (never-closed u h)
  in-calm ToPartner t u le h = comment-calm u le h
  in-calm RawName t u le h = raw_identifier-calm u le
  in-calm (RawText more kind) t u le h = literal-calm w rest white _ u (raw_string-calm w rest white more kind t u le (literal-ended (raw_string more kind) u h)) ((sound-raw_string more kind).fits.at u)
  in-calm (Quoted more kind) t u le h = literal-calm w rest white _ u (string-calm w rest white more kind t u le (literal-ended (string more kind) u h)) ((sound-string more kind).fits.at u)
  in-calm (Ticked more kind) t u le h = literal-calm w rest white _ u (character-calm w rest white more kind t u le (literal-ended (character more kind) u h)) ((sound-character more kind).fits.at u)
  in-calm Name t u le h = identifier-calm u le
  in-calm Number t u le h = literal-calm w rest white number u (number-calm w rest white u le) (sound-number.fits.at u)
  in-calm Tick t u le h = lifetime-calm u le
  in-calm Guard t u le h = guard-calm u le
  in-calm Single t u le h = single-calm u le

  -- the case depends on the text alone
  opens-none : opens_raw w ≡ opens_raw 0
  opens-none = ap (λ b. b || w == double_quote) (at-hash w rest white) ∙ at-quote w rest white

  begins-same : (is_id_start w || is_digit w) ≡ (is_id_start 0 || is_digit 0)
  unfolding is_digit
  begins-same = ap (λ b. b || is_digit w) (white-starts-none w white) ∙ white-digit w white ∙ sym none-begins

  case-one : (c : ℕ) → case_of c w (peek 0 rest) ≡ case_of c 0 0
  unfolding case_of of_tests is_whitespace
  case-one c =
      let r = peek 0 rest in
      let at_r : (w == letter_r) ≡ false = white-code letter_r w refl white in
      let e2 : (c == slash && w == slash) ≡ (c == slash && 0 == slash) = ap (λ t. c == slash && t) (at-slash w rest white) in
      let e3 : (c == slash && w == star) ≡ (c == slash && 0 == star) = ap (λ t. c == slash && t) (at-star w rest white) in
      let e4 : (c == letter_r && w == hash && is_id_start r) ≡ (c == letter_r && 0 == hash && is_id_start 0) = and-middle (c == letter_r) (w == hash) (is_id_start r) (at-hash w rest white) ∙ sym (and-middle (c == letter_r) (0 == hash) (is_id_start 0) refl) in
      let e5 : (c == letter_r && opens_raw w) ≡ (c == letter_r && opens_raw 0) = ap (λ t. c == letter_r && t) opens-none in
      let e6 : (c == letter_b && w == letter_r && opens_raw r) ≡ (c == letter_b && 0 == letter_r && opens_raw 0) = and-middle (c == letter_b) (w == letter_r) (opens_raw r) at_r ∙ sym (and-middle (c == letter_b) (0 == letter_r) (opens_raw 0) refl) in
      let e7 : (c == letter_c && w == letter_r && opens_raw r) ≡ (c == letter_c && 0 == letter_r && opens_raw 0) = and-middle (c == letter_c) (w == letter_r) (opens_raw r) at_r ∙ sym (and-middle (c == letter_c) (0 == letter_r) (opens_raw 0) refl) in
      let e8 : (c == letter_b && w == tick) ≡ (c == letter_b && 0 == tick) = ap (λ t. c == letter_b && t) (at-tick w rest white) in
      let e9 : (c == letter_b && w == double_quote) ≡ (c == letter_b && 0 == double_quote) = ap (λ t. c == letter_b && t) (at-quote w rest white) in
      let e10 : (c == letter_c && w == double_quote) ≡ (c == letter_c && 0 == double_quote) = ap (λ t. c == letter_c && t) (at-quote w rest white) in
      let e13 : (c == tick && not (r == tick) && (is_id_start w || is_digit w)) ≡ (c == tick && not (0 == tick) && (is_id_start 0 || is_digit 0)) =
      and-last (c == tick && not (r == tick)) (is_id_start w || is_digit w) (begins-same ∙ none-begins) ∙ sym (and-last (c == tick && not (0 == tick)) (is_id_start 0 || is_digit 0) none-begins) in
      let e16 : (c == hash && (w == hash || w == double_quote)) ≡ (c == hash && (0 == hash || 0 == double_quote)) = ap (λ t. c == hash && t) opens-none in
      λ i. of_tests (is_whitespace c) (e2 i) (e3 i) (e4 i) (e5 i) (e6 i) (e7 i) (e8 i) (e9 i) (e10 i) (is_id_start c) (is_digit c) (e13 i) (c == tick) (c == double_quote) (e16 i)

  case-two : (c d : ℕ) → case_of c d w ≡ case_of c d 0
  unfolding case_of of_tests is_raw
  case-two c d =
      let e4 : (c == letter_r && d == hash && is_id_start w) ≡ (c == letter_r && d == hash && is_id_start 0) = raw-end c d in
      let e6 : (c == letter_b && d == letter_r && opens_raw w) ≡ (c == letter_b && d == letter_r && opens_raw 0) = ap (λ t. c == letter_b && d == letter_r && t) opens-none in
      let e7 : (c == letter_c && d == letter_r && opens_raw w) ≡ (c == letter_c && d == letter_r && opens_raw 0) = ap (λ t. c == letter_c && d == letter_r && t) opens-none in
      let e13 : (c == tick && not (w == tick) && (is_id_start d || is_digit d)) ≡ (c == tick && not (0 == tick) && (is_id_start d || is_digit d)) = ap (λ t. c == tick && not t && (is_id_start d || is_digit d)) (at-tick w rest white) in
      λ i. of_tests (is_whitespace c) (c == slash && d == slash) (c == slash && d == star) (e4 i) (c == letter_r && opens_raw d) (e6 i) (e7 i) (c == letter_b && d == tick) (c == letter_b && d == double_quote) (c == letter_c && d == double_quote)
      (is_id_start c) (is_digit c) (e13 i) (c == tick) (c == double_quote) (c == hash && (d == hash || d == double_quote))

  pub lexeme-calm : (u : List ℕ) → 1 ≤ length u → is_closed (lexeme u).value ≡ true → lexeme (u ++ w ∷ rest) ≡ lexeme u
  unfolding lexeme begin
  lexeme-calm [] le h = absurd (omega (arith, le))
  lexeme-calm (c ∷ []) le h = ap (λ k. lexeme_in k (c ∷ w ∷ rest)) (case-one c) ∙ in-calm (case_of c 0 0) (told c 0 0) (c ∷ []) (least-one c) h
  lexeme-calm (c ∷ d ∷ []) le h = ap (λ k. lexeme_in k (c ∷ d ∷ w ∷ rest)) (case-two c d) ∙ in-calm (case_of c d 0) (told c d 0) (c ∷ d ∷ []) (least-two c d 0) h
  lexeme-calm (c ∷ d ∷ e ∷ u) le h = let two = least-two c d e in in-calm (case_of c d e) (told c d e) (c ∷ d ∷ e ∷ u) (omega (arith, two)) h

  -- All tokens.
  closed-first : (x : ℕ) (xs : List ℕ) → All (λ l. is_closed l.kind ≡ true) (tokens (x ∷ xs)) → is_closed (lexeme (x ∷ xs)).value ≡ true
  unfolding first_lexeme
  closed-first x xs a = All-head (λ l. is_closed l.kind ≡ true) (first_lexeme (x ∷ xs)) (tokens (drop (lexeme (x ∷ xs)).taken (x ∷ xs))) (subst (λ l. All (λ m. is_closed m.kind ≡ true) l) (tokens-cons x xs) a)

  closed-rest : (x : ℕ) (xs : List ℕ) → All (λ l. is_closed l.kind ≡ true) (tokens (x ∷ xs)) → All (λ l. is_closed l.kind ≡ true) (tokens (drop (lexeme (x ∷ xs)).taken (x ∷ xs)))
  closed-rest x xs a = All-tail (λ l. is_closed l.kind ≡ true) (first_lexeme (x ∷ xs)) (tokens (drop (lexeme (x ∷ xs)).taken (x ∷ xs))) (subst (λ l. All (λ m. is_closed m.kind ≡ true) l) (tokens-cons x xs) a)

  by-length : (k : ℕ) (u : List ℕ) → length u ≤ k → All (λ l. is_closed l.kind ≡ true) (tokens u) → tokens (u ++ w ∷ rest) ≡ tokens u ++ tokens (w ∷ rest)
  unfolding tokens cut
  by-length k [] le a = refl
  by-length zero (x ∷ xs) le a = absurd (omega (arith, le))
  by-length (suc k) (x ∷ xs) le a =
      let X = x ∷ xs in
      let Y = x ∷ xs ++ w ∷ rest in
      let n = (lexeme X).taken in
      let same : lexeme Y ≡ lexeme X = lexeme-calm X (omega arith) (closed-first x xs a) in
      let some : 1 ≤ n = lexeme-takes.at X (omega arith) in
      let within : n ≤ length X = lexeme-fits.at X in
      let first : first_lexeme X ≡ first_lexeme Y = first-same n X Y (sym (take-front n X (w ∷ rest) within)) same refl in
      let left : drop n Y ≡ drop n X ++ w ∷ rest = drop-append-le n X (w ∷ rest) within in
      let ih = by-length k (drop n X) (omega (arith, length-drop n X, some, le)) (closed-rest x xs a) in
      tokens-cons x (xs ++ w ∷ rest) ∙ ap (λ r. first_lexeme Y ∷ tokens (drop r.taken Y)) same ∙ ap (λ z. first_lexeme Y ∷ tokens z) left ∙ ap (λ l. first_lexeme Y ∷ l) ih
      ∙ ap (λ l. l ∷ (tokens (drop n X) ++ tokens (w ∷ rest))) (sym first) ∙ sym (ap (λ l. l ++ tokens (w ∷ rest)) (tokens-cons x xs))

pub space-ends : SpaceEndsTokens
space-ends text w rest white a = by-length w rest white (length text) text (omega arith) a

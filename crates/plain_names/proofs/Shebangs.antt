-- Whether a text opens an attribute does not depend on identifiers: after trivia, or inside a comment.
use Rattle.std.proofs.Common.{◌≡◌, ℕ, suc, zero, ◌+◌, ◌<◌, ◌≤◌, Bool, true, false, not, ◌&&◌, ◌||◌, ◌==◌, List, [], ◌∷◌, ◌++◌, length, take, drop, map, append_assoc, length-drop, refl, sym, ◌∙◌, ap, subst, arith, lit<, inl, inr, ◌⊎◌, eqb-true, Option, Some, None, if◌then◌else◌}
use Rattle.std.proofs.lemmas.List.{drop-append-le, get_or-take}
use Rattle.std.proofs.lemmas.List.Folds.{list_all-append}
use Rattle.rustc_lexer.proofs.Wide.{starts_continue}
use Rattle.std.specs.List.{list_all}
use Rattle.rustc_lexer.specs.Characters.{line_feed, exclamation, hash, tick, star, slash, is_whitespace, is_digit, is_id_start, is_id_continue, is_ident}
use Rattle.rustc_lexer.specs.Scan.{Scan, give, skip, peek, look, ◌▸◌, spelled, begin, run_len, run, past, mark, Neither, block}
use Rattle.rustc_lexer.specs.Lexeme.{Case, Blank, ToLineEnd, ToPartner, RawName, RawText, Quoted, Ticked, Name, Number, Tick, Guard, Single, cases, case_of, doc_style, line_comment, block_comment, literal, identifier, raw_identifier, is_raw, named, lifetime, signs, sign, lexeme_in, lexeme}
use Rattle.rustc_lexer.specs.Tokens.{first_lexeme, token, token_list}
use Rattle.rustc_lexer.specs.Shebang.{is_passed_over, is_open_bracket, opens_attribute}
use Rattle.plain_names.specs.TokenNames.{StartsWithName, name_lexeme, AttributesIgnoreNames}
use Rattle.rustc_lexer.specs.declared.token.DocStyle.{DocStyle}
use Rattle.rustc_lexer.specs.declared.token.DocStyle.TheVariants.{Outer, Inner}
use Rattle.rustc_lexer.specs.declared.token.TokenKind.{TokenKind}
use Rattle.rustc_lexer.specs.declared.token.TokenKind.TheVariants.{LineComment, BlockComment, Ident, UnknownPrefix, UnknownPrefixLifetime, Lifetime, Literal, Unknown}
use Rattle.rustc_lexer.specs.declared.token.LiteralKind.TheVariants.{Char}
use Rattle.rustc_lexer.proofs.Agree.{lt_or_ge}
use Rattle.rustc_lexer.proofs.Booleans.{bool_cases, and_left, and_right}
use Rattle.rustc_lexer.proofs.Cutting.{tokens-cons}
use Rattle.rustc_lexer.proofs.LexemesLocal.{lexeme-takes}
use Rattle.rustc_lexer.proofs.Cases.{first-past, first-false, first-none, blank-case, line-case, block-case, slash-case}
use Rattle.rustc_lexer.proofs.Alike.{Alike, alike-refl, alike-trans, one_on, two_on}
use Rattle.plain_names.proofs.CalmLexeme.{chosen, never}
use Rattle.plain_names.proofs.CalmLexemes.{and-last}
use Rattle.unicode_ident.proofs.IdentLemmas.{is_xid_start-ascii, is_xid_continue-ascii}
use Rattle.rustc_lexer.proofs.Steps.{run-true, run-false, mark_cases, block-opens, block-ends, block-closes, block-neither}
use Rattle.rustc_lexer.proofs.Identifiers.{ident-is-ident}
use Rattle.rustc_lexer.proofs.Lines.{attribute-past, attribute-told}
use Rattle.plain_names.proofs.Names.{other-than, start-star, start-slash, no-white}
use Rattle.plain_names.proofs.BlindLexeme.{lexemes-blind}
use Rattle.plain_names.proofs.Renamed.{ends, begins, name-first, no-name}

-- what the first lexeme tells, and what is left
abbrev pub opens : List ℕ → Bool
opens text = opens_attribute (token_list text)

opens-past : (c : ℕ) (cs : List ℕ) → is_passed_over (lexeme (c ∷ cs)).value ≡ true → opens (c ∷ cs) ≡ opens (drop (lexeme (c ∷ cs)).taken (c ∷ cs))
unfolding token_list first_lexeme
opens-past c cs h = ap (λ l. opens_attribute (map token l)) (tokens-cons c cs) ∙ attribute-past (token (first_lexeme (c ∷ cs))) (token_list (drop (lexeme (c ∷ cs)).taken (c ∷ cs))) h

opens-told : (c : ℕ) (cs : List ℕ) → is_passed_over (lexeme (c ∷ cs)).value ≡ false → opens (c ∷ cs) ≡ is_open_bracket (lexeme (c ∷ cs)).value
unfolding token_list first_lexeme
opens-told c cs h = ap (λ l. opens_attribute (map token l)) (tokens-cons c cs) ∙ attribute-told (token (first_lexeme (c ∷ cs))) (token_list (drop (lexeme (c ∷ cs)).taken (c ∷ cs))) h

-- Kinds that are neither skipped nor `[`.
unfoldable plain : TokenKind → Bool
plain k = not (is_passed_over k) && not (is_open_bracket k)

not-passed : (k : TokenKind) → plain k ≡ true → is_passed_over k ≡ false
unfolding plain
not-passed k h = flipped (is_passed_over k) (and_left (not (is_passed_over k)) (not (is_open_bracket k)) h)
  where
    flipped : (b : Bool) → not b ≡ true → b ≡ false
    flipped false g = refl
    flipped true g = let w : false ≡ true = g in cc

not-bracket : (k : TokenKind) → plain k ≡ true → is_open_bracket k ≡ false
unfolding plain
not-bracket k h = flipped (is_open_bracket k) (and_right (not (is_passed_over k)) (not (is_open_bracket k)) h)
  where
    flipped : (b : Bool) → not b ≡ true → b ≡ false
    flipped false g = refl
    flipped true g = let w : false ≡ true = g in cc

opens-none : (c : ℕ) (cs : List ℕ) → plain (lexeme (c ∷ cs)).value ≡ true → opens (c ∷ cs) ≡ false
opens-none c cs h = opens-told c cs (not-passed _ h) ∙ not-bracket _ h

sign-plain : (c : ℕ) → (c == 91) ≡ false → plain (sign c) ≡ true
unfolding sign plain
sign-plain c none = chosen (λ k. plain k ≡ true) (signs c) Unknown
    (λ _. refl, (λ _. refl, (λ _. refl, (λ _. refl, (λ _. refl, (λ _. refl, (λ _. refl, (λ h. absurd (never (c == 91) none h), (λ _. refl, (λ _. refl, (λ _. refl, (λ _. refl, (λ _. refl, (λ _. refl, (λ _. refl, (λ _. refl, (λ _. refl, (λ _. refl, (λ _. refl, (λ _. refl, (λ _. refl, (λ _. refl, (λ _. refl, (λ _. refl, (λ _. refl, (λ _. refl, (λ _. refl, tt))))))))))))))))))))))))))) refl

-- names, literals and lifetimes
choice-plain : (t : Bool) (a b : TokenKind) → plain a ≡ true → plain b ≡ true → plain (if t then a else b) ≡ true
choice-plain true a b p q = p
choice-plain false a b p q = q

identifier-plain : (zs : List ℕ) → plain (identifier zs).value ≡ true
unfolding identifier ◌▸◌ skip run look give plain
identifier-plain zs = choice-plain _ UnknownPrefix Ident refl refl

literal-plain : (f : Scan _) (zs : List ℕ) → plain (literal f zs).value ≡ true
unfolding literal ◌▸◌ spelled give plain
literal-plain f zs = refl

closes_with : Bool → Bool → ℕ → Scan (ℕ → TokenKind)
closes_with b d next =
    if b
    then (skip 1 ▸ λ _. give (λ n. Literal (Char true) n))
    else give (λ n. if next == hash && not d then UnknownPrefixLifetime else Lifetime d)

closing-plain : (b d : Bool) (next n : ℕ) (zs : List ℕ) → plain ((closes_with b d next zs).value n) ≡ true
unfolding closes_with plain ◌▸◌ skip give
closing-plain true d next n zs = refl
closing-plain false d next n zs = choice-plain (next == hash && not d) UnknownPrefixLifetime (Lifetime d) refl refl

named-plain : (raw : Bool) (zs : List ℕ) (n : ℕ) → plain ((named raw zs).value n) ≡ true
unfolding named closes_with plain ◌▸◌ skip look give run
named-plain true zs n = refl
named-plain false zs n =
    let left = drop (run_len is_id_continue (drop (length (take 1 zs)) zs)) (drop (length (take 1 zs)) zs) in
    closing-plain (peek 0 left == tick) (is_digit (peek 0 zs)) (peek 0 left) n left

lifetime-plain : (zs : List ℕ) → plain (lifetime zs).value ≡ true
unfolding lifetime ◌▸◌ spelled begin skip give
lifetime-plain zs =
    let front = drop (length (take 1 zs)) zs in
    named-plain (is_raw (peek 0 front) (peek 1 front) (peek 2 front)) front _

-- the cases that are no trivia
unfoldable is_other : Case → Bool
is_other Blank = false
is_other ToLineEnd = false
is_other ToPartner = false
is_other k = true

in-plain : (k : Case) (c : ℕ) (zs : List ℕ) → is_other k ≡ true → (c == 91) ≡ false → plain (lexeme_in k (c ∷ zs)).value ≡ true
unfolding is_other lexeme_in raw_identifier ◌▸◌ skip look give plain
in-plain Blank c zs h none = let w : false ≡ true = h in cc
in-plain ToLineEnd c zs h none = let w : false ≡ true = h in cc
in-plain ToPartner c zs h none = let w : false ≡ true = h in cc
in-plain RawName c zs h none = refl
in-plain (RawText more kind) c zs h none = literal-plain _ (c ∷ zs)
in-plain (Quoted more kind) c zs h none = literal-plain _ (c ∷ zs)
in-plain (Ticked more kind) c zs h none = literal-plain _ (c ∷ zs)
in-plain Name c zs h none = identifier-plain (c ∷ zs)
in-plain Number c zs h none = literal-plain _ (c ∷ zs)
in-plain Tick c zs h none = lifetime-plain (c ∷ zs)
in-plain Guard c zs h none = refl
in-plain Single c zs h none = sign-plain c none

other-case : (a b c : ℕ) → is_whitespace a ≡ false → (a == slash) ≡ false → is_other (case_of a b c) ≡ true
unfolding case_of is_other
other-case a b c white slashes = chosen (λ k. is_other k ≡ true) (cases a b c) Single (
  λ h. absurd (never (is_whitespace a) white h),
  (
    λ h. absurd (never (a == slash && b == slash) (ap (λ t. t && b == slash) slashes) h),
    (
      λ h. absurd (never (a == slash && b == star) (ap (λ t. t && b == star) slashes) h),
      (λ _. refl, (λ _. refl, (λ _. refl, (λ _. refl, (λ _. refl, (λ _. refl, (λ _. refl, (λ _. refl, (λ _. refl, (λ _. refl, (λ _. refl, (λ _. refl, (λ _. refl, tt))))))))))))),
    ),
  ),
) refl

opens-other : (c : ℕ) (zs : List ℕ) → is_whitespace c ≡ false → (c == slash) ≡ false → (c == 91) ≡ false → opens (c ∷ zs) ≡ false
unfolding lexeme begin
opens-other c zs white slashes none = opens-none c zs (in-plain (case_of c (peek 0 zs) (peek 1 zs)) c zs (other-case c (peek 0 zs) (peek 1 zs) white slashes) none)

-- `/` before neither `/` nor `*`
opens-slash : (zs : List ℕ) → (peek 0 zs == slash) ≡ false → (peek 0 zs == star) ≡ false → opens (slash ∷ zs) ≡ false
unfolding lexeme begin is_other
opens-slash zs p q = opens-none slash zs (ap (λ k. plain (lexeme_in k (slash ∷ zs)).value) (slash-case (peek 0 zs) (peek 1 zs) p q) ∙ in-plain Single slash zs refl refl)

-- `[` takes itself alone
start-bracket : is_id_start 91 ≡ false
unfolding is_id_start
start-bracket = is_xid_start-ascii 91 (lit< tt)

bracket-case : (b c : ℕ) → case_of 91 b c ≡ Single
unfolding case_of is_whitespace is_digit
bracket-case b c = first-past 10 (cases 91 b c) Single refl ∙ first-false _ _ _ start-bracket ∙ first-past 5 (drop 11 (cases 91 b c)) Single refl ∙ first-none Single

single-taken : (c : ℕ) (zs : List ℕ) → (lexeme_in Single (c ∷ zs)).taken ≡ 1
unfolding lexeme_in ◌▸◌ look skip give
single-taken c zs = refl

bracket-taken : (zs : List ℕ) → (lexeme (91 ∷ zs)).taken ≡ 1
unfolding lexeme begin
bracket-taken zs = ap (λ k. (lexeme_in k (91 ∷ zs)).taken) (bracket-case (peek 0 zs) (peek 1 zs)) ∙ single-taken 91 zs

-- Comments over a name.
mark-second : (a b : ℕ) → (b == slash) ≡ false → (b == star) ≡ false → mark a b ≡ Neither
unfolding mark
mark-second a b p q =
    let one : (a == slash && b == star) ≡ false = and-last (a == slash) (b == star) q in
    let other : (a == star && b == slash) ≡ false = and-last (a == star) (b == slash) p in
    rw (one, other) refl

mark-first : (a b : ℕ) → (a == slash) ≡ false → (a == star) ≡ false → mark a b ≡ Neither
unfolding mark
mark-first a b p q =
    let one : (a == slash && b == star) ≡ false = ap (λ t. t && b == star) p in
    let other : (a == star && b == slash) ≡ false = ap (λ t. t && b == slash) q in
    rw (one, other) refl

continue-slash : is_id_continue slash ≡ false
unfolding is_id_continue
continue-slash = is_xid_continue-ascii slash (lit< tt)

continue-star : is_id_continue star ≡ false
unfolding is_id_continue
continue-star = is_xid_continue-ascii star (lit< tt)

pub continue-feed : is_id_continue line_feed ≡ false
unfolding is_id_continue
continue-feed = is_xid_continue-ascii line_feed (lit< tt)

pub start-exclamation : is_id_start exclamation ≡ false
unfolding is_id_start
start-exclamation = is_xid_start-ascii exclamation (lit< tt)

pub not-code : (k c : ℕ) → is_id_continue k ≡ false → is_id_continue c ≡ true → (c == k) ≡ false
not-code k c none is = elim (bool_cases (c == k)) [
  | inr h ↦ h
  | inl h ↦ let w : true ≡ false = sym is ∙ ap is_id_continue (eqb-true c k h) ∙ none in cc
]

neither-step : (d a b : ℕ) (cs : List ℕ) → mark a b ≡ Neither → block d (a ∷ b ∷ cs) ≡ past (block d (b ∷ cs))
neither-step zero a b cs h = block-neither 0 a b cs h
neither-step (suc d) a b cs h = block-neither (suc d) a b cs h

one-more : (d c : ℕ) (zs : List ℕ) → is_id_continue c ≡ true → Alike (block d) zs (block d) (c ∷ zs)
unfolding block
one-more d c [] is = record { value_same = refl; rest_same = refl }
one-more d c (e ∷ zs) is = one_on (block d) (block d) c (e ∷ zs) (neither-step d c e zs (mark-first c e (not-code slash c continue-slash is) (not-code star c continue-star is)))

-- a comment that goes on over characters of names ends as it would after them
over-name : (d : ℕ) (w s : List ℕ) → list_all is_id_continue w ≡ true → Alike (block d) s (block d) (w ++ s)
over-name d [] s all = alike-refl (block d) s
over-name d (c ∷ w) s all =
    alike-trans (over-name d w s (and_right (is_id_continue c) (list_all is_id_continue w) all)) (one-more d c (w ++ s) (and_left (is_id_continue c) (list_all is_id_continue w) all))

turned : {f g : Scan Bool} {xs ys : List ℕ} → Alike f xs g ys → Alike g ys f xs
turned a = record { value_same = sym a.value_same; rest_same = sym a.rest_same }

pub run-within : (p : ℕ → Bool) (v : List ℕ) (x : ℕ) (xs : List ℕ) → p x ≡ false → run_len p (v ++ x ∷ xs) ≤ length v
unfolding run_len
run-within p [] x xs none = let e = run-false p x xs none in omega (arith, e)
run-within p (c ∷ v) x xs none = elim (bool_cases (p c)) [
  | inl g ↦ let e = run-true p c (v ++ x ∷ xs) g in let ih = run-within p v x xs none in omega (arith, e, ih)
  | inr g ↦ let e = run-false p c (v ++ x ∷ xs) g in omega (arith, e)
]

-- the rest after a run that passes all of a front and of a name
run-past : (p : ℕ → Bool) (w s : List ℕ) → list_all p w ≡ true → drop (run_len p (w ++ s)) (w ++ s) ≡ drop (run_len p s) s
unfolding run_len
run-past p [] s all = refl
run-past p (c ∷ w) s all =
    ap (λ n. drop n (c ∷ w ++ s)) (run-true p c (w ++ s) (and_left (p c) (list_all p w) all)) ∙ run-past p w s (and_right (p c) (list_all p w) all)

all-more : (p : ℕ → Bool) (v : List ℕ) (x : ℕ) (xs : List ℕ) → length v < run_len p (v ++ x ∷ xs) → list_all p v ≡ true
unfolding run_len
all-more p [] x xs h = refl
all-more p (c ∷ v) x xs h = elim (bool_cases (p c)) [
  | inl g ↦ let e = run-true p c (v ++ x ∷ xs) g in ap (λ b. b && list_all p v) g ∙ all-more p v x xs (omega (arith, e, h))
  | inr g ↦ let e = run-false p c (v ++ x ∷ xs) g in absurd (omega (arith, e, h))
]

pub no-feed : (w : List ℕ) → list_all is_id_continue w ≡ true → list_all (λ c. not (c == line_feed)) w ≡ true
no-feed [] all = refl
no-feed (c ∷ w) all =
    ap (λ b. not b && list_all (λ d. not (d == line_feed)) w) (not-code line_feed c continue-feed (and_left (is_id_continue c) (list_all is_id_continue w) all))
    ∙ no-feed w (and_right (is_id_continue c) (list_all is_id_continue w) all)

-- comments
line-taken : (c d : ℕ) (zs : List ℕ) → (line_comment (c ∷ d ∷ zs)).taken ≡ 2 + run_len (λ e. not (e == line_feed)) zs
unfolding line_comment ◌▸◌ spelled skip run give
line-taken c d zs = omega arith

line-value : (c d : ℕ) (zs : List ℕ) → (line_comment (c ∷ d ∷ zs)).value ≡ LineComment (doc_style (take (line_comment (c ∷ d ∷ zs)).taken (c ∷ d ∷ zs)))
unfolding line_comment ◌▸◌ spelled skip run give
line-value c d zs = ap (λ n. LineComment (doc_style (take n (c ∷ d ∷ zs)))) (omega arith)

comment-taken : (c d : ℕ) (zs : List ℕ) → (block_comment (c ∷ d ∷ zs)).taken ≡ 2 + (block 0 zs).taken
unfolding block_comment ◌▸◌ spelled skip give
comment-taken c d zs = omega arith

comment-value : (c d : ℕ) (zs : List ℕ) → (block_comment (c ∷ d ∷ zs)).value ≡ BlockComment (doc_style (take (block_comment (c ∷ d ∷ zs)).taken (c ∷ d ∷ zs))) (block 0 zs).value
unfolding block_comment ◌▸◌ spelled skip give
comment-value c d zs = ap (λ n. BlockComment (doc_style (take n (c ∷ d ∷ zs))) (block 0 zs).value) (omega arith)

drop-two : (c d n m : ℕ) (zs : List ℕ) → n ≡ 2 + m → drop n (c ∷ d ∷ zs) ≡ drop m zs
drop-two c d n m zs e = ap (λ k. drop k (c ∷ d ∷ zs)) (e ∙ (let z : 2 + m ≡ suc (suc m) = omega arith in z))

-- The doc style by three characters.
unfoldable style : ℕ → ℕ → ℕ → Option DocStyle
style b e f =
    if e == exclamation then Some Inner
    else if b == slash && e == slash && not (f == slash) then Some Outer
    else if b == star && e == star && not (f == star || f == slash) then Some Outer
    else None

style-is : (text : List ℕ) → doc_style text ≡ style (peek 1 text) (peek 2 text) (peek 3 text)
unfolding doc_style style
style-is text = refl

-- a name's character documents nothing
style-name : (b x f : ℕ) → is_id_start x ≡ true → style b x f ≡ None
unfolding style
style-name b x f is =
    let e1 : (x == exclamation) ≡ false = other-than exclamation x start-exclamation is in
    let e2 : (b == slash && x == slash && not (f == slash)) ≡ false = ap (λ t. t && not (f == slash)) (and-last (b == slash) (x == slash) (other-than slash x start-slash is)) in
    let e3 : (b == star && x == star && not (f == star || f == slash)) ≡ false = ap (λ t. t && not (f == star || f == slash)) (and-last (b == star) (x == star) (other-than star x start-star is)) in
    rw (e1, e2, e3) refl

style-last : (b e x y : ℕ) → is_id_start x ≡ true → is_id_start y ≡ true → style b e y ≡ style b e x
unfolding style
style-last b e x y sx sy =
    let s : (y == slash) ≡ (x == slash) = other-than slash y start-slash sy ∙ sym (other-than slash x start-slash sx) in
    let t : (y == star) ≡ (x == star) = other-than star y start-star sy ∙ sym (other-than star x start-star sx) in
    let H : Bool → Bool → Option DocStyle = λ p q. if e == exclamation then Some Inner
    else if b == slash && e == slash && not q then Some Outer
    else if b == star && e == star && not (p || q) then Some Outer
    else None in
    λ i. H (t i) (s i)

told_by : Option DocStyle → Bool → Bool
told_by None rest = rest
told_by (Some s) rest = false

by-line : (o : Option DocStyle) (c : ℕ) (cs : List ℕ) (rest : Bool) → (lexeme (c ∷ cs)).value ≡ LineComment o → opens (drop (lexeme (c ∷ cs)).taken (c ∷ cs)) ≡ rest → opens (c ∷ cs) ≡ told_by o rest
unfolding told_by
by-line None c cs rest is left = opens-past c cs (ap is_passed_over is) ∙ left
by-line (Some s) c cs rest is left = opens-told c cs (ap is_passed_over is) ∙ ap is_open_bracket is

by-comment : (o : Option DocStyle) (t : Bool) (c : ℕ) (cs : List ℕ) (rest : Bool) → (lexeme (c ∷ cs)).value ≡ BlockComment o t → opens (drop (lexeme (c ∷ cs)).taken (c ∷ cs)) ≡ rest → opens (c ∷ cs) ≡ told_by o rest
unfolding told_by
by-comment None t c cs rest is left = opens-past c cs (ap is_passed_over is) ∙ left
by-comment (Some s) t c cs rest is left = opens-told c cs (ap is_passed_over is) ∙ ap is_open_bracket is

line-is : (zs : List ℕ) → lexeme (slash ∷ slash ∷ zs) ≡ line_comment (slash ∷ slash ∷ zs)
unfolding lexeme begin lexeme_in
line-is zs = ap (λ k. lexeme_in k (slash ∷ slash ∷ zs)) (line-case slash (peek 0 zs) refl)

comment-is : (zs : List ℕ) → lexeme (slash ∷ star ∷ zs) ≡ block_comment (slash ∷ star ∷ zs)
unfolding lexeme begin lexeme_in
comment-is zs = ap (λ k. lexeme_in k (slash ∷ star ∷ zs)) (block-case star (peek 0 zs) refl refl)

opens-line : (zs : List ℕ) → opens (slash ∷ slash ∷ zs) ≡ told_by (doc_style (take (lexeme (slash ∷ slash ∷ zs)).taken (slash ∷ slash ∷ zs))) (opens (drop (run_len (λ e. not (e == line_feed)) zs) zs))
opens-line zs =
    let is = line-is zs in
    by-line _ slash (slash ∷ zs) _ (ap (λ r. r.value) is ∙ line-value slash slash zs ∙ ap (λ r. LineComment (doc_style (take r.taken (slash ∷ slash ∷ zs)))) (sym is))
    (ap opens (drop-two slash slash _ _ zs (ap (λ r. r.taken) is ∙ line-taken slash slash zs)))

opens-comment : (zs : List ℕ) → opens (slash ∷ star ∷ zs) ≡ told_by (doc_style (take (lexeme (slash ∷ star ∷ zs)).taken (slash ∷ star ∷ zs))) (opens (drop (block 0 zs).taken zs))
opens-comment zs =
    let is = comment-is zs in
    by-comment _ _ slash (star ∷ zs) _ (ap (λ r. r.value) is ∙ comment-value slash star zs ∙ ap (λ r. BlockComment (doc_style (take r.taken (slash ∷ star ∷ zs))) (block 0 zs).value) (sym is))
    (ap opens (drop-two slash star _ _ zs (ap (λ r. r.taken) is ∙ comment-taken slash star zs)))

module _ (x y : ℕ) (nm om s : List ℕ) (sx : is_id_start x ≡ true) (sy : is_id_start y ≡ true) (ax : list_all is_id_continue (x ∷ nm) ≡ true) (ay : list_all is_id_continue (y ∷ om) ≡ true)
    (bx : StartsWithName (x ∷ nm ++ s)) (by : StartsWithName (y ∷ om ++ s)) (fx : first_lexeme (x ∷ nm ++ s) ≡ name_lexeme (x ∷ nm)) (fy : first_lexeme (y ∷ om ++ s) ≡ name_lexeme (y ∷ om)) where
  -- the doc style of a comment that goes on over the names
  style-same : (c d n m : ℕ) (v : List ℕ) → length (c ∷ d ∷ v) < n → length (c ∷ d ∷ v) < m
      → doc_style (take m (c ∷ d ∷ v ++ (y ∷ om ++ s))) ≡ doc_style (take n (c ∷ d ∷ v ++ (x ∷ nm ++ s)))
  style-same c d n m [] p q =
      style-is (take m (c ∷ d ∷ y ∷ om ++ s)) ∙ ap (λ e. style (peek 1 (take m (c ∷ d ∷ y ∷ om ++ s))) e (peek 3 (take m (c ∷ d ∷ y ∷ om ++ s)))) (get_or-take m (c ∷ d ∷ y ∷ om ++ s) 2 0 (omega (arith, q)))
      ∙ style-name _ y _ sy ∙ sym (style-name _ x _ sx)
      ∙ sym (style-is (take n (c ∷ d ∷ x ∷ nm ++ s)) ∙ ap (λ e. style (peek 1 (take n (c ∷ d ∷ x ∷ nm ++ s))) e (peek 3 (take n (c ∷ d ∷ x ∷ nm ++ s)))) (get_or-take n (c ∷ d ∷ x ∷ nm ++ s) 2 0 (omega (arith, p))))
  style-same c d n m (e ∷ []) p q =
      let X = c ∷ d ∷ e ∷ x ∷ nm ++ s in
      let Y = c ∷ d ∷ e ∷ y ∷ om ++ s in
      style-is (take m Y) ∙ (λ i. style ((get_or-take m Y 1 0 (omega (arith, q))) i) ((get_or-take m Y 2 0 (omega (arith, q))) i) ((get_or-take m Y 3 0 (omega (arith, q))) i))
      ∙ style-last d e x y sx sy
      ∙ sym (style-is (take n X) ∙ (λ i. style ((get_or-take n X 1 0 (omega (arith, p))) i) ((get_or-take n X 2 0 (omega (arith, p))) i) ((get_or-take n X 3 0 (omega (arith, p))) i)))
  style-same c d n m (e ∷ f ∷ v) p q =
      let X = c ∷ d ∷ e ∷ f ∷ v ++ (x ∷ nm ++ s) in
      let Y = c ∷ d ∷ e ∷ f ∷ v ++ (y ∷ om ++ s) in
      style-is (take m Y) ∙ (λ i. style ((get_or-take m Y 1 0 (omega (arith, q))) i) ((get_or-take m Y 2 0 (omega (arith, q))) i) ((get_or-take m Y 3 0 (omega (arith, q))) i))
      ∙ sym (style-is (take n X) ∙ (λ i. style ((get_or-take n X 1 0 (omega (arith, p))) i) ((get_or-take n X 2 0 (omega (arith, p))) i) ((get_or-take n X 3 0 (omega (arith, p))) i)))

  -- a block comment ends before the names, or alike over both
  abbrev Crosses : ℕ → List ℕ → Type 0
  Crosses d v = ((block d (v ++ (x ∷ nm ++ s))).taken ≤ length v) ⊎ Alike (block d) (v ++ (x ∷ nm ++ s)) (block d) (v ++ (y ∷ om ++ s))

  over-names : (d : ℕ) → Alike (block d) (x ∷ nm ++ s) (block d) (y ∷ om ++ s)
  over-names d = alike-trans (turned (over-name d (x ∷ nm) s ax)) (over-name d (y ∷ om) s ay)

  after-one : (d a : ℕ) → Alike (block d) (a ∷ x ∷ nm ++ s) (block d) (a ∷ y ∷ om ++ s)
  after-one d a =
      let one = neither-step d a x (nm ++ s) (mark-second a x (other-than slash x start-slash sx) (other-than star x start-star sx)) in
      let other = neither-step d a y (om ++ s) (mark-second a y (other-than slash y start-slash sy) (other-than star y start-star sy)) in
      alike-trans (turned (one_on (block d) (block d) a (x ∷ nm ++ s) one)) (alike-trans (over-names d) (one_on (block d) (block d) a (y ∷ om ++ s) other))

  two-more : (d f a b : ℕ) (v : List ℕ) → block d (a ∷ b ∷ v ++ (x ∷ nm ++ s)) ≡ past (past (block f (v ++ (x ∷ nm ++ s)))) → block d (a ∷ b ∷ v ++ (y ∷ om ++ s)) ≡ past (past (block f (v ++ (y ∷ om ++ s)))) → Crosses f v → Crosses d (a ∷ b ∷ v)
  two-more d f a b v e g (inl h) = inl (omega (arith, ap (λ r. r.taken) e, h))
  two-more d f a b v e g (inr h) = inr (alike-trans (turned (two_on (block f) (block d) a b (v ++ (x ∷ nm ++ s)) e)) (alike-trans h (two_on (block f) (block d) a b (v ++ (y ∷ om ++ s)) g)))

  one-further : (d a b : ℕ) (v : List ℕ) → mark a b ≡ Neither → Crosses d (b ∷ v) → Crosses d (a ∷ b ∷ v)
  one-further d a b v h (inl g) = inl (let e = ap (λ r. r.taken) (neither-step d a b (v ++ (x ∷ nm ++ s)) h) in omega (arith, e, g))
  one-further d a b v h (inr g) =
      inr (alike-trans (turned (one_on (block d) (block d) a (b ∷ v ++ (x ∷ nm ++ s)) (neither-step d a b (v ++ (x ∷ nm ++ s)) h))) (alike-trans g (one_on (block d) (block d) a (b ∷ v ++ (y ∷ om ++ s)) (neither-step d a b (v ++ (y ∷ om ++ s)) h))))

  crosses : (d : ℕ) (v : List ℕ) → Crosses d v
  crosses d [] = inr (over-names d)
  crosses d (a ∷ []) = inr (after-one d a)
  crosses zero (a ∷ b ∷ v) = elim (mark_cases (mark a b)) [
    | inl h ↦ two-more 0 1 a b v (block-opens 0 a b _ h) (block-opens 0 a b _ h) (crosses 1 v)
    | inr (inl h) ↦ inl (let e = ap (λ r. r.taken) (block-ends a b (v ++ (x ∷ nm ++ s)) h) in omega (arith, e))
    | inr (inr h) ↦ one-further 0 a b v h (crosses 0 (b ∷ v))
  ]
  crosses (suc d) (a ∷ b ∷ v) = elim (mark_cases (mark a b)) [
    | inl h ↦ two-more (suc d) (suc (suc d)) a b v (block-opens (suc d) a b _ h) (block-opens (suc d) a b _ h) (crosses (suc (suc d)) v)
    | inr (inl h) ↦ two-more (suc d) d a b v (block-closes d a b _ h) (block-closes d a b _ h) (crosses d v)
    | inr (inr h) ↦ one-further (suc d) a b v h (crosses (suc d) (b ∷ v))
  ]

  -- The texts before the names.

  blank-taken : (c : ℕ) (zs : List ℕ) → is_whitespace c ≡ true → (lexeme (c ∷ zs)).taken ≡ suc (run_len is_whitespace zs)
  unfolding lexeme begin lexeme_in ◌▸◌ skip run give
  blank-taken c zs white = ap (λ k. (lexeme_in k (c ∷ zs)).taken) (blank-case c (peek 0 zs) (peek 1 zs) white) ∙ (let z : 1 + (run_len is_whitespace zs + 0) ≡ suc (run_len is_whitespace zs) = omega arith in z)

  -- a lexeme that ends before the names
  stays : (c : ℕ) (v : List ℕ) → (lexeme (c ∷ v ++ (x ∷ nm ++ s))).taken ≤ suc (length v)
      → opens (drop (lexeme (c ∷ v ++ (x ∷ nm ++ s))).taken (c ∷ v) ++ (x ∷ nm ++ s)) ≡ opens (drop (lexeme (c ∷ v ++ (x ∷ nm ++ s))).taken (c ∷ v) ++ (y ∷ om ++ s))
      → opens (c ∷ v ++ (x ∷ nm ++ s)) ≡ opens (c ∷ v ++ (y ∷ om ++ s))
  stays c v within ih =
      let X = c ∷ v ++ (x ∷ nm ++ s) in
      let Y = c ∷ v ++ (y ∷ om ++ s) in
      let n = (lexeme X).taken in
      let same : lexeme Y ≡ lexeme X = lexemes-blind (c ∷ v) (x ∷ nm ++ s) (y ∷ om ++ s) bx by within in
      let left : drop n X ≡ drop n (c ∷ v) ++ (x ∷ nm ++ s) = drop-append-le n (c ∷ v) (x ∷ nm ++ s) within in
      let other : drop n Y ≡ drop n (c ∷ v) ++ (y ∷ om ++ s) = drop-append-le n (c ∷ v) (y ∷ om ++ s) within in
      elim (bool_cases (is_passed_over (lexeme X).value)) [
        | inl p ↦
            opens-past c (v ++ (x ∷ nm ++ s)) p ∙ ap opens left ∙ ih ∙ ap opens (sym other) ∙ ap (λ r. opens (drop r.taken Y)) (sym same)
            ∙ sym (opens-past c (v ++ (y ∷ om ++ s)) (ap (λ r. is_passed_over r.value) same ∙ p))
        | inr p ↦ opens-told c (v ++ (x ∷ nm ++ s)) p ∙ ap (λ r. is_open_bracket r.value) (sym same) ∙ sym (opens-told c (v ++ (y ∷ om ++ s)) (ap (λ r. is_passed_over r.value) same ∙ p))
      ]

  -- one that goes on over the one goes on over the other
  both-beyond : (c : ℕ) (v : List ℕ) → suc (length v) < (lexeme (c ∷ v ++ (x ∷ nm ++ s))).taken → suc (length v) < (lexeme (c ∷ v ++ (y ∷ om ++ s))).taken
  both-beyond c v h = elim (lt_or_ge (suc (length v)) (lexeme (c ∷ v ++ (y ∷ om ++ s))).taken) [
    | inl l ↦ l
    | inr g ↦
        let same : lexeme (c ∷ v ++ (x ∷ nm ++ s)) ≡ lexeme (c ∷ v ++ (y ∷ om ++ s)) = lexemes-blind (c ∷ v) (y ∷ om ++ s) (x ∷ nm ++ s) by bx g in
        absurd (omega (arith, h, g, ap (λ r. r.taken) same))
  ]

  told-same : (o u : Option DocStyle) (p q : Bool) → o ≡ u → p ≡ q → told_by o p ≡ told_by u q
  told-same o u p q e f = λ i. told_by (e i) (f i)

  feed : ℕ → Bool
  feed e = not (e == line_feed)

  line-beyond : (v : List ℕ) → suc (suc (length v)) < (lexeme (slash ∷ slash ∷ v ++ (x ∷ nm ++ s))).taken → opens (slash ∷ slash ∷ v ++ (x ∷ nm ++ s)) ≡ opens (slash ∷ slash ∷ v ++ (y ∷ om ++ s))
  unfolding feed
  line-beyond v h =
      let g = both-beyond slash (slash ∷ v) h in
      let own = ap (λ r. r.taken) (line-is (v ++ (x ∷ nm ++ s))) ∙ line-taken slash slash (v ++ (x ∷ nm ++ s)) in
      let all : list_all feed v ≡ true = all-more feed v x (nm ++ s) (omega (arith, own, h)) in
      let one : drop (run_len feed (v ++ (x ∷ nm ++ s))) (v ++ (x ∷ nm ++ s)) ≡ drop (run_len feed s) s =
      ap (λ z. drop (run_len feed z) z) (sym (append_assoc v (x ∷ nm) s)) ∙ run-past feed (v ++ x ∷ nm) s (list_all-append feed v (x ∷ nm) ∙ ap (λ b. b && list_all feed (x ∷ nm)) all ∙ no-feed (x ∷ nm) ax) in
      let other : drop (run_len feed (v ++ (y ∷ om ++ s))) (v ++ (y ∷ om ++ s)) ≡ drop (run_len feed s) s =
      ap (λ z. drop (run_len feed z) z) (sym (append_assoc v (y ∷ om) s)) ∙ run-past feed (v ++ y ∷ om) s (list_all-append feed v (y ∷ om) ∙ ap (λ b. b && list_all feed (y ∷ om)) all ∙ no-feed (y ∷ om) ay) in
      opens-line (v ++ (x ∷ nm ++ s)) ∙ told-same _ _ _ _ (sym (style-same slash slash _ _ v h g)) (ap opens (one ∙ sym other)) ∙ sym (opens-line (v ++ (y ∷ om ++ s)))

  comment-beyond : (v : List ℕ) → suc (suc (length v)) < (lexeme (slash ∷ star ∷ v ++ (x ∷ nm ++ s))).taken → opens (slash ∷ star ∷ v ++ (x ∷ nm ++ s)) ≡ opens (slash ∷ star ∷ v ++ (y ∷ om ++ s))
  comment-beyond v h =
      let g = both-beyond slash (star ∷ v) h in
      let own = ap (λ r. r.taken) (comment-is (v ++ (x ∷ nm ++ s))) ∙ comment-taken slash star (v ++ (x ∷ nm ++ s)) in
      elim (crosses 0 v) [
        | inl within ↦ absurd (omega (arith, own, within, h))
        | inr alike ↦
            opens-comment (v ++ (x ∷ nm ++ s)) ∙ told-same _ _ _ _ (sym (style-same slash star _ _ v h g)) (ap opens alike.rest_same) ∙ sym (opens-comment (v ++ (y ∷ om ++ s)))
      ]

  slash-beyond : (v : List ℕ) → suc (length v) < (lexeme (slash ∷ v ++ (x ∷ nm ++ s))).taken → opens (slash ∷ v ++ (x ∷ nm ++ s)) ≡ opens (slash ∷ v ++ (y ∷ om ++ s))
  slash-beyond [] h =
      opens-slash (x ∷ nm ++ s) (other-than slash x start-slash sx) (other-than star x start-star sx) ∙ sym (opens-slash (y ∷ om ++ s) (other-than slash y start-slash sy) (other-than star y start-star sy))
  slash-beyond (d ∷ v) h = elim (bool_cases (d == slash)) [
    | inl is ↦
        let P : ℕ → Type 0 = λ e. suc (suc (length v)) < (lexeme (slash ∷ e ∷ v ++ (x ∷ nm ++ s))).taken in
        let Q : ℕ → Type 0 = λ e. opens (slash ∷ e ∷ v ++ (x ∷ nm ++ s)) ≡ opens (slash ∷ e ∷ v ++ (y ∷ om ++ s)) in
        subst Q (sym (eqb-true d slash is)) (line-beyond v (subst P (eqb-true d slash is) h))
    | inr p ↦ elim (bool_cases (d == star)) [
      | inl is ↦
          let P : ℕ → Type 0 = λ e. suc (suc (length v)) < (lexeme (slash ∷ e ∷ v ++ (x ∷ nm ++ s))).taken in
          let Q : ℕ → Type 0 = λ e. opens (slash ∷ e ∷ v ++ (x ∷ nm ++ s)) ≡ opens (slash ∷ e ∷ v ++ (y ∷ om ++ s)) in
          subst Q (sym (eqb-true d star is)) (comment-beyond v (subst P (eqb-true d star is) h))
      | inr q ↦ opens-slash (d ∷ v ++ (x ∷ nm ++ s)) p q ∙ sym (opens-slash (d ∷ v ++ (y ∷ om ++ s)) p q)
    ]
  ]

  bracket-within : (v : List ℕ) → (lexeme (91 ∷ v ++ (x ∷ nm ++ s))).taken ≤ suc (length v)
  bracket-within v = omega (arith, bracket-taken (v ++ (x ∷ nm ++ s)))

  beyond : (c : ℕ) (v : List ℕ) → suc (length v) < (lexeme (c ∷ v ++ (x ∷ nm ++ s))).taken → opens (c ∷ v ++ (x ∷ nm ++ s)) ≡ opens (c ∷ v ++ (y ∷ om ++ s))
  beyond c v h = elim (bool_cases (is_whitespace c)) [
    | inl white ↦
        let taken = blank-taken c (v ++ (x ∷ nm ++ s)) white in
        let short = run-within is_whitespace v x (nm ++ s) (no-white x sx) in
        absurd (omega (arith, taken, short, h))
    | inr white ↦ elim (bool_cases (c == slash)) [
      | inl is ↦
          let P : ℕ → Type 0 = λ e. suc (length v) < (lexeme (e ∷ v ++ (x ∷ nm ++ s))).taken in
          let Q : ℕ → Type 0 = λ e. opens (e ∷ v ++ (x ∷ nm ++ s)) ≡ opens (e ∷ v ++ (y ∷ om ++ s)) in
          subst Q (sym (eqb-true c slash is)) (slash-beyond v (subst P (eqb-true c slash is) h))
      | inr slashes ↦ elim (bool_cases (c == 91)) [
        | inl is ↦
            let P : ℕ → Type 0 = λ e. (lexeme (e ∷ v ++ (x ∷ nm ++ s))).taken ≤ suc (length v) in
            let short = subst P (sym (eqb-true c 91 is)) (bracket-within v) in
            absurd (omega (arith, short, h))
        | inr none ↦ opens-other c (v ++ (x ∷ nm ++ s)) white slashes none ∙ sym (opens-other c (v ++ (y ∷ om ++ s)) white slashes none)
      ]
    ]
  ]

  name-opens : (z : ℕ) (zs : List ℕ) → (first_lexeme (z ∷ zs)).kind ≡ Ident → opens (z ∷ zs) ≡ false
  unfolding first_lexeme
  name-opens z zs is = opens-told z zs (ap is_passed_over is) ∙ ap is_open_bracket is

  shorter : (c n : ℕ) (v : List ℕ) → 1 ≤ n → length (drop n (c ∷ v)) ≤ length v
  shorter c n v h = omega (arith, length-drop n (c ∷ v), h)

  pub same-attribute : (k : ℕ) (u : List ℕ) → length u ≤ k → opens (u ++ (x ∷ nm ++ s)) ≡ opens (u ++ (y ∷ om ++ s))
  same-attribute k [] le = name-opens x (nm ++ s) (ap (λ l. l.kind) fx) ∙ sym (name-opens y (om ++ s) (ap (λ l. l.kind) fy))
  same-attribute zero (c ∷ v) le = absurd (omega (arith, le))
  same-attribute (suc k) (c ∷ v) le = elim (lt_or_ge (suc (length v)) (lexeme (c ∷ v ++ (x ∷ nm ++ s))).taken) [
    | inl h ↦ beyond c v h
    | inr h ↦
        let n = (lexeme (c ∷ v ++ (x ∷ nm ++ s))).taken in
        let some : 1 ≤ n = lexeme-takes.at (c ∷ v ++ (x ∷ nm ++ s)) (omega arith) in
        let less = shorter c n v some in
        stays c v h (same-attribute k (drop n (c ∷ v)) (omega (arith, less, le)))
  ]

no-name-here : (rest : List ℕ) → first_lexeme rest ≡ name_lexeme [] → ⊥
no-name-here rest h = no-name rest h

pub attributes-same : AttributesIgnoreNames
unfolding is_ident
attributes-same front [] other rest first is = absurd (no-name-here rest first)
attributes-same front (x ∷ nm) [] rest first is = let w : false ≡ true = is in cc
attributes-same front (x ∷ nm) (y ∷ om) rest first is =
    let e = ends x nm rest first in
    let own : is_ident (x ∷ nm) ≡ true = ap (λ l. is_ident l.text) (sym first) ∙ ident-is-ident x (nm ++ rest) (ap (λ l. l.kind) first) in
    let sx = and_left (is_id_start x) (list_all is_id_continue nm) own in
    let sy = and_left (is_id_start y) (list_all is_id_continue om) is in
    let all_x = and_right (is_id_start x) (list_all is_id_continue nm) own in
    let all_y = and_right (is_id_start y) (list_all is_id_continue om) is in
    let whole_x : list_all is_id_continue (x ∷ nm) ≡ true = ap (λ b. b && list_all is_id_continue nm) (starts_continue x sx) ∙ all_x in
    let whole_y : list_all is_id_continue (y ∷ om) ≡ true = ap (λ b. b && list_all is_id_continue om) (starts_continue y sy) ∙ all_y in
    sym (same-attribute x y nm om rest sx sy whole_x whole_y (begins x nm rest sx all_x e) (begins y om rest sy all_y e) first (name-first y om rest sy all_y e) (length front) front (omega arith))

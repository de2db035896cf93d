-- An identifier's leaf is replaced by another identifier: all other leaves stay.
use Rattle.std.proofs.Common.{◌≡◌, ℕ, zero, suc, pred, ◌+◌, ◌-◌, ◌≤◌, Bool, true, false, not, ◌&&◌, ◌||◌, ◌==◌, List, [], ◌∷◌, ◌++◌, length, take, drop, append_assoc, length-append, length-drop, refl, sym, ◌∙◌, ap, subst, arith, inl, inr, ◌⊎◌, if◌then◌else◌}
use Rattle.std.specs.List.{list_all}
use Rattle.std.proofs.lemmas.List.{drop-append-le, take-append-drop, drop-drop}
use Rattle.std.proofs.Math.Seq.{drop-append_seam, take-append_seam, take-append-add, drop-append-add}
use Rattle.rustc_lexer.specs.Characters.{double_quote, hash, tick, is_digit, is_id_start, is_id_continue, is_ident}
use Rattle.rustc_lexer.specs.Scan.{Scan, give, skip, peek, look, ◌▸◌, spelled, begin, run, run_len}
use Rattle.rustc_lexer.specs.Lexeme.{Case, Blank, ToLineEnd, ToPartner, RawName, RawText, Quoted, Ticked, Name, Number, Tick, Guard, Single, cases, case_of, line_comment, block_comment, literal, identifier, raw_identifier, is_raw, named, lifetime, signs, sign, lexeme_in, lexeme}
use Rattle.rustc_lexer.specs.Tokens.{first_lexeme}
use Rattle.plain_names.specs.TokenNames.{StartsWithName, name_lexeme}
use Rattle.rustc_lexer.specs.declared.token.TokenKind.{TokenKind}
use Rattle.rustc_lexer.specs.declared.token.TokenKind.TheVariants.{Ident, Unknown, UnknownPrefix, UnknownPrefixLifetime, Lifetime, Literal}
use Rattle.rustc_lexer.specs.declared.token.LiteralKind.TheVariants.{Char}
use Rattle.rustc_lexer.proofs.Booleans.{bool_cases, and_left, and_right}
use Rattle.rustc_lexer.proofs.Cutting.{first-length, first-same}
use Rattle.rustc_lexer.proofs.LexemesLocal.{lexeme-takes}
use Rattle.rustc_lexer.proofs.Identifiers.{ident-is-ident}
use Rattle.plain_names.proofs.Names.{other-than, start-hash, start-double_quote}
use Rattle.rustc_lexer.proofs.Wide.{start_zero}
use Rattle.plain_names.proofs.Blind.{take-front}
use Rattle.plain_names.proofs.BlindLexeme.{lexemes-blind}
use Rattle.plain_names.proofs.Renamed.{ends, begins, name-first, no-name}
use Rattle.plain_names.proofs.CalmLexeme.{chosen, never}
use Rattle.parser_input.specs.Kinds.{POUND}
use Rattle.parser_input.specs.Messages.{message_of}
use Rattle.parser_input.specs.Leaf.{leaf_of}
use Rattle.parser_input.specs.Lexed.{Lexed, quiet, is_guard, is_split, next_leaf, cut, preface, content, lexed}
use Rattle.plain_names.specs.LeafNames.{texts, AreRenamedLeaves, none, same, renamed, RenamedTextsHaveTheirLeaves}
use Rattle.parser_input.specs.declared.edition.Edition.{Edition}
use Rattle.parser_input.specs.Laws.{LeavesAreTheText}
use Rattle.parser_input.proofs.LexedTexts.{leaves-joined}
use Rattle.plain_names.proofs.Prefaces.{prefaces-same}

pub texts-append : (xs ys : List Lexed) → texts (xs ++ ys) ≡ texts xs ++ texts ys
texts-append [] ys = refl
texts-append (x ∷ xs) ys = ap (λ t. x.leaf.text ++ t) (texts-append xs ys) ∙ sym (append_assoc x.leaf.text (texts xs) (texts ys))

-- a guarded prefix has two characters
guard-value : (b : Bool) (k : TokenKind) → is_guard k ≡ b → Bool
guard-value b k e = b

pub sign-guard : (c : ℕ) → is_guard (sign c) ≡ false
unfolding sign
sign-guard c = chosen (λ k. is_guard k ≡ false) (signs c) Unknown
    (λ _. refl, (λ _. refl, (λ _. refl, (λ _. refl, (λ _. refl, (λ _. refl, (λ _. refl, (λ _. refl, (λ _. refl, (λ _. refl, (λ _. refl, (λ _. refl, (λ _. refl, (λ _. refl, (λ _. refl, (λ _. refl, (λ _. refl, (λ _. refl, (λ _. refl, (λ _. refl, (λ _. refl, (λ _. refl, (λ _. refl, (λ _. refl, (λ _. refl, (λ _. refl, (λ _. refl, tt))))))))))))))))))))))))))) refl

either : (t : Bool) (a b : TokenKind) → is_guard a ≡ false → is_guard b ≡ false → is_guard (if t then a else b) ≡ false
either true a b p q = p
either false a b p q = q

identifier-guard : (zs : List ℕ) → is_guard (identifier zs).value ≡ false
unfolding identifier ◌▸◌ skip run look give
identifier-guard zs = either _ UnknownPrefix Ident refl refl

literal-guard : (f : Scan _) (zs : List ℕ) → is_guard (literal f zs).value ≡ false
unfolding literal ◌▸◌ spelled give
literal-guard f zs = refl

closes_with : Bool → Bool → ℕ → Scan (ℕ → TokenKind)
closes_with b d next =
    if b
    then (skip 1 ▸ λ _. give (λ n. Literal (Char true) n))
    else give (λ n. if next == hash && not d then UnknownPrefixLifetime else Lifetime d)

closing-guard : (b d : Bool) (next n : ℕ) (zs : List ℕ) → is_guard ((closes_with b d next zs).value n) ≡ false
unfolding closes_with ◌▸◌ skip give
closing-guard true d next n zs = refl
closing-guard false d next n zs = either (next == hash && not d) UnknownPrefixLifetime (Lifetime d) refl refl

named-guard : (raw : Bool) (zs : List ℕ) (n : ℕ) → is_guard ((named raw zs).value n) ≡ false
unfolding named closes_with ◌▸◌ skip look give run
named-guard true zs n = refl
named-guard false zs n =
    let left = drop (run_len is_id_continue (drop (length (take 1 zs)) zs)) (drop (length (take 1 zs)) zs) in
    closing-guard (peek 0 left == tick) (is_digit (peek 0 zs)) (peek 0 left) n left

lifetime-guard : (zs : List ℕ) → is_guard (lifetime zs).value ≡ false
unfolding lifetime ◌▸◌ spelled begin skip give
lifetime-guard zs =
    let front = drop (length (take 1 zs)) zs in
    named-guard (is_raw (peek 0 front) (peek 1 front) (peek 2 front)) front _

unfoldable not_guard : Case → Bool
not_guard Guard = false
not_guard k = true

in-guard : (k : Case) (c : ℕ) (zs : List ℕ) → not_guard k ≡ true → is_guard (lexeme_in k (c ∷ zs)).value ≡ false
unfolding not_guard lexeme_in line_comment block_comment raw_identifier ◌▸◌ spelled skip look give
in-guard Blank c zs h = refl
in-guard ToLineEnd c zs h = refl
in-guard ToPartner c zs h = refl
in-guard RawName c zs h = refl
in-guard (RawText more kind) c zs h = literal-guard _ (c ∷ zs)
in-guard (Quoted more kind) c zs h = literal-guard _ (c ∷ zs)
in-guard (Ticked more kind) c zs h = literal-guard _ (c ∷ zs)
in-guard Name c zs h = identifier-guard (c ∷ zs)
in-guard Number c zs h = literal-guard _ (c ∷ zs)
in-guard Tick c zs h = lifetime-guard (c ∷ zs)
in-guard Guard c zs h = let w : false ≡ true = h in cc
in-guard Single c zs h = sign-guard c

and-second : (a b : Bool) → b ≡ false → (a && b) ≡ false
and-second true b h = h
and-second false b h = refl

-- one character before a name is no guarded prefix
guard-none : (c x : ℕ) (xs : List ℕ) → is_id_start x ≡ true → is_guard (lexeme (c ∷ x ∷ xs)).value ≡ false
unfolding lexeme begin case_of not_guard
guard-none c x xs sx =
    let none : (c == hash && (x == hash || x == double_quote)) ≡ false =
    and-second (c == hash) (x == hash || x == double_quote) (ap (λ b. b || x == double_quote) (other-than hash x start-hash sx) ∙ other-than double_quote x start-double_quote sx) in
    in-guard (case_of c x (peek 0 xs)) c (x ∷ xs)
    (chosen (λ k. not_guard k ≡ true) (cases c x (peek 0 xs)) Single
    (λ _. refl, (λ _. refl, (λ _. refl, (λ _. refl, (λ _. refl, (λ _. refl, (λ _. refl, (λ _. refl, (λ _. refl, (λ _. refl, (λ _. refl, (λ _. refl, (λ _. refl, (λ _. refl, (λ _. refl, (λ h. absurd (never (c == hash && (x == hash || x == double_quote)) none h), tt)))))))))))))))) refl)

-- The leaves of a content.

cut-past : (e : Edition) (n : ℕ) (xs : List ℕ) → cut e n xs ≡ cut e 0 (drop n xs)
unfolding cut
cut-past e zero xs = refl
cut-past e (suc n) [] = refl
cut-past e (suc n) (x ∷ xs) = cut-past e n xs

-- the first leaf
pub first : Edition → List ℕ → Lexed
first e text = next_leaf e (first_lexeme text)

pub leaf_text : Edition → List ℕ → List ℕ
leaf_text e text = (first e text).leaf.text

split-text : (e : Edition) (text : List ℕ) → is_split e (first_lexeme text).kind ≡ true → leaf_text e text ≡ take 1 (first_lexeme text).text
unfolding leaf_text first next_leaf
split-text e text h = ap (λ l. l.leaf.text) (by_test (is_split e (first_lexeme text).kind) h)
  where
    by_test : (b : Bool) → b ≡ true → elim b as (λ _. Lexed) [ true ↦ quiet POUND (take 1 (first_lexeme text).text) | false ↦ record { leaf = leaf_of e (first_lexeme text); message = message_of e (first_lexeme text).kind (first_lexeme text).text } ] ≡ quiet POUND (take 1 (first_lexeme text).text)
    by_test true g = refl
    by_test false g = let w : false ≡ true = g in cc

whole-text : (e : Edition) (text : List ℕ) → is_split e (first_lexeme text).kind ≡ false → leaf_text e text ≡ (first_lexeme text).text
unfolding leaf_text first next_leaf leaf_of
whole-text e text h = by_test (is_split e (first_lexeme text).kind) h
  where
    by_test : (b : Bool) → b ≡ false → (elim b as (λ _. Lexed) [ true ↦ quiet POUND (take 1 (first_lexeme text).text) | false ↦ record { leaf = leaf_of e (first_lexeme text); message = message_of e (first_lexeme text).kind (first_lexeme text).text } ]).leaf.text ≡ (first_lexeme text).text
    by_test true g = let w : true ≡ false = g in cc
    by_test false g = refl

lexeme-text : (c : ℕ) (cs : List ℕ) → (first_lexeme (c ∷ cs)).text ≡ take (lexeme (c ∷ cs)).taken (c ∷ cs)
unfolding first_lexeme
lexeme-text c cs = refl

take-own : (m : ℕ) (zs : List ℕ) → take (length (take m zs)) zs ≡ take m zs
take-own zero zs = refl
take-own (suc m) [] = refl
take-own (suc m) (z ∷ zs) = ap (λ t. z ∷ t) (take-own m zs)

take-some : (n c : ℕ) (cs : List ℕ) → 1 ≤ n → take 1 (take n (c ∷ cs)) ≡ take 1 (c ∷ cs)
take-some zero c cs h = absurd (omega (arith, h))
take-some (suc n) c cs h = refl

pub record Own (t zs : List ℕ) : Type 0 where
  pub own : t ≡ take (length t) zs
  pub some : 1 ≤ length t

own-of : (t : List ℕ) (m : ℕ) (zs : List ℕ) → t ≡ take m zs → 1 ≤ length t → Own t zs
own-of t m zs is h = record { own = is ∙ sym (take-own m zs) ∙ ap (λ k. take k zs) (sym (ap length is)); some = h }

pub first-own : (e : Edition) (c : ℕ) (cs : List ℕ) → Own (leaf_text e (c ∷ cs)) (c ∷ cs)
first-own e c cs =
    let n = (lexeme (c ∷ cs)).taken in
    let one : 1 ≤ n = lexeme-takes.at (c ∷ cs) (omega arith) in
    let len = first-length (c ∷ cs) in
    elim (bool_cases (is_split e (first_lexeme (c ∷ cs)).kind)) [
      | inl split ↦
          let is : leaf_text e (c ∷ cs) ≡ take 1 (c ∷ cs) = split-text e (c ∷ cs) split ∙ ap (λ t. take 1 t) (lexeme-text c cs) ∙ take-some n c cs one in
          own-of (leaf_text e (c ∷ cs)) 1 (c ∷ cs) is (omega (arith, ap length is))
      | inr whole ↦
          let is = whole-text e (c ∷ cs) whole in
          own-of (leaf_text e (c ∷ cs)) n (c ∷ cs) (is ∙ lexeme-text c cs) (omega (arith, ap length is, len, one))
    ]

drop_pred : (n : ℕ) (x : ℕ) (xs : List ℕ) → 1 ≤ n → drop (pred n) xs ≡ drop n (x ∷ xs)
drop_pred zero x xs h = absurd (omega (arith, h))
drop_pred (suc n) x xs h = refl

cut-cons : (e : Edition) (c : ℕ) (cs : List ℕ) → cut e 0 (c ∷ cs) ≡ first e (c ∷ cs) ∷ cut e 0 (drop (length (leaf_text e (c ∷ cs))) (c ∷ cs))
unfolding cut first leaf_text
cut-cons e c cs =
    let n = length (next_leaf e (first_lexeme (c ∷ cs))).leaf.text in
    ap (λ l. next_leaf e (first_lexeme (c ∷ cs)) ∷ l) (cut-past e (pred n) cs ∙ ap (λ z. cut e 0 z) (drop_pred n c cs (first-own e c cs).some))

cut-nil : (e : Edition) → cut e 0 [] ≡ []
unfolding cut
cut-nil e = refl

texts-cons : (e : Edition) (c : ℕ) (cs : List ℕ) → (l : List Lexed) → texts (first e (c ∷ cs) ∷ l) ≡ leaf_text e (c ∷ cs) ++ texts l
unfolding leaf_text
texts-cons e c cs l = refl

-- the leaves of a content, joined, are it
joined-bound : (e : Edition) (k : ℕ) (text : List ℕ) → length text ≤ k → texts (cut e 0 text) ≡ text
joined-bound e k [] h = ap texts (cut-nil e)
joined-bound e zero (c ∷ cs) h = absurd (omega (arith, h))
joined-bound e (suc k) (c ∷ cs) h =
    let o = first-own e c cs in
    let n = length (leaf_text e (c ∷ cs)) in
    let few : length (drop n (c ∷ cs)) ≤ k = omega (arith, length-drop n (c ∷ cs), o.some, h) in
    ap texts (cut-cons e c cs) ∙ texts-cons e c cs (cut e 0 (drop n (c ∷ cs))) ∙ ap (λ t. leaf_text e (c ∷ cs) ++ t) (joined-bound e k (drop n (c ∷ cs)) few) ∙ ap (λ t. t ++ drop n (c ∷ cs)) o.own ∙ take-append-drop n (c ∷ cs)

pub cut-joined : (e : Edition) (text : List ℕ) → texts (cut e 0 text) ≡ text
cut-joined e text = joined-bound e (length text) text (omega arith)

none-there : is_id_start 0 ≡ true → ⊥
none-there h = let w : true ≡ false = sym h ∙ start_zero in cc

split-guard : (e : Edition) (k : TokenKind) → is_split e k ≡ true → is_guard k ≡ true
unfolding is_split
split-guard e k h = and_left (is_guard k) _ h

guard-kind : (c x : ℕ) (xs : List ℕ) → is_id_start x ≡ true → is_guard (first_lexeme (c ∷ x ∷ xs)).kind ≡ false
unfolding first_lexeme
guard-kind c x xs sx = guard-none c x xs sx

-- where the first leaf ends before a name, so does the lexeme that it was cut from
lexeme-within : (e : Edition) (c : ℕ) (v : List ℕ) (x : ℕ) (xs : List ℕ) → is_id_start x ≡ true → length (leaf_text e (c ∷ v ++ (x ∷ xs))) ≤ suc (length v) → (lexeme (c ∷ v ++ (x ∷ xs))).taken ≤ suc (length v) ⊎ (is_split e (first_lexeme (c ∷ v ++ (x ∷ xs))).kind ≡ true)
lexeme-within e c v x xs sx h = elim (bool_cases (is_split e (first_lexeme (c ∷ v ++ (x ∷ xs))).kind)) [
  | inl split ↦ inr split
  | inr whole ↦ inl (omega (arith, h, ap length (whole-text e (c ∷ v ++ (x ∷ xs)) whole), first-length (c ∷ v ++ (x ∷ xs))))
]

guard_cases : (k : Case) → (k ≡ Guard) ⊎ (not_guard k ≡ true)
unfolding not_guard
guard_cases Blank = inr refl
guard_cases ToLineEnd = inr refl
guard_cases ToPartner = inr refl
guard_cases RawName = inr refl
guard_cases (RawText more kind) = inr refl
guard_cases (Quoted more kind) = inr refl
guard_cases (Ticked more kind) = inr refl
guard_cases Name = inr refl
guard_cases Number = inr refl
guard_cases Tick = inr refl
guard_cases Guard = inl refl
guard_cases Single = inr refl

two-most : (zs : List ℕ) → (lexeme_in Guard zs).taken ≤ 2
unfolding lexeme_in ◌▸◌ skip give
two-most [] = omega arith
two-most (a ∷ []) = omega arith
two-most (a ∷ b ∷ zs) = omega arith

guard-taken : (c : ℕ) (cs : List ℕ) → is_guard (lexeme (c ∷ cs)).value ≡ true → (lexeme (c ∷ cs)).taken ≤ 2
unfolding lexeme begin
guard-taken c cs h = elim (guard_cases (case_of c (peek 0 cs) (peek 1 cs))) [
  | inl is ↦ omega (arith, ap (λ k. (lexeme_in k (c ∷ cs)).taken) is, two-most (c ∷ cs))
  | inr other ↦ let w : true ≡ false = sym h ∙ in-guard (case_of c (peek 0 cs) (peek 1 cs)) c cs other in cc
]

within-split : (e : Edition) (c : ℕ) (v : List ℕ) (x : ℕ) (xs : List ℕ) → is_id_start x ≡ true → is_split e (first_lexeme (c ∷ v ++ (x ∷ xs))).kind ≡ true → (lexeme (c ∷ v ++ (x ∷ xs))).taken ≤ suc (length v)
unfolding first_lexeme
within-split e c [] x xs sx split = let w : true ≡ false = sym (split-guard e _ split) ∙ guard-none c x xs sx in cc
within-split e c (d ∷ v) x xs sx split = let two = guard-taken c (d ∷ v ++ (x ∷ xs)) (split-guard e _ split) in omega (arith, two)

within : (e : Edition) (c : ℕ) (v : List ℕ) (x : ℕ) (xs : List ℕ) → is_id_start x ≡ true → length (leaf_text e (c ∷ v ++ (x ∷ xs))) ≤ suc (length v) → (lexeme (c ∷ v ++ (x ∷ xs))).taken ≤ suc (length v)
within e c v x xs sx h = elim (lexeme-within e c v x xs sx h) [ inl l ↦ l | inr split ↦ within-split e c v x xs sx split ]

-- the first leaf is the same before both names
leaf-same : (e : Edition) (c : ℕ) (v : List ℕ) (x : ℕ) (xs ys : List ℕ) → StartsWithName (x ∷ xs) → StartsWithName ys → length (leaf_text e (c ∷ v ++ (x ∷ xs))) ≤ suc (length v) → first e (c ∷ v ++ ys) ≡ first e (c ∷ v ++ (x ∷ xs))
unfolding first
leaf-same e c v x xs ys a b h =
    let X = c ∷ v ++ (x ∷ xs) in
    let Y = c ∷ v ++ ys in
    let n = (lexeme X).taken in
    let le = within e c v x xs a.starts h in
    let same : lexeme Y ≡ lexeme X = lexemes-blind (c ∷ v) (x ∷ xs) ys a b le in
    let agree : take n X ≡ take n Y = take-front n (c ∷ v) (x ∷ xs) le ∙ sym (take-front n (c ∷ v) ys le) in
    ap (next_leaf e) (sym (first-same n X Y agree same refl))

front-parts : (e : Edition) (k c : ℕ) (cs : List ℕ) → texts (take (suc k) (cut e 0 (c ∷ cs))) ≡ leaf_text e (c ∷ cs) ++ texts (take k (cut e 0 (drop (length (leaf_text e (c ∷ cs))) (c ∷ cs))))
unfolding leaf_text
front-parts e k c cs = ap (λ l. texts (take (suc k) l)) (cut-cons e c cs)

-- the leaves before the names stay
front-stays : (e : Edition) (k : ℕ) (u xs ys : List ℕ) → StartsWithName xs → StartsWithName ys → texts (take k (cut e 0 (u ++ xs))) ≡ u → take k (cut e 0 (u ++ ys)) ≡ take k (cut e 0 (u ++ xs))
unfolding leaf_text
front-stays e zero u xs ys a b h = refl
front-stays e (suc k) u [] ys a b h = absurd (none-there a.starts)
front-stays e (suc k) [] (x ∷ xs) ys a b h =
    let all : length (leaf_text e (x ∷ xs) ++ texts (take k (cut e 0 (drop (length (leaf_text e (x ∷ xs))) (x ∷ xs))))) ≡ 0 = ap length (sym (front-parts e k x xs) ∙ h) in
    let sum = length-append (leaf_text e (x ∷ xs)) (texts (take k (cut e 0 (drop (length (leaf_text e (x ∷ xs))) (x ∷ xs))))) in
    let some = (first-own e x xs).some in
    absurd (omega (arith, all, sum, some))
front-stays e (suc k) (c ∷ u) (x ∷ xs) ys a b h =
    let X = c ∷ u ++ (x ∷ xs) in
    let Y = c ∷ u ++ ys in
    let n = length (leaf_text e X) in
    let R = texts (take k (cut e 0 (drop n X))) in
    let split : leaf_text e X ++ R ≡ c ∷ u = sym (front-parts e k c (u ++ (x ∷ xs))) ∙ h in
    let sum = length-append (leaf_text e X) R in
    let whole : length (leaf_text e X ++ R) ≡ suc (length u) = ap length split in
    let le : n ≤ suc (length u) = omega (arith, sum, whole) in
    let same : first e Y ≡ first e X = leaf-same e c u x xs ys a b le in
    let m : length (leaf_text e Y) ≡ n = ap (λ l. length l.leaf.text) same in
    let left : drop n X ≡ drop n (c ∷ u) ++ (x ∷ xs) = drop-append-le n (c ∷ u) (x ∷ xs) le in
    let other : drop n Y ≡ drop n (c ∷ u) ++ ys = drop-append-le n (c ∷ u) ys le in
    let rest : R ≡ drop n (c ∷ u) = sym (drop-append_seam (leaf_text e X) R) ∙ ap (λ z. drop n z) split in
    let ih = front-stays e k (drop n (c ∷ u)) (x ∷ xs) ys a b (subst (λ z. texts (take k (cut e 0 z)) ≡ drop n (c ∷ u)) left rest) in
    ap (λ l. take (suc k) l) (cut-cons e c (u ++ ys)) ∙ ap (λ j. first e Y ∷ take k (cut e 0 (drop j Y))) m ∙ ap (λ z. first e Y ∷ take k (cut e 0 z)) other
    ∙ ap (λ l. first e Y ∷ l) ih ∙ ap (λ z. first e Y ∷ take k (cut e 0 z)) (sym left) ∙ ap (λ l. l ∷ take k (cut e 0 (drop n X))) same
    ∙ sym (ap (λ l. take (suc k) l) (cut-cons e c (u ++ (x ∷ xs))))

-- from the end of the first leaves on stand those after them
pub leaves-after : (e : Edition) (k : ℕ) (xs : List ℕ) → cut e 0 (drop (length (texts (take k (cut e 0 xs)))) xs) ≡ drop k (cut e 0 xs)
leaves-after e zero xs = refl
leaves-after e (suc k) [] = ap (λ l. cut e 0 (drop (length (texts (take (suc k) l))) [])) (cut-nil e) ∙ cut-nil e ∙ sym (ap (λ l. drop (suc k) l) (cut-nil e))
leaves-after e (suc k) (c ∷ cs) =
    let X = c ∷ cs in
    let n = length (leaf_text e X) in
    let rest = cut e 0 (drop n X) in
    let sum : length (texts (take (suc k) (cut e 0 X))) ≡ n + length (texts (take k rest)) = ap length (front-parts e k c cs) ∙ length-append (leaf_text e X) (texts (take k rest)) in
    ap (λ m. cut e 0 (drop m X)) sum ∙ ap (λ z. cut e 0 z) (sym (drop-drop (length (texts (take k rest))) n X)) ∙ leaves-after e k (drop n X) ∙ sym (ap (λ l. drop (suc k) l) (cut-cons e c cs))

-- the leaves from a name on
pub from-name : (e : Edition) (x : ℕ) (name rest : List ℕ) → first_lexeme (x ∷ name ++ rest) ≡ name_lexeme (x ∷ name) → cut e 0 (x ∷ name ++ rest) ≡ next_leaf e (name_lexeme (x ∷ name)) ∷ cut e 0 rest
unfolding leaf_text first is_split
from-name e x name rest is =
    let X = x ∷ name ++ rest in
    let leaf : first e X ≡ next_leaf e (name_lexeme (x ∷ name)) = ap (next_leaf e) is in
    let plain : is_split e (first_lexeme X).kind ≡ false = ap (λ l. is_split e l.kind) is in
    let len : length (leaf_text e X) ≡ suc (length name) = ap length (whole-text e X plain) ∙ ap (λ l. length l.text) is in
    cut-cons e x (name ++ rest) ∙ ap (λ l. l ∷ cut e 0 (drop (length (leaf_text e X)) X)) leaf ∙ ap (λ n. next_leaf e (name_lexeme (x ∷ name)) ∷ cut e 0 (drop n X)) len
    ∙ ap (λ z. next_leaf e (name_lexeme (x ∷ name)) ∷ cut e 0 z) (drop-append_seam name rest)

back-stays : (e : Edition) (k : ℕ) (u xs : List ℕ) → texts (take k (cut e 0 (u ++ xs))) ≡ u → drop k (cut e 0 (u ++ xs)) ≡ cut e 0 xs
back-stays e k u xs h = sym (leaves-after e k (u ++ xs)) ∙ ap (λ n. cut e 0 (drop n (u ++ xs))) (ap length h) ∙ ap (λ z. cut e 0 z) (drop-append_seam u xs)

-- all leaves of a content
content-renamed : (e : Edition) (k : ℕ) (u : List ℕ) (x : ℕ) (nm : List ℕ) (y : ℕ) (om rest : List ℕ) → StartsWithName (x ∷ nm ++ rest) → StartsWithName (y ∷ om ++ rest) → texts (take k (cut e 0 (u ++ (x ∷ nm ++ rest)))) ≡ u
    → first_lexeme (x ∷ nm ++ rest) ≡ name_lexeme (x ∷ nm) → first_lexeme (y ∷ om ++ rest) ≡ name_lexeme (y ∷ om)
    → cut e 0 (u ++ (y ∷ om ++ rest)) ≡ take k (cut e 0 (u ++ (x ∷ nm ++ rest))) ++ next_leaf e (name_lexeme (y ∷ om)) ∷ drop (suc k) (cut e 0 (u ++ (x ∷ nm ++ rest)))
content-renamed e k u x nm y om rest a b h fx fy =
    let A = x ∷ nm ++ rest in
    let B = y ∷ om ++ rest in
    let stays = front-stays e k u A B a b h in
    let back : drop k (cut e 0 (u ++ A)) ≡ next_leaf e (name_lexeme (x ∷ nm)) ∷ cut e 0 rest = back-stays e k u A h ∙ from-name e x nm rest fx in
    let behind : drop (suc k) (cut e 0 (u ++ A)) ≡ cut e 0 rest =
    ap (λ n. drop n (cut e 0 (u ++ A))) (let z : suc k ≡ k + 1 = omega arith in z) ∙ sym (drop-drop 1 k (cut e 0 (u ++ A))) ∙ ap (λ l. drop 1 l) back in
    let there : drop k (cut e 0 (u ++ B)) ≡ next_leaf e (name_lexeme (y ∷ om)) ∷ cut e 0 rest = back-stays e k u B (ap texts stays ∙ h) ∙ from-name e y om rest fy in
    sym (take-append-drop k (cut e 0 (u ++ B))) ∙ ap (λ l. l ++ drop k (cut e 0 (u ++ B))) stays ∙ ap (λ l. take k (cut e 0 (u ++ A)) ++ l) there
    ∙ ap (λ l. take k (cut e 0 (u ++ A)) ++ next_leaf e (name_lexeme (y ∷ om)) ∷ l) (sym behind)

-- The whole text.

take-past : (p c : List Lexed) (k : ℕ) → length p ≤ k → take k (p ++ c) ≡ p ++ take (k - length p) c
take-past p c k le = ap (λ n. take n (p ++ c)) (let z : k ≡ length p + (k - length p) = omega (arith, le) in z) ∙ take-append-add p c (k - length p)

drop-past : (p c : List Lexed) (k : ℕ) → length p ≤ k → drop (suc k) (p ++ c) ≡ drop (suc (k - length p)) c
drop-past p c k le = ap (λ n. drop n (p ++ c)) (let z : suc k ≡ length p + suc (k - length p) = omega (arith, le) in z) ∙ drop-append-add p c (suc (k - length p))

pub both : LeavesAreTheText → (e : Edition) (k : ℕ) (front name other rest : List ℕ) →
    texts (take k (lexed e (front ++ (name ++ rest)))) ≡ front →
    length (preface (front ++ (name ++ rest))) ≤ k →
    first_lexeme (name ++ rest) ≡ name_lexeme name → is_ident other ≡ true →
    (lexed e (front ++ (other ++ rest)) ≡ take k (lexed e (front ++ (name ++ rest))) ++ next_leaf e (name_lexeme other) ∷ drop (suc k) (lexed e (front ++ (name ++ rest))))
    × (preface (front ++ (other ++ rest)) ≡ preface (front ++ (name ++ rest)))
unfolding is_ident lexed
both join e k front [] other rest h le is id = absurd (no-name rest is)
both join e k front (x ∷ nm) [] rest h le is id = let w : false ≡ true = id in cc
both join e k front (x ∷ nm) (y ∷ om) rest h le is id =
    let A = x ∷ nm ++ rest in
    let B = y ∷ om ++ rest in
    let tA = front ++ A in
    let tB = front ++ B in
    let E = ends x nm rest is in
    let own : is_ident (x ∷ nm) ≡ true = ap (λ l. is_ident l.text) (sym is) ∙ ident-is-ident x (nm ++ rest) (ap (λ l. l.kind) is) in
    let sx = and_left (is_id_start x) (list_all is_id_continue nm) own in
    let sy = and_left (is_id_start y) (list_all is_id_continue om) id in
    let all_x = and_right (is_id_start x) (list_all is_id_continue nm) own in
    let all_y = and_right (is_id_start y) (list_all is_id_continue om) id in
    let p = preface tA in
    let c = cut e 0 (content tA) in
    let j = k - length p in
    let parts : texts p ++ content tA ≡ tA = sym (ap (λ t. texts p ++ t) (cut-joined e (content tA))) ∙ sym (texts-append p c) ∙ join e tA in
    let before : texts p ++ texts (take j c) ≡ front = sym (texts-append p (take j c)) ∙ ap texts (sym (take-past p c k le)) ∙ h in
    let sum : length (texts p) + length (content tA) ≡ length tA = sym (length-append (texts p) (content tA)) ∙ ap length parts in
    let short : length (texts p) + length (texts (take j c)) ≡ length front = sym (length-append (texts p) (texts (take j c))) ∙ ap length before in
    let long = length-append front A in
    let enough : length A ≤ length (content tA) = omega (arith, sum, short, long) in
    let s = prefaces-same x y nm om rest sx sy all_x all_y is id front enough in
    let fits : texts (take j c) ≡ s.front =
    same-front (texts p) (texts (take j c)) s.front A (ap (λ t. t ++ A) before ∙ sym parts ∙ ap (λ t. texts p ++ t) s.a_is) in
    let here : texts (take j (cut e 0 (s.front ++ A))) ≡ s.front = ap (λ t. texts (take j (cut e 0 t))) (sym s.a_is) ∙ fits in
    let made = content-renamed e j s.front x nm y om rest (begins x nm rest sx all_x E) (begins y om rest sy all_y E) here is (name-first y om rest sy all_y E) in
    let N = next_leaf e (name_lexeme (y ∷ om)) in (
      ap (λ q. q ++ cut e 0 (content tB)) s.leaves ∙ ap (λ t. p ++ cut e 0 t) s.b_is ∙ ap (λ l. p ++ l) made
          ∙ ap (λ t. p ++ (take j (cut e 0 t) ++ N ∷ drop (suc j) (cut e 0 t))) (sym s.a_is)
          ∙ sym (append_assoc p (take j c) (N ∷ drop (suc j) c))
          ∙ ap (λ l. l ++ N ∷ drop (suc j) c) (sym (take-past p c k le)) ∙ ap (λ l. take k (p ++ c) ++ N ∷ l) (sym (drop-past p c k le)),
      s.leaves,
    )
  where
    same-front : (p q r z : List ℕ) → (p ++ q) ++ z ≡ p ++ (r ++ z) → q ≡ r
    same-front p q r z is =
        let cut_p : q ++ z ≡ r ++ z = sym (drop-append_seam p (q ++ z)) ∙ ap (λ t. drop (length p) t) (sym (append_assoc p q z) ∙ is) ∙ drop-append_seam p (r ++ z) in
        let l : length q + length z ≡ length r + length z = sym (length-append q z) ∙ ap length cut_p ∙ length-append r z in
        let n : length q ≡ length r = omega (arith, l) in
        sym (take-append_seam q z) ∙ ap (λ t. take (length q) t) cut_p ∙ ap (λ m. take m (r ++ z)) n ∙ take-append_seam r z

-- ---- any of them at once

drop-more : (fs : List Lexed) (l : Lexed) (ls : List Lexed) → drop (suc (length fs)) (fs ++ l ∷ ls) ≡ ls
drop-more fs l ls = ap (λ n. drop n (fs ++ l ∷ ls)) (let z : suc (length fs) ≡ length fs + 1 = omega arith in z) ∙ drop-append-add fs (l ∷ ls) 1

name-leaf : (e : Edition) (name : List ℕ) → (next_leaf e (name_lexeme name)).leaf.text ≡ name
unfolding next_leaf is_split leaf_of
name-leaf e name = refl

named-texts : (e : Edition) (fs : List Lexed) (name : List ℕ) (ls : List Lexed) → texts (fs ++ next_leaf e (name_lexeme name) ∷ ls) ≡ texts fs ++ (name ++ texts ls)
named-texts e fs name ls = texts-append fs (next_leaf e (name_lexeme name) ∷ ls) ∙ ap (λ t. texts fs ++ (t ++ texts ls)) (name-leaf e name)

-- the first leaves of this text are those, the preface among them, and then come these
record Stand (e : Edition) (fs ls : List Lexed) : Type 0 where
  leaves : lexed e (texts (fs ++ ls)) ≡ fs ++ ls
  within : length (preface (texts (fs ++ ls))) ≤ length fs

between : LeavesAreTheText → (e : Edition) (fs : List Lexed) (name other : List ℕ) (ls : List Lexed)
    → first_lexeme (name ++ texts ls) ≡ name_lexeme name → is_ident other ≡ true
    → Stand e fs (next_leaf e (name_lexeme name) ∷ ls) → Stand e fs (next_leaf e (name_lexeme other) ∷ ls)
between join e fs name other ls is id s =
    let rest = texts ls in
    let front = texts fs in
    let old = named-texts e fs name ls in
    let new = named-texts e fs other ls in
    let here : lexed e (front ++ (name ++ rest)) ≡ fs ++ next_leaf e (name_lexeme name) ∷ ls = ap (lexed e) (sym old) ∙ s.leaves in
    let fronts : take (length fs) (lexed e (front ++ (name ++ rest))) ≡ fs = ap (λ l. take (length fs) l) here ∙ take-append_seam fs (next_leaf e (name_lexeme name) ∷ ls) in
    let later : drop (suc (length fs)) (lexed e (front ++ (name ++ rest))) ≡ ls = ap (λ l. drop (suc (length fs)) l) here ∙ drop-more fs (next_leaf e (name_lexeme name)) ls in
    let short : length (preface (front ++ (name ++ rest))) ≤ length fs = subst (λ t. length (preface t) ≤ length fs) old s.within in
    let r = both join e (length fs) front name other rest (ap texts fronts) short is id in
    record {
      leaves = ap (lexed e) new ∙ r.0 ∙ ap (λ l. l ++ next_leaf e (name_lexeme other) ∷ drop (suc (length fs)) (lexed e (front ++ (name ++ rest)))) fronts ∙ ap (λ l. fs ++ next_leaf e (name_lexeme other) ∷ l) later;
      within = subst (λ t. length (preface t) ≤ length fs) (sym new) (subst (λ q. length q ≤ length fs) (sym r.1) short);
    }

moved : (e : Edition) (fs : List Lexed) (l : Lexed) (ls : List Lexed) → Stand e fs (l ∷ ls) → Stand e (fs ++ l ∷ []) ls
moved e fs l ls s =
    let own : (fs ++ l ∷ []) ++ ls ≡ fs ++ l ∷ ls = append_assoc fs (l ∷ []) ls in
    record {
      leaves = ap (λ z. lexed e (texts z)) own ∙ s.leaves ∙ sym own;
      within = subst (λ z. length (preface (texts z)) ≤ length (fs ++ l ∷ [])) (sym own) (let more = length-append fs (l ∷ []) in let w = s.within in omega (arith, more, w));
    }

-- one by one, from the front: what follows is still the old text
each : LeavesAreTheText → (e : Edition) {ls ms : List Lexed} (fs : List Lexed) → AreRenamedLeaves e ls ms → Stand e fs ls → lexed e (texts (fs ++ ms)) ≡ fs ++ ms
each join e fs none s = s.leaves
each join e fs (same {l} {ls} {ms} more) s =
    let own : (fs ++ l ∷ []) ++ ms ≡ fs ++ l ∷ ms = append_assoc fs (l ∷ []) ms in
    ap (λ z. lexed e (texts z)) (sym own) ∙ each join e (fs ++ l ∷ []) more (moved e fs l ls s) ∙ own
each join e fs (renamed name other {ls} {ms} is id more) s =
    let l = next_leaf e (name_lexeme other) in
    let own : (fs ++ l ∷ []) ++ ms ≡ fs ++ l ∷ ms = append_assoc fs (l ∷ []) ms in
    ap (λ z. lexed e (texts z)) (sym own) ∙ each join e (fs ++ l ∷ []) more (moved e fs l ls (between join e fs name other ls is id s)) ∙ own

pub leaves-renamed : RenamedTextsHaveTheirLeaves
unfolding lexed
leaves-renamed e text ms are =
    let join = leaves-joined in
    let p = preface text in
    let ls = cut e 0 (content text) in
    let whole : texts (p ++ ls) ≡ text = join e text in
    ap (λ t. lexed e t) (sym (texts-append p ms)) ∙ each join e p are (record {
      leaves = ap (lexed e) whole;
      within = subst (λ t. length (preface t) ≤ length p) (sym whole) (let z : length p ≤ length p = omega arith in z);
    })

-- An identifier's token is replaced by another identifier: all other tokens stay.
use Rattle.std.proofs.Common.{◌≡◌, ℕ, suc, zero, ◌+◌, ◌≤◌, Bool, true, false, ◌&&◌, ◌||◌, ◌==◌, List, [], ◌∷◌, ◌++◌, length, take, drop, length-append, refl, sym, ◌∙◌, ap, subst, arith, inl, inr, eqb-true, lit<, if◌then◌else◌}
use Rattle.std.proofs.lemmas.List.{drop-append-le, take-append-drop, drop-drop}
use Rattle.std.proofs.Math.Seq.{drop-append_seam, take-append_seam}
use Rattle.std.specs.List.{list_all}
use Rattle.unicode_ident.proofs.IdentLemmas.{is_xid_continue-ascii}
use Rattle.rustc_lexer.specs.Characters.{double_quote, hash, tick, star, slash, letter_b, letter_c, letter_r, is_id_start, is_id_continue, is_ident}
use Rattle.rustc_lexer.specs.Scan.{Taken, give, skip, peek, look, ◌▸◌, begin, run_len, run}
use Rattle.rustc_lexer.specs.Lexeme.{Name, opens_raw, opens_literal, case_of, identifier, lexeme_in, lexeme}
use Rattle.rustc_lexer.specs.Tokens.{Lexeme, first_lexeme, tokens, joined}
use Rattle.plain_names.specs.TokenNames.{StartsWithName, name_lexeme, RenamingKeepsTokens}
use Rattle.rustc_lexer.specs.declared.token.TokenKind.{TokenKind}
use Rattle.rustc_lexer.specs.declared.token.TokenKind.TheVariants.{Ident, UnknownPrefix}
use Rattle.rustc_lexer.proofs.Booleans.{bool_cases, and_left, and_right}
use Rattle.rustc_lexer.proofs.Steps.{run-true, run-false}
use Rattle.rustc_lexer.proofs.Runs.{run_after}
use Rattle.rustc_lexer.proofs.Cases.{first-false, first-true}
use Rattle.rustc_lexer.proofs.Wide.{start_zero, continue_zero}
use Rattle.rustc_lexer.proofs.Cutting.{first-same, tokens-cons, first-length, tokens-after}
use Rattle.rustc_lexer.proofs.LexemesLocal.{lexeme-takes}
use Rattle.rustc_lexer.proofs.Identifiers.{name-starts, not_ident, name_cases, other-case, identifier-taken, ident-is-ident}
use Rattle.plain_names.proofs.Names.{other-than, start-slash, no-white}
use Rattle.plain_names.proofs.Blind.{take-front}
use Rattle.plain_names.proofs.BlindLexeme.{lexemes-blind}

-- What goes on a name is none of these.
pub continue-hash : is_id_continue hash ≡ false
unfolding is_id_continue
continue-hash = is_xid_continue-ascii hash (lit< tt)

pub continue-quote : is_id_continue double_quote ≡ false
unfolding is_id_continue
continue-quote = is_xid_continue-ascii double_quote (lit< tt)

continue-tick : is_id_continue tick ≡ false
unfolding is_id_continue
continue-tick = is_xid_continue-ascii tick (lit< tt)

continue-r : is_id_continue letter_r ≡ true
unfolding is_id_continue
continue-r = is_xid_continue-ascii letter_r (lit< tt)

not-code : (p : ℕ → Bool) (k x : ℕ) → p k ≡ false → p x ≡ true → (x == k) ≡ false
not-code p k x none is = elim (bool_cases (x == k)) [
  | inr h ↦ h
  | inl h ↦ let w : true ≡ false = sym is ∙ ap p (eqb-true x k h) ∙ none in cc
]

three-false : (a b c : Bool) → a ≡ false → b ≡ false → c ≡ false → (a || b || c) ≡ false
three-false false false false p q r = refl
three-false true b c p q r = let w : true ≡ false = p in cc
three-false false true c p q r = let w : true ≡ false = q in cc
three-false false false true p q r = let w : true ≡ false = r in cc

-- a character that opens no literal after a name
quiet-continue : (c : ℕ) → is_id_continue c ≡ true → opens_literal c ≡ false
unfolding opens_literal
quiet-continue c is =
    three-false (c == hash) (c == double_quote) (c == tick) (not-code is_id_continue hash c continue-hash is) (not-code is_id_continue double_quote c continue-quote is) (not-code is_id_continue tick c continue-tick is)

-- the text after a name, or within it
pub quiet : (w rest : List ℕ) → list_all is_id_continue w ≡ true → opens_literal (peek 0 rest) ≡ false → opens_literal (peek 0 (w ++ rest)) ≡ false
quiet [] rest all none = none
quiet (c ∷ w) rest all none = quiet-continue c (and_left (is_id_continue c) (list_all is_id_continue w) all)

record Quiet (c : ℕ) : Type 0 where
  hashes : (c == hash) ≡ false
  quotes : (c == double_quote) ≡ false
  ticks : (c == tick) ≡ false

or-first : (a b : Bool) → (a || b) ≡ false → a ≡ false
or-first false b h = refl
or-first true b h = let w : true ≡ false = h in cc

or-second : (a b : Bool) → (a || b) ≡ false → b ≡ false
or-second false b h = h
or-second true b h = let w : true ≡ false = h in cc

quiet-of : (c : ℕ) → opens_literal c ≡ false → Quiet c
unfolding opens_literal
quiet-of c h =
    let front = or-first (c == hash || c == double_quote) (c == tick) h in
    record { hashes = or-first (c == hash) (c == double_quote) front; quotes = or-second (c == hash) (c == double_quote) front; ticks = or-second (c == hash || c == double_quote) (c == tick) h }

raw-none : (c : ℕ) → Quiet c → opens_raw c ≡ false
raw-none c q = ap (λ b. b || (c == double_quote)) q.hashes ∙ q.quotes

and-last : (a b : Bool) → b ≡ false → (a && b) ≡ false
and-last true b h = h
and-last false b h = refl

and-middle : (a b c : Bool) → b ≡ false → ((a && b) && c) ≡ false
and-middle a b c h = ap (λ z. z && c) (and-last a b h)

-- An identifier, and what no identifier takes.
pub record EndsName (rest : List ℕ) : Type 0 where
  pub no_more : is_id_continue (peek 0 rest) ≡ false
  pub no_literal : opens_literal (peek 0 rest) ≡ false

pub run-over : (w rest : List ℕ) → list_all is_id_continue w ≡ true → is_id_continue (peek 0 rest) ≡ false → run_len is_id_continue (w ++ rest) ≡ length w
unfolding run_len
run-over [] [] all none = refl
run-over [] (c ∷ rest) all none = run-false is_id_continue c rest none
run-over (c ∷ w) rest all none =
    run-true is_id_continue c (w ++ rest) (and_left (is_id_continue c) (list_all is_id_continue w) all) ∙ ap suc (run-over w rest (and_right (is_id_continue c) (list_all is_id_continue w) all) none)

-- the second and the third character of the rows that begin with `b` and `c`
pair-none : (w rest : List ℕ) → list_all is_id_continue w ≡ true → EndsName rest → (l : Bool) → ((l && peek 0 (w ++ rest) == letter_r) && opens_raw (peek 1 (w ++ rest))) ≡ false
pair-none [] rest all e l = and-middle l (peek 0 rest == letter_r) (opens_raw (peek 1 rest)) (elim (bool_cases (peek 0 rest == letter_r)) [
  | inr h ↦ h
  | inl h ↦ let w : false ≡ true = sym e.no_more ∙ ap is_id_continue (eqb-true (peek 0 rest) letter_r h) ∙ continue-r in cc
])
pair-none (c ∷ w) rest all e l = and-last (l && c == letter_r) _ (raw-none _ (quiet-of _ (quiet w rest (and_right (is_id_continue c) (list_all is_id_continue w) all) e.no_literal)))

pub name-case : (y : ℕ) (w rest : List ℕ) → is_id_start y ≡ true → list_all is_id_continue w ≡ true → EndsName rest → case_of y (peek 0 (w ++ rest)) (peek 1 (w ++ rest)) ≡ Name
unfolding case_of
name-case y w rest sy all e =
    let b = peek 0 (w ++ rest) in
    let c = peek 1 (w ++ rest) in
    let q = quiet-of b (quiet w rest all e.no_literal) in
    let raw = raw-none b q in
    let slashes = other-than slash y start-slash sy in
    first-false _ _ _ (no-white y sy) ∙ first-false _ _ _ (ap (λ t. t && b == slash) slashes) ∙ first-false _ _ _ (ap (λ t. t && b == star) slashes)
    ∙ first-false _ _ _ (and-middle (y == letter_r) (b == hash) (is_id_start c) q.hashes) ∙ first-false _ _ _ (and-last (y == letter_r) (opens_raw b) raw)
    ∙ first-false _ _ _ (pair-none w rest all e (y == letter_b)) ∙ first-false _ _ _ (pair-none w rest all e (y == letter_c))
    ∙ first-false _ _ _ (and-last (y == letter_b) (b == tick) q.ticks) ∙ first-false _ _ _ (and-last (y == letter_b) (b == double_quote) q.quotes) ∙ first-false _ _ _ (and-last (y == letter_c) (b == double_quote) q.quotes)
    ∙ first-true _ _ sy

abbrev kind_by : Bool → TokenKind
kind_by prefix = if prefix then UnknownPrefix else Ident

identifier-value : (y : ℕ) (ws : List ℕ) → (identifier (y ∷ ws)).value ≡ kind_by (opens_literal (peek 0 (drop (run_len is_id_continue ws) ws)))
unfolding identifier ◌▸◌ skip run look give
identifier-value y ws = refl

-- an identifier before what goes on no name is the first lexeme
pub name-first : (y : ℕ) (w rest : List ℕ) → is_id_start y ≡ true → list_all is_id_continue w ≡ true → EndsName rest → first_lexeme (y ∷ w ++ rest) ≡ name_lexeme (y ∷ w)
unfolding first_lexeme lexeme begin lexeme_in
name-first y w rest sy all e =
    let ws = w ++ rest in
    let over = run-over w rest all e.no_more in
    let is : lexeme (y ∷ ws) ≡ identifier (y ∷ ws) = ap (λ k. lexeme_in k (y ∷ ws)) (name-case y w rest sy all e) in
    let taken : (identifier (y ∷ ws)).taken ≡ suc (length w) = identifier-taken y ws ∙ ap suc over in
    let kind : (identifier (y ∷ ws)).value ≡ Ident =
    identifier-value y ws ∙ ap (λ n. kind_by (opens_literal (peek 0 (drop n ws)))) over ∙ ap (λ z. kind_by (opens_literal (peek 0 z))) (drop-append_seam w rest) ∙ ap kind_by e.no_literal in
    let text : take (suc (length w)) (y ∷ ws) ≡ y ∷ w = ap (λ z. y ∷ z) (take-append_seam w rest) in
    let H : Taken TokenKind → Lexeme = λ r. record { kind = r.value; text = take r.taken (y ∷ ws) } in
    let K : TokenKind → Lexeme = λ k. record { kind = k; text = take (identifier (y ∷ ws)).taken (y ∷ ws) } in
    ap H is ∙ ap K kind ∙ ap (λ n. name_lexeme (take n (y ∷ ws))) taken ∙ ap name_lexeme text

pub begins : (y : ℕ) (w rest : List ℕ) → is_id_start y ≡ true → list_all is_id_continue w ≡ true → EndsName rest → StartsWithName (y ∷ w ++ rest)
begins y w rest sy all e = record { starts = sy; not_raw = and-last (y == letter_r) _ (raw-none _ (quiet-of _ (quiet w rest all e.no_literal))) }

-- The text after an identifier's token.
prefix-none : (b : Bool) → kind_by b ≡ Ident → b ≡ false
unfolding not_ident
prefix-none false h = refl
prefix-none true h = let w : true ≡ false = ap not_ident h in cc

is-name : (x : ℕ) (xs : List ℕ) → (first_lexeme (x ∷ xs)).kind ≡ Ident → case_of x (peek 0 xs) (peek 1 xs) ≡ Name
unfolding first_lexeme lexeme begin not_ident
is-name x xs h = elim (name_cases (case_of x (peek 0 xs) (peek 1 xs))) [
  | inl n ↦ n
  | inr n ↦ let w : true ≡ false = sym (other-case (case_of x (peek 0 xs) (peek 1 xs)) (x ∷ xs) n) ∙ ap not_ident h in cc
]

same-length : (x : ℕ) (name rest : List ℕ) → take (suc (length name)) (x ∷ name ++ rest) ≡ x ∷ name
same-length x name rest = ap (λ z. x ∷ z) (take-append_seam name rest)

pub ends : (x : ℕ) (name rest : List ℕ) → first_lexeme (x ∷ name ++ rest) ≡ name_lexeme (x ∷ name) → EndsName rest
unfolding first_lexeme lexeme begin lexeme_in
ends x name rest first =
    let ws = name ++ rest in
    let is : lexeme (x ∷ ws) ≡ identifier (x ∷ ws) = ap (λ k. lexeme_in k (x ∷ ws)) (is-name x ws (ap (λ l. l.kind) first)) in
    let len : length (first_lexeme (x ∷ ws)).text ≡ suc (run_len is_id_continue ws) = first-length (x ∷ ws) ∙ ap (λ r. r.taken) is ∙ identifier-taken x ws in
    let run : run_len is_id_continue ws ≡ length name = let l : length (first_lexeme (x ∷ ws)).text ≡ suc (length name) = ap (λ z. length z.text) first in omega (arith, len, l) in
    let after : drop (run_len is_id_continue ws) ws ≡ rest = ap (λ n. drop n ws) run ∙ drop-append_seam name rest in
    record {
      no_more = ap (λ z. is_id_continue (peek 0 z)) (sym after) ∙ run_after is_id_continue ws continue_zero;
      no_literal =
          ap (λ z. opens_literal (peek 0 z)) (sym after)
          ∙ prefix-none _ (sym (identifier-value x ws) ∙ sym (ap (λ r. r.value) is) ∙ ap (λ l. l.kind) first);
    }

-- The lexemes before the names.
some-text : (x : ℕ) (xs : List ℕ) → 1 ≤ length (first_lexeme (x ∷ xs)).text
some-text x xs = let one = lexeme-takes.at (x ∷ xs) (omega arith) in let len = first-length (x ∷ xs) in omega (arith, one, len)

none-starts : is_id_start 0 ≡ true → ⊥
none-starts h = let w : true ≡ false = sym h ∙ start_zero in cc

front-parts : (k c : ℕ) (cs : List ℕ) → joined (take (suc k) (tokens (c ∷ cs))) ≡ (first_lexeme (c ∷ cs)).text ++ joined (take k (tokens (drop (lexeme (c ∷ cs)).taken (c ∷ cs))))
front-parts k c cs = ap (λ l. joined (take (suc k) l)) (tokens-cons c cs)

pub front-stays : (k : ℕ) (u xs ys : List ℕ) → StartsWithName xs → StartsWithName ys → joined (take k (tokens (u ++ xs))) ≡ u → take k (tokens (u ++ ys)) ≡ take k (tokens (u ++ xs))
front-stays zero u xs ys a b h = refl
front-stays (suc k) u [] ys a b h = absurd (none-starts a.starts)
front-stays (suc k) [] (x ∷ xs) ys a b h =
    let all : length ((first_lexeme (x ∷ xs)).text ++ joined (take k (tokens (drop (lexeme (x ∷ xs)).taken (x ∷ xs))))) ≡ 0 = ap length (sym (front-parts k x xs) ∙ h) in
    let sum = length-append (first_lexeme (x ∷ xs)).text (joined (take k (tokens (drop (lexeme (x ∷ xs)).taken (x ∷ xs))))) in
    let some = some-text x xs in
    absurd (omega (arith, all, sum, some))
front-stays (suc k) (c ∷ u) (x ∷ xs) ys a b h =
    let X = c ∷ u ++ x ∷ xs in
    let Y = c ∷ u ++ ys in
    let n = (lexeme X).taken in
    let R = joined (take k (tokens (drop n X))) in
    let split : (first_lexeme X).text ++ R ≡ c ∷ u = sym (front-parts k c (u ++ x ∷ xs)) ∙ h in
    let len = first-length X in
    let sum = length-append (first_lexeme X).text R in
    let whole : length ((first_lexeme X).text ++ R) ≡ suc (length u) = ap length split in
    let within : n ≤ suc (length u) = omega (arith, len, sum, whole) in
    let same : lexeme Y ≡ lexeme X = lexemes-blind (c ∷ u) (x ∷ xs) ys a b within in
    let agree : take n X ≡ take n Y = take-front n (c ∷ u) (x ∷ xs) within ∙ sym (take-front n (c ∷ u) ys within) in
    let first : first_lexeme X ≡ first_lexeme Y = first-same n X Y agree same refl in
    let left : drop n X ≡ drop n (c ∷ u) ++ x ∷ xs = drop-append-le n (c ∷ u) (x ∷ xs) within in
    let other : drop n Y ≡ drop n (c ∷ u) ++ ys = drop-append-le n (c ∷ u) ys within in
    let rest : R ≡ drop n (c ∷ u) = sym (drop-append_seam (first_lexeme X).text R) ∙ ap (λ m. drop m ((first_lexeme X).text ++ R)) len ∙ ap (λ z. drop n z) split in
    let ih = front-stays k (drop n (c ∷ u)) (x ∷ xs) ys a b (subst (λ z. joined (take k (tokens z)) ≡ drop n (c ∷ u)) left rest) in
    ap (λ l. take (suc k) l) (tokens-cons c (u ++ ys)) ∙ ap (λ r. first_lexeme Y ∷ take k (tokens (drop r.taken Y))) same ∙ ap (λ z. first_lexeme Y ∷ take k (tokens z)) other
    ∙ ap (λ l. first_lexeme Y ∷ l) ih ∙ ap (λ z. first_lexeme Y ∷ take k (tokens z)) (sym left) ∙ ap (λ l. l ∷ take k (tokens (drop n X))) (sym first)
    ∙ sym (ap (λ l. take (suc k) l) (tokens-cons c (u ++ x ∷ xs)))

-- The lexemes from a name on.
from-name : (x : ℕ) (name rest : List ℕ) → first_lexeme (x ∷ name ++ rest) ≡ name_lexeme (x ∷ name) → tokens (x ∷ name ++ rest) ≡ name_lexeme (x ∷ name) ∷ tokens rest
from-name x name rest first =
    let X = x ∷ name ++ rest in
    let taken : (lexeme X).taken ≡ suc (length name) = sym (first-length X) ∙ ap (λ l. length l.text) first in
    tokens-cons x (name ++ rest) ∙ ap (λ l. l ∷ tokens (drop (lexeme X).taken X)) first ∙ ap (λ n. name_lexeme (x ∷ name) ∷ tokens (drop n X)) taken
    ∙ ap (λ z. name_lexeme (x ∷ name) ∷ tokens z) (drop-append_seam name rest)

back-stays : (k : ℕ) (u xs : List ℕ) → joined (take k (tokens (u ++ xs))) ≡ u → drop k (tokens (u ++ xs)) ≡ tokens xs
back-stays k u xs h = sym (tokens-after k (u ++ xs)) ∙ ap (λ n. tokens (drop n (u ++ xs))) (ap length h) ∙ ap tokens (drop-append_seam u xs)

pub no-name : (rest : List ℕ) → first_lexeme rest ≡ name_lexeme [] → ⊥
unfolding first_lexeme lexeme begin not_ident
no-name [] h = elim (name_cases (case_of 0 0 0)) [
  | inl n ↦ none-starts (name-starts 0 0 0 n)
  | inr n ↦ let w : true ≡ false = sym (other-case (case_of 0 0 0) [] n) ∙ ap (λ l. not_ident l.kind) h in cc
]
no-name (x ∷ xs) h = let some = some-text x xs in let none : length (first_lexeme (x ∷ xs)).text ≡ 0 = ap (λ l. length l.text) h in absurd (omega (arith, some, none))

pub renamed : RenamingKeepsTokens
unfolding is_ident
renamed k front [] other rest h first is = absurd (no-name rest first)
renamed k front (x ∷ name) [] rest h first is = let w : false ≡ true = is in cc
renamed k front (x ∷ name) (y ∷ other) rest h first is =
    let A = x ∷ name ++ rest in
    let B = y ∷ other ++ rest in
    let e = ends x name rest first in
    let own : is_ident (x ∷ name) ≡ true = ap (λ l. is_ident l.text) (sym first) ∙ ident-is-ident x (name ++ rest) (ap (λ l. l.kind) first) in
    let sx = and_left (is_id_start x) (list_all is_id_continue name) own in
    let sy = and_left (is_id_start y) (list_all is_id_continue other) is in
    let all_x = and_right (is_id_start x) (list_all is_id_continue name) own in
    let all_y = and_right (is_id_start y) (list_all is_id_continue other) is in
    let stays = front-stays k front A B (begins x name rest sx all_x e) (begins y other rest sy all_y e) h in
    let back : drop k (tokens (front ++ A)) ≡ name_lexeme (x ∷ name) ∷ tokens rest = back-stays k front A h ∙ from-name x name rest first in
    let behind : drop (suc k) (tokens (front ++ A)) ≡ tokens rest =
    ap (λ n. drop n (tokens (front ++ A))) (let z : suc k ≡ k + 1 = omega arith in z) ∙ sym (drop-drop 1 k (tokens (front ++ A))) ∙ ap (λ l. drop 1 l) back in
    let there : drop k (tokens (front ++ B)) ≡ name_lexeme (y ∷ other) ∷ tokens rest = back-stays k front B (ap joined stays ∙ h) ∙ from-name y other rest (name-first y other rest sy all_y e) in
    sym (take-append-drop k (tokens (front ++ B))) ∙ ap (λ l. l ++ drop k (tokens (front ++ B))) stays ∙ ap (λ l. take k (tokens (front ++ A)) ++ l) there
    ∙ ap (λ l. take k (tokens (front ++ A)) ++ name_lexeme (y ∷ other) ∷ l) (sym behind)

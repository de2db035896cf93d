-- How calls that read as scans do follow one another.
use Rattle.std.proofs.Common.{◌≡◌, ℕ, suc, zero, ◌+◌, ◌-◌, ◌≤◌, Bool, true, false, List, [], ◌∷◌, length, take, drop, get_or, refl, sym, ◌∙◌, ap, arith, subst, ◌||◌, if◌then◌else◌}
use Rattle.std.proofs.lemmas.List.{drop-drop}
use Rattle.rustc_lexer.specs.Scan.{Scan, give, skip, peek, look, ◌▸◌, spelled, begin, run_len, run, name_len, name}
use Rattle.rustc_lexer.specs.Reads.{Reads}
use Rattle.rustc_lexer.specs.Characters.{is_hex_digit, size}
use Rattle.rustc_lexer.specs.Lexeme.{digits, has_digit, suffix, literal, Case, case_of, lexeme_in, lexeme}
use Rattle.rustc_lexer.specs.declared.literals.Body.{Body}
use Rattle.rustc_lexer.specs.declared.token.TokenKind.{TokenKind}
use Rattle.rustc_lexer.specs.declared.token.TokenKind.TheVariants.{Literal}
use Rattle.rustc_lexer.proofs.Steps.{run-true}
use Rattle.rustc_lexer.proofs.Runs.{run_none}
use Rattle.rustc_lexer.proofs.Sizes.{size-parts, size-drop}

pub reads-give : {A : Type 0} {a b : A} {old : List ℕ} → a ≡ b → Reads (give a) old b old
unfolding give
reads-give e = record { value_is = e; rest_is = refl }

pub reads-look : {A : Type 0} (tells : ℕ → ℕ → A) {old : List ℕ} → Reads (look tells) old (tells (peek 0 old) (peek 1 old)) old
unfolding look
reads-look tells = record { value_is = refl; rest_is = refl }

drop_taken : (n : ℕ) (xs : List ℕ) → drop n xs ≡ drop (length (take n xs)) xs
drop_taken zero xs = refl
drop_taken (suc n) [] = refl
drop_taken (suc n) (x ∷ xs) = drop_taken n xs

pub reads-skip : (n : ℕ) {old new : List ℕ} → new ≡ drop n old → Reads (skip n) old (length (take n old)) new
unfolding skip
reads-skip n {old} {new} e = record { value_is = refl; rest_is = e ∙ drop_taken n old }

pub reads-run : (p : ℕ → Bool) {old new : List ℕ} → new ≡ drop (run_len p old) old → Reads (run p) old (run_len p old) new
unfolding run
reads-run p {old} {new} e = record { value_is = refl; rest_is = e }

pub reads-next : {A B : Type 0} {f : Scan A} (g : A → Scan B) {old mid new : List ℕ} {a : A} {b : B} → Reads f old a mid → Reads (g a) mid b new → Reads (f ▸ g) old b new
unfolding ◌▸◌
reads-next {A} {B} {f} g {old} {mid} {new} {a} {b} p q =
    let m = (f old).taken in
    let there : g a mid ≡ g (f old).value (drop m old) = ap (λ z. g a z) p.rest_is ∙ ap (λ v. g v (drop m old)) (sym p.value_is) in
    let taken : (g a mid).taken ≡ (g (f old).value (drop m old)).taken = ap (λ r. r.taken) there in
    record {
      value_is = ap (λ r. r.value) (sym there) ∙ q.value_is;
      rest_is =
          q.rest_is ∙ ap (λ z. drop (g a mid).taken z) p.rest_is ∙ drop-drop (g a mid).taken m old ∙ ap (λ k. drop (m + k) old) taken;
    }

pub reads-then : {A : Type 0} {b : Bool} {f : Scan A} (g : Scan A) {old new : List ℕ} {a : A} → b ≡ true → Reads f old a new → Reads (if b then f else g) old a new
reads-then {A} {b} {f} g {old} {new} {a} h p = let P : Bool → Type 0 = λ c. Reads (if c then f else g) old a new in subst P (sym h) p

pub reads-else : {A : Type 0} {b : Bool} (f : Scan A) {g : Scan A} {old new : List ℕ} {a : A} → b ≡ false → Reads g old a new → Reads (if b then f else g) old a new
reads-else {A} {b} f {g} {old} {new} {a} h p = let P : Bool → Type 0 = λ c. Reads (if c then f else g) old a new in subst P (sym h) p

pub picks-then : {A : Type 0} (b : Bool) (x y : A) → b ≡ true → (if b then x else y) ≡ x
picks-then b x y h = ap (λ c. if c then x else y) h

pub picks-else : {A : Type 0} (b : Bool) (x y : A) → b ≡ false → (if b then x else y) ≡ y
picks-else b x y h = ap (λ c. if c then x else y) h

-- a run of digits, one character at a time
pub digit_more : (p : ℕ → Bool) (xs : List ℕ) → p 0 ≡ false → p (get_or xs 0 0) ≡ true → has_digit (take (run_len p xs) xs) ≡ (is_hex_digit (get_or xs 0 0) || has_digit (take (run_len p (drop 1 xs)) (drop 1 xs)))
unfolding has_digit
digit_more p [] z h = let w : true ≡ false = sym h ∙ z in cc
digit_more p (x ∷ xs) z h = ap (λ n. has_digit (take n (x ∷ xs))) (run-true p x xs h)

pub digit_none : (p : ℕ → Bool) (xs : List ℕ) → p (get_or xs 0 0) ≡ false → has_digit (take (run_len p xs) xs) ≡ false
unfolding has_digit
digit_none p xs h = ap (λ n. has_digit (take n xs)) (run_none p xs h)

pub or_joins : (a b c : Bool) → ((a || b) || c) ≡ (a || (b || c))
or_joins true b c = refl
or_joins false b c = refl

pub or_none : (a : Bool) → (a || false) ≡ a
or_none true = refl
or_none false = refl

pub reads-digits : (p : ℕ → Bool) {old new : List ℕ} {b : Bool} → new ≡ drop (run_len p old) old → b ≡ has_digit (take (run_len p old) old) → Reads (digits p) old b new
unfolding digits spelled run ◌▸◌ give
reads-digits p {old} {new} {b} e h = record { value_is = sym h; rest_is = e ∙ ap (λ n. drop n old) (let z : run_len p old ≡ run_len p old + 0 = omega arith in z) }

-- one character where a test holds, else none
pub reads-optional : (b : Bool) {old new : List ℕ} → new ≡ (if b then drop 1 old else old) → Reads (if b then skip 1 else give 0) old (if b then length (take 1 old) else 0) new
reads-optional true e = reads-skip 1 e
reads-optional false {old} {new} e = let P : List ℕ → Type 0 = λ z. Reads {A = ℕ} (give 0) old 0 z in subst P (sym e) (reads-give refl)

pub reads-name : {old new : List ℕ} → new ≡ drop (name_len old) old → Reads name old (name_len old) new
unfolding name
reads-name e = record { value_is = refl; rest_is = e }

-- two characters, one by one
pub reads-two : {old mid new : List ℕ} → mid ≡ drop 1 old → new ≡ drop 1 mid → Reads (skip 2) old (length (take 2 old)) new
reads-two {old} {mid} {new} e g = reads-skip 2 (g ∙ ap (λ z. drop 1 z) e ∙ drop-drop 1 1 old)

-- `n` characters, and one more
pub reads-more : (n : ℕ) {old mid new : List ℕ} → mid ≡ drop n old → new ≡ drop 1 mid → Reads (skip (suc n)) old (length (take (suc n) old)) new
reads-more n {old} {mid} {new} e g =
    let more : n + 1 ≡ suc n = omega arith in
    reads-skip (suc n) (g ∙ ap (λ z. drop 1 z) e ∙ drop-drop 1 n old ∙ ap (λ k. drop k old) more)

pub reads-spelled : {A : Type 0} {f : Scan A} {old new : List ℕ} {a : A} → Reads f old a new → Reads (spelled f) old (a, take (f old).taken old) new
unfolding spelled
reads-spelled {A} {f} {old} {new} {a} p =
    let H : A → A × List ℕ = λ v. (v, take (f old).taken old) in
    record { value_is = ap H p.value_is; rest_is = p.rest_is }

pub reads-value : {A : Type 0} {f : Scan A} {old new : List ℕ} {a b : A} → Reads f old a new → a ≡ b → Reads f old b new
reads-value p e = record { value_is = p.value_is ∙ e; rest_is = p.rest_is }

pub reads-begin : {A B : Type 0} (tells : ℕ → ℕ → ℕ → A) (g : A → Scan B) {old new : List ℕ} {k : A} {b : B} → tells (peek 0 old) (peek 1 old) (peek 2 old) ≡ k → Reads (g k) old b new → Reads (begin tells g) old b new
unfolding begin
reads-begin tells g {old} e p =
    let same = ap (λ c. g c old) e in
    record { value_is = ap (λ r. r.value) same ∙ p.value_is; rest_is = p.rest_is ∙ sym (ap (λ r. drop r.taken old) same) }

-- a literal's end: from the bytes that were left at its start and at its end
pub reads-literal : {f : Scan Body} {old mid new : List ℕ} {b : Body} {kind : TokenKind} (start : ℕ) → Reads f old b mid → start ≡ size old → kind ≡ Literal b.kind (start - size mid) → new ≡ drop (suffix b.ends mid).taken mid → Reads (literal f) old kind new
unfolding literal
reads-literal {f} {old} {mid} {new} {b} {kind} start p whole is rest =
    let n = (f old).taken in
    let parts : size (take n old) + size mid ≡ size old = ap (λ z. size (take n old) + size z) p.rest_is ∙ size-parts n old in
    let bytes : size (take n old) ≡ start - size mid = omega arith in
    let K : ℕ → TokenKind = λ m. Literal b.kind m in
    reads-next _ (reads-spelled p) (reads-next _ (record { value_is = refl; rest_is = rest }) (reads-give (ap K bytes ∙ sym is)))

-- what a scan took, in bytes
pub reads-size : {A : Type 0} {f : Scan A} {old new : List ℕ} {a : A} → Reads f old a new → size (take (f old).taken old) ≡ size old - size new
reads-size {A} {f} {old} {new} p =
    let n = (f old).taken in
    let parts : size (take n old) + size new ≡ size old = ap (λ z. size (take n old) + size z) p.rest_is ∙ size-parts n old in
    omega arith

pub reads-shorter : {A : Type 0} {f : Scan A} {old new : List ℕ} {a : A} → Reads f old a new → size new ≤ size old
reads-shorter {A} {f} {old} p = rw p.rest_is (size-drop (f old).taken old)

-- a scan by a value that is known otherwise
pub reads-along : {A B : Type 0} (g : A → Scan B) {x y : A} {old new : List ℕ} {b : B} → x ≡ y → Reads (g y) old b new → Reads (g x) old b new
reads-along {A} {B} g {x} {y} {old} {new} {b} e p = let P : A → Type 0 = λ c. Reads (g c) old b new in subst P (sym e) p

pub more-shorter : (n : ℕ) (xs : List ℕ) {ys : List ℕ} → ys ≡ drop n xs → size ys ≤ size xs
more-shorter n xs e = rw e (size-drop n xs)

pub one-shorter : (xs : List ℕ) {ys : List ℕ} → ys ≡ drop 1 xs → size ys ≤ size xs
one-shorter xs e = rw e (size-drop 1 xs)

-- the lexeme of the case that a text is
pub reads-lexeme : {old new : List ℕ} {k : Case} {v : TokenKind} → case_of (peek 0 old) (peek 1 old) (peek 2 old) ≡ k → Reads (lexeme_in k) old v new → Reads lexeme old v new
unfolding lexeme
reads-lexeme e p = reads-begin case_of lexeme_in e p

-- where the first character is known
pub reads-first : (a : ℕ) {old new : List ℕ} {k : Case} {v : TokenKind} → peek 0 old ≡ a → case_of a (peek 1 old) (peek 2 old) ≡ k → Reads (lexeme_in k) old v new → Reads lexeme old v new
reads-first a {old} first e p = reads-lexeme (ap (λ z. case_of z (peek 1 old) (peek 2 old)) first ∙ e) p

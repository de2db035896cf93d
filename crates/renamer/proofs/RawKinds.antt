-- A kind is of one raw number alone; macro names by the kinds of siblings.
use Rattle.std.proofs.Common.{◌≡◌, ℕ, zero, suc, ◌+◌, List, [], ◌∷◌, ◌++◌, length, map, Bool, true, false, not, ◌&&◌, ◌||◌, nat_eq, if◌then◌else◌, Option, Some, None, slice_get, unwrap_or, refl, ap, sym, ◌∙◌, arith, inl, inr}
use Rattle.std.proofs.lemmas.Bool.{and_parts, eqb-true, eq-eqb, cases_Bool, false≢true}
use Rattle.parser_input.specs.Kind.{is_trivia, raw_of}
use Rattle.parser_input.specs.Kinds as kinds
use Rattle.parser_input.specs.KindTable.{all_kinds}
use Rattle.parser_input.specs.declared.syntax_kind.SyntaxKind.{SyntaxKind}
use Rattle.parser_input.specs.declared.syntax_kind.SyntaxKind.TheVariants.{COLON, COMMENT, DOLLAR, ERROR, IDENT, LIFETIME_IDENT, TOKEN_TREE, WHITESPACE}
use Rattle.syntax_tree.specs.Language.{kind_of_raw, kind_of_raw-raw_of}
use Rattle.token_names.specs.MacroNames.{follows_dollar, follows_variable, is_fragment, is_macro_name}
use Rattle.token_names.specs.Names.{is_lifetime, kind_of_name}
use Rattle.renamer.specs.Taken.{Naming, named_kind}

-- the kinds are those of the raw numbers from one on
abbrev are_from : ℕ → List SyntaxKind → Bool
are_from i [] = true
are_from i (k ∷ ks) = nat_eq (raw_of k) i && are_from (i + 1) ks

all-from : are_from 0 all_kinds ≡ true
unfolding all_kinds
all-from = refl

number-of : (ks : List SyntaxKind) (i n : ℕ) (k : SyntaxKind) → are_from i ks ≡ true → slice_get ks n ≡ Some k → raw_of k ≡ i + n
number-of [] i n k h e = absurd (let z : None ≡ Some k = e in cc)
number-of (x ∷ ks) i zero k h e =
    let same : x ≡ k = cc in
    let parts = and_parts (nat_eq (raw_of x) i) (are_from (i + 1) ks) h in
    let own : raw_of x ≡ i = eqb-true (raw_of x) i parts.0 in
    ap raw_of (sym same) ∙ own ∙ (let z : i ≡ i + 0 = omega arith in z)
number-of (x ∷ ks) i (suc n) k h e =
    let parts = and_parts (nat_eq (raw_of x) i) (are_from (i + 1) ks) h in
    number-of ks (i + 1) n k parts.1 e ∙ (let z : i + 1 + n ≡ i + suc n = omega arith in z)

-- the kind that a raw number is read as, by its raw number
abbrev pub read : ℕ → ℕ
read n = raw_of (kind_of_raw n)

module _ (k : SyntaxKind) (other : nat_eq (raw_of ERROR) (raw_of k) ≡ false) where
  by-found : (n : ℕ) (o : Option SyntaxKind) → slice_get all_kinds n ≡ o → nat_eq (read n) (raw_of k) ≡ nat_eq n (raw_of k)
  by-found n (Some x) e =
      let own : raw_of x ≡ n = number-of all_kinds 0 n x all-from e ∙ (let z : 0 + n ≡ n = omega arith in z) in
      ap (λ (p : Option SyntaxKind). nat_eq (raw_of (unwrap_or p ERROR)) (raw_of k)) e ∙ ap (λ (m : ℕ). nat_eq m (raw_of k)) own
  by-found n None e =
      let is : kind_of_raw n ≡ ERROR = ap (λ (p : Option SyntaxKind). unwrap_or p ERROR) e in
      let error : nat_eq (read n) (raw_of k) ≡ false = ap (λ (x : SyntaxKind). nat_eq (raw_of x) (raw_of k)) is ∙ other in
      elim (cases_Bool (nat_eq n (raw_of k))) [
        | inl y ↦
            let same : read n ≡ raw_of k = ap (λ (m : ℕ). raw_of (kind_of_raw m)) (eqb-true n (raw_of k) y) ∙ ap raw_of (kind_of_raw-raw_of k) in
            absurd (false≢true (sym error ∙ eq-eqb (read n) (raw_of k) same))
        | inr off ↦ error ∙ sym off
      ]

  -- a raw number is read as a kind only if it is that of the kind
  pub read-as : (n : ℕ) → nat_eq (read n) (raw_of k) ≡ nat_eq n (raw_of k)
  read-as n = by-found n (slice_get all_kinds n) refl

-- tokens that may have a name
name-kind : (name : List ℕ) (n : ℕ) → nat_eq (read n) (kind_of_name name) ≡ nat_eq n (kind_of_name name)
name-kind name n = by_test (is_lifetime name)
  where
    by_test : (b : Bool) → nat_eq (read n) (if b then kinds.LIFETIME_IDENT else kinds.IDENT) ≡ nat_eq n (if b then kinds.LIFETIME_IDENT else kinds.IDENT)
    by_test true = read-as LIFETIME_IDENT refl n
    by_test false = read-as IDENT refl n

pub named-kind : (by : Naming) (n : ℕ) → nat_eq (read n) (named_kind by) ≡ nat_eq n (named_kind by)
named-kind by n = by_test by.leaves_macro_names
  where
    by_test : (b : Bool) → nat_eq (read n) (if b then kind_of_name by.old else kinds.IDENT) ≡ nat_eq n (if b then kind_of_name by.old else kinds.IDENT)
    by_test true = name-kind by.old n
    by_test false = read-as IDENT refl n

pub read-trivia : (n : ℕ) → is_trivia (read n) ≡ is_trivia n
read-trivia n =
    let white = read-as WHITESPACE refl n in
    let comment = read-as COMMENT refl n in
    λ i. white i || comment i

-- ---- macro names by kinds that are read

read-dollar : (ks : List ℕ) → follows_dollar (map read ks) ≡ follows_dollar ks
read-dollar [] = refl
read-dollar (k ∷ ks) = read-as DOLLAR refl k

read-variable : (ks : List ℕ) → follows_variable (map read ks) ≡ follows_variable ks
read-variable [] = refl
read-variable (c ∷ []) = refl
read-variable (c ∷ v ∷ []) = refl
read-variable (c ∷ v ∷ d ∷ ks) =
    let colon = read-as COLON refl c in
    let dollar = read-as DOLLAR refl d in
    let tree = read-as TOKEN_TREE refl v in
    λ i. colon i && (dollar i && not (tree i))

pub read-macro : (text ks : List ℕ) → is_macro_name text (map read ks) ≡ is_macro_name text ks
read-macro text ks =
    let dollar = read-dollar ks in
    let variable = read-variable ks in
    λ i. dollar i || (is_fragment text && variable i)

-- three kinds tell
pub first-three : (text xs rest : List ℕ) → length xs ≡ 3 → is_macro_name text xs ≡ is_macro_name text (xs ++ rest)
first-three text [] rest h = absurd (let z : 0 ≡ 3 = h in omega (arith, z))
first-three text (a ∷ []) rest h = absurd (let z : 1 ≡ 3 = h in omega (arith, z))
first-three text (a ∷ b ∷ []) rest h = absurd (let z : 2 ≡ 3 = h in omega (arith, z))
first-three text (a ∷ b ∷ c ∷ xs) rest h = refl

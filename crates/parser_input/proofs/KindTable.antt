-- The tables of all kinds and their names: each kind stands at its raw number, and its name beside it.
use Rattle.std.proofs.Common.{◌≡◌, ℕ, ◌+◌, ◌*◌, ◌<◌, List, [], ◌∷◌, refl, Some, None, Option, slice_get, Bool, true, false, not, cond, nat_eq, map, lit<, sym, ◌∙◌, ap, IfSome, arith, Bor, ◌&&◌, suc, zero, add-zero}
use Rattle.std.proofs.lemmas.Bool.{eq-eqb, eqb-true}
use Rattle.std.proofs.lemmas.Option.{get_or_from_slice_get, slice_get-get_or, slice_get-map, slice_get_past}
use Rattle.std.proofs.lemmas.Slice.Eq.{bytes_eq-Decides}
use Rattle.std.proofs.Math.ListN.{get_or}
use Rattle.std.specs.List.{find, list_all}
use Rattle.std.specs.Option.{option_copied, option_map}
use Rattle.std.specs.Slice.{IsItemAt}
use Rattle.std.specs.Str.{bytes_eq}
use denote.Enum.Declared.{tag_of}
use Rattle.parser_input.specs.contracts.syntax_kind.SyntaxKind.{the_type}
use Rattle.parser_input.specs.declared.syntax_kind.SyntaxKind.{SyntaxKind}
use Rattle.parser_input.specs.declared.syntax_kind.SyntaxKind.TheVariants.{TOMBSTONE}
use Rattle.parser_input.specs.KindTable.{all_kinds}
use Rattle.parser_input.specs.Kind.{raw_of, name_of, kind_count}

-- each kind stands at its raw number
pub slice_get-kinds : (kind : SyntaxKind) → slice_get all_kinds (raw_of kind) ≡ Some kind
unfolding all_kinds
slice_get-kinds TOMBSTONE = refl
slice_get-kinds _ = refl

-- a cast gives a number of the table
pub tag_of-below : (kind : SyntaxKind) → tag_of the_type kind < kind_count
tag_of-below TOMBSTONE = lit< tt
tag_of-below _ = lit< tt

-- and a cast is the raw number
pub tag_of-raw : (kind : SyntaxKind) → tag_of the_type kind ≡ raw_of kind
tag_of-raw TOMBSTONE = refl
tag_of-raw _ = refl

-- the names of all kinds in a row have each kind's name at its raw number
get_or-names : (kind : SyntaxKind) (d : List ℕ) → get_or (map name_of all_kinds) (raw_of kind) d ≡ name_of kind
get_or-names kind d =
    let at : slice_get (map name_of all_kinds) (raw_of kind) ≡ Some (name_of kind) = slice_get-map name_of all_kinds (raw_of kind) ∙ ap (option_map name_of) (slice_get-kinds kind) in
    get_or_from_slice_get (map name_of all_kinds) (raw_of kind) (name_of kind) d at

pub name-at : (kind : SyntaxKind) (n : ℕ) → n ≡ raw_of kind → get_or (map name_of all_kinds) n [] ≡ name_of kind
name-at kind n is = rw is (get_or-names kind [])

-- the item that a lookup by index returns a reference to, copied
pub copied_item : {X : Type 0} (xs : List X) (i : ℕ) (r : Option (Bor X)) → IsItemAt xs i r → option_copied r ≡ slice_get xs i
copied_item xs i None h = sym (slice_get_past xs i h.3)
copied_item xs i (Some x) h = ap Some h.1 ∙ sym (slice_get-get_or xs i x.now h.3.0)

both : (a b : Bool) → a && b ≡ true → (a ≡ true) × (b ≡ true)
both true true e = (refl, refl)
both true false e = (refl, e)
both false b e = absurd (cc)

-- whether the kinds of a list have the numbers from n on
are_numbered : ℕ → List SyntaxKind → Bool
are_numbered n [] = true
are_numbered n (kind ∷ kinds) = nat_eq (raw_of kind) n && are_numbered (n + 1) kinds

are_numbered-get : (n : ℕ) (kinds : List SyntaxKind) (i j : ℕ) → j ≡ n + i → are_numbered n kinds ≡ true → IfSome (slice_get kinds i) (λ kind. raw_of kind ≡ j)
unfolding are_numbered
are_numbered-get n [] i j at e = tt
are_numbered-get n (kind ∷ kinds) zero j at e = eqb-true (raw_of kind) n (both _ _ e).0 ∙ sym (at ∙ add-zero n)
are_numbered-get n (kind ∷ kinds) (suc i) j at e = are_numbered-get (n + 1) kinds i j (omega arith) (both _ _ e).1

are_numbered-kinds : are_numbered 0 all_kinds ≡ true
unfolding are_numbered all_kinds
are_numbered-kinds = refl

-- the kind at a place has that raw number
pub raw_of-get : (i : ℕ) → IfSome (slice_get all_kinds i) (λ kind. raw_of kind ≡ i)
raw_of-get i = are_numbered-get 0 all_kinds i i (omega arith) are_numbered-kinds

list_all-get : (p : ℕ → Bool) (xs : List ℕ) (i v : ℕ) → list_all p xs ≡ true → slice_get xs i ≡ Some v → p v ≡ true
list_all-get p [] i v e at = absurd (cc)
list_all-get p (x ∷ xs) zero v e at = let same : x ≡ v = cc in rw (← same) (both _ _ e).0
list_all-get p (x ∷ xs) (suc i) v e at = list_all-get p xs i v (both _ _ e).1 at

-- whether no two numbers of a list are equal
are_unlike : List ℕ → Bool
are_unlike [] = true
are_unlike (x ∷ xs) = list_all (λ y. not (nat_eq x y)) xs && are_unlike xs

unlike-self : (x y : ℕ) → x ≡ y → not (nat_eq x y) ≡ true → ⊥
unlike-self x y same e = let yes = eq-eqb x y same in absurd (unlike-true (nat_eq x y) yes e)
  where
    unlike-true : (b : Bool) → b ≡ true → not b ≡ true → ⊥
    unlike-true true h e = absurd (cc)
    unlike-true false h e = absurd (cc)

-- so a number stands at one place
are_unlike-place : (xs : List ℕ) (i j v : ℕ) → are_unlike xs ≡ true → slice_get xs i ≡ Some v → slice_get xs j ≡ Some v → i ≡ j
unfolding are_unlike
are_unlike-place [] i j v e at_i at_j = absurd (cc)
are_unlike-place (x ∷ xs) zero zero v e at_i at_j = refl
are_unlike-place (x ∷ xs) zero (suc j) v e at_i at_j =
    let same : x ≡ v = cc in absurd (unlike-self x v same (list_all-get (λ y. not (nat_eq x y)) xs j v (both _ _ e).0 at_j))
are_unlike-place (x ∷ xs) (suc i) zero v e at_i at_j =
    let same : x ≡ v = cc in absurd (unlike-self x v same (list_all-get (λ y. not (nat_eq x y)) xs i v (both _ _ e).0 at_i))
are_unlike-place (x ∷ xs) (suc i) (suc j) v e at_i at_j = ap suc (are_unlike-place xs i j v (both _ _ e).1 at_i at_j)

-- a text as one number, by which two names are compared at one stroke
value_of : List ℕ → ℕ
value_of [] = 0
value_of (c ∷ cs) = c + 256 * value_of cs

name_value : SyntaxKind → ℕ
name_value kind = value_of (name_of kind)

are_unlike-names : are_unlike (map name_value all_kinds) ≡ true
unfolding are_unlike all_kinds name_value value_of
are_unlike-names = refl

get-value : (kind : SyntaxKind) → slice_get (map name_value all_kinds) (raw_of kind) ≡ Some (name_value kind)
get-value kind = slice_get-map name_value all_kinds (raw_of kind) ∙ ap (option_map name_value) (slice_get-kinds kind)

-- no two kinds have one name
name_of-one : (a b : SyntaxKind) → name_of a ≡ name_of b → a ≡ b
unfolding name_value
name_of-one a b same =
    let values : name_value b ≡ name_value a = ap value_of (sym same) in
    let numbers : raw_of a ≡ raw_of b = are_unlike-place (map name_value all_kinds) (raw_of a) (raw_of b) (name_value a) are_unlike-names (get-value a) (get-value b ∙ ap Some values) in
    let kinds : Some a ≡ Some b = sym (slice_get-kinds a) ∙ ap (slice_get all_kinds) numbers ∙ slice_get-kinds b in
    cc

find-cons : (p : SyntaxKind → Bool) (y : SyntaxKind) (ys : List SyntaxKind) (x : SyntaxKind) (b : Bool) → p y ≡ b → (b ≡ true → y ≡ x) → (b ≡ false → find p ys ≡ Some x) → cond b (Some y) (find p ys) ≡ Some x
find-cons p y ys x true is here rest = ap Some (here refl)
find-cons p y ys x false is here rest = rest refl

-- the one element that passes is found
find-one : (p : SyntaxKind → Bool) (ys : List SyntaxKind) (i : ℕ) (x : SyntaxKind) → slice_get ys i ≡ Some x → p x ≡ true → ((y : SyntaxKind) → p y ≡ true → y ≡ x) → find p ys ≡ Some x
find-one p [] i x at pass one = absurd (cc)
find-one p (y ∷ ys) zero x at pass one =
    let same : y ≡ x = cc in
    find-cons p y ys x (p y) refl (one y) (λ no. absurd (let yes : p y ≡ true = rw same pass in cc))
find-one p (y ∷ ys) (suc i) x at pass one = find-cons p y ys x (p y) refl (one y) (λ no. find-one p ys i x at pass one)

-- each kind is the one of its name
pub find-kinds : (kind : SyntaxKind) → find (λ other. bytes_eq (name_of other) (name_of kind)) all_kinds ≡ Some kind
find-kinds kind =
    find-one (λ other. bytes_eq (name_of other) (name_of kind)) all_kinds (raw_of kind) kind (slice_get-kinds kind)
    ((bytes_eq-Decides (name_of kind) (name_of kind)).1 refl)
    (λ other e. name_of-one other kind ((bytes_eq-Decides (name_of other) (name_of kind)).0 e))

-- what is looked for by name in all kinds is found
pub found-kind : (kind : SyntaxKind) (name : List ℕ) (found : Option SyntaxKind) (kinds : List SyntaxKind) → found ≡ find (λ other. bytes_eq (name_of other) name) kinds → kinds ≡ all_kinds → name_of kind ≡ name → found ≡ Some kind
found-kind kind name found kinds is whole named = is ∙ rw (whole, ← named) (find-kinds kind)

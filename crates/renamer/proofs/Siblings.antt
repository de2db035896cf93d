-- The kinds of the siblings before an element, by a walk from the nearest one.
use Rattle.std.proofs.Common.{◌≡◌, ℕ, ◌<◌, List, [], ◌∷◌, ◌++◌, length, map, Option, Some, None, Result, Ok, true, false, Bool, refl, ap, sym, subst, ◌∙◌, append_assoc, append-nil, arith, if◌then◌else◌}
use Rattle.std.specs.Prelude.{option_map}
use Rattle.std.proofs.lemmas.List.{length-map, map-append}
use Rattle.parser_input.specs.Kind.{is_trivia, raw_of}
use Rattle.parser_input.specs.declared.syntax_kind.SyntaxKind.{SyntaxKind}
use Rattle.rowan.specs.Around.{Cursor, first, place_in, siblings, siblings_before}
use Rattle.rowan.specs.Left.{siblings_left}
use Rattle.rowan.specs.Place.{Place, kind_at}
use Rattle.rowan.specs.declared.utility_types.Direction.TheVariants.{Prev}
use Rattle.rowan_green.specs.declared.utility_types.NodeOrToken.TheVariants as cursors
use Rattle.rowan.proofs.Lefts.{prev_siblings}
use Rattle.syntax_tree.specs.Handle.{element_of, with_cursor}
use Rattle.syntax_tree.specs.Language.{kind_of_raw, kind_of_raw-raw_of}
use Rattle.syntax_tree.specs.declared.element.SyntaxElement.{SyntaxElement}
use Rattle.token_names.specs.MacroNames.{is_macro_name}
use Rattle.renamer.specs.Taken.{behind, kinds_before, kinds_of}
use Rattle.renamer.proofs.RawKinds.{first-three, read, read-macro, read-trivia}

-- the siblings from one on, and their kinds
abbrev pub from_sibling : Option SyntaxElement → List Cursor
from_sibling None = []
from_sibling (Some e) = cursors.Node (element_of e).place ∷ siblings_before (element_of e).place

-- the kinds of these; only places count
abbrev pub kinds_from : Option SyntaxElement → List ℕ
kinds_from o = kinds_of (from_sibling o)

same-kinds : (n : ℕ) (o : Option Cursor) → kinds_of (siblings_left Prev o) ≡ kinds_from (option_map (with_cursor n) o)
same-kinds n None = refl
same-kinds n (Some (cursors.Node p)) = refl
same-kinds n (Some (cursors.Token p)) = refl

same-count : (n : ℕ) (o : Option Cursor) → length (siblings_left Prev o) ≡ length (from_sibling (option_map (with_cursor n) o))
same-count n None = refl
same-count n (Some (cursors.Node p)) = refl
same-count n (Some (cursors.Token p)) = refl

left-is : (p : Place) → siblings_before p ≡ siblings_left Prev (first (siblings_before p))
left-is p =
    let all : cursors.Node p ∷ siblings_before p ≡ cursors.Node p ∷ siblings_left Prev (first (siblings_before p)) = prev_siblings Prev (cursors.Node p) (Ok (first (siblings_before p))) refl refl in
    let rest : siblings_before p ≡ siblings_left Prev (first (siblings_before p)) = cc in
    rest

-- the kinds before a place are those from its nearest sibling on
pub kinds-next : (n : ℕ) (p : Place) (o : Option SyntaxElement) → o ≡ option_map (with_cursor n) (first (siblings_before p)) → kinds_before p ≡ kinds_from o
kinds-next n p o h = ap kinds_of (left-is p) ∙ same-kinds n (first (siblings_before p)) ∙ ap kinds_from (sym h)

pub count-next : (n : ℕ) (p : Place) (o : Option SyntaxElement) → o ≡ option_map (with_cursor n) (first (siblings_before p)) → length (siblings_before p) ≡ length (from_sibling o)
count-next n p o h = ap (λ (cs : List Cursor). length cs) (left-is p) ∙ same-count n (first (siblings_before p)) ∙ ap (λ (x : Option SyntaxElement). length (from_sibling x)) (sym h)

-- the siblings from the next one on are fewer
pub fewer : (n : ℕ) (e : SyntaxElement) (before o : Option SyntaxElement) → before ≡ Some e → o ≡ option_map (with_cursor n) (first (siblings_before (element_of e).place))
    → length (from_sibling o) < length (from_sibling before)
fewer n e before o is next =
    let count = count-next n (element_of e).place o next in
    let less : length (from_sibling o) < length (from_sibling (Some e)) = omega (arith, count) in
    subst (λ (s : Option SyntaxElement). length (from_sibling o) < length (from_sibling s)) (sym is) less

-- kinds that were seen, with those that are left
abbrev pub AreSeen : List SyntaxKind → Option SyntaxElement → Place → Type 0
AreSeen ks o p = map raw_of ks ++ map read (kinds_from o) ≡ map read (kinds_before p)

pub seen-first : (n : ℕ) (p : Place) (o : Option SyntaxElement) → o ≡ option_map (with_cursor n) (first (siblings_before p)) → AreSeen [] o p
seen-first n p o h = ap (λ (ks : List ℕ). map read ks) (sym (kinds-next n p o h))

-- trivia is passed
pub seen-trivia : (n : ℕ) (p : Place) (e : SyntaxElement) (o : Option SyntaxElement) (ks : List SyntaxKind) → AreSeen ks (Some e) p
    → is_trivia (read (kind_at (element_of e).place)) ≡ true → o ≡ option_map (with_cursor n) (first (siblings_before (element_of e).place)) → AreSeen ks o p
seen-trivia n p e o ks h is next =
    let k = kind_at (element_of e).place in
    let rest = kinds_before (element_of e).place in
    let same : kinds_from (Some e) ≡ kinds_from o = ap (λ (b : Bool). if b then rest else k ∷ rest) (sym (read-trivia k) ∙ is) ∙ kinds-next n (element_of e).place o next in
    ap (λ (xs : List ℕ). map raw_of ks ++ map read xs) (sym same) ∙ h

-- another kind is seen
pub seen-more : (n : ℕ) (p : Place) (e : SyntaxElement) (o : Option SyntaxElement) (ks now : List SyntaxKind) → AreSeen ks (Some e) p
    → is_trivia (read (kind_at (element_of e).place)) ≡ false → now ≡ ks ++ kind_of_raw (kind_at (element_of e).place) ∷ []
    → o ≡ option_map (with_cursor n) (first (siblings_before (element_of e).place)) → AreSeen now o p
seen-more n p e o ks now h is grown next =
    let k = kind_at (element_of e).place in
    let rest = kinds_before (element_of e).place in
    let same : kinds_from (Some e) ≡ k ∷ kinds_from o =
    ap (λ (b : Bool). if b then rest else k ∷ rest) (sym (read-trivia k) ∙ is) ∙ ap (λ (xs : List ℕ). k ∷ xs) (kinds-next n (element_of e).place o next) in
    ap (λ (xs : List SyntaxKind). map raw_of xs ++ map read (kinds_from o)) grown
    ∙ ap (λ (xs : List ℕ). xs ++ map read (kinds_from o)) (map-append raw_of ks (kind_of_raw k ∷ []))
    ∙ append_assoc (map raw_of ks) (read k ∷ []) (map read (kinds_from o))
    ∙ ap (λ (xs : List ℕ). map raw_of ks ++ map read xs) (sym same)
    ∙ h

-- none is left
pub seen-all : (p : Place) (o : Option SyntaxElement) (ks : List SyntaxKind) → AreSeen ks o p → o ≡ None → (text : List ℕ) → is_macro_name text (map raw_of ks) ≡ is_macro_name text (kinds_before p)
seen-all p o ks h none text =
    let all : map raw_of ks ≡ map read (kinds_before p) =
    sym (append-nil (map raw_of ks)) ∙ ap (λ (x : Option SyntaxElement). map raw_of ks ++ map read (kinds_from x)) (sym none) ∙ h in
    ap (is_macro_name text) all ∙ read-macro text (kinds_before p)

-- three are seen
pub seen-three : (p : Place) (o : Option SyntaxElement) (ks : List SyntaxKind) → AreSeen ks o p → length ks ≡ 3 → (text : List ℕ) → is_macro_name text (map raw_of ks) ≡ is_macro_name text (kinds_before p)
seen-three p o ks h three text =
    first-three text (map raw_of ks) (map read (kinds_from o)) (length-map ks raw_of ∙ three)
    ∙ ap (is_macro_name text) h
    ∙ read-macro text (kinds_before p)

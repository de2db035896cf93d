-- The elements that the first places of names stand for, place by place.
use Rattle.std.proofs.Common.{◌≡◌, ℕ, ◌+◌, ◌<◌, ◌≤◌, ◌||◌, Bool, true, false, List, [], ◌∷◌, ◌++◌, length, get_or, take, drop, map, refl, ap, sym, ◌∙◌, arith, append_assoc, append-nil, length-drop, if◌then◌else◌}
use Rattle.std.specs.List.{list_any}
use Rattle.std.specs.Str.{bytes_eq}
use Rattle.std.proofs.lemmas.List.{drop_more, take_more}
use Rattle.rowan_green.specs.Leaf.{Leaf}
use Rattle.syntax_tree.specs.declared.element.SyntaxElement.{SyntaxElement}
use Rattle.tree_search.specs.Fit.{Bound}
use Rattle.tree_search.specs.Matching.{Names}
use Rattle.tree_search.specs.Search.{bound_elements, is_first}
use Rattle.tree_search.proofs.Heads.{names_of}

-- those of the places from a number on
abbrev pub bound_from : ℕ → List Leaf → Bound → List SyntaxElement
bound_from at ls vs = bound_elements (map (λ x. x.text) (take at ls)) (map (λ x. x.text) (drop at ls)) (drop at vs)

map-last : (xs : List Leaf) (x : Leaf) → names_of (xs ++ x ∷ []) ≡ names_of xs ++ x.text ∷ []
map-last [] x = refl
map-last (y ∷ ys) x = ap (λ ns. y.text ∷ ns) (map-last ys x)

own : (l : Leaf) (m : Leaf) → l ≡ m → names_of (m ∷ []) ≡ l.text ∷ []
own l m is = ap (λ x. names_of (x ∷ [])) (sym is)

step : (at : ℕ) (ls : List Leaf) (vs : Bound) (l : Leaf) (w : List SyntaxElement)
    → at < length ls → at < length vs → l ≡ get_or ls at l → w ≡ get_or vs at w
    → bound_from at ls vs ≡ (if is_first (names_of (take at ls)) l.text then w else []) ++ bound_from (at + 1) ls vs
step at ls vs l w some more here there =
    let later : drop at ls ≡ l ∷ drop (at + 1) ls = drop_more ls at l some ∙ ap (λ x. x ∷ drop (at + 1) ls) (sym here) in
    let runs : drop at vs ≡ w ∷ drop (at + 1) vs = drop_more vs at w more ∙ ap (λ x. x ∷ drop (at + 1) vs) (sym there) in
    let seen : names_of (take at ls) ++ l.text ∷ [] ≡ names_of (take (at + 1) ls) =
    sym (map-last (take at ls) l) ∙ ap (λ x. names_of (take at ls ++ x ∷ [])) here ∙ ap names_of (sym (take_more ls at l some)) in
    (λ i. bound_elements (names_of (take at ls)) (names_of (later i)) (runs i))
    ∙ ap (λ s. (if is_first (names_of (take at ls)) l.text then w else []) ++ bound_elements s (names_of (drop (at + 1) ls)) (drop (at + 1) vs)) seen

-- a place adds its elements, if it is the first of its name
pub place_adds : (all old new : List SyntaxElement) (at : ℕ) (ls : List Leaf) (vs : Bound) (seen : List Leaf) (l : Leaf) (w : List SyntaxElement)
    → at < length ls → at < length vs → seen ≡ take at ls → l ≡ get_or ls at l → w ≡ get_or vs at w
    → new ≡ old ++ (if is_first (map (λ x. x.text) seen) l.text then w else [])
    → all ≡ old ++ bound_from at ls vs → all ≡ new ++ bound_from (at + 1) ls vs
place_adds all old new at ls vs seen l w some more front here there is sum =
    sum ∙ ap (λ es. old ++ es) (step at ls vs l w some more here there)
    ∙ ap (λ s. old ++ ((if is_first (names_of s) l.text then w else []) ++ bound_from (at + 1) ls vs)) (sym front)
    ∙ sym (append_assoc old (if is_first (names_of seen) l.text then w else []) (bound_from (at + 1) ls vs))
    ∙ ap (λ es. es ++ bound_from (at + 1) ls vs) (sym is)

no_place : (s : Names) (ls : List Leaf) (vs : Bound) → length ls ≡ 0 → bound_elements s (names_of ls) vs ≡ []
no_place s [] vs none = refl
no_place s (l ∷ ls) vs none = absurd (omega arith)

no_run : (s ns : Names) (vs : Bound) → length vs ≡ 0 → bound_elements s ns vs ≡ []
no_run s [] vs none = refl
no_run s (n ∷ ns) [] none = refl
no_run s (n ∷ ns) (v ∷ vs) none = absurd (omega arith)

-- no place is left
pub places_end : (all old : List SyntaxElement) (at : ℕ) (ls : List Leaf) (vs : Bound) → length ls ≤ at → all ≡ old ++ bound_from at ls vs → old ≡ all
places_end all old at ls vs none sum =
    let e : length (drop at ls) ≡ 0 = omega (arith, length-drop at ls) in
    sym (sum ∙ ap (λ es. old ++ es) (no_place (names_of (take at ls)) (drop at ls) (drop at vs) e) ∙ append-nil old)

pub runs_end : (all old : List SyntaxElement) (at : ℕ) (ls : List Leaf) (vs : Bound) → length vs ≤ at → all ≡ old ++ bound_from at ls vs → old ≡ all
runs_end all old at ls vs none sum =
    let e : length (drop at vs) ≡ 0 = omega (arith, length-drop at vs) in
    sym (sum ∙ ap (λ es. old ++ es) (no_run (names_of (take at ls)) (names_of (drop at ls)) (drop at vs) e) ∙ append-nil old)

pub bound_begins : (ls : List Leaf) (vs : Bound) → bound_elements [] (map (λ x. x.text) ls) vs ≡ [] ++ bound_from 0 ls vs
bound_begins ls vs = refl

-- the names of places
pub seen_names : (ls : List Leaf) (n : List ℕ) → list_any (λ m. bytes_eq m n) (map (λ x. x.text) ls) ≡ list_any (λ l. bytes_eq l.text n) ls
seen_names [] n = refl
seen_names (l ∷ ls) n = ap (λ b. bytes_eq l.text n || b) (seen_names ls n)

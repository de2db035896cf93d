-- The members of places, place by place.
use Rattle.std.proofs.Common.{◌≡◌, ℕ, ◌+◌, ◌<◌, ◌≤◌, List, [], ◌∷◌, ◌++◌, length, get_or, take, drop, map, refl, ap, sym, ◌∙◌, arith, append_assoc, append-nil, length-drop, if◌then◌else◌}
use Rattle.std.proofs.lemmas.List.{drop_more, take_more}
use Rattle.rowan_green.specs.Leaf.{Leaf}
use Rattle.syntax_tree.specs.declared.element.SyntaxElement.{SyntaxElement}
use Rattle.tree_search.specs.Fit.{Bound}
use Rattle.tree_search.specs.Matching.{Names}
use Rattle.match_rows.specs.Objects.{is_shown, member_item, members}

abbrev pub names_of : List Leaf → Names
names_of ls = map (λ x. x.text) ls

-- those of the places from a number on
abbrev pub members_from : ℕ → List Leaf → Bound → List ℕ
members_from at ls vs = members (names_of (take at ls)) (drop at ls) (drop at vs)

-- the member of a place behind others
abbrev pub shown : List Leaf → Leaf → List SyntaxElement → List ℕ
shown seen l w = if is_shown (names_of seen) l.text then member_item l w else []

map-last : (xs : List Leaf) (x : Leaf) → names_of (xs ++ x ∷ []) ≡ names_of xs ++ x.text ∷ []
map-last [] x = refl
map-last (y ∷ ys) x = ap (λ ns. y.text ∷ ns) (map-last ys x)

step : (at : ℕ) (ls : List Leaf) (vs : Bound) (l : Leaf) (w : List SyntaxElement)
    → at < length ls → at < length vs → l ≡ get_or ls at l → w ≡ get_or vs at w
    → members_from at ls vs ≡ shown (take at ls) l w ++ members_from (at + 1) ls vs
step at ls vs l w some more here there =
    let later : drop at ls ≡ l ∷ drop (at + 1) ls = drop_more ls at l some ∙ ap (λ x. x ∷ drop (at + 1) ls) (sym here) in
    let runs : drop at vs ≡ w ∷ drop (at + 1) vs = drop_more vs at w more ∙ ap (λ x. x ∷ drop (at + 1) vs) (sym there) in
    let seen : names_of (take at ls) ++ l.text ∷ [] ≡ names_of (take (at + 1) ls) =
    sym (map-last (take at ls) l) ∙ ap (λ x. names_of (take at ls ++ x ∷ [])) here ∙ ap names_of (sym (take_more ls at l some)) in
    (λ i. members (names_of (take at ls)) (later i) (runs i))
    ∙ ap (λ s. shown (take at ls) l w ++ members s (drop (at + 1) ls) (drop (at + 1) vs)) seen

-- a place adds its member, if it is shown
pub place_adds : (all old new : List ℕ) (at : ℕ) (ls : List Leaf) (vs : Bound) (seen : List Leaf) (l : Leaf) (w : List SyntaxElement)
    → at < length ls → at < length vs → seen ≡ take at ls → l ≡ get_or ls at l → w ≡ get_or vs at w
    → new ≡ old ++ shown seen l w
    → all ≡ old ++ members_from at ls vs → all ≡ new ++ members_from (at + 1) ls vs
place_adds all old new at ls vs seen l w some more front here there is sum =
    sum ∙ ap (λ es. old ++ es) (step at ls vs l w some more here there)
    ∙ ap (λ s. old ++ (shown s l w ++ members_from (at + 1) ls vs)) (sym front)
    ∙ sym (append_assoc old (shown seen l w) (members_from (at + 1) ls vs))
    ∙ ap (λ es. es ++ members_from (at + 1) ls vs) (sym is)

no_place : (s : Names) (ls : List Leaf) (vs : Bound) → length ls ≡ 0 → members s ls vs ≡ []
no_place s [] vs none = refl
no_place s (l ∷ ls) vs none = absurd (omega arith)

no_run : (s : Names) (ls : List Leaf) (vs : Bound) → length vs ≡ 0 → members s ls vs ≡ []
no_run s [] vs none = refl
no_run s (l ∷ ls) [] none = refl
no_run s (l ∷ ls) (v ∷ vs) none = absurd (omega arith)

-- no place is left
pub places_end : (all old : List ℕ) (at : ℕ) (ls : List Leaf) (vs : Bound) → length ls ≤ at → all ≡ old ++ members_from at ls vs → old ≡ all
places_end all old at ls vs none sum =
    let e : length (drop at ls) ≡ 0 = omega (arith, length-drop at ls) in
    sym (sum ∙ ap (λ es. old ++ es) (no_place (names_of (take at ls)) (drop at ls) (drop at vs) e) ∙ append-nil old)

-- nothing is bound behind
pub runs_end : (all old : List ℕ) (at : ℕ) (ls : List Leaf) (vs : Bound) → length vs ≤ at → all ≡ old ++ members_from at ls vs → old ≡ all
runs_end all old at ls vs none sum =
    let e : length (drop at vs) ≡ 0 = omega (arith, length-drop at vs) in
    sym (sum ∙ ap (λ es. old ++ es) (no_run (names_of (take at ls)) (drop at ls) (drop at vs) e) ∙ append-nil old)

-- What a rewrite leaves alone, and what its parts join to.
use Rattle.std.proofs.Common.{◌≡◌, ℕ, ◌+◌, List, [], ◌∷◌, ◌++◌, Option, Some, Bool, true, false, refl, ap, sym, ◌∙◌, append_assoc}
use Rattle.std.proofs.lemmas.Bool.{or_right}
use Rattle.rowan_green.specs.Forest.{Forest, empty, node, leaf}
use Rattle.syntax_tree.specs.Element.{Way, Element}
use Rattle.std.proofs.Common.{cond}
use Rattle.std.specs.List.{filter}
use Rattle.std.proofs.lemmas.Bool.{false≢true, and_parts}
use Rattle.tree_rewrite.specs.Change.{Change, insert, replace, is_within, covers}
use Rattle.tree_rewrite.specs.Rewrite.{Job, same_sheet, sets, set_by, written}
use Rattle.tree_rewrite.specs.Plan.{sets_on}
use Rattle.tree_rewrite.specs.Below.{AgreeBelow}
use Rattle.tree_rewrite.specs.Marked.{Marked, nothing, inner, token, join, forest_in, origins, origin_at, gap, slot, Sheet, blank, or_own, filled}

abbrev pub forest_join : Forest → Forest → Forest
forest_join empty g = g
forest_join (node k f r) g = node k f (forest_join r g)
forest_join (leaf l r) g = leaf l (forest_join r g)

pub forest_in-join : (m n : Marked) → forest_in (join m n) ≡ forest_join (forest_in m) (forest_in n)
forest_in-join nothing n = refl
forest_in-join (inner m k f r) n = ap (λ g. node k (forest_in f) g) (forest_in-join r n)
forest_in-join (token m l r) n = ap (λ g. leaf l g) (forest_in-join r n)

pub origins-join : (m n : Marked) → origins (join m n) ≡ origins m ++ origins n
origins-join nothing n = refl
origins-join (inner m k f r) n = ap (λ l. m.origin ∷ (origins f ++ l)) (origins-join r n) ∙ ap (λ l. m.origin ∷ l) (sym (append_assoc (origins f) (origins r) (origins n)))
origins-join (token m l r) n = ap (λ l. m.origin ∷ l) (origins-join r n)

-- a copy is the term
pub forest_in-blank : (e : Element) (w : Way) (i : ℕ) (f : Forest) → forest_in (filled blank e w i f) ≡ f
forest_in-blank e w i empty = refl
forest_in-blank e w i (node k f r) = λ j. node k (forest_in-blank e (i ∷ w) 0 f j) (forest_in-blank e w (i + 1) r j)
forest_in-blank e w i (leaf l r) = ap (λ g. leaf l g) (forest_in-blank e w (i + 1) r)

-- two sheets that agree at the spots of a list of children and below read the same there
abbrev pub Agree : Sheet → Sheet → Way → ℕ → Forest → Type 0
Agree s t w i empty = s (gap w i) ≡ t (gap w i)
Agree s t w i (node k f r) = (s (gap w i) ≡ t (gap w i)) × (s (slot (i ∷ w)) ≡ t (slot (i ∷ w))) × Agree s t (i ∷ w) 0 f × Agree s t w (i + 1) r
Agree s t w i (leaf l r) = (s (gap w i) ≡ t (gap w i)) × (s (slot (i ∷ w)) ≡ t (slot (i ∷ w))) × Agree s t w (i + 1) r

pub filled_agree : (s t : Sheet) (e : Element) (w : Way) (i : ℕ) (f : Forest) → Agree s t w i f → filled s e w i f ≡ filled t e w i f
filled_agree s t e w i empty h = ap (λ o. or_own o nothing) h
filled_agree s t e w i (node k f r) h =
    let low = filled_agree s t e (i ∷ w) 0 f h.2 in
    let rest = filled_agree s t e w (i + 1) r h.3 in
    λ j. join (or_own (h.0 j) nothing) (join (or_own (h.1 j) (inner (origin_at e (i ∷ w)) k (low j) nothing)) (rest j))
filled_agree s t e w i (leaf l r) h =
    let rest = filled_agree s t e w (i + 1) r h.2 in
    λ j. join (or_own (h.0 j) nothing) (join (or_own (h.1 j) (token (origin_at e (i ∷ w)) l nothing)) (rest j))

pub agree_from : (s t : Sheet) (v : Way) → AgreeBelow s t v → (w : Way) → is_within v 0 w ≡ true → (i : ℕ) (f : Forest) → Agree s t w i f
agree_from s t v h w b i empty = (h w b i).0
agree_from s t v h w b i (node k f r) = ((h w b i).0, (h w b i).1, agree_from s t v h (i ∷ w) (or_right (covers v 0 (i ∷ w)) _ b) 0 f, agree_from s t v h w b (i + 1) r)
agree_from s t v h w b i (leaf l r) = ((h w b i).0, (h w b i).1, agree_from s t v h w b (i + 1) r)

-- ---- at a gap stand the lists of its inserts, the first of the list of jobs first
abbrev pub joined : (Job → Marked) → List Job → Marked
joined c [] = nothing
joined c (j ∷ js) = join (c j) (joined c js)

gap_more : (c : Job → Marked) (n : Option Way) (w : Way) (i : ℕ) (j : Job) (js : List Job) (d : Change) → j.change ≡ d → (b : Bool) → sets_on n (gap w i) j ≡ b
    → or_own (written c js n (gap w i)) nothing ≡ joined c (filter (sets_on n (gap w i)) js)
    → or_own (cond b (Some (set_by d (gap w i) (c j) (written c js n (gap w i)))) (written c js n (gap w i))) nothing ≡ joined c (cond b (j ∷ filter (sets_on n (gap w i)) js) (filter (sets_on n (gap w i)) js))
gap_more c n w i j js (insert p k new) e true t h = ap (λ m. join (c j) m) h
gap_more c n w i j js (replace f m new s) e true t h = absurd (false≢true (ap (λ d. sets d (gap w i)) (sym e) ∙ (and_parts (same_sheet j.sheet n) _ t).1))
gap_more c n w i j js d e false t h = h

pub gap_reads : (c : Job → Marked) (n : Option Way) (w : Way) (i : ℕ) (js : List Job) → or_own (written c js n (gap w i)) nothing ≡ joined c (filter (sets_on n (gap w i)) js)
gap_reads c n w i [] = refl
gap_reads c n w i (j ∷ js) = gap_more c n w i j js j.change refl (sets_on n (gap w i) j) refl (gap_reads c n w i js)

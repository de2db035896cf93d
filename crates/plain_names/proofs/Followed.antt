-- A renamed leaf in the tree.
use Rattle.std.proofs.Common.{arith, length-append, ◌≡◌, ℕ, Bool, true, false, ◌||◌, ◌==◌, List, [], ◌∷◌, ◌++◌, length, take, drop, append_assoc, append-nil, refl, sym, ◌∙◌, ap, inl, inr, if◌then◌else◌}
use Rattle.std.specs.List.{flat_map, list_any}
use Rattle.std.proofs.lemmas.Bool.{cases_Bool}
use Rattle.std.proofs.lemmas.Bool.Decides.{Decides-eqb}
use Rattle.std.proofs.lemmas.Grind.{flat_map-append}
use Rattle.std.proofs.Math.Seq.{drop-append_seam, take-append_seam}
use Rattle.parser_input.specs.Leaf.{Leaf, is_trivia}
use Rattle.parser_events.specs.Forest as forest
use Rattle.parser_events.specs.Dressed as dressed
use Rattle.parser_events.specs.Dressed.{Dressed, text_of}
use Rattle.parser_events.specs.Dress.{joined, dress_root}
use Rattle.rowan_green.specs.Forest.{Forest, empty, node, leaf, forest_text}
use Rattle.parser_events.specs.TextSteps.{text_steps, Exit}
use Rattle.plain_names.specs.Forests.{mapped_texts, ReplacesText, here, past_leaf, inside, past_node}
use Rattle.plain_names.specs.Trees.{dressed_forest, mapped_leaves, KeepsDots, KeepsTrivia, composed, has, TreesFollowNames, ElementsAreSteps}
use Rattle.parser_events.proofs.Texts.{text-is-text}
use Rattle.plain_names.proofs.Mapped.{fused, ignores-names}
use Rattle.plain_names.proofs.OneForest as one_forest
use Rattle.plain_names.proofs.OneForest.{one}

abbrev a_leaf : ℕ → List ℕ → Forest → Forest
a_leaf k t r = leaf (record { kind = k; text = t }) r

-- ---- symbols that stand for a text

-- a tag is mapped to a text, any other character to itself
for_tag : ℕ → List ℕ → ℕ → List ℕ
for_tag tag text c = if c == tag then text else c ∷ []

-- a tag is mapped to itself
but_tag : (ℕ → List ℕ) → ℕ → ℕ → List ℕ
but_tag enc tag c = if c == tag then tag ∷ [] else enc c

eq-self : (c : ℕ) → (c == c) ≡ true
eq-self c = (Decides-eqb c c).1 refl

tag-text : (tag : ℕ) (text : List ℕ) → for_tag tag text tag ≡ text
unfolding for_tag
tag-text tag text = ap (λ (b : Bool). if b then text else tag ∷ []) (eq-self tag)

other-text : (tag : ℕ) (text : List ℕ) (c : ℕ) → (c == tag) ≡ false → for_tag tag text c ≡ c ∷ []
unfolding for_tag
other-text tag text c i = ap (λ (b : Bool). if b then text else c ∷ []) i

none-of : (tag d : ℕ) (ds : List ℕ) → has tag (d ∷ ds) ≡ false → ((d == tag) ≡ false) × (has tag ds ≡ false)
none-of tag d ds n = whichever (d == tag) n
  where
    whichever : (b : Bool) → (b || has tag ds) ≡ false → (b ≡ false) × (has tag ds ≡ false)
    whichever true z = absurd (let y : true ≡ false = z in cc)
    whichever false z = (refl, z)

none-in : (tag : ℕ) (ds es : List ℕ) → has tag (ds ++ es) ≡ false → (has tag ds ≡ false) × (has tag es ≡ false)
none-in tag [] es n = (refl, n)
none-in tag (d ∷ ds) es n =
    let x = none-of tag d (ds ++ es) n in
    let y = none-in tag ds es x.1 in
    (ap (λ (b : Bool). b || has tag ds) x.0 ∙ y.0, y.1)

-- what holds no tag stays
untagged : (tag : ℕ) (text ds : List ℕ) → has tag ds ≡ false → flat_map (for_tag tag text) ds ≡ ds
untagged tag text [] n = refl
untagged tag text (d ∷ ds) n =
    let x = none-of tag d ds n in
    ap (λ z. z ++ flat_map (for_tag tag text) ds) (other-text tag text d x.0) ∙ ap (λ z. d ∷ z) (untagged tag text ds x.1)

tagged : (tag : ℕ) (text : List ℕ) → flat_map (for_tag tag text) (tag ∷ []) ≡ text
tagged tag text = append-nil (for_tag tag text tag) ∙ tag-text tag text

-- ---- forests

pub texts-put : {old new : List ℕ} {t u : Forest} {a b : List ℕ} → ReplacesText old new t u a b → (forest_text t ≡ a ++ (old ++ b)) × (forest_text u ≡ a ++ (new ++ b))
texts-put (here k r) = (refl, refl)
texts-put {old} {new} (past_leaf l r s a b p) =
    let x = texts-put p in
    (ap (λ z. l.text ++ z) x.0 ∙ sym (append_assoc l.text a (old ++ b)), ap (λ z. l.text ++ z) x.1 ∙ sym (append_assoc l.text a (new ++ b)))
texts-put {old} {new} (inside k f g r a b p) =
    let x = texts-put p in (
      ap (λ z. z ++ forest_text r) x.0 ∙ append_assoc a (old ++ b) (forest_text r) ∙ ap (λ z. a ++ z) (append_assoc old b (forest_text r)),
      ap (λ z. z ++ forest_text r) x.1 ∙ append_assoc a (new ++ b) (forest_text r) ∙ ap (λ z. a ++ z) (append_assoc new b (forest_text r)),
    )
texts-put {old} {new} (past_node k f r s a b p) =
    let x = texts-put p in
    (ap (λ z. forest_text f ++ z) x.0 ∙ sym (append_assoc (forest_text f) a (old ++ b)), ap (λ z. forest_text f ++ z) x.1 ∙ sym (append_assoc (forest_text f) a (new ++ b)))

-- another text in the same leaf
retext : {old new : List ℕ} {t u : Forest} {a b : List ℕ} (other : List ℕ) → ReplacesText old new t u a b → (v : Forest) × ReplacesText old other t v a b
retext other (here k r) = (a_leaf k other r, here k r)
retext other (past_leaf l r s a b p) = let x = retext other p in (leaf l x.0, past_leaf l r x.0 a b x.1)
retext other (inside k f g r a b p) = let x = retext other p in (node k x.0 r, inside k f x.0 r a b x.1)
retext other (past_node k f r s a b p) = let x = retext other p in (node k f x.0, past_node k f r x.0 a b x.1)

mapped-same : (tag : ℕ) (text : List ℕ) (t : Forest) → has tag (forest_text t) ≡ false → mapped_texts (for_tag tag text) t ≡ t
mapped-same tag text empty n = refl
mapped-same tag text (node k f r) n =
    let x = none-in tag (forest_text f) (forest_text r) n in
    ap (λ (z : Forest). node k z (mapped_texts (for_tag tag text) r)) (mapped-same tag text f x.0) ∙ ap (λ (z : Forest). node k f z) (mapped-same tag text r x.1)
mapped-same tag text (leaf l r) n =
    let x = none-in tag l.text (forest_text r) n in
    ap (λ z. a_leaf l.kind z (mapped_texts (for_tag tag text) r)) (untagged tag text l.text x.0) ∙ ap (λ (z : Forest). leaf l z) (mapped-same tag text r x.1)

-- a tag in that leaf, mapped to a text
mapped-retext : {old new : List ℕ} {t u : Forest} {a b : List ℕ} (tag : ℕ) (text : List ℕ) (p : ReplacesText old new t u a b) → has tag (forest_text t) ≡ false → mapped_texts (for_tag tag text) (retext (tag ∷ []) p).0 ≡ (retext text p).0
unfolding retext
mapped-retext {old} tag text (here k r) n =
    let x = none-in tag old (forest_text r) n in
    ap (λ z. a_leaf k z (mapped_texts (for_tag tag text) r)) (tagged tag text) ∙ ap (λ (z : Forest). a_leaf k text z) (mapped-same tag text r x.1)
mapped-retext tag text (past_leaf l r s a b p) n =
    let x = none-in tag l.text (forest_text r) n in
    ap (λ z. a_leaf l.kind z (mapped_texts (for_tag tag text) (retext (tag ∷ []) p).0)) (untagged tag text l.text x.0) ∙ ap (λ (z : Forest). leaf l z) (mapped-retext tag text p x.1)
mapped-retext tag text (inside k f g r a b p) n =
    let x = none-in tag (forest_text f) (forest_text r) n in
    ap (λ (z : Forest). node k z (mapped_texts (for_tag tag text) r)) (mapped-retext tag text p x.0) ∙ ap (λ (z : Forest). node k (retext text p).0 z) (mapped-same tag text r x.1)
mapped-retext tag text (past_node k f r s a b p) n =
    let x = none-in tag (forest_text f) (forest_text r) n in
    ap (λ (z : Forest). node k z (mapped_texts (for_tag tag text) (retext (tag ∷ []) p).0)) (mapped-same tag text f x.0) ∙ ap (λ (z : Forest). node k f z) (mapped-retext tag text p x.1)

retext-old : {old new : List ℕ} {t u : Forest} {a b : List ℕ} (p : ReplacesText old new t u a b) → (retext old p).0 ≡ t
unfolding retext
retext-old (here k r) = refl
retext-old (past_leaf l r s a b p) = ap (λ (z : Forest). leaf l z) (retext-old p)
retext-old (inside k f g r a b p) = ap (λ (z : Forest). node k z r) (retext-old p)
retext-old (past_node k f r s a b p) = ap (λ (z : Forest). node k f z) (retext-old p)

retext-new : {old new : List ℕ} {t u : Forest} {a b : List ℕ} (p : ReplacesText old new t u a b) → (retext new p).0 ≡ u
unfolding retext
retext-new (here k r) = refl
retext-new (past_leaf l r s a b p) = ap (λ (z : Forest). leaf l z) (retext-new p)
retext-new (inside k f g r a b p) = ap (λ (z : Forest). node k z r) (retext-new p)
retext-new (past_node k f r s a b p) = ap (λ (z : Forest). node k f z) (retext-new p)

pub terms-again : (q g : ℕ → List ℕ) (d : Dressed) → mapped_texts q (dressed_forest g d) ≡ dressed_forest (composed q g) d
terms-again q g dressed.End = refl
terms-again q g (dressed.Leaf k t d) = ap (λ z. a_leaf k z (mapped_texts q (dressed_forest g d))) (fused q g t) ∙ ap (λ (z : Forest). a_leaf k (flat_map (composed q g) t) z) (terms-again q g d)
terms-again q g (dressed.Said m p d) = terms-again q g d
terms-again q g (dressed.Node k c d) = ap (λ (z : Forest). node k z (mapped_texts q (dressed_forest g d))) (terms-again q g c) ∙ ap (λ (z : Forest). node k (dressed_forest (composed q g) c) z) (terms-again q g d)

agree : (g h : ℕ → List ℕ) → ((c : ℕ) → g c ≡ h c) → (t : List ℕ) → flat_map g t ≡ flat_map h t
agree g h e [] = refl
agree g h e (c ∷ cs) = ap (λ z. z ++ flat_map g cs) (e c) ∙ ap (λ z. h c ++ z) (agree g h e cs)

terms-agree : (g h : ℕ → List ℕ) → ((c : ℕ) → g c ≡ h c) → (d : Dressed) → dressed_forest g d ≡ dressed_forest h d
terms-agree g h e dressed.End = refl
terms-agree g h e (dressed.Leaf k t d) = ap (λ z. a_leaf k z (dressed_forest g d)) (agree g h e t) ∙ ap (λ (z : Forest). a_leaf k (flat_map h t) z) (terms-agree g h e d)
terms-agree g h e (dressed.Said m p d) = terms-agree g h e d
terms-agree g h e (dressed.Node k c d) = ap (λ (z : Forest). node k z (dressed_forest g d)) (terms-agree g h e c) ∙ ap (λ (z : Forest). node k (dressed_forest h c) z) (terms-agree g h e d)

-- ---- leaves

of_kind : ℕ → List ℕ → Leaf
of_kind k t = record { kind = k; text = t }

pub joined-cons : (l : Leaf) (ls : List Leaf) → joined (l ∷ ls) ≡ l.text ++ joined ls
unfolding joined
joined-cons l ls = refl

pub joined-append : (ls ms : List Leaf) → joined (ls ++ ms) ≡ joined ls ++ joined ms
unfolding joined
joined-append [] ms = refl
joined-append (l ∷ ls) ms = ap (λ z. l.text ++ z) (joined-append ls ms) ∙ sym (append_assoc l.text (joined ls) (joined ms))

names-append : (h : ℕ → List ℕ) (ls ms : List Leaf) → mapped_leaves h (ls ++ ms) ≡ mapped_leaves h ls ++ mapped_leaves h ms
names-append h [] ms = refl
names-append h (l ∷ ls) ms = ap (λ (z : List Leaf). let m : Leaf = record { kind = l.kind; text = flat_map h l.text } in m ∷ z) (names-append h ls ms)

names-same : (tag : ℕ) (text : List ℕ) (ls : List Leaf) → has tag (joined ls) ≡ false → mapped_leaves (for_tag tag text) ls ≡ ls
names-same tag text [] n = refl
names-same tag text (l ∷ ls) n =
    let x = none-in tag l.text (joined ls) (ap (has tag) (sym (joined-cons l ls)) ∙ n) in
    ap (λ (t : List ℕ). let m : Leaf = record { kind = l.kind; text = t } in m ∷ mapped_leaves (for_tag tag text) ls) (untagged tag text l.text x.0) ∙ ap (λ (z : List Leaf). l ∷ z) (names-same tag text ls x.1)

stay-same : (tag : ℕ) (text : List ℕ) (ls : List Leaf) → has tag (joined ls) ≡ false → KeepsTrivia (for_tag tag text) ls
stay-same tag text [] n = tt
stay-same tag text (l ∷ ls) n =
    let x = none-in tag l.text (joined ls) (ap (has tag) (sym (joined-cons l ls)) ∙ n) in
    (λ _. untagged tag text l.text x.0, stay-same tag text ls x.1)

stay-append : (h : ℕ → List ℕ) (ls ms : List Leaf) → KeepsTrivia h ls → KeepsTrivia h ms → KeepsTrivia h (ls ++ ms)
stay-append h [] ms p q = q
stay-append h (l ∷ ls) ms p q = (p.0, stay-append h ls ms p.1 q)

solid-kind : (l : Leaf) (t : List ℕ) → is_trivia (of_kind l.kind t) ≡ is_trivia l
unfolding is_trivia of_kind
solid-kind l t = refl

no-symbols : {X : Type 0} (xs ys : List X) → xs ++ ys ≡ [] → xs ≡ []
no-symbols [] ys e = refl
no-symbols (x ∷ xs) ys e = absurd (let z : x ∷ (xs ++ ys) ≡ [] = e in cc)

same-parts : (p q r s : List ℕ) → p ++ r ≡ q ++ s → length p ≡ length q → (p ≡ q) × (r ≡ s)
same-parts p q r s e l = (
  sym (take-append_seam p r) ∙ ap (λ z. take (length p) z) e ∙ ap (λ n. take n (q ++ s)) l ∙ take-append_seam q s,
  sym (drop-append_seam p r) ∙ ap (λ z. drop (length p) z) e ∙ ap (λ n. drop n (q ++ s)) l ∙ drop-append_seam q s,
)

mapped-text : (g : ℕ → List ℕ) (d : Dressed) → forest_text (dressed_forest g d) ≡ flat_map g (text_of d)
mapped-text g dressed.End = refl
mapped-text g (dressed.Leaf k t d) = ap (λ z. flat_map g t ++ z) (mapped-text g d) ∙ sym (flat_map-append g t (text_of d))
mapped-text g (dressed.Said m p d) = mapped-text g d
mapped-text g (dressed.Node k c d) =
    ap (λ z. z ++ forest_text (dressed_forest g d)) (mapped-text g c) ∙ ap (λ z. flat_map g (text_of c) ++ z) (mapped-text g d)
    ∙ sym (flat_map-append g (text_of c) (text_of d))

-- an element has a step of its own
pub elements-steps : ElementsAreSteps
elements-steps g dressed.End = omega arith
elements-steps g (dressed.Leaf k t d) = omega (arith, elements-steps g d)
elements-steps g (dressed.Said m p d) = omega (arith, elements-steps g d)
elements-steps g (dressed.Node k c d) =
    let size = length-append (text_steps c) (Exit ∷ text_steps d) in
    omega (arith, elements-steps g c, elements-steps g d, size)

-- the texts of the leaves, joined
pub dressed-text : (g : ℕ → List ℕ) (f : forest.Forest) (ls : List Leaf) → forest_text (dressed_forest g (dress_root f ls)) ≡ flat_map g (joined ls)
dressed-text g f ls = mapped-text g (dress_root f ls) ∙ ap (flat_map g) (text-is-text f ls)

module _ (enc : ℕ → List ℕ) (tag : ℕ) (fresh : (c : ℕ) → has tag (enc c) ≡ false) (some : (c : ℕ) → enc c ≡ [] → ⊥) (no_dot : (tag == 46) ≡ false) where
  plain-enc : (t : List ℕ) → has tag (flat_map enc t) ≡ false
  plain-enc [] = refl
  plain-enc (c ∷ cs) = both-plain (enc c) (flat_map enc cs) (fresh c) (plain-enc cs)
    where
      both-plain : (ds es : List ℕ) → has tag ds ≡ false → has tag es ≡ false → has tag (ds ++ es) ≡ false
      both-plain [] es p q = q
      both-plain (d ∷ ds) es p q = let x = none-of tag d ds p in ap (λ (b : Bool). b || has tag (ds ++ es)) x.0 ∙ both-plain ds es x.1 q

  some-enc : (t : List ℕ) → (t ≡ [] → ⊥) → flat_map enc t ≡ [] → ⊥
  some-enc [] n e = n refl
  some-enc (c ∷ cs) n e = some c (no-symbols (enc c) (flat_map enc cs) e)

  -- without tags
  but-same : (t : List ℕ) → has tag t ≡ false → flat_map (but_tag enc tag) t ≡ flat_map enc t
  unfolding but_tag
  but-same [] n = refl
  but-same (c ∷ cs) n = let x = none-of tag c cs n in ap (λ (b : Bool). (if b then tag ∷ [] else enc c) ++ flat_map (but_tag enc tag) cs) x.0 ∙ ap (λ z. enc c ++ z) (but-same cs x.1)

  but-one : flat_map (but_tag enc tag) (tag ∷ []) ≡ tag ∷ []
  unfolding but_tag
  but-one = ap (λ (b : Bool). (if b then tag ∷ [] else enc tag) ++ []) (eq-self tag)

  apart : (46 == tag) ≡ false
  apart = whichever (46 == tag) refl
    where
      whichever : (b : Bool) → (46 == tag) ≡ b → b ≡ false
      whichever false e = refl
      whichever true e = absurd (let same : 46 ≡ tag = (Decides-eqb 46 tag).0 e in let z : true ≡ false = sym ((Decides-eqb tag 46).1 (sym same)) ∙ no_dot in cc)

  keeps : (text : List ℕ) → has 46 text ≡ false → KeepsDots (for_tag tag text)
  keeps text n = record { dot = other-text tag text 46 apart; others = others }
    where
      others : (c : ℕ) → (c == 46) ≡ false → list_any (λ d. d == 46) (for_tag tag text c) ≡ false
      others c i = elim (cases_Bool (c == tag)) [
        | inl e ↦ ap (λ z. list_any (λ d. d == 46) z) (ap (for_tag tag text) ((Decides-eqb c tag).0 e) ∙ tag-text tag text) ∙ n
        | inr e ↦ ap (λ z. list_any (λ d. d == 46) z) (other-text tag text c e) ∙ ap (λ (b : Bool). b || false) i
      ]

  by-tag : (text : List ℕ) (c : ℕ) → composed enc (for_tag tag text) c ≡ composed (for_tag tag (flat_map enc text)) (but_tag enc tag) c
  unfolding but_tag
  by-tag text c = elim (cases_Bool (c == tag)) [
    | inl e ↦ ap (λ z. flat_map enc z) (ap (for_tag tag text) ((Decides-eqb c tag).0 e) ∙ tag-text tag text) ∙ sym (tagged tag (flat_map enc text)) ∙ ap (λ (b : Bool). flat_map (for_tag tag (flat_map enc text)) (if b then tag ∷ [] else enc c)) (sym e)
    | inr e ↦ ap (λ z. flat_map enc z) (other-text tag text c e) ∙ append-nil (enc c) ∙ sym (untagged tag (flat_map enc text) (enc c) (fresh c)) ∙ ap (λ (b : Bool). flat_map (for_tag tag (flat_map enc text)) (if b then tag ∷ [] else enc c)) (sym e)
  ]

  module _ (f : forest.Forest) (before after : List Leaf) (l : Leaf) (solid : is_trivia l ≡ false) (plain_before : has tag (joined before) ≡ false) (plain_after : has tag (joined after) ≡ false) where
    -- the leaves, with a tag as the text of `l`
    tagged_leaves : List Leaf
    tagged_leaves = before ++ of_kind l.kind (tag ∷ []) ∷ after

    marked : Forest
    marked = dressed_forest (but_tag enc tag) (dress_root f tagged_leaves)

    names-are : (text : List ℕ) → mapped_leaves (for_tag tag text) tagged_leaves ≡ before ++ of_kind l.kind text ∷ after
    unfolding tagged_leaves of_kind
    names-are text =
        names-append (for_tag tag text) before (of_kind l.kind (tag ∷ []) ∷ after)
        ∙ ap (λ (z : List Leaf). z ++ mapped_leaves (for_tag tag text) (of_kind l.kind (tag ∷ []) ∷ after)) (names-same tag text before plain_before)
        ∙ ap (λ (t : List ℕ). before ++ of_kind l.kind t ∷ mapped_leaves (for_tag tag text) after) (tagged tag text)
        ∙ ap (λ (z : List Leaf). before ++ of_kind l.kind text ∷ z) (names-same tag text after plain_after)

    stays : (text : List ℕ) → KeepsTrivia (for_tag tag text) tagged_leaves
    unfolding tagged_leaves
    stays text = stay-append (for_tag tag text) before (of_kind l.kind (tag ∷ []) ∷ after) (stay-same tag text before plain_before)
        (λ i. absurd (let z : true ≡ false = sym i ∙ solid-kind l (tag ∷ []) ∙ solid in cc), stay-same tag text after plain_after)

    -- the trees with a text in the tag's place
    whole : (text : List ℕ) → has 46 text ≡ false → dressed_forest enc (dress_root f (before ++ of_kind l.kind text ∷ after)) ≡ mapped_texts (for_tag tag (flat_map enc text)) marked
    unfolding marked
    whole text n =
        ap (λ (ls : List Leaf). dressed_forest enc (dress_root f ls)) (sym (names-are text))
        ∙ ignores-names enc (for_tag tag text) f tagged_leaves (keeps text n) (stays text)
        ∙ terms-agree _ _ (by-tag text) (dress_root f tagged_leaves)
        ∙ sym (terms-again (for_tag tag (flat_map enc text)) (but_tag enc tag) (dress_root f tagged_leaves))

    marked-text : forest_text marked ≡ flat_map enc (joined before) ++ (tag ∷ flat_map enc (joined after))
    unfolding marked tagged_leaves of_kind
    marked-text =
        let g = but_tag enc tag in
        let t = of_kind l.kind (tag ∷ []) in
        dressed-text g f (before ++ t ∷ after) ∙ ap (λ z. flat_map g z) (joined-append before (t ∷ after))
        ∙ flat_map-append g (joined before) (joined (t ∷ after))
        ∙ ap (λ z. z ++ flat_map g (joined (t ∷ after))) (but-same (joined before) plain_before)
        ∙ ap (λ z. flat_map enc (joined before) ++ z) (tail ∙ ap (λ z. z ++ flat_map g (joined after)) but-one ∙ ap (λ z. tag ∷ z) (but-same (joined after) plain_after))
      where
        tail : flat_map (but_tag enc tag) (joined (of_kind l.kind (tag ∷ []) ∷ after)) ≡ flat_map (but_tag enc tag) (tag ∷ []) ++ flat_map (but_tag enc tag) (joined after)
        tail = ap (λ z. flat_map (but_tag enc tag) z) (joined-cons (of_kind l.kind (tag ∷ [])) after) ∙ flat_map-append (but_tag enc tag) (tag ∷ []) (joined after)

some-tag : (tag : ℕ) (text : List ℕ) → (text ≡ [] → ⊥) → (c : ℕ) → for_tag tag text c ≡ [] → ⊥
unfolding for_tag
some-tag tag text n c = whichever (c == tag)
  where
    whichever : (b : Bool) → (if b then text else c ∷ []) ≡ [] → ⊥
    whichever true e = n e
    whichever false e = let z : c ∷ [] ≡ [] = e in cc

kinds-one : (l : Leaf) → of_kind l.kind l.text ≡ l
unfolding of_kind
kinds-one l = refl

pub followed : TreesFollowNames
followed enc q tag fresh some q_some no_dot f before after l m kinds own other n new front back p far =
    let t = flat_map enc l.text in
    let u = flat_map enc m.text in
    let parts = none-in tag (joined before) (joined (l ∷ after)) (ap (has tag) (sym (joined-append before (l ∷ after))) ∙ n) in
    let ends = none-in tag l.text (joined after) (ap (has tag) (sym (joined-cons l after)) ∙ parts.1) in
    let tree = dressed_forest enc (dress_root f (before ++ l ∷ after)) in
    let x = marked enc tag fresh some no_dot f before after l own.solid parts.0 ends.1 in
    let v = retext (tag ∷ []) p in
    let old : tree ≡ mapped_texts (for_tag tag t) x = ap (λ (k : Leaf). dressed_forest enc (dress_root f (before ++ k ∷ after))) (sym (kinds-one l)) ∙ whole enc tag fresh some no_dot f before after l own.solid parts.0 ends.1 l.text own.plain in
    let fresh_kind : of_kind l.kind m.text ≡ m = ap (λ k. of_kind k m.text) kinds ∙ kinds-one m in
    let made : dressed_forest enc (dress_root f (before ++ m ∷ after)) ≡ mapped_texts (for_tag tag u) x = ap (λ (k : Leaf). dressed_forest enc (dress_root f (before ++ k ∷ after))) (sym fresh_kind) ∙ whole enc tag fresh some no_dot f before after l own.solid parts.0 ends.1 m.text other.plain in
    let text : forest_text tree ≡ flat_map enc (joined before) ++ (t ++ flat_map enc (joined after)) =
    dressed-text enc f (before ++ l ∷ after) ∙ ap (λ z. flat_map enc z) (joined-append before (l ∷ after)) ∙ flat_map-append enc (joined before) (joined (l ∷ after))
    ∙ ap (λ z. flat_map enc (joined before) ++ flat_map enc z) (joined-cons l after) ∙ ap (λ z. flat_map enc (joined before) ++ z) (flat_map-append enc l.text (joined after)) in
    let plain : has tag (forest_text tree) ≡ false = ap (has tag) (dressed-text enc f (before ++ l ∷ after)) ∙ plain-enc enc tag fresh some no_dot (joined (before ++ l ∷ after)) in
    let there = one_forest.apart q q_some front (flat_map enc (joined before)) (t ++ back) (t ++ flat_map enc (joined after)) (sym (texts-put p).0 ∙ text) far in
    let behind = same-parts t t back (flat_map enc (joined after)) there.1 refl in
    let texts : forest_text x ≡ forest_text v.0 =
    marked-text enc tag fresh some no_dot f before after l own.solid parts.0 ends.1
    ∙ ap (λ z. z ++ (tag ∷ flat_map enc (joined after))) (sym there.0) ∙ ap (λ z. front ++ (tag ∷ z)) (sym behind.1) ∙ sym (texts-put v.1).1 in
    let back_again : mapped_texts (for_tag tag t) v.0 ≡ tree = mapped-retext tag t p plain ∙ retext-old p in
    let same : x ≡ v.0 = one (for_tag tag t) x v.0 (some-tag tag t (some-enc enc tag fresh some no_dot l.text own.some)) (sym old ∙ sym back_again) texts in
    made ∙ ap (λ (z : Forest). mapped_texts (for_tag tag u) z) same ∙ mapped-retext tag u p plain ∙ retext-new p

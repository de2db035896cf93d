-- Forests that are equal once mapped.
use Rattle.std.proofs.Common.{◌≡◌, ℕ, List, [], ◌∷◌, ◌++◌, length, append_assoc, length-append, refl, sym, ◌∙◌, ap, arith}
use Rattle.std.specs.List.{flat_map}
use Rattle.std.proofs.lemmas.Grind.{flat_map-append}
use Rattle.rowan_green.specs.Leaf.{Leaf}
use Rattle.rowan_green.specs.Forest.{Forest, empty, node, leaf, forest_text}
use Rattle.plain_names.specs.Forests.{mapped_texts}

abbrev a_leaf : ℕ → List ℕ → Forest → Forest
a_leaf k t r = leaf (record { kind = k; text = t }) r

leaf-parts : (l m : Leaf) (r s : Forest) → leaf l r ≡ leaf m s → (l ≡ m) × (r ≡ s)
leaf-parts l m r s e = (cc, cc)

module _ (g : ℕ → List ℕ) (some : (c : ℕ) → g c ≡ [] → ⊥) where
  -- only the empty text is mapped to the empty text
  none : (t : List ℕ) → length (flat_map g t) ≡ 0 → t ≡ []
  none [] e = refl
  none (c ∷ cs) e = absurd (some c (no-symbols (g c) (let a = length-append (g c) (flat_map g cs) in omega (arith, a, e))))
    where
      no-symbols : (bs : List ℕ) → length bs ≡ 0 → bs ≡ []
      no-symbols [] z = refl
      no-symbols (b ∷ bs) z = absurd (let i = z in omega (arith, i))

  -- Two prefixes of one text are equal if their mapped lengths are, and so are the rests.
  pub apart : (a b x y : List ℕ) → a ++ x ≡ b ++ y → length (flat_map g a) ≡ length (flat_map g b) → (a ≡ b) × (x ≡ y)
  apart [] [] x y e l = (refl, e)
  apart [] (c ∷ cs) x y e l = absurd (let z : c ∷ cs ≡ [] = none (c ∷ cs) (sym l) in cc)
  apart (c ∷ cs) [] x y e l = absurd (let z : c ∷ cs ≡ [] = none (c ∷ cs) l in cc)
  apart (c ∷ cs) (d ∷ ds) x y e l =
      let same : c ≡ d = cc in
      let rest : cs ++ x ≡ ds ++ y = cc in
      let own = length-append (g c) (flat_map g cs) in
      let other = length-append (g d) (flat_map g ds) in
      let more = apart cs ds x y rest (let i = ap (λ z. length (g z)) same in omega (arith, own, other, l, i)) in
      (let first = more.0 in cc, more.1)

  size : Forest → ℕ
  size t = length (flat_map g (forest_text t))

  pub of_text : (t : Forest) → flat_map g (forest_text t) ≡ forest_text (mapped_texts g t)
  of_text empty = refl
  of_text (node k f r) = flat_map-append g (forest_text f) (forest_text r) ∙ ap (λ x. x ++ flat_map g (forest_text r)) (of_text f) ∙ ap (λ x. forest_text (mapped_texts g f) ++ x) (of_text r)
  of_text (leaf l r) = flat_map-append g l.text (forest_text r) ∙ ap (λ x. flat_map g l.text ++ x) (of_text r)

  -- beside other symbols
  beside : (t u : Forest) (x y : List ℕ) → mapped_texts g t ≡ mapped_texts g u → forest_text t ++ x ≡ forest_text u ++ y → (t ≡ u) × (x ≡ y)
  beside empty empty x y w e = (refl, e)
  beside empty (node k f r) x y w e = absurd (let z : empty ≡ node k (mapped_texts g f) (mapped_texts g r) = w in cc)
  beside empty (leaf l r) x y w e = absurd (let z : empty ≡ a_leaf l.kind (flat_map g l.text) (mapped_texts g r) = w in cc)
  beside (node k f r) empty x y w e = absurd (let z : node k (mapped_texts g f) (mapped_texts g r) ≡ empty = w in cc)
  beside (node k f r) (leaf l s) x y w e = absurd (let z : node k (mapped_texts g f) (mapped_texts g r) ≡ a_leaf l.kind (flat_map g l.text) (mapped_texts g s) = w in cc)
  beside (leaf l r) empty x y w e = absurd (let z : a_leaf l.kind (flat_map g l.text) (mapped_texts g r) ≡ empty = w in cc)
  beside (leaf l r) (node k f s) x y w e = absurd (let z : a_leaf l.kind (flat_map g l.text) (mapped_texts g r) ≡ node k (mapped_texts g f) (mapped_texts g s) = w in cc)
  beside (node k f r) (node l h s) x y w e =
      let z : node k (mapped_texts g f) (mapped_texts g r) ≡ node l (mapped_texts g h) (mapped_texts g s) = w in
      let kinds : k ≡ l = cc in
      let inner : mapped_texts g f ≡ mapped_texts g h = cc in
      let outer : mapped_texts g r ≡ mapped_texts g s = cc in
      let first = beside f h (forest_text r ++ x) (forest_text s ++ y) inner (sym (append_assoc (forest_text f) (forest_text r) x) ∙ e ∙ append_assoc (forest_text h) (forest_text s) y) in
      let second = beside r s x y outer first.1 in
      (let a = first.0 in let b = second.0 in cc, second.1)
  beside (leaf l r) (leaf m s) x y w e =
      let z : a_leaf l.kind (flat_map g l.text) (mapped_texts g r) ≡ a_leaf m.kind (flat_map g m.text) (mapped_texts g s) = w in
      let parts = leaf-parts _ _ _ _ z in
      let kinds : l.kind ≡ m.kind = ap (λ (x : Leaf). x.kind) parts.0 in
      let texts : flat_map g l.text ≡ flat_map g m.text = ap (λ (x : Leaf). x.text) parts.0 in
      let first = apart l.text m.text (forest_text r ++ x) (forest_text s ++ y) (sym (append_assoc l.text (forest_text r) x) ∙ e ∙ append_assoc m.text (forest_text s) y) (ap length texts) in
      let second = beside r s x y parts.1 first.1 in
      ((λ i. leaf (record { kind = kinds i; text = first.0 i }) (second.0 i)), second.1)

pub one : (g : ℕ → List ℕ) (t u : Forest) → ((c : ℕ) → g c ≡ [] → ⊥) → mapped_texts g t ≡ mapped_texts g u → forest_text t ≡ forest_text u → t ≡ u
one g t u some w e = (beside g some t u [] [] w (ap (λ x. x ++ []) e)).0

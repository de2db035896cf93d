-- Lemmas about up-paths, and paths from the root down.
use Rattle.std.proofs.Common.{◌≡◌, ℕ, List, [], ◌∷◌, ◌++◌, length, reverse, Option, Bool, true, false, ◌&&◌, ◌||◌, refl, ap, sym, ◌∙◌, arith, subst}
use Rattle.std.specs.List.{list_any}
use Rattle.std.proofs.lemmas.Bool.{false≢true, leb-false}
use Rattle.std.proofs.lemmas.List.{reverse-append}
use Rattle.syntax_tree.specs.Element.{Way}
use Rattle.tree_rewrite.specs.Change.{Change, insert, replace}
use Rattle.tree_rewrite.specs.Reach.{reaches, is_deep}
use Rattle.tree_rewrite.specs.Rewrite.{same_sheet}
use Rattle.tree_rewrite.specs.Fill.{Given, touches, is_deep_on, IsAlong, AreAlong}
use Rattle.tree_rewrite.proofs.BelowLemmas.{not_through}

-- the last index of a path is the first of the up-path
pub reverse-last : {A : Type 0} (all up : List A) (last : A) → all ≡ up ++ last ∷ [] → reverse all ≡ last ∷ reverse up
reverse-last all up last h = ap reverse h ∙ reverse-append up (last ∷ [])

-- ---- changes that do not lead as deep as an element do not affect elements below it
pub shallow : (w : Way) (c : Change) → is_deep (length w) c ≡ false → reaches w c ≡ false
shallow [] (insert p k new) h = absurd (omega (arith, leb-false 0 (length p) h))
shallow (i ∷ w) (insert p k new) h = not_through w p i (omega (arith, leb-false (length (i ∷ w)) (length p) h))
shallow w (replace [] n new s) h = refl
shallow [] (replace (k ∷ p) n new s) h = absurd (omega (arith, leb-false 0 (length p) h))
shallow (i ∷ w) (replace (k ∷ p) n new s) h = not_through w p i (omega (arith, leb-false (length (i ∷ w)) (length p) h))

deep_reaches : (w : Way) (c : Change) → IsAlong w c → is_deep (length w) c ≡ reaches w c
deep_reaches w c a = by_deep (is_deep (length w) c) refl
  where
    by_deep : (b : Bool) → is_deep (length w) c ≡ b → is_deep (length w) c ≡ reaches w c
    by_deep true h = h ∙ sym (a h)
    by_deep false h = h ∙ sym (shallow w c h)

pub any_along : (gs : List Given) (n : Option Way) (w : Way) (d : ℕ) → length w ≡ d → AreAlong w gs → list_any (is_deep_on n d) gs ≡ list_any (touches n w) gs
any_along [] n w d l a = refl
any_along (g ∷ gs) n w d l a =
    let own : is_deep d g.0.change ≡ reaches w g.0.change = ap (λ x. is_deep x g.0.change) (sym l) ∙ deep_reaches w g.0.change a.0 in
    let rest = any_along gs n w d l a.1 in
    λ j. (same_sheet g.0.sheet n && own j) || rest j

pub reaches_deep : (w : Way) (c : Change) (d : ℕ) → length w ≡ d → reaches w c ≡ true → is_deep d c ≡ true
reaches_deep w c d l r = subst (λ x. is_deep x c ≡ true) l (by_deep (is_deep (length w) c) refl)
  where
    by_deep : (b : Bool) → is_deep (length w) c ≡ b → is_deep (length w) c ≡ true
    by_deep true h = h
    by_deep false h = absurd (false≢true (sym (shallow w c h) ∙ r))

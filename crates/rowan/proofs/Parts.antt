-- The texts of a list of terms, the first one's first.
use Rattle.std.proofs.Common.{◌≡◌, ℕ, zero, suc, [], Some, slice_get, ◌+◌, ◌-◌, ◌<◌, ◌≤◌, min, List, ◌∷◌, ◌++◌, length, drop, refl, sym, ◌∙◌, ap, subst, arith, add-one}
use Rattle.rowan_green.specs.Forest.{Tree, forest_text, tree_text, forest_count, tree_count}
use Rattle.rowan_green.specs.Term.{Term, children_of, forest_of, texts_of, text_of, term_count, forest_of-terms}
use Rattle.rowan_green.specs.declared.utility_types.NodeOrToken.TheVariants.{Node, Token}
use Rattle.rowan.specs.Text.{IsPart}
use Rattle.rowan.proofs.Texts.{part_after, part_within, part_rest}

pub whole_text : (t : Tree) → texts_of (children_of t) ≡ tree_text t
whole_text t = ap forest_text (forest_of-terms t.forest)

pub whole_count : (t : Tree) → forest_count (forest_of (children_of t)) + 1 ≤ tree_count t
whole_count t = omega (arith, ap forest_count (forest_of-terms t.forest))

text_cons : (e : Term) (es : List Term) → texts_of (e ∷ es) ≡ text_of e ++ texts_of es
text_cons (Node t) es = refl
text_cons (Token l) es = refl

count_cons : (e : Term) (es : List Term) → forest_count (forest_of (e ∷ es)) ≡ term_count e + forest_count (forest_of es)
count_cons (Node t) es = refl
count_cons (Token l) es = refl

rest_from : (es : List Term) (i : ℕ) (e : Term) → Some e ≡ slice_get es i → drop i es ≡ e ∷ drop (suc i) es
rest_from [] i e h = absurd (cc)
rest_from (x ∷ es) zero e h = let k : x ≡ e = cc in ap (λ v. v ∷ es) k
rest_from (x ∷ es) (suc i) e h = rest_from es i e h

-- the children from an index on: the child at the index, and those after it
pub from_child : (es : List Term) (i : ℕ) (e : Term) → Some e ≡ slice_get es i → drop i es ≡ e ∷ drop (i + 1) es
from_child es i e h = rest_from es i e h ∙ ap (λ k. e ∷ drop k es) (sym (add-one i))

-- a child of this number weighs no more than all
pub child_count : (es : List Term) (i : ℕ) (e : Term) → Some e ≡ slice_get es i → term_count e ≤ forest_count (forest_of es)
child_count [] i e h = absurd (cc)
child_count (x ∷ es) zero e h = let k : e ≡ x = cc in omega (arith, ap term_count k, count_cons x es)
child_count (x ∷ es) (suc i) e h = omega (arith, child_count es i e h, count_cons x es)

module _ (s t : List Term) (e : Term) (y : s ≡ e ∷ t) where
  pub texts_are : texts_of s ≡ text_of e ++ texts_of t
  texts_are = ap texts_of y ∙ text_cons e t

  pub count_falls : forest_count (forest_of s) ≡ term_count e + forest_count (forest_of t)
  count_falls = ap (λ v. forest_count (forest_of v)) y ∙ count_cons e t

  module _ (size skip len : ℕ) (z : size ≡ length (text_of e)) (p : IsPart (texts_of s) skip (skip + len)) where
    here : IsPart (text_of e ++ texts_of t) skip (skip + len)
    here = subst (λ v. IsPart v skip (skip + len)) texts_are p

    pub passed_part : size ≤ skip → IsPart (texts_of t) (skip - size) (skip - size + len)
    passed_part h =
        subst (λ n. IsPart (texts_of t) (skip - n) (skip - n + len)) (sym z) (part_after (text_of e) (texts_of t) skip len (omega arith) here)

    module _ (taken : ℕ) (m : taken ≡ min len (size - skip)) (h : skip < size) where
      taken_is : taken ≡ min len (length (text_of e) - skip)
      taken_is = m ∙ ap (λ n. min len (n - skip)) z

      pub read_within : IsPart (text_of e) skip (skip + taken)
      read_within = part_within (text_of e) (texts_of t) skip len taken (omega arith) taken_is here

      pub read_after : IsPart (texts_of t) 0 (0 + (len - taken))
      read_after =
          let q : len - taken ≡ 0 + (len - taken) = omega arith in
          subst (λ n. IsPart (texts_of t) 0 n) q (part_rest (text_of e) (texts_of t) skip len taken (omega arith) taken_is here)

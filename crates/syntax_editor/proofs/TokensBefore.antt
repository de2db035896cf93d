-- The tokens before the nearest token before a place.
use Rattle.std.proofs.Common.{◌≡◌, ℕ, zero, suc, ◌<◌, List, [], ◌∷◌, ◌++◌, refl, ap, sym, ◌∙◌, subst, arith, length, append_assoc, reverse, Option, Some, None, unwrap_or}
use Rattle.std.specs.List.{cons_option}
use Rattle.rowan_green.specs.Forest.{Tree}
use Rattle.rowan_green.specs.declared.utility_types.NodeOrToken.TheVariants.{Node, Token}
use Rattle.rowan.specs.Place.{Place, below, term_at, terms_below}
use Rattle.rowan.specs.Around.{Cursor, place_in, cursor_at, children_before, first}
use Rattle.rowan.specs.Leaves.{tokens_in, tokens_back, tokens_back_by, tokens_before}
use Rattle.rowan.proofs.Leaves.{count_in, child_falls, back_all}
use Rattle.rowan.proofs.Walks.{place_of_child}
use Rattle.syntax_editor.specs.Indent.{own_level, first_level, level_at}

-- each of these stands before just those after it
abbrev pub Backwards : List Place → Type 0
Backwards [] = Unit {0}
Backwards (p ∷ ps) = (tokens_before p ≡ ps) × Backwards ps

abbrev below_back : Place → ℕ → Type 0
below_back p i = Backwards (tokens_before p) → Backwards (tokens_back p i ++ tokens_before p)

-- with a child more, where that holds of the children before it, and below it
child_back :
    (p : Place) (i : ℕ) (o : Option Cursor) → o ≡ cursor_at (below p i)
    → ((c : Cursor) → Some c ≡ cursor_at (below p i) → (n : ℕ) → below_back (place_in c) n)
    → Backwards (tokens_back p i ++ tokens_before p)
    → Backwards (tokens_back_by (cons_option o (children_before p i)) ++ tokens_before p)
child_back p i None h inner b = b
child_back p i (Some (Token q)) h inner b =
    let is : q ≡ below p i = place_of_child p i (Token q) h in
    (ap tokens_before is, b)
child_back p i (Some (Node q)) h inner b =
    let is : q ≡ below p i = place_of_child p i (Node q) h in
    let before : tokens_before q ≡ tokens_back p i ++ tokens_before p = ap tokens_before is in
    let below_all = inner (Node q) h (length (terms_below q)) (subst Backwards (sym before) b) in
    subst Backwards
    (ap (λ xs. xs ++ tokens_before q) (back_all q (length (terms_below q)) refl)
    ∙ ap (λ xs. reverse (tokens_in q) ++ xs) before
    ∙ sym (append_assoc (reverse (tokens_in q)) (tokens_back p i) (tokens_before p)))
    below_all

children_back : (p : Place) → ((i : ℕ) (c : Cursor) → Some c ≡ cursor_at (below p i) → (n : ℕ) → below_back (place_in c) n) → (i : ℕ) → below_back p i
children_back p inner zero b = b
children_back p inner (suc i) b = child_back p i (cursor_at (below p i)) refl (inner i) (children_back p inner i b)

-- by how much stands below
back_within : (k : ℕ) (p : Place) → count_in (term_at p) < k → (i : ℕ) → below_back p i
back_within zero p h i = absurd (omega (arith, h))
back_within (suc k) p h i =
    children_back p (λ j c stands n. back_within k (place_in c) (omega (arith, h, child_falls p j c stands)) n) i

-- from every place backwards
backwards_by : (root : Tree) (up : List ℕ) → Backwards (tokens_before (record { root = root; up = up }))
backwards_by root [] = tt
backwards_by root (i ∷ up) =
    let p : Place = record { root = root; up = up } in
    back_within (suc (count_in (term_at p))) p (omega arith) i (backwards_by root up)

pub backwards : (p : Place) → Backwards (tokens_before p)
backwards p = backwards_by p.root p.up

first_by : (ps : List Place) (q : Place) → Backwards ps → Some q ≡ first ps → ps ≡ q ∷ tokens_before q
first_by [] q b h = absurd (cc)
first_by (p ∷ ps) q b h =
    let is : p ≡ q = cc in
    ap (λ xs. p ∷ xs) (sym b.0) ∙ ap (λ x. x ∷ tokens_before x) is

-- the tokens before a place: the nearest, and those before that
pub nearest_first : (p q : Place) → Some q ≡ first (tokens_before p) → tokens_before p ≡ q ∷ tokens_before q
nearest_first p q h = first_by (tokens_before p) q (backwards p) h

-- one token further back
pub level_before : (p q : Place) → own_level p ≡ None → Some q ≡ first (tokens_before p) → level_at p ≡ level_at q
level_before p q none h = ap (λ o. unwrap_or o (first_level (tokens_before p))) none ∙ ap first_level (nearest_first p q h)

pub fewer_before : (p q : Place) → Some q ≡ first (tokens_before p) → length (tokens_before q) < length (tokens_before p)
fewer_before p q h = omega (arith, ap (λ (ps : List Place). length ps) (nearest_first p q h))

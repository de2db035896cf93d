-- Small rewritten trees fit.
use Rattle.std.proofs.Common.{◌≡◌, ℕ, ◌+◌, ◌<◌, ◌≤◌, ◌^◌, Bool, true, false, ◌&&◌, ◌||◌, List, [], ◌∷◌, length, map, length-append, refl, ap, arith, lt-ltb}
use Rattle.rowan_green.specs.Forest.{Forest, empty, node, leaf, forest_text, forest_count}
use Rattle.rowan_green.specs.Term.{terms, texts_of, forest_of-terms}
use Rattle.tree_rewrite.specs.Marked.{nothing, inner, token, forest_in}
use Rattle.tree_rewrite.specs.Fits.{fits_node}
use Rattle.plain_names.specs.Replacements.{Replacement, with_leaves}
use Rattle.plain_changes.specs.LeafChanges.{replacement_of, SmallTreesFit, ReplacingKeepsCounts}

terms-few : (f : Forest) → length (terms f) ≤ forest_count f
terms-few empty = omega arith
terms-few (node k f r) = omega (arith, terms-few r)
terms-few (leaf l r) = omega (arith, terms-few r)

both : (a b : Bool) → a ≡ true → b ≡ true → (a && b) ≡ true
both true b p q = q
both false b p q = p

or-second : (a b : Bool) → b ≡ true → (a || b) ≡ true
or-second true b p = refl
or-second false b p = p

children-fit : (f : Forest) → forest_count f < 2 ^ 32 → length (forest_text f) < 2 ^ 32 → fits_node (terms f) ≡ true
children-fit f few short =
    let text : texts_of (terms f) ≡ forest_text f = ap forest_text (forest_of-terms f) in
    let count : length (terms f) < 2 ^ 32 = omega (arith, terms-few f, few) in
    let size : length (texts_of (terms f)) < 2 ^ 32 = (let n = ap (λ (t : List ℕ). length t) text in omega (arith, n, short)) in
    both _ _ (lt-ltb (length (terms f)) (2 ^ 32) count) (lt-ltb (length (texts_of (terms f))) (2 ^ 32) size)

pub small-fit : SmallTreesFit
small-fit nothing few short = refl
small-fit (inner m k f r) few short =
    let n = length-append (forest_text (forest_in f)) (forest_text (forest_in r)) in
    let few_f : forest_count (forest_in f) < 2 ^ 32 = omega (arith, few) in
    let short_f : length (forest_text (forest_in f)) < 2 ^ 32 = omega (arith, n, short) in
    both _ _ (or-second _ _ (children-fit (forest_in f) few_f short_f))
    (both _ _ (small-fit f few_f short_f) (small-fit r (omega (arith, few)) (omega (arith, n, short))))
small-fit (token m l r) few short =
    let n = length-append l.text (forest_text (forest_in r)) in
    small-fit r (omega (arith, few)) (omega (arith, n, short))

counts-stay : (rs : List Replacement) (up : List ℕ) (i : ℕ) (f : Forest) → forest_count (with_leaves rs up i f) ≡ forest_count f
counts-stay rs up i empty = refl
counts-stay rs up i (node k f r) = omega (arith, counts-stay rs (i ∷ up) 0 f, counts-stay rs up (i + 1) r)
counts-stay rs up i (leaf l r) = omega (arith, counts-stay rs up (i + 1) r)

pub keeps-counts : ReplacingKeepsCounts
keeps-counts cs t = ap (λ (n : ℕ). 1 + n) (counts-stay (map replacement_of cs) [] 0 t.forest)

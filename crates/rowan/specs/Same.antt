-- Which places and ways are one, and what a hash is fed of a way.
use Rattle.std.specs.Prelude.{◌≡◌, ℕ, List, [], ◌∷◌, ◌++◌, refl, true, Bool, ◌&&◌, nat_eq}
use Rattle.std.proofs.Common.{subst, Decides}
use Rattle.std.proofs.lemmas.Bool.{and_parts, and_from}
use Rattle.std.specs.Cmp.{unsigned_Decides, decided, IsEquivalence}
use Rattle.std.specs.Cmp.Lexicographic.{pointwise}
use Rattle.std.specs.Hash.{HashWrites, u32}
use lib.Pointwise.{pointwise_decides}
use Rattle.rowan_green.specs.Forest.{same_tree}
use Rattle.rowan_green.specs.Same.{same_tree-Decides}
use Rattle.rowan.specs.Place.{Place, start_of, end_of, index_of, depth_of}

-- whether two places have one way up and one root term
abbrev pub same_place : Place → Place → Bool
same_place p q = pointwise nat_eq p.up q.up && same_tree p.root q.root

-- what a hash is fed of a node: the start and the end of its text, its index, and its depth
abbrev pub hashed_node : Place → HashWrites
hashed_node p = u32 (start_of p) ++ u32 (end_of p) ++ u32 (index_of p) ++ u32 (depth_of p)

-- what a hash is fed of a way: its numbers, the innermost first
abbrev pub numbers_fed : List ℕ → HashWrites
numbers_fed [] = []
numbers_fed (i ∷ up) = u32 i ++ numbers_fed up

same_way : (x y : List ℕ) → Decides (pointwise nat_eq x y) (x ≡ y)
same_way = pointwise_decides unsigned_Decides

places_equal : (p q : Place) → same_place p q ≡ true → p ≡ q
places_equal p q h =
    let k = and_parts (pointwise nat_eq p.up q.up) (same_tree p.root q.root) h in
    λ i. record { root = (same_tree-Decides p.root q.root).0 k.1 i; up = (same_way p.up q.up).0 k.0 i }

place_itself : (p : Place) → same_place p p ≡ true
place_itself p = and_from _ _ ((same_way p.up p.up).1 refl) ((same_tree-Decides p.root p.root).1 refl)

pub same_place-Decides : (p q : Place) → Decides (same_place p q) (p ≡ q)
same_place-Decides p q = (places_equal p q, λ e. subst (λ v. same_place p v ≡ true) e (place_itself p))

pub same_place-equiv : IsEquivalence same_place
same_place-equiv = decided same_place same_place-Decides

-- Equality of elements, and what is hashed.
use Rattle.std.specs.Prelude.{◌≡◌, ℕ, ◌++◌, true, nat_eq}
use Rattle.std.proofs.Common.{ap}
use Rattle.std.proofs.lemmas.Bool.{and_parts}
use Rattle.std.specs.Cmp.{IsEquivalence, and_equiv, on_equiv, nat_eq_equiv, unsigned_Decides}
use Rattle.std.specs.Cmp.Lexicographic.{nat_list_eq_equiv, pointwise_decides}
use Rattle.std.specs.Hash.{HashWrites, u32}
use Rattle.rowan.specs.Same.{numbers_fed}
use Rattle.syntax_tree.specs.Element.{Element, same_element, same_way}

-- the tree number, then the indices of the up-path
abbrev pub element_fed : Element → HashWrites
element_fed e = u32 e.number ++ numbers_fed e.place.up

pub same_element-equiv : IsEquivalence same_element
same_element-equiv = and_equiv (on_equiv (λ (e : Element). e.number) nat_eq_equiv) (on_equiv (λ (e : Element). e.place.up) nat_list_eq_equiv)

-- equal elements hash alike
pub fed_alike : (a b : Element) → same_element a b ≡ true → element_fed a ≡ element_fed b
fed_alike a b h =
    let k = and_parts (nat_eq a.number b.number) (same_way a.place.up b.place.up) h in
    λ i. u32 ((unsigned_Decides a.number b.number).0 k.0 i) ++ numbers_fed ((pointwise_decides unsigned_Decides a.place.up b.place.up).0 k.1 i)

-- A map after one way has got a number.
use Rattle.std.proofs.Common.{◌≡◌, ℕ, nat_eq, List, Some, Bool, true, false, cond, Vec, sym, ◌∙◌, subst, refl}
use Rattle.std.specs.Cmp.Lexicographic.{pointwise, bytes_decides, nat_list_eq_equiv}
use Rattle.std.specs.HashMap.{HashMap, Updates}
use Rattle.std.specs.Map.{lookup, IsKeyTest, AreApart, KeepsOthers}
use Rattle.syntax_tree.specs.Element.{Way, same_way}
use Rattle.tree_rewrite.specs.WayMap.{number_at}

-- what a query for another key finds
other_entries : {K X : Type 0} (eq : K → K → Bool) (test : K → Bool) (old new : List (K × X)) → KeepsOthers eq test old new
    → (other : K → Bool) → IsKeyTest eq other → AreApart test other → lookup other new ≡ lookup other old
unfolding KeepsOthers
other_entries eq test old new h = h

apart : (v w k : Way) → same_way v w ≡ false → same_way v k ≡ true → same_way w k ≡ false
apart v w k n y = nat_list_eq_equiv.symm w k ∙ sym (nat_list_eq_equiv.congr v k w y) ∙ n

pub number_at-put : {Z S : Type 0} (m n : HashMap (Vec ℕ Z) ℕ S) (v : Vec ℕ Z) (number : ℕ) → Updates (λ x y. pointwise nat_eq x.items y.items) m n v (Some number)
    → (w : Way) → number_at n w ≡ cond (same_way v.items w) (Some number) (number_at m w)
number_at-put m n v number h w = by_test (same_way v.items w) refl
  where
    by_test : (b : Bool) → same_way v.items w ≡ b → number_at n w ≡ cond b (Some number) (number_at m w)
    by_test true y = subst (λ l. number_at n l ≡ Some number) ((bytes_decides v.items w).0 y) h.1
    by_test false e = other_entries _ _ _ _ h.3 _ (λ x y. nat_list_eq_equiv.congr w x.items y.items) (λ k. apart v.items w k.items e)

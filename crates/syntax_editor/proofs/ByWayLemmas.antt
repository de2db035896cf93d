-- A map after the path of one element has got a number.
use Rattle.std.proofs.Common.{◌≡◌, ℕ, Some, Bool, true, false, cond, List, sym, ◌∙◌, subst, refl}
use Rattle.std.specs.Cmp.Lexicographic.{bytes_decides, nat_list_eq_equiv}
use Rattle.std.specs.HashMap.{HashMap, Updates}
use Rattle.std.specs.Map.{lookup, IsKeyTest, AreApart, KeepsOthers}
use Rattle.syntax_tree.specs.Element.{Way, same_way}
use Rattle.syntax_editor.specs.ByWay.{way_of, same_named, number_at}
use Rattle.syntax_editor.specs.declared.by_way.Named.{Named}

-- what a query for another key finds
other_entries : {K X : Type 0} (eq : K → K → Bool) (test : K → Bool) (old new : List (K × X)) → KeepsOthers eq test old new
    → (other : K → Bool) → IsKeyTest eq other → AreApart test other → lookup other new ≡ lookup other old
unfolding KeepsOthers
other_entries eq test old new h = h

apart : (v w k : Way) → same_way v w ≡ false → same_way v k ≡ true → same_way w k ≡ false
apart v w k n y = nat_list_eq_equiv.symm w k ∙ sym (nat_list_eq_equiv.congr v k w y) ∙ n

pub number_at-put : {S : Type 0} (m n : HashMap Named ℕ S) (x : Named) (number : ℕ) → Updates (λ a b. same_named a.0 b.0) m n x (Some number)
    → (w : Way) → number_at n w ≡ cond (same_way (way_of x.0) w) (Some number) (number_at m w)
number_at-put m n x number h w = by_test (same_way (way_of x.0) w) refl
  where
    by_test : (b : Bool) → same_way (way_of x.0) w ≡ b → number_at n w ≡ cond b (Some number) (number_at m w)
    by_test true y = subst (λ l. number_at n l ≡ Some number) ((bytes_decides (way_of x.0) w).0 y) h.1
    by_test false e = other_entries _ _ _ _ h.3 _ (λ a b. nat_list_eq_equiv.congr w (way_of a.0) (way_of b.0)) (λ k. apart (way_of x.0) w (way_of k.0) e)

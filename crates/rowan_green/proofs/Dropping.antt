-- The counts of a list and of its last element.
use Rattle.std.proofs.Common.{◌≡◌, ℕ, ◌+◌, ◌≤◌, List, [], ◌∷◌, ◌++◌, Option, IfSome, arith, ap, sym, ◌∙◌, subst}
use Rattle.rowan_green.specs.Forest.{Tree, tree_count, forest_count}
use Rattle.rowan_green.specs.Term.{Term, forest_of, term_count}
use Rattle.rowan_green.specs.declared.utility_types.NodeOrToken.TheVariants.{Node, Token}

count-push : (rest : List Term) (e : Term) → forest_count (forest_of (rest ++ (e ∷ []))) ≡ forest_count (forest_of rest) + term_count e
count-push [] (Node t) = omega arith
count-push [] (Token l) = omega arith
count-push (Node t ∷ rest) e = omega (arith, count-push rest e)
count-push (Token l ∷ rest) e = omega (arith, count-push rest e)

-- a list has as many elements as those before its last and the last together
pub count_popped : (es rest : List Term) (e : Term) → es ≡ rest ++ (e ∷ []) → forest_count (forest_of es) ≡ forest_count (forest_of rest) + term_count e
count_popped es rest e h = ap (λ v. forest_count (forest_of v)) h ∙ count-push rest e

-- a bound on one node, of an option that is that node
pub bounded : (m : ℕ) (found : Option Tree) (other : Option Tree) → found ≡ other → IfSome other (λ n. tree_count n ≤ m) → IfSome found (λ n. tree_count n ≤ m)
bounded m found other e h = subst (λ v. IfSome v (λ n. tree_count n ≤ m)) (sym e) h

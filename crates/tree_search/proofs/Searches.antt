-- A search by a stack: what is found, and what is left to be searched.
use Rattle.std.proofs.Common.{◌≡◌, ℕ, ◌<◌, List, [], ◌∷◌, ◌++◌, reverse, Option, Some, None, refl, ap, sym, ◌∙◌, subst, arith, append_assoc, append-nil}
use Rattle.syntax_tree.specs.declared.element.SyntaxElement.{SyntaxElement}
use Rattle.tree_patterns.specs.Patterns.{Shape}
use Rattle.tree_patterns.proofs.Stacks.{put, top}
use Rattle.tree_search.specs.Elements.{children_below}
use Rattle.tree_search.specs.Fit.{Bound}
use Rattle.tree_search.specs.Matching.{matched, names}
use Rattle.tree_search.specs.Search.{AreMatches, Found, bound_elements, none, match, other}
use Rattle.tree_search.proofs.Sizes.{below_fewer, match_fewer, size, size-append, size_of}

-- whatever the matches in the elements of a stack are, those in `all` are `found`, and then these
pub record Continues (p : Shape) (all stack : List SyntaxElement) (found : List Found) : Type 0 where
  pub continue : (ms : List Found) → AreMatches p (reverse stack) ms → AreMatches p all (found ++ ms)

pub begins : (p : Shape) (root : SyntaxElement) (stack : List SyntaxElement) (found : List Found) → stack ≡ root ∷ [] → found ≡ []
    → Continues p (root ∷ []) stack found
begins p root stack found is nothing = record {
  continue = λ ms h.
      let P : List SyntaxElement → Type 0 = λ es. AreMatches p es ms in
      let Q : List Found → Type 0 = λ fs. AreMatches p (root ∷ []) (fs ++ ms) in
      subst Q (sym nothing) (subst P (ap reverse is) h);
}

next_stack : (old new after inner : List SyntaxElement) → after ≡ new ++ reverse inner → reverse after ≡ inner ++ reverse new
next_stack old new after inner is = ap reverse is ∙ put new inner

pub goes_in : (p : Shape) (all old new after : List SyntaxElement) (e : SyntaxElement) (bound : Bound) (found then : List Found)
    → old ≡ new ++ e ∷ [] → after ≡ new ++ reverse (bound_elements [] (names p) bound) → matched p e ≡ Some bound
    → then ≡ found ++ record { element = e; bound = bound } ∷ []
    → Continues p all old found → Continues p all after then
goes_in p all old new after e bound found then is next fits more c = record {
  continue = λ ms h.
      let inner = bound_elements [] (names p) bound in
      let P : List SyntaxElement → Type 0 = λ es. AreMatches p es ms in
      let Q : List SyntaxElement → Type 0 = λ es. AreMatches p es (record { element = e; bound = bound } ∷ ms) in
      let R : List Found → Type 0 = λ fs. AreMatches p all fs in
      let here : AreMatches p (inner ++ reverse new) ms = subst P (next_stack old new after inner next) h in
      let with : AreMatches p (reverse old) (record { element = e; bound = bound } ∷ ms) = subst Q (sym (top old new e is)) (match e (reverse new) bound ms fits here) in
      let joined : found ++ (record { element = e; bound = bound } ∷ ms) ≡ then ++ ms =
      sym (append_assoc found (record { element = e; bound = bound } ∷ []) ms) ∙ ap (λ fs. fs ++ ms) (sym more) in
      subst R joined (c.continue (record { element = e; bound = bound } ∷ ms) with);
}

pub goes_below : (p : Shape) (all old new after : List SyntaxElement) (e : SyntaxElement) (found : List Found)
    → old ≡ new ++ e ∷ [] → after ≡ new ++ reverse (children_below e) → matched p e ≡ None
    → Continues p all old found → Continues p all after found
goes_below p all old new after e found is next fits c = record {
  continue = λ ms h.
      let P : List SyntaxElement → Type 0 = λ es. AreMatches p es ms in
      let here : AreMatches p (children_below e ++ reverse new) ms = subst P (next_stack old new after (children_below e) next) h in
      c.continue ms (subst P (sym (top old new e is)) (other e (reverse new) ms fits here));
}

pub ended : (p : Shape) (all stack : List SyntaxElement) (found : List Found) → stack ≡ [] → Continues p all stack found → AreMatches p all found
ended p all stack found is c =
    let P : List SyntaxElement → Type 0 = λ es. AreMatches p es [] in
    let R : List Found → Type 0 = λ fs. AreMatches p all fs in
    subst R (append-nil found) (c.continue [] (subst P (sym (ap reverse is)) none))

pub in_falls : (p : Shape) (old new after : List SyntaxElement) (e : SyntaxElement) (bound : Bound)
    → old ≡ new ++ e ∷ [] → after ≡ new ++ reverse (bound_elements [] (names p) bound) → matched p e ≡ Some bound
    → size (reverse after) < size (reverse old)
in_falls p old new after e bound is next fits =
    let inner = bound_elements [] (names p) bound in
    let a : size (reverse after) ≡ size (inner ++ reverse new) = ap size (next_stack old new after inner next) in
    let b : size (reverse old) ≡ size (e ∷ reverse new) = ap size (top old new e is) in
    omega (arith, a, b, size-append inner (reverse new), match_fewer p e bound fits)

pub below_falls : (p : Shape) (old new after : List SyntaxElement) (e : SyntaxElement)
    → old ≡ new ++ e ∷ [] → after ≡ new ++ reverse (children_below e) → matched p e ≡ None
    → size (reverse after) < size (reverse old)
below_falls p old new after e is next fits =
    let a : size (reverse after) ≡ size (children_below e ++ reverse new) = ap size (next_stack old new after (children_below e) next) in
    let b : size (reverse old) ≡ size (e ∷ reverse new) = ap size (top old new e is) in
    omega (arith, a, b, size-append (children_below e) (reverse new), below_fewer e)

pub ruleset search_steps = (begins, goes_in, goes_below, ended, in_falls, below_falls)

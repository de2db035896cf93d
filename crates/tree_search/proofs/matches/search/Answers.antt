-- A match is the next one, and what its places stand for is searched next.
use Rattle.std.proofs.Common.{◌≡◌, ◌∷◌, ◌++◌, [], reverse, Some, arith, rules}
use Rattle.tree_search.specs.Matching.{matched, names}
use Rattle.tree_search.specs.Search.{Found, bound_elements}
use Rattle.tree_search.proofs.Searches.{goes_in}
use Rattle.tree_search.proofs.matches.search.Goals as goal

pub stack-preserved-in_ok-push_match-in-Some-2 : goal.stack-preserved-in_ok-push_match-in-Some-2
stack-preserved-in_ok-push_match-in-Some-2 c =
    let found : Found = record { element = c.in-Some.element; bound = c.in-Some-2.bindings.items } in
    let next : c.push_match.new.stack.items ≡ c.pop.new.self.items ++ reverse (bound_elements [] (names c.args.pattern.now) c.in-Some-2.bindings.items) =
    first_of (search rules, grind arith) in
    let fits : matched c.args.pattern.now c.in-Some.element ≡ Some c.in-Some-2.bindings.items = first_of (cc, grind arith, search rules) in
    let more : c.push_match.new.matches.items ≡ c.stack.matches.items ++ found ∷ [] = first_of (search rules, grind arith) in
    goes_in _ _ c.stack.stack.items c.pop.new.self.items _ c.in-Some.element c.in-Some-2.bindings.items c.stack.matches.items _
    c.in-Some.ensures.items next fits more c.stack.invariant

-- Place by place.
use Rattle.std.proofs.Common.{◌≡◌, ◌++◌, [], ◌∙◌, ap, arith, if◌then◌else◌, map, rules}
use Rattle.tree_search.specs.Search.{is_first}
use Rattle.tree_search.proofs.Bindings.{place_adds, runs_end}
use Rattle.tree_search.proofs.Heads.{names_of}
use Rattle.tree_search.proofs.matches.bound_elements.Goals as goal

pub returns-then-at-bindings : goal.returns-then-at-bindings
returns-then-at-bindings c = runs_end _ _ c.places.at c.args.places.now c.args.bindings.now (omega arith) c.places.invariant

pub places-preserved : goal.places-preserved
places-preserved c =
    let added : c.extend_first.new.elements.items ≡ c.places.elements.items ++ (if is_first (names_of c.front-seen.result.now) c.text.result.now then c.index-bindings-at.result else []) =
    first_of (search rules, grind arith) in
    place_adds _ _ _ c.places.at c.args.places.now c.args.bindings.now c.front-seen.result.now c.index-places-at.result c.index-bindings-at.result
    (omega arith) (omega arith) c.front-seen.ensures c.index-places-at.is c.index-bindings-at.is
    (added ∙ ap (λ t. c.places.elements.items ++ (if is_first (names_of c.front-seen.result.now) t then c.index-bindings-at.result else [])) c.text.ensures)
    c.places.invariant

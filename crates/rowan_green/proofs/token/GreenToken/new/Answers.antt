use Rattle.std.proofs.Common.{◌≡◌, List, [], ◌∷◌, ap, sym, ◌∙◌, subst}
use Rattle.std.specs.Prelude.{slice_get, Some}
use Rattle.rowan_green.specs.Leaf.{Leaf}
use Rattle.rowan_green.specs.Term.{Term}
use Rattle.rowan_green.specs.declared.utility_types.NodeOrToken.TheVariants.{Token}
use Rattle.rowan_green.specs.declared.arena.Entry.{Entry}
use Rattle.rowan_green.specs.declared.arena.Arena.{Arena}
use Rattle.rowan_green.specs.Arena.{IsSound, items_in, terms_at, terms_over}
use Rattle.rowan_green.proofs.TokenLemmas.{token_found}
use Rattle.rowan_green.proofs.token.GreenToken.new.Goals as goal

pub invariant_of-result : goal.invariant_of-result
invariant_of-result c =
    let a = c.in_ok-arena.arena.value in
    let i = c.in_ok-index.index in
    let leaf : Leaf = record { kind = c.args.kind.0; text = c.args.text.now } in
    let one : terms_over c.push_token.new.self c.push_token.new.done.items ≡ Token leaf ∷ [] =
    rw c.new-done.ensures.items at c.in_ok-push_token.ensures.ok in
    let seen : slice_get (terms_at (items_in a)) i ≡ Some (Token leaf) =
    ap (λ (x : Arena). slice_get (terms_at (items_in x)) i) c.in_ok-arena.ensures.ok
    ∙ ap (λ (ts : List Term). slice_get ts i) c.shrink.ensures.terms
    ∙ c.in_ok-index.ensures.root
    ∙ ap (λ (es : List Entry). slice_get (terms_over c.push_token.new.self es) 0) c.deref.ensures.value
    ∙ ap (λ (ts : List Term). slice_get ts 0) one in
    let sound : IsSound a [] = subst (λ (x : Arena). IsSound x []) (sym c.in_ok-arena.ensures.ok) c.shrink.ensures.sound in
    (token_found a i leaf sound seen).token

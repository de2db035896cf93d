use Rattle.std.proofs.Common.{◌≡◌, true, false, sym, ◌∙◌, ap, subst, reverse, [], ◌∷◌}
use Rattle.rowan_green.specs.Word.{words}
use Rattle.rowan_green.specs.declared.utility_types.NodeOrToken.TheVariants.{Node}
use Rattle.rowan_green.specs.declared.arena.Arena.{Arena}
use Rattle.rowan_green.specs.Arena.{terms_at, items_in, terms_over}
use Rattle.rowan_green.specs.FlatNode.{last_tree, IsLast}
use Rattle.rowan_green.specs.OpenNodes.{word_in}
use Rattle.rowan_green.proofs.OpenNodeLemmas.{complete_built}
use Rattle.rowan_green.proofs.BuilderLemmas.{one_node_in, whole_in}
use Rattle.rowan_green.proofs.text_builder.GreenTextBuilder.finish.Goals as goal

pub returns-then-not-is_complete-clause-refused : goal.returns-then-not-is_complete-clause-refused
returns-then-not-is_complete-clause-refused c = λ t w.
    let a = c.self.inside.arena in
    let ds = c.self.inside.done.items in
    let f = complete_built c.args.self.building c.self.inside.open_nodes.items (terms_over a ds) c.self.inside.started t (ap (λ b. b.building) c.self.view_is) w in
    let n = one_node_in a ds t f.1 in
    let whole = c.is_complete.ensures.complete n.entry (c.deref.ensures.value ∙ f.0) (c.deref-2.ensures.value ∙ n.is) n.node in
    let z : false ≡ true = sym c.if-not-is_complete.true ∙ whole in
    absurd (cc)

pub of_last-requires-clause-last : goal.of_last-requires-clause-last
of_last-requires-clause-last c =
    let a = c.self.inside.arena in
    let ds = c.self.inside.done.items in
    let o = c.if-not-is_complete.ensures.one_node in
    let empty = sym c.deref.ensures.value ∙ c.if-not-is_complete.ensures.nothing_open in
    let z = whole_in a ds o.0 (sym c.deref-2.ensures.value ∙ o.1) o.2 (c.self.invariant.root empty) in
    let P : Arena → Type 0 = λ b. IsLast (terms_at (items_in b)) (Node (last_tree b)) in
    subst P (sym c.in-Ok.ensures.ok) z.last

pub returns-in-Ok-clause-ok : goal.returns-in-Ok-clause-ok
returns-in-Ok-clause-ok c =
    let a = c.self.inside.arena in
    let ds = c.self.inside.done.items in
    let o = c.if-not-is_complete.ensures.one_node in
    let empty = sym c.deref.ensures.value ∙ c.if-not-is_complete.ensures.nothing_open in
    let z = whole_in a ds o.0 (sym c.deref-2.ensures.value ∙ o.1) o.2 (c.self.invariant.root empty) in
    ap (λ b. b.building.word) (sym c.self.view_is) ∙ ap (λ qs. word_in (reverse qs) (terms_over a ds)) empty ∙ ap words z.terms
    ∙ ap (λ t. words (Node t ∷ [])) (sym (c.of_flat.ensures ∙ c.of_last.ensures ∙ ap last_tree c.in-Ok.ensures.ok))

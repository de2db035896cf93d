use Rattle.std.proofs.Common.{sym, ◌∙◌, ap, reverse, [], ◌∷◌}
use Rattle.rowan_green.specs.Word.{words}
use Rattle.rowan_green.specs.declared.utility_types.NodeOrToken.TheVariants.{Node}
use Rattle.rowan_green.specs.Kept.{terms_done}
use Rattle.rowan_green.specs.OpenNodes.{word_in}
use Rattle.rowan_green.proofs.OpenNodeLemmas.{complete_built}
use Rattle.rowan_green.proofs.BuilderLemmas.{one_node, whole}
use Rattle.rowan_green.proofs.builder.GreenNodeBuilder.finish.Goals as goal

pub returns-then-not-is_complete-clause-succeeds : goal.returns-then-not-is_complete-clause-succeeds
returns-then-not-is_complete-clause-succeeds c t w =
    let es = terms_done c.self.inside.arena c.self.inside.done.items in
    let f = complete_built c.args.self c.self.inside.open_nodes.items es c.self.inside.started t c.self.view_is w in
    let n = one_node c.self.inside.arena c.self.inside.done.items t f.1 in
    sym c.if-not-is_complete.true ∙ c.is_complete.ensures.complete n.entry (c.deref.ensures.value ∙ f.0) (c.deref-2.ensures.value ∙ n.is) n.node

pub of_last-requires-clause-last : goal.of_last-requires-clause-last
of_last-requires-clause-last c =
    let o = c.if-not-is_complete.ensures.one_node in
    let empty = sym c.deref.ensures.value ∙ c.if-not-is_complete.ensures.nothing_open in
    (whole c.self.inside.arena c.in-Some.arena c.self.inside.done.items o.0 c.in-Some.is (sym c.deref-2.ensures.value ∙ o.1) o.2 (c.self.invariant.root empty)).last

pub returns-clause-ok : goal.returns-clause-ok
returns-clause-ok c =
    let os = c.self.inside.open_nodes.items in
    let es = terms_done c.self.inside.arena c.self.inside.done.items in
    let o = c.if-not-is_complete.ensures.one_node in
    let empty = sym c.deref.ensures.value ∙ c.if-not-is_complete.ensures.nothing_open in
    let z = whole c.self.inside.arena c.in-Some.arena c.self.inside.done.items o.0 c.in-Some.is (sym c.deref-2.ensures.value ∙ o.1) o.2 (c.self.invariant.root empty) in
    ap (λ b. b.word) (sym c.self.view_is) ∙ ap (λ qs. word_in (reverse qs) es) empty ∙ ap words z.terms
    ∙ ap (λ t. words (Node t ∷ [])) (sym (c.share.ensures ∙ c.of_flat.ensures ∙ c.of_last.ensures))

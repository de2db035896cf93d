use Rattle.std.proofs.Common.{◌∙◌, ap, arith, length-append}
use Rattle.rowan_green.specs.Kept.{terms_done}
use Rattle.rowan_green.specs.OpenNodes.{building_of}
use Rattle.rowan_green.proofs.OpenNodeLemmas.{IsNested-more, token_built}
use Rattle.rowan_green.proofs.BuilderLemmas.{token_rooted}
use Rattle.rowan_green.proofs.builder.GreenNodeBuilder.token.Goals as goal

pub invariant_of-self-2 : goal.invariant_of-self-2
invariant_of-self-2 c = record {
  filled = c.push_token.ensures.filled;
  nested = IsNested-more _ _ _ (grind (arith, length-append)) c.self.invariant.nested;
  root = λ _. token_rooted c.push_token.new.arena c.push_token.new.done.items _ _ c.in_ok-push_token.ensures.ok;
}

pub returns-clause-ok : goal.returns-clause-ok
returns-clause-ok c =
    let os = c.self.inside.open_nodes.items in
    let es = terms_done c.self.inside.arena c.self.inside.done.items in
    ap (λ ts. building_of os ts c.self.inside.started) c.in_ok-push_token.ensures.ok
    ∙ token_built c.args.self.now os es c.self.inside.started _ c.self.view_is c.self.invariant.nested

use Rattle.std.proofs.Common.{◌≡◌, ◌∷◌, option_copied, sym, ◌∙◌, ap, arith}
use Rattle.rowan_green.specs.Forest.{Tree}
use Rattle.syntax_tree.specs.Element.{element_at}
use Rattle.syntax_tree.specs.Mapping.{image_of}
use Rattle.tree_rewrite.specs.Moved.{way_up}
use Rattle.tree_rewrite.specs.Climbing.{after_numbers}
use Rattle.tree_rewrite.specs.Mapped.{images_above}
use Rattle.tree_rewrite.proofs.ClimbLemmas.{way_up-payload, way_up-mapped, way_up-root, way_up-step, after_numbers-more}
use Rattle.tree_rewrite.proofs.MappedLemmas.{popped}
use Rattle.tree_rewrite.proofs.climb.climb.Goals as goal

pub returns-then-is_at : goal.returns-then-is_at
returns-then-is_at c = λ on b t stands.
    let met = sym (c.is_at.ensures b t stands) ∙ c.if-is_at.true in
    c.loop-rest.invariant.climbed on b t stands
    ∙ ap (after_numbers c.loop-rest.numbers.items) (way_up-payload on c.args.mapping.now b c.args.tree t c.loop-rest.rest.now met)

pub returns-in-Some : goal.returns-in-Some
returns-in-Some c = λ on b t stands.
    let ms = c.args.mapping.now in
    let rest = c.loop-rest.rest.now in
    let not_met = sym (c.is_at.ensures b t stands) ∙ c.if-is_at.false in
    let taken = popped c.loop-rest.images.items c.pop.new.self.items c.pop.result c.loop-rest.images.len c.pop.new.self.len (images_above ms c.args.tree t rest) (image_of ms (element_at c.args.tree t rest)) c.pop.ensures.items (omega (arith, c.loop-rest.images.ok.0)) c.pop.ensures.cases (c.loop-rest.invariant.images t) in
    let mapped = ap option_copied (sym c.in-Some.is ∙ c.flatten.ensures) ∙ taken.1 in
    c.loop-rest.invariant.climbed on b t stands
    ∙ ap (after_numbers c.loop-rest.numbers.items) (way_up-mapped on ms b c.args.tree t rest c.in-Some.output.now not_met mapped)

pub returns-in_default-split_first : goal.returns-in_default-split_first
returns-in_default-split_first c = λ on b t stands.
    let ms = c.args.mapping.now in
    let rest = c.loop-rest.rest.now in
    let not_met = sym (c.is_at.ensures b t stands) ∙ c.if-is_at.false in
    let taken = popped c.loop-rest.images.items c.pop.new.self.items c.pop.result c.loop-rest.images.len c.pop.new.self.len (images_above ms c.args.tree t rest) (image_of ms (element_at c.args.tree t rest)) c.pop.ensures.items (omega (arith, c.loop-rest.images.ok.0)) c.pop.ensures.cases (c.loop-rest.invariant.images t) in
    let unmapped = ap option_copied (sym c.in_default.is ∙ c.flatten.ensures) ∙ taken.1 in
    c.loop-rest.invariant.climbed on b t stands
    ∙ ap (after_numbers c.loop-rest.numbers.items) (way_up-root on ms b c.args.tree t rest not_met unmapped c.in_default-split_first.ensures.cases)

pub loop-rest-preserved : goal.loop-rest-preserved
loop-rest-preserved c =
    let ms = c.args.mapping.now in
    let n = c.args.tree in
    let rest = c.loop-rest.rest.now in
    let number = c.in-Some-split_first.number.now in
    let up = c.in-Some-split_first.up.now in
    let split : rest ≡ number ∷ up = c.in-Some-split_first.ensures.cases.0 in
    let taken = λ (t : Tree). popped c.loop-rest.images.items c.pop.new.self.items c.pop.result c.loop-rest.images.len c.pop.new.self.len (images_above ms n t rest) (image_of ms (element_at n t rest)) c.pop.ensures.items (omega (arith, c.loop-rest.images.ok.0)) c.pop.ensures.cases (c.loop-rest.invariant.images t) in
    record {
      images = λ t. (taken t).0 ∙ ap (images_above ms n t) split;
      climbed = λ on b t stands.
          let not_met = sym (c.is_at.ensures b t stands) ∙ c.if-is_at.false in
          let unmapped = ap option_copied (sym c.in_default.is ∙ c.flatten.ensures) ∙ (taken t).1 in
          let above = way_up on ms b n t up in
          c.loop-rest.invariant.climbed on b t stands
          ∙ ap (after_numbers c.loop-rest.numbers.items) (way_up-step on ms b n t rest number up split not_met unmapped)
          ∙ after_numbers-more c.loop-rest.numbers.items number above
          ∙ ap (λ l. after_numbers l above) (sym c.in_ok-push.ensures.items);
    }

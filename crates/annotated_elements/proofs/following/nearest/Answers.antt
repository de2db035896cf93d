use Rattle.std.proofs.Common.{◌≡◌, ◌<◌, ◌+◌, ◌∷◌, length, take, drop, get_or, option_map, option_copied, sym, ap, ◌∙◌, arith, length-drop}
use Rattle.std.proofs.lemmas.List.{drop_more}
use Rattle.rowan_green.specs.Forest.{Tree}
use Rattle.syntax_tree.specs.Element.{element_at}
use Rattle.syntax_tree.specs.Mapping.{image_of}
use Rattle.tree_rewrite.specs.Mapped.{images_above}
use Rattle.tree_rewrite.proofs.MappedLemmas.{popped}
use Rattle.annotated_elements.specs.Nearest.{further_down}
use Rattle.annotated_elements.proofs.FollowLemmas.{further-step, lead-here, lead-root}
use Rattle.annotated_elements.proofs.following.nearest.Goals as goal

pub returns-in-Some : goal.returns-in-Some
returns-in-Some c = λ t.
    let ms = c.args.mapping.now in
    let n = c.args.tree in
    let way = c.args.way.now in
    let below = c.loop-image.below in
    let rest = drop below way in
    let taken = popped c.loop-image.images.items c.pop.new.self.items c.pop.result c.loop-image.images.len c.pop.new.self.len (images_above ms n t rest) (image_of ms (element_at n t rest)) c.pop.ensures.items (omega (arith, c.loop-image.images.ok.0)) c.pop.ensures.cases (c.loop-image.invariant.images t) in
    let mapped = ap option_copied (sym c.in-Some.is ∙ c.flatten.ensures) ∙ taken.1 in
    ap (option_map (further_down (take below way))) (lead-here ms n t rest c.in-Some.image.now mapped) ∙ c.loop-image.invariant.leads t

pub returns-then-below-way : goal.returns-then-below-way
returns-then-below-way c = λ t.
    let ms = c.args.mapping.now in
    let n = c.args.tree in
    let way = c.args.way.now in
    let below = c.loop-image.below in
    let rest = drop below way in
    let taken = popped c.loop-image.images.items c.pop.new.self.items c.pop.result c.loop-image.images.len c.pop.new.self.len (images_above ms n t rest) (image_of ms (element_at n t rest)) c.pop.ensures.items (omega (arith, c.loop-image.images.ok.0)) c.pop.ensures.cases (c.loop-image.invariant.images t) in
    let unmapped = ap option_copied (sym c.in_default.is ∙ c.flatten.ensures) ∙ taken.1 in
    let none : length rest ≡ 0 = omega (arith, length-drop below way) in
    ap (option_map (further_down (take below way))) (lead-root ms n t rest unmapped none) ∙ c.loop-image.invariant.leads t

pub loop-image-preserved : goal.loop-image-preserved
loop-image-preserved c =
    let ms = c.args.mapping.now in
    let n = c.args.tree in
    let way = c.args.way.now in
    let below = c.loop-image.below in
    let rest = drop below way in
    let some : below < length way = omega arith in
    let split : rest ≡ get_or way below 0 ∷ drop (below + 1) way = drop_more way below 0 some in
    let taken = λ (t : Tree). popped c.loop-image.images.items c.pop.new.self.items c.pop.result c.loop-image.images.len c.pop.new.self.len (images_above ms n t rest) (image_of ms (element_at n t rest)) c.pop.ensures.items (omega (arith, c.loop-image.images.ok.0)) c.pop.ensures.cases (c.loop-image.invariant.images t) in
    record {
      within = omega arith;
      images = λ t. (taken t).0 ∙ ap (images_above ms n t) split;
      leads = λ t.
          further-step ms n t way below some (ap option_copied (sym c.in_default.is ∙ c.flatten.ensures) ∙ (taken t).1)
          ∙ c.loop-image.invariant.leads t;
    }

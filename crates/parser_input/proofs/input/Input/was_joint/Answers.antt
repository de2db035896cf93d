-- The token that is written is the last one.
use Rattle.std.proofs.Common.{◌≡◌, ◌-◌, ◌∙◌, ◌<◌, List, ap, arith, refl, suc, length, length-append, ◌∷◌, []}
use Rattle.std.proofs.lemmas.List.{length-map}
use Rattle.parser_input.specs.Input.{Token}
use Rattle.parser_input.specs.Packed.{seen}
use Rattle.parser_input.proofs.Recorded.{last-set}
use Rattle.parser_input.proofs.input.Input.was_joint.Goals as goal

pub returns : goal.returns
returns c front last e =
    let items = c.self.inside.tokens.items in
    let some : 0 < length items = omega (arith, ap (λ (l : List Token). length l) (c.self.view_is ∙ e), length-append front (last ∷ []), length-map items seen) in
    let long : suc (c.len-last.result - 1) ≡ length items = omega arith in
    last-set items (c.len-last.result - 1) c.index_mut.result.now _ front last long (c.self.view_is ∙ e) c.index_mut.ensures.value refl

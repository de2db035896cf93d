use Rattle.std.proofs.Common.{◌≡◌, ◌<◌, ◌^◌, length, refl, arith, ap, ◌∙◌}
use Rattle.rowan_green.specs.Forest.{tree_text}
use Rattle.rowan_green.specs.Term.{texts_of}
use Rattle.rowan_green.proofs.Lengths.{children_texts}
use Rattle.rowan_green.proofs.Summing.{looks_bound}
use Rattle.rowan_green.proofs.node_data.NodeData.child_at_offset.Goals as goal

pub find-place-requires : goal.find-place-requires
find-place-requires c =
    let e : length (texts_of c.elements-children.result.now.0) ≡ length (tree_text c.args.self.now) = ap (λ xs. length (texts_of xs)) c.elements-children.ensures.children ∙ children_texts c.args.self.now in
    omega (arith, e, c.text_len.ensures, c.if-offset-text_len.false)

pub overflow_add-result : goal.overflow_add-result
overflow_add-result c =
    let k = c.find-place.ensures in
    let n : length c.elements-children.result.now.0 < 2 ^ 32 = omega (arith, ap length c.elements-children.ensures.children, c.elements-children.ensures.fits.count) in
    let z = looks_bound 32 _ _ _ k.few k.looks k.many n in
    omega (arith, z)

pub returns-clause-found : goal.returns-clause-found
returns-clause-found c =
    (λ p. omega (arith, c.text_len.ensures, c.if-offset-text_len.false), λ h. refl)

pub returns-clause-looks : goal.returns-clause-looks
returns-clause-looks c =
    λ digits p.
    let k = c.find-place.ensures in
    let n : length c.elements-children.result.now.0 < 2 ^ digits = omega (arith, ap length c.elements-children.ensures.children, p) in
    omega (arith, looks_bound digits _ _ _ k.few k.looks k.many n)

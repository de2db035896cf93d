use Rattle.std.proofs.Common.{◌≡◌, ◌+◌, ◌-◌, ◌++◌, length, take, arith, ap, ◌∙◌, sym}
use Rattle.rowan_green.specs.Term.{texts_of}
use Rattle.rowan_green.proofs.Summing.{at_fork, at_block, texts_append, texts_split, take_right}
use Rattle.rowan_green.proofs.element_list.ElementList.+start_of.Goals as goal

pub text_sum-requires : goal.text_sum-requires
text_sum-requires t c =
    let b = at_block c.self.view_is c.self.invariant c.in-Block.is in
    rw c.deref.ensures.value (omega (arith, texts_split c.args.index c.in-Block.elements.items, b.fits.text))

pub overflow_add-result : goal.overflow_add-result
overflow_add-result t c =
    let f = at_fork c.self.view_is c.self.invariant c.in-Fork.is in
    let s = rw (c.list-else-index-before.ensures, c.deref-else-index-before.ensures) at c.start_of-else-index-before.ensures in
    omega (arith, f.before, f.texts, f.fits.text, s, texts_split (c.args.index - c.len-before.result) c.in-Fork.right.value.0)

pub returns-else-index-before : goal.returns-else-index-before
returns-else-index-before t c =
    let f = at_fork c.self.view_is c.self.invariant c.in-Fork.is in
    let s = rw (c.list-else-index-before.ensures, c.deref-else-index-before.ensures) at c.start_of-else-index-before.ensures in
    let n : c.len-before.result ≡ length c.in-Fork.left.value.0 = rw c.deref-in-Fork.ensures at c.len-before.ensures.count in
    let r = c.in-Fork.right.value.0 in
    let k : length c.in-Fork.left.value.0 + (c.args.index - c.len-before.result) ≡ c.args.index = omega (arith, n, c.if-index-before.false) in
    let e = take_right c.in-Fork.left.value.0 r (c.args.index - c.len-before.result) in
    let w : take c.args.index c.args.self.now.0 ≡ take (length c.in-Fork.left.value.0 + (c.args.index - c.len-before.result)) (c.in-Fork.left.value.0 ++ r) = ap (λ xs. take c.args.index xs) f.terms ∙ ap (λ i. take i (c.in-Fork.left.value.0 ++ r)) (sym k) in
    let z = ap (λ xs. length (texts_of xs)) (w ∙ e) in
    omega (arith, z, s, f.before, texts_append c.in-Fork.left.value.0 (take (c.args.index - c.len-before.result) r))

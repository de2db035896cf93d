use Rattle.std.proofs.Common.{◌≡◌, ◌/◌, length, arith, ◌∙◌, sym, ap}
use Rattle.rowan_green.proofs.Summing.{texts_split}
use Rattle.rowan_green.proofs.element_list.Part.block.Goals as goal

pub text_sum-half-requires : goal.text_sum-half-requires
text_sum-half-requires c =
    rw (c.split_at.ensures.front, c.deref.ensures.value) (omega (arith, texts_split (c.len.result / 2) c.args.elements.items, c.requires.fits))

pub text_sum-requires : goal.text_sum-requires
text_sum-requires c =
    rw (c.split_at.ensures.back, c.deref.ensures.value) (omega (arith, texts_split (c.len.result / 2) c.args.elements.items, c.requires.fits))

pub overflow_add-text_len : goal.overflow_add-text_len
overflow_add-text_len c =
    let a = rw (c.split_at.ensures.front, c.deref.ensures.value) at c.text_sum-half.ensures in
    let b = rw (c.split_at.ensures.back, c.deref.ensures.value) at c.text_sum.ensures in
    omega (arith, a, b, texts_split (c.len.result / 2) c.args.elements.items, c.requires.fits)

pub invariant_of-list : goal.invariant_of-list
invariant_of-list c =
    let a = rw (c.split_at.ensures.front, c.deref.ensures.value) at c.text_sum-half.ensures in
    let n : c.len.result ≡ length c.args.elements.items = c.len.ensures ∙ sym c.deref.ensures.len ∙ ap length c.deref.ensures.value in
    record {
      balanced = record { not_one = c.requires.not_one; few = c.requires.few };
      fits = record { count = omega (arith, c.requires.few); text = c.requires.fits };
      before_middle = rw n at a;
    }

pub invariant_of-result : goal.invariant_of-result
invariant_of-result c =
    let a = rw (c.split_at.ensures.front, c.deref.ensures.value) at c.text_sum-half.ensures in
    let b = rw (c.split_at.ensures.back, c.deref.ensures.value) at c.text_sum.ensures in
    omega (arith, a, b, texts_split (c.len.result / 2) c.args.elements.items)

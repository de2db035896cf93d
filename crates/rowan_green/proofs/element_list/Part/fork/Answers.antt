use Rattle.std.proofs.Common.{◌≡◌, ◌++◌, take, length, arith, ap, ◌∙◌, sym}
use Rattle.std.proofs.Math.Seq.{take-append_seam}
use Rattle.rowan_green.specs.Term.{texts_of}
use Rattle.rowan_green.proofs.Summing.{texts_append, new_fork}
use Rattle.rowan_green.proofs.element_list.Part.fork.Goals as goal

pub overflow_add-text_len : goal.overflow_add-text_len
overflow_add-text_len c =
    let a = rw c.deref.ensures at c.text_len-half.ensures in
    let b = rw c.deref-2.ensures at c.text_len.ensures in
    omega (arith, a, b, texts_append c.args.left.value.0 c.args.right.value.0, c.requires.fits.text)

pub invariant_of-list : goal.invariant_of-list
invariant_of-list c =
    let a = rw c.deref.ensures at c.text_len-half.ensures in
    let seam : length (texts_of (take (length c.args.left.value.0) (c.args.left.value.0 ++ c.args.right.value.0))) ≡ length (texts_of c.args.left.value.0) =
    ap (λ xs. length (texts_of xs)) (take-append_seam c.args.left.value.0 c.args.right.value.0) in
    record {
      balanced = new_fork c.args.left.value c.args.right.value c.height.result c.height-2.result c.max-height.result c.len.result c.len-2.result
          c.requires.left c.requires.right c.requires.left_low c.requires.right_low
          (rw c.deref-5.ensures at c.height.ensures.height) (rw c.deref-6.ensures at c.height-2.ensures.height)
          (rw c.deref-5.ensures at c.height.ensures.many) (rw c.deref-6.ensures at c.height-2.ensures.many)
          c.max-height.ensures (rw c.deref-3.ensures at c.len.ensures.count) (rw c.deref-4.ensures at c.len-2.ensures.count);
      fits = c.requires.fits;
      before_middle = a ∙ sym seam;
    }

pub invariant_of-result : goal.invariant_of-result
invariant_of-result c =
    let a = rw c.deref.ensures at c.text_len-half.ensures in
    let b = rw c.deref-2.ensures at c.text_len.ensures in
    omega (arith, a, b, texts_append c.args.left.value.0 c.args.right.value.0)

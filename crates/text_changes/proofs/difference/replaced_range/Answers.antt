use Rattle.std.proofs.Common.{◌≤◌, ◌-◌, length, arith}
use Rattle.text_changes.proofs.DifferenceLemmas.{is-difference}
use Rattle.text_changes.proofs.difference.replaced_range.Goals as goal

pub returns : goal.returns
returns c =
    let same = rw (c.as_bytes.ensures.value, c.as_bytes-2.ensures.value) at c.common_back-back.ensures.same in
    let in-old : c.common_back-back.result ≤ length c.args.old.now - c.front_of-start.result = omega (arith, c.min.ensures, c.common_back-back.ensures.bound) in
    let in-new : c.common_back-back.result ≤ length c.args.new.now - c.front_of-start.result = omega (arith, c.min.ensures, c.common_back-back.ensures.bound) in
    is-difference c.args.old.now c.args.new.now c.front_of-start.result c.common_back-back.result c.ceil_char_boundary.result c.ceil_char_boundary-new_end.result
    c.front_of-start.ensures.same c.front_of-start.ensures.cuts_old c.front_of-start.ensures.cuts_new in-old in-new same
    (c.ceil_char_boundary.ensures.bound (omega arith)) c.ceil_char_boundary.ensures.boundary
    (c.ceil_char_boundary-new_end.ensures.bound (omega arith)) c.ceil_char_boundary-new_end.ensures.boundary

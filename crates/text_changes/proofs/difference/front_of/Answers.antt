use Rattle.std.proofs.Common.{arith}
use Rattle.text_changes.proofs.DifferenceLemmas.{front-cuts, front-of-front}
use Rattle.text_changes.proofs.difference.front_of.Goals as goal

pub returns-clause-same : goal.returns-clause-same
returns-clause-same c =
    let same = rw (c.as_bytes.ensures.value, c.as_bytes-2.ensures.value) at c.common_front-front.ensures.same in
    front-of-front c.common_front-front.result c.floor_char_boundary-2.result c.args.old.now c.args.new.now
    (omega (arith, c.floor_char_boundary.ensures.bound, c.floor_char_boundary-2.ensures.bound)) same

pub returns-clause-cuts_old : goal.returns-clause-cuts_old
returns-clause-cuts_old c =
    let same = rw (c.as_bytes.ensures.value, c.as_bytes-2.ensures.value) at c.common_front-front.ensures.same in
    let in-old = rw c.as_bytes.ensures.value at c.common_front-front.ensures.old in
    let in-new = rw c.as_bytes-2.ensures.value at c.common_front-front.ensures.new in
    front-cuts c.args.old.now c.args.new.now c.common_front-front.result c.floor_char_boundary.result c.floor_char_boundary-2.result in-old in-new same
    c.floor_char_boundary.ensures.bound c.floor_char_boundary.ensures.boundary c.floor_char_boundary-2.ensures.bound c.floor_char_boundary-2.ensures.boundary

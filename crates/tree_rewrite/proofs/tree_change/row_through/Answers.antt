use Rattle.std.proofs.Common.{◌-◌, length, slice_index_or, arith}
use Rattle.std.proofs.lemmas.Option.{slice_get-get_or}
use Rattle.tree_rewrite.proofs.BelowLemmas.{not_through, through_other}
use Rattle.tree_rewrite.proofs.tree_change.row_through.Goals as goal

pub returns-then-depth-way : goal.returns-then-depth-way
returns-then-depth-way c = λ w i l u. not_through w c.args.way.now i (omega (arith, l, c.if-depth-way.true))

pub returns : goal.returns
returns c = λ w i l b.
    let way = c.args.way.now in
    let at = length way - 1 - c.args.depth in
    through_other w way i (slice_index_or way at 0) c.args.depth l (slice_get-get_or way at 0 (omega (arith, c.if-depth-way.false))) b

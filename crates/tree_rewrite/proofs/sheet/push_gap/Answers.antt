use Rattle.std.proofs.Common.{cond, refl}
use Rattle.tree_rewrite.specs.Marked.{nothing, join}
use Rattle.tree_rewrite.specs.Recorded.{target_of}
use Rattle.tree_rewrite.specs.Fill.{at_gap}
use Rattle.tree_rewrite.proofs.SheetLemmas.{split_given, none_given, adds-nothing, adds-join, adds-same, gap_next, gap_end}
use Rattle.tree_rewrite.proofs.sheet.push_gap.Goals as goal

pub loop-number-init : goal.loop-number-init
loop-number-init c = λ gs h. (gs, nothing, h, adds-nothing _, refl)

pub loop-number-preserved : goal.loop-number-preserved
loop-number-preserved c = λ gs h.
    let old = c.loop-number.invariant gs h in
    let s = split_given c.args.overlay.now.jobs.now c.args.overlay.now.made.now c.loop-number.rest.now c.in-Some.before.now c.in-Some.number.now old.0 c.in-Some.ensures.cases.0 old.2 in
    let terms = s.given.1 in
    let n = target_of c.args.overlay.now.target in
    let more = cond c.sets_gap-is_there.result terms nothing in (
      s.rest,
      join old.1 more,
      s.have,
      adds-join _ _ _ old.1 more old.3 (c.in_ok-push_if.ensures c.args.overlay.now.jobs.now s.given s.numbered),
      gap_next s.given old.0 s.rest n c.args.path.now c.args.index old.1 (at_gap gs n c.args.path.now c.args.index) c.sets_gap-is_there.result (c.sets_gap-is_there.ensures s.given s.numbered) s.is old.4,
    )

pub returns : goal.returns
returns c = λ gs h.
    let old = c.loop-number.invariant gs h in
    let none = none_given c.args.overlay.now.jobs.now c.args.overlay.now.made.now c.loop-number.rest.now old.0 c.in_default.ensures.cases old.2 in
    let n = target_of c.args.overlay.now.target in
    let whole = at_gap gs n c.args.path.now c.args.index in
    adds-same _ _ old.1 whole (gap_end old.0 n c.args.path.now c.args.index old.1 whole none old.4) old.3

use Rattle.std.proofs.Common.{sym, ap, ◌∙◌, cond, is_some}
use Rattle.tree_rewrite.specs.Marked.{nothing, slot, or_own}
use Rattle.tree_rewrite.specs.Recorded.{target_of}
use Rattle.tree_rewrite.specs.Fill.{laid, at_slot}
use Rattle.tree_rewrite.proofs.SheetLemmas.{split_given, none_given, slot_next, slot_here, slot_end, adds-none, adds-from}
use Rattle.tree_rewrite.proofs.sheet.push_slot.Goals as goal

pub loop-number-preserved : goal.loop-number-preserved
loop-number-preserved c = λ gs h.
    let old = c.loop-number.invariant gs h in
    let s = split_given c.args.overlay.now.jobs.now c.args.overlay.now.made.now c.loop-number.rest.now c.in-Some.before.now c.in-Some.number.now old.0 c.in-Some.ensures.cases.0 old.1 in
    let n = target_of c.args.overlay.now.target in
    (s.rest, s.have, slot_next s.given old.0 s.rest n c.args.path.now (laid gs n (slot c.args.path.now)) s.is (sym (c.sets_slot.ensures s.given s.numbered) ∙ c.if-sets_slot.false) old.2, old.3)

pub returns-then-sets_slot-clause-added : goal.returns-then-sets_slot-clause-added
returns-then-sets_slot-clause-added c = λ gs h.
    let old = c.loop-number.invariant gs h in
    let s = split_given c.args.overlay.now.jobs.now c.args.overlay.now.made.now c.loop-number.rest.now c.in-Some.before.now c.in-Some.number.now old.0 c.in-Some.ensures.cases.0 old.1 in
    let n = target_of c.args.overlay.now.target in
    let terms = s.given.1 in
    let here = slot_here s.given old.0 s.rest n c.args.path.now (laid gs n (slot c.args.path.now)) c.begins_at.result s.is (sym (c.sets_slot.ensures s.given s.numbered) ∙ c.if-sets_slot.true) (c.begins_at.ensures s.given s.numbered) old.2 in
    adds-from _ _ _ (cond c.begins_at.result terms nothing) (at_slot gs n c.args.path.now) old.3 (sym (ap (λ o. or_own o nothing) here)) (c.in_ok-push_if.ensures c.args.overlay.now.jobs.now s.given s.numbered)

pub returns-then-sets_slot-clause-replaced : goal.returns-then-sets_slot-clause-replaced
returns-then-sets_slot-clause-replaced c = λ gs h.
    let old = c.loop-number.invariant gs h in
    let s = split_given c.args.overlay.now.jobs.now c.args.overlay.now.made.now c.loop-number.rest.now c.in-Some.before.now c.in-Some.number.now old.0 c.in-Some.ensures.cases.0 old.1 in
    let n = target_of c.args.overlay.now.target in
    sym (ap is_some (slot_here s.given old.0 s.rest n c.args.path.now (laid gs n (slot c.args.path.now)) c.begins_at.result s.is (sym (c.sets_slot.ensures s.given s.numbered) ∙ c.if-sets_slot.true) (c.begins_at.ensures s.given s.numbered) old.2))

pub returns-clause-replaced : goal.returns-clause-replaced
returns-clause-replaced c = λ gs h.
    let old = c.loop-number.invariant gs h in
    let n = target_of c.args.overlay.now.target in
    sym (ap is_some (slot_end old.0 n c.args.path.now (laid gs n (slot c.args.path.now)) (none_given c.args.overlay.now.jobs.now c.args.overlay.now.made.now c.loop-number.rest.now old.0 c.in_default.ensures.cases old.1) old.2))

pub returns-clause-added : goal.returns-clause-added
returns-clause-added c = λ gs h.
    let old = c.loop-number.invariant gs h in
    let n = target_of c.args.overlay.now.target in
    let none = slot_end old.0 n c.args.path.now (laid gs n (slot c.args.path.now)) (none_given c.args.overlay.now.jobs.now c.args.overlay.now.made.now c.loop-number.rest.now old.0 c.in_default.ensures.cases old.1) old.2 in
    adds-none _ _ (at_slot gs n c.args.path.now) old.3 (ap (λ o. or_own o nothing) none)

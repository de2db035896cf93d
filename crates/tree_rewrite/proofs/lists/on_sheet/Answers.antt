use Rattle.std.proofs.Common.{sym, subst}
use Rattle.std.proofs.lemmas.List.{take_all}
use Rattle.tree_rewrite.specs.Recorded.{target_of}
use Rattle.tree_rewrite.specs.Fill.{HavePut}
use Rattle.tree_rewrite.specs.Below.{OnSheet}
use Rattle.tree_rewrite.proofs.BelowLemmas.{sheet_none, next_put}
use Rattle.tree_rewrite.proofs.lists.on_sheet.Goals as goal

pub loop-number-init : goal.loop-number-init
loop-number-init c = λ js h. sheet_none c.args.overlay.now.jobs.now c.args.overlay.now.made.now _ (target_of c.args.overlay.now.target) js c.new-numbers.ensures.items h

pub loop-number-preserved : goal.loop-number-preserved
loop-number-preserved c = λ js h.
    let s = next_put c.args.overlay.now.jobs.now c.args.overlay.now.made.now c.loop-number.number js c.loop-number-test.true h in
    subst (λ k. OnSheet c.args.overlay.now.jobs.now c.args.overlay.now.made.now c.push_on.new.numbers.items (target_of c.args.overlay.now.target) k) (sym s.is)
    (c.in_ok-push_on.ensures s.job s.rest s.given (c.loop-number.invariant s.rest s.have))

pub returns : goal.returns
returns c = λ js h.
    c.loop-number.invariant js (subst (λ l. HavePut c.args.overlay.now.jobs.now l js) (sym (take_all c.loop-number.number c.args.overlay.now.made.now c.loop-number-test.false)) h)

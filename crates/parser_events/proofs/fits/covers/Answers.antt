-- Each step goes on from the leaf that those before it lead to.
use Rattle.std.proofs.Common.{ℕ, eqb, ap, ◌∙◌}
use Rattle.parser_events.proofs.Fittings.{covering-begins, covering-goes, covering-fails, covering-ends}
use Rattle.parser_events.proofs.fits.covers.Goals as goal

pub steps-init : goal.steps-init
steps-init c = covering-begins c.args.lexed.now.leaves c.args.steps

pub steps-preserved : goal.steps-preserved
steps-preserved c =
    covering-goes c.args.lexed.now.leaves c.args.steps c.steps.steps c.take_first.new.self c.in-Some.step c.steps.next c.in-Some-after_step.place
    c.steps.invariant c.in-Some.ensures c.in-Some-after_step.ensures

pub returns-in-None : goal.returns-in-None
returns-in-None c =
    covering-fails c.args.lexed.now.leaves c.args.steps c.steps.steps c.take_first.new.self c.in-Some.step c.steps.next c.steps.invariant c.in-Some.ensures c.in-None.ensures

pub returns : goal.returns
returns c =
    ap (λ (k : ℕ). eqb c.pending_end.result k) c.len.ensures
    ∙ covering-ends c.args.lexed.now.leaves c.args.steps c.steps.steps c.steps.next c.pending_end.result c.steps.invariant c.in_default.ensures.0 c.pending_end.ensures.end c.pending_end.ensures.within

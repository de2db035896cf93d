use Rattle.kept_document.proofs.DeepChanges.{deep-here, flat-end, flat-next}
use Rattle.kept_document.proofs.commit_levels.puts_deep.Goals as goal

pub loop-change-preserved : goal.loop-change-preserved
loop-change-preserved c = flat-next _ _ _ _ _ _ c.loop-change-test.true c.in_ok-is_deep_change.ensures c.if-branch.false c.loop-change.invariant

pub returns : goal.returns
returns c = flat-end _ _ _ _ c.loop-change-test.false c.loop-change.invariant

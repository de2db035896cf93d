use Rattle.document_requests.specs.Applied.{session}
use Rattle.kept_document.proofs.DeepRuns.{all-done, goes-on, stops-here}
use Rattle.kept_document.proofs.request_levels.run_deep.Goals as goal

pub loop-command-preserved : goal.loop-command-preserved
loop-command-preserved c =
    goes-on c.args.commands.now c.loop-command.command-index c.command-item.result _ _ _ _ c.loop-command-test.true c.command-item.is c.in_ok-goes_deep.ensures.deep c.if-branch.false (c.in_ok-goes_deep.ensures.after c.if-branch.false) c.loop-command.invariant

pub returns : goal.returns
returns c = all-done _ _ _ _ c.loop-command-test.false c.loop-command.invariant

use Rattle.std.proofs.Common.{map}
use Rattle.document_requests.specs.Asked.{change as change_in}
use Rattle.kept_document.proofs.DeepChanges.{commit-flat, commit-makes, commit-puts}
use Rattle.kept_document.proofs.commit_levels.test_levels.Goals as goal

pub returns-then-branch-clause-refused : goal.returns-then-branch-clause-refused
returns-then-branch-clause-refused c =
    commit-puts c.args.document.now (map change_in c.args.changes.now) _ _ c.edition.ensures c.in_ok-puts_deep.ensures c.if-branch.true

pub returns-then-branch-2-clause-refused : goal.returns-then-branch-2-clause-refused
returns-then-branch-2-clause-refused c = commit-makes c.args.document.now (map change_in c.args.changes.now) _ c.in_ok-makes_deep.ensures c.if-branch-2.true

pub returns-clause-flat : goal.returns-clause-flat
returns-clause-flat c =
    commit-flat c.args.document.now (map change_in c.args.changes.now) _ _ _ c.edition.ensures c.in_ok-puts_deep.ensures c.if-branch.false c.in_ok-makes_deep.ensures c.if-branch-2.false

use Rattle.std.proofs.Common.{ap, is_ok}
use Rattle.file_target.proofs.CallLemmas.{left-examined, left-put, left-unrenamed}
use Rattle.file_target.proofs.replace.put.Goals as goal

pub returns-in_err-status-clause-whole : goal.returns-in_err-status-clause-whole
returns-in_err-status-clause-whole g c = λ bytes front mode s. left-examined bytes front _ _ mode _ _ _ c.status.ensures s

pub returns-then-not-is-clause-whole : goal.returns-then-not-is-clause-whole
returns-then-not-is-clause-whole g c = λ bytes front mode s. left-examined bytes front _ _ mode _ _ _ c.status.ensures s

pub returns-in_err-rename-clause-whole : goal.returns-in_err-rename-clause-whole
returns-in_err-rename-clause-whole g c = λ bytes front mode s. left-unrenamed bytes front _ _ mode _ _ _ _ _ (ap is_ok c.in_err-rename.was) c.status.ensures c.rename.ensures s

pub returns-clause-whole : goal.returns-clause-whole
returns-clause-whole g c = λ bytes front mode s. left-put bytes front _ _ mode _ _ _ _ _ _ _ (ap is_ok c.in_ok-rename.was) c.status.ensures c.rename.ensures c.sync_directory.ensures s

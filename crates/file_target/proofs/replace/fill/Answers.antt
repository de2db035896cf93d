use Rattle.std.proofs.Common.{ap, is_ok}
use Rattle.file_target.proofs.CallLemmas.{filled, mode-unset, not-synced, unwritten}
use Rattle.file_target.proofs.replace.fill.Goals as goal

pub returns-in_err-set_mode-clause-part : goal.returns-in_err-set_mode-clause-part
returns-in_err-set_mode-clause-part g c = mode-unset _ _ _ _ _ _ (ap is_ok c.in_err-set_mode.was) c.set_mode.ensures

pub returns-in_err-write-clause-part : goal.returns-in_err-write-clause-part
returns-in_err-write-clause-part g c = unwritten _ _ _ _ _ _ _ _ (ap is_ok c.in_ok-set_mode.was) (ap is_ok c.in_err-write.was) c.set_mode.ensures c.write.ensures

pub returns-in_err-sync-clause-part : goal.returns-in_err-sync-clause-part
returns-in_err-sync-clause-part g c =
    not-synced _ _ _ _ _ _ _ _ _ _ (ap is_ok c.in_ok-set_mode.was) (ap is_ok c.in_ok-write.was) (ap is_ok c.in_err-sync.was) c.set_mode.ensures c.write.ensures c.sync.ensures

pub returns-clause-filled : goal.returns-clause-filled
returns-clause-filled g c = λ front path s.
    filled _ front path _ _ _ _ _ _ _ _ (ap is_ok c.in_ok-set_mode.was) (ap is_ok c.in_ok-write.was) (ap is_ok c.in_ok-sync.was) c.set_mode.ensures c.write.ensures c.sync.ensures s

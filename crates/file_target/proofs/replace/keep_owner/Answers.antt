use Rattle.file_target.proofs.CallLemmas.{examined-at, owned-at}
use Rattle.file_target.proofs.replace.keep_owner.Goals as goal

pub returns-then-is_same : goal.returns-then-is_same
returns-then-is_same g c = λ bytes front file s. examined-at bytes front file _ _ _ _ c.status.ensures s

pub returns-then-is_err : goal.returns-then-is_err
returns-then-is_err g c = λ bytes front file s.
    owned-at bytes front file _ _ _ _ _ _ c.set_owner-then-is_err.ensures (owned-at bytes front file _ _ _ _ _ _ c.set_owner.ensures (examined-at bytes front file _ _ _ _ c.status.ensures s))

pub returns-else-is_err : goal.returns-else-is_err
returns-else-is_err g c = λ bytes front file s. owned-at bytes front file _ _ _ _ _ _ c.set_owner.ensures (examined-at bytes front file _ _ _ _ c.status.ensures s)

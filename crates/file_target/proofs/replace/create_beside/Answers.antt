use Rattle.std.proofs.Common.{ap, is_ok}
use Rattle.file_target.proofs.CallLemmas.{made, not-made}
use Rattle.file_target.proofs.replace.create_beside.Goals as goal

pub returns-in-Ok-clause-made : goal.returns-in-Ok-clause-made
returns-in-Ok-clause-made g c = λ bytes front s. made bytes front _ _ _ _ _ (ap is_ok c.in-Ok.is) c.as_str.ensures.value c.create.ensures (c.loop-number.invariant bytes front s)

pub returns-in-Err-2-clause-none : goal.returns-in-Err-2-clause-none
returns-in-Err-2-clause-none g c = λ bytes front s. not-made bytes front _ _ _ _ (ap is_ok c.in-Err-2.is) c.create.ensures (c.loop-number.invariant bytes front s)

pub loop-number-preserved : goal.loop-number-preserved
loop-number-preserved g c = λ bytes front s. not-made bytes front _ _ _ _ (ap is_ok c.in-Err.is) c.create.ensures (c.loop-number.invariant bytes front s)

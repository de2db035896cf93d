use Rattle.std.proofs.Common.{length, arith}
use Rattle.text_diff.proofs.GroupLemmas.{script-patches}
use Rattle.text_diff.proofs.laws.scripts_patch.Goals as goal

pub returns : goal.returns
returns c = λ old new cs r. script-patches (length cs) old new 0 0 cs (omega arith) r (λ d ds e. omega arith)

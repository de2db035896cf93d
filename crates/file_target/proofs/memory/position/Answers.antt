use Rattle.std.proofs.Common.{arith}
use Rattle.file_target.proofs.FileLemmas.{files-none}
use Rattle.file_target.proofs.memory.position.Goals as goal

pub returns : goal.returns
returns c = files-none c.args.entries.now c.args.path.now (λ k d l. c.loop-i.invariant k d (omega arith))

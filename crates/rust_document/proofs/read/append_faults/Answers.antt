use Rattle.std.proofs.Common.{arith}
use Rattle.rust_document.proofs.Faults.{next-faults}
use Rattle.rust_document.proofs.read.append_faults.Goals as goal

pub loop-leaf-preserved : goal.loop-leaf-preserved
loop-leaf-preserved c = next-faults c.args.lexed.now.leaves c.loop-leaf.leaf _ _ _ (omega arith) c.in_ok-append_fault.ensures c.loop-leaf.invariant

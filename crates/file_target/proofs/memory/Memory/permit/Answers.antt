use Rattle.std.proofs.Common.{refl}
use Rattle.file_target.proofs.FileLemmas.{permitted-at}
use Rattle.file_target.proofs.memory.Memory.permit.Goals as goal

pub returns : goal.returns
returns c =
    let p = rw c.as_slice.ensures.value at c.in-Some.ensures in
    permitted-at c.args.self.now.entries.items c.args.path.now c.args.read c.args.write c.in-Some.i c.index_mut-entry.result.now _ p c.index_mut-entry.ensures.value refl refl

use Rattle.std.proofs.Common.{◌≡◌, ◌∙◌, ap, sym, refl, rules, Ok}
use Rattle.std.proofs.lemmas.Result.{err_from_is_err_and}
use Rattle.file_target.proofs.FileLemmas.{read-at, read-memory, read-refused}
use Rattle.file_target.proofs.memory.MemoryTarget.read.Goals as goal

pub returns-in-Some-read_error : goal.returns-in-Some-read_error
returns-in-Some-read_error c =
    let p = rw c.as_slice.ensures.value at c.in-Some.ensures in
    read-refused c.args.self.now.entries.items c.args.path.now c.in-Some.i c.index-entry.result.now c.in-Some-read_error.error p c.index-entry.ensures c.in-Some-read_error.is

pub returns-in_err-bytes : goal.returns-in_err-bytes
returns-in_err-bytes c =
    let p = rw c.as_slice.ensures.value at c.in-Some.ensures in
    let failed = err_from_is_err_and c.from_residual.result c.from_residual.ensures.1 in
    rw (failed.1, failed.2) (read-memory c.args.self.now.entries.items c.args.path.now c.in-Some.i c.index-entry.result.now _ p c.index-entry.ensures refl)

pub returns : goal.returns
returns c =
    let p = rw c.as_slice.ensures.value at c.in-Some.ensures in
    read-at c.args.self.now.entries.items c.args.path.now c.in-Some.i c.index-entry.result.now p c.index-entry.ensures (search rules)
    ∙ ap (λ b. Ok (b, c.index-entry.result.now.version)) (sym (c.in_ok-bytes.ensures.items ∙ c.as_slice-2.ensures.value))

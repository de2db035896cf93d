use Rattle.std.proofs.Common.{◌≡◌, ◌∙◌, ap, sym, refl, rules, Some}
use Rattle.std.proofs.lemmas.Bool.{both_ways}
use Rattle.std.proofs.lemmas.Result.{err_from_is_err_and}
use Rattle.file_target.specs.Files.{files_of}
use Rattle.file_target.proofs.FileLemmas.{write-changed, write-memory, write-refused, written-at}
use Rattle.file_target.proofs.memory.MemoryTarget.write.Goals as goal

pub returns-then-not-is : goal.returns-then-not-is
returns-then-not-is c =
    let p = rw c.as_slice.ensures.value at c.in-Some.ensures in (
      files_of c.args.self.now.entries.items,
      refl,
      (
        λ other. refl,
        write-changed c.args.self.now.entries.items c.args.path.now c.args.version c.in-Some.i c.index-entry.result.now p c.index-entry.ensures (λ same. both_ways c.is.result c.if-not-is.true (c.is.ensures.1 same)),
      ),
    )

pub returns-in-Some-write_error : goal.returns-in-Some-write_error
returns-in-Some-write_error c =
    let p = rw c.as_slice.ensures.value at c.in-Some.ensures in
    let same = c.is.ensures.0 c.if-not-is.false in (
      files_of c.args.self.now.entries.items,
      refl,
      (
        λ other. refl,
        write-refused c.args.self.now.entries.items c.args.path.now c.args.version c.in-Some.i c.index-entry.result.now c.index-entry.result.now c.in-Some-write_error.error p c.index-entry.ensures c.index-entry.ensures same
            c.in-Some-write_error.is,
      ),
    )

pub returns-in_err-bytes : goal.returns-in_err-bytes
returns-in_err-bytes c =
    let p = rw c.as_slice.ensures.value at c.in-Some.ensures in
    let same = c.is.ensures.0 c.if-not-is.false in
    let failed = err_from_is_err_and c.from_residual.result c.from_residual.ensures.1 in
    rw (failed.1, failed.2) (
      files_of c.args.self.now.entries.items,
      refl,
      (
        λ other. refl,
        write-memory c.args.self.now.entries.items c.args.path.now c.args.version c.in-Some.i c.index-entry.result.now _ p c.index-entry.ensures same refl,
      ),
    )

pub returns : goal.returns
returns c =
    let p = rw c.as_slice.ensures.value at c.in-Some.ensures in
    let same = c.is.ensures.0 c.if-not-is.false in (
      _,
      refl,
      written-at c.args.self.now.entries.items c.args.path.now c.args.version c.later-entry.result c.args.bytes.now c.in-Some.i c.index-entry.result.now c.index_mut-entry.result.now _ p c.index-entry.ensures
          c.index_mut-entry.ensures.value same (search rules) refl c.in_ok-bytes.ensures.items refl refl refl (λ e. c.later-entry.ensures (e ∙ sym same)),
    )

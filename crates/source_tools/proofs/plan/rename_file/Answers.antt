use Rattle.std.proofs.Common.{◌≡◌, ◌∙◌, Err, string_bytes, subst, sym}
use Rattle.source_tools.specs.Renames.{IsRenamedRead}
use Rattle.source_tools.specs.declared.renaming.RenameFault.{RenameFault}
use Rattle.source_tools.specs.declared.renaming.RenameFault.TheVariants.{File}
use Rattle.source_tools.specs.FileErrors.{file_error_of}
use Rattle.source_tools.proofs.ReadLemmas.{Answer, when-read, when-refused}
use Rattle.source_tools.proofs.RenameLemmas.{memory-error, memory-read, own-error}
use Rattle.source_tools.proofs.plan.rename_file.Goals as goal

pub returns-in-Ok : goal.returns-in-Ok
returns-in-Ok g c =
    let ns = c.args.renamings.now in
    let source = c.args.source.now in
    let gives = rw c.as_str.ensures.value at c.read.ensures in
    when-read (λ (a : Answer). IsRenamedRead ns source a c.change_of.result) (string_bytes source.path) c.in-Ok.contents c.change_of.ensures (g.T.Target.files c.args.target.now) c.read.result c.in-Ok.is gives

pub returns-in-Err : goal.returns-in-Err
returns-in-Err g c =
    let ns = c.args.renamings.now in
    let source = c.args.source.now in
    let e = c.in-Err.error in
    let gives = rw c.as_str.ensures.value at c.read.ensures in
    rw c.from.ensures
    (when-refused (λ (a : Answer). IsRenamedRead ns source a (Err (File (file_error_of e)))) (string_bytes source.path) e (own-error ns source e) (memory-read ns source e) (memory-error ns source e)
    (g.T.Target.files c.args.target.now) c.read.result c.in-Err.is gives)

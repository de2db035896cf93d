use Rattle.std.proofs.Common.{◌≡◌, Err}
use Rattle.source_tools.specs.FileErrors.{file_error_of}
use Rattle.source_tools.proofs.ReadLemmas.{Answer, when-read, when-refused}
use Rattle.source_rewrites.specs.Rewrites.{IsRewrittenRead, path_of}
use Rattle.source_rewrites.specs.declared.rewrite.RewriteFault.TheVariants.{File}
use Rattle.source_rewrites.proofs.RewriteLemmas.{memory-error, memory-read, own-error}
use Rattle.source_rewrites.proofs.plan.rewrite_file.Goals as goal

pub returns-in-Ok : goal.returns-in-Ok
returns-in-Ok g c =
    let n = c.args.rule in
    let r = c.args.rewrite.now in
    let gives = rw c.as_str.ensures.value at c.read.ensures in
    when-read (λ (a : Answer). IsRewrittenRead n r a c.change_of.result) (path_of r) c.in-Ok.contents c.change_of.ensures (g.T.Target.files c.args.target.now) c.read.result c.in-Ok.is gives

pub returns-in-Err : goal.returns-in-Err
returns-in-Err g c =
    let n = c.args.rule in
    let r = c.args.rewrite.now in
    let e = c.in-Err.error in
    let gives = rw c.as_str.ensures.value at c.read.ensures in
    rw c.from.ensures
    (when-refused (λ (a : Answer). IsRewrittenRead n r a (Err (File (file_error_of e)))) (path_of r) e (own-error n r e) (memory-read n r e) (memory-error n r e)
    (g.T.Target.files c.args.target.now) c.read.result c.in-Err.is gives)

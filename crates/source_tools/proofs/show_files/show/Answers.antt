use Rattle.std.proofs.Common.{◌≡◌, ◌∙◌, ◌+◌, ◌++◌, ◌∷◌, [], false, List, take, length, ap, sym, subst, arith}
use Rattle.std.proofs.lemmas.List.{take_more, length-take}
use Rattle.source_tools.specs.declared.source.Source.{Source}
use Rattle.source_tools.specs.declared.source.FileFault.{FileFault}
use Rattle.source_tools.proofs.ShowLemmas.{IfKept, kept-none, kept-viewed, kept-failed}
use Rattle.source_tools.proofs.show_files.show.Goals as goal
use Rattle.source_tools.proofs.show_files.show.Goals.{in-Ok+in_ok-write_all-in-Ok, in-Err+in_ok-push_fault-in-Err}

pub loop-index-init : goal.loop-index-init
loop-index-init g c =
    let out = g.W.Write.contents c.args.writer.now in
    let files = g.T.Target.files c.args.target.now in
    subst (λ (x : List FileFault). IfKept c.args.view files [] out out false x) (sym c.new-faults.ensures.items) (kept-none c.args.view files out)

pub loop-index-preserved : goal.loop-index-preserved
loop-index-preserved g c =
    let view = c.args.view in
    let files = g.T.Target.files c.args.target.now in
    let before = g.W.Write.contents c.args.writer.now in
    let now = g.W.Write.contents c.loop-index.writer in
    let has = c.loop-index.has_messages in
    let left = c.loop-index.faults.items in
    let done = take c.loop-index.index c.args.sources.now in
    let s : Source = c.index-sources-index.result in
    let more : take (c.loop-index.index + 1) c.args.sources.now ≡ done ++ s ∷ [] =
    take_more c.args.sources.now c.loop-index.index s c.loop-index-test.true ∙ ap (λ (x : Source). done ++ x ∷ []) (sym c.index-sources-index.is) in
    let at : c.loop-index.index ≡ length done = rw length-take (omega (arith, c.loop-index-test.true)) in
    subst (λ (ss : List Source). IfKept view files ss before (g.W.Write.contents c.match-view_file.writer) c.match-view_file.has_messages c.match-view_file.faults.items) (sym more)
    (elim c.match-view_file.branch [
      | in-Ok+in_ok-write_all-in-Ok w ↦
          let wrote = rw w.as_slice.ensures.value at w.in_ok-write_all-in-Ok.ensures.bytes in
          rw (w.writer-is, w.has_messages-is, w.faults-is)
          (kept-viewed view files done s before now (g.W.Write.contents w.write_all.new.self) has left c.view_file.result w.in-Ok.field-0 w.in-Ok.is c.view_file.ensures wrote c.loop-index.invariant)
      | in-Err+in_ok-push_fault-in-Err w ↦
          rw (w.writer-is, w.has_messages-is, w.faults-is, w.in_ok-push_fault-in-Err.ensures.pushed)
          (kept-failed view files done s before now has left c.view_file.result w.in-Err.error c.loop-index.index w.in-Err.is w.in_ok-push_fault-in-Err.ensures.memory at c.view_file.ensures c.loop-index.invariant)
    ])

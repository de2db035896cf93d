use Rattle.std.proofs.Common.{◌≡◌, ◌∙◌, ◌+◌, ◌++◌, ◌∷◌, [], List, map, take, get_or, ap, sym, subst}
use Rattle.std.proofs.lemmas.List.{take_more}
use Rattle.source_tools.specs.declared.writes.FileChange.{FileChange}
use Rattle.source_tools.specs.Writes.{Change, FailsIfKnown, HasChanges, change_in}
use Rattle.source_tools.proofs.WriteLemmas.{has-none, has-more, write-failed}
use Rattle.source_tools.proofs.PlanLemmas.{default-any}
use Rattle.source_tools.proofs.ListLemmas.{map-more}
use Rattle.source_tools.proofs.writes.write_changes.Goals as goal

pub loop-index-init : goal.loop-index-init
loop-index-init g c = has-none (g.T.Target.files c.args.target.now)

pub loop-index-preserved : goal.loop-index-preserved
loop-index-preserved g c =
    let done = take c.loop-index.index c.args.changes.now in
    let change : FileChange = c.index-changes-index.result in
    let more : take (c.loop-index.index + 1) c.args.changes.now ≡ done ++ change ∷ [] =
    take_more c.args.changes.now c.loop-index.index change c.loop-index-test.true ∙ ap (λ (x : FileChange). done ++ x ∷ []) (sym c.index-changes-index.is) in
    let before = g.T.Target.files c.args.target.now in
    let wrote = rw (c.as_str.ensures.value, c.as_slice.ensures.value) at c.write-written.ensures in
    subst (λ (cs : List Change). HasChanges cs before (g.T.Target.files c.write-written.new.self)) (sym (ap (λ (cs : List FileChange). map change_in cs) more ∙ map-more change_in done change))
    (has-more (map change_in done) (change_in change) change.version before (g.T.Target.files c.loop-index.target) (g.T.Target.files c.write-written.new.self) c.write-written.result
    c.in-Ok.field-0 c.in-Ok.is c.loop-index.invariant wrote)

pub returns-in-Err-clause-failed : goal.returns-in-Err-clause-failed
returns-in-Err-clause-failed g c = λ d.
    let done = take c.loop-index.index c.args.changes.now in
    let change : FileChange = c.index-changes-index.result in
    let before = g.T.Target.files c.args.target.now in
    let wrote = rw (c.as_str.ensures.value, c.as_slice.ensures.value) at c.write-written.ensures in
    let same : change ≡ get_or c.args.changes.now c.loop-index.index d = c.index-changes-index.is ∙ default-any c.args.changes.now c.loop-index.index change d c.loop-index-test.true in
    subst (λ (x : FileChange). FailsIfKnown before (g.T.Target.files c.write-written.new.self) (change_in x) c.in-Err.error) same
    (write-failed (map change_in done) (change_in change) before (g.T.Target.files c.loop-index.target) (g.T.Target.files c.write-written.new.self) c.write-written.result c.in-Err.error c.in-Err.is c.loop-index.invariant wrote)

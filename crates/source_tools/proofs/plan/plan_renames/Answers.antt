use Rattle.std.proofs.Common.{◌≡◌, ◌∙◌, ◌+◌, ◌++◌, ◌∷◌, [], List, take, string_bytes, ap, sym, subst}
use Rattle.std.proofs.lemmas.List.{take_more, take_all}
use Rattle.std.specs.Option.{option_to_list}
use Rattle.file_target.specs.Files.{Files, read_of}
use Rattle.source_tools.specs.Renames.{IsRenamableFile, RefusesFile, changes_of}
use Rattle.source_tools.specs.declared.source.Source.{Source}
use Rattle.source_tools.specs.declared.renaming.RenameFault.{RenameFault}
use Rattle.source_tools.proofs.PlanLemmas.{IfPlanned, planned-more, plan-memory, plan-refused}
use Rattle.source_tools.proofs.RenameLemmas.{memory-can}
use Rattle.source_tools.proofs.plan.plan_renames.Goals as goal

pub loop-index-preserved : goal.loop-index-preserved
loop-index-preserved g c =
    let ns = c.args.renamings.now in
    let files = g.T.Target.files c.args.target.now in
    let done = take c.loop-index.index c.args.sources.now in
    let s : Source = c.index-sources-index.result in
    let more : take (c.loop-index.index + 1) c.args.sources.now ≡ done ++ s ∷ [] =
    take_more c.args.sources.now c.loop-index.index s c.loop-index-test.true ∙ ap (λ (x : Source). done ++ x ∷ []) (sym c.index-sources-index.is) in
    rw c.in-Ok-push_change.ensures.pushed
    (subst (λ (ss : List Source). IfPlanned (IsRenamableFile ns) (changes_of ns) files ss (c.loop-index.changes.items ++ option_to_list c.in-Ok.change)) (sym more)
    (planned-more (IsRenamableFile ns) (changes_of ns) (RefusesFile ns) files done s c.loop-index.changes.items c.rename_file.result c.in-Ok.change c.in-Ok.is c.rename_file.ensures c.loop-index.invariant))

pub returns-in-Err : goal.returns-in-Err
returns-in-Err g c =
    let ns = c.args.renamings.now in
    plan-refused (IsRenamableFile ns) (changes_of ns) (RefusesFile ns) c.args.sources.now c.loop-index.index c.index-sources-index.result c.loop-index-test.true c.index-sources-index.is c.in-Err.fault
    c.loop-index.changes.items (g.T.Target.files c.args.target.now) c.rename_file.result c.in-Err.is c.loop-index.invariant c.rename_file.ensures

pub returns-in-Err-push_change : goal.returns-in-Err-push_change
returns-in-Err-push_change g c =
    let ns = c.args.renamings.now in
    let s = c.index-sources-index.result in
    plan-memory (IsRenamableFile ns) (changes_of ns) (RefusesFile ns) c.args.sources.now c.loop-index.index s c.loop-index-test.true c.index-sources-index.is c.in-Err-push_change.fault
    c.loop-index.changes.items (g.T.Target.files c.args.target.now) c.rename_file.result c.in-Ok.change c.in-Ok.is
    (λ (files : Files) (can : IsRenamableFile ns files s). subst (λ (e : RenameFault). RefusesFile ns files s e) (sym c.in-Err-push_change.ensures.memory) (memory-can ns s (read_of (files (string_bytes s.path))) can))
    c.loop-index.invariant c.rename_file.ensures

pub returns : goal.returns
returns g c =
    let ns = c.args.renamings.now in
    subst (λ (ss : List Source). IfPlanned (IsRenamableFile ns) (changes_of ns) (g.T.Target.files c.args.target.now) ss c.loop-index.changes.items) (take_all c.loop-index.index c.args.sources.now c.loop-index-test.false) c.loop-index.invariant

use Rattle.std.proofs.Common.{◌≡◌, ◌∙◌, ◌+◌, ◌++◌, ◌∷◌, [], List, take, ap, sym, subst}
use Rattle.std.proofs.lemmas.List.{take_more, take_all}
use Rattle.std.specs.Option.{option_to_list}
use Rattle.file_target.specs.Files.{Files, read_of}
use Rattle.source_rewrites.specs.Rewrites.{IsRewritableFile, RefusesFile, changes_of, path_of}
use Rattle.source_rewrites.specs.declared.rewrite.Rewrite.{Rewrite}
use Rattle.source_rewrites.specs.declared.rewrite.RewriteFault.{RewriteFault}
use Rattle.source_tools.proofs.PlanLemmas.{IfPlanned, planned-more, plan-memory, plan-refused}
use Rattle.source_rewrites.proofs.RewriteLemmas.{memory-can}
use Rattle.source_rewrites.proofs.plan.plan_rewrites.Goals as goal

pub loop-index-preserved : goal.loop-index-preserved
loop-index-preserved g c =
    let n = c.args.rule in
    let files = g.T.Target.files c.args.target.now in
    let done = take c.loop-index.index c.args.rewrites.now in
    let s : Rewrite = c.index-rewrites-index.result in
    let more : take (c.loop-index.index + 1) c.args.rewrites.now ≡ done ++ s ∷ [] =
    take_more c.args.rewrites.now c.loop-index.index s c.loop-index-test.true ∙ ap (λ (x : Rewrite). done ++ x ∷ []) (sym c.index-rewrites-index.is) in
    rw c.in-Ok-push_change.ensures.pushed
    (subst (λ (ss : List Rewrite). IfPlanned (IsRewritableFile n) (changes_of n) files ss (c.loop-index.changes.items ++ option_to_list c.in-Ok.change)) (sym more)
    (planned-more (IsRewritableFile n) (changes_of n) (RefusesFile n) files done s c.loop-index.changes.items c.rewrite_file.result c.in-Ok.change c.in-Ok.is c.rewrite_file.ensures c.loop-index.invariant))

pub returns-in-Err : goal.returns-in-Err
returns-in-Err g c =
    let n = c.args.rule in
    plan-refused (IsRewritableFile n) (changes_of n) (RefusesFile n) c.args.rewrites.now c.loop-index.index c.index-rewrites-index.result c.loop-index-test.true c.index-rewrites-index.is c.in-Err.fault
    c.loop-index.changes.items (g.T.Target.files c.args.target.now) c.rewrite_file.result c.in-Err.is c.loop-index.invariant c.rewrite_file.ensures

pub returns-in-Err-push_change : goal.returns-in-Err-push_change
returns-in-Err-push_change g c =
    let n = c.args.rule in
    let s = c.index-rewrites-index.result in
    plan-memory (IsRewritableFile n) (changes_of n) (RefusesFile n) c.args.rewrites.now c.loop-index.index s c.loop-index-test.true c.index-rewrites-index.is c.in-Err-push_change.fault
    c.loop-index.changes.items (g.T.Target.files c.args.target.now) c.rewrite_file.result c.in-Ok.change c.in-Ok.is
    (λ (files : Files) (can : IsRewritableFile n files s). subst (λ (e : RewriteFault). RefusesFile n files s e) (sym c.in-Err-push_change.ensures.memory) (memory-can n s (read_of (files (path_of s))) can))
    c.loop-index.invariant c.rewrite_file.ensures

pub returns : goal.returns
returns g c =
    let n = c.args.rule in
    subst (λ (ss : List Rewrite). IfPlanned (IsRewritableFile n) (changes_of n) (g.T.Target.files c.args.target.now) ss c.loop-index.changes.items) (take_all c.loop-index.index c.args.rewrites.now c.loop-index-test.false) c.loop-index.invariant

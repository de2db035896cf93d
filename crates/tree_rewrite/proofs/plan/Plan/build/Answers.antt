use Rattle.std.proofs.Common.{◌≡◌, Some, false, IfSome, is_none, sym, ◌∙◌, ap, subst, option_map}
use Rattle.std.specs.List.{All}
use Rattle.tree_rewrite.specs.Change.{has_collision, KeepsRoot}
use Rattle.tree_rewrite.specs.Held.{Holds}
use Rattle.tree_rewrite.specs.Rewrite.{jobs}
use Rattle.tree_rewrite.proofs.DepthLemmas.{jobs_deeper}
use Rattle.tree_rewrite.proofs.JobLemmas.{jobs_are_plan}
use Rattle.tree_rewrite.proofs.RootLemmas.{jobs_keep, recorded_keep}
use Rattle.tree_rewrite.proofs.plan.Plan.build.Goals as goal

pub jobs_of-requires-clause-apart : goal.jobs_of-requires-clause-apart
jobs_of-requires-clause-apart c =
    ap has_collision (c.deref-2.ensures.value ∙ sym c.deref.ensures.value) ∙ sym c.in_ok-held.ensures.collision ∙ ap is_none c.in-Some.is

pub jobs_of-requires-clause-holds : goal.jobs_of-requires-clause-holds
jobs_of-requires-clause-holds c =
    let same = sym (c.deref-2.ensures.value ∙ sym c.deref.ensures.value) in
    subst (Holds c.in-Some.held) same (subst (λ o. IfSome o (λ m. Holds m c.deref.result.now)) c.in-Some.is c.in_ok-held.ensures.holds)

pub invariant_of-result : goal.invariant_of-result
invariant_of-result c =
    let cs = c.deref-2.result.now in
    let js = c.in-Some-2.jobs.items in
    let of : jobs c.args.root.now cs c.args.mapping.now ≡ Some js = ap (λ ms. jobs c.args.root.now cs ms) (sym c.in_ok-mapped.ensures) ∙ sym c.in_ok-jobs.ensures ∙ ap (λ o. option_map (λ v. v.items) o) c.in-Some-2.is in
    let apart : has_collision cs ≡ false = ap has_collision (c.deref-2.ensures.value ∙ sym c.deref.ensures.value) ∙ sym c.in_ok-held.ensures.collision ∙ ap is_none c.in-Some.is in
    let keep = subst (λ l. All KeepsRoot l) (sym (c.deref-2.ensures.value ∙ c.in_ok-changes.ensures.changes)) (recorded_keep c.args.changes.items c.requires.root) in
    (jobs_deeper c.args.root.now cs c.args.mapping.now js of, (jobs_are_plan c.args.root.now cs c.args.mapping.now js apart of).apart, jobs_keep c.args.root.now cs c.args.mapping.now js of keep)

pub returns-in_default-clause-refused : goal.returns-in_default-clause-refused
returns-in_default-clause-refused c =
    ap has_collision (sym c.in_ok-changes.ensures.changes ∙ sym c.deref.ensures.value) ∙ sym c.in_ok-held.ensures.collision ∙ ap is_none c.in_default.is

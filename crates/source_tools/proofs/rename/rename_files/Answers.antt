use Rattle.std.proofs.Common.{◌∙◌, ap, length, sym}
use Rattle.source_tools.specs.Renames.{IsRenamableFile, changes_of}
use Rattle.source_tools.proofs.PlanLemmas.{plan-count, plan-failed, plan-stopped}
use Rattle.source_tools.proofs.rename.rename_files.Goals as goal

pub returns-in-Err-clause-refused : goal.returns-in-Err-clause-refused
returns-in-Err-clause-refused g c =
    let ns = c.args.renamings.now in
    plan-failed (IsRenamableFile ns) (changes_of ns) _ c.args.sources.now (g.T.Target.files c.args.target.now) c.plan_renames.result c.in-Err.failure c.in-Err.is c.plan_renames.ensures

pub returns-in-Ok-write_changes-clause-renamed : goal.returns-in-Ok-write_changes-clause-renamed
returns-in-Ok-write_changes-clause-renamed g c =
    let ns = c.args.renamings.now in
    let files = g.T.Target.files c.args.target.now in
    let after = g.T.Target.files c.write_changes.new.target in
    let written = rw c.as_slice.ensures.value at c.in-Ok-write_changes.ensures.written in
    let count = c.len.ensures ∙ sym c.as_slice.ensures.len ∙ ap length c.as_slice.ensures.value in
    plan-count (IsRenamableFile ns) (changes_of ns) _ c.args.sources.now files after c.plan_renames.result c.in-Ok.changes c.len.result c.in-Ok.is c.plan_renames.ensures written count

pub returns-clause-stopped : goal.returns-clause-stopped
returns-clause-stopped g c =
    let ns = c.args.renamings.now in
    let files = g.T.Target.files c.args.target.now in
    let after = g.T.Target.files c.write_changes.new.target in
    let v = c.in-Ok.changes in
    let fault = c.in-Err-write_changes.field-0 in
    let front = rw c.as_slice.ensures.value at c.in-Err-write_changes.ensures.front in
    let within = rw c.as_slice.ensures.value at c.in-Err-write_changes.ensures.index in
    let failed = rw c.as_slice.ensures.value at c.in-Err-write_changes.ensures.failed in
    plan-stopped (IsRenamableFile ns) (changes_of ns) _ c.args.sources.now files after c.plan_renames.result v fault.index _ c.swap_remove.result fault.error c.in-Ok.is c.plan_renames.ensures within front
    c.swap_remove.ensures.value c.into_path-path.ensures failed

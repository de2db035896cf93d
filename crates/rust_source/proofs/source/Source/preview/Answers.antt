use Rattle.std.proofs.Common.{rules, ◌≡◌}
use Rattle.std.proofs.lemmas.Result.{err_from_is_err_and}
use Rattle.rowan_green.specs.Forest.{tree_text}
use Rattle.rust_document.specs.Rewrite.{rewritten}
use Rattle.rust_document.specs.Step.{verdict, Accepted}
use Rattle.rust_source.proofs.Accepted.{accepted-short}
use Rattle.rust_source.proofs.source.Source.preview.Goals as goal

pub changed_ranges-requires-clause-after : goal.changed_ranges-requires-clause-after
changed_ranges-requires-clause-after c =
    let same : c.as_str.result.now ≡ tree_text (rewritten c.args.editor.now) = search rules in
    rw same (accepted-short c.self.inside.document c.args.editor.now c.in_ok-text.ensures.accepted)

pub returns-in_err-text-clause-refused : goal.returns-in_err-text-clause-refused
returns-in_err-text-clause-refused c =
    let p = err_from_is_err_and c.from_residual.result c.from_residual.ensures.1 in
    rw (p.1, p.2) (rw (← c.self.view_is) c.in_err-text.ensures.refused)

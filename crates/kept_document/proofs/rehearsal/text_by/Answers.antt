use Rattle.kept_document.proofs.RewrittenTexts.{made, none-intersecting, none-long, none-missing}
use Rattle.kept_document.proofs.rehearsal.text_by.Goals as goal

pub returns-in_ok-renamed_text-in-Ok : goal.returns-in_ok-renamed_text-in-Ok
returns-in_ok-renamed_text-in-Ok c = made c.args.editor.now c.in-Ok.rewritten.green _ c.in-Ok.ensures.placeable c.in-Ok.ensures.fits c.in-Ok.ensures.green c.in_ok-renamed_text-in-Ok.ensures

pub returns-in-Err-Intersecting : goal.returns-in-Err-Intersecting
returns-in-Err-Intersecting c = none-intersecting c.args.editor.now (rw c.in-Err-Intersecting.field-0-is at c.in-Err-Intersecting.ensures.refused)

pub returns-in-Err-MissingMapping : goal.returns-in-Err-MissingMapping
returns-in-Err-MissingMapping c = none-missing c.args.editor.now (rw c.in-Err-MissingMapping.field-0-is at c.in-Err-MissingMapping.ensures.refused)

pub returns-in-Err-TooLong : goal.returns-in-Err-TooLong
returns-in-Err-TooLong c = none-long c.args.editor.now (rw c.in-Err-TooLong.field-0-is at c.in-Err-TooLong.ensures.refused)

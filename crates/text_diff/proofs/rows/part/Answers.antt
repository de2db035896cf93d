use Rattle.text_diff.proofs.TextLemmas.{part-is}
use Rattle.text_diff.proofs.rows.part.Goals as goal

pub returns : goal.returns
returns c = part-is (λ l. l.now) c.args.lines.now c.args.from c.args.to c.min-to.result c.min-from.result c.min-to.ensures c.min-from.ensures

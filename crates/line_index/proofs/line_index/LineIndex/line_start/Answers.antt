use Rattle.std.proofs.Common.{◌∙◌}
use Rattle.line_index.proofs.IndexLemmas.{start-copied}
use Rattle.line_index.proofs.line_index.LineIndex.line_start.Goals as goal

pub returns : goal.returns
returns c =
    let at = rw (c.deref.ensures.value, c.self.invariant) at c.get.ensures.lookup in
    rw (← c.self.view_is) (c.copied.ensures ∙ start-copied c.self.inside.text.now c.args.line c.get.result at)

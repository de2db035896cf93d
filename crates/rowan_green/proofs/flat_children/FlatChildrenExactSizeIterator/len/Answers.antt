use Rattle.std.proofs.Common.{ap, length, sym, ◌∙◌}
use Rattle.rowan_green.proofs.FlatRefLemmas.{length-between}
use Rattle.rowan_green.proofs.flat_children.FlatChildrenExactSizeIterator.len.Goals as goal

pub returns-clause-value : goal.returns-clause-value
returns-clause-value c =
    let n = length-between c.self.inside.arena.now.value c.self.inside.start c.self.inside.end c.self.invariant in
    sym n ∙ ap length c.self.view_is

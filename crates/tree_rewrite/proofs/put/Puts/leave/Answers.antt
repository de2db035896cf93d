use Rattle.std.proofs.Common.{refl}
use Rattle.tree_rewrite.proofs.GreenLemmas.{popped}
use Rattle.tree_rewrite.proofs.PutMarkLemmas.{marks-more-close}
use Rattle.tree_rewrite.proofs.put.Puts.leave.Goals as goal

pub returns-in-Some : goal.returns-in-Some
returns-in-Some c = λ s h.
    let p = c.args.self.now in
    let last = popped p.around.items c.pop.new.self.items c.pop.result c.in-Some.told c.in-Some.told c.in-Some.is refl c.pop.ensures.items in
    marks-more-close p _ c.in-Some.told s last refl refl h

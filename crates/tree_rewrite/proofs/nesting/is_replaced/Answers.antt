use Rattle.std.proofs.Common.{◌∙◌, sym, Bor}
use Rattle.tree_rewrite.specs.Change.{Change}
use Rattle.tree_rewrite.proofs.HeldLemmas.{found-any}
use Rattle.tree_rewrite.proofs.nesting.is_replaced.Goals as goal

pub returns : goal.returns
returns c = λ w at. c.is_some.ensures ∙ sym (found-any (λ (x : Bor Change). x.now) c.change_of.result w c.args.changes.now (c.change_of.ensures w at))

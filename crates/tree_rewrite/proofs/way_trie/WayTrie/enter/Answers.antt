use Rattle.std.proofs.Common.{◌∙◌, sym, arith}
use Rattle.tree_rewrite.proofs.TrieStepLemmas.{has_child, has_new}
use Rattle.tree_rewrite.proofs.way_trie.WayTrie.enter.Goals as goal

pub returns-in-Some : goal.returns-in-Some
returns-in-Some c = λ u at. has_child c.args.self.now u c.args.parent c.args.index c.in-Some.node c.requires.sound at (sym c.child.ensures ∙ c.in-Some.is)

pub returns : goal.returns
returns c = λ u at.
    has_new c.args.self.now _ u c.args.parent c.args.index c.len-node.result c.requires.sound (omega (arith, c.len-node.ensures)) at
    (sym c.child.ensures ∙ c.in_default.is) (λ p i. c.in_ok-insert.ensures.updates.0 (p, i)) c.in_ok-push.ensures.items

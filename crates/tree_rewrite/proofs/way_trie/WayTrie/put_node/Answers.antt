use Rattle.std.proofs.Common.{◌∙◌, ap, sym, is_some, length, refl, arith}
use Rattle.tree_rewrite.specs.WayTrie.{child_in}
use Rattle.tree_rewrite.proofs.TrieLemmas.{below}
use Rattle.tree_rewrite.proofs.TrieStepLemmas.{put_taken, put_here, put_sound}
use Rattle.tree_rewrite.proofs.way_trie.WayTrie.put_node.Goals as goal

pub returns-then-is_some-clause-put : goal.returns-then-is_some-clause-put
returns-then-is_some-clause-put c = λ v t has.
    put_taken t c.args.self.now v c.args.node has (ap is_some (sym c.number.ensures) ∙ sym c.is_some.ensures ∙ c.if-is_some.true)

pub index_mut-requires : goal.index_mut-requires
index_mut-requires c =
    let s = c.args.self.now in
    omega (arith, s.numbers.ok.0, below (child_in s.children) (length s.numbers.items) c.requires.sound c.requires.node.0 c.args.node c.requires.node.1)

pub returns-clause-put : goal.returns-clause-put
returns-clause-put c = λ v t has.
    put_here t c.args.self.now _ v c.args.node c.args.number has (ap is_some (sym c.number.ensures) ∙ sym c.is_some.ensures ∙ c.if-is_some.false) refl refl

pub returns-clause-sound : goal.returns-clause-sound
returns-clause-sound c = put_sound c.args.self.now c.args.node c.args.number c.requires.sound

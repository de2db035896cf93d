use Rattle.std.proofs.Common.{◌≡◌, ◌++◌, arith, length, map, sym, ap, ◌∙◌, subst}
use Rattle.std.proofs.lemmas.List.{append-nil, drop_all}
use Rattle.syntax_tree.specs.Handle.{element_of}
use Rattle.tree_rewrite.specs.Came.{all_origins}
use Rattle.tree_rewrite.specs.Pieces.{after}
use Rattle.tree_rewrite.specs.Puts.{MarksPuts}
use Rattle.tree_rewrite.proofs.CameLemmas.{origins-said}
use Rattle.tree_rewrite.proofs.PutMarkLemmas.{marked, brought-after}
use Rattle.tree_rewrite.proofs.origins.origins_of.Goals as goal

pub step-requires : goal.step-requires
step-requires c =
    let old = c.loop-piece.elements.items in
    let added = ap (map element_of) c.deref.ensures.value ∙ c.in_ok-push_piece.ensures in
    let before : c.len-before.result ≡ length old = grind arith in
    brought-after element_of old c.deref.result.now _ c.len-before.result before added

pub returns-clause-elements : goal.returns-clause-elements
returns-clause-elements c = λ m h.
    let now = map element_of c.loop-piece.elements.items in
    let none = drop_all c.loop-piece.piece-index c.args.pieces.now c.loop-piece-test.false in
    sym (ap (λ l. now ++ all_origins l) none ∙ append-nil now) ∙ c.loop-piece.invariant.0 ∙ origins-said c.args.pieces.now m h

pub returns-clause-put : goal.returns-clause-put
returns-clause-put c = λ m h.
    let inv = c.loop-piece.invariant in
    let none = drop_all c.loop-piece.piece-index c.args.pieces.now c.loop-piece-test.false in
    let end = sym (ap (λ l. after l inv.1) none) ∙ inv.3 in
    marked c.loop-piece.puts c.args.pieces.now m h (subst (λ s. MarksPuts c.loop-piece.puts s) end inv.2)

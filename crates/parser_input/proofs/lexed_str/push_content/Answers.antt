-- Leaf by leaf, up to the end.
use Rattle.std.proofs.Common.{◌∙◌, ◌+◌, ℕ, List, sym, ap, subst, arith, chars}
use Rattle.std.proofs.lemmas.Str.{IsCharBoundary-from_drop}
use Rattle.rustc_lexer.specs.Characters.{size}
use Rattle.parser_input.specs.Stored.{Found, leaf_next}
use Rattle.parser_input.specs.declared.lexed_str.StoredLeaf.{StoredLeaf}
use Rattle.parser_input.proofs.LexedSteps.{found-long, found-more}
use Rattle.parser_input.proofs.lexed_str.push_content.Goals as goal

pub range_from-requires : goal.range_from-requires
range_from-requires c = λ h. IsCharBoundary-from_drop c.args.text.now c.leaves.place c.leaves.invariant.within c.leaves.invariant.utf8

pub overflow_add-place : goal.overflow_add-place
overflow_add-place c =
    let ed = c.args.edition in
    let len = c.next_leaf-next.ensures.len ∙ ap (λ (x : List ℕ). size (leaf_next ed (chars x)).leaf.text) c.range_from.ensures.value in
    let long = found-long ed c.args.text.now c.leaves.place c.leaves.leaves.items c.leaves.invariant c.leaves-test.true in
    omega (arith, len, long.1)

pub leaves-smaller : goal.leaves-smaller
leaves-smaller c =
    let ed = c.args.edition in
    let len = c.next_leaf-next.ensures.len ∙ ap (λ (x : List ℕ). size (leaf_next ed (chars x)).leaf.text) c.range_from.ensures.value in
    let long = found-long ed c.args.text.now c.leaves.place c.leaves.leaves.items c.leaves.invariant c.leaves-test.true in
    omega (arith, len, long.0, long.1)

pub leaves-preserved : goal.leaves-preserved
leaves-preserved c =
    let ed = c.args.edition in
    let text = c.args.text.now in
    let place = c.leaves.place in
    let next = c.next_leaf-next.result in
    let at = c.range_from.ensures.value in
    let p : StoredLeaf = record { kind = next.kind; message = next.message; end = place + next.len } in
    let kind = c.next_leaf-next.ensures.kind ∙ ap (λ (x : List ℕ). (leaf_next ed (chars x)).leaf.kind) at in
    let message = c.next_leaf-next.ensures.message ∙ ap (λ (x : List ℕ). (leaf_next ed (chars x)).message) at in
    let end = ap (λ (n : ℕ). place + n) (c.next_leaf-next.ensures.len ∙ ap (λ (x : List ℕ). size (leaf_next ed (chars x)).leaf.text) at) in
    let more = found-more ed text place c.leaves.leaves.items p c.leaves.invariant c.leaves-test.true kind message end in
    subst (λ (ps : List StoredLeaf). Found ed text (place + next.len) ps) (sym c.in_ok-push.ensures.items) more

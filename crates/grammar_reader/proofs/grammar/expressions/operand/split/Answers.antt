-- A float that ends in a dot, and one that does not.
use Rattle.std.proofs.Common.{◌≡◌, ◌+◌, ℕ, ◌∙◌, sym, subst, arith, rules}
use Rattle.parser_events.specs.Stack.{IsInnermost}
use Rattle.rust_productions.specs.Looks.{tokens, spent}
use Rattle.rust_productions.proofs.Looking.{fewer-tokens, paid-looks, same-left, same-spent}
use Rattle.rust_productions.proofs.Moves.{child, does-wrap}
use Rattle.grammar_reader.proofs.Operands.{does-access, does-split, float-next, split-innermost}
use Rattle.grammar_reader.proofs.grammar.expressions.operand.split.Goals as goal

pub split_float-frame-requires : goal.split_float-frame-requires
split_float-frame-requires c = record { innermost = c.requires.innermost; float = float-next c.requires.float.float }

pub returns-then-not-joint-clause-reads : goal.returns-then-not-joint-clause-reads
returns-then-not-joint-clause-reads c = does-split c.args.joint c.requires.float.joint c.if-not-joint.true c.split_float-frame.ensures.nodes c.split_float-frame.ensures.same (λ n i. split-innermost _ _ _ _ i c.split_float-frame.ensures.nodes)

pub returns-then-not-joint-clause-takes : goal.returns-then-not-joint-clause-takes
returns-then-not-joint-clause-takes c = record {
  left = fewer-tokens 1 _ _ c.split_float-frame.ensures.same c.requires.float.some;
  looks = paid-looks 1 _ _ c.split_float-frame.ensures.same c.requires.float.some;
  marker = search rules;
}

pub close-closed-requires : goal.close-closed-requires
close-closed-requires c = subst (λ (m : ℕ). IsInnermost m c.split_float-frame.new.self.nodes) (sym c.split_float-frame.ensures.marker) (split-innermost _ _ _ _ c.requires.innermost c.split_float-frame.ensures.nodes)

pub precede-requires : goal.precede-requires
precede-requires c = child _ _ _ _ _ (split-innermost _ _ _ _ c.requires.innermost c.split_float-frame.ensures.nodes) c.close-closed.ensures.nodes c.close-closed.ensures.place

pub returns-clause-reads : goal.returns-clause-reads
returns-clause-reads c =
    let there = split-innermost _ _ _ _ c.requires.innermost c.split_float-frame.ensures.nodes in
    does-access c.args.joint c.args.frame _ c.requires.float.joint c.if-not-joint.false c.split_float-frame.ensures.nodes c.split_float-frame.ensures.same there c.close-closed.ensures.nodes c.close-closed.ensures.same c.close-closed.ensures.place c.precede.ensures.nodes c.precede.ensures.same
    (λ n i. (does-wrap _ _ _ _ _ _ there c.close-closed.ensures.nodes c.close-closed.ensures.same c.close-closed.ensures.place c.precede.ensures.nodes c.precede.ensures.same).innermost n (split-innermost _ _ _ _ i c.split_float-frame.ensures.nodes))

pub returns-clause-takes : goal.returns-clause-takes
returns-clause-takes c = record {
  left =
      let kept : tokens c.precede.new.self ≡ tokens c.split_float-frame.new.self = same-left _ _ _ c.precede.ensures.same ∙ same-left _ _ _ c.close-closed.ensures.same in
      let taken : tokens c.split_float-frame.new.self + 1 ≡ tokens c.args.p.now = fewer-tokens 1 _ _ c.split_float-frame.ensures.same c.requires.float.some in
      omega (arith, kept, taken);
  looks =
      let kept : spent c.precede.new.self ≡ spent c.split_float-frame.new.self = same-spent _ _ _ c.precede.ensures.same ∙ same-spent _ _ _ c.close-closed.ensures.same in
      let paid : spent c.split_float-frame.new.self + 4096 ≡ spent c.args.p.now = paid-looks 1 _ _ c.split_float-frame.ensures.same c.requires.float.some in
      omega (arith, kept, paid);
  marker = search rules;
}

-- Operands with the operators between them, path by path.
use Rattle.std.proofs.Common.{◌≡◌, ℕ, ◌+◌, ◌-◌, ◌≤◌, Bool, true, false, nat_eq, refl, sym, subst, arith, inl, inr, rules}
use Rattle.std.proofs.lemmas.Bool.{eqb-true}
use Rattle.rust_grammar.specs.Notation.{more}
use Rattle.rust_grammar.specs.Rule.{Rule}
use Rattle.rust_productions.specs.Layers.{layer_at, operators_at, repeated, turn_at, turns_from}
use Rattle.rust_productions.specs.Looks.{tokens}
use Rattle.rust_productions.specs.Reads.{Reads}
use Rattle.rust_productions.specs.declared.condition.Condition.TheVariants.{On}
use Rattle.rust_productions.proofs.ByHand.{after-look, does-nothing, reads-call, reads-missing, reads-then, reads-want, reads-wrap}
use Rattle.rust_productions.proofs.Facts.{saw-so}
use Rattle.rust_productions.proofs.Layering.{binary-turn, gives-layer, last-turn-of, next-turn-of, saw-layer}
use Rattle.rust_productions.proofs.Operators.{next-after}
use Rattle.rust_productions.proofs.Ranges.{begins-call}
use Rattle.rust_productions.proofs.Seen.{saw-after, saw-inside}
use Rattle.grammar_reader.proofs.grammar.+grammar.Goals as goal

pub expressions::layers::layers-prefixed-requires : goal.expressions::layers::layers-prefixed-requires
expressions::layers::layers-prefixed-requires t c = (omega arith, (saw-inside c.start-frame.ensures.opens c.requires.begins.sees, omega arith))

pub expressions::layers::layers-climb-frame-requires : goal.expressions::layers::layers-climb-frame-requires
expressions::layers::layers-climb-frame-requires t c = (omega arith, (c.requires.high, c.prefixed.ensures.gives.does.innermost _ c.start-frame.ensures.marker))

pub expressions::layers::layers-returns-clause-gives : goal.expressions::layers::layers-returns-clause-gives
expressions::layers::layers-returns-clause-gives t c = gives-layer c.args.condition c.args.height c.requires.high c.start-frame.ensures.opens (reads-then _ (reads-call _ c.prefixed.ensures.gives) c.climb-frame.ensures.reads) c.abandon.ensures.leaves

pub expressions::layers::turn-expect_layer-requires : goal.expressions::layers::turn-expect_layer-requires
expressions::layers::turn-expect_layer-requires t c = (omega arith, omega (arith, c.requires.layer.high))

pub expressions::layers::turn-wrap-requires : goal.expressions::layers::turn-wrap-requires
expressions::layers::turn-wrap-requires t c = (c.expect_part.ensures.reads On).does.innermost _ ((c.take_operator.ensures.reads On).does.innermost _ c.requires.innermost)

pub expressions::layers::turn-wrap-requires-2 : goal.expressions::layers::turn-wrap-requires-2
expressions::layers::turn-wrap-requires-2 t c = c.expect_layer.ensures.reads.does.innermost _ ((c.take_operator.ensures.reads On).does.innermost _ c.requires.innermost)

pub expressions::layers::expect_layer-layers-requires : goal.expressions::layers::expect_layer-layers-requires
expressions::layers::expect_layer-layers-requires t c = (omega arith, (record { sees = saw-after c.at_operand.ensures.peeks.same (saw-so c.at_operand.ensures.sees c.if-at_operand.true); some = omega (arith, c.at_operand.ensures.some c.if-at_operand.true, c.at_operand.ensures.peeks.left) }, c.requires.high))

pub expressions::layers::expect_layer-returns-then-at_operand-clause-reads : goal.expressions::layers::expect_layer-returns-then-at_operand-clause-reads
expressions::layers::expect_layer-returns-then-at_operand-clause-reads t c = reads-want _ (begins-call (layer_at c.args.height) (saw-layer c.args.height c.requires.high (saw-so c.at_operand.ensures.sees c.if-at_operand.true))) (after-look _ c.at_operand.ensures.peeks.same (reads-call _ c.layers.ensures.gives))

pub expressions::layers::expect_layer-returns-clause-reads : goal.expressions::layers::expect_layer-returns-clause-reads
expressions::layers::expect_layer-returns-clause-reads t c = reads-missing _ (begins-call (layer_at c.args.height) (saw-layer c.args.height c.requires.high (saw-so c.at_operand.ensures.sees c.if-at_operand.false))) (after-look _ c.at_operand.ensures.peeks.same (c.error.ensures.reads _))

pub expressions::layers::climb-turns-init : goal.expressions::layers::climb-turns-init
expressions::layers::climb-turns-init t c = record {
  marker = c.current_op-next.ensures.peeks.same.innermost _ c.requires.innermost;
  next = next-after c.current_op-next.ensures.peeks.same c.current_op-next.ensures.next;
  goes = record {
    rest = λ end p. subst (λ (n : ℕ). Reads c.args.condition (repeated (turns_from n 1)) c.current_op-next.new.p end) (let e : c.args.top + 1 - 1 ≡ c.args.top = omega arith in e) p;
  };
  some = omega arith;
  low = omega arith;
  left = omega arith;
  looks = omega arith;
}

pub expressions::layers::climb-turns-preserved : goal.expressions::layers::climb-turns-preserved
unfolding tokens
expressions::layers::climb-turns-preserved t c =
    let turned =
    next-turn-of c.args.condition c.turns.lowest c.args.top c.turns.invariant.some (omega arith) (omega arith) c.requires.high c.turns.invariant.goes c.turns.invariant.next c.turn-frame.ensures.reads
    (omega (arith, c.turn-frame.ensures.takes.left)) in
    record {
      marker = c.current_op-next-in-turns.ensures.peeks.same.innermost _ c.turn-frame.ensures.takes.marker;
      next = next-after c.current_op-next-in-turns.ensures.peeks.same c.current_op-next-in-turns.ensures.next;
      goes = record { rest = λ end p. turned.rest end (after-look _ c.current_op-next-in-turns.ensures.peeks.same p) };
      some = omega (arith, c.turns.invariant.some);
      low = omega arith;
      left = omega (arith, c.turns.invariant.left, c.turn-frame.ensures.takes.left, c.current_op-next-in-turns.ensures.peeks.left);
      looks = omega (arith, c.turns.invariant.looks, c.turn-frame.ensures.takes.looks, c.current_op-next-in-turns.ensures.peeks.looks);
    }

pub expressions::layers::climb-returns-after-turns-clause-reads : goal.expressions::layers::climb-returns-after-turns-clause-reads
expressions::layers::climb-returns-after-turns-clause-reads t c = after-look _ c.current_op-next.ensures.peeks.same (last-turn-of c.args.condition c.turns.lowest c.args.top c.turns.invariant.some c.turns.invariant.low c.requires.high (inl (omega arith)) c.turns.invariant.goes c.turns.invariant.next (does-nothing _))

pub expressions::layers::climb-returns-after-turns-clause-asks : goal.expressions::layers::climb-returns-after-turns-clause-asks
expressions::layers::climb-returns-after-turns-clause-asks t c = record {
  left = omega arith;
  looks = omega (arith, c.turns.invariant.looks, c.current_op-next.ensures.peeks.looks);
  marker = search rules;
}

pub expressions::layers::climb-returns-else-next-top-clause-reads : goal.expressions::layers::climb-returns-else-next-top-clause-reads
expressions::layers::climb-returns-else-next-top-clause-reads t c = after-look _ c.current_op-next.ensures.peeks.same (last-turn-of c.args.condition c.turns.lowest c.args.top c.turns.invariant.some c.turns.invariant.low c.requires.high (inr (omega arith)) c.turns.invariant.goes c.turns.invariant.next (does-nothing _))

pub expressions::layers::climb-returns-else-next-top-clause-asks : goal.expressions::layers::climb-returns-else-next-top-clause-asks
expressions::layers::climb-returns-else-next-top-clause-asks t c = record {
  left = omega arith;
  looks = omega (arith, c.turns.invariant.looks, c.current_op-next.ensures.peeks.looks);
  marker = search rules;
}

not-one : (h : ℕ) → 2 ≤ h → nat_eq h 1 ≡ false
not-one h more = which (nat_eq h 1) refl
  where
    which : (b : Bool) → nat_eq h 1 ≡ b → nat_eq h 1 ≡ false
    which true e = absurd (omega (arith, more, eqb-true h 1 e))
    which false e = e

pub expressions::layers::turn-returns-then-operator-eq1-clause-reads : goal.expressions::layers::turn-returns-then-operator-eq1-clause-reads
unfolding turn_at
expressions::layers::turn-returns-then-operator-eq1-clause-reads t c =
    let is : c.args.operator.height ≡ 1 = omega arith in
    subst (λ (h : ℕ). Reads c.args.condition (turn_at h) c.args.p.now c.wrap.new.p) (sym is)
    (reads-wrap _ (reads-then _ (subst (λ (h : ℕ). Reads c.args.condition (operators_at h) c.args.p.now c.take_operator.new.p) is (c.take_operator.ensures.reads _)) (c.expect_part.ensures.reads _)) c.wrap.ensures.wraps)

pub expressions::layers::turn-returns-clause-reads : goal.expressions::layers::turn-returns-clause-reads
expressions::layers::turn-returns-clause-reads t c =
    subst (λ (r : Rule). Reads c.args.condition r c.args.p.now c.wrap-2.new.p) (sym (binary-turn c.args.operator.height c.requires.layer.some (not-one c.args.operator.height (omega (arith, c.requires.layer.some)))))
    (reads-wrap _ (reads-then _ (c.take_operator.ensures.reads _) c.expect_layer.ensures.reads) c.wrap-2.ensures.wraps)

-- Each leaf is passed, up to the one that the walk ends at.
use Rattle.std.proofs.Common.{◌≡◌, ◌≤◌, ◌==◌, ◌-◌, ℕ, true, false, length, ap, sym, ◌∙◌, arith}
use Rattle.parser_input.specs.Kinds.{COMMENT}
use Rattle.parser_input.specs.Stored.{leaf_at}
use Rattle.parser_events.proofs.Walks.{walk-begins, walk-ends, walk-stops, walk-past-comment, walk-past-space}
use Rattle.parser_events.proofs.trivia.first_inside.Goals as goal

pub back-init : goal.back-init
back-init c = (c.requires.order, omega arith, omega arith, walk-begins c.args.lexed.now.leaves c.args.start c.args.end)

pub back-preserved-then-is_comment : goal.back-preserved-then-is_comment
back-preserved-then-is_comment c =
    let ls = c.args.lexed.now.leaves in
    let place = c.back.place in
    let some = c.back-test.true in
    let far : place ≤ c.args.end = omega (arith, c.back.invariant.1, c.back.invariant.2) in
    let e : ((leaf_at ls (place - 1)).leaf.kind == COMMENT) ≡ true =
    ap (λ (k : ℕ). k == COMMENT) (sym c.kind.ensures) ∙ sym c.is_comment.ensures ∙ c.if-is_comment.true in
    let on = walk-past-comment ls c.args.start c.args.end place c.back.first some far c.requires.within (sym c.stops_at.ensures ∙ c.if-stops_at.false) e in
    (omega (arith, some), omega arith, omega (arith, far), sym on ∙ c.back.invariant.3)

pub back-preserved : goal.back-preserved
back-preserved c =
    let ls = c.args.lexed.now.leaves in
    let place = c.back.place in
    let some = c.back-test.true in
    let far : place ≤ c.args.end = omega (arith, c.back.invariant.1, c.back.invariant.2) in
    let e : ((leaf_at ls (place - 1)).leaf.kind == COMMENT) ≡ false =
    ap (λ (k : ℕ). k == COMMENT) (sym c.kind.ensures) ∙ sym c.is_comment.ensures ∙ c.if-is_comment.false in
    let on = walk-past-space ls c.args.start c.args.end place c.back.first some far c.requires.within (sym c.stops_at.ensures ∙ c.if-stops_at.false) e in
    (omega (arith, some), omega (arith, c.back.invariant.1), c.back.invariant.2, sym on ∙ c.back.invariant.3)

pub returns-then-stops_at-clause-inside : goal.returns-then-stops_at-clause-inside
returns-then-stops_at-clause-inside c =
    let ls = c.args.lexed.now.leaves in
    let within : c.back.place ≤ length ls = omega (arith, c.back.invariant.1, c.back.invariant.2, c.requires.within) in
    sym (walk-stops ls c.args.start c.args.end c.back.place c.back.first c.back-test.true within (sym c.stops_at.ensures ∙ c.if-stops_at.true)) ∙ c.back.invariant.3

pub returns-clause-inside : goal.returns-clause-inside
returns-clause-inside c =
    sym (walk-ends c.args.lexed.now.leaves c.args.start c.args.end c.back.place c.back.first (omega (arith, c.back-test.false, c.back.invariant.0))) ∙ c.back.invariant.3

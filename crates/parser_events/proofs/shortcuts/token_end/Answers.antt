-- Each leaf is passed, and each token counted.
use Rattle.std.proofs.Common.{◌<◌, ◌+◌, ℕ, length, sym, ap, ◌∙◌, arith}
use Rattle.parser_events.proofs.Places.{reach_at, reach-past, reach-token, reach-none, reach-end}
use Rattle.parser_events.proofs.shortcuts.token_end.Goals as goal
use Rattle.parser_events.proofs.shortcuts.token_end.Goals.{then-not-is_trivia, else-not-is_trivia}

pub tokens-preserved : goal.tokens-preserved
tokens-preserved c =
    let ls = c.args.lexed.now.leaves in
    let i = c.tokens.end in
    let within : i < length ls = omega (arith, c.tokens.invariant.0, c.len.ensures, c.if-end-len.false) in
    elim c.if-not-is_trivia.branch [
      | then-not-is_trivia w ↦
          let token = reach-token ls c.tokens.left c.if-not-is_trivia.left i _ (omega (arith, w.left-is, c.tokens-test.true)) within c.kind.ensures (sym c.is_trivia.ensures ∙ w.if-not-is_trivia.true) in
          (omega (arith, within), omega (arith, token, c.tokens.invariant.1))
      | else-not-is_trivia w ↦
          let past = reach-past ls c.tokens.left i _ c.tokens-test.true within c.kind.ensures (sym c.is_trivia.ensures ∙ w.if-not-is_trivia.false) in
          let same = ap (λ (n : ℕ). reach_at ls n (i + 1)) w.left-is in
          (omega (arith, within), omega (arith, past, same, c.tokens.invariant.1))
    ]

pub returns-then-end-len-clause-end : goal.returns-then-end-len-clause-end
returns-then-end-len-clause-end c =
    let ls = c.args.lexed.now.leaves in
    let none = reach-end ls c.tokens.left c.tokens.end (omega (arith, c.if-end-len.true, c.len.ensures)) in
    omega (arith, none, c.tokens.invariant.1)

pub returns-clause-end : goal.returns-clause-end
returns-clause-end c =
    let ls = c.args.lexed.now.leaves in
    let none = reach-none ls c.tokens.left c.tokens.end c.tokens-test.false in
    omega (arith, none, c.tokens.invariant.1)

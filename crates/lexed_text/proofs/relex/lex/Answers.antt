use Rattle.std.proofs.Common.{chars, ap, arith}
use Rattle.rustc_lexer.specs.Characters.{size}
use Rattle.rustc_lexer.proofs.Sizes.{size-chars}
use Rattle.lexed_text.proofs.Turns.{turn-none, turn-meets, turn-next, shorter, Turned, turned-passed, turned-kept}
use Rattle.lexed_text.proofs.relex.lex.Goals as goal
use Rattle.lexed_text.proofs.relex.lex.Goals.{then-after-most+else-at-after, else-after-most}

pub lexing-init : goal.lexing-init
lexing-init c = record {
  turn = turn-none _ _ _ _ _ _ _ c.new-cursor.ensures c.new-tokens.ensures.items c.requires.within c.requires.is_left;
  fits = let whole = size-chars c.args.text.now c.utf8.text in let same = ap size c.new-cursor.ensures in omega arith;
}

-- a turn that goes on
turned : (c : goal.In_ok-push) → Turned c.args.old.now (chars c.args.text.now) c.args.front.count c.args.most c.lexing.cursor c.lexing.tokens.items c.lexing.lexed c.if-after-most.at.count c.if-after-most.at.bytes
turned c =
    elim c.if-after-most.branch [
      | then-after-most+else-at-after w ↦
          turned-passed _ _ _ _ _ _ _ _ _ _ _ _ _ _ c.lexing.invariant.turn c.remaining-after.ensures w.pass-at.ensures w.if-at-after.false (ap (λ p. p.count) w.at-is) (ap (λ p. p.bytes) w.at-is)
      | else-after-most w ↦
          turned-kept _ _ _ _ _ _ _ _ _ _ _ _ c.lexing.invariant.turn c.remaining-after.ensures w.if-after-most.false (ap (λ p. p.count) w.at-is) (ap (λ p. p.bytes) w.at-is)
    ]

pub lexing-smaller : goal.lexing-smaller
lexing-smaller c = let t = turned c in let s = shorter c.lexing.cursor c.advance_token.new.self t.some c.advance_token.ensures.rest in omega arith

pub lexing-preserved : goal.lexing-preserved
lexing-preserved c =
    let t = turned c in
    let s = shorter c.lexing.cursor c.advance_token.new.self t.some c.advance_token.ensures.rest in
    record {
      turn = turn-next _ _ _ _ _ _ _ _ _ t.turn t.some t.none c.advance_token.result _ _ c.advance_token.ensures.is_next c.advance_token.ensures.rest c.in_ok-push.ensures.items;
      fits = omega arith;
    }

pub returns-clause-meets : goal.returns-clause-meets
returns-clause-meets c =
    turn-meets _ _ _ _ _ _ _ _ _ _ _ _ c.lexing.invariant.turn c.remaining-after.ensures c.if-after-most.true c.pass-at.ensures c.if-at-after.true

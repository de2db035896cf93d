use Rattle.std.proofs.Common.{◌+◌, drop, length, chars, true, cond, Some, None, ap, sym, ◌∙◌, arith}
use Rattle.std.proofs.lemmas.Iterator.{YieldsList-from_chars}
use Rattle.std.proofs.lemmas.Iterator.Consumers.{YieldsList-turn, YieldsList-end}
use Rattle.std.proofs.lemmas.List.{length_push}
use Rattle.syntax_editor.proofs.LineFeeds.{since, since_feed, since_other, since_end}
use Rattle.syntax_editor.proofs.indent_level.after_line_feed.Goals as goal

pub loop-c-preserved-then-c-eq10 : goal.loop-c-preserved-then-c-eq10
loop-c-preserved-then-c-eq10 c =
    let cs = chars c.args.text.now in
    let n = length c.loop-c.yielded in
    let t = YieldsList-turn (YieldsList-from_chars c.args.text.now c.utf8.text cc) c.loop-c.yielded _ c.loop-c.yielded_by _ _ c.in-Some.c c.in-Some.is c.next.ensures.steps in
    let more = length_push c.loop-c.yielded c.in-Some.c in record {
      few = omega arith;
      same =
          c.loop-c.invariant.same
          ∙ since_feed c.loop-c.found c.loop-c.count cs n c.in-Some.c t c.if-c-eq10.true
          ∙ ap (λ m. since true 0 (drop m cs)) (sym more);
    }

pub loop-c-preserved : goal.loop-c-preserved
loop-c-preserved c =
    let cs = chars c.args.text.now in
    let n = length c.loop-c.yielded in
    let t = YieldsList-turn (YieldsList-from_chars c.args.text.now c.utf8.text cc) c.loop-c.yielded _ c.loop-c.yielded_by _ _ c.in-Some.c c.in-Some.is c.next.ensures.steps in
    let more = length_push c.loop-c.yielded c.in-Some.c in record {
      few = omega (arith, c.loop-c.invariant.few, more);
      same =
          c.loop-c.invariant.same
          ∙ since_other c.loop-c.found c.loop-c.count cs n c.in-Some.c t c.if-c-eq10.false
          ∙ ap (λ m. since c.loop-c.found (c.loop-c.count + 1) (drop m cs)) (sym more);
    }

pub returns-then-found : goal.returns-then-found
returns-then-found c =
    let cs = chars c.args.text.now in
    let n = length c.loop-c.yielded in
    let t = YieldsList-end (YieldsList-from_chars c.args.text.now c.utf8.text cc) c.loop-c.yielded _ c.loop-c.yielded_by _ _ c.in-None.is c.next.ensures.steps in
    sym (c.loop-c.invariant.same ∙ since_end c.loop-c.found c.loop-c.count cs n (omega (arith, t.1)) ∙ ap (λ b. cond b (Some c.loop-c.count) None) c.if-found.true)

pub returns-else-found : goal.returns-else-found
returns-else-found c =
    let cs = chars c.args.text.now in
    let n = length c.loop-c.yielded in
    let t = YieldsList-end (YieldsList-from_chars c.args.text.now c.utf8.text cc) c.loop-c.yielded _ c.loop-c.yielded_by _ _ c.in-None.is c.next.ensures.steps in
    sym (c.loop-c.invariant.same ∙ since_end c.loop-c.found c.loop-c.count cs n (omega (arith, t.1)) ∙ ap (λ b. cond b (Some c.loop-c.count) None) c.if-found.false)

use Rattle.std.proofs.Common.{◌∙◌, arith, sym}
use Rattle.session_server.proofs.Places.{at-end, broken-at, end-within, message-at}
use Rattle.session_server.proofs.Turning.{are-broken, are-ended, are-more, are-none}
use Rattle.session_server.proofs.server.answer_all.Goals as goal

pub loop-at-init : goal.loop-at-init
loop-at-init g c = record { within = omega arith; answered = rw c.new-told.ensures.items (are-none _ _ _) }

pub returns-in-Broken : goal.returns-in-Broken
returns-in-Broken g c =
    rw c.in_ok-tell-in-Broken.ensures
    (are-broken _ _ _ _ _ _ c.loop-at.invariant.answered (broken-at c.args.bytes.now c.loop-at.at c.in-Broken.ensures))

pub returns-in-Some : goal.returns-in-Some
returns-in-Some g c =
    rw c.in_ok-status-in-Message.ensures.told
    (are-ended _ _ _ _ _ _ _ _ _ c.loop-at.invariant.answered
    (message-at c.args.bytes.now c.loop-at.at c.in-Message.start c.in-Message.end c.loop-at.invariant.within c.in-Message.ensures)
    (sym c.in_ok-status-in-Message.ensures.status ∙ c.in-Some.is))

pub loop-at-preserved : goal.loop-at-preserved
loop-at-preserved g c =
    record {
      within = end-within c.args.bytes.now c.loop-at.at c.in-Message.start c.in-Message.end c.loop-at.invariant.within c.in-Message.ensures;
      answered =
          rw (c.in_ok-status-in-Message.ensures.told, c.in_ok-status-in-Message.ensures.session)
          (are-more _ _ _ _ _ _ _ _ c.loop-at.invariant.answered
          (message-at c.args.bytes.now c.loop-at.at c.in-Message.start c.in-Message.end c.loop-at.invariant.within c.in-Message.ensures)
          (sym c.in_ok-status-in-Message.ensures.status ∙ c.in_default.is));
    }

pub returns : goal.returns
returns g c = (c.loop-at.invariant.within, c.loop-at.invariant.answered, at-end c.args.bytes.now c.loop-at.at c.loop-at-test.false)

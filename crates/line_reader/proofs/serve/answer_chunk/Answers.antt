use Rattle.std.proofs.Common.{◌≡◌, ℕ, List, length, ap, refl, ◌∙◌, sym}
use Rattle.std.proofs.lemmas.Bool.{eqb-false, eqb-true}
use Rattle.line_reader.proofs.ServeLemmas.{all-part, chunk-last, chunk-more, chunk-none, chunk-taken, chunk-unwritten, feed-cut, longer, none-both, none-none, plain-part, same-both, same-none}
use Rattle.line_reader.proofs.serve.answer_chunk.Goals as goal

pub loop-rest-init : goal.loop-rest-init
loop-rest-init g c = record { chunk = λ begun plain front. chunk-none _ _ _ begun _ _ _ plain front; none_failed = none-none _; reading = same-none _ }

pub returns-then-is_empty-clause-kept : goal.returns-then-is_empty-clause-kept
returns-then-is_empty-clause-kept g c = λ begun plain front.
    let k = c.loop-rest.invariant.chunk begun plain front in
    let none = eqb-true _ _ (sym c.is_empty-in-loop-rest.ensures ∙ c.if-is_empty.true) in
    let all = all-part _ _ _ _ c.split_at.ensures.front c.split_at.ensures.back none in
    let last = chunk-last _ _ _ _ _ _ _ _ _ _ _ k all (plain-part _ _ _ c.split_at.ensures.front c.line_len.ensures.before) (longer _ _ _ _ _ _ _ c.MAX_LINE.ensures c.in_ok-append.ensures k.begun k.kept_front) in
    (chunk-taken _ _ _ _ _ _ _ _ refl last).0

pub returns-then-is_empty-clause-written : goal.returns-then-is_empty-clause-written
returns-then-is_empty-clause-written g c = λ begun plain front.
    let k = c.loop-rest.invariant.chunk begun plain front in
    let none = eqb-true _ _ (sym c.is_empty-in-loop-rest.ensures ∙ c.if-is_empty.true) in
    let all = all-part _ _ _ _ c.split_at.ensures.front c.split_at.ensures.back none in
    let last = chunk-last _ _ _ _ _ _ _ _ _ _ _ k all (plain-part _ _ _ c.split_at.ensures.front c.line_len.ensures.before) (longer _ _ _ _ _ _ _ c.MAX_LINE.ensures c.in_ok-append.ensures k.begun k.kept_front) in
    (chunk-taken _ _ _ _ _ _ _ _ refl last).1

pub returns-in_err-answer_line-clause-front : goal.returns-in_err-answer_line-clause-front
returns-in_err-answer_line-clause-front g c =
    let some = eqb-false _ _ (sym c.is_empty-in-loop-rest.ensures ∙ c.if-is_empty.false) in
    chunk-unwritten _ _ _ _ _ _ _ _ _ _ _ _ _ _ _ _ c.loop-rest.invariant.chunk (plain-part _ _ _ c.split_at.ensures.front c.line_len.ensures.before)
    (feed-cut _ _ _ _ c.split_at.ensures.front c.split_at.ensures.back c.line_len.ensures.at some) (longer _ _ _ _ _ _ _ c.MAX_LINE.ensures c.in_ok-append.ensures) c.in_err-answer_line.ensures.front

pub loop-rest-preserved : goal.loop-rest-preserved
loop-rest-preserved g c =
    record {
      chunk = λ begun plain front.
          let k = c.loop-rest.invariant.chunk begun plain front in
          let some = eqb-false _ _ (sym c.is_empty-in-loop-rest.ensures ∙ c.if-is_empty.false) in
          let cut = feed-cut _ _ _ _ c.split_at.ensures.front c.split_at.ensures.back c.line_len.ensures.at some in
          let line = longer _ _ _ _ _ _ _ c.MAX_LINE.ensures c.in_ok-append.ensures k.begun k.kept_front in
          chunk-more _ _ _ _ _ _ _ _ _ _ _ _ _ k (plain-part _ _ _ c.split_at.ensures.front c.line_len.ensures.before) cut c.clear.ensures.bytes c.clear.ensures.is_long (c.in_ok-answer_line.ensures.written _ line);
      none_failed = none-both _ _ _ c.loop-rest.invariant.none_failed c.in_ok-answer_line.ensures.none_failed;
      reading = same-both _ _ _ c.loop-rest.invariant.reading c.in_ok-answer_line.ensures.reading;
    }

pub returns-clause-kept : goal.returns-clause-kept
returns-clause-kept g c = λ begun plain front. (chunk-taken _ _ _ _ _ _ _ _ (eqb-true _ _ (sym c.is_empty.ensures ∙ c.loop-rest-test.false)) (c.loop-rest.invariant.chunk begun plain front)).0

pub returns-clause-written : goal.returns-clause-written
returns-clause-written g c = λ begun plain front. (chunk-taken _ _ _ _ _ _ _ _ (eqb-true _ _ (sym c.is_empty.ensures ∙ c.loop-rest-test.false)) (c.loop-rest.invariant.chunk begun plain front)).1

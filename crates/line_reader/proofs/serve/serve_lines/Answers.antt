use Rattle.std.proofs.Common.{◌≡◌, arith, refl}
use Rattle.line_reader.proofs.ServeLemmas.{got, goes-on, in-err, serving-chunk-front, serving-end, serving-end-front, serving-more, serving-none, serving-part}
use Rattle.line_reader.proofs.serve.serve_lines.Goals as goal

pub loop-turn-init : goal.loop-turn-init
loop-turn-init g c = serving-none _ _ _ _ _ c.requires c.new-line.ensures.bytes c.new-line.ensures.is_long

pub returns-in_default-clause-front : goal.returns-in_default-clause-front
returns-in_default-clause-front g c = serving-part _ _ _ _ _ _ _ _ c.loop-turn.invariant c.read.ensures.bytes.contents

pub returns-then-count-eq0-clause-written : goal.returns-then-count-eq0-clause-written
returns-then-count-eq0-clause-written g c =
    serving-end _ _ _ _ _ _ _ _ _ _ _ _ _ _ _ _ c.loop-turn.invariant c.read.ensures.bytes c.in-Ok.is c.if-count-eq0.true (omega arith) c.answer_last.ensures.written

pub returns-then-count-eq0-clause-front : goal.returns-then-count-eq0-clause-front
returns-then-count-eq0-clause-front g c =
    serving-end-front _ _ _ _ _ _ _ _ _ _ _ _ _ _ _ _ c.loop-turn.invariant c.read.ensures.bytes c.in-Ok.is c.if-count-eq0.true (omega arith) c.answer_last.ensures.front

pub returns-in_err-answer_chunk-clause-front : goal.returns-in_err-answer_chunk-clause-front
returns-in_err-answer_chunk-clause-front g c =
    in-err _ _ (serving-chunk-front _ _ _ _ _ _ _ _ _ _ c.loop-turn.invariant (got _ _ _ _ _ _ c.read.ensures.bytes c.in-Ok.is) c.in_err-answer_chunk.ensures.front)

pub loop-turn-preserved : goal.loop-turn-preserved
loop-turn-preserved g c =
    let mid = got _ _ _ _ _ _ c.read.ensures.bytes c.in-Ok.is in
    let on = goes-on _ _ _ _ _ _ c.read.ensures.bytes c.in-Ok.is c.if-count-eq0.false c.loop-turn.invariant.goes_on in
    serving-more _ _ _ _ _ _ _ _ _ _ _ _ c.loop-turn.invariant mid on (omega arith) c.in_ok-answer_chunk.ensures.reading c.in_ok-answer_chunk.ensures.none_failed c.in_ok-answer_chunk.ensures.kept c.in_ok-answer_chunk.ensures.written

pub returns-clause-front : goal.returns-clause-front
returns-clause-front g c = serving-part _ _ _ _ _ _ _ _ c.loop-turn.invariant refl

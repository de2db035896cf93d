use Rattle.std.proofs.Common.{◌≡◌, ◌∙◌, ap, arith, drop, length, sym}
use Rattle.std.proofs.lemmas.Bool.{eqb-false, eqb-true}
use Rattle.std.proofs.lemmas.List.{nil_from_length}
use Rattle.session_server.proofs.Serving.{end-read, front-whole, in-err, nothing-read, serving-clean, serving-cut, serving-none, serving-part, turn-ended, turn-more, turn-part}
use Rattle.session_server.proofs.server.serve.Goals as goal
use Rattle.session_server.proofs.server.serve.Goals.{then-is_empty, else-is_empty}

pub loop-turn-init : goal.loop-turn-init
loop-turn-init g c = serving-none _ _ _ _ _ c.new-buffer.ensures.items c.new-session.ensures

pub returns-in_default-clause-front : goal.returns-in_default-clause-front
returns-in_default-clause-front g c = serving-part _ _ _ _ _ _ _ c.loop-turn.invariant

pub returns-then-count-eq0-clause-answered : goal.returns-then-count-eq0-clause-answered
returns-then-count-eq0-clause-answered g c =
    let read = nothing-read _ _ _ _ c.if-count-eq0.true c.in-Ok.ensures.bytes.0 in
    let end = c.in-Ok.ensures.bytes.1 c.if-count-eq0.true (omega arith) in
    let serving = end-read _ _ _ _ _ _ _ _ c.loop-turn.invariant read in
    elim c.if-is_empty.branch [
      | then-is_empty w ↦
          (let none = eqb-true _ _ (sym c.is_empty.ensures ∙ w.if-is_empty.true) in
          let len : length c.loop-turn.buffer.items ≡ 0 = omega arith in
          rw (w.result-is, w.exit_status.ensures) (serving-clean _ _ _ _ _ _ _ serving end (nil_from_length _ len)))
      | else-is_empty w ↦
          (let some = eqb-false _ _ (sym c.is_empty.ensures ∙ w.if-is_empty.false) in
          rw w.result-is (serving-cut _ _ _ _ _ _ _ serving end (λ none. let len : length c.loop-turn.buffer.items ≡ 0 = ap length none in absurd (omega arith))))
    ]

pub returns-in_err-extend_from_slice-clause-front : goal.returns-in_err-extend_from_slice-clause-front
returns-in_err-extend_from_slice-clause-front g c = in-err _ _ (serving-part _ _ _ _ _ _ _ c.loop-turn.invariant)

pub returns-in_err-turn-clause-front : goal.returns-in_err-turn-clause-front
returns-in_err-turn-clause-front g c = in-err _ _ (serving-part _ _ _ _ _ _ _ c.loop-turn.invariant)

pub returns-in_err-write_all-clause-front : goal.returns-in_err-write_all-clause-front
returns-in_err-write_all-clause-front g c =
    in-err _ _ (turn-part _ _ _ _ _ _ _ _ _ _ _ _ _ _ c.loop-turn.invariant c.in-Ok.ensures.bytes.0 (c.as_slice.ensures.value ∙ c.in_ok-extend_from_slice.ensures.items) c.in_ok-turn.ensures
    (rw c.as_slice-in-loop-turn.ensures.value at c.in_err-write_all.ensures.front))

pub returns-in-Ends-clause-answered : goal.returns-in-Ends-clause-answered
returns-in-Ends-clause-answered g c =
    turn-ended _ _ _ _ _ _ _ _ _ _ _ _ _ _ _ c.loop-turn.invariant c.in-Ok.ensures.bytes.0 (c.as_slice.ensures.value ∙ c.in_ok-extend_from_slice.ensures.items) c.in_ok-turn.ensures c.in-Ends.is
    (rw c.as_slice-in-loop-turn.ensures.value at c.in_ok-write_all.ensures.written)

pub loop-turn-preserved : goal.loop-turn-preserved
loop-turn-preserved g c =
    turn-more _ _ _ _ _ _ _ _ _ _ _ _ _ _ _ _ c.loop-turn.invariant c.in-Ok.ensures.bytes.0 (c.as_slice.ensures.value ∙ c.in_ok-extend_from_slice.ensures.items) c.in_ok-turn.ensures c.in-GoesOn.is
    (rw c.as_slice-in-loop-turn.ensures.value at c.in_ok-write_all.ensures.written) (c.in_ok-drop_front-in-GoesOn.ensures ∙ ap (drop c.in-GoesOn.len) (sym c.as_slice.ensures.value))

pub returns-in_err-drop_front-in-GoesOn-clause-front : goal.returns-in_err-drop_front-in-GoesOn-clause-front
returns-in_err-drop_front-in-GoesOn-clause-front g c =
    in-err _ _ (turn-part _ _ _ _ _ _ _ _ _ _ _ _ _ _ c.loop-turn.invariant c.in-Ok.ensures.bytes.0 (c.as_slice.ensures.value ∙ c.in_ok-extend_from_slice.ensures.items) c.in_ok-turn.ensures
    (front-whole _ _ _ (rw c.as_slice-in-loop-turn.ensures.value at c.in_ok-write_all.ensures.written)))

pub returns-clause-front : goal.returns-clause-front
returns-clause-front g c = serving-part _ _ _ _ _ _ _ c.loop-turn.invariant

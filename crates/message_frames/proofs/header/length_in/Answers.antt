use Rattle.std.proofs.Common.{◌∙◌, sym, map, refl}
use Rattle.std.proofs.lemmas.Bool.{false≢true}
use Rattle.std.proofs.lemmas.List.{at_drop_all}
use Rattle.httparse.specs.Spans.{header_bytes}
use Rattle.message_frames.specs.Headers.{length_of}
use Rattle.message_frames.proofs.Fields.{length-nil, past-length, past-other, at-no-number}
use Rattle.message_frames.proofs.header.length_in.Goals as goal
use Rattle.message_frames.proofs.header.length_in.Goals.{then-eq_ignore_ascii_case+in_ok-number, else-eq_ignore_ascii_case}

pub returns : goal.returns
returns c =
    sym (length-nil c.loop-field.length)
    ∙ (sym (at_drop_all (λ fs. length_of c.loop-field.length (map (header_bytes c.args.buffer.now) fs)) c.args.fields.now c.loop-field.field-index c.loop-field-test.false)
    ∙ c.loop-field.invariant)

pub loop-field-preserved : goal.loop-field-preserved
loop-field-preserved c = elim c.if-eq_ignore_ascii_case.branch [
  | then-eq_ignore_ascii_case+in_ok-number w ↦
      rw w.length-is
      (past-length c.args.buffer.now c.args.fields.now c.loop-field.length c.loop-field.field-index w.in_ok-number.field-0 _ _ c.loop-field-test.true
      ((rw c.of-name.ensures at w.if-eq_ignore_ascii_case.ensures.test).0 refl) (rw w.of.ensures at w.in_ok-number.ensures) c.loop-field.invariant)
  | else-eq_ignore_ascii_case w ↦
      rw w.length-is
      (past-other c.args.buffer.now c.args.fields.now c.loop-field.length c.loop-field.field-index _ _ c.loop-field-test.true
      (λ e. false≢true ((rw c.of-name.ensures at w.if-eq_ignore_ascii_case.ensures.test).1 e)) c.loop-field.invariant)
]

pub returns-in_err-number : goal.returns-in_err-number
returns-in_err-number c =
    c.from_residual.ensures
    ∙ at-no-number c.args.buffer.now c.args.fields.now c.loop-field.length c.loop-field.field-index _ _ c.loop-field-test.true
    ((rw c.of-name.ensures at c.if-eq_ignore_ascii_case.ensures.test).0 refl) (rw c.of.ensures at c.in_err-number.ensures) c.loop-field.invariant

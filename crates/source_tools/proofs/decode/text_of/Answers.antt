use Rattle.std.proofs.Common.{refl, inl, inr}
use Rattle.std.proofs.lemmas.Bool.{cases_Bool}
use Rattle.std.proofs.lemmas.Str.{is_utf8-from_IsUtf8, IsUtf8-from_is_utf8}
use Rattle.std.specs.Str.{is_utf8}
use Rattle.source_tools.proofs.decode.text_of.Goals as goal

pub returns-in-Ok : goal.returns-in-Ok
returns-in-Ok c =
    let is = is_utf8-from_IsUtf8 c.args.bytes.now c.in-Ok.ensures.cases.1 in
    let text = c.in-Ok.ensures.cases.0 in
    rw (is, c.after_mark.ensures, text) refl

pub returns-in-Err : goal.returns-in-Err
returns-in-Err c = elim (cases_Bool (is_utf8 c.args.bytes.now)) [
  | inl y ↦ absurd (c.in-Err.ensures.cases.0 (IsUtf8-from_is_utf8 c.args.bytes.now y))
  | inr n ↦ rw n refl
]

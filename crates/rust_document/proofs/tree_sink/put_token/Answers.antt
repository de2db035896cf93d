-- The text of the token is the encoding of its characters.
use Rattle.std.proofs.Common.{◌≡◌, ◌+◌, ◌∙◌, ℕ, List, IfErr, IsCharBoundary, ap, chars, encode_utf8_all, length, subst, sym}
use Rattle.std.proofs.lemmas.Result.{on_ok_weaker}
use Rattle.std.proofs.lemmas.Str.{encodes-chars}
use Rattle.rowan_green.specs.TextBuilding.{with_piece}
use Rattle.rowan_green.specs.Refusal.{RefusesUnless}
use Rattle.parser_input.specs.Kind.{raw_of}
use Rattle.rust_document.proofs.tree_sink.put_token.Goals as goal

pub returns-clause-ok : goal.returns-clause-ok
returns-clause-ok c =
    let old = c.args.builder.now in
    let size : length c.args.text.now ≡ length (encode_utf8_all (chars c.args.text.now)) = sym (ap (λ (t : List ℕ). length t) (encodes-chars c.args.text.now c.utf8.text)) in
    on_ok_weaker c.token.result (λ e. e ∙ ap (λ (k : ℕ). with_piece old k (length c.args.text.now)) c.to_raw.ensures.number ∙ ap (λ (m : ℕ). with_piece old (raw_of c.args.kind) m) size) c.token.ensures.ok

pub returns-clause-refused : goal.returns-clause-refused
returns-clause-refused c =
    let old = c.args.builder.now in
    let size : length c.args.text.now ≡ length (encode_utf8_all (chars c.args.text.now)) = sym (ap (λ (t : List ℕ). length t) (encodes-chars c.args.text.now c.utf8.text)) in
    let P : ℕ → Type 0 = λ m. IfErr c.token.result (RefusesUnless (IsCharBoundary old.text (old.used + m))) in
    subst P size c.token.ensures.refused

-- The leaves of a text are its bytes.
use Rattle.std.proofs.Common.{List, ◌++◌, chars, map, length, ap, subst, ◌∙◌, arith}
use Rattle.std.proofs.Math.Utf8.{encodes}
use Rattle.parser_input.specs.Lexed.{leaves_of}
use Rattle.parser_input.specs.Stored.{Whole}
use Rattle.parser_events.specs.Dress.{joined}
use Rattle.parser_events.specs.Steps.{Step}
use Rattle.rust_document.specs.Reading.{leaves_in, of_leaves}
use Rattle.rust_document.specs.Seen.{in_bytes, message_of_error}
use Rattle.rust_document.specs.Tokens.{spans_from}
use Rattle.rust_document.specs.TreeBuilt.{AreMessages}
use Rattle.rust_document.proofs.Sizes.{bytes-all}
use Rattle.rust_document.proofs.Whole.{whole}
use Rattle.rust_document.proofs.read.read_built.Goals as goal

pub lexed_tokens-requires : goal.lexed_tokens-requires
lexed_tokens-requires c =
    omega (
      arith,
      ap (λ (w : Whole). length (encodes (joined (leaves_of w.leaves)))) c.requires.whole,
      bytes-all c.args.lexed.now.edition c.args.text.now c.utf8.text,
      c.requires.fits,
    )

pub returns : goal.returns
returns c = λ top grammar ss are root_is first.
    let edition = c.args.lexed.now.edition in
    let text = chars c.args.text.now in
    whole top grammar edition text _ _ _ _ root_is
    (subst (λ (xs : List Step). AreMessages xs (leaves_in edition text) c.args.built.errors.items) are first)
    (c.in_ok-append_faults.ensures ∙ ap (λ (w : Whole). map message_of_error c.args.built.errors.items ++ of_leaves 0 w.leaves) c.requires.whole)
    (c.in_ok-tokens.ensures ∙ ap (λ (w : Whole). spans_from 0 (map in_bytes (leaves_of w.leaves))) c.requires.whole)

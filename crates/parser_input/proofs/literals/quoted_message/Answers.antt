use Rattle.std.proofs.Common.{◌∙◌, List, ℕ, Bool, sym, ap}
use Rattle.parser_input.specs.Escapes.{is_sound}
use Rattle.parser_input.specs.Messages.{when}
use Rattle.parser_input.specs.declared.message.Message.TheVariants.{BadLength}
use Rattle.parser_input.proofs.LiteralSteps.{quoted-open, quoted-escape, quoted-wide, quoted-length}
use Rattle.parser_input.proofs.literals.quoted_message.Goals as goal

pub returns-then-not-terminated : goal.returns-then-not-terminated
returns-then-not-terminated c = quoted-open c.args.quoted.now c.args.terminated c.args.text.now c.if-not-terminated.true

pub returns-then-not-is_sound : goal.returns-then-not-is_sound
returns-then-not-is_sound c =
    let q = c.args.quoted.now in
    let sound = ap (λ (t : List ℕ). is_sound q.rules 0 t) (sym c.between_quotes.ensures) ∙ sym c.is_sound.ensures ∙ c.if-not-is_sound.true in
    quoted-escape q c.args.terminated c.args.text.now c.if-not-terminated.false sound

pub returns-then-is_past_ascii : goal.returns-then-is_past_ascii
returns-then-is_past_ascii c =
    let q = c.args.quoted.now in
    let sound = ap (λ (t : List ℕ). is_sound q.rules 0 t) (sym c.between_quotes.ensures) ∙ sym c.is_sound.ensures ∙ c.if-not-is_sound.false in
    quoted-wide q c.args.terminated c.args.text.now c.if-not-terminated.false sound (sym c.is_past_ascii.ensures ∙ c.if-is_past_ascii.true)

pub returns : goal.returns
returns c =
    let q = c.args.quoted.now in
    let sound = ap (λ (t : List ℕ). is_sound q.rules 0 t) (sym c.between_quotes.ensures) ∙ sym c.is_sound.ensures ∙ c.if-not-is_sound.false in
    c.when.ensures ∙ ap (λ (b : Bool). when b BadLength) c.is_bad_length.ensures
    ∙ quoted-length q c.args.terminated c.args.text.now c.if-not-terminated.false sound (sym c.is_past_ascii.ensures ∙ c.if-is_past_ascii.false)

-- Words are compared by their bytes.
use Rattle.std.proofs.Common.{◌∙◌, ℕ, Option, ap, chars, unwrap_or}
use Rattle.parser_input.specs.Kinds.{IDENT}
use Rattle.parser_input.proofs.InputSteps.{named, piped, unnamed}
use Rattle.parser_input.proofs.Words.{contextual-bytes}
use Rattle.parser_input.proofs.parser_token.contextual_kind.Goals as goal

pub returns-in-Some : goal.returns-in-Some
returns-in-Some c =
    named c.args.kind c.args.edition (chars c.args.text.now) c.args.before_angle _ c.in-IDENT.is
    (ap (λ (o : Option ℕ). unwrap_or o IDENT) (c.in-Some.ensures.kind ∙ contextual-bytes c.args.edition c.args.text.now c.utf8.text))

pub returns-in-None : goal.returns-in-None
returns-in-None c =
    named c.args.kind c.args.edition (chars c.args.text.now) c.args.before_angle _ c.in-IDENT.is
    (ap (λ (o : Option ℕ). unwrap_or o IDENT) (c.in-None.ensures.kind ∙ contextual-bytes c.args.edition c.args.text.now c.utf8.text))

pub returns-in-PIPE : goal.returns-in-PIPE
returns-in-PIPE c = piped c.args.kind c.args.edition (chars c.args.text.now) c.args.before_angle _ c.in-PIPE.is c.pipe_kind.ensures

pub returns-in_default : goal.returns-in_default
returns-in_default c = unnamed c.args.kind c.args.edition (chars c.args.text.now) c.args.before_angle c.in_default.not-IDENT c.in_default.not-PIPE

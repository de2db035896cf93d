-- The kind of a name, if a request may use it.
use Rattle.std.proofs.Common.{◌≡◌, ◌∙◌, true, false, None, Some, refl, sym, ap}
use Rattle.std.specs.Option.{option_and_then}
use Rattle.parser_input.specs.Kind.{raw_of}
use Rattle.parser_input.specs.declared.syntax_kind.SyntaxKind.{SyntaxKind}
use Rattle.ra_parser.specs.declared.grammar.Grammar.{Grammar}
use Rattle.document_requests.specs.Words.{if_known, is_known}
use Rattle.document_requests.proofs.KindNames.{named_kind}
use Rattle.document_requests.proofs.shape.kind_named.Goals as goal

known : (grammar : Grammar) (kind : SyntaxKind) → true ≡ is_known grammar (raw_of kind) → Some kind ≡ if_known grammar kind
known grammar kind is = rw (← is) refl

unknown : (grammar : Grammar) (kind : SyntaxKind) → false ≡ is_known grammar (raw_of kind) → None ≡ if_known grammar kind
unknown grammar kind is = rw (← is) refl

pub returns-in_err-kind : goal.returns-in_err-kind
returns-in_err-kind c =
    c.from_residual.ensures
    ∙ ap (option_and_then (if_known c.args.grammar)) (sym c.in_err-kind.was ∙ named_kind _ _ c.from_name.ensures.named c.from_name.ensures.inverse)

pub returns-then-is_known : goal.returns-then-is_known
returns-then-is_known c =
    known c.args.grammar c.in_ok-kind.kind (sym c.if-is_known.true ∙ c.is_known.ensures)
    ∙ ap (option_and_then (if_known c.args.grammar)) (sym c.in_ok-kind.was ∙ named_kind _ _ c.from_name.ensures.named c.from_name.ensures.inverse)

pub returns : goal.returns
returns c =
    unknown c.args.grammar c.in_ok-kind.kind (sym c.if-is_known.false ∙ c.is_known.ensures)
    ∙ ap (option_and_then (if_known c.args.grammar)) (sym c.in_ok-kind.was ∙ named_kind _ _ c.from_name.ensures.named c.from_name.ensures.inverse)

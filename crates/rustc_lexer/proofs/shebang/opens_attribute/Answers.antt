use Rattle.std.proofs.Common.{◌∙◌, sym, ap}
use Rattle.rustc_lexer.specs.Shebang.{opens_attribute}
use Rattle.rustc_lexer.proofs.Lines.{attribute-past, attribute-told, attribute-none}
use Rattle.rustc_lexer.proofs.shebang.opens_attribute.Goals as goal

pub returns-then-not-is_passed_over : goal.returns-then-not-is_passed_over
returns-then-not-is_passed_over c =
    c.is_open_bracket.ensures ∙ sym (attribute-told c.in-Some.token c.next.new.self (sym c.is_passed_over.ensures ∙ c.if-not-is_passed_over.true))
    ∙ ap opens_attribute (sym c.in-Some.ensures.steps) ∙ c.tokens.invariant.2

pub tokens-preserved : goal.tokens-preserved
tokens-preserved c = (
  tt,
  tt,
  sym (attribute-past c.in-Some.token c.next.new.self (sym c.is_passed_over.ensures ∙ c.if-not-is_passed_over.false))
      ∙ ap opens_attribute (sym c.in-Some.ensures.steps) ∙ c.tokens.invariant.2,
)

pub returns : goal.returns
returns c = sym (attribute-none c.tokens.tokens c.in_default.ensures.steps.0) ∙ c.tokens.invariant.2

use Rattle.std.proofs.Common.{◌∙◌, sym}
use Rattle.parser_input.proofs.KeywordKinds.{in_range-from, in_range-below, is_keyword-2018, is_keyword-2024, is_keyword-next, is_keyword-other}
use Rattle.parser_input.proofs.syntax_kind.SyntaxKind.is_keyword.Goals as goal

pub returns-in-ASYNC_KW : goal.returns-in-ASYNC_KW
returns-in-ASYNC_KW c = c.is_from.ensures ∙ is_keyword-2018 c.args.edition c.args.self c.in-ASYNC_KW.is

pub returns-in-GEN_KW : goal.returns-in-GEN_KW
returns-in-GEN_KW c = c.is_from-in-GEN_KW.ensures ∙ is_keyword-2024 c.args.edition c.args.self c.in-GEN_KW.is

pub returns-in-DEFER_KW : goal.returns-in-DEFER_KW
returns-in-DEFER_KW c = c.is_from-in-DEFER_KW.ensures ∙ is_keyword-next c.args.edition c.args.self c.in-DEFER_KW.is

pub returns-then-raw-ge-FIRST_KEYWORD : goal.returns-then-raw-ge-FIRST_KEYWORD
returns-then-raw-ge-FIRST_KEYWORD c =
    let other = is_keyword-other c.args.edition c.args.self c.in_default.not-ASYNC_KW c.in_default.not-AWAIT_KW c.in_default.not-TRY_KW c.in_default.not-GEN_KW c.in_default.not-DEFER_KW in
    sym (in_range-from c.to_raw-raw.result c.if-raw-ge-FIRST_KEYWORD.true) ∙ rw c.to_raw-raw.ensures.number other

pub returns-else-raw-ge-FIRST_KEYWORD : goal.returns-else-raw-ge-FIRST_KEYWORD
returns-else-raw-ge-FIRST_KEYWORD c =
    let other = is_keyword-other c.args.edition c.args.self c.in_default.not-ASYNC_KW c.in_default.not-AWAIT_KW c.in_default.not-TRY_KW c.in_default.not-GEN_KW c.in_default.not-DEFER_KW in
    sym (in_range-below c.to_raw-raw.result c.if-raw-ge-FIRST_KEYWORD.false) ∙ rw c.to_raw-raw.ensures.number other

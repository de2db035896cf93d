use Rattle.std.proofs.Common.{◌≡◌, ◌==◌, ◌∙◌, ap, get_or, true, false}
use Rattle.rustc_lexer.proofs.Alike.{none_left}
use Rattle.parser_input.specs.Lines.{after_line}
use Rattle.parser_input.proofs.Lines.{line-more, line-feed, line-none}
use Rattle.parser_input.proofs.steps.eat_whole_line.Goals as goal

pub returns-then-ends_line : goal.returns-then-ends_line
returns-then-ends_line c =
    let feed : (get_or c.line.rest 0 0 == 10) ≡ true = cc in
    c.bump.ensures ∙ line-feed c.line.rest feed ∙ c.line.invariant

pub line-preserved : goal.line-preserved
line-preserved c =
    let other : (get_or c.line.rest 0 0 == 10) ≡ false = cc in
    ap after_line c.bump.ensures ∙ line-more c.line.rest other ∙ c.line.invariant

pub returns : goal.returns
returns c = line-none c.line.rest (none_left _ _ c.is_empty.ensures c.line-test.false) ∙ c.line.invariant

use Rattle.std.proofs.Common.{◌∙◌, sym, refl}
use Rattle.parser_input.specs.WordTable.{row_of}
use Rattle.parser_input.proofs.WordKinds.{is_keyword-word, keyword_kind-no, keyword_kind-yes, word_of-spelled}
use Rattle.parser_input.proofs.keywords.keyword.Goals as goal

pub returns-then-is_keyword_in-clause-keyword : goal.returns-then-is_keyword_in-clause-keyword
returns-then-is_keyword_in-clause-keyword c =
    let spelled = word_of-spelled c.args.text.now c.word_spelled.result c.in_ok-word.word c.word_spelled.ensures c.in_ok-word.was in
    let reached = sym c.is_keyword_in.ensures ∙ c.if-is_keyword_in.true in
    is_keyword-word c.args.edition c.args.text.now (row_of c.in_ok-word.word.now) spelled (rw reached refl)

pub returns-then-is_keyword_in-clause-kind : goal.returns-then-is_keyword_in-clause-kind
returns-then-is_keyword_in-clause-kind c =
    let spelled = word_of-spelled c.args.text.now c.word_spelled.result c.in_ok-word.word c.word_spelled.ensures c.in_ok-word.was in
    keyword_kind-yes c.args.edition c.args.text.now (row_of c.in_ok-word.word.now) spelled (sym c.is_keyword_in.ensures ∙ c.if-is_keyword_in.true)

pub returns-else-is_keyword_in-clause-kind : goal.returns-else-is_keyword_in-clause-kind
returns-else-is_keyword_in-clause-kind c =
    let spelled = word_of-spelled c.args.text.now c.word_spelled.result c.in_ok-word.word c.word_spelled.ensures c.in_ok-word.was in
    keyword_kind-no c.args.edition c.args.text.now (row_of c.in_ok-word.word.now) spelled (sym c.is_keyword_in.ensures ∙ c.if-is_keyword_in.false)

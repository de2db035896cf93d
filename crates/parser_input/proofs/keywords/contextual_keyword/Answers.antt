use Rattle.std.proofs.Common.{◌∙◌, sym, refl}
use Rattle.parser_input.specs.WordTable.{row_of}
use Rattle.parser_input.proofs.WordKinds.{contextual_kind-yes, is_keyword-word, word_of-spelled}
use Rattle.parser_input.proofs.keywords.contextual_keyword.Goals as goal

pub returns-then-not-is_keyword_in-clause-keyword : goal.returns-then-not-is_keyword_in-clause-keyword
returns-then-not-is_keyword_in-clause-keyword c =
    let spelled = word_of-spelled c.args.text.now c.word_spelled.result c.in_ok-word.word c.word_spelled.ensures c.in_ok-word.was in
    let unreached = sym c.is_keyword_in.ensures ∙ c.if-not-is_keyword_in.true in
    is_keyword-word c.args.edition c.args.text.now (row_of c.in_ok-word.word.now) spelled (rw (unreached, c.if-word.true) refl)

pub returns-then-not-is_keyword_in-clause-kind : goal.returns-then-not-is_keyword_in-clause-kind
returns-then-not-is_keyword_in-clause-kind c =
    let spelled = word_of-spelled c.args.text.now c.word_spelled.result c.in_ok-word.word c.word_spelled.ensures c.in_ok-word.was in
    let unreached = sym c.is_keyword_in.ensures ∙ c.if-not-is_keyword_in.true in
    contextual_kind-yes c.args.edition c.args.text.now (row_of c.in_ok-word.word.now) spelled (rw (unreached, c.if-word.true) refl)

use Rattle.std.proofs.Common.{◌∙◌, ◌++◌, List, ℕ, ap}
use Rattle.line_index.specs.declared.line_col.LineCol.{LineCol}
use Rattle.rust_document.specs.Seen.{fault_of}
use Rattle.source_tools.specs.Json.{message_item}
use Rattle.source_tools.specs.Words.{words}
use Rattle.source_tools.proofs.RowLemmas.{line-fits, col-fits}
use Rattle.source_tools.proofs.messages.push_error_item.Goals as goal

pub push_message_item-requires-clause-line : goal.push_message_item-requires-clause-line
push_message_item-requires-clause-line c = rw c.requires.place (line-fits c.args.index.now c.args.placed.now.error.offset c.requires.text)

pub push_message_item-requires-clause-col : goal.push_message_item-requires-clause-col
push_message_item-requires-clause-col c = rw c.requires.place (col-fits c.args.index.now c.args.placed.now.error.offset c.requires.text)

pub returns : goal.returns
returns c =
    let error = c.args.placed.now.error in
    c.in_ok-push_message_item.ensures
    ∙ ap (λ (said : List ℕ). c.args.items.now.items ++ message_item c.args.placed.now.place error.offset c.args.end said)
    (c.as_str.ensures.value ∙ c.in_ok-words.ensures)
    ∙ ap (λ (place : LineCol). c.args.items.now.items ++ message_item place error.offset c.args.end (words (fault_of error.message))) c.requires.place

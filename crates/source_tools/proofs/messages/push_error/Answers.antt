use Rattle.std.proofs.Common.{◌∙◌, ◌++◌, List, ℕ, ap}
use Rattle.source_tools.specs.Rows.{message_rows}
use Rattle.source_tools.proofs.messages.push_error.Goals as goal

pub returns : goal.returns
returns c =
    c.in_ok-push_message.ensures
    ∙ ap (λ (said : List ℕ). c.args.rows.now.items ++ message_rows c.args.path.now c.args.index.now c.args.placed.now.error.offset said)
    (c.as_str.ensures.value ∙ c.in_ok-words.ensures)

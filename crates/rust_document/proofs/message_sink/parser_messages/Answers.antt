-- The messages that are listed are those of the dressed tree.
use Rattle.parser_input.specs.Lexed.{leaves_of}
use Rattle.rust_document.specs.declared.message_sink.MessageSink.{MessageSink}
use Rattle.rust_document.proofs.MessageSinks.{all-messages}
use Rattle.rust_document.proofs.message_sink.parser_messages.Goals as goal

pub returns : goal.returns
returns c =
    let old : MessageSink = record { errors = c.new.result } in
    all-messages old c.intersperse_trivia.new.sink c.args.output.now.steps (leaves_of c.args.lexed.now.leaves) c.new.ensures.items c.in_ok-intersperse_trivia.ensures.tree

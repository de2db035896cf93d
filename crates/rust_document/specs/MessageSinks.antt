-- What each step of a tree with its text makes of a list of messages.
use Rattle.std.specs.Prelude.{◌≡◌, ◌++◌, map}
use Rattle.std.specs.declared.alloc.AllocError.{AllocError}
use Rattle.parser_events.specs.TextSteps.{TextStep}
use Rattle.rust_document.specs.Seen.{message_of_error}
use Rattle.rust_document.specs.TreeSinks.{heard}
use Rattle.rust_document.specs.declared.message_sink.MessageSink.{MessageSink}

-- a step is taken: the message that it is, if it is one, is listed
abbrev pub IsHeard : MessageSink → TextStep → MessageSink → Type 0
IsHeard old step new = map message_of_error new.errors.items ≡ map message_of_error old.errors.items ++ heard step

-- a step is refused
abbrev pub IsUnheard : MessageSink → TextStep → AllocError → MessageSink → Type 0
IsUnheard old step error new = Unit {0}

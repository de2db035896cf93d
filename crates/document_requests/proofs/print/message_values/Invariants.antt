use Rattle.std.proofs.Common.{◌≡◌, take, map}
use Rattle.serde_json.specs.View.{view}
use Rattle.rust_document.specs.Seen.{message_of_error}
use Rattle.document_requests.specs.Messages.{worded}
use Rattle.document_requests.specs.Reply.{message_data}
use Rattle.document_requests.proofs.print.message_values.Given as goal

-- the values are those of the messages so far
abbrev pub invariant-loop-error : goal.invariant-loop-error
invariant-loop-error l = map view l.values.items ≡ map message_data (map worded (map message_of_error (take l.error-index l.errors)))

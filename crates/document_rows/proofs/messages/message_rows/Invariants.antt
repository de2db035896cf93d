use Rattle.std.proofs.Common.{◌≡◌, ◌++◌, [], drop, map, string_bytes}
use Rattle.rust_document.specs.Seen.{message_of_error}
use Rattle.document_requests.specs.Messages.{worded}
use Rattle.document_rows.specs.Rows.{message_rows, message_words}
use Rattle.document_rows.proofs.messages.message_rows.Given as goal

-- the rows and the words so far, and those of the messages that are left, are all
abbrev pub invariant-loop-error : goal.invariant-loop-error
invariant-loop-error l = record {
  rows :
      l.found.rows.items ++ message_rows (string_bytes l.found.words) (map worded (map message_of_error (drop l.error-index l.errors)))
      ≡ message_rows [] (map worded (map message_of_error l.errors));
  words :
      string_bytes l.found.words ++ message_words (map worded (map message_of_error (drop l.error-index l.errors)))
      ≡ message_words (map worded (map message_of_error l.errors));
}

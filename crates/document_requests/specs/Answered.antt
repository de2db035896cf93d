-- What a reply is in code.
use Rattle.std.specs.Prelude.{ℕ, map, string_bytes}
use Rattle.rowan_green.specs.declared.text_range.TextRange.{TextRange}
use Rattle.document_requests.specs.Reply as answered
use Rattle.document_requests.specs.declared.reply.Reply.{Reply}
use Rattle.document_requests.specs.declared.reply.Reply.TheVariants.{Edit, Commit, Tree, Errors, Refused}
use Rattle.rust_document.specs.Seen.{message_of_error}
use Rattle.document_requests.specs.Messages.{worded}

-- a range as its first byte and the byte after it
abbrev pub ends_of : TextRange → ℕ × ℕ
ends_of r = (r.start.0, r.end.0)

abbrev pub reply : Reply → answered.Reply
reply Edit = answered.Edited
reply (Commit changed) = answered.Changed (map ends_of changed.items)
reply (Tree lines) = answered.Tree (map string_bytes lines.items)
reply (Errors list) = answered.Errors (map worded (map message_of_error list.items))
reply (Refused refusal) = answered.Refused refusal

use Rattle.std.proofs.Common.{◌≡◌, take, map}
use Rattle.serde_json.specs.View.{view}
use Rattle.document_requests.specs.Answered.{reply as answered}
use Rattle.document_requests.specs.Reply.{reply_data}
use Rattle.document_requests.proofs.print.reply_values.Given as goal

-- the values are those of the replies so far
abbrev pub invariant-loop-reply : goal.invariant-loop-reply
invariant-loop-reply l = map view l.values.items ≡ map reply_data (map answered (take l.reply-index l.replies))

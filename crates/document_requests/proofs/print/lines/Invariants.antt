use Rattle.std.proofs.Common.{◌≡◌, take, map, string_bytes}
use Rattle.document_requests.specs.Answered.{reply as answered}
use Rattle.document_requests.specs.Reply.{lines}
use Rattle.document_requests.proofs.print.lines.Given as goal

-- the text has the lines of the replies so far
abbrev pub invariant-loop-reply : goal.invariant-loop-reply
invariant-loop-reply l = string_bytes l.text ≡ lines (map answered (take l.reply-index l.replies))

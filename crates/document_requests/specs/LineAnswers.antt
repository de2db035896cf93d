-- Requests that stand on a line each, and their answers, a line of JSON each.
use Rattle.std.specs.Prelude.{◌≡◌, ℕ, ◌^◌, Bool, List, [], ◌∷◌, ◌++◌, length, map, nat_lt, codes, if◌then◌else◌}
use Rattle.std.specs.List.{flat_map}
use Rattle.serde_json.specs.Data.{Data, string, array}
use Rattle.serde_json.specs.View.{items_of}
use Rattle.serde_json.specs.Written.{compact_text}
use Rattle.line_reader.specs.Lines.{lines}
use Rattle.document_requests.specs.Output.{Ran, Rejected, Completed, ran_as}
use Rattle.document_requests.specs.Reply.{Reply, Refused, reply_data}
use Rattle.document_requests.specs.declared.reply.Refusal.TheVariants as refusals
use Rattle.document_requests.specs.declared.request.Format.TheVariants as formats

-- the replies as a list
abbrev pub replies_text : List Reply → List ℕ
replies_text replies = compact_text (array (items_of (map reply_data replies)))

-- The status, the replies, and the text as it is then; a request that is not run has a refusal and no text.
abbrev pub answer_line : Ran → List ℕ
answer_line (Rejected refusal) =
    codes "{\"status\":1,\"replies\":" ++ (replies_text (Refused refusal ∷ []) ++ codes "}\n")
answer_line (Completed replies text) =
    codes "{\"status\":0,\"replies\":" ++ (replies_text replies ++ (codes ",\"text\":" ++ (compact_text (string text) ++ codes "}\n")))

-- the most bytes of a line that is read
abbrev pub max_line : ℕ
max_line = 2 ^ 26

-- The result of a line: that of its request, read by the grammar that it names. A longer line is refused, whatever is in it.
abbrev pub ran_line : List ℕ → Ran
ran_line line = if nat_lt max_line (length line) then Rejected refusals.TooLong else ran_as formats.Line line

-- the answers to the lines of an input, in order
abbrev pub answers : List (List ℕ) → List ℕ
answers requests = flat_map (λ line. answer_line (ran_line line)) requests

abbrev pub answers_to : List ℕ → List ℕ
answers_to input = answers (lines input)

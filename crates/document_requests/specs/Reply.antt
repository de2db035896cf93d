-- What a command is answered, and how an answer is written.
use Rattle.std.specs.Prelude.{ℕ, List, [], ◌∷◌, ◌++◌, map, codes}
use Rattle.std.specs.List.{flat_map}
use Rattle.serde_json.specs.Data.{Data, number, unsigned, string, array, object, Items, no_items, item, member, no_members}
use Rattle.serde_json.specs.View.{items_of}
use Rattle.serde_json.specs.Written.{compact_text}
use Rattle.document_requests.specs.declared.reply.Refusal.{Refusal}
use Rattle.document_requests.specs.declared.reply.Refusal.TheVariants.{Request, Float, Range, TooLong, NoTarget, Payload, NoParent, BadTarget, Intersecting, MissingMapping, Unfaithful, NoTreeNumber, Messages}

-- an edit was made; the ranges of the new text that a commit inserted; the tree's lines; messages, each with its place; why
-- nothing was done
pub data Reply : Type 0 where
  Edited : Reply
  Changed : List (ℕ × ℕ) → Reply
  Tree : List (List ℕ) → Reply
  Errors : List (ℕ × List ℕ) → Reply
  Refused : Refusal → Reply

abbrev pub refusal_name : Refusal → List ℕ
refusal_name Request = codes "Request"
refusal_name Float = codes "Float"
refusal_name Range = codes "Range"
refusal_name TooLong = codes "TooLong"
refusal_name NoTarget = codes "NoTarget"
refusal_name Payload = codes "Payload"
refusal_name NoParent = codes "NoParent"
refusal_name BadTarget = codes "BadTarget"
refusal_name Intersecting = codes "Intersecting"
refusal_name MissingMapping = codes "MissingMapping"
refusal_name Unfaithful = codes "Unfaithful"
refusal_name NoTreeNumber = codes "NoTreeNumber"
refusal_name Messages = codes "Messages"

abbrev pub range_data : ℕ × ℕ → Data
range_data range = array (item (number (unsigned range.0)) (item (number (unsigned range.1)) no_items))

abbrev pub ranges_data : List (ℕ × ℕ) → Items
ranges_data ranges = items_of (map range_data ranges)

abbrev pub lines_data : List (List ℕ) → Items
lines_data lines = items_of (map string lines)

abbrev pub message_data : ℕ × List ℕ → Data
message_data message = array (item (number (unsigned message.0)) (item (string message.1) no_items))

abbrev pub messages_data : List (ℕ × List ℕ) → Items
messages_data messages = items_of (map message_data messages)

abbrev pub reply_data : Reply → Data
reply_data Edited = object (member (codes "ok") (string (codes "edit")) no_members)
reply_data (Changed ranges) = object (member (codes "changed") (array (ranges_data ranges)) (member (codes "ok") (string (codes "commit")) no_members))
reply_data (Tree lines) = object (member (codes "ok") (string (codes "tree")) (member (codes "tree") (array (lines_data lines)) no_members))
reply_data (Errors messages) = object (member (codes "errors") (array (messages_data messages)) (member (codes "ok") (string (codes "errors")) no_members))
reply_data (Refused refusal) = object (member (codes "err") (string (refusal_name refusal)) no_members)

-- JSON with no space, and a line feed
abbrev pub line : Reply → List ℕ
line reply = compact_text (reply_data reply) ++ 10 ∷ []

abbrev pub lines : List Reply → List ℕ
lines replies = flat_map line replies

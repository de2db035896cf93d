-- Replies hold whole numbers alone.
use Rattle.std.proofs.Common.{◌≡◌, ℕ, List, [], ◌∷◌, map, refl, false}
use Rattle.serde_json.specs.Data.{string}
use Rattle.serde_json.specs.View.{items_of}
use Rattle.serde_json.specs.Written.{has_float, items_have_float}
use Rattle.document_requests.specs.Reply.{Reply, Edited, Changed, Tree, Errors, Refused, reply_data, range_data, message_data}

ranges_no_float : (ranges : List (ℕ × ℕ)) → items_have_float (items_of (map range_data ranges)) ≡ false
ranges_no_float [] = refl
ranges_no_float (range ∷ ranges) = ranges_no_float ranges

lines_no_float : (lines : List (List ℕ)) → items_have_float (items_of (map string lines)) ≡ false
lines_no_float [] = refl
lines_no_float (line ∷ lines) = lines_no_float lines

messages_no_float : (messages : List (ℕ × List ℕ)) → items_have_float (items_of (map message_data messages)) ≡ false
messages_no_float [] = refl
messages_no_float (message ∷ messages) = messages_no_float messages

pub reply_no_float : (r : Reply) → has_float (reply_data r) ≡ false
reply_no_float Edited = refl
reply_no_float (Changed ranges) = rw (ranges_no_float ranges) refl
reply_no_float (Tree lines) = rw (lines_no_float lines) refl
reply_no_float (Errors messages) = rw (messages_no_float messages) refl
reply_no_float (Refused refusal) = refl

pub replies_no_float : (rs : List Reply) → items_have_float (items_of (map reply_data rs)) ≡ false
replies_no_float [] = refl
replies_no_float (r ∷ rs) = rw (reply_no_float r) (replies_no_float rs)

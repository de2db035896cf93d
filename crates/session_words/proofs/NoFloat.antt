-- What the client is told holds whole numbers alone.
use Rattle.std.proofs.Common.{◌≡◌, ℕ, ℤ, pos, negsuc, List, [], ◌∷◌, map, refl, ap, ◌∙◌, Option, Some, None, false}
use Rattle.std.specs.Prelude.{Bool, ◌||◌}
use Rattle.serde_json.specs.Data.{Data, null, Items, no_items, item}
use Rattle.serde_json.specs.Find.{is_float, of_integer}
use Rattle.serde_json.specs.View.{items_of}
use Rattle.serde_json.specs.Written.{has_float, items_have_float, members_have_float}
use Rattle.session_words.specs.Messages.{Id, Number, Word}
use Rattle.session_words.specs.Replies.{Reply, Begun, Done, Told, Refused, Published, Lost, Withdrawn, Shown, answer, begun, error, id_data, id_data_if_any, list_data, lost_data, publication, refusal_code, reply_data, shown_data, told, version_data}
use Rattle.session_words.specs.declared.reply.Refusal.{Refusal}

integer_no_float : (z : ℤ) → is_float (of_integer z) ≡ false
integer_no_float (pos n) = refl
integer_no_float (negsuc n) = refl

id_no_float : (id : Id) → has_float (id_data id) ≡ false
id_no_float (Number z) = integer_no_float z
id_no_float (Word w) = refl

any_no_float : (id : Option Id) → has_float (id_data_if_any id) ≡ false
any_no_float None = refl
any_no_float (Some id) = id_no_float id

version_no_float : (version : Option ℤ) → has_float (version_data version) ≡ false
version_no_float None = refl
version_no_float (Some z) = integer_no_float z

list_no_float : (list : List Shown) → items_have_float (list_data list) ≡ false
list_no_float [] = refl
list_no_float (s ∷ list) = list_no_float list

told_no_float : (version : Option ℤ) (text : Option (List ℕ)) → has_float (told version text) ≡ false
told_no_float version None = rw (version_no_float version) refl
told_no_float version (Some text) = rw (version_no_float version) refl

answer_no_float : (id : Id) (result : Data) → has_float result ≡ false → has_float (answer (id_data id) result) ≡ false
answer_no_float id result none = rw (id_no_float id, none) refl

publication_no_float : (uri : List ℕ) (version : Option ℤ) (list : Items) → items_have_float list ≡ false → has_float (publication uri version list) ≡ false
publication_no_float uri None list none = rw none refl
publication_no_float uri (Some z) list none = rw (none, integer_no_float z) refl

error_no_float : (id : Option Id) (refusal : Refusal) → has_float (error (id_data_if_any id) refusal) ≡ false
error_no_float id refusal = rw (integer_no_float (refusal_code refusal), any_no_float id) refl

pub reply_no_float : (r : Reply) → has_float (reply_data r) ≡ false
reply_no_float (Begun id e) = answer_no_float id (begun e) refl
reply_no_float (Done id) = answer_no_float id null refl
reply_no_float (Told id version text) = answer_no_float id (told version text) (told_no_float version text)
reply_no_float (Refused id refusal) = error_no_float id refusal
reply_no_float (Published uri version list) = publication_no_float uri version (list_data list) (list_no_float list)
reply_no_float (Lost uri version) = publication_no_float uri version (item lost_data no_items) refl
reply_no_float (Withdrawn uri) = refl

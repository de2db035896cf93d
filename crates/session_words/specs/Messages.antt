-- What a message is.
use Rattle.std.specs.Prelude.{ℕ, ℤ, Bool, true, false, ◌&&◌, ◌||◌, List, Option, Some, None, option_map, is_some, codes, if◌then◌else◌}
use Rattle.std.specs.Str.{bytes_eq}
use Rattle.serde_json.specs.Data.{Data, null, boolean, number, string, array, object}
use Rattle.serde_json.specs.Find.{get, as_str, as_i64}

-- what a request is called: a number or a word
pub data Id : Type 0 where
  Number : ℤ → Id
  Word : List ℕ → Id

-- a request; a notice, which is not answered; an answer of the client; a value that is no message, with its id if it has one
pub data Message : Type 0 where
  Request : Id → List ℕ → Option Data → Message
  Notice : List ℕ → Option Data → Message
  Answer : Message
  Invalid : Option Id → Message

-- an id is a whole number of 64 bits or a word
abbrev pub id_in : Data → Option Id
id_in null = None
id_in (boolean b) = None
id_in (number n) = option_map Number (as_i64 n)
id_in (string s) = Some (Word s)
id_in (array ds) = None
id_in (object ms) = None

-- a method that a request must not have: what it tells would be told without being answered
abbrev pub is_notice : List ℕ → Bool
is_notice method =
    bytes_eq method (codes "textDocument/didOpen") || (bytes_eq method (codes "textDocument/didChange")
    || (bytes_eq method (codes "textDocument/didClose") || bytes_eq method (codes "exit")))

abbrev pub called : List ℕ → Option Data → Id → Message
called method params id = if is_notice method then Invalid (Some id) else Request id method params

-- with a method
abbrev pub asked_by : List ℕ → Option Data → Option Data → Message
asked_by method params None = Notice method params
asked_by method params (Some d) = elim (id_in d) [ None ↦ Invalid None | Some id ↦ called method params id ]

-- without one
abbrev pub unasked : Bool → Option Data → Message
unasked answers None = Invalid None
unasked answers (Some d) = if answers then Answer else Invalid (id_in d)

-- a member that answers have
abbrev pub has_outcome : Data → Bool
has_outcome d = is_some (get (codes "result") d) || is_some (get (codes "error") d)

abbrev pub id_if_any : Option Data → Option Id
id_if_any None = None
id_if_any (Some d) = id_in d

-- by its method, which has to be a word
abbrev pub by_method : Data → Option Data → Message
by_method d None = unasked (has_outcome d) (get (codes "id") d)
by_method d (Some named) =
    elim (as_str named) [ None ↦ Invalid (id_if_any (get (codes "id") d)) | Some method ↦ asked_by method (get (codes "params") d) (get (codes "id") d) ]

abbrev pub message_in : Data → Message
message_in d = by_method d (get (codes "method") d)

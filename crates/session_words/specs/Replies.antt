-- What the client is told, in JSON.
use Rattle.std.specs.Prelude.{ℕ, ℤ, negsuc, Bool, true, false, List, [], ◌∷◌, map, Option, Some, None, option_map, codes, String, string_bytes}
use Rattle.serde_json.specs.Data.{Data, null, boolean, number, string, array, object, unsigned, negative, Items, no_items, item, Members, member, no_members}
use Rattle.serde_json.specs.Find.{of_integer}
use Rattle.serde_json.specs.View.{items_of}
use Rattle.serde_json.specs.Written.{compact_text}
use Rattle.line_index.specs.declared.encoding.Encoding.{Encoding}
use Rattle.line_index.specs.declared.encoding.Encoding.TheVariants.{Utf8, Utf16, Utf32}
use Rattle.line_index.specs.declared.line_col.LineCol.{LineCol}
use Rattle.session_words.specs.Messages.{Id, Number, Word}
use Rattle.session_words.specs.Asked.{id_of}
use Rattle.session_words.specs.declared.reply.Diagnostic.{Diagnostic}
use Rattle.session_words.specs.declared.reply.Refusal.{Refusal}
use Rattle.session_words.specs.declared.reply.Refusal.TheVariants.{Header, Json, Message, NotInitialized, Initialized, ShutDown, Method, Document}
use Rattle.session_words.specs.declared.reply.Reply as declared
use Rattle.session_words.specs.declared.reply.Reply.TheVariants as replies

-- a message about a text, with its places
pub record Shown : Type 0 where
  pub start : LineCol
  pub end : LineCol
  pub words : List ℕ

-- the answers to `initialize`, to `shutdown` and to `tevondimby/text`, whose text is None where it is lost; an error; the list of
-- messages of a text, with its version if it has one; the notice that a text is lost; the end of what is told of a text
pub data Reply : Type 0 where
  Begun : Id → Encoding → Reply
  Done : Id → Reply
  Told : Id → Option ℤ → Option (List ℕ) → Reply
  Refused : Option Id → Refusal → Reply
  Published : List ℕ → Option ℤ → List Shown → Reply
  Lost : List ℕ → Option ℤ → Reply
  Withdrawn : List ℕ → Reply

abbrev pub id_data : Id → Data
id_data (Number z) = number (of_integer z)
id_data (Word w) = string w

abbrev pub id_data_if_any : Option Id → Data
id_data_if_any None = null
id_data_if_any (Some id) = id_data id

abbrev pub version_data : Option ℤ → Data
version_data None = null
version_data (Some z) = number (of_integer z)

abbrev pub encoding_name : Encoding → List ℕ
encoding_name Utf8 = codes "utf-8"
encoding_name Utf16 = codes "utf-16"
encoding_name Utf32 = codes "utf-32"

-- the codes of errors that the protocol names
abbrev pub refusal_code : Refusal → ℤ
refusal_code Header = negsuc 32699
refusal_code Json = negsuc 32699
refusal_code Message = negsuc 32599
refusal_code NotInitialized = negsuc 32001
refusal_code Initialized = negsuc 32599
refusal_code ShutDown = negsuc 32599
refusal_code Method = negsuc 32600
refusal_code Document = negsuc 32601

abbrev pub refusal_words : Refusal → List ℕ
refusal_words Header = codes "the header of a message could not be read"
refusal_words Json = codes "the message is no JSON"
refusal_words Message = codes "this is no message"
refusal_words NotInitialized = codes "the server is not initialized"
refusal_words Initialized = codes "the server is initialized already"
refusal_words ShutDown = codes "the server is shut down"
refusal_words Method = codes "there is no such method"
refusal_words Document = codes "no such document is open"

abbrev pub place_data : LineCol → Data
place_data p =
    object (member (codes "character") (number (unsigned p.col)) (member (codes "line") (number (unsigned p.line)) no_members))

abbrev pub range_data : LineCol → LineCol → Data
range_data start end = object (member (codes "end") (place_data end) (member (codes "start") (place_data start) no_members))

abbrev pub shown_data : Shown → Data
shown_data s =
    object (member (codes "message") (string s.words)
    (member (codes "range") (range_data s.start s.end)
    (member (codes "severity") (number (unsigned 1)) (member (codes "source") (string (codes "tevondimby")) no_members))))

abbrev pub list_data : List Shown → Items
list_data list = items_of (map shown_data list)

abbrev pub origin : LineCol
origin = record { line = 0; col = 0 }

abbrev pub lost_words : List ℕ
lost_words = codes "the server has lost this text: close it and open it again"

abbrev pub lost_data : Data
lost_data =
    object (member (codes "code") (string (codes "lost")) (member (codes "message") (string lost_words)
    (member (codes "range") (range_data origin origin)
    (member (codes "severity") (number (unsigned 1)) (member (codes "source") (string (codes "tevondimby")) no_members)))))

abbrev pub version_member : Option ℤ → Members
version_member None = no_members
version_member (Some z) = member (codes "version") (number (of_integer z)) no_members

abbrev pub publication : List ℕ → Option ℤ → Items → Data
publication uri version list =
    object (member (codes "jsonrpc") (string (codes "2.0")) (member (codes "method") (string (codes "textDocument/publishDiagnostics"))
    (member (codes "params") (object (member (codes "diagnostics") (array list) (member (codes "uri") (string uri) (version_member version)))) no_members)))

abbrev pub answer : Data → Data → Data
answer id result =
    object (member (codes "id") id (member (codes "jsonrpc") (string (codes "2.0")) (member (codes "result") result no_members)))

abbrev pub error : Data → Refusal → Data
error id refusal =
    object (member (codes "error") (object (member (codes "code") (number (of_integer (refusal_code refusal))) (member (codes "message") (string (refusal_words refusal)) no_members)))
    (member (codes "id") id (member (codes "jsonrpc") (string (codes "2.0")) no_members)))

-- what the server can do: it takes changes of parts of a text
abbrev pub capabilities : Encoding → Data
capabilities e =
    object (member (codes "experimental") (object (member (codes "tevondimby") (array (item (string (codes "text")) no_items)) no_members))
    (member (codes "positionEncoding") (string (encoding_name e))
    (member (codes "textDocumentSync") (object (member (codes "change") (number (unsigned 2)) (member (codes "openClose") (boolean true) no_members))) no_members)))

abbrev pub begun : Encoding → Data
begun e =
    object (member (codes "capabilities") (capabilities e)
    (member (codes "serverInfo") (object (member (codes "name") (string (codes "tevondimby")) (member (codes "version") (string (codes "0.1.0")) no_members))) no_members))

abbrev pub told : Option ℤ → Option (List ℕ) → Data
told version None = object (member (codes "lost") (boolean true) (member (codes "version") (version_data version) no_members))
told version (Some text) =
    object (member (codes "lost") (boolean false) (member (codes "text") (string text) (member (codes "version") (version_data version) no_members)))

abbrev pub reply_data : Reply → Data
reply_data (Begun id e) = answer (id_data id) (begun e)
reply_data (Done id) = answer (id_data id) null
reply_data (Told id version text) = answer (id_data id) (told version text)
reply_data (Refused id refusal) = error (id_data_if_any id) refusal
reply_data (Published uri version list) = publication uri version (list_data list)
reply_data (Lost uri version) = publication uri version (item lost_data no_items)
reply_data (Withdrawn uri) = publication uri None no_items

-- the body of a message: JSON without spaces
abbrev pub reply_body : Reply → List ℕ
reply_body r = compact_text (reply_data r)

-- ---- in code

abbrev pub shown_of : Diagnostic → Shown
shown_of d = record { start = d.start; end = d.end; words = string_bytes d.message }

abbrev pub reply_of : declared.Reply → Reply
reply_of (replies.Begun id e) = Begun (id_of id) e
reply_of (replies.Done id) = Done (id_of id)
reply_of (replies.Told id version text) = Told (id_of id) version (option_map (λ t. t.now) text)
reply_of (replies.Refused id refusal) = Refused (option_map id_of id) refusal
reply_of (replies.Published uri version list) = Published uri.now version (map shown_of list.now)
reply_of (replies.Lost uri version) = Lost uri.now version
reply_of (replies.Withdrawn uri) = Withdrawn uri.now

-- What commands make of a document, and what they are answered.
use Rattle.std.specs.Prelude.{ℕ, ◌+◌, ◌^◌, ◌==◌, ◌&&◌, Bool, true, false, nat_lt, nat_le, List, [], ◌∷◌, length, map, chars, Option, Some, None, if◌then◌else◌}
use Rattle.parser_input.specs.Kind.{raw_of}
use Rattle.parser_input.specs.Kinds.{TOMBSTONE}
use Rattle.rowan_green.specs.Forest.{tree_text}
use Rattle.rowan_green.specs.Leaf.{Leaf}
use Rattle.rowan_green.specs.Term.{tree_of}
use Rattle.rowan_green.specs.declared.utility_types.NodeOrToken.TheVariants as terms
use Rattle.rowan.specs.Place.{index_of, terms_below}
use Rattle.syntax_tree.specs.Element.{Element, element_at}
use Rattle.syntax_tree.specs.Handle.{parent_of}
use Rattle.rust_document.specs.Payload as payload
use Rattle.rust_document.specs.Payload.{Payload, payload_in}
use Rattle.ra_parser.specs.declared.entry_points.TopEntryPoint.TheVariants as tops
use Rattle.rust_document.specs.declared.payload_entry.PayloadEntry.{PayloadEntry}
use Rattle.rust_document.specs.declared.payload_entry.PayloadEntry.TheVariants as payloads
use Rattle.rust_document.specs.Rewrite.{rewritten, changed}
use Rattle.syntax_editor.specs.Editing.{Editing, untouched, with_changes}
use Rattle.syntax_editor.specs.Recording as records
use Rattle.syntax_editor.specs.Recording.{Recording, inserting, replacing}
use Rattle.rust_document.specs.Step as step
use Rattle.rust_document.specs.Edit.{can_edit, edited}
use Rattle.rust_document.specs.Reading.{messages_in}
use Rattle.rust_document.specs.Step.{MAX_TEXT, State, first_element, present, root_element, Verdict, verdict}
use Rattle.document_requests.specs.Reply as reply
use Rattle.document_requests.specs.Reply.{Reply, Edited, Changed, Refused}
use Rattle.document_requests.specs.Lines.{tree_lines}
use Rattle.document_requests.specs.Messages.{worded}
use Rattle.document_requests.specs.Request as asked
use Rattle.document_requests.specs.Request.{Command, Change, Put, Delete}
use Rattle.document_requests.specs.declared.reply.Refusal.{Refusal}
use Rattle.document_requests.specs.declared.reply.Refusal.TheVariants as refusals
use Rattle.document_requests.specs.declared.request.Entry.{Entry}
use Rattle.document_requests.specs.declared.request.Entry.TheVariants as entries
use Rattle.document_requests.specs.declared.request.Op.{Op}
use Rattle.document_requests.specs.declared.request.Op.TheVariants as ops
use Rattle.document_requests.specs.declared.request.Target.{Target}

-- a document, and the number that the next tree gets, 2^32 where none is left
pub record Session : Type 0 where
  pub document : State
  pub next : ℕ

-- what a command is answered, and what it leaves
pub record Answer : Type 0 where
  pub reply : Reply
  pub after : Session

abbrev pub refused : Refusal → Session → Answer
refused refusal s = record { reply = Refused refusal; after = s }

-- a tree was made, whose number is taken
abbrev pub numbered : Session → Session
numbered s = record { document = s.document; next = s.next + 1 }

-- The element that a target names: its start is before its end, which lies in the text.
abbrev pub found : State → Target → Option Element
found d t =
    if nat_lt t.start t.stop && nat_le t.stop (length d.text) then first_element d (raw_of t.kind) t.start t.stop else None

-- The rewritten tree's text becomes the document's.
abbrev pub accepted : Session → Editing → Answer
accepted s e =
    if s.next == 2 ^ 32 then refused refusals.NoTreeNumber s
    else record { reply = Changed (changed e); after = numbered (record { document = record { edition = s.document.edition; grammar = s.document.grammar; text = tree_text (rewritten e); number = s.next }; next = s.next }) }

-- An editor of the present tree is never foreign.
abbrev pub answer_to : Verdict → Session → Editing → Answer
answer_to step.Foreign s e = refused refusals.NoTarget s
answer_to step.Intersecting s e = refused refusals.Intersecting s
answer_to step.MissingMapping s e = refused refusals.MissingMapping s
answer_to step.TooLong s e = refused refusals.TooLong s
answer_to step.Unfaithful s e = refused refusals.Unfaithful s
answer_to step.Accepted s e = accepted s e

-- ---- what is put

-- what a word has a text read as
abbrev pub payload_entry : Entry → PayloadEntry
payload_entry entries.Token = payloads.Token
payload_entry entries.Expr = payloads.Top tops.Expr
payload_entry entries.Ty = payloads.Top tops.Ty
payload_entry entries.Pattern = payloads.Top tops.Pattern
payload_entry entries.Item = payloads.Top tops.SourceFile
payload_entry entries.Stmt = payloads.Top tops.MacroStmts

-- an item or a statement is the only child of what is read, tokens counted too
abbrev pub is_only_child : Entry → Bool
is_only_child entries.Item = true
is_only_child entries.Stmt = true
is_only_child _ = false

abbrev pub only_child : Element → Option Element
only_child e = if length (terms_below e.place) == 1 then Some (element_at e.number e.place.root (0 ∷ e.place.up)) else None

-- the token as the only child of the root of a new tree
abbrev pub detached : ℕ → Leaf → Element
detached number l = element_at number (tree_of TOMBSTONE (terms.Token l ∷ [])) (0 ∷ [])

-- the payload as an element of a tree of this number, if it is one
abbrev pub numbered_payload : ℕ → Payload → Option Element
numbered_payload number (payload.One l) = Some (detached number l)
numbered_payload number (payload.Whole t) = Some (element_at number t [])
numbered_payload number p = None

-- what is put, and the number that the next tree gets then; or why nothing is
pub data Taken : Type 0 where
  Given : Element → ℕ → Taken
  Withheld : Refusal → ℕ → Taken

-- the number that the next tree gets then
abbrev pub number_after_taking : Taken → ℕ
number_after_taking (Given e next) = next
number_after_taking (Withheld refusal next) = next

abbrev pub if_any : Option Element → ℕ → Taken
if_any None next = Withheld refusals.Payload next
if_any (Some e) next = Given e next

abbrev pub part_of : Entry → Element → ℕ → Taken
part_of entry e next = if_any (if is_only_child entry then only_child e else Some e) next

abbrev pub taken_of : Entry → Option Element → ℕ → Taken
taken_of entry None next = Withheld refusals.Payload next
taken_of entry (Some e) next = if next == 2 ^ 32 then Withheld refusals.NoTreeNumber next else part_of entry e (next + 1)

-- what a text is, read as an entry by a document's edition and grammar
abbrev pub taken : Entry → State → List ℕ → ℕ → Taken
taken entry d text next = taken_of entry (numbered_payload next (payload_in (payload_entry entry) d.grammar d.edition text)) next

-- ---- what is recorded

-- an editor with what was recorded so far, and the number that the next tree gets; or why a change is refused
pub data Prepared : Type 0 where
  Ready : Editing → ℕ → Prepared
  Stopped : Refusal → ℕ → Prepared

-- the number that the next tree gets then
abbrev pub number_after_preparing : Prepared → ℕ
number_after_preparing (Ready e next) = next
number_after_preparing (Stopped refusal next) = next

abbrev pub recorded : Editing → ℕ → Recording → Prepared
recorded e next records.Foreign = Stopped refusals.NoTarget next
recorded e next records.BadRange = Stopped refusals.BadTarget next
recorded e next records.BadTarget = Stopped refusals.BadTarget next
recorded e next (records.Recorded changes) = Ready (with_changes e changes) next

-- an element comes into the gap of this number of a parent, if there is one
abbrev pub inserted_at : Option Element → ℕ → Editing → ℕ → Element → Prepared
inserted_at None i e next new = Stopped refusals.NoParent next
inserted_at (Some parent) i e next new = recorded e next (inserting e parent i (new ∷ []))

abbrev pub put_element : Op → Element → Editing → ℕ → Element → Prepared
put_element ops.Replace old e next new = recorded e next (replacing e old (new ∷ []))
put_element ops.Before old e next new = inserted_at (parent_of old) (index_of old.place) e next new
put_element ops.After old e next new = inserted_at (parent_of old) (index_of old.place + 1) e next new

abbrev pub put_taken : Op → Element → Editing → Taken → Prepared
put_taken op old e (Given new next) = put_element op old e next new
put_taken op old e (Withheld refusal next) = Stopped refusal next

-- The target comes first, then the text, then the recording.
abbrev pub put_at : Op → Option Element → Entry → List ℕ → State → Editing → ℕ → Prepared
put_at op None entry text d e next = Stopped refusals.NoTarget next
put_at op (Some old) entry text d e next = put_taken op old e (taken entry d text next)

abbrev pub deleted_at : Option Element → Editing → ℕ → Prepared
deleted_at None e next = Stopped refusals.NoTarget next
deleted_at (Some old) e next = recorded e next (replacing e old [])

abbrev pub prepared_by : Change → State → Editing → ℕ → Prepared
prepared_by (Put op target entry text) d e next = put_at op (found d target) entry text d e next
prepared_by (Delete target) d e next = deleted_at (found d target) e next

abbrev pub and_then : (Editing → ℕ → Prepared) → Prepared → Prepared
and_then more (Ready e next) = more e next
and_then more (Stopped refusal next) = Stopped refusal next

-- changes are prepared in order, up to the first that is refused
abbrev pub prepared : List Change → State → Editing → ℕ → Prepared
prepared [] d e next = Ready e next
prepared (c ∷ cs) d e next = and_then (prepared cs d) (prepared_by c d e next)

abbrev pub settled : State → Prepared → Answer
settled d (Ready e next) = answer_to (verdict d e) (record { document = d; next = next }) e
settled d (Stopped refusal next) = refused refusal (record { document = d; next = next })

-- all changes of a commit are applied atomically
abbrev pub committed : List Change → Session → Answer
committed changes s = settled s.document (prepared changes s.document (untouched (root_element s.document)) s.next)

-- the text becomes this one
abbrev pub read_anew : Session → List ℕ → Answer
read_anew s text =
    if nat_lt MAX_TEXT (length text) then refused refusals.TooLong s
    else if s.next == 2 ^ 32 then refused refusals.NoTreeNumber s
    else record { reply = Edited; after = numbered (record { document = record { edition = s.document.edition; grammar = s.document.grammar; text = text; number = s.next }; next = s.next }) }

-- A text takes the place of the bytes from `start` to just before `stop`.
abbrev pub edited_by : ℕ → ℕ → List ℕ → Session → Answer
edited_by start stop text s = if can_edit s.document.text start stop then read_anew s (edited s.document.text start stop text) else refused refusals.Range s

abbrev pub answer : Command → Session → Answer
answer (asked.Edit start stop text) s = edited_by start stop text s
answer (asked.Commit changes) s = committed changes s
answer asked.Tree s = record { reply = reply.Tree (tree_lines (present s.document)); after = s }
answer asked.Errors s = record { reply = reply.Errors (map worded (messages_in s.document.grammar s.document.edition (chars s.document.text))); after = s }

-- the replies to commands, one each, and what they leave
pub record Run : Type 0 where
  pub replies : List Reply
  pub after : Session

abbrev pub begun : Answer → Run → Run
begun a r = record { replies = a.reply ∷ r.replies; after = r.after }

abbrev pub run : List Command → Session → Run
run [] s = record { replies = []; after = s }
run (command ∷ commands) s = let a = answer command s in begun a (run commands a.after)

-- What a request asks, and which JSON values are requests.
use Rattle.std.specs.Prelude.{ℕ, List, [], ◌∷◌, Option, Some, None, option_map, option_and_then, codes, if◌then◌else◌}
use Rattle.std.specs.Str.{bytes_eq}
use Rattle.serde_json.specs.Data.{Data, Items, no_items, item}
use Rattle.serde_json.specs.Find.{get, as_str, as_array, as_number, as_u64}
use Rattle.parser_input.specs.Edition.{edition_named}
use Rattle.parser_input.specs.declared.edition.Edition.{Edition}
use Rattle.ra_parser.specs.declared.grammar.Grammar.{Grammar}
use Rattle.ra_parser.specs.declared.grammar.Grammar.TheVariants.{Profile, Whole}
use Rattle.document_requests.specs.declared.request.Format.{Format}
use Rattle.document_requests.specs.declared.request.Format.TheVariants.{Single, Line}
use Rattle.document_requests.specs.declared.request.Op.{Op}
use Rattle.document_requests.specs.declared.request.Entry.{Entry}
use Rattle.document_requests.specs.declared.request.Target.{Target}
use Rattle.document_requests.specs.Words.{grammar_named, op_named, entry_named, kind_named}

-- what a text is read as comes to a target, or the target goes
pub data Change : Type 0 where
  Put : Op → Target → Entry → List ℕ → Change
  Delete : Target → Change

-- a text replaces some bytes; changes are applied atomically; the tree or the messages are asked for
pub data Command : Type 0 where
  Edit : ℕ → ℕ → List ℕ → Command
  Commit : List Change → Command
  Tree : Command
  Errors : Command

-- a text in an edition, read by a grammar, and what is done to it
pub record Request : Type 0 where
  pub grammar : Grammar
  pub edition : Edition
  pub text : List ℕ
  pub commands : List Command

-- the member of this name, where it is a text
abbrev pub text_in : List ℕ → Data → Option (List ℕ)
text_in name d = option_and_then as_str (get name d)

-- the member of this name, where it is a list
abbrev pub list_in : List ℕ → Data → Option Items
list_in name d = option_and_then as_array (get name d)

abbrev pub whole_number : Data → Option ℕ
whole_number d = option_and_then as_u64 (as_number d)

-- a kind, where it begins and where it ends
abbrev pub target_in : Grammar → Items → Option Target
target_in grammar (item kind (item start (item stop no_items))) =
    option_and_then
    (λ k. option_and_then (λ a. option_map (λ b. record { kind = k; start = a; stop = b }) (whole_number stop)) (whole_number start))
    (option_and_then (kind_named grammar) (as_str kind))
target_in grammar _ = None

-- what the text is to be read as, and the text
abbrev pub payload_in : Items → Option (Entry × List ℕ)
payload_in (item entry (item text no_items)) = option_and_then (λ e. option_map (λ t. (e, t)) (as_str text)) (option_and_then entry_named (as_str entry))
payload_in _ = None

-- what is to be put, and how
abbrev pub put_named : List ℕ → Target → Data → Option Change
put_named word target d =
    option_and_then (λ op. option_map (λ p. Put op target p.0 p.1) (option_and_then payload_in (list_in (codes "with") d))) (op_named word)

abbrev pub change_named : List ℕ → Target → Data → Option Change
change_named word target d = if bytes_eq word (codes "delete") then Some (Delete target) else put_named word target d

abbrev pub change_of : Grammar → Data → Option Change
change_of grammar d = option_and_then (λ word. option_and_then (λ target. change_named word target d) (option_and_then (target_in grammar) (list_in (codes "at") d))) (text_in (codes "op") d)

-- all of them, where each is one
abbrev pub all_in : {X : Type 0} → (Data → Option X) → Items → Option (List X)
all_in of no_items = Some []
all_in of (item d ds) = option_and_then (λ x. option_map (λ xs. x ∷ xs) (all_in of ds)) (of d)

-- the member of this name, where it is a whole number
abbrev pub number_in : List ℕ → Data → Option ℕ
number_in name d = option_and_then whole_number (get name d)

abbrev pub edit_of : Data → Option Command
edit_of d =
    option_and_then
    (λ start. option_and_then (λ stop. option_map (λ text. Edit start stop text) (text_in (codes "text") d)) (number_in (codes "end") d))
    (number_in (codes "start") d)

abbrev pub commit_of : Grammar → Data → Option Command
commit_of grammar d = option_map Commit (option_and_then (all_in (change_of grammar)) (list_in (codes "changes") d))

abbrev pub command_named : Grammar → List ℕ → Data → Option Command
command_named grammar word d =
    if bytes_eq word (codes "edit") then edit_of d
    else if bytes_eq word (codes "commit") then commit_of grammar d
    else if bytes_eq word (codes "tree") then Some Tree
    else if bytes_eq word (codes "errors") then Some Errors
    else None

-- a command on a document that is read by this grammar
abbrev pub command_by : Grammar → Data → Option Command
command_by grammar d = option_and_then (λ word. command_named grammar word d) (text_in (codes "do") d)

-- the grammar that the value of a member names; without the member it is that of the whole language
abbrev pub grammar_in : Option Data → Option Grammar
grammar_in None = Some Whole
grammar_in (Some d) = option_and_then grammar_named (as_str d)

-- the grammar that a request is read by: one on a line may name it, in a member of its own
abbrev pub grammar_of : Format → Data → Option Grammar
grammar_of Single d = Some Profile
grammar_of Line d = grammar_in (get (codes "grammar") d)

-- the request, if it is read by this grammar; further members are ignored
abbrev pub request_by : Grammar → Data → Option Request
request_by grammar d =
    option_and_then
    (λ edition. option_and_then (λ text. option_map (λ commands. record { grammar = grammar; edition = edition; text = text; commands = commands }) (option_and_then (all_in (command_by grammar)) (list_in (codes "commands") d))) (text_in (codes "text") d))
    (option_and_then edition_named (text_in (codes "edition") d))

-- the request, read by its grammar
abbrev pub request_of : Format → Data → Option Request
request_of format d = option_and_then (λ grammar. request_by grammar d) (grammar_of format d)

-- What an extraction makes of a document.
use Rattle.std.specs.Prelude.{◌≡◌, ◌+◌, ℕ, Bool, false, true, ◌&&◌, List, [], ◌∷◌, ◌++◌, Option, None, Some, codes, slice_get}
use Rattle.std.specs.List.{filter}
use Rattle.rust_source.specs.Changes.{ChangesBy, Editing, insert, replace, untouched, with_changes}
use Rattle.rust_source.specs.Elements.{ARG_LIST, BIN_EXPR, PATH_EXPR, STMT_LIST, Element, State, ancestor_below, index_of, is_of_kind, nodes_at, parent_of, root_element, text_at}
use Rattle.rust_source.specs.Held.{Held}
use Rattle.rust_source.specs.Identifiers.{has_identifier}
use Rattle.rust_source.specs.Lines.{IsLineIndent, line_break}
use Rattle.rust_source.specs.Nodes.{IsFound, expression_payload, first_node, only_node, statements_payload}
use Rattle.extract_tool.specs.declared.Extraction.{Extraction}
use Rattle.extract_tool.specs.declared.Extraction.TheVariants.{Done, NameIsUsed, NoArgument}

-- ---- which argument

-- true if there is an element, and it is of a kind
abbrev pub is_of_kind_if : ℕ → Option Element → Bool
is_of_kind_if kind None = false
is_of_kind_if kind (Some e) = is_of_kind kind e

-- a binary expression whose parent is a list of arguments
abbrev pub is_argument : Element → Bool
is_argument e = is_of_kind BIN_EXPR e && is_of_kind_if ARG_LIST (parent_of e)

-- such an argument of a tree by its number in preorder, from 0
abbrev pub argument_of : Element → ℕ → Option Element
argument_of root number = slice_get (filter is_argument (nodes_at root)) number

-- ---- what is put

-- the statement that binds an argument to a name
abbrev pub binding_text : List ℕ → Element → List ℕ
binding_text name argument = codes "let " ++ (name ++ (codes " = " ++ (text_at argument.place ++ codes ";")))

-- The elements of an extraction: the argument and its statement, which has this parent and whose line has this indent; the `let` statement and the path.
pub record Parts : Type 0 where
  pub argument : Element
  pub statement : Element
  pub parent : Element
  pub indent : List ℕ
  pub binding : Element
  pub path : Element

-- Two changes: before the statement come the `let` statement and a line break with its indent, and the path replaces the argument.
abbrev pub extraction : Held → Parts → Editing
extraction s p =
    with_changes (untouched (root_element s.document))
    (insert p.parent.place.up (index_of p.statement.place) (p.binding ∷ (line_break (s.next + 2) p.indent ∷ []))
    ∷ (replace p.argument.place.up 0 (p.path ∷ []) true ∷ []))

-- the parts are those of the argument of this number and of the name
pub record AreParts (s : Held) (number : ℕ) (name : List ℕ) (p : Parts) : Type 0 where
  pub argument_is : argument_of (root_element s.document) number ≡ Some p.argument
  pub statement_is : ancestor_below STMT_LIST p.argument ≡ Some p.statement
  pub parent_is : parent_of p.statement ≡ Some p.parent
  pub indent_is : IsLineIndent s.document.text p.statement p.indent
  pub binding_is :
      IsFound only_node s.next (statements_payload s.document.grammar s.document.edition (binding_text name p.argument)) p.binding
  pub path_is : IsFound (first_node PATH_EXPR) (s.next + 1) (expression_payload s.document.grammar s.document.edition name) p.path

-- The name was no identifier of the text, and exactly the two changes are made.
pub record IsExtracted (s : Held) (number : ℕ) (name : List ℕ) (after : State) : Type 0 where
  pub is_free : has_identifier name s.document ≡ false
  pub parts : Parts
  pub are_parts : AreParts s number name parts
  pub changed : ChangesBy s.document after (extraction s parts)

-- there is no such argument, or it is in no statement
abbrev pub LacksStatement : Option Element → Type 0
LacksStatement None = Unit {0}
LacksStatement (Some argument) = ancestor_below STMT_LIST argument ≡ None

abbrev pub Answers : Held → ℕ → List ℕ → State → Extraction → Type 0
Answers s number name after Done = IsExtracted s number name after
Answers s number name after NoArgument =
    (after ≡ s.document) × LacksStatement (argument_of (root_element s.document) number)
Answers s number name after NameIsUsed = (after ≡ s.document) × (has_identifier name s.document ≡ true)

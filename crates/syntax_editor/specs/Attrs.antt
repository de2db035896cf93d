-- What goes with the attributes and the documentation of a node.
use Rattle.std.specs.Prelude.{ℕ, List, [], ◌∷◌, map, Bool, false, ◌&&◌, ◌||◌, ◌==◌, if◌then◌else◌}
use Rattle.parser_input.specs.Kinds.{WHITESPACE, COMMENT, ATTR}
use Rattle.rowan.specs.Around.{children}
use Rattle.syntax_tree.specs.Element.{Element}
use Rattle.syntax_tree.specs.Handle.{element_of, with_cursor}
use Rattle.syntax_tree.specs.declared.element.SyntaxElement.{SyntaxElement}
use Rattle.tree_rewrite.specs.Change.{Change}
use Rattle.syntax_editor.specs.Between.{kind_of}
use Rattle.syntax_editor.specs.Editing.{Editing, with_changes}
use Rattle.syntax_editor.specs.Recording.{Recording, Foreign, BadRange, BadTarget, Recorded, is_target, replacing}

-- a kind of attributes or of comments
abbrev pub is_attr_or_doc : ℕ → Bool
is_attr_or_doc kind = kind == ATTR || kind == COMMENT

-- an element of a kind goes: an attribute, a comment, or whitespace `after` one of those
abbrev pub goes : Bool → ℕ → Bool
goes after kind = is_attr_or_doc kind || (after && kind == WHITESPACE)

-- those of some neighbours that go; `after`: an attribute or a comment is right before the first of them
abbrev pub going : Bool → List SyntaxElement → List SyntaxElement
going after [] = []
going after (e ∷ es) =
    if goes after (kind_of e) then e ∷ going (is_attr_or_doc (kind_of e)) es else going (is_attr_or_doc (kind_of e)) es

-- the children of a node that go
abbrev pub attrs_and_docs : Element → List SyntaxElement
attrs_and_docs n = going false (map (with_cursor n.number) (children n.place))

-- with the changes that a call leaves, another one; a refusal stands
abbrev pub and_next : Recording → (List Change → Recording) → Recording
and_next Foreign next = Foreign
and_next BadRange next = BadRange
and_next BadTarget next = BadTarget
and_next (Recorded cs) next = next cs

-- each of these is deleted, in their order
abbrev pub deleting_each : Editing → List Element → Recording
deleting_each e [] = Recorded e.changes
deleting_each e (x ∷ xs) = and_next (replacing e x []) (λ cs. deleting_each (with_changes e cs) xs)

-- the attributes and comments of a node of the edited tree are deleted, and the whitespace right after them
abbrev pub removing_attrs : Editing → Element → Recording
removing_attrs e n = if is_target e.top n then deleting_each e (map element_of (attrs_and_docs n)) else Foreign

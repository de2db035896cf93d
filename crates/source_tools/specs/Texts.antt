-- What is shown of a text: messages, tokens or the tree.
use Rattle.std.specs.Prelude.{ℕ, suc, ◌-◌, List, [], ◌∷◌, ◌++◌, chars, codes, length, slice_range, take}
use Rattle.std.specs.List.{flat_map}
use Rattle.rowan_green.specs.declared.utility_types.NodeOrToken.TheVariants.{Node, Token}
use Rattle.rowan.specs.Place.{kind_at, text_at, start_of, end_of}
use Rattle.rowan.specs.Around.{Cursor, place_in}
use Rattle.rowan.specs.Walk.{Event, walk}
use Rattle.rowan.specs.declared.utility_types.WalkEvent.TheVariants.{Enter, Leave}
use Rattle.syntax_tree.specs.Element.{element_at}
use Rattle.rust_document.specs.Reading.{Message, messages_in, tree_in}
use Rattle.rust_document.specs.Step.{State}
use Rattle.rust_document.specs.Tokens.{Span, tokens_of}
use Rattle.source_tools.specs.Rows.{message_rows, range_text, token_row, quoted}
use Rattle.source_tools.specs.Order.{in_order}
use Rattle.source_tools.specs.Words.{kind_name, words}
use Rattle.message_ends.specs.Ends.{message_end}
use Rattle.line_index.specs.declared.encoding.Encoding.TheVariants.{Utf32}
use Rattle.line_index.specs.Columns.{line_col}
use Rattle.source_tools.specs.Json.{message_item, token_item, element_item, file_object}
use Rattle.source_tools.specs.declared.source.Dialect.{Dialect}
use Rattle.source_tools.specs.declared.view.Format.{Format}
use Rattle.source_tools.specs.declared.view.Format.TheVariants.{Text, Json}
use Rattle.source_tools.specs.declared.view.View.{View}
use Rattle.source_tools.specs.declared.view.View.TheVariants.{Messages, Tokens, Tree}

-- the rows of a message about a text
abbrev pub rows_of_message : List ℕ → List ℕ → Message → List ℕ
rows_of_message path text m = message_rows path text m.0 (words m.1)

-- the row of a token of a text
abbrev pub row_of_token : List ℕ → Span → List ℕ
row_of_token text t = token_row (kind_name t.kind) t.start t.end (slice_range text t.start t.end)

-- a row ends with the text of a token, and after the range of a node
abbrev pub row_end : Cursor → List ℕ
row_end (Node p) = codes "\n"
row_end (Token p) = codes " " ++ (quoted (text_at p) ++ codes "\n")

abbrev pub row_of_element : Cursor → List ℕ
row_of_element c =
    range_text (kind_name (kind_at (place_in c))) (start_of (place_in c)) (end_of (place_in c)) ++ row_end c

-- the margin of what is in an element, and the margin around it again
abbrev pub inner : List ℕ → List ℕ
inner margin = margin ++ codes "  "

abbrev pub outer : List ℕ → List ℕ
outer margin = take (length margin - 2) margin

-- a row for each element that is entered
abbrev pub tree_rows : List ℕ → List Event → List ℕ
tree_rows margin [] = []
tree_rows margin (Enter c ∷ events) = (margin ++ row_of_element c) ++ tree_rows (inner margin) events
tree_rows margin (Leave c ∷ events) = tree_rows (outer margin) events

-- ---- items of a list in JSON

abbrev pub item_of_message : List Span → List ℕ → Message → List ℕ
item_of_message tokens text m = message_item (line_col Utf32 text m.0) m.0 (message_end tokens m) (words m.1)

abbrev pub item_of_token : Span → List ℕ
item_of_token t = token_item (kind_name t.kind) t.start t.end

abbrev pub item_of_element : ℕ → Cursor → List ℕ
item_of_element depth c = element_item depth (kind_name (kind_at (place_in c))) (start_of (place_in c)) (end_of (place_in c))

-- an item for each element that is entered, with the number of the nodes around it
abbrev pub tree_items : ℕ → List Event → List ℕ
tree_items depth [] = []
tree_items depth (Enter c ∷ events) = item_of_element depth c ++ tree_items (suc depth) events
tree_items depth (Leave c ∷ events) = tree_items (depth - 1) events

-- ---- a text in each view

-- the Rust that a document is read as
abbrev pub dialect_of : State → Dialect
dialect_of d = record { edition = d.edition; grammar = d.grammar }

abbrev pub events_of : Dialect → List ℕ → List Event
events_of dialect text = walk (Node (element_at 0 (tree_in dialect.grammar dialect.edition (chars text)) []).place)

abbrev pub message_view : Format → List ℕ → Dialect → List ℕ → List ℕ
message_view Text path dialect text = flat_map (rows_of_message path text) (in_order (messages_in dialect.grammar dialect.edition (chars text)))
message_view Json path dialect text = file_object path (codes "messages") (flat_map (item_of_message (tokens_of dialect.edition (chars text)) text) (in_order (messages_in dialect.grammar dialect.edition (chars text))))

abbrev pub token_view : Format → List ℕ → Dialect → List ℕ → List ℕ
token_view Text path dialect text = flat_map (row_of_token text) (tokens_of dialect.edition (chars text))
token_view Json path dialect text = file_object path (codes "tokens") (flat_map item_of_token (tokens_of dialect.edition (chars text)))

abbrev pub tree_view : Format → List ℕ → Dialect → List ℕ → List ℕ
tree_view Text path dialect text = tree_rows [] (events_of dialect text)
tree_view Json path dialect text = file_object path (codes "tree") (tree_items 0 (events_of dialect text))

-- what is shown of a text
unfoldable pub rows_of : View → List ℕ → Dialect → List ℕ → List ℕ
rows_of (Messages format) path dialect text = message_view format path dialect text
rows_of (Tokens format) path dialect text = token_view format path dialect text
rows_of (Tree format) path dialect text = tree_view format path dialect text

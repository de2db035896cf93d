-- What the rows of a document are.
use Rattle.std.specs.Prelude.{ℕ, ◌+◌, ◌-◌, ◌^◌, min, List, [], ◌∷◌, ◌++◌, length, map, chars}
use Rattle.rowan_green.specs.Forest.{Forest, empty, node, leaf, Tree, forest_text}
use Rattle.rowan_green.specs.declared.text_range.TextRange.{TextRange}
use Rattle.rust_document.specs.Reading.{messages_in}
use Rattle.rust_document.specs.Step.{State, present}
use Rattle.rust_document.specs.Tokens.{Span, tokens_of}
use Rattle.document_requests.specs.Messages.{worded}
use Rattle.document_rows.specs.declared.rows.TokenRow.{TokenRow}
use Rattle.document_rows.specs.declared.rows.ElementRow.{ElementRow}
use Rattle.document_rows.specs.declared.rows.MessageRow.{MessageRow}
use Rattle.document_rows.specs.declared.rows.RangeRow.{RangeRow}

-- a number as a row has it: past the greatest, that one
abbrev pub shown : ℕ → ℕ
shown n = min n (2 ^ 32 - 1)

-- ---- tokens

abbrev pub token_row : Span → TokenRow
token_row s = record { kind = s.kind; start = s.start; end = s.end }

abbrev pub token_rows : State → List TokenRow
token_rows d = map token_row (tokens_of d.edition (chars d.text))

-- ---- elements

abbrev pub element_row : ℕ → ℕ → ℕ → ℕ → ElementRow
element_row kind depth start end = record { kind = kind; depth = shown depth; start = start; end = end }

-- elements side by side from a byte on, a node before what is in it; `depth` nodes are around them
abbrev pub rows_from : ℕ → ℕ → Forest → List ElementRow
rows_from depth start empty = []
rows_from depth start (node kind children rest) =
    let end = start + length (forest_text children) in
    element_row kind depth start end ∷ rows_from (depth + 1) start children ++ rows_from depth end rest
rows_from depth start (leaf l rest) =
    let end = start + length l.text in element_row l.kind depth start end ∷ rows_from depth end rest

abbrev pub element_rows : Tree → List ElementRow
element_rows t = element_row t.kind 0 0 (length (forest_text t.forest)) ∷ rows_from 1 0 t.forest

abbrev pub element_rows_of : State → List ElementRow
element_rows_of d = element_rows (present d)

-- ---- messages

-- a message with its words: its place, and the range of its words after those before it
abbrev pub message_row : List ℕ → ℕ × List ℕ → List MessageRow
message_row before message =
    record { offset = shown message.0; words_start = shown (length before); words_end = shown (length (before ++ message.1)) } ∷ []

abbrev pub message_rows : List ℕ → List (ℕ × List ℕ) → List MessageRow
message_rows before [] = []
message_rows before (m ∷ ms) = message_row before m ++ message_rows (before ++ m.1) ms

-- the words of messages, joined
abbrev pub message_words : List (ℕ × List ℕ) → List ℕ
message_words [] = []
message_words (m ∷ ms) = m.1 ++ message_words ms

abbrev pub messages_of : State → List (ℕ × List ℕ)
messages_of d = map worded (messages_in d.grammar d.edition (chars d.text))

abbrev pub message_rows_of : State → List MessageRow
message_rows_of d = message_rows [] (messages_of d)

abbrev pub message_words_of : State → List ℕ
message_words_of d = message_words (messages_of d)

-- ---- ranges

abbrev pub range_row : TextRange → RangeRow
range_row r = record { start = r.start.0; end = r.end.0 }

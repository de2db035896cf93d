-- What the entries of an arena mean, and what holds of them.
use Rattle.std.specs.Prelude.{◌≡◌, ℕ, ◌+◌, ◌≤◌, ◌<◌, ◌^◌, List, [], ◌∷◌, ◌++◌, length, take, drop, map, IsCharBoundary, string_bytes, slice_index_or}
use Rattle.rowan_green.specs.Term.{Term, tree_of, term_len, texts_of, children_of}
use Rattle.rowan_green.specs.declared.utility_types.NodeOrToken.TheVariants.{Node, Token}
use Rattle.rowan_green.specs.declared.arena.Entry.{Entry}
use Rattle.rowan_green.specs.declared.arena.Entry.TheVariants.{Short, Few, Long, Many}
use Rattle.rowan_green.specs.declared.arena.Record.{Record}
use Rattle.rowan_green.specs.declared.arena.Arena.{Arena}

-- an item: a term, and the offset of its text in the arena's text
pub record Item : Type 0 where
  pub start : ℕ
  pub term : Term

-- the terms of these items
abbrev pub terms_at : List Item → List Term
terms_at xs = map (λ x. x.term) xs

-- the offset at which an item's text ends
abbrev pub item_end : Item → ℕ
item_end x = x.start + term_len x.term

-- `len` elements, from `start` on
abbrev pub piece : {A : Type 0} → List A → ℕ → ℕ → List A
piece xs start len = take len (drop start xs)

-- where the text of the first of these items starts
abbrev pub row_start : List Item → ℕ
row_start [] = 0
row_start (x ∷ xs) = x.start

-- the record of this number
abbrev pub record_at : List Record → ℕ → Record
record_at records i = slice_index_or records i (record { start = 0; len = 0; first = 0; count = 0 })

-- a token of this kind, whose text has `len` bytes from `start` on
abbrev pub token_item : List ℕ → ℕ → ℕ → ℕ → Item
token_item text kind start len =
    record { start = start; term = Token (record { kind = kind; text = piece text start len }) }

-- a node of this kind with these children, whose text starts at `start`
abbrev pub node_item : ℕ → ℕ → List Item → Item
node_item kind start children =
    record { start = start; term = Node (tree_of kind (terms_at children)) }

-- the children that a record names
abbrev pub record_children : List Item → Record → List Item
record_children before r = piece before r.first r.count

-- the item of a token by its record, and that of a node
abbrev pub token_by : List ℕ → ℕ → Record → Item
token_by text kind r = token_item text kind r.start r.len

abbrev pub node_by : List Item → ℕ → Record → Item
node_by before kind r = node_item kind r.start (record_children before r)

-- the item of an entry, where `before` are the items of the entries before it
abbrev pub item_of : List ℕ → List Record → List Item → Entry → Item
item_of text records before (Short n k s) = token_item text k s n
item_of text records before (Few n k f) =
    node_item k (row_start (piece before f n)) (piece before f n)
item_of text records before (Long k i) = token_by text k (record_at records i)
item_of text records before (Many k i) = node_by before k (record_at records i)

-- these items, and those of the entries after them
abbrev pub items_after : List ℕ → List Record → List Item → List Entry → List Item
items_after text records before [] = before
items_after text records before (e ∷ es) =
    items_after text records (before ++ item_of text records before e ∷ []) es

-- the items of an arena's entries
abbrev pub items_in : Arena → List Item
items_in a = items_after (string_bytes a.text) a.records.items [] a.entries.items

-- the item of an entry whose children are entries of the arena
abbrev pub item_in : Arena → Entry → Item
item_in a e = item_of (string_bytes a.text) a.records.items (items_in a) e

-- the items of such entries
abbrev pub items_over : Arena → List Entry → List Item
items_over a es = map (item_of (string_bytes a.text) a.records.items (items_in a)) es

-- the term of such an entry
abbrev pub term_in : Arena → Entry → Term
term_in a e = (item_in a e).term

-- the terms of such entries
abbrev pub terms_over : Arena → List Entry → List Term
terms_over a es = terms_at (items_over a es)

-- the items' texts lie in a row: the first starts at `start`, each other where the one before ends
abbrev pub IsRow : ℕ → List Item → Type 0
IsRow start [] = Unit {0}
IsRow start (x ∷ xs) = (x.start ≡ start) × IsRow (item_end x) xs

-- a text may be cut at both ends of this range
pub record IsTextRange (text : List ℕ) (start : ℕ) (len : ℕ) : Type 0 where
  pub from : IsCharBoundary text start
  pub to : IsCharBoundary text (start + len)

-- these children lie among the first items, and their texts in a row
pub record AreChildren (before : List Item) (first : ℕ) (count : ℕ) (start : ℕ) : Type 0 where
  pub within : first + count ≤ length before
  pub row : IsRow start (piece before first count)

-- an entry `Few` of these children may follow the entries of these items
pub record IsFew (before : List Item) (first : ℕ) (count : ℕ) : Type 0 where
  pub some : 1 ≤ count
  pub children : AreChildren before first count (row_start (piece before first count))

-- this record is there, and is that of a token
pub record IsLong (text : List ℕ) (records : List Record) (i : ℕ) : Type 0 where
  pub present : i < length records
  pub range : IsTextRange text (record_at records i).start (record_at records i).len

-- a record is that of a node which may follow the entries of these items
pub record IsNodeRecord (text : List ℕ) (before : List Item) (r : Record) : Type 0 where
  pub from : IsCharBoundary text r.start
  pub children : AreChildren before r.first r.count r.start
  pub len : r.len ≡ length (texts_of (terms_at (record_children before r)))

-- this record is there, and is that of such a node
pub record IsMany (text : List ℕ) (rs : List Record) (before : List Item) (i : ℕ) : Type 0 where
  pub present : i < length rs
  pub node : IsNodeRecord text before (record_at rs i)

-- what an entry names is there: a piece of the text, or children among those before it
abbrev pub IsPlaced : List ℕ → List Record → List Item → Entry → Type 0
IsPlaced text records before (Short n k s) = IsTextRange text s n
IsPlaced text records before (Few n k f) = IsFew before f n
IsPlaced text records before (Long k i) = IsLong text records i
IsPlaced text records before (Many k i) = IsMany text records before i

-- each of these entries names what is before all of them
abbrev pub ArePlaced : List ℕ → List Record → List Item → List Entry → Type 0
ArePlaced text records before [] = Unit {0}
ArePlaced text records before (e ∷ es) =
    IsPlaced text records before e × ArePlaced text records before es

-- each of these entries, which follow those of the items, names what is before itself
abbrev pub AreOrdered : List ℕ → List Record → List Item → List Entry → Type 0
AreOrdered text records before [] = Unit {0}
AreOrdered text records before (e ∷ es) =
    IsPlaced text records before e
    × AreOrdered text records (before ++ item_of text records before e ∷ []) es

-- what holds of an arena, and of entries that have entries of the arena as their children
pub record IsSound (a : Arena) (es : List Entry) : Type 0 where
  pub text : length (string_bytes a.text) < 2 ^ 32
  pub count : length a.entries.items < 2 ^ 32
  pub ordered : AreOrdered (string_bytes a.text) a.records.items [] a.entries.items
  pub placed : ArePlaced (string_bytes a.text) a.records.items (items_in a) es

-- what holds of an arena that grows: the texts of the entries that have no parent yet lie in a row,
-- and are the part of its text that is used
pub record IsGrowing (a : Arena) (done : List Entry) : Type 0 where
  pub sound : IsSound a done
  pub row : IsRow 0 (items_over a done)
  pub all : length (texts_of (terms_over a done)) ≡ a.used

-- all of an arena's text is used
abbrev pub IsWhole : Arena → Type 0
IsWhole a = a.used ≡ length (string_bytes a.text)

-- the children of a term; a token has none
abbrev pub child_terms : Term → List Term
child_terms (Node t) = children_of t
child_terms (Token l) = []

-- the children of an entry are the entries of this range, in a row
pub record IsChildRange (a : Arena) (e : Entry) (first : ℕ) (count : ℕ) : Type 0 where
  pub within : first + count ≤ length a.entries.items
  pub children : terms_at (piece (items_in a) first count) ≡ child_terms (term_in a e)
  pub row : IsRow (item_in a e).start (piece (items_in a) first count)

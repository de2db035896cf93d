-- The record from which a parser's open nodes are read.
use Rattle.std.specs.Prelude.{ℕ, suc, ◌+◌, ◌-◌, ◌≡◌, ◌==◌, Bool, true, false, List, [], ◌∷◌, ◌++◌, Option, Some, None, length, reverse, take, drop, slice_index_or as get_or, slice_set as set, if◌then◌else◌}
use Rattle.parser_input.specs.Kinds.{ERROR}
use Rattle.parser_events.specs.Forest.{Message}
use Rattle.parser_events.specs.Marked as marked
use Rattle.parser_events.specs.Marked.{Marked, End, ◌beside◌, size, front, after}

-- One entry of the record. A node's entry stands after those of what it holds, and has the place of the first of them, or
-- its own where it holds nothing.
pub data Entry : Type 0 where
  Token : (kind count : ℕ) → Entry
  Said : (message : Message) → Entry
  Closed : (kind start : ℕ) → Entry
  Ended : (ends_in_dot : Bool) → (start : ℕ) → Entry

-- where the tree begins that has its last entry, this one, at a place
abbrev pub begins : Entry → ℕ → ℕ
begins (Token kind count) place = place
begins (Said message) place = place
begins (Closed kind start) place = start
begins (Ended ends_in_dot start) place = start

-- this is the entry of a closed node that begins at a place
abbrev pub IsClosing : ℕ → Entry → Type 0
IsClosing place (Closed kind start) = start ≡ place
IsClosing place (Ended ends_in_dot start) = ⊥
IsClosing place (Token kind count) = ⊥
IsClosing place (Said message) = ⊥

-- the entries of trees, the first at this place
abbrev pub entries : ℕ → Marked → List Entry
entries place marked.End = []
entries place (marked.Leaf k n f) = Token k n ∷ entries (suc place) f
entries place (marked.Said m f) = Said m ∷ entries (suc place) f
entries place (marked.Node k c f) = entries place c ++ Closed k place ∷ entries (suc (size c + place)) f
entries place (marked.Split e c f) = entries place c ++ Ended e place ∷ entries (suc (size c + place)) f

-- The entries of the trees of the open nodes, the innermost node's last. The first list of trees, which is last here,
-- belongs to no node.
abbrev pub all_entries : List Marked → List Entry
all_entries [] = []
all_entries (f ∷ below) = all_entries below ++ entries (length (all_entries below)) f

-- where the trees of the open nodes begin, the innermost node's last
abbrev pub starts : List Marked → List ℕ
starts [] = []
starts (f ∷ []) = []
starts (f ∷ g ∷ below) = starts (g ∷ below) ++ length (all_entries (g ∷ below)) ∷ []

-- what a parser keeps: the entries, and where the open nodes begin
pub record Kept : Type 0 where
  pub entered : List Entry
  pub opened : List ℕ

-- the record of open nodes
abbrev pub record_of : List Marked → Kept
record_of nodes = record { entered = all_entries nodes; opened = starts nodes }

-- What entries make of a node's trees so far; the first of these has its entries from this place on. A node's entry stands
-- for a node around the trees from its own place on.
abbrev pub grown : ℕ → Marked → List Entry → Marked
grown place f [] = f
grown place f (Token k n ∷ es) = grown place (f beside marked.Leaf k n End) es
grown place f (Said m ∷ es) = grown place (f beside marked.Said m End) es
grown place f (Closed k s ∷ es) = grown place (front (s - place) f beside marked.Node k (after (s - place) f) End) es
grown place f (Ended e s ∷ es) = grown place (front (s - place) f beside marked.Split e (after (s - place) f) End) es

-- the trees of the open nodes, which begin at these places, the innermost first
abbrev pub read_from : List Entry → List ℕ → List Marked
read_from es [] = grown 0 End es ∷ []
read_from es (place ∷ around) = grown place End (drop place es) ∷ read_from (take place es) around

-- the open nodes of a record
unfoldable pub read_back : Kept → List Marked
read_back kept = read_from kept.entered (reverse kept.opened)

abbrev pub nodes_of : Option Kept → Option (List Marked)
nodes_of None = None
nodes_of (Some kept) = Some (read_back kept)

-- what is kept is the record of the open nodes that are read from it
abbrev pub IsRecord : Option Kept → Type 0
IsRecord None = Unit {0}
IsRecord (Some kept) = kept ≡ record_of (read_back kept)

abbrev pub with_entry : Entry → Kept → Kept
with_entry e kept = record { entered = kept.entered ++ e ∷ []; opened = kept.opened }

-- a node that begins at this place is open
abbrev pub opened_at : ℕ → Kept → Kept
opened_at place kept = record { entered = kept.entered; opened = kept.opened ++ place ∷ [] }

abbrev pub opened_here : Kept → Kept
opened_here kept = opened_at (length kept.entered) kept

-- where the innermost open node begins
abbrev pub innermost : Kept → ℕ
innermost kept = get_or kept.opened (length kept.opened - 1) 0

abbrev pub left_out : Kept → Kept
left_out kept = record { entered = kept.entered; opened = take (length kept.opened - 1) kept.opened }

abbrev pub closed_as : ℕ → Kept → Kept
closed_as kind kept = with_entry (Closed kind (innermost kept)) (left_out kept)

abbrev pub split_as : Bool → Kept → Kept
split_as ends_in_dot kept = with_entry (Ended ends_in_dot (innermost kept)) kept

-- the last entry; of no entries, that of a leaf
abbrev pub last_entry : List Entry → Entry
last_entry es = get_or es (length es - 1) (Token 0 0)

-- An entry of a field access that a float without a last dot ends begins at `outer` if it began at `inner`. Other entries
-- are unchanged.
abbrev pub access_from : (inner outer : ℕ) → Entry → Entry
access_from inner outer (Token kind count) = Token kind count
access_from inner outer (Said message) = Said message
access_from inner outer (Closed kind start) = Closed kind start
access_from inner outer (Ended true start) = Ended true start
access_from inner outer (Ended false start) = Ended false (if start == inner then outer else start)

-- The last tree, whose entry is given, begins at `outer` if it is a node or a field access that began at `inner`; so does
-- the field access before a node's entry, if a float without a last dot ends it. Any other last tree is unchanged, and an
-- error that begins at `outer` is closed.
abbrev pub extended_by : (inner outer : ℕ) → Entry → List Entry → List Entry
extended_by inner outer (Token kind count) es = es ++ Closed ERROR outer ∷ []
extended_by inner outer (Said message) es = es ++ Closed ERROR outer ∷ []
extended_by inner outer (Closed kind start) es =
    let one = set es (length es - 1) (Closed kind outer) in
    let before = length es - 2 in
    let both = set one before (access_from inner outer (get_or one before (Token 0 0))) in
    if start == inner then both else es ++ Closed ERROR outer ∷ []
extended_by inner outer (Ended ends_in_dot start) es =
    if start == inner then set es (length es - 1) (Ended ends_in_dot outer) else es ++ Closed ERROR outer ∷ []

abbrev pub extended_entries : (inner outer : ℕ) → List Entry → List Entry
extended_entries inner outer es = extended_by inner outer (last_entry es) es

-- the innermost open node is left out, and its one tree begins where the node around it does
abbrev pub extended : Kept → Kept
extended kept =
    let around = left_out kept in
    record { entered = extended_entries (innermost kept) (innermost around) kept.entered; opened = around.opened }

-- Lines of a text, what they begin with, and what is put beside an element on a line of its own.
use Rattle.std.specs.Prelude.{◌≡◌, ◌≢◌, ℕ, ◌+◌, ◌-◌, ◌<◌, ◌≤◌, ◌==◌, ◌||◌, Bool, List, [], ◌∷◌, Some, length, min, take_while, slice_index, slice_range}
use Rattle.rowan.specs.Place.{index_of, start_of}
use Rattle.syntax_tree.specs.Element.{Element}
use Rattle.syntax_tree.specs.Handle.{parent_of}
use Rattle.syntax_tree.specs.Position.{RefusesPosition}
use Rattle.tree_rewrite.specs.Change.{Change}
use Rattle.syntax_editor.specs.Editing.{Editing}
use Rattle.syntax_editor.specs.Making.{RefusesMake}
use Rattle.syntax_editor.specs.Recording.{Recording, inserting, Recorded}
use Rattle.syntax_editor.specs.Refusal.{RefusesRecord}
use Rattle.syntax_editor.specs.Spaced.{white_space}
use Rattle.syntax_editor.specs.declared.error.RecordError.{RecordError}
use Rattle.rust_source.specs.Held.{Held}
use Rattle.rust_source.specs.declared.error.SourceError.{SourceError}
use Rattle.rust_source.specs.declared.error.SourceError.TheVariants as errors
use Rattle.rust_source.specs.declared.lines.Side.{Side}
use Rattle.rust_source.specs.declared.lines.Side.TheVariants.{After, Before}

-- a space or a tab
abbrev pub is_blank : ℕ → Bool
is_blank c = c == 32 || c == 9

-- the line feed before `start` is the last one before `at`; `start` is 0 if there is none
pub record IsLineStart (text : List ℕ) (at start : ℕ) : Type 0 where
  pub before : start ≤ at
  pub first : 0 < start → slice_index text (start - 1) ≡ 10
  pub no_feed : (k : ℕ) → start ≤ k → k < at → slice_index text k ≢ 10

-- the spaces and tabs that begin the line of a byte, up to that byte
abbrev pub IsIndent : List ℕ → ℕ → List ℕ → Type 0
IsIndent text at indent =
    (start : ℕ) × (IsLineStart text at start × (indent ≡ take_while is_blank (slice_range text start at)))

-- the spaces and tabs that begin an element's line in a text, up to the element
abbrev pub IsLineIndent : List ℕ → Element → List ℕ → Type 0
IsLineIndent text e indent = IsIndent text (min (start_of e.place) (length text)) indent

-- a line feed and an indent, as a whitespace token in the tree of this number
abbrev pub line_break : ℕ → List ℕ → Element
line_break number indent = white_space number (10 ∷ indent)

-- the gap at a side of an element, by its number among the gaps of the parent
abbrev pub gap_beside : Side → Element → ℕ
gap_beside Before e = index_of e.place
gap_beside After e = index_of e.place + 1

-- a new element and a line break, in the order in which they come at a side of an element
abbrev pub in_order : Side → Element → Element → List Element
in_order Before new space = new ∷ (space ∷ [])
in_order After new space = space ∷ (new ∷ [])

-- the result of an insertion beside an element with this parent, whose line has this indent
abbrev pub inserting_beside : Side → Held → Editing → Element → Element → Element → List ℕ → Recording
inserting_beside side s e element new parent indent =
    inserting e parent (gap_beside side element) (in_order side new (line_break s.next indent))

-- At a side of an element come a new one and a line break with the indent of its line, the line break next to the element.
pub record InsertsBeside (side : Side) (s : Held) (e : Editing) (element new : Element) (changes : List Change) : Type 0 where
  pub parent : Element
  pub indent : List ℕ
  pub parent_is : parent_of element ≡ Some parent
  pub indent_is : IsLineIndent s.document.text element indent
  pub recorded : inserting_beside side s e element new parent indent ≡ Recorded changes

-- no line break is made: no tree number is left; out of memory at any point
abbrev pub RefusesBreak : Held → Element → SourceError → Type 0
RefusesBreak s element (errors.Make m) =
    (indent : List ℕ) × (IsLineIndent s.document.text element indent × RefusesMake (10 ∷ indent) s.next m)
RefusesBreak s element (errors.Memory m) = Unit {0}
RefusesBreak s element error = ⊥

-- The insertion of an element with this parent is refused.
pub record RefusesInsert (side : Side) (s : Held) (e : Editing) (element new : Element) (r : RecordError) : Type 0 where
  pub parent : Element
  pub indent : List ℕ
  pub parent_is : parent_of element ≡ Some parent
  pub indent_is : IsLineIndent s.document.text element indent
  pub refused : RefusesRecord (inserting_beside side s e element new parent indent) r

-- Nothing is inserted: the element has no parent; no tree number is left; the editor refuses; out of memory at any point.
abbrev pub RefusesBeside : Side → Held → Editing → Element → Element → SourceError → Type 0
RefusesBeside side s e element new (errors.Position p) = RefusesPosition element p
RefusesBeside side s e element new (errors.Make m) = RefusesBreak s element (errors.Make m)
RefusesBeside side s e element new (errors.Record r) = RefusesInsert side s e element new r
RefusesBeside side s e element new (errors.Memory m) = Unit {0}
RefusesBeside side s e element new error = ⊥

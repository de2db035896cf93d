-- What each step of a tree with its text makes of the list of elements.
use Rattle.std.specs.Prelude.{◌≡◌, ◌<◌, ℕ, zero, suc, ◌+◌, List, [], ◌∷◌, ◌++◌, length, map, encode_utf8_all}
use Rattle.parser_input.specs.Kind.{raw_of}
use Rattle.parser_events.specs.Dressed.{Saying}
use Rattle.parser_events.specs.Seen.{message_of}
use Rattle.parser_events.specs.TextSteps.{TextStep, Token, Enter, Exit, Error}
use Rattle.tree_lines.specs.Elements.{Element}
use Rattle.tree_lines.specs.declared.rows.Row.{Row}
use Rattle.tree_lines.specs.declared.rows.Said.{Said}
use Rattle.tree_lines.specs.declared.rows.Rows.{Rows}

-- how a row is read
abbrev pub element_of : Row → Element
element_of r = record { depth = r.depth; kind = raw_of r.kind; start = r.start; end = r.end }

-- how a message is read
abbrev pub saying_of : Said → Saying
saying_of s = record { message = message_of s.message; place = s.offset }

-- The element of this number ends at this byte.
abbrev pub closed : ℕ → ℕ → List Element → List Element
closed number end [] = []
closed zero end (e ∷ es) = record { depth = e.depth; kind = e.kind; start = e.start; end = end } ∷ es
closed (suc number) end (e ∷ es) = e ∷ closed number end es

-- an element over the next bytes is listed
pub record IsPushed (old : Rows) (kind bytes : ℕ) (new : Rows) : Type 0 where
  pub elements : map element_of new.rows.items ≡ map element_of old.rows.items
      ++ record { depth = length old.entered.items; kind = kind; start = old.offset; end = old.offset + bytes } ∷ []
  pub entered : new.entered.items ≡ old.entered.items
  pub place : new.offset ≡ old.offset + bytes
  pub sayings : new.said.items ≡ old.said.items

-- a node is listed, and is the innermost one
pub record IsEntered (old : Rows) (kind : ℕ) (new : Rows) : Type 0 where
  pub elements : map element_of new.rows.items ≡ map element_of old.rows.items
      ++ record { depth = length old.entered.items; kind = kind; start = old.offset; end = old.offset + 0 } ∷ []
  pub entered : new.entered.items ≡ old.entered.items ++ length old.rows.items ∷ []
  pub place : new.offset ≡ old.offset + 0
  pub sayings : new.said.items ≡ old.said.items

-- the innermost node, whose number is this, ends here
pub record IsLeft (old : Rows) (front : List ℕ) (number : ℕ) (new : Rows) : Type 0 where
  pub elements : map element_of new.rows.items ≡ closed number old.offset (map element_of old.rows.items)
  pub entered : new.entered.items ≡ front
  pub place : new.offset ≡ old.offset
  pub sayings : new.said.items ≡ old.said.items

-- the innermost node ends, if one is open and listed
abbrev pub IsExited : Rows → Rows → Type 0
IsExited old new =
    (front : List ℕ) (number : ℕ)
    → old.entered.items ≡ front ++ number ∷ [] → number < length old.rows.items → IsLeft old front number new

-- a message is listed
pub record IsSaid (old : Rows) (saying : Saying) (new : Rows) : Type 0 where
  pub elements : new.rows.items ≡ old.rows.items
  pub entered : new.entered.items ≡ old.entered.items
  pub place : new.offset ≡ old.offset
  pub sayings : map saying_of new.said.items ≡ map saying_of old.said.items ++ saying ∷ []

-- a step is taken
abbrev pub IsTaken : Rows → TextStep → Rows → Type 0
IsTaken old (Token kind text) new = IsPushed old kind (length (encode_utf8_all text)) new
IsTaken old (Enter kind) new = IsEntered old kind new
IsTaken old Exit new = IsExited old new
IsTaken old (Error message place) new = IsSaid old (record { message = message; place = place }) new

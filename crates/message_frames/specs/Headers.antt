-- Headers of messages. What a section of fields is, says httparse.
use Rattle.std.specs.Prelude.{◌≡◌, ◌<◌, ◌≤◌, ◌⊎◌, ℕ, Bool, List, [], ◌∷◌, Option, Some, None, codes, drop, length, map, if◌then◌else◌}
use Rattle.std.specs.Str.{bytes_eq}
use Rattle.std.specs.Char.{to_ascii_lowercase}
use Rattle.httparse.specs.Grammar.{Field, LineEnd, HasNoSection, MayBecomeSection, NeverHasSection, ReadsSection, print_section}
use Rattle.httparse.specs.Spans.{name_and_value}
use Rattle.message_frames.specs.Numbers.{number}
use Rattle.message_frames.specs.declared.header.HeaderRead.{HeaderRead}
use Rattle.message_frames.specs.declared.header.HeaderRead.TheVariants.{Unfinished, Broken, Whole}

-- the most bytes of a header
abbrev pub MAX_HEADER : ℕ
MAX_HEADER = 4096

-- the name of the field that tells how many bytes a message has, its letters in any case
abbrev pub is_length_name : List ℕ → Bool
is_length_name name = bytes_eq (map to_ascii_lowercase name) (codes "content-length")

-- a field of a header: its name, and its value without blanks around it
abbrev pub Told : Type 0
Told = List ℕ × List ℕ

-- the length that fields tell, where those before them told this one: the last one counts; None if one is no number
unfoldable pub length_of : Option ℕ → List Told → Option ℕ
length_of known [] = known
length_of known (f ∷ fs) =
    if is_length_name f.0
    then (elim (number f.1) [ None ↦ None | Some n ↦ length_of (Some n) fs ])
    else length_of known fs

abbrev pub told_length : List Field → Option ℕ
told_length fields = length_of None (map name_and_value fields)

-- bytes begin with a header of this length, which tells the length of a body, or none
pub record Begins (bytes : List ℕ) (len : ℕ) (told : Option ℕ) : Type 0 where
  pub fields : List Field
  pub last : LineEnd
  pub reads : ReadsSection bytes fields last (drop len bytes)
  pub len_is : len ≡ length (print_section fields last)
  pub told_is : told_length fields ≡ told
  pub fits : len ≤ MAX_HEADER

-- no header is at the front of bytes, and some that follow can make one
pub record IsOpenHeader (bytes : List ℕ) : Type 0 where
  pub none : HasNoSection bytes
  pub may : MayBecomeSection bytes
  pub fits : length bytes ≤ MAX_HEADER

-- more bytes than a header has, and none is at their front
pub record IsLongHeader (bytes : List ℕ) : Type 0 where
  pub long : MAX_HEADER < length bytes
  pub none : (len : ℕ) (told : Option ℕ) → Begins bytes len told → ⊥

-- whatever follows, no header with a length is at the front
abbrev pub HasNoLength : List ℕ → Type 0
HasNoLength bytes = NeverHasSection bytes ⊎ (IsLongHeader bytes ⊎ ((len : ℕ) × Begins bytes len None))

-- what is read of a buffer
abbrev pub IsHeaderRead : List ℕ → HeaderRead → Type 0
IsHeaderRead buffer Unfinished = IsOpenHeader buffer
IsHeaderRead buffer Broken = HasNoLength buffer
IsHeaderRead buffer (Whole len body) = Begins buffer len (Some body)

-- The text of a diff, read strictly: two lines that name the texts, and hunks. The header of a hunk says where it is and how many
-- lines it has, and each of its lines has a mark.
use Rattle.std.specs.Prelude.{ℕ, ◌+◌, ◌-◌, ◌*◌, ◌==◌, ◌&&◌, nat_le, Bool, true, false, not, List, [], ◌∷◌, Option, None, Some, take, drop, codes, option_and_then, option_map, if◌then◌else◌}
use Rattle.std.specs.Str.{bytes_eq}
use Rattle.text_diff.specs.Lines.{Line, lines, joined}
use Rattle.text_diff.specs.Hunks.{Row, context, removed, added, Hunk}
use Rattle.text_diff.specs.Patch.{patched, old_count, new_count}
use Rattle.text_diff.specs.Unified.{header_text}

abbrev pub is_digit : ℕ → Bool
is_digit b = nat_le 48 b && nat_le b 57

-- a number that goes on with decimal digits, and the bytes behind them
abbrev pub number_from : ℕ → List ℕ → ℕ × List ℕ
number_from n [] = (n, [])
number_from n (b ∷ bs) = if is_digit b then number_from (10 * n + (b - 48)) bs else (n, b ∷ bs)

-- lines by the number of those before them and how many there are, and the bytes behind
pub record Range : Type 0 where
  pub start : ℕ
  pub count : ℕ
  pub rest : List ℕ

-- Where there are no lines, the number of the first is that of the line before.
abbrev pub start_of : ℕ → ℕ → ℕ
start_of first count = if count == 0 then first else first - 1

abbrev pub range_to : ℕ → ℕ × List ℕ → Range
range_to first count = record { start = start_of first count.0; count = count.0; rest = count.1 }

abbrev pub range_behind : ℕ × List ℕ → Range
range_behind first = range_to first.0 (number_from 0 (drop 1 first.1))

-- the lines that `first,count` names
abbrev pub range_of : List ℕ → Range
range_of bytes = range_behind (number_from 0 bytes)

-- where a hunk is in both texts, and how many lines it has in each
pub record Header : Type 0 where
  pub old_start : ℕ
  pub old_count : ℕ
  pub new_start : ℕ
  pub new_count : ℕ

abbrev pub header_with : Line → Header → Option Header
header_with line h = if bytes_eq line (header_text h.old_start h.old_count h.new_start h.new_count) then Some h else None

abbrev pub header_to : Line → Range → Range → Option Header
header_to line old new = header_with line (record { old_start = old.start; old_count = old.count; new_start = new.start; new_count = new.count })

abbrev pub header_behind : Line → Range → Option Header
header_behind line old = header_to line old (range_of (drop 2 old.rest))

-- the header that a line is, to the byte
abbrev pub header_of : Line → Option Header
header_of line = header_behind line (range_of (drop 4 line))

-- a line with a mark: ` ` is before one of both texts, `-` before one of the old text, `+` before one of the new text
abbrev pub row_by : ℕ → Line → Option Row
row_by mark line =
    if mark == 32 then Some (context line)
    else if mark == 45 then Some (removed line)
    else if mark == 43 then Some (added line)
    else None

-- What is read of the last lines of a diff: the rows before the first header, whether the line before them lacks its line feed, and the
-- hunks.
pub record Read : Type 0 where
  pub rows : List Row
  pub is_open : Bool
  pub hunks : List Hunk

abbrev pub read : List Row → Bool → List Hunk → Read
read rows is_open hunks = record { rows = rows; is_open = is_open; hunks = hunks }

abbrev pub without_last : Line → Line
without_last [] = []
without_last (b ∷ []) = []
without_last (b ∷ c ∷ bs) = b ∷ without_last (c ∷ bs)

-- a line, without its line feed if a note says so
abbrev pub line_of_text : Bool → Line → Line
line_of_text true line = without_last line
line_of_text false line = line

-- A note, which begins with a backslash, says that the line before it has no line feed.
abbrev pub read_note : Read → Option Read
read_note r = if r.is_open then None else Some (read r.rows true r.hunks)

-- A header has as many lines behind it as it says.
abbrev pub read_header : Option Header → Read → Option Read
read_header None r = None
read_header (Some h) r =
    if not r.is_open && ((old_count r.rows == h.old_count) && (new_count r.rows == h.new_count))
    then Some (read [] false (record { old_start = h.old_start; new_start = h.new_start; rows = r.rows } ∷ r.hunks))
    else None

abbrev pub read_other : ℕ → Line → Read → Option Read
read_other mark line r = if mark == 92 then read_note r else read_header (header_of line) r

abbrev pub read_marked : Option Row → ℕ → Line → Read → Option Read
read_marked (Some row) mark line r = Some (read (row ∷ r.rows) false r.hunks)
read_marked None mark line r = read_other mark line r

-- one more line, in front of what is read
abbrev pub read_line : Line → Read → Option Read
read_line [] r = None
read_line (mark ∷ line) r = read_marked (row_by mark (line_of_text r.is_open line)) mark (mark ∷ line) r

abbrev pub read_lines : List Line → Option Read
read_lines [] = Some (read [] false [])
read_lines (l ∷ ls) = option_and_then (read_line l) (read_lines ls)

-- No line is left before the first header.
abbrev pub hunks_by : List Row → Bool → List Hunk → Option (List Hunk)
hunks_by [] is_open hunks = if is_open then None else Some hunks
hunks_by (row ∷ rows) is_open hunks = None

abbrev pub hunks_of : Read → Option (List Hunk)
hunks_of r = hunks_by r.rows r.is_open r.hunks

abbrev pub is_named : List ℕ → Line → Bool
is_named front line = bytes_eq (take 4 line) front

-- the hunks behind two lines that name the texts; none in no text
abbrev pub hunks_in : List Line → Option (List Hunk)
hunks_in [] = Some []
hunks_in (old ∷ []) = None
hunks_in (old ∷ new ∷ ls) =
    if is_named (codes "--- ") old && is_named (codes "+++ ") new then option_and_then hunks_of (read_lines ls) else None

-- what the text of a diff makes of an old text, if it is a diff of it
abbrev pub patched_text : List ℕ → List ℕ → Option (List ℕ)
patched_text diff old = option_and_then (λ hs. option_map joined (patched hs (lines old))) (hunks_in (lines diff))

-- What a tree is printed as, for those who look at it.
use Rattle.std.specs.Prelude.{ℕ, suc, pred, ◌+◌, List, [], ◌∷◌, ◌++◌, length, take, drop, replicate, Option, Some, if◌then◌else◌, ◌&&◌, nat_lt, nat_le}
use Rattle.std.specs.List.{concat}
use Rattle.std.specs.Fmt.{◌++?◌, debug_str, decimal}
use lib.Chars.{codes}
use Rattle.rowan_green.specs.declared.utility_types.NodeOrToken.TheVariants.{Node, Token}
use Rattle.rowan.specs.Place.{kind_at, text_at, start_of, end_of}
use Rattle.rowan.specs.Around.{Cursor, place_in}
use Rattle.rowan.specs.Walk.{Event}
use Rattle.rowan.specs.declared.utility_types.WalkEvent.TheVariants.{Enter, Leave}

-- how many bytes there are before the first that begins a character, or before the end
abbrev pub within_character : List ℕ → ℕ
within_character [] = 0
within_character (b ∷ bs) = if nat_le 128 b && nat_lt b 192 then suc (within_character bs) else 0

-- the first character boundary from byte 21 on
abbrev pub excerpt_end : List ℕ → ℕ
excerpt_end text = 21 + within_character (drop 21 text)

-- a text of 25 bytes or more is cut there
abbrev pub excerpt : List ℕ → List ℕ
excerpt text = if nat_lt (length text) 25 then text else take (excerpt_end text) text ++ codes " ..."

-- what a line begins with: two spaces a level, the name of a kind and a range
abbrev pub line_front : ℕ → List ℕ → ℕ → ℕ → List ℕ
line_front depth name start end =
    concat (replicate depth (codes "  ")) ++ name ++ codes "@" ++ decimal start ++ codes ".." ++ decimal end

-- what a token's line ends with: its text, quoted
abbrev pub line_text : List ℕ → Option (List ℕ)
line_text text = Some (codes " ") ++? debug_str (excerpt text) ++? Some (codes "\n")

abbrev pub line_end : Cursor → Option (List ℕ)
line_end (Node p) = Some (codes "\n")
line_end (Token p) = line_text (text_at p)

-- the line of an element
abbrev pub line_of : (ℕ → List ℕ) → ℕ → Cursor → Option (List ℕ)
line_of name depth c =
    Some (line_front depth (name (kind_at (place_in c))) (start_of (place_in c)) (end_of (place_in c))) ++? line_end c

-- the lines of the elements that are entered; the first is indented by `depth` levels
abbrev pub lines_of : (ℕ → List ℕ) → ℕ → List Event → Option (List ℕ)
lines_of name depth [] = Some []
lines_of name depth (Enter c ∷ w) = line_of name depth c ++? lines_of name (suc depth) w
lines_of name depth (Leave c ∷ w) = lines_of name (pred depth) w

-- Names that are words of a text. A text is a list of bytes.
use Rattle.std.specs.Prelude.{ℕ, suc, ◌==◌, ◌&&◌, ◌||◌, nat_le, not, Bool, false, List, [], ◌∷◌, ◌++◌, drop, length, if◌then◌else◌}
use Rattle.std.specs.List.{starts_with}
use Rattle.name_mentions.specs.declared.place.Mention.{Mention}
use Rattle.name_mentions.specs.declared.place.MentionPlace.{MentionPlace}

-- a byte between these two, or one of them
abbrev pub is_between : (low high b : ℕ) → Bool
is_between low high b = nat_le low b && nat_le b high

-- a letter, a digit or `_` of ASCII
abbrev pub is_word : ℕ → Bool
is_word b = is_between 48 57 b || (is_between 65 90 b || (is_between 97 122 b || b == 95))

abbrev pub continues_word : List ℕ → Bool
continues_word [] = false
continues_word (b ∷ bs) = is_word b

-- The text begins with the name, and then no word goes on.
abbrev pub begins_with : (name text : List ℕ) → Bool
begins_with name text = starts_with (λ a b. a == b) text name && not (continues_word (drop (length name) text))

-- Behind these two bytes a word may start: the last is no word's, or is a letter behind a backslash, which may be an escape.
abbrev pub can_start : (second last : ℕ) → Bool
can_start second last = not (is_word last) || second == 92

-- The name is a word at the start of a text, which is behind these two bytes.
abbrev pub is_name : (name : List ℕ) (second last : ℕ) (text : List ℕ) → Bool
is_name name second last text = can_start second last && begins_with name text

abbrev pub mention_if : Bool → MentionPlace → ℕ → List Mention
mention_if is_mention place at = if is_mention then record { place = place; offset = at } ∷ [] else []

-- the places where the name is a word of a text, whose first byte is at the offset `at` and is behind two bytes
unfoldable pub names_from : List ℕ → MentionPlace → (second last at : ℕ) → List ℕ → List Mention
names_from name place second last at [] = []
names_from name place second last at (b ∷ bs) =
    mention_if (is_name name second last (b ∷ bs)) place at ++ names_from name place last b (suc at) bs

-- the places where the name is a word of a text that starts at an offset
abbrev pub names_in : List ℕ → MentionPlace → ℕ → List ℕ → List Mention
names_in name place start text = names_from name place 0 0 start text

-- Numbers that a JSON text writes with a point or an exponent.
use Rattle.std.specs.Prelude.{ℕ, ◌==◌, Bool, false, ◌&&◌, ◌||◌, nat_le, List, [], ◌∷◌, if◌then◌else◌}

abbrev pub quote : ℕ
quote = 34

abbrev pub point : ℕ
point = 46

abbrev pub backslash : ℕ
backslash = 92

abbrev pub is_digit : ℕ → Bool
is_digit c = nat_le 48 c && nat_le c 57

-- a JSON text without what its strings hold, each of which leaves its first quote
abbrev mutual
  pub outside_strings : List ℕ → List ℕ
  outside_strings [] = []
  outside_strings (c ∷ s) = c ∷ (if c == quote then after_string s else outside_strings s)
      -- the variant that starts inside a string; a backslash precedes a character that does not end the string

  pub after_string : List ℕ → List ℕ
  after_string [] = []
  after_string (c ∷ []) = []
  after_string (c ∷ d ∷ s) = if c == quote then outside_strings (d ∷ s) else (if c == backslash then after_string s else after_string (d ∷ s))

-- `e` or `E` comes next
abbrev pub begins_exponent : List ℕ → Bool
begins_exponent [] = false
begins_exponent (c ∷ s) = c == 101 || c == 69

-- In a JSON text a point outside of strings stands in a number, and so does an `e` or `E` after a digit.
abbrev pub has_point_or_exponent : List ℕ → Bool
has_point_or_exponent [] = false
has_point_or_exponent (c ∷ s) = c == point || (is_digit c && begins_exponent s) || has_point_or_exponent s

abbrev pub writes_float : List ℕ → Bool
writes_float text = has_point_or_exponent (outside_strings text)

-- Patterns of paths, and what they match.
use Rattle.std.specs.Prelude.{ℕ, ◌==◌, ◌&&◌, ◌||◌, Bool, true, false, List, [], ◌∷◌, chars, codes, drop, length, if◌then◌else◌}
use Rattle.std.specs.List.{list_any, starts_with}

abbrev pub is_nothing : List ℕ → Bool
is_nothing [] = true
is_nothing (c ∷ cs) = false

-- The rest of a pattern matches the text from some character on.
abbrev pub matches_later : (List ℕ → Bool) → List ℕ → Bool
matches_later rest [] = rest []
matches_later rest (c ∷ cs) = rest (c ∷ cs) || matches_later rest cs

-- A text begins with a character that is this one, or with any for `?`, and the rest of a pattern matches what is behind it.
abbrev pub matches_one : ℕ → (List ℕ → Bool) → List ℕ → Bool
matches_one p rest [] = false
matches_one p rest (c ∷ cs) = (p == 63 || p == c) && rest cs

-- A pattern matches the whole text: `*` is any text, also with slashes.
abbrev pub is_match : (pattern text : List ℕ) → Bool
is_match [] text = is_nothing text
is_match (p ∷ ps) text = if p == 42 then matches_later (is_match ps) text else matches_one p (is_match ps) text

abbrev pub is_match_of : (text glob : List ℕ) → Bool
is_match_of text glob = is_match (chars glob) (chars text)

-- a path without `./` at its start
abbrev pub without_dot : List ℕ → List ℕ
without_dot path = if starts_with (λ a b. a == b) path (codes "./") then drop 2 path else path

-- One of the patterns matches a path, or its name.
abbrev pub is_excluded : List (List ℕ) → (path name : List ℕ) → Bool
is_excluded globs path name = list_any (λ glob. is_match_of (without_dot path) glob || is_match_of name glob) globs

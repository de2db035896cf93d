-- The text of a file: what follows a byte order mark.
use Rattle.std.specs.Prelude.{ℕ, ◌==◌, Bool, List, [], ◌∷◌, ◌++◌, drop, Option, Some, None, if◌then◌else◌}
use Rattle.std.specs.List.{starts_with}
use Rattle.std.specs.Str.{is_utf8}

-- U+FEFF in UTF-8
abbrev pub mark : List ℕ
mark = 239 ∷ 187 ∷ 191 ∷ []

abbrev pub is_marked : List ℕ → Bool
is_marked bytes = starts_with (λ a b. a == b) bytes mark

abbrev pub after_mark : List ℕ → List ℕ
after_mark bytes = if is_marked bytes then drop 3 bytes else bytes

-- the text of a file, if its bytes are UTF-8
abbrev pub decoded : List ℕ → Option (List ℕ)
decoded bytes = if is_utf8 bytes then Some (after_mark bytes) else None

-- a new text behind the mark of the old bytes, if these have one
abbrev pub encoded : List ℕ → List ℕ → List ℕ
encoded old text = if is_marked old then mark ++ text else text

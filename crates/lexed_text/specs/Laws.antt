-- What holds of every edit and its counts.
use Rattle.std.specs.Prelude.{◌≡◌, ℕ, ◌+◌, take, drop, length}
use Rattle.rustc_lexer.specs.Tokens.{tokens}
use Rattle.lexed_text.specs.Edit.{Edit, old_text, new_text}
use Rattle.lexed_text.specs.Kept.{IsKept}
use Rattle.lexed_text.specs.declared.kept.Kept.{Kept}

-- the front tokens are the new text's first ones
abbrev pub FrontStays : Type 0
FrontStays =
    (e : Edit) (kept : Kept) → IsKept e kept → take kept.front (tokens (new_text e)) ≡ take kept.front (tokens (old_text e))

-- the back tokens are the new text's last ones: those after the front and the lexed tokens
abbrev pub BackStays : Type 0
BackStays =
    (e : Edit) (kept : Kept) → IsKept e kept →
    (j : ℕ) × (j + kept.back ≡ length (tokens (old_text e)))
    × (drop (kept.front + kept.lexed) (tokens (new_text e)) ≡ drop j (tokens (old_text e)))

-- the counts sum to the new text's tokens
abbrev pub CountsSum : Type 0
CountsSum =
    (e : Edit) (kept : Kept) → IsKept e kept → kept.front + kept.lexed + kept.back ≡ length (tokens (new_text e))

-- no edit has other counts
abbrev pub CountsAreOne : Type 0
CountsAreOne = (e : Edit) (one other : Kept) → IsKept e one → IsKept e other → one ≡ other

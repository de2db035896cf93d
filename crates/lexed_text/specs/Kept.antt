-- Which tokens of a text are kept over an edit, and which are lexed.
use Rattle.std.specs.Prelude.{◌≡◌, ◌↔◌, ℕ, ◌+◌, ◌<◌, ◌≤◌, List, take, length}
use Rattle.rustc_lexer.specs.Tokens.{tokens, joined}
use Rattle.lexed_text.specs.Edit.{Edit, old_text, new_text}
use Rattle.lexed_text.specs.declared.kept.Kept.{Kept}

-- where the first k tokens of a text end, in characters: its boundaries, 0 and the text's end among them
abbrev pub end_of : ℕ → List ℕ → ℕ
end_of k text = length (joined (take k (tokens text)))

-- the old tokens that end at least two characters before the edit are the first k
pub record IsFront (e : Edit) (k : ℕ) : Type 0 where
  pub within : k ≤ length (tokens (old_text e))
  pub just : (i : ℕ) → 0 < i → i ≤ length (tokens (old_text e)) → (i ≤ k) ↔ (end_of i (old_text e) + 2 ≤ length e.before)

-- The end of the first k tokens of the new text lies at or past the replacement's end, and is, shifted back by the change of
-- length, the end of the first j tokens of the old one.
pub record IsShared (e : Edit) (k j : ℕ) : Type 0 where
  pub within_new : k ≤ length (tokens (new_text e))
  pub within_old : j ≤ length (tokens (old_text e))
  pub past : length e.before + length e.put ≤ end_of k (new_text e)
  pub shifted : end_of k (new_text e) + length e.removed ≡ end_of j (old_text e) + length e.put

-- Lexing begins after the front and stops at the first shared boundary; the old tokens from there on are the back.
pub record IsKept (e : Edit) (kept : Kept) : Type 0 where
  pub front : IsFront e kept.front
  pub stop : (j : ℕ) × (j + kept.back ≡ length (tokens (old_text e))) × IsShared e (kept.front + kept.lexed) j
  pub first : (k j : ℕ) → kept.front ≤ k → k < kept.front + kept.lexed → IsShared e k j → ⊥

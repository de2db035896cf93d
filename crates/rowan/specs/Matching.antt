-- A comparison of bytes with a text whose answer may depend on a node's text.
use Rattle.std.specs.Prelude.{ℕ, Bool, true, false, take, drop, length}
use Rattle.std.specs.Str.{bytes_eq}
use Rattle.rowan_green.specs.Forest.{tree_text, tree_count}
use Rattle.rowan.specs.declared.text_bytes.Matching.{Matching}
use Rattle.rowan.specs.declared.text_bytes.Matching.TheVariants.{Different, Same, Pending}

-- the answer
abbrev pub outcome : Matching → Bool
outcome Different = false
outcome Same = true
outcome (Pending node skip bytes) = bytes_eq (take (length bytes.now) (drop skip (tree_text node))) bytes.now

-- how many nodes and leaves the node has
abbrev pub pending_count : Matching → ℕ
pending_count Different = 0
pending_count Same = 0
pending_count (Pending node skip bytes) = tree_count node

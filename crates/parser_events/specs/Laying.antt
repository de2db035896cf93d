-- What each step of a parser's trees puts of a text, by the leaves that are left.
use Rattle.std.specs.Prelude.{◌≡◌, ◌≤◌, ℕ, ◌+◌, ◌-◌, Bool, List, [], ◌∷◌, ◌++◌, length, take, drop, encode_utf8_all, if◌then◌else◌}
use Rattle.parser_input.specs.Kinds.{ERROR, NAME_REF, INT_NUMBER, FLOAT_NUMBER, DOT}
use Rattle.parser_input.specs.Leaf as leaves
use Rattle.parser_input.specs.Lexed.{Lexed, leaves_of}
use Rattle.parser_events.specs.Forest as forest
use Rattle.parser_events.specs.Dress.{before_dot, from_dot, is_empty, joined, next_text, reach}
use Rattle.parser_events.specs.Sinks.{TakesAll}
use Rattle.parser_events.specs.Steps as steps
use Rattle.parser_events.specs.TextSteps.{TextStep, Token, Enter, Exit, Error, leaf_steps}
use Rattle.parser_events.specs.Trivia.{pending, attached}

-- a position in the text: the number of bytes before it, and the leaves after it
pub record Place : Type 0 where
  pub bytes : ℕ
  pub left : List leaves.Leaf

-- before the leaf of this number; after the last one, the end
abbrev pub place_at : List Lexed → ℕ → Place
place_at ls n =
    record { bytes = length (encode_utf8_all (joined (take n (leaves_of ls)))); left = drop n (leaves_of ls) }

-- after the next leaves
abbrev pub after : ℕ → Place → Place
after count s = record { bytes = s.bytes + length (encode_utf8_all (joined (take count s.left))); left = drop count s.left }

-- after the trivia that comes next
abbrev pub after_pending : Place → Place
after_pending s = after (length (pending s.left)) s

-- the number of the next trivia leaves that are outside a node of this kind
abbrev pub outside : ℕ → Place → ℕ
outside kind s = length (pending s.left) - attached kind (pending s.left)

-- where a step leads
abbrev pub after_step : steps.Step → Place → Place
after_step (steps.Token kind count) s = let t = after_pending s in after (reach count t.left) t
after_step (steps.FloatSplit ends_in_dot) s = after 1 (after_pending s)
after_step (steps.Enter kind) s = after (attached kind (pending s.left)) (after (outside kind s) s)
after_step steps.Exit s = s
after_step (steps.Error message) s = s

-- A float without a dot is an error after a message. Any other ends the field access with the number before its dot; the
-- dot follows, and the number after it, if that is not empty.
abbrev pub split_steps : Bool → ℕ → List ℕ → List TextStep
split_steps ends_in_dot place text =
    let rest = from_dot text in
    let wrong = Error forest.IllegalFloat place ∷ Enter ERROR ∷ Token FLOAT_NUMBER text ∷ Exit ∷ Exit ∷ [] in
    let one = Enter NAME_REF ∷ Token INT_NUMBER (before_dot text) ∷ Exit ∷ Exit ∷ Token DOT rest ∷ [] in
    let two = Enter NAME_REF ∷ Token INT_NUMBER (before_dot text) ∷ Exit ∷ Exit ∷ Token DOT (take 1 rest)
    ∷ Enter NAME_REF ∷ Token INT_NUMBER (drop 1 rest) ∷ Exit ∷ [] in
    if is_empty rest then wrong else (if ends_in_dot then one else two)

-- The steps with text for one step. All pending trivia comes before a leaf; before a node, only the trivia that is not
-- attached to it.
abbrev pub put_by : steps.Step → Place → List TextStep
put_by (steps.Token kind count) s =
    let t = after_pending s in leaf_steps (pending s.left) ++ Token kind (joined (take (reach count t.left) t.left)) ∷ []
put_by (steps.FloatSplit ends_in_dot) s =
    let t = after_pending s in leaf_steps (pending s.left) ++ split_steps ends_in_dot t.bytes (next_text t.left)
put_by (steps.Enter kind) s =
    let t = after (outside kind s) s in
    leaf_steps (take (outside kind s) s.left) ++ Enter kind ∷ leaf_steps (take (attached kind (pending s.left)) t.left)
put_by steps.Exit s = Exit ∷ []
put_by (steps.Error message) s = Error message s.bytes ∷ []

-- What the steps after the root's first one put. The last one leaves the root, and all that is left stands before that.
abbrev pub put_inside : List steps.Step → Place → List TextStep
put_inside [] s = []
put_inside (step ∷ []) s = leaf_steps s.left ++ Exit ∷ []
put_inside (step ∷ next ∷ ss) s = put_by step s ++ put_inside (next ∷ ss) (after_step step s)

-- The steps with text for the steps of one tree. No trivia is before the root.
abbrev pub put_around : List steps.Step → List leaves.Leaf → List TextStep
put_around [] ls = []
put_around (steps.Enter kind ∷ ss) ls = Enter kind ∷ put_inside ss (record { bytes = 0; left = ls })
put_around (step ∷ ss) ls = []

-- From the leaf of this number on a step is put into a sink, and leads to that leaf.
pub record Lays {S : Type 0} (takes : S → TextStep → S → Type 0) (ls : List Lexed) (step : steps.Step) (start : ℕ) (old : S) (next : ℕ) (new : S) : Type 0 where
  pub taken : TakesAll takes old (put_by step (place_at ls start)) new
  pub at : place_at ls next ≡ after_step step (place_at ls start)
  pub within : next ≤ length ls

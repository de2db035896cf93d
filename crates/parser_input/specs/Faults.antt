-- What is wrong with a text, leaf by leaf.
use Rattle.std.specs.Prelude.{ℕ, suc, List, [], ◌∷◌, drop, map, Option, Some, None}
use Rattle.std.specs.Borrow.{Bor}
use Rattle.parser_input.specs.Messages.{wording}
use Rattle.parser_input.specs.declared.lexed_str.StoredLeaf.{StoredLeaf}
use Rattle.parser_input.specs.declared.message.Message.{Message}

-- the leaves with messages, by their numbers, which count from n
abbrev pub faults : ℕ → List (Option Message) → List (ℕ × List ℕ)
faults n [] = []
faults n (None ∷ ms) = faults (suc n) ms
faults n (Some m ∷ ms) = (n, wording m) ∷ faults (suc n) ms

-- the stored leaves from a place on that have messages
abbrev pub faults_from : ℕ → List StoredLeaf → List (ℕ × List ℕ)
faults_from n leaves = faults n (map (λ p. p.message) (drop n leaves))

-- a leaf's number and its message
abbrev pub fault_of : ℕ × Bor (List ℕ) → ℕ × List ℕ
fault_of f = (f.0, f.1.now)

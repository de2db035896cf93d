-- Runs of tokens: by them code finds a place among many tokens without a look at each.
use Rattle.std.specs.Prelude.{◌≡◌, ℕ, ◌+◌, ◌≤◌, List, take, length}
use Rattle.std.specs.List.{sum_by}
use Rattle.rustc_lexer.specs.declared.token.Token.{Token}
use Rattle.lexed_text.specs.declared.runs.Run.{Run}
use Rattle.lexed_text.specs.Inside.{taken}

-- the tokens of the first i runs, and their bytes
abbrev pub run_tokens : ℕ → List Run → ℕ
run_tokens i runs = sum_by (λ r. r.tokens) (take i runs)

abbrev pub run_bytes : ℕ → List Run → ℕ
run_bytes i runs = sum_by (λ r. r.bytes) (take i runs)

-- from the k-th token on, before which stand `start` bytes, these are runs of tokens, one after the other
abbrev pub RunsFrom : ℕ → ℕ → List Run → List Token → Type 0
RunsFrom k start runs tokens =
    (i : ℕ) → i ≤ length runs →
    (k + run_tokens i runs ≤ length tokens) × (start + run_bytes i runs ≡ taken (k + run_tokens i runs) tokens)

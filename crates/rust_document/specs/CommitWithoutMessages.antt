-- Commits of texts without messages: when one is refused, and what a refusal prints.
use Rattle.std.specs.Prelude.{◌≡◌, ℕ, ◌^◌, List, [], chars, codes}
use Rattle.rowan_green.specs.Forest.{tree_text}
use Rattle.syntax_editor.specs.Editing.{Editing}
use Rattle.rust_document.specs.Commit.{RefusesCommit, commit_message_of}
use Rattle.rust_document.specs.Reading.{messages_in}
use Rattle.rust_document.specs.Rewrite.{rewritten}
use Rattle.rust_document.specs.Step.{State, verdict, Accepted}
use Rattle.rust_document.specs.declared.error.CommitError.TheVariants as commits
use Rattle.rust_document.specs.declared.error.WithoutMessagesError.{WithoutMessagesError}
use Rattle.rust_document.specs.declared.error.WithoutMessagesError.TheVariants.{Messages, Refused}

-- Neither the present text nor that of the rewritten tree has a message.
pub record HaveNoMessages (d : State) (e : Editing) : Type 0 where
  pub present : messages_in d.grammar d.edition (chars d.text) ≡ []
  pub new : messages_in d.grammar d.edition (chars (tree_text (rewritten e))) ≡ []

-- The first case that fits: what the verdict says, then a message of one of the texts, then that no tree number is left. Out of memory
-- comes at any point.
abbrev pub RefusesWithoutMessages : State → Editing → ℕ → WithoutMessagesError → Type 0
RefusesWithoutMessages d e number Messages = (verdict d e ≡ Accepted) × (HaveNoMessages d e → ⊥)
RefusesWithoutMessages d e number (Refused commits.NoTreeNumber) =
    (verdict d e ≡ Accepted) × HaveNoMessages d e × (number ≡ 2 ^ 32)
RefusesWithoutMessages d e number (Refused error) = RefusesCommit (verdict d e) number error

-- Only tree numbers and memory may refuse.
abbrev pub RefusesRoom : ℕ → WithoutMessagesError → Type 0
RefusesRoom number (Refused commits.NoTreeNumber) = number ≡ 2 ^ 32
RefusesRoom number (Refused commits.NoMemory) = Unit {0}
RefusesRoom number error = ⊥

abbrev pub without_messages_words : WithoutMessagesError → List ℕ
without_messages_words Messages = codes "has messages"
without_messages_words (Refused error) = commit_message_of error

-- What commands make of a text, up to the first that is refused.
use Rattle.std.specs.Prelude.{ℕ, suc, List, [], ◌∷◌, Option, None, Some}
use Rattle.rust_document.specs.Difference.{Told}
use Rattle.line_index.specs.declared.encoding.Encoding.TheVariants.{Utf32}
use Rattle.line_index.specs.declared.line_col.LineCol.{LineCol}
use Rattle.line_index.specs.Columns.{line_col}
use Rattle.document_requests.specs.Reply.{Reply, Edited, Changed, Tree, Errors, Refused}
use Rattle.document_requests.specs.Request as asked
use Rattle.document_requests.specs.Request.{Change, Command, Put, Delete}
use Rattle.document_requests.specs.Reasons.{first_difference}
use Rattle.document_requests.specs.Rules.{answer_by}
use Rattle.document_requests.specs.Session.{Session}
use Rattle.document_requests.specs.declared.reply.Refusal.{Refusal}
use Rattle.document_requests.specs.declared.rule.CommitRule.{CommitRule}

-- The text after all commands; or the number of the first that is refused, why, its line and column, and, if it is an unfaithful
-- commit, the first difference.
pub data Rewriting : Type 0 where
  Rewritten : List ℕ → Rewriting
  Stopped : ℕ → Refusal → LineCol → Option Told → Rewriting

abbrev pub refusal_of : Reply → Option Refusal
refusal_of Edited = None
refusal_of (Changed ranges) = None
refusal_of (Tree lines) = None
refusal_of (Errors messages) = None
refusal_of (Refused refusal) = Some refusal

abbrev pub start_of_change : Change → ℕ
start_of_change (Put op target entry text) = target.start
start_of_change (Delete target) = target.start

-- where the first change starts
abbrev pub start_of_first : List Change → ℕ
start_of_first [] = 0
start_of_first (change ∷ changes) = start_of_change change

-- the byte that a command begins with
abbrev pub start_of : Command → ℕ
start_of (asked.Edit start stop text) = start
start_of (asked.Commit changes) = start_of_first changes
start_of asked.Tree = 0
start_of asked.Errors = 0

-- the first difference between the rewritten tree of a commit and the reading of its text, if the commit is unfaithful
abbrev pub difference_of : Command → Session → Option Told
difference_of (asked.Edit start stop text) s = None
difference_of (asked.Commit changes) s = first_difference changes s.document s.next
difference_of asked.Tree s = None
difference_of asked.Errors s = None

-- commands from a number on, one after another
unfoldable pub rewriting : CommitRule → ℕ → List Command → Session → Rewriting
rewriting rule i [] s = Rewritten s.document.text
rewriting rule i (c ∷ cs) s =
    elim (refusal_of (answer_by rule c s).reply) [
      | None ↦ rewriting rule (suc i) cs (answer_by rule c s).after
      | Some refusal ↦
          let after = (answer_by rule c s).after in
          Stopped i refusal (line_col Utf32 after.document.text (start_of c)) (difference_of c after)
    ]

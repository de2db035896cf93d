-- Commands under a rule for commits.
use Rattle.std.specs.Prelude.{ℕ, ◌==◌, ◌&&◌, Bool, List, length, chars, if◌then◌else◌}
use Rattle.rowan_green.specs.Forest.{tree_text}
use Rattle.rust_document.specs.Reading.{messages_in}
use Rattle.rust_document.specs.Rewrite.{rewritten}
use Rattle.rust_document.specs.Step as step
use Rattle.rust_document.specs.Step.{State, Verdict, root_element, verdict}
use Rattle.syntax_editor.specs.Editing.{Editing, untouched}
use Rattle.document_requests.specs.Request as asked
use Rattle.document_requests.specs.Request.{Change, Command}
use Rattle.document_requests.specs.Session.{Answer, Prepared, Ready, Session, Stopped, accepted, answer, prepared, refused}
use Rattle.document_requests.specs.declared.reply.Refusal.TheVariants as refusals
use Rattle.document_requests.specs.declared.rule.CommitRule.{CommitRule}
use Rattle.document_requests.specs.declared.rule.CommitRule.TheVariants.{Faithful, WithoutMessages}

-- Neither the present text nor that of the rewritten tree has a message.
abbrev pub have_no_messages : State → Editing → Bool
have_no_messages d e =
    (length (messages_in d.grammar d.edition (chars d.text)) == 0)
    && (length (messages_in d.grammar d.edition (chars (tree_text (rewritten e)))) == 0)

abbrev pub accepted_clean : Session → Editing → Answer
accepted_clean s e = if have_no_messages s.document e then accepted s e else refused refusals.Messages s

-- What the verdict refuses is refused so; what it accepts is to have no messages.
abbrev pub clean_answer_to : Verdict → Session → Editing → Answer
clean_answer_to step.Foreign s e = refused refusals.NoTarget s
clean_answer_to step.Intersecting s e = refused refusals.Intersecting s
clean_answer_to step.MissingMapping s e = refused refusals.MissingMapping s
clean_answer_to step.TooLong s e = refused refusals.TooLong s
clean_answer_to step.Unfaithful s e = refused refusals.Unfaithful s
clean_answer_to step.Accepted s e = accepted_clean s e

abbrev pub clean_settled : State → Prepared → Answer
clean_settled d (Ready e next) = clean_answer_to (verdict d e) (record { document = d; next = next }) e
clean_settled d (Stopped refusal next) = refused refusal (record { document = d; next = next })

abbrev pub clean_committed : List Change → Session → Answer
clean_committed changes s = clean_settled s.document (prepared changes s.document (untouched (root_element s.document)) s.next)

abbrev pub clean_answer : Command → Session → Answer
clean_answer (asked.Commit changes) s = clean_committed changes s
clean_answer (asked.Edit start stop text) s = answer (asked.Edit start stop text) s
clean_answer asked.Tree s = answer asked.Tree s
clean_answer asked.Errors s = answer asked.Errors s

-- what a command is answered under a rule
abbrev pub answer_by : CommitRule → Command → Session → Answer
answer_by Faithful command s = answer command s
answer_by WithoutMessages command s = clean_answer command s

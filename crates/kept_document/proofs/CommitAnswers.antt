-- Commits are answered by ranges or by a refusal, which leaves the document.
use Rattle.std.proofs.Common.{◌≡◌, ◌⊎◌, inl, inr, Option, None, Some, Result, Ok, Err, OnErr, [], ◌∷◌, map, slice_index_or, ℕ, Bool, true, false, List, refl, sym, ap, subst, ◌∙◌, ◌^◌}
use Rattle.std.specs.Prelude.{◌==◌, if◌then◌else◌}
use Rattle.rust_document.specs.Step.{State}
use Rattle.rust_document.specs.Step as step
use Rattle.rust_document.specs.Step.{Verdict}
use Rattle.syntax_editor.specs.Editing.{Editing}
use Rattle.document_requests.specs.Reply as replies
use Rattle.document_requests.specs.Reply.{Reply}
use Rattle.document_requests.specs.Asked.{command as command_in}
use Rattle.document_requests.specs.Request as asked
use Rattle.document_requests.specs.Request.{Change}
use Rattle.document_requests.specs.declared.request.Command.{Command}
use Rattle.document_requests.specs.declared.request.Command.TheVariants as commands
use Rattle.document_requests.specs.Session.{Answer, Prepared, Ready, Session, Stopped, accepted, answer_to, committed, settled}
use Rattle.document_requests.specs.Applied.{session}
use Rattle.document_requests.specs.declared.reply.Refusal.{Refusal}
use Rattle.kept_document.specs.Commits as commits
use Rattle.kept_document.specs.Commits.{IsCommitted, RefusesCommand, RefusesReply, StopsChanges, only_commit}
use Rattle.kept_document.specs.Depth.{is_deep_commit}
use Rattle.kept_document.specs.Reasons.{of_refusal}
use Rattle.kept_document.specs.declared.kept.Kept.{Kept}
use Rattle.kept_document.specs.declared.reason.Reason.{Reason}
use Rattle.kept_document.specs.declared.reason.Reason.TheVariants.{NoMemory}

abbrev pub TellsReply : Reply → Answer → State → Type 0
TellsReply replies.Edited a d = ⊥
TellsReply (replies.Changed ranges) a d = Unit {0}
TellsReply (replies.Tree lines) a d = ⊥
TellsReply (replies.Errors messages) a d = ⊥
TellsReply (replies.Refused refusal) a d = a.after.document ≡ d

abbrev pub Tells : Answer → State → Type 0
Tells a d = TellsReply a.reply a d

either-tells : (b : Bool) (x y : Answer) (d : State) → Tells x d → Tells y d → Tells (if b then x else y) d
either-tells true x y d p q = p
either-tells false x y d p q = q

accepted-tells : (s : Session) (e : Editing) → Tells (accepted s e) s.document
accepted-tells s e = either-tells (s.next == 2 ^ 32) _ _ s.document refl tt

verdict-tells : (v : Verdict) (s : Session) (e : Editing) → Tells (answer_to v s e) s.document
verdict-tells step.Foreign s e = refl
verdict-tells step.Intersecting s e = refl
verdict-tells step.MissingMapping s e = refl
verdict-tells step.TooLong s e = refl
verdict-tells step.Unfaithful s e = refl
verdict-tells step.Accepted s e = accepted-tells s e

settled-tells : (d : State) (p : Prepared) → Tells (settled d p) d
settled-tells d (Ready e next) = verdict-tells _ (record { document = d; next = next }) e
settled-tells d (Stopped refusal next) = refl

pub commit-tells : (changes : List Change) (s : Session) → Tells (committed changes s) s.document
commit-tells changes s = settled-tells s.document _

-- On a refusal the document is unchanged.
pub refusal-keeps :
    (changes : List Change) (s after : Session) (refusal : Refusal) → committed changes s ≡ record { reply = replies.Refused refusal; after = after }
    → after.document ≡ s.document
refusal-keeps changes s after refusal is = subst (λ (a : Answer). Tells a s.document) is (commit-tells changes s)

-- A reply that is none of an accepted commit is that of a refused one.
pub refuses :
    (asked : Option (List Change)) (changes : List Change) (old new : Kept) (reply : Reply) (reason : Reason) → asked ≡ Some changes
    → is_deep_commit old.document changes ≡ false → commits.answered changes old ≡ record { reply = reply; after = session new.document new.ids } → RefusesReply reply reason
    → RefusesCommand asked old new reason
refuses asked changes old new replies.Edited reason is flat answer why =
    absurd (subst (λ (a : Answer). Tells a old.document) answer (commit-tells changes (session old.document old.ids)))
refuses asked changes old new (replies.Changed ranges) reason is flat answer why = absurd why
refuses asked changes old new (replies.Tree lines) reason is flat answer why =
    absurd (subst (λ (a : Answer). Tells a old.document) answer (commit-tells changes (session old.document old.ids)))
refuses asked changes old new (replies.Errors messages) reason is flat answer why =
    absurd (subst (λ (a : Answer). Tells a old.document) answer (commit-tells changes (session old.document old.ids)))
refuses asked changes old new (replies.Refused refusal) reason is flat answer why =
    rw is (inr (record { refusal = refusal; flat = flat; is = why; answer = answer }))

-- A text of its changes is too deep, or memory lacks.
pub stops :
    (asked : Option (List Change)) (changes : List Change) (old new : Kept) (reason : Reason) → asked ≡ Some changes → StopsChanges old.document changes reason
    → RefusesCommand asked old new reason
stops asked changes old new reason is why = rw is (inl why)

pub lacks-memory : (asked : Option (List Change)) (old new : Kept) (reason : Reason) → reason ≡ NoMemory → RefusesCommand asked old new reason
lacks-memory None old new reason is = inl is
lacks-memory (Some changes) old new reason is = inl (inl is)

-- It leaves the document.
pub reply-keeps :
    (changes : List Change) (s after : Session) (reply : Reply) (reason : Reason) → committed changes s ≡ record { reply = reply; after = after }
    → RefusesReply reply reason → after.document ≡ s.document
reply-keeps changes s after replies.Edited reason is why = absurd (subst (λ (a : Answer). Tells a s.document) is (commit-tells changes s))
reply-keeps changes s after (replies.Changed ranges) reason is why = absurd why
reply-keeps changes s after (replies.Tree lines) reason is why = absurd (subst (λ (a : Answer). Tells a s.document) is (commit-tells changes s))
reply-keeps changes s after (replies.Errors messages) reason is why = absurd (subst (λ (a : Answer). Tells a s.document) is (commit-tells changes s))
reply-keeps changes s after (replies.Refused refusal) reason is why = refusal-keeps changes s after refusal is

-- an error of a call is an error of its caller
pub on-err : {A E : Type 0} (r : Result A E) (P : Type 0) → P → OnErr r P
on-err (Ok a) P holds = tt
on-err (Err e) P holds = holds

injected : (x y : List Change) → Some x ≡ Some y → x ≡ y
injected x y same = cc

abbrev IsOther : asked.Command → Type 0
IsOther (asked.Commit changes) = ⊥
IsOther command = Unit {0}

no-commit : (c : asked.Command) (cs : List asked.Command) (changes : List Change) → IsOther c → only_commit (c ∷ cs) ≡ Some changes → ⊥
no-commit (asked.Commit list) cs changes other only = other
no-commit (asked.Edit start stop text) cs changes other only = let bad : None ≡ Some changes = only in cc
no-commit asked.Tree cs changes other only = let bad : None ≡ Some changes = only in cc
no-commit asked.Errors cs changes other only = let bad : None ≡ Some changes = only in cc

-- The only command is the commit.
pub commit-is :
    (cs : List Command) (c : Command) (changes : List Change) → c ≡ slice_index_or cs 0 c → only_commit (map command_in cs) ≡ Some changes
    → command_in c ≡ asked.Commit changes
commit-is [] c changes is only = let bad : None ≡ Some changes = only in cc
commit-is (commands.Edit start stop text ∷ cs) c changes is only = absurd (no-commit (asked.Edit start stop text.now) (map command_in cs) changes tt only)
commit-is (commands.Tree ∷ cs) c changes is only = absurd (no-commit asked.Tree (map command_in cs) changes tt only)
commit-is (commands.Errors ∷ cs) c changes is only = absurd (no-commit asked.Errors (map command_in cs) changes tt only)
commit-is (commands.Commit list ∷ []) c changes is only = ap command_in is ∙ ap asked.Commit (injected _ _ only)
commit-is (commands.Commit list ∷ d ∷ ds) c changes is only = let bad : None ≡ Some changes = only in cc

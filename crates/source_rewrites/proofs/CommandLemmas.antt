-- Lemmas on commands that run one after another.
use Rattle.std.proofs.Common.{◌≡◌, ℕ, suc, ◌+◌, ◌<◌, ◌≤◌, Option, None, Some, List, [], ◌∷◌, length, map, drop, get_or, refl, ap, sym, ◌∙◌, add-one, arith, drop-cons}
use Rattle.std.proofs.lemmas.List.{drop_all}
use Rattle.line_index.specs.declared.encoding.Encoding.TheVariants.{Utf32}
use Rattle.line_index.specs.declared.line_col.LineCol.{LineCol}
use Rattle.line_index.specs.Columns.{line_col}
use Rattle.document_requests.specs.Asked.{command as command_in}
use Rattle.document_requests.specs.Reply.{Reply}
use Rattle.document_requests.specs.Request.{Command}
use Rattle.document_requests.specs.Rules.{answer_by}
use Rattle.document_requests.specs.Session.{Answer, Session}
use Rattle.document_requests.specs.declared.reply.Refusal.{Refusal}
use Rattle.document_requests.specs.declared.request.Command.{Command as CommandCode}
use Rattle.document_requests.specs.declared.rule.CommitRule.{CommitRule}
use Rattle.rust_document.specs.Difference.{Told}
use Rattle.source_rewrites.specs.Rewriting.{Rewriting, Rewritten, Stopped, difference_of, refusal_of, rewriting, start_of}

rewriting-none : (rule : CommitRule) (i : ℕ) (s : Session) → rewriting rule i [] s ≡ Rewritten s.document.text
unfolding rewriting
rewriting-none rule i s = refl

rewriting-on : (rule : CommitRule) (i : ℕ) (c : Command) (cs : List Command) (s : Session) → refusal_of (answer_by rule c s).reply ≡ None →
    rewriting rule i (c ∷ cs) s ≡ rewriting rule (suc i) cs (answer_by rule c s).after
unfolding rewriting
rewriting-on rule i c cs s h = rw (h, rewriting) refl

-- what stops at a refused command
abbrev pub stopped-at : ℕ → Refusal → Command → Session → Rewriting
stopped-at i r c after = Stopped i r (line_col Utf32 after.document.text (start_of c)) (difference_of c after)

rewriting-stops : (rule : CommitRule) (i : ℕ) (c : Command) (cs : List Command) (s : Session) (r : Refusal) → refusal_of (answer_by rule c s).reply ≡ Some r →
    rewriting rule i (c ∷ cs) s ≡ stopped-at i r c (answer_by rule c s).after
unfolding rewriting
rewriting-stops rule i c cs s r h = rw (h, rewriting) refl

-- ---- commands in code

-- the commands from one on begin with it
next-command : (cs : List CommandCode) (i : ℕ) (c : CommandCode) → i < length cs → c ≡ get_or cs i c → map command_in (drop i cs) ≡ command_in c ∷ map command_in (drop (i + 1) cs)
next-command cs i c within is = rw add-one (ap (map command_in) (drop-cons cs i c within) ∙ ap (λ (x : CommandCode). command_in x ∷ map command_in (drop (suc i) cs)) (sym is))

-- a reply, and what the command leaves
abbrev pub answered-with : Reply → Session → Answer
answered-with reply after = record { reply = reply; after = after }

module _ (rule : CommitRule) (cs : List CommandCode) (i : ℕ) (c : CommandCode) (s after : Session) (reply : Reply) (w : Rewriting) (within : i < length cs) (is : c ≡ get_or cs i c) (answered : answer_by rule (command_in c) s ≡ answered-with reply after) (so_far : rewriting rule i (map command_in (drop i cs)) s ≡ w) where
  here : w ≡ rewriting rule i (command_in c ∷ map command_in (drop (i + 1) cs)) s
  here = sym so_far ∙ ap (λ (x : List Command). rewriting rule i x s) (next-command cs i c within is)

  -- the command was accepted
  pub commands-on : refusal_of reply ≡ None → rewriting rule (i + 1) (map command_in (drop (i + 1) cs)) after ≡ w
  commands-on none =
      let rest = map command_in (drop (i + 1) cs) in
      let accepted : refusal_of (answer_by rule (command_in c) s).reply ≡ None = ap (λ (a : Answer). refusal_of a.reply) answered ∙ none in
      let next : suc i ≡ i + 1 = omega arith in
      sym (here ∙ rewriting-on rule i (command_in c) rest s accepted ∙ ap (λ (a : Answer). rewriting rule (suc i) rest a.after) answered ∙ ap (λ n. rewriting rule n rest after) next)

  -- the command was refused
  pub commands-stop :
      (refusal : Refusal) (place : LineCol) (difference : Option Told) → refusal_of reply ≡ Some refusal
      → place ≡ line_col Utf32 after.document.text (start_of (command_in c)) → difference ≡ difference_of (command_in c) after
      → w ≡ Stopped i refusal place difference
  commands-stop refusal place difference some at apart =
      let rest = map command_in (drop (i + 1) cs) in
      let stopped : refusal_of (answer_by rule (command_in c) s).reply ≡ Some refusal = ap (λ (a : Answer). refusal_of a.reply) answered ∙ some in
      here ∙ rewriting-stops rule i (command_in c) rest s refusal stopped
      ∙ ap (λ (a : Answer). stopped-at i refusal (command_in c) a.after) answered
      ∙ ap (λ (p : LineCol). Stopped i refusal p (difference_of (command_in c) after)) (sym at)
      ∙ ap (Stopped i refusal place) (sym apart)

-- all commands were accepted
pub commands-done : (rule : CommitRule) (cs : List CommandCode) (i : ℕ) (s : Session) (w : Rewriting) → length cs ≤ i → rewriting rule i (map command_in (drop i cs)) s ≡ w → w ≡ Rewritten s.document.text
commands-done rule cs i s w past so_far =
    sym so_far ∙ ap (λ (x : List CommandCode). rewriting rule i (map command_in x) s) (drop_all i cs past) ∙ rewriting-none rule i s

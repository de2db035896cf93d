use Rattle.std.proofs.Common.{◌≡◌, sym, ap, ◌∙◌, map}
use Rattle.std.proofs.lemmas.Result.{err_from_is_err_and}
use Rattle.document_requests.specs.Asked.{change as change_in}
use Rattle.document_requests.specs.Applied.{session}
use Rattle.document_requests.specs.Rules.{answer_by}
use Rattle.document_requests.specs.declared.rule.CommitRule.TheVariants.{Faithful}
use Rattle.kept_document.proofs.CommitAnswers.{commit-is, on-err, refuses, reply-keeps}
use Rattle.kept_document.proofs.kept.Kept.commit_only.Goals as goal

pub returns-in_err-self-clause-document : goal.returns-in_err-self-clause-document
returns-in_err-self-clause-document c =
    let s = session c.args.self.now.document c.args.self.now.ids in
    let command = commit-is c.args.commands.now c.index-commands-0.result (map change_in c.in-Some.changes.now) c.index-commands-0.is (sym c.in-Some.ensures) in
    let answer = sym (ap (λ asked. answer_by Faithful asked s) command) ∙ c.in_ok-reply.ensures.done in
    on-err _ _ (reply-keeps (map change_in c.in-Some.changes.now) s _ _ _ answer c.in_err-self.ensures.refused)

pub returns-in_err-self-clause-refused : goal.returns-in_err-self-clause-refused
returns-in_err-self-clause-refused c =
    let p = err_from_is_err_and c.from_residual-in_err-self.result c.from_residual-in_err-self.ensures.1 in
    let s = session c.args.self.now.document c.args.self.now.ids in
    let changes = map change_in c.in-Some.changes.now in
    let command = commit-is c.args.commands.now c.index-commands-0.result changes c.index-commands-0.is (sym c.in-Some.ensures) in
    let answer = sym (ap (λ asked. answer_by Faithful asked s) command) ∙ c.in_ok-reply.ensures.done in
    rw p.1 (refuses _ changes c.args.self.now _ _ p.0 (sym c.in-Some.ensures) c.in_ok-test_levels.ensures.flat answer (rw p.2 c.in_err-self.ensures.refused))

-- What was tested, test by test.
use Rattle.std.proofs.Common.{refl}
use Rattle.std.proofs.lemmas.Result.{err_from_is_err_and}
use Rattle.rust_document.proofs.WithoutMessages.{none-told, some-told, by-rewrite, by-tree, by-spaced, spaced-has-none}
use Rattle.rust_document.proofs.document.Document.commit_without_messages.Goals.{then-has_messages-via-then-has_messages, then-has_messages-via-else-has_messages+then-has_messages-2}
use Rattle.rust_document.proofs.document.Document.commit_without_messages.Goals as goal

pub returns-in_err-clean-clause-refused : goal.returns-in_err-clean-clause-refused
returns-in_err-clean-clause-refused c =
    let p = err_from_is_err_and c.from_residual.result c.from_residual.ensures.1 in
    rw (p.1, p.2) (by-rewrite c.args.self.now c.args.editor c.args.ids.now _ c.in_err-clean.ensures.refused)

pub returns-in_err-clean-clause-spaced : goal.returns-in_err-clean-clause-spaced
returns-in_err-clean-clause-spaced c =
    let p = err_from_is_err_and c.from_residual.result c.from_residual.ensures.1 in
    rw (p.1, p.2)
    (λ w present. by-spaced c.args.self.now c.args.editor c.args.ids.now _ (by-rewrite c.args.self.now c.args.editor c.args.ids.now _ c.in_err-clean.ensures.refused) w)

pub returns-then-has_messages-clause-refused : goal.returns-then-has_messages-clause-refused
returns-then-has_messages-clause-refused c = (
  c.in_ok-clean.ensures.accepted,
  λ h.
      elim c.then-has_messages.branch [
        | then-has_messages-via-then-has_messages w ↦ some-told _ _ _ _ refl c.errors.ensures c.has_messages.ensures w.if-has_messages.true h.present
        | then-has_messages-via-else-has_messages+then-has_messages-2 w ↦
            some-told _ _ _ _ w.as_slice.ensures.value c.in_ok-clean.ensures.rewritten.read_back.next_is.reading_is.errors_are w.has_messages-else-has_messages.ensures w.if-has_messages-2.true h.new
      ],
)

pub returns-then-has_messages-clause-spaced : goal.returns-then-has_messages-clause-spaced
returns-then-has_messages-clause-spaced c =
    spaced-has-none c.args.self.now c.args.editor
    (λ h.
    elim c.then-has_messages.branch [
      | then-has_messages-via-then-has_messages w ↦ some-told _ _ _ _ refl c.errors.ensures c.has_messages.ensures w.if-has_messages.true h.present
      | then-has_messages-via-else-has_messages+then-has_messages-2 w ↦
          some-told _ _ _ _ w.as_slice.ensures.value c.in_ok-clean.ensures.rewritten.read_back.next_is.reading_is.errors_are w.has_messages-else-has_messages.ensures w.if-has_messages-2.true h.new
    ])

pub returns-in_err-accept-clause-refused : goal.returns-in_err-accept-clause-refused
returns-in_err-accept-clause-refused c =
    let p = err_from_is_err_and c.from_residual-in_err-accept.result c.from_residual-in_err-accept.ensures.1 in
    rw (p.1, p.2)
    (by-tree c.args.self.now c.args.editor c.args.ids.now c.in_err-accept.field-0.0 c.in_ok-clean.ensures.accepted
    (record {
      present = none-told _ _ _ _ refl c.errors.ensures c.has_messages.ensures c.if-has_messages.false;
      new =
          none-told _ _ _ _ c.as_slice.ensures.value c.in_ok-clean.ensures.rewritten.read_back.next_is.reading_is.errors_are c.has_messages-else-has_messages.ensures
          c.if-has_messages-2.false;
    })
    c.in_err-accept.ensures.refused)

pub returns-clause-no_messages : goal.returns-clause-no_messages
returns-clause-no_messages c = record {
  present = none-told _ _ _ _ refl c.errors.ensures c.has_messages.ensures c.if-has_messages.false;
  new =
      none-told _ _ _ _ c.as_slice.ensures.value c.in_ok-clean.ensures.rewritten.read_back.next_is.reading_is.errors_are c.has_messages-else-has_messages.ensures
      c.if-has_messages-2.false;
}

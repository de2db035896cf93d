-- What was tested, test by test.
use Rattle.std.proofs.Common.{ap, subst}
use Rattle.std.specs.Str.{IsUtf8}
use Rattle.std.proofs.lemmas.Str.{IsUtf8-string_bytes}
use Rattle.rust_document.specs.Open.{IsOpened}
use Rattle.rust_document.specs.Step.{State}
use Rattle.rust_document.proofs.Verdicts.{foreign}
use Rattle.rust_document.proofs.WithoutMessages.{own-renaming, rewritten-accepted, rewritten-refused, rewritten-renamed, rewritten-renames}
use Rattle.rust_document.proofs.document.Document.rewritten.Goals as goal

pub returns-then-not-is_of-clause-refused : goal.returns-then-not-is_of-clause-refused
returns-then-not-is_of-clause-refused c number = foreign c.args.self.now c.args.editor.now _ c.is_of.ensures c.if-not-is_of.true

pub returns-clause-accepted : goal.returns-clause-accepted
returns-clause-accepted c = rewritten-accepted c.args.self.now c.args.editor.now _ _ _ _ c.rewrite.result c.is_of.ensures c.if-not-is_of.false (ap (λ (s : State). s.grammar) c.self.view_is, ap (λ (s : State). s.edition) c.self.view_is) c.rewrite.ensures.ok

pub returns-clause-refused : goal.returns-clause-refused
returns-clause-refused c = rewritten-refused c.args.self.now c.args.editor.now _ _ _ c.rewrite.result c.is_of.ensures c.if-not-is_of.false (ap (λ (s : State). s.grammar) c.self.view_is, ap (λ (s : State). s.edition) c.self.view_is) c.rewrite.ensures.refused

pub returns-then-not-is_of-clause-renames : goal.returns-then-not-is_of-clause-renames
returns-then-not-is_of-clause-renames c renaming short number = absurd (own-renaming c.args.self.now c.args.editor.now _ c.is_of.ensures c.if-not-is_of.true renaming)

pub returns-clause-renames : goal.returns-clause-renames
returns-clause-renames c =
    let same = ap (λ (s : State). s.text) c.self.view_is in
    rewritten-renames c.args.self.now c.args.editor.now _ _ _ c.rewrite.result c.is_of.ensures c.if-not-is_of.false (ap (λ (s : State). s.grammar) c.self.view_is, ap (λ (s : State). s.edition) c.self.view_is)
    (subst IsUtf8 same (IsUtf8-string_bytes c.self.inside.text)) (subst IsOpened same c.self.invariant.0) c.rewrite.ensures.refused

pub returns-clause-renamed : goal.returns-clause-renamed
returns-clause-renamed c =
    let same = ap (λ (s : State). s.text) c.self.view_is in
    rewritten-renamed c.args.self.now c.args.editor.now c.rewrite.result (subst IsUtf8 same (IsUtf8-string_bytes c.self.inside.text))

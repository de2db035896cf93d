-- Each part of a plain renaming is tested.
use Rattle.std.proofs.Common.{◌≡◌, List, true, not, sym, ◌∙◌, ap, subst}
use Rattle.std.proofs.lemmas.Bool.{false≢true}
use Rattle.tree_rewrite.specs.Change.{Change}
use Rattle.rust_document.specs.Renames.{AreRenames}
use Rattle.rust_document.specs.Step.{is_foreign}
use Rattle.rust_document.proofs.PlainRenamings.{own-tree}
use Rattle.rust_document.proofs.RenameTests.{all-own, not-true, own-top}
use Rattle.rust_document.proofs.document.Document.is_plain_rename.Goals.{then-not-is_of-via-then-not-is_of, then-not-is_of-via-else-not-is_of+then-not-are_renames}
use Rattle.rust_document.proofs.document.Document.is_plain_rename.Goals as goal

pub are_renames-requires : goal.are_renames-requires
are_renames-requires c =
    let d = c.args.self.now in
    let e = c.args.editor.now in
    let own : not (is_foreign d e) ≡ true = sym c.is_of.ensures ∙ c.if-not-is_of.false in
    all-own d e.top c.changes.result.now (own-top d e own c.changes.ensures.top) c.changes.ensures.sound

pub returns-then-not-is_of : goal.returns-then-not-is_of
returns-then-not-is_of c =
    let d = c.args.self.now in
    let e = c.args.editor.now in (
      λ no. absurd (false≢true no),
      λ h. elim c.then-not-is_of.branch [
        | then-not-is_of-via-then-not-is_of w ↦ sym w.if-not-is_of.true ∙ c.is_of.ensures ∙ ap not (own-tree d e h.own)
        | then-not-is_of-via-else-not-is_of+then-not-are_renames w ↦
            sym w.if-not-are_renames.true ∙ w.are_renames.ensures.1 (subst (λ (cs : List Change). AreRenames d cs) (sym w.changes.ensures.recorded) h.each)
      ],
    )

pub returns : goal.returns
returns c =
    let d = c.args.self.now in
    let e = c.args.editor.now in
    let own : not (is_foreign d e) ≡ true = sym c.is_of.ensures ∙ c.if-not-is_of.false in (
      λ y. record {
        own = own-top d e own c.changes.ensures.top;
        each = subst (λ (cs : List Change). AreRenames d cs) c.changes.ensures.recorded (c.are_renames.ensures.0 c.if-not-are_renames.false);
        apart = sym c.in_ok-has_collision.ensures ∙ not-true c.in_ok-has_collision.field-0 y;
      },
      λ h. ap not (c.in_ok-has_collision.ensures ∙ h.apart),
    )

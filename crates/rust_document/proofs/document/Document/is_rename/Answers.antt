-- Each test tells one part of a rename.
use Rattle.std.proofs.Common.{◌≡◌, sym, ◌∙◌, ap, subst}
use Rattle.std.proofs.lemmas.Bool.{false≢true}
use Rattle.std.specs.Str.{IsUtf8}
use Rattle.parser_input.specs.declared.edition.Edition.{Edition}
use Rattle.syntax_tree.specs.Element.{Element}
use Rattle.syntax_tree.specs.Handle.{element_of}
use Rattle.tree_rewrite.specs.Recorded.{recorded}
use Rattle.syntax_editor.specs.Inside.{IsOf}
use Rattle.rust_document.specs.RenameTests.{IsNameToken, IsPlainIdentifier}
use Rattle.rust_document.specs.Step.{State, root_element}
use Rattle.rust_document.proofs.RenameTests.{found-plain, name-token, new-identifier, old-identifier, plain-found, rename-from}
use Rattle.rust_document.proofs.document.Document.is_rename.Goals as goal

pub returns-in_default-plain_identifier : goal.returns-in_default-plain_identifier
returns-in_default-plain_identifier c =
    let d = c.args.self.now in
    let old = element_of c.in-Some.field-0.old.now in
    let new = element_of c.in-Some.field-0.new.now in
    let u : IsUtf8 d.text = subst IsUtf8 c.text-text.ensures.text c.text-text.utf8 in
    let edition : c.self.inside.edition ≡ d.edition = ap (λ (s : State). s.edition) c.self.view_is in
    let own = c.in-Some.ensures.own (root_element d) c.requires.own in (
      λ no. absurd (false≢true no),
      λ h. absurd (c.in_default-plain_identifier.ensures (subst (λ (x : Edition). IsPlainIdentifier x old) (sym edition) (old-identifier d (recorded c.args.change.now) old new u c.in-Some.ensures.elements own h))),
    )

pub has_name_token-requires : goal.has_name_token-requires
has_name_token-requires c =
    let d = c.args.self.now in
    subst (λ (e : Element). IsOf (root_element d) e) (sym c.in-Some-plain_identifier.ensures.0) (c.in-Some.ensures.own (root_element d) c.requires.own)

pub returns-then-is_some : goal.returns-then-is_some
returns-then-is_some c =
    let d = c.args.self.now in
    let old = element_of c.in-Some.field-0.old.now in
    let new = element_of c.in-Some.field-0.new.now in
    let u : IsUtf8 d.text = subst IsUtf8 c.text-text.ensures.text c.text-text.utf8 in
    let edition : c.self.inside.edition ≡ d.edition = ap (λ (s : State). s.edition) c.self.view_is in
    let own = c.in-Some.ensures.own (root_element d) c.requires.own in
    let one = c.in-Some.ensures.elements in
    let token = c.in-Some-plain_identifier.ensures.0 in
    let p = subst (λ (x : Edition). IsPlainIdentifier x old) edition c.in-Some-plain_identifier.ensures.1 in
    let q = subst (λ (x : Edition). IsPlainIdentifier x new) edition (found-plain _ new c.plain_identifier-2.result c.plain_identifier-2.ensures (sym c.is_some.ensures ∙ c.if-is_some.true)) in (
      λ y. rename-from d (recorded c.args.change.now) old new one own p q (subst (λ (e : Element). IsNameToken d e) token (c.has_name_token.ensures.0 y)),
      λ h. c.has_name_token.ensures.1 (subst (λ (e : Element). IsNameToken d e) (sym token) (name-token d (recorded c.args.change.now) old new u one own h)),
    )

pub returns-else-is_some : goal.returns-else-is_some
returns-else-is_some c =
    let d = c.args.self.now in
    let old = element_of c.in-Some.field-0.old.now in
    let new = element_of c.in-Some.field-0.new.now in
    let edition : c.self.inside.edition ≡ d.edition = ap (λ (s : State). s.edition) c.self.view_is in
    let one = c.in-Some.ensures.elements in (
      λ y. absurd (false≢true (sym c.if-is_some.false ∙ y)),
      λ h. c.is_some.ensures ∙ plain-found _ new c.plain_identifier-2.result c.plain_identifier-2.ensures (subst (λ (x : Edition). IsPlainIdentifier x new) (sym edition) (new-identifier d (recorded c.args.change.now) old new one h)),
    )

use Rattle.std.proofs.Common.{rules, ◌≡◌, ◌<◌, ◌++◌, List, ℕ, Bool, true, false, [], ◌∷◌, length, Option, Some, None, ap, sym, ◌∙◌, subst, arith, vec_len}
use Rattle.std.specs.Prelude.{option_map, Vec}
use Rattle.parser_input.specs.Kind.{is_trivia, raw_of}
use Rattle.parser_input.specs.declared.syntax_kind.SyntaxKind.{SyntaxKind}
use Rattle.rowan.specs.Place.{kind_at}
use Rattle.syntax_tree.specs.Handle.{element_of}
use Rattle.syntax_tree.specs.declared.element.SyntaxElement.{SyntaxElement}
use Rattle.renamer.proofs.RawKinds.{read}
use Rattle.renamer.proofs.Siblings.{AreSeen, from_sibling, fewer, seen-all, seen-first, seen-more, seen-three, seen-trivia}
use Rattle.renamer.proofs.element.kinds_before.Goals.{then-not-is_trivia+in_ok-push, else-not-is_trivia, in-Some+then-len-eq-SIBLINGS, in_default}
use Rattle.renamer.proofs.element.kinds_before.Goals as goal

pub loop-sibling-init : goal.loop-sibling-init
loop-sibling-init c =
    let e = element_of c.args.element.now in
    subst (λ (ks : List SyntaxKind). AreSeen ks c.in_ok-sibling.sibling e.place) (sym c.new-kinds.ensures.items) (seen-first e.number e.place c.in_ok-sibling.sibling c.in_ok-sibling.ensures)

pub loop-sibling-smaller-in_ok-sibling-2 : goal.loop-sibling-smaller-in_ok-sibling-2
loop-sibling-smaller-in_ok-sibling-2 c =
    fewer (element_of c.in-Some.nearest).number c.in-Some.nearest c.loop-sibling.sibling c.in_ok-sibling-2.sibling c.in-Some.is c.in_ok-sibling-2.ensures

pub loop-sibling-smaller : goal.loop-sibling-smaller
loop-sibling-smaller c =
    fewer (element_of c.in-Some.nearest).number c.in-Some.nearest c.loop-sibling.sibling c.in_ok-sibling-2.sibling c.in-Some.is c.in_ok-sibling-2.ensures

pub loop-sibling-preserved-in_ok-sibling-2 : goal.loop-sibling-preserved-in_ok-sibling-2
loop-sibling-preserved-in_ok-sibling-2 c =
    let nearest = c.in-Some.nearest in
    let e = element_of nearest in
    let p = (element_of c.args.element.now).place in
    let ks = c.loop-sibling.kinds.items in
    let o = c.in_ok-sibling-2.sibling in
    let held : AreSeen ks (Some nearest) p = subst (λ (s : Option SyntaxElement). AreSeen ks s p) c.in-Some.is c.loop-sibling.invariant in
    let is : is_trivia (read (kind_at e.place)) ≡ c.is_trivia.result = ap (λ (k : SyntaxKind). is_trivia (raw_of k)) (sym c.kind-kind.ensures) ∙ sym c.is_trivia.ensures in
    elim c.if-not-is_trivia.branch [
      | then-not-is_trivia+in_ok-push w ↦
          seen-more e.number p nearest o ks c.if-not-is_trivia.kinds.items held (is ∙ w.if-not-is_trivia.true)
          (ap (λ v. v.items) w.kinds-is ∙ w.in_ok-push.ensures.items ∙ ap (λ (k : SyntaxKind). ks ++ k ∷ []) c.kind-kind.ensures) c.in_ok-sibling-2.ensures
      | else-not-is_trivia w ↦
          subst (λ (xs : List SyntaxKind). AreSeen xs o p) (sym (ap (λ v. v.items) w.kinds-is)) (seen-trivia e.number p nearest o ks held (is ∙ w.if-not-is_trivia.false) c.in_ok-sibling-2.ensures)
    ]

pub loop-sibling-preserved : goal.loop-sibling-preserved
loop-sibling-preserved c =
    let nearest = c.in-Some.nearest in
    let e = element_of nearest in
    let p = (element_of c.args.element.now).place in
    let ks = c.loop-sibling.kinds.items in
    let o = c.in_ok-sibling-2.sibling in
    let held : AreSeen ks (Some nearest) p = subst (λ (s : Option SyntaxElement). AreSeen ks s p) c.in-Some.is c.loop-sibling.invariant in
    let is : is_trivia (read (kind_at e.place)) ≡ c.is_trivia.result = ap (λ (k : SyntaxKind). is_trivia (raw_of k)) (sym c.kind-kind.ensures) ∙ sym c.is_trivia.ensures in
    elim c.if-not-is_trivia.branch [
      | then-not-is_trivia+in_ok-push w ↦
          seen-more e.number p nearest o ks c.if-not-is_trivia.kinds.items held (is ∙ w.if-not-is_trivia.true)
          (ap (λ v. v.items) w.kinds-is ∙ w.in_ok-push.ensures.items ∙ ap (λ (k : SyntaxKind). ks ++ k ∷ []) c.kind-kind.ensures) c.in_ok-sibling-2.ensures
      | else-not-is_trivia w ↦
          subst (λ (xs : List SyntaxKind). AreSeen xs o p) (sym (ap (λ v. v.items) w.kinds-is)) (seen-trivia e.number p nearest o ks held (is ∙ w.if-not-is_trivia.false) c.in_ok-sibling-2.ensures)
    ]

pub returns : goal.returns
returns c =
    let p = (element_of c.args.element.now).place in
    let ks = c.loop-sibling.kinds.items in
    let held = c.loop-sibling.invariant in
    let same : length ks ≡ vec_len c.loop-sibling.kinds = grind arith in
    elim c.match-sibling.branch [
      | in-Some+then-len-eq-SIBLINGS w ↦ seen-three p c.loop-sibling.sibling ks held (same ∙ sym w.len.ensures ∙ w.if-len-eq-SIBLINGS.true)
      | in_default w ↦ seen-all p c.loop-sibling.sibling ks held w.in_default.is
    ]

-- What comes between the child before the gap and the element.
use Rattle.std.proofs.Common.{◌≡◌, ◌-◌, false, IfOk, Some, subst, sym, ◌∙◌, rules}
use Rattle.rowan.specs.Place.{kind_at}
use Rattle.syntax_editor.specs.Between.{kind_of}
use Rattle.syntax_editor.specs.Spaced.{begins_line, child}
use Rattle.syntax_editor.specs.declared.whitespace.Space.{Space}
use Rattle.syntax_editor.proofs.Spaces.{space_before-apart}
use Rattle.syntax_editor.proofs.spaced.space_before.Goals as goal

pub returns : goal.returns
returns c =
    let p = c.args.parent.now in
    let e = c.args.element.now in
    let previous = c.in-Some.previous in
    let stands : child p (c.args.index - 1) ≡ Some previous = sym c.in_ok-previous.ensures ∙ c.in-Some.is in
    let apart : begins_line (kind_at p.place) (kind_of previous) (kind_of e) ≡ false = search rules in
    subst (λ (s : Space). IfOk c.between.result (λ space. space ≡ s)) (sym (space_before-apart p c.args.index e previous c.if-index-eq0.false stands apart)) c.between.ensures

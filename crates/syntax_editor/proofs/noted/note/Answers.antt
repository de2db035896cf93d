use Rattle.std.proofs.Common.{◌≡◌, ◌&&◌, true, false, is_some, ap, sym, ◌∙◌, cond, refl, rules, Some}
use Rattle.std.proofs.lemmas.Result.{on_ok_weaker}
use Rattle.syntax_tree.specs.Element.{same_way}
use Rattle.syntax_tree.specs.Handle.{element_of}
use Rattle.tree_rewrite.specs.Recorded.{recorded}
use Rattle.syntax_editor.specs.ByWay.{way_of, number_at}
use Rattle.syntax_editor.specs.Recording.{is_single_at}
use Rattle.syntax_editor.proofs.NotedLemmas.{single-own, note-other, note-later, note-first}
use Rattle.syntax_editor.proofs.noted.note.Goals as goal

pub returns-in_default-clause-ok : goal.returns-in_default-clause-ok
returns-in_default-clause-ok c = λ cs n has. note-other _ cs (recorded c.args.change.now) (λ w. ap (λ d. is_single_at w (recorded d)) c.in_default.is) has

pub returns-then-not-single-clause-ok : goal.returns-then-not-single-clause-ok
returns-then-not-single-clause-ok c = λ cs n has.
    note-other _ cs (recorded c.args.change.now) (λ w. ap (λ d. is_single_at w (recorded d)) c.in-Replace.is ∙ ap (λ b. b && same_way (element_of c.in-Replace.first).place.up w) c.if-not-single.true) has

pub returns-then-is_some-clause-ok : goal.returns-then-is_some-clause-ok
returns-then-is_some-clause-ok c = λ cs n has.
    let v = way_of c.in-Replace.first in
    let own : is_single_at v (recorded c.args.change.now) ≡ true =
    ap (λ d. is_single_at v (recorded d)) c.in-Replace.is ∙ single-own c.in-Replace.single v v c.if-not-single.false refl in
    let some : is_some (number_at c.args.singles.now v) ≡ true = ap is_some (sym c.number_at.ensures) ∙ sym c.is_some.ensures ∙ c.if-is_some.true in
    note-later c.args.singles.now cs (recorded c.args.change.now) v own some has

pub returns-clause-ok : goal.returns-clause-ok
returns-clause-ok c = on_ok_weaker c.put.result (λ put cs n has.
    let v = way_of c.in-Replace.first in
    let own : is_single_at v (recorded c.args.change.now) ≡ true =
    ap (λ d. is_single_at v (recorded d)) c.in-Replace.is ∙ single-own c.in-Replace.single v v c.if-not-single.false refl in
    let none : is_some (number_at c.args.singles.now v) ≡ false = ap is_some (sym c.number_at.ensures) ∙ sym c.is_some.ensures ∙ c.if-is_some.false in
    let same : c.in_ok-element.element ≡ c.in-Replace.first = search rules in
    note-first c.args.singles.now c.put.new.singles cs (recorded c.args.change.now) v own none
    (λ w. put w
    ∙ ap (λ x. cond (same_way (way_of x) w) (Some c.args.number) (number_at c.args.singles.now w)) same
    ∙ ap (λ k. cond (same_way v w) (Some k) (number_at c.args.singles.now w)) (sym n)) has) c.put.ensures.ok

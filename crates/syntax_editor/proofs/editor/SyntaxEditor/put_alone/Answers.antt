-- At the end if there is none, else over the first.
use Rattle.std.proofs.Common.{◌≡◌, ◌++◌, [], ◌∷◌, length, map, Some, None, ap, sym, ◌∙◌, get_or, set, refl, rules, arith}
use Rattle.std.proofs.lemmas.Result.{on_ok_weaker}
use Rattle.syntax_tree.specs.Handle.{element_of}
use Rattle.tree_rewrite.specs.Change.{insert}
use Rattle.syntax_editor.specs.ByWay.{way_of}
use Rattle.syntax_editor.specs.Editing.{Editing, with_changes}
use Rattle.syntax_editor.specs.Noted.{first_single}
use Rattle.syntax_editor.specs.Recording.{is_single_at, over}
use Rattle.syntax_editor.proofs.NotedLemmas.{first-there}
use Rattle.syntax_editor.proofs.Singles.{alone, put_after, put_before, put-single}
use Rattle.syntax_editor.proofs.editor.SyntaxEditor.put_alone.Goals as goal

pub returns-in-None-clause-ok : goal.returns-in-None-clause-ok
returns-in-None-clause-ok c =
    let e = c.args.self.now in
    let w = way_of c.args.old in
    let new = map element_of c.args.new.items in
    let change = alone c.args.old c.in_ok-last.last new in
    let same : c.in_ok-last.last ≡ c.args.old = search rules in
    let none : first_single w e.changes ≡ None = sym c.in_ok-number.ensures.number ∙ c.in-None.is in
    on_ok_weaker c.push.result (λ h. h
    ∙ ap (λ (d : Editing). with_changes d (d.changes ++ change ∷ [])) c.in_ok-number.ensures.same
    ∙ put_after e c.args.old c.in_ok-last.last new w same refl none) c.push.ensures.ok

pub put_over-requires-clause-within : goal.put_over-requires-clause-within
put_over-requires-clause-within c =
    let e = c.args.self.now in
    let some : first_single (way_of c.args.old) e.changes ≡ Some c.in-Some.number = sym c.in_ok-number.ensures.number ∙ c.in-Some.is in
    let there = first-there (way_of c.args.old) e.changes c.in-Some.number (insert [] 0 []) some in
    omega (arith, there.0, ap (λ (d : Editing). length d.changes) c.in_ok-number.ensures.same)

pub put_over-requires-clause-single : goal.put_over-requires-clause-single
put_over-requires-clause-single c = λ w.
    let e = c.args.self.now in
    let n = c.in-Some.number in
    let new = map element_of c.args.new.items in
    let change = alone c.args.old c.in_ok-last.last new in
    let some : first_single (way_of c.args.old) e.changes ≡ Some n = sym c.in_ok-number.ensures.number ∙ c.in-Some.is in
    put-single e.changes c.args.old c.in_ok-last.last new (way_of c.args.old) n refl some w
    ∙ ap (λ (d : Editing). is_single_at w (get_or d.changes n change)) (sym c.in_ok-number.ensures.same)

pub returns-in-Some-clause-ok : goal.returns-in-Some-clause-ok
returns-in-Some-clause-ok c =
    let e = c.args.self.now in
    let n = c.in-Some.number in
    let new = map element_of c.args.new.items in
    let change = alone c.args.old c.in_ok-last.last new in
    let same : c.in_ok-last.last ≡ c.args.old = search rules in
    let some : first_single (way_of c.args.old) e.changes ≡ Some n = sym c.in_ok-number.ensures.number ∙ c.in-Some.is in
    c.put_over.ensures
    ∙ ap (λ (d : Editing). with_changes d (set d.changes n (over (get_or d.changes n change) change))) c.in_ok-number.ensures.same
    ∙ put_before e c.args.old c.in_ok-last.last new (way_of c.args.old) n change same refl some

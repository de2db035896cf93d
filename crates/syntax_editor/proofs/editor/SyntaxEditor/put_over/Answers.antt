use Rattle.std.proofs.Common.{◌≡◌, ◌<◌, length, ap, map, get_or, set, sym, subst, ◌∙◌, false, arith}
use Rattle.std.proofs.lemmas.List.{length-map, map-set}
use Rattle.std.proofs.lemmas.List.Elements.{All-set}
use Rattle.tree_rewrite.specs.Recorded.{recorded}
use Rattle.tree_rewrite.specs.declared.change.Change.{Change}
use Rattle.tree_rewrite.specs.Rewrite.{payload_of}
use Rattle.syntax_editor.specs.Editing.{Editing, with_changes}
use Rattle.syntax_editor.specs.Recording.{is_single_at, is_empty}
use Rattle.syntax_editor.specs.Inside.{IsSound}
use Rattle.syntax_editor.specs.Noted.{AreNoted}
use Rattle.syntax_editor.proofs.NotedLemmas.{noted-set}
use Rattle.syntax_editor.proofs.Singles.{over_new}
use Rattle.syntax_editor.proofs.editor.SyntaxEditor.put_over.Goals as goal

pub invariant_of-self : goal.invariant_of-self
invariant_of-self c =
    let root = c.self.inside.root in
    let items = c.self.inside.changes.items in
    let n = c.args.number in
    let d = recorded c.args.change in
    let after = c.replace.ensures.after in
    let top = ap (λ (v : Editing). v.top) c.self.view_is in
    let sound = subst (IsSound root) (sym after) (subst (λ t. IsSound t c.args.change) (sym top) c.requires.sound) in
    let set-is : map recorded (set items n c.replace.new.dest) ≡ set (map recorded items) n d = map-set recorded items n c.replace.new.dest ∙ ap (λ x. set (map recorded items) n (recorded x)) after in
    let noted = noted-set c.self.inside.singles c.self.inside.noted (map recorded items) n d
    (λ w. c.requires.single w ∙ ap (λ (v : Editing). is_single_at w (get_or v.changes n d)) (sym c.self.view_is)) c.self.invariant.2 in (
      c.self.invariant.0,
      All-set (IsSound root) items n c.replace.new.dest sound c.self.invariant.1,
      subst (AreNoted c.self.inside.singles c.self.inside.noted) (sym set-is) noted,
    )

pub returns-then-not-puts_nothing : goal.returns-then-not-puts_nothing
returns-then-not-puts_nothing c =
    let items = c.self.inside.changes.items in
    let n = c.args.number in
    let changes = ap (λ (v : Editing). v.changes) c.self.view_is in
    let puts : is_empty (payload_of (recorded c.index.result.now)) ≡ false = sym c.puts_nothing.ensures ∙ c.if-not-puts_nothing.true in
    let within : n < length items = omega (arith, c.requires.within, ap (λ (v : Editing). length v.changes) c.self.view_is, length-map items recorded) in
    ap (λ (v : Editing). with_changes v (map recorded (set items n c.replace.new.dest))) c.self.view_is
    ∙ ap (λ (d : Change). with_changes c.args.self.now (map recorded (set items n d))) c.replace.ensures.after
    ∙ ap (with_changes c.args.self.now) (over_new items c.args.self.now.changes n c.index.result.now c.args.change changes c.index.ensures within puts)

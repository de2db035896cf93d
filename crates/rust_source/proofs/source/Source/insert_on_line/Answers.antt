-- The gap and the elements are those of the side.
use Rattle.std.proofs.Common.{◌≡◌, ℕ, List, map, sym, ap, ◌∙◌, subst}
use Rattle.syntax_tree.specs.Element.{Element}
use Rattle.syntax_tree.specs.Handle.{element_of}
use Rattle.syntax_editor.specs.Editing.{Editing}
use Rattle.syntax_editor.specs.Recording.{Recording, inserting}
use Rattle.syntax_editor.specs.Refusal.{RefusesRecord}
use Rattle.rust_source.specs.Lines.{gap_beside, in_order, inserting_beside, line_break}
use Rattle.rust_source.specs.Held.{Held}
use Rattle.rust_source.specs.declared.lines.Side.{Side}
use Rattle.rust_source.proofs.Inserted.{only-inserted}
use Rattle.rust_source.proofs.source.Source.insert_on_line.Goals as goal

same :
    (side : Side) (s : Held) (e : Editing) (element new p space : Element) (indent : List ℕ) (i : ℕ) (es : List Element) → i ≡ gap_beside side element → es ≡ in_order side new space
    → space ≡ line_break s.next indent → inserting e p i es ≡ inserting_beside side s e element new p indent
same side s e element new p space indent i es index items made = λ j. inserting e p (index j) ((items ∙ ap (λ (x : Element). in_order side new x) made) j)

pub returns-in-Ok-insert_all-clause-only : goal.returns-in-Ok-insert_all-clause-only
returns-in-Ok-insert_all-clause-only c = λ only.
    only-inserted c.args.editor.now c.in-Ok.place.parent c.in-Ok.place.index (map element_of c.in-Ok-in_order.all.items) _ c.in-Ok-insert_all.ensures.recorded only

pub returns-in-Ok-insert_all-clause-recorded : goal.returns-in-Ok-insert_all-clause-recorded
returns-in-Ok-insert_all-clause-recorded c =
    let made = c.in_ok-space.ensures.made in
    record {
      parent = c.in-Ok.place.parent;
      indent = made.0;
      parent_is = c.in-Ok.ensures.parent;
      indent_is = made.1.0;
      recorded =
          sym
          (same c.args.side c.args.self.now c.args.editor.now (element_of c.args.element.now) (element_of c.args.new.now) c.in-Ok.place.parent c.in_ok-space.space made.0 c.in-Ok.place.index
          (map element_of c.in-Ok-in_order.all.items) c.in-Ok.ensures.index c.in-Ok-in_order.ensures made.1.1)
          ∙ c.in-Ok-insert_all.ensures.recorded;
    }

pub returns-in-Err-insert_all-clause-refused : goal.returns-in-Err-insert_all-clause-refused
returns-in-Err-insert_all-clause-refused c =
    let made = c.in_ok-space.ensures.made in
    record {
      parent = c.in-Ok.place.parent;
      indent = made.0;
      parent_is = c.in-Ok.ensures.parent;
      indent_is = made.1.0;
      refused =
          subst (λ (r : Recording). RefusesRecord r c.in-Err-insert_all.error)
          (same c.args.side c.args.self.now c.args.editor.now (element_of c.args.element.now) (element_of c.args.new.now) c.in-Ok.place.parent c.in_ok-space.space made.0 c.in-Ok.place.index
          (map element_of c.in-Ok-in_order.all.items) c.in-Ok.ensures.index c.in-Ok-in_order.ensures made.1.1)
          c.in-Err-insert_all.ensures.refused;
    }

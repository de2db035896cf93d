use Rattle.std.proofs.Common.{◌≡◌, ◌∙◌, sym, map, length, ap, append_assoc}
use Rattle.std.proofs.lemmas.Bool.{eqb-true, eqb-false}
use Rattle.text_diff.proofs.HunkLemmas.{unified-none, unified-some}
use Rattle.text_diff.proofs.unified.diff_text.Goals as goal

pub returns-then-is_empty : goal.returns-then-is_empty
returns-then-is_empty c =
    let none : length c.args.changes.now ≡ 0 = eqb-true _ _ (sym c.is_empty.ensures ∙ c.if-is_empty.true) in
    c.new-text.ensures.items ∙ sym (unified-none c.args.path.now (map (λ l. l.now) c.args.old.now) (map (λ l. l.now) c.args.new.now) c.args.changes.now none)

pub returns : goal.returns
returns c =
    let some = unified-some c.args.path.now (map (λ l. l.now) c.args.old.now) (map (λ l. l.now) c.args.new.now) c.args.changes.now (eqb-false _ _ (sym c.is_empty.ensures ∙ c.if-is_empty.false)) in
    rw (c.in_ok-push_hunks.ensures, c.in_ok-push_names.ensures, c.new-text.ensures.items) (sym some)

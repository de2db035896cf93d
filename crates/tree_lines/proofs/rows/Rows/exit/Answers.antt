-- The row that is written is that of the node which was entered last.
use Rattle.std.proofs.Common.{◌<◌, ℕ, ap, refl, sym, subst, ◌∙◌, length, map}
use Rattle.tree_lines.specs.Listed.{closed, element_of}
use Rattle.tree_lines.proofs.Closing.{closed-set, snoc-parts}
use Rattle.tree_lines.proofs.rows.Rows.exit.Goals as goal

pub returns-then-number-len : goal.returns-then-number-len
returns-then-number-len c front number e within =
    let old = c.args.self.now in
    let rows = old.rows.items in
    let parts = snoc-parts front c.pop.new.self.items number c.in-Some.number (sym e ∙ c.in-Some.ensures.items) in
    record {
      elements =
          closed-set rows c.in-Some.number old.offset c.index_mut.result.now _ (subst (λ (n : ℕ). n < length rows) parts.1 within) c.index_mut.ensures.value refl
          ∙ ap (λ (n : ℕ). closed n old.offset (map element_of rows)) (sym parts.1);
      entered = sym parts.0;
      place = refl;
      sayings = refl;
    }

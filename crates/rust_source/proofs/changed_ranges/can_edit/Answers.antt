use Rattle.std.proofs.Common.{refl, sym, ◌∙◌}
use Rattle.rust_document.proofs.Boundaries.{decided-at, told-by-end, told-by-start}
use Rattle.rust_source.proofs.changed_ranges.can_edit.Goals as goal

pub returns-then-is_char_boundary-clause-test : goal.returns-then-is_char_boundary-clause-test
returns-then-is_char_boundary-clause-test c =
    let first = decided-at _ c.args.start _ c.args.text.now _ c.is_char_boundary.ensures.test refl refl in
    told-by-end _ _ _ _ c.requires (sym first ∙ c.if-is_char_boundary.true)
    (decided-at _ c.args.end _ c.args.text.now _ c.is_char_boundary-then-is_char_boundary.ensures.test refl refl)

pub returns-else-is_char_boundary-clause-test : goal.returns-else-is_char_boundary-clause-test
returns-else-is_char_boundary-clause-test c =
    let first = decided-at _ c.args.start _ c.args.text.now _ c.is_char_boundary.ensures.test refl refl in
    c.if-is_char_boundary.false ∙ told-by-start _ _ _ c.requires (sym first ∙ c.if-is_char_boundary.false)

use Rattle.std.proofs.Common.{◌≡◌, sym, ◌∙◌}
use Rattle.rust_document.proofs.Boundaries.{decided-at, told-by-end, told-by-start}
use Rattle.rust_document.proofs.document.Document.can_edit.Goals as goal

pub returns-then-is_char_boundary : goal.returns-then-is_char_boundary
returns-then-is_char_boundary c =
    let at : c.from.result ≡ c.args.range.start.0 = cc in
    let to : c.from-then-is_char_boundary.result ≡ c.args.range.end.0 = cc in
    let first = decided-at _ _ _ c.args.self.now.text _ c.is_char_boundary.ensures.test c.text-text.ensures.text at in
    told-by-end _ _ _ _ c.args.range.ordered (sym first ∙ c.if-is_char_boundary.true)
    (decided-at _ _ _ c.args.self.now.text _ c.is_char_boundary-then-is_char_boundary.ensures.test c.text-text.ensures.text to)

pub returns-else-is_char_boundary : goal.returns-else-is_char_boundary
returns-else-is_char_boundary c =
    let at : c.from.result ≡ c.args.range.start.0 = cc in
    let first = decided-at _ _ _ c.args.self.now.text _ c.is_char_boundary.ensures.test c.text-text.ensures.text at in
    c.if-is_char_boundary.false ∙ told-by-start _ _ _ c.args.range.ordered (sym first ∙ c.if-is_char_boundary.false)

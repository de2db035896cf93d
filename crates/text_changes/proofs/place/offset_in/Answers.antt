use Rattle.std.proofs.Common.{◌∙◌, ap, sym}
use Rattle.line_index.proofs.IndexLemmas.{some-within}
use Rattle.text_changes.specs.Places.{at_column}
use Rattle.text_changes.proofs.PlaceLemmas.{past-line, in-line, same-column, other-column, place-cuts}
use Rattle.text_changes.proofs.place.offset_in.Goals as goal

pub returns-then-line_col-place-clause-offset : goal.returns-then-line_col-place-clause-offset
returns-then-line_col-place-clause-offset c =
    let end = some-within _ _ _ _ c.in-Some.ensures in
    let past = rw (c.line_col.ensures, end.1) at c.if-line_col-place.true in
    rw (c.before_return.ensures, c.as_bytes.ensures.value, c.text-text.ensures, end.1) (past-line c.args.encoding c.args.index.now c.args.place end.0 past)

pub returns-then-line_col-place-2-clause-offset : goal.returns-then-line_col-place-2-clause-offset
returns-then-line_col-place-2-clause-offset c =
    let end = some-within _ _ _ _ c.in-Some.ensures in
    let near = rw (c.line_col.ensures, end.1) at c.if-line_col-place.false in
    let col = rw c.line_col-2.ensures at c.if-line_col-place-2.true in
    same-column c.args.encoding c.args.index.now c.args.place c.offset-offset.result col
    ∙ (ap (λ m. at_column c.args.encoding c.args.index.now c.args.place m) c.offset-offset.ensures
    ∙ in-line c.args.encoding c.args.index.now c.args.place end.0 near)

pub returns-else-line_col-place-2-clause-offset : goal.returns-else-line_col-place-2-clause-offset
returns-else-line_col-place-2-clause-offset c =
    let end = some-within _ _ _ _ c.in-Some.ensures in
    let near = rw (c.line_col.ensures, end.1) at c.if-line_col-place.false in
    let other = rw c.line_col-2.ensures at c.if-line_col-place-2.false in
    other-column c.args.encoding c.args.index.now c.args.place c.offset-offset.result other
    ∙ (ap (λ m. at_column c.args.encoding c.args.index.now c.args.place m) c.offset-offset.ensures
    ∙ in-line c.args.encoding c.args.index.now c.args.place end.0 near)

pub returns-then-line_col-place-clause-boundary : goal.returns-then-line_col-place-clause-boundary
returns-then-line_col-place-clause-boundary c =
    place-cuts c.args.encoding c.args.index.now c.args.place c.before_return.result (rw c.text-text.ensures at c.text-text.utf8) (sym (returns-then-line_col-place-clause-offset c))

pub returns-then-line_col-place-2-clause-boundary : goal.returns-then-line_col-place-2-clause-boundary
returns-then-line_col-place-2-clause-boundary c =
    place-cuts c.args.encoding c.args.index.now c.args.place c.offset-offset.result (rw c.text-text.ensures at c.text-text.utf8) (sym (returns-then-line_col-place-2-clause-offset c))

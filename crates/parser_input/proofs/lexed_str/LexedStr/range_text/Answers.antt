-- The piece between two leaves.
use Rattle.std.proofs.Common.{◌∙◌, ℕ, List, sym, ap, subst, arith, chars, slice_range}
use Rattle.std.specs.Str.{IsCharBoundary}
use Rattle.parser_input.specs.Stored.{Whole, offset}
use Rattle.parser_input.proofs.Readings.{range-at}
use Rattle.parser_input.proofs.lexed_str.LexedStr.range_text.Goals as goal

pub text_start-requires : goal.text_start-requires
text_start-requires c = omega (arith, c.requires.order, c.requires.within)

pub range-requires-clause-start_le_end : goal.range-requires-clause-start_le_end
range-requires-clause-start_le_end c =
    let s = c.self.inside in
    let r = range-at s.text.now s.leaves.items c.args.self.now.leaves c.args.leaves.start c.args.leaves.end (ap (λ (w : Whole). w.leaves) c.self.view_is) c.self.invariant.2 c.self.invariant.0 c.self.invariant.1 c.requires.order in
    omega (arith, r.order, c.text_start.ensures, c.text_start-2.ensures)

pub range-requires-clause-start_boundary : goal.range-requires-clause-start_boundary
range-requires-clause-start_boundary c = λ h.
    let s = c.self.inside in
    let r = range-at s.text.now s.leaves.items c.args.self.now.leaves c.args.leaves.start c.args.leaves.end (ap (λ (w : Whole). w.leaves) c.self.view_is) c.self.invariant.2 c.self.invariant.0 c.self.invariant.1 c.requires.order in
    subst (λ (k : ℕ). IsCharBoundary s.text.now k) (sym c.text_start.ensures) r.begins

pub range-requires-clause-end_boundary : goal.range-requires-clause-end_boundary
range-requires-clause-end_boundary c =
    let s = c.self.inside in
    let r = range-at s.text.now s.leaves.items c.args.self.now.leaves c.args.leaves.start c.args.leaves.end (ap (λ (w : Whole). w.leaves) c.self.view_is) c.self.invariant.2 c.self.invariant.0 c.self.invariant.1 c.requires.order in
    subst (λ (k : ℕ). IsCharBoundary s.text.now k) (sym c.text_start-2.ensures) r.ends

pub returns : goal.returns
returns c =
    let s = c.self.inside in
    let r = range-at s.text.now s.leaves.items c.args.self.now.leaves c.args.leaves.start c.args.leaves.end (ap (λ (w : Whole). w.leaves) c.self.view_is) c.self.invariant.2 c.self.invariant.0 c.self.invariant.1 c.requires.order in
    ap (λ (x : List ℕ). chars x) c.range.ensures.value
    ∙ ap (λ (k : ℕ). chars (slice_range s.text.now k c.text_start-2.result)) c.text_start.ensures
    ∙ ap (λ (k : ℕ). chars (slice_range s.text.now (offset c.args.self.now.leaves c.args.leaves.start) k)) c.text_start-2.ensures
    ∙ r.own

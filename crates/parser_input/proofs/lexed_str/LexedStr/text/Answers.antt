-- The piece between where a leaf starts and where it ends.
use Rattle.std.proofs.Common.{◌∙◌, ◌+◌, ℕ, List, [], sym, ap, subst, arith, chars, slice_range}
use Rattle.std.specs.Str.{IsCharBoundary}
use Rattle.parser_input.specs.Kinds.{EOF}
use Rattle.parser_input.specs.Lexed.{quiet}
use Rattle.parser_input.specs.Stored.{Whole, offset}
use Rattle.parser_input.proofs.Readings.{offset-more, range-at, text-one}
use Rattle.parser_input.proofs.lexed_str.LexedStr.text.Goals as goal

pub range-requires-clause-start_le_end : goal.range-requires-clause-start_le_end
range-requires-clause-start_le_end c =
    let s = c.self.inside in
    let r = range-at s.text.now s.leaves.items c.args.self.now.leaves c.args.i (c.args.i + 1) (ap (λ (w : Whole). w.leaves) c.self.view_is) c.self.invariant.2 c.self.invariant.0 c.self.invariant.1 (omega arith) in
    omega (arith, r.order, c.text_range.ensures.start, (c.text_range.ensures.end ∙ sym (offset-more c.args.self.now.leaves c.args.i (quiet EOF []) c.requires)))

pub range-requires-clause-start_boundary : goal.range-requires-clause-start_boundary
range-requires-clause-start_boundary c = λ h.
    let s = c.self.inside in
    let r = range-at s.text.now s.leaves.items c.args.self.now.leaves c.args.i (c.args.i + 1) (ap (λ (w : Whole). w.leaves) c.self.view_is) c.self.invariant.2 c.self.invariant.0 c.self.invariant.1 (omega arith) in
    subst (λ (k : ℕ). IsCharBoundary s.text.now k) (sym c.text_range.ensures.start) r.begins

pub range-requires-clause-end_boundary : goal.range-requires-clause-end_boundary
range-requires-clause-end_boundary c =
    let s = c.self.inside in
    let r = range-at s.text.now s.leaves.items c.args.self.now.leaves c.args.i (c.args.i + 1) (ap (λ (w : Whole). w.leaves) c.self.view_is) c.self.invariant.2 c.self.invariant.0 c.self.invariant.1 (omega arith) in
    subst (λ (k : ℕ). IsCharBoundary s.text.now k) (sym (c.text_range.ensures.end ∙ sym (offset-more c.args.self.now.leaves c.args.i (quiet EOF []) c.requires))) r.ends

pub returns : goal.returns
returns c =
    let s = c.self.inside in
    let r = range-at s.text.now s.leaves.items c.args.self.now.leaves c.args.i (c.args.i + 1) (ap (λ (w : Whole). w.leaves) c.self.view_is) c.self.invariant.2 c.self.invariant.0 c.self.invariant.1 (omega arith) in
    ap (λ (x : List ℕ). chars x) c.range.ensures.value
    ∙ ap (λ (k : ℕ). chars (slice_range s.text.now k c.text_range.result.end)) c.text_range.ensures.start
    ∙ ap (λ (k : ℕ). chars (slice_range s.text.now (offset c.args.self.now.leaves c.args.i) k)) (c.text_range.ensures.end ∙ sym (offset-more c.args.self.now.leaves c.args.i (quiet EOF []) c.requires))
    ∙ r.own ∙ text-one c.args.self.now.leaves c.args.i (quiet EOF []) c.requires

-- A leaf starts where the one before it ends.
use Rattle.std.proofs.Common.{◌≡◌, ◌∙◌, ◌<◌, ◌+◌, ◌-◌, ℕ, sym, ap, arith, length}
use Rattle.parser_input.specs.Stored.{Whole, offset}
use Rattle.parser_input.specs.declared.lexed_str.StoredLeaf.{StoredLeaf}
use Rattle.parser_input.proofs.LexedSteps.{seen-length}
use Rattle.parser_input.proofs.Readings.{end-at}
use Rattle.parser_input.proofs.lexed_str.LexedStr.text_start.Goals as goal

pub returns-then-i-eq0 : goal.returns-then-i-eq0
returns-then-i-eq0 c = sym (ap (λ (n : ℕ). offset c.args.self.now.leaves n) c.if-i-eq0.true)

pub index-requires : goal.index-requires
index-requires c =
    let s = c.self.inside in
    omega (arith, c.requires, c.if-i-eq0.false, ap (λ (w : Whole). length w.leaves) c.self.view_is, seen-length s.text.now 0 s.leaves.items)

pub returns : goal.returns
returns c =
    let s = c.self.inside in
    let i = c.args.i in
    let ls = c.args.self.now.leaves in
    let p = c.index.result.now in
    let before : i - 1 + 1 ≡ i = omega (arith, c.if-i-eq0.false) in
    let there : i - 1 < length ls = omega (arith, c.requires, before) in
    ap (λ (x : StoredLeaf). x.end) c.index.ensures
    ∙ end-at s.text.now s.leaves.items ls (i - 1) p (ap (λ (w : Whole). w.leaves) c.self.view_is) c.self.invariant.2 c.self.invariant.0 there
    ∙ ap (λ (n : ℕ). offset ls n) before

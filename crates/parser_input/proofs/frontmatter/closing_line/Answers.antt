use Rattle.std.proofs.Common.{◌≡◌, ◌∙◌, ℕ, List, [], sym, ap, true, false, length, arith}
use Rattle.rustc_lexer.proofs.Alike.{none_left}
use Rattle.parser_input.specs.Preface.{closing_line}
use Rattle.parser_input.proofs.Prefaces.{closing-here, closing-next, closing-none, closing-suffix, after-shorter}
use Rattle.parser_input.proofs.frontmatter.closing_line.Goals as goal

pub returns-then-is_fence-clause-line : goal.returns-then-is_fence-clause-line
returns-then-is_fence-clause-line c =
    let some : c.lines.rest ≡ [] → ⊥ = λ e. let z : true ≡ false = sym (c.is_empty.ensures.1 e) ∙ c.lines-test.true in absurd (cc) in
    closing-here c.args.count c.lines.rest some (sym c.is_fence.ensures ∙ c.if-is_fence.true) ∙ c.lines.invariant

pub lines-smaller : goal.lines-smaller
lines-smaller c =
    let some : c.lines.rest ≡ [] → ⊥ = λ e. let z : true ≡ false = sym (c.is_empty.ensures.1 e) ∙ c.lines-test.true in absurd (cc) in
    omega (arith, ap (λ (t : List ℕ). length t) c.eat_whole_line.ensures, after-shorter c.lines.rest some)

pub lines-preserved : goal.lines-preserved
lines-preserved c =
    let some : c.lines.rest ≡ [] → ⊥ = λ e. let z : true ≡ false = sym (c.is_empty.ensures.1 e) ∙ c.lines-test.true in absurd (cc) in
    ap (λ (t : List ℕ). closing_line c.args.count true t) c.eat_whole_line.ensures
    ∙ closing-next c.args.count c.lines.rest some (sym c.is_fence.ensures ∙ c.if-is_fence.false) ∙ c.lines.invariant

pub returns-clause-line : goal.returns-clause-line
returns-clause-line c = closing-none c.args.count c.lines.rest (none_left _ _ c.is_empty.ensures c.lines-test.false) ∙ c.lines.invariant

pub returns-then-is_fence-clause-after : goal.returns-then-is_fence-clause-after
returns-then-is_fence-clause-after c =
    let some : c.lines.rest ≡ [] → ⊥ = λ e. let z : true ≡ false = sym (c.is_empty.ensures.1 e) ∙ c.lines-test.true in absurd (cc) in
    let found = closing-here c.args.count c.lines.rest some (sym c.is_fence.ensures ∙ c.if-is_fence.true) ∙ c.lines.invariant in
    closing-suffix c.args.count true c.args.rest c.lines.rest (sym found)

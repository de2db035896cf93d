use Rattle.std.proofs.Common.{◌≡◌, ◌∙◌, ℕ, [], sym, ap, get_or, true, false}
use Rattle.std.proofs.lemmas.Bool.{ne_eqb, eq-eqb}
use Rattle.rustc_lexer.proofs.Alike.{none_left}
use Rattle.parser_input.specs.Escapes.{nul_allowed}
use Rattle.parser_input.proofs.EscapeSteps.{unit-none, unit-escape, unit-plain}
use Rattle.parser_input.proofs.escapes.eat_unit.Goals as goal

pub returns-then-is_empty : goal.returns-then-is_empty
returns-then-is_empty c = unit-none c.args.rules c.args.rest.now c.args.rest.now (none_left _ _ c.is_empty.ensures c.if-is_empty.true)

pub returns-then-first-eq92 : goal.returns-then-first-eq92
returns-then-first-eq92 c =
    let t = c.args.rest.now in
    let some : t ≡ [] → ⊥ = λ e. let z : true ≡ false = sym (c.is_empty.ensures.1 e) ∙ c.if-is_empty.false in absurd (cc) in
    unit-escape c.args.rules t c.bump.new.self _ _ some (eq-eqb (get_or t 0 0) 92 (sym c.first-first.ensures ∙ c.if-first-eq92.true)) c.bump.ensures c.eat_escape.ensures

pub returns : goal.returns
returns c =
    let t = c.args.rest.now in
    let some : t ≡ [] → ⊥ = λ e. let z : true ≡ false = sym (c.is_empty.ensures.1 e) ∙ c.if-is_empty.false in absurd (cc) in
    unit-plain c.args.rules t c.bump.new.self _ some (ne_eqb (get_or t 0 0) 92 (λ e. c.if-first-eq92.false (c.first-first.ensures ∙ e)))
    (c.allows.ensures ∙ ap (λ (n : ℕ). nul_allowed c.args.rules n) c.first-first.ensures) c.bump.ensures

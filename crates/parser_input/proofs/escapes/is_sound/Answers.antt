use Rattle.std.proofs.Common.{◌≡◌, ◌∙◌, Bool, [], sym, subst, true, false}
use Rattle.rustc_lexer.proofs.Alike.{none_left}
use Rattle.parser_input.specs.Escapes.{Passes, unit}
use Rattle.parser_input.proofs.EscapeSteps.{sound-none, sound-some, sound-end, unit-shorter}
use Rattle.parser_input.proofs.escapes.is_sound.Goals as goal

pub returns-then-not-eat_unit : goal.returns-then-not-eat_unit
returns-then-not-eat_unit c =
    let t = c.units.rest in
    let some : t ≡ [] → ⊥ = λ e. let z : true ≡ false = sym (c.is_empty.ensures.1 e) ∙ c.units-test.true in absurd (cc) in
    let P : Bool → Type 0 = λ b. Passes (unit c.args.rules t) t b c.eat_unit.new.rest in
    sound-none c.args.rules t c.eat_unit.new.rest some (subst P c.if-not-eat_unit.true c.eat_unit.ensures) ∙ c.units.invariant

pub units-smaller : goal.units-smaller
units-smaller c =
    let t = c.units.rest in
    let some : t ≡ [] → ⊥ = λ e. let z : true ≡ false = sym (c.is_empty.ensures.1 e) ∙ c.units-test.true in absurd (cc) in
    let P : Bool → Type 0 = λ b. Passes (unit c.args.rules t) t b c.eat_unit.new.rest in
    unit-shorter c.args.rules t c.eat_unit.new.rest some (subst P c.if-not-eat_unit.false c.eat_unit.ensures)

pub units-preserved : goal.units-preserved
units-preserved c =
    let t = c.units.rest in
    let some : t ≡ [] → ⊥ = λ e. let z : true ≡ false = sym (c.is_empty.ensures.1 e) ∙ c.units-test.true in absurd (cc) in
    let P : Bool → Type 0 = λ b. Passes (unit c.args.rules t) t b c.eat_unit.new.rest in
    sound-some c.args.rules t c.eat_unit.new.rest some (subst P c.if-not-eat_unit.false c.eat_unit.ensures) ∙ c.units.invariant

pub returns : goal.returns
returns c = sound-end c.args.rules c.units.rest (none_left _ _ c.is_empty.ensures c.units-test.false) ∙ c.units.invariant

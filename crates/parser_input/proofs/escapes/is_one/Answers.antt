use Rattle.std.proofs.Common.{Bool, subst}
use Rattle.parser_input.specs.Escapes.{Passes, unit}
use Rattle.parser_input.proofs.EscapeSteps.{one-none, one-some}
use Rattle.parser_input.proofs.escapes.is_one.Goals as goal

pub returns-then-not-eat_unit : goal.returns-then-not-eat_unit
returns-then-not-eat_unit c =
    let t = c.args.text in
    let P : Bool → Type 0 = λ b. Passes (unit c.args.rules t) t b c.eat_unit.new.rest in
    one-none c.args.rules t c.eat_unit.new.rest (subst P c.if-not-eat_unit.true c.eat_unit.ensures)

pub returns : goal.returns
returns c =
    let t = c.args.text in
    let P : Bool → Type 0 = λ b. Passes (unit c.args.rules t) t b c.eat_unit.new.rest in
    one-some c.args.rules t c.eat_unit.new.rest c.is_empty.result (subst P c.if-not-eat_unit.false c.eat_unit.ensures) c.is_empty.ensures

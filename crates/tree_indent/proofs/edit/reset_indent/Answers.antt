use Rattle.std.proofs.Common.{ℕ, OnOk, IfErr, subst}
use Rattle.tree_indent.specs.Indented.{FitsShifted, RefusesShifted}
use Rattle.tree_indent.specs.declared.shift.Shift.TheVariants.{Out}
use Rattle.tree_indent.proofs.edit.reset_indent.Goals as goal

pub returns-clause-fits : goal.returns-clause-fits
returns-clause-fits c =
    subst (λ (n : ℕ). OnOk c.dedent.result (FitsShifted (Out (record { 0 = n })) c.args.node.now)) c.in-Ok.ensures c.dedent.ensures.fits

pub returns-clause-refused : goal.returns-clause-refused
returns-clause-refused c =
    subst (λ (n : ℕ). IfErr c.dedent.result (RefusesShifted (Out (record { 0 = n })) c.args.node.now c.args.ids.now)) c.in-Ok.ensures c.dedent.ensures.refused

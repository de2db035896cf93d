-- There are as many new child nodes as old ones, so only the order can be wrong.
use Rattle.std.proofs.Common.{◌<◌, ◌^◌, ap, sym, ◌∙◌, subst, rules, arith}
use Rattle.syntax_tree.specs.Element.{Element}
use Rattle.tree_indent.specs.Mapped.{RefusesMapped}
use Rattle.tree_indent.specs.declared.shift.Shift.TheVariants.{In}
use Rattle.tree_indent.proofs.ChildPairs.{is_after, refused_order, refused_alone}
use Rattle.tree_indent.proofs.mapped.indent_with_mapping.Goals as goal

pub returns-in-Ok-clause-after : goal.returns-in-Ok-clause-after
returns-in-Ok-clause-after c =
    let made = c.in_ok-root.ensures.ok in
    is_after (In c.args.level) made.0 c.args.node.now c.in_ok-root.root c.args.ids.now made.1 made.2 c.in-Ok.ensures.fits.ordered

pub returns-in-Err-clause-refused : goal.returns-in-Err-clause-refused
returns-in-Err-clause-refused c =
    let made = c.in_ok-root.ensures.ok in
    let few : c.args.ids.now < 2 ^ 32 = omega (arith, c.tree.ensures, ap (λ (e : Element). e.number) made.2) in
    subst (RefusesMapped (In c.args.level) c.args.node.now c.args.ids.now) (sym c.of_mapping.ensures)
    (refused_order (In c.args.level) made.0 c.args.node.now c.in_ok-root.root c.args.ids.now made.1 made.2 c.in_ok-root.ensures.fits few c.in-Err.e c.in-Err.ensures.refused)

pub returns-in-Err-clause-kept : goal.returns-in-Err-clause-kept
returns-in-Err-clause-kept c = c.starting_at.ensures ∙ c.tree.ensures ∙ ap (λ (e : Element). e.number) c.in_ok-root.ensures.ok.2

pub returns-in_err-root-clause-refused : goal.returns-in_err-root-clause-refused
returns-in_err-root-clause-refused c =
    let refused = refused_alone (In c.args.level) c.args.node.now c.args.ids.now c.in_err-root.field-0.0 c.in_err-root.ensures.refused in
    search (rules, refused)

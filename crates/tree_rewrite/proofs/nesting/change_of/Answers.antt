use Rattle.std.proofs.Common.{◌∙◌, ap, slice_get, option_and_then}
use Rattle.std.specs.Option.{option_copied}
use Rattle.tree_rewrite.specs.WayTrie.{number_of}
use Rattle.tree_rewrite.proofs.HeldLemmas.{held-change, item-at}
use Rattle.tree_rewrite.proofs.nesting.change_of.Goals as goal

pub returns-in_err-number : goal.returns-in_err-number
returns-in_err-number c = λ w at.
    ap option_copied c.from_residual.ensures
    ∙ ap (option_and_then (λ n. slice_get c.args.changes.now n)) (c.in_err-number.ensures ∙ ap (number_of c.args.held.now.numbers.items) at)
    ∙ held-change c.args.held.now c.args.changes.now w c.requires

pub returns : goal.returns
returns c = λ w at.
    item-at c.args.changes.now c.in_ok-number.number c.get.result c.get.ensures.lookup.0 c.get.ensures.lookup.1
    ∙ ap (option_and_then (λ n. slice_get c.args.changes.now n)) (c.in_ok-number.ensures ∙ ap (number_of c.args.held.now.numbers.items) at)
    ∙ held-change c.args.held.now c.args.changes.now w c.requires

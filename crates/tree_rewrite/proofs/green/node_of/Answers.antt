-- The iterator over the children gives the children.
use Rattle.std.proofs.Common.{◌≡◌, sym, ◌∙◌, ap, subst}
use Rattle.std.proofs.lemmas.Iterator.{items_from_drains}
use Rattle.std.proofs.lemmas.Iterator.Adapters.{YieldsList-from_vec}
use Rattle.rowan_green.specs.Term.{tree_of, FitsNode}
use Rattle.rowan_green.specs.Refusal as green
use Rattle.syntax_tree.proofs.Memory.{map-same}
use Rattle.tree_rewrite.proofs.green.node_of.Goals as goal

pub returns-in-Ok-clause-node : goal.returns-in-Ok-clause-node
returns-in-Ok-clause-node c =
    let made = c.in-Ok.ensures.ok in
    let run = made.1 in
    let same : made.0 ≡ c.args.children.items =
    sym (map-same made.0)
    ∙ items_from_drains made.0 (run.1.0, run.1.1, λ w. (run.0, run.1.2))
    (YieldsList-from_vec c.args.children.items c.into_iter.ensures.rest (c.into_iter.ensures.len ∙ c.args.children.ok.0)) in
    made.3 ∙ ap (tree_of c.args.kind.0) same

pub returns-in-Ok-clause-fits : goal.returns-in-Ok-clause-fits
returns-in-Ok-clause-fits c =
    let made = c.in-Ok.ensures.ok in
    let run = made.1 in
    let same : made.0 ≡ c.args.children.items =
    sym (map-same made.0)
    ∙ items_from_drains made.0 (run.1.0, run.1.1, λ w. (run.0, run.1.2))
    (YieldsList-from_vec c.args.children.items c.into_iter.ensures.rest (c.into_iter.ensures.len ∙ c.args.children.ok.0)) in
    subst FitsNode same made.2

pub returns-in-Err-TooLong-clause-refused : goal.returns-in-Err-TooLong-clause-refused
returns-in-Err-TooLong-clause-refused c = λ fits.
    let refused = subst (green.RefusesUnless _) c.in-Err-TooLong.field-0-is c.in-Err-TooLong.ensures.refused in
    refused (λ es run.
    let same : es ≡ c.args.children.items =
    sym (map-same es)
    ∙ items_from_drains es (run.1.0, run.1.1, λ w. (run.0, run.1.2))
    (YieldsList-from_vec c.args.children.items c.into_iter.ensures.rest (c.into_iter.ensures.len ∙ c.args.children.ok.0)) in
    subst FitsNode (sym same) fits)

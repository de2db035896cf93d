-- The iterator over the children gives the children.
use Rattle.std.proofs.Common.{sym, ◌∙◌, ap, subst}
use Rattle.std.proofs.lemmas.Iterator.{items_from_drains}
use Rattle.std.proofs.lemmas.Iterator.Adapters.{YieldsList-from_vec}
use Rattle.std.proofs.lemmas.Result.{IfOk-weaker, IfErr-weaker}
use Rattle.rowan_green.specs.Term.{tree_of, FitsNode}
use Rattle.syntax_tree.proofs.Memory.{map-same}
use Rattle.tree_indent.proofs.Shifting.{refuses-whole}
use Rattle.tree_indent.proofs.trees.node_of.Goals as goal

pub returns-clause-ok : goal.returns-clause-ok
returns-clause-ok c =
    IfOk-weaker c.new.result _ _
    (λ n made.
    made.3 ∙ ap (tree_of c.args.kind.0) (sym (map-same made.0)
    ∙ items_from_drains made.0 (made.1.1.0, made.1.1.1, λ w. (made.1.0, made.1.1.2))
    (YieldsList-from_vec c.args.children.items c.into_iter.ensures.rest (c.into_iter.ensures.len ∙ c.args.children.ok.0))))
    c.new.ensures.ok

pub returns-clause-fits : goal.returns-clause-fits
returns-clause-fits c =
    IfOk-weaker c.new.result _ _
    (λ n made.
    subst FitsNode (sym (map-same made.0)
    ∙ items_from_drains made.0 (made.1.1.0, made.1.1.1, λ w. (made.1.0, made.1.1.2))
    (YieldsList-from_vec c.args.children.items c.into_iter.ensures.rest (c.into_iter.ensures.len ∙ c.args.children.ok.0))) made.2)
    c.new.ensures.ok

pub returns-clause-refused : goal.returns-clause-refused
returns-clause-refused c =
    IfErr-weaker c.new.result _ _
    (λ e refused. refuses-whole _ (FitsNode c.args.children.items) e
    (λ fits. λ es run. subst FitsNode (sym (sym (map-same es)
    ∙ items_from_drains es (run.1.0, run.1.1, λ w. (run.0, run.1.2))
    (YieldsList-from_vec c.args.children.items c.into_iter.ensures.rest (c.into_iter.ensures.len ∙ c.args.children.ok.0)))) fits)
    refused)
    c.new.ensures.refused

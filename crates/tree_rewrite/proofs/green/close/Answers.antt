use Rattle.std.proofs.Common.{◌≡◌, [], ◌∷◌, ◌++◌, Some, None, refl, sym, ap, ◌∙◌, subst}
use Rattle.std.proofs.lemmas.Result.{err_from_is_err_and}
use Rattle.rowan_green.specs.Term.{tree_of, FitsNode}
use Rattle.rowan_green.specs.declared.utility_types.NodeOrToken.TheVariants.{Node}
use Rattle.tree_rewrite.specs.Pieces.{closed}
use Rattle.tree_rewrite.specs.Growing.{NewFitIn}
use Rattle.tree_rewrite.proofs.GreenLemmas.{popped, in_node-of, made-node, fits-node, new-node, in_group-of, made-ended, fits-ended, err_more}
use Rattle.tree_rewrite.proofs.green.close.Goals as goal

pub returns-in_err-node-in-Some-kind-clause-refused : goal.returns-in_err-node-in-Some-kind-clause-refused
returns-in_err-node-in-Some-kind-clause-refused c = λ s h.
    let g = c.in-Some.field-0 in
    let es = c.args.done.now.items in
    let k = c.in-Some-kind.kind in
    let kind : g.kind ≡ Some k = ap (λ y. y.kind) c.in-Some.field-0-is ∙ c.in-Some-kind.is in
    let last = popped c.args.around.now.items c.pop.new.self.items c.pop.result g g c.in-Some.is refl c.pop.ensures.items in
    let n = in_node-of es c.args.around.now.items c.pop.new.self.items g k s last kind h in
    let children : c.replace-children.result.items ≡ es = ap (λ v. v.items) c.replace-children.ensures.value in
    let p = err_from_is_err_and c.from_residual.result c.from_residual.ensures.1 in
    err_more c.from_residual.result p.0 c.in_err-node-in-Some-kind.field-0.0 (FitsNode c.replace-children.result.items) (NewFitIn (closed s.done s.around)) p.1 p.2
    (λ q. subst FitsNode (sym children) (new-node es c.pop.new.self.items g k s n h.done q)) c.in_err-node-in-Some-kind.ensures.refused

pub returns-in_ok-push-in-Some-kind-clause-made : goal.returns-in_ok-push-in-Some-kind-clause-made
returns-in_ok-push-in-Some-kind-clause-made c = λ s h.
    let g = c.in-Some.field-0 in
    let es = c.args.done.now.items in
    let k = c.in-Some-kind.kind in
    let kind : g.kind ≡ Some k = ap (λ y. y.kind) c.in-Some.field-0-is ∙ c.in-Some-kind.is in
    let last = popped c.args.around.now.items c.pop.new.self.items c.pop.result g g c.in-Some.is refl c.pop.ensures.items in
    let n = in_node-of es c.args.around.now.items c.pop.new.self.items g k s last kind h in
    let children : c.replace-children.result.items ≡ es = ap (λ v. v.items) c.replace-children.ensures.value in
    let before : c.replace-children.new.dest.items ≡ g.before.items = ap (λ v. v.items) (c.replace-children.ensures.after ∙ sym (ap (λ y. y.before) c.in-Some.field-0-is)) in
    let node = c.in_ok-node-in-Some-kind.node in
    made-node es c.push.new.self.items c.pop.new.self.items g k node s n h.done (c.in_ok-node-in-Some-kind.ensures.node ∙ ap (tree_of k.0) children)
    (c.in_ok-push-in-Some-kind.ensures.items ∙ ap (λ l. l ++ Node node ∷ []) before)

pub returns-in_ok-push-in-Some-kind-clause-fits : goal.returns-in_ok-push-in-Some-kind-clause-fits
returns-in_ok-push-in-Some-kind-clause-fits c = λ s h f.
    let g = c.in-Some.field-0 in
    let es = c.args.done.now.items in
    let k = c.in-Some-kind.kind in
    let kind : g.kind ≡ Some k = ap (λ y. y.kind) c.in-Some.field-0-is ∙ c.in-Some-kind.is in
    let last = popped c.args.around.now.items c.pop.new.self.items c.pop.result g g c.in-Some.is refl c.pop.ensures.items in
    let n = in_node-of es c.args.around.now.items c.pop.new.self.items g k s last kind h in
    let children : c.replace-children.result.items ≡ es = ap (λ v. v.items) c.replace-children.ensures.value in
    fits-node es c.pop.new.self.items g k s n h.done (subst FitsNode children c.in_ok-node-in-Some-kind.ensures.fits) f

pub returns-in_ok-push_all-in-None-clause-made : goal.returns-in_ok-push_all-in-None-clause-made
returns-in_ok-push_all-in-None-clause-made c = λ s h.
    let g = c.in-Some.field-0 in
    let es = c.args.done.now.items in
    let kind : g.kind ≡ None = ap (λ y. y.kind) c.in-Some.field-0-is ∙ c.in-None.is in
    let last = popped c.args.around.now.items c.pop.new.self.items c.pop.result g g c.in-Some.is refl c.pop.ensures.items in
    let n = in_group-of es c.args.around.now.items c.pop.new.self.items g s last kind h in
    let before : c.replace-children.new.dest.items ≡ g.before.items = ap (λ v. v.items) (c.replace-children.ensures.after ∙ sym (ap (λ y. y.before) c.in-Some.field-0-is)) in
    let children : c.replace-children.result.items ≡ es = ap (λ v. v.items) c.replace-children.ensures.value in
    made-ended es c.push_all.new.to.items c.pop.new.self.items g s n h.done
    (c.in_ok-push_all-in-None.ensures ∙ ap (λ l. l ++ c.replace-children.result.items) before ∙ ap (λ l. g.before.items ++ l) children)

pub returns-in_ok-push_all-in-None-clause-fits : goal.returns-in_ok-push_all-in-None-clause-fits
returns-in_ok-push_all-in-None-clause-fits c = λ s h f.
    let g = c.in-Some.field-0 in
    let es = c.args.done.now.items in
    let kind : g.kind ≡ None = ap (λ y. y.kind) c.in-Some.field-0-is ∙ c.in-None.is in
    let last = popped c.args.around.now.items c.pop.new.self.items c.pop.result g g c.in-Some.is refl c.pop.ensures.items in
    let n = in_group-of es c.args.around.now.items c.pop.new.self.items g s last kind h in
    fits-ended c.pop.new.self.items g s n f

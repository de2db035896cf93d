use Rattle.std.proofs.Common.{arith, reverse, subst, sym, ap, ◌∙◌, is_none}
use Rattle.std.proofs.lemmas.Bool.{false≢true}
use Rattle.std.proofs.lemmas.Result.{err_from_is_err_and}
use Rattle.tree_rewrite.specs.Rewrite.{rewritten}
use Rattle.tree_rewrite.specs.Pieces.{Say}
use Rattle.tree_rewrite.proofs.GreenLemmas.{terms_alone, node_alone, rewrite_refused}
use Rattle.tree_rewrite.proofs.ChangedLemmas.{bytes-fit}
use Rattle.tree_rewrite.proofs.FitLemmas.{new-to}
use Rattle.tree_rewrite.proofs.plan.Plan.execute.Goals as goal

pub unreachable-requires : goal.unreachable-requires
unreachable-requires c =
    let m = rewritten c.args.self.top (reverse c.args.self.jobs) in
    let say = subst (λ l. Say l m) (sym c.deref.ensures.value) c.in_ok-pieces.ensures.says in
    let node = c.in_ok-pieces.ensures.node in
    let alone = terms_alone m c.in_ok-elements.elements.items node.0 (c.in_ok-elements.ensures.elements m say) node.1 in
    false≢true (ap is_none (sym (c.one_node.ensures.all node.0 alone) ∙ c.in_default.is))

pub changed_of-requires : goal.changed_of-requires
changed_of-requires c =
    let m = rewritten c.args.self.top (reverse c.args.self.jobs) in
    let say = subst (λ l. Say l m) (sym c.deref.ensures.value) c.in_ok-pieces.ensures.says in
    let node = node_alone m c.in_ok-elements.elements.items c.in-Some.green (c.in_ok-elements.ensures.elements m say) c.in-Some.ensures.is in
    let bytes = bytes-fit c.deref-2.result.now m c.in-Some.green (subst (λ l. Say l m) (sym c.deref-2.ensures.value) c.in_ok-pieces.ensures.says) node in
    omega (arith, bytes, c.text_len-fits.ensures, c.text_len-fits.type_inv)

pub returns-clause-green : goal.returns-clause-green
returns-clause-green c =
    let m = rewritten c.args.self.top (reverse c.args.self.jobs) in
    let say = subst (λ l. Say l m) (sym c.deref.ensures.value) c.in_ok-pieces.ensures.says in
    node_alone m c.in_ok-elements.elements.items c.in-Some.green (c.in_ok-elements.ensures.elements m say) c.in-Some.ensures.is

pub returns-clause-fits : goal.returns-clause-fits
returns-clause-fits c =
    let m = rewritten c.args.self.top (reverse c.args.self.jobs) in
    new-to m (c.in_ok-elements.ensures.fits m (subst (λ l. Say l m) (sym c.deref.ensures.value) c.in_ok-pieces.ensures.says))

pub returns-clause-changed : goal.returns-clause-changed
returns-clause-changed c =
    let m = rewritten c.args.self.top (reverse c.args.self.jobs) in
    c.in_ok-changed.ensures m (subst (λ l. Say l m) (sym c.deref-2.ensures.value) c.in_ok-pieces.ensures.says)

pub returns-clause-says : goal.returns-clause-says
returns-clause-says c = c.in_ok-pieces.ensures.says

pub returns-in_err-elements-clause-refused : goal.returns-in_err-elements-clause-refused
returns-in_err-elements-clause-refused c =
    let m = rewritten c.args.self.top (reverse c.args.self.jobs) in
    let say = subst (λ l. Say l m) (sym c.deref.ensures.value) c.in_ok-pieces.ensures.says in
    let p = err_from_is_err_and c.from_residual-in_err-elements.result c.from_residual-in_err-elements.ensures.1 in
    rewrite_refused c.from_residual-in_err-elements.result p.0 c.in_err-elements.field-0.0 m p.1 p.2 (c.in_err-elements.ensures.refused m say)

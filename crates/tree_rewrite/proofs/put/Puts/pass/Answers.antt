use Rattle.std.proofs.Common.{◌++◌, refl, ap, ◌∙◌}
use Rattle.std.proofs.lemmas.Result.{on_ok_weaker}
use Rattle.tree_rewrite.specs.Puts.{first_put}
use Rattle.tree_rewrite.proofs.PutMarkLemmas.{marks-more-whole}
use Rattle.tree_rewrite.proofs.put.Puts.pass.Goals as goal

pub returns : goal.returns
returns c = λ s h.
    let p = c.args.self.now in
    on_ok_weaker c.push_marks.result
    (λ more. marks-more-whole p _ c.args.element.now c.in_ok-_stands._stands c.args.brought.now s c.in_ok-_stands.ensures c.requires
    (more ∙ ap (λ b. p.marks.items ++ first_put b c.args.brought.now) c.is_put.ensures) refl refl h)
    c.push_marks.ensures

use Rattle.std.proofs.Common.{◌≡◌, ◌++◌, ◌∷◌, [], Some, None, cond, ap, ◌∙◌}
use Rattle.syntax_tree.specs.Element.{same_way}
use Rattle.syntax_tree.specs.Mapping.{or_else}
use Rattle.tree_rewrite.specs.WayTrie.{number_at}
use Rattle.tree_rewrite.proofs.MappedLemmas.{same_key, put_first}
use Rattle.tree_rewrite.proofs.mapped.put_input.Goals as goal

pub returns-clause-numbers : goal.returns-clause-numbers
returns-clause-numbers c = λ n t w.
    let input = c.args.input.now in
    let old = c.args.inputs.now in
    let v = w ++ n ∷ [] in
    let key : c.deref.result.now ≡ input.place.up ++ input.number ∷ [] =
    c.deref.ensures.value ∙ c.in_ok-push.ensures.items ∙ (λ i. c.in_ok-key.ensures i ++ c.tree.ensures i ∷ []) in
    put_first c.args.number old c.put_free.new.self c.deref.result.now v c.in_ok-put_free.field-0 c.in_ok-put_free.ensures.put c.in_ok-put_free.ensures.kept
    ∙ ap (λ b. or_else (number_at old v) (cond b (Some c.args.number) None)) (ap (λ k. same_way k v) key ∙ same_key input.place.up w input.number n)

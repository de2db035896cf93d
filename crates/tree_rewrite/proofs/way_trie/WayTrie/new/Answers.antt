use Rattle.std.proofs.Common.{◌≡◌, ℕ, ◌&&◌, List, [], ◌∷◌, ◌++◌, Option, nat_eq, length, None, ap, sym, subst, ◌∙◌}
use Rattle.std.specs.Map.{lookup}
use Rattle.tree_rewrite.specs.WayTrie.{child_in, node_by, number_of, IsTrie}
use Rattle.tree_rewrite.proofs.TrieLemmas.{trie_new, number_none}
use Rattle.tree_rewrite.proofs.way_trie.WayTrie.new.Goals as goal

pub returns-clause-sound : goal.returns-clause-sound
returns-clause-sound c =
    let f : ℕ → ℕ → Option ℕ = child_in c.new.result in
    let none : (p i : ℕ) → f p i ≡ None = λ p i. ap (lookup (λ k. nat_eq p k.0 && nat_eq i k.1)) c.new.ensures.empty in
    let one = c.in_ok-push.ensures.items ∙ ap (λ (l : List (Option ℕ)). l ++ None ∷ []) c.new-numbers.ensures.items in
    subst (IsTrie f) (sym (ap length one)) (trie_new f none)

pub returns-clause-empty : goal.returns-clause-empty
returns-clause-empty c = λ w.
    let one = c.in_ok-push.ensures.items ∙ ap (λ (l : List (Option ℕ)). l ++ None ∷ []) c.new-numbers.ensures.items in
    let node = node_by (child_in c.new.result) w in
    ap (λ (l : List (Option ℕ)). number_of l node) one ∙ number_none node

-- Comparing begins with the kinds and with all children.
use Rattle.std.proofs.Common.{◌≡◌, ℕ, ◌≤◌, Bool, true, false, not, nat_eq, List, refl, sym, ◌∙◌, ap, arith}
use Rattle.rowan_green.specs.Forest.{Forest, Tree, same_tree, same_forest, forest_count}
use Rattle.rowan_green.specs.Term.{Term, forest_of, children_of, forest_of-terms}
use Rattle.rust_document.specs.Rewrite.{bare}
use Rattle.rust_document.specs.Step.{bare_tree}

not-not : (b d : Bool) → d ≡ false → d ≡ not b → b ≡ true
not-not true d f e = refl
not-not false d f e = absurd (let z : false ≡ true = sym f ∙ e in cc)

pub all-children :
    (a b : Tree) (j k : ℕ) (left right : List Term) (d : Bool) → j ≡ a.kind → k ≡ b.kind → d ≡ false → d ≡ not (nat_eq j k) → left ≡ children_of a → right ≡ children_of b → same_tree (bare_tree a) (bare_tree b) ≡ same_forest (bare (forest_of left)) (bare (forest_of right))
all-children a b j k left right d e f g h l r =
    let kinds : nat_eq a.kind b.kind ≡ true = ap (λ (i : ℕ). nat_eq i b.kind) (sym e) ∙ ap (λ (i : ℕ). nat_eq j i) (sym f) ∙ not-not (nat_eq j k) d g h in
    let lefts : forest_of left ≡ a.forest = ap forest_of l ∙ forest_of-terms a.forest in
    let rights : forest_of right ≡ b.forest = ap forest_of r ∙ forest_of-terms b.forest in
    rw kinds (sym (ap (λ (x : Forest). same_forest (bare x) (bare (forest_of right))) lefts ∙ ap (λ (x : Forest). same_forest (bare a.forest) (bare x)) rights))

pub no-more : (a : Tree) (left : List Term) → left ≡ children_of a → forest_count (forest_of left) ≤ forest_count a.forest
no-more a left l = omega (arith, ap forest_count (ap forest_of l ∙ forest_of-terms a.forest))

use Rattle.std.proofs.Common.{◌≡◌, ◌∙◌, ap, sym, true, take, drop}
use Rattle.rowan_green.specs.Forest.{tree_text}
use Rattle.rowan_green.specs.Same.{same_tree-Decides}
use Rattle.rowan.proofs.text_compare.stands_alike.Goals as goal

pub returns-then-a-b : goal.returns-then-a-b
returns-then-a-b c = λ (p : c.eq.result ≡ true).
    let e : c.args.a.now.node ≡ c.args.b.now.node = (same_tree-Decides c.args.a.now.node c.args.b.now.node).0 (sym c.eq.ensures ∙ p) in
    ap (λ t. take c.args.a.now.len (drop c.args.a.now.start (tree_text t))) e ∙ ap (λ n. take c.args.a.now.len (drop n (tree_text c.args.b.now.node))) c.if-a-b.true

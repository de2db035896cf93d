use Rattle.std.proofs.Common.{refl, arith, inl, inr, ◌∙◌, ap, ◌-◌, ◌≡◌, min, length}
use Rattle.rowan_green.specs.Forest.{tree_text}
use Rattle.rowan.specs.declared.text_compare.Stretch.{Stretch}
use Rattle.rowan.proofs.Stretches.{both_first, both_second, both_more, both_differ, inner_stretch, inner_falls, inner_both, inner_differ}
use Rattle.rowan.proofs.text_compare.+same.Goals as goal

pub same_front-returns-then-not-same_heads-clause-differ :
    goal.same_front-returns-then-not-same_heads-clause-differ
same_front-returns-then-not-same_heads-clause-differ t c = λ _.
    both_differ _ _ _ _ (both_second _ _ _ _ _ (both_first _ _ _ _ _ c.heads.invariant c.head.ensures.passes) c.head-in-heads.ensures.passes) (c.same_heads.ensures.differ c.if-not-same_heads.true)

pub same_front-heads-preserved : goal.same_front-heads-preserved
same_front-heads-preserved t c =
    both_more _ _ _ _ _ _ (both_second _ _ _ _ _ (both_first _ _ _ _ _ c.heads.invariant c.head.ensures.passes) c.head-in-heads.ensures.passes) c.if-not-same_heads.ensures.same.0

pub same_within-same_front-requires : goal.same_within-same_front-requires
same_within-same_front-requires t c =
    let inner : Stretch = record { node = c.args.node; index = 0; offset = c.args.a.now.offset; left = c.min-size.result } in
    let left : c.min-size.result ≡ min c.args.a.now.left (length (tree_text c.args.node) - c.args.a.now.offset) = c.min-size.ensures ∙ ap (λ n. min c.args.a.now.left (n - c.args.a.now.offset)) c.text_len.ensures in
    (omega (arith, inner_falls c.args.a.now inner c.args.node c.requires.head refl refl refl left), (inner_stretch c.args.a.now inner c.args.node c.requires.head refl refl refl left c.requires.sound.0, c.requires.sound.1))

pub same_within-returns-then-not-same_front-clause-differ :
    goal.same_within-returns-then-not-same_front-clause-differ
same_within-returns-then-not-same_front-clause-differ t c = λ _.
    let inner : Stretch = record { node = c.args.node; index = 0; offset = c.args.a.now.offset; left = c.min-size.result } in
    let left : c.min-size.result ≡ min c.args.a.now.left (length (tree_text c.args.node) - c.args.a.now.offset) = c.min-size.ensures ∙ ap (λ n. min c.args.a.now.left (n - c.args.a.now.offset)) c.text_len.ensures in
    inner_differ c.args.a.now inner c.args.node c.requires.head refl refl refl left _ (c.same_front.ensures.differ c.if-not-same_front.true)

pub same_within-returns-clause-same : goal.same_within-returns-clause-same
same_within-returns-clause-same t c =
    let inner : Stretch = record { node = c.args.node; index = 0; offset = c.args.a.now.offset; left = c.min-size.result } in
    let left : c.min-size.result ≡ min c.args.a.now.left (length (tree_text c.args.node) - c.args.a.now.offset) = c.min-size.ensures ∙ ap (λ n. min c.args.a.now.left (n - c.args.a.now.offset)) c.text_len.ensures in
    let p = c.if-not-same_front.ensures.same in
    let lp = c.pass.ensures.left in
    let lf = p.first.left in
    let ls = p.second.left in
    let some = c.requires.head.some in
    let inside = c.requires.head.inside in (
      inner_both c.args.a.now inner c.args.node c.requires.head refl refl refl left _ _ _ _ _ p refl c.pass.ensures,
      elim c.if-not-same_front.ensures.ends [
        | inl h ↦ omega arith
        | inr h ↦ omega (arith, c.requires.some)
      ],
    )

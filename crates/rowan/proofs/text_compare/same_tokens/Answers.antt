use Rattle.std.proofs.Common.{◌≡◌, ◌+◌, ◌-◌, ◌≤◌, length, take, drop, arith, ap, ◌∙◌}
use Rattle.rowan.proofs.Stretches.{fronts_same, fronts_differ}
use Rattle.rowan.proofs.text_compare.same_tokens.Goals as goal

pub returns-then-ne-clause-differ : goal.returns-then-ne-clause-differ
returns-then-ne-clause-differ c = λ _.
    let n = c.min-count.result in
    let here : c.text_len.result.0 ≡ length c.args.here.now.text = c.text_len.ensures in
    let there : c.text_len-2.result.0 ≡ length c.args.there.now.text = c.text_len-2.ensures in
    let ai = c.requires.here.inside in
    let bi = c.requires.there.inside in
    let na : n ≤ c.args.a.now.left = omega (arith, c.min-count.ensures, c.min-here_left.ensures, c.min-there_left.ensures) in
    let nb : n ≤ c.args.b.now.left = omega (arith, c.min-count.ensures, c.min-here_left.ensures, c.min-there_left.ensures) in
    let fa : c.args.a.now.offset + n ≤ length c.args.here.now.text = omega (arith, c.min-count.ensures, c.min-here_left.ensures, c.min-there_left.ensures) in
    let fb : c.args.b.now.offset + n ≤ length c.args.there.now.text = omega (arith, c.min-count.ensures, c.min-here_left.ensures, c.min-there_left.ensures) in
    let ma : c.args.a.now.offset + n - c.args.a.now.offset ≡ n = omega arith in
    let mb : c.args.b.now.offset + n - c.args.b.now.offset ≡ n = omega arith in
    let x : take (c.args.a.now.offset + n - c.args.a.now.offset) (drop c.args.a.now.offset c.as_bytes.result.now) ≡ take n (drop c.args.a.now.offset c.args.here.now.text) = ap (λ k. take k (drop c.args.a.now.offset c.as_bytes.result.now)) ma ∙ ap (λ v. take n (drop c.args.a.now.offset v)) (c.as_bytes.ensures.value ∙ c.text.ensures) in
    let y : take (c.args.b.now.offset + n - c.args.b.now.offset) (drop c.args.b.now.offset c.as_bytes-2.result.now) ≡ take n (drop c.args.b.now.offset c.args.there.now.text) = ap (λ k. take k (drop c.args.b.now.offset c.as_bytes-2.result.now)) mb ∙ ap (λ v. take n (drop c.args.b.now.offset v)) (c.as_bytes-2.ensures.value ∙ c.text-2.ensures) in
    fronts_differ c.args.a.now c.args.b.now c.args.here.now c.args.there.now c.requires.here c.requires.there c.requires.sound.0 c.requires.sound.1 n na nb fa fb _ _ c.ne.result x y c.ne.ensures c.if-ne.true

pub returns-clause-same : goal.returns-clause-same
returns-clause-same c =
    let n = c.min-count.result in
    let here : c.text_len.result.0 ≡ length c.args.here.now.text = c.text_len.ensures in
    let there : c.text_len-2.result.0 ≡ length c.args.there.now.text = c.text_len-2.ensures in
    let ai = c.requires.here.inside in
    let bi = c.requires.there.inside in
    let na : n ≤ c.args.a.now.left = omega (arith, c.min-count.ensures, c.min-here_left.ensures, c.min-there_left.ensures) in
    let nb : n ≤ c.args.b.now.left = omega (arith, c.min-count.ensures, c.min-here_left.ensures, c.min-there_left.ensures) in
    let fa : c.args.a.now.offset + n ≤ length c.args.here.now.text = omega (arith, c.min-count.ensures, c.min-here_left.ensures, c.min-there_left.ensures) in
    let fb : c.args.b.now.offset + n ≤ length c.args.there.now.text = omega (arith, c.min-count.ensures, c.min-here_left.ensures, c.min-there_left.ensures) in
    let ma : c.args.a.now.offset + n - c.args.a.now.offset ≡ n = omega arith in
    let mb : c.args.b.now.offset + n - c.args.b.now.offset ≡ n = omega arith in
    let x : take (c.args.a.now.offset + n - c.args.a.now.offset) (drop c.args.a.now.offset c.as_bytes.result.now) ≡ take n (drop c.args.a.now.offset c.args.here.now.text) = ap (λ k. take k (drop c.args.a.now.offset c.as_bytes.result.now)) ma ∙ ap (λ v. take n (drop c.args.a.now.offset v)) (c.as_bytes.ensures.value ∙ c.text.ensures) in
    let y : take (c.args.b.now.offset + n - c.args.b.now.offset) (drop c.args.b.now.offset c.as_bytes-2.result.now) ≡ take n (drop c.args.b.now.offset c.args.there.now.text) = ap (λ k. take k (drop c.args.b.now.offset c.as_bytes-2.result.now)) mb ∙ ap (λ v. take n (drop c.args.b.now.offset v)) (c.as_bytes-2.ensures.value ∙ c.text-2.ensures) in
    let some = c.requires.here.some in
    let others = c.requires.there.some in
    let left = c.pass.ensures.left in (
      fronts_same c.args.a.now c.args.b.now c.args.here.now c.args.there.now c.requires.here c.requires.there c.requires.sound.0 c.requires.sound.1 n na nb fa fb _ _ c.ne.result x y c.ne.ensures _ _ c.if-ne.false c.pass.ensures c.pass-2.ensures,
      omega (arith, c.min-count.ensures, c.min-here_left.ensures, c.min-there_left.ensures),
    )

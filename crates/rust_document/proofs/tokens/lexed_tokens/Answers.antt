-- Leaf by leaf.
use Rattle.std.proofs.Common.{◌<◌, length, arith, ap}
use Rattle.rowan_green.specs.declared.text_size.TextSize.{TextSize}
use Rattle.rust_document.proofs.Places.{passed_none, passed_more, passed_all, next_fits}
use Rattle.rust_document.proofs.tokens.lexed_tokens.Goals as goal

pub loop-i-init : goal.loop-i-init
loop-i-init c = passed_none c.args.lexed.now.leaves _ _ c.in_ok-tokens.ensures.items c.new-place.ensures c.requires

pub overflow_cast-text_len : goal.overflow_cast-text_len
overflow_cast-text_len c =
    let there : c.loop-i.i < length c.args.lexed.now.leaves = omega (arith, c.loop-i-test.true, c.len-i-end.ensures) in
    omega (arith, next_fits _ _ _ _ _ there c.loop-i.invariant c.text_len.ensures)

pub at-range-requires : goal.at-range-requires
at-range-requires c =
    let there : c.loop-i.i < length c.args.lexed.now.leaves = omega (arith, c.loop-i-test.true, c.len-i-end.ensures) in
    omega (arith, next_fits _ _ _ _ _ there c.loop-i.invariant c.text_len.ensures, c.new.ensures)

pub loop-i-preserved : goal.loop-i-preserved
loop-i-preserved c =
    let there : c.loop-i.i < length c.args.lexed.now.leaves = omega (arith, c.loop-i-test.true, c.len-i-end.ensures) in
    passed_more _ _ _ _ c.text_len.result _ _ _ there c.loop-i.invariant c.in_ok-push.ensures.items c.kind.ensures
    (ap (λ (s : TextSize). s.0) c.at-range.ensures.start)
    (omega (arith, c.at-range.ensures.end, c.new.ensures))
    c.text_len.ensures
    (ap (λ (s : TextSize). s.0) c.end-place.ensures)

pub returns : goal.returns
returns c = passed_all _ _ _ _ (omega (arith, c.loop-i-test.false, c.len-i-end.ensures)) c.loop-i.invariant

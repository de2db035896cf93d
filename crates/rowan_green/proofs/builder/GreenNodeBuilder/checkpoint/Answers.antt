use Rattle.std.proofs.Common.{◌≡◌, ap, arith, length, length-drop, ◌∙◌, drop, sym, reverse}
use Rattle.rowan_green.specs.Kept.{terms_done}
use Rattle.rowan_green.proofs.KeptLemmas.{length-done}
use Rattle.rowan_green.proofs.OpenNodeLemmas.{base_of, current_built, innermost_is}
use Rattle.rowan_green.proofs.builder.GreenNodeBuilder.checkpoint.Goals as goal

pub returns-in-Some-clause-count : goal.returns-in-Some-clause-count
returns-in-Some-clause-count c =
    let os = c.self.inside.open_nodes.items in
    let es = terms_done c.self.inside.arena c.self.inside.done.items in
    let n = length-done c.self.inside.arena c.self.inside.done.items c.self.invariant.filled in
    let m : c.len-complete.result ≡ length c.self.inside.done.items = grind arith in
    let r = innermost_is os c.deref.result.now c.in-Some.open c.deref.ensures.value c.in-Some.ensures in
    let e = ap length (current_built c.args.self.now os es c.self.inside.started c.self.view_is ∙ ap (λ qs. drop (base_of qs) es) r) in
    omega (arith, e, n, m, length-drop c.in-Some.open.first es)

pub returns-in-None-clause-count : goal.returns-in-None-clause-count
returns-in-None-clause-count c =
    let os = c.self.inside.open_nodes.items in
    let es = terms_done c.self.inside.arena c.self.inside.done.items in
    let n = length-done c.self.inside.arena c.self.inside.done.items c.self.invariant.filled in
    let m : c.len-complete.result ≡ length c.self.inside.done.items = grind arith in
    let r = sym c.deref.ensures.value ∙ c.in-None.ensures in
    let e = ap length (current_built c.args.self.now os es c.self.inside.started c.self.view_is ∙ ap (λ qs. drop (base_of (reverse qs)) es) r) in
    omega (arith, e, n, m)

-- From the last number on, each with the one before it, until there is none.
use Rattle.std.proofs.Common.{◌≡◌, ℕ, List, ◌++◌, suc, reverse, Option, Some, sym, ap, ◌∙◌, subst, arith}
use Rattle.std.specs.Option.{option_copied}
use Rattle.tree_rewrite.specs.Below.{OnSheet}
use Rattle.tree_rewrite.specs.Listed.{count_to, IsChain}
use Rattle.tree_rewrite.proofs.ListedLemmas.{ChainStep, chain_step, chain_stands, chain_end, all_left, one_taken}
use Rattle.tree_rewrite.proofs.on_payloads.OnPayloads.numbers.Goals as goal

pub loop-next-init : goal.loop-next-init
loop-next-init c = λ ns h.
    let P : Option ℕ → Type 0 = λ o. IsChain c.args.self.now.before.items o ns in
    (ns, subst P (sym c.number_at-next.ensures) h, all_left ns ∙ ap (λ (l : List ℕ). ns ++ reverse l) (sym c.new-numbers.ensures.items))

at_number : (c : goal.After-next-in-Some-noted-1) (rest : List ℕ) → IsChain c.args.self.now.before.items c.loop-next.next rest → ChainStep c.args.self.now.before.items c.in-Some.number c.in-Some-noted.before.now rest
at_number c rest h =
    let bs = c.args.self.now.before.items in
    let P : Option ℕ → Type 0 = λ o. IsChain bs o rest in
    chain_step bs c.in-Some.number c.in-Some-noted.before.now rest (sym c.noted.ensures ∙ ap option_copied c.in-Some-noted.is) (subst P c.in-Some.is h)

pub loop-next-smaller-in-Some-noted : goal.loop-next-smaller-in-Some-noted
loop-next-smaller-in-Some-noted c =
    let own = c.requires c.args.way.now in
    let left = c.loop-next.invariant own.0 own.1 in
    let step = at_number c left.0 left.1 in
    let here : count_to c.loop-next.next ≡ suc c.in-Some.number = ap count_to c.in-Some.is in
    omega (arith, step.low, here)

pub loop-next-preserved-in-Some-noted : goal.loop-next-preserved-in-Some-noted
loop-next-preserved-in-Some-noted c = λ ns h.
    let left = c.loop-next.invariant ns h in
    let step = at_number c left.0 left.1 in
    let acc = c.loop-next.numbers.items in
    let a = c.in-Some.number in (
      step.rest,
      step.chain,
      one_taken ns step.rest acc a (left.2 ∙ ap (λ (l : List ℕ). l ++ reverse acc) step.is) ∙ ap (λ (l : List ℕ). step.rest ++ reverse l) (sym c.in_ok-push.ensures.items),
    )

stands : (c : goal.In-None) (rest : List ℕ) → IsChain c.args.self.now.before.items c.loop-next.next rest → ⊥
stands c rest h =
    let bs = c.args.self.now.before.items in
    let P : Option ℕ → Type 0 = λ o. IsChain bs o rest in
    chain_stands bs c.in-Some.number rest (sym c.noted.ensures ∙ ap option_copied c.in-None.is) (subst P c.in-Some.is h)

pub loop-next-smaller : goal.loop-next-smaller
loop-next-smaller c =
    let own = c.requires c.args.way.now in
    let left = c.loop-next.invariant own.0 own.1 in
    absurd (stands c left.0 left.1)

pub loop-next-preserved : goal.loop-next-preserved
loop-next-preserved c = λ ns h. let left = c.loop-next.invariant ns h in absurd (stands c left.0 left.1)

pub returns : goal.returns
returns c = λ all ps js listed put.
    let own = listed.lists c.args.way.now in
    let left = c.loop-next.invariant own.0 own.1 in
    let P : Option ℕ → Type 0 = λ o. IsChain c.args.self.now.before.items o left.0 in
    let none = chain_end c.args.self.now.before.items left.0 (subst P c.in_default.is left.1) in
    let same : own.0 ≡ c.reverse.new.self.items = left.2 ∙ ap (λ (l : List ℕ). l ++ reverse c.loop-next.numbers.items) none ∙ sym c.reverse.ensures.items in
    let Q : List ℕ → Type 0 = λ ns. OnSheet all ps ns (Some c.args.way.now) js in
    subst Q same (own.2 js put)

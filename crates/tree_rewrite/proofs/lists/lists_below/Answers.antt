use Rattle.std.proofs.Common.{◌+◌, [], refl, sym, ◌∙◌, subst, take, get_or}
use Rattle.std.proofs.lemmas.List.{take_more, take_all}
use Rattle.tree_rewrite.specs.Fill.{HaveGiven}
use Rattle.tree_rewrite.specs.Below.{lists_of, AreLists}
use Rattle.tree_rewrite.proofs.SheetLemmas.{split_given, none_given}
use Rattle.tree_rewrite.proofs.BelowLemmas.{lists_none}
use Rattle.tree_rewrite.proofs.lists.lists_below.Goals as goal

pub loop-number-init : goal.loop-number-init
loop-number-init c = (
  c.in_ok-lists.ensures.count,
  λ gs n w h l.
      let none = none_given c.args.overlay.now.jobs.now c.args.overlay.now.made.now [] gs refl h in
      let vs = c.in_ok-lists.lists.items in
      subst (λ k. AreLists c.args.overlay.now.jobs.now c.args.overlay.now.made.now (lists_of vs) n w k) (sym none) (lists_none c.args.overlay.now.jobs.now c.args.overlay.now.made.now vs n w c.in_ok-lists.ensures.empty),
)

pub loop-number-preserved : goal.loop-number-preserved
loop-number-preserved c =
    let i = c.loop-number.number-index in
    let ns = c.args.numbers.now in (
      c.in_ok-push_number.ensures.count ∙ c.loop-number.invariant.0,
      λ gs n w h l.
          let s = split_given c.args.overlay.now.jobs.now c.args.overlay.now.made.now (take (i + 1) ns) (take i ns) (get_or ns i 0) gs (take_more ns i 0 c.loop-number-test.true) h in
          subst (λ k. AreLists c.args.overlay.now.jobs.now c.args.overlay.now.made.now (lists_of c.push_number.new.lists.items) n w k) (sym s.is)
          (c.in_ok-push_number.ensures.lists s.rest s.given n w s.numbered l (c.loop-number.invariant.1 s.rest n w s.have l)),
    )

pub returns-clause-lists : goal.returns-clause-lists
returns-clause-lists c = λ gs n w h l.
    let ns = c.args.numbers.now in
    let all = take_all c.loop-number.number-index ns c.loop-number-test.false in
    c.loop-number.invariant.1 gs n w (subst (λ k. HaveGiven c.args.overlay.now.jobs.now c.args.overlay.now.made.now k gs) (sym all) h) l

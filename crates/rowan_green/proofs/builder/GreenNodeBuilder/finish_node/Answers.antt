use Rattle.std.proofs.Common.{◌≡◌, ◌-◌, ◌≤◌, ap, arith, ◌∙◌, drop, take, sym, reverse, subst, vec_len, length, length-take, length-append, ◌∷◌, ◌++◌, [], rules}
use Rattle.rowan_green.specs.declared.error.GreenError.TheVariants.{TooLong}
use Rattle.rowan_green.specs.Term.{FitsNode}
use Rattle.rowan_green.specs.Building.{current_children}
use Rattle.rowan_green.specs.Kept.{terms_done}
use Rattle.rowan_green.specs.OpenNodes.{IsNested}
use Rattle.rowan_green.proofs.Refusals.{not_fitting}
use Rattle.rowan_green.proofs.BuilderLemmas.{closed_rooted}
use Rattle.rowan_green.proofs.OpenNodeLemmas.{base_of, current_built, innermost_is, IsNested-closed, close_built}
use Rattle.rowan_green.proofs.builder.GreenNodeBuilder.finish_node.Goals as goal

pub returns-in_err-close-clause-too_long : goal.returns-in_err-close-clause-too_long
returns-in_err-close-clause-too_long c e f =
    let os = c.self.inside.open_nodes.items in
    let es = terms_done c.self.inside.arena c.self.inside.done.items in
    let r = innermost_is os c.deref.result.now c.in-Some.open c.deref.ensures.value c.in-Some.ensures in
    let g = subst FitsNode (current_built c.args.self.now os es c.self.inside.started c.self.view_is ∙ ap (λ qs. drop (base_of qs) es) r) f in
    let q : c.in_err-close.field-0.0 ≡ TooLong = search rules in
    not_fitting c.in_err-close.field-0.0 _ c.in_err-close.ensures.refused q g

pub invariant_of-self-2 : goal.invariant_of-self-2
invariant_of-self-2 c =
    let os = c.self.inside.open_nodes.items in
    let es = terms_done c.self.inside.arena c.self.inside.done.items in
    let new = terms_done c.close.new.arena c.close.new.done.items in
    let o = c.in-Some.open in
    let rest = take (length os - 1) os in
    let r = innermost_is os c.deref.result.now o c.deref.ensures.value c.in-Some.ensures in
    let n : vec_len c.self.inside.open_nodes ≡ length os = grind arith in
    let p : c.pop.new.self.items ≡ rest = c.pop.ensures.rest ∙ ap (λ k. take (k - 1) os) n in
    let s : IsNested (o ∷ reverse rest) (length es) = rw r at c.self.invariant.nested in
    let t : c.deref.result.now ≡ take (length c.deref.result.now - 1) c.deref.result.now ++ o ∷ [] = c.in-Some.ensures in
    let some : 1 ≤ length c.deref.result.now = omega (arith, ap length t, length-append (take (length c.deref.result.now - 1) c.deref.result.now) (o ∷ [])) in
    record {
      filled = c.close.ensures.filled;
      nested = rw p (IsNested-closed o (reverse rest) es new _ s c.in_ok-close.ensures.ok);
      root = λ e.
          let alone : length c.deref-2.result.now ≡ 1 = omega (arith, some, ap length c.deref.ensures.value, ap length c.deref-2.ensures.value, ap length (sym p ∙ e), length-take (length os - 1) os) in
          closed_rooted c.close.new.arena c.close.new.done.items es _ o.first c.is_root-root.result (c.is_root-root.ensures.alone alone) c.in_ok-close.ensures.rooted s.0 c.in_ok-close.ensures.ok;
    }

pub returns-clause-ok : goal.returns-clause-ok
returns-clause-ok c =
    let os = c.self.inside.open_nodes.items in
    let es = terms_done c.self.inside.arena c.self.inside.done.items in
    let new = terms_done c.close.new.arena c.close.new.done.items in
    let r = innermost_is os c.deref.result.now c.in-Some.open c.deref.ensures.value c.in-Some.ensures in
    let n : vec_len c.self.inside.open_nodes ≡ length os = grind arith in
    let p : c.pop.new.self.items ≡ take (length os - 1) os = c.pop.ensures.rest ∙ ap (λ k. take (k - 1) os) n in
    close_built c.args.self.now os c.pop.new.self.items c.in-Some.open es new c.self.inside.started c.self.view_is (r ∙ ap (λ xs. c.in-Some.open ∷ reverse xs) (sym p)) c.self.invariant.nested c.in_ok-close.ensures.ok

pub returns-clause-fits : goal.returns-clause-fits
returns-clause-fits c =
    let os = c.self.inside.open_nodes.items in
    let es = terms_done c.self.inside.arena c.self.inside.done.items in
    let r = innermost_is os c.deref.result.now c.in-Some.open c.deref.ensures.value c.in-Some.ensures in
    let e : current_children c.args.self.now ≡ drop c.in-Some.open.first es =
    current_built c.args.self.now os es c.self.inside.started c.self.view_is ∙ ap (λ qs. drop (base_of qs) es) r in
    rw e c.in_ok-close.ensures.fits

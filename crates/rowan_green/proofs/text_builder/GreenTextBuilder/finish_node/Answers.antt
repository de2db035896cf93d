use Rattle.std.proofs.Common.{◌≡◌, ◌-◌, ◌≤◌, ap, arith, ◌∙◌, drop, take, sym, reverse, vec_len, length, length-take, length-drop, length-append, ◌∷◌, ◌++◌, []}
use Rattle.rowan_green.specs.Building.{current_children}
use Rattle.rowan_green.specs.Arena.{terms_at, items_in, terms_over}
use Rattle.rowan_green.specs.OpenNodes.{IsNested}
use Rattle.rowan_green.proofs.BuilderLemmas.{closed_rooted_by}
use Rattle.rowan_green.proofs.KeptLemmas.{length_over, rest_fits_in}
use Rattle.rowan_green.proofs.OpenNodeLemmas.{base_of, current_built, innermost_is, IsNested-closed}
use Rattle.rowan_green.proofs.TextBuilderLemmas.{end_built}
use Rattle.rowan_green.proofs.text_builder.GreenTextBuilder.finish_node.Goals as goal

pub returns-then-len-open-gt-MOST-clause-too_long : goal.returns-then-len-open-gt-MOST-clause-too_long
returns-then-len-open-gt-MOST-clause-too_long c e f =
    let os = c.self.inside.open_nodes.items in
    let ds = c.self.inside.done.items in
    let es = terms_over c.self.inside.arena ds in
    let r = innermost_is os c.deref.result.now c.in-Some.open c.deref.ensures.value c.in-Some.ensures in
    let own = current_built c.args.self.now.building os es c.self.inside.started (ap (λ b. b.building) c.self.view_is) ∙ ap (λ qs. drop (base_of qs) es) r in
    let m : c.len.result ≡ length ds = grind arith in
    omega (arith, c.if-len-open-gt-MOST.true, f.count, ap length own, length-drop c.in-Some.open.first es, length_over c.self.inside.arena ds, m)

pub invariant_of-self-2 : goal.invariant_of-self-2
invariant_of-self-2 c =
    let os = c.self.inside.open_nodes.items in
    let es = terms_over c.self.inside.arena c.self.inside.done.items in
    let a = c.close_in.new.arena in
    let new = terms_over a c.close_in.new.done.items in
    let o = c.in-Some.open in
    let rest = take (length os - 1) os in
    let r = innermost_is os c.deref.result.now o c.deref.ensures.value c.in-Some.ensures in
    let n : vec_len c.self.inside.open_nodes ≡ length os = grind arith in
    let p : c.pop.new.self.items ≡ rest = c.pop.ensures.rest ∙ ap (λ k. take (k - 1) os) n in
    let s : IsNested (o ∷ reverse rest) (length es) = rw r at c.self.invariant.nested in
    let t : c.deref.result.now ≡ take (length c.deref.result.now - 1) c.deref.result.now ++ o ∷ [] = c.in-Some.ensures in
    let some : 1 ≤ length c.deref.result.now = omega (arith, ap length t, length-append (take (length c.deref.result.now - 1) c.deref.result.now) (o ∷ [])) in
    record {
      growing = c.close_in.ensures.growing;
      nested = rw p (IsNested-closed o (reverse rest) es new _ s c.in_ok-close_in.ensures.ok);
      root = λ e.
          let alone : length c.deref-2.result.now ≡ 1 = omega (arith, some, ap length c.deref.ensures.value, ap length c.deref-2.ensures.value, ap length (sym p ∙ e), length-take (length os - 1) os) in
          closed_rooted_by new (terms_at (items_in a)) es _ o.first c.is_root-root.result (c.is_root-root.ensures.alone alone) c.in_ok-close_in.ensures.rooted s.0 c.in_ok-close_in.ensures.ok;
    }

pub returns-clause-ok : goal.returns-clause-ok
returns-clause-ok c =
    let os = c.self.inside.open_nodes.items in
    let r = innermost_is os c.deref.result.now c.in-Some.open c.deref.ensures.value c.in-Some.ensures in
    let n : vec_len c.self.inside.open_nodes ≡ length os = grind arith in
    let p : c.pop.new.self.items ≡ take (length os - 1) os = c.pop.ensures.rest ∙ ap (λ k. take (k - 1) os) n in
    end_built c.args.self.now os c.pop.new.self.items c.in-Some.open c.self.inside.arena c.close_in.new.arena c.self.inside.done.items c.close_in.new.done.items c.self.inside.started
    c.self.view_is (r ∙ ap (λ xs. c.in-Some.open ∷ reverse xs) (sym p)) c.self.invariant.nested c.in_ok-close_in.ensures.ok c.close_in.ensures.text c.close_in.ensures.used

pub returns-clause-fits : goal.returns-clause-fits
returns-clause-fits c =
    let os = c.self.inside.open_nodes.items in
    let ds = c.self.inside.done.items in
    let es = terms_over c.self.inside.arena ds in
    let r = innermost_is os c.deref.result.now c.in-Some.open c.deref.ensures.value c.in-Some.ensures in
    let own : current_children c.args.self.now.building ≡ drop c.in-Some.open.first es =
    current_built c.args.self.now.building os es c.self.inside.started (ap (λ b. b.building) c.self.view_is) ∙ ap (λ qs. drop (base_of qs) es) r in
    let m : c.len.result ≡ length ds = grind arith in
    rw own (rest_fits_in c.self.inside.arena ds c.in-Some.open.first c.self.invariant.growing (omega (arith, m, c.if-len-open-gt-MOST.false)))

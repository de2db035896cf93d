use Rattle.std.proofs.Common.{◌≡◌, ◌+◌, ◌-◌, Some, option_map, sym, ap, ◌∙◌, arith}
use Rattle.syntax_tree.specs.Handle.{element_of}
use Rattle.annotated_elements.specs.Following.{lead_at, lead_of, followed_within}
use Rattle.annotated_elements.specs.Nearest.{further_down, lead_by}
use Rattle.annotated_elements.proofs.FollowLemmas.{followed-on}
use Rattle.annotated_elements.proofs.following.end_of.Goals as goal

pub loop-at-preserved : goal.loop-at-preserved
loop-at-preserved c =
    let ms = c.args.mapping.now in
    let e = element_of c.loop-at.at in
    let root = e.place.root in
    let next = element_of c.in-Some-2.next in
    let way = c.deref.ensures.value ∙ c.in_ok-way.ensures in
    let led : Some (further_down c.in-Some.below.now c.in-Some.image.now) ≡ lead_of ms e =
    ap lead_by (sym c.in-Some.is) ∙ c.in_ok-image.ensures root ∙ (λ i. lead_at ms (c.tree.ensures i) root (way i)) in
    let stands = ap (option_map element_of) (sym c.in-Some-2.is) ∙ c.in_ok-next.ensures in
    let one_less : c.loop-at.left - 1 + 1 ≡ c.loop-at.left = omega (arith, c.if-left-eq0.false) in
    ap (λ k. followed_within k ms next) one_less
    ∙ sym (followed-on c.loop-at.left ms e _ (Some next) led stands)
    ∙ c.loop-at.invariant

-- The number of open nodes tells.
use Rattle.std.proofs.Common.{◌≡◌, Bool, true, false, ap, sym, subst, arith}
use Rattle.std.proofs.lemmas.Bool.{eqb-true, eq-eqb}
use Rattle.parser_events.specs.Stack.{IsInnermost}
use Rattle.parser_events.specs.View.{View}
use Rattle.parser_events.proofs.Calls.{innermost-tells}
use Rattle.parser_events.proofs.parser.Parser.is_innermost.Goals as goal

none : (b : Bool) → b ≡ true → b ≡ false → ⊥
none b h k = cc

pub returns : goal.returns
returns c =
    let nodes = ap (λ (v : View). v.nodes) c.self.view_is in
    let tells =
    innermost-tells c.level-level.result c.args.marker.now c.self.inside.recorder
    (λ e. none c.is_refused.result (c.is_refused.ensures.1 e) c.if-is_refused.false) c.self.invariant.1 c.level-level.ensures in (
      λ yes. subst (IsInnermost c.args.marker.now) nodes
          (tells.1 (let e = eqb-true c.saturating_sub-above.result 1 yes in omega (arith, c.marker.view_is, c.saturating_sub-above.ensures))),
      λ inner. eq-eqb c.saturating_sub-above.result 1
          (let e = tells.0 (subst (IsInnermost c.args.marker.now) (sym nodes) inner) in omega (arith, c.marker.view_is, c.saturating_sub-above.ensures)),
    )

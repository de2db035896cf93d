use Rattle.std.proofs.Common.{arith, map, reverse, refl, sym, ap, subst}
use Rattle.tree_rewrite.specs.Pieces.{outside, start}
use Rattle.tree_rewrite.specs.Changed.{bounds}
use Rattle.tree_rewrite.specs.Tracking.{IsEntered}
use Rattle.tree_rewrite.proofs.changed.changed_of.Goals as goal

pub loop-piece-init : goal.loop-piece-init
loop-piece-init c = (
  start,
  record { ranges = ap (map bounds) c.new.ensures.items; offset = refl; told = refl; around = subst (λ l. IsEntered (reverse l) outside) (sym c.new-2.ensures.items) tt },
  refl,
  omega arith,
)

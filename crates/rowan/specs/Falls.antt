-- A parent is less deep than its child.
use Rattle.std.specs.Prelude.{◌≤◌, max, length}
use Rattle.std.proofs.Common.{arith}
use Rattle.rowan_green.specs.Forest.{Tree}
use Rattle.rowan.specs.Sound.{place_from}
use Rattle.rowan.specs.declared.cursor.Spot.{Spot}
use Rattle.rowan.specs.declared.cursor.Spot.TheVariants.{Root, Child}
use Rattle.rowan.specs.declared.cursor.SyntaxNode.TheDeep.{deep-Spot}

pub falls : (g : Tree) (s : Spot) → max (max (deep-Spot s) 0) 0 ≤ length (place_from g s).up
falls g Root = omega arith
falls g (Child p i) = omega arith

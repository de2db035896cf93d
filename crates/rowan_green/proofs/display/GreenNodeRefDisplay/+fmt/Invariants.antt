use Rattle.std.proofs.Common.{take}
use Rattle.std.specs.Fmt.{HasWritten, IsPlainFormatter}
use Rattle.rowan_green.specs.Forest.{tree_count}
use Rattle.rowan_green.specs.Term.{texts_of}
use Rattle.rowan_green.proofs.display.GreenNodeRefDisplay.+fmt.Given as goal

abbrev pub decreases-fmt : goal.decreases-fmt
decreases-fmt g l = tree_count l.self.now

abbrev pub invariant-loop-index : goal.invariant-loop-index
invariant-loop-index g l =
    IsPlainFormatter l.initial.f → HasWritten g.W.Write.write_str_gives l.initial.f (texts_of (take l.index l.children.0)) l.f

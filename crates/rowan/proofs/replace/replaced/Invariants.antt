use Rattle.std.proofs.Common.{◌≡◌, length}
use Rattle.rowan.specs.Replace.{put, Fits}
use Rattle.rowan.proofs.replace.replaced.Given as goal

abbrev pub invariant-loop-parent : goal.invariant-loop-parent
invariant-loop-parent l = record {
  same : put l.fn.place.root l.fn.place.up l.fn.replacement ≡ put l.place.root l.place.up l.replaced;
  fits : Fits l.place.root l.place.up l.replaced → Fits l.fn.place.root l.fn.place.up l.fn.replacement;
  fitted : Fits l.fn.place.root l.fn.place.up l.fn.replacement → Fits l.place.root l.place.up l.replaced;
}

abbrev pub decreases-loop-parent : goal.decreases-loop-parent
decreases-loop-parent l = length l.place.up

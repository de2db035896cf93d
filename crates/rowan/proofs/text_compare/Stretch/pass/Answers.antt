use Rattle.std.proofs.Common.{refl, arith}
use Rattle.rowan.proofs.Stretches.{passes_bytes}
use Rattle.rowan.proofs.text_compare.Stretch.pass.Goals as goal

pub returns : goal.returns
returns c = passes_bytes c.args.count _ _ c.requires.sound refl refl refl (omega (arith, c.requires.enough))

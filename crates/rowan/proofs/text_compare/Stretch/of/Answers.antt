use Rattle.std.proofs.Common.{refl}
use Rattle.rowan.specs.declared.text_compare.Stretch.{Stretch}
use Rattle.rowan.proofs.Stretches.{whole_stretch, whole_bytes}
use Rattle.rowan.proofs.text_compare.Stretch.of.Goals as goal

pub returns-clause-sound : goal.returns-clause-sound
returns-clause-sound c = whole_stretch _ refl c.requires.part.ends.0 c.requires.fits

pub returns-clause-bytes : goal.returns-clause-bytes
returns-clause-bytes c =
    let s : Stretch = record { node = c.args.part.node; index = 0; offset = c.args.part.start; left = c.args.part.len } in whole_bytes s refl

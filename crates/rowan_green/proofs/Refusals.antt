-- Refusals that cannot come.
use Rattle.std.proofs.Common.{Result, Ok, Err, IfErr, IsOkUnless, refl, ◌≡◌}
use Rattle.rowan_green.specs.Refusal.{RefusesUnless}
use Rattle.rowan_green.specs.declared.error.GreenError.{GreenError}
use Rattle.rowan_green.specs.declared.error.GreenError.TheVariants.{TooLong, Unbalanced, NoMemory}

-- a value that fits is refused as out of memory alone
pub memory_alone : {T : Type 0} (r : Result T GreenError) (Fits : Type 0) → Fits → IfErr r (RefusesUnless Fits) → IsOkUnless r NoMemory
memory_alone (Ok x) Fits f h = tt
memory_alone (Err TooLong) Fits f h = absurd (h f)
memory_alone (Err Unbalanced) Fits f h = absurd h
memory_alone (Err NoMemory) Fits f h = refl

-- and what was refused as too long does not fit
pub not_fitting : (e : GreenError) (Fits : Type 0) → RefusesUnless Fits e → e ≡ TooLong → Fits → ⊥
not_fitting TooLong Fits h p f = h f
not_fitting Unbalanced Fits h p f = h
not_fitting NoMemory Fits h p f = cc

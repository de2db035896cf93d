use Rattle.text_changes.proofs.PlaceLemmas.{place-cuts}
use Rattle.text_changes.proofs.laws.places_are_boundaries.Goals as goal

pub returns : goal.returns
returns c = λ e text p n u h. place-cuts e text p n u h

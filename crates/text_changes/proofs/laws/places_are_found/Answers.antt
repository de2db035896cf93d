use Rattle.text_changes.proofs.PlaceLemmas.{place-found}
use Rattle.text_changes.proofs.laws.places_are_found.Goals as goal

pub returns : goal.returns
returns c = λ e text n u h. place-found e text n h

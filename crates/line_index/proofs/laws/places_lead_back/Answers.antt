use Rattle.line_index.proofs.PlaceLemmas.{place-back}
use Rattle.line_index.proofs.laws.places_lead_back.Goals as goal

pub returns : goal.returns
returns c = λ e text n u h. place-back e text n h

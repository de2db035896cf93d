use Rattle.rust_document.proofs.Alike.{commits_alike}
use Rattle.rust_document.proofs.laws.swaps_are_one.Goals as goal

pub returns : goal.returns
returns c = λ d e before after one other far. commits_alike d e _ _ (c.swaps_agree.ensures e.top before after one other e.mapping far)

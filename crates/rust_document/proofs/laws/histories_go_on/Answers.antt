use Rattle.rust_document.proofs.Histories.{go-on}
use Rattle.rust_document.proofs.laws.histories_go_on.Goals as goal

pub returns : goal.returns
returns c = go-on

use Rattle.rust_document.proofs.Histories.{end-in-readings}
use Rattle.rust_document.proofs.laws.histories_end_in_readings.Goals as goal

pub returns : goal.returns
returns c = end-in-readings

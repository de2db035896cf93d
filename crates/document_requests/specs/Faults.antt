-- Faults: of which stop, and what is printed of each.
use Rattle.std.specs.Prelude.{ℕ, List, codes}
use Rattle.line_reader.specs.declared.serve.Stop.{Stop}
use Rattle.line_reader.specs.declared.serve.Stop.TheVariants as stops
use Rattle.document_requests.specs.declared.fault.Fault.{Fault}
use Rattle.document_requests.specs.declared.fault.Fault.TheVariants as faults

abbrev pub fault_of_stop : Stop → Fault
fault_of_stop stops.Reading = faults.Reading
fault_of_stop stops.Writing = faults.Writing
fault_of_stop stops.Memory = faults.Memory

abbrev pub fault_message : Fault → List ℕ
fault_message faults.Reading = codes "fault: reading"
fault_message faults.Writing = codes "fault: writing"
fault_message faults.Memory = codes "fault: memory"

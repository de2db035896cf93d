-- What reading and writing do to watched devices.
use Rattle.std.specs.Prelude.{◌≡◌, ◌≤◌, ◌⊎◌, ℕ, ◌+◌, ◌^◌, List, ◌++◌, Option, Some, None}
use Rattle.std.specs.Io.KnownBytes.{Appends}
use Rattle.document_requests.specs.declared.fault.Fault.{Fault}
use Rattle.document_requests.specs.declared.fault.Fault.TheVariants.{Reading, Writing, Memory}
use Rattle.document_requests.specs.declared.watched.Watched.{Watched}
use Rattle.document_requests.specs.Watched.{calls_of, failures_of, failure_of, end_of, counted}

-- the most reads of one run
abbrev pub max_reads : ℕ
max_reads = 2 ^ 26

-- none of the calls failed
abbrev pub NoneFailed : {D : Type 0} → Watched D → Watched D → Type 0
NoneFailed old new = (failures_of new ≡ failures_of old) × (failure_of new ≡ failure_of old)

-- One of the calls failed: the last one.
abbrev pub OneFailed : {D : Type 0} → Watched D → Watched D → Type 0
OneFailed old new = (failures_of new ≡ failures_of old + 1) × (failure_of old ≡ None → failure_of new ≡ Some (calls_of new))

-- no more calls than reads of one run
abbrev pub BoundsReads : {D : Type 0} → Watched D → Watched D → Type 0
BoundsReads old new = calls_of new ≤ calls_of old + max_reads

-- The end was met by the last call and by none before it: nothing was read after it.
abbrev pub EndsReading : {D : Type 0} → Watched D → Watched D → Type 0
EndsReading old new = end_of old ≡ None → end_of new ≡ Some (calls_of new)

-- the end was not met
abbrev pub MeetsNoEnd : {D : Type 0} → Watched D → Watched D → Type 0
MeetsNoEnd old new = end_of old ≡ None → end_of new ≡ None

-- Nothing was read after the end, if it was met.
abbrev pub ReadsNoFurther : {D : Type 0} → Watched D → Watched D → Type 0
ReadsNoFurther old new = MeetsNoEnd old new ⊎ EndsReading old new

-- Reading stops where a read failed, or where all reads were made and there may be more. Out of memory comes at any point.
abbrev pub StopsReading : {D : Type 0} → Watched D → Watched D → Fault → Type 0
StopsReading old new Reading = OneFailed old new ⊎ (NoneFailed old new × (calls_of new ≡ counted (calls_of old + max_reads)))
StopsReading old new Writing = ⊥
StopsReading old new Memory = NoneFailed old new

-- known bytes grow by the first of these bytes
abbrev pub AppendsFront : Option (List ℕ) → Option (List ℕ) → List ℕ → Type 0
AppendsFront old new bytes = (front rest : List ℕ) × (bytes ≡ front ++ rest) × Appends old new front

-- Writing stops where a write failed. Out of memory comes at any point.
abbrev pub StopsWriting : {D : Type 0} → Watched D → Watched D → Fault → Type 0
StopsWriting old new Reading = ⊥
StopsWriting old new Writing = OneFailed old new
StopsWriting old new Memory = NoneFailed old new

-- A run stops at the first call that fails, or where all reads were made and none met the end, or out of memory. Where reading
-- failed, nothing was written.
abbrev pub StopsRun : {R W : Type 0} → Watched R → Watched R → Watched W → Watched W → Fault → Type 0
StopsRun read read' written written' Reading = StopsReading read read' Reading × MeetsNoEnd read read' × (written' ≡ written)
StopsRun read read' written written' Writing = NoneFailed read read' × OneFailed written written'
StopsRun read read' written written' Memory = NoneFailed read read' × NoneFailed written written'

-- What contracts see of a watched device: the device itself, how many calls were made, how many of them failed, which was the first
-- that failed, and which the first that met the end of what it reads.
use Rattle.std.specs.Prelude.{ℕ, ◌-◌, ◌^◌, ◌==◌, zero, suc, min, Bool, true, false, Option, Some, None, Result, Ok, Err}
use Rattle.document_requests.specs.declared.watched.Watched.{Watched}

abbrev pub device_of : {D : Type 0} → Watched D → D
device_of w = w.device

abbrev pub calls_of : {D : Type 0} → Watched D → ℕ
calls_of w = w.calls

abbrev pub failures_of : {D : Type 0} → Watched D → ℕ
failures_of w = w.failures

-- the number of the first call that failed, counted from 1 on
abbrev pub failure_of : {D : Type 0} → Watched D → Option ℕ
failure_of w = w.failure

-- the number of the first call that met the end, counted from 1 on
abbrev pub end_of : {D : Type 0} → Watched D → Option ℕ
end_of w = w.end

-- the count that stays at its greatest value
abbrev pub counted : ℕ → ℕ
counted n = min n (2 ^ 64 - 1)

-- A read that gives nothing has met the end, unless it asked for nothing.
abbrev pub is_end : {E : Type 0} → Result ℕ E → ℕ → Bool
is_end (Ok count) zero = false
is_end (Ok count) (suc asked) = count == 0
is_end (Err error) asked = false

-- A write fails by an error or by taking nothing.
abbrev pub is_failed_write : {E : Type 0} → Result ℕ E → Bool
is_failed_write (Ok count) = count == 0
is_failed_write (Err error) = true

-- the first call of which something is true, once this call was made
abbrev pub first_call : Option ℕ → Bool → ℕ → Option ℕ
first_call (Some first) holds call = Some first
first_call None true call = Some call
first_call None false call = None

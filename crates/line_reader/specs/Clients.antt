-- What reading from a client and writing to it do.
use Rattle.std.specs.Prelude.{◌≡◌, ◌⊎◌, ◌==◌, ℕ, ◌+◌, ◌-◌, ◌^◌, zero, suc, min, Bool, true, false, ◌||◌, List, [], ◌++◌, length, take, Option, Some, None, IfSome, option_map, Result, Ok, Err, is_err, if◌then◌else◌}
use Rattle.std.specs.Io.KnownBytes.{Appends, ReadConsumes, WriteAppends}
use Rattle.line_reader.specs.Lines.{answers, whole_lines}
use Rattle.line_reader.specs.declared.serve.Stop.{Stop}
use Rattle.line_reader.specs.declared.serve.Stop.TheVariants.{Reading, Writing, Memory}

-- what a client has sent and was written so far
pub record Exchange : Type 0 where
  pub sent : List ℕ
  pub written : List ℕ

-- what is seen of a client
pub record Seen : Type 0 where
  -- what was exchanged, where that is recorded
  pub exchange : Option Exchange
  -- the bytes that it will send, and the bytes that its device holds, where these are known
  pub left : Option (List ℕ)
  pub contents : Option (List ℕ)
  -- a read has met the end
  pub is_ended : Bool
  -- how many reads were made, how many of them failed, and how many writes
  pub reads : ℕ
  pub failed_reads : ℕ
  pub failed_writes : ℕ

-- It can be read from: each whole line that it has sent is answered, and nothing else was written; and its end was not met.
pub record IsReady (answer_to : List ℕ → List ℕ) (s : Seen) : Type 0 where
  pub answered : IfSome s.exchange (λ e. e.written ≡ answers answer_to (whole_lines e.sent))
  pub goes_on : s.is_ended ≡ false

-- Nothing was exchanged yet, and its end was not met.
pub record IsFresh (s : Seen) : Type 0 where
  pub none : IfSome s.exchange (λ e. (e.sent ≡ []) × (e.written ≡ []))
  pub goes_on : s.is_ended ≡ false

-- these bytes were sent, and those were written
abbrev pub exchanged : List ℕ → List ℕ → Option Exchange → Option Exchange
exchanged sent written known = option_map (λ (e : Exchange). record { sent = e.sent ++ sent; written = e.written ++ written }) known

-- the bytes that a call has handed on
abbrev pub handed : {E : Type 0} → Result ℕ E → List ℕ → List ℕ
handed (Ok count) bytes = take count bytes
handed (Err error) bytes = []

-- the count that stays at its greatest value
abbrev pub counted : ℕ → ℕ
counted n = min n (2 ^ 64 - 1)

-- A read that gives nothing has met the end, unless it asked for nothing.
abbrev pub is_end : {E : Type 0} → Result ℕ E → ℕ → Bool
is_end (Ok count) zero = false
is_end (Ok count) (suc asked) = count == 0
is_end (Err error) asked = false

-- A write fails by an error or by taking nothing.
abbrev pub is_failed_write : {E : Type 0} → Result ℕ E → Bool
is_failed_write (Ok count) = count == 0
is_failed_write (Err error) = true

-- what a read does
pub record Reads {E : Type 0} (old new : Seen) (result : Result ℕ E) (buffer : List ℕ) : Type 0 where
  pub exchange : new.exchange ≡ exchanged (handed result buffer) [] old.exchange
  pub left : ReadConsumes old.left new.left result buffer
  pub is_ended : new.is_ended ≡ (old.is_ended || is_end result (length buffer))
  pub reads : new.reads ≡ counted (old.reads + 1)
  pub failed : new.failed_reads ≡ (if is_err result then counted (old.failed_reads + 1) else old.failed_reads)
  pub contents : new.contents ≡ old.contents
  pub writes : new.failed_writes ≡ old.failed_writes

-- nothing was read
pub record SameReading (old new : Seen) : Type 0 where
  pub left : new.left ≡ old.left
  pub is_ended : new.is_ended ≡ old.is_ended
  pub reads : new.reads ≡ old.reads
  pub failed : new.failed_reads ≡ old.failed_reads

-- what a write does
pub record Writes {E : Type 0} (old new : Seen) (result : Result ℕ E) (bytes : List ℕ) : Type 0 where
  pub exchange : new.exchange ≡ exchanged [] (handed result bytes) old.exchange
  pub contents : WriteAppends old.contents new.contents result bytes
  pub failed : new.failed_writes ≡ (if is_failed_write result then counted (old.failed_writes + 1) else old.failed_writes)
  pub reading : SameReading old new

-- these bytes were written, and nothing else
pub record Wrote (old new : Seen) (bytes : List ℕ) : Type 0 where
  pub exchange : new.exchange ≡ exchanged [] bytes old.exchange
  pub contents : Appends old.contents new.contents bytes

-- the first of these bytes were written
pub record WroteFront (old new : Seen) (bytes : List ℕ) : Type 0 where
  pub front : List ℕ
  pub rest : List ℕ
  pub all : bytes ≡ front ++ rest
  pub wrote : Wrote old new front

-- no call failed
pub record NoneFailed (old new : Seen) : Type 0 where
  pub reads : new.failed_reads ≡ old.failed_reads
  pub writes : new.failed_writes ≡ old.failed_writes

-- one write failed, and no read
pub record OneWriteFailed (old new : Seen) : Type 0 where
  pub reads : new.failed_reads ≡ old.failed_reads
  pub writes : new.failed_writes ≡ counted (old.failed_writes + 1)

-- one read failed, and no write
pub record OneReadFailed (old new : Seen) : Type 0 where
  pub reads : new.failed_reads ≡ counted (old.failed_reads + 1)
  pub writes : new.failed_writes ≡ old.failed_writes

-- Writing stops where a write failed. Out of memory comes at any point.
abbrev pub StopsWriting : Seen → Seen → Stop → Type 0
StopsWriting old new Reading = ⊥
StopsWriting old new Writing = OneWriteFailed old new
StopsWriting old new Memory = NoneFailed old new

-- Serving stops where a call failed, or as many reads were made as can be counted. Out of memory comes at any point.
abbrev pub StopsServing : Seen → Seen → Stop → Type 0
StopsServing old new Reading = OneReadFailed old new ⊎ (NoneFailed old new × (new.reads ≡ 2 ^ 64 - 1))
StopsServing old new Writing = OneWriteFailed old new
StopsServing old new Memory = NoneFailed old new

-- known bytes grow by the first of these bytes
abbrev pub AppendsFront : Option (List ℕ) → Option (List ℕ) → List ℕ → Type 0
AppendsFront old new bytes = (front rest : List ℕ) × (bytes ≡ front ++ rest) × Appends old new front

-- Streams of messages: a header, and as many bytes as it tells, one message after another.
use Rattle.std.specs.Prelude.{◌≡◌, ◌≢◌, ◌+◌, ◌<◌, ◌≤◌, ◌⊎◌, ℕ, List, [], ◌∷◌, ◌++◌, Some, drop, length, slice_range}
use Rattle.message_frames.specs.Headers.{Begins, HasNoLength, IsOpenHeader}
use Rattle.message_frames.specs.declared.frame.Frame.{Frame}
use Rattle.message_frames.specs.declared.frame.Frame.TheVariants.{Unfinished, Broken, Message}

-- the most bytes of the body of a message
abbrev pub MAX_BODY : ℕ
MAX_BODY = 67108864

-- bytes begin with a message that has this body, and these are behind it
pub record IsMessage (bytes body behind : List ℕ) : Type 0 where
  pub len : ℕ
  pub begins : Begins bytes len (Some (length body))
  pub fits : length body ≤ MAX_BODY
  pub all : drop len bytes ≡ body ++ behind

-- a header, and fewer bytes than it tells
pub record IsOpenBody (bytes : List ℕ) : Type 0 where
  pub len : ℕ
  pub body : ℕ
  pub begins : Begins bytes len (Some body)
  pub fits : body ≤ MAX_BODY
  pub ends_early : length bytes < len + body

-- no message is at the front of bytes, and more of them can make one
abbrev pub IsUnfinished : List ℕ → Type 0
IsUnfinished bytes = IsOpenHeader bytes ⊎ IsOpenBody bytes

-- a header that tells more bytes than a message has
pub record IsLongBody (bytes : List ℕ) : Type 0 where
  pub len : ℕ
  pub body : ℕ
  pub begins : Begins bytes len (Some body)
  pub long : MAX_BODY < body

-- whatever follows, no message is at the front of bytes
abbrev pub IsBroken : List ℕ → Type 0
IsBroken bytes = HasNoLength bytes ⊎ IsLongBody bytes

-- a buffer begins with a message whose body is its bytes from `start` to `end`
pub record IsMessageAt (buffer : List ℕ) (start end : ℕ) : Type 0 where
  pub header : 0 < start
  pub body : start ≤ end
  pub whole : end ≤ length buffer
  pub message : IsMessage buffer (slice_range buffer start end) (drop end buffer)

-- what is read of a buffer
abbrev pub IsFrame : List ℕ → Frame → Type 0
IsFrame buffer Unfinished = IsUnfinished buffer
IsFrame buffer Broken = IsBroken buffer
IsFrame buffer (Message start end) = IsMessageAt buffer start end

-- bytes are messages with these bodies, and what is behind them
abbrev pub AreMessages : List ℕ → List (List ℕ) → List ℕ → Type 0
AreMessages bytes [] rest = bytes ≡ rest
AreMessages bytes (body ∷ bodies) rest = (behind : List ℕ) × IsMessage bytes body behind × AreMessages behind bodies rest

-- how a stream ends: behind a message, within one, or with bytes that are none
pub data End : Type 0 where
  Clean : End
  Cut : End
  Malformed : End

abbrev pub IsEnd : End → List ℕ → Type 0
IsEnd Clean rest = rest ≡ []
IsEnd Cut rest = (rest ≢ []) × IsUnfinished rest
IsEnd Malformed rest = IsBroken rest

-- a stream is messages with these bodies, and ends so
abbrev pub IsStream : List ℕ → List (List ℕ) → End → Type 0
IsStream bytes bodies end = (rest : List ℕ) × AreMessages bytes bodies rest × IsEnd end rest

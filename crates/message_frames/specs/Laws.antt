-- Laws of streams of messages.
use Rattle.std.specs.Prelude.{◌≡◌, ℕ, List, ◌++◌}
use Rattle.message_frames.specs.Frames.{AreMessages, End, IsBroken, IsEnd, IsMessage}

-- bytes begin with one message at most
abbrev pub MessagesAreOne : Type 0
MessagesAreOne =
    (bytes body behind other rest : List ℕ) → IsMessage bytes body behind → IsMessage bytes other rest
    → (body ≡ other) × (behind ≡ rest)

-- where a stream ends there is no message
abbrev pub EndsHaveNoMessage : Type 0
EndsHaveNoMessage = (end : End) (bytes body behind : List ℕ) → IsEnd end bytes → IsMessage bytes body behind → ⊥

-- a stream ends in one way
abbrev pub EndsAreOne : Type 0
EndsAreOne = (one other : End) (bytes : List ℕ) → IsEnd one bytes → IsEnd other bytes → one ≡ other

-- what follows changes no message
abbrev pub MessagesStay : Type 0
MessagesStay =
    (bytes : List ℕ) (bodies : List (List ℕ)) (rest more : List ℕ)
    → AreMessages bytes bodies rest → AreMessages (bytes ++ more) bodies (rest ++ more)

-- what follows mends no bytes that are no message
abbrev pub BrokenStays : Type 0
BrokenStays = (bytes more : List ℕ) → IsBroken bytes → IsBroken (bytes ++ more)

-- What a server answers to the bytes that a client sends.
use Rattle.std.specs.Prelude.{◌≡◌, ◌⊎◌, ℕ, List, [], ◌∷◌, ◌++◌, Option, Some, None}
use Rattle.message_frames.specs.Frames.{AreMessages, Clean, Cut, End, IsBroken, IsEnd, Malformed}
use Rattle.session_words.specs.Replies.{Reply, Refused}
use Rattle.session_words.specs.declared.reply.Refusal.TheVariants as refusals
use Rattle.language_session.specs.Sessions.{Session, begun}
use Rattle.language_session.specs.Steps.{Language, Step, exit_status, written}
use Rattle.language_session.specs.Runs.{run}

-- the error that there is no next message
abbrev pub refusal : List Reply
refusal = Refused None refusals.Header ∷ []

abbrev pub last_words : End → List Reply
last_words Clean = []
last_words Cut = []
last_words Malformed = refusal

-- the exit status where no message ends the server
abbrev pub last_status : End → Session → ℕ
last_status Clean s = exit_status s.phase
last_status Cut s = 1
last_status Malformed s = 1

-- What was written, and the exit status: a message has ended the server, or the stream is at its end, with these bytes.
abbrev pub Ends : Option ℕ → Step → List ℕ → List ℕ → ℕ → Type 0
Ends (Some told) k rest out status = (out ≡ written k.replies) × (status ≡ told)
Ends None k rest out status =
    (end : End) × IsEnd end rest × (out ≡ written (k.replies ++ last_words end)) × (status ≡ last_status end k.after)

-- the bytes that are answered to an input, and the exit status: the replies to its messages, in order
pub record IsAnswered (language : Language) (input out : List ℕ) (status : ℕ) : Type 0 where
  pub bodies : List (List ℕ)
  pub rest : List ℕ
  pub messages : AreMessages input bodies rest
  pub ends : Ends (run language begun bodies).status (run language begun bodies) rest out status

-- what is sent behind the replies to messages: nothing, or that there is no next one
abbrev pub IsLast : Option ℕ → List ℕ → List Reply → Type 0
IsLast status rest last = (last ≡ []) ⊎ ((status ≡ None) × IsBroken rest × (last ≡ refusal))

-- the first bytes that are answered to an input
pub record IsPartlyAnswered (language : Language) (input out : List ℕ) : Type 0 where
  pub bodies : List (List ℕ)
  pub rest : List ℕ
  pub messages : AreMessages input bodies rest
  pub last : List Reply
  pub is_last : IsLast (run language begun bodies).status rest last
  pub more : List ℕ
  pub front : out ++ more ≡ written ((run language begun bodies).replies ++ last)

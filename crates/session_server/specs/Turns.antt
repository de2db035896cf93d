-- What is sent behind a read.
use Rattle.std.specs.Prelude.{◌≡◌, ◌≤◌, ℕ, List, ◌++◌, drop, length, Option, Some, None}
use Rattle.message_frames.specs.Frames.{AreMessages, IsBroken, IsUnfinished}
use Rattle.language_session.specs.Sessions.{Session}
use Rattle.language_session.specs.Steps.{Language, Step, written}
use Rattle.language_session.specs.Runs.{run}
use Rattle.session_server.specs.Answers.{refusal}
use Rattle.session_server.specs.declared.server.Next.{Next}
use Rattle.session_server.specs.declared.server.Next.TheVariants as nexts

-- the messages at the front of bytes are answered, and these are behind them
pub record AreAnswered (language : Language) (old : Session) (bytes rest : List ℕ) (new : Session) (told : List ℕ) : Type 0 where
  pub bodies : List (List ℕ)
  pub messages : AreMessages bytes bodies rest
  pub after : (run language old bodies).after ≡ new
  pub goes_on : (run language old bodies).status ≡ None
  pub told_is : told ≡ written (run language old bodies).replies

-- a message has ended the server, or what follows is none
abbrev pub EndsNow : Option ℕ → Step → List ℕ → List ℕ → ℕ → Type 0
EndsNow (Some told) k rest out status = (out ≡ written k.replies) × (status ≡ told)
EndsNow None k rest out status = IsBroken rest × (out ≡ written (k.replies ++ refusal)) × (status ≡ 1)

pub record IsEnded (language : Language) (old : Session) (bytes told : List ℕ) (status : ℕ) : Type 0 where
  pub bodies : List (List ℕ)
  pub rest : List ℕ
  pub messages : AreMessages bytes bodies rest
  pub ends : EndsNow (run language old bodies).status (run language old bodies) rest told status

-- what became of a buffer
abbrev pub IsTurn : Language → Session → Session → List ℕ → List ℕ → Next → Type 0
IsTurn language old new bytes told (nexts.GoesOn len) =
    (len ≤ length bytes) × AreAnswered language old bytes (drop len bytes) new told × IsUnfinished (drop len bytes)
IsTurn language old new bytes told (nexts.Ends status) = IsEnded language old bytes told status

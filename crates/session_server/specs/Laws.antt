-- Laws of what a server answers.
use Rattle.std.specs.Prelude.{◌≡◌, ℕ, List, ◌++◌}
use Rattle.language_session.specs.Steps.{Language}
use Rattle.session_server.specs.Answers.{IsAnswered, IsPartlyAnswered}

-- an input has one answer, so it does not matter in which pieces it comes
abbrev pub AnswersAreOne : Type 0
AnswersAreOne =
    (language : Language) (input out other : List ℕ) (status code : ℕ)
    → IsAnswered language input out status → IsAnswered language input other code → (out ≡ other) × (status ≡ code)

-- the first bytes that are answered are those of the answer
abbrev pub PartsAreFronts : Type 0
PartsAreFronts =
    (language : Language) (input part out : List ℕ) (status : ℕ)
    → IsPartlyAnswered language input part → IsAnswered language input out status → (more : List ℕ) × (part ++ more ≡ out)

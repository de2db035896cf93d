-- What messages make of a session, one after another.
use Rattle.std.specs.Prelude.{ℕ, List, [], ◌∷◌, ◌++◌, Option, Some, None}
use Rattle.language_session.specs.Sessions.{Session}
use Rattle.language_session.specs.Steps.{Language, Step, silent, step}

-- one step and then another, which is not taken behind one that ends the server
abbrev pub joined : Option ℕ → Step → Step → Step
joined None first second = record { after = second.after; replies = first.replies ++ second.replies; status = second.status }
joined (Some status) first second = first

-- what the bodies of messages make of a session, in order, up to one that ends the server
unfoldable pub run : Language → Session → List (List ℕ) → Step
run language s [] = silent s
run language s (body ∷ bodies) =
    joined (step language s body).status (step language s body) (run language (step language s body).after bodies)

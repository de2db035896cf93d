-- What several steps make of a sink, whose value goes on from each step to the next.
use Rattle.std.specs.Prelude.{◌≡◌, ◌⊎◌, List, [], ◌∷◌}
use Rattle.parser_events.specs.TextSteps.{TextStep}

-- it takes all of them, in order
abbrev pub TakesAll : {S : Type 0} → (S → TextStep → S → Type 0) → S → List TextStep → S → Type 0
TakesAll takes old [] new = new ≡ old
TakesAll {S} takes old (s ∷ ss) new = (next : S) × (takes old s next × TakesAll takes next ss new)

-- it takes those before one of them, in order, and fails at that one
abbrev pub FailsAtOne : {S E : Type 0} → (S → TextStep → S → Type 0) → (S → TextStep → E → S → Type 0) → S → List TextStep → E → S → Type 0
FailsAtOne takes fails_at old [] error new = ⊥
FailsAtOne {S} takes fails_at old (s ∷ ss) error new =
    fails_at old s error new ⊎ ((next : S) × (takes old s next × FailsAtOne takes fails_at next ss error new))

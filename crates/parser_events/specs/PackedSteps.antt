-- How steps are stored: the length of a leaf is in its entry, or is the next of the long lengths.
use Rattle.std.specs.Prelude.{◌≡◌, ℕ, List, [], ◌∷◌, Option, Some, None}
use Rattle.parser_events.specs.declared.step.Step.{Step}
use Rattle.parser_events.specs.declared.step.Step.TheVariants as steps
use Rattle.parser_events.specs.declared.step_list.Entry.{Entry}
use Rattle.parser_events.specs.declared.step_list.Entry.TheVariants as entries

-- the first of the long lengths; 0 where there is none
abbrev pub first_length : List ℕ → ℕ
first_length [] = 0
first_length (n ∷ lengths) = n

abbrev pub other_lengths : List ℕ → List ℕ
other_lengths [] = []
other_lengths (n ∷ lengths) = lengths

-- the step of an entry, where these are the long lengths from there on
abbrev pub unpacked : Entry → List ℕ → Step
unpacked (entries.Token kind n) lengths = steps.Token kind n
unpacked (entries.LongToken kind) lengths = steps.Token kind (first_length lengths)
unpacked (entries.FloatSplit ends_in_dot) lengths = steps.FloatSplit ends_in_dot
unpacked (entries.Enter kind) lengths = steps.Enter kind
unpacked entries.Exit lengths = steps.Exit
unpacked (entries.Error message) lengths = steps.Error message

-- the long lengths after an entry
abbrev pub lengths_after : Entry → List ℕ → List ℕ
lengths_after (entries.Token kind n) lengths = lengths
lengths_after (entries.LongToken kind) lengths = other_lengths lengths
lengths_after (entries.FloatSplit ends_in_dot) lengths = lengths
lengths_after (entries.Enter kind) lengths = lengths
lengths_after entries.Exit lengths = lengths
lengths_after (entries.Error message) lengths = lengths

-- the steps of entries and of the long lengths among them, both in order
abbrev pub unpack_all : List Entry → List ℕ → List Step
unpack_all [] lengths = []
unpack_all (e ∷ es) lengths = unpacked e lengths ∷ unpack_all es (lengths_after e lengths)

abbrev pub with_length : Option ℕ → List ℕ → List ℕ
with_length None lengths = lengths
with_length (Some n) lengths = n ∷ lengths

-- The entry, with this long length or with none, is unpacked as the step.
pub record Packs (step : Step) (entry : Entry) (long : Option ℕ) : Type 0 where
  pub first : (lengths : List ℕ) → unpacked entry (with_length long lengths) ≡ step
  pub rest : (lengths : List ℕ) → lengths_after entry (with_length long lengths) ≡ lengths

-- The tokens that touch an offset.
use Rattle.std.specs.Prelude.{◌≡◌, ℕ, zero, suc, ◌+◌, Bool, ◌&&◌, nat_le, nat_lt, List, [], ◌∷◌, Option, Some, None}
use Rattle.std.specs.List.{filter}
use Rattle.rowan.specs.Place.{Place, start_of, end_of}
use Rattle.rowan.specs.Around.{first}
use Rattle.rowan.specs.Leaves.{tokens_in}
use Rattle.rowan.specs.declared.utility_types.TokenAtOffset.{TokenAtOffset}
use Rattle.rowan.specs.declared.utility_types.TokenAtOffset.TheVariants.{None as NoToken, Single, Between}

-- one thing of none, another of one token, another of two
abbrev pub MatchTokens : {A : Type 0} → TokenAtOffset A → Type 0 → (A → Type 0) → (A → A → Type 0) → Type 0
MatchTokens NoToken P Q R = P
MatchTokens (Single x) P Q R = Q x
MatchTokens (Between x y) P Q R = R x y

-- an equal number of tokens, each related to the one at the same position
abbrev pub MapsTokens : {A B : Type 0} → (A → B → Type 0) → TokenAtOffset A → TokenAtOffset B → Type 0
MapsTokens R NoToken r = r ≡ NoToken
MapsTokens R (Single x) r = MatchTokens r ⊥ (R x) (λ _ _. ⊥)
MapsTokens R (Between x y) r = MatchTokens r ⊥ (λ _. ⊥) (λ u v. R x u × R y v)

-- as a list, the left one first
abbrev pub listed : {A : Type 0} → TokenAtOffset A → List A
listed NoToken = []
listed (Single x) = x ∷ []
listed (Between x y) = x ∷ y ∷ []

-- the one further left, and the one further right
abbrev pub leftmost : {A : Type 0} → TokenAtOffset A → Option A
leftmost NoToken = None
leftmost (Single x) = Some x
leftmost (Between x y) = Some x

abbrev pub rightmost : {A : Type 0} → TokenAtOffset A → Option A
rightmost NoToken = None
rightmost (Single x) = Some x
rightmost (Between x y) = Some y

-- whether a token has text, and begins or ends at an offset, or has it inside
abbrev pub touches : ℕ → Place → Bool
touches o p = nat_lt (start_of p) (end_of p) && (nat_le (start_of p) o && nat_le o (end_of p))

-- whether a token has a byte of the text
abbrev pub has_byte : ℕ → Place → Bool
has_byte k p = nat_le (start_of p) k && nat_le (k + 1) (end_of p)

-- the tokens below a place that touch an offset, in order
abbrev pub touching : ℕ → Place → List Place
touching o p = filter (touches o) (tokens_in p)

-- the tokens below a place that have a byte of the text: there is one at most
abbrev pub with_byte : ℕ → Place → List Place
with_byte k p = filter (has_byte k) (tokens_in p)

-- the one with the byte before an offset
abbrev pub before_offset : ℕ → Place → Option Place
before_offset zero p = None
before_offset (suc k) p = first (with_byte k p)

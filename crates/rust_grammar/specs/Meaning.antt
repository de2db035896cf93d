-- What a rule gives: trees, and the tokens left.
use Rattle.std.specs.Prelude.{ℕ, zero, suc, ◌==◌, Bool, true, false, not, ◌&&◌, List, [], ◌∷◌, length, drop, nat_lt, nat_le, if◌then◌else◌}
use Rattle.parser_input.specs.Kinds.{EOF, ERROR}
use Rattle.parser_input.specs.Input.{Token}
use Rattle.parser_events.specs.Forest as forest
use Rattle.parser_events.specs.Forest.{Forest, Message, ◌then◌}
use Rattle.rust_grammar.specs.Rule.{Production, Look, Always, Never, Kind, Contextual, Joint, Whole, Left, InCondition, Given, Both, Either, Not, Rule, Nothing, One, Any, Then, Near, Or, Opt, Star, Node, Wrap, Want, Say, Skip, Split, When, Unless, Call, Continue, Mode, Lead, begins}

-- What the present production gave so far, and the tokens left.
pub record Reading : Type 0 where
  pub given : Forest
  pub rest : List Token

-- the n-th token ahead; past the last token it is the end of the input, whose flag `whole` is false
unfoldable pub ahead : ℕ → List Token → Token
ahead n [] = record { kind = EOF; contextual = EOF; joint = false; whole = false }
ahead zero (t ∷ ts) = t
ahead (suc n) (t ∷ ts) = ahead n ts

unfoldable pub is_end : Forest → Bool
is_end forest.End = true
is_end (forest.Leaf k n f) = false
is_end (forest.Said m f) = false
is_end (forest.ErrorLeaf m k f) = false
is_end (forest.Node k c f) = false
is_end (forest.Float e c f) = false

-- a look, in condition mode or out of it
unfoldable pub sees : Bool → Reading → Look → Bool
sees c s Always = true
sees c s Never = false
sees c s (Kind n k) = (ahead n s.rest).kind == k
sees c s (Contextual n k) = (ahead n s.rest).contextual == k
sees c s (Joint n) = (ahead n s.rest).joint
sees c s (Whole n) = (ahead n s.rest).whole
sees c s Left = nat_lt 0 (length s.rest)
sees c s InCondition = c
sees c s Given = not (is_end s.given)
sees c s (Both a b) = let second = sees c s b in if sees c s a then second else false
sees c s (Either a b) = let second = sees c s b in if sees c s a then true else second
sees c s (Not a) = not (sees c s a)

-- The forms, one by one.
unfoldable pub leaf : ℕ → ℕ → Reading → Reading
leaf kind count s = record { given = s.given then forest.Leaf kind count forest.End; rest = drop count s.rest }

unfoldable pub say : Message → Reading → Reading
say m s = record { given = s.given then forest.Said m forest.End; rest = s.rest }

unfoldable pub skip : Message → Reading → Reading
skip m s = record { given = s.given then forest.ErrorLeaf m (ahead 0 s.rest).kind forest.End; rest = drop 1 s.rest }

unfoldable pub split : Reading → Reading
split s = record { given = forest.Float (not (ahead 0 s.rest).joint) s.given forest.End; rest = drop 1 s.rest }

unfoldable pub fresh : Reading → Reading
fresh s = record { given = forest.End; rest = s.rest }

unfoldable pub node : ℕ → Reading → Reading → Reading
node kind s t = record { given = s.given then forest.Node kind t.given forest.End; rest = t.rest }

unfoldable pub wrapped : ℕ → Reading → Reading
wrapped kind t = record { given = forest.Node kind t.given forest.End; rest = t.rest }

-- Trees put first into one node, or one float. What is not one such tree goes with them into an error; in
-- the grammar it always is one, as a law says.
unfoldable pub into : Forest → Forest → Forest
into g (forest.Node k c forest.End) = forest.Node k (g then c) forest.End
into g (forest.Float e c forest.End) = forest.Float e (g then c) forest.End
into g f = forest.Node ERROR (g then f) forest.End

unfoldable pub led : Reading → Reading → Reading
led s t = record { given = into s.given t.given; rest = t.rest }

unfoldable pub after : Reading → Reading → Reading
after s t = record { given = s.given then t.given; rest = t.rest }

-- turns of a repetition, one for each token at most; a turn that takes no token is the last
unfoldable pub turns : ℕ → (Reading → Bool) → (Reading → Reading) → Reading → Reading
turns zero test turn s = s
turns (suc n) test turn s =
    let t = turn s in
    let more = turns n test turn t in
    let next = if nat_lt (length t.rest) (length s.rest) then more else t in
    if test s then next else s

-- What the productions give, and where they begin.
abbrev pub Calls : Type 0
Calls = Production → Bool → Reading → Reading

-- What a rule gives, where it is known what the productions that it calls give.
unfoldable pub read : (Production → Look) → Calls → Bool → Rule → Reading → Reading
read f call c Nothing s = s
read f call c (One x) s = leaf x.kind (length x.parts) s
read f call c Any s = leaf (ahead 0 s.rest).kind 1 s
read f call c (Then a b) s = read f call c b (read f call c a s)
read f call c (Near w a b) s = read f call c b (read f call c a s)
read f call c (Or a b) s =
    let first = read f call c a s in
    let second = read f call c b s in
    if sees c s (begins f a) then first else second
read f call c (Opt a) s =
    let taken = read f call c a s in
    if sees c s (begins f a) then taken else s
read f call c (Star a) s = turns (length s.rest) (λ t. sees c t (begins f a)) (read f call c a) s
read f call c (Node kind a) s = node kind s (read f call c a (fresh s))
read f call c (Wrap kind a) s = wrapped kind (read f call c a s)
read f call c (Want a m) s =
    let taken = read f call c a s in
    let missing = say m s in
    if sees c s (begins f a) then taken else missing
read f call c (Say m) s = say m s
read f call c (Skip m) s = skip m s
read f call c Split s = split s
read f call c (When l a) s = read f call c a s
read f call c (Unless l a) s = read f call c a s
read f call c (Call x) s = after s (call x c (fresh s))
read f call c (Continue x) s = call x c s
read f call c (Mode d a) s = read f call d a s
read f call c (Lead a) s = led s (read f call c a (fresh s))

-- A table: the rule of each production, and its rank. Ranks, and all that follows, serve to say by recursion where productions
-- begin and what they give; that each does so as its rule says, and that nothing else does, are laws.
pub record Table : Type 0 where
  pub rule : Production → Rule
  pub rank : Production → ℕ
  pub ranks : ℕ

-- where a production begins, by rank
unfoldable pub begins_below : Table → ℕ → Production → Look
begins_below g zero x = Never
begins_below g (suc k) x = begins (begins_below g k) (g.rule x)

unfoldable pub look_of : Table → Production → Look
look_of g = begins_below g g.ranks

-- The calls that a production makes, which began with `began` tokens left: one is followed where tokens were
-- taken since, or where none were and its rank is lower.
unfoldable pub follow : (fewer lower : Calls) → (rank began : ℕ) → (Production → ℕ) → Calls
follow fewer lower rank began ranks x c s =
    let there = fewer x c s in
    let here = lower x c s in
    let same = if nat_le (length s.rest) began && nat_lt (ranks x) rank then here else s in
    if nat_lt (length s.rest) began then there else same

-- by rank, given what productions give from fewer tokens
unfoldable pub by_rank : Table → Calls → ℕ → Calls
by_rank g fewer zero x c s = s
by_rank g fewer (suc k) x c s = read (look_of g) (follow fewer (by_rank g fewer k) (g.rank x) (length s.rest) g.rank) c (g.rule x) s

-- by the number of tokens left
unfoldable pub by_length : Table → ℕ → Calls
by_length g zero = by_rank g (λ x c s. s) g.ranks
by_length g (suc n) = by_rank g (by_length g n) g.ranks

-- What a production gives.
unfoldable pub meaning : Table → Production → Bool → Reading → Reading
meaning g x c s = by_length g (length s.rest) x c s

-- The calls of a production in terms of meaning alone.
unfoldable pub calls : Table → Production → ℕ → Calls
calls g x began = follow (meaning g) (meaning g) (g.rank x) began g.rank

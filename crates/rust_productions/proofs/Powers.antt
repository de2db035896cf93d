-- Layers of operators, one within the other, that one loop reads: it keeps the layers whose operators may still follow.
use Rattle.std.proofs.Common.{◌≡◌, ◌<◌, true, false, List, [], ◌∷◌, ◌++◌, length, refl, sym, ap, ◌∙◌, arith}
use Rattle.parser_events.specs.View.{View}
use Rattle.rust_productions.specs.Stands.{left}
use Rattle.rust_productions.specs.Layers.{repeated}
use Rattle.rust_grammar.specs.Rule.{Production, Rule, Then, Star, Call, begins}
use Rattle.rust_grammar.specs.Meaning.{Reading, sees, fresh, after, read, meaning}
use Rattle.rust_grammar.specs.Whole.{rule, whole}
use Rattle.rust_productions.specs.Reads.{looks, Does, Gives, Reads, FromStart, Saw, Condition, is_on}
use Rattle.rust_productions.proofs.ByHand.{does-then, does-as}
use Rattle.rust_productions.proofs.Turns.{EndsAtEnd, no-turn, one-turn}
use Rattle.rust_grammar.proofs.WholeTable.{whole-means}

-- no layer has a turn here
abbrev pub NoTurns : Condition → View → List Rule → Type 0
NoTurns c v [] = Unit {0}
NoTurns c v (a ∷ xs) = Saw c (begins looks a) v false × NoTurns c v xs

-- none of them begins where no token is left
abbrev pub AllEnd : Condition → List Rule → Type 0
AllEnd c [] = Unit {0}
AllEnd c (a ∷ xs) = EndsAtEnd c a × AllEnd c xs

-- What is read from `entry` on is read once the turns of the layers that are still allowed are.
pub record LayersFrom (c : Condition) (all allowed : List Rule) (entry now : View) : Type 0 where
  pub rest : (end : View) → Reads c (repeated allowed) now end → Reads c (repeated all) entry end

pub first-layers : {c : Condition} {all : List Rule} {v : View} → LayersFrom c all all v v
first-layers = record { rest = λ end p. p }

module _ (c : Condition) where
  abbrev does : Rule → Reading → Reading
  does r s = read looks (meaning whole) (is_on c) r s

  -- layers that have no turn here are passed
  passed : (xs bs : List Rule) (v : View) → AllEnd c xs → NoTurns c v xs → (s : Reading) → left v ≡ s.rest → does (repeated (xs ++ bs)) s ≡ does (repeated bs) s
  unfolding read
  passed [] bs v ends none s e = refl
  passed (a ∷ xs) bs v (end, ends) (ended, none) s e =
      ap (λ (t : Reading). does (repeated (xs ++ bs)) t) (no-turn (λ t. sees (is_on c) t (begins looks a)) (does a) end s (ended.at s e))
      ∙ passed xs bs v ends none s e

  -- One more turn, of a layer where those that bind more have none: from here on that layer and those that bind less are allowed.
  pub next-layers :
      (all tighter : List Rule) (a : Rule) (looser : List Rule) (entry now next : View)
      → AllEnd c tighter → EndsAtEnd c a → LayersFrom c all (tighter ++ (a ∷ looser)) entry now → NoTurns c now tighter
      → Saw c (begins looks a) now true → Reads c a now next → length (left next) < length (left now) → LayersFrom c all (a ∷ looser) entry next
  unfolding read
  next-layers all tighter a looser entry now next ends end at none saw p less = record {
    rest = λ last q.
        at.rest last (record {
          does = does-as (λ s e.
              ap (λ (t : Reading). does (repeated looser) t) (sym (one-turn (λ t. sees (is_on c) t (begins looks a)) (does a) end s (saw.at s e) (shorter s e)))
              ∙ sym (passed tighter (a ∷ looser) now ends none s e))
              (does-then p.does q.does);
        });
  }
    where
      shorter : (s : Reading) → left now ≡ s.rest → length (does a s).rest < length s.rest
      shorter s e = omega (arith, less, ap (λ ts. length ts) (p.does.rest s e), ap (λ ts. length ts) e)

  nothing-left : (xs : List Rule) (v : View) → AllEnd c xs → NoTurns c v xs → (s : Reading) → left v ≡ s.rest → does (repeated xs) s ≡ s
  unfolding read
  nothing-left [] v ends none s e = refl
  nothing-left (a ∷ xs) v (end, ends) (ended, none) s e =
      ap (λ (t : Reading). does (repeated xs) t) (no-turn (λ t. sees (is_on c) t (begins looks a)) (does a) end s (ended.at s e))
      ∙ nothing-left xs v ends none s e

  -- no turn is left of any layer that is allowed
  pub last-layers :
      (all allowed : List Rule) (entry now end : View)
      → AllEnd c allowed → LayersFrom c all allowed entry now → NoTurns c now allowed → Does (λ s. s) now end → Reads c (repeated all) entry end
  last-layers all allowed entry now end ends at none p = at.rest end (record { does = does-as (λ s e. sym (nothing-left allowed now ends none s e)) p })

  -- A production that is these layers around a base: what it gives, with nothing given before it.
  abbrev pub Layered : Production → Production → List Rule → Type 0
  Layered x base xs = (s : Reading) → meaning whole x (is_on c) (fresh s) ≡ does (Then (Call base) (repeated xs)) (fresh s)

  joined : (xs : List Rule) (b : Rule) (s : Reading) → does (repeated (xs ++ (b ∷ []))) s ≡ does (Star b) (does (repeated xs) s)
  unfolding read
  joined [] b s = refl
  joined (a ∷ xs) b s = joined xs b (does (Star a) s)

  -- the innermost layer
  pub one-layer : (x base : Production) (b : Rule) → rule x ≡ Then (Call base) (Star b) → Layered x base (b ∷ [])
  unfolding read
  one-layer x base b is s = whole-means x (is_on c) (fresh s) ∙ ap (λ (r : Rule). does r (fresh s)) is

  -- one more layer around them
  pub more-layers : (x y base : Production) (xs : List Rule) (b : Rule) → rule x ≡ Then (Call y) (Star b) → Layered y base xs → Layered x base (xs ++ (b ∷ []))
  unfolding read fresh after
  more-layers x y base xs b is inner s =
      whole-means x (is_on c) (fresh s)
      ∙ ap (λ (r : Rule). does r (fresh s)) is
      ∙ ap (λ (t : Reading). does (Star b) t) (inner s)
      ∙ sym (joined xs b (does (Call base) (fresh s)))

  pub gives-layers : (x base : Production) (xs : List Rule) {old new : View} → Layered x base xs → FromStart c (Then (Call base) (repeated xs)) old new → Gives x c old new
  gives-layers x base xs is p = record { does = does-as (λ s e. ap (λ (t : Reading). after s t) (sym (is s))) p.does }

-- Productions take tokens; lists of items and of statements take all.
use Rattle.std.proofs.Common.{◌≡◌, ℕ, suc, ◌<◌, ◌≤◌, Bool, true, false, not, List, [], ◌∷◌, length, nat_lt, None, refl, sym, ap, ◌∙◌, arith, inl, inr, if◌then◌else◌, true≢false}
use Rattle.std.proofs.lemmas.Bool.{cases_Bool, ltb-true, lt-ltb}
use Rattle.parser_input.specs.Input.{Token}
use Rattle.rust_grammar.specs.Rule.{Production, source_file, macro_items, macro_statements, Look, Left, Rule, One, Node, Then, Opt, When, Star, Unless, begins, passes, is_silent, shift, in_mode, from_start, there_at}
use Rattle.rust_grammar.specs.Meaning.{Reading, Calls, read, meaning, sees, look_of, begins_below, node, fresh}
use Rattle.rust_grammar.specs.Notation.{◌or◌, ◌before◌, at_end, row, one_of, any_of, is_longer, no_longer, longest}
use Rattle.rust_grammar.specs.Words.{'#', '!', 'shebang', 'frontmatter'}
use Rattle.rust_grammar.specs.Calls.{Item, Attribute, MacroStatement}
use Rattle.rust_grammar.specs.Paths.{paths}
use Rattle.rust_grammar.specs.Types.{types}
use Rattle.rust_grammar.specs.Patterns.{patterns}
use Rattle.rust_grammar.specs.Expressions.{expressions}
use Rattle.rust_grammar.specs.Statements.{statements}
use Rattle.rust_grammar.specs.Items.{items}
use Rattle.rust_grammar.specs.Whole.{rule, rank, whole}
use Rattle.rust_grammar.specs.Entry.{takes_all}
use Rattle.rust_grammar.proofs.Plain.{all_facts}
use Rattle.rust_grammar.proofs.Fine.{takes}
use Rattle.rust_grammar.proofs.WholeTable.{claim, all_fine, whole-means}
use Rattle.rust_grammar.proofs.Parts.{asks_tokens}
use Rattle.rust_grammar.proofs.Known.{same_look, is_left, is_first, is_never, tells, weakens, implies, implied, never-seen, either-if, cut, sift}
use Rattle.rust_grammar.proofs.Elsewhere.{asks, without, down, all_down, back, asked}
use Rattle.rust_grammar.proofs.Spelling.{at}
use Rattle.rust_grammar.proofs.WordPaths.{gives, star-ends}
use Rattle.rust_grammar.proofs.Moving.{Moved, unmoved_calls, unmoved_option, unmoved, moves, takes-token}
use Rattle.rust_grammar.proofs.MovedTable.{moves_where, movers, is_mover, all_move}
use Rattle.rust_grammar.proofs.Induction.{HoldOf, meaning-holds}

abbrev Moves : Production → Bool → Reading → Reading → Type 0
Moves y d t u = sees d t (moves_where y) ≡ true → 0 < length t.rest → length u.rest < length t.rest

record Shrunk (y : Production) (d : Bool) (t u : Reading) : Type 0 where
  pub no_longer : length u.rest ≤ length t.rest
  pub always : claim y ≡ true → 0 < length t.rest → length u.rest < length t.rest

-- What is taken for calls that are not made: all tokens.
unfoldable emptied : Calls
emptied y d t = record { given = t.given; rest = [] }

emptied-moves : HoldOf Moves emptied
unfolding emptied
emptied-moves y d t e some = some

emptied-shrinks : HoldOf Shrunk emptied
unfolding emptied
emptied-shrinks y d t = record { no_longer = omega arith; always = λ e some. some }

plain-shrinks : HoldOf Shrunk (meaning whole)
plain-shrinks y d t = record { no_longer = (all_facts whole claim all_fine y d t).shrinks; always = (all_facts whole claim all_fine y d t).took }

as-claimed : (call : Calls) → HoldOf Moves call → HoldOf Shrunk call → Moved movers call
unfolding movers
as-claimed call p e = record { no_longer = λ y d t. (e y d t).no_longer; always = λ y d t h some. (e y d t).always h some; where_seen = p }

never-there : (l : Look) (c : Bool) (s : Reading) → is_never l ≡ true → sees c s l ≡ false
never-there l c s e = never-seen c s l e

rules-move : (call : Calls) → HoldOf Moves call → HoldOf Shrunk call → (x : Production) (c : Bool) (s : Reading) → Moves x c s (read (look_of whole) call c (rule x) s)
unfolding movers is_mover
rules-move call p e x c s seen some = elim (either-if (is_never (moves_where x)) (moves movers None (moves_where x) (rule x)) (all_move x)) [
  | inl i ↦ absurd (true≢false (sym seen ∙ never-there (moves_where x) c s i))
  | inr i ↦ takes-token movers call (as-claimed call p e) (rule x) None (moves_where x) c s i tt seen some
]

-- Where its look is seen and a token is left, a production takes one.
pub productions-move : HoldOf Moves (meaning whole)
productions-move = meaning-holds Moves Shrunk emptied emptied-moves emptied-shrinks plain-shrinks rules-move

all-moved : Moved movers (meaning whole)
all-moved = as-claimed (meaning whole) productions-move plain-shrinks

none-left : (ts : List Token) → nat_lt 0 (length ts) ≡ false → ts ≡ []
none-left [] e = refl
none-left (t ∷ ts) e = absurd (true≢false (sym (lt-ltb 0 (suc (length ts)) (omega arith)) ∙ e))

-- A list up to the input's end takes all tokens, if what it repeats begins wherever one is left, and takes one.
module _ (a : Rule) (begun : implies Left (begins (look_of whole) a) ≡ true) (move : moves movers None (begins (look_of whole) (Unless at_end a)) (Unless at_end a) ≡ true) where
  left-there : (c : Bool) (s : Reading) → sees c s (begins (look_of whole) (Unless at_end a)) ≡ true → nat_lt 0 (length s.rest) ≡ true
  unfolding sees begins
  left-there c s e = of (nat_lt 0 (length s.rest)) (sees c s (begins (look_of whole) a)) e
    where
      of : (b d : Bool) → (if not (not b) then d else false) ≡ true → b ≡ true
      of true d e = refl
      of false d e = e

  begins-there : (c : Bool) (s : Reading) → nat_lt 0 (length s.rest) ≡ true → sees c s (begins (look_of whole) (Unless at_end a)) ≡ true
  unfolding sees begins
  begins-there c s e = of (nat_lt 0 (length s.rest)) (sees c s (begins (look_of whole) a)) e (implied c s Left (begins (look_of whole) a) begun e)
    where
      of : (b d : Bool) → b ≡ true → d ≡ true → (if not (not b) then d else false) ≡ true
      of true d e f = f
      of false d e f = e

  pub takes-list : (c : Bool) (s : Reading) → (gives c (Star (Unless at_end a)) s).rest ≡ []
  unfolding movers
  takes-list c s =
      let w = gives c (Star (Unless at_end a)) s in
      let last : sees c w (begins (look_of whole) (Unless at_end a)) ≡ false = star-ends (Unless at_end a) c s (λ v e.
      takes-token movers (meaning whole) all-moved (Unless at_end a) None (begins (look_of whole) (Unless at_end a)) c v move tt e (ltb-true _ _ (left-there c v e))) in
      none-left w.rest (elim (cases_Bool (nat_lt 0 (length w.rest))) [
        | inl e ↦ absurd (true≢false (sym (begins-there c w e) ∙ last))
        | inr e ↦ e
      ])

abbrev list_item : Rule
list_item = When ('#' before '!') Attribute or Item

items-begun : implies Left (begins (look_of whole) list_item) ≡ true
unfolding same_look is_left is_first is_never tells weakens implies look_of begins_below begins passes is_silent shift in_mode from_start there_at rule rank whole row one_of any_of is_longer no_longer longest paths types patterns expressions statements items
items-begun = refl

items-move : moves movers None (begins (look_of whole) (Unless at_end list_item)) (Unless at_end list_item) ≡ true
unfolding movers moves_where claim unmoved_calls unmoved_option takes unmoved moves at same_look is_left is_first is_never tells weakens implies cut sift from_start asks without down all_down back asked asks_tokens look_of begins_below begins passes is_silent shift in_mode there_at rule rank whole row one_of any_of is_longer no_longer longest paths types patterns expressions statements items
items-move = refl

statements-begun : implies Left (begins (look_of whole) MacroStatement) ≡ true
unfolding same_look is_left is_first is_never tells weakens implies look_of begins_below begins passes is_silent shift in_mode from_start there_at rule rank whole row one_of any_of is_longer no_longer longest paths types patterns expressions statements items
statements-begun = refl

statements-move : moves movers None (begins (look_of whole) (Unless at_end MacroStatement)) (Unless at_end MacroStatement) ≡ true
unfolding movers moves_where claim unmoved_calls unmoved_option takes unmoved moves at same_look is_left is_first is_never tells weakens implies cut sift from_start asks without down all_down back asked asks_tokens look_of begins_below begins passes is_silent shift in_mode there_at rule rank whole row one_of any_of is_longer no_longer longest paths types patterns expressions statements items
statements-move = refl

node-rest : (k : ℕ) (a : Rule) (c : Bool) (s : Reading) → (gives c (Node k a) s).rest ≡ (gives c a (fresh s)).rest
unfolding read node
node-rest k a c s = refl

then-rest : (a b : Rule) (c : Bool) (s : Reading) → (gives c (Then a b) s).rest ≡ (gives c b (gives c a s)).rest
unfolding read
then-rest a b c s = refl

-- THE law of lists: they take all tokens.
pub lists-take-all : (x : Production) → takes_all x ≡ true → (c : Bool) (s : Reading) → (meaning whole x c s).rest ≡ []
unfolding takes_all rule items statements read node fresh
lists-take-all source_file e c s =
    ap (λ (u : Reading). u.rest) (whole-means source_file c s)
    ∙ takes-list list_item items-begun items-move c (gives c (Opt (One 'frontmatter')) (gives c (Opt (One 'shebang')) (fresh s)))
lists-take-all macro_items e c s = ap (λ (u : Reading). u.rest) (whole-means macro_items c s) ∙ takes-list list_item items-begun items-move c (fresh s)
lists-take-all macro_statements e c s = ap (λ (u : Reading). u.rest) (whole-means macro_statements c s) ∙ takes-list MacroStatement statements-begun statements-move c (fresh s)
lists-take-all x e c s = absurd (true≢false (sym e))

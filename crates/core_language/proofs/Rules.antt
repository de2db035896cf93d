-- The reading of rules, step by step, over the whole grammar.
use Rattle.std.proofs.Common.{◌≡◌, ℕ, zero, suc, ◌<◌, ◌≤◌, Bool, true, false, List, length, refl, sym, ◌∙◌, arith, if◌then◌else◌}
use Rattle.std.proofs.lemmas.Bool.{lt-ltb}
use Rattle.parser_input.specs.Input.{Token}
use Rattle.parser_events.specs.Forest.{Message, Forest, End}
use Rattle.rust_grammar.specs.Rule.{Production, Rule, Then, Or, Opt, Star, Want, Call, begins, passes, is_silent, shift, in_mode, from_start, there_at}
use Rattle.rust_grammar.specs.Meaning.{Reading, turns, read, leaf, node, wrapped, after, fresh, sees, ahead, is_end, look_of, begins_below, meaning}
use Rattle.rust_grammar.specs.Notation.{row, one_of, any_of, is_longer, no_longer, longest}
use Rattle.rust_grammar.specs.Paths.{paths}
use Rattle.rust_grammar.specs.Types.{types}
use Rattle.rust_grammar.specs.Patterns.{patterns}
use Rattle.rust_grammar.specs.Expressions.{expressions}
use Rattle.rust_grammar.specs.Statements.{statements}
use Rattle.rust_grammar.specs.Items.{items}
use Rattle.rust_grammar.specs.Whole.{rule, rank, whole}
use Rattle.rust_grammar.proofs.Elsewhere.{from_start-seen}

-- these trees given, and these tokens left
abbrev pub at : Forest → List Token → Reading
at g ts = record { given = g; rest = ts }

-- what a production gives, out of condition mode
abbrev pub gives : Production → Reading → Reading
gives x s = meaning whole x false s

-- what a rule gives
abbrev pub reads : Rule → Reading → Reading
reads a s = read (look_of whole) (meaning whole) false a s

-- whether a rule begins here
abbrev pub begins_at : Rule → Reading → Bool
begins_at a s = sees false s (begins (look_of whole) a)

-- a repetition that goes from one reading to another
pub data Stars (test : Reading → Bool) (turn : Reading → Reading) : Reading → Reading → Type 0 where
  Stop : {s : Reading} → test s ≡ false → Stars test turn s s
  Turn : {s u t : Reading} → test s ≡ true → turn s ≡ u → length u.rest < length s.rest → Stars test turn u t → Stars test turn s t

-- any number of turns that is enough
pub stars-turns : (test : Reading → Bool) (turn : Reading → Reading) (n : ℕ) {s t : Reading} → Stars test turn s t → length s.rest ≤ n
    → turns n test turn s ≡ t
unfolding turns
stars-turns test turn zero (Stop e) le = refl
stars-turns test turn (suc n) (Stop e) le = rw e refl
stars-turns test turn zero (Turn {s = s} {u = u} e f lt more) le = absurd (omega arith)
stars-turns test turn (suc n) (Turn {s = s} {u = u} e f lt more) le = rw (e, f, lt-ltb _ _ lt) (stars-turns test turn n more (omega arith))

-- a repetition of this rule goes from one reading to another
abbrev pub StarReads : Rule → Reading → Reading → Type 0
StarReads a s t = Stars (begins_at a) (reads a) s t

pub star-reads : (a : Rule) {s t : Reading} → StarReads a s t → reads (Star a) s ≡ t
unfolding read
star-reads a {s = s} stars = stars-turns (begins_at a) (reads a) (length s.rest) stars (omega arith)

pub then-reads : (a b : Rule) (s : Reading) {u t : Reading} → reads a s ≡ u → reads b u ≡ t → reads (Then a b) s ≡ t
unfolding read
then-reads a b s e f = rw e f

pub want-reads : (a : Rule) (m : Message) (s : Reading) → begins_at a s ≡ true → reads (Want a m) s ≡ reads a s
unfolding read
want-reads a m s e = rw e refl

pub opt-skips : (a : Rule) (s : Reading) → begins_at a s ≡ false → reads (Opt a) s ≡ s
unfolding read
opt-skips a s e = rw e refl

pub or-first : (a b : Rule) (s : Reading) → begins_at a s ≡ true → reads (Or a b) s ≡ reads a s
unfolding read
or-first a b s e = rw e refl

pub or-second : (a b : Rule) (s : Reading) → begins_at a s ≡ false → reads (Or a b) s ≡ reads b s
unfolding read
or-second a b s e = rw e refl

-- where a production begins with nothing given, it begins when it is called
pub call-there : (x : Production) (g : Forest) (ts : List Token) → sees false (at End ts) (look_of whole x) ≡ true → begins_at (Call x) (at g ts) ≡ true
unfolding begins fresh
call-there x g ts e = from_start-seen false (at g ts) (look_of whole x) ∙ e

-- and the other way round
pub there-called : (x : Production) (ts : List Token) → begins_at (Call x) (at End ts) ≡ true → sees false (at End ts) (look_of whole x) ≡ true
unfolding begins fresh
there-called x ts e = sym (from_start-seen false (at End ts) (look_of whole x)) ∙ e

pub call-reads : (x : Production) (ts : List Token) (g : Forest) (more : List Token) → gives x (at End ts) ≡ at g more
    → reads (Call x) (at End ts) ≡ at g more
unfolding read after fresh
call-reads x ts g more e = rw e refl

-- a look of the whole language that fails, whatever the flag is; a choice of looks of which the second holds
pub idle : (flag : Bool) → (if flag then false else false) ≡ false
idle true = refl
idle false = refl

pub either : (b : Bool) → (if b then true else true) ≡ true
either true = refl
either false = refl

-- everything that a rule, a look or the table is computed with
unfoldable pub table : Unit {0}
unfolding read leaf node wrapped after fresh sees ahead is_end begins passes is_silent shift in_mode from_start there_at look_of begins_below rule rank whole paths types patterns expressions statements items row one_of any_of is_longer no_longer longest
table = tt

-- `table` without the rules of the productions: where a production begins is not computed
unfoldable pub forms : Unit {0}
unfolding read leaf node wrapped after fresh sees ahead is_end begins passes is_silent shift in_mode from_start there_at row one_of any_of is_longer no_longer longest
forms = tt

-- the rows of the table alone
unfoldable pub rows : Unit {0}
unfolding rule paths types patterns expressions statements items
rows = tt

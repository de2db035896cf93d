-- Where the arguments of a path begin, and how its row has them.
use Rattle.std.proofs.Common.{◌≡◌, ℕ, Bool, true, false, [], ◌∷◌, refl, if◌then◌else◌}
use Rattle.parser_events.specs.View.{View}
use Rattle.rust_grammar.specs.Expressions.{expressions}
use Rattle.rust_grammar.specs.Items.{items}
use Rattle.rust_grammar.specs.Meaning.{begins_below, look_of}
use Rattle.rust_grammar.specs.Notation.{any_of, is_longer, no_longer, longest, one_of, row}
use Rattle.rust_grammar.specs.Paths.{paths}
use Rattle.rust_grammar.specs.Patterns.{patterns}
use Rattle.rust_grammar.specs.Rule.{begins, in_mode, from_start, is_silent, passes, shift, there_at}
use Rattle.rust_grammar.specs.Statements.{statements}
use Rattle.rust_grammar.specs.Types.{types}
use Rattle.rust_grammar.specs.Whole.{rule, whole}
use Rattle.rust_grammar.specs.Meaning.{Reading, read, sees}
use Rattle.rust_grammar.specs.Notation.{◌before◌}
use Rattle.rust_grammar.specs.Paths.{path_with}
use Rattle.rust_grammar.specs.Rule as rules
use Rattle.rust_grammar.specs.Rule.{Look, Rule, Both, Either, Node, Nothing, One, Then}
use Rattle.rust_grammar.specs.Words.{joined, one, '::', '<'}
use Rattle.grammar_reader.specs.Told.{args_look, args_of, path_of}
use Rattle.grammar_reader.specs.declared.grammar.paths.Mode.{Mode}
use Rattle.grammar_reader.specs.declared.grammar.paths.Mode.TheVariants as modes
use Rattle.rust_productions.specs.Reads.{looks, Reads, Saw, is_on}
use Rattle.rust_productions.specs.declared.condition.Condition.{Condition}
use Rattle.rust_productions.proofs.ByHand.{does-as, does-then}
use Rattle.rust_productions.proofs.Seen.{saw-either-left}

pub after-colons : (m : Mode) {c : Condition} {v : View} → Saw c ('::' before '<') v true → Saw c (args_look m) v true
after-colons modes.Expr saw = saw
after-colons modes.Type saw = saw-either-left saw

-- arguments begin as a list of them does
weaker : (l m n : Look) (c : Bool) (s : Reading) → sees c s (Either l (Both m n)) ≡ true → sees c s (Either l m) ≡ true
unfolding sees
weaker l m n c s e = cases (sees c s l) (sees c s m) (sees c s n) e
  where
    cases : (x y z : Bool) → (if x then true else (if y then z else false)) ≡ true → (if x then true else y) ≡ true
    cases true y z f = refl
    cases false true z f = refl
    cases false false z f = f

first : (l m : Look) (c : Bool) (s : Reading) → sees c s l ≡ true → sees c s (Either l m) ≡ true
unfolding sees
first l m c s e = rw e refl

pub args-begin : (m : Mode) {c : Condition} {v : View} → Saw c (args_look m) v true → Saw c (looks rules.generic_args) v true
unfolding look_of begins_below whole rule items statements expressions patterns types paths there_at shift passes is_silent begins in_mode from_start row one_of any_of no_longer longest is_longer
args-begin modes.Expr {c} saw = record { at = λ s e. first _ _ (is_on c) s (saw.at s e) }
args-begin modes.Type {c} saw = record { at = λ s e. weaker _ _ _ (is_on c) s (saw.at s e) }

pub path-row : (m : Mode) → rule (path_of m) ≡ path_with (args_of m)
unfolding rule items statements expressions patterns types paths
path-row modes.Expr = refl
path-row modes.Type = refl

-- paths begin alike
pub paths-begin : (m : Mode) → looks (path_of m) ≡ looks rules.path
unfolding look_of begins_below whole rule items statements expressions patterns types paths there_at shift passes is_silent begins in_mode from_start row one_of any_of no_longer longest is_longer
paths-begin modes.Expr = refl
paths-begin modes.Type = refl

-- a part that replaces nothing at the end of two parts
pub reads-in-place : {c : Condition} {a b d : Rule} {old mid new : View} → Reads c (Then a (Then b Nothing)) old mid → Reads c d mid new → Reads c (Then a (Then b d)) old new
unfolding read
reads-in-place p q = record { does = does-as (λ s e. refl) (does-then p.does q.does) }

-- Where a path begins does not go by the mode.
pub any-mode : {c d : Condition} {b : Bool} {v : View} → Saw c (looks rules.path) v b → Saw d (looks rules.path) v b
unfolding look_of begins_below whole rule items statements expressions patterns types paths there_at shift passes is_silent begins in_mode from_start row one_of any_of no_longer longest is_longer sees
any-mode saw = record { at = λ s e. saw.at s e }

-- a word that is a keyword here, as one
pub as-word : {c : Condition} {k d w : ℕ} {r : Rule} {old new : View} → Reads c (Node k (Then (One (one d)) r)) old new → Reads c (Node k (Then (One (joined d (w ∷ []))) r)) old new
unfolding read
as-word p = record { does = does-as (λ s e. refl) p.does }

-- parts one after the other, however they are grouped
pub reads-flat : {c : Condition} {a b d : Rule} {old new : View} → Reads c (Then (Then a b) d) old new → Reads c (Then a (Then b d)) old new
unfolding read
reads-flat p = record { does = does-as (λ s e. refl) p.does }

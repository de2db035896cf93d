-- What a function of the grammar makes of the parser.
use Rattle.std.specs.Prelude.{◌≡◌, ℕ, suc, Bool, true, false, not, List, ◌∷◌}
use Rattle.parser_events.specs.Marked.{Marked, ◌beside◌, marked}
use Rattle.parser_events.specs.Stack.{IsInnermost}
use Rattle.parser_events.specs.View.{View}
use Rattle.rust_productions.specs.Stands.{left, Holds}
use Rattle.rust_grammar.specs.Rule.{Production, Look, Rule}
use Rattle.rust_grammar.specs.Meaning.{Reading, sees, fresh, after, is_end, read, look_of, meaning}
use Rattle.rust_grammar.specs.Whole.{whole}
pub use Rattle.rust_productions.specs.Moves.{Does, Opens, Closes, Leaves, Extends}
pub use Rattle.rust_productions.specs.declared.condition.Condition.{Condition}
pub use Rattle.rust_productions.specs.declared.condition.Condition.TheVariants.{On, Off}

-- condition mode, as the meaning of the grammar takes it
abbrev pub is_on : Condition → Bool
is_on On = true
is_on Off = false

-- where the productions begin
abbrev pub looks : Production → Look
looks = look_of whole

-- It reads what the production means.
pub record Gives (x : Production) (c : Condition) (old new : View) : Type 0 where
  pub does : Does (λ s. after s (meaning whole x (is_on c) (fresh s))) old new

-- It reads that as a continuation of the present production.
pub record Goes (x : Production) (c : Condition) (old new : View) : Type 0 where
  pub does : Does (meaning whole x (is_on c)) old new

-- It reads what the rule says.
pub record Reads (c : Condition) (r : Rule) (old new : View) : Type 0 where
  pub does : Does (read (look_of whole) (meaning whole) (is_on c) r) old new

-- It reads what the rule says of nothing given, and puts that after what was given before.
pub record FromStart (c : Condition) (r : Rule) (old new : View) : Type 0 where
  pub does : Does (λ s. after s (read (look_of whole) (meaning whole) (is_on c) r (fresh s))) old new

-- It reads what the rule says in the innermost node, and closes that: the trees, as the rule leaves them, stand in the node
-- around it, after those that this had.
pub record Completes (c : Condition) (r : Rule) (old new : View) : Type 0 where
  pub input : new.input ≡ old.input
  pub rest : (s : Reading) → left old ≡ s.rest → left new ≡ (read (look_of whole) (meaning whole) (is_on c) r s).rest
  pub nodes : (s : Reading) (around : Marked) (below : List Marked) → left old ≡ s.rest → Holds old.nodes (marked s.given ∷ around ∷ below) → Holds new.nodes ((around beside marked (read (look_of whole) (meaning whole) (is_on c) r s).given) ∷ below)
  pub innermost : (level : ℕ) → IsInnermost (suc level) old.nodes → IsInnermost level new.nodes

-- So it is where something was given in that node, or where nothing was.
pub record CompletesWhere (given : Bool) (c : Condition) (r : Rule) (old new : View) : Type 0 where
  pub input : new.input ≡ old.input
  pub rest : (s : Reading) → is_end s.given ≡ not given → left old ≡ s.rest → left new ≡ (read (look_of whole) (meaning whole) (is_on c) r s).rest
  pub nodes : (s : Reading) (around : Marked) (below : List Marked) → is_end s.given ≡ not given → left old ≡ s.rest → Holds old.nodes (marked s.given ∷ around ∷ below) → Holds new.nodes ((around beside marked (read (look_of whole) (meaning whole) (is_on c) r s).given) ∷ below)
  pub innermost : (level : ℕ) → IsInnermost (suc level) old.nodes → IsInnermost level new.nodes

-- what a look answers there
pub record Saw (c : Condition) (l : Look) (v : View) (answer : Bool) : Type 0 where
  pub at : (s : Reading) → left v ≡ s.rest → sees (is_on c) s l ≡ answer

-- What the calls of a parser make of it. The input stays as it is.
use Rattle.std.specs.Prelude.{◌≡◌, ℕ, suc, List, ◌∷◌}
use Rattle.parser_events.specs.Marked.{Marked, End, Node, ◌beside◌, into, marked}
use Rattle.parser_events.specs.Stack.{IsInnermost}
use Rattle.parser_events.specs.View.{View}
use Rattle.rust_grammar.specs.Meaning.{Reading}
use Rattle.rust_productions.specs.Stands.{left, Holds}

-- `f` maps the remaining tokens, and the trees of the innermost node unless an allocation failed, to the new ones. The
-- innermost node stays the innermost.
pub record Does (f : Reading → Reading) (old new : View) : Type 0 where
  pub input : new.input ≡ old.input
  pub rest : (s : Reading) → left old ≡ s.rest → left new ≡ (f s).rest
  pub nodes : (s : Reading) (below : List Marked) → left old ≡ s.rest → Holds old.nodes (marked s.given ∷ below) → Holds new.nodes (marked (f s).given ∷ below)
  pub innermost : (around : ℕ) → IsInnermost around old.nodes → IsInnermost around new.nodes

-- The input stays as it is, and a node that was the innermost is so again.
pub record Keeps (old new : View) : Type 0 where
  pub input : new.input ≡ old.input
  pub innermost : (around : ℕ) → IsInnermost around old.nodes → IsInnermost around new.nodes

-- a node is opened in the innermost one
pub record Opens (old new : View) : Type 0 where
  pub input : new.input ≡ old.input
  pub rest : left new ≡ left old
  pub nodes : (given : Marked) (below : List Marked) → Holds old.nodes (given ∷ below) → Holds new.nodes (End ∷ given ∷ below)
  pub innermost : (around : ℕ) → IsInnermost around old.nodes → IsInnermost (suc around) new.nodes

-- the innermost node is closed as one of this kind
pub record Closes (kind : ℕ) (old new : View) : Type 0 where
  pub input : new.input ≡ old.input
  pub rest : left new ≡ left old
  pub nodes : (inside given : Marked) (below : List Marked) → Holds old.nodes (inside ∷ given ∷ below) → Holds new.nodes ((given beside Node kind inside End) ∷ below)
  pub innermost : (around : ℕ) → IsInnermost (suc around) old.nodes → IsInnermost around new.nodes

-- the innermost node is left out
pub record Leaves (old new : View) : Type 0 where
  pub input : new.input ≡ old.input
  pub rest : left new ≡ left old
  pub nodes : (inside given : Marked) (below : List Marked) → Holds old.nodes (inside ∷ given ∷ below) → Holds new.nodes ((given beside inside) ∷ below)
  pub innermost : (around : ℕ) → IsInnermost (suc around) old.nodes → IsInnermost around new.nodes

-- the innermost node is left out; the trees of the node around it become the first children of the one tree in it
pub record Extends (old new : View) : Type 0 where
  pub input : new.input ≡ old.input
  pub rest : left new ≡ left old
  pub nodes : (inside given : Marked) (below : List Marked) → Holds old.nodes (inside ∷ given ∷ below) → Holds new.nodes (into given inside ∷ below)
  pub innermost : (around : ℕ) → IsInnermost (suc around) old.nodes → IsInnermost around new.nodes

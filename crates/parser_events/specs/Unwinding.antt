-- From the record's last entry to its first: the steps after a place, and the nodes that go on before it.
use Rattle.std.specs.Prelude.{ℕ, suc, ◌==◌, List, [], ◌∷◌, length, if◌then◌else◌}
use Rattle.parser_input.specs.Kinds.{FIELD_EXPR}
use Rattle.parser_events.specs.Nodes as nodes
use Rattle.parser_events.specs.Nodes.{Entry}
use Rattle.parser_events.specs.Steps.{Step, Token, FloatSplit, Enter, Exit, Error}

-- a node that ends after a place, and begins before it or there
pub record Pending : Type 0 where
  pub kind : ℕ
  pub start : ℕ

-- the nodes, the innermost first, and the steps in order
pub record Unwound : Type 0 where
  pub pending : List Pending
  pub laid : List Step

-- the nodes that begin at this place are entered
abbrev pub begun : ℕ → List Pending → List Step → Unwound
begun place [] laid = record { pending = []; laid = laid }
begun place (p ∷ ps) laid =
    let more = begun place ps (Enter p.kind ∷ laid) in
    let stop : Unwound = record { pending = p ∷ ps; laid = laid } in
    if p.start == place then more else stop

-- one entry is passed
abbrev pub passed : Entry → Unwound → Unwound
passed (nodes.Token kind count) s = record { pending = s.pending; laid = Token kind count ∷ s.laid }
passed (nodes.Said message) s = record { pending = s.pending; laid = Error message ∷ s.laid }
passed (nodes.Closed kind start) s = record { pending = record { kind = kind; start = start } ∷ s.pending; laid = Exit ∷ s.laid }
passed (nodes.Ended ends_in_dot start) s =
    record { pending = record { kind = FIELD_EXPR; start = start } ∷ s.pending; laid = FloatSplit ends_in_dot ∷ s.laid }

-- all entries are passed, the last first
abbrev pub unwind : List Entry → Unwound → Unwound
unwind [] s = begun 0 s.pending s.laid
unwind (e ∷ es) s = unwind es (passed e (begun (suc (length es)) s.pending s.laid))

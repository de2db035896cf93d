-- Which operator is next.
use Rattle.std.specs.Prelude.{◌≡◌, ℕ, ◌≤◌, ◌==◌, Bool, true, false, Option, Some, IfSome, length}
use Rattle.parser_input.specs.Kind.{raw_of}
use Rattle.parser_events.specs.View.{View}
use Rattle.rust_grammar.specs.Notation.{longest}
use Rattle.rust_grammar.specs.Rule.{Spelling, begins}
use Rattle.rust_grammar.specs.Meaning.{Reading, leaf, look_of, meaning, read}
use Rattle.rust_grammar.specs.Whole.{whole}
use Rattle.rust_grammar.specs.Words.{'dots', 'dots_eq'}
use Rattle.rust_productions.specs.Layers.{operators_at}
use Rattle.rust_productions.specs.Looks.{tokens}
use Rattle.rust_productions.specs.Reads.{looks, Saw, Condition, is_on}
use Rattle.rust_productions.specs.Stands.{left}
use Rattle.rust_productions.specs.declared.grammar.operators.Operator.{Operator}
use Rattle.rust_productions.specs.declared.grammar.operators.RangeMark.{RangeMark}
use Rattle.rust_productions.specs.declared.grammar.operators.RangeMark.TheVariants.{Exclusive, Inclusive}

-- Of the layers, and of `|>` and assignments above them, the operator's own begins here and no other one; its leaf is what that reads.
pub record IsNext (o : Operator) (v : View) : Type 0 where
  pub low : o.height ≤ 12
  pub some : 1 ≤ o.height → (1 ≤ o.width) × (o.width ≤ tokens v)
  pub sees : (c : Condition) (h : ℕ) → 1 ≤ h → h ≤ 12 → Saw c (begins looks (operators_at h)) v (o.height == h)
  pub reads : (c : Condition) (s : Reading) → 1 ≤ o.height → left v ≡ s.rest → read (look_of whole) (meaning whole) (is_on c) (operators_at o.height) s ≡ leaf (raw_of o.kind) o.width s

-- an operator of one of the layers is next
pub record IsLayerNext (o : Operator) (v : View) : Type 0 where
  pub next : IsNext o v
  pub some : 1 ≤ o.height
  pub high : o.height ≤ 10

-- the range operators
abbrev pub spelling_of : RangeMark → Spelling
spelling_of Exclusive = 'dots'
spelling_of Inclusive = 'dots_eq'

abbrev pub is_exclusive : Option RangeMark → Bool
is_exclusive (Some Exclusive) = true
is_exclusive m = false

abbrev pub is_inclusive : Option RangeMark → Bool
is_inclusive (Some Inclusive) = true
is_inclusive m = false

-- this mark is next, or none is
pub record IsMark (m : Option RangeMark) (v : View) : Type 0 where
  pub dots : (c : Condition) → Saw c (longest 'dots') v (is_exclusive m)
  pub dots_eq : (c : Condition) → Saw c (longest 'dots_eq') v (is_inclusive m)
  pub some : IfSome m (λ mark. length (spelling_of mark).parts ≤ tokens v)

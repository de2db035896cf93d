-- What is next when a function is called, and how a range operator is read.
use Rattle.std.specs.Prelude.{◌≡◌, ◌≤◌, Bool, true, false, IsTrue}
use Rattle.parser_input.specs.Kinds.{FLOAT_NUMBER, POUND, PUB_KW}
use Rattle.parser_events.specs.View.{View}
use Rattle.rust_grammar.specs.Expressions.{range_operand, range_to}
use Rattle.rust_grammar.specs.Notation.{◌▸◌}
use Rattle.rust_grammar.specs.Rule.{Joint, Kind, One, Spelling, begins}
use Rattle.rust_productions.specs.Looks.{tokens}
use Rattle.rust_productions.specs.Reads.{Reads, Saw, looks}
use Rattle.rust_productions.specs.declared.condition.Condition.{Condition}

-- A float is next; it touches the token after it if this says so.
pub record IsFloat (touches : Bool) (v : View) : Type 0 where
  pub float : (c : Condition) → Saw c (Kind 0 FLOAT_NUMBER) v true
  pub joint : (c : Condition) → Saw c (Joint 0) v touches
  pub some : 1 ≤ tokens v

-- A token is left, and it begins neither an attribute nor a visibility.
pub record IsBare (v : View) : Type 0 where
  pub plain : (c : Condition) → Saw c (Kind 0 POUND) v false
  pub hidden : (c : Condition) → Saw c (Kind 0 PUB_KW) v false
  pub some : 1 ≤ tokens v

-- A range operator is read, and its operand if one follows.
pub record EndsRange (c : Condition) (mark : Spelling) (operand : Bool) (old new : View) : Type 0 where
  pub near : Saw c (begins looks (range_to mark)) old operand
  pub to : IsTrue operand → Reads c (One mark ▸ range_operand) old new
  pub alone : operand ≡ false → Reads c (One mark) old new

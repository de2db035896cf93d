-- No attribute so far is one.
use Rattle.std.proofs.Common.{◌≡◌}
use Rattle.std.specs.List.{list_any}
use Rattle.rust_source.specs.Elements.{wanted_nodes}
use Rattle.must_use_tool.specs.Places.{has_must_use, is_must_use}
use Rattle.must_use_tool.proofs.has_must_use.Given as goal

abbrev pub invariant-loop-attribute : goal.invariant-loop-attribute
invariant-loop-attribute l = has_must_use l.function.syntax ≡ list_any is_must_use (wanted_nodes l.attribute-iterator)

-- The places so far, and those of the nodes that are left.
use Rattle.std.proofs.Common.{◌≡◌, ◌++◌, map}
use Rattle.std.specs.List.{filter_map}
use Rattle.rust_source.specs.Elements.{element_of, nodes_left}
use Rattle.must_use_tool.specs.Places.{place_of, places_in}
use Rattle.must_use_tool.proofs.places.Given as goal

abbrev pub invariant-loop-node : goal.invariant-loop-node
invariant-loop-node l = map element_of l.places.items ++ filter_map place_of (nodes_left l.node-iterator) ≡ places_in l.root

use Rattle.std.specs.Prelude.{◌≤◌}
use Rattle.rust_productions.specs.Looks.{spent, tokens}
use Rattle.ra_parser.proofs.Taking.{Taken}
use Rattle.ra_parser.proofs.entries.take_rest.Given as goal

abbrev pub invariant-tokens : goal.invariant-tokens
invariant-tokens l = record {
  taken : Taken l.initial.p l.p;
  looks : spent l.p ≤ spent l.initial.p;
}

abbrev pub decreases-tokens : goal.decreases-tokens
decreases-tokens l = tokens l.p

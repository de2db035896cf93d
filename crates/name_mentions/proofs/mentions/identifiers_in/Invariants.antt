use Rattle.std.proofs.Common.{◌≡◌, ◌≤◌, count_by, take}
use Rattle.name_mentions.specs.Mentions.{is_identifier}
use Rattle.name_mentions.proofs.mentions.identifiers_in.Given as goal

abbrev pub invariant-loop-i : goal.invariant-loop-i
invariant-loop-i l =
    record {
      few : l.count ≤ l.i;
      same : l.count ≡ count_by (is_identifier l.name) (take l.i l.tokens.leaves);
    }

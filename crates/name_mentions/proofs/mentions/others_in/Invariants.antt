use Rattle.std.proofs.Common.{◌≡◌, ◌++◌, drop}
use Rattle.parser_input.specs.Stored.{offset}
use Rattle.name_mentions.specs.Mentions.{mentions_from}
use Rattle.name_mentions.proofs.mentions.others_in.Given as goal

abbrev pub invariant-loop-i : goal.invariant-loop-i
invariant-loop-i l =
    l.found.items ++ mentions_from l.name (offset l.tokens.leaves l.i) (drop l.i l.tokens.leaves)
    ≡ mentions_from l.name 0 l.tokens.leaves

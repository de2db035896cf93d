use Rattle.std.proofs.Common.{◌≡◌, ◌+◌, ◌++◌, drop}
use Rattle.name_mentions.specs.Words.{names_from}
use Rattle.name_mentions.proofs.words.push_names.Given as goal

abbrev pub invariant-loop-i : goal.invariant-loop-i
invariant-loop-i l =
    l.found.items ++ names_from l.name l.place l.second l.last (l.start + l.i) (drop l.i l.text)
    ≡ l.fn.found.items ++ names_from l.name l.place 0 0 l.start l.text

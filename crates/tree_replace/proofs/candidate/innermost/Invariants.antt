-- One match less is open.
use Rattle.std.proofs.Common.{vec_len}
use Rattle.tree_replace.proofs.candidate.innermost.Given as goal

abbrev pub decreases-innermost : goal.decreases-innermost
decreases-innermost l = vec_len l.open

use Rattle.std.proofs.Common.{◌+◌, length}
use Rattle.path_globs.proofs.+is_match.Given as goal

abbrev pub decreases-is_match : goal.decreases-is_match
decreases-is_match l = length l.pattern.now + length l.text.now

use Rattle.std.proofs.Common.{length}
use Rattle.source_tools.proofs.renaming.+rename_bytes.Given as goal

abbrev pub decreases-rename_bytes : goal.decreases-rename_bytes
decreases-rename_bytes l = length l.renamings.now

use Rattle.source_tools.proofs.RenameLemmas.{memory-bytes}
use Rattle.source_tools.proofs.plan.change_of.Goals as goal

pub returns-in_default : goal.returns-in_default
returns-in_default c = memory-bytes c.args.renamings.now c.args.source.now.dialect c.args.contents.bytes.items

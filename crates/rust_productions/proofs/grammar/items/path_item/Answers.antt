-- Each path reads what the rule comes to there.
use Rattle.rust_productions.specs.Reads.{On}
use Rattle.rust_productions.proofs.ByHand.{completes-then, reads-call}
use Rattle.rust_productions.proofs.grammar.items.path_item.Goals as goal

pub after_path-requires : goal.after_path-requires
after_path-requires c = (c.path.ensures.gives On).does.innermost _ c.requires.innermost

pub returns-clause-completes : goal.returns-clause-completes
returns-clause-completes c = λ cond. completes-then (reads-call cond (c.path.ensures.gives cond)) (c.after_path.ensures.completes cond)

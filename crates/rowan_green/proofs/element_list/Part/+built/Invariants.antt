use Rattle.rowan_green.proofs.element_list.Part.+built.Given as goal

abbrev pub decreases-built : goal.decreases-built
decreases-built l = l.height

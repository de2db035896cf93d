use Rattle.rowan_green.proofs.element_list_join.+first.Given as goal

abbrev pub decreases-first : goal.decreases-first
decreases-first l = l.list.now.value.1

use Rattle.rowan_green.proofs.element_list_join.+last.Given as goal

abbrev pub decreases-last : goal.decreases-last
decreases-last l = l.list.now.value.1

use Rattle.rowan_green.proofs.element_list.ElementList.+start_of.Given as goal

abbrev pub decreases-start_of : goal.decreases-start_of
decreases-start_of l = l.self.now.1

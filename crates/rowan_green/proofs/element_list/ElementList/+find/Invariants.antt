use Rattle.rowan_green.proofs.element_list.ElementList.+find.Given as goal

abbrev pub decreases-find : goal.decreases-find
decreases-find l = l.self.now.1

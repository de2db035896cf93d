use Rattle.syntax_editor.proofs.ByWayLemmas.{number_at-put}
use Rattle.syntax_editor.proofs.by_way.put.Goals as goal

pub returns-clause-ok : goal.returns-clause-ok
returns-clause-ok c = number_at-put c.args.singles.now c.insert.new.self (record { 0 = c.args.element }) c.args.number c.in_ok-insert.ensures.updates

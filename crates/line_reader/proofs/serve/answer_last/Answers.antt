use Rattle.line_reader.proofs.ServeLemmas.{last-none, last-unwritten, last-written}
use Rattle.line_reader.proofs.serve.answer_last.Goals as goal

pub returns-then-is_empty-clause-written : goal.returns-then-is_empty-clause-written
returns-then-is_empty-clause-written g c = λ begun plain kept. last-none _ _ begun ((c.is_empty.ensures _ begun kept).0 c.if-is_empty.true)

pub returns-clause-written : goal.returns-clause-written
returns-clause-written g c = last-written _ _ _ _ _ _ _ _ c.is_empty.ensures c.if-is_empty.false c.answer_line.ensures.written

pub returns-clause-front : goal.returns-clause-front
returns-clause-front g c = last-unwritten _ _ _ _ _ _ _ _ c.is_empty.ensures c.if-is_empty.false c.answer_line.ensures.front

use Rattle.rustc_lexer.proofs.Cutting.{each-takes, each-length, lengths-sum}
use Rattle.rustc_lexer.proofs.laws.lengths_sum.Goals as goal

pub returns-clause-characters : goal.returns-clause-characters
returns-clause-characters c = each-takes

pub returns-clause-bytes : goal.returns-clause-bytes
returns-clause-bytes c = each-length

pub returns-clause-whole : goal.returns-clause-whole
returns-clause-whole c = lengths-sum

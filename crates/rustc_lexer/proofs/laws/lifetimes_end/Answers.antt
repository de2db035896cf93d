use Rattle.rustc_lexer.proofs.LifetimeEnds.{lifetimes-end, quoted-names, raw-lifetimes}
use Rattle.rustc_lexer.proofs.laws.lifetimes_end.Goals as goal

pub returns-clause-plain : goal.returns-clause-plain
returns-clause-plain c = lifetimes-end

pub returns-clause-quoted : goal.returns-clause-quoted
returns-clause-quoted c = quoted-names

pub returns-clause-raw : goal.returns-clause-raw
returns-clause-raw c = raw-lifetimes

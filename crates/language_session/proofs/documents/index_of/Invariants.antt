use Rattle.language_session.proofs.Found.{IsBehind}
use Rattle.language_session.proofs.documents.index_of.Given as goal

abbrev pub invariant-loop-i : goal.invariant-loop-i
invariant-loop-i l = IsBehind l.uri l.documents l.i

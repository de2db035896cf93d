use Rattle.rustc_lexer.proofs.CommentEnds.{comments-nest}
use Rattle.rustc_lexer.proofs.laws.comments_nest.Goals as goal

pub returns : goal.returns
returns c = comments-nest

use Rattle.std.proofs.Common.{sym, refl}
use Rattle.parser_input.proofs.PrefaceSteps.{opened-none, opened-some}
use Rattle.parser_input.proofs.lexed_str.push_frontmatter.Goals as goal

pub returns-in-None : goal.returns-in-None
returns-in-None c = opened-none c.args.text.now c.args.start c.args.leaves.now.items c.requires (sym c.in-None.ensures)

pub returns-in_ok-push-in-Some : goal.returns-in_ok-push-in-Some
returns-in_ok-push-in-Some c = opened-some c.args.text.now c.args.start c.args.leaves.now.items c.push.new.self.items _ c.utf8.text c.requires (sym c.in-Some.ensures) refl refl c.in_ok-push-in-Some.ensures.items

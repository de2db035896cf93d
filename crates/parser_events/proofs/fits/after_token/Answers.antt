-- The tokens after what is pending.
use Rattle.parser_events.proofs.Fittings.{token-leads, token-misfits}
use Rattle.parser_events.proofs.fits.after_token.Goals as goal

pub returns-in-Some : goal.returns-in-Some
returns-in-Some c kind =
    token-leads c.args.lexed.now.leaves kind c.args.start c.pending_end-first.result c.args.n c.in-Some.end c.pending_end-first.ensures.end c.pending_end-first.ensures.within
    c.in-Some.ensures.0 c.in-Some.ensures.1

pub returns-in-None : goal.returns-in-None
returns-in-None c kind =
    token-misfits c.args.lexed.now.leaves kind c.args.start c.pending_end-first.result c.args.n c.pending_end-first.ensures.end c.in-None.ensures

-- The float after what is pending.
use Rattle.std.proofs.Common.{refl, sym, ◌∙◌, arith}
use Rattle.parser_events.proofs.Fittings.{split-end, split-leads, split-misfits}
use Rattle.parser_events.proofs.fits.after_split.Goals as goal

pub returns-then-first-len : goal.returns-then-first-len
returns-then-first-len c =
    split-misfits c.args.lexed.now.leaves c.args.expected c.args.start c.pending_end-first.result c.pending_end-first.ensures.end
    (sym (split-end c.args.lexed.now.leaves c.args.expected c.pending_end-first.result (omega (arith, c.if-first-len.true, c.len.ensures))))

pub returns-then-not-is_split_at : goal.returns-then-not-is_split_at
returns-then-not-is_split_at c =
    split-misfits c.args.lexed.now.leaves c.args.expected c.args.start c.pending_end-first.result c.pending_end-first.ensures.end
    (sym c.is_split_at.ensures ∙ c.if-not-is_split_at.true)

pub returns : goal.returns
returns c =
    split-leads c.args.lexed.now.leaves c.args.expected c.args.start c.pending_end-first.result _ c.pending_end-first.ensures.end c.pending_end-first.ensures.within refl
    (sym c.is_split_at.ensures ∙ c.if-not-is_split_at.false)

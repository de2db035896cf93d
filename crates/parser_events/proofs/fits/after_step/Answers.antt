-- Nodes and messages take no leaf.
use Rattle.std.proofs.Common.{MatchOption, sym, ap, subst}
use Rattle.parser_input.specs.Kind.{raw_of}
use Rattle.parser_events.specs.Fitting.{Leads, Misfits}
use Rattle.parser_events.specs.Seen.{step_of}
use Rattle.parser_events.specs.Steps as steps
use Rattle.parser_events.proofs.Fittings.{either-way}
use Rattle.parser_events.proofs.fits.after_step.Goals as goal

pub returns-in-Token : goal.returns-in-Token
returns-in-Token c =
    let ls = c.args.lexed.now.leaves in
    subst (λ (s : steps.Step). MatchOption c.after_token.result (Misfits ls s c.args.start) (λ next. Leads ls s c.args.start next)) (sym (ap step_of c.in-Token.is))
    (either-way ls (raw_of c.in-Token.kind) c.args.start c.in-Token.n_input_tokens c.after_token.result c.after_token.ensures)

-- The steps of an entry fit every text with its input.
use Rattle.std.proofs.Common.{◌≡◌, ◌∙◌, true, List, refl, ap}
use Rattle.parser_input.specs.Input.{Token}
use Rattle.parser_events.specs.Fits.{fits}
use Rattle.parser_events.specs.Steps.{Step, steps}
use Rattle.rust_grammar.specs.Entry.{entry}
use Rattle.rust_grammar.specs.Laws.{is_entry}
use Rattle.rust_grammar.specs.Whole.{whole}
use Rattle.rust_grammar.proofs.EntriesFit.{entry-fits}
use Rattle.ra_parser.specs.Entries.{FitEveryText, production_of}
use Rattle.ra_parser.specs.declared.entry_points.TopEntryPoint.{TopEntryPoint}
use Rattle.ra_parser.specs.declared.entry_points.TopEntryPoint.TheVariants as tops

is-top : (top : TopEntryPoint) → is_entry (production_of top) ≡ true
unfolding is_entry
is-top tops.SourceFile = refl
is-top tops.MacroStmts = refl
is-top tops.MacroItems = refl
is-top tops.Pattern = refl
is-top tops.Ty = refl
is-top tops.Expr = refl
is-top tops.MetaItem = refl

pub fit-every : (top : TopEntryPoint) (tokens : List Token) (ss : List Step) → ss ≡ steps (entry whole (production_of top) tokens) → FitEveryText tokens ss
fit-every top tokens ss are = λ wide edition leaves same.
    ap (λ (l : List Step). fits l leaves) (are ∙ ap (λ (ts : List Token). steps (entry whole (production_of top) ts)) same)
    ∙ entry-fits (production_of top) wide edition leaves (is-top top)

use Rattle.std.proofs.Common.{◌∙◌, ap, map}
use Rattle.std.proofs.lemmas.Result.{IfOk-weaker}
use Rattle.rust_source.specs.RangedErrors.{ranged}
use Rattle.document_views.proofs.Firsts.{shown-first}
use Rattle.document_views.proofs.listing.diagnostics.Goals as goal

pub returns : goal.returns
returns c =
    IfOk-weaker c.diagnostics_of.result _ _
    (λ list is. is ∙ shown-first c.args.encoding _ _ _ _ _ 1000 _ (c.in_ok-index.ensures ∙ c.text.ensures.text) c.split_at.ensures.front c.min-count.ensures (ap (map ranged) c.as_slice-errors.ensures.value ∙ c.in_ok-errors.ensures))
    c.diagnostics_of.ensures

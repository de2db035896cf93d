use Rattle.std.proofs.Common.{◌≡◌}
use Rattle.rust_document.proofs.Boundaries.{at-start, at-end}
use Rattle.kept_document.proofs.kept.edited.Goals as goal

pub range-front-requires-clause-end_boundary : goal.range-front-requires-clause-end_boundary
range-front-requires-clause-end_boundary c =
    let same : c.from.result ≡ c.args.range.start.0 = cc in
    at-start _ _ _ _ c.requires.at_boundaries same

pub range_from-back-requires : goal.range_from-back-requires
range_from-back-requires c =
    let same : c.from-2.result ≡ c.args.range.end.0 = cc in
    λ _. at-end _ _ _ _ c.requires.at_boundaries same

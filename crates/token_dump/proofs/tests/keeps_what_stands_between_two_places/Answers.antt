use Rattle.std.proofs.Common.{◌∙◌, ℕ, List, ap, drop}
use Rattle.rustc_lexer.proofs.Alike.{two_ones}
use Rattle.token_dump.proofs.tests.keeps_what_stands_between_two_places.Goals as goal

pub until-requires : goal.until-requires
until-requires g c =
    (2, two_ones c.new-start.result (c.bump.ensures ∙ ap (λ (t : List ℕ). drop 1 t) c.here-end.ensures) c.bump-2.ensures)

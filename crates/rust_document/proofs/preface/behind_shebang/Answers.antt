-- A shebang ends at a boundary of characters.
use Rattle.std.proofs.Common.{chars, ap, sym, ◌∙◌}
use Rattle.rust_document.proofs.Prefaces.{shebang-end, shebang-rest, no-shebang}
use Rattle.rust_document.proofs.preface.behind_shebang.Goals as goal

pub range_from-requires : goal.range_from-requires
range_from-requires c = λ _. shebang-end c.args.text.now c.in-Some.end c.utf8.text (sym c.requires ∙ c.in-Some.is)

pub returns-in-Some : goal.returns-in-Some
returns-in-Some c =
    ap chars c.range_from.ensures.value ∙ shebang-rest c.args.text.now c.in-Some.end c.utf8.text (sym c.requires ∙ c.in-Some.is)

pub returns-in-None : goal.returns-in-None
returns-in-None c = no-shebang (chars c.args.text.now) (sym c.requires ∙ c.in-None.is)

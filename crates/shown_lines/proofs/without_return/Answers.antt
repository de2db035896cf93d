use Rattle.std.proofs.Common.{◌≡◌, [], ◌∷◌, false, eqb, sym}
use Rattle.std.specs.List.{ends_with}
use Rattle.std.proofs.lemmas.Str.Pattern.{ends_text}
use Rattle.shown_lines.proofs.without_return.Goals as goal

pub returns-in-None : goal.returns-in-None
returns-in-None c =
    let line = c.args.line.now in
    let no : false ≡ ends_with eqb line (13 ∷ []) = ends_text false (13 ∷ []) line c.in-None.ensures.cases in
    rw (sym no)

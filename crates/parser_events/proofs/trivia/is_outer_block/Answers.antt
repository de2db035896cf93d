use Rattle.std.proofs.Common.{◌==◌, Bool, get_or, [], ◌∷◌, ap, not, chars, ◌∙◌, arith}
use Rattle.parser_events.specs.Trivia.{begins_with}
use Rattle.parser_events.proofs.Comments.{and-same, and-twice, only-three}
use Rattle.parser_events.proofs.trivia.is_outer_block.Goals as goal

pub returns : goal.returns
returns c =
    let t = chars c.args.text.now in
    let begun : Bool = begins_with (47 ∷ 42 ∷ 42 ∷ []) t in
    let no_star : Bool = not (begins_with (47 ∷ 42 ∷ 42 ∷ 42 ∷ []) t) in
    let no_slash : Bool = not (begins_with (47 ∷ 42 ∷ 42 ∷ 47 ∷ []) t) in
    and-same _ _ _ _ (and-same _ _ _ _ c.begins_with.ensures (ap not c.begins_with-2.ensures)) (ap not c.begins_with-3.ensures)
    ∙ and-twice begun no_star no_slash (not (get_or t 3 0 == 42)) (not (get_or t 3 0 == 47))
    (only-three 47 42 42 42 t (omega arith)) (only-three 47 42 42 47 t (omega arith))

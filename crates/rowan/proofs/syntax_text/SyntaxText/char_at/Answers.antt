use Rattle.rowan.proofs.Characters.{char_of_part}
use Rattle.rowan.proofs.syntax_text.SyntaxText.char_at.Goals as goal

pub returns : goal.returns
returns c =
    let p = c.part-part.ensures in
    char_of_part _ _ c.part-part.result.start c.part-part.result.len c.args.offset.0 c.char_in.result p.within p.text c.char_in.ensures

use Rattle.std.proofs.Common.{◌<◌, ◌∙◌, sym, ap, subst, drop, chars, get_or}
use Rattle.rustc_lexer.proofs.Seams.{seam-ascii}
use Rattle.rustc_lexer.proofs.cursor.Cursor.bump_ascii.Goals as goal

pub range_from-self-inside-requires : goal.range_from-self-inside-requires
range_from-self-inside-requires c =
    let bs = c.self.inside.rest.now in
    let view = sym c.self.view_is in
    let place = seam-ascii bs c.self.invariant (subst (λ z. 0 < get_or z 0 0) view c.requires.some) (subst (λ z. get_or z 0 0 < 128) view c.requires.ascii) in
    λ _. place.boundary

pub returns : goal.returns
returns c =
    let bs = c.self.inside.rest.now in
    let view = sym c.self.view_is in
    let place = seam-ascii bs c.self.invariant (subst (λ z. 0 < get_or z 0 0) view c.requires.some) (subst (λ z. get_or z 0 0 < 128) view c.requires.ascii) in
    ap chars c.range_from-self-inside.ensures.value ∙ place.left ∙ ap (λ z. drop 1 z) c.self.view_is

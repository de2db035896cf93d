use Rattle.std.proofs.Common.{sym, ◌∙◌, ap}
use Rattle.rowan.specs.Place.{index_of}
use Rattle.rowan.specs.Sound.{place_from, place_of}
use Rattle.rowan.proofs.cursor.SyntaxNode.index.Goals as goal

pub returns-in-Child : goal.returns-in-Child
returns-in-Child c =
    sym (ap (λ s. index_of (place_from c.deref.result.now.green s)) c.in-Child.is) ∙ ap index_of (ap place_of c.deref.ensures ∙ c.self.view_is)

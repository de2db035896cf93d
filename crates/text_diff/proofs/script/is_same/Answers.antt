use Rattle.std.proofs.Common.{◌≡◌, ◌∙◌, sym, map, get_or, List, ℕ, []}
use Rattle.std.proofs.lemmas.List.{get_or-map}
use Rattle.std.proofs.lemmas.Slice.Eq.{bytes_eq-Decides}
use Rattle.text_diff.proofs.script.is_same.Goals as goal

pub returns : goal.returns
returns c =
    let old = get_or-map (λ l. l.now) c.args.old.now c.args.i _ [] c.if-i-old.false in
    let new = get_or-map (λ l. l.now) c.args.new.now c.args.j _ [] c.if-j-new.false in (
      λ t. (c.if-i-old.false, c.if-j-new.false, old ∙ (bytes_eq-Decides _ _).0 (sym c.eq.ensures ∙ t) ∙ sym new),
      λ h. c.eq.ensures ∙ (bytes_eq-Decides _ _).1 (sym old ∙ h.2 ∙ new),
    )

use Rattle.std.proofs.Common.{◌≡◌, ◌∙◌, sym, map, get_or, List, ℕ, [], ◌-◌, length, arith, ap, not}
use Rattle.std.proofs.lemmas.Bool.{false≢true}
use Rattle.std.proofs.lemmas.List.{get_or-map}
use Rattle.std.proofs.lemmas.Slice.Eq.{bytes_eq-Decides}
use Rattle.text_diff.proofs.script.same_end.Goals as goal

pub returns-then-ne-clause-last : goal.returns-then-ne-clause-last
returns-then-ne-clause-last c =
    let k = c.loop-k.k in
    let old = get_or-map (λ l. l.now) c.args.old.now (length c.args.old.now - 1 - k) _ [] (omega (arith, c.loop-k-test.true, c.requires.old_lines)) in
    let new = get_or-map (λ l. l.now) c.args.new.now (length c.args.new.now - 1 - k) _ [] (omega (arith, c.loop-k-test.true, c.requires.new_lines)) in
    λ within equal. false≢true (ap not (sym ((bytes_eq-Decides _ _).1 (sym old ∙ equal ∙ new))) ∙ sym c.ne.ensures ∙ c.if-ne.true)

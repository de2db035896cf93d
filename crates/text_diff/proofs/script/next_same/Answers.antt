use Rattle.std.proofs.Common.{◌≡◌, ◌∙◌, ◌+◌, ◌-◌, [], ap, sym, arith, get_or, length, map, ℕ, List}
use Rattle.std.proofs.lemmas.List.{length-map}
use Rattle.text_diff.specs.Lines.{Line}
use Rattle.text_diff.proofs.script.next_same.Goals as goal

pub returns-then-is_same-clause-last : goal.returns-then-is_same-clause-last
returns-then-is_same-clause-last c =
    let old : List Line = map (λ l. l.now) c.args.old.now in
    let new : List Line = map (λ l. l.now) c.args.new.now in
    let i = c.args.i in
    let j = c.args.j in
    let distance = c.loop-distance.distance in
    let removed = c.loop-removed.removed in
    let same = c.is_same.ensures.0 c.if-is_same.true in
    let old_len : length old ≡ length c.args.old.now = length-map c.args.old.now (λ l. l.now) in
    let new_len : length new ≡ length c.args.new.now = length-map c.args.new.now (λ l. l.now) in
    λ after_i after_j equal.
    let p : i + (removed - 1) ≡ i + removed - 1 = omega (arith, after_i) in
    let at : j + (distance - 2 - (removed - 1)) ≡ j + (distance - removed) - 1 = omega (arith, after_i, after_j) in
    c.loop-distance.invariant (distance - 2) (removed - 1) (omega (arith, after_i, after_j)) (omega (arith, after_i, after_j)) (
      omega (arith, after_i, old_len, same.0),
      omega (arith, after_i, after_j, new_len, same.1),
      ap (λ n. get_or old n []) p ∙ equal ∙ sym (ap (λ n. get_or new n []) at),
    )

use Rattle.std.proofs.Common.{◌≡◌, ◌+◌, ◌++◌, List, length, slice_index_or, refl, sym, ap, ◌∙◌, arith}
use Rattle.rowan_green.specs.declared.arena.Entry.{Entry}
use Rattle.rowan_green.specs.declared.arena.Entry.TheVariants.{Short}
use Rattle.rowan_green.proofs.ArenaGrowing.{drop_last, rest_is}
use Rattle.rowan_green.proofs.growing.push_rest.Goals as goal

pub returns-then-done-first-eq1-clause-ok : goal.returns-then-done-first-eq1-clause-ok
returns-then-done-first-eq1-clause-ok c =
    let es = c.args.entries.now.items in
    let ds = c.args.done.now in
    let i = c.args.first in
    let n : length ds ≡ i + 1 = grind (arith, c.if-done-first-eq1.true) in
    c.in_ok-push.ensures.items ∙ ap (λ (xs : List Entry). es ++ xs) (sym (drop_last ds i (Short 0 0 0) n))

pub returns-clause-ok : goal.returns-clause-ok
returns-clause-ok c =
    let es = c.args.entries.now.items in
    c.in_ok-extend_from_slice.ensures.items ∙ ap (λ (xs : List Entry). es ++ xs) (rest_is c.args.done.now c.args.done.now c.args.first refl)

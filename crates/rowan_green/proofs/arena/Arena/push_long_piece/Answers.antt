use Rattle.std.proofs.Common.{◌≡◌, ◌+◌, ◌-◌, ◌++◌, [], ◌∷◌, length, string_bytes, refl, sym, subst, ap, arith, rules}
use Rattle.rowan_green.specs.Arena.{IsTextRange}
use Rattle.rowan_green.specs.declared.arena.Arena.{Arena}
use Rattle.rowan_green.specs.declared.arena.Record.{Record}
use Rattle.rowan_green.specs.declared.arena.Entry.TheVariants.{Long}
use Rattle.rowan_green.proofs.ArenaGrowing.{growing_parts, grew, long_piece, used_cut}
use Rattle.rowan_green.proofs.arena.Arena.push_long_piece.Goals as goal

pub returns-clause-growing : goal.returns-clause-growing
returns-clause-growing c =
    let a = c.args.self.now in
    let t = string_bytes a.text in
    let rs = a.records.items in
    let ds = c.args.done.now.items in
    let len = c.args.len in
    let end = c.end_after-end.result in
    let r : Record = record { start = a.used; len = end - a.used; first = 0; count = 0 } in
    let size : end - a.used ≡ len = omega (arith, c.end_after-end.ensures) in
    let number : c.len-number.result ≡ length rs = grind arith in
    let g : c.push.new.self.items ≡ rs ++ r ∷ [] = search rules in
    let f : c.push-2.new.self.items ≡ ds ++ Long c.args.kind c.len-number.result ∷ [] = search rules in
    let range : IsTextRange t a.used len = record { from = used_cut a ds c.requires.growing; to = c.requires.cut } in
    let q = long_piece t rs a.entries.items ds a.used c.args.kind len c.len-number.result r (growing_parts a ds c.requires.growing) range c.requires.cut.0 number refl size in
    let b : Arena = record { text = a.text; entries = a.entries; records = c.push.new.self; used = end } in
    (grew b c.push-2.new.self.items _ _ _ _ _ _ refl g refl f c.end_after-end.ensures q).growing

pub returns-clause-ok : goal.returns-clause-ok
returns-clause-ok c =
    let a = c.args.self.now in
    let t = string_bytes a.text in
    let rs = a.records.items in
    let ds = c.args.done.now.items in
    let len = c.args.len in
    let end = c.end_after-end.result in
    let r : Record = record { start = a.used; len = end - a.used; first = 0; count = 0 } in
    let size : end - a.used ≡ len = omega (arith, c.end_after-end.ensures) in
    let number : c.len-number.result ≡ length rs = grind arith in
    let g : c.push.new.self.items ≡ rs ++ r ∷ [] = search rules in
    let f : c.push-2.new.self.items ≡ ds ++ Long c.args.kind c.len-number.result ∷ [] = search rules in
    let range : IsTextRange t a.used len = record { from = used_cut a ds c.requires.growing; to = c.requires.cut } in
    let q = long_piece t rs a.entries.items ds a.used c.args.kind len c.len-number.result r (growing_parts a ds c.requires.growing) range c.requires.cut.0 number refl size in
    let b : Arena = record { text = a.text; entries = a.entries; records = c.push.new.self; used = end } in
    (grew b c.push-2.new.self.items _ _ _ _ _ _ refl g refl f c.end_after-end.ensures q).terms

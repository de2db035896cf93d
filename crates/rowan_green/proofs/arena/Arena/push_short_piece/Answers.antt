use Rattle.std.proofs.Common.{◌≡◌, ◌+◌, ◌++◌, [], ◌∷◌, length, string_bytes, refl, sym, subst, ap, arith, rules}
use Rattle.rowan_green.specs.Arena.{IsTextRange}
use Rattle.rowan_green.specs.declared.arena.Arena.{Arena}
use Rattle.rowan_green.specs.declared.arena.Entry.TheVariants.{Short}
use Rattle.rowan_green.proofs.ArenaGrowing.{growing_parts, grew, short_piece, used_cut}
use Rattle.rowan_green.proofs.arena.Arena.push_short_piece.Goals as goal

pub returns-clause-growing : goal.returns-clause-growing
returns-clause-growing c =
    let a = c.args.self.now in
    let t = string_bytes a.text in
    let ds = c.args.done.now.items in
    let len = c.args.len in
    let d : c.deref.result.now ≡ ds = c.deref.ensures.value in
    let f : c.push.new.self.items ≡ ds ++ Short len c.args.kind a.used ∷ [] = search rules in
    let range : IsTextRange t a.used len = record { from = used_cut a ds c.requires.growing; to = c.requires.cut } in
    let q = short_piece t a.records.items a.entries.items ds a.used c.args.kind len (growing_parts a ds c.requires.growing) range c.requires.cut.0 in
    let b : Arena = record { text = a.text; entries = a.entries; records = a.records; used = c.end_after-end.result } in
    (grew b c.push.new.self.items _ _ _ _ _ _ refl refl refl f c.end_after-end.ensures q).growing

pub returns-clause-ok : goal.returns-clause-ok
returns-clause-ok c =
    let a = c.args.self.now in
    let t = string_bytes a.text in
    let ds = c.args.done.now.items in
    let len = c.args.len in
    let d : c.deref.result.now ≡ ds = c.deref.ensures.value in
    let f : c.push.new.self.items ≡ ds ++ Short len c.args.kind a.used ∷ [] = search rules in
    let range : IsTextRange t a.used len = record { from = used_cut a ds c.requires.growing; to = c.requires.cut } in
    let q = short_piece t a.records.items a.entries.items ds a.used c.args.kind len (growing_parts a ds c.requires.growing) range c.requires.cut.0 in
    let b : Arena = record { text = a.text; entries = a.entries; records = a.records; used = c.end_after-end.result } in
    (grew b c.push.new.self.items _ _ _ _ _ _ refl refl refl f c.end_after-end.ensures q).terms

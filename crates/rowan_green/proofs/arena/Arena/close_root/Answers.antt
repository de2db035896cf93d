use Rattle.std.proofs.Common.{◌≡◌, ◌+◌, ◌<◌, ◌^◌, ◌++◌, [], ◌∷◌, length, string_bytes, refl, rules, arith}
use Rattle.std.proofs.lemmas.Str.{IsUtf8-string_bytes}
use Rattle.rowan_green.specs.declared.arena.Arena.{Arena}
use Rattle.rowan_green.specs.declared.arena.Record.{Record}
use Rattle.rowan_green.specs.declared.arena.Entry.TheVariants.{Many}
use Rattle.rowan_green.proofs.ArenaGrowing.{growing_parts}
use Rattle.rowan_green.proofs.ArenaRoots.{root_of, root_closed}
use Rattle.rowan_green.proofs.arena.Arena.close_root.Goals as goal

pub returns-clause-growing : goal.returns-clause-growing
returns-clause-growing c =
    let a = c.args.self.now in
    let t = string_bytes a.text in
    let rs = a.records.items in
    let es = a.entries.items in
    let ds = c.args.done.now.items in
    let r : Record = record { start = 0; len = a.used; first = length es; count = length ds } in
    let x = Many c.args.kind (length rs) in
    let e : c.push.new.self.items ≡ (es ++ ds) ++ x ∷ [] = search rules in
    let g : c.push-2.new.self.items ≡ rs ++ r ∷ [] = search rules in
    let f : c.push-3.new.self.items ≡ x ∷ [] = search rules in
    let room : length es + length ds + 1 < 2 ^ 32 = grind arith in
    let q = root_closed t rs es ds a.used c.args.kind (length rs) r (growing_parts a ds c.requires.growing) (IsUtf8-string_bytes a.text) room refl refl refl refl refl in
    let b : Arena = record { text = a.text; entries = c.push.new.self; records = c.push-2.new.self; used = a.used } in
    (root_of b c.push-3.new.self.items _ _ _ _ _ _ refl g e f refl q).grew.growing

pub returns-clause-ok : goal.returns-clause-ok
returns-clause-ok c =
    let a = c.args.self.now in
    let t = string_bytes a.text in
    let rs = a.records.items in
    let es = a.entries.items in
    let ds = c.args.done.now.items in
    let r : Record = record { start = 0; len = a.used; first = length es; count = length ds } in
    let x = Many c.args.kind (length rs) in
    let e : c.push.new.self.items ≡ (es ++ ds) ++ x ∷ [] = search rules in
    let g : c.push-2.new.self.items ≡ rs ++ r ∷ [] = search rules in
    let f : c.push-3.new.self.items ≡ x ∷ [] = search rules in
    let room : length es + length ds + 1 < 2 ^ 32 = grind arith in
    let q = root_closed t rs es ds a.used c.args.kind (length rs) r (growing_parts a ds c.requires.growing) (IsUtf8-string_bytes a.text) room refl refl refl refl refl in
    let b : Arena = record { text = a.text; entries = c.push.new.self; records = c.push-2.new.self; used = a.used } in
    (root_of b c.push-3.new.self.items _ _ _ _ _ _ refl g e f refl q).grew.terms

pub returns-clause-last : goal.returns-clause-last
returns-clause-last c =
    let a = c.args.self.now in
    let t = string_bytes a.text in
    let rs = a.records.items in
    let es = a.entries.items in
    let ds = c.args.done.now.items in
    let r : Record = record { start = 0; len = a.used; first = length es; count = length ds } in
    let x = Many c.args.kind (length rs) in
    let e : c.push.new.self.items ≡ (es ++ ds) ++ x ∷ [] = search rules in
    let g : c.push-2.new.self.items ≡ rs ++ r ∷ [] = search rules in
    let f : c.push-3.new.self.items ≡ x ∷ [] = search rules in
    let room : length es + length ds + 1 < 2 ^ 32 = grind arith in
    let q = root_closed t rs es ds a.used c.args.kind (length rs) r (growing_parts a ds c.requires.growing) (IsUtf8-string_bytes a.text) room refl refl refl refl refl in
    let b : Arena = record { text = a.text; entries = c.push.new.self; records = c.push-2.new.self; used = a.used } in
    (root_of b c.push-3.new.self.items _ _ _ _ _ _ refl g e f refl q).last

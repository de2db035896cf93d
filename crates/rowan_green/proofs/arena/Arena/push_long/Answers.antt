use Rattle.std.proofs.Common.{◌≡◌, ◌+◌, ◌++◌, [], ◌∷◌, length, string_bytes, length-append, refl, ap, arith, rules}
use Rattle.std.proofs.lemmas.Str.{IsUtf8-string_bytes}
use Rattle.rowan_green.specs.declared.arena.Arena.{Arena}
use Rattle.rowan_green.specs.declared.arena.Record.{Record}
use Rattle.rowan_green.specs.declared.arena.Entry.TheVariants.{Long}
use Rattle.rowan_green.proofs.ArenaGrowing.{growing_parts, grew, long_pushed}
use Rattle.rowan_green.proofs.arena.Arena.push_long.Goals as goal

pub returns-clause-growing : goal.returns-clause-growing
returns-clause-growing c =
    let a = c.args.self.now in
    let t = string_bytes a.text in
    let more = c.args.text.now in
    let rs = a.records.items in
    let ds = c.args.done.now.items in
    let r : Record = record { start = length t; len = length more; first = 0; count = 0 } in
    let e : string_bytes c.push_str.new.self ≡ t ++ more = search rules in
    let g : c.push.new.self.items ≡ rs ++ r ∷ [] = search rules in
    let f : c.push-2.new.self.items ≡ ds ++ Long c.args.kind (length rs) ∷ [] = search rules in
    let q = long_pushed t more rs a.entries.items ds a.used c.args.kind (length rs) r (growing_parts a ds c.requires.growing) c.requires.whole (IsUtf8-string_bytes a.text) c.utf8.text c.requires.fits refl refl refl in
    let n : c.len-used.result ≡ length (string_bytes c.push_str.new.self) = grind arith in
    let k : c.len-used.result ≡ a.used + length more = omega (arith, n, ap length e, length-append t more, c.requires.whole) in
    let b : Arena = record { text = c.push_str.new.self; entries = a.entries; records = c.push.new.self; used = c.len-used.result } in
    (grew b c.push-2.new.self.items _ _ _ _ _ _ e g refl f k q).growing

pub returns-clause-ok : goal.returns-clause-ok
returns-clause-ok c =
    let a = c.args.self.now in
    let t = string_bytes a.text in
    let more = c.args.text.now in
    let rs = a.records.items in
    let ds = c.args.done.now.items in
    let r : Record = record { start = length t; len = length more; first = 0; count = 0 } in
    let e : string_bytes c.push_str.new.self ≡ t ++ more = search rules in
    let g : c.push.new.self.items ≡ rs ++ r ∷ [] = search rules in
    let f : c.push-2.new.self.items ≡ ds ++ Long c.args.kind (length rs) ∷ [] = search rules in
    let q = long_pushed t more rs a.entries.items ds a.used c.args.kind (length rs) r (growing_parts a ds c.requires.growing) c.requires.whole (IsUtf8-string_bytes a.text) c.utf8.text c.requires.fits refl refl refl in
    let n : c.len-used.result ≡ length (string_bytes c.push_str.new.self) = grind arith in
    let k : c.len-used.result ≡ a.used + length more = omega (arith, n, ap length e, length-append t more, c.requires.whole) in
    let b : Arena = record { text = c.push_str.new.self; entries = a.entries; records = c.push.new.self; used = c.len-used.result } in
    (grew b c.push-2.new.self.items _ _ _ _ _ _ e g refl f k q).terms

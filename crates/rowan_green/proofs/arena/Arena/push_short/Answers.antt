use Rattle.std.proofs.Common.{◌≡◌, ◌+◌, ◌++◌, [], ◌∷◌, length, string_bytes, length-append, refl, ap, arith, rules}
use Rattle.std.proofs.lemmas.Str.{IsUtf8-string_bytes}
use Rattle.rowan_green.specs.declared.arena.Arena.{Arena}
use Rattle.rowan_green.specs.declared.arena.Entry.TheVariants.{Short}
use Rattle.rowan_green.proofs.ArenaGrowing.{growing_parts, grew, short_pushed}
use Rattle.rowan_green.proofs.arena.Arena.push_short.Goals as goal

pub returns-clause-growing : goal.returns-clause-growing
returns-clause-growing c =
    let a = c.args.self.now in
    let t = string_bytes a.text in
    let more = c.args.text.now in
    let ds = c.args.done.now.items in
    let e : string_bytes c.push_str.new.self ≡ t ++ more = search rules in
    let f : c.push.new.self.items ≡ ds ++ Short (length more) c.args.kind (length t) ∷ [] = search rules in
    let q = short_pushed t more a.records.items a.entries.items ds a.used c.args.kind (length t) (length more) (growing_parts a ds c.requires.growing) c.requires.whole (IsUtf8-string_bytes a.text) c.utf8.text c.requires.fits refl refl in
    let n : c.len-used.result ≡ length (string_bytes c.push_str.new.self) = grind arith in
    let k : c.len-used.result ≡ a.used + length more = omega (arith, n, ap length e, length-append t more, c.requires.whole) in
    let b : Arena = record { text = c.push_str.new.self; entries = a.entries; records = a.records; used = c.len-used.result } in
    (grew b c.push.new.self.items _ _ _ _ _ _ e refl refl f k q).growing

pub returns-clause-ok : goal.returns-clause-ok
returns-clause-ok c =
    let a = c.args.self.now in
    let t = string_bytes a.text in
    let more = c.args.text.now in
    let ds = c.args.done.now.items in
    let e : string_bytes c.push_str.new.self ≡ t ++ more = search rules in
    let f : c.push.new.self.items ≡ ds ++ Short (length more) c.args.kind (length t) ∷ [] = search rules in
    let q = short_pushed t more a.records.items a.entries.items ds a.used c.args.kind (length t) (length more) (growing_parts a ds c.requires.growing) c.requires.whole (IsUtf8-string_bytes a.text) c.utf8.text c.requires.fits refl refl in
    let n : c.len-used.result ≡ length (string_bytes c.push_str.new.self) = grind arith in
    let k : c.len-used.result ≡ a.used + length more = omega (arith, n, ap length e, length-append t more, c.requires.whole) in
    let b : Arena = record { text = c.push_str.new.self; entries = a.entries; records = a.records; used = c.len-used.result } in
    (grew b c.push.new.self.items _ _ _ _ _ _ e refl refl f k q).terms

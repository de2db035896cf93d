use Rattle.std.proofs.Common.{◌≡◌, ℕ, ◌-◌, List, ◌++◌, [], ◌∷◌, length, take, drop, slice_set, string_bytes, arith, refl, ap, ◌∙◌}
use Rattle.rowan_green.specs.declared.arena.Arena.{Arena}
use Rattle.rowan_green.specs.declared.arena.Entry.{Entry}
use Rattle.rowan_green.specs.declared.arena.Entry.TheVariants.{Few}
use Rattle.rowan_green.proofs.ArenaGrowing.{growing_parts, grew, few_closed, set_last}
use Rattle.rowan_green.proofs.arena.Arena.close_few.Goals as goal

pub returns-clause-growing : goal.returns-clause-growing
returns-clause-growing c =
    let a = c.args.self.now in
    let rs = a.records.items in
    let es = a.entries.items in
    let ds = c.args.done.now.items in
    let i = c.args.first in
    let x = Few (c.len.result - i) c.args.kind c.len-at.result in
    let e : c.push_rest.new.entries.items ≡ es ++ drop i ds = c.in_ok-push_rest.ensures.ok ∙ ap (λ (xs : List Entry). es ++ drop i xs) c.deref.ensures.value in
    let f : slice_set c.truncate.new.self.items i x ≡ take i ds ++ x ∷ [] =
    ap (λ (xs : List Entry). slice_set xs i x) c.truncate.ensures.items ∙ set_last ds i x c.requires.some in
    let size : c.len.result ≡ length ds = grind arith in
    let place : c.len-at.result ≡ length es = grind arith in
    let count : c.len.result - i ≡ length ds - i = ap (λ (n : ℕ). n - i) size in
    let q = few_closed (string_bytes a.text) rs es ds a.used i c.args.kind (c.len.result - i) c.len-at.result (growing_parts a ds c.requires.growing) c.requires.some c.requires.fits count place in
    let b : Arena = record { text = a.text; entries = c.push_rest.new.entries; records = a.records; used = a.used } in
    (grew b (slice_set c.truncate.new.self.items i x) _ _ _ _ _ _ refl refl e f refl q).growing

pub returns-clause-ok : goal.returns-clause-ok
returns-clause-ok c =
    let a = c.args.self.now in
    let rs = a.records.items in
    let es = a.entries.items in
    let ds = c.args.done.now.items in
    let i = c.args.first in
    let x = Few (c.len.result - i) c.args.kind c.len-at.result in
    let e : c.push_rest.new.entries.items ≡ es ++ drop i ds = c.in_ok-push_rest.ensures.ok ∙ ap (λ (xs : List Entry). es ++ drop i xs) c.deref.ensures.value in
    let f : slice_set c.truncate.new.self.items i x ≡ take i ds ++ x ∷ [] =
    ap (λ (xs : List Entry). slice_set xs i x) c.truncate.ensures.items ∙ set_last ds i x c.requires.some in
    let size : c.len.result ≡ length ds = grind arith in
    let place : c.len-at.result ≡ length es = grind arith in
    let count : c.len.result - i ≡ length ds - i = ap (λ (n : ℕ). n - i) size in
    let q = few_closed (string_bytes a.text) rs es ds a.used i c.args.kind (c.len.result - i) c.len-at.result (growing_parts a ds c.requires.growing) c.requires.some c.requires.fits count place in
    let b : Arena = record { text = a.text; entries = c.push_rest.new.entries; records = a.records; used = a.used } in
    (grew b (slice_set c.truncate.new.self.items i x) _ _ _ _ _ _ refl refl e f refl q).terms

use Rattle.std.proofs.Common.{◌≡◌, ℕ, ◌+◌, ◌<◌, ◌^◌, List, ◌++◌, [], ◌∷◌, length, slice_index_or, string_bytes, arith, refl, ap, ◌∙◌}
use Rattle.std.specs.Prelude.{slice_get}
use Rattle.std.proofs.lemmas.List.{get_or_default}
use Rattle.rowan_green.specs.Arena.{terms_at}
use Rattle.rowan_green.specs.declared.arena.Arena.{Arena}
use Rattle.rowan_green.specs.declared.arena.Entry.{Entry}
use Rattle.rowan_green.specs.declared.arena.Entry.TheVariants.{Short}
use Rattle.rowan_green.proofs.ArenaGrowing.{all_items, growing_parts, grew, root_pushed}
use Rattle.rowan_green.proofs.arena.Arena.push_root.Goals as goal

pub returns-clause-growing : goal.returns-clause-growing
returns-clause-growing c =
    let a = c.args.self.now in
    let t = string_bytes a.text in
    let rs = a.records.items in
    let es = a.entries.items in
    let ds = c.args.done.now in
    let at = c.args.at in
    let x = slice_index_or ds at (Short 0 0 0) in
    let e : c.push.new.self.items ≡ es ++ x ∷ [] = c.in_ok-push.ensures.items in
    let n : c.len-number.result ≡ length es = grind arith in
    let w : length es + 1 < 2 ^ 32 = omega (arith, n, c.if-number-ge-MOST.false) in
    let q = root_pushed t rs es ds a.used at x (growing_parts a ds c.requires.growing) c.requires.within (get_or_default ds at (Short 0 0 0) x c.requires.within) w in
    let b : Arena = record { text = a.text; entries = c.push.new.self; records = a.records; used = a.used } in
    (grew b ds _ _ _ _ _ _ refl refl e refl refl q.grew).growing

pub returns-clause-terms : goal.returns-clause-terms
returns-clause-terms c =
    let a = c.args.self.now in
    let t = string_bytes a.text in
    let rs = a.records.items in
    let es = a.entries.items in
    let ds = c.args.done.now in
    let at = c.args.at in
    let x = slice_index_or ds at (Short 0 0 0) in
    let e : c.push.new.self.items ≡ es ++ x ∷ [] = c.in_ok-push.ensures.items in
    let n : c.len-number.result ≡ length es = grind arith in
    let w : length es + 1 < 2 ^ 32 = omega (arith, n, c.if-number-ge-MOST.false) in
    let q = root_pushed t rs es ds a.used at x (growing_parts a ds c.requires.growing) c.requires.within (get_or_default ds at (Short 0 0 0) x c.requires.within) w in
    let b : Arena = record { text = a.text; entries = c.push.new.self; records = a.records; used = a.used } in
    (grew b ds _ _ _ _ _ _ refl refl e refl refl q.grew).terms

pub returns-clause-root : goal.returns-clause-root
returns-clause-root c =
    let a = c.args.self.now in
    let t = string_bytes a.text in
    let rs = a.records.items in
    let es = a.entries.items in
    let ds = c.args.done.now in
    let at = c.args.at in
    let x = slice_index_or ds at (Short 0 0 0) in
    let e : c.push.new.self.items ≡ es ++ x ∷ [] = c.in_ok-push.ensures.items in
    let n : c.len-number.result ≡ length es = grind arith in
    let w : length es + 1 < 2 ^ 32 = omega (arith, n, c.if-number-ge-MOST.false) in
    let q = root_pushed t rs es ds a.used at x (growing_parts a ds c.requires.growing) c.requires.within (get_or_default ds at (Short 0 0 0) x c.requires.within) w in
    ap (λ (xs : List Entry). slice_get (terms_at (all_items t rs xs)) c.len-number.result) e
    ∙ ap (λ (i : ℕ). slice_get (terms_at (all_items t rs (es ++ x ∷ []))) i) n ∙ q.root

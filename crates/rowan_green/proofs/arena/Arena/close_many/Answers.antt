use Rattle.std.proofs.Common.{◌≡◌, ◌-◌, List, ◌++◌, [], ◌∷◌, length, take, drop, string_bytes, arith, refl, ap, ◌∙◌}
use Rattle.std.proofs.lemmas.Str.{IsUtf8-string_bytes}
use Rattle.rowan_green.specs.Term.{texts_of}
use Rattle.rowan_green.specs.Arena.{terms_over}
use Rattle.rowan_green.specs.declared.arena.Arena.{Arena}
use Rattle.rowan_green.specs.declared.arena.Record.{Record}
use Rattle.rowan_green.specs.declared.arena.Entry.{Entry}
use Rattle.rowan_green.specs.declared.arena.Entry.TheVariants.{Many}
use Rattle.rowan_green.proofs.ArenaGrowing.{growing_parts, grew, many_closed, rest_is, start_items}
use Rattle.rowan_green.proofs.arena.Arena.close_many.Goals as goal

pub returns-clause-growing : goal.returns-clause-growing
returns-clause-growing c =
    let a = c.args.self.now in
    let rs = a.records.items in
    let es = a.entries.items in
    let ds = c.args.done.now.items in
    let i = c.args.first in
    let r = c.node_record-record.result in
    let d : c.deref.result.now ≡ ds = c.deref.ensures.value in
    let x = Many c.args.kind c.len-number.result in
    let e : c.extend_from_slice.new.self.items ≡ es ++ drop i ds =
    c.in_ok-extend_from_slice.ensures.items ∙ ap (λ (xs : List Entry). es ++ xs) (rest_is c.deref-2.result.now ds i (c.deref-2.ensures.value ∙ c.reserve.ensures.items)) in
    let g : c.push.new.self.items ≡ rs ++ r ∷ [] =
    c.in_ok-push.ensures.items ∙ ap (λ (xs : List Record). xs ++ r ∷ []) c.reserve-2.ensures.items in
    let f : c.push-2.new.self.items ≡ take i ds ++ x ∷ [] =
    c.in_ok-push-2.ensures.items ∙ ap (λ (xs : List Entry). xs ++ x ∷ []) (c.truncate.ensures.items ∙ ap (take i) c.reserve.ensures.items) in
    let number : c.len-number.result ≡ length rs = grind arith in
    let start : r.start ≡ length (texts_of (take i (terms_over a ds))) =
    c.node_record-record.ensures.start ∙ ap (λ (xs : List Entry). length (texts_of (take i (terms_over a xs)))) d in
    let count : r.count ≡ length ds - i = omega (arith, c.node_record-record.ensures.count, ap length d) in
    let q = many_closed (string_bytes a.text) rs es ds a.used i c.args.kind c.len-number.result r (growing_parts a ds c.requires.growing) (IsUtf8-string_bytes a.text)
    c.requires.within c.requires.fits number (start_items a ds i r.start start) c.node_record-record.ensures.end c.node_record-record.ensures.first count in
    let b : Arena = record { text = a.text; entries = c.extend_from_slice.new.self; records = c.push.new.self; used = a.used } in
    (grew b c.push-2.new.self.items _ _ _ _ _ _ refl g e f refl q).growing

pub returns-clause-ok : goal.returns-clause-ok
returns-clause-ok c =
    let a = c.args.self.now in
    let rs = a.records.items in
    let es = a.entries.items in
    let ds = c.args.done.now.items in
    let i = c.args.first in
    let r = c.node_record-record.result in
    let d : c.deref.result.now ≡ ds = c.deref.ensures.value in
    let x = Many c.args.kind c.len-number.result in
    let e : c.extend_from_slice.new.self.items ≡ es ++ drop i ds =
    c.in_ok-extend_from_slice.ensures.items ∙ ap (λ (xs : List Entry). es ++ xs) (rest_is c.deref-2.result.now ds i (c.deref-2.ensures.value ∙ c.reserve.ensures.items)) in
    let g : c.push.new.self.items ≡ rs ++ r ∷ [] =
    c.in_ok-push.ensures.items ∙ ap (λ (xs : List Record). xs ++ r ∷ []) c.reserve-2.ensures.items in
    let f : c.push-2.new.self.items ≡ take i ds ++ x ∷ [] =
    c.in_ok-push-2.ensures.items ∙ ap (λ (xs : List Entry). xs ++ x ∷ []) (c.truncate.ensures.items ∙ ap (take i) c.reserve.ensures.items) in
    let number : c.len-number.result ≡ length rs = grind arith in
    let start : r.start ≡ length (texts_of (take i (terms_over a ds))) =
    c.node_record-record.ensures.start ∙ ap (λ (xs : List Entry). length (texts_of (take i (terms_over a xs)))) d in
    let count : r.count ≡ length ds - i = omega (arith, c.node_record-record.ensures.count, ap length d) in
    let q = many_closed (string_bytes a.text) rs es ds a.used i c.args.kind c.len-number.result r (growing_parts a ds c.requires.growing) (IsUtf8-string_bytes a.text)
    c.requires.within c.requires.fits number (start_items a ds i r.start start) c.node_record-record.ensures.end c.node_record-record.ensures.first count in
    let b : Arena = record { text = a.text; entries = c.extend_from_slice.new.self; records = c.push.new.self; used = a.used } in
    (grew b c.push-2.new.self.items _ _ _ _ _ _ refl g e f refl q).terms

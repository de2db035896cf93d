-- Lemmas on what a builder keeps.
use Rattle.std.proofs.Common.{◌≡◌, ℕ, ◌+◌, ◌≤◌, ◌<◌, ◌^◌, List, length, take, drop, ap, sym, ◌∙◌, arith, subst, length-append, length-drop, Option, Some, None, Result, Ok, Err, OnErr}
use Rattle.std.proofs.lemmas.List.{length-map, take-append-drop}
use Rattle.std.specs.declared.rc.Rc.{Rc}
use Rattle.std.specs.declared.alloc.Global.{Global}
use Rattle.rowan_green.specs.Term.{Term, texts_of, texts_of-append, FitsNode}
use Rattle.rowan_green.specs.declared.utility_types.NodeOrToken.TheVariants.{Node}
use Rattle.rowan_green.specs.declared.arena.Entry.{Entry}
use Rattle.rowan_green.specs.declared.arena.Arena.{Arena}
use Rattle.rowan_green.specs.Arena.{Item, IsGrowing, terms_at, items_in, item_in, items_over, terms_over}
use Rattle.rowan_green.specs.FlatNode.{IsLast}
use Rattle.rowan_green.specs.Kept.{terms_done, terms_kept, IsFilled, IsRooted}
use Rattle.rowan_green.proofs.ArenaGrowing.{used_within}

pub length-done : (arena : Option (Rc Arena Global)) (done : List Entry) → IsFilled arena done → length (terms_done arena done) ≡ length done
length-done None done p = sym (ap length p)
length-done (Some shared) done p =
    length-map (items_over shared.value done) (λ (x : Item). x.term) ∙ length-map done (item_in shared.value)

-- ---- a node that is closed has fewer than 2^32 children and bytes

filled_text : (arena : Option (Rc Arena Global)) (done : List Entry) → IsFilled arena done → length (texts_of (terms_done arena done)) < 2 ^ 32
filled_text None done p = omega arith
filled_text (Some shared) done p = omega (arith, p.0.all, used_within shared.value done p.0, p.0.sound.text)

text_rest : (i : ℕ) (ts : List Term) → length (texts_of (drop i ts)) ≤ length (texts_of ts)
text_rest i ts =
    let e = ap (λ (xs : List Term). length (texts_of xs)) (take-append-drop i ts) in
    let f = ap length (texts_of-append (take i ts) (drop i ts)) in
    omega (arith, e, f, length-append (texts_of (take i ts)) (texts_of (drop i ts)))

pub length_over : (a : Arena) (done : List Entry) → length (terms_over a done) ≡ length done
length_over a done = length-map (items_over a done) (λ (x : Item). x.term) ∙ length-map done (item_in a)

pub rest_fits_in : (a : Arena) (done : List Entry) (i : ℕ) → IsGrowing a done → length done < i + 2 ^ 32 → FitsNode (drop i (terms_over a done))
rest_fits_in a done i p h =
    let ts = terms_over a done in
    record {
      count = omega (arith, h, length_over a done, length-drop i ts);
      text = omega (arith, p.all, used_within a done p, p.sound.text, text_rest i ts);
    }

pub rest_fits : (arena : Option (Rc Arena Global)) (done : List Entry) (i : ℕ) → IsFilled arena done → length done < i + 2 ^ 32 → FitsNode (drop i (terms_done arena done))
rest_fits arena done i p h =
    let ts = terms_done arena done in
    record {
      count = omega (arith, h, length-done arena done p, length-drop i ts);
      text = omega (arith, filled_text arena done p, text_rest i ts);
    }

-- ---- a token that is not added

pub rooted_err : {T E : Type 0} (r : Result T E) (start made : Option (Rc Arena Global)) (shared new : Rc Arena Global) (a : Arena) (done more : List Entry) → made ≡ Some shared → a ≡ shared.value → (IsRooted start done → IsRooted made done) → OnErr r (terms_over new.value more ≡ terms_over a done) → OnErr r (terms_at (items_in new.value) ≡ terms_at (items_in a)) → OnErr r (IsRooted start done → IsRooted (Some new) more)
rooted_err (Ok x) start made shared new a done more m v h e f = tt
rooted_err (Err x) start made shared new a done more m v h e f =
    λ p t q.
    let same : terms_done made done ≡ terms_over a done = ap (λ (o : Option (Rc Arena Global)). terms_done o done) m ∙ ap (λ (b : Arena). terms_over b done) (sym v) in
    let kept : terms_kept made ≡ terms_at (items_in a) = ap terms_kept m ∙ ap (λ (b : Arena). terms_at (items_in b)) (sym v) in
    subst (λ (ts : List Term). IsLast ts (Node t)) (kept ∙ sym f) (h p t (same ∙ sym e ∙ q))

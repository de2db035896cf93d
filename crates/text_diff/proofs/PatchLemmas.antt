-- Rows of a run, read against the old lines, give the new lines.
use Rattle.std.proofs.Common.{◌≡◌, ℕ, zero, suc, ◌+◌, ◌-◌, ◌<◌, ◌≤◌, ◌==◌, ◌&&◌, nat_le, min, Bool, true, false, List, [], ◌∷◌, ◌++◌, Option, None, Some, length, map, take, drop, refl, ap, sym, add-one, ◌∙◌, arith, inl, inr, length-take, length-drop, append-nil, if◌then◌else◌}
use Rattle.std.specs.Prelude.{slice_range}
use Rattle.std.specs.Str.{bytes_eq}
use Rattle.std.proofs.lemmas.List.{take-append-drop, drop-drop}
use Rattle.std.proofs.lemmas.Slice.Eq.{bytes_eq-Decides}
use Rattle.text_diff.specs.declared.change.Change.{Change}
use Rattle.text_diff.specs.Lines.{Line}
use Rattle.text_diff.specs.Script.{AreSame, IsChange, IsRun}
use Rattle.text_diff.specs.Hunks.{Row, context, removed, added, Hunk, rows_in}
use Rattle.text_diff.specs.Patch.{before, patched_rows, old_count, new_count}
use Rattle.text_diff.proofs.RunLemmas.{length-slice, same-lengths}

abbrev Rest : Type 0
Rest = List Line → Option (List Line)

equal : (l : Line) → bytes_eq l l ≡ true
equal l = (bytes_eq-Decides l l).1 refl

pub rest-cut : (xs : List Line) (i p : ℕ) → i ≤ p → drop i xs ≡ slice_range xs i p ++ drop p xs
rest-cut xs i p a =
    sym (take-append-drop (p - i) (drop i xs)) ∙ ap (λ v. slice_range xs i p ++ v) (drop-drop (p - i) i xs ∙ ap (λ n. drop n xs) (omega arith))

rows-nil : (old : List Line) (rest : Rest) → patched_rows [] old rest ≡ rest old
unfolding patched_rows
rows-nil old rest = refl

rows-context : (l : Line) (rs : List Row) (xs : List Line) (rest : Rest) → patched_rows (context l ∷ rs) (l ∷ xs) rest ≡ before (l ∷ []) (patched_rows rs xs rest)
unfolding patched_rows
rows-context l rs xs rest = rw (equal l, patched_rows) refl

rows-removed : (l : Line) (rs : List Row) (xs : List Line) (rest : Rest) → patched_rows (removed l ∷ rs) (l ∷ xs) rest ≡ patched_rows rs xs rest
unfolding patched_rows
rows-removed l rs xs rest = rw (equal l, patched_rows) refl

rows-added : (l : Line) (rs : List Row) (old : List Line) (rest : Rest) → patched_rows (added l ∷ rs) old rest ≡ before (l ∷ []) (patched_rows rs old rest)
unfolding patched_rows
rows-added l rs old rest = refl

contexts : (ls : List Line) (rs : List Row) (xs ys : List Line) (rest : Rest) → patched_rows rs xs rest ≡ Some ys → patched_rows (map context ls ++ rs) (ls ++ xs) rest ≡ Some (ls ++ ys)
contexts [] rs xs ys rest e = e
contexts (l ∷ ls) rs xs ys rest e = rows-context l (map context ls ++ rs) (ls ++ xs) rest ∙ rw (contexts ls rs xs ys rest e) refl

removals : (ls : List Line) (rs : List Row) (xs ys : List Line) (rest : Rest) → patched_rows rs xs rest ≡ Some ys → patched_rows (map removed ls ++ rs) (ls ++ xs) rest ≡ Some ys
removals [] rs xs ys rest e = e
removals (l ∷ ls) rs xs ys rest e = rows-removed l (map removed ls ++ rs) (ls ++ xs) rest ∙ removals ls rs xs ys rest e

additions : (ls : List Line) (rs : List Row) (xs ys : List Line) (rest : Rest) → patched_rows rs xs rest ≡ Some ys → patched_rows (map added ls ++ rs) xs rest ≡ Some (ls ++ ys)
additions [] rs xs ys rest e = e
additions (l ∷ ls) rs xs ys rest e = rows-added l (map added ls ++ rs) xs rest ∙ rw (additions ls rs xs ys rest e) refl

pub rows_in-nil : (old new : List Line) (at to : ℕ) → rows_in old new at [] to ≡ map context (slice_range old at to)
unfolding rows_in
rows_in-nil old new at to = refl

pub rows_in-cons : (old new : List Line) (at : ℕ) (c : Change) (cs : List Change) (to : ℕ) → rows_in old new at (c ∷ cs) to
    ≡ map context (slice_range old at c.old_start) ++ (map removed (slice_range old c.old_start c.old_end) ++ (map added (slice_range new c.new_start c.new_end) ++ rows_in old new c.old_end cs to))
unfolding rows_in
rows_in-cons old new at c cs to = refl

-- the rows of a run, and what is read after them
pub rows-run : (old new : List Line) (i j : ℕ) (cs : List Change) (p q : ℕ) (rest : Rest) → IsRun old new i j cs p q → rest (drop p old) ≡ Some (drop q new) →
    patched_rows (rows_in old new i cs p) (drop i old) rest ≡ Some (drop j new)
rows-run old new i j [] p q rest r e =
    let last : patched_rows [] (drop p old) rest ≡ Some (drop q new) = rows-nil (drop p old) rest ∙ e in
    let whole = contexts (slice_range old i p) [] (drop p old) (drop q new) rest last in
    let whole' : patched_rows (map context (slice_range old i p)) (slice_range old i p ++ drop p old) rest ≡ Some (slice_range old i p ++ drop q new) =
    ap (λ v. patched_rows v (slice_range old i p ++ drop p old) rest) (sym (append-nil (map context (slice_range old i p)))) ∙ whole in
    ap (λ v. patched_rows v (drop i old) rest) (rows_in-nil old new i p)
    ∙ ap (λ v. patched_rows (map context (slice_range old i p)) v rest) (rest-cut old i p r.old_order)
    ∙ whole' ∙ ap (λ v. Some (v ++ drop q new)) r.same ∙ ap Some (sym (rest-cut new j q r.new_order))
rows-run old new i j (c ∷ cs) p q rest r e =
    let same = r.0 in
    let h = r.1 in
    let more = rows-run old new c.old_end c.new_end cs p q rest r.2 e in
    let put = additions (slice_range new c.new_start c.new_end) (rows_in old new c.old_end cs p) (drop c.old_end old) (drop c.new_end new) rest more in
    let put' = rw (← rest-cut new c.new_start c.new_end h.new_order) at put in
    let cut = removals (slice_range old c.old_start c.old_end) (map added (slice_range new c.new_start c.new_end) ++ rows_in old new c.old_end cs p) (drop c.old_end old) (drop c.new_start new) rest put' in
    let cut' = rw (← rest-cut old c.old_start c.old_end h.old_order) at cut in
    let shown = contexts (slice_range old i c.old_start) (map removed (slice_range old c.old_start c.old_end) ++ (map added (slice_range new c.new_start c.new_end) ++ rows_in old new c.old_end cs p)) (drop c.old_start old) (drop c.new_start new) rest cut' in
    ap (λ v. patched_rows v (drop i old) rest) (rows_in-cons old new i c cs p)
    ∙ ap (λ v. patched_rows (map context (slice_range old i c.old_start) ++ (map removed (slice_range old c.old_start c.old_end) ++ (map added (slice_range new c.new_start c.new_end) ++ rows_in old new c.old_end cs p))) v rest) (rest-cut old i c.old_start same.old_order)
    ∙ shown ∙ ap (λ v. Some (v ++ drop c.new_start new)) same.same ∙ ap Some (sym (rest-cut new j c.new_start same.new_order))

-- how many lines the rows of a run are
old_count-nil : old_count [] ≡ 0
unfolding old_count
old_count-nil = refl

new_count-nil : new_count [] ≡ 0
unfolding new_count
new_count-nil = refl

counts-context : (ls : List Line) (rs : List Row) → (old_count (map context ls ++ rs) ≡ length ls + old_count rs) × (new_count (map context ls ++ rs) ≡ length ls + new_count rs)
unfolding old_count new_count
counts-context [] rs = (omega arith, omega arith)
counts-context (l ∷ ls) rs = let r = counts-context ls rs in (omega (arith, r.0), omega (arith, r.1))

counts-removed : (ls : List Line) (rs : List Row) → (old_count (map removed ls ++ rs) ≡ length ls + old_count rs) × (new_count (map removed ls ++ rs) ≡ new_count rs)
unfolding old_count new_count
counts-removed [] rs = (omega arith, refl)
counts-removed (l ∷ ls) rs = let r = counts-removed ls rs in (omega (arith, r.0), r.1)

counts-added : (ls : List Line) (rs : List Row) → (old_count (map added ls ++ rs) ≡ old_count rs) × (new_count (map added ls ++ rs) ≡ length ls + new_count rs)
unfolding old_count new_count
counts-added [] rs = (refl, omega arith)
counts-added (l ∷ ls) rs = let r = counts-added ls rs in (r.0, omega (arith, r.1))

pub counts-run : (old new : List Line) (i j : ℕ) (cs : List Change) (p q : ℕ) → IsRun old new i j cs p q →
    (i + old_count (rows_in old new i cs p) ≡ p) × (j + new_count (rows_in old new i cs p) ≡ q)
counts-run old new i j [] p q r =
    let a = counts-context (slice_range old i p) [] in
    let same = append-nil (map context (slice_range old i p)) in
    let len = length-slice old i p r.old_order r.old_end in
    let gap = same-lengths r in
    let o = old_count-nil in let n = new_count-nil in
    let l = r.old_order in let k = r.new_order in
    let x = rw same at a in
    rw rows_in-nil (omega (arith, x.0), omega (arith, x.1))
counts-run old new i j (c ∷ cs) p q r =
    let same = r.0 in let h = r.1 in
    let more = counts-run old new c.old_end c.new_end cs p q r.2 in
    let len-a = length-slice old i c.old_start same.old_order same.old_end in
    let len-b = length-slice old c.old_start c.old_end h.old_order h.old_end in
    let len-c = length-slice new c.new_start c.new_end h.new_order h.new_end in
    let gap = same-lengths same in
    let l = same.old_order in let k = same.new_order in let m = h.old_order in let n = h.new_order in
    let rest : List Row = rows_in old new c.old_end cs p in
    let x = counts-context (slice_range old i c.old_start) (map removed (slice_range old c.old_start c.old_end) ++ (map added (slice_range new c.new_start c.new_end) ++ rest)) in
    let y = counts-removed (slice_range old c.old_start c.old_end) (map added (slice_range new c.new_start c.new_end) ++ rest) in
    let z = counts-added (slice_range new c.new_start c.new_end) rest in
    rw rows_in-cons (omega (arith, x.0, y.0, z.0, more.0), omega (arith, x.1, y.1, z.1, more.1))

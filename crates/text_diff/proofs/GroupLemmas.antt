-- The hunks of a script make the new lines of the old ones.
use Rattle.std.proofs.Common.{◌≡◌, ℕ, zero, suc, ◌+◌, ◌-◌, ◌*◌, ◌<◌, ◌≤◌, ◌==◌, ◌&&◌, nat_le, min, Bool, true, false, List, [], ◌∷◌, ◌++◌, Option, None, Some, length, map, take, drop, refl, ap, sym, subst, ◌∙◌, arith, inl, inr, length-take, length-drop, if◌then◌else◌}
use Rattle.std.specs.Prelude.{slice_range}
use Rattle.std.proofs.lemmas.Bool.{cases_Bool, cases_lt, leb-true, leb-false, le-leb, eq-eqb, and_from}
use Rattle.std.proofs.lemmas.List.{take-append-drop, drop-drop, drop_all, take_all}
use Rattle.text_diff.specs.declared.change.Change.{Change}
use Rattle.text_diff.specs.Lines.{Line}
use Rattle.text_diff.specs.Script.{AreSame, IsChange, IsRun, IsScript}
use Rattle.text_diff.specs.Hunks.{Row, Hunk, context_lines, is_near, near_len, onto_group, groups, rows_in, last_end, last_new, hunk_from, hunk_to, hunk_new_from, hunk_new_to, hunk_of, hunks}
use Rattle.text_diff.specs.Patch.{before, patched_rows, old_count, new_count, is_placed, patched_from, patched}
use Rattle.text_diff.proofs.RunLemmas.{length-slice, same-lengths, same-none, same-join, same-cut, run-extend}
use Rattle.text_diff.proofs.PatchLemmas.{rest-cut, rows-run, counts-run}

pub near_len-nil : (c : Change) → near_len c [] ≡ 0
unfolding near_len
near_len-nil c = refl

pub near_len-near : (c d : Change) (ds : List Change) → is_near c d ≡ true → near_len c (d ∷ ds) ≡ suc (near_len d ds)
unfolding near_len
near_len-near c d ds q = rw (q, near_len) refl

pub near_len-far : (c d : Change) (ds : List Change) → is_near c d ≡ false → near_len c (d ∷ ds) ≡ 0
unfolding near_len
near_len-far c d ds q = rw (q, near_len) refl

pub groups-nil : groups [] ≡ []
unfolding groups
groups-nil = refl

groups-cons : (c : Change) (cs : List Change) → groups (c ∷ cs) ≡ onto_group c (groups cs)
unfolding groups
groups-cons c cs = refl

-- the first group, and the others
pub groups-first : (c : Change) (cs : List Change) → groups (c ∷ cs) ≡ (c ∷ take (near_len c cs) cs) ∷ groups (drop (near_len c cs) cs)
groups-first c [] = groups-cons c [] ∙ rw (groups-nil, near_len-nil c) (ap (λ v. (c ∷ []) ∷ v) (sym groups-nil))
groups-first c (d ∷ ds) =
    let r = groups-first d ds in
    elim (cases_Bool (is_near c d)) [
      | inl q ↦ groups-cons c (d ∷ ds) ∙ rw (near_len-near c d ds q, r, q) refl
      | inr q ↦ groups-cons c (d ∷ ds) ∙ rw (near_len-far c d ds q, r, q) refl
    ]

-- a run is cut behind a change
run-cut : (old new : List Line) (c : Change) (cs : List Change) (p q n : ℕ) → IsChange old new c → IsRun old new c.old_end c.new_end cs p q →
    IsRun old new c.old_end c.new_end (take n cs) (last_end c (take n cs)) (last_new c (take n cs))
    × IsRun old new (last_end c (take n cs)) (last_new c (take n cs)) (drop n cs) p q
run-cut old new c cs p q zero h r = (same-none old new c.old_end c.new_end h.old_end h.new_end, r)
run-cut old new c [] p q (suc n) h r = (same-none old new c.old_end c.new_end h.old_end h.new_end, r)
run-cut old new c (d ∷ ds) p q (suc n) h r =
    let more = run-cut old new d ds p q n r.1 r.2 in
    ((r.0, r.1, more.0), more.1)

-- the change after a group is far from it
pub far-next : (c d : Change) (cs ds : List Change) → drop (near_len c cs) cs ≡ d ∷ ds → last_end c (take (near_len c cs) cs) + 2 * context_lines < d.old_start
far-next c d [] ds e = absurd (let e' : [] ≡ d ∷ ds = (rw near_len-nil at e) in cc)
far-next c d (x ∷ xs) ds e =
    elim (cases_Bool (is_near c x)) [
      | inl q ↦ let e' = (rw (near_len-near c x xs q) at e) in rw (near_len-near c x xs q) (far-next x d xs ds e')
      | inr q ↦
          let e' : x ∷ xs ≡ d ∷ ds = (rw (near_len-far c x xs q) at e) in
          let same : x ≡ d = cc in
          let far = leb-false x.old_start (c.old_end + 2 * context_lines) q in
          rw (near_len-far c x xs q, ← same) far
    ]

-- What is before the hunk, the hunk, and what is after it.
pub record IsCut (old new : List Line) (i j : ℕ) (c : Change) (g rest : List Change) : Type 0 where
  pub from_end : hunk_from c ≤ length old
  pub front : AreSame old new i j (hunk_from c) (j + (hunk_from c - i))
  pub new_start : c.new_start - (c.old_start - hunk_from c) ≡ j + (hunk_from c - i)
  pub hunk : IsRun old new (hunk_from c) (j + (hunk_from c - i)) (c ∷ g) (hunk_to old c g) (hunk_new_to old c g)
  pub after : IsRun old new (hunk_to old c g) (hunk_new_to old c g) rest (length old) (length new)
  pub last : last_end c g ≤ hunk_to old c g

tail-cut : (old new : List Line) (i j to : ℕ) (cs : List Change) (p q : ℕ) → IsRun old new i j cs p q → i ≤ to → to ≤ p → ((d : Change) (ds : List Change) → cs ≡ d ∷ ds → to ≤ d.old_start) →
    AreSame old new i j to (j + (to - i)) × IsRun old new to (j + (to - i)) cs p q
tail-cut old new i j to [] p q r a b h = same-cut old new i j to p q r a b
tail-cut old new i j to (d ∷ ds) p q r a b h =
    let both = same-cut old new i j to d.old_start d.new_start r.0 a (h d ds refl) in
    (both.0, (both.1, r.1, r.2))

-- the changes of a run end within the texts
last-bound : (old new : List Line) (c : Change) (cs : List Change) (p q : ℕ) → IsChange old new c → IsRun old new c.old_end c.new_end cs p q → last_end c cs ≤ length old
last-bound old new c [] p q h r = h.old_end
last-bound old new c (d ∷ ds) p q h r = last-bound old new d ds p q r.1 r.2

pub first-hunk : (old new : List Line) (i j : ℕ) (c : Change) (cs : List Change) → IsRun old new i j (c ∷ cs) (length old) (length new) → i ≤ hunk_from c →
    IsCut old new i j c (take (near_len c cs) cs) (drop (near_len c cs) cs)
first-hunk old new i j c cs r a =
    let n : ℕ = near_len c cs in
    let g : List Change = take n cs in
    let cut = run-cut old new c cs (length old) (length new) n r.1 r.2 in
    let same = r.0 in
    let inside = same.old_end in
    let front = same-cut old new i j (hunk_from c) c.old_start c.new_start same a (omega arith) in
    let last = last-bound old new c g (last_end c g) (last_new c g) r.1 cut.0 in
    let after = tail-cut old new (last_end c g) (last_new c g) (hunk_to old c g) (drop n cs) (length old) (length new) cut.1 (omega arith) (omega arith)
    (λ d ds e. let far = far-next c d cs ds e in omega arith) in
    let gap = same-lengths front.1 in
    let order = front.1 in
    let low = order.old_order in
    let high = order.new_order in
    record {
      from_end = omega arith;
      front = front.0;
      new_start = omega arith;
      hunk = (front.1, r.1, run-extend old new c.old_end c.new_end g (last_end c g) (last_new c g) (hunk_to old c g) (hunk_new_to old c g) cut.0 after.0);
      after = after.1;
      last = omega arith;
    }

patched-nil : (at out : ℕ) (old : List Line) → patched_from at out [] old ≡ Some old
unfolding patched_from
patched-nil at out old = refl

patched-cons : (at out : ℕ) (h : Hunk) (hs : List Hunk) (old : List Line) → is_placed at out old h ≡ true → patched_from at out (h ∷ hs) old
    ≡ before (take (h.old_start - at) old) (patched_rows h.rows (drop (h.old_start - at) old)
    (λ rest. patched_from (h.old_start + old_count h.rows) (h.new_start + new_count h.rows) hs rest))
unfolding patched_from
patched-cons at out h hs old q = rw (q, patched_from) refl

all-same : (old new : List Line) (i j : ℕ) → AreSame old new i j (length old) (length new) → drop i old ≡ drop j new
all-same old new i j s =
    rest-cut old i (length old) s.old_order ∙ rw (drop_all (length old) old (omega arith), drop_all (length new) new (omega arith)) (ap (λ v. v ++ []) s.same)
    ∙ sym (rest-cut new j (length new) s.new_order)

pub script-patches : (n : ℕ) (old new : List Line) (i j : ℕ) (cs : List Change) → length cs ≤ n → IsRun old new i j cs (length old) (length new) →
    ((c : Change) (ds : List Change) → cs ≡ c ∷ ds → i ≤ hunk_from c) → patched_from i j (hunks old new cs) (drop i old) ≡ Some (drop j new)
script-patches n old new i j [] l r h =
    ap (λ v. patched_from i j (map (hunk_of old new) v) (drop i old)) groups-nil ∙ patched-nil i j (drop i old) ∙ ap Some (all-same old new i j r)
script-patches zero old new i j (c ∷ cs) l r h = absurd (omega arith)
script-patches (suc n) old new i j (c ∷ cs) l r h =
    let a = h c cs refl in
    let g : List Change = take (near_len c cs) cs in
    let more : List Change = drop (near_len c cs) cs in
    let k = first-hunk old new i j c cs r a in
    let from : ℕ = hunk_from c in
    let to : ℕ = hunk_to old c g in
    let new_from : ℕ = j + (from - i) in
    let new_to : ℕ = hunk_new_to old c g in
    let counts = counts-run old new from new_from (c ∷ g) to new_to k.hunk in
    let hs : List Hunk = hunks old new more in
    let top : Hunk = hunk_of old new (c ∷ g) in
    let short : length more ≤ n = omega (arith, length-drop (near_len c cs) cs) in
    let later = script-patches n old new to new_to more short k.after (λ d ds e. let far = far-next c d cs ds e in omega arith) in
    let rest : List Line → Option (List Line) = λ v. patched_from (from + old_count top.rows) (top.new_start + new_count top.rows) hs v in
    let at : from + old_count top.rows ≡ to = counts.0 in
    let out : top.new_start + new_count top.rows ≡ new_to = ap (λ m. m + new_count top.rows) k.new_start ∙ counts.1 in
    let ends : rest (drop to old) ≡ Some (drop new_to new) =
    ap (λ m. patched_from m (top.new_start + new_count top.rows) hs (drop to old)) at ∙ ap (λ m. patched_from to m hs (drop to old)) out ∙ later in
    let rows = rows-run old new from new_from (c ∷ g) to new_to rest k.hunk ends in
    let inside : from - i ≤ length (drop i old) = omega (arith, length-drop i old, k.from_end) in
    let placed : is_placed i j (drop i old) top ≡ true =
    and_from _ _ (le-leb i from a) (and_from _ _ (le-leb (from - i) (length (drop i old)) inside) (eq-eqb top.new_start new_from k.new_start)) in
    let past : i + (from - i) ≡ from = omega arith in
    let there : drop (from - i) (drop i old) ≡ drop from old = drop-drop (from - i) i old ∙ ap (λ m. drop m old) past in
    ap (λ v. patched_from i j v (drop i old)) (ap (λ v. map (hunk_of old new) v) (groups-first c cs))
    ∙ patched-cons i j top hs (drop i old) placed
    ∙ ap (λ v. before (slice_range old i from) (patched_rows top.rows v rest)) there
    ∙ ap (λ v. before (slice_range old i from) v) rows
    ∙ ap (λ v. Some (v ++ drop new_from new)) k.front.same
    ∙ ap Some (sym (rest-cut new j new_from k.front.new_order))

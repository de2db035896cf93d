-- The numbers and the text of a hunk.
use Rattle.std.proofs.Common.{◌≡◌, ℕ, zero, suc, ◌+◌, ◌-◌, ◌*◌, ◌<◌, ◌≤◌, min, Bool, true, false, List, [], ◌∷◌, ◌++◌, length, map, get_or, take, drop, refl, ap, ap₂, sym, ◌∙◌, arith, inl, inr, append_assoc, length-drop}
use Rattle.std.specs.List.{flat_map}
use Rattle.std.proofs.lemmas.Bool.{cases_Bool}
use Rattle.text_diff.specs.declared.change.Change.{Change}
use Rattle.text_diff.specs.Lines.{Line}
use Rattle.text_diff.specs.Script.{AreSame, IsChange, IsRun, IsScript}
use Rattle.text_diff.specs.Hunks.{Row, Hunk, is_near, near_len, group_len, groups, rows_in, last_end, last_new, hunk_from, hunk_to, hunk_new_from, hunk_new_to, hunk_of, hunks, IsGroup}
use Rattle.text_diff.specs.Patch.{old_count, new_count}
use Rattle.text_diff.specs.Unified.{header_text, row_text, hunk_text, unified_text}
use Rattle.text_diff.specs.Names.{names_text}
use Rattle.text_diff.proofs.RunLemmas.{same-lengths}
use Rattle.text_diff.proofs.PatchLemmas.{counts-run}
use Rattle.text_diff.proofs.GroupLemmas.{near_len-nil, near_len-near, near_len-far, groups-nil, groups-first, first-hunk, far-next}

pub record Bounds (old new : List Line) (i j p q : ℕ) : Type 0 where
  pub old_order : i ≤ p
  pub new_order : j ≤ q
  pub old_end : p ≤ length old
  pub new_end : q ≤ length new

pub run-bounds : (old new : List Line) (i j : ℕ) (cs : List Change) (p q : ℕ) → IsRun old new i j cs p q → Bounds old new i j p q
run-bounds old new i j [] p q r = record { old_order = r.old_order; new_order = r.new_order; old_end = r.old_end; new_end = r.new_end }
run-bounds old new i j (c ∷ cs) p q r =
    let b = run-bounds old new c.old_end c.new_end cs p q r.2 in
    let s = r.0 in let h = r.1 in
    record {
      old_order = omega (arith, s.old_order, h.old_order, b.old_order);
      new_order = omega (arith, s.new_order, h.new_order, b.new_order);
      old_end = b.old_end;
      new_end = b.new_end;
    }

last-is : (c : Change) (g : List Change) (d : Change) → ((get_or (c ∷ g) (length g) d).old_end ≡ last_end c g) × ((get_or (c ∷ g) (length g) d).new_end ≡ last_new c g)
last-is c [] d = (refl, refl)
last-is c (x ∷ xs) d = last-is x xs d

-- what the code computes of a group
pub record IsNumbered (old new : List Line) (gs : List Change) (first last : Change) : Type 0 where
  pub back : first.old_start - hunk_from first ≤ first.new_start
  pub ends : last.old_end ≤ min (length old) (last.old_end + 3)
  pub new_fits : last.new_end + (min (length old) (last.old_end + 3) - last.old_end) ≤ length new
  pub old_order : hunk_from first ≤ min (length old) (last.old_end + 3)
  pub new_order : hunk_new_from first ≤ last.new_end + (min (length old) (last.old_end + 3) - last.old_end)
  pub text : header_text (hunk_from first) (min (length old) (last.old_end + 3) - hunk_from first) (hunk_new_from first)
      (last.new_end + (min (length old) (last.old_end + 3) - last.old_end) - hunk_new_from first)
      ++ flat_map row_text (rows_in old new (hunk_from first) gs (min (length old) (last.old_end + 3)))
      ≡ hunk_text (hunk_of old new gs)

numbered-by : (old new : List Line) (c : Change) (g : List Change) (last : Change) → IsGroup old new (c ∷ g) → last.old_end ≡ last_end c g → last.new_end ≡ last_new c g → IsNumbered old new (c ∷ g) c last
unfolding hunk_text
numbered-by old new c g last h is-old is-new =
    let run = h.1 in
    let b = run-bounds old new (hunk_from c) (hunk_new_from c) (c ∷ g) (hunk_to old c g) (hunk_new_to old c g) run in
    let front = run.0 in
    let gap = same-lengths front in
    let order = front.new_order in
    let low = front.old_order in
    let counts = counts-run old new (hunk_from c) (hunk_new_from c) (c ∷ g) (hunk_to old c g) (hunk_new_to old c g) run in
    let old_len : hunk_to old c g - hunk_from c ≡ old_count (rows_in old new (hunk_from c) (c ∷ g) (hunk_to old c g)) = omega (arith, counts.0) in
    let new_len : hunk_new_to old c g - hunk_new_from c ≡ new_count (rows_in old new (hunk_from c) (c ∷ g) (hunk_to old c g)) = omega (arith, counts.1) in
    record {
      back = omega arith;
      ends = rw is-old h.0;
      new_fits = rw (is-old, is-new) b.new_end;
      old_order = rw is-old b.old_order;
      new_order = rw (is-old, is-new) b.new_order;
      text = rw (is-old, is-new)
          (ap₂ (λ (a b : ℕ). header_text (hunk_from c) a (hunk_new_from c) b ++ flat_map row_text (rows_in old new (hunk_from c) (c ∷ g) (hunk_to old c g))) old_len new_len);
    }

pub numbered : (old new : List Line) (gs : List Change) (d : Change) → 0 < length gs → IsGroup old new gs → IsNumbered old new gs (get_or gs 0 d) (get_or gs (length gs - 1) d)
numbered old new [] d l h = absurd (omega arith)
numbered old new (c ∷ g) d l h =
    let last = last-is c g d in
    let e : length (c ∷ g) - 1 ≡ length g = omega arith in
    rw e (numbered-by old new c g (get_or (c ∷ g) (length g) d) h last.0 last.1)

-- the number of changes in the first hunk, counted change by change
pub group_len-one : (c : Change) → group_len (c ∷ []) ≡ 1
group_len-one c = ap suc (near_len-nil c)

pub group_len-near : (changes : List Change) (k : ℕ) (d : Change) → k + 1 < length changes → is_near (get_or changes k d) (get_or changes (k + 1) d) ≡ true →
    group_len (drop k changes) ≡ suc (group_len (drop (k + 1) changes))
group_len-near [] k d l q = absurd (omega arith)
group_len-near (c ∷ []) k d l q = absurd (omega arith)
group_len-near (c ∷ x ∷ xs) zero d l q = ap suc (near_len-near c x xs q)
group_len-near (c ∷ x ∷ xs) (suc k) d l q =
    let e : suc k + 1 ≡ suc (k + 1) = omega arith in
    rw e (group_len-near (x ∷ xs) k d (omega arith) (rw e at q))

pub group_len-far : (changes : List Change) (k : ℕ) (d : Change) → k + 1 < length changes → is_near (get_or changes k d) (get_or changes (k + 1) d) ≡ false →
    group_len (drop k changes) ≡ 1
group_len-far [] k d l q = absurd (omega arith)
group_len-far (c ∷ []) k d l q = absurd (omega arith)
group_len-far (c ∷ x ∷ xs) zero d l q = ap suc (near_len-far c x xs q)
group_len-far (c ∷ x ∷ xs) (suc k) d l q =
    let e : suc k + 1 ≡ suc (k + 1) = omega arith in
    group_len-far (x ∷ xs) k d (omega arith) (rw e at q)

pub group_len-last : (changes : List Change) (k : ℕ) → k + 1 ≡ length changes → group_len (drop k changes) ≡ 1
group_len-last [] k l = absurd (omega arith)
group_len-last (c ∷ []) zero l = group_len-one c
group_len-last (c ∷ []) (suc k) l = absurd (omega arith)
group_len-last (c ∷ x ∷ xs) zero l = absurd (omega arith)
group_len-last (c ∷ x ∷ xs) (suc k) l = group_len-last (x ∷ xs) k (omega arith)

-- where the changes lead from, up to the first hunk
pub record Leads (old new : List Line) (changes : List Change) (i j : ℕ) : Type 0 where
  pub run : IsRun old new i j changes (length old) (length new)
  pub starts : (c : Change) (ds : List Change) → changes ≡ c ∷ ds → i ≤ hunk_from c

-- the first hunk of changes that are left, and the changes after it
pub record IsFirst (old new : List Line) (changes : List Change) (n : ℕ) : Type 0 where
  pub group : IsGroup old new (take n changes)
  pub texts : flat_map hunk_text (hunks old new changes) ≡ hunk_text (hunk_of old new (take n changes)) ++ flat_map hunk_text (hunks old new (drop n changes))
  pub next_old : ℕ
  pub next_new : ℕ
  pub next : Leads old new (drop n changes) next_old next_new

pub first-of : (old new : List Line) (changes : List Change) (i j n : ℕ) → Leads old new changes i j → 0 < length changes → n ≡ group_len changes → IsFirst old new changes n
first-of old new [] i j n h l e = absurd (omega arith)
first-of old new (c ∷ cs) i j n h l e =
    let k = first-hunk old new i j c cs h.run (h.starts c cs refl) in
    let m : ℕ = near_len c cs in
    rw e (record {
      group = (k.last, rw k.new_start k.hunk);
      texts = ap (λ v. flat_map hunk_text (map (hunk_of old new) v)) (groups-first c cs);
      next_old = hunk_to old c (take m cs);
      next_new = hunk_new_to old c (take m cs);
      next = record { run = k.after; starts = λ d ds is. let far = far-next c d cs ds is in omega arith };
    })

-- no changes, no text
pub texts-none : (old new : List Line) (cs : List Change) → length cs ≡ 0 → flat_map hunk_text (hunks old new cs) ≡ []
texts-none old new [] e = ap (λ v. flat_map hunk_text (map (hunk_of old new) v)) groups-nil
texts-none old new (c ∷ cs) e = absurd (omega arith)

pub unified-none : (path : List ℕ) (old new : List Line) (cs : List Change) → length cs ≡ 0 → unified_text path (hunks old new cs) ≡ []
unified-none path old new [] e = ap (λ v. unified_text path (map (hunk_of old new) v)) groups-nil
unified-none path old new (c ∷ cs) e = absurd (omega arith)

pub unified-some : (path : List ℕ) (old new : List Line) (cs : List Change) → (length cs ≡ 0 → ⊥) → unified_text path (hunks old new cs) ≡ names_text path ++ flat_map hunk_text (hunks old new cs)
unified-some path old new [] h = absurd (h refl)
unified-some path old new (c ∷ cs) h =
    let e = groups-first c cs in
    rw e refl

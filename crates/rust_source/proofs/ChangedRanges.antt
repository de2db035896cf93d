-- Texts that agree outside of changed ranges.
use Rattle.std.proofs.Common.{◌≡◌, ℕ, ◌+◌, ◌-◌, ◌≤◌, true, Bool, if◌then◌else◌, Result, Ok, Err, List, [], ◌∷◌, ◌++◌, map, take, drop, slice_range, take-append-drop, append_assoc, sym, ap, ◌∙◌, arith}
use Rattle.std.proofs.lemmas.List.{drop-take, drop-drop, take-take}
use Rattle.std.specs.Prelude.{IfOk}
use Rattle.std.specs.Str.{IsCharBoundary}
use Rattle.rust_document.specs.Edit.{can_edit}
use Rattle.rust_document.proofs.Boundaries.{boundary-to, editable}
use Rattle.rust_source.specs.ChangedRanges.{ahead, between, bounds, if_any, stays, AreSame, AgreeBetween, Agrees, IsMoved, CanKeep, Standing}
use Rattle.rust_source.specs.declared.changed_ranges.ChangedRange.{ChangedRange}
use Rattle.rust_source.specs.declared.changed_ranges.Agreement.{Agreement}

take-plus : (n m : ℕ) (xs : List ℕ) → take (n + m) xs ≡ take n xs ++ take m (drop n xs)
take-plus n m xs =
    sym (take-append-drop n (take (n + m) xs))
    ∙ ap (λ l. l ++ drop n (take (n + m) xs)) (take-take n (n + m) xs (omega arith))
    ∙ ap (λ l. take n xs ++ l) (drop-take n m xs)

-- the bytes of two ranges, the second after the first
range-plus : (xs : List ℕ) (i j k : ℕ) → i ≤ j → j ≤ k → slice_range xs i k ≡ slice_range xs i j ++ slice_range xs j k
range-plus xs i j k first second =
    let all : k - i ≡ (j - i) + (k - j) = omega arith in
    let front : i + (j - i) ≡ j = omega arith in
    ap (λ n. take n (drop i xs)) all
    ∙ take-plus (j - i) (k - j) (drop i xs)
    ∙ ap (λ l. take (j - i) (drop i xs) ++ take (k - j) l) (drop-drop (j - i) i xs ∙ ap (λ n. drop n xs) front)

range-none : (xs : List ℕ) (i : ℕ) → slice_range xs i i ≡ []
range-none xs i = let none : i - i ≡ 0 = omega arith in ap (λ n. take n (drop i xs)) none

-- no byte
pub same-here : (before after : List ℕ) (from at : ℕ) → AreSame before after from at from at
same-here before after from at = record {
  ordered_before = omega arith;
  ordered_after = omega arith;
  same = range-none before from ∙ sym (range-none after at);
}

both-same : (before after : List ℕ) (from at i j to end : ℕ) → AreSame before after from at i j → AreSame before after i j to end → AreSame before after from at to end
both-same before after from at i j to end first second = record {
  ordered_before = omega (arith, first.ordered_before, second.ordered_before);
  ordered_after = omega (arith, first.ordered_after, second.ordered_after);
  same =
      range-plus before from i to first.ordered_before second.ordered_before
      ∙ ap (λ l. l ++ slice_range before i to) first.same
      ∙ ap (λ l. slice_range after at j ++ l) second.same
      ∙ sym (range-plus after at j end first.ordered_after second.ordered_after);
}

-- more bytes that are the same
pub extended : (before after : List ℕ) (from at : ℕ) (cs : List ChangedRange) (i j to end : ℕ) → AgreeBetween before after from at cs i j → AreSame before after i j to end → AgreeBetween before after from at cs to end
extended before after from at [] i j to end agrees same = both-same before after from at i j to end agrees same
extended before after from at (c ∷ cs) i j to end agrees same =
    (agrees.0, (agrees.1.0, (agrees.1.1.0, extended before after c.before.end.0 c.after.end.0 cs i j to end agrees.1.1.1 same)))

-- one more changed range
pub changed : (before after : List ℕ) (from at : ℕ) (cs : List ChangedRange) (c : ChangedRange) → AgreeBetween before after from at cs c.before.start.0 c.after.start.0
    → can_edit before c.before.start.0 c.before.end.0 ≡ true → can_edit after c.after.start.0 c.after.end.0 ≡ true → AgreeBetween before after from at (cs ++ c ∷ []) c.before.end.0 c.after.end.0
changed before after from at [] c agrees first second = (agrees, (first, (second, same-here before after c.before.end.0 c.after.end.0)))
changed before after from at (d ∷ cs) c agrees first second =
    (agrees.0, (agrees.1.0, (agrees.1.1.0, changed before after d.before.end.0 d.after.end.0 cs c agrees.1.1.1 first second)))

-- a range that is kept, behind what was skipped
pub kept : (a b : Agreement) (s : Standing) (to stop : ℕ) → CanKeep a s → Agrees b → IsMoved a b s.start s.place → s.start ≤ s.end → s.place ≤ s.stop → to ≡ s.end → stop ≡ s.stop
    → Agrees (record { before = b.before; after = b.after; ranges = b.ranges; before_end = to; after_end = stop })
kept a b s to stop keeps agrees moved ordered ordered_after is_to is_stop = record {
  ranges = extended b.before.now b.after.now 0 0 b.ranges.items b.before_end b.after_end to stop agrees.ranges
      (rw (moved.before, moved.after, moved.before_end, moved.after_end, is_to, is_stop)
      (record { ordered_before = ordered; ordered_after = ordered_after; same = keeps.same }));
  before_boundary = rw (moved.before, is_to) keeps.before_end;
  after_boundary = rw (moved.after, is_stop) keeps.after_end;
}

bounded : (text : List ℕ) (start end : ℕ) → start ≤ end → IsCharBoundary text start → IsCharBoundary text end → can_edit text start end ≡ true
bounded text start end ordered first second = editable text start end ordered (boundary-to start text first) (boundary-to end text second)

-- a range that is skipped
pub skipped : (a : Agreement) (c : ChangedRange) → Agrees a → c.before.start.0 ≡ a.before_end → c.after.start.0 ≡ a.after_end
    → IsCharBoundary a.before.now c.before.end.0 → IsCharBoundary a.after.now c.after.end.0
    → AgreeBetween a.before.now a.after.now 0 0 (a.ranges.items ++ c ∷ []) c.before.end.0 c.after.end.0
skipped a c agrees is_start is_at to end =
    changed a.before.now a.after.now 0 0 a.ranges.items c (rw (is_start, is_at) agrees.ranges)
    (bounded a.before.now c.before.start.0 c.before.end.0 c.before.ordered (rw is_start agrees.before_boundary) to)
    (bounded a.after.now c.after.start.0 c.after.end.0 c.after.ordered (rw is_at agrees.after_boundary) end)

-- tokens that stay, in front of others
pub kept-ahead : (a b : Agreement) (s : Standing) (to stop : ℕ) (ss : List Standing) → stays a.before.now a.after.now a.before_end a.after_end s ≡ true → IsMoved a b s.start s.place
    → to ≡ s.end → stop ≡ s.stop → map bounds b.ranges.items ++ between b.before.now b.after.now to stop ss ≡ ahead a (s ∷ ss)
kept-ahead a b s to stop ss is moved is_to is_stop =
    let told = map bounds a.ranges.items in
    let gap = if_any a.before_end s.start a.after_end s.place in
    let rest = between a.before.now a.after.now s.end s.stop ss in
    rw (moved.before, moved.after, is_to, is_stop) (ap (λ l. l ++ rest) moved.ranges
    ∙ append_assoc told gap rest
    ∙ sym (ap (λ (t : Bool). told ++ (if t then gap ++ rest else between a.before.now a.after.now a.before_end a.after_end ss)) is))

-- a fact about the returned value, from another
pub if-ok : {A E : Type 0} (r : Result A E) (P Q : A → Type 0) → ((v : A) → P v → Q v) → IfOk r P → IfOk r Q
if-ok (Ok v) P Q f h = f v h
if-ok (Err e) P Q f h = h

-- One more mark behind others.
use Rattle.std.proofs.Common.{◌≡◌, ℕ, zero, suc, ◌+◌, ◌<◌, ◌≤◌, List, [], ◌∷◌, ◌++◌, length, get_or, take, map, refl, ap, sym, ◌∙◌, subst, arith, rules}
use Rattle.std.proofs.lemmas.List.{map-append, take_all, take_more}
use Rattle.rust_source.specs.Changes.{Change, Editing, Recorded, insert, inserting}
use Rattle.rust_source.specs.Elements.{Element, index_of}
use Rattle.rust_source.specs.Held.{Held}
use Rattle.rust_source.specs.Lines.{InsertsBeside, line_break}
use Rattle.rust_source.specs.declared.lines.Side.TheVariants.{Before}
use Rattle.must_use_tool.specs.Marks.{AreMarks, IsMark}

behind : (text : List ℕ) (a : Element) (n : ℕ) (ps : List Element) (cs : List Change) (p : Element) (c : Change)
    → AreMarks text a n ps cs → IsMark text a (n + length ps) p c → AreMarks text a n (ps ++ p ∷ []) (cs ++ c ∷ [])
behind text a n [] [] p c all one = (subst (λ k. IsMark text a k p c) (omega arith) one, tt)
behind text a n [] (d ∷ cs) p c all one = absurd all
behind text a n (q ∷ ps) [] p c all one = absurd all
behind text a n (q ∷ ps) (d ∷ cs) p c all one =
    (all.0, behind text a (n + 1) ps cs p c all.1 (subst (λ k. IsMark text a k p c) (omega arith) one))

inserted : (e : Editing) (p : Element) (i : ℕ) (new : List Element) (cs : List Change) → inserting e p i new ≡ Recorded cs
    → cs ≡ e.changes ++ insert p.place.up i new ∷ []
inserted e p i new cs h = first_of (search rules, grind arith, grind (arith, rules))

one_more : (s : Held) (before after : Editing) (text : List ℕ) (a p : Element) (n : ℕ) (ps : List Element)
    → s.document.text ≡ text → s.next ≡ n + length ps → AreMarks text a n ps before.changes
    → InsertsBeside Before s before p a after.changes → AreMarks text a n (ps ++ p ∷ []) after.changes
one_more s before after text a p n ps same next all new =
    let c : Change = insert new.parent.place.up (index_of p.place) (a ∷ (line_break s.next new.indent ∷ [])) in
    let is : after.changes ≡ before.changes ++ c ∷ [] =
    inserted before new.parent (index_of p.place) (a ∷ (line_break s.next new.indent ∷ [])) after.changes new.recorded in
    let own : IsMark s.document.text a s.next p c =
    record { parent = new.parent; indent = new.indent; parent_is = new.parent_is; indent_is = new.indent_is; is = refl } in
    let one : IsMark text a (n + length ps) p c =
    subst (λ k. IsMark text a k p c) next (subst (λ t. IsMark t a s.next p c) same own) in
    subst (AreMarks text a n (ps ++ p ∷ [])) (sym is) (behind text a n ps before.changes p c all one)

module _ {X : Type 0} (f : X → Element) where
  -- the elements of the first ones, with the next
  next_place : (es : List X) (k : ℕ) (e : X) → k < length es → e ≡ get_or es k e → map f (take k es) ++ f e ∷ [] ≡ map f (take (k + 1) es)
  next_place es k e inside at =
      ap (λ x. map f (take k es) ++ f x ∷ []) at
      ∙ sym (ap (map f) (take_more es k e inside) ∙ map-append f (take k es) (get_or es k e ∷ []))

  count_of : (es : List X) (k : ℕ) → k ≤ length es → length (map f (take k es)) ≡ k
  count_of es zero inside = refl
  count_of [] (suc k) inside = absurd (omega arith)
  count_of (e ∷ es) (suc k) inside = ap suc (count_of es k (omega arith))

  -- the marks of the first places, with that of the next one
  pub next_mark : (s : Held) (before after : Editing) (text : List ℕ) (a : Element) (n k : ℕ) (es : List X) (e : X)
      → k < length es → e ≡ get_or es k e → s.document.text ≡ text → s.next ≡ n + k
      → AreMarks text a n (map f (take k es)) before.changes
      → InsertsBeside Before s before (f e) a after.changes → AreMarks text a n (map f (take (k + 1) es)) after.changes
  next_mark s before after text a n k es e inside at same next all new =
      let counted : length (map f (take k es)) ≡ k = count_of es k (omega arith) in
      subst (λ ps. AreMarks text a n ps after.changes) (next_place es k e inside at)
      (one_more s before after text a (f e) n (map f (take k es)) same (next ∙ ap (λ m. n + m) (sym counted)) all new)

  -- the marks of all places
  pub all_marks : (text : List ℕ) (a : Element) (n k : ℕ) (es : List X) (ps : List Element) (cs : List Change)
      → length es ≤ k → map f es ≡ ps → AreMarks text a n (map f (take k es)) cs → AreMarks text a n ps cs
  all_marks text a n k es ps cs past is all =
      subst (λ qs. AreMarks text a n qs cs) (ap (map f) (take_all k es past) ∙ is) all

-- Lemmas on lists of children made out of the parts of others.
use Rattle.std.proofs.Common.{◌≡◌, ℕ, ◌+◌, ◌-◌, ◌≤◌, ◌<◌, max, List, ◌++◌, length, take, drop, arith, ap, sym, ◌∙◌, subst, inl, inr, length-append, append_assoc}
use Rattle.std.proofs.lemmas.Bool.{cases_lt}
use Rattle.std.proofs.lemmas.List.{take-append-le, drop-append-le}
use Rattle.std.proofs.Math.Seq.{drop-append-add}
use Rattle.rowan_green.specs.Term.{Term, texts_of, FitsNode}
use Rattle.std.proofs.Common.{Option, Some, None, false}
use Rattle.std.specs.Option.{SomeIff, is_some}
use Rattle.std.specs.Prelude.{MatchOption}
use Rattle.std.specs.declared.rc.Rc.{Rc}
use Rattle.std.specs.declared.alloc.Global.{Global}
use Rattle.rowan_green.specs.declared.element_list.Part.{Part}
use Rattle.rowan_green.specs.Balanced.{IsJoined, join, CanJoin, IsJoinHeight}
use Rattle.rowan_green.proofs.Summing.{texts_append, take_right, AtFork}

abbrev Sized : Type 0
Sized = List Term × ℕ

pub fits_front : (xs ys : List Term) → FitsNode (xs ++ ys) → FitsNode xs
fits_front xs ys f = record { count = omega (arith, f.count, length-append xs ys); text = omega (arith, f.text, texts_append xs ys) }

pub fits_back : (xs ys : List Term) → FitsNode (xs ++ ys) → FitsNode ys
fits_back xs ys f = record { count = omega (arith, f.count, length-append xs ys); text = omega (arith, f.text, texts_append xs ys) }

-- what a fork tells of its sides
pub joined_of : {d l r : List Term × ℕ} {n h half : ℕ} → AtFork d l.0 l.1 r.0 r.1 n h half → IsJoined d l r
joined_of f = record {
  terms = f.terms;
  height = f.height ∙ f.fork.height;
  left = f.fork.left;
  right = f.fork.right;
  left_low = f.fork.left_low;
  right_low = f.fork.right_low;
  fits = f.fits;
}

-- the two sides of a list
pub sides_some : (d : List Term × ℕ) (o : Option (Rc Part Global × Rc Part Global)) (l r : Rc Part Global) (none : Type 0) → MatchOption o none (λ s. IsJoined d s.0.value s.1.value) → o ≡ Some (l, r) → IsJoined d l.value r.value
sides_some d o l r none p e =
    subst (λ (x : Option (Rc Part Global × Rc Part Global)). MatchOption x none (λ s. IsJoined d s.0.value s.1.value)) e p

-- ---- the left list is higher by two

pub lean_left_terms : (l r x y : List Term × ℕ) → IsJoined l x y → x.0 ++ (y.0 ++ r.0) ≡ l.0 ++ r.0
lean_left_terms l r x y j = sym (append_assoc x.0 y.0 r.0) ∙ ap (λ zs. zs ++ r.0) (sym j.terms)

pub lean_left_inner : (l r x y : List Term × ℕ) → IsJoined l x y → l.1 ≡ r.1 + 2 → 8 ≤ length r.0 → FitsNode (l.0 ++ r.0) → y.1 ≤ x.1 → CanJoin 1 y r
lean_left_inner l r x y j h c f low = record {
  left = j.right;
  right = c;
  left_low = omega (arith, j.height);
  right_low = omega (arith, j.height, j.left_low);
  fits = fits_back x.0 (y.0 ++ r.0) (subst FitsNode (sym (lean_left_terms l r x y j)) f);
}

pub lean_left_outer : (l r x y : List Term × ℕ) → IsJoined l x y → l.1 ≡ r.1 + 2 → 8 ≤ length r.0 → FitsNode (l.0 ++ r.0) → y.1 ≤ x.1 → CanJoin 1 x (join y r)
lean_left_outer l r x y j h c f low = record {
  left = j.left;
  right = omega (arith, j.right, length-append y.0 r.0);
  left_low = omega (arith, j.height);
  right_low = omega (arith, j.height);
  fits = subst FitsNode (sym (lean_left_terms l r x y j)) f;
}

pub lean_left_height : (l r x y : List Term × ℕ) → IsJoined l x y → l.1 ≡ r.1 + 2 → y.1 ≤ x.1 → (l.1 ≤ max x.1 (max y.1 r.1 + 1) + 1) × (max x.1 (max y.1 r.1 + 1) + 1 ≤ l.1 + 1)
lean_left_height l r x y j h low = (omega (arith, j.height, j.left_low), omega (arith, j.height))

pub turn_left_terms : (l r x y u v : List Term × ℕ) → IsJoined l x y → IsJoined y u v → (x.0 ++ u.0) ++ (v.0 ++ r.0) ≡ l.0 ++ r.0
turn_left_terms l r x y u v j k =
    append_assoc x.0 u.0 (v.0 ++ r.0) ∙ ap (λ zs. x.0 ++ zs) (sym (append_assoc u.0 v.0 r.0) ∙ ap (λ zs. zs ++ r.0) (sym k.terms)) ∙ lean_left_terms l r x y j

pub turn_left_front : (l r x y u v : List Term × ℕ) → IsJoined l x y → IsJoined y u v → l.1 ≡ r.1 + 2 → FitsNode (l.0 ++ r.0) → x.1 < y.1 → CanJoin 1 x u
turn_left_front l r x y u v j k h f low = record {
  left = j.left;
  right = k.left;
  left_low = omega (arith, j.height, k.height, j.right_low, k.right_low);
  right_low = omega (arith, j.height, k.height, j.right_low);
  fits = fits_front (x.0 ++ u.0) (v.0 ++ r.0) (subst FitsNode (sym (turn_left_terms l r x y u v j k)) f);
}

pub turn_left_back : (l r x y u v : List Term × ℕ) → IsJoined l x y → IsJoined y u v → l.1 ≡ r.1 + 2 → 8 ≤ length r.0 → FitsNode (l.0 ++ r.0) → x.1 < y.1 → CanJoin 1 v r
turn_left_back l r x y u v j k h c f low = record {
  left = k.right;
  right = c;
  left_low = omega (arith, j.height, k.height);
  right_low = omega (arith, j.height, k.height, k.left_low);
  fits = fits_back (x.0 ++ u.0) (v.0 ++ r.0) (subst FitsNode (sym (turn_left_terms l r x y u v j k)) f);
}

pub turn_left_both : (l r x y u v : List Term × ℕ) → IsJoined l x y → IsJoined y u v → l.1 ≡ r.1 + 2 → 8 ≤ length r.0 → FitsNode (l.0 ++ r.0) → x.1 < y.1 → CanJoin 1 (join x u) (join v r)
turn_left_both l r x y u v j k h c f low = record {
  left = omega (arith, j.left, length-append x.0 u.0);
  right = omega (arith, c, length-append v.0 r.0);
  left_low = omega (arith, j.height, k.height, j.right_low);
  right_low = omega (arith, j.height, k.height, j.right_low);
  fits = subst FitsNode (sym (turn_left_terms l r x y u v j k)) f;
}

pub turn_left_height : (l r x y u v : List Term × ℕ) → IsJoined l x y → IsJoined y u v → l.1 ≡ r.1 + 2 → x.1 < y.1 → (l.1 ≤ max (max x.1 u.1 + 1) (max v.1 r.1 + 1) + 1) × (max (max x.1 u.1 + 1) (max v.1 r.1 + 1) + 1 ≤ l.1 + 1)
turn_left_height l r x y u v j k h low = (omega (arith, j.height, k.height, j.right_low), omega (arith, j.height, k.height, j.right_low))

-- ---- the right list is higher by two

pub lean_right_terms : (l r y x : List Term × ℕ) → IsJoined r y x → (l.0 ++ y.0) ++ x.0 ≡ l.0 ++ r.0
lean_right_terms l r y x j = append_assoc l.0 y.0 x.0 ∙ ap (λ zs. l.0 ++ zs) (sym j.terms)

pub lean_right_inner : (l r y x : List Term × ℕ) → IsJoined r y x → r.1 ≡ l.1 + 2 → 8 ≤ length l.0 → FitsNode (l.0 ++ r.0) → y.1 ≤ x.1 → CanJoin 1 l y
lean_right_inner l r y x j h c f low = record {
  left = c;
  right = j.left;
  left_low = omega (arith, j.height, j.right_low);
  right_low = omega (arith, j.height);
  fits = fits_front (l.0 ++ y.0) x.0 (subst FitsNode (sym (lean_right_terms l r y x j)) f);
}

pub lean_right_outer : (l r y x : List Term × ℕ) → IsJoined r y x → r.1 ≡ l.1 + 2 → 8 ≤ length l.0 → FitsNode (l.0 ++ r.0) → y.1 ≤ x.1 → CanJoin 1 (join l y) x
lean_right_outer l r y x j h c f low = record {
  left = omega (arith, j.left, length-append l.0 y.0);
  right = j.right;
  left_low = omega (arith, j.height);
  right_low = omega (arith, j.height);
  fits = subst FitsNode (sym (lean_right_terms l r y x j)) f;
}

pub lean_right_height : (l r y x : List Term × ℕ) → IsJoined r y x → r.1 ≡ l.1 + 2 → y.1 ≤ x.1 → (r.1 ≤ max (max l.1 y.1 + 1) x.1 + 1) × (max (max l.1 y.1 + 1) x.1 + 1 ≤ r.1 + 1)
lean_right_height l r y x j h low = (omega (arith, j.height, j.right_low), omega (arith, j.height))

pub turn_right_terms : (l r y x u v : List Term × ℕ) → IsJoined r y x → IsJoined y u v → (l.0 ++ u.0) ++ (v.0 ++ x.0) ≡ l.0 ++ r.0
turn_right_terms l r y x u v j k =
    append_assoc l.0 u.0 (v.0 ++ x.0) ∙ ap (λ zs. l.0 ++ zs) (sym (append_assoc u.0 v.0 x.0) ∙ ap (λ zs. zs ++ x.0) (sym k.terms) ∙ sym j.terms)

pub turn_right_front : (l r y x u v : List Term × ℕ) → IsJoined r y x → IsJoined y u v → r.1 ≡ l.1 + 2 → 8 ≤ length l.0 → FitsNode (l.0 ++ r.0) → x.1 < y.1 → CanJoin 1 l u
turn_right_front l r y x u v j k h c f low = record {
  left = c;
  right = k.left;
  left_low = omega (arith, j.height, k.height, k.right_low);
  right_low = omega (arith, j.height, k.height);
  fits = fits_front (l.0 ++ u.0) (v.0 ++ x.0) (subst FitsNode (sym (turn_right_terms l r y x u v j k)) f);
}

pub turn_right_back : (l r y x u v : List Term × ℕ) → IsJoined r y x → IsJoined y u v → r.1 ≡ l.1 + 2 → FitsNode (l.0 ++ r.0) → x.1 < y.1 → CanJoin 1 v x
turn_right_back l r y x u v j k h f low = record {
  left = k.right;
  right = j.right;
  left_low = omega (arith, j.height, k.height, j.left_low);
  right_low = omega (arith, j.height, k.height, j.left_low, k.left_low);
  fits = fits_back (l.0 ++ u.0) (v.0 ++ x.0) (subst FitsNode (sym (turn_right_terms l r y x u v j k)) f);
}

pub turn_right_both : (l r y x u v : List Term × ℕ) → IsJoined r y x → IsJoined y u v → r.1 ≡ l.1 + 2 → 8 ≤ length l.0 → FitsNode (l.0 ++ r.0) → x.1 < y.1 → CanJoin 1 (join l u) (join v x)
turn_right_both l r y x u v j k h c f low = record {
  left = omega (arith, c, length-append l.0 u.0);
  right = omega (arith, j.right, length-append v.0 x.0);
  left_low = omega (arith, j.height, k.height, j.left_low);
  right_low = omega (arith, j.height, k.height, j.left_low);
  fits = subst FitsNode (sym (turn_right_terms l r y x u v j k)) f;
}

pub turn_right_height : (l r y x u v : List Term × ℕ) → IsJoined r y x → IsJoined y u v → r.1 ≡ l.1 + 2 → x.1 < y.1 → (r.1 ≤ max (max l.1 u.1 + 1) (max v.1 x.1 + 1) + 1) × (max (max l.1 u.1 + 1) (max v.1 x.1 + 1) + 1 ≤ r.1 + 1)
turn_right_height l r y x u v j k h low = (omega (arith, j.height, k.height, j.left_low), omega (arith, j.height, k.height, j.left_low))

-- ---- the seam of two lists

pub seam_left : (l r x y z : List Term × ℕ) → IsJoined l x y → r.1 ≤ y.1 → z.0 ≡ y.0 ++ r.0 → max y.1 r.1 ≤ z.1 → z.1 ≤ max y.1 r.1 + 1 → FitsNode (l.0 ++ r.0) → CanJoin 2 x z
seam_left l r x y z j p e a b f = record {
  left = j.left;
  right = omega (arith, ap length e, j.right, length-append y.0 r.0);
  left_low = omega (arith, j.left_low);
  right_low = omega (arith, j.right_low);
  fits = rw e (subst FitsNode (sym (lean_left_terms l r x y j)) f);
}

pub seam_left_terms : (l r x y : List Term × ℕ) (z w : List Term) → IsJoined l x y → z ≡ y.0 ++ r.0 → w ≡ x.0 ++ z → w ≡ l.0 ++ r.0
seam_left_terms l r x y z w j e f = f ∙ ap (λ zs. x.0 ++ zs) e ∙ lean_left_terms l r x y j

pub seam_left_height : (l r x y : List Term × ℕ) (z w : ℕ) → IsJoined l x y → r.1 ≤ y.1 → max y.1 r.1 ≤ z → z ≤ max y.1 r.1 + 1 → IsJoinHeight x.1 z w → (max l.1 r.1 ≤ w) × (w ≤ max l.1 r.1 + 1)
seam_left_height l r x y z w j p a b h =
    elim (cases_lt (x.1 + 1) z) [
      | inl far ↦ (omega (arith, j.height, j.right_low, h.not_lower), omega (arith, j.height, j.right_low, h.not_higher))
      | inr near ↦
          let e : w ≡ max x.1 z + 1 = h.level (omega (arith, j.left_low)) near in
          (omega (arith, j.height, e), omega (arith, j.height, e))
    ]

pub seam_right : (l r y x z : List Term × ℕ) → IsJoined r y x → l.1 ≤ y.1 → z.0 ≡ l.0 ++ y.0 → max l.1 y.1 ≤ z.1 → z.1 ≤ max l.1 y.1 + 1 → FitsNode (l.0 ++ r.0) → CanJoin 2 z x
seam_right l r y x z j p e a b f = record {
  left = omega (arith, ap length e, j.left, length-append l.0 y.0);
  right = j.right;
  left_low = omega (arith, j.left_low);
  right_low = omega (arith, j.right_low);
  fits = rw e (subst FitsNode (sym (lean_right_terms l r y x j)) f);
}

pub seam_right_terms : (l r y x : List Term × ℕ) (z w : List Term) → IsJoined r y x → z ≡ l.0 ++ y.0 → w ≡ z ++ x.0 → w ≡ l.0 ++ r.0
seam_right_terms l r y x z w j e f = f ∙ ap (λ zs. zs ++ x.0) e ∙ lean_right_terms l r y x j

pub seam_right_height : (l r y x : List Term × ℕ) (z w : ℕ) → IsJoined r y x → l.1 ≤ y.1 → max l.1 y.1 ≤ z → z ≤ max l.1 y.1 + 1 → IsJoinHeight z x.1 w → (max l.1 r.1 ≤ w) × (w ≤ max l.1 r.1 + 1)
seam_right_height l r y x z w j p a b h =
    elim (cases_lt (x.1 + 1) z) [
      | inl far ↦ (omega (arith, j.height, j.left_low, h.not_lower), omega (arith, j.height, j.left_low, h.not_higher))
      | inr near ↦
          let e : w ≡ max z x.1 + 1 = h.level near (omega (arith, j.right_low)) in
          (omega (arith, j.height, e), omega (arith, j.height, e))
    ]

-- ---- the first and the last terms of a fork

pub take_left : (d l r : List Term × ℕ) (n : ℕ) → IsJoined d l r → n ≤ length l.0 → take n l.0 ≡ take n d.0
take_left d l r n j h = sym (ap (λ xs. take n xs) j.terms ∙ take-append-le n l.0 r.0 h)

pub take_both : (d l r : List Term × ℕ) (n : ℕ) → IsJoined d l r → length l.0 ≤ n → l.0 ++ take (n - length l.0) r.0 ≡ take n d.0
take_both d l r n j h =
    let e : n ≡ length l.0 + (n - length l.0) = omega arith in
    sym (ap (λ xs. take n xs) j.terms ∙ ap (λ k. take k (l.0 ++ r.0)) e ∙ take_right l.0 r.0 (n - length l.0))

pub drop_both : (d l r : List Term × ℕ) (n : ℕ) → IsJoined d l r → n ≤ length l.0 → drop n l.0 ++ r.0 ≡ drop n d.0
drop_both d l r n j h = sym (ap (λ xs. drop n xs) j.terms ∙ drop-append-le n l.0 r.0 h)

pub drop_right : (d l r : List Term × ℕ) (n : ℕ) → IsJoined d l r → length l.0 ≤ n → drop (n - length l.0) r.0 ≡ drop n d.0
drop_right d l r n j h =
    let e : n ≡ length l.0 + (n - length l.0) = omega arith in
    sym (ap (λ xs. drop n xs) j.terms ∙ ap (λ k. drop k (l.0 ++ r.0)) e ∙ drop-append-add l.0 r.0 (n - length l.0))

-- ---- three lists, one after another

pub three_fit : (a b c : List Term) → length a + length b + length c < 4294967296 → length (texts_of a) + length (texts_of b) + length (texts_of c) < 4294967296 → FitsNode (a ++ b ++ c)
three_fit a b c p q = record { count = omega (arith, p, length-append (a ++ b) c, length-append a b); text = omega (arith, q, texts_append (a ++ b) c, texts_append a b) }

pub three_count : (a b c : List Term) → FitsNode (a ++ b ++ c) → length a + length b + length c < 4294967296
three_count a b c f = omega (arith, f.count, length-append (a ++ b) c, length-append a b)

pub three_text : (a b c : List Term) → FitsNode (a ++ b ++ c) → length (texts_of a) + length (texts_of b) + length (texts_of c) < 4294967296
three_text a b c f = omega (arith, f.text, texts_append (a ++ b) c, texts_append a b)

pub ruleset thirds = (three_fit, three_count, three_text)

pub fits_middle : (xs ys zs : List Term) → FitsNode (xs ++ ys ++ zs) → FitsNode ys
fits_middle xs ys zs f = fits_back xs ys (fits_front (xs ++ ys) zs f)

pub none_unless : {T : Type 0} (o : Option T) (P : Type 0) (v : T) → SomeIff o P v → is_some o ≡ false → P → ⊥
none_unless None P v h e p = h p
none_unless (Some x) P v h e p = cc

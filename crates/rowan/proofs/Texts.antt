-- Parts of texts, and parts of those.
use Rattle.std.proofs.Common.{◌≡◌, ℕ, zero, suc, ◌+◌, ◌-◌, ◌<◌, ◌≤◌, min, List, [], ◌∷◌, ◌++◌, length, take, drop, slice_index, slice_range, get_or, length-drop, length-append, sym, ◌∙◌, ap, subst, inl, inr, ◌⊎◌, arith}
use Rattle.std.proofs.lemmas.List.{take_min, same_lists, drop-append-le, get_or_append_left, get_or-append-add}
use Rattle.std.proofs.lemmas.List.Edits.{length-between, get_or-between}
use Rattle.rowan.specs.Text.{IsCut, IsPart}

pub lt_or_ge : (k n : ℕ) → (k < n) ⊎ (n ≤ k)
lt_or_ge k zero = inr (omega arith)
lt_or_ge zero (suc n) = inl (omega arith)
lt_or_ge (suc k) (suc n) = elim (lt_or_ge k n) [ inl h ↦ inl (omega arith) | inr h ↦ inr (omega arith) ]

pub part_len : (bs : List ℕ) (from to : ℕ) → IsPart bs from to → from + length (slice_range bs from to) ≡ to
part_len bs from to h = let l = length-between bs from to h.ends.0 in let o = h.ordered in omega arith

module _ (bs value : List ℕ) (from to : ℕ) (h : IsPart bs from to) (e : slice_range bs from to ≡ value) where
  value_len : from + length value ≡ to
  value_len = ap (λ v. from + length v) (sym e) ∙ part_len bs from to h

  pub sub_end : (n : ℕ) → n ≤ length value → from + n ≤ to
  sub_end n k = omega (arith, value_len)

  byte_of_value : (n : ℕ) → n < length value → slice_index value n ≡ slice_index bs (from + n)
  byte_of_value n k = ap (λ v. slice_index v n) (sym e) ∙ get_or-between bs from to n 0 (omega (arith, value_len))

  lead_of_value : (n : ℕ) → IsCut value n → 0 < from + n → from + n < length bs → 128 ≤ slice_index bs (from + n) → 192 ≤ slice_index bs (from + n)
  lead_of_value zero c p q g =
      let m : from + 0 ≡ from = omega arith in
      subst (λ x. 192 ≤ slice_index bs x) (sym m) (h.begins.1 (omega arith) (omega arith) (subst (λ x. 128 ≤ slice_index bs x) m g))
  lead_of_value (suc n) c p q g =
      elim (lt_or_ge (suc n) (length value)) [
        | inl k ↦
            subst (λ x. 192 ≤ x) (byte_of_value (suc n) k) (c.1 (omega arith) k (subst (λ x. 128 ≤ x) (sym (byte_of_value (suc n) k)) g))
        | inr k ↦
            let m : from + suc n ≡ to = omega (arith, value_len, c.0) in
            subst (λ x. 192 ≤ slice_index bs x) (sym m) (h.ends.1 (omega arith) (omega arith) (subst (λ x. 128 ≤ slice_index bs x) m g))
      ]

  -- a cut of a part is a cut of the whole
  pub cut_of_part : (n : ℕ) → IsCut value n → IsCut bs (from + n)
  cut_of_part n c = (omega (arith, value_len, h.ends.0, c.0), lead_of_value n c)

  pub sub_part : (a b : ℕ) → a ≤ b → IsCut value a → IsCut value b → IsPart bs (from + a) (from + b)
  sub_part a b o c d = record {
    ordered = omega arith;
    begins = cut_of_part a c;
    ends = cut_of_part b d;
  }

  pub sub_value : (a b : ℕ) → b ≤ length value → slice_range bs (from + a) (from + b) ≡ slice_range value a b
  sub_value a b k =
      let l = value_len in
      let z = h.ends.0 in
      let n = length-between value a b k in
      let m = length-between bs (from + a) (from + b) (omega arith) in
      same_lists _ _ (omega arith) (λ j d w. get_or-between bs (from + a) (from + b) j d (omega arith) ∙ sym (get_or-between value a b j d (omega arith) ∙ ap (λ v. get_or v (a + j) d) (sym e) ∙ get_or-between bs from to (a + j) d (omega arith) ∙ ap (λ i. get_or bs i d) (omega arith)))

-- ---- a part of a text that begins with another text

pub drop_over : (t rest : List ℕ) (n : ℕ) → length t ≤ n → drop n (t ++ rest) ≡ drop (n - length t) rest
drop_over [] rest n h = let e : n ≡ n - 0 = omega arith in ap (λ k. drop k rest) e
drop_over (x ∷ t) rest zero h = absurd (omega arith)
drop_over (x ∷ t) rest (suc n) h =
    let e : n - length t ≡ suc n - length (x ∷ t) = omega arith in
    drop_over t rest n (omega arith) ∙ ap (λ k. drop k rest) e

pub take_over : (t rest : List ℕ) (n : ℕ) → take n (t ++ rest) ≡ take n t ++ take (n - length t) rest
take_over t rest zero = let e : 0 ≡ 0 - length t = omega arith in ap (λ k. take k rest) e
take_over [] rest (suc n) = let e : suc n ≡ suc n - 0 = omega arith in ap (λ k. take k rest) e
take_over (x ∷ t) rest (suc n) =
    let e : n - length t ≡ suc n - length (x ∷ t) = omega arith in
    ap (λ xs. x ∷ xs) (take_over t rest n ∙ ap (λ k. take n t ++ take k rest) e)

pub skip_first : (t rest : List ℕ) (skip len : ℕ) → length t ≤ skip → take len (drop skip (t ++ rest)) ≡ take len (drop (skip - length t) rest)
skip_first t rest skip len h = ap (λ xs. take len xs) (drop_over t rest skip h)

pub split_first : (t rest : List ℕ) (skip len taken : ℕ) → skip < length t → taken ≡ min len (length t - skip) → take len (drop skip (t ++ rest)) ≡ take taken (drop skip t) ++ take (len - taken) rest
split_first t rest skip len taken h m =
    let n = length-drop skip t in
    let e : min len (length (drop skip t)) ≡ taken = omega arith in
    ap (λ xs. take len xs) (drop-append-le skip t rest (omega arith))
    ∙ take_over (drop skip t) rest len
    ∙ ap (λ xs. xs ++ take (len - length (drop skip t)) rest) (sym (take_min len (drop skip t)) ∙ ap (λ k. take k (drop skip t)) e)
    ∙ ap (λ k. take taken (drop skip t) ++ take k rest) (omega arith)

pub cut_first : (t rest : List ℕ) (n : ℕ) → n ≤ length t → IsCut (t ++ rest) n → IsCut t n
cut_first t rest n h c = (h, λ p q g. subst (λ x. 192 ≤ x) (get_or_append_left t rest 0 n q) (c.1 p (omega (arith, length-append t rest)) (subst (λ x. 128 ≤ x) (sym (get_or_append_left t rest 0 n q)) g)))

pub cut_rest : (t rest : List ℕ) (n : ℕ) → IsCut (t ++ rest) (length t + n) → IsCut rest n
cut_rest t rest n c =
    let l = length-append t rest in
    (omega (arith, c.0), λ p q g. subst (λ x. 192 ≤ x) (get_or-append-add t rest n 0) (c.1 (omega arith) (omega arith) (subst (λ x. 128 ≤ x) (sym (get_or-append-add t rest n 0)) g)))

pub part_after : (t rest : List ℕ) (skip len : ℕ) → length t ≤ skip → IsPart (t ++ rest) skip (skip + len) → IsPart rest (skip - length t) (skip - length t + len)
part_after t rest skip len h p =
    let a : skip ≡ length t + (skip - length t) = omega arith in
    let b : skip + len ≡ length t + (skip - length t + len) = omega arith in record {
      ordered = omega arith;
      begins = cut_rest t rest _ (subst (λ n. IsCut (t ++ rest) n) a p.begins);
      ends = cut_rest t rest _ (subst (λ n. IsCut (t ++ rest) n) b p.ends);
    }

pub part_within : (t rest : List ℕ) (skip len taken : ℕ) → skip < length t → taken ≡ min len (length t - skip) → IsPart (t ++ rest) skip (skip + len) → IsPart t skip (skip + taken)
part_within t rest skip len taken h m p = record {
  ordered = omega arith;
  begins = cut_first t rest skip (omega arith) p.begins;
  ends = elim (lt_or_ge (skip + len) (length t)) [
    | inl k ↦ let e : skip + len ≡ skip + taken = omega arith in subst (λ n. IsCut t n) e (cut_first t rest (skip + len) (omega arith) p.ends)
    | inr k ↦ let e : length t ≡ skip + taken = omega arith in subst (λ n. IsCut t n) e (omega arith, λ a b. absurd (omega arith))
  ];
}

pub part_rest : (t rest : List ℕ) (skip len taken : ℕ) → skip < length t → taken ≡ min len (length t - skip) → IsPart (t ++ rest) skip (skip + len) → IsPart rest 0 (len - taken)
part_rest t rest skip len taken h m p = record {
  ordered = omega arith;
  begins = (omega arith, λ a. absurd (omega arith));
  ends = elim (lt_or_ge (skip + len) (length t)) [
    | inl k ↦ let e : 0 ≡ len - taken = omega arith in subst (λ n. IsCut rest n) e (omega arith, λ a. absurd (omega arith))
    | inr k ↦ let e : skip + len ≡ length t + (len - taken) = omega arith in cut_rest t rest _ (subst (λ n. IsCut (t ++ rest) n) e p.ends)
  ];
}

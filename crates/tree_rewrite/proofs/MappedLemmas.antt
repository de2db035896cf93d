-- The index of the inputs of a mapping, and the images that it finds.
use Rattle.std.proofs.Common.{◌≡◌, ℕ, zero, suc, ◌+◌, ◌<◌, List, [], ◌∷◌, ◌++◌, length, map, drop, slice_get, Option, Some, None, option_map, option_to_list, option_copied, is_some, MatchOption, Bool, true, false, ◌&&◌, nat_eq, cond, refl, ap, sym, ◌∙◌, append_assoc, arith, length-append}
use Rattle.std.proofs.lemmas.List.{map-append, length_push, length-map}
use Rattle.std.proofs.lemmas.Bool.{false≢true}
use Rattle.std.specs.Option.{option_flatten}
use denote.Bor.{Bor}
use Rattle.rowan_green.specs.Forest.{Tree}
use Rattle.syntax_tree.specs.Element.{Way, Element, same_way, same_element, element_at}
use Rattle.syntax_tree.specs.Mapping.{Mapping, or_else, image_of}
use Rattle.tree_rewrite.specs.WayTrie.{number_of, node_at, number_at}
use Rattle.tree_rewrite.specs.Held.{IsPutOrTaken}
use Rattle.tree_rewrite.specs.Mapped.{last_of, output_in, IsIndex}
use Rattle.tree_rewrite.specs.declared.way_trie.WayTrie.{WayTrie}
use Rattle.tree_rewrite.proofs.OrderLemmas.{same_way-sound}

-- ---- the last entry
some_alike : (i : ℕ) (ms : Mapping) (e : Element) → is_some (last_of i ms e) ≡ is_some (image_of ms e)
some_alike i [] e = refl
some_alike i (m ∷ ms) e = by_rest (last_of (suc i) ms e) (image_of ms e) (same_element m.0 e) (some_alike (suc i) ms e)
  where
    by_rest : (a : Option ℕ) (b : Option Element) (s : Bool) → is_some a ≡ is_some b → is_some (or_else a (cond s (Some i) None)) ≡ is_some (or_else b (cond s (Some m.1) None))
    by_rest None None true h = refl
    by_rest None None false h = refl
    by_rest None (Some b) s h = absurd (false≢true h)
    by_rest (Some a) None s h = absurd (false≢true (sym h))
    by_rest (Some a) (Some b) s h = refl

get_past : (first : Mapping) (m : Element × Element) (ms : Mapping) → slice_get (first ++ m ∷ ms) (length first) ≡ Some m
get_past [] m ms = refl
get_past (f ∷ first) m ms = get_past first m ms

output_past : (first ms : Mapping) (e : Element) → output_in (first ++ ms) (last_of (length first) ms e) ≡ image_of ms e
output_past first [] e = refl
output_past first (m ∷ ms) e = by_rest (last_of (suc (length first)) ms e) (image_of ms e) (same_element m.0 e) (rest (output_past (first ++ m ∷ []) ms e)) (some_alike (suc (length first)) ms e)
  where
    long : length (first ++ m ∷ []) ≡ suc (length first)
    long = omega (arith, length_push first m)

    rest : output_in ((first ++ m ∷ []) ++ ms) (last_of (length (first ++ m ∷ [])) ms e) ≡ image_of ms e → output_in (first ++ m ∷ ms) (last_of (suc (length first)) ms e) ≡ image_of ms e
    rest h = sym (λ i. output_in (append_assoc first (m ∷ []) ms i) (last_of (long i) ms e)) ∙ h

    by_rest : (a : Option ℕ) (b : Option Element) (s : Bool) → output_in (first ++ m ∷ ms) a ≡ b → is_some a ≡ is_some b
        → output_in (first ++ m ∷ ms) (or_else a (cond s (Some (length first)) None)) ≡ or_else b (cond s (Some m.1) None)
    by_rest None None true h k = ap (option_map (λ x. x.1)) (get_past first m ms)
    by_rest None None false h k = refl
    by_rest None (Some b) s h k = absurd (false≢true k)
    by_rest (Some a) None s h k = absurd (false≢true (sym k))
    by_rest (Some a) (Some b) s h k = h

-- the image is the output of the last entry
pub output_of-last : (ms : Mapping) (e : Element) → output_in ms (last_of 0 ms e) ≡ image_of ms e
output_of-last ms e = output_past [] ms e

-- by the node of the element
pub output_by_node : (t : WayTrie) (ms : Mapping) → IsIndex t ms → (n : ℕ) (s : Tree) (w : Way) (o : Option ℕ) → o ≡ node_at t (w ++ n ∷ [])
    → output_in ms (number_of t.numbers.items o) ≡ image_of ms (element_at n s w)
output_by_node t ms is n s w o at =
    ap (λ x. output_in ms (number_of t.numbers.items x)) at ∙ ap (output_in ms) (is n s w) ∙ output_of-last ms (element_at n s w)

-- ---- up-paths with the number of a tree at the end
and_none : (a : Bool) → (a && false) ≡ false
and_none true = refl
and_none false = refl

and_across : (a b c : Bool) → (a && (b && c)) ≡ (b && (a && c))
and_across true b c = refl
and_across false true c = refl
and_across false false c = refl

pub same_key : (u w : Way) (m n : ℕ) → same_way (u ++ m ∷ []) (w ++ n ∷ []) ≡ (nat_eq m n && same_way u w)
same_key [] [] m n = refl
same_key [] (j ∷ []) m n = and_none (nat_eq m j) ∙ sym (and_none (nat_eq m n))
same_key [] (j ∷ (k ∷ w)) m n = and_none (nat_eq m j) ∙ sym (and_none (nat_eq m n))
same_key (i ∷ []) [] m n = and_none (nat_eq i n) ∙ sym (and_none (nat_eq m n))
same_key (i ∷ (h ∷ u)) [] m n = and_none (nat_eq i n) ∙ sym (and_none (nat_eq m n))
same_key (i ∷ u) (j ∷ w) m n = ap (λ b. nat_eq i j && b) (same_key u w m n) ∙ and_across (nat_eq i j) (nat_eq m n) (same_way u w)

-- ---- one entry more
or_none : (o : Option ℕ) → o ≡ or_else o None
or_none None = refl
or_none (Some k) = refl

some_first : (o p : Option ℕ) → is_some o ≡ true → o ≡ or_else o p
some_first None p h = absurd (false≢true h)
some_first (Some k) p h = refl

-- a number is put where there was none
pub put_first : (number : ℕ) (m k : WayTrie) (key v : Way) (b : Bool) → IsPutOrTaken (same_way key) number m k b → (b ≡ false → (w : Way) → number_at k w ≡ number_at m w)
    → number_at k v ≡ or_else (number_at m v) (cond (same_way key v) (Some number) None)
put_first number m k key v true put kept = by_row (same_way key v) refl
  where
    by_row : (s : Bool) → same_way key v ≡ s → number_at k v ≡ or_else (number_at m v) (cond s (Some number) None)
    by_row true e = put.put v ∙ ap (λ s. cond s (Some number) (number_at m v)) e ∙ sym (ap (λ o. or_else o (Some number)) (put.free v e))
    by_row false e = put.put v ∙ ap (λ s. cond s (Some number) (number_at m v)) e ∙ or_none (number_at m v)
put_first number m k key v false taken kept = by_row (same_way key v) refl
  where
    some : same_way key v ≡ true → is_some (number_at m v) ≡ true
    some e = ap (λ w. is_some (number_at m w)) (sym (same_way-sound key v e) ∙ same_way-sound key taken.0 taken.1) ∙ taken.2

    by_row : (s : Bool) → same_way key v ≡ s → number_at k v ≡ or_else (number_at m v) (cond s (Some number) None)
    by_row true e = kept refl v ∙ some_first (number_at m v) (Some number) (some e)
    by_row false e = kept refl v ∙ or_none (number_at m v)

drop_at : (ms : Mapping) (k : ℕ) (m : Element × Element) → slice_get ms k ≡ Some m → drop k ms ≡ m ∷ drop (suc k) ms
drop_at [] k m h = cc
drop_at (x ∷ ms) zero m h = let e : x ≡ m = cc in ap (λ y. y ∷ ms) e
drop_at (x ∷ ms) (suc k) m h = drop_at ms k m h

-- the entry at `k`, before those from `b` on
pub last_of-more : (ms : Mapping) (k b : ℕ) (m : Element × Element) (e : Element) → b ≡ suc k → slice_get ms k ≡ Some m
    → or_else (last_of b (drop b ms) e) (cond (same_element m.0 e) (Some k) None) ≡ last_of k (drop k ms) e
last_of-more ms k b m e next at =
    ap (λ i. or_else (last_of i (drop i ms) e) (cond (same_element m.0 e) (Some k) None)) next ∙ sym (ap (λ l. last_of k l e) (drop_at ms k m at))

pub within_some : (ms : Mapping) (k : ℕ) → k < length ms → slice_get ms k ≡ None → ⊥
within_some [] k h e = omega (arith, h)
within_some (m ∷ ms) zero h e = cc
within_some (m ∷ ms) (suc k) h e = within_some ms k (omega (arith, h)) e

-- ---- images, one after another
snoc_same : {A : Type 0} (xs ys : List A) (x y : A) → xs ++ x ∷ [] ≡ ys ++ y ∷ [] → (xs ≡ ys) × (x ≡ y)
snoc_same [] [] x y h = let e : x ≡ y = cc in (refl, e)
snoc_same [] (b ∷ ys) x y h = absurd (omega (arith, ap length h, length-append ys (y ∷ [])))
snoc_same (a ∷ xs) [] x y h = absurd (omega (arith, ap length h, length-append xs (x ∷ [])))
snoc_same (a ∷ xs) (b ∷ ys) x y h =
    let first : a ≡ b = cc in
    let rest : xs ++ x ∷ [] ≡ ys ++ y ∷ [] = cc in
    let same = snoc_same xs ys x y rest in
    (λ i. first i ∷ same.0 i, same.1)

pub pushed : (old new : List (Option (Bor Element))) (o : Option (Bor Element)) (xs : List (Option Element)) (x : Option Element)
    → new ≡ old ++ o ∷ [] → map option_copied old ≡ xs → option_copied o ≡ x → map option_copied new ≡ xs ++ x ∷ []
pushed old new o xs x is before this = ap (map option_copied) is ∙ map-append option_copied old (o ∷ []) ∙ (λ i. before i ++ this i ∷ [])

-- the last image is taken
pub popped : (old new : List (Option (Bor Element))) (o : Option (Option (Bor Element))) (a b : ℕ) (xs : List (Option Element)) (x : Option Element)
    → old ≡ new ++ option_to_list o → a ≡ length old → MatchOption o ((a ≡ 0) × (b ≡ 0)) (λ _. b + 1 ≡ a)
    → map option_copied old ≡ xs ++ x ∷ [] → (map option_copied new ≡ xs) × (option_copied (option_flatten o) ≡ x)
popped old new None a b xs x is long none h = absurd (omega (arith, long, none.0, ap length h, length-map old option_copied, length-append xs (x ∷ [])))
popped old new (Some o) a b xs x is long some h =
    snoc_same (map option_copied new) xs (option_copied o) x
    (sym (map-append option_copied new (o ∷ [])) ∙ ap (map option_copied) (sym is) ∙ h)

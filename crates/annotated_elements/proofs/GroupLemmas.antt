-- How groups of elements change.
use Rattle.std.proofs.Common.{◌≡◌, ℕ, nat_eq, List, [], ◌∷◌, ◌++◌, Option, None, Some, option_map, Bool, true, false, cond, ◌&&◌, ◌||◌, Vec, refl, ap, sym, ◌∙◌}
use Rattle.std.proofs.lemmas.Bool.{and_parts, eqb-true}
use Rattle.std.proofs.lemmas.List.{append-nil}
use Rattle.std.proofs.lemmas.Option.{same_Some, none-some}
use Rattle.std.specs.Cmp.{nat_eq_equiv}
use Rattle.std.specs.Cmp.Lexicographic.{pointwise, bytes_decides, nat_list_eq_equiv}
use Rattle.std.specs.HashMap.{HashMap, Updates, get_by}
use Rattle.std.specs.Map.{lookup, IsKeyTest, AreApart, KeepsOthers}
use Rattle.syntax_tree.specs.Element.{Way, Element, same_way, same_element}
use Rattle.syntax_tree.specs.Handle.{element_of}
use Rattle.syntax_tree.specs.declared.element.SyntaxElement.{SyntaxElement}
use Rattle.annotated_elements.specs.Annotated.{elements_of}
use Rattle.annotated_elements.specs.Groups.{names, group_of, is_among, IsGroup}
use Rattle.annotated_elements.specs.declared.groups.Groups.{Groups}

-- whether a key is of this tree number and up-path
abbrev is_key : {Z : Type 0} → ℕ → Way → ℕ × Vec ℕ Z → Bool
is_key n w k = nat_eq n k.0 && same_way w k.1.items

abbrev pub key_eq : {Z : Type 0} → ℕ × Vec ℕ Z → ℕ × Vec ℕ Z → Bool
key_eq x y = nat_eq x.0 y.0 && pointwise nat_eq x.1.items y.1.items

abbrev pub same_key : {Z : Type 0} → ℕ × Vec ℕ Z → Element → Bool
same_key k e = nat_eq k.0 e.number && same_way k.1.items e.place.up

-- two that are the same have one number and one way
abbrev AreOne : ℕ → Way → ℕ → Way → Type 0
AreOne a v b w = (a ≡ b) × (v ≡ w)

one : (a b : ℕ) (v w : Way) → nat_eq a b && same_way v w ≡ true → AreOne a v b w
one a b v w h = let both = and_parts (nat_eq a b) (same_way v w) h in (eqb-true a b both.0, (bytes_decides v w).0 both.1)

-- what a query for another key finds
other_entries : {K X : Type 0} (eq : K → K → Bool) (test : K → Bool) (old new : List (K × X)) → KeepsOthers eq test old new
    → (other : K → Bool) → IsKeyTest eq other → AreApart test other → lookup other new ≡ lookup other old
unfolding KeepsOthers
other_entries eq test old new h = h

-- a map after its value at one key has changed
pub found-after : {Z X S : Type 0} (m n : HashMap (ℕ × Vec ℕ Z) X S) (k : ℕ × Vec ℕ Z) (w : Option X) → Updates key_eq m n k w
    → (e : Element) → get_by (names e) n ≡ cond (same_key k e) w (get_by (names e) m)
found-after {Z} {X} m n k w h e = by_test (same_key k e) refl
  where
    names-key : (x y : ℕ × Vec ℕ Z) → names e x ≡ true → names e y ≡ key_eq x y
    names-key x y is = let p = one e.number x.0 e.place.up x.1.items is in λ i. nat_eq (p.0 i) y.0 && same_way (p.1 i) y.1.items

    apart : same_key k e ≡ false → (y : ℕ × Vec ℕ Z) → key_eq k y ≡ true → names e y ≡ false
    apart is_other y is =
        let p = one k.0 y.0 k.1.items y.1.items is in
        (λ i. nat_eq e.number (sym p.0 i) && same_way e.place.up (sym p.1 i))
        ∙ (λ i. nat_eq_equiv.symm e.number k.0 i && nat_list_eq_equiv.symm e.place.up k.1.items i)
        ∙ is_other

    by_test : (b : Bool) → same_key k e ≡ b → get_by (names e) n ≡ cond b w (get_by (names e) m)
    by_test true is_same = let p = one k.0 e.number k.1.items e.place.up is_same in (λ i. get_by (is_key (sym p.0 i) (sym p.1 i)) n) ∙ h.1
    by_test false is_other = other_entries _ _ _ _ h.3 (names e) names-key (apart is_other)

-- the value at a key is that of the element which it names
pub found-here : {Z X S : Type 0} (m : HashMap (ℕ × Vec ℕ Z) X S) (k : ℕ × Vec ℕ Z) (e : Element) → same_key k e ≡ true → get_by (key_eq k) m ≡ get_by (names e) m
found-here m k e is_same = let p = one k.0 e.number k.1.items e.place.up is_same in λ i. get_by (is_key (p.0 i) (p.1 i)) m

-- the key of an element finds its value
pub key-names : {Z X S : Type 0} (m : HashMap (ℕ × Vec ℕ Z) X S) (k : ℕ × Vec ℕ Z) (e : Element) → k.0 ≡ e.number → k.1.items ≡ e.place.up → get_by (key_eq k) m ≡ get_by (names e) m
key-names m k e number way = λ i. get_by (is_key (number i) (way i)) m

-- and is compared as the element
pub key-same : {Z : Type 0} (k : ℕ × Vec ℕ Z) (o e : Element) → k.0 ≡ o.number → k.1.items ≡ o.place.up → same_key k e ≡ same_element o e
key-same k o e number way = λ i. nat_eq (number i) e.number && same_way (way i) e.place.up

-- nothing more for another element
pub others_stay : {X : Type 0} (b : Bool) (es : List X) (x : X) → (b ≡ true → ⊥) → es ≡ es ++ cond b (x ∷ []) []
others_stay true es x is_other = absurd (is_other refl)
others_stay false es x is_other = sym (append-nil es)

-- an origin whose key has no group is another one
pub key_absent : {Z X Y S : Type 0} (m : HashMap (ℕ × Vec ℕ Z) (Vec X Y) S) (k : ℕ × Vec ℕ Z) (e : Element) (es : List X)
    → None ≡ get_by (key_eq k) m → group_of m e ≡ Some es → same_key k e ≡ true → ⊥
key_absent {X = X} m k e es none is is_same = none-some es (ap (option_map (λ v. v.items)) (none ∙ found-here m k e is_same) ∙ is)

-- and the groups stay when it is taken out
pub key_left : {Z X Y S : Type 0} (m n : HashMap (ℕ × Vec ℕ Z) (Vec X Y) S) (k : ℕ × Vec ℕ Z) (e : Element) (es : List X)
    → Updates key_eq m n k None → None ≡ get_by (key_eq k) m → group_of m e ≡ Some es → group_of n e ≡ Some es
key_left {X = X} m n k e es taken none is = ap (option_map (λ v. v.items)) (found-after m n k None taken e) ∙ by_test (same_key k e) refl
  where
    by_test : (b : Bool) → same_key k e ≡ b → option_map (λ v. v.items) (cond b None (get_by (names e) m)) ≡ Some es
    by_test true is_same = absurd (key_absent m k e es none is is_same)
    by_test false is_other = is

-- an empty group at a key
pub opened : {Z X Y S : Type 0} (m n : HashMap (ℕ × Vec ℕ Z) (Vec X Y) S) (k : ℕ × Vec ℕ Z) (w : Vec X Y) (e : Element)
    → Updates key_eq m n k (Some w) → w.items ≡ [] → same_key k e ≡ true → group_of n e ≡ Some []
opened m n k w e put empty is_same =
    ap (option_map (λ v. v.items)) (found-after m n k (Some w) put e ∙ ap (λ b. cond b (Some w) (get_by (names e) m)) is_same) ∙ ap Some empty

pub opened-other : {Z X Y S : Type 0} (m n : HashMap (ℕ × Vec ℕ Z) (Vec X Y) S) (k : ℕ × Vec ℕ Z) (w : Vec X Y) (e : Element)
    → Updates key_eq m n k (Some w) → w.items ≡ [] → group_of m e ≡ Some [] → group_of n e ≡ Some []
opened-other {X = X} m n k w e put empty old = ap (option_map (λ v. v.items)) (found-after m n k (Some w) put e) ∙ by_test (same_key k e)
  where
    by_test : (b : Bool) → option_map (λ v. v.items) (cond b (Some w) (get_by (names e) m)) ≡ Some []
    by_test true = ap Some empty
    by_test false = old

-- one element more in the group of a key, which was taken out and is put back
pub added : {Z X Y S : Type 0} (m less n : HashMap (ℕ × Vec ℕ Z) (Vec X Y) S) (k : ℕ × Vec ℕ Z) (v w : Vec X Y) (x : X) (e : Element) (es : List X)
    → Updates key_eq m less k None → Updates key_eq less n k (Some w) → Some v ≡ get_by (key_eq k) m → w.items ≡ v.items ++ x ∷ []
    → group_of m e ≡ Some es → group_of n e ≡ Some (es ++ cond (same_key k e) (x ∷ []) [])
added {X = X} m less n k v w x e es taken put was is old =
    ap (option_map (λ u. u.items)) (found-after less n k (Some w) put e ∙ ap (cond (same_key k e) (Some w)) (found-after m less k None taken e))
    ∙ by_test (same_key k e) refl
  where
    by_test : (b : Bool) → same_key k e ≡ b → option_map (λ u. u.items) (cond b (Some w) (cond b None (get_by (names e) m))) ≡ Some (es ++ cond b (x ∷ []) [])
    by_test true is_same =
        let same = same_Some _ _ (ap (option_map (λ u. u.items)) (was ∙ found-here m k e is_same) ∙ old) in
        ap Some (is ∙ ap (λ l. l ++ x ∷ []) same)
    by_test false is_other = old ∙ ap Some (sym (append-nil es))

-- one more key in a set
pub put_in : (b x : Bool) → b ≡ true → cond b true x ≡ true
put_in true x h = refl
put_in false x h = cc

pub kept_in : (b x : Bool) → x ≡ true → cond b true x ≡ true
kept_in true x h = refl
kept_in false x h = h

pub true_false : (b : Bool) → b ≡ true → b ≡ false → ⊥
true_false true is_same is_other = cc
true_false false is_same is_other = cc

-- one more origin has a group
pub opened-on : {A : Type 0} (g h : Groups) (x : SyntaxElement × A) (rest all : List (SyntaxElement × A)) (e : Element) → all ≡ x ∷ rest
    → (same_element (element_of x.0) e ≡ true → IsGroup h e []) → (IsGroup g e [] → IsGroup h e [])
    → (is_among e (elements_of all) ≡ false → IsGroup g e []) → is_among e (elements_of rest) ≡ false → IsGroup h e []
opened-on g h x rest all e first here others was none = by_test (same_element (element_of x.0) e) refl
  where
    by_test : (b : Bool) → same_element (element_of x.0) e ≡ b → IsGroup h e []
    by_test true is_same = here is_same
    by_test false is_other = others (was (ap (λ l. is_among e (elements_of l)) first ∙ ap (λ b. b || is_among e (elements_of rest)) is_other ∙ none))

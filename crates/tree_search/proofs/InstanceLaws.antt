-- What fits is an instance, and each instance fits.
use Rattle.std.proofs.Common.{◌≡◌, ℕ, ◌+◌, ◌-◌, ◌≤◌, ◌&&◌, nat_le, Bool, true, false, List, [], ◌∷◌, ◌++◌, length, take, drop, Option, Some, None, refl, ap, sym, ◌∙◌, subst, arith, append_assoc, append-nil, length-append, if◌then◌else◌}
use Rattle.std.proofs.lemmas.Bool.{and_parts, le-leb}
use Rattle.std.proofs.lemmas.List.{take-append-drop}
use Rattle.rowan_green.specs.Forest.{Forest, empty, node, leaf}
use Rattle.rowan_green.specs.Leaf.{Leaf}
use Rattle.rowan_green.specs.Term.{terms}
use Rattle.syntax_tree.specs.declared.element.SyntaxElement.{SyntaxElement}
use Rattle.tree_patterns.specs.Places.{is_sequence, place_of}
use Rattle.tree_patterns.specs.declared.place.Place.{Place}
use Rattle.tree_search.specs.Elements.{bones_below, is_leaf, is_node, may_stand}
use Rattle.tree_search.specs.Fit.{Bound, and_then, first_is, fit, may_run, run_of, taken, taken_by, with_taken}
use Rattle.tree_search.specs.Instances.{IsInstance, MatchesAreInstances, InstancesMatch, ends, nodes, token, one, run, has_no_sequence, has_single_sequences, is_last, is_single}

abbrev Made : Forest → List SyntaxElement → (before after : Bound) → Type 0
Made f es before after = (bound : Bound) × (after ≡ before ++ bound) × IsInstance f es bound

-- what a leaf takes makes an instance, with the rest
leaf_made : (l : Leaf) (r : Forest) (es : List SyntaxElement) (before after : Bound) (place : Option Place) (o : Option ℕ)
    → place_of l.kind ≡ place → taken_by place l (length (terms r)) es ≡ o
    → ((n : ℕ) (mid : Bound) → fit r (drop n es) mid ≡ Some after → Made r (drop n es) mid after)
    → and_then o (λ n. fit r (drop n es) (with_taken place (take n es) before)) ≡ Some after
    → Made (leaf l r) es before after
leaf_made l r es before after place None is takes rest h = absurd (cc)
leaf_made l r [] before after None (Some n) is takes rest h = absurd (cc)
leaf_made l r (e ∷ es) before after None (Some n) is takes rest h = tested (is_leaf l e) refl takes
  where
    tested : (b : Bool) → is_leaf l e ≡ b → (if b then Some 1 else None) ≡ Some n → Made (leaf l r) (e ∷ es) before after
    tested true same k =
        let m : 1 ≡ n = cc in
        let P : ℕ → Type 0 = λ i. fit r (drop i (e ∷ es)) before ≡ Some after in
        let made = rest 1 before (subst P (sym m) h) in
        (made.0, made.1, token l r e es made.0 is same made.2)
    tested false same k = absurd (cc)
leaf_made l r es before after (Some place) (Some n) is takes rest h = sorted (is_sequence place) refl takes
  where
    single : (xs : List SyntaxElement) → is_sequence place ≡ false → first_is (may_stand place) xs ≡ Some n
        → ((m : ℕ) (mid : Bound) → fit r (drop m xs) mid ≡ Some after → Made r (drop m xs) mid after)
        → fit r (drop n xs) (before ++ take n xs ∷ []) ≡ Some after
        → Made (leaf l r) xs before after
    single [] unlike k further g = absurd (cc)
    single (e ∷ xs) unlike k further g = tested (may_stand place e) refl k
      where
        tested : (b : Bool) → may_stand place e ≡ b → (if b then Some 1 else None) ≡ Some n → Made (leaf l r) (e ∷ xs) before after
        tested true same j =
            let m : 1 ≡ n = cc in
            let P : ℕ → Type 0 = λ i. fit r (drop i (e ∷ xs)) (before ++ take i (e ∷ xs) ∷ []) ≡ Some after in
            let made = further 1 (before ++ (e ∷ []) ∷ []) (subst P (sym m) g) in
            ((e ∷ []) ∷ made.0, made.1 ∙ append_assoc before ((e ∷ []) ∷ []) made.0, one l r place e xs made.0 is unlike same made.2)
        tested false same j = absurd (cc)

    several : is_sequence place ≡ true → run_of place (length (terms r)) es ≡ Some n → Made (leaf l r) es before after
    several sure k = chosen (nat_le (length (terms r)) (length es) && may_run place (take (length es - length (terms r)) es)) refl k
      where
        chosen : (b : Bool) → (nat_le (length (terms r)) (length es) && may_run place (take (length es - length (terms r)) es)) ≡ b
            → (if b then Some (length es - length (terms r)) else None) ≡ Some n → Made (leaf l r) es before after
        chosen true both j =
            let m : length es - length (terms r) ≡ n = cc in
            let parts = and_parts (nat_le (length (terms r)) (length es)) (may_run place (take (length es - length (terms r)) es)) both in
            let fits : may_run place (take n es) ≡ true = ap (λ i. may_run place (take i es)) (sym m) ∙ parts.1 in
            let made = rest n (before ++ take n es ∷ []) h in
            let P : List SyntaxElement → Type 0 = λ xs. IsInstance (leaf l r) xs (take n es ∷ made.0) in (
              take n es ∷ made.0,
              made.1 ∙ append_assoc before (take n es ∷ []) made.0,
              subst P (take-append-drop n es) (run l r place (take n es) (drop n es) made.0 is sure fits made.2),
            )
        chosen false both j = absurd (cc)

    sorted : (b : Bool) → is_sequence place ≡ b → (if b then run_of place (length (terms r)) es else first_is (may_stand place) es) ≡ Some n
        → Made (leaf l r) es before after
    sorted true sure k = several sure k
    sorted false unlike k = single es unlike k rest h

pub matches-are-instances : MatchesAreInstances
matches-are-instances empty [] before after is = ([], (let same : before ≡ after = cc in sym same ∙ sym (append-nil before)), ends)
matches-are-instances empty (e ∷ es) before after is = absurd (cc)
matches-are-instances (node k f r) [] before after is = absurd (cc)
matches-are-instances (node k f r) (e ∷ es) before after is =
    tested (is_node k e) refl (λ mid. matches-are-instances f (bones_below e) before mid) (λ mid. matches-are-instances r es mid after) is
  where
    inner : is_node k e ≡ true → (o : Option Bound) → ((mid : Bound) → o ≡ Some mid → Made f (bones_below e) before mid)
        → ((mid : Bound) → fit r es mid ≡ Some after → Made r es mid after)
        → and_then o (fit r es) ≡ Some after → Made (node k f r) (e ∷ es) before after
    inner kind None made further h = absurd (cc)
    inner kind (Some mid) made further h =
        let own = made mid refl in
        let rest = further mid h in
        (own.0 ++ rest.0, rest.1 ∙ ap (λ b. b ++ rest.0) own.1 ∙ append_assoc before own.0 rest.0, nodes k f r e es own.0 rest.0 kind own.2 rest.2)

    tested : (b : Bool) → is_node k e ≡ b → ((mid : Bound) → fit f (bones_below e) before ≡ Some mid → Made f (bones_below e) before mid)
        → ((mid : Bound) → fit r es mid ≡ Some after → Made r es mid after)
        → and_then (if b then fit f (bones_below e) before else None) (fit r es) ≡ Some after
        → Made (node k f r) (e ∷ es) before after
    tested true kind made further h = inner kind (fit f (bones_below e) before) made further h
    tested false kind made further h = absurd (cc)
matches-are-instances (leaf l r) es before after is =
    leaf_made l r es before after (place_of l.kind) (taken l (length (terms r)) es) refl refl (λ n mid. matches-are-instances r (drop n es) mid after) is

-- ---- the other way

take_front : (xs es : List SyntaxElement) → take (length xs) (xs ++ es) ≡ xs
take_front [] es = refl
take_front (x ∷ xs) es = ap (λ ys. x ∷ ys) (take_front xs es)

drop_front : (xs es : List SyntaxElement) → drop (length xs) (xs ++ es) ≡ es
drop_front [] es = refl
drop_front (x ∷ xs) es = drop_front xs es

abbrev at_place : (l : Leaf) (r : Forest) (es : List SyntaxElement) (before : Bound) → Option Place → Option Bound
at_place l r es before o = and_then (taken_by o l (length (terms r)) es) (λ n. fit r (drop n es) (with_taken o (take n es) before))

last_of : (place : Place) (others : Bool) → is_sequence place ≡ true → is_last (Some place) others ≡ true → others ≡ true
last_of place others sure h = ap (λ b. if b then others else true) (sym sure) ∙ h

no-run : (o : Option Place) (place : Place) → o ≡ Some place → is_sequence place ≡ true → is_single o ≡ true → ⊥
no-run None place is sure h = cc
no-run (Some q) place is sure h = let z : false ≡ true = ap (λ b. if b then false else true) (sym sure) ∙ (let k : q ≡ place = cc in ap (λ (x : Place). is_single (Some x)) (sym k) ∙ h) in cc

-- without a sequence there are as many elements as there are in the pattern
as_many : (f : Forest) (es : List SyntaxElement) (bound : Bound) → IsInstance f es bound → has_no_sequence f ≡ true → length es ≡ length (terms f)
as_many f es bound ends h = refl
as_many f0 es0 b0 (nodes k f r e es v w kind below rest) h =
    let n : length es ≡ length (terms r) = as_many r es w rest h in omega (arith, n)
as_many f0 es0 b0 (token l r e es w is same rest) h =
    let n : length es ≡ length (terms r) = as_many r es w rest (and_parts (is_single (place_of l.kind)) (has_no_sequence r) h).1 in omega (arith, n)
as_many f0 es0 b0 (one l r place e es w is unlike same rest) h =
    let n : length es ≡ length (terms r) = as_many r es w rest (and_parts (is_single (place_of l.kind)) (has_no_sequence r) h).1 in omega (arith, n)
as_many f0 es0 b0 (run l r place xs es w is sure fits rest) h =
    absurd (no-run (place_of l.kind) place is sure (and_parts (is_single (place_of l.kind)) (has_no_sequence r) h).0)

within : (a b : ℕ) → a ≤ b → nat_le a b ≡ true
within a b h = le-leb a b h

made_again : (f : Forest) (es : List SyntaxElement) (bound : Bound) → IsInstance f es bound → (before : Bound)
    → has_single_sequences f ≡ true → fit f es before ≡ Some (before ++ bound)
made_again f es bound ends before s = ap Some (sym (append-nil before))
made_again f0 es0 b0 (nodes k f r e es v w kind below rest) before s =
    let parts = and_parts (has_single_sequences f) (has_single_sequences r) s in
    ap (λ b. and_then (if b then fit f (bones_below e) before else None) (fit r es)) kind
    ∙ ap (λ o. and_then o (fit r es)) (made_again f (bones_below e) v below before parts.0)
    ∙ made_again r es w rest (before ++ v) parts.1
    ∙ ap Some (append_assoc before v w)
made_again f0 es0 b0 (token l r e es w is same rest) before s =
    let parts = and_parts (is_last (place_of l.kind) (has_no_sequence r)) (has_single_sequences r) s in
    ap (at_place l r (e ∷ es) before) is
    ∙ ap (λ b. and_then (if b then Some 1 else None) (λ n. fit r (drop n (e ∷ es)) before)) same
    ∙ made_again r es w rest before parts.1
made_again f0 es0 b0 (one l r place e es w is unlike same rest) before s =
    let parts = and_parts (is_last (place_of l.kind) (has_no_sequence r)) (has_single_sequences r) s in
    let next : ℕ → Option Bound = λ n. fit r (drop n (e ∷ es)) (before ++ take n (e ∷ es) ∷ []) in
    ap (at_place l r (e ∷ es) before) is
    ∙ ap (λ b. and_then (if b then run_of place (length (terms r)) (e ∷ es) else first_is (may_stand place) (e ∷ es)) next) unlike
    ∙ ap (λ b. and_then (if b then Some 1 else None) next) same
    ∙ made_again r es w rest (before ++ (e ∷ []) ∷ []) parts.1
    ∙ ap Some (append_assoc before ((e ∷ []) ∷ []) w)
made_again f0 es0 b0 (run l r place xs es w is sure fits rest) before s =
    let parts = and_parts (is_last (place_of l.kind) (has_no_sequence r)) (has_single_sequences r) s in
    let count : ℕ = length (terms r) in
    let none : has_no_sequence r ≡ true = last_of place (has_no_sequence r) sure (ap (λ o. is_last o (has_no_sequence r)) (sym is) ∙ parts.0) in
    let n : length es ≡ length (terms r) = as_many r es w rest none in
    let all : length (xs ++ es) ≡ length xs + length es = length-append xs es in
    let m : length (xs ++ es) - length (terms r) ≡ length xs = omega (arith, n, all) in
    let enough : nat_le (length (terms r)) (length (xs ++ es)) ≡ true = within (length (terms r)) (length (xs ++ es)) (omega (arith, n, all)) in
    let front : take (length xs) (xs ++ es) ≡ xs = take_front xs es in
    let back : drop (length xs) (xs ++ es) ≡ es = drop_front xs es in
    let may : may_run place (take (length (xs ++ es) - length (terms r)) (xs ++ es)) ≡ true = ap (λ i. may_run place (take i (xs ++ es))) m ∙ ap (may_run place) front ∙ fits in
    let next : ℕ → Option Bound = λ i. fit r (drop i (xs ++ es)) (before ++ take i (xs ++ es) ∷ []) in
    ap (at_place l r (xs ++ es) before) is
    ∙ ap (λ b. and_then (if b then run_of place (length (terms r)) (xs ++ es) else first_is (may_stand place) (xs ++ es)) next) sure
    ∙ (λ i. and_then (if (enough i && may i) then Some (m i) else None) next)
    ∙ (λ i. fit r (back i) (before ++ front i ∷ []))
    ∙ made_again r es w rest (before ++ xs ∷ []) parts.1
    ∙ ap Some (append_assoc before (xs ∷ []) w)

pub instances-match : InstancesMatch
instances-match f es before bound single is = made_again f es bound is before single

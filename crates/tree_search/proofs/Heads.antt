-- Lists that are taken apart from the front.
use Rattle.std.proofs.Common.{◌≡◌, ℕ, ◌<◌, ◌&&◌, ◌||◌, not, Bool, true, false, List, [], ◌∷◌, ◌++◌, length, get_or, drop, map, refl, ap, sym, ◌∙◌, arith}
use Rattle.std.specs.Cmp.Lexicographic.{pointwise}
use Rattle.rowan_green.specs.Leaf.{Leaf}
use Rattle.syntax_tree.specs.declared.element.SyntaxElement.{SyntaxElement}
use Rattle.tree_search.specs.Elements.{has_tokens_of, same_tokens}
use Rattle.tree_search.specs.Fit.{Bound}
use Rattle.tree_search.specs.Matching.{Names, agrees, all_agree, same_name}

-- a list with a first element
pub with_head : {A : Type 0} (xs : List A) (x : A) → 0 < length xs → x ≡ get_or xs 0 x → xs ≡ x ∷ drop 1 xs
with_head [] x some is = absurd (omega arith)
with_head (y ∷ ys) x some is = λ i. sym is i ∷ ys

and-true : (a b : Bool) → a ≡ true → (a && b) ≡ b
and-true true b h = refl
and-true false b h = absurd (cc)

and-false : (a b : Bool) → a ≡ false → (a && b) ≡ false
and-false true b h = absurd (cc)
and-false false b h = refl

-- two runs with first elements
pub same_more : (xs ys : List SyntaxElement) (x y : SyntaxElement)
    → 0 < length xs → 0 < length ys → x ≡ get_or xs 0 x → y ≡ get_or ys 0 y → has_tokens_of x y ≡ true
    → same_tokens xs ys ≡ same_tokens (drop 1 xs) (drop 1 ys)
same_more xs ys x y some more here there same =
    (λ i. same_tokens (with_head xs x some here i) (with_head ys y more there i))
    ∙ and-true (has_tokens_of x y) (same_tokens (drop 1 xs) (drop 1 ys)) same

pub same_off : (xs ys : List SyntaxElement) (x y : SyntaxElement)
    → 0 < length xs → 0 < length ys → x ≡ get_or xs 0 x → y ≡ get_or ys 0 y → has_tokens_of x y ≡ false
    → same_tokens xs ys ≡ false
same_off xs ys x y some more here there same =
    (λ i. same_tokens (with_head xs x some here i) (with_head ys y more there i))
    ∙ and-false (has_tokens_of x y) (same_tokens (drop 1 xs) (drop 1 ys)) same

pub same_short : (xs ys : List SyntaxElement) → 0 < length xs → length ys ≡ 0 → same_tokens xs ys ≡ false
same_short [] ys some none = absurd (omega arith)
same_short (x ∷ xs) [] some none = refl
same_short (x ∷ xs) (y ∷ ys) some none = absurd (omega arith)

pub same_long : (xs ys : List SyntaxElement) → length xs ≡ 0 → 0 < length ys → same_tokens xs ys ≡ false
same_long [] [] none some = absurd (omega arith)
same_long [] (y ∷ ys) none some = refl
same_long (x ∷ xs) ys none some = absurd (omega arith)

pub same_none : (xs ys : List SyntaxElement) → length xs ≡ 0 → length ys ≡ 0 → same_tokens xs ys ≡ true
same_none [] [] none unlike = refl
same_none [] (y ∷ ys) none unlike = absurd (omega arith)
same_none (x ∷ xs) ys none unlike = absurd (omega arith)

pub ruleset same_steps = (same_more, same_off, same_short, same_long, same_none)

-- the names of places
abbrev pub names_of : List Leaf → Names
names_of ls = map (λ l. l.text) ls

agrees-head : (n : List ℕ) (v : List SyntaxElement) (ls : List Leaf) (vs : Bound) (l : Leaf) (w : List SyntaxElement)
    → 0 < length ls → 0 < length vs → l ≡ get_or ls 0 l → w ≡ get_or vs 0 w
    → agrees n v (names_of ls) vs ≡ ((not (same_name n l.text) || same_tokens v w) && agrees n v (names_of (drop 1 ls)) (drop 1 vs))
agrees-head n v ls vs l w some more here there =
    λ i. agrees n v (names_of (with_head ls l some here i)) (with_head vs w more there i)

or-not : (a b : Bool) → a ≡ false → (not a || b) ≡ true
or-not true b h = absurd (cc)
or-not false b h = refl

or-use : (a b : Bool) → a ≡ true → (not a || b) ≡ b
or-use true b h = refl
or-use false b h = absurd (cc)

-- a place of another name
pub agrees_other : (n : List ℕ) (v : List SyntaxElement) (ls : List Leaf) (vs : Bound) (l : Leaf) (w : List SyntaxElement)
    → 0 < length ls → 0 < length vs → l ≡ get_or ls 0 l → w ≡ get_or vs 0 w → same_name n l.text ≡ false
    → agrees n v (names_of ls) vs ≡ agrees n v (names_of (drop 1 ls)) (drop 1 vs)
agrees_other n v ls vs l w some more here there other =
    agrees-head n v ls vs l w some more here there
    ∙ and-true (not (same_name n l.text) || same_tokens v w) (agrees n v (names_of (drop 1 ls)) (drop 1 vs)) (or-not (same_name n l.text) (same_tokens v w) other)

-- one of the same name, with the same tokens
pub agrees_same : (n : List ℕ) (v : List SyntaxElement) (ls : List Leaf) (vs : Bound) (l : Leaf) (w : List SyntaxElement)
    → 0 < length ls → 0 < length vs → l ≡ get_or ls 0 l → w ≡ get_or vs 0 w → same_name n l.text ≡ true → same_tokens v w ≡ true
    → agrees n v (names_of ls) vs ≡ agrees n v (names_of (drop 1 ls)) (drop 1 vs)
agrees_same n v ls vs l w some more here there name same =
    agrees-head n v ls vs l w some more here there
    ∙ and-true (not (same_name n l.text) || same_tokens v w) (agrees n v (names_of (drop 1 ls)) (drop 1 vs)) (or-use (same_name n l.text) (same_tokens v w) name ∙ same)

-- with others
pub agrees_off : (n : List ℕ) (v : List SyntaxElement) (ls : List Leaf) (vs : Bound) (l : Leaf) (w : List SyntaxElement)
    → 0 < length ls → 0 < length vs → l ≡ get_or ls 0 l → w ≡ get_or vs 0 w → same_name n l.text ≡ true → same_tokens v w ≡ false
    → agrees n v (names_of ls) vs ≡ false
agrees_off n v ls vs l w some more here there name same =
    agrees-head n v ls vs l w some more here there
    ∙ and-false (not (same_name n l.text) || same_tokens v w) (agrees n v (names_of (drop 1 ls)) (drop 1 vs)) (or-use (same_name n l.text) (same_tokens v w) name ∙ same)

pub agrees_places : (n : List ℕ) (v : List SyntaxElement) (ls : List Leaf) (vs : Bound) → length ls ≡ 0 → agrees n v (names_of ls) vs ≡ true
agrees_places n v [] vs none = refl
agrees_places n v (l ∷ ls) vs none = absurd (omega arith)

pub agrees_runs : (n : List ℕ) (v : List SyntaxElement) (ls : List Leaf) (vs : Bound) → length vs ≡ 0 → agrees n v (names_of ls) vs ≡ true
agrees_runs n v [] vs none = refl
agrees_runs n v (l ∷ ls) [] none = refl
agrees_runs n v (l ∷ ls) (w ∷ ws) none = absurd (omega arith)

pub ruleset agree_steps = (agrees_other, agrees_same, agrees_off, agrees_places, agrees_runs)

all-head : (ls : List Leaf) (vs : Bound) (l : Leaf) (w : List SyntaxElement)
    → 0 < length ls → 0 < length vs → l ≡ get_or ls 0 l → w ≡ get_or vs 0 w
    → all_agree (names_of ls) vs ≡ (agrees l.text w (names_of (drop 1 ls)) (drop 1 vs) && all_agree (names_of (drop 1 ls)) (drop 1 vs))
all-head ls vs l w some more here there = λ i. all_agree (names_of (with_head ls l some here i)) (with_head vs w more there i)

pub all_more : (ls : List Leaf) (vs : Bound) (l : Leaf) (w : List SyntaxElement)
    → 0 < length ls → 0 < length vs → l ≡ get_or ls 0 l → w ≡ get_or vs 0 w
    → agrees l.text w (names_of (drop 1 ls)) (drop 1 vs) ≡ true
    → all_agree (names_of ls) vs ≡ all_agree (names_of (drop 1 ls)) (drop 1 vs)
all_more ls vs l w some more here there same =
    all-head ls vs l w some more here there
    ∙ and-true (agrees l.text w (names_of (drop 1 ls)) (drop 1 vs)) (all_agree (names_of (drop 1 ls)) (drop 1 vs)) same

pub all_off : (ls : List Leaf) (vs : Bound) (l : Leaf) (w : List SyntaxElement)
    → 0 < length ls → 0 < length vs → l ≡ get_or ls 0 l → w ≡ get_or vs 0 w
    → agrees l.text w (names_of (drop 1 ls)) (drop 1 vs) ≡ false
    → all_agree (names_of ls) vs ≡ false
all_off ls vs l w some more here there same =
    all-head ls vs l w some more here there
    ∙ and-false (agrees l.text w (names_of (drop 1 ls)) (drop 1 vs)) (all_agree (names_of (drop 1 ls)) (drop 1 vs)) same

pub all_places : (ls : List Leaf) (vs : Bound) → length ls ≡ 0 → all_agree (names_of ls) vs ≡ true
all_places [] vs none = refl
all_places (l ∷ ls) vs none = absurd (omega arith)

pub all_runs : (ls : List Leaf) (vs : Bound) → length vs ≡ 0 → all_agree (names_of ls) vs ≡ true
all_runs [] vs none = refl
all_runs (l ∷ ls) [] none = refl
all_runs (l ∷ ls) (w ∷ ws) none = absurd (omega arith)

pub ruleset all_steps = (all_more, all_off, all_places, all_runs)

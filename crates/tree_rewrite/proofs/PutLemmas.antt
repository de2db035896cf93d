-- Every order in which each spot has the same list of changes leads to the same overlays.
use Rattle.std.proofs.Common.{◌≡◌, ℕ, zero, suc, ◌≤◌, List, [], ◌∷◌, length, Option, Some, None, is_none, Bool, true, false, refl, ap, sym, ◌∙◌, arith}
use Rattle.std.specs.List.{filter}
use Rattle.syntax_tree.specs.Element.{Way, Element}
use Rattle.tree_rewrite.specs.Marked.{Marked, Spot, reading_of, readings_of, with_put}
use Rattle.tree_rewrite.specs.Rewrite.{Job, set_by, Sheets, write, written, terms_within, terms_of, puts, rewritten, sheet_of, payload_of}
use Rattle.tree_rewrite.proofs.Plans.{SameAt, SameOwn, NestedFirst, Orders}
use Rattle.tree_rewrite.specs.Plan.{sets_on}

kept_more : (c : Job → Marked) (n : Option Way) (k : Spot) (j : Job) (js : List Job)
    → written c js n k ≡ written c (filter (sets_on n k) js) n k
    → (b : Bool) → sets_on n k j ≡ b
    → written c (j ∷ js) n k ≡ written c (filter (sets_on n k) (j ∷ js)) n k
kept_more c n k j js h true p = rw p (rw p (ap (λ v. Some (set_by j.change k (c j) v)) h))
kept_more c n k j js h false p = rw p h

written_kept : (c : Job → Marked) (n : Option Way) (k : Spot) (js : List Job) → written c js n k ≡ written c (filter (sets_on n k) js) n k
written_kept c n k [] = refl
written_kept c n k (j ∷ js) = kept_more c n k j js (written_kept c n k js) (sets_on n k j) refl

pub written_same : (c : Job → Marked) (n : Option Way) (js is : List Job) → SameAt n js is → written c js n ≡ written c is n
written_same c n js is h = λ i k. (written_kept c n k js ∙ ap (λ l. written c l n k) (h k) ∙ sym (written_kept c n k is)) i

list_same : (j : Job) (all js : List Job) (c : Job → Marked) (s : Sheets) → s ≡ written c js → (o : Option Way) → SameOwn o js all → sheet_of s o ≡ sheet_of (written c all) o
list_same j all js c s h None q = refl
list_same j all js c s h (Some w) q = ap (λ t. t (Some w)) h ∙ written_same c (Some w) js all q

pub puts_written : (all js : List Job) → NestedFirst all js → (d : ℕ) → length js ≤ d → puts js ≡ written (λ i. terms_within d all i) js
puts_written all [] h d l = refl
puts_written all (j ∷ js) h zero l = absurd (omega (arith, l))
puts_written all (j ∷ js) h (suc d) l =
    let shorter : length js ≤ d = omega (arith, l) in
    let before = puts_written all js h.1 d shorter in
    let now = puts_written all js h.1 (suc d) (omega (arith, shorter)) in
    let sheet = list_same j all js (λ i. terms_within d all i) (puts js) before j.own h.0 in
    λ i. write j (with_put (is_none j.sheet) (readings_of (sheet i) (payload_of j.change))) (now i)

pub puts_rewritten : (e : Element) (all js : List Job) → Orders all js → reading_of (puts js None) e ≡ rewritten e all
puts_rewritten e all js o =
    ap (λ s. reading_of (s None) e) (puts_written all js o.nested (length all) (omega (arith, o.long)))
    ∙ ap (λ s. reading_of s e) (written_same (λ i. terms_within (length all) all i) None js all o.outer)

-- the terms that a planned change inserts, in an order, are those at any sufficient depth
made_is : (all : List Job) (j : Job) (js : List Job) → SameOwn j.own js all → NestedFirst all js → (d : ℕ) → length js ≤ d → terms_of (puts js) j ≡ terms_within (suc d) all j
made_is all j js o h d l =
    let sheet = list_same j all js (λ i. terms_within d all i) (puts js) (puts_written all js h d l) j.own o in
    λ i. with_put (is_none j.sheet) (readings_of (sheet i) (payload_of j.change))

-- each planned change inserts its payload with all planned changes that it owns
abbrev pub Settled : ℕ → List Job → List Job → Type 0
Settled d all [] = Unit {0}
Settled d all (j ∷ js) = (terms_within d all j ≡ terms_of (written (λ i. terms_within d all i) all) j) × Settled d all js

pub settled : (d : ℕ) (all js : List Job) → NestedFirst all js → length js ≤ d → Settled d all js
settled d all [] h l = tt
settled zero all (j ∷ js) h l = absurd (omega (arith, l))
settled (suc d) all (j ∷ js) h l =
    let shorter : length js ≤ d = omega (arith, l) in
    (sym (made_is all j js h.0 h.1 d shorter) ∙ made_is all j js h.0 h.1 (suc d) (omega (arith, shorter)), settled (suc d) all js h.1 (omega (arith, shorter)))

-- The walk backwards from a node, by the numbers of the leaves.
use Rattle.std.proofs.Common.{◌≡◌, ◌≤◌, ◌<◌, ◌==◌, ℕ, suc, ◌+◌, ◌-◌, Bool, true, false, not, ◌&&◌, List, [], ◌∷◌, length, take, drop, reverse, slice_range, if◌then◌else◌, refl, ap, ◌∙◌, arith}
use Rattle.std.specs.List.{list_any}
use Rattle.std.proofs.lemmas.List.{reverse-append}
use Rattle.parser_input.specs.Kinds.{COMMENT}
use Rattle.parser_input.specs.Leaf.{Leaf}
use Rattle.parser_input.specs.Lexed.{Lexed, leaves_of}
use Rattle.parser_input.specs.Stored.{leaf_at}
use Rattle.parser_events.specs.Trivia.{attached, taking, has_empty_line, is_inner, is_outer, is_outer_next, walk}
use Rattle.parser_events.proofs.Putting.{slice-more}

-- whether the walk ends at a leaf, with those before it
abbrev pub stops : Leaf → List Leaf → Bool
stops l ls = if l.kind == COMMENT then is_inner l.text else (has_empty_line l.text && not (is_outer_next ls))

walk-stop : (p i : ℕ) (l : Leaf) (ls : List Leaf) → stops l ls ≡ true → walk p i (l ∷ ls) ≡ i
unfolding walk
walk-stop p i l ls h = whichever (l.kind == COMMENT) refl
  where
    whichever : (b : Bool) → (l.kind == COMMENT) ≡ b → walk p i (l ∷ ls) ≡ i
    whichever true e = let s : is_inner l.text ≡ true = rw e at h in rw (e, s) refl
    whichever false e = let s : (has_empty_line l.text && not (is_outer_next ls)) ≡ true = rw e at h in rw (e, s) refl

walk-comment : (p i : ℕ) (l : Leaf) (ls : List Leaf) → stops l ls ≡ false → (l.kind == COMMENT) ≡ true → walk p i (l ∷ ls) ≡ walk (suc p) (suc p) ls
unfolding walk
walk-comment p i l ls h e = let s : is_inner l.text ≡ false = rw e at h in rw (e, s) refl

walk-space : (p i : ℕ) (l : Leaf) (ls : List Leaf) → stops l ls ≡ false → (l.kind == COMMENT) ≡ false → walk p i (l ∷ ls) ≡ walk (suc p) i ls
unfolding walk
walk-space p i l ls h e = let s : (has_empty_line l.text && not (is_outer_next ls)) ≡ false = rw e at h in rw (e, s) refl

-- the leaves from a number to another, the last first
abbrev pub backwards : List Lexed → ℕ → ℕ → List Leaf
backwards ls a b = reverse (slice_range (leaves_of ls) a b)

back-none : (ls : List Lexed) (a b : ℕ) → a ≡ b → backwards ls a b ≡ []
back-none ls a b e = ap (λ (k : ℕ). reverse (take k (drop a (leaves_of ls)))) (let z : b - a ≡ 0 = omega (arith, e) in z)

back-one : (ls : List Lexed) (a b : ℕ) → a < b → b ≤ length ls → backwards ls a b ≡ (leaf_at ls (b - 1)).leaf ∷ backwards ls a (b - 1)
back-one ls a b some within =
    ap (λ (k : ℕ). backwards ls a k) (let e : b ≡ b - 1 + 1 = omega (arith, some) in e)
    ∙ ap reverse (slice-more ls a (b - 1) (omega (arith, some)) (omega (arith, some, within)))
    ∙ reverse-append (slice_range (leaves_of ls) a (b - 1)) ((leaf_at ls (b - 1)).leaf ∷ [])

pub outer-none : (ls : List Lexed) (a b : ℕ) → a ≡ b → is_outer_next (backwards ls a b) ≡ false
unfolding is_outer_next
outer-none ls a b e = ap is_outer_next (back-none ls a b e)

pub outer-last : (ls : List Lexed) (a b : ℕ) → a < b → b ≤ length ls →
    is_outer_next (backwards ls a b) ≡ ((leaf_at ls (b - 1)).leaf.kind == COMMENT && is_outer (leaf_at ls (b - 1)).leaf.text)
unfolding is_outer_next
outer-last ls a b some within = ap is_outer_next (back-one ls a b some within)

pub on-true : (b x y : Bool) → b ≡ true → (if b then x else y) ≡ x
on-true b x y e = rw e refl

pub on-false : (b x y : Bool) → b ≡ false → (if b then x else y) ≡ y
on-false b x y e = rw e refl

-- The walk from `end`, at a place: a comment at `first` was the last that was passed.
abbrev pub walk_at : List Lexed → ℕ → ℕ → ℕ → ℕ → ℕ
walk_at ls start end place first = walk (end - place) (end - first) (backwards ls start place)

pub walk-begins : (ls : List Lexed) (start end : ℕ) → walk_at ls start end end end ≡ walk 0 0 (backwards ls start end)
walk-begins ls start end = ap (λ (k : ℕ). walk k k (backwards ls start end)) (let z : end - end ≡ 0 = omega arith in z)

pub walk-ends : (ls : List Lexed) (start end place first : ℕ) → start ≡ place → walk_at ls start end place first ≡ end - first
unfolding walk
walk-ends ls start end place first e = ap (walk (end - place) (end - first)) (back-none ls start place e)

pub walk-stops : (ls : List Lexed) (start end place first : ℕ) → start < place → place ≤ length ls →
    stops (leaf_at ls (place - 1)).leaf (backwards ls start (place - 1)) ≡ true → walk_at ls start end place first ≡ end - first
walk-stops ls start end place first some within s =
    ap (walk (end - place) (end - first)) (back-one ls start place some within)
    ∙ walk-stop (end - place) (end - first) (leaf_at ls (place - 1)).leaf (backwards ls start (place - 1)) s

passed : (end place : ℕ) → 0 < place → place ≤ end → suc (end - place) ≡ end - (place - 1)
passed end place some far = omega (arith, some, far)

pub walk-past-comment : (ls : List Lexed) (start end place first : ℕ) → start < place → place ≤ end → end ≤ length ls →
    stops (leaf_at ls (place - 1)).leaf (backwards ls start (place - 1)) ≡ false → ((leaf_at ls (place - 1)).leaf.kind == COMMENT) ≡ true →
    walk_at ls start end place first ≡ walk_at ls start end (place - 1) (place - 1)
walk-past-comment ls start end place first some far within s e =
    ap (walk (end - place) (end - first)) (back-one ls start place some (omega (arith, far, within)))
    ∙ walk-comment (end - place) (end - first) (leaf_at ls (place - 1)).leaf (backwards ls start (place - 1)) s e
    ∙ ap (λ (k : ℕ). walk k k (backwards ls start (place - 1))) (passed end place (omega (arith, some)) far)

pub walk-past-space : (ls : List Lexed) (start end place first : ℕ) → start < place → place ≤ end → end ≤ length ls →
    stops (leaf_at ls (place - 1)).leaf (backwards ls start (place - 1)) ≡ false → ((leaf_at ls (place - 1)).leaf.kind == COMMENT) ≡ false →
    walk_at ls start end place first ≡ walk_at ls start end (place - 1) first
walk-past-space ls start end place first some far within s e =
    ap (walk (end - place) (end - first)) (back-one ls start place some (omega (arith, far, within)))
    ∙ walk-space (end - place) (end - first) (leaf_at ls (place - 1)).leaf (backwards ls start (place - 1)) s e
    ∙ ap (λ (k : ℕ). walk k (end - first) (backwards ls start (place - 1))) (passed end place (omega (arith, some)) far)

-- How many stand inside a node.

pub attached-none : (k : ℕ) (ls : List Leaf) → list_any (λ n. n == k) taking ≡ false → 0 ≡ attached k ls
unfolding attached
attached-none k ls e = rw e refl

either-way : (b : Bool) (n : ℕ) → (if b then n else n) ≡ n
either-way true n = refl
either-way false n = refl

pub attached-nothing : (k : ℕ) → attached k [] ≡ 0
unfolding attached walk
attached-nothing k = either-way (list_any (λ n. n == k) taking) 0

pub attached-walked : (k : ℕ) (ls : List Leaf) → list_any (λ n. n == k) taking ≡ true → walk 0 0 (reverse ls) ≡ attached k ls
unfolding attached
attached-walked k ls e = rw e refl

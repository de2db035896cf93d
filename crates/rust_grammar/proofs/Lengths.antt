-- How many steps the trees of the entries have, and how many their dressed trees.
use Rattle.std.proofs.Common.{◌≡◌, ℕ, suc, ◌+◌, ◌-◌, ◌≤◌, Bool, true, false, List, [], ◌∷◌, ◌++◌, length, take, drop, refl, ap, arith, inl, inr, length-append}
use Rattle.std.specs.List.{prefix_len}
use Rattle.std.proofs.lemmas.Bool.{cases_Bool}
use Rattle.std.proofs.lemmas.List.{length-drop, take-append-drop}
use Rattle.parser_input.specs.Input.{input}
use Rattle.parser_input.specs.Leaf.{Leaf, is_trivia}
use Rattle.parser_input.specs.declared.edition.Edition.{Edition}
use Rattle.parser_events.specs.Dress.{dress_root, joined, is_empty, from_dot, next_text, reach}
use Rattle.parser_events.specs.Fits.{fits, IsRooted}
use Rattle.parser_events.specs.Forest as forest
use Rattle.parser_events.specs.Forest.{Forest, UnexpectedTokens, ◌then◌}
use Rattle.parser_events.specs.Laying.{Place, after, after_pending, outside, after_step, split_steps, put_by, put_inside, put_around}
use Rattle.parser_events.specs.Steps as walk
use Rattle.parser_events.specs.Steps.{Step, steps}
use Rattle.parser_events.specs.TextSteps as text
use Rattle.parser_events.specs.TextSteps.{TextStep, text_steps, leaf_steps}
use Rattle.parser_events.specs.Trivia.{pending, attached}
use Rattle.parser_events.proofs.Coverings.{attached-most, dressed-is-put}
use Rattle.rust_grammar.proofs.Costs.{step_count}

leaf-count : (ls : List Leaf) → length (leaf_steps ls) ≡ length ls
leaf-count [] = refl
leaf-count (l ∷ ls) = ap (λ (n : ℕ). suc n) (leaf-count ls)

take-length : {A : Type 0} (n : ℕ) (xs : List A) → length (take n xs) + (length xs - n) ≡ length xs
take-length n xs = omega (arith, length-append (take n xs) (drop n xs), ap (λ ys. length ys) (take-append-drop n xs), length-drop n xs)

pending-most : (ls : List Leaf) → length (pending ls) ≤ length ls
unfolding pending
pending-most ls = omega (arith, take-length (prefix_len is_trivia ls) ls)

split-most : (e : Bool) (n : ℕ) (cs : List ℕ) → length (split_steps e n cs) ≤ 8
split-most true n cs = elim (cases_Bool (is_empty (from_dot cs))) [ inl t ↦ rw t (omega arith) | inr t ↦ rw t (omega arith) ]
split-most false n cs = elim (cases_Bool (is_empty (from_dot cs))) [ inl t ↦ rw t (omega arith) | inr t ↦ rw t (omega arith) ]

-- what a step puts besides leaves that stand as they are
abbrev weight : Step → ℕ
weight (walk.FloatSplit e) = 8
weight step = 1

abbrev weights : List Step → ℕ
weights [] = 0
weights (step ∷ ss) = weight step + weights ss

-- a step puts one step for each leaf that it passes, and few more
step-most : (step : Step) (s : Place) → length (put_by step s) + length (after_step step s).left ≤ length s.left + weight step
step-most (walk.Token k n) s =
    let most = pending-most s.left in
    omega (arith, most, length-append (leaf_steps (pending s.left)) (text.Token k (joined (take (reach n (after_pending s).left) (after_pending s).left)) ∷ []), leaf-count (pending s.left), length-drop (length (pending s.left)) s.left, length-drop (reach n (after_pending s).left) (after_pending s).left)
step-most (walk.FloatSplit e) s =
    let most = pending-most s.left in
    let t = after_pending s in
    omega (arith, most, length-append (leaf_steps (pending s.left)) (split_steps e t.bytes (next_text t.left)), leaf-count (pending s.left), split-most e t.bytes (next_text t.left), length-drop (length (pending s.left)) s.left, length-drop 1 t.left)
step-most (walk.Enter k) s =
    let n = outside k s in
    let m = attached k (pending s.left) in
    let t = after n s in
    let most = pending-most s.left in
    let some = attached-most k (pending s.left) in
    omega (
      arith,
      most,
      some,
      length-append (leaf_steps (take n s.left)) (text.Enter k ∷ leaf_steps (take m t.left)),
      leaf-count (take n s.left),
      leaf-count (take m t.left),
      take-length n s.left,
      take-length m t.left,
      length-drop n s.left,
      length-drop m t.left,
    )
step-most walk.Exit s = omega arith
step-most (walk.Error m) s = omega arith

weight-some : (step : Step) → 1 ≤ weight step
weight-some (walk.Token k n) = omega arith
weight-some (walk.FloatSplit e) = omega arith
weight-some (walk.Enter k) = omega arith
weight-some walk.Exit = omega arith
weight-some (walk.Error m) = omega arith

inside-most : (ss : List Step) (s : Place) → length (put_inside ss s) ≤ length s.left + weights ss
inside-most [] s = omega arith
inside-most (step ∷ []) s = omega (arith, length-append (leaf_steps s.left) (text.Exit ∷ []), leaf-count s.left, weight-some step)
inside-most (step ∷ next ∷ ss) s =
    let more = inside-most (next ∷ ss) (after_step step s) in
    omega (arith, more, step-most step s, length-append (put_by step s) (put_inside (next ∷ ss) (after_step step s)))

around-most : (ss : List Step) (ls : List Leaf) → length (put_around ss ls) ≤ length ls + weights ss
around-most [] ls = omega arith
around-most (walk.Enter k ∷ ss) ls = omega (arith, inside-most ss (record { bytes = 0; left = ls }))
around-most (walk.Exit ∷ ss) ls = omega arith
around-most (walk.Token k n ∷ ss) ls = omega arith
around-most (walk.FloatSplit e ∷ ss) ls = omega arith
around-most (walk.Error m ∷ ss) ls = omega arith

weights-append : (ss ts : List Step) → weights (ss ++ ts) ≡ weights ss + weights ts
weights-append [] ts = omega arith
weights-append (s ∷ ss) ts = omega (arith, weights-append ss ts)

steps-weigh : (f : Forest) → weights (steps f) ≤ step_count f
unfolding steps
steps-weigh forest.End = omega arith
steps-weigh (forest.Leaf k n f) = omega (arith, steps-weigh f)
steps-weigh (forest.Said m f) = omega (arith, steps-weigh f)
steps-weigh (forest.ErrorLeaf m k f) = omega (arith, steps-weigh f)
steps-weigh (forest.Node k c f) = omega (arith, steps-weigh c, steps-weigh f, weights-append (steps c) (walk.Exit ∷ steps f))
steps-weigh (forest.Float true c f) = omega (arith, steps-weigh c, steps-weigh f, weights-append (steps c) (walk.FloatSplit true ∷ steps f))
steps-weigh (forest.Float false c f) = omega (arith, steps-weigh c, steps-weigh f, weights-append (steps c) (walk.FloatSplit false ∷ walk.Exit ∷ steps f))

-- A dressed tree has one step for each leaf of its text, and those of its trees.
pub dressed-most : (f : Forest) (ls : List Leaf) → IsRooted f → fits (steps f) ls ≡ true → length (text_steps (dress_root f ls)) ≤ length ls + step_count f
dressed-most f ls rooted fit = omega (arith, ap (λ (ss : List TextStep). length ss) (dressed-is-put f ls rooted fit), around-most (steps f) ls, steps-weigh f)

pub input-most : (wide : Bool) (edition : Edition) (ls : List Leaf) → length (input wide edition ls) ≤ length ls
unfolding input
input-most wide edition [] = omega arith
input-most wide edition (l ∷ ls) = elim (cases_Bool (is_trivia l)) [
  | inl t ↦ rw t (omega (arith, input-most wide edition ls))
  | inr t ↦ rw t (omega (arith, input-most wide edition ls))
]

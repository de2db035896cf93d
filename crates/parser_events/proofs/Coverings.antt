-- Steps that fit a text split its floats as those say.
use Rattle.std.proofs.Common.{◌≡◌, ◌≤◌, ◌==◌, ℕ, zero, suc, ◌+◌, ◌-◌, Bool, true, false, not, ◌&&◌, List, [], ◌∷◌, ◌++◌, length, drop, reverse, refl, ap, sym, ◌∙◌, arith}
use Rattle.std.specs.List.{list_any, prefix_len}
use Rattle.std.proofs.lemmas.List.{length-reverse, drop-drop}
use Rattle.parser_input.specs.Input.{ends_in_dot}
use Rattle.parser_input.specs.Kinds.{COMMENT, FLOAT_NUMBER, FIELD_EXPR}
use Rattle.parser_input.specs.Leaf as leaves
use Rattle.parser_input.specs.Leaf.{is_trivia}
use Rattle.parser_events.specs.Dress.{reach, is_empty, from_dot, next_text}
use Rattle.parser_events.specs.Fits.{covers, fits, has_one_root, from_token, is_unbroken, is_split_at, is_none_left, IsRooted}
use Rattle.parser_events.specs.Forest as forest
use Rattle.parser_events.specs.Forest.{Forest}
use Rattle.parser_events.specs.Laying.{Place, after_step, put_around}
use Rattle.parser_events.specs.Steps as walk
use Rattle.parser_events.specs.Steps.{Step, steps}
use Rattle.parser_events.specs.TextSteps.{text_steps}
use Rattle.parser_events.specs.Trivia as trivia
use Rattle.parser_events.specs.Trivia.{pending, attached, is_inner, has_empty_line, is_outer_next}
use Rattle.parser_events.specs.Dress.{dress_root}
use Rattle.parser_events.proofs.Dressings.{Told, settled, node-root, float-root, from_front}

pub both : (a b : Bool) → (a && b) ≡ true → (a ≡ true) × (b ≡ true)
both true b h = (refl, h)
both false b h = absurd (cc)

reach-unbroken : (n : ℕ) (ls : List leaves.Leaf) → is_unbroken n ls ≡ true → reach n ls ≡ n
unfolding reach
reach-unbroken zero ls h = refl
reach-unbroken (suc n) [] h = absurd (cc)
reach-unbroken (suc n) (l ∷ ls) h =
    let parts = both (not (is_trivia l)) (is_unbroken n ls) h in
    let more = reach-unbroken n ls parts.1 in
    whichever (is_trivia l) refl parts.0 more
  where
    whichever : (b : Bool) → is_trivia l ≡ b → not (is_trivia l) ≡ true → reach n ls ≡ n → reach (suc n) (l ∷ ls) ≡ suc n
    whichever true e s more = absurd (let t : not true ≡ true = ap not (sym e) ∙ s in cc)
    whichever false e s more = rw e (omega (arith, more))

once : (ls : List leaves.Leaf) → from_token (from_token ls) ≡ from_token ls
once ls = ap (λ (p : List leaves.Leaf). drop (length p) (from_token ls)) (settled ls)

-- what is pending before the next token does not matter
covers-settled : (ss : List Step) (ls : List leaves.Leaf) → covers ss (from_token ls) ≡ covers ss ls
covers-settled [] ls = ap is_none_left (once ls)
covers-settled (walk.Token k n ∷ ss) ls = ap (λ (r : List leaves.Leaf). is_unbroken n r && covers ss (drop n r)) (once ls)
covers-settled (walk.FloatSplit e ∷ ss) ls = ap (λ (r : List leaves.Leaf). is_split_at e r && covers ss (drop 1 r)) (once ls)
covers-settled (walk.Enter k ∷ ss) ls = covers-settled ss ls
covers-settled (walk.Exit ∷ ss) ls = covers-settled ss ls
covers-settled (walk.Error m ∷ ss) ls = covers-settled ss ls

-- no more stand inside than were passed
pub walk-most : (p i : ℕ) (ls : List leaves.Leaf) → i ≤ p → trivia.walk p i ls ≤ p + length ls
unfolding trivia.walk
walk-most p i [] h = omega (arith, h)
walk-most p i (l ∷ ls) h =
    let on = walk-most (suc p) (suc p) ls (omega arith) in
    let past = walk-most (suc p) i ls (omega (arith, h)) in
    whichever (l.kind == COMMENT) (is_inner l.text) (has_empty_line l.text && not (is_outer_next ls)) refl refl refl (omega (arith, on)) (omega (arith, past)) (omega (arith, h))
  where
    whichever : (a b c : Bool) → (l.kind == COMMENT) ≡ a → is_inner l.text ≡ b → (has_empty_line l.text && not (is_outer_next ls)) ≡ c →
        trivia.walk (suc p) (suc p) ls ≤ p + length (l ∷ ls) → trivia.walk (suc p) i ls ≤ p + length (l ∷ ls) → i ≤ p + length (l ∷ ls) →
        trivia.walk p i (l ∷ ls) ≤ p + length (l ∷ ls)
    whichever true true c ea eb ec on past none = rw (ea, eb) none
    whichever true false c ea eb ec on past none = rw (ea, eb) on
    whichever false b true ea eb ec on past none = rw (ea, ec) none
    whichever false b false ea eb ec on past none = rw (ea, ec) past

pub attached-most : (k : ℕ) (ls : List leaves.Leaf) → attached k ls ≤ length ls
unfolding attached
attached-most k ls = whichever (list_any (λ n. n == k) trivia.taking) refl
  where
    whichever : (b : Bool) → list_any (λ n. n == k) trivia.taking ≡ b → attached k ls ≤ length ls
    whichever true e = rw e (omega (arith, walk-most 0 0 (reverse ls) (omega arith), length-reverse ls))
    whichever false e = rw e (omega arith)

enter-left : (k : ℕ) (s : Place) → (after_step (walk.Enter k) s).left ≡ from_token s.left
enter-left k s =
    let count = length (pending s.left) in
    let inside = attached k (pending s.left) in
    let most = attached-most k (pending s.left) in
    drop-drop inside (count - inside) s.left ∙ ap (λ (n : ℕ). drop n s.left) (omega (arith, most))

drop-past : (n c : ℕ) (cs : List ℕ) → drop (1 + n) (c ∷ cs) ≡ drop n cs
drop-past n c cs = ap (λ (k : ℕ). drop k (c ∷ cs)) (let e : 1 + n ≡ suc n = omega arith in e)

dot-in : (text : List ℕ) → ends_in_dot text ≡ true → is_empty (from_dot text) ≡ false
unfolding ends_in_dot from_dot is_empty
dot-in [] h = absurd (cc)
dot-in (c ∷ []) h = rw h refl
dot-in (c ∷ d ∷ cs) h = whichever (c == 46) refl (dot-in (d ∷ cs) h)
  where
    whichever : (b : Bool) → (c == 46) ≡ b → is_empty (from_dot (d ∷ cs)) ≡ false → is_empty (from_dot (c ∷ d ∷ cs)) ≡ false
    whichever true e more = rw e refl
    whichever false e more = rw e (ap is_empty (drop-past (prefix_len (λ x. not (x == 46)) (d ∷ cs)) c (d ∷ cs)) ∙ more)

split-dot : (ls : List leaves.Leaf) → is_split_at true ls ≡ true → is_empty (from_dot (next_text ls)) ≡ false
unfolding next_text
split-dot [] h = absurd (cc)
split-dot (l ∷ ls) h = dot-in l.text (both (l.kind == FLOAT_NUMBER) (ends_in_dot l.text) h).1

pub covers-told : (ss : List Step) (s : Place) → covers ss s.left ≡ true → Told ss s
covers-told [] s h = tt
covers-told (walk.Token k n ∷ ss) s h =
    let parts = both (is_unbroken n (from_token s.left)) (covers ss (drop n (from_token s.left))) h in
    covers-told ss (after_step (walk.Token k n) s) (ap (λ (m : ℕ). covers ss (drop m (from_token s.left))) (reach-unbroken n (from_token s.left) parts.0) ∙ parts.1)
covers-told (walk.FloatSplit true ∷ ss) s h =
    let parts = both (is_split_at true (from_token s.left)) (covers ss (drop 1 (from_token s.left))) h in
    (split-dot (from_token s.left) parts.0, covers-told ss (after_step (walk.FloatSplit true) s) parts.1)
covers-told (walk.FloatSplit false ∷ ss) s h =
    let parts = both (is_split_at false (from_token s.left)) (covers ss (drop 1 (from_token s.left))) h in
    covers-told ss (after_step (walk.FloatSplit false) s) parts.1
covers-told (walk.Enter k ∷ ss) s h =
    covers-told ss (after_step (walk.Enter k) s) (ap (covers ss) (enter-left k s) ∙ covers-settled ss s.left ∙ h)
covers-told (walk.Exit ∷ ss) s h = covers-told ss s h
covers-told (walk.Error m ∷ ss) s h = covers-told ss s h

-- What the steps of a tree put is the dressed tree.
pub dressed-is-put : (f : Forest) (ls : List leaves.Leaf) → IsRooted f → fits (steps f) ls ≡ true → put_around (steps f) ls ≡ text_steps (dress_root f ls)
unfolding steps
dressed-is-put forest.End ls root h = absurd root
dressed-is-put (forest.Leaf k n f) ls root h = absurd root
dressed-is-put (forest.Said m f) ls root h = absurd root
dressed-is-put (forest.ErrorLeaf m k f) ls root h = absurd root
dressed-is-put (forest.Node k c forest.End) ls root h =
    node-root k c ls (covers-told (steps c ++ walk.Exit ∷ []) (from_front ls) (both (has_one_root (steps (forest.Node k c forest.End))) (covers (steps (forest.Node k c forest.End)) ls) h).1)
dressed-is-put (forest.Float false c forest.End) ls root h =
    float-root c ls (covers-told (walk.Enter FIELD_EXPR ∷ (steps c ++ walk.FloatSplit false ∷ walk.Exit ∷ [])) (from_front ls) (both (has_one_root (steps (forest.Float false c forest.End))) (covers (steps (forest.Float false c forest.End)) ls) h).1)
dressed-is-put _ ls root h = absurd root

-- Steps that fit the leaves of a text, one after another.
use Rattle.std.proofs.Common.{◌≡◌, ◌≤◌, ◌<◌, ◌==◌, ℕ, zero, suc, ◌+◌, ◌-◌, Bool, true, false, not, ◌&&◌, List, [], ◌∷◌, Option, Some, None, MatchOption, length, drop, map, if◌then◌else◌, refl, ap, sym, ◌∙◌, arith}
use Rattle.std.proofs.lemmas.Bool.Decides.{Decides-eqb}
use Rattle.std.proofs.lemmas.List.{drop-drop, drop_all, length-drop, length-map}
use Rattle.parser_input.specs.Input.{ends_in_dot}
use Rattle.parser_input.specs.Kind as kind
use Rattle.parser_input.specs.Kinds.{FLOAT_NUMBER}
use Rattle.parser_input.specs.Leaf as leaves
use Rattle.parser_input.specs.Leaf.{is_trivia}
use Rattle.parser_input.specs.Lexed.{Lexed, leaves_of}
use Rattle.parser_input.specs.Stored.{leaf_at}
use Rattle.parser_events.specs.Fits.{covers, from_token, is_none_left, is_split_at, is_unbroken}
use Rattle.parser_events.specs.Fitting.{Leads, Misfits}
use Rattle.parser_events.specs.Seen.{step_of}
use Rattle.parser_events.specs.Steps as walk
use Rattle.parser_events.specs.declared.step.Step.{Step}
use Rattle.parser_events.proofs.Comments.{same}
use Rattle.parser_events.proofs.Coverings.{both}
use Rattle.parser_events.proofs.Places.{is-trivia, leaf-next, pending_at}

own-length : (ls : List Lexed) → length (leaves_of ls) ≡ length ls
own-length ls = length-map ls (λ (x : Lexed). x.leaf)

-- the leaves from the next token on
from-at : (ls : List Lexed) (start first : ℕ) → first ≡ start + pending_at ls start → from_token (drop start (leaves_of ls)) ≡ drop first (leaves_of ls)
from-at ls start first e = drop-drop (pending_at ls start) start (leaves_of ls) ∙ ap (λ (k : ℕ). drop k (leaves_of ls)) (sym e)

unbroken-length : (n : ℕ) (ls : List leaves.Leaf) → is_unbroken n ls ≡ true → n ≤ length ls
unbroken-length zero ls h = omega arith
unbroken-length (suc n) [] h = absurd (cc)
unbroken-length (suc n) (l ∷ ls) h = omega (arith, unbroken-length n ls (both (not (is_trivia l)) (is_unbroken n ls) h).1)

split-some : (e : Bool) (ls : List leaves.Leaf) → is_split_at e ls ≡ true → 1 ≤ length ls
split-some e [] h = absurd (cc)
split-some e (l ∷ ls) h = omega arith

-- A leaf over tokens.

pub token-within : (ls : List Lexed) (first n : ℕ) → first ≤ length ls → is_unbroken n (drop first (leaves_of ls)) ≡ true → first + n ≤ length ls
token-within ls first n within u =
    omega (arith, within, unbroken-length n (drop first (leaves_of ls)) u, length-drop first (leaves_of ls), own-length ls)

pub token-leads : (ls : List Lexed) (kind start first n next : ℕ) → first ≡ start + pending_at ls start → first ≤ length ls → next ≡ first + n →
    is_unbroken n (drop first (leaves_of ls)) ≡ true → Leads ls (walk.Token kind n) start next
token-leads ls kind start first n next e within is u =
    let own = leaves_of ls in
    record {
      within = omega (arith, is, token-within ls first n within u);
      rest = λ (ss : List walk.Step).
          ap (λ (r : List leaves.Leaf). is_unbroken n r && covers ss (drop n r)) (from-at ls start first e)
          ∙ ap (λ (b : Bool). b && covers ss (drop n (drop first own))) u
          ∙ ap (covers ss) (drop-drop n first own ∙ ap (λ (k : ℕ). drop k own) (sym is));
    }

pub token-misfits : (ls : List Lexed) (kind start first n : ℕ) → first ≡ start + pending_at ls start →
    is_unbroken n (drop first (leaves_of ls)) ≡ false → Misfits ls (walk.Token kind n) start
token-misfits ls kind start first n e u ss =
    ap (λ (r : List leaves.Leaf). is_unbroken n r && covers ss (drop n r)) (from-at ls start first e)
    ∙ ap (λ (b : Bool). b && covers ss (drop n (drop first (leaves_of ls)))) u

-- A split.

pub split-within : (ls : List Lexed) (e : Bool) (first : ℕ) → first ≤ length ls → is_split_at e (drop first (leaves_of ls)) ≡ true → first + 1 ≤ length ls
split-within ls e first within u =
    omega (arith, within, split-some e (drop first (leaves_of ls)) u, length-drop first (leaves_of ls), own-length ls)

pub split-leads : (ls : List Lexed) (expected : Bool) (start first next : ℕ) → first ≡ start + pending_at ls start → first ≤ length ls → next ≡ first + 1 →
    is_split_at expected (drop first (leaves_of ls)) ≡ true → Leads ls (walk.FloatSplit expected) start next
split-leads ls expected start first next e within is u =
    let own = leaves_of ls in
    record {
      within = omega (arith, is, split-within ls expected first within u);
      rest = λ (ss : List walk.Step).
          ap (λ (r : List leaves.Leaf). is_split_at expected r && covers ss (drop 1 r)) (from-at ls start first e)
          ∙ ap (λ (b : Bool). b && covers ss (drop 1 (drop first own))) u
          ∙ ap (covers ss) (drop-drop 1 first own ∙ ap (λ (k : ℕ). drop k own) (sym is));
    }

pub split-misfits : (ls : List Lexed) (expected : Bool) (start first : ℕ) → first ≡ start + pending_at ls start →
    is_split_at expected (drop first (leaves_of ls)) ≡ false → Misfits ls (walk.FloatSplit expected) start
split-misfits ls expected start first e u ss =
    ap (λ (r : List leaves.Leaf). is_split_at expected r && covers ss (drop 1 r)) (from-at ls start first e)
    ∙ ap (λ (b : Bool). b && covers ss (drop 1 (drop first (leaves_of ls)))) u

-- All steps.

-- the steps before these fit, and these fit the leaves that are left just where all fit
pub record Covering (ls : List Lexed) (all rest : List Step) (next : ℕ) : Type 0 where
  pub within : next ≤ length ls
  pub same : covers (map step_of rest) (drop next (leaves_of ls)) ≡ covers (map step_of all) (leaves_of ls)

pub covering-begins : (ls : List Lexed) (all : List Step) → Covering ls all all 0
covering-begins ls all = record { within = omega arith; same = refl }

pub covering-goes : (ls : List Lexed) (all rest after : List Step) (step : Step) (next place : ℕ) → Covering ls all rest next → rest ≡ step ∷ after →
    Leads ls (step_of step) next place → Covering ls all after place
covering-goes ls all rest after step next place c is l =
    record {
      within = l.within;
      same = sym (l.rest (map step_of after)) ∙ ap (λ (r : List Step). covers (map step_of r) (drop next (leaves_of ls))) (sym is) ∙ c.same;
    }

pub covering-fails : (ls : List Lexed) (all rest after : List Step) (step : Step) (next : ℕ) → Covering ls all rest next → rest ≡ step ∷ after →
    Misfits ls (step_of step) next → false ≡ covers (map step_of all) (leaves_of ls)
covering-fails ls all rest after step next c is m =
    sym (m (map step_of after)) ∙ ap (λ (r : List Step). covers (map step_of r) (drop next (leaves_of ls))) (sym is) ∙ c.same

none-length : (xs : List leaves.Leaf) → is_none_left xs ≡ true → length xs ≡ 0
none-length [] h = refl
none-length (x ∷ xs) h = absurd (cc)

length-none : (xs : List leaves.Leaf) → length xs ≡ 0 → is_none_left xs ≡ true
length-none [] h = refl
length-none (x ∷ xs) h = absurd (omega (arith, h))

none-left : (n : ℕ) (xs : List leaves.Leaf) → n ≤ length xs → (n == length xs) ≡ is_none_left (drop n xs)
none-left n xs h =
    same (n == length xs) (is_none_left (drop n xs))
    (λ e. length-none (drop n xs) (let is = (Decides-eqb n (length xs)).0 e in omega (arith, is, length-drop n xs)))
    (λ e. (Decides-eqb n (length xs)).1 (omega (arith, h, none-length (drop n xs) e, length-drop n xs)))

pub covering-ends : (ls : List Lexed) (all rest : List Step) (next first : ℕ) → Covering ls all rest next → rest ≡ [] →
    first ≡ next + pending_at ls next → first ≤ length ls → (first == length ls) ≡ covers (map step_of all) (leaves_of ls)
covering-ends ls all rest next first c is e within =
    let own = leaves_of ls in
    ap (λ (k : ℕ). first == k) (sym (own-length ls))
    ∙ none-left first own (omega (arith, within, own-length ls))
    ∙ ap is_none_left (sym (from-at ls next first e))
    ∙ ap (λ (r : List Step). covers (map step_of r) (drop next own)) (sym is)
    ∙ c.same

-- Leaves that a leaf of several tokens stands over.

pub unbroken-none : (n : ℕ) (xs : List leaves.Leaf) → n ≤ 0 → true ≡ is_unbroken n xs
unbroken-none zero xs h = refl
unbroken-none (suc n) xs h = absurd (omega (arith, h))

unbroken-nil : (n : ℕ) → 0 < n → false ≡ is_unbroken n []
unbroken-nil zero h = absurd (omega (arith, h))
unbroken-nil (suc n) h = refl

pub unbroken-end : (ls : List Lexed) (n i : ℕ) → 0 < n → length ls ≤ i → false ≡ is_unbroken n (drop i (leaves_of ls))
unbroken-end ls n i some h = unbroken-nil n some ∙ ap (is_unbroken n) (sym (drop_all i (leaves_of ls) (omega (arith, h, own-length ls))))

unbroken-cons : (n : ℕ) (b : Bool) (l : leaves.Leaf) (xs : List leaves.Leaf) → 0 < n → is_trivia l ≡ b → is_unbroken n (l ∷ xs) ≡ (not b && is_unbroken (n - 1) xs)
unbroken-cons zero b l xs h e = absurd (omega (arith, h))
unbroken-cons (suc n) b l xs h e =
    ap (λ (t : Bool). not t && is_unbroken n xs) e ∙ ap (λ (k : ℕ). not b && is_unbroken k xs) (let s : n ≡ suc n - 1 = omega arith in s)

pub unbroken-next : (ls : List Lexed) (n i k : ℕ) (b : Bool) → 0 < n → i < length ls → k ≡ (leaf_at ls i).leaf.kind → kind.is_trivia k ≡ b →
    is_unbroken n (drop i (leaves_of ls)) ≡ (not b && is_unbroken (n - 1) (drop (i + 1) (leaves_of ls)))
unbroken-next ls n i k b some within is e =
    ap (is_unbroken n) (leaf-next ls i within) ∙ unbroken-cons n b (leaf_at ls i).leaf _ some (is-trivia k (leaf_at ls i).leaf b is e)

-- The leaf of a split.

pub split-end : (ls : List Lexed) (expected : Bool) (i : ℕ) → length ls ≤ i → false ≡ is_split_at expected (drop i (leaves_of ls))
split-end ls expected i h = ap (is_split_at expected) (sym (drop_all i (leaves_of ls) (omega (arith, h, own-length ls))))

split-at : (ls : List Lexed) (expected b : Bool) (i : ℕ) → i < length ls → ((leaf_at ls i).leaf.kind == FLOAT_NUMBER) ≡ b →
    (b && (if expected then ends_in_dot (leaf_at ls i).leaf.text else not (ends_in_dot (leaf_at ls i).leaf.text))) ≡ is_split_at expected (drop i (leaves_of ls))
split-at ls expected b i within e =
    ap (λ (k : Bool). k && (if expected then ends_in_dot (leaf_at ls i).leaf.text else not (ends_in_dot (leaf_at ls i).leaf.text))) (sym e)
    ∙ ap (is_split_at expected) (sym (leaf-next ls i within))

pub split-other : (ls : List Lexed) (expected : Bool) (i k : ℕ) → i < length ls → k ≡ (leaf_at ls i).leaf.kind → (k == FLOAT_NUMBER) ≡ false →
    false ≡ is_split_at expected (drop i (leaves_of ls))
split-other ls expected i k within is e = split-at ls expected false i within (ap (λ (n : ℕ). n == FLOAT_NUMBER) (sym is) ∙ e)

pub split-float : (ls : List Lexed) (expected r : Bool) (i k : ℕ) (t : List ℕ) → i < length ls → k ≡ (leaf_at ls i).leaf.kind → (k == FLOAT_NUMBER) ≡ true →
    t ≡ (leaf_at ls i).leaf.text → r ≡ ends_in_dot t → (if expected then r else not r) ≡ is_split_at expected (drop i (leaves_of ls))
split-float ls expected r i k t within is e text_is told =
    ap (λ (b : Bool). if expected then b else not b) (told ∙ ap ends_in_dot text_is)
    ∙ split-at ls expected true i within (ap (λ (n : ℕ). n == FLOAT_NUMBER) (sym is) ∙ e)

pub either-way : (ls : List Lexed) (kind start n : ℕ) (r : Option ℕ) →
    MatchOption r ((k : ℕ) → Misfits ls (walk.Token k n) start) (λ next. (k : ℕ) → Leads ls (walk.Token k n) start next) →
    MatchOption r (Misfits ls (walk.Token kind n) start) (λ next. Leads ls (walk.Token kind n) start next)
either-way ls kind start n None h = h kind
either-way ls kind start n (Some next) h = h kind

-- What the pieces of a step put make of a sink.
use Rattle.std.proofs.Common.{◌≡◌, ◌≤◌, ◌<◌, ℕ, ◌+◌, ◌-◌, zero, suc, Bool, List, [], ◌∷◌, ◌++◌, length, take, drop, slice_range, flat_map, encode_utf8_all, refl, ap, sym, ◌∙◌, append_assoc, arith}
use Rattle.std.proofs.Math.Seq.{take-add}
use Rattle.std.proofs.lemmas.List.{drop-drop, drop-map, drop_all, length-drop, length-map, take_all}
use Rattle.parser_input.specs.Leaf as leaves
use Rattle.parser_input.specs.Lexed.{Lexed, leaves_of}
use Rattle.parser_input.specs.Stored.{leaf_at}
use Rattle.parser_events.specs.Dress.{joined, next_text, reach}
use Rattle.parser_events.specs.Laying.{Place, after, after_pending, after_step, outside, place_at, put_by, split_steps}
use Rattle.parser_events.specs.Steps as walk
use Rattle.parser_events.specs.TextSteps.{TextStep, Token, Enter, leaf_steps}
use Rattle.parser_events.specs.Trivia.{pending, attached}
use Rattle.parser_events.proofs.Dressings.{take-own}
use Rattle.parser_events.proofs.Places.{after-at, pending_at, reach_at, leaf-next}

leaf-steps-then : (xs ys : List leaves.Leaf) → leaf_steps (xs ++ ys) ≡ leaf_steps xs ++ leaf_steps ys
leaf-steps-then [] ys = refl
leaf-steps-then (l ∷ xs) ys = ap (λ (r : List TextStep). Token l.kind l.text ∷ r) (leaf-steps-then xs ys)

-- from a number to the same there is none
pub none-between : (ls : List leaves.Leaf) (a b : ℕ) → a ≡ b → slice_range ls a b ≡ []
none-between ls a b same = ap (λ (n : ℕ). take n (drop a ls)) (let e : b - a ≡ 0 = omega (arith, same) in e)

-- one leaf more
pub slice-more : (ls : List Lexed) (a b : ℕ) → a ≤ b → b < length ls →
    slice_range (leaves_of ls) a (b + 1) ≡ slice_range (leaves_of ls) a b ++ (leaf_at ls b).leaf ∷ []
slice-more ls a b order within =
    let own = leaves_of ls in
    let at : drop (b - a) (drop a own) ≡ (leaf_at ls b).leaf ∷ drop (b + 1) own =
    drop-drop (b - a) a own ∙ ap (λ (k : ℕ). drop k own) (let e : a + (b - a) ≡ b = omega (arith, order) in e) ∙ leaf-next ls b within in
    ap (λ (k : ℕ). take k (drop a own)) (let e : b + 1 - a ≡ (b - a) + 1 = omega (arith, order) in e)
    ∙ take-add (b - a) 1 (drop a own)
    ∙ ap (λ (r : List leaves.Leaf). take (b - a) (drop a own) ++ take 1 r) at

pub leaf-more : (ls : List Lexed) (a b k : ℕ) (t : List ℕ) → a ≤ b → b < length ls → k ≡ (leaf_at ls b).leaf.kind → t ≡ (leaf_at ls b).leaf.text →
    leaf_steps (slice_range (leaves_of ls) a (b + 1)) ≡ leaf_steps (slice_range (leaves_of ls) a b) ++ Token k t ∷ []
leaf-more ls a b k t order within kind_is text_is =
    ap leaf_steps (slice-more ls a b order within)
    ∙ leaf-steps-then (slice_range (leaves_of ls) a b) ((leaf_at ls b).leaf ∷ [])
    ∙ ap (λ (n : ℕ). leaf_steps (slice_range (leaves_of ls) a b) ++ Token n (leaf_at ls b).leaf.text ∷ []) (sym kind_is)
    ∙ ap (λ (x : List ℕ). leaf_steps (slice_range (leaves_of ls) a b) ++ Token k x ∷ []) (sym text_is)

-- up to an end that lies farther
slice-parts : (ls : List leaves.Leaf) (a b c : ℕ) → a ≤ b → b ≤ c → slice_range ls a c ≡ slice_range ls a b ++ slice_range ls b c
slice-parts ls a b c order far =
    ap (λ (k : ℕ). take k (drop a ls)) (let e : c - a ≡ (b - a) + (c - b) = omega (arith, order, far) in e)
    ∙ take-add (b - a) (c - b) (drop a ls)
    ∙ ap (λ (r : List leaves.Leaf). take (b - a) (drop a ls) ++ take (c - b) r) (drop-drop (b - a) a ls ∙ ap (λ (k : ℕ). drop k ls) (let e : a + (b - a) ≡ b = omega (arith, order) in e))

pub leaf-parts : (ls : List leaves.Leaf) (a b c : ℕ) → a ≤ b → b ≤ c → leaf_steps (slice_range ls a c) ≡ leaf_steps (slice_range ls a b) ++ leaf_steps (slice_range ls b c)
leaf-parts ls a b c order far = ap leaf_steps (slice-parts ls a b c order far) ∙ leaf-steps-then (slice_range ls a b) (slice_range ls b c)

-- the leaves from a place on
pub leaf-from : (ls : List Lexed) (a b c k : ℕ) (t : List ℕ) → a ≤ b → b < c → b < length ls → k ≡ (leaf_at ls b).leaf.kind → t ≡ (leaf_at ls b).leaf.text →
    leaf_steps (slice_range (leaves_of ls) a c) ≡ leaf_steps (slice_range (leaves_of ls) a b) ++ (Token k t ∷ leaf_steps (slice_range (leaves_of ls) (b + 1) c))
leaf-from ls a b c k t order far within kind_is text_is =
    let own = leaves_of ls in
    leaf-parts own a (b + 1) c (omega (arith, order)) (omega (arith, far))
    ∙ ap (λ (l : List TextStep). l ++ leaf_steps (slice_range own (b + 1) c)) (leaf-more ls a b k t order within kind_is text_is)
    ∙ append_assoc (leaf_steps (slice_range own a b)) (Token k t ∷ []) (leaf_steps (slice_range own (b + 1) c))

-- the leaves that are pending
pub pending-slice : (ls : List Lexed) (start end : ℕ) → end ≡ start + pending_at ls start → slice_range (leaves_of ls) start end ≡ pending (drop start (leaves_of ls))
pending-slice ls start end e =
    ap (λ (k : ℕ). take k (drop start (leaves_of ls))) (let s : end - start ≡ pending_at ls start = omega (arith, e) in s) ∙ take-own (drop start (leaves_of ls))

joined-texts : (ls : List Lexed) → flat_map (λ l. l.leaf.text) ls ≡ joined (leaves_of ls)
unfolding joined
joined-texts [] = refl
joined-texts (l ∷ ls) = ap (λ (t : List ℕ). l.leaf.text ++ t) (joined-texts ls)

take-leaves : (n : ℕ) (ls : List Lexed) → leaves_of (take n ls) ≡ take n (leaves_of ls)
take-leaves zero ls = refl
take-leaves (suc n) [] = refl
take-leaves (suc n) (l ∷ ls) = ap (λ (r : List leaves.Leaf). l.leaf ∷ r) (take-leaves n ls)

pub slice-text : (ls : List Lexed) (a b : ℕ) → flat_map (λ l. l.leaf.text) (slice_range ls a b) ≡ joined (take (b - a) (drop a (leaves_of ls)))
slice-text ls a b =
    joined-texts (slice_range ls a b)
    ∙ ap joined (take-leaves (b - a) (drop a ls) ∙ ap (λ (r : List leaves.Leaf). take (b - a) r) (sym (drop-map (λ (l : Lexed). l.leaf) a ls)))

-- What a leaf's step puts.
abbrev pub token_steps : List Lexed → ℕ → ℕ → ℕ → ℕ → List ℕ → List TextStep
token_steps ls kind start first end text = leaf_steps (slice_range (leaves_of ls) start first) ++ Token kind text ∷ []

pub token-steps : (ls : List Lexed) (kind n start first end : ℕ) (text : List ℕ) →
    first ≡ start + pending_at ls start → end ≡ first + reach_at ls n first → text ≡ flat_map (λ l. l.leaf.text) (slice_range ls first end) →
    token_steps ls kind start first end text ≡ put_by (walk.Token kind n) (place_at ls start)
token-steps ls kind n start first end text p r t =
    let own = leaves_of ls in
    let text_is : text ≡ joined (take (reach_at ls n first) (drop first own)) =
    t ∙ slice-text ls first end ∙ ap (λ (k : ℕ). joined (take k (drop first own))) (let e : end - first ≡ reach_at ls n first = omega (arith, r) in e) in
    let left_is : drop first own ≡ drop (pending_at ls start) (drop start own) = ap (λ (k : ℕ). drop k own) p ∙ sym (drop-drop (pending_at ls start) start own) in
    ap (λ (l : List leaves.Leaf). leaf_steps l ++ Token kind text ∷ []) (pending-slice ls start first p)
    ∙ ap (λ (x : List ℕ). leaf_steps (pending (drop start own)) ++ Token kind x ∷ []) text_is
    ∙ ap (λ (x : List leaves.Leaf). leaf_steps (pending (drop start own)) ++ Token kind (joined (take (reach n x) x)) ∷ []) left_is

pub token-at : (ls : List Lexed) (kind n start first end : ℕ) → first ≡ start + pending_at ls start → end ≡ first + reach_at ls n first →
    place_at ls end ≡ after_step (walk.Token kind n) (place_at ls start)
token-at ls kind n start first end p r =
    let at : place_at ls first ≡ after_pending (place_at ls start) = ap (place_at ls) p ∙ sym (after-at ls start (pending_at ls start)) in
    ap (place_at ls) r ∙ sym (after-at ls first (reach_at ls n first)) ∙ ap (λ (q : Place). after (reach n q.left) q) at

-- What a node's beginning puts.
abbrev pub enter_steps : List Lexed → ℕ → ℕ → ℕ → ℕ → List TextStep
enter_steps ls kind start first end = leaf_steps (slice_range (leaves_of ls) start first) ++ (Enter kind ∷ leaf_steps (slice_range (leaves_of ls) first end))

pub enter-steps : (ls : List Lexed) (kind start first end : ℕ) → end ≡ start + pending_at ls start →
    end - first ≡ attached kind (slice_range (leaves_of ls) start end) → start ≤ first → first ≤ end →
    enter_steps ls kind start first end ≡ put_by (walk.Enter kind) (place_at ls start)
enter-steps ls kind start first end p inside later before =
    let own = leaves_of ls in
    let next = drop start own in
    let held : end - first ≡ attached kind (pending next) = inside ∙ ap (attached kind) (pending-slice ls start end p) in
    let out : first - start ≡ length (pending next) - attached kind (pending next) = omega (arith, p, held, later, before) in
    let from : drop first own ≡ drop (first - start) next =
    ap (λ (k : ℕ). drop k own) (let e : first ≡ start + (first - start) = omega (arith, later) in e) ∙ sym (drop-drop (first - start) start own) in
    let shape : ℕ → ℕ → List TextStep = λ o i. leaf_steps (take o next) ++ (Enter kind ∷ leaf_steps (take i (drop o next))) in
    ap (λ (r : List leaves.Leaf). leaf_steps (take (first - start) next) ++ (Enter kind ∷ leaf_steps (take (end - first) r))) from
    ∙ ap (λ (o : ℕ). shape o (end - first)) out
    ∙ ap (shape (length (pending next) - attached kind (pending next))) held

pub enter-at : (ls : List Lexed) (kind start first end : ℕ) → end ≡ start + pending_at ls start →
    end - first ≡ attached kind (slice_range (leaves_of ls) start end) → start ≤ first → first ≤ end →
    place_at ls end ≡ after_step (walk.Enter kind) (place_at ls start)
enter-at ls kind start first end p inside later before =
    let next = drop start (leaves_of ls) in
    let held : end - first ≡ attached kind (pending next) = inside ∙ ap (attached kind) (pending-slice ls start end p) in
    let out : first - start ≡ outside kind (place_at ls start) = omega (arith, p, held, later, before) in
    let shape : ℕ → ℕ → Place = λ o i. after i (after o (place_at ls start)) in
    ap (place_at ls) (let e : end ≡ (start + (first - start)) + (end - first) = omega (arith, later, before) in e)
    ∙ sym (after-at ls (start + (first - start)) (end - first))
    ∙ ap (after (end - first)) (sym (after-at ls start (first - start)))
    ∙ ap (λ (o : ℕ). shape o (end - first)) out
    ∙ ap (shape (outside kind (place_at ls start))) held

-- What a split puts.
pub split-steps : (ls : List Lexed) (e : Bool) (start first place : ℕ) (text : List ℕ) →
    first ≡ start + pending_at ls start → place ≡ (place_at ls first).bytes → text ≡ next_text (drop first (leaves_of ls)) →
    leaf_steps (slice_range (leaves_of ls) start first) ++ split_steps e place text ≡ put_by (walk.FloatSplit e) (place_at ls start)
split-steps ls e start first place text p at_place t =
    let own = leaves_of ls in
    let at : place_at ls first ≡ after_pending (place_at ls start) = ap (place_at ls) p ∙ sym (after-at ls start (pending_at ls start)) in
    ap (λ (l : List leaves.Leaf). leaf_steps l ++ split_steps e place text) (pending-slice ls start first p)
    ∙ ap (λ (n : ℕ). leaf_steps (pending (drop start own)) ++ split_steps e n text) at_place
    ∙ ap (λ (x : List ℕ). leaf_steps (pending (drop start own)) ++ split_steps e (place_at ls first).bytes x) t
    ∙ ap (λ (q : Place). leaf_steps (pending (drop start own)) ++ split_steps e q.bytes (next_text q.left)) at

pub split-at : (ls : List Lexed) (e : Bool) (start first end : ℕ) → first ≡ start + pending_at ls start → place_at ls end ≡ after 1 (place_at ls first) →
    place_at ls end ≡ after_step (walk.FloatSplit e) (place_at ls start)
split-at ls e start first end p h = h ∙ ap (after 1) (ap (place_at ls) p ∙ sym (after-at ls start (pending_at ls start)))

-- After the last leaf.

own-length : (ls : List Lexed) → length (leaves_of ls) ≡ length ls
own-length ls = length-map ls (λ (x : Lexed). x.leaf)

pub place-end : (ls : List Lexed) (i : ℕ) → length ls ≤ i → place_at ls i ≡ after 1 (place_at ls i)
place-end ls i h =
    let own = leaves_of ls in
    let e = own-length ls in
    ap (λ (l : List leaves.Leaf). let p : Place = record { bytes = length (encode_utf8_all (joined l)); left = drop i own } in p)
    (take_all i own (omega (arith, h, e)) ∙ sym (take_all (i + 1) own (omega (arith, h, e))))
    ∙ ap (λ (l : List leaves.Leaf). let p : Place = record { bytes = length (encode_utf8_all (joined (take (i + 1) own))); left = l } in p)
    (drop_all i own (omega (arith, h, e)) ∙ sym (drop_all (i + 1) own (omega (arith, h, e))))
    ∙ sym (after-at ls i 1)

pub text-next : (ls : List Lexed) (i : ℕ) → i < length ls → (leaf_at ls i).leaf.text ≡ next_text (drop i (leaves_of ls))
unfolding next_text
text-next ls i h = ap next_text (sym (leaf-next ls i h))

pub text-end : (ls : List Lexed) (i : ℕ) → length ls ≤ i → [] ≡ next_text (drop i (leaves_of ls))
unfolding next_text
text-end ls i h = ap next_text (sym (drop_all i (leaves_of ls) (omega (arith, h, own-length ls))))

pub slice-rest : (ls : List Lexed) (a n : ℕ) → n ≡ length ls → slice_range (leaves_of ls) a n ≡ drop a (leaves_of ls)
slice-rest ls a n e = take_all (n - a) (drop a (leaves_of ls)) (omega (arith, e, own-length ls, length-drop a (leaves_of ls)))

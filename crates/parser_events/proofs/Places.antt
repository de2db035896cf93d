-- Places in a text, by the numbers of its leaves.
use Rattle.std.proofs.Common.{◌≡◌, ◌≤◌, ◌<◌, ℕ, zero, suc, ◌+◌, Bool, true, false, List, [], ◌∷◌, ◌++◌, length, take, drop, encode_utf8_all, refl, ap, sym, ◌∙◌, append_assoc, length-append, arith}
use Rattle.std.specs.List.{prefix_len}
use Rattle.std.proofs.Math.Seq.{take-add}
use Rattle.std.proofs.lemmas.List.{drop-drop, length-map, drop_all}
use Rattle.std.proofs.Math.Utf8.{encodes}
use Rattle.std.proofs.lemmas.Str.{encodes-append}
use Rattle.parser_input.specs.Kind as kind
use Rattle.parser_input.specs.Leaf as leaves
use Rattle.parser_input.specs.Leaf.{is_trivia}
use Rattle.parser_input.specs.Lexed.{Lexed, leaves_of}
use Rattle.parser_input.specs.Stored.{leaf_at}
use Rattle.parser_events.specs.Dress.{joined, reach}
use Rattle.parser_events.specs.Laying.{Place, after, place_at}
use Rattle.parser_events.specs.Trivia.{pending}

pub joined-then : (xs ys : List leaves.Leaf) → joined (xs ++ ys) ≡ joined xs ++ joined ys
unfolding joined
joined-then [] ys = refl
joined-then (l ∷ xs) ys = ap (λ (t : List ℕ). l.text ++ t) (joined-then xs ys) ∙ sym (append_assoc l.text (joined xs) (joined ys))

-- how many bytes the first leaves have
abbrev bytes_of : List Lexed → ℕ → ℕ
bytes_of ls n = length (encode_utf8_all (joined (take n (leaves_of ls))))

bytes-after : (ls : List Lexed) (i n : ℕ) → bytes_of ls i + length (encode_utf8_all (joined (take n (drop i (leaves_of ls))))) ≡ bytes_of ls (i + n)
bytes-after ls i n =
    let own = leaves_of ls in
    let front = joined (take i own) in
    let more = joined (take n (drop i own)) in
    sym (length-append (encodes front) (encodes more))
    ∙ ap length (sym (encodes-append front more))
    ∙ ap (λ (t : List ℕ). length (encodes t)) (sym (joined-then (take i own) (take n (drop i own))) ∙ ap joined (sym (take-add i n own)))

pub after-at : (ls : List Lexed) (i n : ℕ) → after n (place_at ls i) ≡ place_at ls (i + n)
after-at ls i n =
    ap (λ (k : ℕ). let p : Place = record { bytes = k; left = drop n (drop i (leaves_of ls)) } in p) (bytes-after ls i n)
    ∙ ap (λ (l : List leaves.Leaf). let p : Place = record { bytes = bytes_of ls (i + n); left = l } in p) (drop-drop n i (leaves_of ls))

-- the leaf of a number, and those after it
pub leaf-next : (ls : List Lexed) (i : ℕ) → i < length ls → drop i (leaves_of ls) ≡ (leaf_at ls i).leaf ∷ drop (i + 1) (leaves_of ls)
leaf-next [] i h = absurd (omega (arith, h))
leaf-next (l ∷ ls) zero h = refl
leaf-next (l ∷ ls) (suc i) h =
    leaf-next ls i (omega (arith, h)) ∙ ap (λ (k : ℕ). (leaf_at ls i).leaf ∷ drop k (l.leaf ∷ leaves_of ls)) (let e : suc (i + 1) ≡ suc i + 1 = omega arith in e)

one-more : (n : ℕ) → 1 + n ≡ suc n
one-more n = omega arith

-- How many leaves are pending.

pending-over : (l : leaves.Leaf) (ls : List leaves.Leaf) → is_trivia l ≡ true → length (pending (l ∷ ls)) ≡ suc (length (pending ls))
unfolding pending
pending-over l ls e = rw e (ap (λ (k : ℕ). length (take k (l ∷ ls))) (one-more (prefix_len is_trivia ls)))

pending-stop : (l : leaves.Leaf) (ls : List leaves.Leaf) → is_trivia l ≡ false → length (pending (l ∷ ls)) ≡ 0
unfolding pending
pending-stop l ls e = rw e refl

abbrev pub pending_at : List Lexed → ℕ → ℕ
pending_at ls i = length (pending (drop i (leaves_of ls)))

pub pending-end : (ls : List Lexed) (i : ℕ) → length ls ≤ i → pending_at ls i ≡ 0
unfolding pending
pending-end ls i h = ap (λ (r : List leaves.Leaf). length (pending r)) (drop_all i (leaves_of ls) (omega (arith, h, length-map ls (λ (x : Lexed). x.leaf))))

pub is-trivia : (k : ℕ) (l : leaves.Leaf) (b : Bool) → k ≡ l.kind → kind.is_trivia k ≡ b → is_trivia l ≡ b
unfolding is_trivia
is-trivia k l b e h = ap kind.is_trivia (sym e) ∙ h

pub pending-past : (ls : List Lexed) (i k : ℕ) → i < length ls → k ≡ (leaf_at ls i).leaf.kind → kind.is_trivia k ≡ true → pending_at ls i ≡ suc (pending_at ls (i + 1))
pending-past ls i k within is b =
    ap (λ (r : List leaves.Leaf). length (pending r)) (leaf-next ls i within) ∙ pending-over (leaf_at ls i).leaf (drop (i + 1) (leaves_of ls)) (is-trivia k (leaf_at ls i).leaf true is b)

pub pending-none : (ls : List Lexed) (i k : ℕ) → i < length ls → k ≡ (leaf_at ls i).leaf.kind → kind.is_trivia k ≡ false → pending_at ls i ≡ 0
pending-none ls i k within is b =
    ap (λ (r : List leaves.Leaf). length (pending r)) (leaf-next ls i within) ∙ pending-stop (leaf_at ls i).leaf (drop (i + 1) (leaves_of ls)) (is-trivia k (leaf_at ls i).leaf false is b)

-- How many leaves it takes to reach after tokens.

abbrev pub reach_at : List Lexed → ℕ → ℕ → ℕ
reach_at ls n i = reach n (drop i (leaves_of ls))

pub reach-none : (ls : List Lexed) (n i : ℕ) → n ≤ 0 → reach_at ls n i ≡ 0
unfolding reach
reach-none ls zero i h = refl
reach-none ls (suc n) i h = absurd (omega (arith, h))

reach-nil : (n : ℕ) → reach n [] ≡ 0
unfolding reach
reach-nil zero = refl
reach-nil (suc n) = refl

pub reach-end : (ls : List Lexed) (n i : ℕ) → length ls ≤ i → reach_at ls n i ≡ 0
reach-end ls n i h = ap (reach n) (drop_all i (leaves_of ls) (omega (arith, h, length-map ls (λ (x : Lexed). x.leaf)))) ∙ reach-nil n

reach-over : (n : ℕ) (l : leaves.Leaf) (ls : List leaves.Leaf) → is_trivia l ≡ true → reach (suc n) (l ∷ ls) ≡ 1 + reach (suc n) ls
unfolding reach
reach-over n l ls e = rw e refl

reach-one : (n : ℕ) (l : leaves.Leaf) (ls : List leaves.Leaf) → is_trivia l ≡ false → reach (suc n) (l ∷ ls) ≡ 1 + reach n ls
unfolding reach
reach-one n l ls e = rw e refl

pub reach-past : (ls : List Lexed) (n i k : ℕ) → 0 < n → i < length ls → k ≡ (leaf_at ls i).leaf.kind → kind.is_trivia k ≡ true → reach_at ls n i ≡ 1 + reach_at ls n (i + 1)
reach-past ls zero i k some within is b = absurd (omega (arith, some))
reach-past ls (suc n) i k some within is b =
    ap (reach (suc n)) (leaf-next ls i within) ∙ reach-over n (leaf_at ls i).leaf (drop (i + 1) (leaves_of ls)) (is-trivia k (leaf_at ls i).leaf true is b)

pub reach-token : (ls : List Lexed) (n m i k : ℕ) → n ≡ m + 1 → i < length ls → k ≡ (leaf_at ls i).leaf.kind → kind.is_trivia k ≡ false → reach_at ls n i ≡ 1 + reach_at ls m (i + 1)
reach-token ls n m i k e within is b =
    ap (λ (x : ℕ). reach x (drop i (leaves_of ls))) (let s : n ≡ suc m = omega (arith, e) in s)
    ∙ ap (reach (suc m)) (leaf-next ls i within)
    ∙ reach-one m (leaf_at ls i).leaf (drop (i + 1) (leaves_of ls)) (is-trivia k (leaf_at ls i).leaf false is b)

-- A text around one of its leaves: the text with that leaf renamed, and an edit within it.
use Rattle.std.proofs.Common.{◌≡◌, ℕ, zero, suc, ◌+◌, ◌-◌, ◌<◌, ◌≤◌, Bool, List, [], ◌∷◌, ◌++◌, length, take, drop, refl, sym, ◌∙◌, ap, arith, append_assoc, length-append, if◌then◌else◌}
use Rattle.std.proofs.Math.Seq.{take-append-add, drop-append-add}
use Rattle.std.proofs.Math.Utf8.{encodes}
use Rattle.std.proofs.lemmas.Bool.{eq-eqb, ne_eqb}
use Rattle.std.proofs.lemmas.List.{drop_at, take_at}
use Rattle.rustc_lexer.proofs.Sizes.{size-append, size-encodes}
use Rattle.parser_input.specs.Lexed.{Lexed}
use Rattle.parser_input.specs.Stored.{offset}
use Rattle.plain_names.specs.LeafNames.{texts}
use Rattle.plain_names.specs.Renames.{Rename, renamed_from}
use Rattle.rust_document.specs.Edit.{edited}

pub texts-parts : (i : ℕ) (ls : List Lexed) → texts ls ≡ texts (take i ls) ++ texts (drop i ls)
texts-parts zero ls = refl
texts-parts (suc i) [] = refl
texts-parts (suc i) (l ∷ ls) = ap (λ (z : List ℕ). l.leaf.text ++ z) (texts-parts i ls) ∙ sym (append_assoc l.leaf.text (texts (take i ls)) (texts (drop i ls)))

pub offset-is : (i : ℕ) (ls : List Lexed) → offset ls i ≡ length (encodes (texts (take i ls)))
offset-is zero ls = refl
offset-is (suc i) [] = refl
offset-is (suc i) (l ∷ ls) =
    let own = size-encodes (texts (take (suc i) (l ∷ ls))) in
    let parts = size-append l.leaf.text (texts (take i ls)) in
    let more = offset-is i ls in
    let rest = size-encodes (texts (take i ls)) in
    omega (arith, own, parts, more, rest)

-- the renamed leaves, joined
unnamed : (r : Rename) (k : ℕ) (ls : List Lexed) → r.number < k → texts (renamed_from (r ∷ []) k ls) ≡ texts ls
unnamed r k [] h = refl
unnamed r k (l ∷ ls) h =
    ap (λ (b : Bool). (if b then r.new else l.leaf.text) ++ texts (renamed_from (r ∷ []) (k + 1) ls)) (ne_eqb r.number k (λ e. absurd (omega (arith, h, e))))
    ∙ ap (λ (z : List ℕ). l.leaf.text ++ z) (unnamed r (k + 1) ls (omega (arith, h)))

pub renamed-texts :
    (r : Rename) (k i : ℕ) (ls : List Lexed) (l : Lexed) → r.number ≡ k + i → drop i ls ≡ l ∷ drop (suc i) ls
    → texts (renamed_from (r ∷ []) k ls) ≡ texts (take i ls) ++ (r.new ++ texts (drop (suc i) ls))
renamed-texts r k zero [] l at is = absurd (let z : [] ≡ l ∷ [] = is in cc)
renamed-texts r k (suc i) [] l at is = absurd (let z : [] ≡ l ∷ [] = is in cc)
renamed-texts r k zero (m ∷ ls) l at is =
    ap (λ (b : Bool). (if b then r.new else m.leaf.text) ++ texts (renamed_from (r ∷ []) (k + 1) ls)) (eq-eqb r.number k (let z : r.number ≡ k = omega (arith, at) in z))
    ∙ ap (λ (z : List ℕ). r.new ++ z) (unnamed r (k + 1) ls (omega (arith, at)))
renamed-texts r k (suc i) (m ∷ ls) l at is =
    ap (λ (b : Bool). (if b then r.new else m.leaf.text) ++ texts (renamed_from (r ∷ []) (k + 1) ls)) (ne_eqb r.number k (λ e. absurd (omega (arith, at, e))))
    ∙ ap (λ (z : List ℕ). m.leaf.text ++ z) (renamed-texts r (k + 1) i ls l (omega (arith, at)) is)
    ∙ sym (append_assoc m.leaf.text (texts (take i ls)) (r.new ++ texts (drop (suc i) ls)))

-- An edit within the middle one of three parts, in bytes: the part between the two others.
pub middle-edited :
    (a m b put new : List ℕ) (start end s e : ℕ) → length a ≡ start → end ≡ start + length m → start ≤ s → s ≤ e → e ≤ end
    → (let before : List ℕ = a ++ (m ++ b) in let after : List ℕ = edited before s e put in
    new ≡ take (length after - (length before - end) - start) (drop start after) → after ≡ a ++ (new ++ b))
middle-edited a m b put new start end s e first last low ordered high is =
    let p : ℕ = s - start in
    let q : ℕ = e - start in
    let x : List ℕ = take p m ++ (put ++ drop q m) in
    let before : List ℕ = a ++ (m ++ b) in
    let front : take s before ≡ a ++ take p m =
    ap (λ (n : ℕ). take n before) (let z : s ≡ length a + p = omega (arith, first, low) in z) ∙ take-append-add a (m ++ b) p ∙ ap (λ (z : List ℕ). a ++ z) (within-front m b p (omega (arith, last, low, ordered, high))) in
    let back : drop e before ≡ drop q m ++ b =
    ap (λ (n : ℕ). drop n before) (let z : e ≡ length a + q = omega (arith, first, low, ordered) in z) ∙ drop-append-add a (m ++ b) q ∙ within-back m b q (omega (arith, last, low, ordered, high)) in
    let after_is : edited before s e put ≡ a ++ (x ++ b) =
    ap (λ (z : List ℕ). (z ++ put) ++ drop e before) front ∙ ap (λ (z : List ℕ). ((a ++ take p m) ++ put) ++ z) back
    ∙ append_assoc (a ++ take p m) put (drop q m ++ b)
    ∙ append_assoc a (take p m) (put ++ (drop q m ++ b))
    ∙ ap (λ (z : List ℕ). a ++ z) (ap (λ (z : List ℕ). take p m ++ z) (sym (append_assoc put (drop q m) b)) ∙ sym (append_assoc (take p m) (put ++ drop q m) b)) in
    let long = ap (λ (z : List ℕ). length z) after_is in
    let l1 = length-append a (x ++ b) in
    let l2 = length-append x b in
    let l3 = length-append a (m ++ b) in
    let l4 = length-append m b in
    let count : length (edited before s e put) - (length before - end) - start ≡ length x = omega (arith, long, l1, l2, l3, l4, first, last) in
    let own : new ≡ x =
    is ∙ ap (λ (n : ℕ). take n (drop start (edited before s e put))) count
    ∙ ap (λ (z : List ℕ). take (length x) (drop start z)) after_is
    ∙ ap (λ (z : List ℕ). take (length x) z) (drop_at a (x ++ b) start first)
    ∙ take_at x b (length x) refl in
    after_is ∙ ap (λ (z : List ℕ). a ++ (z ++ b)) (sym own)
  where
    within-front : (m b : List ℕ) (n : ℕ) → n ≤ length m → take n (m ++ b) ≡ take n m
    within-front m b zero h = refl
    within-front [] b (suc n) h = absurd (omega (arith, h))
    within-front (c ∷ m) b (suc n) h = ap (λ (z : List ℕ). c ∷ z) (within-front m b n (omega (arith, h)))

    within-back : (m b : List ℕ) (n : ℕ) → n ≤ length m → drop n (m ++ b) ≡ drop n m ++ b
    within-back m b zero h = refl
    within-back [] b (suc n) h = absurd (omega (arith, h))
    within-back (c ∷ m) b (suc n) h = within-back m b n (omega (arith, h))

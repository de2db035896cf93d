-- The table of words by their places: a text can only be the word at its place.
use Rattle.std.proofs.Common.{◌≡◌, ℕ, ◌+◌, ◌*◌, ◌/◌, ◌-◌, ◌%◌, ◌<◌, Bool, true, false, List, [], ◌∷◌, length, map, Option, Some, None, refl, sym, ◌∙◌, ap, ◌⊎◌, inl, inr, zero, suc, ◌&&◌, nat_lt, cond, arith, lit<, slice_get}
use Rattle.std.proofs.lemmas.Option.{slice_get-get_or, get_or_from_slice_get}
use Rattle.std.specs.List.{list_all, find}
use Rattle.std.proofs.Math.ListN.{get_or}
use Rattle.std.specs.Str.{bytes_eq}
use Rattle.std.proofs.lemmas.Bool.Decides.{nat_tests}
use Rattle.std.proofs.lemmas.Slice.Eq.{bytes_eq-Decides}
use Rattle.parser_input.specs.Keywords.{Word, words, word_of}
use Rattle.parser_input.specs.declared.word_table.TheConstants.{PLACES}

unfoldable pub slot_of : List ℕ → ℕ
slot_of text = (get_or text 0 0 + 19 * get_or text (length text / 2) 0 + 25 * get_or text (length text - 1) 0) % 256

-- the place that the code looks at for a text
unfoldable pub place_of : List ℕ → ℕ
place_of text = get_or PLACES (slot_of text) 0

-- the word at a text's place
word_at : Word → List ℕ → Word
word_at default text = get_or words (place_of text) default

-- each word is the one at the place of its own text
placed : (default : Word) → map (λ word. word_at default word.text) words ≡ words
unfolding words word_at place_of slot_of
placed default = refl

length-words : length words ≡ 59
unfolding words
length-words = refl

both : (a b : Bool) → a && b ≡ true → (a ≡ true) × (b ≡ true)
both true true e = (refl, refl)
both true false e = (refl, e)
both false b e = absurd (cc)

below : (n : ℕ) (xs : List ℕ) (i d : ℕ) → d < n → list_all (λ x. nat_lt x n) xs ≡ true → get_or xs i d < n
below n [] i d h e = h
below n (x ∷ xs) zero d h e = let first : nat_lt x n ≡ true = (both _ _ e).0 in grind (arith, nat_tests)
below n (x ∷ xs) (suc i) d h e = below n xs i d h (both _ _ e).1

pub place-below : (slot : ℕ) → get_or PLACES slot 0 < 59
place-below slot = below 59 PLACES slot 0 (lit< tt) refl

place_of-below : (text : List ℕ) → place_of text < length words
unfolding place_of
place_of-below text = rw length-words (place-below (slot_of text))

-- what `find` can have come to, where f leaves each element as it is
abbrev Found : (Word → Word) → (Word → Bool) → Option Word → Type 0
Found f p r = (r ≡ None) ⊎ ((word : Word) × (r ≡ Some word) × (p word ≡ true) × (f word ≡ word))

found-cons : (f : Word → Word) (p : Word → Bool) (x : Word) (xs : List Word) (b : Bool) → p x ≡ b → f x ≡ x → Found f p (find p xs) → Found f p (cond b (Some x) (find p xs))
found-cons f p x xs true px fx rest = inr (x, refl, px, fx)
found-cons f p x xs false px fx rest = rest

found : (f : Word → Word) (p : Word → Bool) (xs : List Word) → map f xs ≡ xs → Found f p (find p xs)
found f p [] e = inl refl
found f p (x ∷ xs) e = found-cons f p x xs (p x) refl (cc) (found f p xs (cc))

-- where nothing is found, no element passes
fails-cons : (p : Word → Bool) (x : Word) (xs : List Word) (b : Bool) → p x ≡ b → cond b (Some x) (find p xs) ≡ None → (p x ≡ false) × (find p xs ≡ None)
fails-cons p x xs true px e = absurd (cc)
fails-cons p x xs false px e = (px, e)

fails : (p : Word → Bool) (xs : List Word) (i : ℕ) (d : Word) → i < length xs → find p xs ≡ None → p (get_or xs i d) ≡ false
fails p [] i d h e = absurd (omega arith)
fails p (x ∷ xs) zero d h e = (fails-cons p x xs (p x) refl e).0
fails p (x ∷ xs) (suc i) d h e = fails p xs i d (omega arith) (fails-cons p x xs (p x) refl e).1

found_word : (default : Word) (text : List ℕ) → Found (λ word. word_at default word.text) (λ word. bytes_eq word.text text) (word_of text)
unfolding word_of
found_word default text = found (λ word. word_at default word.text) (λ word. bytes_eq word.text text) words (placed default)

passed_over : (default : Word) (text : List ℕ) → word_of text ≡ None → bytes_eq (word_at default text).text text ≡ false
unfolding word_of word_at
passed_over default text e = fails (λ word. bytes_eq word.text text) words (place_of text) default (place_of-below text) e

is_at : (default : Word) (text : List ℕ) (word : Word) → bytes_eq word.text text ≡ true → word_at default word.text ≡ word → word_at default text ≡ word
is_at default text word same at = ap (word_at default) (sym ((bytes_eq-Decides word.text text).0 same)) ∙ at

listed : (default : Word) (text : List ℕ) → (word_at default text).text ≡ text → Some (word_at default text) ≡ word_of text
listed default text h = from_found (found_word default text)
  where
    from_found : Found (λ word. word_at default word.text) (λ word. bytes_eq word.text text) (word_of text) → Some (word_at default text) ≡ word_of text
    from_found (inl none) = absurd (let yes = (bytes_eq-Decides (word_at default text).text text).1 h in let no = passed_over default text none in cc)
    from_found (inr (word, is, same, at)) = ap Some (is_at default text word same at) ∙ sym is

unlisted : (default : Word) (text : List ℕ) → ((word_at default text).text ≡ text → ⊥) → None ≡ word_of text
unlisted default text h = from_found (found_word default text)
  where
    from_found : Found (λ word. word_at default word.text) (λ word. bytes_eq word.text text) (word_of text) → None ≡ word_of text
    from_found (inl none) = sym none
    from_found (inr (word, is, same, at)) = absurd (h (ap (λ (word : Word). word.text) (is_at default text word same at) ∙ (bytes_eq-Decides word.text text).0 same))

-- a text that is spelled as the word at its place is that word
pub word_of-listed : (text : List ℕ) (word : Word) → slice_get words (place_of text) ≡ Some word → word.text ≡ text → Some word ≡ word_of text
unfolding word_at
word_of-listed text word at same =
    let e : word_at word text ≡ word = get_or_from_slice_get words (place_of text) word word at in
    ap Some (sym e) ∙ listed word text (ap (λ (word : Word). word.text) e ∙ same)

-- a text that is spelled otherwise is no word
pub word_of-unlisted : (text : List ℕ) (word : Word) → slice_get words (place_of text) ≡ Some word → (word.text ≡ text → ⊥) → None ≡ word_of text
unfolding word_at
word_of-unlisted text word at other =
    let e : word_at word text ≡ word = get_or_from_slice_get words (place_of text) word word at in
    unlisted word text (λ same. other (ap (λ (word : Word). word.text) (sym e) ∙ same))

-- the word at a place that the table names
pub slice_get-words : (place : ℕ) (default : Word) → place < 59 → slice_get words place ≡ Some (get_or words place default)
slice_get-words place default h = slice_get-get_or words place default (rw length-words h)

pub word_of-empty : (text : List ℕ) → length text ≡ 0 → None ≡ word_of text
unfolding word_of words
word_of-empty [] h = refl
word_of-empty (x ∷ xs) h = absurd (omega arith)

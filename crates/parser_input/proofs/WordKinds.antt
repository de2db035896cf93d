-- What a text is that is a word: its kind is that of a keyword or a contextual keyword.
use Rattle.std.proofs.Common.{◌≡◌, ℕ, Bool, true, false, List, [], ◌∷◌, Option, Some, None, cond, refl, sym, ◌∙◌, ap}
use Rattle.std.specs.Prelude.{◌||◌, ◌&&◌, ◌==◌}
use Rattle.std.specs.List.{list_any, find}
use Rattle.std.specs.Option.{option_copied, option_map}
use Rattle.std.proofs.lemmas.Bool.Decides.{Decides-eqb}
use Rattle.std.proofs.Math.Bool.{or-true}
use Rattle.std.specs.Str.{bytes_eq}
use Rattle.std.proofs.Common.{Bor, List}
use Rattle.parser_input.specs.declared.edition.Edition.{Edition}
use Rattle.parser_input.specs.declared.word_table.Word as declared
use Rattle.parser_input.specs.Keywords.{Word, words, word_of, contextual_kind, is_keyword, is_keyword_in, is_contextual_in, keyword_kind}
use Rattle.parser_input.specs.WordTable.{row_of}

any-cons : (p q : Word → Bool) (x : Word) (xs : List Word) (word : Word) (b : Bool) → p x ≡ b → cond b (Some x) (find p xs) ≡ Some word → q word ≡ true → (find p xs ≡ Some word → list_any q xs ≡ true) → q x || list_any q xs ≡ true
any-cons p q x xs word true px e pass rest = let same : x ≡ word = cc in rw (same, pass) refl
any-cons p q x xs word false px e pass rest = rw (rest e) (or-true (q x))

-- a test that a found element passes is passed by some element
any-found : (p q : Word → Bool) (xs : List Word) (word : Word) → find p xs ≡ Some word → q word ≡ true → list_any q xs ≡ true
any-found p q [] word e pass = absurd (cc)
any-found p q (x ∷ xs) word e pass = any-cons p q x xs word (p x) refl e pass (λ e. any-found p q xs word e pass)

pub is_keyword-word : (edition : Edition) (text : List ℕ) (word : Word) → word_of text ≡ Some word → is_keyword_in edition word || is_contextual_in edition word ≡ true → is_keyword edition word.kind ≡ true
unfolding word_of is_keyword
is_keyword-word edition text word e used =
    any-found (λ word. bytes_eq word.text text) (λ row. (row.kind == word.kind) && (is_keyword_in edition row || is_contextual_in edition row)) words word e
    (rw ((Decides-eqb word.kind word.kind).1 refl) used)

-- the word that the code found is the word of the text
pub word_of-spelled : (text : List ℕ) (found : Option (Bor declared.Word)) (word : Bor declared.Word) → option_map row_of (option_copied found) ≡ word_of text → found ≡ Some word → word_of text ≡ Some (row_of word.now)
word_of-spelled text found word spelled is = sym spelled ∙ ap (λ (r : Option (Bor declared.Word)). option_map row_of (option_copied r)) is

-- the kind of a text whose word is known
pub keyword_kind-yes : (edition : Edition) (text : List ℕ) (word : Word) → word_of text ≡ Some word → is_keyword_in edition word ≡ true → Some word.kind ≡ keyword_kind edition text
keyword_kind-yes edition text word e used = rw (e, used) refl

pub keyword_kind-no : (edition : Edition) (text : List ℕ) (word : Word) → word_of text ≡ Some word → is_keyword_in edition word ≡ false → None ≡ keyword_kind edition text
keyword_kind-no edition text word e unused = rw (e, unused) refl

pub contextual_kind-yes : (edition : Edition) (text : List ℕ) (word : Word) → word_of text ≡ Some word → is_contextual_in edition word ≡ true → Some word.kind ≡ contextual_kind edition text
contextual_kind-yes edition text word e used = rw (e, used) refl

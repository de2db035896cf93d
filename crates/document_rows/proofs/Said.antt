-- Rows and words of messages, one after another.
use Rattle.std.proofs.Common.{◌≡◌, ◌∙◌, ℕ, ◌+◌, ◌≤◌, ◌<◌, ◌++◌, List, [], ◌∷◌, length, map, drop, get_or, ap, sym, append_assoc, append-nil}
use Rattle.std.proofs.lemmas.List.{at_drop_all, at_drop_more}
use Rattle.rust_document.specs.Seen.{message_of_error}
use Rattle.rust_document.specs.declared.syntax_error.SyntaxError.{SyntaxError}
use Rattle.document_requests.specs.Messages.{worded}
use Rattle.document_rows.specs.Rows.{message_row, message_rows, message_words, shown}
use Rattle.document_rows.specs.declared.rows.MessageRow.{MessageRow}

abbrev pub said : List SyntaxError → List (ℕ × List ℕ)
said errors = map worded (map message_of_error errors)

row-of : ℕ → ℕ → ℕ → MessageRow
row-of offset start end = record { offset = offset; words_start = start; words_end = end }

-- the row of a message, by the lengths of the words before it and with it
pub row-is :
    (a b e offset n m : ℕ) (before own words : List ℕ)
    → a ≡ shown offset → b ≡ shown n → n ≡ length before → e ≡ shown m → m ≡ length words → words ≡ before ++ own
    → record { offset = a; words_start = b; words_end = e } ∷ [] ≡ message_row before (offset, own)
unfolding row-of
row-is a b e offset n m before own words a-is b-is n-is e-is m-is longer =
    let start : b ≡ shown (length before) = b-is ∙ ap shown n-is in
    let end : e ≡ shown (length (before ++ own)) = e-is ∙ ap shown (m-is ∙ ap (λ (w : List ℕ). length w) longer) in
    λ i. row-of (a-is i) (start i) (end i) ∷ []

pub rows-more :
    (rows now : List MessageRow) (before words : List ℕ) (errors : List SyntaxError) (n : ℕ) (d : SyntaxError) (all : List MessageRow) → n < length errors
    → now ≡ rows ++ message_row before (worded (message_of_error (get_or errors n d)))
    → words ≡ before ++ (worded (message_of_error (get_or errors n d))).1
    → rows ++ message_rows before (said (drop n errors)) ≡ all → now ++ message_rows words (said (drop (n + 1) errors)) ≡ all
rows-more rows now before words errors n d all below added longer so-far =
    let m = worded (message_of_error (get_or errors n d)) in
    let rest = said (drop (n + 1) errors) in
    ap (λ (front : List MessageRow). front ++ message_rows words rest) added
    ∙ ap (λ (w : List ℕ). (rows ++ message_row before m) ++ message_rows w rest) longer
    ∙ append_assoc rows (message_row before m) (message_rows (before ++ m.1) rest)
    ∙ ap (λ (more : List MessageRow). rows ++ more) (sym (at_drop_more (λ (es : List SyntaxError). message_rows before (said es)) errors n d below))
    ∙ so-far

pub words-more :
    (before words : List ℕ) (errors : List SyntaxError) (n : ℕ) (d : SyntaxError) (all : List ℕ) → n < length errors
    → words ≡ before ++ (worded (message_of_error (get_or errors n d))).1
    → before ++ message_words (said (drop n errors)) ≡ all → words ++ message_words (said (drop (n + 1) errors)) ≡ all
words-more before words errors n d all below longer so-far =
    let own = (worded (message_of_error (get_or errors n d))).1 in
    let rest = message_words (said (drop (n + 1) errors)) in
    ap (λ (front : List ℕ). front ++ rest) longer
    ∙ append_assoc before own rest
    ∙ ap (λ (more : List ℕ). before ++ more) (sym (at_drop_more (λ (es : List SyntaxError). message_words (said es)) errors n d below))
    ∙ so-far

pub rows-end :
    (rows : List MessageRow) (words : List ℕ) (errors : List SyntaxError) (n : ℕ) (all : List MessageRow) → length errors ≤ n
    → rows ++ message_rows words (said (drop n errors)) ≡ all → rows ≡ all
rows-end rows words errors n all past so-far =
    sym (append-nil rows)
    ∙ ap (λ (more : List MessageRow). rows ++ more) (sym (at_drop_all (λ (es : List SyntaxError). message_rows words (said es)) errors n past))
    ∙ so-far

pub words-end :
    (words : List ℕ) (errors : List SyntaxError) (n : ℕ) (all : List ℕ) → length errors ≤ n → words ++ message_words (said (drop n errors)) ≡ all → words ≡ all
words-end words errors n all past so-far =
    sym (append-nil words)
    ∙ ap (λ (more : List ℕ). words ++ more) (sym (at_drop_all (λ (es : List SyntaxError). message_words (said es)) errors n past))
    ∙ so-far

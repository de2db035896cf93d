-- Lemmas on lines.
use Rattle.std.proofs.Common.{◌≡◌, ◌≢◌, ◌==◌, ◌<◌, ◌≤◌, ◌+◌, ℕ, zero, suc, Bool, true, false, List, [], ◌∷◌, ◌++◌, All, refl, ap, sym, ◌∙◌, arith, inl, inr, append_assoc}
use Rattle.std.proofs.lemmas.Bool.{cases_Bool, ne_eqb}
use Rattle.std.proofs.lemmas.List.{append-nil}
use Rattle.std.proofs.lemmas.List.Elements.{All-head, All-tail, All-nil, All-cons}
use Rattle.line_reader.specs.Lines.{line_feed, IsPlain, lines, whole_lines, open_part, onto_first, onto_whole, onto_open}

lines-nil : lines [] ≡ []
unfolding lines
lines-nil = refl

lines-feed : (b : ℕ) (bs : List ℕ) → (b == line_feed) ≡ true → lines (b ∷ bs) ≡ [] ∷ lines bs
unfolding lines
lines-feed b bs q = rw (q, lines) refl

lines-other : (b : ℕ) (bs : List ℕ) → (b == line_feed) ≡ false → lines (b ∷ bs) ≡ onto_first b (lines bs)
unfolding lines
lines-other b bs q = rw (q, lines) refl

pub whole-nil : whole_lines [] ≡ []
unfolding whole_lines
whole-nil = refl

whole-feed : (b : ℕ) (bs : List ℕ) → (b == line_feed) ≡ true → whole_lines (b ∷ bs) ≡ [] ∷ whole_lines bs
unfolding whole_lines
whole-feed b bs q = rw (q, whole_lines) refl

whole-other : (b : ℕ) (bs : List ℕ) → (b == line_feed) ≡ false → whole_lines (b ∷ bs) ≡ onto_whole b (whole_lines bs)
unfolding whole_lines
whole-other b bs q = rw (q, whole_lines) refl

pub open-nil : open_part [] ≡ []
unfolding open_part
open-nil = refl

open-feed : (b : ℕ) (bs : List ℕ) → (b == line_feed) ≡ true → open_part (b ∷ bs) ≡ open_part bs
unfolding open_part
open-feed b bs q = rw (q, open_part) refl

open-other : (b : ℕ) (bs : List ℕ) → (b == line_feed) ≡ false → open_part (b ∷ bs) ≡ onto_open b (whole_lines bs) (open_part bs)
unfolding open_part
open-other b bs q = rw (q, open_part) refl

-- what is cut at the last line feed
pub record IsCut (a c : List ℕ) : Type 0 where
  pub lines : lines (a ++ c) ≡ whole_lines a ++ lines (open_part a ++ c)
  pub whole : whole_lines (a ++ c) ≡ whole_lines a ++ whole_lines (open_part a ++ c)
  pub rest : open_part (a ++ c) ≡ open_part (open_part a ++ c)

cut-nil : (c : List ℕ) → IsCut [] c
cut-nil c = record { lines = rw (whole-nil, open-nil) refl; whole = rw (whole-nil, open-nil) refl; rest = rw open-nil refl }

cut-feed : (b : ℕ) (a c : List ℕ) → (b == line_feed) ≡ true → IsCut a c → IsCut (b ∷ a) c
cut-feed b a c q h = record {
  lines = rw (whole-feed b a q, open-feed b a q) (lines-feed b (a ++ c) q ∙ ap (λ ls. [] ∷ ls) h.lines);
  whole = rw (whole-feed b a q, open-feed b a q) (whole-feed b (a ++ c) q ∙ ap (λ ls. [] ∷ ls) h.whole);
  rest = rw (open-feed b a q) (open-feed b (a ++ c) q ∙ h.rest);
}

-- no line is whole
cut-open : (b : ℕ) (a c : List ℕ) (ls : List (List ℕ)) (o : List ℕ) → (b == line_feed) ≡ false → IsCut a c → whole_lines a ≡ ls → open_part a ≡ o → IsCut (b ∷ a) c
cut-open b a c [] o q h w p =
    let is-whole : whole_lines (b ∷ a) ≡ [] = whole-other b a q ∙ ap (onto_whole b) w in
    let is-open : open_part (b ∷ a) ≡ b ∷ o = open-other b a q ∙ ap (λ ls. onto_open b ls (open_part a)) w ∙ ap (λ r. b ∷ r) p in
    let all : lines (a ++ c) ≡ lines (o ++ c) = h.lines ∙ ap (λ ls. ls ++ lines (open_part a ++ c)) w ∙ ap (λ r. lines (r ++ c)) p in
    let wholes : whole_lines (a ++ c) ≡ whole_lines (o ++ c) = h.whole ∙ ap (λ ls. ls ++ whole_lines (open_part a ++ c)) w ∙ ap (λ r. whole_lines (r ++ c)) p in
    let rests : open_part (a ++ c) ≡ open_part (o ++ c) = h.rest ∙ ap (λ r. open_part (r ++ c)) p in
    record {
      lines = rw (is-whole, is-open) (lines-other b (a ++ c) q ∙ ap (onto_first b) all ∙ sym (lines-other b (o ++ c) q));
      whole = rw (is-whole, is-open) (whole-other b (a ++ c) q ∙ ap (onto_whole b) wholes ∙ sym (whole-other b (o ++ c) q));
      rest = rw is-open (open-other b (a ++ c) q ∙ ap (λ ls. onto_open b ls (open_part (a ++ c))) wholes ∙ ap (onto_open b (whole_lines (o ++ c))) rests ∙ sym (open-other b (o ++ c) q));
    }
cut-open b a c (l ∷ ls) o q h w p =
    let is-whole : whole_lines (b ∷ a) ≡ (b ∷ l) ∷ ls = whole-other b a q ∙ ap (onto_whole b) w in
    let is-open : open_part (b ∷ a) ≡ open_part a = open-other b a q ∙ ap (λ ls. onto_open b ls (open_part a)) w in
    let all : lines (a ++ c) ≡ (l ∷ ls) ++ lines (open_part a ++ c) = h.lines ∙ ap (λ ls. ls ++ lines (open_part a ++ c)) w in
    let wholes : whole_lines (a ++ c) ≡ (l ∷ ls) ++ whole_lines (open_part a ++ c) = h.whole ∙ ap (λ ls. ls ++ whole_lines (open_part a ++ c)) w in
    record {
      lines = rw (is-whole, is-open) (lines-other b (a ++ c) q ∙ ap (onto_first b) all);
      whole = rw (is-whole, is-open) (whole-other b (a ++ c) q ∙ ap (onto_whole b) wholes);
      rest = rw is-open (open-other b (a ++ c) q ∙ ap (λ ls. onto_open b ls (open_part (a ++ c))) wholes ∙ h.rest);
    }

pub cut : (a c : List ℕ) → IsCut a c
cut [] c = cut-nil c
cut (b ∷ a) c = elim (cases_Bool (b == line_feed)) [
  | inl feed ↦ cut-feed b a c feed (cut a c)
  | inr other ↦ cut-open b a c _ _ other (cut a c) refl refl
]

pub whole-plain : (a : List ℕ) → IsPlain a → whole_lines a ≡ []
whole-plain [] h = whole-nil
whole-plain (b ∷ a) h = whole-other b a (ne_eqb b line_feed (All-head (λ byte. byte ≢ line_feed) b a h)) ∙ ap (onto_whole b) (whole-plain a (All-tail (λ byte. byte ≢ line_feed) b a h))

pub open-plain : (a : List ℕ) → IsPlain a → open_part a ≡ a
open-plain [] h = open-nil
open-plain (b ∷ a) h =
    let rest = All-tail (λ byte. byte ≢ line_feed) b a h in
    open-other b a (ne_eqb b line_feed (All-head (λ byte. byte ≢ line_feed) b a h)) ∙ ap (λ ls. onto_open b ls (open_part a)) (whole-plain a rest) ∙ ap (λ r. b ∷ r) (open-plain a rest)

plain-open : (b : ℕ) (ls : List (List ℕ)) (o : List ℕ) → b ≢ line_feed → IsPlain o → IsPlain (onto_open b ls o)
plain-open b [] o h p = All-cons (λ byte. byte ≢ line_feed) b o h p
plain-open b (l ∷ ls) o h p = p

pub open-is-plain : (a : List ℕ) → IsPlain (open_part a)
open-is-plain [] = rw open-nil (All-nil (λ byte. byte ≢ line_feed))
open-is-plain (b ∷ a) = elim (cases_Bool (b == line_feed)) [
  | inl feed ↦ rw (open-feed b a feed) (open-is-plain a)
  | inr other ↦ rw (open-other b a other) (plain-open b (whole_lines a) (open_part a) (λ same. absurd (let feed = ap (λ x. x == line_feed) same in cc)) (open-is-plain a))
]

-- a line that ends at a line feed
pub whole-ended : (line rest : List ℕ) → IsPlain line → whole_lines (line ++ (line_feed ∷ rest)) ≡ line ∷ whole_lines rest
whole-ended [] rest h = whole-feed line_feed rest refl
whole-ended (b ∷ bs) rest h =
    whole-other b (bs ++ (line_feed ∷ rest)) (ne_eqb b line_feed (All-head (λ byte. byte ≢ line_feed) b bs h))
    ∙ ap (onto_whole b) (whole-ended bs rest (All-tail (λ byte. byte ≢ line_feed) b bs h))

pub open-ended : (line rest : List ℕ) → IsPlain line → open_part (line ++ (line_feed ∷ rest)) ≡ open_part rest
open-ended [] rest h = open-feed line_feed rest refl
open-ended (b ∷ bs) rest h =
    let tail = All-tail (λ byte. byte ≢ line_feed) b bs h in
    open-other b (bs ++ (line_feed ∷ rest)) (ne_eqb b line_feed (All-head (λ byte. byte ≢ line_feed) b bs h))
    ∙ ap (λ ls. onto_open b ls (open_part (bs ++ (line_feed ∷ rest)))) (whole-ended bs rest tail) ∙ open-ended bs rest tail

-- the last line
pub lines-last : (line : List ℕ) → IsPlain line → (line ≡ [] → ⊥) → lines line ≡ line ∷ []
lines-last [] h some = absurd (some refl)
lines-last (b ∷ []) h some = lines-other b [] (ne_eqb b line_feed (All-head (λ byte. byte ≢ line_feed) b [] h)) ∙ ap (onto_first b) lines-nil
lines-last (b ∷ c ∷ bs) h some =
    lines-other b (c ∷ bs) (ne_eqb b line_feed (All-head (λ byte. byte ≢ line_feed) b (c ∷ bs) h))
    ∙ ap (onto_first b) (lines-last (c ∷ bs) (All-tail (λ byte. byte ≢ line_feed) b (c ∷ bs) h) (λ none. absurd (cc)))

pub lines-none : (line : List ℕ) → line ≡ [] → lines line ≡ []
lines-none line none = ap lines none ∙ lines-nil

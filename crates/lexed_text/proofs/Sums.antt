-- The bytes before and after a boundary, a token more.
use Rattle.std.proofs.Common.{◌≡◌, ℕ, zero, suc, ◌+◌, ◌-◌, ◌<◌, ◌≤◌, List, [], ◌∷◌, ◌++◌, length, take, drop, get_or, sym, ◌∙◌, ap, arith, length-append}
use Rattle.std.proofs.lemmas.List.{append_assoc, drop_more, drop_all, take_at}
use Rattle.std.proofs.lemmas.List.Sums.{fold_more, sum_by-cons, sum_by-take-drop}
use Rattle.std.specs.List.{sum_by}
use Rattle.std.specs.Str.{chars}
use Rattle.rustc_lexer.specs.Characters.{size}
use Rattle.rustc_lexer.proofs.Sizes.{size-chars}
use Rattle.rustc_lexer.specs.declared.token.Token.{Token}
use Rattle.lexed_text.specs.Inside.{taken, left, EndsWithin, LacksLast, LacksTwo}

pub taken-more : (tokens : List Token) (i : ℕ) (d : Token) → i < length tokens → taken (i + 1) tokens ≡ taken i tokens + (get_or tokens i d).len
taken-more tokens i d h = fold_more (λ a (t : Token). a + t.len) 0 tokens i d h

pub left-more : (tokens : List Token) (i : ℕ) (d : Token) → i < length tokens → left i tokens ≡ (get_or tokens i d).len + left (i + 1) tokens
left-more tokens i d h =
    ap (λ z. sum_by (λ (t : Token). t.len) z) (drop_more tokens i d h) ∙ sum_by-cons (λ (t : Token). t.len) (get_or tokens i d) (drop (i + 1) tokens)

pub left-none : (tokens : List Token) (i : ℕ) → length tokens ≤ i → left i tokens ≡ 0
left-none tokens i h = ap (λ z. sum_by (λ (t : Token). t.len) z) (drop_all i tokens h)

pub taken-mono : (tokens : List Token) (i j : ℕ) → i ≤ j → taken i tokens ≤ taken j tokens
taken-mono tokens zero j h = omega arith
taken-mono [] (suc i) j h = omega arith
taken-mono (t ∷ ts) (suc i) zero h = absurd (omega arith)
taken-mono (t ∷ ts) (suc i) (suc j) h =
    let ih = taken-mono ts i j (omega arith) in
    omega (arith, sum_by-cons (λ (x : Token). x.len) t (take i ts), sum_by-cons (λ (x : Token). x.len) t (take j ts))

pub left-mono : (tokens : List Token) (i j : ℕ) → i ≤ j → left j tokens ≤ left i tokens
left-mono tokens i j h =
    let m = taken-mono tokens i j h in
    omega (arith, sum_by-take-drop (λ (x : Token). x.len) tokens i, sum_by-take-drop (λ (x : Token). x.len) tokens j)

-- where the next token ends after the limit, so do the later ones
pub ends-here : (tokens : List Token) (limit k end : ℕ) (d : Token) → k < length tokens → end ≡ taken k tokens → end ≤ limit → limit < end + (get_or tokens k d).len → EndsWithin tokens limit k end
ends-here tokens limit k end d inside is low next = record {
  within = omega arith;
  is_end = is;
  low = low;
  high = λ i past w.
      let m = taken-mono tokens (k + 1) i (omega arith) in
      let s = taken-more tokens k d inside in
      omega arith;
}

pub ends-all : (tokens : List Token) (limit k end : ℕ) → k ≡ length tokens → end ≡ taken k tokens → end ≤ limit → EndsWithin tokens limit k end
ends-all tokens limit k end all is low = record {
  within = omega arith;
  is_end = is;
  low = low;
  high = λ i past w. absurd (omega arith);
}

-- two characters fewer
pub lacks-two : (text one two : List ℕ) → LacksLast text one → LacksLast one two → LacksTwo text (length two)
lacks-two text one two a b =
    let parts : chars text ≡ chars one ++ a.last ∷ [] = a.whole in
    let more : chars one ≡ chars two ++ b.last ∷ [] = b.whole in
    let whole : chars text ≡ chars two ++ (b.last ∷ a.last ∷ []) = parts ∙ ap (λ z. z ++ a.last ∷ []) more ∙ append_assoc (chars two) (b.last ∷ []) (a.last ∷ []) in
    let len = ap length whole in
    let sum = length-append (chars two) (b.last ∷ a.last ∷ []) in
    let n : length (chars two) ≡ length (chars text) - 2 = omega arith in
    record {
      two = omega arith;
      is_size =
          size-chars two b.is_text
          ∙ ap size (sym (take_at (chars two) (b.last ∷ a.last ∷ []) (length (chars text) - 2) n) ∙ ap (λ z. take (length (chars text) - 2) z) (sym whole));
    }

pub lacks-one : (text one : List ℕ) → LacksLast text one → chars one ≡ [] → length (chars text) < 2
lacks-one text one a none =
    let parts : chars text ≡ chars one ++ a.last ∷ [] = a.whole in
    let len = ap length (parts ∙ ap (λ z. z ++ a.last ∷ []) none) in
    omega arith

-- Runs over renewed tokens.
use Rattle.std.proofs.Common.{◌≡◌, ℕ, ◌+◌, ◌-◌, ◌^◌, ◌<◌, ◌≤◌, ◌⊎◌, inl, inr, List, ◌++◌, length, take, drop, chars, refl, sym, ◌∙◌, ap, arith, length-append, length-drop}
use Rattle.std.proofs.lemmas.List.{append_assoc, length-take-le, take_at, take_all, drop_at, drop_all, drop-drop}
use Rattle.std.proofs.lemmas.List.Sums.{sum_by-append, sum_by-take-drop}
use Rattle.std.specs.Str.{IsUtf8}
use Rattle.std.specs.List.{sum_by}
use Rattle.rustc_lexer.specs.Tokens.{token_list}
use Rattle.rustc_lexer.specs.declared.token.Token.{Token}
use Rattle.rustc_lexer.proofs.Cutting.{lengths-sum}
use Rattle.rustc_lexer.proofs.Sizes.{size-chars}
use Rattle.lexed_text.specs.declared.runs.Run.{Run}
use Rattle.lexed_text.specs.Inside.{taken, left, Meets}
use Rattle.lexed_text.specs.Runs.{run_tokens, run_bytes, RunsFrom}
use Rattle.lexed_text.proofs.RunSums.{runs-none, runs-take, runs-front, runs-back, runs-drop}

-- the tokens are the first f old ones, l fresh ones, and the old ones from the j-th on
pub record Changed (old fresh new : List Token) (f l j : ℕ) : Type 0 where
  pub front_in : f ≤ length old
  pub fresh_in : l ≤ length fresh
  pub stop_in : j ≤ length old
  pub parts : new ≡ take f old ++ (take l fresh ++ drop j old)

pub changed-length : (old fresh new : List Token) (f l j : ℕ) → Changed old fresh new f l j → length new ≡ f + l + (length old - j)
changed-length old fresh new f l j c =
    let a = length-take-le f old c.front_in in
    let b = length-take-le l fresh c.fresh_in in
    let s = ap length c.parts in
    omega (arith, length-append (take f old) (take l fresh ++ drop j old), length-append (take l fresh) (drop j old), length-drop j old)

changed_front : (old fresh new : List Token) (f l j : ℕ) → Changed old fresh new f l j → take f old ≡ take f new
changed_front old fresh new f l j c =
    sym (ap (λ z. take f z) c.parts ∙ take_at (take f old) (take l fresh ++ drop j old) f (length-take-le f old c.front_in))

changed_back : (old fresh new : List Token) (f l j k : ℕ) → Changed old fresh new f l j → j ≤ k → drop k old ≡ drop (f + l + (k - j)) new
changed_back old fresh new f l j k c past =
    let a = length-take-le f old c.front_in in
    let b = length-take-le l fresh c.fresh_in in
    let whole : new ≡ (take f old ++ take l fresh) ++ drop j old = c.parts ∙ sym (append_assoc (take f old) (take l fresh) (drop j old)) in
    let len : length (take f old ++ take l fresh) ≡ f + l = omega (arith, length-append (take f old) (take l fresh)) in
    let rest : drop (f + l) new ≡ drop j old = ap (λ z. drop (f + l) z) whole ∙ drop_at (take f old ++ take l fresh) (drop j old) (f + l) len in
    let e : j + (k - j) ≡ k = omega arith in
    sym (sym (drop-drop (k - j) (f + l) new) ∙ ap (λ z. drop (k - j) z) rest ∙ drop-drop (k - j) j old ∙ ap (λ n. drop n old) e)

-- the bytes of a text's tokens
pub tokens-fit : (text : List ℕ) (tokens : List Token) → IsUtf8 text → tokens ≡ token_list (chars text) → length text < 2 ^ 64 → taken (length tokens) tokens < 2 ^ 64
tokens-fit text tokens u are fits =
    let all = ap (λ z. sum_by (λ (t : Token). t.len) z) (take_all (length tokens) tokens (omega arith) ∙ are) in
    let whole = lengths-sum (chars text) in
    let bytes = size-chars text u in
    omega arith

-- the bytes of the new tokens
pub changed-fits : (old new : List Token) (text : List ℕ) (f l j most : ℕ) → IsUtf8 text → Changed old (token_list (chars text)) new f l j → Meets old (token_list (chars text)) f most l j → taken f old + length text < 2 ^ 64 → taken (length new) new < 2 ^ 64
changed-fits old new text f l j most u c m fits =
    let fresh = token_list (chars text) in
    let len : Token → ℕ = λ t. t.len in
    let all = ap (λ z. sum_by (λ (t : Token). t.len) z) (take_all (length new) new (omega arith) ∙ c.parts) in
    let a = sum_by-append (λ (t : Token). t.len) (take f old) (take l fresh ++ drop j old) in
    let b = sum_by-append (λ (t : Token). t.len) (take l fresh) (drop j old) in
    let s = sum_by-take-drop (λ (t : Token). t.len) fresh l in
    let same : left l fresh ≡ left j old = m.same in
    let whole = lengths-sum (chars text) in
    let bytes = size-chars text u in
    omega arith

-- the runs before the first one that changes
pub runs-before : (old fresh new : List Token) (f l j p : ℕ) (runs : List Run) → Changed old fresh new f l j → RunsFrom 0 0 runs old → p ≤ length runs → run_tokens p runs ≤ f → RunsFrom 0 0 (take p runs) new
runs-before old fresh new f l j p runs c r within low =
    let n = changed-length old fresh new f l j c in
    let all : take (length (take p runs)) (take p runs) ≡ take p runs = take_all (length (take p runs)) (take p runs) (omega arith) in
    let t = ap (λ z. sum_by (λ (x : Run). x.tokens) z) all in
    runs-front f (take p runs) old new (runs-take 0 0 p runs old r) (omega arith) (omega arith) (changed_front old fresh new f l j c)

-- the runs after the last one that changes
pub record Later (runs : List Run) (new : List Token) (f q to : ℕ) : Type 0 where
  pub onward : f ≤ to
  pub ends : to ≤ length new
  pub back : RunsFrom to (taken to new) (drop q runs) new

pub runs-after : (old fresh new : List Token) (f l j q count to : ℕ) (runs : List Run) → Changed old fresh new f l j → RunsFrom 0 0 runs old → q ≤ length runs → count ≡ run_tokens q runs → (q < length runs → j ≤ count) → ((q < length runs) × (to ≡ f + l + (count - j))) ⊎ ((length runs ≤ q) × (to ≡ length new)) → Later runs new f q to
runs-after old fresh new f l j q count to runs c r within is past where_to =
    let n = changed-length old fresh new f l j c in
    let at = r q within in
    let low : 0 + run_tokens q runs ≤ length old = at.0 in
    elim where_to [
      | inl some ↦
          let far : j ≤ count = past some.0 in
          let is_to : to ≡ f + l + (count - j) = some.1 in
          let e : drop (run_tokens q runs) old ≡ drop to new =
          ap (λ m. drop m old) (sym is) ∙ changed_back old fresh new f l j count c far ∙ ap (λ m. drop m new) (sym is_to) in
          let inside : to ≤ length new = let s : j ≤ length old = c.stop_in in omega arith in
          record {
            onward = omega arith;
            ends = inside;
            back = runs-back (run_tokens q runs) to (run_bytes q runs) (drop q runs) old new (runs-drop q runs old within r) (omega arith) inside e;
          }
      | inr none ↦
          let is_to : to ≡ length new = none.1 in
          record {
            onward = omega arith;
            ends = omega arith;
            back = runs-none to (taken to new) (drop q runs) new (drop_all q runs none.0) (omega arith) refl;
          }
    ]

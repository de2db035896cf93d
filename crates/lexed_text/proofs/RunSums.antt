-- Runs of tokens: a run more, parts of them, and other tokens after or before them.
use Rattle.std.proofs.Common.{◌≡◌, ℕ, zero, suc, ◌+◌, ◌-◌, ◌^◌, ◌<◌, ◌≤◌, inl, inr, List, [], ◌∷◌, ◌++◌, length, take, drop, refl, sym, ◌∙◌, ap, subst, arith, length-append, length-drop}
use Rattle.std.proofs.lemmas.List.{take_all, take-take, take-append-le, length-take, drop_at}
use Rattle.std.proofs.lemmas.List.Sums.{sum_by-append, sum_by-cons, sum_by_push}
use Rattle.std.proofs.Math.Seq.{take-add}
use Rattle.std.specs.List.{sum_by}
use Rattle.rustc_lexer.specs.declared.token.Token.{Token}
use Rattle.rustc_lexer.proofs.Agree.{lt_or_ge}
use Rattle.lexed_text.specs.declared.runs.Run.{Run}
use Rattle.lexed_text.specs.Inside.{taken}
use Rattle.lexed_text.specs.Runs.{run_tokens, run_bytes, RunsFrom}
use Rattle.lexed_text.proofs.Sums.{taken-mono}

-- a sum over the first m and n more
pub sum-more : {X : Type 0} (f : X → ℕ) (xs : List X) (m n : ℕ) → sum_by f (take (m + n) xs) ≡ sum_by f (take m xs) + sum_by f (take n (drop m xs))
sum-more f xs m n = ap (λ z. sum_by f z) (take-add m n xs) ∙ sum_by-append f (take m xs) (take n (drop m xs))

-- no runs
pub runs-none : (k start : ℕ) (runs : List Run) (tokens : List Token) → runs ≡ [] → k ≤ length tokens → start ≡ taken k tokens → RunsFrom k start runs tokens
runs-none k start runs tokens none within is = λ i w.
    let a : run_tokens i runs ≡ 0 = ap (λ z. sum_by (λ (r : Run). r.tokens) (take i z)) none ∙ ap (λ z. sum_by (λ (r : Run). r.tokens) z) (take_all i [] (omega arith)) in
    let b : run_bytes i runs ≡ 0 = ap (λ z. sum_by (λ (r : Run). r.bytes) (take i z)) none ∙ ap (λ z. sum_by (λ (r : Run). r.bytes) z) (take_all i [] (omega arith)) in
    let at = ap (λ n. taken (k + n) tokens) a in
    let same : k + 0 ≡ k = omega arith in
    let at2 = ap (λ n. taken n tokens) same in
    (omega arith, omega arith)

-- runs after runs
pub runs-append : (k start : ℕ) (xs ys : List Run) (tokens : List Token) → RunsFrom k start xs tokens → RunsFrom (k + run_tokens (length xs) xs) (start + run_bytes (length xs) xs) ys tokens → RunsFrom k start (xs ++ ys) tokens
runs-append k start xs ys tokens f g = λ i w.
    elim (lt_or_ge (length xs) i) [
      | inl past ↦
          let n = i - length xs in
          let e : length xs + n ≡ i = omega arith in
          let len = length-append xs ys in
          let front : take (length xs) (xs ++ ys) ≡ xs = take-append-le (length xs) xs ys (omega arith) ∙ take_all (length xs) xs (omega arith) in
          let back : drop (length xs) (xs ++ ys) ≡ ys = drop_at xs ys (length xs) refl in
          let all : take (length xs) xs ≡ xs = take_all (length xs) xs (omega arith) in
          let t = ap (λ m. run_tokens m (xs ++ ys)) (sym e) ∙ sum-more (λ (r : Run). r.tokens) (xs ++ ys) (length xs) n in
          let t1 = ap (λ z. sum_by (λ (r : Run). r.tokens) z) (front ∙ sym all) in
          let t2 = ap (λ z. sum_by (λ (r : Run). r.tokens) (take n z)) back in
          let b = ap (λ m. run_bytes m (xs ++ ys)) (sym e) ∙ sum-more (λ (r : Run). r.bytes) (xs ++ ys) (length xs) n in
          let b1 = ap (λ z. sum_by (λ (r : Run). r.bytes) z) (front ∙ sym all) in
          let b2 = ap (λ z. sum_by (λ (r : Run). r.bytes) (take n z)) back in
          let h = g n (omega arith) in
          let same : k + run_tokens (length xs) xs + run_tokens n ys ≡ k + run_tokens i (xs ++ ys) = omega arith in
          let at = ap (λ m. taken m tokens) same in
          let h0 : k + run_tokens (length xs) xs + run_tokens n ys ≤ length tokens = h.0 in
          let h1 : start + run_bytes (length xs) xs + run_bytes n ys ≡ taken (k + run_tokens (length xs) xs + run_tokens n ys) tokens = h.1 in
          (omega arith, omega arith)
      | inr in_front ↦
          let same : take i (xs ++ ys) ≡ take i xs = take-append-le i xs ys in_front in
          let t = ap (λ z. sum_by (λ (r : Run). r.tokens) z) same in
          let b = ap (λ z. sum_by (λ (r : Run). r.bytes) z) same in
          let h = f i in_front in
          let at = ap (λ n. taken (k + n) tokens) t in
          let h0 : k + run_tokens i xs ≤ length tokens = h.0 in
          let h1 : start + run_bytes i xs ≡ taken (k + run_tokens i xs) tokens = h.1 in
          (omega arith, omega arith)
    ]

-- the first runs
pub runs-take : (k start n : ℕ) (runs : List Run) (tokens : List Token) → RunsFrom k start runs tokens → RunsFrom k start (take n runs) tokens
runs-take k start n runs tokens f = λ i w.
    let len = length-take n runs in
    let low : i ≤ n = omega arith in
    let same : take i (take n runs) ≡ take i runs = take-take i n runs low in
    let t = ap (λ z. sum_by (λ (r : Run). r.tokens) z) same in
    let b = ap (λ z. sum_by (λ (r : Run). r.bytes) z) same in
    let at = ap (λ n. taken (k + n) tokens) t in
    let h = f i (omega arith) in
    let h0 : k + run_tokens i runs ≤ length tokens = h.0 in
    let h1 : start + run_bytes i runs ≡ taken (k + run_tokens i runs) tokens = h.1 in
    (omega arith, omega arith)

-- the tokens of more runs are more
pub runs-mono : (runs : List Run) (i j : ℕ) → i ≤ j → run_tokens i runs ≤ run_tokens j runs
runs-mono runs i j h =
    let e : i + (j - i) ≡ j = omega arith in
    let s = ap (λ n. run_tokens n runs) (sym e) ∙ sum-more (λ (r : Run). r.tokens) runs i (j - i) in
    omega arith

-- runs whose tokens all stand within the first f, where these are the same in another list
pub runs-front : (f : ℕ) (runs : List Run) (old new : List Token) → RunsFrom 0 0 runs old → run_tokens (length runs) runs ≤ f → f ≤ length new → take f old ≡ take f new → RunsFrom 0 0 runs new
runs-front f runs old new r low within same = λ i w.
    let m = runs-mono runs i (length runs) w in
    let n = 0 + run_tokens i runs in
    let e : take n old ≡ take n new = sym (take-take n f old (omega arith)) ∙ ap (λ z. take n z) same ∙ take-take n f new (omega arith) in
    let t = ap (λ z. sum_by (λ (x : Token). x.len) z) e in
    let h1 : 0 + run_bytes i runs ≡ taken (0 + run_tokens i runs) old = (r i w).1 in
    (omega arith, h1 ∙ t)

-- runs after a place, from which another list goes on alike
pub runs-back : (k n start : ℕ) (runs : List Run) (old new : List Token) → RunsFrom k start runs old → k ≤ length old → n ≤ length new → drop k old ≡ drop n new → RunsFrom n (taken n new) runs new
runs-back k n start runs old new r wk wn same = λ i w.
    let x = run_tokens i runs in
    let len = ap length same in
    let h0 : k + x ≤ length old = (r i w).0 in
    let h1 : start + run_bytes i runs ≡ taken (k + x) old = (r i w).1 in
    let z1 : start + run_bytes 0 runs ≡ taken (k + run_tokens 0 runs) old = (r 0 (omega arith)).1 in
    let z : k + run_tokens 0 runs ≡ k = omega arith in
    let s = ap (λ m. taken m old) z in
    let o = sum-more (λ (t : Token). t.len) old k x in
    let p = sum-more (λ (t : Token). t.len) new n x in
    let q = ap (λ l. sum_by (λ (t : Token). t.len) (take x l)) same in
    (omega (arith, length-drop k old, length-drop n new), omega arith)

-- the later runs
pub runs-drop : (n : ℕ) (runs : List Run) (tokens : List Token) → n ≤ length runs → RunsFrom 0 0 runs tokens → RunsFrom (run_tokens n runs) (run_bytes n runs) (drop n runs) tokens
runs-drop n runs tokens within r = λ i w.
    let t = sum-more (λ (x : Run). x.tokens) runs n i in
    let b = sum-more (λ (x : Run). x.bytes) runs n i in
    let len = length-drop n runs in
    let h = r (n + i) (omega arith) in
    let h0 : 0 + run_tokens (n + i) runs ≤ length tokens = h.0 in
    let h1 : 0 + run_bytes (n + i) runs ≡ taken (0 + run_tokens (n + i) runs) tokens = h.1 in
    let e : 0 + run_tokens (n + i) runs ≡ run_tokens n runs + run_tokens i (drop n runs) = omega arith in
    let at = ap (λ m. taken m tokens) e in
    (omega arith, omega arith)

-- one run
pub runs-one : (k start : ℕ) (r : Run) (tokens : List Token) → start ≡ taken k tokens → k + r.tokens ≤ length tokens → r.bytes ≡ sum_by (λ t. t.len) (take r.tokens (drop k tokens)) → RunsFrom k start (r ∷ []) tokens
runs-one k start r tokens is within bytes zero w =
    let e : k + 0 ≡ k = omega arith in
    let at = ap (λ n. taken n tokens) e in
    (omega arith, omega arith)
runs-one k start r tokens is within bytes (suc zero) w =
    let t = sum_by-cons (λ (x : Run). x.tokens) r [] in
    let b = sum_by-cons (λ (x : Run). x.bytes) r [] in
    let s = sum-more (λ (x : Token). x.len) tokens k r.tokens in
    let t1 : run_tokens 1 (r ∷ []) ≡ r.tokens = omega arith in
    let at = ap (λ n. taken (k + n) tokens) t1 in
    (omega arith, omega arith)
runs-one k start r tokens is within bytes (suc (suc i)) w = absurd (omega arith)

all_tokens : (runs more : List Run) (r : Run) → more ≡ runs ++ r ∷ [] → run_tokens (length more) more ≡ run_tokens (length runs) runs + r.tokens
all_tokens runs more r is =
    ap (λ z. sum_by (λ (x : Run). x.tokens) z) (take_all (length more) more (omega arith) ∙ is) ∙ sum_by_push (λ (x : Run). x.tokens) runs r
    ∙ ap (λ z. sum_by (λ (x : Run). x.tokens) z + r.tokens) (sym (take_all (length runs) runs (omega arith)))

-- a run more
pub runs-push : (from at end : ℕ) (runs more : List Run) (r : Run) (tokens : List Token) → RunsFrom from (taken from tokens) runs tokens → from + run_tokens (length runs) runs ≡ at → at ≤ end → end ≤ length tokens → r.tokens ≡ end - at → r.bytes ≡ sum_by (λ t. t.len) (take (end - at) (drop at tokens)) → more ≡ runs ++ r ∷ [] → RunsFrom from (taken from tokens) more tokens × (from + run_tokens (length more) more ≡ end)
runs-push from at end runs more r tokens f count order within len bytes is =
    let h = f (length runs) (omega arith) in
    let h1 : taken from tokens + run_bytes (length runs) runs ≡ taken (from + run_tokens (length runs) runs) tokens = h.1 in
    let n : from + run_tokens (length runs) runs + r.tokens ≤ length tokens = omega arith in
    let size : r.bytes ≡ sum_by (λ t. t.len) (take r.tokens (drop (from + run_tokens (length runs) runs) tokens)) =
    bytes ∙ ap (λ k. sum_by (λ (t : Token). t.len) (take k (drop at tokens))) (sym len) ∙ ap (λ k. sum_by (λ (t : Token). t.len) (take r.tokens (drop k tokens))) (sym count) in
    let one = runs-one (from + run_tokens (length runs) runs) (taken from tokens + run_bytes (length runs) runs) r tokens h1 n size in
    let all = all_tokens runs more r is in
    (subst (λ (z : List Run). RunsFrom from (taken from tokens) z tokens) (sym is) (runs-append from (taken from tokens) runs (r ∷ []) tokens f one), omega arith)

-- the bytes of some tokens are no more than those of all
pub part-fits : (tokens : List Token) (at end : ℕ) → at ≤ end → end ≤ length tokens → taken (length tokens) tokens < 2 ^ 64 → sum_by (λ t. t.len) (take (end - at) (drop at tokens)) < 2 ^ 64
part-fits tokens at end order within fits =
    let s = sum-more (λ (t : Token). t.len) tokens at (end - at) in
    let e : at + (end - at) ≡ end = omega arith in
    let at_end = ap (λ n. taken n tokens) e in
    let m = taken-mono tokens end (length tokens) within in
    omega arith

-- new runs between old ones
pub runs-joined : (p q a to : ℕ) (old fresh new : List Run) (tokens : List Token) → p ≤ length old → a ≡ run_tokens p old → RunsFrom 0 0 (take p old) tokens → RunsFrom a (taken a tokens) fresh tokens → a + run_tokens (length fresh) fresh ≡ to → RunsFrom to (taken to tokens) (drop q old) tokens → new ≡ take p old ++ (fresh ++ drop q old) → RunsFrom 0 0 new tokens
runs-joined p q a to old fresh new tokens within count front middle whole back is =
    let all : take (length (take p old)) (take p old) ≡ take p old = take_all (length (take p old)) (take p old) (omega arith) in
    let t : run_tokens (length (take p old)) (take p old) ≡ run_tokens p old = ap (λ z. sum_by (λ (x : Run). x.tokens) z) all in
    let h = front (length (take p old)) (omega arith) in
    let h1 : 0 + run_bytes (length (take p old)) (take p old) ≡ taken (0 + run_tokens (length (take p old)) (take p old)) tokens = h.1 in
    let m = middle (length fresh) (omega arith) in
    let m1 : taken a tokens + run_bytes (length fresh) fresh ≡ taken (a + run_tokens (length fresh) fresh) tokens = m.1 in
    let m2 = ap (λ n. taken n tokens) whole in
    let s1 : taken to tokens ≡ taken a tokens + run_bytes (length fresh) fresh = omega arith in
    let b1 = subst (λ n. RunsFrom n (taken to tokens) (drop q old) tokens) (sym whole) back in
    let b2 = subst (λ n. RunsFrom (a + run_tokens (length fresh) fresh) n (drop q old) tokens) s1 b1 in
    let later = runs-append a (taken a tokens) fresh (drop q old) tokens middle b2 in
    let a1 : a ≡ 0 + run_tokens (length (take p old)) (take p old) = omega arith in
    let x : taken a tokens ≡ 0 + run_bytes (length (take p old)) (take p old) = ap (λ n. taken n tokens) a1 ∙ sym h1 in
    let c1 = subst (λ n. RunsFrom n (taken a tokens) (fresh ++ drop q old) tokens) a1 later in
    let c2 = subst (λ n. RunsFrom (0 + run_tokens (length (take p old)) (take p old)) n (fresh ++ drop q old) tokens) x c1 in
    subst (λ (z : List Run). RunsFrom 0 0 z tokens) (sym is) (runs-append 0 0 (take p old) (fresh ++ drop q old) tokens front c2)

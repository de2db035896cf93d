-- An edit has one triple of counts.
use Rattle.std.proofs.Common.{◌≡◌, ℕ, zero, suc, ◌+◌, ◌≤◌, inl, inr, length, sym, ◌∙◌, ap, arith}
use Rattle.rustc_lexer.specs.Tokens.{tokens}
use Rattle.rustc_lexer.proofs.Agree.{lt_or_ge}
use Rattle.lexed_text.specs.declared.kept.Kept.{Kept}
use Rattle.lexed_text.specs.Edit.{Edit, old_text, new_text}
use Rattle.lexed_text.specs.Kept.{end_of, IsFront, IsShared, IsKept}
use Rattle.lexed_text.proofs.Ends.{end-one}

front_low : (e : Edit) (k n : ℕ) → IsFront e k → IsFront e n → n ≤ k
front_low e k zero f g = omega arith
front_low e k (suc n) f g =
    let two = (g.just (suc n) (omega arith) g.within).0 (omega arith) in
    (f.just (suc n) (omega arith) g.within).1 two

front-one : (e : Edit) (k n : ℕ) → IsFront e k → IsFront e n → k ≡ n
front-one e k n f g = let a = front_low e k n f g in let b = front_low e n k g f in omega arith

-- the first shared boundary of one is no later than that of the other
lexed_low : (e : Edit) (one other : Kept) → IsKept e one → IsKept e other → one.front ≡ other.front → one.lexed ≤ other.lexed
lexed_low e one other a b same =
    elim (lt_or_ge other.lexed one.lexed) [
      | inl less ↦
          let s : IsShared e (other.front + other.lexed) b.stop.0 = b.stop.2 in
          absurd (a.first (other.front + other.lexed) b.stop.0 (omega arith) (omega arith) s)
      | inr more ↦ more
    ]

-- a boundary of the new text is one of the old one
stop-one : (e : Edit) (k n i j : ℕ) → k ≡ n → IsShared e k i → IsShared e n j → i ≡ j
stop-one e k n i j same s t =
    let at = ap (λ x. end_of x (new_text e)) same in
    let a : end_of k (new_text e) + length e.removed ≡ end_of i (old_text e) + length e.put = s.shifted in
    let b : end_of n (new_text e) + length e.removed ≡ end_of j (old_text e) + length e.put = t.shifted in
    end-one i j (old_text e) s.within_old t.within_old (omega arith)

abbrev counts : ℕ → ℕ → ℕ → Kept
counts f l b = record { front = f; lexed = l; back = b }

same_counts : (f g l m b c : ℕ) → f ≡ g → l ≡ m → b ≡ c → counts f l b ≡ counts g m c
same_counts f g l m b c x y z = ap (λ n. counts n l b) x ∙ ap (λ n. counts g n b) y ∙ ap (λ n. counts g m n) z

pub kept-one : (e : Edit) (one other : Kept) → IsKept e one → IsKept e other → one ≡ other
kept-one e one other a b =
    let f = front-one e one.front other.front a.front b.front in
    let x = lexed_low e one other a b f in
    let y = lexed_low e other one b a (sym f) in
    let l : one.lexed ≡ other.lexed = omega arith in
    let at : one.front + one.lexed ≡ other.front + other.lexed = omega arith in
    let s = stop-one e (one.front + one.lexed) (other.front + other.lexed) a.stop.0 b.stop.0 at a.stop.2 b.stop.2 in
    let pa : a.stop.0 + one.back ≡ length (tokens (old_text e)) = a.stop.1 in
    let pb : b.stop.0 + other.back ≡ length (tokens (old_text e)) = b.stop.1 in
    let z : one.back ≡ other.back = omega arith in
    same_counts one.front other.front one.lexed other.lexed one.back other.back f l z

-- The front: how code finds it, and that it stays.
use Rattle.std.proofs.Common.{◌≡◌, ℕ, zero, suc, ◌-◌, ◌<◌, ◌≤◌, inl, inr, ◌++◌, length, take, refl, sym, ◌∙◌, ap, arith, length-append}
use Rattle.std.proofs.lemmas.List.{length-take-le, length-take, take_at, take-append-le}
use Rattle.rustc_lexer.specs.Characters.{size}
use Rattle.rustc_lexer.specs.Tokens.{tokens, joined, token_list}
use Rattle.rustc_lexer.proofs.Agree.{lt_or_ge}
use Rattle.rustc_lexer.proofs.Cutting.{front-kept}
use Rattle.lexed_text.specs.Edit.{Edit, old_text, new_text}
use Rattle.lexed_text.specs.Kept.{end_of, IsFront}
use Rattle.lexed_text.specs.Inside.{taken, EndsWithin}
use Rattle.lexed_text.proofs.Ends.{end-mono, end-within, size-less, size-mono, taken-size, list-length}

-- the first characters of the old text, before the edit
first-same : (p : ℕ) (e : Edit) → p ≤ length e.before → take p e.before ≡ take p (old_text e)
first-same p e h = sym (take-append-le p e.before (e.removed ++ e.after) h)

-- the tokens that end within the bytes of all but two characters before the edit are the front
pub front-found : (e : Edit) (limit k end : ℕ) → 2 ≤ length e.before → limit ≡ size (take (length e.before - 2) e.before) → EndsWithin (token_list (old_text e)) limit k end → IsFront e k
front-found e limit k end two is ends =
    let old = old_text e in
    let b = length e.before in
    let all : b ≤ length old = omega (arith, length-append e.before (e.removed ++ e.after)) in
    let lim : limit ≡ size (take (b - 2) old) = is ∙ ap size (first-same (b - 2) e (omega arith)) in
    let n = list-length old in
    let low : end ≤ limit = ends.low in
    let at : end ≡ size (take (end_of k old) old) = ends.is_end ∙ taken-size k old in
    let inside : k ≤ length (tokens old) = let w : k ≤ length (token_list old) = ends.within in omega arith in
    record {
      within = inside;
      just = λ i pos w. (
        (λ h. elim (lt_or_ge (b - 2) (end_of i old)) [
          | inl far ↦
              let m = end-mono i k old h inside in
              let l = size-less (b - 2) (end_of k old) old (omega arith) (end-within k old) in
              absurd (omega arith)
          | inr near ↦ omega arith
        ]),
        (λ h. elim (lt_or_ge k i) [
          | inl far ↦
              let past : limit < taken i (token_list old) = ends.high i far (omega arith) in
              let ti = taken-size i old in
              let m = size-mono (end_of i old) (b - 2) old (omega arith) (omega arith) in
              absurd (omega arith)
          | inr near ↦ near
        ]),
      );
    }

-- an edit after fewer than two characters has no front
pub front-none : (e : Edit) → length e.before < 2 → IsFront e 0
front-none e few = record {
  within = omega arith;
  just = λ i pos w. ((λ h. absurd (omega arith)), (λ h. absurd (omega arith)));
}

-- texts agree up to the edit
agree : (e : Edit) → take (length e.before) (old_text e) ≡ take (length e.before) (new_text e)
agree e = take_at e.before (e.removed ++ e.after) (length e.before) refl ∙ sym (take_at e.before (e.put ++ e.after) (length e.before) refl)

-- the front tokens are those of the new text
pub front-tokens : (e : Edit) (k : ℕ) → IsFront e k → take k (tokens (new_text e)) ≡ take k (tokens (old_text e))
front-tokens e zero f = refl
front-tokens e (suc k) f =
    sym (front-kept (suc k) (length e.before) (old_text e) (new_text e) (agree e) ((f.just (suc k) (omega arith) f.within).0 (omega arith)))

-- and end there
pub front-end : (e : Edit) (k : ℕ) → IsFront e k → end_of k (new_text e) ≡ end_of k (old_text e)
front-end e k f = ap (λ z. length (joined z)) (front-tokens e k f)

pub front-within : (e : Edit) (k : ℕ) → IsFront e k → k ≤ length (tokens (new_text e))
front-within e k f =
    let same = ap length (front-tokens e k f) in
    let inside : k ≤ length (tokens (old_text e)) = f.within in
    omega (arith, length-take k (tokens (new_text e)), length-take-le k (tokens (old_text e)) inside)

-- the front ends at or before the edit
pub front-before : (e : Edit) (k : ℕ) → IsFront e k → end_of k (old_text e) ≤ length e.before
front-before e zero f = omega arith
front-before e (suc k) f = let two = (f.just (suc k) (omega arith) f.within).0 (omega arith) in omega arith

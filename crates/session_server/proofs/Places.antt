-- Messages at a place of a buffer.
use Rattle.std.proofs.Common.{◌≡◌, ◌≤◌, ◌+◌, ◌-◌, ℕ, List, length, take, drop, inl, ap, sym, subst, ◌∙◌, arith}
use Rattle.std.proofs.lemmas.List.{drop-drop, drop_all, length-drop, take_rest}
use Rattle.message_frames.specs.Headers.{IsOpenHeader}
use Rattle.message_frames.specs.Frames.{IsBroken, IsMessage, IsMessageAt, IsUnfinished}
use Rattle.message_frames.proofs.HeaderLemmas.{open-nil}

pub message-at : (bytes : List ℕ) (at start end : ℕ) → at ≤ length bytes → IsMessageAt (take (length bytes - at) (drop at bytes)) start end →
    IsMessage (drop at bytes) (take ((at + end) - (at + start)) (drop (at + start) bytes)) (drop (at + end) bytes)
message-at bytes at start end within m =
    let whole : take (length bytes - at) (drop at bytes) ≡ drop at bytes = take_rest bytes at in
    let n = subst (λ b. IsMessage b (take (end - start) (drop start b)) (drop end b)) whole m.message in
    let counts : end - start ≡ (at + end) - (at + start) = omega arith in
    let front : take (end - start) (drop start (drop at bytes)) ≡ take ((at + end) - (at + start)) (drop (at + start) bytes) =
    ap (λ k. take k (drop start (drop at bytes))) counts ∙ ap (take ((at + end) - (at + start))) (drop-drop start at bytes) in
    subst (λ b. IsMessage (drop at bytes) b (drop (at + end) bytes)) front
    (subst (λ r. IsMessage (drop at bytes) (take (end - start) (drop start (drop at bytes))) r) (drop-drop end at bytes) n)

pub end-within : (bytes : List ℕ) (at start end : ℕ) → at ≤ length bytes → IsMessageAt (take (length bytes - at) (drop at bytes)) start end → at + end ≤ length bytes
end-within bytes at start end within m =
    let whole : length (take (length bytes - at) (drop at bytes)) ≡ length bytes - at = ap length (take_rest bytes at) ∙ length-drop at bytes in
    let fits = m.whole in
    omega arith

pub broken-at : (bytes : List ℕ) (at : ℕ) → IsBroken (take (length bytes - at) (drop at bytes)) → IsBroken (drop at bytes)
broken-at bytes at is = subst (λ b. IsBroken b) (take_rest bytes at) is

-- behind the last byte
pub at-end : (bytes : List ℕ) (at : ℕ) → length bytes ≤ at → IsUnfinished (drop at bytes)
at-end bytes at past = inl (subst IsOpenHeader (sym (drop_all at bytes past)) open-nil)

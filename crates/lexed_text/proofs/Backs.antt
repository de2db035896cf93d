-- The back: how code finds it, and that it stays.
use Rattle.std.proofs.Common.{◌≡◌, ℕ, ◌+◌, ◌-◌, ◌≤◌, inl, inr, List, ◌++◌, length, take, drop, map, sym, ◌∙◌, ap, arith, length-append, length-drop}
use Rattle.std.proofs.lemmas.List.{append_assoc, drop_at, drop-drop, drop-map, take-append-drop}
use Rattle.rustc_lexer.specs.Characters.{size}
use Rattle.rustc_lexer.specs.Tokens.{Lexeme, tokens, token, token_list}
use Rattle.rustc_lexer.proofs.Agree.{lt_or_ge}
use Rattle.rustc_lexer.proofs.Cutting.{tokens-after}
use Rattle.rustc_lexer.proofs.Sizes.{size-drop}
use Rattle.lexed_text.specs.declared.kept.Kept.{Kept}
use Rattle.lexed_text.specs.Edit.{Edit, old_text, new_text}
use Rattle.lexed_text.specs.Kept.{end_of, IsFront, IsShared, IsKept}
use Rattle.lexed_text.specs.Inside.{left, Meets}
use Rattle.lexed_text.proofs.Ends.{end-less, end-within, left-one, left-size, list-length, size-left}
use Rattle.lexed_text.proofs.Fronts.{front-tokens, front-within, front-before}

-- after the edit both texts go on alike
after_at : (xs ys zs : List ℕ) → drop (length xs + length ys) (xs ++ (ys ++ zs)) ≡ zs
after_at xs ys zs =
    ap (λ z. drop (length xs + length ys) z) (sym (append_assoc xs ys zs)) ∙ drop_at (xs ++ ys) zs (length xs + length ys) (length-append xs ys)

after_more : (xs ys zs : List ℕ) (p n : ℕ) → p ≡ length xs + length ys + n → drop p (xs ++ (ys ++ zs)) ≡ drop n zs
after_more xs ys zs p n is =
    ap (λ k. drop k (xs ++ (ys ++ zs))) is ∙ sym (drop-drop n (length xs + length ys) (xs ++ (ys ++ zs))) ∙ ap (λ z. drop n z) (after_at xs ys zs)

length_parts : (xs ys zs : List ℕ) → length (xs ++ (ys ++ zs)) ≡ length xs + length ys + length zs
length_parts xs ys zs = omega (arith, length-append xs (ys ++ zs), length-append ys zs)

-- what both texts have after a shared boundary
pub record Rest (e : Edit) (k j n : ℕ) : Type 0 where
  pub new_at : end_of k (new_text e) ≡ length e.before + length e.put + n
  pub old_at : end_of j (old_text e) ≡ length e.before + length e.removed + n
  pub new_rest : drop (end_of k (new_text e)) (new_text e) ≡ drop n e.after
  pub old_rest : drop (end_of j (old_text e)) (old_text e) ≡ drop n e.after

rest-of : (e : Edit) (k j : ℕ) → IsShared e k j → Rest e k j (end_of k (new_text e) - (length e.before + length e.put))
rest-of e k j s =
    let past : length e.before + length e.put ≤ end_of k (new_text e) = s.past in
    let n = end_of k (new_text e) - (length e.before + length e.put) in
    let shift : end_of k (new_text e) + length e.removed ≡ end_of j (old_text e) + length e.put = s.shifted in
    let a : end_of k (new_text e) ≡ length e.before + length e.put + n = omega arith in
    let b : end_of j (old_text e) ≡ length e.before + length e.removed + n = omega arith in
    record {
      new_at = a;
      old_at = b;
      new_rest = after_more e.before e.put e.after (end_of k (new_text e)) n a;
      old_rest = after_more e.before e.removed e.after (end_of j (old_text e)) n b;
    }

-- from a shared boundary on both texts have the same tokens
pub shared-tokens : (e : Edit) (k j : ℕ) → IsShared e k j → drop k (tokens (new_text e)) ≡ drop j (tokens (old_text e))
shared-tokens e k j s =
    let r = rest-of e k j s in
    sym (tokens-after k (new_text e)) ∙ ap tokens (r.new_rest ∙ sym r.old_rest) ∙ tokens-after j (old_text e)

-- a shared boundary has as many bytes after it in both texts, and no more than the edit
shared-left : (e : Edit) (k j : ℕ) → IsShared e k j → (left k (token_list (new_text e)) ≤ size e.after) × (left k (token_list (new_text e)) ≡ left j (token_list (old_text e)))
shared-left e k j s =
    let r = rest-of e k j s in
    let n = end_of k (new_text e) - (length e.before + length e.put) in
    let a : left k (token_list (new_text e)) ≡ size (drop n e.after) = left-size k (new_text e) ∙ ap size r.new_rest in
    let b : left j (token_list (old_text e)) ≡ size (drop n e.after) = left-size j (old_text e) ∙ ap size r.old_rest in
    (omega (arith, size-drop n e.after), a ∙ sym b)

-- a place with no more bytes after it than the edit lies at or past the edit's end
past-edit : (xs ys zs : List ℕ) (p : ℕ) → p ≤ length (xs ++ (ys ++ zs)) → size (drop p (xs ++ (ys ++ zs))) ≤ size zs → length xs + length ys ≤ p
past-edit xs ys zs p w low =
    elim (lt_or_ge p (length xs + length ys)) [
      | inl less ↦
          let all = length_parts xs ys zs in
          let l = size-left p (length xs + length ys) (xs ++ (ys ++ zs)) less (omega arith) in
          let e = ap size (after_at xs ys zs) in
          absurd (omega arith)
      | inr more ↦ more
    ]

-- and where both texts have as many, the boundary is shared
left-shared : (e : Edit) (k j : ℕ) → k ≤ length (tokens (new_text e)) → j ≤ length (tokens (old_text e)) → left k (token_list (new_text e)) ≤ size e.after → left k (token_list (new_text e)) ≡ left j (token_list (old_text e)) → IsShared e k j
left-shared e k j wk wj low same =
    let p = end_of k (new_text e) in
    let q = end_of j (old_text e) in
    let lp : left k (token_list (new_text e)) ≡ size (drop p (new_text e)) = left-size k (new_text e) in
    let lq : left j (token_list (old_text e)) ≡ size (drop q (old_text e)) = left-size j (old_text e) in
    let fp = past-edit e.before e.put e.after p (end-within k (new_text e)) (omega arith) in
    let fq = past-edit e.before e.removed e.after q (end-within j (old_text e)) (omega arith) in
    let x = p - (length e.before + length e.put) in
    let y = q - (length e.before + length e.removed) in
    let ep : p ≡ length e.before + length e.put + x = omega arith in
    let eq : q ≡ length e.before + length e.removed + y = omega arith in
    let rp = ap size (after_more e.before e.put e.after p x ep) in
    let rq = ap size (after_more e.before e.removed e.after q y eq) in
    let np = length_parts e.before e.put e.after in
    let nq = length_parts e.before e.removed e.after in
    let ip = end-within k (new_text e) in
    let iq = end-within j (old_text e) in
    let one : x ≡ y = left-one x y e.after (omega arith) (omega arith) (sym rp ∙ sym lp ∙ same ∙ lq ∙ rq) in
    record {
      within_new = wk;
      within_old = wj;
      past = fp;
      shifted = omega arith;
    }

-- the tokens of the text after the front
pub list-after : (k : ℕ) (text : List ℕ) → token_list (drop (end_of k text) text) ≡ drop k (token_list text)
unfolding token_list
list-after k text = ap (λ z. map token z) (tokens-after k text) ∙ sym (drop-map token k (tokens text))

left-after : (f i : ℕ) (text : List ℕ) → left i (token_list (drop (end_of f text) text)) ≡ left (f + i) (token_list text)
left-after f i text = ap (λ z. left i z) (list-after f text) ∙ ap (λ z. left 0 z) (drop-drop i f (token_list text))

-- where the lexing after the front meets the old tokens, the counts are those of the definition
pub kept-found : (e : Edit) (front lexed stop back : ℕ) → IsFront e front → stop + back ≡ length (tokens (old_text e)) → Meets (token_list (old_text e)) (token_list (drop (end_of front (new_text e)) (new_text e))) front (size e.after) lexed stop → IsKept e (record { front = front; lexed = lexed; back = back })
kept-found e front lexed stop back f parts m =
    let new = new_text e in
    let old = old_text e in
    let f_in = front-within e front f in
    let n_new = list-length new in
    let n_old = list-length old in
    let rest = ap length (list-after front new) ∙ length-drop front (token_list new) in
    let in_new : lexed ≤ length (token_list (drop (end_of front new) new)) = m.within_new in
    let in_old : stop ≤ length (token_list old) = m.within_old in
    let at = left-after front lexed new in
    let low : left lexed (token_list (drop (end_of front new) new)) ≤ size e.after = m.low in
    record {
      front = f;
      stop = (stop, parts, left-shared e (front + lexed) stop (omega arith) (omega arith) (omega arith) (sym at ∙ m.same));
      first = λ k j from upto s.
          let shared = shared-left e k j s in
          let there : front + (k - front) ≡ k = omega arith in
          let at_k : left (k - front) (token_list (drop (end_of front new) new)) ≡ left k (token_list new) = left-after front (k - front) new ∙ ap (λ n. left n (token_list new)) there in
          let low_k : left k (token_list new) ≤ size e.after = shared.0 in
          let j_in : j ≤ length (tokens old) = s.within_old in
          let f_old : front ≤ length (tokens old) = f.within in
          let onward : front ≤ j = elim (lt_or_ge j front) [
            | inl less ↦
                let l = end-less j front old less f_old in
                let b = front-before e front f in
                let o : end_of j old ≡ length e.before + length e.removed + (end_of k new - (length e.before + length e.put)) = (rest-of e k j s).old_at in
                absurd (omega arith)
            | inr more ↦ more
          ] in
          m.first (k - front) j (omega arith) onward (omega arith) (omega arith) (at_k ∙ shared.1);
    }

-- the shared boundary at which the back begins
pub back-tokens : (e : Edit) (kept : Kept) → IsKept e kept → (j : ℕ) × (j + kept.back ≡ length (tokens (old_text e))) × (drop (kept.front + kept.lexed) (tokens (new_text e)) ≡ drop j (tokens (old_text e)))
back-tokens e kept k = (k.stop.0, k.stop.1, shared-tokens e (kept.front + kept.lexed) k.stop.0 k.stop.2)

pub counts-sum : (e : Edit) (kept : Kept) → IsKept e kept → kept.front + kept.lexed + kept.back ≡ length (tokens (new_text e))
counts-sum e kept k =
    let s : IsShared e (kept.front + kept.lexed) k.stop.0 = k.stop.2 in
    let w : kept.front + kept.lexed ≤ length (tokens (new_text e)) = s.within_new in
    let parts : k.stop.0 + kept.back ≡ length (tokens (old_text e)) = k.stop.1 in
    let same = ap length (shared-tokens e (kept.front + kept.lexed) k.stop.0 s) in
    omega (arith, length-drop (kept.front + kept.lexed) (tokens (new_text e)), length-drop k.stop.0 (tokens (old_text e)))

-- the front, the lexed tokens and the back make the new text's tokens
pub kept-list : (e : Edit) (kept : Kept) (stop : ℕ) (fresh : List Lexeme) → IsFront e kept.front → IsShared e (kept.front + kept.lexed) stop → fresh ≡ take kept.lexed (drop kept.front (tokens (new_text e))) → take kept.front (tokens (old_text e)) ++ (fresh ++ drop stop (tokens (old_text e))) ≡ tokens (new_text e)
kept-list e kept stop fresh f s is =
    let new = tokens (new_text e) in
    let old = tokens (old_text e) in
    ap (λ z. z ++ (fresh ++ drop stop old)) (sym (front-tokens e kept.front f))
    ∙ ap (λ z. take kept.front new ++ (z ++ drop stop old)) is
    ∙ ap (λ z. take kept.front new ++ (take kept.lexed (drop kept.front new) ++ z)) (sym (shared-tokens e (kept.front + kept.lexed) stop s) ∙ sym (drop-drop kept.lexed kept.front new))
    ∙ ap (λ z. take kept.front new ++ z) (take-append-drop kept.lexed (drop kept.front new))
    ∙ take-append-drop kept.front new

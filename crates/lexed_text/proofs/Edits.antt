-- An edit in code: where the front ends, and what the tokens are after it.
use Rattle.std.proofs.Common.{◌≡◌, ℕ, ◌+◌, ◌-◌, ◌≤◌, inl, inr, List, ◌++◌, length, take, drop, map, refl, sym, ◌∙◌, ap, subst, arith, length-append}
use Rattle.std.proofs.lemmas.List.{append_assoc, length-take-le, take-map, drop-map, map-append}
use Rattle.std.proofs.lemmas.Str.{IsUtf8-drop, IsUtf8-append, IsCharBoundary-at_seam}
use Rattle.std.specs.Str.{chars, IsUtf8, IsCharBoundary}
use Rattle.std.specs.List.{sum_by, slice_range}
use Rattle.std.specs.Prelude.{Result, Ok, Err, OnOk, OnErr}
use Rattle.rustc_lexer.specs.Characters.{size}
use Rattle.rustc_lexer.specs.Tokens.{Lexeme, tokens, token, token_list}
use Rattle.rustc_lexer.specs.declared.token.Token.{Token}
use Rattle.rustc_lexer.proofs.Seams.{Seam}
use Rattle.rustc_lexer.proofs.Sizes.{size-chars}
use Rattle.lexed_text.specs.declared.kept.Kept.{Kept}
use Rattle.lexed_text.specs.Edit.{CanEdit, Edit, old_text, new_text, edited, edit_of}
use Rattle.lexed_text.specs.Kept.{end_of, IsFront, IsShared, IsKept}
use Rattle.lexed_text.specs.Inside.{taken, left, FrontFound, Meets, Renewed}
use Rattle.lexed_text.proofs.Ends.{taken-size, list-length, taken-left}
use Rattle.lexed_text.proofs.Fronts.{front-found, front-none, front-tokens}
use Rattle.lexed_text.proofs.Backs.{kept-found, kept-list, list-after}
use Rattle.lexed_text.proofs.Texts.{place, old-chars, new-chars, put-back, size-after}

-- the first `k` tokens are the front, and have `bytes` bytes
pub record FrontAt (text : List ℕ) (start end : ℕ) (put : List ℕ) (k bytes : ℕ) : Type 0 where
  pub front : IsFront (edit_of text start end put) k
  pub is_taken : bytes ≡ taken k (token_list (chars text))

pub front-at : (text : List ℕ) (start end : ℕ) (put : List ℕ) (tokens : List Token) (before : List ℕ) (k bytes : ℕ) → IsUtf8 text → CanEdit text start end (length put) → tokens ≡ token_list (chars text) → before ≡ take start text → FrontFound tokens (chars before) k bytes → FrontAt text start end put k bytes
front-at text start end put tokens before k bytes u can is cut found =
    let e = edit_of text start end put in
    let whole = old-chars text start end (length put) put u can in
    let list : tokens ≡ token_list (old_text e) = is ∙ ap token_list (sym whole) in
    let at : FrontFound (token_list (old_text e)) e.before k bytes =
    subst (λ (z : List Token). FrontFound z e.before k bytes) list (subst (λ (z : List ℕ). FrontFound tokens (chars z) k bytes) cut found) in
    elim at [
      | inl few ↦ record {
        front = subst (λ n. IsFront e n) (sym few.1) (front-none e few.0);
        is_taken = few.2 ∙ sym (ap (λ n. taken n (token_list (chars text))) few.1);
      }
      | inr two ↦ record {
        front = front-found e (size (take (length e.before - 2) e.before)) k bytes two.0 refl two.1;
        is_taken = two.1.is_end ∙ ap (λ z. taken k (token_list z)) whole;
      }
    ]

-- what is known before the text changes: it can be edited, `held` has its bytes, and `tokens` are its tokens; its front
pub record Begun (text : List ℕ) (start end : ℕ) (put held : List ℕ) (tokens : List Token) (k bytes : ℕ) : Type 0 where
  pub is_text : IsUtf8 text
  pub can : CanEdit text start end (length put)
  pub same : held ≡ text
  pub list : tokens ≡ token_list (chars text)
  pub front : FrontAt text start end put k bytes

-- `find_front` finds the front of an edit in what a `LexedText` has of its text
pub begun : (text : List ℕ) (start end : ℕ) (put : List ℕ) {mine held before : List ℕ} {tokens shown : List Token} {k bytes : ℕ} → mine ≡ text → IsUtf8 mine → CanEdit text start end (length put) → tokens ≡ token_list (chars mine) → held ≡ mine → shown ≡ tokens → before ≡ slice_range held 0 start → FrontFound shown (chars before) k bytes → Begun text start end put held tokens k bytes
begun text start end put {mine} {held} {before} {tokens} {shown} {k} {bytes} is u can are copy slice cut found =
    let whole = subst IsUtf8 is u in
    let same = copy ∙ is in
    let list = are ∙ ap (λ z. token_list (chars z)) is in
    let n : start - 0 ≡ start = omega arith in
    let front : before ≡ take start text = cut ∙ ap (λ z. slice_range z 0 start) same ∙ ap (λ m. take m text) n in
    record {
      is_text = whole;
      can = can;
      same = same;
      list = list;
      front = front-at text start end put shown before k bytes whole can (slice ∙ list) front found;
    }

-- the front is within the text
pub front-in : {text : List ℕ} {start end : ℕ} {put held : List ℕ} {tokens : List Token} {k bytes : ℕ} → Begun text start end put held tokens k bytes → bytes ≤ length held
front-in {text} {k = k} {bytes = bytes} b =
    let is : bytes ≡ taken k (token_list (chars text)) = b.front.is_taken in
    let same = ap length b.same in
    omega (arith, taken-left k (chars text), size-chars text b.is_text)

-- the bytes after the front are those of the tokens after it
pub front-left : {text : List ℕ} {start end : ℕ} {put held : List ℕ} {tokens : List Token} {k bytes : ℕ} → Begun text start end put held tokens k bytes → length held - bytes ≡ left k tokens
front-left {text} {k = k} {bytes = bytes} b =
    let is : bytes ≡ taken k (token_list (chars text)) = b.front.is_taken in
    let same = ap length b.same in
    let all = ap (λ z. left k z) b.list in
    omega (arith, taken-left k (chars text), size-chars text b.is_text)

front_taken : (e : Edit) (k : ℕ) → IsFront e k → taken k (token_list (old_text e)) ≡ taken k (token_list (new_text e))
unfolding token_list
front_taken e k f =
    ap (λ z. sum_by (λ (t : Token). t.len) z)
    (take-map token k (tokens (old_text e)) ∙ ap (λ z. map token z) (sym (front-tokens e k f)) ∙ sym (take-map token k (tokens (new_text e))))

-- the front's end is a place in the new text
pub front-seam : {text : List ℕ} {start end : ℕ} {put held : List ℕ} {tokens : List Token} {k bytes : ℕ} → Begun text start end put held tokens k bytes → IsUtf8 put → {new : List ℕ} → new ≡ edited text start end put → IsUtf8 new → Seam new bytes (end_of k (chars new))
front-seam {text} {start} {end} {put} {k = k} {bytes = bytes} b v {new} is w =
    let e = edit_of text start end put in
    let olds = old-chars text start end (length put) put b.is_text b.can in
    let news : new_text e ≡ chars new = new-chars text start end (length put) put b.is_text v b.can ∙ ap chars (sym is) in
    let at : bytes ≡ size (take (end_of k (chars new)) (chars new)) =
    b.front.is_taken ∙ ap (λ z. taken k (token_list z)) (sym olds) ∙ front_taken e k b.front.front ∙ ap (λ z. taken k (token_list z)) news ∙ taken-size k (chars new) in
    subst (λ n. Seam new n (end_of k (chars new))) (sym at) (place new (end_of k (chars new)) w)

-- What was renewed is kept as the definition says.
counts_kept : (e : Edit) (front lexed back : ℕ) (kept : Kept) → kept.front ≡ front → IsKept e (record { front = front; lexed = kept.lexed; back = kept.back }) → IsKept e kept
counts_kept e front lexed back kept is k =
    let H : ℕ → Kept = λ n. record { front = n; lexed = kept.lexed; back = kept.back } in
    subst (λ n. IsKept e (H n)) (sym is) k

-- the tokens of the new text after the front
rest_list : (e : Edit) (new rest : List ℕ) (k : ℕ) → new_text e ≡ chars new → chars rest ≡ drop (end_of k (chars new)) (chars new) → token_list (chars rest) ≡ token_list (drop (end_of k (new_text e)) (new_text e))
rest_list e new rest k news is = ap token_list is ∙ ap (λ z. token_list (drop (end_of k z) z)) (sym news)

pub renewed-kept : (e : Edit) (text new rest : List ℕ) (k most : ℕ) (list : List Token) (kept : Kept) → old_text e ≡ chars text → new_text e ≡ chars new → IsFront e k → most ≡ size e.after → chars rest ≡ drop (end_of k (chars new)) (chars new) → Renewed (token_list (chars text)) (token_list (chars rest)) k most list kept → IsKept e kept
renewed-kept e text new rest k most list kept olds news f is left_is r =
    let to = rest_list e new rest k news left_is in
    let from : token_list (chars text) ≡ token_list (old_text e) = ap token_list (sym olds) in
    let a = subst (λ (z : List Token). Meets z (token_list (chars rest)) k most kept.lexed r.stop) from r.meets in
    let b = subst (λ (z : List Token). Meets (token_list (old_text e)) z k most kept.lexed r.stop) to a in
    let m = subst (λ n. Meets (token_list (old_text e)) (token_list (drop (end_of k (new_text e)) (new_text e))) k n kept.lexed r.stop) is b in
    let back : r.stop + kept.back ≡ length (token_list (chars text)) = r.back in
    let len = list-length (chars text) in
    let same = ap (λ z. length (tokens z)) olds in
    counts_kept e k kept.lexed kept.back kept r.front_is (kept-found e k kept.lexed r.stop kept.back f (omega arith) m)

-- a list of tokens as the front, fresh ones and the back
three_parts : (olds news : List Lexeme) (k l n : ℕ) → map token (take k olds ++ (take l (drop k news) ++ drop n olds)) ≡ take k (map token olds) ++ (take l (drop k (map token news)) ++ drop n (map token olds))
three_parts olds news k l n =
    map-append token (take k olds) (take l (drop k news) ++ drop n olds)
    ∙ ap (λ z. map token (take k olds) ++ z) (map-append token (take l (drop k news)) (drop n olds))
    ∙ ap (λ z. z ++ (map token (take l (drop k news)) ++ map token (drop n olds))) (sym (take-map token k olds))
    ∙ ap (λ z. take k (map token olds) ++ (z ++ map token (drop n olds))) (sym (take-map token l (drop k news)) ∙ ap (λ z. take l z) (sym (drop-map token k news)))
    ∙ ap (λ z. take k (map token olds) ++ (take l (drop k (map token news)) ++ z)) (sym (drop-map token n olds))

-- and the tokens are those of the new text
pub renewed-list : (e : Edit) (text new rest : List ℕ) (k most : ℕ) (list : List Token) (kept : Kept) → old_text e ≡ chars text → new_text e ≡ chars new → IsFront e k → most ≡ size e.after → chars rest ≡ drop (end_of k (chars new)) (chars new) → Renewed (token_list (chars text)) (token_list (chars rest)) k most list kept → list ≡ token_list (chars new)
unfolding token_list
renewed-list e text new rest k most list kept olds news f is left_is r =
    let whole = renewed-kept e text new rest k most list kept olds news f is left_is r in
    let s : IsShared e (kept.front + kept.lexed) whole.stop.0 = whole.stop.2 in
    let stop = whole.stop.0 in
    let back : r.stop + kept.back ≡ length (token_list (chars text)) = r.back in
    let parts : stop + kept.back ≡ length (tokens (old_text e)) = whole.stop.1 in
    let len = list-length (chars text) in
    let same = ap (λ z. length (tokens z)) olds in
    let at : r.stop ≡ stop = omega arith in
    let to = rest_list e new rest k news left_is ∙ list-after k (new_text e) in
    let fresh = take kept.lexed (drop kept.front (tokens (new_text e))) in
    let all = kept-list e kept stop fresh whole.front s refl in
    r.tokens
    ∙ ap (λ z. take k (token_list (chars text)) ++ (take kept.lexed z ++ drop r.stop (token_list (chars text)))) to
    ∙ ap (λ n. take k (token_list (chars text)) ++ (take kept.lexed (drop k (token_list (new_text e))) ++ drop n (token_list (chars text)))) at
    ∙ ap (λ n. take n (token_list (chars text)) ++ (take kept.lexed (drop n (token_list (new_text e))) ++ drop stop (token_list (chars text)))) (sym r.front_is)
    ∙ ap (λ z. take kept.front (token_list z) ++ (take kept.lexed (drop kept.front (token_list (new_text e))) ++ drop stop (token_list z))) (sym olds)
    ∙ sym (three_parts (tokens (old_text e)) (tokens (new_text e)) kept.front kept.lexed stop)
    ∙ ap (λ z. map token z) all
    ∙ ap token_list news

-- both ends of the inserted text are character boundaries of the new text
pub cut-start : (text : List ℕ) (start end : ℕ) (put new : List ℕ) → IsUtf8 text → IsUtf8 put → CanEdit text start end (length put) → new ≡ edited text start end put → IsCharBoundary new start
cut-start text start end put new u v can is =
    let len = length-take-le start text can.cuts_start.0 in
    subst (λ n. IsCharBoundary new n) len
    (IsCharBoundary-at_seam new (take start text) (put ++ drop end text) is (IsUtf8-append put (drop end text) v (IsUtf8-drop text end u can.cuts_end)))

pub cut-end : (text : List ℕ) (start end : ℕ) (put new : List ℕ) → IsUtf8 text → IsUtf8 put → CanEdit text start end (length put) → new ≡ edited text start end put → IsCharBoundary new (start + length put)
cut-end text start end put new u v can is =
    let len = length-append (take start text) put ∙ ap (λ n. n + length put) (length-take-le start text can.cuts_start.0) in
    subst (λ n. IsCharBoundary new n) len
    (IsCharBoundary-at_seam new (take start text ++ put) (drop end text) (is ∙ sym (append_assoc (take start text) put (drop end text))) (IsUtf8-drop text end u can.cuts_end))

-- `replace_range` makes the edit of a copy
pub edited-is : (text kept new put : List ℕ) (start end : ℕ) → kept ≡ text → new ≡ (take start kept ++ put) ++ drop end kept → new ≡ edited text start end put
edited-is text kept new put start end same is =
    is ∙ ap (λ z. (take start z ++ put) ++ drop end z) same ∙ append_assoc (take start text) put (drop end text)

-- so the counts are the definition's, and the tokens the new text's
pub renewed-all : {text : List ℕ} {start end : ℕ} {put held : List ℕ} {tokens : List Token} {k bytes : ℕ} → Begun text start end put held tokens k bytes → IsUtf8 put → {new shown rest : List ℕ} {list : List Token} {kept : Kept} → new ≡ edited text start end put → IsUtf8 new → shown ≡ new → rest ≡ drop bytes shown → Renewed tokens (token_list (chars rest)) k (length held - end) list kept → IsKept (edit_of text start end put) kept × (list ≡ token_list (chars new))
renewed-all {text} {start} {end} {put} {held} {k = k} {bytes = bytes} b v {new} {shown} {rest} {list} {kept} is w copy left_is r =
    let e = edit_of text start end put in
    let seam = front-seam b v is w in
    let olds = old-chars text start end (length put) put b.is_text b.can in
    let news : new_text e ≡ chars new = new-chars text start end (length put) put b.is_text v b.can ∙ ap chars (sym is) in
    let after = ap (λ z. length z - end) b.same ∙ sym (size-after text start end (length put) put b.is_text b.can) in
    let rests = ap chars (left_is ∙ ap (λ z. drop bytes z) copy) ∙ seam.left in
    let whole = subst (λ (z : List Token). Renewed z (token_list (chars rest)) k (length held - end) list kept) b.list r in (
      renewed-kept e text new rest k (length held - end) list kept olds news b.front.front after rests whole,
      renewed-list e text new rest k (length held - end) list kept olds news b.front.front after rests whole,
    )

-- a call that had room succeeded
had-room : {T E : Type 0} (r : Result T E) (P Q : Type 0) → OnOk r P → OnErr r Q → (Q → ⊥) → P
had-room (Ok x) P Q had full never = had
had-room (Err x) P Q had full never = absurd (never full)

-- what was removed is put back, by a call that had room
pub restored-is : (text put held removed new restored : List ℕ) (start end : ℕ) {T E Q : Type 0} (r : Result T E) → CanEdit text start end (length put) → held ≡ text → removed ≡ slice_range held start end → new ≡ edited text start end put → OnOk r (restored ≡ (take start new ++ removed) ++ drop (start + length put) new) → OnErr r Q → (Q → ⊥) → restored ≡ text
restored-is text put held removed new restored start end {T} {E} {Q} r can same cut is had full never =
    had-room r (restored ≡ (take start new ++ removed) ++ drop (start + length put) new) Q had full never
    ∙ ap (λ z. (take start z ++ removed) ++ drop (start + length put) z) is
    ∙ put-back text put removed start end can.in_order can.cuts_end.0 (cut ∙ ap (λ z. slice_range z start end) same)

-- Bytes and characters of a text, at a place of it.
use Rattle.std.proofs.Common.{◌≡◌, ℕ, ◌+◌, ◌-◌, ◌≤◌, List, [], ◌∷◌, ◌++◌, length, take, drop, refl, sym, ◌∙◌, ap, subst, arith, length-append, length-drop}
use Rattle.std.proofs.lemmas.List.{append-nil, append_assoc, length-take-le, take_at, drop_at, drop-drop, take-append-drop}
use Rattle.std.proofs.lemmas.Str.{chars-nil, chars-append, chars_past_char, encodes-append, IsUtf8-take, IsUtf8-drop, IsUtf8-between, IsCharBoundary-from_take}
use Rattle.std.proofs.Math.Utf8.{encodes, encode}
use Rattle.std.specs.Str.{chars, IsUtf8, IsCharBoundary}
use Rattle.rustc_lexer.specs.Characters.{size}
use Rattle.rustc_lexer.proofs.Seams.{Seam, seam}
use Rattle.rustc_lexer.proofs.Sizes.{size-chars, size-encodes, size-parts}
use Rattle.lexed_text.specs.Edit.{CanEdit, old_text, new_text, edited, edit_of}

-- a text that ends with a character
pub last-char : (text rest : List ℕ) (c : ℕ) → IsUtf8 text → IsUtf8 rest → text ≡ rest ++ encode c → chars text ≡ chars rest ++ c ∷ []
last-char text rest c u v is =
    let front : take (length rest) text ≡ rest = ap (λ z. take (length rest) z) is ∙ take_at rest (encode c) (length rest) refl in
    let back : drop (length rest) text ≡ encode c ++ [] = ap (λ z. drop (length rest) z) is ∙ drop_at rest (encode c) (length rest) refl ∙ sym (append-nil (encode c)) in
    let sum = ap length is in
    let at = IsCharBoundary-from_take text (length rest) u (omega (arith, length-append rest (encode c))) (subst IsUtf8 (sym front) v) in
    let one = chars_past_char (drop (length rest) text) [] c (IsUtf8-drop text (length rest) u at) back in
    ap chars (sym (take-append-drop (length rest) text) ∙ ap (λ z. z ++ drop (length rest) text) front)
    ∙ chars-append rest (drop (length rest) text) v ∙ ap (λ z. chars rest ++ z) (one ∙ ap (λ z. c ∷ z) chars-nil)

-- the byte offset after `m` characters
pub place : (bs : List ℕ) (m : ℕ) → IsUtf8 bs → Seam bs (size (take m (chars bs))) m
place bs m u =
    let cs = chars bs in
    let parts : encodes cs ≡ encodes (take m cs) ++ encodes (drop m cs) = ap encodes (sym (take-append-drop m cs)) ∙ encodes-append (take m cs) (drop m cs) in
    let n = size (take m cs) in
    let all = size-chars bs u in
    let sum = size-parts m cs in
    seam bs n m u (omega arith) (ap (λ z. drop n z) parts ∙ drop_at (encodes (take m cs)) (encodes (drop m cs)) n (size-encodes (take m cs)))

-- a text in two parts
pub chars-parts : (bs : List ℕ) (i : ℕ) → IsUtf8 bs → IsCharBoundary bs i → chars bs ≡ chars (take i bs) ++ chars (drop i bs)
chars-parts bs i u at = ap chars (sym (take-append-drop i bs)) ∙ chars-append (take i bs) (drop i bs) (IsUtf8-take bs i u at)

pub old-chars : (bs : List ℕ) (start end len : ℕ) (put : List ℕ) → IsUtf8 bs → CanEdit bs start end len → old_text (edit_of bs start end put) ≡ chars bs
old-chars bs start end len put u can =
    let order : start ≤ end = can.in_order in
    let after = drop start bs in
    let after_u = IsUtf8-drop bs start u can.cuts_start in
    let middle = IsUtf8-between bs start end u order can.cuts_start can.cuts_end in
    let at : start + (end - start) ≡ end = omega arith in
    let rest : drop (end - start) after ≡ drop end bs = drop-drop (end - start) start bs ∙ ap (λ n. drop n bs) at in
    let two : chars after ≡ chars (take (end - start) after) ++ chars (drop end bs) =
    ap chars (sym (take-append-drop (end - start) after)) ∙ chars-append (take (end - start) after) (drop (end - start) after) middle ∙ ap (λ z. chars (take (end - start) after) ++ chars z) rest in
    sym (chars-parts bs start u can.cuts_start ∙ ap (λ z. chars (take start bs) ++ z) two)

pub new-chars : (bs : List ℕ) (start end len : ℕ) (put : List ℕ) → IsUtf8 bs → IsUtf8 put → CanEdit bs start end len → new_text (edit_of bs start end put) ≡ chars (edited bs start end put)
new-chars bs start end len put u v can =
    sym (chars-append (take start bs) (put ++ drop end bs) (IsUtf8-take bs start u can.cuts_start) ∙ ap (λ z. chars (take start bs) ++ z) (chars-append put (drop end bs) v))

-- the bytes after an edit
pub size-after : (bs : List ℕ) (start end len : ℕ) (put : List ℕ) → IsUtf8 bs → CanEdit bs start end len → size (edit_of bs start end put).after ≡ length bs - end
size-after bs start end len put u can = sym (size-chars (drop end bs) (IsUtf8-drop bs end u can.cuts_end)) ∙ length-drop end bs

-- putting back what was removed gives the old text
pub put-back : (bs put removed : List ℕ) (start end : ℕ) → start ≤ end → end ≤ length bs → removed ≡ take (end - start) (drop start bs) → (take start (edited bs start end put) ++ removed) ++ drop (start + length put) (edited bs start end put) ≡ bs
put-back bs put removed start end order within is =
    let len = length-take-le start bs (omega arith) in
    let at : start + (end - start) ≡ end = omega arith in
    let front : take start (edited bs start end put) ≡ take start bs = take_at (take start bs) (put ++ drop end bs) start len in
    let back : drop (start + length put) (edited bs start end put) ≡ drop end bs =
    sym (drop-drop (length put) start (edited bs start end put)) ∙ ap (λ z. drop (length put) z) (drop_at (take start bs) (put ++ drop end bs) start len) ∙ drop_at put (drop end bs) (length put) refl in
    let rest : drop (end - start) (drop start bs) ≡ drop end bs = drop-drop (end - start) start bs ∙ ap (λ n. drop n bs) at in
    ap (λ z. (z ++ removed) ++ drop (start + length put) (edited bs start end put)) front
    ∙ ap (λ z. (take start bs ++ removed) ++ z) back
    ∙ ap (λ z. (take start bs ++ z) ++ drop end bs) is
    ∙ append_assoc (take start bs) (take (end - start) (drop start bs)) (drop end bs)
    ∙ ap (λ z. take start bs ++ (take (end - start) (drop start bs) ++ z)) (sym rest)
    ∙ ap (λ z. take start bs ++ z) (take-append-drop (end - start) (drop start bs))
    ∙ take-append-drop start bs

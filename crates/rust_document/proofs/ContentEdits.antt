-- What follows a text's preface in bytes, and an edit behind the preface as an edit of that.
use Rattle.std.proofs.Common.{◌≡◌, ℕ, ◌+◌, ◌-◌, ◌<◌, ◌≤◌, ◌^◌, true, false, List, ◌++◌, length, take, drop, chars, refl, sym, ◌∙◌, ap, subst, arith, length-append, length-drop}
use Rattle.std.specs.List.{All}
use Rattle.std.specs.Str.{IsUtf8, IsCharBoundary}
use Rattle.std.proofs.Math.Seq.{take-append-add, drop-append-add}
use Rattle.std.proofs.Math.Utf8.{encodes}
use Rattle.std.proofs.lemmas.List.{append_assoc, append_cancel_left, append_cancel_right, drop_at, length-take-le, take_at}
use Rattle.std.proofs.lemmas.Str.{chars-append, encodes-append, encodes-chars, IsCharBoundary-at_seam, IsCharBoundary-from_drop, IsUtf8-drop, IsUtf8-take}
use Rattle.rustc_lexer.proofs.Sizes.{size-encodes}
use Rattle.lexed_text.specs.Edit as kept
use Rattle.lexed_text.specs.Edit.{CanEdit, edit_of}
use Rattle.lexed_text.specs.Kept.{IsKept}
use Rattle.lexed_text.specs.declared.kept.Kept.{Kept}
use Rattle.rustc_lexer.specs.Tokens.{token_list}
use Rattle.rustc_lexer.specs.declared.token.Token.{Token}
use Rattle.parser_input.specs.Lexed.{content, is_split, preface}
use Rattle.parser_input.specs.declared.edition.Edition.{Edition}
use Rattle.plain_names.specs.LeafNames.{texts}
use Rattle.rust_document.specs.Edit.{can_edit, edited}
use Rattle.rust_document.specs.KeptTokens.{preface_size, KeepsPreface}
use Rattle.rust_document.proofs.Boundaries.{at-end, at-start, in-order}
use Rattle.rust_document.proofs.Prefaces.{parted}

abbrev front : List ℕ → List ℕ
front bs = texts (preface (chars bs))

up : (p n : ℕ) → p ≤ n → n ≡ p + (n - p)
up p n le = omega (arith, le)

-- These bytes are the content of that text.
module _ (bs ks : List ℕ) (u : IsUtf8 bs) (v : IsUtf8 ks) (is : chars ks ≡ content (chars bs)) where
  pub in-parts : encodes (front bs) ++ ks ≡ bs
  in-parts =
      ap (λ (z : List ℕ). encodes (front bs) ++ z) (sym (encodes-chars ks v) ∙ ap encodes is)
      ∙ sym (encodes-append (front bs) (content (chars bs)))
      ∙ ap encodes (parted (chars bs))
      ∙ encodes-chars bs u

  pub sizes : preface_size bs + length ks ≡ length bs
  sizes = omega (arith, size-encodes (front bs), length-append (encodes (front bs)) ks, ap (λ (z : List ℕ). length z) in-parts)

  pub behind : drop (preface_size bs) bs ≡ ks
  behind = ap (λ (z : List ℕ). drop (preface_size bs) z) (sym in-parts) ∙ drop_at (encodes (front bs)) ks (preface_size bs) (size-encodes (front bs))

  -- the preface's bytes are a text
  front-text : IsUtf8 (encodes (front bs))
  front-text =
      let at = IsCharBoundary-at_seam bs (encodes (front bs)) ks (sym in-parts) v in
      let own : take (length (encodes (front bs))) bs ≡ encodes (front bs) =
      ap (λ (z : List ℕ). take (length (encodes (front bs))) z) (sym in-parts) ∙ take_at (encodes (front bs)) ks (length (encodes (front bs))) refl in
      subst IsUtf8 own (IsUtf8-take bs (length (encodes (front bs))) u at)

  front-chars : chars (encodes (front bs)) ≡ front bs
  front-chars =
      append_cancel_right (chars (encodes (front bs))) (front bs) (chars ks)
      (sym (chars-append (encodes (front bs)) ks front-text) ∙ ap chars in-parts ∙ sym (parted (chars bs)) ∙ ap (λ (z : List ℕ). front bs ++ z) (sym is))

  -- a text that begins with this preface
  pub begun : (new rest : List ℕ) → new ≡ encodes (front bs) ++ rest → front bs ++ chars rest ≡ chars new
  begun new rest begins =
      sym (ap chars begins ∙ chars-append (encodes (front bs)) rest front-text ∙ ap (λ (z : List ℕ). z ++ chars rest) front-chars)

  -- its content, if it has this preface
  pub content-of : (new rest : List ℕ) → new ≡ encodes (front bs) ++ rest → preface (chars bs) ≡ preface (chars new) → chars rest ≡ content (chars new)
  content-of new rest begins same =
      append_cancel_left (front bs) (chars rest) (content (chars new))
      (begun new rest begins ∙ sym (parted (chars new)) ∙ ap (λ (z : List ℕ). z ++ content (chars new)) (ap texts (sym same)))

  drop-behind : (n : ℕ) → preface_size bs ≤ n → drop n bs ≡ drop (n - preface_size bs) ks
  drop-behind n low =
      ap (λ (z : List ℕ). drop n z) (sym in-parts)
      ∙ ap (λ (k : ℕ). drop k (encodes (front bs) ++ ks)) (up (preface_size bs) n low ∙ ap (λ (k : ℕ). k + (n - preface_size bs)) (sym (size-encodes (front bs))))
      ∙ drop-append-add (encodes (front bs)) ks (n - preface_size bs)

  take-behind : (n : ℕ) → preface_size bs ≤ n → take n bs ≡ encodes (front bs) ++ take (n - preface_size bs) ks
  take-behind n low =
      ap (λ (z : List ℕ). take n z) (sym in-parts)
      ∙ ap (λ (k : ℕ). take k (encodes (front bs) ++ ks)) (up (preface_size bs) n low ∙ ap (λ (k : ℕ). k + (n - preface_size bs)) (sym (size-encodes (front bs))))
      ∙ take-append-add (encodes (front bs)) ks (n - preface_size bs)

  boundary-behind : (n : ℕ) → preface_size bs ≤ n → IsCharBoundary bs n → IsCharBoundary ks (n - preface_size bs)
  boundary-behind n low at =
      IsCharBoundary-from_drop ks (n - preface_size bs) (omega (arith, sizes, at.0, low))
      (subst IsUtf8 (drop-behind n low) (IsUtf8-drop bs n u at))

  -- An edit behind the preface is one of the content.
  pub edited-behind :
      (start end : ℕ) (put : List ℕ) → preface_size bs ≤ start → start ≤ end
      → edited bs start end put ≡ encodes (front bs) ++ kept.edited ks (start - preface_size bs) (end - preface_size bs) put
  edited-behind start end put low ordered =
      let a = take (start - preface_size bs) ks in
      let b = drop (end - preface_size bs) ks in
      ap (λ (z : List ℕ). z ++ put ++ drop end bs) (take-behind start low)
      ∙ ap (λ (z : List ℕ). (encodes (front bs) ++ a) ++ put ++ z) (drop-behind end (omega (arith, low, ordered)))
      ∙ append_assoc (encodes (front bs) ++ a) put b
      ∙ append_assoc (encodes (front bs)) a (put ++ b)

  pub can-edit-behind :
      (start end : ℕ) (put : List ℕ) → can_edit bs start end ≡ true → preface_size bs ≤ start → length (edited bs start end put) ≤ 16777216
      → CanEdit ks (start - preface_size bs) (end - preface_size bs) (length put)
  can-edit-behind start end put can low fits =
      let ordered = in-order bs start end can in
      let first = at-start bs start end start can refl in
      let last = at-end bs start end end can refl in
      let taken = length-take-le start bs first.0 in
      let long = length-append (take start bs ++ put) (drop end bs) in
      let two = length-append (take start bs) put in
      let dropped = length-drop end bs in
      record {
        in_order = omega (arith, ordered);
        cuts_start = boundary-behind start low first;
        cuts_end = boundary-behind end (omega (arith, low, ordered)) last;
        fits = lit-bound (length ks) (end - preface_size bs - (start - preface_size bs)) (length put)
            (omega (arith, ordered, low, taken, long, two, dropped, sizes, fits, first.0, last.0));
      }
    where
      lit-bound : (k r p : ℕ) → k - r + p ≤ 16777216 → k - r + p < 2 ^ 64
      lit-bound k r p h = omega (arith, h)

-- the same numbers in code
pub can-edit-at : (ks js : List ℕ) (start end a b n : ℕ) → js ≡ ks → a ≡ start → b ≡ end → CanEdit ks start end n → CanEdit js a b n
can-edit-at ks js start end a b n same at to can = rw (same, at, to) can

pub edited-at : (ks js put : List ℕ) (start end a b : ℕ) → js ≡ ks → a ≡ start → b ≡ end → kept.edited js a b put ≡ kept.edited ks start end put
edited-at ks js put start end a b same at to = rw (same, at, to) refl

pub kept-at :
    (ks js put : List ℕ) (start end a b : ℕ) (counts : Kept) → js ≡ ks → a ≡ start → b ≡ end → IsKept (edit_of js a b put) counts
    → IsKept (edit_of ks start end put) counts
kept-at ks js put start end a b counts same at to is = rw (← same, ← at, ← to) is

-- tokens that are leaves, in code and in texts
pub leaves-told : (edition : Edition) (ts : List Token) (cs ks : List ℕ) → ts ≡ token_list ks → ks ≡ cs → All (λ t. is_split edition t.kind ≡ false) ts → All (λ t. is_split edition t.kind ≡ false) (token_list cs)
leaves-told edition ts cs ks is same all = subst (All (λ t. is_split edition t.kind ≡ false)) (is ∙ ap token_list same) all

pub leaves-tell : (edition : Edition) (ts : List Token) (cs ks : List ℕ) → ts ≡ token_list ks → ks ≡ cs → All (λ t. is_split edition t.kind ≡ false) (token_list cs) → All (λ t. is_split edition t.kind ≡ false) ts
leaves-tell edition ts cs ks is same all = subst (All (λ t. is_split edition t.kind ≡ false)) (sym (is ∙ ap token_list same)) all

-- what is kept after an edit is the new text's content
pub kept-content :
    (bs ks js put new out : List ℕ) (start end a b : ℕ) → IsUtf8 bs → IsUtf8 ks → chars ks ≡ content (chars bs)
    → can_edit bs start end ≡ true → new ≡ edited bs start end put → KeepsPreface bs new start
    → js ≡ ks → a ≡ start - preface_size bs → b ≡ end - preface_size bs → out ≡ kept.edited js a b put → chars out ≡ content (chars new)
kept-content bs ks js put new out start end a b u v is can after keeps same at to made =
    ap chars (made ∙ edited-at ks js put (start - preface_size bs) (end - preface_size bs) a b same at to)
    ∙ content-of bs ks u v is new _ (after ∙ edited-behind bs ks u v is start end put keeps.behind (in-order bs start end can)) keeps.same

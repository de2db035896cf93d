-- Pieces of a text and its leaves are slices of its bytes.
use Rattle.std.proofs.Common.{◌≡◌, ◌<◌, ◌+◌, ◌-◌, ℕ, List, [], ◌∷◌, ◌++◌, length, take, drop, refl, sym, ◌∙◌, ap, subst, arith, chars, slice_range, append_assoc, append-nil, inl, inr, Option, Ok, is_some}
use Rattle.std.specs.Option.{IfSome}
use Rattle.std.specs.Str.{IsUtf8, IsCharBoundary}
use Rattle.std.proofs.lemmas.List.{take-append-drop}
use Rattle.rustc_lexer.specs.Characters.{size, is_whitespace}
use Rattle.rustc_lexer.specs.Scan.{run_len}
use Rattle.rustc_lexer.specs.Shebang.{shebang, line_len}
use Rattle.rustc_lexer.proofs.Booleans.{bool_cases}
use Rattle.rustc_lexer.proofs.Sizes.{size-append, size-parts}
use Rattle.parser_input.specs.Lexed.{lexed}
use Rattle.parser_input.specs.Lines.{first_line, after_line, blank_len, solid_len, dashes}
use Rattle.parser_input.specs.Preface.{Piece, Source, place, piece, remainder, after_shebang, shebang_piece, opening_line, unless_empty, info_piece, bare, fenced, source}
use Rattle.parser_input.specs.Slices.{IsSlice, AreSlices, leaf_piece}
use Rattle.parser_input.specs.Spans.{end_of}
use Rattle.parser_input.specs.Stored.{offset}
use Rattle.parser_input.specs.declared.edition.Edition.{Edition}
use Rattle.parser_input.proofs.LexedTexts.{leaves-joined}
use Rattle.parser_input.proofs.PrefaceSteps.{Form, Bare, Refused, Closed, Suffix, suffix-of, after-suffix, form}
use Rattle.parser_input.proofs.Prefaces.{after-some, after-none, piece-some, piece-none}
use Rattle.parser_input.proofs.Readings.{front-at, range-of, offset-more, text-one}

-- the part of a text between two other parts
slice-at : (bytes x y z : List ℕ) (start : ℕ) → IsUtf8 bytes → chars bytes ≡ x ++ (y ++ z) → start ≡ size x → IsSlice bytes (record { start = start; text = y })
slice-at bytes x y z start u e is =
    let whole : chars bytes ≡ (x ++ y) ++ z = e ∙ sym (append_assoc x y z) in
    let first = front-at bytes x (y ++ z) u e in
    let both = front-at bytes (x ++ y) z u whole in
    let second = front-at (drop (size x) bytes) y z first.left_utf8 first.left in
    let end : start + size y ≡ size (x ++ y) = let more = size-append x y in omega arith in
    let wide : start + size y - size x ≡ size y = omega arith in
    record {
      begins = subst (λ (k : ℕ). IsCharBoundary bytes k) (sym is) first.boundary;
      ends = subst (λ (k : ℕ). IsCharBoundary bytes k) (sym end) both.boundary;
      own =
          ap (λ (k : ℕ). chars (take (start + size y - k) (drop k bytes))) is
          ∙ ap (λ (k : ℕ). chars (take k (drop (size x) bytes))) wide ∙ second.front;
    }

-- the bytes before the end of a text
place-is : (n : ℕ) (text rest : List ℕ) → rest ≡ drop n text → place text rest ≡ size (take n text)
place-is n text rest e = let parts = size-parts n text in let same = ap size e in omega arith

piece-slice : (bytes rest : List ℕ) (n : ℕ) → IsUtf8 bytes → Suffix rest (chars bytes) → IsSlice bytes (piece (chars bytes) rest n)
piece-slice bytes rest n u s =
    let text = chars bytes in
    let whole : text ≡ take s.0 text ++ (take n rest ++ drop n rest) =
    sym (take-append-drop s.0 text) ∙ ap (λ (t : List ℕ). take s.0 text ++ t) (sym s.1 ∙ sym (take-append-drop n rest)) in
    slice-at bytes (take s.0 text) (take n rest) (drop n rest) (place text rest) u whole (place-is s.0 text rest s.1)

remainder-slice : (bytes rest : List ℕ) → IsUtf8 bytes → Suffix rest (chars bytes) → IsSlice bytes (remainder (chars bytes) rest)
remainder-slice bytes rest u s =
    let text = chars bytes in
    let whole : text ≡ take s.0 text ++ (rest ++ []) =
    sym (take-append-drop s.0 text) ∙ ap (λ (t : List ℕ). take s.0 text ++ t) (sym s.1 ∙ sym (append-nil rest)) in
    slice-at bytes (take s.0 text) rest [] (place text rest) u whole (place-is s.0 text rest s.1)

-- the part of a line without the whitespace at its ends
solid-slice : (bytes after line : List ℕ) (n m k : ℕ) → IsUtf8 bytes → Suffix after (chars bytes) → line ≡ take n after → IsSlice bytes (record { start = place (chars bytes) after + place line (drop m line); text = take k (drop m line) })
solid-slice bytes after line n m k u s is =
    let text = chars bytes in
    let solid = drop m line in
    let x = take s.0 text in
    let w = take m line in
    let parts : line ≡ w ++ (take k solid ++ drop k solid) = sym (take-append-drop m line) ∙ ap (λ (t : List ℕ). w ++ t) (sym (take-append-drop k solid)) in
    let rest : after ≡ (w ++ (take k solid ++ drop k solid)) ++ drop n after = sym (take-append-drop n after) ∙ ap (λ (t : List ℕ). t ++ drop n after) (sym is ∙ parts) in
    let inner : (w ++ (take k solid ++ drop k solid)) ++ drop n after ≡ w ++ (take k solid ++ (drop k solid ++ drop n after)) =
    append_assoc w (take k solid ++ drop k solid) (drop n after) ∙ ap (λ (t : List ℕ). w ++ t) (append_assoc (take k solid) (drop k solid) (drop n after)) in
    let whole : text ≡ (x ++ w) ++ (take k solid ++ (drop k solid ++ drop n after)) =
    sym (take-append-drop s.0 text) ∙ ap (λ (t : List ℕ). x ++ t) (sym s.1 ∙ rest ∙ inner) ∙ sym (append_assoc x w (take k solid ++ (drop k solid ++ drop n after))) in
    let start : place text after + place line solid ≡ size (x ++ w) =
    let more = size-append x w in let a = place-is s.0 text after s.1 in let b = place-is m line solid refl in omega arith in
    slice-at bytes (x ++ w) (take k solid) (drop k solid ++ drop n after) (place text after + place line solid) u whole start

empty-slice : (bytes : List ℕ) (start : ℕ) (xs : List ℕ) → IsSlice bytes (record { start = start; text = xs }) → IfSome (unless_empty start xs) (IsSlice bytes)
empty-slice bytes start [] s = tt
empty-slice bytes start (c ∷ cs) s = s

info-slice : (bytes after : List ℕ) → IsUtf8 bytes → Suffix after (chars bytes) → IfSome (info_piece (chars bytes) after) (IsSlice bytes)
unfolding info_piece
info-slice bytes after u s =
    let line = first_line after in
    let m = run_len is_whitespace line in
    let k = solid_len (drop m line) in
    empty-slice bytes (place (chars bytes) after + place line (drop m line)) (take k (drop m line)) (solid-slice bytes after line (line_len after) m k u s refl)

shebang-slice : (bytes : List ℕ) → IsUtf8 bytes → IfSome (shebang_piece (chars bytes)) (IsSlice bytes)
shebang-slice bytes u =
    let text = chars bytes in
    elim (bool_cases (is_some (shebang text))) [
      | inl some ↦
          subst (λ (o : Option Piece). IfSome o (IsSlice bytes)) (piece-some text some) (piece-slice bytes text (line_len text) u (0, refl))
      | inr none ↦ subst (λ (o : Option Piece). IfSome o (IsSlice bytes)) (piece-none text none) tt
    ]

shebang-suffix : (text : List ℕ) → Suffix (after_shebang text) text
shebang-suffix text =
    elim (bool_cases (is_some (shebang text))) [
      | inl some ↦ (line_len text, sym (after-some text some))
      | inr none ↦ (0, sym (after-none text none))
    ]

opening-suffix : (text : List ℕ) → Suffix (opening_line text) text
unfolding opening_line
opening-suffix text = suffix-of (opening_line text) (after_shebang text) text (blank_len (after_shebang text), refl) (shebang-suffix text)

bare-slices : (bytes : List ℕ) → IsUtf8 bytes → AreSlices bytes (bare (chars bytes))
unfolding bare
bare-slices bytes u = record {
  shebang = shebang-slice bytes u;
  opening_is = tt;
  info = tt;
  frontmatter = tt;
  closing_is = tt;
  content = remainder-slice bytes (after_shebang (chars bytes)) u (shebang-suffix (chars bytes));
}

fenced-slices : (bytes closing : List ℕ) → IsUtf8 bytes → Suffix closing (after_line (opening_line (chars bytes))) → AreSlices bytes (fenced (chars bytes) (opening_line (chars bytes)) closing)
unfolding fenced
fenced-slices bytes closing u at =
    let text = chars bytes in
    let opening = opening_line text in
    let o = opening-suffix text in
    let inside = suffix-of (after_line opening) opening text (after-suffix opening) o in
    let c = suffix-of closing (after_line opening) text at inside in
    let after = suffix-of (drop (dashes opening) opening) opening text (dashes opening, refl) o in
    record {
      shebang = shebang-slice bytes u;
      opening_is = piece-slice bytes opening (dashes opening) u o;
      info = info-slice bytes (drop (dashes opening) opening) u after;
      frontmatter = piece-slice bytes (after_line opening) (length (after_line opening) - length closing) u inside;
      closing_is = piece-slice bytes closing (dashes closing) u c;
      content = remainder-slice bytes (after_line closing) u (suffix-of (after_line closing) closing text (after-suffix closing) c);
    }

form-slices : (bytes : List ℕ) (parts : Source) → IsUtf8 bytes → source (chars bytes) ≡ Ok parts → Form (chars bytes) → AreSlices bytes parts
form-slices bytes parts u e (Bare is) =
    let same : bare (chars bytes) ≡ parts = let z = sym is ∙ e in cc in
    subst (λ (s : Source). AreSlices bytes s) same (bare-slices bytes u)
form-slices bytes parts u e (Refused x is) = let z = sym is ∙ e in absurd (cc)
form-slices bytes parts u e (Closed closing is at) =
    let same : fenced (chars bytes) (opening_line (chars bytes)) closing ≡ parts = let z = sym is ∙ e in cc in
    subst (λ (s : Source). AreSlices bytes s) same (fenced-slices bytes closing u at)

pub pieces-slices : (bytes : List ℕ) (parts : Source) → IsUtf8 bytes → source (chars bytes) ≡ Ok parts → AreSlices bytes parts
pieces-slices bytes parts u e = form-slices bytes parts u e (form (chars bytes))

pub leaves-slices : (edition : Edition) (bytes : List ℕ) (i : ℕ) → IsUtf8 bytes → i < length (lexed edition (chars bytes)) → IsSlice bytes (leaf_piece (lexed edition (chars bytes)) i)
leaves-slices edition bytes i u h =
    let ls = lexed edition (chars bytes) in
    let p = leaf_piece ls i in
    let r = range-of bytes ls i (i + 1) u (sym (leaves-joined edition (chars bytes))) (omega arith) in
    let end : offset ls (i + 1) ≡ end_of p = offset-more ls i _ h in
    record {
      begins = r.begins;
      ends = subst (λ (k : ℕ). IsCharBoundary bytes k) end r.ends;
      own = ap (λ (k : ℕ). chars (slice_range bytes (offset ls i) k)) (sym end) ∙ r.own ∙ text-one ls i _ h;
    }

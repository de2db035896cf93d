-- The parts of a preface, as the code finds them.
use Rattle.std.proofs.Common.{◌≡◌, ℕ, suc, ◌-◌, ◌≤◌, ◌<◌, nat_lt, length-drop, Ok, Err, Bool, true, false, ◌&&◌, ◌==◌, List, [], ◌∷◌, length, drop, Option, Some, None, refl, sym, ◌∙◌, ap, arith, inl, inr, if◌then◌else◌}
use Rattle.std.specs.Option.{is_some}
use Rattle.std.proofs.Math.ListN.{drop_of_length-le}
use Rattle.std.proofs.lemmas.Bool.{ne_eqb, le-ltb}
use Rattle.std.proofs.lemmas.Bool.Decides.{Decides-ltb}
use Rattle.rustc_lexer.proofs.Agree.{lt_or_ge}
use Rattle.rustc_lexer.specs.Characters.{size, line_feed}
use Rattle.rustc_lexer.specs.Shebang.{shebang, line_len}
use Rattle.rustc_lexer.proofs.Booleans.{bool_cases}
use Rattle.rustc_lexer.proofs.Sizes.{size-drop}
use Rattle.parser_input.specs.Lines.{first_line, after_line, blank_len, dashes, is_fence}
use Rattle.parser_input.specs.Preface.{Piece, Source, piece, after_shebang, shebang_piece, opening_line, unless_empty, closing_line, remainder, info_piece, bare, fenced, too_few, enclosed, source}

pub after-some : (text : List ℕ) → is_some (shebang text) ≡ true → drop (line_len text) text ≡ after_shebang text
unfolding after_shebang
after-some text some = sym (ap (λ (b : Bool). if b then drop (line_len text) text else text) some)

pub after-none : (text : List ℕ) → is_some (shebang text) ≡ false → text ≡ after_shebang text
unfolding after_shebang
after-none text none = sym (ap (λ (b : Bool). if b then drop (line_len text) text else text) none)

pub piece-some : (text : List ℕ) → is_some (shebang text) ≡ true → Some (piece text text (line_len text)) ≡ shebang_piece text
unfolding shebang_piece
piece-some text some = sym (ap (λ (b : Bool). if b then Some (piece text text (line_len text)) else None) some)

pub piece-none : (text : List ℕ) → is_some (shebang text) ≡ false → None ≡ shebang_piece text
unfolding shebang_piece
piece-none text none = sym (ap (λ (b : Bool). if b then Some (piece text text (line_len text)) else None) none)

pub after-size : (text : List ℕ) → size (after_shebang text) ≤ size text
after-size text =
    elim (bool_cases (is_some (shebang text))) [
      | inl some ↦ omega (arith, ap size (after-some text some), size-drop (line_len text) text)
      | inr none ↦ omega (arith, ap size (after-none text none))
    ]

pub opening-size : (text : List ℕ) → size (opening_line text) ≤ size text
unfolding opening_line
opening-size text = omega (arith, after-size text, size-drop (blank_len (after_shebang text)) (after_shebang text))

pub empty-none : (start : ℕ) (xs : List ℕ) → xs ≡ [] → None ≡ unless_empty start xs
empty-none start [] e = refl
empty-none start (x ∷ xs) e = absurd (cc)

pub some-piece : (start : ℕ) (xs : List ℕ) → (xs ≡ [] → ⊥) → Some record { start = start; text = xs } ≡ unless_empty start xs
some-piece start [] some = absurd (some refl)
some-piece start (x ∷ xs) some = refl

-- the rest of a line that is no fence is skipped
passed : (count : ℕ) (cs : List ℕ) → closing_line count false cs ≡ closing_line count true (after_line cs)
unfolding closing_line after_line
passed count [] = refl
passed count (c ∷ cs) =
    elim (bool_cases (c == line_feed)) [
      | inl feed ↦ rw (feed, closing_line, after_line) refl
      | inr other ↦ rw (other, closing_line, after_line) (passed count cs)
    ]

pub closing-here : (count : ℕ) (rest : List ℕ) → (rest ≡ [] → ⊥) → is_fence count (first_line rest) ≡ true → Some rest ≡ closing_line count true rest
unfolding closing_line
closing-here count [] some fence = absurd (some refl)
closing-here count (c ∷ cs) some fence = sym (rw (fence, closing_line) refl)

pub closing-next : (count : ℕ) (rest : List ℕ) → (rest ≡ [] → ⊥) → is_fence count (first_line rest) ≡ false → closing_line count true (after_line rest) ≡ closing_line count true rest
unfolding closing_line after_line
closing-next count [] some fence = absurd (some refl)
closing-next count (c ∷ cs) some fence =
    let goes : closing_line count true (c ∷ cs) ≡ closing_line count (c == line_feed) cs = rw (fence, closing_line) refl in
    elim (bool_cases (c == line_feed)) [
      | inl feed ↦
          let after : after_line (c ∷ cs) ≡ cs = rw (feed, after_line) refl in
          ap (λ (t : List ℕ). closing_line count true t) after ∙ sym (ap (λ (b : Bool). closing_line count b cs) feed) ∙ sym goes
      | inr other ↦
          let after : after_line (c ∷ cs) ≡ after_line cs = rw (other, after_line) refl in
          ap (λ (t : List ℕ). closing_line count true t) after ∙ sym (passed count cs) ∙ sym (ap (λ (b : Bool). closing_line count b cs) other) ∙ sym goes
    ]

pub closing-none : (count : ℕ) (rest : List ℕ) → rest ≡ [] → None ≡ closing_line count true rest
unfolding closing_line
closing-none count [] none = refl
closing-none count (c ∷ cs) none = absurd (cc)

after-within : (cs : List ℕ) → length (after_line cs) ≤ length cs
unfolding after_line
after-within [] = omega arith
after-within (c ∷ cs) =
    elim (bool_cases (c == line_feed)) [
      | inl feed ↦ let after : after_line (c ∷ cs) ≡ cs = rw (feed, after_line) refl in omega (arith, ap (λ (t : List ℕ). length t) after)
      | inr other ↦
          let after : after_line (c ∷ cs) ≡ after_line cs = rw (other, after_line) refl in
          omega (arith, ap (λ (t : List ℕ). length t) after, after-within cs)
    ]

pub after-shorter : (text : List ℕ) → (text ≡ [] → ⊥) → length (after_line text) < length text
unfolding after_line
after-shorter [] some = absurd (some refl)
after-shorter (c ∷ cs) some =
    elim (bool_cases (c == line_feed)) [
      | inl feed ↦ let after : after_line (c ∷ cs) ≡ cs = rw (feed, after_line) refl in omega (arith, ap (λ (t : List ℕ). length t) after)
      | inr other ↦
          let after : after_line (c ∷ cs) ≡ after_line cs = rw (other, after_line) refl in
          omega (arith, ap (λ (t : List ℕ). length t) after, after-within cs)
    ]

pub after-line-size : (text : List ℕ) → size (after_line text) ≤ size text
unfolding after_line size
after-line-size [] = omega arith
after-line-size (c ∷ cs) =
    elim (bool_cases (c == line_feed)) [
      | inl feed ↦ let after : after_line (c ∷ cs) ≡ cs = rw (feed, after_line) refl in omega (arith, ap size after)
      | inr other ↦
          let after : after_line (c ∷ cs) ≡ after_line cs = rw (other, after_line) refl in
          omega (arith, ap size after, after-line-size cs)
    ]

-- the line that closes is one of the lines that were searched
pub closing-suffix : (count : ℕ) (starts : Bool) (rest line : List ℕ) → closing_line count starts rest ≡ Some line → (n : ℕ) × (line ≡ drop n rest)
unfolding closing_line
closing-suffix count starts [] line e = absurd (cc)
closing-suffix count starts (c ∷ cs) line e =
    elim (bool_cases (starts && is_fence count (first_line (c ∷ cs)))) [
      | inl here ↦
          let found : closing_line count starts (c ∷ cs) ≡ Some (c ∷ cs) = rw (here, closing_line) refl in
          (0, let z : line ≡ c ∷ cs = cc in z)
      | inr on ↦
          let goes : closing_line count starts (c ∷ cs) ≡ closing_line count (c == line_feed) cs = rw (on, closing_line) refl in
          let rest = closing-suffix count (c == line_feed) cs line (sym goes ∙ e) in
          (suc rest.0, rest.1)
    ]

-- a position in a text is determined by the length of the rest
pub by-length : (n : ℕ) (whole rest : List ℕ) → rest ≡ drop n whole → rest ≡ drop (length whole - length rest) whole
by-length n whole rest e =
    let long : length rest ≡ length whole - n = ap (λ (l : List ℕ). length l) e ∙ length-drop n whole in
    elim (lt_or_ge n (length whole)) [
      | inl inside ↦ let same : length whole - length rest ≡ n = omega arith in e ∙ ap (λ k. drop k whole) (sym same)
      | inr past ↦
          let all : length whole - length rest ≡ length whole = omega arith in
          e ∙ drop_of_length-le whole past ∙ sym (drop_of_length-le whole (let z : length whole ≤ length whole - length rest = omega arith in z))
    ]

pub source-bare : (text : List ℕ) → dashes (opening_line text) ≡ 0 → Ok (bare text) ≡ source text
unfolding source
source-bare text none = sym (rw none refl)

pub source-few : (text : List ℕ) (count : ℕ) → count ≡ dashes (opening_line text) → (count ≡ 0 → ⊥) → count < 3 → Err (too_few text count) ≡ source text
unfolding source
source-few text count same some few =
    let n = dashes (opening_line text) in
    let z : (n == 0) ≡ false = ne_eqb n 0 (λ e. some (same ∙ e)) in
    let f : nat_lt n 3 ≡ true = (Decides-ltb n 3).1 (omega arith) in
    ap (λ (k : ℕ). Err (too_few text k)) same ∙ sym (rw (z, f) refl)

pub source-long : (text : List ℕ) (count : ℕ) → count ≡ dashes (opening_line text) → 3 ≤ count → enclosed text count (closing_line count true (after_line (opening_line text))) ≡ source text
unfolding source
source-long text count same many =
    let n = dashes (opening_line text) in
    let z : (n == 0) ≡ false = ne_eqb n 0 (λ e. absurd (omega arith)) in
    let f : nat_lt n 3 ≡ false = le-ltb n 3 (omega arith) in
    ap (λ (k : ℕ). enclosed text k (closing_line k true (after_line (opening_line text)))) same ∙ sym (rw (z, f) refl)

pub bare-is : (text : List ℕ) (s : Option Piece) (content : Piece) → s ≡ shebang_piece text → content ≡ remainder text (after_shebang text) → record { shebang = s; opening = None; info = None; frontmatter = None; closing = None; content = content } ≡ bare text
unfolding bare
bare-is text s content e f = rw (e, f) refl

-- the parts of a text with a frontmatter
pub record Fenced (text opening closing : List ℕ) (s : Source) : Type 0 where
  pub shebang : s.shebang ≡ shebang_piece text
  pub opening_is : s.opening ≡ Some (piece text opening (dashes opening))
  pub info : s.info ≡ info_piece text (drop (dashes opening) opening)
  pub frontmatter : s.frontmatter ≡ Some (piece text (after_line opening) (length (after_line opening) - length closing))
  pub closing_is : s.closing ≡ Some (piece text closing (dashes closing))
  pub content : s.content ≡ remainder text (after_line closing)

pub fenced-is : (text opening closing : List ℕ) (s : Source) → Fenced text opening closing s → s ≡ fenced text opening closing
unfolding fenced
fenced-is text opening closing s f =
    ap (λ (x : Option Piece). record { shebang = x; opening = s.opening; info = s.info; frontmatter = s.frontmatter; closing = s.closing; content = s.content }) f.shebang
    ∙ ap (λ (x : Option Piece). record { shebang = shebang_piece text; opening = x; info = s.info; frontmatter = s.frontmatter; closing = s.closing; content = s.content }) f.opening_is
    ∙ rw (f.info, f.frontmatter, f.closing_is, f.content) refl

-- The text of a core file has no preface: it begins with whitespace or a letter.
use Rattle.std.proofs.Common.{◌≡◌, ℕ, zero, suc, Bool, true, false, not, ◌&&◌, ◌==◌, List, [], ◌∷◌, ◌++◌, drop, Option, is_some, Ok, refl, sym, ◌∙◌, ap, inl, inr, if◌then◌else◌}
use Rattle.std.specs.List.{list_all}
use Rattle.std.proofs.lemmas.Bool.{and_parts, cases_Bool}
use Rattle.rustc_lexer.specs.Characters.{exclamation, hash, is_whitespace}
use Rattle.rustc_lexer.specs.Scan.{peek, run_len}
use Rattle.rustc_lexer.specs.Shebang.{has_shebang, shebang}
use Rattle.rustc_lexer.proofs.Lines.{shebang-none}
use Rattle.rustc_lexer.proofs.Steps.{run-false}
use Rattle.parser_input.specs.Lexed.{content, content_of, frontmatter_leaf, preface, shebang_leaf}
use Rattle.parser_input.specs.Lines.{blank_len, dash, dashes, one_more}
use Rattle.parser_input.specs.Preface.{Piece, after_shebang, bare, opening_line, source}
use Rattle.parser_input.proofs.Prefaces.{after-none, piece-none, source-bare}
use Rattle.plain_names.proofs.CalmLexemes.{white-code}
use Rattle.plain_names.proofs.Prefaces.{blank-ends}

-- the first character that is no whitespace is neither `#` nor `-`
abbrev pub starts_plain : List ℕ → Bool
starts_plain [] = true
starts_plain (c ∷ cs) = if is_whitespace c then starts_plain cs else (not (c == hash) && not (c == dash))

plain-white : (c : ℕ) (cs : List ℕ) → is_whitespace c ≡ true → starts_plain (c ∷ cs) ≡ starts_plain cs
plain-white c cs h = ap (λ (b : Bool). if b then starts_plain cs else (not (c == hash) && not (c == dash))) h

plain-other : (c : ℕ) (cs : List ℕ) → is_whitespace c ≡ false → starts_plain (c ∷ cs) ≡ (not (c == hash) && not (c == dash))
plain-other c cs h = ap (λ (b : Bool). if b then starts_plain cs else (not (c == hash) && not (c == dash))) h

pub spaces-plain : (ws rest : List ℕ) → list_all is_whitespace ws ≡ true → starts_plain rest ≡ true → starts_plain (ws ++ rest) ≡ true
spaces-plain [] rest all h = h
spaces-plain (c ∷ ws) rest all h =
    let both = and_parts (is_whitespace c) (list_all is_whitespace ws) all in
    plain-white c (ws ++ rest) both.0 ∙ spaces-plain ws rest both.1 h

pub word-plain : (c : ℕ) (cs : List ℕ) → is_whitespace c ≡ false → (c == hash) ≡ false → (c == dash) ≡ false → starts_plain (c ∷ cs) ≡ true
word-plain c cs w h d = plain-other c cs w ∙ ap (λ (b : Bool). not b && not (c == dash)) h ∙ ap not d

not-false : (b : Bool) → not b ≡ true → b ≡ false
not-false true h = absurd (cc)
not-false false h = refl

-- ---- no shebang

hash-none : (c : ℕ) (cs : List ℕ) → starts_plain (c ∷ cs) ≡ true → (c == hash) ≡ false
unfolding is_whitespace
hash-none c cs h = elim (cases_Bool (is_whitespace c)) [
  | inl w ↦ white-code hash c refl w
  | inr w ↦ not-false (c == hash) (and_parts (not (c == hash)) (not (c == dash)) (sym (plain-other c cs w) ∙ h)).0
]

no-shebang : (text : List ℕ) → starts_plain text ≡ true → has_shebang text ≡ false
no-shebang [] h = refl
no-shebang (c ∷ cs) h = ap (λ (b : Bool). b && (peek 1 (c ∷ cs) == exclamation)) (hash-none c cs h)

shebang-is : (text : List ℕ) → starts_plain text ≡ true → is_some (shebang text) ≡ false
shebang-is text h = ap is_some (shebang-none text (no-shebang text h))

pub after-same : (text : List ℕ) → starts_plain text ≡ true → after_shebang text ≡ text
after-same text h = sym (after-none text (shebang-is text h))

-- ---- no frontmatter

no-dashes : (c : ℕ) (cs : List ℕ) → (c == dash) ≡ false → dashes (c ∷ cs) ≡ 0
unfolding dashes
no-dashes c cs h = run-false (λ x. x == dash) c cs h

end-dashes : dashes [] ≡ 0
unfolding dashes run_len
end-dashes = refl

blank-goes : (c : ℕ) (cs : List ℕ) → is_whitespace c ≡ true → blank_len (c ∷ cs) ≡ one_more (c == 10) (blank_len cs)
unfolding blank_len
blank-goes c cs h = rw (h, blank_len) refl

dash-white : (c : ℕ) (cs : List ℕ) → is_whitespace c ≡ true → dashes (c ∷ cs) ≡ 0
unfolding is_whitespace
dash-white c cs h = no-dashes c cs (white-code dash c refl h)

-- what is left after blank lines begins with no dash
left : List ℕ → ℕ
left text = dashes (drop (blank_len text) text)

one-more-left : (n : ℕ) (b : Bool) (c : ℕ) (cs : List ℕ) → dashes (c ∷ cs) ≡ 0 → dashes (drop n cs) ≡ 0 → dashes (drop (one_more b n) (c ∷ cs)) ≡ 0
unfolding one_more
one-more-left zero true c cs here next = next
one-more-left zero false c cs here next = here
one-more-left (suc n) b c cs here next = next

none-left : (text : List ℕ) → starts_plain text ≡ true → left text ≡ 0
unfolding left blank_len
none-left [] h = end-dashes
none-left (c ∷ cs) h = elim (cases_Bool (is_whitespace c)) [
  | inl w ↦
      ap (λ (n : ℕ). dashes (drop n (c ∷ cs))) (blank-goes c cs w)
      ∙ one-more-left (blank_len cs) (c == 10) c cs (dash-white c cs w) (none-left cs (sym (plain-white c cs w) ∙ h))
  | inr w ↦
      ap (λ (n : ℕ). dashes (drop n (c ∷ cs))) (blank-ends c cs w)
      ∙ no-dashes c cs (not-false (c == dash) (and_parts (not (c == hash)) (not (c == dash)) (sym (plain-other c cs w) ∙ h)).1)
]

opening-none : (text : List ℕ) → starts_plain text ≡ true → dashes (opening_line text) ≡ 0
unfolding opening_line left
opening-none text h = ap (λ (t : List ℕ). dashes (drop (blank_len t) t)) (after-same text h) ∙ none-left text h

source-is : (text : List ℕ) → starts_plain text ≡ true → source text ≡ Ok (bare text)
source-is text h = sym (source-bare text (opening-none text h))

bare-leaf : (text : List ℕ) → frontmatter_leaf text (Ok (bare text)) ≡ []
unfolding bare
bare-leaf text = refl

bare-content : (text : List ℕ) → content_of text (Ok (bare text)) ≡ after_shebang text
unfolding bare
bare-content text = refl

pub no-preface : (text : List ℕ) → starts_plain text ≡ true → preface text ≡ []
unfolding preface
no-preface text h =
    ap (λ (p : Option Piece). shebang_leaf p ++ frontmatter_leaf text (source text)) (sym (piece-none text (shebang-is text h)))
    ∙ ap (λ s. frontmatter_leaf text s) (source-is text h)
    ∙ bare-leaf text

pub all-content : (text : List ℕ) → starts_plain text ≡ true → content text ≡ text
unfolding content
all-content text h = ap (λ s. content_of text s) (source-is text h) ∙ bare-content text ∙ after-same text h

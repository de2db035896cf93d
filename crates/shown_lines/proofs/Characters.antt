-- What is shown of a line, one character after another.
use Rattle.std.proofs.Common.{◌≡◌, ◌∙◌, ℕ, ◌+◌, ◌-◌, ◌<◌, ◌≤◌, ◌==◌, ◌++◌, List, [], ◌∷◌, length, drop, get_or, false, refl, ap, sym, append_assoc, append-nil, encode_utf8, if◌then◌else◌, eqb}
use Rattle.std.specs.Char.{len_utf8}
use Rattle.std.proofs.lemmas.List.{at_drop_more, at_drop_all}
use Rattle.shown_lines.specs.Shown.{below, caret_line, visible, visible_line}

-- the character with a number begins what is left
here : {A : Type 0} (f : List ℕ → A) (cs : List ℕ) (n c : ℕ) → (n < length cs) × (c ≡ get_or cs n c) → f (drop n cs) ≡ f (c ∷ drop (n + 1) cs)
here f cs n c h = at_drop_more f cs n c h.0 ∙ ap (λ (x : ℕ). f (x ∷ drop (n + 1) cs)) (sym h.1)

pub line-more :
    (text front : List ℕ) (cs : List ℕ) (n c : ℕ) → (n < length cs) × (c ≡ get_or cs n c)
    → text ≡ front ++ encode_utf8 (visible c)
    → text ++ visible_line (drop (n + 1) cs) ≡ front ++ visible_line (drop n cs)
line-more text front cs n c h e =
    rw (e, append_assoc) (ap (λ (l : List ℕ). front ++ l) (sym (here visible_line cs n c h)))

pub line-end : (text cs : List ℕ) (n : ℕ) → length cs ≤ n → text ++ visible_line (drop n cs) ≡ text
line-end text cs n h = ap (λ (l : List ℕ). text ++ l) (at_drop_all visible_line cs n h) ∙ append-nil text

caret-nil : (col : ℕ) → caret_line col [] ≡ []
unfolding caret_line
caret-nil col = refl

caret-cons :
    (col c : ℕ) (cs : List ℕ)
    → caret_line col (c ∷ cs) ≡ (if col == 0 then [] else below c ++ caret_line (col - len_utf8 c) cs)
unfolding caret_line
caret-cons col c cs = refl

pub caret-more :
    (text front : List ℕ) (col : ℕ) (cs : List ℕ) (n c : ℕ) → (n < length cs) × (c ≡ get_or cs n c) → eqb col 0 ≡ false
    → text ≡ front ++ below c
    → text ++ caret_line (col - len_utf8 c) (drop (n + 1) cs) ≡ front ++ caret_line col (drop n cs)
caret-more text front col cs n c h left e =
    let step : caret_line col (drop n cs) ≡ below c ++ caret_line (col - len_utf8 c) (drop (n + 1) cs) =
    here (caret_line col) cs n c h ∙ caret-cons col c (drop (n + 1) cs) ∙ rw left refl in
    rw (e, append_assoc) (ap (λ (l : List ℕ). front ++ l) (sym step))

pub caret-end : (text cs : List ℕ) (col n : ℕ) → length cs ≤ n → text ++ caret_line col (drop n cs) ≡ text
caret-end text cs col n h =
    ap (λ (l : List ℕ). text ++ l) (at_drop_all (caret_line col) cs n h ∙ caret-nil col) ∙ append-nil text

pub caret-stop : (text cs : List ℕ) → text ++ caret_line 0 cs ≡ text
caret-stop text [] = rw (caret-nil 0) (append-nil text)
caret-stop text (c ∷ cs) = rw (caret-cons 0 c cs) (append-nil text)

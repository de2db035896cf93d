-- No leaf of a preface starts as a name does: so a name's token is in the content.
use Rattle.std.proofs.Common.{◌≡◌, ℕ, zero, suc, ◌-◌, ◌≤◌, Bool, true, false, ◌==◌, nat_lt, List, [], ◌∷◌, ◌++◌, length, take, drop, Option, Some, None, is_some, length-drop, refl, sym, ◌∙◌, ap, subst, arith, inl, inr, if◌then◌else◌}
use Rattle.std.specs.List.{list_all}
use Rattle.std.proofs.lemmas.Bool.{eqb-true, and_parts}
use Rattle.rustc_lexer.specs.Characters.{is_whitespace, is_id_start, is_id_continue, is_ident}
use Rattle.rustc_lexer.specs.Scan.{peek, run_len}
use Rattle.rustc_lexer.specs.Shebang.{line_len, has_shebang, shebang}
use Rattle.rustc_lexer.proofs.Booleans.{bool_cases}
use Rattle.rustc_lexer.proofs.Lines.{shebang-none}
use Rattle.rustc_lexer.proofs.Steps.{run-false}
use Rattle.parser_input.specs.Kinds.{FRONTMATTER}
use Rattle.parser_input.specs.Lexed.{Lexed, quiet, shebang_leaf, frontmatter_leaf, preface, content, cut, lexed}
use Rattle.parser_input.specs.Lines.{dash, blank_len, after_line, dashes}
use Rattle.parser_input.specs.Preface.{piece, shebang_piece, after_shebang, opening_line, closing_line, source}
use Rattle.parser_input.specs.declared.edition.Edition.{Edition}
use Rattle.plain_names.specs.LeafNames.{texts}
use Rattle.plain_names.proofs.Names.{start-hash, start-dash, white-starts-none}
use Rattle.plain_names.proofs.Prefaces.{after-here, after-goes, after-short, closing-short, blank-ends, leaf_by, leaf-is}

-- the leaf has a character, and starts no name
record NoName (l : Lexed) : Type 0 where
  first : ℕ
  rest : List ℕ
  text : l.leaf.text ≡ first ∷ rest
  starts : is_id_start first ≡ false

abbrev AllNoName : List Lexed → Type 0
AllNoName [] = Unit {0}
AllNoName (l ∷ ls) = NoName l × AllNoName ls

no-names-both : (xs ys : List Lexed) → AllNoName xs → AllNoName ys → AllNoName (xs ++ ys)
no-names-both [] ys a b = b
no-names-both (x ∷ xs) ys a b = (a.0, no-names-both xs ys a.1 b)

-- ---- the shebang

line-goes : (c : ℕ) (cs : List ℕ) → c ≡ 35 → line_len (c ∷ cs) ≡ suc (line_len cs)
unfolding line_len
line-goes c cs e = subst (λ (x : ℕ). line_len (x ∷ cs) ≡ suc (line_len cs)) (sym e) refl

shebang-starts : (k : ℕ) (text : List ℕ) → has_shebang text ≡ true → NoName (quiet k (take (line_len text) text))
shebang-starts k [] h = absurd (let z : false ≡ true = h in cc)
shebang-starts k (c ∷ cs) h =
    let one : c ≡ 35 = eqb-true c 35 (and_parts (c == 35) (peek 1 (c ∷ cs) == 33) h).0 in
    record {
      first = c;
      rest = take (line_len cs) cs;
      text = ap (λ n. take n (c ∷ cs)) (line-goes c cs one);
      starts = ap is_id_start one ∙ start-hash;
    }

shebang-no-name : (text : List ℕ) → AllNoName (shebang_leaf (shebang_piece text))
unfolding shebang_piece
shebang-no-name text = by_test (is_some (shebang text)) refl
  where
    by_test : (b : Bool) → is_some (shebang text) ≡ b → AllNoName (shebang_leaf (if b then Some (piece text text (line_len text)) else None))
    by_test false e = tt
    by_test true e = (
      elim (bool_cases (has_shebang text)) [
        | inl h ↦ shebang-starts _ text h
        | inr h ↦ let z : false ≡ true = sym (ap is_some (shebang-none text h)) ∙ e in absurd (cc)
      ],
      tt,
    )

-- ---- the frontmatter

after-less : (c : ℕ) (cs : List ℕ) → length (after_line (c ∷ cs)) ≤ length cs
after-less c cs = elim (bool_cases (c == 10)) [
  | inl h ↦ let e = ap length (after-here c cs h) in omega (arith, e)
  | inr h ↦ let e = ap length (after-goes c cs h) in omega (arith, e, after-short cs)
]

-- a line that opens a frontmatter has a character
opening-less : (xs : List ℕ) → (dashes xs == 0) ≡ false → suc (length (after_line xs)) ≤ length xs
unfolding dashes run_len
opening-less [] h = let z : true ≡ false = h in absurd (cc)
opening-less (c ∷ cs) h = omega (arith, after-less c cs)

no-dashes : (c : ℕ) (cs : List ℕ) → (c == dash) ≡ false → (dashes (c ∷ cs) == 0) ≡ true
unfolding dashes
no-dashes c cs h = ap (λ (n : ℕ). n == 0) (run-false (λ x. x == dash) c cs h)

-- what is left after a shebang starts with whitespace or with a dash
starts-none : (c : ℕ) (cs : List ℕ) → (dashes (drop (blank_len (c ∷ cs)) (c ∷ cs)) == 0) ≡ false → is_id_start c ≡ false
starts-none c cs h = elim (bool_cases (is_whitespace c)) [
  | inl w ↦ white-starts-none c w
  | inr w ↦ elim (bool_cases (c == dash)) [
    | inl d ↦ ap is_id_start (eqb-true c dash d) ∙ start-dash
    | inr d ↦
        let z : true ≡ false = sym (no-dashes c cs d) ∙ ap (λ n. dashes (drop n (c ∷ cs)) == 0) (sym (blank-ends c cs w)) ∙ h in
        absurd (cc)
  ]
]

frontmatter-starts : (w : List ℕ) → let o = drop (blank_len w) w in AllNoName (leaf_by (dashes o) w (closing_line (dashes o) true (after_line o)))
unfolding leaf_by
frontmatter-starts w =
    let o = drop (blank_len w) w in
    by_tests (dashes o == 0) (nat_lt (dashes o) 3) (closing_line (dashes o) true (after_line o)) refl refl
  where
    inside : (w : List ℕ) (z : List ℕ) → let o = drop (blank_len w) w in (dashes o == 0) ≡ false → closing_line (dashes o) true (after_line o) ≡ Some z
        → (k : ℕ) → NoName (quiet k (take (length w - length (after_line z)) w))
    inside [] z h e k =
        let o = drop (blank_len []) [] in
        let less = opening-less o h in
        let size = length-drop (blank_len []) (let none : List ℕ = [] in none) in
        absurd (omega (arith, less, size))
    inside (c ∷ cs) z h e k =
        let o = drop (blank_len (c ∷ cs)) (c ∷ cs) in
        let less = opening-less o h in
        let size = length-drop (blank_len (c ∷ cs)) (c ∷ cs) in
        let closes = closing-short (dashes o) true (after_line o) z e in
        let after = after-short z in
        let m = length cs - length (after_line z) in
        let count : length (c ∷ cs) - length (after_line z) ≡ suc m = omega (arith, less, size, closes, after) in
        record {
          first = c;
          rest = take m cs;
          text = ap (λ n. take n (c ∷ cs)) count;
          starts = starts-none c cs h;
        }

    by_tests : (a b : Bool) (line : Option (List ℕ)) → (dashes (drop (blank_len w) w) == 0) ≡ a
        → closing_line (dashes (drop (blank_len w) w)) true (after_line (drop (blank_len w) w)) ≡ line
        → AllNoName (if a then [] else if b then [] else elim line [ None ↦ [] | Some z ↦ quiet FRONTMATTER (take (length w - length (after_line z)) w) ∷ [] ])
    by_tests true b line p q = tt
    by_tests false true line p q = tt
    by_tests false false None p q = tt
    by_tests false false (Some z) p q = (inside w z p q FRONTMATTER, tt)

frontmatter-no-name : (text : List ℕ) → AllNoName (frontmatter_leaf text (source text))
unfolding opening_line
frontmatter-no-name text = subst AllNoName (sym (leaf-is text)) (frontmatter-starts (after_shebang text))

preface-no-name : (text : List ℕ) → AllNoName (preface text)
unfolding preface
preface-no-name text = no-names-both (shebang_leaf (shebang_piece text)) (frontmatter_leaf text (source text)) (shebang-no-name text) (frontmatter-no-name text)

-- ---- names

-- a text that starts with a name's token starts with the name
name-starts-text : (c : ℕ) (cs name : List ℕ) → is_ident name ≡ true → (more : List ℕ) → c ∷ cs ≡ name ++ more → is_id_start c ≡ true
unfolding is_ident
name-starts-text c cs [] i more e = absurd (let z : false ≡ true = i in cc)
name-starts-text c cs (x ∷ name) i more e =
    let one : c ≡ x = cc in
    ap is_id_start one ∙ (and_parts (is_id_start x) (list_all is_id_continue name) i).0

past : (p c : List Lexed) → AllNoName p → (n : ℕ) (name more : List ℕ) → is_ident name ≡ true → texts (drop n (p ++ c)) ≡ name ++ more → length p ≤ n
past [] c a n name more i e = omega arith
past (l ∷ p) c a zero name more i e =
    let starts = name-starts-text a.0.first (a.0.rest ++ texts (p ++ c)) name i more (ap (λ t. t ++ texts (p ++ c)) (sym a.0.text) ∙ e) in
    let z : true ≡ false = sym starts ∙ a.0.starts in
    absurd (cc)
past (l ∷ p) c a (suc n) name more i e = let m = past p c a.1 n name more i e in omega (arith, m)

-- The index of a name's leaf is not below the number of the preface's leaves.
pub in-content : (e : Edition) (text : List ℕ) (n : ℕ) (name more : List ℕ) → is_ident name ≡ true → texts (drop n (lexed e text)) ≡ name ++ more → length (preface text) ≤ n
unfolding lexed
in-content e text n name more i h = past (preface text) (cut e 0 (content text)) (preface-no-name text) n name more i h

-- The preface of a text does not depend on the identifiers after it.
use Rattle.std.proofs.Common.{◌≡◌, ℕ, zero, suc, ◌+◌, ◌-◌, ◌<◌, ◌≤◌, nat_lt, Bool, true, false, not, ◌&&◌, ◌||◌, ◌==◌, List, [], ◌∷◌, ◌++◌, length, take, drop, length-append, length-drop, refl, sym, ◌∙◌, ap, subst, arith, inl, inr, ◌⊎◌, eqb-true, Option, Some, None, is_some, if◌then◌else◌}
use Rattle.std.specs.List.{list_all}
use Rattle.std.proofs.lemmas.List.{drop-append-le}
use Rattle.std.proofs.Math.Seq.{take-append-add}
use Rattle.rustc_lexer.specs.Characters.{line_feed, exclamation, hash, size, is_whitespace, is_horizontal_whitespace, is_id_start, is_id_continue, is_ident}
use Rattle.rustc_lexer.specs.Scan.{peek}
use Rattle.rustc_lexer.specs.Shebang.{opens_attribute, ends_line, line_len, has_shebang, shebang}
use Rattle.rustc_lexer.specs.Tokens.{token_list, first_lexeme}
use Rattle.plain_names.specs.TokenNames.{name_lexeme}
use Rattle.rustc_lexer.proofs.Agree.{lt_or_ge}
use Rattle.rustc_lexer.proofs.Booleans.{bool_cases, and_left, and_right}
use Rattle.plain_names.proofs.Names.{other-than, start-line_feed, start-hash, start-return, start-dash, start-tab, start-space, no-white}
use Rattle.plain_names.proofs.Blind.{take-front, run_len-blind}
use Rattle.plain_names.proofs.Shebangs.{run-within, start-exclamation, not-code, continue-feed, attributes-same}
use Rattle.parser_input.specs.Kinds.{FRONTMATTER}
use Rattle.parser_input.specs.Lines.{dash, one_more, blank_len, first_line, after_line, dashes, is_fence}
use Rattle.parser_input.specs.Preface.{after_shebang, shebang_piece, opening_line, closing_line, bare, fenced, enclosed, source}
use Rattle.parser_input.specs.Lexed.{Lexed, quiet, shebang_leaf, content_of, content, frontmatter_leaf, preface}

-- a line, step by step
line-ended : (c : ℕ) (cs : List ℕ) → ends_line c (peek 0 cs) ≡ true → line_len (c ∷ cs) ≡ 0
unfolding line_len
line-ended c cs h = rw (h, line_len)

line-goes : (c : ℕ) (cs : List ℕ) → ends_line c (peek 0 cs) ≡ false → line_len (c ∷ cs) ≡ suc (line_len cs)
unfolding line_len
line-goes c cs h = rw (h, line_len)

blank-goes : (c : ℕ) (cs : List ℕ) → is_whitespace c ≡ true → blank_len (c ∷ cs) ≡ one_more (c == line_feed) (blank_len cs)
unfolding blank_len
blank-goes c cs h = rw (h, blank_len)

pub blank-ends : (c : ℕ) (cs : List ℕ) → is_whitespace c ≡ false → blank_len (c ∷ cs) ≡ 0
unfolding blank_len
blank-ends c cs h = rw (h, blank_len)

pub after-here : (c : ℕ) (cs : List ℕ) → (c == line_feed) ≡ true → after_line (c ∷ cs) ≡ cs
unfolding after_line
after-here c cs h = rw (h, after_line) refl

pub after-goes : (c : ℕ) (cs : List ℕ) → (c == line_feed) ≡ false → after_line (c ∷ cs) ≡ after_line cs
unfolding after_line
after-goes c cs h = rw (h, after_line) refl

pub after-short : (cs : List ℕ) → length (after_line cs) ≤ length cs
unfolding after_line
after-short [] = omega arith
after-short (c ∷ cs) = elim (bool_cases (c == line_feed)) [
  | inl h ↦ omega (arith, ap length (after-here c cs h))
  | inr h ↦ let ih = after-short cs in omega (arith, ap length (after-goes c cs h), ih)
]

closing-found : (n : ℕ) (starts : Bool) (c : ℕ) (cs : List ℕ) → (starts && is_fence n (first_line (c ∷ cs))) ≡ true → closing_line n starts (c ∷ cs) ≡ Some (c ∷ cs)
unfolding closing_line
closing-found n starts c cs h = rw (h, closing_line) refl

closing-goes : (n : ℕ) (starts : Bool) (c : ℕ) (cs : List ℕ) → (starts && is_fence n (first_line (c ∷ cs))) ≡ false → closing_line n starts (c ∷ cs) ≡ closing_line n (c == line_feed) cs
unfolding closing_line
closing-goes n starts c cs h = rw (h, closing_line) refl

some-same : {a b : List ℕ} → Some a ≡ Some b → a ≡ b
some-same {a} {b} e = cc

none-some : {a : List ℕ} → None ≡ Some a → ⊥
none-some {a} e = absurd (cc)

pub closing-short : (n : ℕ) (starts : Bool) (cs z : List ℕ) → closing_line n starts cs ≡ Some z → length z ≤ length cs
unfolding closing_line
closing-short n starts [] z e = absurd (none-some e)
closing-short n starts (c ∷ cs) z e = elim (bool_cases (starts && is_fence n (first_line (c ∷ cs)))) [
  | inl h ↦ let same = some-same (sym (closing-found n starts c cs h) ∙ e) in omega (arith, ap length same)
  | inr h ↦ let ih = closing-short n (c == line_feed) cs z (sym (closing-goes n starts c cs h) ∙ e) in omega (arith, ih)
]

-- a line with a character that is no tab and no space
not-all : (p : ℕ → Bool) (v : List ℕ) (z : ℕ) (t : List ℕ) → p z ≡ false → list_all p (v ++ z ∷ t) ≡ false
not-all p [] z t none = ap (λ b. b && list_all p t) none
not-all p (c ∷ v) z t none = ap (λ b. p c && b) (not-all p v z t none) ∙ and-false (p c)
  where
    and-false : (a : Bool) → (a && false) ≡ false
    and-false true = refl
    and-false false = refl

take-more : (m : ℕ) (w : List ℕ) (z : ℕ) (zs : List ℕ) → length w < m → take m (w ++ z ∷ zs) ≡ w ++ z ∷ take (m - suc (length w)) zs
take-more m w z zs h =
    ap (λ k. take k (w ++ z ∷ zs)) (let e : m ≡ length w + suc (m - suc (length w)) = omega (arith, h) in e) ∙ take-append-add w (z ∷ zs) (suc (m - suc (length w)))

and-second : (a b : Bool) → b ≡ false → (a && b) ≡ false
and-second true b h = h
and-second false b h = refl

-- a line that goes on over a name is no fence
pub fence-none : (n : ℕ) (w : List ℕ) (z : ℕ) (zs : List ℕ) → is_id_start z ≡ true → length w < line_len (w ++ z ∷ zs) → is_fence n (first_line (w ++ z ∷ zs)) ≡ false
unfolding is_fence is_horizontal_whitespace dashes
fence-none n w z zs sz h =
    let m = line_len (w ++ z ∷ zs) in
    let t = take (m - suc (length w)) zs in
    let line : first_line (w ++ z ∷ zs) ≡ w ++ z ∷ t = take-more m w z zs h in
    let none : is_horizontal_whitespace z ≡ false = ap (λ b. b || (z == 32)) (other-than 9 z start-tab sz) ∙ other-than 32 z start-space sz in
    ap (λ l. is_fence n l) line ∙ elim (bool_cases (dashes (w ++ z ∷ t) == n)) [
      | inr f ↦ ap (λ b. b && list_all is_horizontal_whitespace (drop n (w ++ z ∷ t))) f
      | inl f ↦
          let short = run-within (λ c. c == dash) w z t (other-than dash z start-dash sz) in
          let within : n ≤ length w = omega (arith, eqb-true (dashes (w ++ z ∷ t)) n f, short) in
          and-second (dashes (w ++ z ∷ t) == n) _ (ap (λ l. list_all is_horizontal_whitespace l) (drop-append-le n w (z ∷ t) within) ∙ not-all is_horizontal_whitespace (drop n w) z t none)
    ]

or-first : (a b : Bool) → (a || b) ≡ false → a ≡ false
or-first false b h = refl
or-first true b h = let w : true ≡ false = h in cc

-- what a text gives by the dashes of its opening line and the line that closes
unfoldable content_by : ℕ → List ℕ → Option (List ℕ) → List ℕ
content_by n rest o = if n == 0 then rest else if nat_lt n 3 then rest else elim o [ None ↦ rest | Some z ↦ after_line z ]

unfoldable pub leaf_by : ℕ → List ℕ → Option (List ℕ) → List Lexed
leaf_by n rest o =
    if n == 0 then [] else if nat_lt n 3 then []
    else elim o [ None ↦ [] | Some z ↦ quiet FRONTMATTER (take (length rest - length (after_line z)) rest) ∷ [] ]

abbrev pub closing_of : List ℕ → Option (List ℕ)
closing_of text = closing_line (dashes (opening_line text)) true (after_line (opening_line text))

enclosed-content : (text : List ℕ) (n : ℕ) (o : Option (List ℕ)) → content_of text (enclosed text n o) ≡ elim o [ None ↦ after_shebang text | Some z ↦ after_line z ]
unfolding fenced
enclosed-content text n None = refl
enclosed-content text n (Some z) = refl

enclosed-leaf : (text : List ℕ) (n : ℕ) (o : Option (List ℕ)) → frontmatter_leaf text (enclosed text n o) ≡ elim o [ None ↦ [] | Some z ↦ quiet FRONTMATTER (take (length (after_shebang text) - length (after_line z)) (after_shebang text)) ∷ [] ]
unfolding fenced
enclosed-leaf text n None = refl
enclosed-leaf text n (Some z) = refl

content-is : (text : List ℕ) → content text ≡ content_by (dashes (opening_line text)) (after_shebang text) (closing_of text)
unfolding content source content_by bare
content-is text = by_tests (dashes (opening_line text) == 0) (nat_lt (dashes (opening_line text)) 3) refl refl
  where
    by_tests : (a b : Bool) → (dashes (opening_line text) == 0) ≡ a → nat_lt (dashes (opening_line text)) 3 ≡ b → content_of text (source text) ≡ content_by (dashes (opening_line text)) (after_shebang text) (closing_of text)
    by_tests true b p q = rw p refl
    by_tests false true p q = rw (p, q) refl
    by_tests false false p q = rw (p, q) (enclosed-content text (dashes (opening_line text)) (closing_of text))

pub leaf-is : (text : List ℕ) → frontmatter_leaf text (source text) ≡ leaf_by (dashes (opening_line text)) (after_shebang text) (closing_of text)
unfolding source leaf_by bare
leaf-is text = by_tests (dashes (opening_line text) == 0) (nat_lt (dashes (opening_line text)) 3) refl refl
  where
    by_tests : (a b : Bool) → (dashes (opening_line text) == 0) ≡ a → nat_lt (dashes (opening_line text)) 3 ≡ b → frontmatter_leaf text (source text) ≡ leaf_by (dashes (opening_line text)) (after_shebang text) (closing_of text)
    by_tests true b p q = rw p refl
    by_tests false true p q = rw (p, q) refl
    by_tests false false p q = rw (p, q) (enclosed-leaf text (dashes (opening_line text)) (closing_of text))

module _ (x y : ℕ) (nm om s : List ℕ) (sx : is_id_start x ≡ true) (sy : is_id_start y ≡ true) (ax : list_all is_id_continue nm ≡ true) (ay : list_all is_id_continue om ≡ true) where
  -- Lines.

  end-none : (z : ℕ) (zs : List ℕ) → is_id_start z ≡ true → ends_line z (peek 0 zs) ≡ false
  end-none z zs sz = ap (λ b. b || (z == 13 && peek 0 zs == line_feed)) (other-than line_feed z start-line_feed sz) ∙ ap (λ b. b && peek 0 zs == line_feed) (other-than 13 z start-return sz)

  end-same : (c : ℕ) (u : List ℕ) → ends_line c (peek 0 (u ++ (y ∷ om ++ s))) ≡ ends_line c (peek 0 (u ++ (x ∷ nm ++ s)))
  end-same c [] = ap (λ b. c == line_feed || (c == 13 && b)) (other-than line_feed y start-line_feed sy ∙ sym (other-than line_feed x start-line_feed sx))
  end-same c (d ∷ u) = refl

  line-same : (u : List ℕ) → line_len (u ++ (x ∷ nm ++ s)) ≤ length u → line_len (u ++ (y ∷ om ++ s)) ≡ line_len (u ++ (x ∷ nm ++ s))
  line-same [] h = absurd (omega (arith, line-goes x (nm ++ s) (end-none x (nm ++ s) sx), h))
  line-same (c ∷ u) h = elim (bool_cases (ends_line c (peek 0 (u ++ (x ∷ nm ++ s))))) [
    | inl e ↦ line-ended c (u ++ (y ∷ om ++ s)) (end-same c u ∙ e) ∙ sym (line-ended c (u ++ (x ∷ nm ++ s)) e)
    | inr e ↦
        let goes = line-goes c (u ++ (x ∷ nm ++ s)) e in
        line-goes c (u ++ (y ∷ om ++ s)) (end-same c u ∙ e) ∙ ap suc (line-same u (omega (arith, goes, h))) ∙ sym goes
  ]

  -- a line that goes on over the one name goes on over the other
  line-beyond : (u : List ℕ) → length u < line_len (u ++ (x ∷ nm ++ s)) → length u < line_len (u ++ (y ∷ om ++ s))
  line-beyond [] h = omega (arith, line-goes y (om ++ s) (end-none y (om ++ s) sy))
  line-beyond (c ∷ u) h = elim (bool_cases (ends_line c (peek 0 (u ++ (x ∷ nm ++ s))))) [
    | inl e ↦ absurd (omega (arith, line-ended c (u ++ (x ∷ nm ++ s)) e, h))
    | inr e ↦
        let goes = line-goes c (u ++ (x ∷ nm ++ s)) e in
        let ih = line-beyond u (omega (arith, goes, h)) in
        omega (arith, line-goes c (u ++ (y ∷ om ++ s)) (end-same c u ∙ e), ih)
  ]

  blank-same : (u : List ℕ) → blank_len (u ++ (y ∷ om ++ s)) ≡ blank_len (u ++ (x ∷ nm ++ s))
  blank-same [] = blank-ends y (om ++ s) (no-white y sy) ∙ sym (blank-ends x (nm ++ s) (no-white x sx))
  blank-same (c ∷ u) = elim (bool_cases (is_whitespace c)) [
    | inl e ↦ blank-goes c (u ++ (y ∷ om ++ s)) e ∙ ap (λ n. one_more (c == line_feed) n) (blank-same u) ∙ sym (blank-goes c (u ++ (x ∷ nm ++ s)) e)
    | inr e ↦ blank-ends c (u ++ (y ∷ om ++ s)) e ∙ sym (blank-ends c (u ++ (x ∷ nm ++ s)) e)
  ]

  one-more-most : (b : Bool) (n : ℕ) → one_more b n ≤ suc n
  unfolding one_more
  one-more-most true zero = omega arith
  one-more-most false zero = omega arith
  one-more-most b (suc n) = omega arith

  blank-within : (u : List ℕ) → blank_len (u ++ (x ∷ nm ++ s)) ≤ length u
  blank-within [] = omega (arith, blank-ends x (nm ++ s) (no-white x sx))
  blank-within (c ∷ u) = elim (bool_cases (is_whitespace c)) [
    | inl e ↦ let ih = blank-within u in omega (arith, blank-goes c (u ++ (x ∷ nm ++ s)) e, one-more-most (c == line_feed) (blank_len (u ++ (x ∷ nm ++ s))), ih)
    | inr e ↦ omega (arith, blank-ends c (u ++ (x ∷ nm ++ s)) e)
  ]

  dashes-same : (u : List ℕ) → dashes (u ++ (y ∷ om ++ s)) ≡ dashes (u ++ (x ∷ nm ++ s))
  unfolding dashes
  dashes-same u =
      let p : ℕ → Bool = λ c. c == dash in
      run_len-blind x y (nm ++ s) (om ++ s) sx sy p (other-than dash y start-dash sy ∙ sym (other-than dash x start-dash sx)) u (run-within p u x (nm ++ s) (other-than dash x start-dash sx))

  fence-same : (n : ℕ) (u : List ℕ) → is_fence n (first_line (u ++ (y ∷ om ++ s))) ≡ is_fence n (first_line (u ++ (x ∷ nm ++ s)))
  fence-same n u = elim (lt_or_ge (length u) (line_len (u ++ (x ∷ nm ++ s)))) [
    | inl h ↦ fence-none n u y (om ++ s) sy (line-beyond u h) ∙ sym (fence-none n u x (nm ++ s) sx h)
    | inr h ↦
        let m = line_len (u ++ (x ∷ nm ++ s)) in
        ap (λ l. is_fence n l)
        (ap (λ k. take k (u ++ (y ∷ om ++ s))) (line-same u h) ∙ take-front m u (y ∷ om ++ s) h ∙ sym (take-front m u (x ∷ nm ++ s) h))
  ]

  -- The line that closes: none, one that begins before the names, or one after them.

  record Before (a b : Option (List ℕ)) (most : ℕ) : Type 0 where
    line : List ℕ
    a_is : a ≡ Some (line ++ (x ∷ nm ++ s))
    b_is : b ≡ Some (line ++ (y ∷ om ++ s))
    ended : line_len (line ++ (x ∷ nm ++ s)) ≤ length line
    short : length line ≤ most

  record After (a b : Option (List ℕ)) : Type 0 where
    line : List ℕ
    a_is : a ≡ Some line
    b_is : b ≡ Some line
    short : length line ≤ length s

  abbrev Closed : Option (List ℕ) → Option (List ℕ) → ℕ → Type 0
  Closed a b most = ((a ≡ None) × (b ≡ None)) ⊎ (Before a b most ⊎ After a b)

  over-rest : (n : ℕ) (w : List ℕ) → list_all is_id_continue w ≡ true → closing_line n false (w ++ s) ≡ closing_line n false s
  over-rest n [] all = refl
  over-rest n (c ∷ w) all =
      closing-goes n false c (w ++ s) refl ∙ ap (λ b. closing_line n b (w ++ s)) (not-code line_feed c continue-feed (and_left (is_id_continue c) (list_all is_id_continue w) all))
      ∙ over-rest n w (and_right (is_id_continue c) (list_all is_id_continue w) all)

  over-name : (n : ℕ) (starts : Bool) (z : ℕ) (w : List ℕ) → is_id_start z ≡ true → list_all is_id_continue w ≡ true → closing_line n starts (z ∷ w ++ s) ≡ closing_line n false s
  over-name n starts z w sz all =
      let none : is_fence n (first_line (z ∷ w ++ s)) ≡ false = fence-none n [] z (w ++ s) sz (omega (arith, line-goes z (w ++ s) (end-none z (w ++ s) sz))) in
      closing-goes n starts z (w ++ s) (and-second starts _ none) ∙ ap (λ b. closing_line n b (w ++ s)) (other-than line_feed z start-line_feed sz) ∙ over-rest n w all

  after-names : (n : ℕ) (o a b : Option (List ℕ)) (most : ℕ) (starts : Bool) (t : List ℕ) → closing_line n starts t ≡ o → length t ≤ length s → a ≡ o → b ≡ o → Closed a b most
  after-names n None a b most starts t is le p q = inl (p, q)
  after-names n (Some z) a b most starts t is le p q = inr (inr record { line = z; a_is = p; b_is = q; short = let l = closing-short n starts t z is in omega (arith, l, le) })

  more : {a b : Option (List ℕ)} (n m : ℕ) → n ≤ m → Closed a b n → Closed a b m
  more n m le (inl h) = inl h
  more n m le (inr (inl h)) = inr (inl record { line = h.line; a_is = h.a_is; b_is = h.b_is; ended = h.ended; short = omega (arith, h.short, le) })
  more n m le (inr (inr h)) = inr (inr h)

  fence-ends : (n : ℕ) (u : List ℕ) → is_fence n (first_line (u ++ (x ∷ nm ++ s))) ≡ true → line_len (u ++ (x ∷ nm ++ s)) ≤ length u
  fence-ends n u h = elim (lt_or_ge (length u) (line_len (u ++ (x ∷ nm ++ s)))) [
    | inr g ↦ g
    | inl g ↦ let w : true ≡ false = sym h ∙ fence-none n u x (nm ++ s) sx g in cc
  ]

  closing-same : (n : ℕ) (starts : Bool) (u : List ℕ) → Closed (closing_line n starts (u ++ (x ∷ nm ++ s))) (closing_line n starts (u ++ (y ∷ om ++ s))) (length u)
  closing-same n starts [] = after-names n (closing_line n false s) _ _ 0 false s refl (omega arith) (over-name n starts x nm sx ax) (over-name n starts y om sy ay)
  closing-same n starts (c ∷ u) =
      let same : (starts && is_fence n (first_line (c ∷ u ++ (y ∷ om ++ s)))) ≡ (starts && is_fence n (first_line (c ∷ u ++ (x ∷ nm ++ s)))) = ap (λ b. starts && b) (fence-same n (c ∷ u)) in
      elim (bool_cases (starts && is_fence n (first_line (c ∷ u ++ (x ∷ nm ++ s))))) [
        | inl h ↦ inr (inl record {
          line = c ∷ u;
          a_is = closing-found n starts c (u ++ (x ∷ nm ++ s)) h;
          b_is = closing-found n starts c (u ++ (y ∷ om ++ s)) (same ∙ h);
          ended = fence-ends n (c ∷ u) (and_right starts (is_fence n (first_line (c ∷ u ++ (x ∷ nm ++ s)))) h);
          short = omega arith;
        })
        | inr h ↦
            let P : Option (List ℕ) → Type 0 = λ a. Closed a (closing_line n starts (c ∷ u ++ (y ∷ om ++ s))) (suc (length u)) in
            let Q : Option (List ℕ) → Type 0 = λ b. Closed (closing_line n (c == line_feed) (u ++ (x ∷ nm ++ s))) b (suc (length u)) in
            subst P (sym (closing-goes n starts c (u ++ (x ∷ nm ++ s)) h)) (subst Q (sym (closing-goes n starts c (u ++ (y ∷ om ++ s)) (same ∙ h))) (more (length u) (suc (length u)) (omega arith) (closing-same n (c == line_feed) u)))
      ]

  -- the text after a line
  record Rest (u : List ℕ) : Type 0 where
    left : List ℕ
    a_is : after_line (u ++ (x ∷ nm ++ s)) ≡ left ++ (x ∷ nm ++ s)
    b_is : after_line (u ++ (y ∷ om ++ s)) ≡ left ++ (y ∷ om ++ s)
    short : length left ≤ length u

  feed-next : (u : List ℕ) → (peek 0 (u ++ (x ∷ nm ++ s)) == line_feed) ≡ true → line_len (u ++ (x ∷ nm ++ s)) ≤ length u
  feed-next [] h = let w : true ≡ false = sym h ∙ other-than line_feed x start-line_feed sx in cc
  feed-next (d ∷ v) h = omega (arith, line-ended d (v ++ (x ∷ nm ++ s)) (ap (λ b. b || (d == 13 && peek 0 (v ++ (x ∷ nm ++ s)) == line_feed)) h))

  further : (c : ℕ) (u : List ℕ) → (c == line_feed) ≡ false → line_len (c ∷ u ++ (x ∷ nm ++ s)) ≤ suc (length u) → line_len (u ++ (x ∷ nm ++ s)) ≤ length u
  further c u none h = elim (bool_cases (ends_line c (peek 0 (u ++ (x ∷ nm ++ s))))) [
    | inl e ↦ feed-next u (and_right (c == 13) (peek 0 (u ++ (x ∷ nm ++ s)) == line_feed) (sym (ap (λ b. b || (c == 13 && peek 0 (u ++ (x ∷ nm ++ s)) == line_feed)) none) ∙ e))
    | inr e ↦ omega (arith, line-goes c (u ++ (x ∷ nm ++ s)) e, h)
  ]

  after-within : (u : List ℕ) → line_len (u ++ (x ∷ nm ++ s)) ≤ length u → Rest u
  after-within [] h = absurd (omega (arith, line-goes x (nm ++ s) (end-none x (nm ++ s) sx), h))
  after-within (c ∷ u) h = elim (bool_cases (c == line_feed)) [
    | inl e ↦ record { left = u; a_is = after-here c (u ++ (x ∷ nm ++ s)) e; b_is = after-here c (u ++ (y ∷ om ++ s)) e; short = omega arith }
    | inr e ↦
        let ih = after-within u (further c u e h) in
        record {
          left = ih.left;
          a_is = after-goes c (u ++ (x ∷ nm ++ s)) e ∙ ih.a_is;
          b_is = after-goes c (u ++ (y ∷ om ++ s)) e ∙ ih.b_is;
          short = let l = ih.short in omega (arith, l);
        }
  ]

  no-feed-rest : (w : List ℕ) → list_all is_id_continue w ≡ true → after_line (w ++ s) ≡ after_line s
  no-feed-rest [] all = refl
  no-feed-rest (c ∷ w) all =
      after-goes c (w ++ s) (not-code line_feed c continue-feed (and_left (is_id_continue c) (list_all is_id_continue w) all)) ∙ no-feed-rest w (and_right (is_id_continue c) (list_all is_id_continue w) all)

  -- no line ends before the names
  after-beyond : (u : List ℕ) → length u < line_len (u ++ (x ∷ nm ++ s)) → (after_line (u ++ (x ∷ nm ++ s)) ≡ after_line s) × (after_line (u ++ (y ∷ om ++ s)) ≡ after_line s)
  after-beyond [] h = (after-goes x (nm ++ s) (other-than line_feed x start-line_feed sx) ∙ no-feed-rest nm ax, after-goes y (om ++ s) (other-than line_feed y start-line_feed sy) ∙ no-feed-rest om ay)
  after-beyond (c ∷ u) h = elim (bool_cases (ends_line c (peek 0 (u ++ (x ∷ nm ++ s))))) [
    | inl e ↦ absurd (omega (arith, line-ended c (u ++ (x ∷ nm ++ s)) e, h))
    | inr e ↦
        let none = or-first (c == line_feed) (c == 13 && peek 0 (u ++ (x ∷ nm ++ s)) == line_feed) e in
        let ih = after-beyond u (omega (arith, line-goes c (u ++ (x ∷ nm ++ s)) e, h)) in
        (after-goes c (u ++ (x ∷ nm ++ s)) none ∙ ih.0, after-goes c (u ++ (y ∷ om ++ s)) none ∙ ih.1)
  ]

  -- the line that closes, among those after the opening one
  closing-after : (n : ℕ) (u : List ℕ) → Closed (closing_line n true (after_line (u ++ (x ∷ nm ++ s)))) (closing_line n true (after_line (u ++ (y ∷ om ++ s)))) (length u)
  closing-after n u = elim (lt_or_ge (length u) (line_len (u ++ (x ∷ nm ++ s)))) [
    | inl h ↦
        let left = after-beyond u h in
        after-names n (closing_line n true (after_line s)) _ _ (length u) true (after_line s) refl (after-short s) (ap (λ t. closing_line n true t) left.0) (ap (λ t. closing_line n true t) left.1)
    | inr h ↦
        let r = after-within u h in
        let P : List ℕ → Type 0 = λ t. Closed (closing_line n true t) (closing_line n true (after_line (u ++ (y ∷ om ++ s)))) (length u) in
        let Q : List ℕ → Type 0 = λ t. Closed (closing_line n true (r.left ++ (x ∷ nm ++ s))) (closing_line n true t) (length u) in
        subst P (sym r.a_is) (subst Q (sym r.b_is) (more (length r.left) (length u) r.short (closing-same n true r.left)))
  ]

  -- The preface and the content, by the text after the shebang.

  -- the leaf of a frontmatter is the same, and the content ends with the names
  record Told (a b : List ℕ) (f g : List Lexed) : Type 0 where
    leaves : g ≡ f
    front : List ℕ
    a_is : a ≡ front ++ (x ∷ nm ++ s)
    b_is : b ≡ front ++ (y ∷ om ++ s)

  long : (u : List ℕ) → length (u ++ (x ∷ nm ++ s)) ≡ length u + suc (length nm + length s)
  long u = length-append u (x ∷ nm ++ s) ∙ ap (λ n. length u + n) (let z : length (x ∷ nm ++ s) ≡ suc (length nm + length s) = ap suc (length-append nm s) in z)

  long-other : (u : List ℕ) → length (u ++ (y ∷ om ++ s)) ≡ length u + suc (length om + length s)
  long-other u = length-append u (y ∷ om ++ s) ∙ ap (λ n. length u + n) (let z : length (y ∷ om ++ s) ≡ suc (length om + length s) = ap suc (length-append om s) in z)

  -- the frontmatter is the same in both texts
  front-same : (g l : List ℕ) → length l ≤ length g
      → take (length (g ++ (y ∷ om ++ s)) - length (l ++ (y ∷ om ++ s))) (g ++ (y ∷ om ++ s)) ≡ take (length (g ++ (x ∷ nm ++ s)) - length (l ++ (x ∷ nm ++ s))) (g ++ (x ∷ nm ++ s))
  front-same g l le =
      let m : length (g ++ (x ∷ nm ++ s)) - length (l ++ (x ∷ nm ++ s)) ≡ length g - length l = omega (arith, long g, long l) in
      let n : length (g ++ (y ∷ om ++ s)) - length (l ++ (y ∷ om ++ s)) ≡ length g - length l = omega (arith, long-other g, long-other l) in
      let within : length g - length l ≤ length g = omega arith in
      ap (λ k. take k (g ++ (y ∷ om ++ s))) n ∙ take-front (length g - length l) g (y ∷ om ++ s) within ∙ sym (take-front (length g - length l) g (x ∷ nm ++ s) within) ∙ sym (ap (λ k. take k (g ++ (x ∷ nm ++ s))) m)

  bare-told : (g : List ℕ) → Told (g ++ (x ∷ nm ++ s)) (g ++ (y ∷ om ++ s)) [] []
  bare-told g = record { leaves = refl; front = g; a_is = refl; b_is = refl }

  closed-told : (g : List ℕ) (a b : Option (List ℕ)) → Closed a b (length g)
      → length (x ∷ nm ++ s) ≤ length (elim a as (λ _. List ℕ) [ None ↦ g ++ (x ∷ nm ++ s) | Some z ↦ after_line z ])
      → Told (elim a as (λ _. List ℕ) [ None ↦ g ++ (x ∷ nm ++ s) | Some z ↦ after_line z ]) (elim b as (λ _. List ℕ) [ None ↦ g ++ (y ∷ om ++ s) | Some z ↦ after_line z ])
      (elim a as (λ _. List Lexed) [ None ↦ [] | Some z ↦ quiet FRONTMATTER (take (length (g ++ (x ∷ nm ++ s)) - length (after_line z)) (g ++ (x ∷ nm ++ s))) ∷ [] ])
      (elim b as (λ _. List Lexed) [ None ↦ [] | Some z ↦ quiet FRONTMATTER (take (length (g ++ (y ∷ om ++ s)) - length (after_line z)) (g ++ (y ∷ om ++ s))) ∷ [] ])
  closed-told g a b (inl h) le = rw (h.0, h.1) (bare-told g)
  closed-told g a b (inr (inl h)) le =
      let r = after-within h.line h.ended in
      rw (h.a_is, h.b_is) (record {
        leaves =
            ap (λ z. quiet FRONTMATTER (take (length (g ++ (y ∷ om ++ s)) - length z) (g ++ (y ∷ om ++ s))) ∷ []) r.b_is
            ∙ ap (λ t. quiet FRONTMATTER t ∷ []) (front-same g r.left (omega (arith, r.short, h.short)))
            ∙ sym (ap (λ z. quiet FRONTMATTER (take (length (g ++ (x ∷ nm ++ s)) - length z) (g ++ (x ∷ nm ++ s))) ∷ []) r.a_is);
        front = r.left;
        a_is = r.a_is;
        b_is = r.b_is;
      })
  closed-told g a b (inr (inr h)) le =
      let few : length (elim a as (λ _. List ℕ) [ None ↦ g ++ (x ∷ nm ++ s) | Some z ↦ after_line z ]) ≤ length s = rw h.a_is (let l = after-short h.line in omega (arith, l, h.short)) in
      absurd (omega (arith, le, few, ap suc (length-append nm s)))

  opened : (g : List ℕ) → List ℕ
  opened g = drop (blank_len (g ++ (x ∷ nm ++ s))) g

  opened-a : (g : List ℕ) → drop (blank_len (g ++ (x ∷ nm ++ s))) (g ++ (x ∷ nm ++ s)) ≡ opened g ++ (x ∷ nm ++ s)
  unfolding opened
  opened-a g = drop-append-le (blank_len (g ++ (x ∷ nm ++ s))) g (x ∷ nm ++ s) (blank-within g)

  opened-b : (g : List ℕ) → drop (blank_len (g ++ (y ∷ om ++ s))) (g ++ (y ∷ om ++ s)) ≡ opened g ++ (y ∷ om ++ s)
  unfolding opened
  opened-b g = ap (λ n. drop n (g ++ (y ∷ om ++ s))) (blank-same g) ∙ drop-append-le (blank_len (g ++ (x ∷ nm ++ s))) g (y ∷ om ++ s) (blank-within g)

  opened-short : (g : List ℕ) → length (opened g) ≤ length g
  unfolding opened
  opened-short g = omega (arith, length-drop (blank_len (g ++ (x ∷ nm ++ s))) g)

  -- what the rest of a text gives
  rest_content : List ℕ → List ℕ
  rest_content r = let o = drop (blank_len r) r in content_by (dashes o) r (closing_line (dashes o) true (after_line o))

  rest_leaf : List ℕ → List Lexed
  rest_leaf r = let o = drop (blank_len r) r in leaf_by (dashes o) r (closing_line (dashes o) true (after_line o))

  by-count : (n : ℕ) (g : List ℕ) (a b : Option (List ℕ)) → Closed a b (length g) → length (x ∷ nm ++ s) ≤ length (content_by n (g ++ (x ∷ nm ++ s)) a)
      → Told (content_by n (g ++ (x ∷ nm ++ s)) a) (content_by n (g ++ (y ∷ om ++ s)) b) (leaf_by n (g ++ (x ∷ nm ++ s)) a) (leaf_by n (g ++ (y ∷ om ++ s)) b)
  unfolding content_by leaf_by
  by-count n g a b c le = by_tests (n == 0) (nat_lt n 3) le
    where
      by_tests : (p q : Bool) → length (x ∷ nm ++ s) ≤ length (if p then g ++ (x ∷ nm ++ s) else if q then g ++ (x ∷ nm ++ s) else elim a as (λ _. List ℕ) [ None ↦ g ++ (x ∷ nm ++ s) | Some z ↦ after_line z ])
          → Told (if p then g ++ (x ∷ nm ++ s) else if q then g ++ (x ∷ nm ++ s) else elim a as (λ _. List ℕ) [ None ↦ g ++ (x ∷ nm ++ s) | Some z ↦ after_line z ])
          (if p then g ++ (y ∷ om ++ s) else if q then g ++ (y ∷ om ++ s) else elim b as (λ _. List ℕ) [ None ↦ g ++ (y ∷ om ++ s) | Some z ↦ after_line z ])
          (if p then [] else if q then [] else elim a as (λ _. List Lexed) [ None ↦ [] | Some z ↦ quiet FRONTMATTER (take (length (g ++ (x ∷ nm ++ s)) - length (after_line z)) (g ++ (x ∷ nm ++ s))) ∷ [] ])
          (if p then [] else if q then [] else elim b as (λ _. List Lexed) [ None ↦ [] | Some z ↦ quiet FRONTMATTER (take (length (g ++ (y ∷ om ++ s)) - length (after_line z)) (g ++ (y ∷ om ++ s))) ∷ [] ])
      by_tests true q h = bare-told g
      by_tests false true h = bare-told g
      by_tests false false h = closed-told g a b c h

  rest-told : (g : List ℕ) → length (x ∷ nm ++ s) ≤ length (rest_content (g ++ (x ∷ nm ++ s))) → Told (rest_content (g ++ (x ∷ nm ++ s))) (rest_content (g ++ (y ∷ om ++ s))) (rest_leaf (g ++ (x ∷ nm ++ s))) (rest_leaf (g ++ (y ∷ om ++ s)))
  unfolding rest_content rest_leaf
  rest-told g le =
      let rA = g ++ (x ∷ nm ++ s) in
      let rB = g ++ (y ∷ om ++ s) in
      let h = opened g in
      let n = dashes (h ++ (x ∷ nm ++ s)) in
      let F : List ℕ → List ℕ → List ℕ = λ r o. content_by (dashes o) r (closing_line (dashes o) true (after_line o)) in
      let G : List ℕ → List ℕ → List Lexed = λ r o. leaf_by (dashes o) r (closing_line (dashes o) true (after_line o)) in
      let cA : F rA (drop (blank_len rA) rA) ≡ content_by n rA (closing_line n true (after_line (h ++ (x ∷ nm ++ s)))) = ap (F rA) (opened-a g) in
      let lA : G rA (drop (blank_len rA) rA) ≡ leaf_by n rA (closing_line n true (after_line (h ++ (x ∷ nm ++ s)))) = ap (G rA) (opened-a g) in
      let cB : F rB (drop (blank_len rB) rB) ≡ content_by n rB (closing_line n true (after_line (h ++ (y ∷ om ++ s)))) = ap (F rB) (opened-b g) ∙ ap (λ m. content_by m rB (closing_line m true (after_line (h ++ (y ∷ om ++ s))))) (dashes-same h) in
      let lB : G rB (drop (blank_len rB) rB) ≡ leaf_by n rB (closing_line n true (after_line (h ++ (y ∷ om ++ s)))) = ap (G rB) (opened-b g) ∙ ap (λ m. leaf_by m rB (closing_line m true (after_line (h ++ (y ∷ om ++ s))))) (dashes-same h) in
      let t = by-count n g _ _ (more (length h) (length g) (opened-short g) (closing-after n h)) (subst (λ z. length (x ∷ nm ++ s) ≤ length z) cA le) in
      record { leaves = lB ∙ t.leaves ∙ sym lA; front = t.front; a_is = cA ∙ t.a_is; b_is = cB ∙ t.b_is }

  -- The shebang.
  module _ (fx : first_lexeme (x ∷ nm ++ s) ≡ name_lexeme (x ∷ nm)) (iy : is_ident (y ∷ om) ≡ true) where
    shebang-is : (t : List ℕ) → is_some (shebang t) ≡ (has_shebang t && not (opens_attribute (token_list (drop 2 t))))
    unfolding shebang
    shebang-is t = by_tests (has_shebang t) (opens_attribute (token_list (drop 2 t))) (size (take (line_len t) t))
      where
        by_tests : (a b : Bool) (n : ℕ) → is_some (if a then (if b then None else Some n) else None) ≡ (a && not b)
        by_tests true true n = refl
        by_tests true false n = refl
        by_tests false b n = refl

    marks-none : (z : ℕ) (zs : List ℕ) → is_id_start z ≡ true → has_shebang (z ∷ zs) ≡ false
    marks-none z zs sz = ap (λ b. b && peek 0 zs == exclamation) (other-than hash z start-hash sz)

    marks-one : (c z : ℕ) (zs : List ℕ) → is_id_start z ≡ true → has_shebang (c ∷ z ∷ zs) ≡ false
    marks-one c z zs sz = and-second (c == hash) (z == exclamation) (other-than exclamation z start-exclamation sz)

    none-marked : (t : List ℕ) → has_shebang t ≡ false → is_some (shebang t) ≡ false
    none-marked t h = shebang-is t ∙ ap (λ b. b && not (opens_attribute (token_list (drop 2 t)))) h

    some-shebang : (u : List ℕ) → is_some (shebang (u ++ (y ∷ om ++ s))) ≡ is_some (shebang (u ++ (x ∷ nm ++ s)))
    some-shebang [] = none-marked _ (marks-none y (om ++ s) sy) ∙ sym (none-marked _ (marks-none x (nm ++ s) sx))
    some-shebang (c ∷ []) = none-marked _ (marks-one c y (om ++ s) sy) ∙ sym (none-marked _ (marks-one c x (nm ++ s) sx))
    some-shebang (c ∷ d ∷ v) =
        shebang-is (c ∷ d ∷ v ++ (y ∷ om ++ s)) ∙ ap (λ b. (c == hash && d == exclamation) && not b) (attributes-same v (x ∷ nm) (y ∷ om) s fx iy) ∙ sym (shebang-is (c ∷ d ∷ v ++ (x ∷ nm ++ s)))

    -- what is left after the shebang, if there is one
    record Begun (u : List ℕ) : Type 0 where
      left : List ℕ
      a_is : after_shebang (u ++ (x ∷ nm ++ s)) ≡ left ++ (x ∷ nm ++ s)
      b_is : after_shebang (u ++ (y ∷ om ++ s)) ≡ left ++ (y ∷ om ++ s)
      leaves : shebang_leaf (shebang_piece (u ++ (y ∷ om ++ s))) ≡ shebang_leaf (shebang_piece (u ++ (x ∷ nm ++ s)))

    begun : (u : List ℕ) → length (x ∷ nm ++ s) ≤ length (after_shebang (u ++ (x ∷ nm ++ s))) → Begun u
    unfolding after_shebang shebang_piece
    begun u le = elim (bool_cases (is_some (shebang (u ++ (x ∷ nm ++ s))))) [
      | inr none ↦ record {
        left = u;
        a_is = rw none refl;
        b_is = rw (some-shebang u ∙ none) refl;
        leaves = rw (some-shebang u ∙ none, none) refl;
      }
      | inl some ↦
          let m = line_len (u ++ (x ∷ nm ++ s)) in
          let there : length (x ∷ nm ++ s) ≤ length (drop m (u ++ (x ∷ nm ++ s))) = rw some at le in
          let within : m ≤ length u = omega (arith, there, length-drop m (u ++ (x ∷ nm ++ s)), long u, ap suc (length-append nm s)) in
          let same = line-same u within in
          record {
            left = drop m u;
            a_is = rw some (drop-append-le m u (x ∷ nm ++ s) within);
            b_is = rw (some-shebang u ∙ some) (ap (λ n. drop n (u ++ (y ∷ om ++ s))) same ∙ drop-append-le m u (y ∷ om ++ s) within);
            leaves = rw (some-shebang u ∙ some, some) (ap (λ t. shebang_leaf (Some record { start = 0; text = t })) (ap (λ n. take n (u ++ (y ∷ om ++ s))) same ∙ take-front m u (y ∷ om ++ s) within ∙ sym (take-front m u (x ∷ nm ++ s) within)));
          }
    ]

    content-rest : (t : List ℕ) → content t ≡ rest_content (after_shebang t)
    unfolding rest_content opening_line
    content-rest t = content-is t

    leaf-rest : (t : List ℕ) → frontmatter_leaf t (source t) ≡ rest_leaf (after_shebang t)
    unfolding rest_leaf opening_line
    leaf-rest t = leaf-is t

    by-option : (r : List ℕ) (o : Option (List ℕ)) → ((z : List ℕ) → o ≡ Some z → length z ≤ length r) → length (elim o as (λ _. List ℕ) [ None ↦ r | Some z ↦ after_line z ]) ≤ length r
    by-option r None h = omega arith
    by-option r (Some z) h = let l = h z refl in let m = after-short z in omega (arith, l, m)

    rest-short : (r : List ℕ) → length (rest_content r) ≤ length r
    unfolding rest_content content_by
    rest-short r =
        let o = drop (blank_len r) r in
        by_tests (dashes o == 0) (nat_lt (dashes o) 3)
        (by-option r (closing_line (dashes o) true (after_line o)) (λ z e. let a = closing-short (dashes o) true (after_line o) z e in let b = after-short o in omega (arith, a, b, length-drop (blank_len r) r)))
      where
        by_tests : (p q : Bool) → length (elim (closing_line (dashes (drop (blank_len r) r)) true (after_line (drop (blank_len r) r))) as (λ _. List ℕ) [ None ↦ r | Some z ↦ after_line z ]) ≤ length r
            → length (if p then r else if q then r else elim (closing_line (dashes (drop (blank_len r) r)) true (after_line (drop (blank_len r) r))) as (λ _. List ℕ) [ None ↦ r | Some z ↦ after_line z ]) ≤ length r
        by_tests true q h = omega arith
        by_tests false true h = omega arith
        by_tests false false h = h

    -- where the content reaches the names, they change neither the preface nor where the content begins
    pub record SamePreface (u : List ℕ) : Type 0 where
      pub leaves : preface (u ++ (y ∷ om ++ s)) ≡ preface (u ++ (x ∷ nm ++ s))
      pub front : List ℕ
      pub a_is : content (u ++ (x ∷ nm ++ s)) ≡ front ++ (x ∷ nm ++ s)
      pub b_is : content (u ++ (y ∷ om ++ s)) ≡ front ++ (y ∷ om ++ s)

    pub prefaces-same : (u : List ℕ) → length (x ∷ nm ++ s) ≤ length (content (u ++ (x ∷ nm ++ s))) → SamePreface u
    unfolding preface
    prefaces-same u le =
        let tA = u ++ (x ∷ nm ++ s) in
        let tB = u ++ (y ∷ om ++ s) in
        let enough : length (x ∷ nm ++ s) ≤ length (after_shebang tA) = let r = rest-short (after_shebang tA) in omega (arith, le, ap length (content-rest tA), r) in
        let b = begun u enough in
        let cA : content tA ≡ rest_content (b.left ++ (x ∷ nm ++ s)) = content-rest tA ∙ ap rest_content b.a_is in
        let cB : content tB ≡ rest_content (b.left ++ (y ∷ om ++ s)) = content-rest tB ∙ ap rest_content b.b_is in
        let lA : frontmatter_leaf tA (source tA) ≡ rest_leaf (b.left ++ (x ∷ nm ++ s)) = leaf-rest tA ∙ ap rest_leaf b.a_is in
        let lB : frontmatter_leaf tB (source tB) ≡ rest_leaf (b.left ++ (y ∷ om ++ s)) = leaf-rest tB ∙ ap rest_leaf b.b_is in
        let t = rest-told b.left (subst (λ z. length (x ∷ nm ++ s) ≤ length z) cA le) in
        record {
          leaves = λ i. (b.leaves i) ++ ((lB ∙ t.leaves ∙ sym lA) i);
          front = t.front;
          a_is = cA ∙ t.a_is;
          b_is = cB ∙ t.b_is;
        }

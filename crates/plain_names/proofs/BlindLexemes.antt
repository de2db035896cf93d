-- The scan of each kind of lexeme is blind.
use Rattle.std.proofs.Common.{◌≡◌, ℕ, suc, ◌+◌, ◌<◌, ◌≤◌, Bool, true, false, not, ◌&&◌, ◌||◌, ◌==◌, List, [], ◌∷◌, ◌++◌, length, take, drop, length-drop, refl, sym, ◌∙◌, ap, arith, inl, inr, Option, Some, None, if◌then◌else◌}
use Rattle.std.proofs.lemmas.List.{drop-append-le}
use Rattle.std.proofs.Math.Seq.{drop-append_seam}
use Rattle.rustc_lexer.specs.Characters.{line_feed, double_quote, hash, tick, dot, backslash, letter_r, is_whitespace, is_id_start}
use Rattle.rustc_lexer.specs.Scan.{Taken, Scan, give, skip, peek, look, ◌▸◌, spelled, begin, run_len, run, name_len, name, ticked}
use Rattle.rustc_lexer.specs.Lexeme.{Case, Blank, ToLineEnd, ToPartner, RawName, RawText, Quoted, Ticked, Name, Number, Tick, Guard, Single, line_comment, block_comment, suffix, literal, string, is_single, character_end, character, raw_end, raw_string, digits, is_point, exponent, fraction, based, number, opens_literal, identifier, raw_identifier, is_raw, named, lifetime, lexeme_in}
use Rattle.rustc_lexer.specs.declared.token.Base.{Base}
use Rattle.rustc_lexer.specs.declared.token.Base.TheVariants.{Decimal}
use Rattle.rustc_lexer.specs.declared.token.LiteralKind.{LiteralKind}
use Rattle.rustc_lexer.specs.declared.token.LiteralKind.TheVariants.{Char}
use Rattle.rustc_lexer.specs.declared.token.TokenKind.{TokenKind}
use Rattle.rustc_lexer.specs.declared.token.TokenKind.TheVariants.{Ident, UnknownPrefix, UnknownPrefixLifetime, Lifetime, Literal}
use Rattle.rustc_lexer.proofs.Agree.{lt_or_ge}
use Rattle.rustc_lexer.proofs.Booleans.{bool_cases}
use Rattle.rustc_lexer.proofs.Takes.{Takes, takes-skip, takes-first, takes-look}
use Rattle.rustc_lexer.proofs.Steps.{name-true, run-true, run-false}
use Rattle.plain_names.proofs.Names.{other-than, start-line_feed, start-double_quote, start-hash, start-tick, start-dot, no-white}
use Rattle.plain_names.proofs.Blind.{Blind, take-front, blind-give, blind-skip, next-at, blind-next, blind-spelled, blind-if, look-taken, blind-look, blind-look-takes, blind-begin, blind-run, continues, blind-name, not-next, blind-quoted, blind-block, blind-raw, ticked-some, blind-ticked}

abbrev scanned : {A : Type 0} {B : Type 0} → (Scan A → Scan B) → Type 0
scanned {A} {B} f = A

-- the kind of a literal, and whether a suffix may follow: the private type of the lexer's scans of literals
abbrev pub Body : Type 0
Body = scanned literal

pub takes-named : (b : Bool) → Takes (named b)
unfolding named
takes-named true = takes-first _ _ (takes-skip 1)
takes-named false = takes-look _ _ (λ digit. takes-first _ _ (takes-skip 0))

takes-based : (b : Option Base) → Takes (based b)
unfolding based
takes-based None = takes-first _ _ (takes-skip 0)
takes-based (Some base) = takes-first _ _ (takes-skip 1)

-- a suffix may follow every number
record Ends (f : Scan Body) : Type 0 where
  at : (zs : List ℕ) → (f zs).value.ends ≡ true

ends-give : (k : LiteralKind) → Ends (give (record { kind = k; ends = true }))
unfolding give
ends-give k = record { at = λ zs. refl }

ends-next : {A : Type 0} (f : Scan A) (g : A → Scan Body) → ((a : A) → Ends (g a)) → Ends (f ▸ g)
unfolding ◌▸◌
ends-next f g q = record { at = λ zs. (q (f zs).value).at (drop (f zs).taken zs) }

ends-if : (b : Bool) (f g : Scan Body) → Ends f → Ends g → Ends (if b then f else g)
ends-if true f g p q = p
ends-if false f g p q = q

ends-fraction : (base : Base) → Ends (fraction base)
unfolding fraction
ends-fraction base =
    ends-next _ _ (λ dotted. ends-if dotted _ _
    (ends-next _ _ (λ _. ends-next _ _ (λ more. ends-if more _ _ (ends-next _ _ (λ _. ends-next _ _ (λ e. ends-give _))) (ends-give _))))
    (ends-next _ _ (λ e. ends-give _)))

ends-based : (b : Option Base) → Ends (based b)
unfolding based
ends-based None = ends-next _ _ (λ _. ends-next _ _ (λ _. ends-fraction Decimal))
ends-based (Some base) = ends-next _ _ (λ _. ends-next _ _ (λ has. ends-if has _ _ (ends-fraction base) (ends-give _)))

ends-number : Ends number
unfolding number
ends-number = ends-next _ _ (λ b. ends-based b)

and-none : (p q : Bool) → ((p && false) && q) ≡ false
and-none true q = refl
and-none false q = refl

module _ (x y : ℕ) (xs ys : List ℕ) (sx : is_id_start x ≡ true) (sy : is_id_start y ≡ true) where
  -- a scan that ends before the names does not see which of them follows
  record Near {A : Type 0} (f : Scan A) : Type 0 where
    at : (u : List ℕ) → suc (f (u ++ x ∷ xs)).taken ≤ length u → f (u ++ y ∷ ys) ≡ f (u ++ x ∷ xs)

  near : {A : Type 0} (f : Scan A) → Blind x y xs ys sx sy f → Near f
  near f p = record { at = λ u h. p.at u (omega (arith, h)) }

  near-give : {A : Type 0} (a : A) → Near (give a)
  near-give a = near _ (blind-give x y xs ys sx sy a)

  near-skip : (n : ℕ) → Near (skip n)
  near-skip n = near _ (blind-skip x y xs ys sx sy n)

  near-next : {A B : Type 0} (f : Scan A) (g : A → Scan B) → Near f → ((a : A) → Near (g a)) → Near (f ▸ g)
  unfolding ◌▸◌
  near-next {A} {B} f g p q = record {
    at = λ u h.
        let m = (f (u ++ x ∷ xs)).taken in
        let v = (f (u ++ x ∷ xs)).value in
        let within : suc m ≤ length u = omega (arith, h) in
        let one : drop m (u ++ x ∷ xs) ≡ drop m u ++ x ∷ xs = drop-append-le m u (x ∷ xs) (omega (arith, within)) in
        let other : drop m (u ++ y ∷ ys) ≡ drop m u ++ y ∷ ys = drop-append-le m u (y ∷ ys) (omega (arith, within)) in
        let s = g v (drop m (u ++ x ∷ xs)) in
        let there : s ≡ g v (drop m u ++ x ∷ xs) = ap (g v) one in
        let less : suc (g v (drop m u ++ x ∷ xs)).taken ≤ length (drop m u) = omega (arith, ap (λ r. r.taken) there, length-drop m u, h) in
        let rest : g v (drop m (u ++ y ∷ ys)) ≡ s = ap (g v) other ∙ (q v).at (drop m u) less ∙ sym there in
        let H : Taken A → Taken B = λ r. record { value = (g r.value (drop r.taken (u ++ y ∷ ys))).value; taken = r.taken + (g r.value (drop r.taken (u ++ y ∷ ys))).taken } in
        let K : Taken B → Taken B = λ r. record { value = r.value; taken = m + r.taken } in
        ap H (p.at u within) ∙ ap K rest;
  }

  near-spelled : {A : Type 0} (f : Scan A) → Near f → Near (spelled f)
  unfolding spelled
  near-spelled {A} f p = record {
    at = λ u h.
        let m = (f (u ++ x ∷ xs)).taken in
        let text : take m (u ++ y ∷ ys) ≡ take m (u ++ x ∷ xs) = take-front m u (y ∷ ys) (omega (arith, h)) ∙ sym (take-front m u (x ∷ xs) (omega (arith, h))) in
        let H : Taken A → Taken (A × List ℕ) = λ r. record { value = (r.value, take r.taken (u ++ y ∷ ys)); taken = r.taken } in
        let K : List ℕ → Taken (A × List ℕ) = λ t. record { value = ((f (u ++ x ∷ xs)).value, t); taken = m } in
        ap H (p.at u h) ∙ ap K text;
  }

  near-if : {A : Type 0} (b : Bool) (f g : Scan A) → Near f → Near g → Near (if b then f else g)
  near-if true f g p q = p
  near-if false f g p q = q

  run_len-near : (p : ℕ → Bool) (u : List ℕ) → suc (run_len p (u ++ x ∷ xs)) ≤ length u → run_len p (u ++ y ∷ ys) ≡ run_len p (u ++ x ∷ xs)
  run_len-near p [] h = absurd (omega (arith, h))
  run_len-near p (c ∷ u) h = elim (bool_cases (p c)) [
    | inl g ↦ let e = run-true p c (u ++ x ∷ xs) g in run-true p c (u ++ y ∷ ys) g ∙ ap suc (run_len-near p u (omega (arith, e, h))) ∙ sym e
    | inr g ↦ run-false p c (u ++ y ∷ ys) g ∙ sym (run-false p c (u ++ x ∷ xs) g)
  ]

  near-run : (p : ℕ → Bool) → Near (run p)
  unfolding run
  near-run p = record { at = λ u h. let H : ℕ → Taken ℕ = λ k. record { value = k; taken = k } in ap H (run_len-near p u h) }

  near-looked : {A B : Type 0} (tells : ℕ → ℕ → A) (g : A → Scan B) (u : List ℕ) (a : A) → tells (peek 0 (u ++ x ∷ xs)) (peek 1 (u ++ x ∷ xs)) ≡ a → tells (peek 0 (u ++ y ∷ ys)) (peek 1 (u ++ y ∷ ys)) ≡ a
      → Near (g a) → suc ((look tells ▸ g) (u ++ x ∷ xs)).taken ≤ length u → (look tells ▸ g) (u ++ y ∷ ys) ≡ (look tells ▸ g) (u ++ x ∷ xs)
  near-looked tells g u a one other p h =
      let here : (look tells ▸ g) (u ++ x ∷ xs) ≡ g a (u ++ x ∷ xs) = look-taken x y xs ys sx sy tells g (u ++ x ∷ xs) ∙ ap (λ t. g t (u ++ x ∷ xs)) one in
      let there : (look tells ▸ g) (u ++ y ∷ ys) ≡ g a (u ++ y ∷ ys) = look-taken x y xs ys sx sy tells g (u ++ y ∷ ys) ∙ ap (λ t. g t (u ++ y ∷ ys)) other in
      there ∙ p.at u (omega (arith, ap (λ r. r.taken) here, h)) ∙ sym here

  near-look : {A B : Type 0} (tells : ℕ → ℕ → A) (g : A → Scan B) → ((c : ℕ) → tells c y ≡ tells c x) → ((a : A) → Near (g a)) → Near (look tells ▸ g)
  near-look {A} {B} tells g second p = record { at = by_front }
    where
      by_front : (u : List ℕ) → suc ((look tells ▸ g) (u ++ x ∷ xs)).taken ≤ length u → (look tells ▸ g) (u ++ y ∷ ys) ≡ (look tells ▸ g) (u ++ x ∷ xs)
      by_front [] h = absurd (omega (arith, h))
      by_front (c ∷ []) h = near-looked tells g (c ∷ []) (tells c x) refl (second c) (p _) h
      by_front (c ∷ d ∷ u) h = near-looked tells g (c ∷ d ∷ u) (tells c d) refl refl (p _) h

  near-look-takes : {A B : Type 0} (tells : ℕ → ℕ → A) (g : A → Scan B) → ((a : A) → Takes (g a)) → ((a : A) → Near (g a)) → Near (look tells ▸ g)
  near-look-takes {A} {B} tells g t p = record { at = by_front }
    where
      by_front : (u : List ℕ) → suc ((look tells ▸ g) (u ++ x ∷ xs)).taken ≤ length u → (look tells ▸ g) (u ++ y ∷ ys) ≡ (look tells ▸ g) (u ++ x ∷ xs)
      by_front [] h = absurd (omega (arith, h))
      by_front (c ∷ []) h =
          let some = (t (tells c x)).at (c ∷ x ∷ xs) (omega arith) in
          let here = ap (λ r. r.taken) (look-taken x y xs ys sx sy tells g (c ∷ x ∷ xs)) in
          absurd (omega (arith, some, here, h))
      by_front (c ∷ d ∷ u) h = near-looked tells g (c ∷ d ∷ u) (tells c d) refl refl (p _) h

  -- Numbers.

  near-digits : (p : ℕ → Bool) → Near (digits p)
  unfolding digits
  near-digits p = near-next _ _ (near-spelled _ (near-run p)) (λ s. near-give _)

  near-exponent : Near exponent
  unfolding exponent
  near-exponent =
      near-look _ _ (λ c. refl) (λ there. near-if there _ _
      (near-next _ _ (near-skip 1) (λ _. near-look _ _ (λ c. refl) (λ signed. near-next _ _ (near-if signed _ _ (near-skip 1) (near-give 0)) (λ _.
      near-next _ _ (near-digits _) (λ has. near-give _)))))
      (near-give _))

  point-same : (c : ℕ) → is_point c y ≡ is_point c x
  unfolding is_point
  point-same c =
      let one : ((x == dot) || is_id_start x) ≡ true = ap (λ b. b || is_id_start x) (other-than dot x start-dot sx) ∙ sx in
      let other : ((y == dot) || is_id_start y) ≡ true = ap (λ b. b || is_id_start y) (other-than dot y start-dot sy) ∙ sy in
      ap (λ b. (c == dot) && not b) (other ∙ sym one)

  near-fraction : (base : Base) → Near (fraction base)
  unfolding fraction
  near-fraction base =
      near-look _ _ point-same (λ dotted. near-if dotted _ _
      (near-next _ _ (near-skip 1) (λ _. near-look _ _ (λ c. refl) (λ more. near-if more _ _
      (near-next _ _ (near-digits _) (λ _. near-next _ _ near-exponent (λ e. near-give _)))
      (near-give _))))
      (near-next _ _ near-exponent (λ e. near-give _)))

  near-based : (b : Option Base) → Near (based b)
  unfolding based
  near-based None = near-next _ _ (near-skip 1) (λ _. near-next _ _ (near-digits _) (λ _. near-fraction Decimal))
  near-based (Some base) = near-next _ _ (near-skip 2) (λ _. near-next _ _ (near-digits _) (λ has. near-if has _ _ (near-fraction base) (near-give _)))

  near-number : Near number
  unfolding number
  near-number = near-look-takes _ _ takes-based near-based

  blind-suffix : (b : Bool) → Blind x y xs ys sx sy (suffix b)
  unfolding suffix
  blind-suffix true = blind-name x y xs ys sx sy
  blind-suffix false = blind-give x y xs ys sx sy 0

  suffix-takes : (b : Bool) (ws : List ℕ) → b ≡ true → ws ≡ x ∷ xs → 1 ≤ (suffix b ws).taken
  unfolding suffix name
  suffix-takes true ws is at = let e = name-true x xs sx in omega (arith, ap (λ z. name_len z) at, e)
  suffix-takes false ws is at = let w : false ≡ true = is in cc

  pub literal-taken : (f : Scan Body) (zs : List ℕ) → (f zs).taken + (suffix (f zs).value.ends (drop (f zs).taken zs)).taken ≤ (literal f zs).taken
  unfolding literal ◌▸◌ spelled give
  literal-taken f zs = omega arith

  spelled-near : (u : List ℕ) → (number (u ++ x ∷ xs)).taken < length u → spelled number (u ++ y ∷ ys) ≡ spelled number (u ++ x ∷ xs)
  unfolding spelled
  spelled-near u l = (near-spelled _ near-number).at u l

  blind-number : Blind x y xs ys sx sy (literal number)
  unfolding literal
  blind-number = record {
    at = λ u h.
        let zs = u ++ x ∷ xs in
        let m = (number zs).taken in
        elim (lt_or_ge m (length u)) [
          | inl l ↦ next-at x y xs ys sx sy _ _ u (spelled-near u l) (λ s. blind-next x y xs ys sx sy _ _ (blind-suffix s.0.ends) (λ _. blind-give x y xs ys sx sy _)) h
          | inr g ↦
              let all = literal-taken number zs in
              let same : m ≡ length u = omega (arith, all, g, h) in
              let left : drop m zs ≡ x ∷ xs = ap (λ n. drop n zs) same ∙ drop-append_seam u (x ∷ xs) in
              let some = suffix-takes (number zs).value.ends (drop m zs) (ends-number.at zs) left in
              absurd (omega (arith, all, some, same, h))
        ];
  }

  -- The others.

  blind-literal : (f : Scan Body) → Blind x y xs ys sx sy f → Blind x y xs ys sx sy (literal f)
  unfolding literal
  blind-literal f p =
      blind-next x y xs ys sx sy _ _ (blind-spelled x y xs ys sx sy f p) (λ s. blind-next x y xs ys sx sy _ _ (blind-suffix s.0.ends) (λ _. blind-give x y xs ys sx sy _))

  blind-line_comment : Blind x y xs ys sx sy line_comment
  unfolding line_comment
  blind-line_comment =
      blind-next x y xs ys sx sy _ _ (blind-spelled x y xs ys sx sy _ (blind-next x y xs ys sx sy _ _ (blind-skip x y xs ys sx sy 2) (λ _. blind-run x y xs ys sx sy _ (ap not (not-next x y xs ys sx sy line_feed start-line_feed)))))
      (λ s. blind-give x y xs ys sx sy _)

  blind-block_comment : Blind x y xs ys sx sy block_comment
  unfolding block_comment
  blind-block_comment =
      blind-next x y xs ys sx sy _ _ (blind-spelled x y xs ys sx sy _ (blind-next x y xs ys sx sy _ _ (blind-skip x y xs ys sx sy 2) (λ _. blind-block x y xs ys sx sy 0)))
      (λ s. blind-give x y xs ys sx sy _)

  blind-string : (more : ℕ) (kind : Bool → LiteralKind) → Blind x y xs ys sx sy (string more kind)
  unfolding string
  blind-string more kind =
      blind-next x y xs ys sx sy _ _ (blind-skip x y xs ys sx sy (suc more)) (λ _. blind-next x y xs ys sx sy _ _ (blind-quoted x y xs ys sx sy false) (λ closed. blind-give x y xs ys sx sy _))

  pub end-some : (single : Bool) → 1 ≤ ((if single then (skip 2 ▸ λ _. give true) else ticked false) (x ∷ xs)).taken
  end-some true = (takes-first (skip 2) (λ _. give true) (takes-skip 1)).at (x ∷ xs) (omega arith)
  end-some false = ticked-some x y xs ys sx sy

  blind-character_end : Blind x y xs ys sx sy character_end
  unfolding character_end
  blind-character_end =
      blind-look-takes x y xs ys sx sy _ _ (end-some (is_single x (peek 0 xs))) (λ c. ap (λ b. b && not (c == backslash)) (not-next x y xs ys sx sy tick start-tick))
      (λ single. blind-if x y xs ys sx sy single _ _ (blind-next x y xs ys sx sy _ _ (blind-skip x y xs ys sx sy 2) (λ _. blind-give x y xs ys sx sy _)) (blind-ticked x y xs ys sx sy false))

  blind-character : (more : ℕ) (kind : Bool → LiteralKind) → Blind x y xs ys sx sy (character more kind)
  unfolding character
  blind-character more kind =
      blind-next x y xs ys sx sy _ _ (blind-skip x y xs ys sx sy (suc more)) (λ _. blind-next x y xs ys sx sy _ _ blind-character_end (λ closed. blind-give x y xs ys sx sy _))

  blind-raw_end : Blind x y xs ys sx sy raw_end
  unfolding raw_end
  blind-raw_end =
      blind-next x y xs ys sx sy _ _ (blind-run x y xs ys sx sy _ (not-next x y xs ys sx sy hash start-hash)) (λ hashes.
      blind-look-takes x y xs ys sx sy _ _ ((takes-first (skip 1) _ (takes-skip 0)).at (x ∷ xs) (omega arith)) (λ c. refl) (λ quote. blind-next x y xs ys sx sy _ _ (blind-skip x y xs ys sx sy 1) (λ _.
      blind-if x y xs ys sx sy quote _ _ (blind-next x y xs ys sx sy _ _ (blind-raw x y xs ys sx sy hashes) (λ closed. blind-give x y xs ys sx sy _)) (blind-give x y xs ys sx sy _))))

  blind-raw_string : (more : ℕ) (kind : Option ℕ → LiteralKind) → Blind x y xs ys sx sy (raw_string more kind)
  unfolding raw_string
  blind-raw_string more kind =
      blind-next x y xs ys sx sy _ _ (blind-skip x y xs ys sx sy (suc more)) (λ _. blind-next x y xs ys sx sy _ _ blind-raw_end (λ hashes. blind-give x y xs ys sx sy _))

  opens-same : opens_literal y ≡ opens_literal x
  unfolding opens_literal
  opens-same =
      ap (λ b. b || (y == double_quote) || (y == tick)) (not-next x y xs ys sx sy hash start-hash)
      ∙ ap (λ b. (x == hash) || b || (y == tick)) (not-next x y xs ys sx sy double_quote start-double_quote)
      ∙ ap (λ b. (x == hash) || (x == double_quote) || b) (not-next x y xs ys sx sy tick start-tick)

  blind-identifier : Blind x y xs ys sx sy identifier
  unfolding identifier
  blind-identifier =
      blind-next x y xs ys sx sy _ _ (blind-skip x y xs ys sx sy 1) (λ _. blind-next x y xs ys sx sy _ _ (blind-run x y xs ys sx sy _ (continues x y xs ys sx sy)) (λ _.
      blind-look x y xs ys sx sy (λ a b. opens_literal a) (λ prefix. give (kind_by prefix)) (ap (λ b. give (kind_by b)) opens-same) (λ c. refl) (λ prefix. blind-give x y xs ys sx sy _)))
    where
      kind_by : Bool → TokenKind
      kind_by b = if b then UnknownPrefix else Ident

  blind-raw_identifier : Blind x y xs ys sx sy raw_identifier
  unfolding raw_identifier
  blind-raw_identifier =
      blind-next x y xs ys sx sy _ _ (blind-skip x y xs ys sx sy 2) (λ _. blind-next x y xs ys sx sy _ _ (blind-name x y xs ys sx sy) (λ _. blind-give x y xs ys sx sy _))

  -- what a lifetime ends with
  after_word : Bool → Bool → Bool → Scan (ℕ → TokenKind)
  after_word digit t h =
      if t
      then (skip 1 ▸ λ _. give (λ n. Literal (Char true) n))
      else give (λ n. if h && not digit then UnknownPrefixLifetime else Lifetime digit)

  blind-after_word : (digit t h : Bool) → Blind x y xs ys sx sy (after_word digit t h)
  unfolding after_word
  blind-after_word digit t h =
      blind-if x y xs ys sx sy t _ _ (blind-next x y xs ys sx sy _ _ (blind-skip x y xs ys sx sy 1) (λ _. blind-give x y xs ys sx sy _)) (blind-give x y xs ys sx sy _)

  blind-named : (b : Bool) → Blind x y xs ys sx sy (named b)
  unfolding named after_word
  blind-named true = blind-next x y xs ys sx sy _ _ (blind-skip x y xs ys sx sy 2) (λ _. blind-next x y xs ys sx sy _ _ (blind-name x y xs ys sx sy) (λ _. blind-give x y xs ys sx sy _))
  blind-named false =
      blind-look-takes x y xs ys sx sy _ _ ((takes-first (skip 1) _ (takes-skip 0)).at (x ∷ xs) (omega arith)) (λ c. refl) (λ digit.
      blind-next x y xs ys sx sy _ _ (blind-skip x y xs ys sx sy 1) (λ _. blind-next x y xs ys sx sy _ _ (blind-run x y xs ys sx sy _ (continues x y xs ys sx sy)) (λ _.
      blind-look x y xs ys sx sy (λ a b. a) (λ next. after_word digit (next == tick) (next == hash))
      (λ i. after_word digit ((not-next x y xs ys sx sy tick start-tick) i) ((not-next x y xs ys sx sy hash start-hash) i)) (λ c. refl) (λ next. blind-after_word digit (next == tick) (next == hash)))))

  pub raw-one : (c : ℕ) (a b : ℕ) → is_raw c y b ≡ is_raw c x a
  unfolding is_raw
  raw-one c a b =
      ap (λ t. ((c == letter_r) && t) && is_id_start b) (other-than hash y start-hash sy) ∙ and-none (c == letter_r) (is_id_start b)
      ∙ sym (ap (λ t. ((c == letter_r) && t) && is_id_start a) (other-than hash x start-hash sx) ∙ and-none (c == letter_r) (is_id_start a))

  pub raw-two : (c d : ℕ) → is_raw c d y ≡ is_raw c d x
  unfolding is_raw
  raw-two c d = ap (λ t. ((c == letter_r) && (d == hash)) && t) (sy ∙ sym sx)

  blind-begin-named : Blind x y xs ys sx sy (begin is_raw named)
  blind-begin-named = blind-begin x y xs ys sx sy is_raw named takes-named (λ c h. raw-one c (peek 0 xs) (peek 0 ys)) raw-two blind-named

  blind-lifetime : Blind x y xs ys sx sy lifetime
  unfolding lifetime
  blind-lifetime =
      blind-next x y xs ys sx sy _ _ (blind-spelled x y xs ys sx sy _ (blind-next x y xs ys sx sy _ _ (blind-skip x y xs ys sx sy 1) (λ _. blind-begin-named))) (λ s. blind-give x y xs ys sx sy _)

  white-same : is_whitespace y ≡ is_whitespace x
  white-same = no-white y sy ∙ sym (no-white x sx)

  pub blind-lexeme_in : (c : Case) → Blind x y xs ys sx sy (lexeme_in c)
  unfolding lexeme_in
  blind-lexeme_in Blank = blind-next x y xs ys sx sy _ _ (blind-skip x y xs ys sx sy 1) (λ _. blind-next x y xs ys sx sy _ _ (blind-run x y xs ys sx sy _ white-same) (λ _. blind-give x y xs ys sx sy _))
  blind-lexeme_in ToLineEnd = blind-line_comment
  blind-lexeme_in ToPartner = blind-block_comment
  blind-lexeme_in RawName = blind-raw_identifier
  blind-lexeme_in (RawText more kind) = blind-literal _ (blind-raw_string more kind)
  blind-lexeme_in (Quoted more kind) = blind-literal _ (blind-string more kind)
  blind-lexeme_in (Ticked more kind) = blind-literal _ (blind-character more kind)
  blind-lexeme_in Name = blind-identifier
  blind-lexeme_in Number = blind-number
  blind-lexeme_in Tick = blind-lifetime
  blind-lexeme_in Guard = blind-next x y xs ys sx sy _ _ (blind-skip x y xs ys sx sy 2) (λ _. blind-give x y xs ys sx sy _)
  blind-lexeme_in Single = blind-look-takes x y xs ys sx sy _ _ ((takes-first (skip 1) _ (takes-skip 0)).at (x ∷ xs) (omega arith)) (λ c. refl) (λ kind. blind-next x y xs ys sx sy _ _ (blind-skip x y xs ys sx sy 1) (λ _. blind-give x y xs ys sx sy _))

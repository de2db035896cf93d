-- A number is read by its parts, and each number has them.
use Rattle.std.proofs.Common.{◌≡◌, ℕ, Bool, true, false, not, ◌&&◌, ◌||◌, ◌==◌, List, [], ◌∷◌, ◌++◌, take, drop, refl, sym, ◌∙◌, ap, subst, inl, inr, lit<, eqb-true, Option, Some, None}
use Rattle.unicode_ident.proofs.IdentLemmas.{is_xid_start-ascii}
use Rattle.unicode_ident.specs.Ident.{is_xid_start}
use Rattle.rustc_lexer.specs.Characters.{dot, underscore, letter_b, letter_o, letter_x, is_digit, is_id_start}
use Rattle.rustc_lexer.specs.Rows.{first_fit}
use Rattle.rustc_lexer.specs.Scan.{peek, run_len}
use Rattle.rustc_lexer.specs.Lexeme.{base_of, digits_of, digit_or_underscore, has_digit, is_exponent, is_sign, is_point, exponent, plain_kind, dotted_kind, fraction, based, number}
use Rattle.rustc_lexer.specs.Numbers.{LongestRun, prefix, ExponentPart, no_exponent, unsigned, signed, PointPart, no_point, point, number_kind, NumberParts, decimal, no_digits}
use Rattle.rustc_lexer.specs.Numbers as parts
use Rattle.rustc_lexer.specs.Reads.{Reads}
use Rattle.rustc_lexer.specs.declared.literals.Body.{Body}
use Rattle.rustc_lexer.specs.declared.token.Base.{Base}
use Rattle.rustc_lexer.specs.declared.token.Base.TheVariants.{Binary, Octal, Decimal, Hexadecimal}
use Rattle.rustc_lexer.specs.declared.token.LiteralKind.{LiteralKind}
use Rattle.rustc_lexer.specs.declared.token.LiteralKind.TheVariants.{Float}
use Rattle.rustc_lexer.proofs.Booleans.{bool_cases, and_left, and_false}
use Rattle.rustc_lexer.proofs.Cases.{first-false, first-none}
use Rattle.rustc_lexer.proofs.CommentEnds.{both}
use Rattle.rustc_lexer.proofs.LongestRuns.{run-there, run-empty, run-past, longest-digits}
use Rattle.rustc_lexer.proofs.Reading.{reads-next, reads-skip, reads-look, reads-give, reads-then, reads-else, reads-optional, reads-digits, reads-along, picks-then, picks-else}
use Rattle.rustc_lexer.proofs.Wide.{decimal_zero, hex_zero}

abbrev whole : LiteralKind → Body
whole k = record { kind = k; ends = true }

-- whether an exponent has no digit
abbrev emptiness : Option (List ℕ) → Option Bool
emptiness None = None
emptiness (Some run) = Some (not (has_digit run))

reads-exponent : {text rest : List ℕ} {e : Option (List ℕ)} → ExponentPart text e rest → Reads exponent text (emptiness e) rest
unfolding exponent
reads-exponent (no_exponent h) = reads-next _ (reads-look _) (reads-else _ h (reads-give refl))
reads-exponent (unsigned {e} {text} {run} {rest} h s r) =
    reads-next _ (reads-look _) (reads-then _ h
    (reads-next _ (reads-skip 1 refl)
    (reads-next _ (reads-look _)
    (reads-next _ (reads-optional _ {old = text} {new = text} (sym (picks-else (is_sign (peek 0 text)) (drop 1 text) text s)))
    (reads-next _ (longest-digits r) (reads-give refl))))))
reads-exponent (signed {e} {s} {text} {run} {rest} h g r) =
    reads-next _ (reads-look _) (reads-then _ h
    (reads-next _ (reads-skip 1 refl)
    (reads-next _ (reads-look _)
    (reads-next _ (reads-optional _ {old = s ∷ text} {new = text} (sym (picks-then (is_sign s) text (s ∷ text) g)))
    (reads-next _ (longest-digits r) (reads-give refl))))))

or_true : (a b : Bool) → b ≡ true → (a || b) ≡ true
or_true true b h = refl
or_true false b h = h

-- after a dot that no digit follows stands no digit, no `_` and no exponent
no-start : (b : ℕ) → is_point dot b ≡ true → is_id_start b ≡ false
unfolding is_point
no-start b h =
    elim (bool_cases (is_id_start b)) [
      | inl s ↦ let w : false ≡ true = sym (ap not (or_true (b == dot) (is_id_start b) s)) ∙ h in cc
      | inr s ↦ s
    ]

no-digit : (b : ℕ) → is_id_start b ≡ false → is_digit b ≡ false → digit_or_underscore b ≡ false
unfolding digit_or_underscore is_id_start
no-digit b s d =
    elim (bool_cases (b == underscore)) [
      | inl u ↦ let w : true ≡ false = sym (ap (λ t. t || is_xid_start b) u) ∙ s in cc
      | inr u ↦ ap (λ t. t || is_digit b) u ∙ d
    ]

small-starts : is_id_start 101 ≡ true
unfolding is_id_start
small-starts = is_xid_start-ascii 101 (lit< tt)

capital-starts : is_id_start 69 ≡ true
unfolding is_id_start
capital-starts = is_xid_start-ascii 69 (lit< tt)

letters-start : (b : ℕ) → is_exponent b ≡ true → is_id_start b ≡ true
unfolding is_exponent
letters-start b h =
    elim (bool_cases (b == 101)) [
      | inl e ↦ ap is_id_start (eqb-true b 101 e) ∙ small-starts
      | inr e ↦
          ap is_id_start (eqb-true b 69 (sym (ap (λ t. t || (b == 69)) e) ∙ h)) ∙ capital-starts
    ]

no-letter : (b : ℕ) → is_id_start b ≡ false → is_exponent b ≡ false
no-letter b s =
    elim (bool_cases (is_exponent b)) [
      | inl e ↦ let w : true ≡ false = sym (letters-start b e) ∙ s in cc
      | inr e ↦ e
    ]

none-read : {text rest : List ℕ} {e : Option (List ℕ)} → ExponentPart text e rest → is_exponent (peek 0 text) ≡ false → (e ≡ None) × (rest ≡ text)
none-read (no_exponent h) other = (refl, refl)
none-read (unsigned h s r) other = let w : true ≡ false = sym h ∙ other in cc
none-read (signed h s r) other = let w : true ≡ false = sym h ∙ other in cc

plain-same : (base : Base) (e : Option (List ℕ)) → plain_kind base (emptiness e) ≡ number_kind base false e
unfolding plain_kind
plain-same base None = refl
plain-same base (Some run) = refl

dotted-same : (base : Base) (e : Option (List ℕ)) → dotted_kind base (emptiness e) ≡ number_kind base true e
unfolding dotted_kind
dotted-same base None = refl
dotted-same base (Some run) = refl

-- a dot before no digit is the number's end
pointed-end : (base : Base) {text run end rest : List ℕ} {e : Option (List ℕ)} → is_point dot (peek 0 text) ≡ true → is_digit (peek 0 text) ≡ false → LongestRun digit_or_underscore text run end → ExponentPart end e rest → (rest ≡ text) × (Float base false ≡ number_kind base true e)
pointed-end base {text} {run} {end} {rest} {e} h d r x =
    let start = no-start (peek 0 text) h in
    let same : end ≡ text = run-empty r (no-digit (peek 0 text) start d) in
    let first : is_exponent (peek 0 end) ≡ false = ap (λ z. is_exponent (peek 0 z)) same ∙ no-letter (peek 0 text) start in
    let none = none-read x first in
    (none.1 ∙ same, sym (ap (number_kind base true) none.0))

reads-fraction : (base : Base) {mid end rest : List ℕ} {pointed : Bool} {e : Option (List ℕ)} → PointPart mid pointed end → ExponentPart end e rest → Reads (fraction base) mid (whole (number_kind base pointed e)) rest
unfolding fraction
reads-fraction base {e = e} (no_point h) x =
    reads-next _ (reads-look is_point) (reads-else _ h (reads-next _ (reads-exponent x) (reads-give (ap whole (plain-same base e)))))
reads-fraction base {rest = rest} {e = e} (point {text} h r) x =
    elim (bool_cases (is_digit (peek 0 text))) [
      | inl d ↦
          reads-next _ (reads-look is_point) (reads-then _ h (reads-next _ (reads-skip 1 refl) (reads-next _ (reads-look _) (reads-then _ d
          (reads-next _ (longest-digits r) (reads-next _ (reads-exponent x) (reads-give (ap whole (dotted-same base e)))))))))
      | inr d ↦
          let last = pointed-end base h d r x in
          let P : List ℕ → Type 0 = λ z. Reads (fraction base) (dot ∷ text) (whole (number_kind base true e)) z in
          subst P (sym last.0) (reads-next _ (reads-look is_point) (reads-then _ h (reads-next _ (reads-skip 1 refl) (reads-next _ (reads-look _) (reads-else _ d
          (reads-give (ap whole last.1)))))))
    ]

zero-passes : (base : Base) → digits_of base 0 ≡ false
unfolding digits_of
zero-passes Binary = decimal_zero
zero-passes Octal = decimal_zero
zero-passes Decimal = decimal_zero
zero-passes Hexadecimal = hex_zero

digit-passes : (b : ℕ) → is_digit b ≡ true → digit_or_underscore b ≡ true
unfolding digit_or_underscore
digit-passes b h = or_true (b == underscore) (is_digit b) h

-- the prefix of a base names it
reads-prefix : (base : Base) (text : List ℕ) {rest : List ℕ} {b : Body} → (base ≡ Decimal → ⊥) → Reads (based (Some base)) (prefix base ++ text) b rest → Reads number (prefix base ++ text) b rest
unfolding number base_of first_fit
reads-prefix Binary text other r = reads-next _ (reads-look base_of) (reads-along based refl r)
reads-prefix Octal text other r = reads-next _ (reads-look base_of) (reads-along based refl r)
reads-prefix Decimal text other r = absurd (other refl)
reads-prefix Hexadecimal text other r = reads-next _ (reads-look base_of) (reads-along based refl r)

past-prefix : (base : Base) (text : List ℕ) → (base ≡ Decimal → ⊥) → text ≡ drop 2 (prefix base ++ text)
past-prefix Binary text other = refl
past-prefix Octal text other = refl
past-prefix Decimal text other = absurd (other refl)
past-prefix Hexadecimal text other = refl

pub reads-number : {text rest : List ℕ} {kind : LiteralKind} → NumberParts text kind rest → Reads number text (record { kind = kind; ends = true }) rest
unfolding based number
reads-number (decimal {text} first none r p x) =
    reads-next _ (reads-look base_of) (reads-along based none (reads-next _ (reads-skip 1 refl)
    (reads-next _ (reads-digits digit_or_underscore (run-past r decimal_zero (digit-passes (peek 0 text) first)) refl) (reads-fraction Decimal p x))))
reads-number (parts.based {base} {text} other r has p x) =
    reads-prefix base text other (reads-next _ (reads-skip 2 (past-prefix base text other))
    (reads-next _ (longest-digits r) (reads-then _ has (reads-fraction base p x))))
reads-number (no_digits {base} {text} other r none) =
    reads-prefix base text other (reads-next _ (reads-skip 2 (past-prefix base text other))
    (reads-next _ (longest-digits r) (reads-else _ none (reads-give refl))))

-- Each text has an exponent or none, a dot or none.

sign-zero : (text : List ℕ) → is_sign (peek 0 text) ≡ true → (s : ℕ) × (cs : List ℕ) × (text ≡ s ∷ cs)
unfolding is_sign
sign-zero [] h = let w : false ≡ true = h in cc
sign-zero (s ∷ cs) h = (s, cs, refl)

abbrev AnyExponent : List ℕ → Type 0
AnyExponent text = (e : Option (List ℕ)) × (rest : List ℕ) × ExponentPart text e rest

any-exponent : (text : List ℕ) → AnyExponent text
unfolding is_exponent is_sign
any-exponent [] = (None, [], no_exponent refl)
any-exponent (e ∷ []) =
    elim (bool_cases (is_exponent e)) [
      | inl h ↦
          let r = run-there digit_or_underscore [] decimal_zero in
          (Some _, _, unsigned h refl r)
      | inr h ↦ (None, e ∷ [], no_exponent h)
    ]
any-exponent (e ∷ s ∷ cs) =
    elim (bool_cases (is_exponent e)) [
      | inl h ↦
          elim (bool_cases (is_sign s)) [
            | inl g ↦ (Some _, _, signed h g (run-there digit_or_underscore cs decimal_zero))
            | inr g ↦ (Some _, _, unsigned h g (run-there digit_or_underscore (s ∷ cs) decimal_zero))
          ]
      | inr h ↦ (None, e ∷ s ∷ cs, no_exponent h)
    ]

abbrev AnyTail : List ℕ → Type 0
AnyTail text =
    (pointed : Bool) × (end : List ℕ) × (e : Option (List ℕ)) × (rest : List ℕ) × PointPart text pointed end × ExponentPart end e rest

dot-first : (a b : ℕ) → is_point a b ≡ true → a ≡ dot
unfolding is_point
dot-first a b h = eqb-true a dot (and_left (a == dot) _ h)

any-tail : (text : List ℕ) → AnyTail text
unfolding is_point
any-tail [] = let x = any-exponent [] in (false, [], x.0, x.1, no_point refl, x.2)
any-tail (c ∷ cs) =
    elim (bool_cases (is_point c (peek 0 cs))) [
      | inl h ↦
          let r = run-there digit_or_underscore cs decimal_zero in
          let x = any-exponent (drop (run_len digit_or_underscore cs) cs) in
          let is = dot-first c (peek 0 cs) h in
          let P : ℕ → Type 0 = λ z. PointPart (z ∷ cs) true (drop (run_len digit_or_underscore cs) cs) in
          (true, _, x.0, x.1, subst P (sym is) (point (ap (λ z. is_point z (peek 0 cs)) (sym is) ∙ h) r), x.2)
      | inr h ↦ let x = any-exponent (c ∷ cs) in (false, c ∷ cs, x.0, x.1, no_point h, x.2)
    ]

abbrev AnyNumber : List ℕ → Type 0
AnyNumber text = (kind : LiteralKind) × (rest : List ℕ) × NumberParts text kind rest

any-decimal : (text : List ℕ) → is_digit (peek 0 text) ≡ true → base_of (peek 0 text) (peek 1 text) ≡ None → AnyNumber text
any-decimal text h none =
    let r = run-there digit_or_underscore text decimal_zero in
    let t = any-tail (drop (run_len digit_or_underscore text) text) in
    (_, _, decimal h none r t.4 t.5)

any-based : (base : Base) (text : List ℕ) → (base ≡ Decimal → ⊥) → AnyNumber (prefix base ++ text)
any-based base text other =
    let r = run-there (digits_of base) text (zero-passes base) in
    let t = any-tail (drop (run_len (digits_of base) text) text) in
    elim (bool_cases (has_digit (take (run_len (digits_of base) text) text))) [
      | inl has ↦ (_, _, parts.based other r has t.4 t.5)
      | inr none ↦ (_, _, no_digits other r none)
    ]

any-prefixed : (base : Base) (x a b : ℕ) (text : List ℕ) → (base ≡ Decimal → ⊥) → prefix base ≡ 48 ∷ x ∷ [] → ((a == 48) && (b == x)) ≡ true → AnyNumber (a ∷ b ∷ text)
any-prefixed base x a b text other same h =
    let is = both a b 48 x h in
    let spelled : prefix base ++ text ≡ a ∷ b ∷ text =
    ap (λ z. z ++ text) same ∙ ap (λ z. z ∷ x ∷ text) (sym is.0) ∙ ap (λ z. a ∷ z ∷ text) (sym is.1) in
    subst AnyNumber spelled (any-based base text other)

one-character : (a : ℕ) → base_of a 0 ≡ None
unfolding base_of
one-character a =
    first-false _ _ _ (and_false (a == 48)) ∙ first-false _ _ _ (and_false (a == 48)) ∙ first-false _ _ _ (and_false (a == 48)) ∙ first-none None

any-number : (text : List ℕ) → is_digit (peek 0 text) ≡ true → AnyNumber text
unfolding is_digit base_of
any-number [] h = let w : false ≡ true = h in cc
any-number (a ∷ []) h = any-decimal (a ∷ []) h (one-character a)
any-number (a ∷ b ∷ text) h =
    elim (bool_cases ((a == 48) && (b == letter_b))) [
      | inl g ↦ any-prefixed Binary letter_b a b text (λ e. cc) refl g
      | inr no_b ↦
          elim (bool_cases ((a == 48) && (b == letter_o))) [
            | inl g ↦ any-prefixed Octal letter_o a b text (λ e. cc) refl g
            | inr no_o ↦
                elim (bool_cases ((a == 48) && (b == letter_x))) [
                  | inl g ↦ any-prefixed Hexadecimal letter_x a b text (λ e. cc) refl g
                  | inr no_x ↦
                      any-decimal (a ∷ b ∷ text) h (first-false _ _ _ no_b ∙ first-false _ _ _ no_o ∙ first-false _ _ _ no_x ∙ first-none None)
                ]
          ]
    ]

-- so the number that is read has its parts
pub number-parts : (text : List ℕ) → is_digit (peek 0 text) ≡ true → NumberParts text (number text).value.kind (drop (number text).taken text)
number-parts text h =
    let n = any-number text h in
    let r = reads-number n.2 in
    let P : Body → Type 0 = λ b. NumberParts text b.kind n.1 in
    let Q : List ℕ → Type 0 = λ z. NumberParts text (number text).value.kind z in
    subst Q r.rest_is (subst P (sym r.value_is) n.2)

-- A float's text, cut at its first dot.
use Rattle.std.proofs.Common.{◌≡◌, ◌≢◌, ◌<◌, ◌==◌, ℕ, suc, ◌+◌, Bool, true, false, not, List, [], ◌∷◌, ◌++◌, length, get_or, take, drop, refl, ap, sym, subst, ◌∙◌, length-append, arith}
use Rattle.std.specs.List.{prefix_len}
use Rattle.std.specs.Str.{chars, IsUtf8}
use Rattle.std.proofs.Math.Seq.{drop-append_seam, take-append_seam, drop-cons}
use Rattle.std.proofs.Math.Utf8.{encode, encodes}
use Rattle.std.proofs.lemmas.Bool.Decides.{Decides-eqb}
use Rattle.std.proofs.lemmas.List.{take-append-drop, get_or-append-add, take_all, drop_all, length-take, get_or-take}
use Rattle.std.proofs.lemmas.Str.{IsCharBoundary-before_ascii, IsUtf8-drop, IsUtf8-take, IsUtf8-past_char, chars-append, chars_from_encodes, encode_ascii, encodes-chars}
use Rattle.parser_events.specs.Dress.{before_dot, from_dot, is_empty}
use Rattle.parser_events.specs.Forest.{IllegalFloat}
use Rattle.parser_events.specs.Laying.{split_steps}
use Rattle.parser_events.specs.TextSteps.{Token, Enter, Exit, Error}
use Rattle.parser_input.specs.Kinds.{ERROR, NAME_REF, INT_NUMBER, FLOAT_NUMBER, DOT}
use Rattle.parser_events.proofs.Comments.{read, written}

-- how many characters stand before the first dot
abbrev undotted : List ℕ → ℕ
undotted cs = prefix_len (λ c. not (c == 46)) cs

undotted-past : (c : ℕ) (cs : List ℕ) → (c == 46) ≡ false → undotted (c ∷ cs) ≡ suc (undotted cs)
undotted-past c cs e = rw e (omega arith)

undotted-at : (c : ℕ) (cs : List ℕ) → (c == 46) ≡ true → undotted (c ∷ cs) ≡ 0
undotted-at c cs e = rw e refl

abbrev HasNone : List ℕ → Type 0
HasNone bs = (i : ℕ) → i < length bs → get_or bs i 0 ≢ 46

none-after : (c : ℕ) (cs : List ℕ) → HasNone (encodes (c ∷ cs)) → HasNone (encodes cs)
none-after c cs h i within e =
    h (length (encode c) + i) (omega (arith, within, length-append (encode c) (encodes cs))) (get_or-append-add (encode c) (encodes cs) i 0 ∙ e)

none-first : (c : ℕ) (cs : List ℕ) → HasNone (encodes (c ∷ cs)) → (c == 46) ≡ false
none-first c cs h = whichever (c == 46) refl
  where
    whichever : (b : Bool) → (c == 46) ≡ b → (c == 46) ≡ false
    whichever false e = e
    whichever true e =
        let is : c ≡ 46 = (Decides-eqb c 46).0 e in
        let bytes : encodes (c ∷ cs) ≡ 46 ∷ encodes cs = ap (λ (x : ℕ). encodes (x ∷ cs)) is ∙ written 46 cs (omega arith) in
        absurd (h 0 (omega (arith, ap length bytes)) (ap (λ (x : List ℕ). get_or x 0 0) bytes))

undotted-all : (cs : List ℕ) → HasNone (encodes cs) → undotted cs ≡ length cs
undotted-all [] h = refl
undotted-all (c ∷ cs) h = undotted-past c cs (none-first c cs h) ∙ ap suc (undotted-all cs (none-after c cs h))

undotted-parts : (cs ds : List ℕ) → HasNone (encodes cs) → undotted (cs ++ (46 ∷ ds)) ≡ length cs
undotted-parts [] ds h = undotted-at 46 ds ((Decides-eqb 46 46).1 refl)
undotted-parts (c ∷ cs) ds h =
    undotted-past c (cs ++ (46 ∷ ds)) (none-first c cs h) ∙ ap suc (undotted-parts cs ds (none-after c cs h))

pub whole-undotted : (bs : List ℕ) → IsUtf8 bs → HasNone bs → chars bs ≡ before_dot (chars bs)
unfolding before_dot
whole-undotted bs u h =
    let none = undotted-all (chars bs) (subst HasNone (sym (encodes-chars bs u)) h) in
    sym (take_all (undotted (chars bs)) (chars bs) (omega (arith, none)))

pub rest-undotted : (bs : List ℕ) → IsUtf8 bs → HasNone bs → [] ≡ from_dot (chars bs)
unfolding from_dot
rest-undotted bs u h =
    let none = undotted-all (chars bs) (subst HasNone (sym (encodes-chars bs u)) h) in
    sym (drop_all (undotted (chars bs)) (chars bs) (omega (arith, none)))

-- the text's characters, where its first dot is the byte of this number
record Cut (bs : List ℕ) (k : ℕ) : Type 0 where
  after : List ℕ
  front_is : undotted (chars bs) ≡ length (chars (take k bs))
  rest_is : chars (drop k bs) ≡ 46 ∷ after
  whole_is : chars bs ≡ chars (take k bs) ++ chars (drop k bs)

cut : (bs : List ℕ) (k : ℕ) → IsUtf8 bs → k < length bs → get_or bs k 0 ≡ 46 → ((i : ℕ) → i < k → get_or bs i 0 ≢ 46) → Cut bs k
cut bs k u within at before =
    let boundary = IsCharBoundary-before_ascii bs k within (omega (arith, at)) in
    let front = IsUtf8-take bs k u boundary in
    let back = IsUtf8-drop bs k u boundary in
    let bytes : drop k bs ≡ 46 ∷ drop (suc k) bs = drop-cons bs k 0 within ∙ ap (λ (b : ℕ). b ∷ drop (suc k) bs) at in
    let one = read 46 (chars (drop k bs)) (drop (suc k) bs) (omega arith) (encodes-chars (drop k bs) back ∙ bytes) in
    let whole : chars bs ≡ chars (take k bs) ++ chars (drop k bs) =
    ap chars (sym (take-append-drop k bs)) ∙ chars-append (take k bs) (drop k bs) front in
    let none : HasNone (encodes (chars (take k bs))) =
    subst HasNone (sym (encodes-chars (take k bs) front)) (λ i h e. before i (omega (arith, h, length-take k bs)) (sym (get_or-take k bs i 0 (omega (arith, h, length-take k bs))) ∙ e)) in
    record {
      after = one.0;
      front_is = ap undotted (whole ∙ ap (λ (r : List ℕ). chars (take k bs) ++ r) one.1) ∙ undotted-parts (chars (take k bs)) one.0 none;
      rest_is = one.1;
      whole_is = whole;
    }

pub front-cut : (bs : List ℕ) (k : ℕ) → IsUtf8 bs → k < length bs → get_or bs k 0 ≡ 46 → ((i : ℕ) → i < k → get_or bs i 0 ≢ 46) →
    chars (take k bs) ≡ before_dot (chars bs)
unfolding before_dot
front-cut bs k u within at before =
    let c = cut bs k u within at before in
    sym (ap (λ (n : ℕ). take n (chars bs)) c.front_is ∙ ap (take (length (chars (take k bs)))) c.whole_is ∙ take-append_seam (chars (take k bs)) (chars (drop k bs)))

pub rest-cut : (bs : List ℕ) (k : ℕ) → IsUtf8 bs → k < length bs → get_or bs k 0 ≡ 46 → ((i : ℕ) → i < k → get_or bs i 0 ≢ 46) →
    chars (drop k bs) ≡ from_dot (chars bs)
unfolding from_dot
rest-cut bs k u within at before =
    let c = cut bs k u within at before in
    sym (ap (λ (n : ℕ). drop n (chars bs)) c.front_is ∙ ap (drop (length (chars (take k bs)))) c.whole_is ∙ drop-append_seam (chars (take k bs)) (chars (drop k bs)))

-- the text from the first dot on is empty if it does not begin with a dot
pub dot-first : (rest t : List ℕ) → IsUtf8 rest → chars rest ≡ from_dot t → ((r : List ℕ) → rest ≢ 46 ∷ r) → is_empty (from_dot t) ≡ true
unfolding from_dot is_empty
dot-first rest [] u e h = refl
dot-first rest (c ∷ cs) u e h = whichever (c == 46) refl (λ past. dot-first rest cs u past h)
  where
    whichever : (b : Bool) → (c == 46) ≡ b → (chars rest ≡ from_dot cs → is_empty (from_dot cs) ≡ true) → is_empty (from_dot (c ∷ cs)) ≡ true
    whichever true s more =
        let is : c ≡ 46 = (Decides-eqb c 46).0 s in
        let all : chars rest ≡ 46 ∷ cs = e ∙ ap (λ (n : ℕ). drop n (c ∷ cs)) (undotted-at c cs s) ∙ ap (λ (x : ℕ). x ∷ cs) is in
        absurd (h (encodes cs) (sym (encodes-chars rest u) ∙ ap encodes all ∙ written 46 cs (omega arith)))
    whichever false s more =
        let past : from_dot (c ∷ cs) ≡ from_dot cs = ap (λ (n : ℕ). drop n (c ∷ cs)) (undotted-past c cs s) in
        ap is_empty past ∙ more (e ∙ past)

pub dot-read : (rest r : List ℕ) → IsUtf8 rest → rest ≡ 46 ∷ r → chars rest ≡ 46 ∷ chars r
dot-read rest r u e =
    let one = read 46 (chars rest) r (omega arith) (encodes-chars rest u ∙ e) in
    one.1 ∙ ap (λ (x : List ℕ). 46 ∷ x) (chars_from_encodes one.0 r (IsUtf8-past_char rest r 46 u (e ∙ sym (ap (λ (x : List ℕ). x ++ r) (encode_ascii 46 (omega arith))))) one.2)

-- What a split puts.

pub split-wrong : (e : Bool) (p : ℕ) (t : List ℕ) → is_empty (from_dot t) ≡ true →
    (Error IllegalFloat p ∷ Enter ERROR ∷ Token FLOAT_NUMBER t ∷ Exit ∷ Exit ∷ []) ≡ split_steps e p t
split-wrong e p t h = rw h refl

pub split-one : (p : ℕ) (t w ds : List ℕ) → before_dot t ≡ w → from_dot t ≡ 46 ∷ ds →
    (Enter NAME_REF ∷ Token INT_NUMBER w ∷ Exit ∷ Exit ∷ Token DOT (46 ∷ ds) ∷ []) ≡ split_steps true p t
unfolding is_empty
split-one p t w ds b f = rw (b, f) refl

pub split-two : (p : ℕ) (t w ds : List ℕ) → before_dot t ≡ w → from_dot t ≡ 46 ∷ ds →
    (Enter NAME_REF ∷ Token INT_NUMBER w ∷ Exit ∷ Exit ∷ Token DOT (46 ∷ []) ∷ Enter NAME_REF ∷ Token INT_NUMBER ds ∷ Exit ∷ []) ≡ split_steps false p t
unfolding is_empty
split-two p t w ds b f = rw (b, f) refl

pub dot-text : chars (46 ∷ []) ≡ 46 ∷ []
unfolding chars
dot-text = refl

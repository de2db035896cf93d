-- The preface of a text by its bytes: it makes the text with the content, and texts with equal fronts have equal prefaces where the
-- shebangs and the prefaces are equally long.
use Rattle.std.proofs.Common.{◌≡◌, ℕ, Bool, true, false, not, nat_eq, ◌||◌, ◌==◌, eq-eqb, List, [], ◌∷◌, ◌++◌, take, drop, refl, sym, ◌∙◌, ap, subst, chars, arith, append-nil, Option, None, Some, is_some, option_map, unwrap_or, Result, Ok, Err, if◌then◌else◌}
use Rattle.std.specs.Option.{option_eq}
use Rattle.std.specs.Str.{IsUtf8, IsCharBoundary}
use Rattle.std.proofs.Math.Bool.{beq}
use Rattle.std.proofs.lemmas.Bool.{eqb-true}
use Rattle.std.proofs.lemmas.List.{append_cancel_left}
use Rattle.std.proofs.lemmas.Str.{len_utf8_bounds}
use Rattle.rustc_lexer.specs.Characters.{size}
use Rattle.rustc_lexer.specs.Shebang.{has_shebang, line_len, opens_attribute, shebang}
use Rattle.rustc_lexer.specs.Tokens.{token_list}
use Rattle.parser_input.specs.Kinds.{SHEBANG, FRONTMATTER}
use Rattle.parser_input.specs.Lexed.{Lexed, content, cut, frontmatter_leaf, lexed, preface, quiet, shebang_leaf}
use Rattle.parser_input.specs.Preface.{Piece, Source, after_shebang, piece, shebang_piece, source}
use Rattle.parser_input.specs.Stored.{frontmatter_end}
use Rattle.parser_input.specs.declared.edition.Edition.TheVariants.{Edition2015}
use Rattle.parser_input.specs.declared.frontmatter_error.FrontmatterError.{FrontmatterError}
use Rattle.lexed_text.proofs.Texts.{place}
use Rattle.parser_input.proofs.LexedSteps.{shebang-size}
use Rattle.parser_input.proofs.LexedTexts.{leaves-joined}
use Rattle.parser_input.proofs.Prefaces.{after-none, after-some}
use Rattle.plain_names.specs.LeafNames.{texts}
use Rattle.plain_names.proofs.RenamedLeaves.{texts-append, cut-joined}

-- the preface and the content make the text
pub parted : (t : List ℕ) → texts (preface t) ++ content t ≡ t
unfolding lexed
parted t =
    ap (λ (x : List ℕ). texts (preface t) ++ x) (sym (cut-joined Edition2015 (content t)))
    ∙ sym (texts-append (preface t) (cut Edition2015 0 (content t)))
    ∙ leaves-joined Edition2015 t

-- fronts of one text that have equally many bytes
same-front : (s t u v : List ℕ) → s ++ u ≡ t ++ v → size s ≡ size t → s ≡ t
unfolding size
same-front [] [] u v is same = refl
same-front [] (y ∷ t) u v is same = absurd (omega (arith, same, (len_utf8_bounds y).0))
same-front (x ∷ s) [] u v is same = absurd (omega (arith, same, (len_utf8_bounds x).0))
same-front (x ∷ s) (y ∷ t) u v is same =
    let first : x ≡ y = cc in
    let rest : s ++ u ≡ t ++ v = cc in
    let long : size s ≡ size t = omega (arith, same, ap (λ (c : ℕ). size (c ∷ [])) first) in
    ap (λ (c : ℕ). c ∷ s) first ∙ ap (λ (z : List ℕ). y ∷ z) (same-front s t u v rest long)

abbrev bytes_of : Option Piece → Option ℕ
bytes_of o = option_map (λ (p : Piece). size p.text) o

abbrev found : List ℕ → Bool → Bool → Option ℕ
found t a b = if a then (if b then None else Some (size (take (line_len t) t))) else None

-- the shebang's bytes
shebang-bytes : (t : List ℕ) → shebang t ≡ bytes_of (shebang_piece t)
unfolding shebang shebang_piece
shebang-bytes t = by-case (has_shebang t) (opens_attribute (token_list (drop 2 t)))
  where
    by-case : (a b : Bool) → found t a b ≡ bytes_of (if is_some (found t a b) then Some (piece t t (line_len t)) else None)
    by-case false b = refl
    by-case true true = refl
    by-case true false = refl

-- the leaf of the frontmatter, if it is closed
abbrev closed_leaf : Option Piece → List ℕ → List Lexed
closed_leaf c x = elim c [ None ↦ [] | Some p ↦ quiet FRONTMATTER x ∷ [] ]

abbrev fence : Result Source FrontmatterError → Bool
fence r = is_some (frontmatter_end r)

-- the leaves by their texts
shebang-leaf : (o : Option Piece) → shebang_leaf o ≡ (if is_some (bytes_of o) then quiet SHEBANG (texts (shebang_leaf o)) ∷ [] else [])
shebang-leaf None = refl
shebang-leaf (Some p) = ap (λ (x : List ℕ). quiet SHEBANG x ∷ []) (sym (append-nil p.text))

closed-leaf : (c : Option Piece) (x : List ℕ) → closed_leaf c x ≡ (if is_some c then quiet FRONTMATTER (texts (closed_leaf c x)) ∷ [] else [])
closed-leaf None x = refl
closed-leaf (Some p) x = ap (λ (z : List ℕ). quiet FRONTMATTER z ∷ []) (sym (append-nil x))

closed-end : (c : Option Piece) (n : ℕ) → is_some (elim c [ None ↦ None | Some p ↦ Some n ]) ≡ is_some c
closed-end None n = refl
closed-end (Some p) n = refl

frontmatter-leaf :
    (t : List ℕ) (r : Result Source FrontmatterError)
    → frontmatter_leaf t r ≡ (if fence r then quiet FRONTMATTER (texts (frontmatter_leaf t r)) ∷ [] else [])
frontmatter-leaf t (Err e) = refl
frontmatter-leaf t (Ok s) =
    closed-leaf s.closing _ ∙ ap (λ (b : Bool). if b then quiet FRONTMATTER (texts (frontmatter_leaf t (Ok s))) ∷ [] else []) (sym (closed-end s.closing s.content.start))

shebang-leaf-size : (o : Option Piece) → size (texts (shebang_leaf o)) ≡ unwrap_or (bytes_of o) 0
unfolding size
shebang-leaf-size None = refl
shebang-leaf-size (Some p) = ap size (append-nil p.text)

-- A text that begins with another one's preface has that preface if shebang, frontmatter and bytes say so.
pub same-preface :
    (a b rest : List ℕ) → texts (preface a) ++ rest ≡ b → shebang a ≡ shebang b → fence (source a) ≡ fence (source b)
    → size (texts (preface a)) ≡ size (texts (preface b)) → preface a ≡ preface b
unfolding preface
same-preface a b rest begins same fenced long =
    let sa = shebang_leaf (shebang_piece a) in
    let sb = shebang_leaf (shebang_piece b) in
    let fa = frontmatter_leaf a (source a) in
    let fb = frontmatter_leaf b (source b) in
    let all : texts (preface a) ≡ texts (preface b) = same-front _ _ rest (content b) (begins ∙ sym (parted b)) long in
    let parts : texts sa ++ texts fa ≡ texts sb ++ texts fb = sym (texts-append sa fa) ∙ all ∙ texts-append sb fb in
    let bytes : bytes_of (shebang_piece a) ≡ bytes_of (shebang_piece b) = sym (shebang-bytes a) ∙ same ∙ shebang-bytes b in
    let sizes : size (texts sa) ≡ size (texts sb) =
    shebang-leaf-size (shebang_piece a) ∙ ap (λ (o : Option ℕ). unwrap_or o 0) bytes ∙ sym (shebang-leaf-size (shebang_piece b)) in
    let first : texts sa ≡ texts sb = same-front _ _ (texts fa) (texts fb) parts sizes in
    let second : texts fa ≡ texts fb = append_cancel_left (texts sb) (texts fa) (texts fb) (ap (λ (z : List ℕ). z ++ texts fa) (sym first) ∙ parts) in
    let one : sa ≡ sb =
    shebang-leaf (shebang_piece a)
    ∙ ap (λ (o : Option ℕ). if is_some o then quiet SHEBANG (texts sa) ∷ [] else []) bytes
    ∙ ap (λ (x : List ℕ). if is_some (bytes_of (shebang_piece b)) then quiet SHEBANG x ∷ [] else []) first
    ∙ sym (shebang-leaf (shebang_piece b)) in
    let other : fa ≡ fb =
    frontmatter-leaf a (source a)
    ∙ ap (λ (x : Bool). if x then quiet FRONTMATTER (texts fa) ∷ [] else []) fenced
    ∙ ap (λ (x : List ℕ). if fence (source b) then quiet FRONTMATTER x ∷ [] else []) second
    ∙ sym (frontmatter-leaf b (source b)) in
    ap (λ (z : List Lexed). z ++ fa) one ∙ ap (λ (z : List Lexed). sb ++ z) other

-- The other way round: a preface tells the bytes of its shebang, and whether there is a frontmatter.
shebang_of : List Lexed → Option ℕ
shebang_of [] = None
shebang_of (l ∷ ls) = if l.leaf.kind == SHEBANG then Some (size l.leaf.text) else None

has_fence : List Lexed → Bool
has_fence [] = false
has_fence (l ∷ ls) = (l.leaf.kind == FRONTMATTER) || has_fence ls

closed-none : (c : Option Piece) (x : List ℕ) → shebang_of (closed_leaf c x) ≡ None
unfolding shebang_of
closed-none None x = refl
closed-none (Some p) x = refl

frontmatter-none : (t : List ℕ) (r : Result Source FrontmatterError) → shebang_of (frontmatter_leaf t r) ≡ None
unfolding shebang_of
frontmatter-none t (Err e) = refl
frontmatter-none t (Ok s) = closed-none s.closing _

first-shebang : (o : Option Piece) (fs : List Lexed) → shebang_of fs ≡ None → shebang_of (shebang_leaf o ++ fs) ≡ bytes_of o
unfolding shebang_of
first-shebang None fs none = none
first-shebang (Some p) fs none = refl

shebang-told : (t : List ℕ) → shebang t ≡ shebang_of (preface t)
unfolding preface
shebang-told t = shebang-bytes t ∙ sym (first-shebang (shebang_piece t) (frontmatter_leaf t (source t)) (frontmatter-none t (source t)))

closed-fence : (c : Option Piece) (x : List ℕ) → has_fence (closed_leaf c x) ≡ is_some c
unfolding has_fence
closed-fence None x = refl
closed-fence (Some p) x = refl

frontmatter-fence : (t : List ℕ) (r : Result Source FrontmatterError) → has_fence (frontmatter_leaf t r) ≡ fence r
unfolding has_fence
frontmatter-fence t (Err e) = refl
frontmatter-fence t (Ok s) = closed-fence s.closing _ ∙ sym (closed-end s.closing s.content.start)

last-fence : (o : Option Piece) (fs : List Lexed) → has_fence (shebang_leaf o ++ fs) ≡ has_fence fs
unfolding has_fence
last-fence None fs = refl
last-fence (Some p) fs = refl

fence-told : (t : List ℕ) → fence (source t) ≡ has_fence (preface t)
unfolding preface
fence-told t = sym (last-fence (shebang_piece t) (frontmatter_leaf t (source t)) ∙ frontmatter-fence t (source t))

-- so equal prefaces have equal shebangs and frontmatters
pub same-shebang : (a b : List ℕ) → preface a ≡ preface b → shebang a ≡ shebang b
same-shebang a b same = shebang-told a ∙ ap shebang_of same ∙ sym (shebang-told b)

pub same-fence : (a b : List ℕ) → preface a ≡ preface b → fence (source a) ≡ fence (source b)
same-fence a b same = fence-told a ∙ ap has_fence same ∙ sym (fence-told b)

-- where a shebang ends
pub shebang-end : (bs : List ℕ) (n : ℕ) → IsUtf8 bs → shebang (chars bs) ≡ Some n → IsCharBoundary bs n
shebang-end bs n u is = subst (IsCharBoundary bs) (sym (shebang-size (chars bs) n is)) (place bs (line_len (chars bs)) u).boundary

pub shebang-rest : (bs : List ℕ) (n : ℕ) → IsUtf8 bs → shebang (chars bs) ≡ Some n → chars (drop n bs) ≡ after_shebang (chars bs)
shebang-rest bs n u is =
    ap (λ (k : ℕ). chars (drop k bs)) (shebang-size (chars bs) n is)
    ∙ (place bs (line_len (chars bs)) u).left
    ∙ after-some (chars bs) (ap is_some is)

pub no-shebang : (t : List ℕ) → shebang t ≡ None → t ≡ after_shebang t
no-shebang t is = after-none t (ap is_some is)

-- the tests of code
options-equal : (a b : Option ℕ) → option_eq nat_eq a b ≡ true → a ≡ b
options-equal None None e = refl
options-equal None (Some n) e = absurd (cc)
options-equal (Some m) None e = absurd (cc)
options-equal (Some m) (Some n) e = ap Some (eqb-true m n e)

option-itself : (a : Option ℕ) → option_eq nat_eq a a ≡ true
option-itself None = refl
option-itself (Some m) = eq-eqb m m refl

pub shebangs-equal : (a b : Option ℕ) (ne : Bool) → ne ≡ not (option_eq nat_eq a b) → ne ≡ false → a ≡ b
shebangs-equal a b ne is told = options-equal a b (flipped (option_eq nat_eq a b) (sym is ∙ told))
  where
    flipped : (x : Bool) → not x ≡ false → x ≡ true
    flipped true h = refl
    flipped false h = absurd (cc)

pub shebangs-differ : (a b : Option ℕ) (ne : Bool) → ne ≡ not (option_eq nat_eq a b) → ne ≡ true → a ≡ b → ⊥
shebangs-differ a b ne is told same =
    let e : option_eq nat_eq a b ≡ true = ap (λ (x : Option ℕ). option_eq nat_eq a x) (sym same) ∙ option-itself a in
    let z : false ≡ true = sym (ap not e) ∙ sym is ∙ told in
    cc

pub flags-equal : (a b : Bool) → not (beq a b) ≡ false → a ≡ b
flags-equal true true e = refl
flags-equal false false e = refl
flags-equal true false e = absurd (cc)
flags-equal false true e = absurd (cc)

pub flags-differ : (a b : Bool) → not (beq a b) ≡ true → a ≡ b → ⊥
flags-differ true true e same = absurd (cc)
flags-differ false false e same = absurd (cc)
flags-differ true false e same = absurd (cc)
flags-differ false true e same = absurd (cc)

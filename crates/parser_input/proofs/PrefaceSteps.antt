-- The preface as one or two leaves, and the content after it.
use Rattle.std.proofs.Common.{◌≡◌, ℕ, suc, ◌+◌, ◌-◌, inl, inr, true, ◌==◌, nat_lt, List, [], ◌∷◌, ◌++◌, length, take, drop, refl, sym, subst, ◌∙◌, ap, arith, chars, length-drop, append-nil, Option, Some, None, Result, Ok, Err}
use Rattle.std.specs.Str.{IsUtf8}
use Rattle.std.proofs.Math.Seq.{drop-length}
use Rattle.std.proofs.lemmas.List.{drop-drop}
use Rattle.std.proofs.lemmas.Str.{chars-nil}
use Rattle.rustc_lexer.specs.Characters.{size, line_feed}
use Rattle.rustc_lexer.proofs.Booleans.{bool_cases}
use Rattle.rustc_lexer.proofs.Sizes.{size-chars, size-parts}
use Rattle.parser_input.specs.Kind.{raw_of}
use Rattle.parser_input.specs.Kinds.{FRONTMATTER}
use Rattle.parser_input.specs.Lexed.{Lexed, content, content_of, cut, frontmatter_leaf, lexed, preface, quiet, shebang_leaf}
use Rattle.parser_input.specs.Lines.{after_line, blank_len, dashes}
use Rattle.parser_input.specs.Preface.{Source, bare, after_shebang, closing_line, enclosed, fenced, opening_line, shebang_piece, source, too_few, unclosed}
use Rattle.parser_input.specs.Stored.{Begun, Found, Opened, Placed, frontmatter_end, seen, seen_from}
use Rattle.parser_input.specs.declared.edition.Edition.{Edition}
use Rattle.parser_input.specs.declared.frontmatter_error.FrontmatterError.{FrontmatterError}
use Rattle.parser_input.specs.declared.lexed_str.StoredLeaf.{StoredLeaf}
use Rattle.parser_input.proofs.LexedSteps.{placed-more, seen-leaf, seen-push}
use Rattle.parser_input.proofs.Prefaces.{by-length, closing-suffix}

-- the end of a text
abbrev pub Suffix : List ℕ → List ℕ → Type 0
Suffix xs ys = (n : ℕ) × (xs ≡ drop n ys)

pub suffix-of : (xs ys zs : List ℕ) → Suffix xs ys → Suffix ys zs → Suffix xs zs
suffix-of xs ys zs a b = (b.0 + a.0, a.1 ∙ ap (λ (l : List ℕ). drop a.0 l) b.1 ∙ drop-drop a.0 b.0 zs)

pub after-suffix : (t : List ℕ) → Suffix (after_line t) t
unfolding after_line
after-suffix [] = (0, refl)
after-suffix (c ∷ cs) =
    elim (bool_cases (c == line_feed)) [
      | inl feed ↦ (1, let z : after_line (c ∷ cs) ≡ cs = rw (feed, after_line) refl in z)
      | inr other ↦
          let z : after_line (c ∷ cs) ≡ after_line cs = rw (other, after_line) refl in
          let rest = after-suffix cs in
          (suc rest.0, z ∙ rest.1)
    ]

-- a text has no frontmatter, a refused one, or one between two lines
pub data Form (t : List ℕ) : Type 0 where
  Bare : source t ≡ Ok (bare t) → Form t
  Refused : (e : FrontmatterError) → source t ≡ Err e → Form t
  Closed : (closing : List ℕ) → source t ≡ Ok (fenced t (opening_line t) closing) → Suffix closing (after_line (opening_line t)) → Form t

enclosed-form : (t : List ℕ) (n : ℕ) (o : Option (List ℕ)) → closing_line n true (after_line (opening_line t)) ≡ o → source t ≡ enclosed t n o → Form t
enclosed-form t n None e is = Refused (unclosed t n) is
enclosed-form t n (Some closing) e is = Closed closing is (closing-suffix n true (after_line (opening_line t)) closing e)

pub form : (t : List ℕ) → Form t
unfolding source
form t =
    let n = dashes (opening_line t) in
    elim (bool_cases (n == 0)) [
      | inl none ↦ Bare (rw none refl)
      | inr some ↦ elim (bool_cases (nat_lt n 3)) [
        | inl few ↦ Refused (too_few t n) (rw (some, few) refl)
        | inr many ↦ enclosed-form t n (closing_line n true (after_line (opening_line t))) refl (rw (some, many) refl)
      ]
    ]

abbrev Plain : List ℕ → Type 0
Plain t = (frontmatter_leaf t (source t) ≡ []) × (content t ≡ after_shebang t)

preface-plain : (t : List ℕ) → frontmatter_end (source t) ≡ None → Form t → Plain t
unfolding content bare fenced
preface-plain t e (Bare is) = (ap (λ (r : Result Source FrontmatterError). frontmatter_leaf t r) is, ap (λ (r : Result Source FrontmatterError). content_of t r) is)
preface-plain t e (Refused x is) = (ap (λ (r : Result Source FrontmatterError). frontmatter_leaf t r) is, ap (λ (r : Result Source FrontmatterError). content_of t r) is)
preface-plain t e (Closed closing is at) = let z = sym (ap (λ (r : Result Source FrontmatterError). frontmatter_end r) is) ∙ e in absurd (cc)

-- the frontmatter's characters are the first m after the shebang
record Framed (t : List ℕ) (end m : ℕ) : Type 0 where
  leaf_is : frontmatter_leaf t (source t) ≡ quiet FRONTMATTER (take m (after_shebang t)) ∷ []
  content_is : content t ≡ drop m (after_shebang t)
  end_is : end ≡ size t - size (drop m (after_shebang t))

preface-framed : (t : List ℕ) (end : ℕ) → frontmatter_end (source t) ≡ Some end → Form t → (m : ℕ) × Framed t end m
unfolding content bare fenced opening_line
preface-framed t end e (Bare is) = let z = sym (ap (λ (r : Result Source FrontmatterError). frontmatter_end r) is) ∙ e in absurd (cc)
preface-framed t end e (Refused x is) = let z = sym (ap (λ (r : Result Source FrontmatterError). frontmatter_end r) is) ∙ e in absurd (cc)
preface-framed t end e (Closed closing is at) =
    let r = after_shebang t in
    let left = after_line closing in
    let opening : Suffix (opening_line t) r = (blank_len r, refl) in
    let inside = suffix-of (after_line (opening_line t)) (opening_line t) r (after-suffix (opening_line t)) opening in
    let whole = suffix-of left closing r (after-suffix closing) (suffix-of closing (after_line (opening_line t)) r at inside) in
    let m = length r - length left in
    let own : left ≡ drop m r = by-length whole.0 r left whole.1 in
    let told : size t - size left ≡ end = let z = sym (ap (λ (q : Result Source FrontmatterError). frontmatter_end q) is) ∙ e in cc in (
      m,
      record {
        leaf_is = ap (λ (q : Result Source FrontmatterError). frontmatter_leaf t q) is;
        content_is = ap (λ (q : Result Source FrontmatterError). content_of t q) is ∙ own;
        end_is = sym told ∙ ap (λ (x : List ℕ). size t - size x) own;
      },
    )

pub opened-none : (text : List ℕ) (place : ℕ) (ps : List StoredLeaf) → Begun text place ps → frontmatter_end (source (chars text)) ≡ None → Opened text place ps
unfolding preface
opened-none text place ps b e =
    let t = chars text in
    let p = preface-plain t e (form t) in
    record {
      placed = b.placed;
      seen_is = b.seen_is ∙ sym (append-nil (shebang_leaf (shebang_piece t))) ∙ ap (λ (l : List Lexed). shebang_leaf (shebang_piece t) ++ l) (sym p.0);
      left_is = b.left_is ∙ sym p.1;
    }

pub opened-some : (text : List ℕ) (place : ℕ) (ps new : List StoredLeaf) (p : StoredLeaf) → IsUtf8 text → Begun text place ps → frontmatter_end (source (chars text)) ≡ Some p.end → raw_of p.kind ≡ FRONTMATTER → p.message ≡ None → new ≡ ps ++ p ∷ [] → Opened text p.end new
unfolding preface
opened-some text place ps new p u b e kind message is =
    let t = chars text in
    let r = after_shebang t in
    let f = preface-framed t p.end e (form t) in
    let m = f.0 in
    let rest = drop place text in
    let bytes : length rest ≡ size r = size-chars rest b.placed.utf8 ∙ ap size b.left_is in
    let parts = size-parts m r in
    let long = size-chars text u in
    let end : p.end ≡ place + size (take m (chars rest)) = omega (arith, f.1.end_is, bytes, parts, long, length-drop place text, b.placed.within, ap (λ (x : List ℕ). size (take m x)) b.left_is) in
    let more = placed-more text place m ps p b.placed end in
    let here = seen-leaf text place p (quiet FRONTMATTER (take m r)) kind message (more.own ∙ ap (λ (x : List ℕ). take m x) b.left_is) in
    record {
      placed = subst (λ (l : List StoredLeaf). Placed text p.end l) (sym is) more.placed;
      seen_is =
          ap (λ (l : List StoredLeaf). seen_from text 0 l) is ∙ seen-push text 0 ps p
          ∙ ap (λ (k : ℕ). seen_from text 0 ps ++ seen text k p ∷ []) b.placed.end_is
          ∙ ap (λ (x : Lexed). seen_from text 0 ps ++ x ∷ []) here
          ∙ ap (λ (l : List Lexed). l ++ quiet FRONTMATTER (take m r) ∷ []) b.seen_is
          ∙ ap (λ (l : List Lexed). shebang_leaf (shebang_piece t) ++ l) (sym f.1.leaf_is);
      left_is = more.left ∙ ap (λ (x : List ℕ). drop m x) b.left_is ∙ sym f.1.content_is;
    }

pub found-opened : (edition : Edition) (text : List ℕ) (place : ℕ) (ps : List StoredLeaf) → Opened text place ps → Found edition text place ps
unfolding lexed
found-opened edition text place ps o =
    record {
      spans = o.placed.spans;
      end_is = o.placed.end_is;
      within = o.placed.within;
      utf8 = o.placed.utf8;
      leaves_are =
          ap (λ (l : List Lexed). l ++ cut edition 0 (content (chars text))) (sym o.seen_is)
          ∙ ap (λ (x : List ℕ). seen_from text 0 ps ++ cut edition 0 x) (sym o.left_is);
    }

pub found-all : (edition : Edition) (text : List ℕ) (ps : List StoredLeaf) → Found edition text (length text) ps → seen_from text 0 ps ≡ lexed edition (chars text)
unfolding cut
found-all edition text ps f =
    let none : chars (drop (length text) text) ≡ [] = ap (λ (x : List ℕ). chars x) (drop-length text) ∙ chars-nil in
    sym (f.leaves_are ∙ ap (λ (x : List ℕ). seen_from text 0 ps ++ cut edition 0 x) none ∙ append-nil (seen_from text 0 ps))

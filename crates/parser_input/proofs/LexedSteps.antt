-- Leaf by leaf.
use Rattle.std.proofs.Common.{◌≡◌, ℕ, zero, suc, pred, ◌+◌, ◌-◌, ◌<◌, ◌≤◌, inl, inr, Bool, true, false, List, [], ◌∷◌, ◌++◌, length, take, drop, get_or, refl, sym, subst, ◌∙◌, ap, arith, chars, length-append, length-drop, length-take, append_assoc, slice_range, Option, Some, None, if◌then◌else◌}
use Rattle.std.specs.Char.{len_utf8}
use Rattle.std.specs.Str.{IsUtf8, IsCharBoundary}
use Rattle.std.proofs.Math.Utf8.{encodes}
use Rattle.std.proofs.Math.Seq.{drop-append_seam}
use Rattle.std.proofs.lemmas.List.{drop-drop, take-append-drop}
use Rattle.std.proofs.lemmas.Str.{encodes-chars, encodes-append, IsUtf8-drop, IsCharBoundary-from_drop}
use Rattle.rustc_lexer.specs.Characters.{size}
use Rattle.rustc_lexer.specs.Lexeme.{lexeme}
use Rattle.rustc_lexer.specs.Tokens as lexer
use Rattle.rustc_lexer.proofs.Booleans.{bool_cases}
use Rattle.rustc_lexer.proofs.Cutting.{first-length}
use Rattle.rustc_lexer.proofs.LexemesLocal.{lexeme-takes}
use Rattle.parser_input.specs.Kinds.{POUND, SHEBANG}
use Rattle.parser_input.specs.Messages.{message_of}
use Rattle.rustc_lexer.proofs.Seams.{seam, front-until}
use Rattle.rustc_lexer.proofs.Sizes.{length-size, size-encodes}
use Rattle.parser_input.specs.Kind.{raw_of}
use Rattle.parser_input.specs.Leaf.{leaf_of}
use Rattle.parser_input.specs.Lexed.{Lexed, cut, is_split, next_leaf, quiet, shebang_leaf}
use Rattle.std.specs.Option.{is_some}
use Rattle.rustc_lexer.specs.Shebang.{has_shebang, line_len, opens_attribute, shebang}
use Rattle.parser_input.specs.Preface.{Piece}
use Rattle.parser_input.proofs.Prefaces.{after-none, after-some, piece-none, piece-some}
use Rattle.parser_input.specs.Stored.{Begun, Found, Placed, AreSpans, end_from, leaf_next, seen, seen_from}
use Rattle.parser_input.specs.declared.edition.Edition.{Edition}
use Rattle.parser_input.specs.declared.message.Message.{Message}
use Rattle.parser_input.specs.declared.lexed_str.StoredLeaf.{StoredLeaf}

-- the place after the first m characters of a text, in bytes
pub record At (bs : List ℕ) (n m : ℕ) : Type 0 where
  pub within : n ≤ length bs
  pub boundary : IsCharBoundary bs n
  pub left : chars (drop n bs) ≡ drop m (chars bs)
  pub front : chars (take n bs) ≡ take m (chars bs)
  pub left_utf8 : IsUtf8 (drop n bs)

pub at-size : (bs : List ℕ) (m : ℕ) → IsUtf8 bs → At bs (size (take m (chars bs))) m
at-size bs m u =
    let cs = chars bs in
    let n = size (take m cs) in
    let xs = encodes (take m cs) in
    let ys = encodes (drop m cs) in
    let whole : encodes cs ≡ bs = encodes-chars bs u in
    let parts : encodes cs ≡ xs ++ ys = ap encodes (sym (take-append-drop m cs)) ∙ encodes-append (take m cs) (drop m cs) in
    let len : length xs ≡ n = size-encodes (take m cs) in
    let long : length bs ≡ length xs + length ys = ap (λ (l : List ℕ). length l) (sym whole ∙ parts) ∙ length-append xs ys in
    let within : n ≤ length bs = omega arith in
    let after : drop n (encodes cs) ≡ ys = ap (λ (k : ℕ). drop k (encodes cs)) (sym len) ∙ ap (λ (l : List ℕ). drop (length xs) l) parts ∙ drop-append_seam xs ys in
    let s = seam bs n m u within after in
    let left_utf8 : IsUtf8 (drop n bs) = IsUtf8-drop bs n u s.boundary in
    let f = front-until bs (drop n bs) m u left_utf8 s.left in
    let same : length bs - length (drop n bs) ≡ n = omega (arith, length-drop n bs) in
    record {
      within = within;
      boundary = s.boundary;
      left = s.left;
      front = ap (λ (k : ℕ). chars (take k bs)) (sym same) ∙ f.front;
      left_utf8 = left_utf8;
    }

-- Stored leaves.

pub seen-push : (text : List ℕ) (start : ℕ) (ps : List StoredLeaf) (p : StoredLeaf) → seen_from text start (ps ++ p ∷ []) ≡ seen_from text start ps ++ seen text (end_from start ps) p ∷ []
seen-push text start [] p = refl
seen-push text start (q ∷ qs) p = ap (λ (l : List Lexed). seen text start q ∷ l) (seen-push text q.end qs p)

pub end-push : (start : ℕ) (ps : List StoredLeaf) (p : StoredLeaf) → end_from start (ps ++ p ∷ []) ≡ p.end
end-push start [] p = refl
end-push start (q ∷ qs) p = end-push q.end qs p

pub spans-push : (text : List ℕ) (start : ℕ) (ps : List StoredLeaf) (p : StoredLeaf) → AreSpans text start ps → end_from start ps ≤ p.end → IsCharBoundary text p.end → AreSpans text start (ps ++ p ∷ [])
spans-push text start [] p s order at = (order, at, tt)
spans-push text start (q ∷ qs) p s order at = (s.0, s.1, spans-push text q.end qs p s.2 order at)

-- The next leaf.

own_front : (n : ℕ) (t : List ℕ) → take (length (take n t)) t ≡ take n t
own_front zero t = refl
own_front (suc n) [] = refl
own_front (suc n) (c ∷ cs) = ap (λ (l : List ℕ). c ∷ l) (own_front n cs)

one_front : (n : ℕ) (c : ℕ) (cs : List ℕ) → 1 ≤ n → take 1 (take n (c ∷ cs)) ≡ c ∷ []
one_front zero c cs h = absurd (omega arith)
one_front (suc n) c cs h = refl

held-after : (edition : Edition) (n : ℕ) (t : List ℕ) → cut edition n t ≡ cut edition 0 (drop n t)
unfolding cut
held-after edition zero t = refl
held-after edition (suc n) [] = refl
held-after edition (suc n) (c ∷ cs) = held-after edition n cs

pub leaf-split : (edition : Edition) (l : lexer.Lexeme) → is_split edition l.kind ≡ true → next_leaf edition l ≡ quiet POUND (take 1 l.text)
unfolding next_leaf
leaf-split edition l h = rw (h, next_leaf) refl

pub leaf-whole : (edition : Edition) (l : lexer.Lexeme) → is_split edition l.kind ≡ false → next_leaf edition l ≡ record { leaf = leaf_of edition l; message = message_of edition l.kind l.text }
unfolding next_leaf
leaf-whole edition l h = rw (h, next_leaf) refl

pub some-chars : (bs : List ℕ) → IsUtf8 bs → 0 < length bs → 1 ≤ length (chars bs)
some-chars bs u some = go (chars bs) refl
  where
    go : (xs : List ℕ) → chars bs ≡ xs → 1 ≤ length xs
    go [] e = let empty : bs ≡ [] = sym (encodes-chars bs u) ∙ ap encodes e in absurd (omega (arith, ap (λ (l : List ℕ). length l) empty))
    go (x ∷ xs) e = omega arith

-- the first character of a lexeme is that of the text
pub first-size : (t : List ℕ) → 1 ≤ length t → len_utf8 (get_or t 0 0) ≡ size (take 1 (lexer.first_lexeme t).text)
unfolding lexer.first_lexeme size
first-size [] h = absurd (omega arith)
first-size (c ∷ cs) h =
    let one = one_front (lexeme (c ∷ cs)).taken c cs (lexeme-takes.at (c ∷ cs) (omega arith)) in
    let whole : size (c ∷ []) ≡ len_utf8 c = omega arith in
    sym whole ∙ sym (ap size one)

pub slice-front : (n : ℕ) (xs : List ℕ) → slice_range xs 0 n ≡ take n xs
slice-front n xs = let z : n - 0 ≡ n = omega arith in rw z refl

after-next : (edition : Edition) (n c : ℕ) (cs : List ℕ) → 1 ≤ n → cut edition (pred n) cs ≡ cut edition 0 (drop n (c ∷ cs))
after-next edition zero c cs h = absurd (omega arith)
after-next edition (suc n) c cs h = held-after edition n cs

-- the next leaf is a front of the text, and the others are those of what is left
pub record Next (edition : Edition) (t : List ℕ) (n : ℕ) : Type 0 where
  pub some : 1 ≤ n
  pub own : (leaf_next edition t).leaf.text ≡ take n t
  pub rest : cut edition 0 t ≡ leaf_next edition t ∷ cut edition 0 (drop n t)

next-split : (edition : Edition) (c : ℕ) (cs : List ℕ) → is_split edition (lexer.first_lexeme (c ∷ cs)).kind ≡ true → Next edition (c ∷ cs) 1
unfolding cut lexer.first_lexeme
next-split edition c cs h =
    let is = leaf-split edition (lexer.first_lexeme (c ∷ cs)) h in
    let one = one_front (lexeme (c ∷ cs)).taken c cs (lexeme-takes.at (c ∷ cs) (omega arith)) in
    let own : (leaf_next edition (c ∷ cs)).leaf.text ≡ take 1 (c ∷ cs) = ap (λ (x : Lexed). x.leaf.text) is ∙ one in
    record {
      some = omega arith;
      own = own;
      rest = ap (λ (x : List ℕ). leaf_next edition (c ∷ cs) ∷ cut edition (pred (length x)) cs) own;
    }

next-whole : (edition : Edition) (c : ℕ) (cs : List ℕ) → is_split edition (lexer.first_lexeme (c ∷ cs)).kind ≡ false → Next edition (c ∷ cs) (lexeme (c ∷ cs)).taken
unfolding cut lexer.first_lexeme leaf_of
next-whole edition c cs h =
    let n = (lexeme (c ∷ cs)).taken in
    let is = leaf-whole edition (lexer.first_lexeme (c ∷ cs)) h in
    let some : 1 ≤ n = lexeme-takes.at (c ∷ cs) (omega arith) in
    let own : (leaf_next edition (c ∷ cs)).leaf.text ≡ take n (c ∷ cs) = ap (λ (x : Lexed). x.leaf.text) is in
    let long : length (leaf_next edition (c ∷ cs)).leaf.text ≡ n = ap (λ (x : List ℕ). length x) own ∙ first-length (c ∷ cs) in
    record {
      some = some;
      own = own;
      rest = ap (λ (k : ℕ). leaf_next edition (c ∷ cs) ∷ cut edition (pred k) cs) long ∙ ap (λ (l : List Lexed). leaf_next edition (c ∷ cs) ∷ l) (after-next edition n c cs some);
    }

pub next-own : (edition : Edition) (t : List ℕ) → 1 ≤ length t → (n : ℕ) × Next edition t n
next-own edition [] h = absurd (omega arith)
next-own edition (c ∷ cs) h =
    elim (bool_cases (is_split edition (lexer.first_lexeme (c ∷ cs)).kind)) [
      | inl split ↦ (1, next-split edition c cs split)
      | inr whole ↦ ((lexeme (c ∷ cs)).taken, next-whole edition c cs whole)
    ]

-- a leaf that is stored is the leaf that was read
pub seen-leaf : (text : List ℕ) (start : ℕ) (p : StoredLeaf) (l : Lexed) → raw_of p.kind ≡ l.leaf.kind → p.message ≡ l.message → chars (slice_range text start p.end) ≡ l.leaf.text → seen text start p ≡ l
seen-leaf text start p l kind message own =
    ap (λ (k : ℕ). record { leaf = record { kind = k; text = chars (slice_range text start p.end) }; message = p.message }) kind
    ∙ ap (λ (x : List ℕ). record { leaf = record { kind = l.leaf.kind; text = x }; message = p.message }) own
    ∙ ap (λ (m : Option Message). record { leaf = record { kind = l.leaf.kind; text = l.leaf.text }; message = m }) message

pub found-more :
    (edition : Edition) (text : List ℕ) (place : ℕ) (ps : List StoredLeaf) (p : StoredLeaf) → Found edition text place ps → place < length text → raw_of p.kind ≡ (leaf_next edition (chars (drop place text))).leaf.kind → p.message ≡ (leaf_next edition (chars (drop place text))).message → p.end ≡ place + size (leaf_next edition (chars (drop place text))).leaf.text → Found edition text p.end (ps ++ p ∷ [])
found-more edition text place ps p f inside kind message end =
    let rest = drop place text in
    let t = chars rest in
    let some : 0 < length rest = omega (arith, length-drop place text) in
    let o = next-own edition t (some-chars rest f.utf8 some) in
    let n = o.0 in
    let sz = size (take n t) in
    let a = at-size rest n f.utf8 in
    let end_is : p.end ≡ place + sz = end ∙ ap (λ (x : List ℕ). place + size x) o.1.own in
    let left : drop p.end text ≡ drop sz rest = ap (λ (k : ℕ). drop k text) end_is ∙ sym (drop-drop sz place text) in
    let within : p.end ≤ length text = omega (arith, a.within, length-drop place text, end_is) in
    let utf8 : IsUtf8 (drop p.end text) = subst (λ (x : List ℕ). IsUtf8 x) (sym left) a.left_utf8 in
    let boundary = IsCharBoundary-from_drop text p.end within utf8 in
    let order : end_from 0 ps ≤ p.end = omega (arith, f.end_is, end_is) in
    let width : p.end - place ≡ sz = omega (arith, end_is) in
    let own : chars (slice_range text place p.end) ≡ (leaf_next edition t).leaf.text = ap (λ (k : ℕ). chars (take k rest)) width ∙ a.front ∙ sym o.1.own in
    let here : seen text (end_from 0 ps) p ≡ leaf_next edition t = ap (λ (k : ℕ). seen text k p) f.end_is ∙ seen-leaf text place p (leaf_next edition t) kind message own in
    let tail : cut edition 0 t ≡ leaf_next edition t ∷ cut edition 0 (chars (drop p.end text)) =
    o.1.rest ∙ ap (λ (x : List ℕ). leaf_next edition t ∷ cut edition 0 x) (sym a.left ∙ ap (λ (x : List ℕ). chars x) (sym left)) in
    record {
      spans = spans-push text 0 ps p f.spans order boundary;
      end_is = end-push 0 ps p;
      within = within;
      utf8 = utf8;
      leaves_are =
          f.leaves_are ∙ ap (λ (l : List Lexed). seen_from text 0 ps ++ l) tail
          ∙ sym (append_assoc (seen_from text 0 ps) (leaf_next edition t ∷ []) (cut edition 0 (chars (drop p.end text))))
          ∙ ap (λ (x : Lexed). (seen_from text 0 ps ++ x ∷ []) ++ cut edition 0 (chars (drop p.end text))) (sym here)
          ∙ ap (λ (l : List Lexed). l ++ cut edition 0 (chars (drop p.end text))) (sym (seen-push text 0 ps p));
    }

pub found-long : (edition : Edition) (text : List ℕ) (place : ℕ) (ps : List StoredLeaf) → Found edition text place ps → place < length text → (1 ≤ size (leaf_next edition (chars (drop place text))).leaf.text) × (place + size (leaf_next edition (chars (drop place text))).leaf.text ≤ length text)
found-long edition text place ps f inside =
    let rest = drop place text in
    let t = chars rest in
    let some : 0 < length rest = omega (arith, length-drop place text) in
    let long = some-chars rest f.utf8 some in
    let o = next-own edition t long in
    let a = at-size rest o.0 f.utf8 in
    let own = ap size o.1.own in
    let chars_taken : 1 ≤ length (take o.0 t) = omega (arith, length-take o.0 t, o.1.some) in
    (omega (arith, own, length-size (take o.0 t)), omega (arith, own, a.within, length-drop place text))

-- one more stored leaf, over the next m characters
pub record More (text : List ℕ) (place m : ℕ) (ps : List StoredLeaf) (p : StoredLeaf) : Type 0 where
  pub placed : Placed text p.end (ps ++ p ∷ [])
  pub left : chars (drop p.end text) ≡ drop m (chars (drop place text))
  pub own : chars (slice_range text place p.end) ≡ take m (chars (drop place text))

pub placed-more : (text : List ℕ) (place m : ℕ) (ps : List StoredLeaf) (p : StoredLeaf) → Placed text place ps → p.end ≡ place + size (take m (chars (drop place text))) → More text place m ps p
placed-more text place m ps p f end =
    let rest = drop place text in
    let sz = size (take m (chars rest)) in
    let a = at-size rest m f.utf8 in
    let left : drop p.end text ≡ drop sz rest = ap (λ (k : ℕ). drop k text) end ∙ sym (drop-drop sz place text) in
    let within : p.end ≤ length text = omega (arith, a.within, length-drop place text, end, f.within) in
    let utf8 : IsUtf8 (drop p.end text) = subst (λ (x : List ℕ). IsUtf8 x) (sym left) a.left_utf8 in
    let boundary = IsCharBoundary-from_drop text p.end within utf8 in
    let order : end_from 0 ps ≤ p.end = omega (arith, f.end_is, end) in
    let width : p.end - place ≡ sz = omega (arith, end) in
    record {
      placed = record { spans = spans-push text 0 ps p f.spans order boundary; end_is = end-push 0 ps p; within = within; utf8 = utf8 };
      left = ap (λ (x : List ℕ). chars x) left ∙ a.left;
      own = ap (λ (k : ℕ). chars (take k rest)) width ∙ a.front;
    }

pub shebang-size : (t : List ℕ) (n : ℕ) → shebang t ≡ Some n → n ≡ size (take (line_len t) t)
unfolding shebang
shebang-size t n e = go (has_shebang t) (opens_attribute (lexer.token_list (drop 2 t))) e
  where
    go : (a b : Bool) → (if a then (if b then None else Some (size (take (line_len t) t))) else None) ≡ Some n → n ≡ size (take (line_len t) t)
    go true true e = absurd (cc)
    go true false e = let z : size (take (line_len t) t) ≡ n = cc in sym z
    go false b e = absurd (cc)

some-told : (o : Option ℕ) (n : ℕ) → o ≡ Some n → is_some o ≡ true
some-told None n e = absurd (cc)
some-told (Some k) n e = refl

none-told : (o : Option ℕ) → o ≡ None → is_some o ≡ false
none-told None e = refl
none-told (Some k) e = absurd (cc)

pub begun-none : (text : List ℕ) (ps : List StoredLeaf) → IsUtf8 text → ps ≡ [] → shebang (chars text) ≡ None → Begun text 0 ps
begun-none text ps u none e =
    let told = none-told (shebang (chars text)) e in
    record {
      placed = record {
        spans = subst (λ (l : List StoredLeaf). AreSpans text 0 l) (sym none) tt;
        end_is = ap (λ (l : List StoredLeaf). end_from 0 l) none;
        within = omega arith;
        utf8 = u;
      };
      seen_is = ap (λ (l : List StoredLeaf). seen_from text 0 l) none ∙ ap (λ (o : Option Piece). shebang_leaf o) (piece-none (chars text) told);
      left_is = after-none (chars text) told;
    }

pub begun-some : (text : List ℕ) (ps new : List StoredLeaf) (p : StoredLeaf) → IsUtf8 text → ps ≡ [] → shebang (chars text) ≡ Some p.end → raw_of p.kind ≡ SHEBANG → p.message ≡ None → new ≡ ps ++ p ∷ [] → Begun text p.end new
begun-some text ps new p u none e kind message is =
    let t = chars text in
    let told = some-told (shebang t) p.end e in
    let start : Placed text 0 [] = record { spans = tt; end_is = refl; within = omega arith; utf8 = u } in
    let end : p.end ≡ 0 + size (take (line_len t) t) = shebang-size t p.end e ∙ (let z : size (take (line_len t) t) ≡ 0 + size (take (line_len t) t) = omega arith in z) in
    let more = placed-more text 0 (line_len t) [] p start end in
    let all : new ≡ p ∷ [] = is ∙ ap (λ (l : List StoredLeaf). l ++ p ∷ []) none in
    let here = seen-leaf text 0 p (quiet SHEBANG (take (line_len t) t)) kind message more.own in
    record {
      placed = subst (λ (l : List StoredLeaf). Placed text p.end l) (sym all) more.placed;
      seen_is = ap (λ (l : List StoredLeaf). seen_from text 0 l) all ∙ ap (λ (x : Lexed). x ∷ []) here ∙ ap (λ (o : Option Piece). shebang_leaf o) (piece-some t told);
      left_is = more.left ∙ after-some t told;
    }

pub seen-length : (text : List ℕ) (start : ℕ) (ps : List StoredLeaf) → length (seen_from text start ps) ≡ length ps
seen-length text start [] = refl
seen-length text start (p ∷ ps) = ap suc (seen-length text p.end ps)

-- where a leaf starts
abbrev pub start_at : ℕ → List StoredLeaf → ℕ → ℕ
start_at start [] i = start
start_at start (p ∷ ps) zero = start
start_at start (p ∷ ps) (suc i) = start_at p.end ps i

pub seen-at : (text : List ℕ) (start : ℕ) (ps : List StoredLeaf) (i : ℕ) (d : StoredLeaf) (e : Lexed) → i < length ps → get_or (seen_from text start ps) i e ≡ seen text (start_at start ps i) (get_or ps i d)
seen-at text start [] i d e h = absurd (omega arith)
seen-at text start (p ∷ ps) zero d e h = refl
seen-at text start (p ∷ ps) (suc i) d e h = seen-at text p.end ps i d e (omega arith)

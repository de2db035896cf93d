-- The tree of a text in which an edit turned one plain identifier into another.
use Rattle.std.proofs.Common.{◌≡◌, ℕ, zero, suc, ◌+◌, ◌-◌, ◌≤◌, true, false, List, [], ◌∷◌, ◌++◌, map, length, take, drop, slice_get, chars, Option, Some, None, Result, Ok, Err, IfOk, is_none, refl, sym, ◌∙◌, ap, subst, arith, append-nil, length-drop}
use Rattle.std.specs.Prelude.{IfSome}
use Rattle.std.specs.declared.alloc.AllocError.{AllocError}
use Rattle.std.proofs.Math.Utf8.{encodes}
use Rattle.std.proofs.lemmas.Bool.{and_parts, eqb-true}
use Rattle.std.proofs.lemmas.List.{drop_at, take-append-drop, take_at}
use Rattle.std.proofs.lemmas.Str.{chars_from_encodes, encodes-append, encodes-chars}
use Rattle.rustc_lexer.specs.Characters.{is_ident}
use Rattle.rustc_lexer.specs.Tokens.{first_lexeme}
use Rattle.rustc_lexer.proofs.Sizes.{size-encodes}
use Rattle.rowan_green.specs.Forest.{Tree}
use Rattle.rowan_green.specs.declared.utility_types.NodeOrToken.TheVariants as terms
use Rattle.rowan.specs.Place.{Place, term_by, start_by, start_of, text_at}
use Rattle.rowan.specs.Replace.{put_token}
use Rattle.parser_input.specs.Input.{input}
use Rattle.parser_input.specs.Kinds.{IDENT}
use Rattle.parser_input.specs.Lexed.{Lexed, lexed, leaves_of}
use Rattle.parser_input.specs.Stored.{offset}
use Rattle.parser_input.specs.declared.edition.Edition.{Edition}
use Rattle.parser_input.proofs.LexedTexts.{leaves-joined}
use Rattle.plain_names.specs.Forests.{leaf_of}
use Rattle.plain_names.specs.LeafNames as names
use Rattle.plain_names.specs.LeafNames.{texts}
use Rattle.plain_names.specs.Renames.{Rename, IsPlainRename, IsInTree, renamed_leaves}
use Rattle.plain_names.proofs.Numbered.{keeps-inputs, keeps-leaves}
use Rattle.ra_parser.specs.Grammars.{is_whole}
use Rattle.rust_document.specs.ContentEdit.{IsTextEdit}
use Rattle.rust_document.specs.Edit.{edited}
use Rattle.rust_document.specs.NameEdits.{ArePlainNames, IsAround, IsPart, IsPut, IsRead, IsRenamedTree, IsTokenReplaced}
use Rattle.rust_document.specs.NextReading.{tokens_in}
use Rattle.rust_document.specs.Reading.{tree_in}
use Rattle.rust_document.specs.Renames.{is_plain_name}
use Rattle.rust_document.specs.Seen.{in_bytes}
use Rattle.rust_document.specs.Tokens.{Span, span_of, spans_from}
use Rattle.rust_document.specs.declared.content_edit.TextEdit.{TextEdit}
use Rattle.rust_document.specs.declared.name_edit.Names.{Names}
use Rattle.rust_document.specs.declared.name_edit.ReadText.{ReadText}
use Rattle.rust_document.specs.declared.name_edit.TokenPlace.{TokenPlace}
use Rattle.rust_document.specs.declared.tokens.LexedToken.{LexedToken}
use Rattle.rust_document.proofs.Boundaries.{in-order}
use Rattle.rust_document.proofs.NameTexts.{middle-edited, offset-is, renamed-texts, texts-parts}
use Rattle.rust_document.proofs.RenamedReadings.{new-read}
use Rattle.rust_document.proofs.PutTokens.{put-token}

-- ---- the leaf of a token

pub leaf-at :
    (ts : List LexedToken) (ls : List Lexed) (place i : ℕ) (t : LexedToken) → map span_of ts ≡ spans_from place (map in_bytes (leaves_of ls))
    → slice_get ts i ≡ Some t
    → (l : Lexed) × (drop i ls ≡ l ∷ drop (suc i) ls) × (t.range.start.0 ≡ place + offset ls i) × (t.range.end.0 ≡ t.range.start.0 + length (encodes l.leaf.text))
leaf-at [] ls place zero t are h = absurd (let z : None ≡ Some t = h in cc)
leaf-at [] ls place (suc i) t are h = absurd (let z : None ≡ Some t = h in cc)
leaf-at (u ∷ ts) [] place i t are h = absurd (let z : (span_of u ∷ map span_of ts) ≡ [] = are in cc)
leaf-at (u ∷ ts) (l ∷ ls) place zero t are h =
    let own : u ≡ t = cc in
    let first : span_of u ≡ record { kind = l.leaf.kind; start = place; end = place + length (encodes l.leaf.text) } = cc in
    let begin : u.range.start.0 ≡ place = ap (λ (s : Span). s.start) first in
    let to : u.range.end.0 ≡ place + length (encodes l.leaf.text) = ap (λ (s : Span). s.end) first in (
      l,
      refl,
      ap (λ (x : LexedToken). x.range.start.0) (sym own) ∙ begin ∙ (let z : place ≡ place + 0 = omega arith in z),
      ap (λ (x : LexedToken). x.range.end.0) (sym own) ∙ to ∙ ap (λ (n : ℕ). n + length (encodes l.leaf.text)) (sym begin ∙ ap (λ (x : LexedToken). x.range.start.0) own),
    )
leaf-at (u ∷ ts) (l ∷ ls) place (suc i) t are h =
    let rest : map span_of ts ≡ spans_from (place + length (encodes l.leaf.text)) (map in_bytes (leaves_of ls)) = cc in
    let more = leaf-at ts ls (place + length (encodes l.leaf.text)) i t rest h in
    (more.0, more.1, (let far = more.2 in let own = size-encodes l.leaf.text in omega (arith, far, own)), more.3)

-- ---- plain names

none-is : {A : Type 0} (o : Option A) → is_none o ≡ true → o ≡ None
none-is None h = refl
none-is (Some a) h = absurd (let z : false ≡ true = h in cc)

pub name-ident : (edition : Edition) (name : List ℕ) → is_plain_name edition name ≡ true → is_ident name ≡ true
name-ident edition name h = (and_parts (is_ident name) _ h).0

pub name-plain : (edition : Edition) (name : List ℕ) → is_plain_name edition name ≡ true → names.IsPlain edition name
name-plain edition name h =
    let both = and_parts _ _ (and_parts (is_ident name) _ h).1 in
    record { word = eqb-true _ _ both.0; contextual = none-is _ both.1 }

-- ---- parts of a text

all-taken : (xs : List ℕ) (n : ℕ) → length xs ≡ n → take n xs ≡ xs
all-taken xs n is = ap (λ (z : List ℕ). take n z) (sym (append-nil xs)) ∙ take_at xs [] n is

-- the bytes of a text from one of them on
pub part-behind : (text part : List ℕ) (start : ℕ) → IsPart text start (length text) part → part ≡ drop start text
part-behind text part start p = p.is ∙ all-taken (drop start text) (length text - start) (length-drop start text)

-- begins with each part that starts there
pub part-first :
    (text old rest : List ℕ) (start end all : ℕ) → all ≡ length text → IsPart text start end old → IsPart text start all rest
    → (x : List ℕ) × (old ++ x ≡ rest)
part-first text old rest start end all is a b =
    let whole = part-behind text rest start (subst (λ (n : ℕ). IsPart text start n rest) is b) in
    (drop (end - start) (drop start text), ap (λ (z : List ℕ). z ++ drop (end - start) (drop start text)) a.is ∙ take-append-drop (end - start) (drop start text) ∙ sym whole)

pub part-at : (text part : List ℕ) (a b start end : ℕ) → a ≡ start → b ≡ end → IsPart text a b part → IsPart text start end part
part-at text part a b start end at to p = rw (← at, ← to) p

-- ---- the tree

-- the token that is put stands in this tree
pub name-replaced :
    (r : Result (Option Tree) AllocError) (p : Place) (t : Tree) (start : ℕ) (n : Names) → IfOk r (λ o. IfSome o (IsPut p n.new.now))
    → p.root ≡ t → text_at p ≡ n.old.now → start_of p ≡ start → IfOk r (λ o. IfSome o (IsTokenReplaced t start n))
name-replaced (Err e) p t start n h own text at = h
name-replaced (Ok None) p t start n h own text at = h
name-replaced (Ok (Some g)) p t start n h own text at = record {
  up = p.up;
  stands = ap (λ (x : Tree). term_by x p.up) (sym own) ∙ h.stands ∙ ap (λ (z : List ℕ). Some (terms.Token (leaf_of IDENT z))) text;
  starts = ap (λ (x : Tree). start_by x p.up) (sym own) ∙ at;
  is = h.is ∙ ap (λ (x : Tree). put_token x p.up (leaf_of IDENT n.new.now)) own;
}

pub renamed-tree :
    (read : ReadText) (e : TextEdit) (p : TokenPlace) (n : Names) (root : Tree) → IsRead e.before.now read → IsTextEdit e
    → IsAround read.tokens.now e.range.start.0 e.range.end.0 p → ArePlainNames read.edition e.before.now e.after.now p.range.start.0 p.range.end.0 n
    → IsTokenReplaced read.root.now.place.root p.range.start.0 n root → e.range.start.0 ≤ e.range.end.0
    → IsRenamedTree read.grammar read.edition e.before.now e.after.now root
renamed-tree read e p n root own edit around plain put ordered =
    let grammar = read.grammar in
    let edition = read.edition in
    let bs = e.before.now in
    let cs = chars bs in
    let ls = lexed edition cs in
    let i = p.index in
    let at = leaf-at read.tokens.now ls 0 i around.token own.tokens_are around.is_at in
    let l = at.0 in
    let front = texts (take i ls) in
    let back = texts (drop (suc i) ls) in
    let range_is = around.own_range in
    let start : p.range.start.0 ≡ offset ls i = ap (λ r. r.start.0) (sym range_is) ∙ at.2 ∙ (let z : 0 + offset ls i ≡ offset ls i = omega arith in z) in
    let end : p.range.end.0 ≡ p.range.start.0 + length (encodes l.leaf.text) = ap (λ r. r.end.0) (sym range_is) ∙ at.3 ∙ ap (λ r. r.start.0 + length (encodes l.leaf.text)) range_is in
    let from : length (encodes front) ≡ p.range.start.0 = sym (start ∙ offset-is i ls) in
    let whole : bs ≡ encodes front ++ (encodes l.leaf.text ++ encodes back) =
    sym (encodes-chars bs edit.before_text) ∙ ap encodes (sym (leaves-joined edition cs) ∙ texts-parts i ls ∙ ap (λ (xs : List Lexed). front ++ texts xs) at.1)
    ∙ encodes-append front (l.leaf.text ++ back) ∙ ap (λ (z : List ℕ). encodes front ++ z) (encodes-append l.leaf.text back) in
    let rest : drop p.range.start.0 bs ≡ encodes l.leaf.text ++ encodes back =
    ap (λ (z : List ℕ). drop p.range.start.0 z) whole ∙ drop_at (encodes front) _ p.range.start.0 from in
    let old_is : n.old.now ≡ encodes l.leaf.text =
    plain.old_is.is ∙ ap (λ (z : List ℕ). take (p.range.end.0 - p.range.start.0) z) rest
    ∙ take_at (encodes l.leaf.text) (encodes back) (p.range.end.0 - p.range.start.0) (omega (arith, end)) in
    let old_chars : l.leaf.text ≡ chars n.old.now = chars_from_encodes l.leaf.text n.old.now plain.old_is.utf8 (sym old_is) in
    let rest_chars : l.leaf.text ++ back ≡ chars (drop p.range.start.0 bs) =
    chars_from_encodes (l.leaf.text ++ back) (drop p.range.start.0 bs) plain.rest_text (encodes-append l.leaf.text back ∙ sym rest) in
    let r : Rename = record { number = i; up = put.up; old = chars n.old.now; new = chars n.new.now } in
    let renamed : IsPlainRename edition cs r = record {
      raw = ap (λ (xs : List Lexed). first_lexeme (texts xs)) at.1 ∙ ap first_lexeme rest_chars ∙ plain.is_token;
      old_plain = name-plain edition (chars n.old.now) plain.old_plain;
      new_ident = name-ident edition (chars n.new.now) plain.new_plain;
      new_plain = name-plain edition (chars n.new.now) plain.new_plain;
    } in
    let tree_is : read.root.now.place.root ≡ tree_in grammar edition cs = ap (λ (q : Place). q.root) own.root_is in
    let in_tree : IsInTree edition cs (tree_in grammar edition cs) r = record {
      stands = ap (λ (t : Tree). term_by t put.up) (sym tree_is) ∙ put.stands
          ∙ ap (λ (z : List ℕ). Some (terms.Token (leaf_of IDENT z))) (sym (encodes-chars n.old.now plain.old_is.utf8));
      starts = ap (λ (t : Tree). start_by t put.up) (sym tree_is) ∙ put.starts ∙ start;
    } in
    let a = encodes front in
    let m = encodes l.leaf.text in
    let b = encodes back in
    let s = e.range.start.0 in
    let t = e.range.end.0 in
    let after_is : e.after.now ≡ edited (a ++ (m ++ b)) s t e.put.now = edit.after_is ∙ ap (λ (z : List ℕ). edited z s t e.put.now) whole in
    let new_is : n.new.now ≡ take (length (edited (a ++ (m ++ b)) s t e.put.now) - (length (a ++ (m ++ b)) - p.range.end.0) - p.range.start.0) (drop p.range.start.0 (edited (a ++ (m ++ b)) s t e.put.now)) =
    plain.new_is.is
    ∙ ap (λ (z : List ℕ). take (length z - (length bs - p.range.end.0) - p.range.start.0) (drop p.range.start.0 z)) after_is
    ∙ ap (λ (z : List ℕ). take (length (edited (a ++ (m ++ b)) s t e.put.now) - (length z - p.range.end.0) - p.range.start.0) (drop p.range.start.0 (edited (a ++ (m ++ b)) s t e.put.now))) whole in
    let parts : e.after.now ≡ a ++ (n.new.now ++ b) =
    after_is ∙ middle-edited a m b e.put.now n.new.now p.range.start.0 p.range.end.0 s t from end around.from_start ordered around.to_end new_is in
    let text_is : texts (renamed_leaves (r ∷ []) edition cs) ≡ chars e.after.now =
    renamed-texts r 0 i ls l (let z : i ≡ 0 + i = omega arith in z) at.1
    ∙ chars_from_encodes (front ++ (chars n.new.now ++ back)) e.after.now edit.after_text
    (encodes-append front (chars n.new.now ++ back) ∙ ap (λ (z : List ℕ). a ++ z) (encodes-append (chars n.new.now) back ∙ ap (λ (z : List ℕ). z ++ b) (encodes-chars n.new.now plain.new_is.utf8)) ∙ sym parts) in
    let read_is = new-read grammar edition bs (r ∷ []) edit.before_text (renamed, tt) (in_tree, tt) (refl, tt) in
    let new_leaf = leaf_of IDENT (encodes (chars n.new.now)) in
    let made = put-token (tree_in grammar edition cs) put.up (leaf_of IDENT (encodes (chars n.old.now))) new_leaf in_tree.stands in
    record {
      is_read = put.is
          ∙ ap (λ (z : List ℕ). put_token read.root.now.place.root put.up (leaf_of IDENT z)) (sym (encodes-chars n.new.now plain.new_is.utf8))
          ∙ ap (λ (g : Tree). put_token g put.up new_leaf) tree_is
          ∙ made ∙ sym read_is ∙ ap (λ (z : List ℕ). tree_in grammar edition z) text_is;
      same_input = sym (
          ap (λ (z : List ℕ). tokens_in grammar edition z) (sym text_is)
          ∙ ap (λ (xs : List Lexed). input (is_whole grammar) edition (leaves_of xs)) (keeps-leaves edition cs (r ∷ []) (renamed, tt))
          ∙ keeps-inputs (is_whole grammar) edition cs (r ∷ []) (renamed, tt));
    }

-- where it is known
pub renamed-known :
    (r : Result (Option Tree) AllocError) (read : ReadText) (e : TextEdit) (p : TokenPlace) (n : Names) → IsRead e.before.now read → IsTextEdit e
    → IsAround read.tokens.now e.range.start.0 e.range.end.0 p → ArePlainNames read.edition e.before.now e.after.now p.range.start.0 p.range.end.0 n
    → IfOk r (λ o. IfSome o (IsTokenReplaced read.root.now.place.root p.range.start.0 n))
    → IfOk r (λ o. IfSome o (IsRenamedTree read.grammar read.edition e.before.now e.after.now))
renamed-known (Err x) read e p n own edit around plain put = put
renamed-known (Ok None) read e p n own edit around plain put = put
renamed-known (Ok (Some g)) read e p n own edit around plain put =
    renamed-tree read e p n g own edit around plain put (in-order e.before.now e.range.start.0 e.range.end.0 edit.can_be)

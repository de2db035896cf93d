-- What a test of a plain renaming finds out.
use Rattle.std.proofs.Common.{◌≡◌, ℕ, zero, suc, ◌+◌, ◌<◌, ◌≤◌, ◌==◌, ◌||◌, nat_lt, Bool, true, false, not, List, [], ◌∷◌, ◌++◌, map, length, get_or, take, drop, slice_get, chars, Option, Some, None, MatchOption, is_none, is_some, refl, sym, ◌∙◌, ap, subst, arith, length-append, inl, inr}
use Rattle.std.specs.Borrow.{Bor}
use Rattle.std.specs.List.{All}
use Rattle.std.specs.List.Sorted.{IsNonDecreasingBy, IsPartitionPoint}
use Rattle.std.specs.Str.{IsUtf8, IsCharBoundary, all_scalars}
use Rattle.std.proofs.Math.Utf8.{encodes}
use Rattle.std.proofs.lemmas.Bool.{and_parts, and_from, cases_lt, eq-eqb, eqb-true, false≢true, ltb-false, ltb-true}
use Rattle.std.proofs.lemmas.List.{drop_at, take-append-drop}
use Rattle.std.proofs.lemmas.Option.{slice_get-get_or, slice_get_within, get_or_from_slice_get}
use Rattle.std.proofs.lemmas.Str.{chars_from_encodes, chars-encodes, encodes-append, encodes-chars, scalars-chars, IsCharBoundary-from_drop}
use Rattle.rustc_lexer.specs.Characters.{is_ident}
use Rattle.rustc_lexer.specs.Tokens.{first_lexeme}
use Rattle.rowan_green.specs.Forest.{Tree, same_tree}
use Rattle.rowan_green.specs.Leaf.{Leaf}
use Rattle.rowan_green.specs.Same.{same_tree-Decides}
use Rattle.rowan_green.specs.declared.utility_types.NodeOrToken.TheVariants.{Token}
use Rattle.rowan.specs.Place.{Place, term_by, start_by, start_of, term_at, text_at, text_in}
use Rattle.parser_input.specs.Kinds.{IDENT}
use Rattle.parser_input.specs.Keywords.{contextual_kind}
use Rattle.parser_input.specs.Lexed.{Lexed, lexed, leaves_of}
use Rattle.parser_input.specs.Stored.{offset}
use Rattle.parser_input.specs.declared.edition.Edition.{Edition}
use Rattle.parser_input.proofs.LexedTexts.{leaves-joined}
use Rattle.plain_names.specs.Forests.{leaf_of}
use Rattle.plain_names.specs.LeafNames.{texts}
use Rattle.plain_names.specs.LeafNames as names
use Rattle.plain_names.specs.TokenNames.{name_lexeme}
use Rattle.plain_names.proofs.Numbered.{name-at, raw-ident}
use Rattle.syntax_tree.specs.Element.{Way, Element, term_of}
use Rattle.tree_rewrite.specs.Change.{Change, replace}
use Rattle.tree_rewrite.specs.declared.change.Change as declared
use Rattle.syntax_editor.specs.Editing.{Editing}
use Rattle.syntax_editor.specs.Inside.{IsOf, IsSound}
use Rattle.rust_document.specs.RenameTests.{IsNameToken, IsNotOneByOne, IsOneByOne, IsPlainIdentifier, StartsToken}
use Rattle.rust_document.specs.Renames.{AreRenames, IsRename, is_plain_name}
use Rattle.rust_document.specs.Seen.{in_bytes}
use Rattle.rust_document.specs.Step.{State, is_foreign, present, root_element}
use Rattle.rust_document.specs.Tokens.{span_of, spans_from}
use Rattle.rust_document.specs.declared.tokens.LexedToken.{LexedToken}
use Rattle.rust_document.proofs.FirstNames.{none-first}
use Rattle.rust_document.proofs.NameEdits.{leaf-at, name-ident, name-plain}
use Rattle.rust_document.proofs.NameTexts.{offset-is, texts-parts}
use Rattle.rust_document.proofs.TreeTexts.{leaf-slice}

-- ---- a text from one of its leaves on

front-scalars : (xs ys : List ℕ) → all_scalars (xs ++ ys) ≡ true → all_scalars xs ≡ true
front-scalars [] ys h = refl
front-scalars (x ∷ xs) ys h = let both = and_parts _ _ h in and_from _ _ both.0 (front-scalars xs ys both.1)

back-scalars : (xs ys : List ℕ) → all_scalars (xs ++ ys) ≡ true → all_scalars ys ≡ true
back-scalars [] ys h = h
back-scalars (x ∷ xs) ys h = back-scalars xs ys (and_parts _ _ h).1

pub record FromLeaf (edition : Edition) (bs : List ℕ) (i : ℕ) : Type 0 where
  pub within : offset (lexed edition (chars bs)) i ≤ length bs
  pub utf8 : IsUtf8 (drop (offset (lexed edition (chars bs)) i) bs)
  pub rest : texts (drop i (lexed edition (chars bs))) ≡ chars (drop (offset (lexed edition (chars bs)) i) bs)

parts : (edition : Edition) (cs : List ℕ) (i : ℕ) → cs ≡ texts (take i (lexed edition cs)) ++ texts (drop i (lexed edition cs))
parts edition cs i = sym (leaves-joined edition cs) ∙ texts-parts i (lexed edition cs)

rest-scalars : (edition : Edition) (bs : List ℕ) (i : ℕ) → IsUtf8 bs → all_scalars (texts (drop i (lexed edition (chars bs)))) ≡ true
rest-scalars edition bs i u =
    let ls = lexed edition (chars bs) in
    back-scalars (texts (take i ls)) (texts (drop i ls)) (ap all_scalars (sym (parts edition (chars bs) i)) ∙ scalars-chars bs u)

pub from-leaf : (edition : Edition) (bs : List ℕ) (i : ℕ) → IsUtf8 bs → FromLeaf edition bs i
from-leaf edition bs i u =
    let ls = lexed edition (chars bs) in
    let front = texts (take i ls) in
    let rest = texts (drop i ls) in
    let whole : bs ≡ encodes front ++ encodes rest = sym (encodes-chars bs u) ∙ ap encodes (parts edition (chars bs) i) ∙ encodes-append front rest in
    let start : length (encodes front) ≡ offset ls i = sym (offset-is i ls) in
    let behind : drop (offset ls i) bs ≡ encodes rest = ap (λ (z : List ℕ). drop (offset ls i) z) whole ∙ drop_at (encodes front) (encodes rest) (offset ls i) start in
    let text : IsUtf8 (encodes rest) = (rest, (rest-scalars edition bs i u, refl)) in
    let own : IsUtf8 (drop (offset ls i) bs) = subst IsUtf8 (sym behind) text in
    let long = ap (λ (z : List ℕ). length z) whole in
    let sum = length-append (encodes front) (encodes rest) in
    record { within = omega (arith, start, long, sum); utf8 = own; rest = chars_from_encodes rest (drop (offset ls i) bs) own (sym behind) }

-- ---- tokens and leaves

rises : (ls : List Lexed) (i j : ℕ) → i ≤ j → offset ls i ≤ offset ls j
rises ls zero j h = omega arith
rises ls (suc i) zero h = absurd (omega (arith, h))
rises [] (suc i) (suc j) h = omega arith
rises (l ∷ ls) (suc i) (suc j) h = let more = rises ls i j (omega (arith, h)) in omega (arith, more)

-- the tokens of these leaves
abbrev pub AreTokens : List LexedToken → List Lexed → Type 0
AreTokens ts ls = map span_of ts ≡ spans_from 0 (map in_bytes (leaves_of ls))

pub in-order : (ts : List LexedToken) (ls : List Lexed) → AreTokens ts ls → IsNonDecreasingBy (λ t. t.range.start.0) ts
in-order ts ls are i j d le lt =
    let a = leaf-at ts ls 0 i (get_or ts i d) are (slice_get-get_or ts i d (omega (arith, le, lt))) in
    let b = leaf-at ts ls 0 j (get_or ts j d) are (slice_get-get_or ts j d lt) in
    let up = rises ls i j le in
    omega (arith, a.2, b.2, up)

token-at :
    (ts : List LexedToken) (ls : List Lexed) (place i : ℕ) (l : Lexed) (more : List Lexed) → map span_of ts ≡ spans_from place (map in_bytes (leaves_of ls)) → drop i ls ≡ l ∷ more
    → (t : LexedToken) × (slice_get ts i ≡ Some t)
token-at ts [] place zero l more are h = absurd (let z : [] ≡ l ∷ more = h in cc)
token-at ts [] place (suc i) l more are h = absurd (let z : [] ≡ l ∷ more = h in cc)
token-at [] (m ∷ ls) place i l more are h = absurd (let z : [] ≡ spans_from place (map in_bytes (leaves_of (m ∷ ls))) = are in cc)
token-at (u ∷ ts) (m ∷ ls) place zero l more are h = (u, refl)
token-at (u ∷ ts) (m ∷ ls) place (suc i) l more are h = token-at ts ls (place + length (in_bytes m.leaf).text) i l more (cc) h

from-zero : (n : ℕ) → 0 + n ≡ n
from-zero n = omega arith

-- a token starts where a leaf does
pub starts-leaf : (ts : List LexedToken) (ls : List Lexed) (i : ℕ) (l : Lexed) (more : List Lexed) → AreTokens ts ls → drop i ls ≡ l ∷ more → StartsToken ts (offset ls i)
starts-leaf ts ls i l more are h =
    let t = token-at ts ls 0 i l more are h in
    let at = leaf-at ts ls 0 i t.0 are t.1 in
    record { index = i; token = t.0; is_at = t.1; starts = at.2 ∙ from-zero (offset ls i) }

-- and a leaf where a token does
pub leaf-starts : (ts : List LexedToken) (ls : List Lexed) (start : ℕ) → AreTokens ts ls → StartsToken ts start → (i : ℕ) × (start ≡ offset ls i)
leaf-starts ts ls start are s = (s.index, sym s.starts ∙ (leaf-at ts ls 0 s.index s.token are s.is_at).2 ∙ from-zero (offset ls s.index))

-- ---- the search for a token

-- what a search for the first token that does not start before a byte finds
abbrev pub IsFirstFrom : List LexedToken → ℕ → ℕ → Type 0
IsFirstFrom ts start i = IsPartitionPoint (λ t. nat_lt t.range.start.0 start ≡ true) (λ t. nat_lt t.range.start.0 start ≡ false) ts i

-- no token that starts there is passed
not-passed : (ts : List LexedToken) (start i : ℕ) → IsFirstFrom ts start i → (s : StartsToken ts start) → i ≤ s.index
not-passed ts start i point s = elim (cases_lt s.index i) [
  | inl y ↦
      let early : nat_lt (get_or ts s.index s.token).range.start.0 start ≡ true = point.0 s.index s.token (omega arith) y in
      let own : get_or ts s.index s.token ≡ s.token = get_or_from_slice_get ts s.index s.token s.token s.is_at in
      let less : s.token.range.start.0 < start = ltb-true _ _ (ap (λ (t : LexedToken). nat_lt t.range.start.0 start) (sym own) ∙ early) in
      absurd (omega (arith, less, s.starts))
  | inr n ↦ n
]

pub found-within : (ts : List LexedToken) (start i : ℕ) → IsFirstFrom ts start i → StartsToken ts start → i < length ts
found-within ts start i point s =
    let before = not-passed ts start i point s in
    let within = slice_get_within ts s.index s.token s.is_at in
    omega (arith, before, within)

-- and it is found
pub found-there :
    (ts : List LexedToken) (start i : ℕ) (d : LexedToken) → IsNonDecreasingBy (λ t. t.range.start.0) ts → IsFirstFrom ts start i → StartsToken ts start
    → (get_or ts i d).range.start.0 ≡ start
found-there ts start i d up point s =
    let before = not-passed ts start i point s in
    let within = slice_get_within ts s.index s.token s.is_at in
    let late = ltb-false _ _ (point.1 i d (omega arith) (omega (arith, before, within))) in
    let high = up i s.index d before within in
    let own : (get_or ts s.index d).range.start.0 ≡ s.token.range.start.0 = ap (λ (t : LexedToken). t.range.start.0) (get_or_from_slice_get ts s.index s.token d s.is_at) in
    omega (arith, late, high, own, s.starts)

pub starts-there : (ts : List LexedToken) (start i : ℕ) (t : LexedToken) → i < length ts → t ≡ get_or ts i t → t.range.start.0 ≡ start → StartsToken ts start
starts-there ts start i t within is starts = record {
  index = i;
  token = t;
  is_at = slice_get-get_or ts i t within ∙ ap (λ (x : LexedToken). Some x) (sym is);
  starts = starts;
}

-- ---- one change

replaced-text : (e : Element) (l : List ℕ) → term_of e ≡ Some (Token (leaf_of IDENT l)) → text_at e.place ≡ l
replaced-text e l h = ap text_in h

none-from : {A : Type 0} (o : Option A) → o ≡ None → is_none o ≡ true
none-from o h = ap is_none h

plain-name : (edition : Edition) (name : List ℕ) → is_ident name ≡ true → names.IsPlain edition name → is_plain_name edition name ≡ true
plain-name edition name ident h = and_from _ _ ident (and_from _ _ (eq-eqb _ _ h.word) (none-from (contextual_kind edition name) h.contextual))

pub rename-from :
    (d : State) (c : Change) (old new : Element) → IsOneByOne c old new → IsOf (root_element d) old → IsPlainIdentifier d.edition old → IsPlainIdentifier d.edition new
    → IsNameToken d old → IsRename d c
rename-from d c old new one own p q t = record {
  rename = record { number = t.number; up = old.place.up; old = chars p.text; new = chars q.text };
  element = new;
  single = one.single;
  is = one.is;
  new_leaf = q.token ∙ ap (λ (z : List ℕ). Some (Token (leaf_of IDENT z))) (sym (encodes-chars q.text q.utf8));
  in_tree = record {
    stands = ap (λ (x : Tree). term_by x old.place.up) (sym own.1) ∙ p.token ∙ ap (λ (z : List ℕ). Some (Token (leaf_of IDENT z))) (sym (encodes-chars p.text p.utf8));
    starts = ap (λ (x : Tree). start_by x old.place.up) (sym own.1) ∙ t.starts;
  };
  plain = record {
    raw = t.raw ∙ ap (λ (z : List ℕ). name_lexeme (chars z)) (replaced-text old p.text p.token);
    old_plain = name-plain d.edition (chars p.text) p.plain;
    new_ident = name-ident d.edition (chars q.text) q.plain;
    new_plain = name-plain d.edition (chars q.text) q.plain;
  };
  is_text = scalars-chars q.text q.utf8;
}

-- the old name is text
old-scalars : (d : State) (c : Change) → IsUtf8 d.text → (h : IsRename d c) → all_scalars h.rename.old ≡ true
old-scalars d c u h =
    let ls = lexed d.edition (chars d.text) in
    let at = name-at d.edition (chars d.text) h.rename h.plain in
    front-scalars h.rename.old (texts (drop (suc h.rename.number) ls))
    (ap (λ (xs : List Lexed). all_scalars (texts xs)) (sym at.is) ∙ rest-scalars d.edition d.text h.rename.number u)

-- what a rename's change replaces, where it is one by one
record SameParts (d : State) (c : Change) (old new : Element) (h : IsRename d c) : Type 0 where
  up_is : h.rename.up ≡ old.place.up
  new_is : h.element ≡ new

same-parts : (d : State) (c : Change) (old new : Element) → IsOneByOne c old new → (h : IsRename d c) → SameParts d c old new h
same-parts d c old new one h =
    let same : replace h.rename.up 0 (h.element ∷ []) h.single ≡ replace old.place.up 0 (new ∷ []) one.single = sym h.is ∙ one.is in
    record { up_is = cc; new_is = cc }

old-leaf : (d : State) (c : Change) (old new : Element) → IsOneByOne c old new → IsOf (root_element d) old → (h : IsRename d c) → term_of old ≡ Some (Token (leaf_of IDENT (encodes h.rename.old)))
old-leaf d c old new one own h =
    let parts = same-parts d c old new one h in
    ap (λ (x : Tree). term_by x old.place.up) own.1 ∙ ap (λ (w : Way). term_by (present d) w) (sym parts.up_is) ∙ h.in_tree.stands

pub old-identifier : (d : State) (c : Change) (old new : Element) → IsUtf8 d.text → IsOneByOne c old new → IsOf (root_element d) old → IsRename d c → IsPlainIdentifier d.edition old
old-identifier d c old new u one own h =
    let name = h.rename.old in
    let scalars = old-scalars d c u h in
    let ident = raw-ident (texts (drop h.rename.number (lexed d.edition (chars d.text)))) name h.plain.raw in
    record {
      text = encodes name;
      token = old-leaf d c old new one own h;
      utf8 = (name, (scalars, refl));
      plain = ap (λ (z : List ℕ). is_plain_name d.edition z) (chars-encodes name scalars) ∙ plain-name d.edition name ident h.plain.old_plain;
    }

pub new-identifier : (d : State) (c : Change) (old new : Element) → IsOneByOne c old new → IsRename d c → IsPlainIdentifier d.edition new
new-identifier d c old new one h =
    let parts = same-parts d c old new one h in
    let name = h.rename.new in
    record {
      text = encodes name;
      token = ap term_of (sym parts.new_is) ∙ h.new_leaf;
      utf8 = (name, (h.is_text, refl));
      plain = ap (λ (z : List ℕ). is_plain_name d.edition z) (chars-encodes name h.is_text) ∙ plain-name d.edition name h.plain.new_ident h.plain.new_plain;
    }

pub name-token : (d : State) (c : Change) (old new : Element) → IsUtf8 d.text → IsOneByOne c old new → IsOf (root_element d) old → IsRename d c → IsNameToken d old
name-token d c old new u one own h =
    let parts = same-parts d c old new one h in
    let name = h.rename.old in
    let there = old-leaf d c old new one own h in
    record {
      number = h.rename.number;
      starts = ap (λ (x : Tree). start_by x old.place.up) own.1 ∙ ap (λ (w : Way). start_by (present d) w) (sym parts.up_is) ∙ h.in_tree.starts;
      raw = h.plain.raw
          ∙ ap name_lexeme (sym (chars-encodes name (old-scalars d c u h)))
          ∙ ap (λ (z : List ℕ). name_lexeme (chars z)) (sym (replaced-text old (encodes name) there));
    }

pub not-rename : (d : State) (c : Change) → IsNotOneByOne c → IsRename d c → ⊥
not-rename d c other h = other h.rename.up h.element h.single h.is

-- ---- all changes

pub renames-more : (d : State) (cs : List Change) (c : Change) → AreRenames d cs → IsRename d c → AreRenames d (cs ++ c ∷ [])
renames-more d [] c all h = (h, tt)
renames-more d (x ∷ cs) c all h = (all.0, renames-more d cs c all.1 h)

pub rename-at : (d : State) (cs : List Change) (i : ℕ) (x : Change) → AreRenames d cs → i < length cs → IsRename d (get_or cs i x)
rename-at d [] i x all h = absurd (omega (arith, h))
rename-at d (c ∷ cs) zero x all h = all.0
rename-at d (c ∷ cs) (suc i) x all h = rename-at d cs i x all.1 (omega (arith, h))

-- ---- a token of the text

-- the leaf that starts with a name
leaf-here : (n : ℕ) (ls : List Lexed) (name : List ℕ) → first_lexeme (texts (drop n ls)) ≡ name_lexeme name → (l : Lexed) × ((more : List Lexed) × (drop n ls ≡ l ∷ more))
leaf-here n ls name is = by_rest (drop n ls) refl
  where
    by_rest : (rest : List Lexed) → drop n ls ≡ rest → (l : Lexed) × ((more : List Lexed) × (drop n ls ≡ l ∷ more))
    by_rest [] none = absurd (none-first name (sym (ap (λ (xs : List Lexed). first_lexeme (texts xs)) none) ∙ is))
    by_rest (l ∷ more) here = (l, (more, here))

-- a name token is a token of the text
pub token-starts : (d : State) (ts : List LexedToken) (e : Element) (start : ℕ) → AreTokens ts (lexed d.edition (chars d.text)) → start ≡ start_of e.place → IsNameToken d e → StartsToken ts start
token-starts d ts e start are at h =
    let ls = lexed d.edition (chars d.text) in
    let here = leaf-here h.number ls (chars (text_at e.place)) h.raw in
    subst (λ (n : ℕ). StartsToken ts n) (sym h.starts ∙ sym at) (starts-leaf ts ls h.number here.0 here.1.0 are here.1.1)

-- the text from a token on
pub record TokenRest (d : State) (start : ℕ) : Type 0 where
  pub number : ℕ
  pub starts : start ≡ offset (lexed d.edition (chars d.text)) number
  pub boundary : IsCharBoundary d.text start
  pub rest : texts (drop number (lexed d.edition (chars d.text))) ≡ chars (drop start d.text)

pub token-rest : (d : State) (ts : List LexedToken) (start : ℕ) → IsUtf8 d.text → AreTokens ts (lexed d.edition (chars d.text)) → StartsToken ts start → TokenRest d start
token-rest d ts start u are s =
    let ls = lexed d.edition (chars d.text) in
    let at = leaf-starts ts ls start are s in
    let from = from-leaf d.edition d.text at.0 u in
    record {
      number = at.0;
      starts = at.1;
      boundary = subst (λ (n : ℕ). IsCharBoundary d.text n) (sym at.1) (IsCharBoundary-from_drop d.text (offset ls at.0) from.within from.utf8);
      rest = from.rest ∙ ap (λ (n : ℕ). chars (drop n d.text)) (sym at.1);
    }

-- which begins with the text of a leaf of the tree that starts there
pub leaf-begins :
    (d : State) (e : Element) (l : Leaf) (start : ℕ) (rest name : List ℕ) → IsUtf8 d.text → term_at e.place ≡ Some (Token l) → IsOf (root_element d) e → start ≡ start_of e.place
    → rest ≡ drop start d.text → name ≡ l.text → (more : List ℕ) × (name ++ more ≡ rest)
leaf-begins d e l start rest name u is own at rest-is name-is =
    let way = e.place.up in
    let here : term_by (present d) way ≡ Some (Token l) = ap (λ (t : Tree). term_by t way) (sym own.1) ∙ is in
    let from : start ≡ start_by (present d) way = at ∙ ap (λ (t : Tree). start_by t way) own.1 in
    let front : take (length l.text) rest ≡ l.text = ap (λ (z : List ℕ). take (length l.text) z) (rest-is ∙ ap (λ (n : ℕ). drop n d.text) from) ∙ leaf-slice d way l u here in
    (drop (length l.text) rest, ap (λ (z : List ℕ). z ++ drop (length l.text) rest) (name-is ∙ sym front) ∙ take-append-drop (length l.text) rest)

pub token-from :
    (d : State) (e : Element) (start : ℕ) (rest name : List ℕ) → TokenRest d start → start ≡ start_of e.place → rest ≡ drop start d.text → name ≡ text_at e.place
    → first_lexeme (chars rest) ≡ name_lexeme (chars name) → IsNameToken d e
token-from d e start rest name t at rest-is name-is first = record {
  number = t.number;
  starts = sym at ∙ t.starts;
  raw = ap first_lexeme (t.rest ∙ ap chars (sym rest-is)) ∙ first ∙ ap (λ (z : List ℕ). name_lexeme (chars z)) name-is;
}

pub token-to :
    (d : State) (e : Element) (start : ℕ) (rest name : List ℕ) → IsUtf8 d.text → start ≡ start_of e.place → rest ≡ drop start d.text → name ≡ text_at e.place
    → IsNameToken d e → first_lexeme (chars rest) ≡ name_lexeme (chars name)
token-to d e start rest name u at rest-is name-is h =
    let from = from-leaf d.edition d.text h.number u in
    ap first_lexeme (ap chars (rest-is ∙ ap (λ (n : ℕ). drop n d.text) (at ∙ h.starts)) ∙ sym from.rest)
    ∙ h.raw ∙ ap (λ (z : List ℕ). name_lexeme (chars z)) (sym name-is)

-- the text of a leaf
pub leaf-text : (p : Place) (l : Leaf) → term_at p ≡ Some (Token l) → l.text ≡ text_at p
leaf-text p l h = sym (ap text_in h)

-- ---- an editor of the present tree

pub own-parts : (d : State) (e : Editing) → not (is_foreign d e) ≡ true → (e.top.number ≡ d.number) × (e.top.place.root ≡ present d)
own-parts d e h = by_tests (e.top.number == d.number) (same_tree e.top.place.root (present d)) refl refl h
  where
    by_tests : (a b : Bool) → (e.top.number == d.number) ≡ a → same_tree e.top.place.root (present d) ≡ b → not (not a || not b) ≡ true → (e.top.number ≡ d.number) × (e.top.place.root ≡ present d)
    by_tests true true p q h = (eqb-true _ _ p, (same_tree-Decides e.top.place.root (present d)).0 q)
    by_tests true false p q h = absurd (false≢true h)
    by_tests false b p q h = absurd (false≢true h)

pub own-top : (d : State) (e : Editing) → not (is_foreign d e) ≡ true → e.top.place.up ≡ [] → e.top ≡ root_element d
own-top d e h up =
    let parts = own-parts d e h in
    λ i. record { number = parts.0 i; place = record { root = parts.1 i; up = up i } }

-- what the editor's changes name is of the present tree
pub all-own : (d : State) (top : Element) (cs : List declared.Change) → top ≡ root_element d → All (IsSound top) cs → All (IsSound (root_element d)) cs
all-own d top cs is h = subst (λ (x : Element). All (IsSound x) cs) is h

-- ---- the answers of the code, as facts

-- the token of a plain identifier, or none
abbrev pub FindsIdentifier : Edition → Element → Option (Bor Element) → Type 0
FindsIdentifier edition e o = MatchOption o (IsPlainIdentifier edition e → ⊥) (λ t. (t.now ≡ e) × IsPlainIdentifier edition e)

pub found-plain : (edition : Edition) (e : Element) (o : Option (Bor Element)) → FindsIdentifier edition e o → is_some o ≡ true → IsPlainIdentifier edition e
found-plain edition e None h is = absurd (false≢true is)
found-plain edition e (Some t) h is = h.1

pub plain-found : (edition : Edition) (e : Element) (o : Option (Bor Element)) → FindsIdentifier edition e o → IsPlainIdentifier edition e → is_some o ≡ true
plain-found edition e None h is = absurd (h is)
plain-found edition e (Some t) h is = refl

pub not-true : (b : Bool) → not b ≡ true → b ≡ false
not-true true h = absurd (false≢true h)
not-true false h = refl

-- Plain renames by the indices of leaves: leaves and input.
use Rattle.std.proofs.Common.{◌≡◌, ℕ, zero, suc, ◌+◌, ◌-◌, ◌<◌, ◌≤◌, Bool, true, ◌==◌, List, [], ◌∷◌, ◌++◌, length, take, drop, None, refl, sym, ◌∙◌, ap, subst, arith, inl, inr, ◌⊎◌, if◌then◌else◌}
use Rattle.std.proofs.lemmas.Bool.{cases_Bool, eqb-true, ne_eqb}
use Rattle.std.proofs.lemmas.List.{drop-drop, take-append-drop}
use Rattle.std.proofs.Math.Seq.{drop-append-add}
use Rattle.rustc_lexer.specs.Characters.{is_ident}
use Rattle.rustc_lexer.specs.Lexeme.{lexeme}
use Rattle.rustc_lexer.specs.Tokens.{first_lexeme}
use Rattle.rustc_lexer.proofs.Cutting.{first-length}
use Rattle.rustc_lexer.proofs.Identifiers.{ident-is-ident}
use Rattle.parser_input.specs.Kinds.{IDENT}
use Rattle.parser_input.specs.Keywords.{contextual_kind}
use Rattle.parser_input.specs.Leaf.{leaf_of, word_kind, kind_of}
use Rattle.parser_input.specs.Lexed.{Lexed, lexed, leaves_of, preface, content, cut, next_leaf, is_split}
use Rattle.parser_input.specs.Messages.{message_of}
use Rattle.parser_input.specs.declared.edition.Edition.{Edition}
use Rattle.plain_names.specs.TokenNames.{name_lexeme}
use Rattle.plain_names.specs.LeafNames.{texts, AreRenamedLeaves, IsPlain, ReplacesNames, no_leaves, one_stays, one_goes}
use Rattle.plain_names.specs.LeafNames as leaf_names
use Rattle.plain_names.specs.Renames.{Rename, name_after, with_text, renamed_from, renamed_leaves, IsPlainRename, ArePlainRenames, PlainRenamesKeepLeaves, PlainRenamesKeepInputs}
use Rattle.plain_names.proofs.Renamed.{no-name}
use Rattle.plain_names.proofs.RenamedLeaves.{texts-append, cut-joined, from-name, leaves-after, leaves-renamed}
use Rattle.plain_names.proofs.Inputs.{inputs-same}
use Rattle.plain_names.proofs.PrefaceStarts.{in-content}

-- ---- the leaf of a plain name

abbrev pub plain_leaf : List ℕ → Lexed
plain_leaf name = record { leaf = record { kind = IDENT; text = name }; message = None }

plain-leaf : (e : Edition) (name : List ℕ) → word_kind e name ≡ IDENT → next_leaf e (name_lexeme name) ≡ plain_leaf name
unfolding next_leaf is_split leaf_of kind_of message_of
plain-leaf e name w = ap (λ (k : ℕ). let l : Lexed = record { leaf = record { kind = k; text = name }; message = None } in l) w

own-text : (xs : List ℕ) → (first_lexeme xs).text ≡ take (lexeme xs).taken xs
unfolding first_lexeme
own-text xs = refl

name-front : (xs name : List ℕ) → first_lexeme xs ≡ name_lexeme name → xs ≡ name ++ drop (length name) xs
name-front xs name is =
    let t : take (lexeme xs).taken xs ≡ name = sym (own-text xs) ∙ ap (λ l. l.text) is in
    let n : (lexeme xs).taken ≡ length name = sym (first-length xs) ∙ ap (λ l. length l.text) is in
    sym (take-append-drop (lexeme xs).taken xs) ∙ ap (λ z. z ++ drop (lexeme xs).taken xs) t ∙ ap (λ k. name ++ drop k xs) n

cons-none : (x : ℕ) (xs : List ℕ) → x ∷ xs ≡ [] → ⊥
cons-none x xs e = cc

take-none : (n : ℕ) → take n (let none : List ℕ = [] in none) ≡ []
take-none zero = refl
take-none (suc n) = refl

none-first : (name : List ℕ) → first_lexeme [] ≡ name_lexeme name → ⊥
unfolding first_lexeme
none-first [] i = no-name [] i
none-first (x ∷ name) i = cons-none x name (sym (ap (λ l. l.text) i) ∙ take-none (lexeme []).taken)

pub raw-ident : (z name : List ℕ) → first_lexeme z ≡ name_lexeme name → is_ident name ≡ true
raw-ident [] name is = absurd (none-first name is)
raw-ident (c ∷ cs) name is = ap (λ l. is_ident l.text) (sym is) ∙ ident-is-ident c cs (ap (λ l. l.kind) is)

-- a text that starts with a name starts with its leaf
at-name : (e : Edition) (xs name : List ℕ) → first_lexeme xs ≡ name_lexeme name → cut e 0 xs ≡ next_leaf e (name_lexeme name) ∷ cut e 0 (drop (length name) xs)
at-name e xs [] is = absurd (no-name xs is)
at-name e xs (x ∷ name) is =
    let p = name-front xs (x ∷ name) is in
    ap (λ z. cut e 0 z) p ∙ from-name e x name (drop (length (x ∷ name)) xs) (ap first_lexeme (sym p) ∙ is)

-- ---- the leaves of a text at the names

-- these leaves have the old name at the rename's index
pub record IsAt (ls : List Lexed) (r : Rename) : Type 0 where
  pub is : drop r.number ls ≡ plain_leaf r.old ∷ drop (suc r.number) ls
  pub first : first_lexeme (r.old ++ texts (drop (suc r.number) ls)) ≡ name_lexeme r.old

after-first : (n : ℕ) (ls : List Lexed) (l : Lexed) (more : List Lexed) → drop n ls ≡ l ∷ more → drop (suc n) ls ≡ more
after-first n ls l more h =
    ap (λ k. drop k ls) (let z : suc n ≡ n + 1 = omega arith in z) ∙ sym (drop-drop 1 n ls) ∙ ap (λ z. drop 1 z) h

not-before : (e : Edition) (text : List ℕ) (r : Rename) → IsPlainRename e text r → length (preface text) ≤ r.number
not-before e text r h =
    let z = texts (drop r.number (lexed e text)) in
    in-content e text r.number r.old (drop (length r.old) z) (raw-ident z r.old h.raw) (name-front z r.old h.raw)

pub name-at : (e : Edition) (text : List ℕ) (r : Rename) → IsPlainRename e text r → IsAt (lexed e text) r
unfolding lexed
name-at e text r h =
    let p = preface text in
    let c = cut e 0 (content text) in
    let ls = p ++ c in
    let j = r.number - length p in
    let le = not-before e text r h in
    let n : r.number ≡ length p + j = omega (arith, le) in
    let from : drop r.number ls ≡ drop j c = ap (λ k. drop k ls) n ∙ drop-append-add p c j in
    let z = drop (length (texts (take j c))) (content text) in
    let cuts : drop j c ≡ cut e 0 z = sym (leaves-after e j (content text)) in
    let own : texts (drop r.number ls) ≡ z = ap texts (from ∙ cuts) ∙ cut-joined e z in
    let first : first_lexeme z ≡ name_lexeme r.old = ap first_lexeme (sym own) ∙ h.raw in
    let rest = cut e 0 (drop (length r.old) z) in
    let all : drop r.number ls ≡ plain_leaf r.old ∷ rest = from ∙ cuts ∙ at-name e z r.old first ∙ ap (λ l. l ∷ rest) (plain-leaf e r.old h.old_plain.word) in
    let later : drop (suc r.number) ls ≡ rest = after-first r.number ls (plain_leaf r.old) rest all in
    let is : drop r.number ls ≡ plain_leaf r.old ∷ drop (suc r.number) ls = all ∙ ap (λ ks. plain_leaf r.old ∷ ks) (sym later) in
    record { is = is; first = ap (λ ks. first_lexeme (texts ks)) (sym is) ∙ h.raw }

-- ---- all renames of some leaves, from an index on

record IsFrom (e : Edition) (i : ℕ) (ls : List Lexed) (r : Rename) : Type 0 where
  at : (j : ℕ) → r.number ≡ i + j → drop j ls ≡ plain_leaf r.old ∷ drop (suc j) ls
  first : (j : ℕ) → r.number ≡ i + j → first_lexeme (r.old ++ texts (drop (suc j) ls)) ≡ name_lexeme r.old
  old_plain : IsPlain e r.old
  new_ident : is_ident r.new ≡ true
  new_plain : IsPlain e r.new

abbrev AllFrom : Edition → ℕ → List Lexed → List Rename → Type 0
AllFrom e i ls [] = Unit {0}
AllFrom e i ls (r ∷ rs) = IsFrom e i ls r × AllFrom e i ls rs

next-from : (e : Edition) (i : ℕ) (l : Lexed) (ls : List Lexed) (rs : List Rename) → AllFrom e i (l ∷ ls) rs → AllFrom e (i + 1) ls rs
next-from e i l ls [] a = tt
next-from e i l ls (r ∷ rs) a = (
  record {
    at = λ j h. a.0.at (suc j) (omega (arith, h));
    first = λ j h. a.0.first (suc j) (omega (arith, h));
    old_plain = a.0.old_plain;
    new_ident = a.0.new_ident;
    new_plain = a.0.new_plain;
  },
  next-from e i l ls rs a.1,
)

record Found (e : Edition) (i : ℕ) (l : Lexed) (ls : List Lexed) (rs : List Rename) : Type 0 where
  old : List ℕ
  new : List ℕ
  is : l ≡ plain_leaf old
  first : first_lexeme (old ++ texts ls) ≡ name_lexeme old
  old_plain : IsPlain e old
  new_ident : is_ident new ≡ true
  new_plain : IsPlain e new
  after : (t : List ℕ) → name_after rs i t ≡ new

heads : (l m : Lexed) (ls ms : List Lexed) → l ∷ ls ≡ m ∷ ms → l ≡ m
heads l m ls ms e = cc

find-name : (e : Edition) (i : ℕ) (l : Lexed) (ls : List Lexed) (rs : List Rename) → AllFrom e i (l ∷ ls) rs → Found e i l ls rs ⊎ ((t : List ℕ) → name_after rs i t ≡ t)
find-name e i l ls [] a = inr (λ t. refl)
find-name e i l ls (r ∷ rs) a = elim (cases_Bool (r.number == i)) [
  | inl y ↦
      let same : r.number ≡ i + 0 = omega (arith, eqb-true r.number i y) in
      inl (record {
        old = r.old;
        new = r.new;
        is = heads l (plain_leaf r.old) ls ls (a.0.at 0 same);
        first = a.0.first 0 same;
        old_plain = a.0.old_plain;
        new_ident = a.0.new_ident;
        new_plain = a.0.new_plain;
        after = λ t. ap (λ (b : Bool). if b then r.new else name_after rs i t) y;
      })
  | inr n ↦ elim (find-name e i l ls rs a.1) [
    | inl f ↦ inl (record {
      old = f.old;
      new = f.new;
      is = f.is;
      first = f.first;
      old_plain = f.old_plain;
      new_ident = f.new_ident;
      new_plain = f.new_plain;
      after = λ t. ap (λ (b : Bool). if b then r.new else name_after rs i t) n ∙ f.after t;
    })
    | inr g ↦ inr (λ t. ap (λ (b : Bool). if b then r.new else name_after rs i t) n ∙ g t)
  ]
]

renamed-are : (e : Edition) (rs : List Rename) (i : ℕ) (ls : List Lexed) → AllFrom e i ls rs
    → AreRenamedLeaves e ls (renamed_from rs i ls) × ReplacesNames e (leaves_of ls) (leaves_of (renamed_from rs i ls))
renamed-are e rs i [] a = (leaf_names.none, no_leaves)
renamed-are e rs i (l ∷ ls) a =
    let more = renamed-are e rs (i + 1) ls (next-from e i l ls rs a) in
    let ms = renamed_from rs (i + 1) ls in
    elim (find-name e i l ls rs a) [
      | inl f ↦
          let m_is : with_text l (name_after rs i l.leaf.text) ≡ plain_leaf f.new = ap (λ t. with_text l t) (f.after l.leaf.text) ∙ ap (λ k. with_text k f.new) f.is in
          let l_next : next_leaf e (name_lexeme f.old) ≡ l = plain-leaf e f.old f.old_plain.word ∙ sym f.is in
          let m_next : next_leaf e (name_lexeme f.new) ≡ with_text l (name_after rs i l.leaf.text) = plain-leaf e f.new f.new_plain.word ∙ sym m_is in
          let own : AreRenamedLeaves e (next_leaf e (name_lexeme f.old) ∷ ls) (next_leaf e (name_lexeme f.new) ∷ ms) = leaf_names.renamed f.old f.new f.first f.new_ident more.0 in
          let kind : l.leaf.kind ≡ IDENT = ap (λ k. k.leaf.kind) f.is in (
            subst (λ k. AreRenamedLeaves e (k ∷ ls) (with_text l (name_after rs i l.leaf.text) ∷ ms)) l_next (subst (λ k. AreRenamedLeaves e (next_leaf e (name_lexeme f.old) ∷ ls) (k ∷ ms)) m_next own),
            one_goes kind kind
                (ap (λ k. contextual_kind e k.leaf.text) f.is ∙ f.old_plain.contextual)
                (ap (λ t. contextual_kind e t) (f.after l.leaf.text) ∙ f.new_plain.contextual)
                more.1,
          )
      | inr g ↦
          let same : l ≡ with_text l (name_after rs i l.leaf.text) = ap (λ t. with_text l t) (sym (g l.leaf.text)) in (
            subst (λ k. AreRenamedLeaves e (l ∷ ls) (k ∷ ms)) same (leaf_names.same more.0),
            subst (λ k. ReplacesNames e (l.leaf ∷ leaves_of ls) (k.leaf ∷ leaves_of ms)) same (one_stays more.1),
          )
    ]

-- ---- the whole text

from-whole : (e : Edition) (p c : List Lexed) (r : Rename) → IsAt (p ++ c) r → IsPlain e r.old → is_ident r.new ≡ true → IsPlain e r.new → IsFrom e (length p) c r
from-whole e p c r h o i n = record {
  at = λ j is. sym (there j is) ∙ h.is ∙ ap (λ ks. plain_leaf r.old ∷ ks) (later j is);
  first = λ j is. ap (λ ks. first_lexeme (r.old ++ texts ks)) (sym (later j is)) ∙ h.first;
  old_plain = o;
  new_ident = i;
  new_plain = n;
}
  where
    there : (j : ℕ) → r.number ≡ length p + j → drop r.number (p ++ c) ≡ drop j c
    there j is = ap (λ k. drop k (p ++ c)) is ∙ drop-append-add p c j

    later : (j : ℕ) → r.number ≡ length p + j → drop (suc r.number) (p ++ c) ≡ drop (suc j) c
    later j is = ap (λ k. drop k (p ++ c)) (let z : suc r.number ≡ length p + suc j = omega (arith, is) in z) ∙ drop-append-add p c (suc j)

all-from : (e : Edition) (text : List ℕ) (p c : List Lexed) (rs : List Rename) → lexed e text ≡ p ++ c → ArePlainRenames e text rs → AllFrom e (length p) c rs
all-from e text p c [] is a = tt
all-from e text p c (r ∷ rs) is a =
    (from-whole e p c r (subst (λ ls. IsAt ls r) is (name-at e text r a.0)) a.0.old_plain a.0.new_ident a.0.new_plain, all-from e text p c rs is a.1)

-- no rename has an index below the preface's end
no-name-before : (e : Edition) (text : List ℕ) (rs : List Rename) → ArePlainRenames e text rs → (i : ℕ) (t : List ℕ) → i < length (preface text) → name_after rs i t ≡ t
no-name-before e text [] a i t h = refl
no-name-before e text (r ∷ rs) a i t h =
    let le = not-before e text r a.0 in
    ap (λ (b : Bool). if b then r.new else name_after rs i t) (ne_eqb r.number i (λ z. absurd (omega (arith, le, h, z))))
    ∙ no-name-before e text rs a.1 i t h

preface-stays : (e : Edition) (text : List ℕ) (rs : List Rename) → ArePlainRenames e text rs → (p c : List Lexed) (i : ℕ) → i + length p ≡ length (preface text)
    → renamed_from rs i (p ++ c) ≡ p ++ renamed_from rs (length (preface text)) c
preface-stays e text rs a [] c i h = ap (λ k. renamed_from rs k c) (let z : i ≡ length (preface text) = omega (arith, h) in z)
preface-stays e text rs a (l ∷ p) c i h =
    ap (λ t. with_text l t ∷ renamed_from rs (i + 1) (p ++ c)) (no-name-before e text rs a i l.leaf.text (omega (arith, h)))
    ∙ ap (λ ks. l ∷ ks) (preface-stays e text rs a p c (i + 1) (omega (arith, h)))

pub keeps-leaves : PlainRenamesKeepLeaves
unfolding lexed
keeps-leaves e text rs a =
    let p = preface text in
    let c = cut e 0 (content text) in
    let ms = renamed_from rs (length p) c in
    let split : renamed_from rs 0 (p ++ c) ≡ p ++ ms = preface-stays e text rs a p c 0 (let z : 0 + length p ≡ length p = omega arith in z) in
    let are = (renamed-are e rs (length p) c (all-from e text p c rs refl a)).0 in
    ap (λ ks. lexed e (texts ks)) split ∙ ap (λ t. lexed e t) (texts-append p ms) ∙ leaves-renamed e text ms are ∙ sym split

pub keeps-inputs : PlainRenamesKeepInputs
keeps-inputs w e text rs a =
    sym (inputs-same w e (leaves_of (lexed e text)) (leaves_of (renamed_leaves rs e text)) (renamed-are e rs 0 (lexed e text) (all-from e text [] (lexed e text) rs refl a)).1)

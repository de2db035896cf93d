-- A renaming of plain names is a plain renaming, and its token is made and recorded.
use Rattle.std.proofs.Common.{◌≡◌, ℕ, ◌+◌, ◌≤◌, List, [], ◌∷◌, ◌++◌, map, length, chars, Bool, true, false, ◌&&◌, nat_eq, nat_lt, inl, inr, if◌then◌else◌, Option, Some, None, is_none, Result, Ok, Err, IsErrAnd, IfErr, refl, ap, sym, ◌∙◌, subst}
use Rattle.std.specs.Str.{IsUtf8}
use Rattle.std.proofs.Math.Utf8.{encodes}
use Rattle.std.proofs.lemmas.Bool.{and_parts, cases_Bool, eqb-true, false≢true, ltb-true}
use Rattle.std.specs.List.{list_all}
use Rattle.std.proofs.lemmas.Str.{chars-append, chars-encodes, encodes-chars, scalars-chars}
use Rattle.rustc_lexer.specs.Characters.{is_id_continue, is_ident}
use Rattle.plain_names.proofs.Names.{start-tick}
use Rattle.rowan_green.specs.Forest.{Tree}
use Rattle.rowan_green.specs.Leaf.{Leaf}
use Rattle.rustc_lexer.specs.Rows.{row, first_fit}
use Rattle.rowan_green.specs.declared.utility_types.NodeOrToken.TheVariants as terms
use Rattle.rowan.specs.Place.{term_by}
use Rattle.parser_input.specs.Kinds.{IDENT, LIFETIME_IDENT}
use Rattle.parser_input.specs.Lexed.{quiet}
use Rattle.parser_input.specs.declared.edition.Edition.{Edition}
use Rattle.plain_names.specs.Forests.{leaf_of}
use Rattle.plain_names.specs.LeafNames as names
use Rattle.plain_names.specs.Renames.{Rename}
use Rattle.syntax_tree.specs.Element.{Way, Element, term_of}
use Rattle.syntax_tree.specs.declared.element.SyntaxElement.{SyntaxElement}
use Rattle.tree_rewrite.specs.Change.{Change, has_collision}
use Rattle.syntax_editor.specs.Editing.{Editing, untouched, with_changes}
use Rattle.rust_document.specs.Payload.{TooLong, Message, NotOneToken, One, Payload, only, lexer_messages, token_payload, IsDetached, RefusesPayload}
use Rattle.rust_document.specs.Reading.{of_leaves}
use Rattle.rust_document.specs.Renames.{is_plain_name, AreRenames, IsPlainRenaming, IsRename}
use Rattle.rust_document.specs.Seen.{in_bytes}
use Rattle.rust_document.specs.Step.{State, MAX_TEXT, present, root_element}
use Rattle.rust_document.specs.declared.error.PayloadError.{PayloadError}
use Rattle.rust_document.specs.declared.error.PayloadError.TheVariants as payloads
use Rattle.renamer.specs.Plain.{IsPlain, LacksRoom}
use Rattle.renamer.specs.Renamed.{identifier}
use Rattle.renamer.specs.Taken.{Naming, named_kind, named_leaf, taken_text}
use Rattle.renamer.specs.Verdict.{RefusesTree}
use Rattle.token_names.specs.Names.{is_lifetime}
use Rattle.rust_document.specs.Commit.{RefusesCommit}
use Rattle.rust_document.specs.Step as step
use Rattle.rust_document.specs.declared.error.CommitError.{CommitError}
use Rattle.rust_document.specs.declared.error.CommitError.TheVariants as commits
use Rattle.syntax_editor.specs.Recording.{Recording, Recorded}
use Rattle.syntax_editor.specs.Recording as recording
use Rattle.syntax_editor.specs.Refusal.{RefusesRecord}
use Rattle.syntax_editor.specs.declared.error.RecordError.{RecordError}
use Rattle.syntax_editor.specs.declared.error.RecordError.TheVariants as records
use Rattle.renamer.specs.declared.RenameError.{RenameError}
use Rattle.renamer.specs.declared.RenameError.TheVariants.{NoToken, NotRecorded, Refused}
use Rattle.renamer.proofs.Changes.{change, changes_after, ways_after, changes-are, no-collision, AreNamed}
use Rattle.renamer.proofs.SingleNames.{names-single}

-- ---- the token of a plain name

none-is : {A : Type 0} (o : Option A) → is_none o ≡ true → o ≡ None
none-is None h = refl
none-is (Some a) h = absurd (let z : false ≡ true = h in cc)

record NameParts (edition : Edition) (name : List ℕ) : Type 0 where
  ident : is_ident name ≡ true
  plain : names.IsPlain edition name

name-parts : (edition : Edition) (name : List ℕ) → is_plain_name edition name ≡ true → NameParts edition name
name-parts edition name h =
    let both = and_parts (is_ident name) _ h in
    let word = and_parts _ _ both.1 in
    record { ident = both.0; plain = record { word = eqb-true _ _ word.0; contextual = none-is _ word.1 } }

-- ---- the leaf of a plain name

quote-text : IsUtf8 (39 ∷ [])
unfolding lib.Utf8.encode
quote-text = (39 ∷ [], (refl, refl))

no-quote : (bs : List ℕ) → is_ident (chars (39 ∷ bs)) ≡ false
unfolding is_ident lib.Utf8.encode
no-quote bs =
    ap is_ident (chars-append (39 ∷ []) bs quote-text ∙ ap (λ (cs : List ℕ). cs ++ chars bs) (chars-encodes (39 ∷ []) refl))
    ∙ ap (λ (x : Bool). x && list_all is_id_continue (chars bs)) start-tick

no-lifetime : (name : List ℕ) → is_ident (chars name) ≡ true → is_lifetime name ≡ false
no-lifetime [] h = refl
no-lifetime (b ∷ bs) h = elim (cases_Bool (nat_eq 39 b)) [
  | inl y ↦ absurd (false≢true (sym (no-quote bs) ∙ ap (λ (c : ℕ). is_ident (chars (c ∷ bs))) (eqb-true 39 b y) ∙ h))
  | inr n ↦ ap (λ (x : Bool). x && true) n
]

pub plain-leaf : (edition : Edition) (by : Naming) → is_plain_name edition (chars by.old) ≡ true → named_leaf by ≡ identifier by.old
plain-leaf edition by h =
    let parts = name-parts edition (chars by.old) h in
    let kind : named_kind by ≡ IDENT =
    ap (λ (b : Bool). if by.leaves_macro_names then (if b then LIFETIME_IDENT else IDENT) else IDENT) (no-lifetime by.old parts.ident) ∙ either by.leaves_macro_names in
    ap (λ (k : ℕ). let l : Leaf = record { kind = k; text = by.old } in l) kind
  where
    either : (b : Bool) → (if b then IDENT else IDENT) ≡ IDENT
    either true = refl
    either false = refl

abbrev name_payload : List ℕ → Payload
name_payload text = first_fit (row (nat_lt MAX_TEXT (length text)) TooLong ∷ row false Message ∷ []) (One (in_bytes (quiet IDENT (chars text)).leaf))

payload-is : (edition : Edition) (text : List ℕ) → is_plain_name edition (chars text) ≡ true → token_payload edition text ≡ name_payload text
unfolding lexer_messages
payload-is edition text h =
    let parts = name-parts edition (chars text) h in
    let one = names-single edition (chars text) parts.ident parts.plain.word in
    λ i. first_fit (row (nat_lt MAX_TEXT (length text)) TooLong ∷ row (nat_lt 0 (length (of_leaves 0 (one.0 i)))) Message ∷ []) (only (one.1 i))

given-by : (long : Bool) (text : List ℕ) (number : ℕ) (e : Element)
    → IsDetached number (first_fit (row long TooLong ∷ row false Message ∷ []) (One (in_bytes (quiet IDENT (chars text)).leaf))) e
    → term_of e ≡ Some (terms.Token (leaf_of IDENT (encodes (chars text))))
unfolding first_fit
given-by true text number e h = absurd h
given-by false text number e h = ap term_of h

-- the new token is an identifier with the name
pub plain-token : (edition : Edition) (text : List ℕ) (number : ℕ) (e : Element) → is_plain_name edition (chars text) ≡ true → IsDetached number (token_payload edition text) e
    → term_of e ≡ Some (terms.Token (leaf_of IDENT (encodes (chars text))))
plain-token edition text number e h is = given-by (nat_lt MAX_TEXT (length text)) text number e (subst (λ (p : Payload). IsDetached number p e) (payload-is edition text h) is)

refused-by : (long : Bool) (text : List ℕ) (number : ℕ) (e : PayloadError) → nat_lt MAX_TEXT (length text) ≡ long
    → RefusesPayload number (first_fit (row long TooLong ∷ row false Message ∷ []) (One (in_bytes (quiet IDENT (chars text)).leaf))) e → LacksRoom number text (NoToken e)
unfolding first_fit
refused-by true text number payloads.TooLong n h = ltb-true MAX_TEXT (length text) n
refused-by true text number payloads.Message n h = absurd (let z : TooLong ≡ Message = h in cc)
refused-by true text number payloads.NotOneToken n h = absurd (let z : TooLong ≡ NotOneToken = h in cc)
refused-by true text number payloads.NoTreeNumber n h = absurd h.0
refused-by true text number payloads.NoMemory n h = tt
refused-by false text number payloads.TooLong n h = absurd (let z : One (in_bytes (quiet IDENT (chars text)).leaf) ≡ TooLong = h in cc)
refused-by false text number payloads.Message n h = absurd (let z : One (in_bytes (quiet IDENT (chars text)).leaf) ≡ Message = h in cc)
refused-by false text number payloads.NotOneToken n h = absurd (let z : One (in_bytes (quiet IDENT (chars text)).leaf) ≡ NotOneToken = h in cc)
refused-by false text number payloads.NoTreeNumber n h = h.1
refused-by false text number payloads.NoMemory n h = tt

-- it is refused only if room is lacking
pub token-refused : (edition : Edition) (text : List ℕ) (number : ℕ) (e : PayloadError) → is_plain_name edition (chars text) ≡ true → RefusesPayload number (token_payload edition text) e
    → LacksRoom number text (NoToken e)
token-refused edition text number e h is =
    refused-by (nat_lt MAX_TEXT (length text)) text number e refl (subst (λ (p : Payload). RefusesPayload number p e) (payload-is edition text h) is)

-- ---- the changes

rename-at : (d : State) (by : Naming) (e : Element) (w : Way) → IsUtf8 by.old → IsUtf8 by.new → IsPlain d by.old by.new
    → term_of e ≡ Some (terms.Token (leaf_of IDENT (encodes (chars by.new)))) → term_by (present d) w ≡ Some (terms.Token (named_leaf by)) → IsRename d (change e w)
rename-at d by e w u v plain is named =
    let old = by.old in
    let new = by.new in
    let here = named ∙ ap (λ (l : Leaf). Some (terms.Token l)) (plain-leaf d.edition by plain.old_plain) in
    let token = plain.tokens w here in
    let o = name-parts d.edition (chars old) plain.old_plain in
    let n = name-parts d.edition (chars new) plain.new_plain in
    let r : Rename = record { number = token.number; up = w; old = chars old; new = chars new } in
    record {
      rename = r;
      element = e;
      single = true;
      is = refl;
      new_leaf = is;
      in_tree = record {
        stands = here ∙ ap (λ (t : List ℕ). Some (terms.Token (leaf_of IDENT t))) (sym (encodes-chars old u));
        starts = token.starts;
      };
      plain = record { raw = token.raw; old_plain = o.plain; new_ident = n.ident; new_plain = n.plain };
      is_text = scalars-chars new v;
    }

all-renames : (d : State) (by : Naming) (e : Element) (ws : List Way) → IsUtf8 by.old → IsUtf8 by.new → IsPlain d by.old by.new
    → term_of e ≡ Some (terms.Token (leaf_of IDENT (encodes (chars by.new)))) → AreNamed by (present d) ws → AreRenames d (map (change e) ws)
all-renames d by e [] u v plain is a = tt
all-renames d by e (w ∷ ws) u v plain is a = (rename-at d by e w u v plain is a.0.is, all-renames d by e ws u v plain is a.1)

-- all elements of the tree were taken in turn
pub plain-renaming :
    (d : State) (by : Naming) (e : Element) (editor : Editing) (xs left : List SyntaxElement) → IsUtf8 by.old → IsUtf8 by.new → IsPlain d by.old by.new
    → term_of e ≡ Some (terms.Token (leaf_of IDENT (encodes (chars by.new)))) → AreNamed by (present d) (ways_after by [] xs) → left ≡ []
    → editor ≡ with_changes (untouched (root_element d)) editor.changes → changes_after by e editor.changes left ≡ changes_after by e [] xs → IsPlainRenaming d editor
plain-renaming d by e editor xs left u v plain is named none own rest =
    let ws = ways_after by [] xs in
    let cs : editor.changes ≡ map (change e) ws = sym (ap (λ (ls : List SyntaxElement). changes_after by e editor.changes ls) none) ∙ rest ∙ changes-are by e [] xs in
    record {
      own = ap (λ (x : Editing). x.top) own;
      each = subst (λ (c : List Change). AreRenames d c) (sym cs) (all-renames d by e ws u v plain is named);
      apart = ap has_collision cs ∙ no-collision by e xs;
    }

-- ---- what may refuse it

-- an error that is made of another one
pub err-by : {A E : Type 0} (r : Result A E) (Q : E → Type 0) (why : E) → IsErrAnd r (λ e. e ≡ why) → Q why → IfErr r Q
err-by (Ok a) Q why is q = absurd is
err-by (Err e) Q why is q = subst Q (sym is) q

-- a plain renaming within the limit lacks room
abbrev pub IfPlain : State → Naming → ℕ → RenameError → Type 0
IfPlain d by number e = IsPlain d by.old by.new → length (taken_text by (present d)) ≤ MAX_TEXT → LacksRoom number by.new e

-- a change that can be recorded is refused only if out of memory
pub record-refused : (r : Recording) (cs : List Change) (number : ℕ) (new : List ℕ) (e : RecordError) → r ≡ Recorded cs → RefusesRecord r e → LacksRoom number new (NotRecorded e)
record-refused r cs number new records.Foreign is h = absurd (let z : Recorded cs ≡ recording.Foreign = sym is ∙ h in cc)
record-refused r cs number new records.BadRange is h = absurd (let z : Recorded cs ≡ recording.BadRange = sym is ∙ h in cc)
record-refused r cs number new records.BadTarget is h = absurd (let z : Recorded cs ≡ recording.BadTarget = sym is ∙ h in cc)
record-refused r cs number new records.NoMemory is h = tt

pub record-memory : (d : State) (new : List ℕ) (with : Leaf → Tree) (r : Recording) (cs : List Change) (number : ℕ) (e : RecordError) → r ≡ Recorded cs → RefusesRecord r e → RefusesTree d new with number (NotRecorded e)
record-memory d new with r cs number records.Foreign is h = absurd (let z : Recorded cs ≡ recording.Foreign = sym is ∙ h in cc)
record-memory d new with r cs number records.BadRange is h = absurd (let z : Recorded cs ≡ recording.BadRange = sym is ∙ h in cc)
record-memory d new with r cs number records.BadTarget is h = absurd (let z : Recorded cs ≡ recording.BadTarget = sym is ∙ h in cc)
record-memory d new with r cs number records.NoMemory is h = tt

-- an accepted commit is refused only if out of memory, or if no number is left after the new name's
pub commit-refused : (number next : ℕ) (new : List ℕ) (e : CommitError) → next ≡ number + 1 → RefusesCommit step.Accepted next e → LacksRoom number new (Refused e)
commit-refused number next new commits.Foreign is h = absurd (let z : step.Accepted ≡ step.Foreign = h in cc)
commit-refused number next new commits.Intersecting is h = absurd (let z : step.Accepted ≡ step.Intersecting = h in cc)
commit-refused number next new commits.MissingMapping is h = absurd (let z : step.Accepted ≡ step.MissingMapping = h in cc)
commit-refused number next new commits.TooLong is h = absurd (let z : step.Accepted ≡ step.TooLong = h in cc)
commit-refused number next new commits.Unfaithful is h = absurd (let z : step.Accepted ≡ step.Unfaithful = h in cc)
commit-refused number next new commits.NoTreeNumber is h = sym is ∙ h.1
commit-refused number next new commits.NoMemory is h = tt

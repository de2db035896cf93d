-- Plain renamings are accepted, and the new text reads as the rewritten tree.
use Rattle.std.proofs.Common.{◌≡◌, ◌≤◌, ◌<◌, ◌+◌, ◌*◌, ◌^◌, ◌==◌, ℕ, Bool, true, false, not, ◌||◌, List, [], ◌∷◌, length, map, chars, refl, sym, ◌∙◌, ap, subst, append-nil, eq-eqb, arith, Option, Some, None, is_some, is_none}
use Rattle.std.specs.Prelude.{encode_utf8, encode_utf8_all}
use Rattle.std.specs.List.{list_all}
use Rattle.std.specs.Str.{IsUtf8, all_scalars}
use Rattle.std.proofs.Math.Utf8.{encodes}
use Rattle.std.proofs.lemmas.Bool.{and_from, le-ltb}
use Rattle.std.proofs.lemmas.List.{length-map}
use Rattle.std.proofs.lemmas.Str.{chars-encodes, scalars-chars}
use Rattle.rustc_lexer.specs.Rows.{first_fit}
use Rattle.rowan_green.specs.Forest.{Forest, empty, node, Tree, forest_text, forest_count, tree_count, tree_text, same_tree}
use Rattle.rowan_green.specs.Same.{same_tree-Decides}
use Rattle.parser_input.specs.Kinds.{IDENT}
use Rattle.parser_input.specs.Lexed.{Lexed, lexed}
use Rattle.parser_events.specs.Dress.{dress_root}
use Rattle.parser_events.specs.TextSteps.{text_steps}
use Rattle.rust_grammar.specs.Laws.{is_entry}
use Rattle.rust_grammar.specs.Rule.{source_file}
use Rattle.rust_grammar.proofs.EntriesShort.{entry-short}
use Rattle.syntax_tree.specs.Element.{Element}
use Rattle.tree_rewrite.specs.Change.{Change, has_collision}
use Rattle.tree_rewrite.specs.Fits.{new_fits}
use Rattle.tree_rewrite.specs.Marked.{forest_in}
use Rattle.tree_rewrite.specs.Rewrite.{jobs, rewrite}
use Rattle.syntax_editor.specs.Editing.{Editing}
use Rattle.syntax_editor.specs.Rewriting.{rewriting}
use Rattle.plain_names.specs.Forests.{leaf_of}
use Rattle.plain_names.specs.Renames as names
use Rattle.plain_names.specs.Renames.{Rename, ArePlainRenames, AreInTree, renamed_leaves}
use Rattle.plain_names.specs.Replacements.{Replacement, with_leaves, AreApart}
use Rattle.plain_names.specs.Trees.{dressed_forest}
use Rattle.plain_names.proofs.Followed.{elements-steps}
use Rattle.plain_names.proofs.PlainTrees.{renamed-scalars}
use Rattle.plain_changes.specs.LeafChanges as changes
use Rattle.plain_changes.specs.LeafChanges.{LeafChange, AreLeafChanges, change_of}
use Rattle.plain_changes.proofs.Fits.{small-fit, keeps-counts}
use Rattle.plain_changes.proofs.Orders.{are-apart, leaves-replaced}
use Rattle.ra_parser.specs.Grammars.{is_whole}
use Rattle.rust_document.specs.Open.{IsOpened}
use Rattle.rust_document.specs.Reading.{leaves_in, root_of, tree_in}
use Rattle.rust_document.specs.Renames.{AreRenames, IsPlainRenaming, IsReadExactly}
use Rattle.rust_document.specs.Rewrite.{rewritten}
use Rattle.rust_document.specs.Step.{State, MAX_TEXT, present, root_element, bare_tree, is_faithful, is_foreign, is_too_long, Verdict, verdict, Accepted}
use Rattle.rust_document.specs.Commit.{RefusesCommit}
use Rattle.rust_document.specs.declared.error.CommitError.{CommitError}
use Rattle.rust_document.proofs.RenamedReadings.{new_text, new_tree, new-read, old_forest, present-one}
use Rattle.rust_document.proofs.Sizes.{count-all}
use Rattle.rust_document.proofs.TreeTexts.{tree-text}
use Rattle.rust_document.proofs.Verdicts.{verdict-is}

-- The recorded changes, as changes of leaves and as renames.

abbrev leaf_changes : (d : State) (cs : List Change) → AreRenames d cs → List LeafChange
leaf_changes d [] h = []
leaf_changes d (c ∷ cs) h =
    record {
      up = h.0.rename.up;
      old = leaf_of IDENT (encode_utf8_all h.0.rename.old);
      element = h.0.element;
      new = leaf_of IDENT (encode_utf8_all h.0.rename.new);
      single = h.0.single;
    }
    ∷ leaf_changes d cs h.1

abbrev renames : (d : State) (cs : List Change) → AreRenames d cs → List Rename
renames d [] h = []
renames d (c ∷ cs) h = h.0.rename ∷ renames d cs h.1

changes-are : (d : State) (cs : List Change) (h : AreRenames d cs) → map change_of (leaf_changes d cs h) ≡ cs
changes-are d [] h = refl
changes-are d (c ∷ cs) h =
    ap (λ (x : Change). x ∷ map change_of (leaf_changes d cs h.1)) (sym h.0.is) ∙ ap (λ (xs : List Change). c ∷ xs) (changes-are d cs h.1)

all-replace : (d : State) (cs : List Change) (h : AreRenames d cs) → AreLeafChanges (present d) (leaf_changes d cs h)
all-replace d [] h = tt
all-replace d (c ∷ cs) h = (record { is_old = h.0.in_tree.stands; is_new = h.0.new_leaf }, all-replace d cs h.1)

all-plain : (d : State) (cs : List Change) (h : AreRenames d cs) → ArePlainRenames d.edition (chars d.text) (renames d cs h)
all-plain d [] h = tt
all-plain d (c ∷ cs) h = (h.0.plain, all-plain d cs h.1)

all-in-tree : (d : State) (cs : List Change) (h : AreRenames d cs) → AreInTree d.edition (chars d.text) (present d) (renames d cs h)
all-in-tree d [] h = tt
all-in-tree d (c ∷ cs) h = (h.0.in_tree, all-in-tree d cs h.1)

same-replacements : (d : State) (cs : List Change) (h : AreRenames d cs) → map changes.replacement_of (leaf_changes d cs h) ≡ map names.replacement_of (renames d cs h)
same-replacements d [] h = refl
same-replacements d (c ∷ cs) h = ap (λ (rs : List Replacement). names.replacement_of h.0.rename ∷ rs) (same-replacements d cs h.1)

all-texts : (d : State) (cs : List Change) (h : AreRenames d cs) → list_all (λ r. all_scalars r.new) (renames d cs h) ≡ true
all-texts d [] h = refl
all-texts d (c ∷ cs) h = and_from _ _ h.0.is_text (all-texts d cs h.1)

-- What a plain renaming makes of the present tree.
record Renamed (d : State) (e : Editing) : Type 0 where
  placed : is_some (jobs e.top e.changes e.mapping) ≡ true
  forest_is : forest_in (rewriting e) ≡ node (rewritten e).kind (rewritten e).forest empty
  count_is : forest_count (forest_in (rewriting e)) ≡ forest_count (node (present d).kind (present d).forest empty)
  reads : tree_in d.grammar d.edition (chars (tree_text (rewritten e))) ≡ rewritten e

renamed-by :
    (d : State) (e : Editing) (rs : List Rename) → is_some (jobs e.top e.changes e.mapping) ≡ true
    → forest_in (rewriting e) ≡ node (present d).kind (new_tree d.grammar d.edition d.text rs).forest empty → tree_in d.grammar d.edition (new_text d.edition d.text rs) ≡ new_tree d.grammar d.edition d.text rs
    → all_scalars (new_text d.edition d.text rs) ≡ true → tree_count (new_tree d.grammar d.edition d.text rs) ≡ tree_count (present d) → Renamed d e
renamed-by d e rs placed own read scalars count =
    let tree_is : rewritten e ≡ new_tree d.grammar d.edition d.text rs = ap root_of own in
    let text_is : chars (tree_text (rewritten e)) ≡ new_text d.edition d.text rs =
    ap (λ (t : Tree). chars (tree_text t)) (tree_is ∙ sym read) ∙ ap chars (tree-text d.grammar d.edition (new_text d.edition d.text rs)) ∙ chars-encodes (new_text d.edition d.text rs) scalars in
    record {
      placed = placed;
      forest_is = own ∙ ap (λ (t : Tree). node t.kind t.forest empty) (sym tree_is);
      count_is = let all = ap forest_count own in omega (arith, all, count);
      reads = ap (λ (t : List ℕ). tree_in d.grammar d.edition t) text_is ∙ read ∙ sym tree_is;
    }

renamed : (d : State) (e : Editing) → IsUtf8 d.text → IsPlainRenaming d e → Renamed d e
renamed d e u h =
    let cs = leaf_changes d e.changes h.each in
    let rs = renames d e.changes h.each in
    let are : map change_of cs ≡ e.changes = changes-are d e.changes h.each in
    let same : map changes.replacement_of cs ≡ map names.replacement_of rs = same-replacements d e.changes h.each in
    let apart : has_collision (map change_of cs) ≡ false = ap has_collision are ∙ h.apart in
    let made = leaves-replaced (root_element d) cs e.mapping refl (all-replace d e.changes h.each) apart in
    let placed : is_some (jobs e.top e.changes e.mapping) ≡ true =
    ap (λ (top : Element). is_some (jobs top e.changes e.mapping)) h.own ∙ ap (λ (xs : List Change). is_some (jobs (root_element d) xs e.mapping)) (sym are) ∙ made.0 in
    let own : forest_in (rewriting e) ≡ node (present d).kind (new_tree d.grammar d.edition d.text rs).forest empty =
    ap (λ (top : Element). forest_in (rewrite top e.changes e.mapping)) h.own
    ∙ ap (λ (xs : List Change). forest_in (rewrite (root_element d) xs e.mapping)) (sym are)
    ∙ made.1
    ∙ ap (λ (xs : List Replacement). node (present d).kind (with_leaves xs [] 0 (present d).forest) empty) same in
    let far : AreApart (map names.replacement_of rs) = subst AreApart same (are-apart cs apart) in
    renamed-by d e rs placed own (new-read d.grammar d.edition d.text rs u (all-plain d e.changes h.each) (all-in-tree d e.changes h.each) far) (renamed-scalars d.edition (chars d.text) rs (scalars-chars d.text u) (all-texts d e.changes h.each))
    (ap (λ (xs : List Replacement). tree_count (record { kind = (present d).kind; forest = with_leaves xs [] 0 (present d).forest })) (sym same) ∙ keeps-counts cs (present d))

-- The verdict.

same-itself : (t : Tree) → same_tree t t ≡ true
same-itself t = (same_tree-Decides t t).1 refl

pub own-tree : (d : State) (e : Editing) → e.top ≡ root_element d → is_foreign d e ≡ false
own-tree d e own =
    ap (λ (top : Element). not (top.number == d.number) || not (same_tree top.place.root (present d))) own
    ∙ ap (λ (b : Bool). not b || not (same_tree (present d) (present d))) (eq-eqb d.number d.number refl)
    ∙ ap not (same-itself (present d))

some-here : {A : Type 0} (o : Option A) → is_some o ≡ true → is_none o ≡ false
some-here None h = cc
some-here (Some x) h = refl

-- the present tree has few elements
present-few : (d : State) → IsUtf8 d.text → IsOpened d.text → forest_count (node (present d).kind (present d).forest empty) < 2 ^ 32
unfolding is_entry
present-few d u o =
    let ls = leaves_in d.edition (chars d.text) in
    let dressed_tree = dress_root (old_forest d.grammar d.edition d.text) ls in
    let own : forest_count (node (present d).kind (present d).forest empty) ≡ forest_count (dressed_forest encode_utf8 dressed_tree) = ap forest_count (sym (present-one d.grammar d.edition d.text)) in
    let steps = elements-steps encode_utf8 dressed_tree in
    let short : length (text_steps dressed_tree) ≤ 65 * length ls + 67 = entry-short source_file (is_whole d.grammar) d.edition ls refl in
    let leaves = length-map (lexed d.edition (chars d.text)) (λ (l : Lexed). l.leaf) in
    let few = count-all d.edition d.text u in
    omega (arith, own, steps, short, leaves, few, o)

whole-fits : (d : State) (e : Editing) → IsUtf8 d.text → IsOpened d.text → Renamed d e → length (tree_text (rewritten e)) ≤ MAX_TEXT → new_fits (rewriting e) ≡ true
whole-fits d e u o r short =
    let count = present-few d u o in
    let text : length (forest_text (forest_in (rewriting e))) ≡ length (tree_text (rewritten e)) =
    ap (λ (f : Forest). length (forest_text f)) r.forest_is ∙ ap (λ (bs : List ℕ). length bs) (append-nil (forest_text (rewritten e).forest)) in
    small-fit (rewriting e) (omega (arith, count, r.count_is)) (omega (arith, text, short))

within : (d : State) (e : Editing) → IsUtf8 d.text → IsOpened d.text → Renamed d e → length (tree_text (rewritten e)) ≤ MAX_TEXT → is_too_long e ≡ false
within d e u o r short = rw (le-ltb MAX_TEXT (length (tree_text (rewritten e))) short, whole-fits d e u o r short) refl

faithful : (d : State) (e : Editing) → Renamed d e → not (is_faithful d.grammar d.edition (rewritten e)) ≡ false
faithful d e r =
    ap (λ (t : Tree). not (same_tree (bare_tree (rewritten e)) (bare_tree t))) r.reads ∙ ap not (same-itself (bare_tree (rewritten e)))

-- the tree of the new text is the rewritten tree
pub read-exactly : (d : State) (e : Editing) → IsUtf8 d.text → IsPlainRenaming d e → IsReadExactly d e
read-exactly d e u h = (renamed d e u h).reads

pub plain-renaming :
    (d : State) (e : Editing) → IsUtf8 d.text → IsOpened d.text → IsPlainRenaming d e → length (tree_text (rewritten e)) ≤ MAX_TEXT
    → (verdict d e ≡ Accepted) × IsReadExactly d e
unfolding first_fit
plain-renaming d e u o h short =
    let r = renamed d e u h in
    (verdict-is d e false false false false false (own-tree d e h.own) h.apart (some-here (jobs e.top e.changes e.mapping) r.placed) (within d e u o r short) (faithful d e r), r.reads)

-- A refused plain renaming within the limit is refused as an accepted commit may be: out of tree numbers or of memory.
pub renaming-refused :
    (d : State) (e : Editing) (number : ℕ) (error : CommitError) → IsUtf8 d.text → IsOpened d.text → RefusesCommit (verdict d e) number error
    → IsPlainRenaming d e → length (tree_text (rewritten e)) ≤ MAX_TEXT → RefusesCommit Accepted number error
renaming-refused d e number error u o refused h short = subst (λ (v : Verdict). RefusesCommit v number error) (plain-renaming d e u o h short).0 refused

-- The reading of a text whose input is a core file.
use Rattle.std.proofs.Common.{◌≡◌, ◌∙◌, ℕ, ◌-◌, false, true, List, [], ◌∷◌, ◌++◌, map, length, refl, sym, ap, inl, inr, arith}
use Rattle.std.proofs.lemmas.Bool.{and_parts, cases_Bool}
use Rattle.parser_input.specs.Input.{Token, input, token_of}
use Rattle.parser_input.specs.Leaf.{Leaf, is_trivia}
use Rattle.parser_input.specs.Lexed.{lexed}
use Rattle.parser_input.specs.declared.edition.Edition.{Edition}
use Rattle.parser_events.specs.Forest as forest
use Rattle.parser_events.specs.Dressed as dressed
use Rattle.parser_events.specs.Dressed.{Dressed, Saying, sayings_of}
use Rattle.parser_events.specs.Trivia.{pending, attached}
use Rattle.parser_events.specs.Dress.{Dressing, put_each, put_pending, put_leaf, open_node, close_node, dress, dress_root, root}
use Rattle.rust_grammar.specs.Entry.{entry}
use Rattle.rust_grammar.specs.Rule.{source_file}
use Rattle.rust_grammar.specs.Whole.{whole}
use Rattle.core_language.specs.Language.{IsCoreFile}
use Rattle.core_language.specs.Laws.{is_clean}
use Rattle.core_language.specs.Tokens.{of_whole}
use Rattle.core_language.proofs.Clean.{files-clean}
use Rattle.core_language.proofs.Read.{files-read, whole-reads-files}
use Rattle.ra_parser.specs.declared.grammar.Grammar.{Grammar}
use Rattle.ra_parser.specs.declared.grammar.Grammar.TheVariants.{Profile, Whole}
use Rattle.rust_document.specs.Core.{ReadsAs}
use Rattle.rust_document.specs.Reading.{dressed_by, forest_by, leaves_in, messages_by, of_grammar, of_leaves, root_of, terms_of, tree_by}
use Rattle.rust_document.proofs.Silent.{said, said-close, said-each, said-leaf, said-open, said-pending}

clean-said : (f : forest.Forest) (s : Dressing) → is_clean f ≡ true → said (dress f s).given ≡ said s.given
unfolding dress is_clean
clean-said forest.End s clean = refl
clean-said (forest.Leaf k n f) s clean = clean-said f (put_leaf k n (put_pending s)) clean ∙ said-leaf k n (put_pending s) ∙ said-pending s
clean-said (forest.Said m f) s clean = absurd (cc)
clean-said (forest.ErrorLeaf m k f) s clean = absurd (cc)
clean-said (forest.Float b c f) s clean = absurd (cc)
clean-said (forest.Node k c f) s clean =
    let both = and_parts (is_clean c) (is_clean f) clean in
    let out = put_each (length (pending s.left) - attached k (pending s.left)) s in
    let inner = put_each (attached k (pending s.left)) (open_node out) in
    let children = clean-said c inner both.0 in
    let next = clean-said f (close_node k out (dress c inner)) both.1 in
    let closed = said-close k out (dress c inner) in
    let before = said-each (length (pending s.left) - attached k (pending s.left)) s in
    let opened = said-each (attached k (pending s.left)) (open_node out) in
    let none = said-open out in
    omega (arith, children, next, closed, before, opened, none)

-- dressed elements that say nothing have no sayings
none-told : (d : Dressed) → said d ≡ 0 → sayings_of d ≡ []
unfolding said
none-told dressed.End e = refl
none-told (dressed.Leaf k t d) e = none-told d e
none-told (dressed.Said m p d) e = absurd (omega (arith, e))
none-told (dressed.Node k c d) e =
    let first : said c ≡ 0 = omega (arith, e) in
    let second : said d ≡ 0 = omega (arith, e) in
    ap (λ (xs : List Saying). xs ++ sayings_of d) (none-told c first) ∙ none-told d second

root-said : (k : ℕ) (c : forest.Forest) (s : Dressing) → is_clean c ≡ true → said s.given ≡ 0 → said (root k (dress c s)).given ≡ 0
unfolding root
root-said k c s clean none =
    let all = clean-said c s clean in
    let last = said-each (length (dress c s).left) (dress c s) in
    let closed = said-close k (open_node (dress c s)) (put_each (length (dress c s).left) (dress c s)) in
    let opened = said-open (dress c s) in
    omega (arith, none, all, last, closed, opened)

start : List Leaf → Dressing
start ls = record { given = dressed.End; place = 0; left = ls }

start-said : (ls : List Leaf) → said (start ls).given ≡ 0
unfolding said start
start-said ls = refl

whole-said : (f : forest.Forest) (ls : List Leaf) → is_clean f ≡ true → said (dress_root f ls) ≡ 0
unfolding dress_root is_clean start
whole-said forest.End ls clean = said-each (length ls) (start ls) ∙ start-said ls
whole-said (forest.Leaf k n f) ls clean = said-each (length ls) (start ls) ∙ start-said ls
whole-said (forest.Said m f) ls clean = absurd (cc)
whole-said (forest.ErrorLeaf m k f) ls clean = absurd (cc)
whole-said (forest.Float b c f) ls clean = absurd (cc)
whole-said (forest.Node k c f) ls clean = root-said k c (start ls) (and_parts (is_clean c) (is_clean f) clean).0 (start-said ls)

-- the input of the whole language is that of the profile but for the flag of its tokens
whole-input : (edition : Edition) (ls : List Leaf) → of_whole (input false edition ls) ≡ input true edition ls
unfolding of_whole input token_of
whole-input edition [] = refl
whole-input edition (l ∷ ls) = elim (cases_Bool (is_trivia l)) [
  | inl h ↦ rw h (whole-input edition ls)
  | inr h ↦ rw h (ap (λ (ts : List Token). token_of true edition l ls ∷ ts) (whole-input edition ls))
]

-- each grammar reads the leaves of a core file to its tree
core-forest : (grammar : Grammar) (edition : Edition) (ls : List Leaf) (core : forest.Forest) → IsCoreFile (input false edition ls) core
    → forest_by source_file grammar edition ls ≡ core
core-forest Profile edition ls core is = files-read (input false edition ls) core is
core-forest Whole edition ls core is =
    ap (λ (ts : List Token). entry whole source_file ts) (sym (whole-input edition ls)) ∙ whole-reads-files (input false edition ls) core is

pub core-read : (grammar : Grammar) (edition : Edition) (text : List ℕ) (core : forest.Forest) → IsCoreFile (input false edition (leaves_in edition text)) core → ReadsAs grammar edition text core
unfolding tree_by messages_by dressed_by
core-read grammar edition text core is =
    let ls = leaves_in edition text in
    let same : forest_by source_file grammar edition ls ≡ core = core-forest grammar edition ls core is in
    let silent : sayings_of (dress_root core ls) ≡ [] = none-told (dress_root core ls) (whole-said core ls (files-clean (input false edition ls) core is)) in
    record {
      tree_is = ap (λ (f : forest.Forest). root_of (terms_of (dress_root f ls))) same;
      messages_are =
          ap (λ (f : forest.Forest). map of_grammar (sayings_of (dress_root f ls)) ++ of_leaves 0 (lexed edition text)) same
          ∙ ap (λ (xs : List Saying). map of_grammar xs ++ of_leaves 0 (lexed edition text)) silent;
    }

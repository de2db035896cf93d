-- What was read of a text's leaves is the reading of the text.
use Rattle.std.proofs.Common.{◌≡◌, ◌≤◌, ℕ, true, List, ◌++◌, map, length, refl, ap, ◌∙◌, arith, Result, Ok, Err, IfOk}
use Rattle.std.proofs.Math.Utf8.{encodes}
use Rattle.std.proofs.lemmas.List.{length-map}
use Rattle.rowan_green.specs.Forest.{Tree}
use Rattle.parser_input.specs.Input.{input}
use Rattle.parser_input.specs.Leaf.{Leaf}
use Rattle.parser_input.specs.Lexed.{Lexed, lexed, leaves_of}
use Rattle.parser_input.specs.declared.edition.Edition.{Edition}
use Rattle.parser_events.specs.Dress.{joined}
use Rattle.parser_events.specs.Steps.{Step, steps}
use Rattle.ra_parser.specs.Entries.{production_of}
use Rattle.ra_parser.specs.declared.entry_points.TopEntryPoint.{TopEntryPoint}
use Rattle.ra_parser.specs.declared.entry_points.TopEntryPoint.TheVariants as tops
use Rattle.rust_grammar.specs.Laws.{is_entry}
use Rattle.rust_grammar.proofs.EntriesFit.{entry-rooted, entry-fits}
use Rattle.rust_grammar.proofs.EntriesShort.{entry-short}
use Rattle.rust_grammar.proofs.Lengths.{input-most}
use Rattle.ra_parser.specs.Grammars.{is_whole}
use Rattle.ra_parser.specs.declared.grammar.Grammar.{Grammar}
use Rattle.rust_document.specs.Reading.{Message, forest_by, of_leaves, leaves_in, dressed_by, tree_by, messages_by}
use Rattle.rust_document.specs.Seen.{in_bytes, message_of_error}
use Rattle.rust_document.specs.IsReading.{IsReadingBy}
use Rattle.rust_document.specs.Tokens.{spans_from, span_of}
use Rattle.rust_document.specs.TreeBuilt.{AreMessages, AreStepsOf, IsTreeOf, IsBuilt}
use Rattle.rust_document.specs.declared.tokens.LexedToken.{LexedToken}
use Rattle.rust_document.specs.declared.syntax_error.SyntaxError.{SyntaxError}

-- an input has no more tokens than there are leaves
pub tokens-within : (grammar : Grammar) (edition : Edition) (ls : List Lexed) → length (input (is_whole grammar) edition (leaves_of ls)) ≤ length ls
tokens-within grammar edition ls = omega (arith, input-most (is_whole grammar) edition (leaves_of ls), length-map ls (λ (l : Lexed). l.leaf))

is-top : (top : TopEntryPoint) → is_entry (production_of top) ≡ true
unfolding is_entry
is-top tops.SourceFile = refl
is-top tops.MacroStmts = refl
is-top tops.MacroItems = refl
is-top tops.Pattern = refl
is-top tops.Ty = refl
is-top tops.Expr = refl
is-top tops.MetaItem = refl

-- the steps of an entry are those of one node over the leaves
steps-are : (top : TopEntryPoint) (grammar : Grammar) (edition : Edition) (ls : List Leaf) → AreStepsOf (steps (forest_by (production_of top) grammar edition ls)) ls (forest_by (production_of top) grammar edition ls)
steps-are top grammar edition ls = record {
  are = refl;
  rooted = entry-rooted (production_of top) (input (is_whole grammar) edition ls) (is-top top);
  fit = entry-fits (production_of top) (is_whole grammar) edition ls (is-top top);
}

-- and not too many
pub are-tree :
    (top : TopEntryPoint) (grammar : Grammar) (edition : Edition) (ls : List Lexed) (ss : List Step) → ss ≡ steps (forest_by (production_of top) grammar edition (leaves_of ls)) → length (encodes (joined (leaves_of ls))) ≤ 16777216 → length ls ≤ 16777216 → IsTreeOf ss (leaves_of ls)
are-tree top grammar edition ls ss are bytes count =
    let own = leaves_of ls in
    let all = steps-are top grammar edition own in
    record {
      forest = forest_by (production_of top) grammar edition own;
      steps_of = record { are = are; rooted = all.rooted; fit = all.fit };
      bytes = bytes;
      few = omega (arith, entry-short (production_of top) (is_whole grammar) edition own (is-top top), length-map ls (λ (l : Lexed). l.leaf), count);
    }

-- the tree that was built of a text's leaves
pub whole-tree :
    (top : TopEntryPoint) (grammar : Grammar) (edition : Edition) (text : List ℕ) (root : Tree) (errors : List SyntaxError)
    → IsBuilt (steps (forest_by (production_of top) grammar edition (leaves_in edition text))) (leaves_in edition text) root errors
    → root ≡ tree_by (production_of top) grammar edition text
unfolding tree_by dressed_by
whole-tree top grammar edition text root errors built =
    built.root_is (forest_by (production_of top) grammar edition (leaves_in edition text)) (steps-are top grammar edition (leaves_in edition text))

-- what was read of a text's leaves
pub whole :
    (top : TopEntryPoint) (grammar : Grammar) (edition : Edition) (text : List ℕ) (tokens : List LexedToken) (root : Tree) (first errors : List SyntaxError)
    → root ≡ tree_by (production_of top) grammar edition text
    → AreMessages (steps (forest_by (production_of top) grammar edition (leaves_in edition text))) (leaves_in edition text) first
    → map message_of_error errors ≡ map message_of_error first ++ of_leaves 0 (lexed edition text)
    → map span_of tokens ≡ spans_from 0 (map in_bytes (leaves_in edition text))
    → IsReadingBy (production_of top) grammar edition text tokens root errors
unfolding messages_by dressed_by
whole top grammar edition text tokens root first errors root_is first_are more placed =
    let f = forest_by (production_of top) grammar edition (leaves_in edition text) in
    let all = steps-are top grammar edition (leaves_in edition text) in
    record {
      tokens_are = placed;
      root_is = root_is;
      errors_are = more ∙ ap (λ (ms : List Message). ms ++ of_leaves 0 (lexed edition text)) (first_are f all);
    }

-- what holds of each result holds of the one that is given
pub of-each : {A E : Type 0} (r : Result A E) (P Q : A → Type 0) → ((x : A) → P x → Q x) → IfOk r P → IfOk r Q
of-each (Ok x) P Q f h = f x h
of-each (Err e) P Q f h = h

-- What is listed of a text's steps is the tree of the text.
use Rattle.std.proofs.Common.{Bool, ◌≡◌, ℕ, true, List, [], ◌++◌, length, map, refl, ap, ◌∙◌}
use Rattle.parser_input.specs.Input.{Token, input}
use Rattle.parser_input.specs.Lexed.{leaves_of}
use Rattle.parser_input.specs.Stored.{Whole, whole_of}
use Rattle.parser_input.specs.declared.edition.Edition.{Edition}
use Rattle.parser_events.specs.Dress.{dress_root}
use Rattle.parser_events.specs.Dressed.{Dressed, sayings_of}
use Rattle.parser_events.specs.Fits.{fits, IsRooted}
use Rattle.parser_events.specs.Forest.{Forest}
use Rattle.parser_events.specs.Sinks.{TakesAll}
use Rattle.parser_events.specs.Steps.{Step, steps}
use Rattle.parser_events.specs.TextSteps.{text_steps}
use Rattle.rust_grammar.specs.Entry.{entry}
use Rattle.rust_grammar.specs.Laws.{entry_of, is_entry}
use Rattle.rust_grammar.specs.Rule.{Production}
use Rattle.rust_grammar.specs.Whole.{whole}
use Rattle.rust_grammar.proofs.EntriesFit.{entry-rooted, entry-fits}
use Rattle.ra_parser.specs.Entries.{production_of}
use Rattle.ra_parser.specs.declared.entry_points.TopEntryPoint.{TopEntryPoint}
use Rattle.ra_parser.specs.declared.entry_points.TopEntryPoint.TheVariants.{SourceFile, MacroStmts, MacroItems, Pattern, Ty, Expr, MetaItem}
use Rattle.tree_lines.specs.Elements.{elements}
use Rattle.tree_lines.specs.Listed.{element_of, saying_of, IsTaken}
use Rattle.tree_lines.specs.Reading.{tree_of, IsTreeOf}
use Rattle.tree_lines.specs.declared.rows.Said.{Said}
use Rattle.tree_lines.specs.declared.rows.Row.{Row}
use Rattle.tree_lines.specs.declared.rows.Rows.{Rows}
use Rattle.tree_lines.proofs.Listing.{listed}

-- what each entry asks for is one
pub asked-is-entry : (e : TopEntryPoint) → is_entry (production_of e) ≡ true
unfolding is_entry
asked-is-entry SourceFile = refl
asked-is-entry MacroStmts = refl
asked-is-entry MacroItems = refl
asked-is-entry Pattern = refl
asked-is-entry Ty = refl
asked-is-entry Expr = refl
asked-is-entry MetaItem = refl

-- nothing is listed yet
pub record IsEmpty (s : Rows) : Type 0 where
  pub rows : s.rows.items ≡ []
  pub said : s.said.items ≡ []
  pub entered : s.entered.items ≡ []
  pub place : s.offset ≡ 0

-- a tree that is listed after nothing
listed-alone : (d : Dressed) (s t : Rows) → IsEmpty s → TakesAll IsTaken s (text_steps d) t → map element_of t.rows.items ≡ elements 0 0 d
listed-alone d s t empty h =
    (listed d s t h).elements_are
    ∙ ap (λ (l : List Row). map element_of l ++ elements (length s.entered.items) s.offset d) empty.rows
    ∙ ap (λ (l : List ℕ). elements (length l) s.offset d) empty.entered
    ∙ ap (λ (n : ℕ). elements 0 n d) empty.place

said-alone : (d : Dressed) (s t : Rows) → IsEmpty s → TakesAll IsTaken s (text_steps d) t → map saying_of t.said.items ≡ sayings_of d
said-alone d s t empty h = (listed d s t h).sayings ∙ ap (λ (l : List Said). map saying_of l ++ sayings_of d) empty.said

-- the tree of an entry over the leaves of a text
abbrev over : (wide : Bool) → Production → Whole → Dressed
over wide asked w = dress_root (entry_of asked wide w.edition (leaves_of w.leaves)) (leaves_of w.leaves)

abbrev Puts : Rows → List Step → Whole → Rows → Type 0
Puts old ss w new =
    (f : Forest) → IsRooted f → ss ≡ steps f → fits ss (leaves_of w.leaves) ≡ true
    → TakesAll IsTaken old (text_steps (dress_root f (leaves_of w.leaves))) new

pub read-as :
    (wide : Bool) (asked : Production) (edition : Edition) (text : List ℕ) (w : Whole) (ts : List Token) (ss : List Step) (old new : Rows)
    → is_entry asked ≡ true → w ≡ whole_of edition text → ts ≡ input wide w.edition (leaves_of w.leaves) → ss ≡ steps (entry whole asked ts)
    → IsEmpty old → Puts old ss w new → IsTreeOf (tree_of wide asked edition text) new.rows.items new.said.items
unfolding tree_of
read-as wide asked edition text w ts ss old new is-entry lexed seen parsed empty puts =
    let ls = leaves_of w.leaves in
    let f = entry_of asked wide w.edition ls in
    let are : ss ≡ steps f = parsed ∙ ap (λ (l : List Token). steps (entry whole asked l)) seen in
    let fit : fits ss ls ≡ true = ap (λ (l : List Step). fits l ls) are ∙ entry-fits asked wide w.edition ls is-entry in
    let taken : TakesAll IsTaken old (text_steps (over wide asked w)) new = puts f (entry-rooted asked (input wide w.edition ls) is-entry) are fit in
    record {
      elements_are = listed-alone (over wide asked w) old new empty taken ∙ ap (λ (v : Whole). elements 0 0 (over wide asked v)) lexed;
      sayings_are = said-alone (over wide asked w) old new empty taken ∙ ap (λ (v : Whole). sayings_of (over wide asked v)) lexed;
    }

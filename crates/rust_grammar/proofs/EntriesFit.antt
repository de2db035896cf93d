-- The steps of each entry's tree are those of one node, and fit every text with that input.
use Rattle.std.proofs.Common.{◌≡◌, Bool, true, false, refl, sym, if◌then◌else◌, true≢false}
use Rattle.parser_input.specs.Kinds.{ERROR}
use Rattle.parser_input.specs.Input.{input}
use Rattle.parser_events.specs.Fits.{IsRooted}
use Rattle.parser_events.specs.Forest as forest
use Rattle.parser_events.specs.Forest.{Forest}
use Rattle.rust_grammar.specs.Rule.{Production, source_file, macro_items, macro_statements, pattern, any_type, expression, meta}
use Rattle.rust_grammar.specs.Meaning.{Reading, Calls, read, meaning, sees, look_of, wrapped}
use Rattle.rust_grammar.specs.Entry.{is_used_up, takes_all, entry}
use Rattle.rust_grammar.specs.Laws.{is_entry, entry_of, EntriesAreRooted, EntriesFit, ProductionsTakeInOrder, EntriesTakeAllInOrder}
use Rattle.rust_grammar.specs.Spelled.{tokens_after}
use Rattle.rust_grammar.specs.Whole.{rule, whole}
use Rattle.rust_grammar.specs.Begun.{asks_nothing}
use Rattle.rust_grammar.proofs.Known.{if-second}
use Rattle.rust_grammar.proofs.InOrder.{productions-in-order}
use Rattle.rust_grammar.proofs.EntriesInOrder.{chosen-forest, entries-in-order}
use Rattle.rust_grammar.proofs.Fitting.{rooted-fits}
use Rattle.rust_grammar.proofs.Shapes.{Single, HasShape, Rooted, shape, has-shape, within-holds}
use Rattle.rust_grammar.proofs.ShapesTable.{gives_one, starts_with, rooting, is_root, all_roots}
use Rattle.rust_grammar.proofs.Induction.{HoldOf, meaning-holds}

abbrev pub Roots : Production → Bool → Reading → Reading → Type 0
Roots y d t u = gives_one y ≡ true → HasShape (starts_with y) t.given → IsRooted u.given

abbrev Anything : Production → Bool → Reading → Reading → Type 0
Anything y d t u = Unit {0}

-- What is taken for calls that are not made: one node.
unfoldable closed : Calls
closed y d t = wrapped ERROR t

closed-roots : HoldOf Roots closed
unfolding closed wrapped
closed-roots y d t e h = tt

pub as-claimed : (call : Calls) → HoldOf Roots call → Rooted rooting call
unfolding rooting
as-claimed call p = record { one_node = p }

claimed-part : (a b : Bool) → a ≡ true → (if a then b else true) ≡ true → b ≡ true
claimed-part true b e f = f
claimed-part false b e f = absurd (true≢false (sym e))

rules-root : (call : Calls) → HoldOf Roots call → HoldOf Anything call → (x : Production) (c : Bool) (s : Reading) → Roots x c s (read (look_of whole) call c (rule x) s)
unfolding rooting is_root
rules-root call p q x c s e h =
    within-holds (shape rooting false (starts_with x) (rule x)) Single _ (claimed-part (gives_one x) _ e (all_roots x))
    (has-shape rooting call (as-claimed call p) (rule x) false (starts_with x) c s (λ i. absurd (true≢false (sym i))) h)

-- Such a production gives one node.
pub productions-root : HoldOf Roots (meaning whole)
productions-root = meaning-holds Roots Anything closed closed-roots (λ y d t. tt) (λ y d t. tt) rules-root

entries-one : (x : Production) → is_entry x ≡ true → (gives_one x ≡ true) × HasShape (starts_with x) forest.End
unfolding is_entry gives_one starts_with
entries-one source_file e = (refl, refl)
entries-one macro_items e = (refl, refl)
entries-one macro_statements e = (refl, refl)
entries-one pattern e = (refl, refl)
entries-one any_type e = (refl, refl)
entries-one expression e = (refl, refl)
entries-one meta e = (refl, refl)
entries-one x e = absurd (true≢false (sym e))

-- The three facts of an entry that a document is built on, of which this is the first.
pub entry-rooted : EntriesAreRooted
unfolding entry
entry-rooted x ts e =
    let start : Reading = record { given = forest.End; rest = ts } in
    let s = meaning whole x false start in
    let one = entries-one x e in
    let own : IsRooted s.given = productions-root x false start one.0 one.1 in
    chosen-forest IsRooted (takes_all x) _ _ (λ i. own)
    (λ i. chosen-forest IsRooted (sees false start (look_of whole x)) _ _ (λ j. chosen-forest IsRooted (is_used_up s.rest) _ _ (λ k. own) (λ k. tt)) (λ j. tt))

-- the second
pub entry-fits : EntriesFit
entry-fits x wide edition ls e = rooted-fits wide edition ls (entry_of x wide edition ls) (entry-rooted x (input wide edition ls) e) (entries-in-order x (input wide edition ls))

pub productions-take-in-order : ProductionsTakeInOrder
unfolding tokens_after
productions-take-in-order x in_condition tokens seen =
    let start : Reading = record { given = forest.End; rest = tokens } in
    productions-in-order x in_condition start tokens (if-second (asks_nothing x) (sees in_condition start (look_of whole x)) seen) refl

pub entries-take-all-in-order : EntriesTakeAllInOrder
entries-take-all-in-order = entries-in-order

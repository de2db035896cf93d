-- Tokens that are taken as they stand.
use Rattle.std.proofs.Common.{◌≡◌, ◌≤◌, true, false, List, [], ◌∷◌, length, Option, refl, ap, subst, arith}
use Rattle.std.proofs.lemmas.Bool.{ltb-false, ltb-true}
use Rattle.parser_input.specs.Input.{Token}
use Rattle.parser_input.specs.Kinds.{ERROR}
use Rattle.parser_events.specs.Marked as marks
use Rattle.parser_events.specs.Marked.{Marked, marked}
use Rattle.parser_events.specs.Forest as forest
use Rattle.parser_events.specs.Forest.{Forest, Message, ◌then◌}
use Rattle.parser_events.specs.View.{View}
use Rattle.rust_grammar.specs.Entry.{leaves}
use Rattle.rust_grammar.specs.Meaning.{Reading, ahead, leaf, say, sees}
use Rattle.rust_grammar.specs.Rule.{Left}
use Rattle.rust_productions.specs.Looks.{tokens}
use Rattle.rust_productions.specs.Reads.{Does, Saw}
use Rattle.rust_productions.specs.Stands.{left, Holds}
use Rattle.rust_productions.specs.declared.condition.Condition.TheVariants.{Off}
use Rattle.rust_productions.proofs.ByHand.{does-nothing}
use Rattle.rust_productions.proofs.Forests.{then-end, then-assoc}
use Rattle.ra_parser.specs.Entries.{with_leaves, strayed}

-- Between two tokens: what is taken all in all is known.
pub record Taken (entry now : View) : Type 0 where
  pub moves : Reading → Reading
  pub does : Does moves entry now
  pub same : (s : Reading) → left entry ≡ s.rest → with_leaves (moves s) ≡ with_leaves s

pub none-taken : (v : View) → Taken v v
none-taken v = record { moves = λ s. s; does = does-nothing v; same = λ s e. refl }

more-taken : (s : Reading) (ts : List Token) → s.rest ≡ ts → 1 ≤ length ts → with_leaves (leaf (ahead 0 s.rest).kind 1 s) ≡ with_leaves s
unfolding with_leaves leaf ahead leaves
more-taken s [] e some = absurd (omega (arith, some))
more-taken s (t ∷ ts) e some = rw e (ap (λ (f : Forest). record { given = f; rest = [] }) (then-assoc s.given (forest.Leaf t.kind 1 forest.End) (leaves ts)))

pub token-taken : (s : Reading) → 1 ≤ length s.rest → with_leaves (leaf (ahead 0 s.rest).kind 1 s) ≡ with_leaves s
token-taken s some = more-taken s s.rest refl some

nothing-left : (s : Reading) (ts : List Token) → s.rest ≡ ts → length ts ≤ 0 → with_leaves s ≡ s
unfolding with_leaves leaves
nothing-left s [] e none = rw e (ap (λ (f : Forest). record { given = f; rest = [] }) (then-end s.given))
nothing-left s (t ∷ ts) e none = absurd (omega (arith, none))

pub all-taken : (s : Reading) → length s.rest ≤ 0 → with_leaves s ≡ s
all-taken s none = nothing-left s s.rest refl none

-- whether a token is left
pub some-left : {v : View} → Saw Off Left v true → 1 ≤ tokens v
unfolding sees tokens
some-left {v} saw = ltb-true 0 (length (left v)) (saw.at (record { given = forest.End; rest = left v }) refl)

pub none-left : {v : View} → Saw Off Left v false → tokens v ≤ 0
unfolding sees tokens
none-left {v} saw = ltb-false 0 (length (left v)) (saw.at (record { given = forest.End; rest = left v }) refl)

-- the trees of an error with a message and leaves
pub holds-strayed : (nodes : Option (List Marked)) (m : Message) (s : Reading) → Holds nodes (marks.Node ERROR (marked (with_leaves (say m s)).given) marks.End ∷ []) → Holds nodes (marked (strayed m s) ∷ [])
unfolding strayed with_leaves say marked
holds-strayed nodes m s h =
    subst (λ (f : Forest). Holds nodes (marks.Node ERROR (marked f) marks.End ∷ [])) (then-assoc s.given (forest.Said m forest.End) (leaves s.rest)) h

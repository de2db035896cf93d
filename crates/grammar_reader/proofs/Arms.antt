-- A `let` in an expression, the operators after an operand, and paths that several segments begin.
use Rattle.std.proofs.Common.{◌≡◌, Bool, true, false, Option, Some, List, [], ◌∷◌, refl, sym, ap, subst, ◌∙◌, if◌then◌else◌}
use Rattle.parser_input.specs.Kinds as kinds
use Rattle.parser_events.specs.Forest as forest
use Rattle.parser_events.specs.View.{View}
use Rattle.rust_grammar.specs.Expressions.{after_operand, expressions, let_anywhere, let_expr, long_path_begins}
use Rattle.rust_grammar.specs.Items.{items}
use Rattle.rust_grammar.specs.Meaning.{Reading, ahead, begins_below, look_of, read, sees}
use Rattle.rust_grammar.specs.Notation.{any_of, is_longer, longest, no_longer, one_of, row}
use Rattle.rust_grammar.specs.Paths.{path_begins, paths}
use Rattle.rust_grammar.specs.Patterns.{patterns}
use Rattle.rust_grammar.specs.Rule as rules
use Rattle.rust_grammar.specs.Rule.{Continue, InCondition, Kind, Look, Whole, from_start, begins, in_mode, is_silent, passes, shift, spelled_at, there_at}
use Rattle.rust_grammar.specs.Statements.{statements}
use Rattle.rust_grammar.specs.Types.{types}
use Rattle.rust_grammar.specs.Whole.{rule, whole}
use Rattle.rust_grammar.specs.Words.{'::'}
use Rattle.rust_productions.specs.Layers.{layer_at, layers, operators, operators_at, repeated, turn_at, turns_from}
use Rattle.rust_productions.specs.Reads.{looks, Reads, Saw, is_on}
use Rattle.rust_productions.specs.Stands.{left}
use Rattle.rust_productions.specs.declared.condition.Condition.{Condition}
use Rattle.rust_productions.specs.declared.condition.Condition.TheVariants.{On, Off}
use Rattle.rust_productions.proofs.Begins.{saw-begun-path}
use Rattle.rust_productions.proofs.ByHand.{does-as, does-then}
use Rattle.rust_productions.proofs.Choices.{reads-here}
use Rattle.rust_productions.proofs.Facts.{Answers, Fact, HoldAll, Right, is_told, nothing, tells, ◌and◌}
use Rattle.rust_productions.proofs.Seen.{saw-else}

-- Whether the next token says that the whole language is read.
is-whole : View → Bool
unfolding ahead
is-whole v = (ahead 0 (left v)).whole

saw-whole : {c : Condition} (v : View) → Saw c (Whole 0) v (is-whole v)
unfolding sees is-whole
saw-whole v = record { at = λ s e. ap (λ ts. (ahead 0 ts).whole) (sym e) }

in-condition : {c : Condition} {v : View} → Saw c InCondition v true → c ≡ On
unfolding sees
in-condition {c = On} saw = refl
in-condition {c = Off} {v} saw = absurd (let z : false ≡ true = saw.at (record { given = forest.End; rest = left v }) refl in cc)

-- in condition mode a `let` is read alike by both grammars
as-condition : {old new : View} → Reads On let_anywhere old new → Reads On let_expr old new
unfolding read
as-condition p = record { does = does-as (λ s e. refl) p.does }

-- A `let` is an expression anywhere in the whole language, and in condition mode in the profile.
pub reads-let : {c : Condition} {old new : View} → Saw c (looks rules.atom) old true → ((d : Condition) → Saw d (Kind 0 kinds.LET_KW) old true) → ((d : Condition) → Reads d let_anywhere old new) → Reads c (rule rules.atom) old new
unfolding look_of begins_below whole rule items statements expressions patterns types paths there_at shift passes is_silent begins in_mode from_start row one_of any_of no_longer longest is_longer
reads-let {c} {old} {new} begun is p = which (is-whole old) (saw-whole old)
  where
    which : (w : Bool) → Saw c (Whole 0) old w → Reads c (rule rules.atom) old new
    which true w = reads-here (is c and w and nothing) (p c)
    which false w =
        let inside = in-condition (saw-else InCondition (looks rules.atom) (is c and w and nothing) begun refl) in
        reads-here (is c and w and nothing) (subst (λ (d : Condition). Reads d let_expr old new) (sym inside) (as-condition (p On)))

-- The operators of all layers after an operand, and then the tail of the operation.
pub reads-after-operand : {c : Condition} {old mid new : View} → Reads c (repeated (turns_from 10 1)) old mid → Reads c (Continue rules.operation_tail) mid new → Reads c after_operand old new
unfolding read turns_from turn_at operators_at operators layer_at layers
reads-after-operand p q = record { does = does-as (λ s e. refl) (does-then p.does q.does) }

neither : (a b : Bool) → (if a then true else b) ≡ false → (a ≡ false) × (b ≡ false)
neither true b e = absurd (let z : true ≡ false = e in cc)
neither false b e = (refl, e)

-- no path begins
abbrev no_path : List Fact
no_path = Answers (spelled_at 0 '::') false ∷ Answers (Kind 0 kinds.IDENT) false ∷ Answers (Kind 0 kinds.SELF_KW) false ∷ Answers (Kind 0 kinds.SUPER_KW) false ∷ Answers (Kind 0 kinds.CRATE_KW) false ∷ Answers (Kind 0 kinds.SELF_TYPE_KW) false ∷ []

none-there : (c : Bool) (s : Reading) → sees c s path_begins ≡ false → HoldAll c s no_path
unfolding sees there_at
none-there c s e =
    let a = neither (sees c s (spelled_at 0 '::')) _ e in
    let b = neither (sees c s (Kind 0 kinds.IDENT)) _ a.1 in
    let d = neither (sees c s (Kind 0 kinds.SELF_KW)) _ b.1 in
    let f = neither (sees c s (Kind 0 kinds.SUPER_KW)) _ d.1 in
    let g = neither (sees c s (Kind 0 kinds.CRATE_KW)) _ f.1 in
    (a.0, (b.0, (d.0, (f.0, (g.0, (g.1, tt))))))

told-none : tells no_path long_path_begins ≡ Some false
unfolding any_of one_of row there_at
told-none = refl

-- a path of several segments is one
pub path-there : {c : Condition} {v : View} → Saw c long_path_begins v true → Saw c (looks rules.path) v true
path-there {c} {v} saw = saw-begun-path (record { at = λ s e. one s (sees (is_on c) s path_begins) refl (saw.at s e) })
  where
    one : (s : Reading) (b : Bool) → sees (is_on c) s path_begins ≡ b → sees (is_on c) s long_path_begins ≡ true → sees (is_on c) s path_begins ≡ true
    one s true is there = is
    one s false is there =
        let no : sees (is_on c) s long_path_begins ≡ false = subst (λ (o : Option Bool). Right (is_on c) s long_path_begins o) told-none (is_told (is_on c) s no_path (none-there (is_on c) s is) long_path_begins) in
        absurd (let z : true ≡ false = sym there ∙ no in cc)

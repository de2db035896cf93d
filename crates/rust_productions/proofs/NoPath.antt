-- Where no path begins.
use Rattle.std.proofs.Common.{◌≡◌, ℕ, ◌≤◌, Bool, true, false, List, [], ◌∷◌, length, refl, sym, subst, ◌∙◌, arith, if◌then◌else◌}
use Rattle.std.proofs.lemmas.Bool.{eqb-true}
use Rattle.parser_input.specs.Input.{Token}
use Rattle.parser_input.specs.Kinds.{EOF}
use Rattle.parser_events.specs.Forest as forest
use Rattle.parser_events.specs.Forest.{Message}
use Rattle.parser_events.specs.View.{View}
use Rattle.rust_grammar.specs.Expressions.{expressions}
use Rattle.rust_grammar.specs.Items.{items}
use Rattle.rust_grammar.specs.Meaning.{Reading, ahead, begins_below, look_of, read, say, sees}
use Rattle.rust_grammar.specs.Notation.{any_of, is_longer, leaf_of, no_longer, longest, one_of, row}
use Rattle.rust_grammar.specs.Paths.{paths}
use Rattle.rust_grammar.specs.Patterns.{patterns}
use Rattle.rust_grammar.specs.Rule as rules
use Rattle.rust_grammar.specs.Rule.{Look, Either, Kind, Say, begins, in_mode, from_start, is_silent, passes, shift, spelled_at, there_at}
use Rattle.rust_grammar.specs.Shared.{ref_keywords}
use Rattle.rust_grammar.specs.Statements.{statements}
use Rattle.rust_grammar.specs.Types.{types}
use Rattle.rust_grammar.specs.Whole.{rule, whole}
use Rattle.rust_grammar.specs.Words.{'::', 'ident'}
use Rattle.rust_productions.specs.Looks.{tokens}
use Rattle.rust_productions.specs.Reads.{looks, Closes, Reads, Saw, Condition, is_on}
use Rattle.rust_productions.specs.Stands.{left}
use Rattle.rust_productions.proofs.Begins.{saw-path-begins}

neither-left : {c : Condition} {l m : Look} {v : View} → Saw c (Either l m) v false → Saw c l v false
unfolding sees
neither-left {c} {l} {m} saw = record { at = λ s e. first (sees (is_on c) s l) (sees (is_on c) s m) (saw.at s e) }
  where
    first : (a b : Bool) → (if a then true else b) ≡ false → a ≡ false
    first false b e = refl
    first true b e = e

neither-right : {c : Condition} {l m : Look} {v : View} → Saw c (Either l m) v false → Saw c m v false
unfolding sees
neither-right {c} {l} {m} saw = record { at = λ s e. second (sees (is_on c) s l) (sees (is_on c) s m) (saw.at s e) }
  where
    second : (a b : Bool) → (if a then true else b) ≡ false → b ≡ false
    second false b e = e
    second true b e = absurd (let z : true ≡ false = e in cc)

-- neither `::` is next
pub no-colons : {c : Condition} {v : View} → Saw c (looks rules.path) v false → Saw c (spelled_at 0 '::') v false
no-colons saw = neither-left {m = leaf_of 'ident' ref_keywords} (saw-path-begins saw)

ref-is : leaf_of 'ident' ref_keywords ≡ looks rules.name_ref
unfolding look_of begins_below whole rule items statements expressions patterns types paths there_at shift passes is_silent begins in_mode from_start row one_of any_of no_longer longest is_longer
ref-is = refl

-- nor a name
pub no-ref : {c : Condition} {v : View} → Saw c (looks rules.path) v false → Saw c (looks rules.name_ref) v false
no-ref {c} {v} saw = subst (λ (l : Look). Saw c l v false) ref-is (neither-right {l = spelled_at 0 '::'} (saw-path-begins saw))

-- A message and the end of a node leave what is next.
pub saw-said : {c d : Condition} {b : Bool} {l : Look} {m : Message} {old new : View} → Reads d (Say m) old new → Saw c l old b → Saw c l new b
unfolding read say
saw-said {old} p saw = record { at = λ s e. saw.at s (sym (p.does.rest (record { given = forest.End; rest = left old }) refl) ∙ e) }

pub saw-shut : {c : Condition} {b : Bool} {l : Look} {kind : ℕ} {old new : View} → Closes kind old new → Saw c l old b → Saw c l new b
saw-shut o saw = record { at = λ s e. saw.at s (sym o.rest ∙ e) }

-- Two tokens are left where the kind of the second is not that of the end.
pub two-there : {c : Condition} {k : ℕ} {v : View} → Saw c (Kind 1 k) v true → (k ≡ EOF → ⊥) → 2 ≤ tokens v
unfolding sees tokens ahead
two-there {c} {k} {v} saw other = some (left v) (eqb-true (ahead 1 (left v)).kind k (saw.at (record { given = forest.End; rest = left v }) refl))
  where
    some : (ts : List Token) → (ahead 1 ts).kind ≡ k → 2 ≤ length ts
    some [] e = absurd (other (sym e))
    some (t ∷ []) e = absurd (other (sym e))
    some (t ∷ u ∷ ts) e = omega arith

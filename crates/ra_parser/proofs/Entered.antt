-- What an entry is, case by case.
use Rattle.std.proofs.Common.{◌≡◌, ◌≤◌, ℕ, drop, Bool, true, false, List, [], ◌∷◌, length, Option, Some, None, refl, sym, ap, subst, ◌∙◌, arith}
use Rattle.parser_input.specs.Input.{Token}
use Rattle.parser_events.specs.Forest as forest
use Rattle.parser_events.specs.Forest.{Forest, Message, UnexpectedTokens}
use Rattle.parser_events.specs.Marked as marks
use Rattle.parser_events.specs.Marked.{Marked, marked}
use Rattle.parser_events.specs.Stack.{AreStepsOf}
use Rattle.parser_events.specs.Steps as walk
use Rattle.parser_events.specs.Steps.{Step}
use Rattle.parser_events.proofs.Balance.{walk-marked}
use Rattle.parser_events.specs.View.{View}
use Rattle.rust_grammar.specs.Entry.{is_used_up, takes_all, with_message, entry}
use Rattle.rust_grammar.specs.Meaning.{Reading, after, fresh, look_of, meaning, sees}
use Rattle.rust_grammar.specs.Notation.{wanted}
use Rattle.rust_grammar.specs.Rule.{Production}
use Rattle.rust_grammar.specs.Whole.{whole}
use Rattle.rust_productions.specs.Moves.{Opens}
use Rattle.rust_productions.specs.Reads.{looks, Does, Gives, Saw}
use Rattle.rust_productions.specs.Stands.{left, Holds}
use Rattle.rust_productions.specs.declared.condition.Condition.TheVariants.{Off}
use Rattle.ra_parser.specs.Entries.{single_of, strayed}
use Rattle.ra_parser.specs.declared.entries.Single.{Single}
use Rattle.ra_parser.specs.declared.entries.Single.TheVariants as singles

-- where a reading of all these tokens begins
abbrev pub from : List Token → Reading
from ts = record { given = forest.End; rest = ts }

-- what is read of them
abbrev pub read_from : Production → List Token → Reading
read_from x ts = meaning whole x false (from ts)

pub no-list : (single : Single) → takes_all (single_of single) ≡ false
unfolding takes_all
no-list singles.Expression = refl
no-list singles.Meta = refl
no-list singles.Pattern = refl
no-list singles.Type = refl

pub entry-every : (x : Production) (ts : List Token) → takes_all x ≡ true → entry whole x ts ≡ (read_from x ts).given
unfolding entry
entry-every x ts e = rw e refl

pub entry-missing : (x : Production) (ts : List Token) (m : Message) → takes_all x ≡ false → sees false (from ts) (look_of whole x) ≡ false → wanted x ≡ Some m → entry whole x ts ≡ strayed m (from ts)
unfolding entry with_message strayed
entry-missing x ts m e h says = rw (e, h, says) refl

nothing-left : (ts : List Token) → length ts ≤ 0 → is_used_up ts ≡ true
unfolding is_used_up
nothing-left [] h = refl
nothing-left (t ∷ ts) h = absurd (omega (arith, h))

something-left : (ts : List Token) → 1 ≤ length ts → is_used_up ts ≡ false
unfolding is_used_up
something-left [] h = absurd (omega (arith, h))
something-left (t ∷ ts) h = refl

pub entry-whole : (x : Production) (ts : List Token) → takes_all x ≡ false → sees false (from ts) (look_of whole x) ≡ true → length (read_from x ts).rest ≤ 0 → entry whole x ts ≡ (read_from x ts).given
unfolding entry
entry-whole x ts e h none = rw (e, h, nothing-left (read_from x ts).rest none) refl

pub entry-over : (x : Production) (ts : List Token) → takes_all x ≡ false → sees false (from ts) (look_of whole x) ≡ true → 1 ≤ length (read_from x ts).rest → entry whole x ts ≡ strayed UnexpectedTokens (read_from x ts)
unfolding entry strayed
entry-over x ts e h some = rw (e, h, something-left (read_from x ts).rest some) refl

-- no tree stands in the only open node
pub holds-none : {nodes : Option (List Marked)} → nodes ≡ Some (marks.End ∷ []) → Holds nodes (marked forest.End ∷ [])
unfolding marked
holds-none start = subst (λ (n : Option (List Marked)). Holds n (marks.End ∷ [])) (sym start) refl

-- a list is read by what takes every input
pub list-read : (x : Production) {old new : View} → takes_all x ≡ true → old.nodes ≡ Some (marks.End ∷ []) → Gives x Off old new → Holds new.nodes (marked (entry whole x (left old)) ∷ [])
unfolding after fresh
list-read x {old} {new} every start gives =
    subst (λ (f : Forest). Holds new.nodes (marked f ∷ [])) (sym (entry-every x (left old) every)) (gives.does.nodes (from (left old)) [] refl (holds-none start))

-- A node was opened in the only one, and it was looked where the production begins.
pub record Opened (old now : View) : Type 0 where
  pub rest : left now ≡ left old
  pub trees : Holds now.nodes (marked forest.End ∷ marks.End ∷ [])

pub opened-seen : {old mid now : View} → old.nodes ≡ Some (marks.End ∷ []) → Opens old mid → Does (λ s. s) mid now → Opened old now
unfolding marked
opened-seen {old} start o d = record {
  rest = d.rest (from (left old)) o.rest;
  trees = d.nodes (from (left old)) (marks.End ∷ []) o.rest (o.nodes marks.End [] (holds-none start));
}

-- What is read after that.
pub record ReadOf (x : Production) (ts : List Token) (now : View) : Type 0 where
  pub rest : left now ≡ (read_from x ts).rest
  pub trees : Holds now.nodes (marked (read_from x ts).given ∷ marks.End ∷ [])

pub single-read : {x : Production} {old mid end now : View} → Opened old mid → Gives x Off mid end → Does (λ s. s) end now → ReadOf x (left old) now
unfolding after fresh
single-read {x} {old} o g d =
    let s = from (left old) in
    record {
      rest = d.rest (read_from x (left old)) (g.does.rest s o.rest);
      trees = d.nodes (read_from x (left old)) (marks.End ∷ []) (g.does.rest s o.rest) (g.does.nodes s (marks.End ∷ []) o.rest o.trees);
    }

-- what was seen there
pub seen-from : (x : Production) (old : View) {now : View} {b : Bool} → left now ≡ left old → Saw Off (looks x) now b → sees false (from (left old)) (look_of whole x) ≡ b
seen-from x old e saw = saw.at (from (left old)) e

-- the steps of all trees
pub parsed-steps : (nodes : Option (List Marked)) (f : Forest) (steps : List Step) → Holds nodes (marked f ∷ []) → AreStepsOf nodes steps → steps ≡ walk.steps f
parsed-steps nodes f steps h are = are.walked ∙ ap marks.walk (at nodes h are.trees are.left) ∙ walk-marked f
  where
    at : (o : Option (List Marked)) → Holds o (marked f ∷ []) → (trees : Marked) → o ≡ Some (trees ∷ []) → trees ≡ marked f
    at None h trees e = absurd (let z : None ≡ Some (trees ∷ []) = e in cc)
    at (Some ns) h trees e = let same : Some (trees ∷ []) ≡ Some (marked f ∷ []) = sym e ∙ ap (λ (ms : List Marked). Some ms) h in cc

-- the steps of an input that was read from its front; a look after that changes no tree
pub read-steps :
    (x : Production) (tokens : List Token) (start end last : View) (steps : List Step) → start.position ≡ 0 → start.input ≡ tokens
    → Holds end.nodes (marked (entry whole x (left start)) ∷ []) → end.nodes ≡ last.nodes → AreStepsOf last.nodes steps
    → steps ≡ walk.steps (entry whole x tokens)
read-steps x tokens start end last steps front same tree kept are =
    let all : left start ≡ tokens = ap (λ (n : ℕ). drop n start.input) front ∙ same in
    parsed-steps last.nodes (entry whole x (left start)) steps (subst (λ (n : Option (List Marked)). Holds n (marked (entry whole x (left start)) ∷ [])) kept tree) are
    ∙ ap (λ (ts : List Token). walk.steps (entry whole x ts)) all

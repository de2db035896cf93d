-- The first production in a node that is abandoned later, and floats that are split.
use Rattle.std.proofs.Common.{◌≡◌, ℕ, suc, ◌+◌, Bool, true, false, not, List, [], ◌∷◌, drop, Option, Some, None, IfSome, refl, sym, ap, subst, ◌∙◌, arith}
use Rattle.std.proofs.lemmas.Bool.{eqb-true}
use Rattle.std.proofs.lemmas.List.{drop-drop}
use Rattle.parser_input.specs.Input.{Token}
use Rattle.parser_input.specs.Kinds.{FIELD_EXPR, FLOAT_NUMBER}
use Rattle.parser_input.specs.Recorded.{token_at}
use Rattle.parser_events.specs.Forest as forest
use Rattle.parser_events.specs.Forest.{Forest}
use Rattle.parser_events.specs.Marked as marks
use Rattle.parser_events.specs.Marked.{Marked, End, marked}
use Rattle.parser_events.specs.Stack as stack
use Rattle.parser_events.specs.Stack.{Becomes, IsInnermost}
use Rattle.parser_events.specs.View.{View}
use Rattle.rust_grammar.specs.Rule.{Production, Rule, Call, Joint, Kind, Split, Then}
use Rattle.rust_grammar.specs.Laws.{reads}
use Rattle.rust_grammar.specs.Meaning.{Reading, after, ahead, fresh, read, sees, split}
use Rattle.rust_grammar.specs.Whole.{rule}
use Rattle.rust_grammar.proofs.WholeTable.{whole-means}
use Rattle.rust_productions.specs.Reads.{FromStart, Completes, Opens, Reads, Saw, is_on}
use Rattle.rust_productions.specs.Stands.{left, Holds}
use Rattle.rust_productions.specs.declared.condition.Condition.{Condition}
use Rattle.rust_productions.specs.declared.condition.Condition.TheVariants.{On}
use Rattle.rust_productions.proofs.ByHand.{does-as}
use Rattle.rust_productions.proofs.Choices.{from_start-completes}
use Rattle.rust_productions.proofs.Looking.{kind-ahead}
use Rattle.rust_productions.proofs.Moves.{becomes, around-closed}

-- The first production may be read in a node that is abandoned later: nothing was given in that node.
pub from_start-first : {x : Production} {b : Rule} {c : Condition} {old mid new : View} → Opens old mid → Completes c (Then (rule x) b) mid new → FromStart c (Then (Call x) b) old new
unfolding read fresh after
from_start-first {x} {b} {c} {old} {mid} {new} o q =
    let first : FromStart c (Then (rule x) b) old new = from_start-completes o q in
    record { does = does-as (λ s e. ap (λ (t : Reading). after s (reads (is_on c) b t)) (sym (whole-means x (is_on c) (fresh s)))) first.does }

seen-joint : {b : Bool} {v : View} (s : Reading) → ((c : Condition) → Saw c (Joint 0) v b) → left v ≡ s.rest → b ≡ (ahead 0 s.rest).joint
unfolding sees
seen-joint s saw e = sym ((saw On).at s e)

ends-in-dot : (f : Forest) (nodes : List Marked) (v : View) → Holds v.nodes (marks.Split true (marked f) End ∷ nodes) → Holds v.nodes (marked (forest.Float true f forest.End) ∷ nodes)
unfolding marked
ends-in-dot f nodes v h = h

-- a float that ends in a dot
pub does-split :
    {old new : View} (b : Bool) → ((c : Condition) → Saw c (Joint 0) old b) → b ≡ false
    → Becomes (stack.split (not b)) old.nodes new.nodes → new ≡ record old { position = old.position + 1; nodes = new.nodes }
    → ((n : ℕ) → IsInnermost n old.nodes → IsInnermost n new.nodes) → (c : Condition) → Reads c Split old new
unfolding read split
does-split {old} {new} b saw f n same stays c = record {
  does = record {
    input = ap (λ (v : View). v.input) same;
    rest = λ s e. ap left same ∙ sym (drop-drop 1 old.position old.input) ∙ ap (λ (ts : List Token). drop 1 ts) e;
    nodes = λ s below e h.
        subst (λ (j : Bool). Holds new.nodes (marked (forest.Float (not j) s.given forest.End) ∷ below)) (seen-joint s saw e)
        (subst (λ (j : Bool). Holds new.nodes (marks.Split (not j) (marked s.given) End ∷ below) → Holds new.nodes (marked (forest.Float (not j) s.given forest.End) ∷ below)) (sym f) (λ u. ends-in-dot s.given below new u)
        (becomes (stack.split (not b)) old.nodes new.nodes (marked s.given ∷ below) n h));
    innermost = stays;
  };
}

in-access : (f : Forest) (nodes : List Marked) (v : View) → Holds v.nodes (marks.Node FIELD_EXPR (marks.Split false (marked f) End) End ∷ nodes) → Holds v.nodes (marked (forest.Float false f forest.End) ∷ nodes)
unfolding marked
in-access f nodes v h = h

-- one that does not stands in a field access
pub does-access :
    {old mid end new : View} (b : Bool) (around : ℕ) (place : stack.Place) → ((c : Condition) → Saw c (Joint 0) old b) → b ≡ true
    → Becomes (stack.split (not b)) old.nodes mid.nodes → mid ≡ record old { position = old.position + 1; nodes = mid.nodes }
    → IsInnermost around mid.nodes → Becomes (stack.closed FIELD_EXPR) mid.nodes end.nodes → end ≡ record mid { nodes = end.nodes } → IfSome mid.nodes (λ nodes. place ≡ stack.place_of nodes)
    → Becomes (stack.wrapped place.before) end.nodes new.nodes → new ≡ record end { nodes = new.nodes }
    → ((n : ℕ) → IsInnermost n old.nodes → IsInnermost n new.nodes) → (c : Condition) → Reads c Split old new
unfolding read split
does-access {old} {mid} {end} {new} b around place saw f n same i closed same2 is w same3 stays c = record {
  does = record {
    input = ap (λ (v : View). v.input) same3 ∙ ap (λ (v : View). v.input) same2 ∙ ap (λ (v : View). v.input) same;
    rest = λ s e. ap left same3 ∙ ap left same2 ∙ ap left same ∙ sym (drop-drop 1 old.position old.input) ∙ ap (λ (ts : List Token). drop 1 ts) e;
    nodes = λ s below e h.
        subst (λ (j : Bool). Holds new.nodes (marked (forest.Float (not j) s.given forest.End) ∷ below)) (seen-joint s saw e)
        (subst (λ (j : Bool). Holds new.nodes (marks.Node FIELD_EXPR (marks.Split (not j) (marked s.given) End) End ∷ below) → Holds new.nodes (marked (forest.Float (not j) s.given forest.End) ∷ below)) (sym f) (λ u. in-access s.given below new u)
        (around-closed FIELD_EXPR around place mid.nodes end.nodes new.nodes i closed is w (marks.Split (not b) (marked s.given) End) below
        (becomes (stack.split (not b)) old.nodes mid.nodes (marked s.given ∷ below) n h)));
    innermost = stays;
  };
}

pub split-innermost : (b : Bool) (around : ℕ) (old new : Option (List Marked)) → IsInnermost around old → Becomes (stack.split b) old new → IsInnermost around new
split-innermost b around None None i n = tt
split-innermost b around None (Some new) i n = absurd n
split-innermost b around (Some old) None i n = tt
split-innermost b around (Some []) (Some new) i n = absurd (let z : 0 ≡ suc around = i in cc)
split-innermost b around (Some (f ∷ below)) (Some new) i n = ap stack.level n ∙ i

-- the float that was seen is the parser's next token
pub float-next : {v : View} → ((c : Condition) → Saw c (Kind 0 FLOAT_NUMBER) v true) → (token_at v.input v.position).kind ≡ FLOAT_NUMBER
unfolding sees
float-next {v} saw =
    let here : Reading = record { given = forest.End; rest = left v } in
    let same : v.position ≡ v.position + 0 = omega arith in
    ap (λ (n : ℕ). (token_at v.input n).kind) same ∙ kind-ahead v 0 ∙ eqb-true (ahead 0 (left v)).kind FLOAT_NUMBER ((saw On).at here refl)

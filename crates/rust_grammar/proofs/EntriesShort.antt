-- The dressed tree of an entry has few steps for each leaf of its text.
use Rattle.std.proofs.Common.{◌≡◌, ℕ, ◌+◌, ◌*◌, ◌≤◌, Bool, true, false, not, ◌&&◌, ◌||◌, ◌==◌, List, [], ◌∷◌, length, drop, Some, refl, sym, ap, subst, ◌∙◌, arith, inl, inr, true≢false}
use Rattle.std.proofs.lemmas.Bool.{leb-true, or_cases, eqb-true}
use Rattle.std.proofs.lemmas.List.{length-drop}
use Rattle.parser_input.specs.Kinds.{ERROR}
use Rattle.parser_input.specs.Input.{Token, input}
use Rattle.parser_input.specs.Leaf.{Leaf}
use Rattle.parser_input.specs.declared.edition.Edition.{Edition}
use Rattle.parser_events.specs.Dress.{dress_root}
use Rattle.parser_events.specs.Forest as forest
use Rattle.parser_events.specs.Forest.{Forest, UnexpectedTokens, ◌then◌}
use Rattle.parser_events.specs.TextSteps.{text_steps}
use Rattle.rust_grammar.specs.Rule.{Spelling, Production}
use Rattle.rust_grammar.specs.Meaning.{Reading, Calls, read, meaning, sees, look_of, leaf}
use Rattle.rust_grammar.specs.Entry.{leaves, is_used_up, takes_all, entry}
use Rattle.rust_grammar.specs.Notation.{wanted}
use Rattle.rust_grammar.specs.Laws.{is_entry, entry_of}
use Rattle.rust_grammar.specs.Spelled.{marks, are_next, is_token, is_contextual, is_contextual_word, has_contextual, is_one_of, is_spelled, is_float, drop_if, then_after, tokens_after}
use Rattle.rust_grammar.specs.Whole.{rule, whole}
use Rattle.rust_grammar.proofs.Plain.{and_l, and_r}
use Rattle.rust_grammar.proofs.Fine.{takes}
use Rattle.rust_grammar.proofs.WholeTable.{claim}
use Rattle.rust_grammar.proofs.Covering.{no_float, are_plain, marks-plain, after-some, dropped}
use Rattle.rust_grammar.proofs.Costs.{leaf_count, step_count, leaves-then, steps-then, idle, debt, is_paid, Costs, IsPriced, weaker, one-leaf, costs}
use Rattle.rust_grammar.proofs.CostsTable.{idle_most, debt_most, prices, is_priced, all_priced}
use Rattle.rust_grammar.proofs.EntriesInOrder.{chosen-forest, with-message, entries-in-order}
use Rattle.rust_grammar.proofs.EntriesFit.{entry-rooted, entry-fits}
use Rattle.rust_grammar.proofs.Lengths.{dressed-most, input-most}
use Rattle.rust_grammar.proofs.Induction.{HoldOf, meaning-holds}

-- the test, taken apart
record Priced (x : Production) : Type 0 where
  pub paid : is_paid prices (rule x) ≡ true
  pub idle_within : idle prices (rule x) ≤ idle_most x
  pub debt_within : debt prices (rule x) ≤ debt_most x
  pub sure : takes claim (rule x) ≡ false → claim x ≡ false
  pub some : 1 ≤ debt_most x
  pub one_pays : debt_most x ≤ 64
  pub idle_few : idle_most x ≤ 64

unclaimed : (a b : Bool) → (not a || b) ≡ true → b ≡ false → a ≡ false
unclaimed true b e f = sym e ∙ f
unclaimed false b e f = refl

priced : (x : Production) → Priced x
unfolding is_priced
priced x =
    let e6 = all_priced x in
    let e5 = and_l _ _ e6 in
    let e4 = and_l _ _ e5 in
    let e3 = and_l _ _ e4 in
    let e2 = and_l _ _ e3 in
    let e1 = and_l _ _ e2 in
    record {
      paid = and_l _ _ e1;
      idle_within = leb-true _ _ (and_r _ _ e1);
      debt_within = leb-true _ _ (and_r _ _ e2);
      sure = unclaimed (claim x) (takes claim (rule x)) (and_r _ _ e3);
      some = leb-true _ _ (and_r _ _ e4);
      one_pays = leb-true _ _ (and_r _ _ e5);
      idle_few = leb-true _ _ (and_r _ _ e6);
    }

abbrev Cost : Production → Bool → Reading → Reading → Type 0
Cost y d t u = Costs (idle_most y) (debt_most y) (claim y) t u

abbrev Anything : Production → Bool → Reading → Reading → Type 0
Anything y d t u = Unit {0}

-- What is taken for calls that are not made: a leaf.
unfoldable lone : Calls
lone y d t = leaf ERROR 1 t

lone-costs : HoldOf Cost lone
unfolding lone leaf
lone-costs y d t =
    let l = forest.Leaf ERROR 1 forest.End in
    let steps = steps-then t.given l in
    let most = (priced y).some in
    one-leaf (idle_most y) (debt_most y) (claim y) t _ (leaves-then t.given l) (omega (arith, steps, most))

as-claimed : (call : Calls) → HoldOf Cost call → IsPriced prices call
unfolding prices
as-claimed call p = p

rules-cost : (call : Calls) → HoldOf Cost call → HoldOf Anything call → (x : Production) (c : Bool) (s : Reading) → Cost x c s (read (look_of whole) call c (rule x) s)
unfolding prices
rules-cost call p q x c s =
    let own = priced x in
    weaker (idle prices (rule x)) (debt prices (rule x)) (idle_most x) (debt_most x) (takes claim (rule x)) (claim x) s _ own.idle_within own.debt_within own.sure
    (costs prices call (as-claimed call p) (rule x) c s own.paid)

productions-cost : HoldOf Cost (meaning whole)
productions-cost = meaning-holds Cost Anything lone lone-costs (λ y d t. tt) (λ y d t. tt) rules-cost

-- the steps of a production that starts with an empty forest
read-short : (x : Production) (c : Bool) (ts : List Token) → let s = meaning whole x c (record { given = forest.End; rest = ts }) in step_count s.given ≤ 64 * leaf_count s.given + 64
read-short x c ts = elim (productions-cost x c (record { given = forest.End; rest = ts })) [
  | inl h ↦ let most = (priced x).idle_few in omega (arith, h.few, h.leaves, most)
  | inr h ↦ let most = (priced x).one_pays in omega (arith, h.few, h.leaves, most)
]

leaves-short : (ts : List Token) → step_count (leaves ts) ≡ leaf_count (leaves ts)
unfolding leaves
leaves-short [] = refl
leaves-short (t ∷ ts) = omega (arith, leaves-short ts)

entry-steps : (x : Production) (ts : List Token) → step_count (entry whole x ts) ≤ 64 * leaf_count (entry whole x ts) + 67
unfolding entry
entry-steps x ts =
    let start : Reading = record { given = forest.End; rest = ts } in
    let s = meaning whole x false start in
    let own = read-short x false ts in
    chosen-forest (λ (f : Forest). step_count f ≤ 64 * leaf_count f + 67) (takes_all x) _ _ (λ i. omega (arith, own))
    (λ i. chosen-forest (λ (f : Forest). step_count f ≤ 64 * leaf_count f + 67) (sees false start (look_of whole x)) _ _
    (λ j. chosen-forest (λ (f : Forest). step_count f ≤ 64 * leaf_count f + 67) (is_used_up s.rest) _ _ (λ k. omega (arith, own))
    (λ k.
    let steps = steps-then s.given (forest.Said UnexpectedTokens (leaves s.rest)) in
    let count = leaves-then s.given (forest.Said UnexpectedTokens (leaves s.rest)) in
    let rest = leaves-short s.rest in
    omega (arith, own, steps, count, rest)))
    (λ j. let all = leaves-short ts in
    with-message (λ (f : Forest). step_count (forest.Node ERROR f forest.End) ≤ 64 * leaf_count (forest.Node ERROR f forest.End) + 67) (wanted x) (leaves ts)
    (omega (arith, all)) (λ m. omega (arith, all))))

-- Each leaf takes a token.
row-takes : (ks : List ℕ) (ts : List Token) → not (length ks == 0) ≡ true → are_next ks ts ≡ true → length (drop (length ks) ts) + 1 ≤ length ts
unfolding are_next
row-takes [] ts some e = absurd (true≢false (sym some))
row-takes (k ∷ ks) [] some e = absurd (true≢false (sym e))
row-takes (k ∷ ks) (t ∷ ts) some e = omega (arith, length-drop (length ks) ts)

mark-takes : (rs : List Spelling) (kind count : ℕ) (ts : List Token) → are_plain rs ≡ true → is_one_of rs kind count ts ≡ true → length (drop count ts) + 1 ≤ length ts
unfolding are_plain is_one_of
mark-takes [] kind count ts plain e = absurd (true≢false (sym e))
mark-takes (x ∷ rs) kind count ts plain e =
    let mine = and_l (not (length x.parts == 0) && no_float x.parts) (are_plain rs) plain in
    elim (or_cases ((x.kind == kind) && (length x.parts == count) && (has_contextual x.contextual ts && are_next x.parts ts)) (is_one_of rs kind count ts) e) [
      | inl i ↦
          let same : length x.parts ≡ count = eqb-true (length x.parts) count (and_r (x.kind == kind) (length x.parts == count) (and_l _ _ i)) in
          subst (λ (n : ℕ). length (drop n ts) + 1 ≤ length ts) same (row-takes x.parts ts (and_l (not (length x.parts == 0)) (no_float x.parts) mine) (and_r (has_contextual x.contextual ts) _ (and_r _ _ i)))
      | inr i ↦ mark-takes rs kind count ts (and_r (not (length x.parts == 0) && no_float x.parts) (are_plain rs) plain) i
    ]

token-takes : (kind : ℕ) (ts : List Token) → (is_token kind ts || is_contextual_word kind ts) ≡ true → length (drop 1 ts) + 1 ≤ length ts
unfolding is_token is_contextual is_contextual_word
token-takes kind [] e = absurd (true≢false (sym e))
token-takes kind (t ∷ ts) e = omega arith

leaf-takes : (kind count : ℕ) (ts : List Token) → is_spelled kind count ts ≡ true → length (drop count ts) + 1 ≤ length ts
unfolding is_spelled
leaf-takes kind count ts e = elim (or_cases ((count == 1) && (is_token kind ts || is_contextual_word kind ts)) (is_one_of marks kind count ts) e) [
  | inl i ↦ subst (λ (n : ℕ). length (drop n ts) + 1 ≤ length ts) (sym (eqb-true count 1 (and_l _ _ i))) (token-takes kind ts (and_r _ _ i))
  | inr i ↦ mark-takes marks kind count ts marks-plain i
]

own-takes : (kind : ℕ) (ts : List Token) → is_token kind ts ≡ true → length (drop 1 ts) + 1 ≤ length ts
unfolding is_token
own-takes kind [] e = absurd (true≢false (sym e))
own-takes kind (t ∷ ts) e = omega arith

float-takes : (b : Bool) (ts : List Token) → is_float b ts ≡ true → length (drop 1 ts) + 1 ≤ length ts
unfolding is_float
float-takes b [] e = absurd (true≢false (sym e))
float-takes b (t ∷ ts) e = omega arith

pub leaves-take : (f : Forest) (ts us : List Token) → tokens_after f ts ≡ Some us → leaf_count f + length us ≤ length ts
unfolding tokens_after
leaves-take forest.End ts us e = let same : ts ≡ us = cc in omega (arith, ap (λ (vs : List Token). length vs) same)
leaves-take (forest.Leaf k n f) ts us e =
    let first = after-some (drop_if (is_spelled k n ts) n ts) (tokens_after f) us e in
    let taken = dropped (is_spelled k n ts) n ts first.0 first.1.0 in
    let more = leaves-take f first.0 us first.1.1 in
    let count = leaf-takes k n ts taken.0 in
    omega (arith, more, count, ap (λ (vs : List Token). length vs) taken.1)
leaves-take (forest.Said m f) ts us e = leaves-take f ts us e
leaves-take (forest.ErrorLeaf m k f) ts us e =
    let first = after-some (drop_if (is_token k ts) 1 ts) (tokens_after f) us e in
    let taken = dropped (is_token k ts) 1 ts first.0 first.1.0 in
    let more = leaves-take f first.0 us first.1.1 in
    let count = own-takes k ts taken.0 in
    omega (arith, more, count, ap (λ (vs : List Token). length vs) taken.1)
leaves-take (forest.Node k c f) ts us e =
    let first = after-some (tokens_after c ts) (tokens_after f) us e in
    let inside = leaves-take c ts first.0 first.1.0 in
    let more = leaves-take f first.0 us first.1.1 in
    omega (arith, inside, more)
leaves-take (forest.Float b c f) ts us e =
    let first = after-some (tokens_after c ts) (λ vs. then_after (drop_if (is_float b vs) 1 vs) (tokens_after f)) us e in
    let second = after-some (drop_if (is_float b first.0) 1 first.0) (tokens_after f) us first.1.1 in
    let taken = dropped (is_float b first.0) 1 first.0 second.0 second.1.0 in
    let inside = leaves-take c ts first.0 first.1.0 in
    let more = leaves-take f second.0 us second.1.1 in
    let count = float-takes b first.0 taken.0 in
    omega (arith, inside, more, count, ap (λ (vs : List Token). length vs) taken.1)

-- The third fact of an entry that a document is built on: its dressed tree has at most 65 steps for each leaf, and 67.
pub entry-short : (x : Production) (wide : Bool) (edition : Edition) (ls : List Leaf) → is_entry x ≡ true → length (text_steps (dress_root (entry_of x wide edition ls) ls)) ≤ 65 * length ls + 67
entry-short x wide edition ls e =
    let f = entry_of x wide edition ls in
    let dressed = dressed-most f ls (entry-rooted x (input wide edition ls) e) (entry-fits x wide edition ls e) in
    let few = entry-steps x (input wide edition ls) in
    let taken = leaves-take f (input wide edition ls) [] (entries-in-order x (input wide edition ls)) in
    let most = input-most wide edition ls in
    omega (arith, dressed, few, taken, most)

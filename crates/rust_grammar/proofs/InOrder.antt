-- What a production of the whole grammar gives stands over the tokens that it takes, in order, as it is spelled.
use Rattle.std.proofs.Common.{◌≡◌, suc, Bool, true, false, ◌==◌, List, [], ◌∷◌, length, drop, nat_lt, Some, None, refl, sym, ◌∙◌, if◌then◌else◌, true≢false, arith}
use Rattle.std.proofs.lemmas.Bool.{lt-ltb}
use Rattle.parser_input.specs.Kinds.{ERROR, IDENT}
use Rattle.parser_input.specs.Input.{Token}
use Rattle.parser_events.specs.Forest as forest
use Rattle.parser_events.specs.Forest.{Forest, ◌then◌}
use Rattle.rust_grammar.specs.Rule.{Production, path, expr_path, visibility, attribute, Always, there_at}
use Rattle.rust_grammar.specs.Meaning.{Reading, Calls, read, meaning, sees, ahead, look_of, is_end, leaf, node, wrapped}
use Rattle.rust_grammar.specs.Entry.{leaves}
use Rattle.rust_grammar.specs.Spelled.{drop_if, then_after, tokens_after}
use Rattle.rust_grammar.specs.Items.{items}
use Rattle.rust_grammar.specs.Whole.{rule, whole}
use Rattle.rust_grammar.specs.Begun.{asks_nothing, IsBegun}
use Rattle.rust_grammar.proofs.Known.{both-if-l, both-if-r}
use Rattle.rust_grammar.proofs.Spelling.{Sound, IsInOrder, more-in-order}
use Rattle.rust_grammar.proofs.Spelled.{chosen, in-order, any-there, then-some}
use Rattle.rust_grammar.proofs.SpelledTable.{claims, gives_something, is_one_word, ends_before, known, all_safe}
use Rattle.rust_grammar.proofs.WordPaths.{word-path, path-ends}
use Rattle.rust_grammar.proofs.Induction.{HoldOf, meaning-holds}

record Ordered (y : Production) (d : Bool) (t u : Reading) : Type 0 where
  pub in_order : (ts : List Token) → IsBegun y d t → IsInOrder ts t → IsInOrder ts u
  pub gives_some : gives_something y ≡ true → is_end u.given ≡ false

record Bounded (y : Production) (d : Bool) (t u : Reading) : Type 0 where
  pub takes_one : sees d t (is_one_word y) ≡ true → u.rest ≡ drop 1 t.rest
  pub ends_so : (v : Forest) → sees d (record { given = v; rest = u.rest }) (ends_before y) ≡ true

-- What is taken for calls that are not made: one token, or all of them, in a node with all that was given.
unfoldable one_taken : Reading → Reading
one_taken t = if nat_lt 0 (length t.rest) then wrapped ERROR (leaf (ahead 0 t.rest).kind 1 t) else wrapped ERROR t

unfoldable all_taken : Reading → Reading
all_taken t = record { given = forest.Node ERROR (t.given then leaves t.rest) forest.End; rest = [] }

unfoldable other : Calls
other path d t = all_taken t
other y d t = one_taken t

some-left : (t : Token) (ts : List Token) → nat_lt 0 (length (t ∷ ts)) ≡ true
some-left t ts = lt-ltb 0 (suc (length ts)) (omega arith)

-- tokens as they stand
pub leaves-in-order : (ts : List Token) → tokens_after (leaves ts) ts ≡ Some []
unfolding tokens_after leaves then_after drop_if ahead
leaves-in-order [] = refl
leaves-in-order (t ∷ ts) = rw (any-there (t ∷ ts) (some-left t ts)) (leaves-in-order ts)

one-in-order : (t : Reading) (ts : List Token) → IsInOrder ts t → IsInOrder ts (one_taken t)
unfolding one_taken wrapped leaf tokens_after then_after drop_if
one-in-order t ts i =
    chosen (IsInOrder ts) (nat_lt 0 (length t.rest)) _ _
    (λ e. rw (more-in-order t (forest.Leaf (ahead 0 t.rest).kind 1 forest.End) ts (drop 1 t.rest) i (rw (any-there t.rest e) refl)) refl)
    (λ e. rw i refl)

all-in-order : (t : Reading) (ts : List Token) → IsInOrder ts t → IsInOrder ts (all_taken t)
unfolding all_taken tokens_after then_after
all-in-order t ts i = rw (more-in-order t (leaves t.rest) ts [] i (leaves-in-order t.rest)) refl

one-gives : (t : Reading) → is_end (one_taken t).given ≡ false
unfolding one_taken wrapped is_end
one-gives t = chosen (λ (u : Reading). is_end u.given ≡ false) (nat_lt 0 (length t.rest)) _ _ (λ e. refl) (λ e. refl)

one-rest : (t : Reading) → (one_taken t).rest ≡ drop 1 t.rest
unfolding one_taken wrapped leaf
one-rest t = chosen (λ (u : Reading). u.rest ≡ drop 1 t.rest) (nat_lt 0 (length t.rest)) _ _ (λ e. refl) (λ e. none t.rest e)
  where
    none : (ts : List Token) → nat_lt 0 (length ts) ≡ false → ts ≡ drop 1 ts
    none [] e = refl
    none (u ∷ ts) e = absurd (true≢false (sym (some-left u ts) ∙ e))

other-ordered : HoldOf Ordered other
unfolding other gives_something
other-ordered path d t = record { in_order = λ ts b i. all-in-order t ts i; gives_some = λ e. absurd (true≢false (sym e)) }
other-ordered y d t = record { in_order = λ ts b i. one-in-order t ts i; gives_some = λ e. one-gives t }

other-bounded : HoldOf Bounded other
unfolding other is_one_word ends_before all_taken sees there_at ahead
other-bounded path d t = record { takes_one = λ e. absurd (true≢false (sym e)); ends_so = λ v. refl }
other-bounded y d t = record { takes_one = λ e. one-rest t; ends_so = λ v. refl }

plain-bounded : HoldOf Bounded (meaning whole)
unfolding is_one_word ends_before sees
plain-bounded path d t = record { takes_one = λ e. absurd (true≢false (sym e)); ends_so = λ v. path-ends d t v }
plain-bounded expr_path d t = record {
  takes_one = λ e. word-path d t (both-if-l ((ahead 0 t.rest).kind == IDENT) _ e) (both-if-r ((ahead 0 t.rest).kind == IDENT) _ e);
  ends_so = λ v. refl;
}
plain-bounded y d t = record { takes_one = λ e. absurd (true≢false (sym e)); ends_so = λ v. refl }

sound : (call : Calls) → HoldOf Ordered call → HoldOf Bounded call → Sound claims call
unfolding claims
sound call p e = record {
  in_order = λ y d t ts b i. (p y d t).in_order ts b i;
  gives_some = λ y d t h. (p y d t).gives_some h;
  takes_one = λ y d t h. (e y d t).takes_one h;
  ends_so = λ y d t v. (e y d t).ends_so v;
}

pub known-there : (x : Production) (c : Bool) (s : Reading) → IsBegun x c s → sees c s (known x) ≡ true
unfolding known sees
known-there x c s b = of (asks_nothing x) b
  where
    of : (a : Bool) → (if a then true else sees c s (look_of whole x)) ≡ true → sees c s (if a then Always else look_of whole x) ≡ true
    of true b = refl
    of false b = b

-- a visibility, and an attribute, is a node
gives-node : (call : Calls) (x : Production) (c : Bool) (s : Reading) → gives_something x ≡ true → is_end (read (look_of whole) call c (rule x) s).given ≡ false
unfolding gives_something rule items read node is_end
gives-node call visibility c s e = then-some s.given _ refl
gives-node call attribute c s e = then-some s.given _ refl
gives-node call x c s e = absurd (true≢false (sym e))

rules-ordered : (call : Calls) → HoldOf Ordered call → HoldOf Bounded call → (x : Production) (c : Bool) (s : Reading) → Ordered x c s (read (look_of whole) call c (rule x) s)
unfolding claims
rules-ordered call p e x c s = record {
  in_order = λ ts b i. in-order claims call (sound call p e) (rule x) None (known x) c s ts (all_safe x) tt (known-there x c s b) i;
  gives_some = λ h. gives-node call x c s h;
}

productions-ordered : HoldOf Ordered (meaning whole)
productions-ordered = meaning-holds Ordered Bounded other other-ordered other-bounded plain-bounded rules-ordered

-- the claims hold of what the productions mean
pub productions-sound : Sound claims (meaning whole)
productions-sound = sound (meaning whole) productions-ordered plain-bounded

-- THE law of productions.
pub productions-in-order : (x : Production) (c : Bool) (s : Reading) (ts : List Token) → IsBegun x c s → IsInOrder ts s → IsInOrder ts (meaning whole x c s)
productions-in-order x c s ts b i = (productions-ordered x c s).in_order ts b i

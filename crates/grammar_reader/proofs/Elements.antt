-- The turns of lists.
use Rattle.std.proofs.Common.{◌≡◌, ℕ, ◌+◌, ◌<◌, ◌≤◌, nat_lt, Bool, true, false, not, length, refl, sym, ap, subst, ◌∙◌, arith, inl, inr, if◌then◌else◌}
use Rattle.std.proofs.lemmas.Bool.{cases_lt}
use Rattle.parser_events.specs.View.{View}
use Rattle.parser_input.specs.Kinds.{COMMA}
use Rattle.parser_events.specs.Forest.{Expected, UnexpectedIn}
use Rattle.rust_grammar.specs.Notation.{◌or◌, ◌▸◌, next, one_of, stops, until}
use Rattle.rust_grammar.specs.Rule.{Rule, Look, Then, Both, Either, Left, Never, Not, Nothing, One, Say, Skip, When, begins, is_silent, passes}
use Rattle.rust_grammar.specs.Meaning.{sees}
use Rattle.rust_grammar.specs.Notation.{one_of}
use Rattle.rust_grammar.specs.Rule.{begins, is_silent, passes}
use Rattle.rust_grammar.specs.Words.{one, 'comma'}
use Rattle.grammar_reader.specs.Told.{element_of, list_turn, looks_before, looks_in}
use Rattle.grammar_reader.specs.declared.grammar.lists.Element.{Element}
use Rattle.grammar_reader.specs.declared.grammar.lists.Element.TheVariants as elements
use Rattle.rust_productions.specs.Looks.{tokens, spent}
use Rattle.rust_productions.specs.Reads.{looks, Reads, Saw, is_on}
use Rattle.rust_productions.specs.declared.condition.Condition.{Condition}
use Rattle.rust_productions.specs.declared.condition.Condition.TheVariants.{Off}
use Rattle.rust_productions.proofs.ByHand.{reads-else, reads-or, reads-then, reads-unless, reads-when}
use Rattle.rust_productions.proofs.Seen.{saw-both, saw-either-left, saw-either-right, saw-no-left}
use Rattle.rust_productions.proofs.Turns.{EndsAtEnd}

pub saw-denied : {c : Condition} {b : Bool} {l : Look} {v : View} → Saw c l v b → Saw c (Not l) v (not b)
unfolding sees
saw-denied saw = record { at = λ s e. ap not (saw.at s e) }

pub saw-never : {c : Condition} {b : Bool} {l : Look} {v : View} → Saw c l v b → Saw c (Either l Never) v b
unfolding sees
saw-never {c} {b} {l} saw = record { at = λ s e. alone (sees (is_on c) s l) ∙ saw.at s e }
  where
    alone : (a : Bool) → (if a then true else false) ≡ a
    alone true = refl
    alone false = refl

-- A part that is read for sure is where what follows begins.
first-begins : (r b : Rule) → is_silent r ≡ false → passes r ≡ false → begins looks (Then r b) ≡ begins looks r
unfolding begins
first-begins r b e f = rw (e, f) refl

module _ (list : ℕ) (r : Rule) (close : ℕ) {v : View} where
  -- A list ends at its closing token, and where neither an element nor a stray token is next.
  pub over : Saw Off (until (one close)) v true → Saw Off (begins looks (list_turn list r close)) v false
  unfolding begins passes is_silent
  over f = saw-no-left (saw-denied f)

  module _ (said : is_silent r ≡ false) (sure : passes r ≡ false) where
    -- an element is next where one begins
    element-next : {b : Bool} → Saw Off (begins looks r) v b → Saw Off (begins looks (r ▸ (One 'comma' or When (next (one close)) Nothing or Say (Expected COMMA)))) v b
    element-next {b} saw = subst (λ (l : Look). Saw Off l v b) (sym (first-begins r (One 'comma' or When (next (one close)) Nothing or Say (Expected COMMA)) said sure)) saw

    pub over-there : Saw Off (until (one close)) v false → Saw Off (begins looks r) v false → Saw Off (Both Left (Not (one_of 0 stops))) v false → Saw Off (begins looks (list_turn list r close)) v false
    unfolding begins
    over-there f g h = saw-both (saw-denied f) (saw-either-right (element-next g) h)

    -- It goes on else.
    pub more : Saw Off (until (one close)) v false → Saw Off (begins looks r) v true → Saw Off (begins looks (list_turn list r close)) v true
    unfolding begins
    more f g = saw-both (saw-denied f) (saw-either-left (element-next g))

    pub stray : Saw Off (until (one close)) v false → Saw Off (begins looks r) v false → Saw Off (Both Left (Not (one_of 0 stops))) v true → Saw Off (begins looks (list_turn list r close)) v true
    unfolding begins
    stray f g h = saw-both (saw-denied f) (saw-either-right (element-next g) h)

    pub reads-element :
        {mid new : View} → Saw Off (begins looks r) v true → Reads Off r v mid
        → Reads Off (One 'comma' or When (next (one close)) Nothing or Say (Expected COMMA)) mid new
        → Reads Off (list_turn list r close) v new
    reads-element f p q = reads-unless Off (reads-or Off (element-next f) (reads-then Off p q))

    pub reads-stray : {new : View} → Saw Off (begins looks r) v false → Reads Off (Skip (UnexpectedIn list)) v new → Reads Off (list_turn list r close) v new
    reads-stray f p = reads-unless Off (reads-else Off (element-next f) (reads-when Off p))

pub said-element : (e : Element) → is_silent (element_of e) ≡ false
unfolding is_silent
said-element elements.Captured = refl
said-element elements.ClosureParam = refl
said-element elements.Expression = refl
said-element elements.FieldValue = refl
said-element elements.FnPtrParam = refl
said-element elements.GenericArg = refl
said-element elements.GenericParam = refl
said-element elements.Param = refl
said-element elements.Pattern = refl
said-element elements.PatternField = refl
said-element elements.RecordField = refl
said-element elements.TupleField = refl
said-element elements.Type = refl
said-element elements.TypeArg = refl
said-element elements.Variant = refl

pub sure-element : (e : Element) → passes (element_of e) ≡ false
unfolding passes
sure-element elements.Captured = refl
sure-element elements.ClosureParam = refl
sure-element elements.Expression = refl
sure-element elements.FieldValue = refl
sure-element elements.FnPtrParam = refl
sure-element elements.GenericArg = refl
sure-element elements.GenericParam = refl
sure-element elements.Param = refl
sure-element elements.Pattern = refl
sure-element elements.PatternField = refl
sure-element elements.RecordField = refl
sure-element elements.TupleField = refl
sure-element elements.Type = refl
sure-element elements.TypeArg = refl
sure-element elements.Variant = refl

pub ends : (list : ℕ) (r : Rule) (close : ℕ) → EndsAtEnd Off (list_turn list r close)
unfolding begins sees
ends list r close t none = let e : nat_lt 0 (length t.rest) ≡ false = ap (λ (n : ℕ). nat_lt 0 n) none in rw e refl

-- An element with its comma pays for its looks where a token is taken.
pub element-pays :
    (old mid new : View) (n : ℕ) → n ≤ 600
    → (tokens mid < tokens old → spent mid + 1000 ≤ spent old) → spent mid ≤ spent old + n
    → tokens mid ≤ tokens old → tokens new ≤ tokens mid → spent new ≤ spent mid + 2
    → (tokens new < tokens mid → spent new + 4000 ≤ spent mid) → tokens new < tokens old → spent new + 900 ≤ spent old
element-pays old mid new n few first cost fewer left little pays less = elim (cases_lt (tokens mid) (tokens old)) [
  | inl h ↦ let a = first h in omega (arith, a, little)
  | inr h ↦ let a = pays (omega (arith, less, h, fewer)) in omega (arith, a, cost, few)
]

pub few-looks-in : (e : Element) → looks_in e ≤ 600
few-looks-in elements.Captured = omega arith
few-looks-in elements.ClosureParam = omega arith
few-looks-in elements.Expression = omega arith
few-looks-in elements.FieldValue = omega arith
few-looks-in elements.FnPtrParam = omega arith
few-looks-in elements.GenericArg = omega arith
few-looks-in elements.GenericParam = omega arith
few-looks-in elements.Param = omega arith
few-looks-in elements.Pattern = omega arith
few-looks-in elements.PatternField = omega arith
few-looks-in elements.RecordField = omega arith
few-looks-in elements.TupleField = omega arith
few-looks-in elements.Type = omega arith
few-looks-in elements.TypeArg = omega arith
few-looks-in elements.Variant = omega arith

pub few-looks-before : (e : Element) → looks_before e ≤ 30
few-looks-before elements.Captured = omega arith
few-looks-before elements.ClosureParam = omega arith
few-looks-before elements.Expression = omega arith
few-looks-before elements.FieldValue = omega arith
few-looks-before elements.FnPtrParam = omega arith
few-looks-before elements.GenericArg = omega arith
few-looks-before elements.GenericParam = omega arith
few-looks-before elements.Param = omega arith
few-looks-before elements.Pattern = omega arith
few-looks-before elements.PatternField = omega arith
few-looks-before elements.RecordField = omega arith
few-looks-before elements.TupleField = omega arith
few-looks-before elements.Type = omega arith
few-looks-before elements.TypeArg = omega arith
few-looks-before elements.Variant = omega arith

-- What was seen is seen in another form, or elsewhere.
use Rattle.std.proofs.Common.{◌≡◌, ℕ, zero, suc, ◌<◌, ◌≤◌, ◌==◌, nat_lt, Bool, true, false, not, List, [], ◌∷◌, length, Option, Some, refl, sym, ap, subst, ◌∙◌, arith, if◌then◌else◌, true≢false}
use Rattle.std.proofs.lemmas.Bool.{eqb-true, ltb-true}
use Rattle.parser_input.specs.Input.{Token}
use Rattle.parser_input.specs.Kinds.{DYN_KW, EOF, EXTERN_KW, FN_KW, L_CURLY, UNSAFE_KW}
use Rattle.parser_events.specs.Forest as forest
use Rattle.parser_events.specs.View.{View}
use Rattle.rust_grammar.specs.Expressions.{closure_param, expressions, open_range}
use Rattle.rust_grammar.specs.Items.{items}
use Rattle.rust_grammar.specs.Meaning.{begins_below}
use Rattle.rust_grammar.specs.Notation.{any_of, is_longer, longest, no_longer, one_of, row, until}
use Rattle.rust_grammar.specs.Paths.{paths}
use Rattle.rust_grammar.specs.Patterns.{patterns}
use Rattle.rust_grammar.specs.Statements.{statements}
use Rattle.rust_grammar.specs.Types.{fn_ptr_begins, fn_ptr_type, types}
use Rattle.parser_events.specs.Forest.{Message}
use Rattle.rust_grammar.specs.Rule as rules
use Rattle.rust_grammar.specs.Rule.{single_pattern, Production, Rule, Look, Always, Never, InCondition, Joint, Whole, Given, Both, Either, Not, Contextual, Kind, Left, Mode, Spelling, Want, begins, in_mode, is_silent, passes, shift, there_at, from_start}
use Rattle.rust_grammar.specs.Laws.{reads}
use Rattle.rust_grammar.specs.Meaning.{Reading, ahead, fresh, look_of, read, say, sees}
use Rattle.rust_grammar.specs.Whole.{rule, whole}
use Rattle.rust_grammar.specs.Words.{'ident', 'l_curly', '!'}
use Rattle.rust_productions.specs.Looks.{tokens}
use Rattle.rust_productions.specs.Operators.{IsMark, spelling_of}
use Rattle.rust_productions.specs.declared.grammar.operators.RangeMark.{RangeMark}
use Rattle.rust_productions.proofs.Ranges.{reads-open-range, reads-open-range-alone}
use Rattle.grammar_reader.specs.Next.{EndsRange}
use Rattle.rust_productions.specs.Reads.{looks, Closes, Does, Gives, Reads, Saw, is_on}
use Rattle.rust_productions.specs.Stands.{left}
use Rattle.rust_productions.specs.declared.condition.Condition.{Condition}
use Rattle.rust_productions.specs.declared.condition.Condition.TheVariants.{Off}
use Rattle.rust_productions.proofs.ByHand.{does-as, does-then}
use Rattle.rust_productions.proofs.Facts.{Fact, Answers, Begins, HoldAll, Known, Right, is_start, is_told, starts, tells}
use Rattle.rust_productions.proofs.Seen.{ends-at-end, saw-left, saw-right}

-- in another mode
mode-seen : (c d : Bool) (s : Reading) (l : Look) → sees c s (in_mode d l) ≡ sees d s l
unfolding sees in_mode
mode-seen c d s Always = refl
mode-seen c d s Never = refl
mode-seen c d s (Kind k j) = refl
mode-seen c d s (Contextual k j) = refl
mode-seen c d s (Joint k) = refl
mode-seen c d s (Whole k) = refl
mode-seen c d s Left = refl
mode-seen c d s InCondition = set d
  where
    set : (b : Bool) → sees c s (if b then Always else Never) ≡ b
    set true = refl
    set false = refl
mode-seen c d s Given = refl
mode-seen c d s (Both a b) = rw (mode-seen c d s a, mode-seen c d s b) refl
mode-seen c d s (Either a b) = rw (mode-seen c d s a, mode-seen c d s b) refl
mode-seen c d s (Not a) = rw (mode-seen c d s a) refl

pub saw-mode : {c d : Condition} {b : Bool} {l : Look} {v : View} → Saw d l v b → Saw c (in_mode (is_on d) l) v b
saw-mode {c} {d} {b} {l} saw = record { at = λ s e. mode-seen (is_on c) (is_on d) s l ∙ saw.at s e }

-- an expected part, read in another mode
pub reads-expected : (c : Condition) {d : Condition} {a : Rule} {m : Message} {old new : View} → Reads d (Want a m) old new → Reads c (Want (Mode (is_on d) a) m) old new
unfolding read begins
reads-expected c {d} {a} {m} p = record {
  does = does-as (λ s e. ap (λ (b : Bool). if b then reads (is_on d) a s else say m s) (sym (mode-seen (is_on c) (is_on d) s (begins (look_of whole) a)))) p.does;
}

-- a production that is read after a look
pub gives-look : {x : Production} {c : Condition} {old mid new : View} → Does (λ (s : Reading). s) old mid → Gives x c mid new → Gives x c old new
gives-look p q = record { does = does-then p q.does }

-- adds to the known facts whether a production begins here, with nothing given before it
pub begun-from_start : (x : Production) {c : Condition} {b : Bool} {fs : List Fact} {v : View} → Saw c (from_start (looks x)) v b → Known c fs v → Known c (Begins x b ∷ fs) v
begun-from_start x saw k = record { at = λ s e. (saw.at s e, k.at s e) }

-- A token is left where a list has not ended.
pub left-there : (x : Spelling) {c : Condition} {v : View} → Saw c (until x) v false → Saw c Left v true
unfolding sees
left-there x {c} {v} saw = record { at = λ s e. within s (nat_lt 0 (length s.rest)) refl (saw.at s e) }
  where
    within : (s : Reading) (b : Bool) → nat_lt 0 (length s.rest) ≡ b → (if not (nat_lt 0 (length s.rest)) then true else sees (is_on c) s (row 0 (x ∷ []))) ≡ false → nat_lt 0 (length s.rest) ≡ true
    within s true e f = e
    within s false e f = absurd (true≢false (sym (ap (λ (d : Bool). if not d then true else sees (is_on c) s (row 0 (x ∷ []))) e) ∙ f))

pub left-some : {c : Condition} {v : View} → Saw c Left v true → 1 ≤ tokens v
unfolding sees tokens
left-some {c} {v} saw = omega (arith, ltb-true 0 (length (left v)) (saw.at (record { given = forest.End; rest = left v }) refl))

pub some-left : (x : Spelling) {c : Condition} {v : View} → Saw c (until x) v false → 1 ≤ tokens v
some-left x saw = left-some (left-there x saw)

-- more than `n` tokens are left if the kind `n` tokens ahead is not `EOF`
some-ahead : (n k : ℕ) (ts : List Token) → (ahead n ts).kind ≡ k → (k ≡ EOF → ⊥) → n < length ts
unfolding ahead
some-ahead n k [] e other = absurd (other (sym e))
some-ahead zero k (t ∷ ts) e other = omega arith
some-ahead (suc n) k (t ∷ ts) e other = let h = some-ahead n k ts e other in omega (arith, h)

pub three-left : {c : Condition} {v : View} → Saw c (row 0 ('ident' ∷ '!' ∷ 'l_curly' ∷ [])) v true → 3 ≤ tokens v
unfolding row there_at sees tokens
three-left {c} {v} saw =
    let third : ((ahead 2 (left v)).kind == L_CURLY) ≡ true = (saw-left (saw-right (saw-right saw))).at (record { given = forest.End; rest = left v }) refl in
    let less = some-ahead 2 L_CURLY (left v) (eqb-true (ahead 2 (left v)).kind L_CURLY third) (λ e. absurd (omega (arith, e))) in
    omega (arith, less)

-- A token is left where a rule begins that does not begin at the end.
pub begun-left : (a : Rule) {c : Condition} {v : View} → starts (Answers (Kind 0 EOF) true ∷ Answers Left false ∷ []) a ≡ Some false → Saw c (begins looks a) v true → 1 ≤ tokens v
unfolding tokens
begun-left a {c} {v} e saw = within (length (left v)) refl
  where
    here : Reading
    here = record { given = forest.End; rest = left v }

    within : (n : ℕ) → length (left v) ≡ n → 1 ≤ length (left v)
    within zero none = absurd (true≢false (sym (saw.at here refl) ∙ ends-at-end c a e here none))
    within (suc n) some = omega (arith, some)

-- What is known at the end of the input, for rules that ask whether a word is `dyn`: after the last token there is none.
abbrev at_the_end : List Fact
at_the_end = Answers (Kind 0 EOF) true ∷ Answers Left false ∷ Answers (Contextual 0 DYN_KW) false ∷ []

no-dyn : (c : Bool) (a : Rule) → starts at_the_end a ≡ Some false → (t : Reading) → length t.rest ≡ 0 → sees c t (begins looks a) ≡ false
unfolding sees ahead fresh
no-dyn c a is t none = subst (λ (o : Option Bool). Right c t (begins looks a) o) is (is_start c t at_the_end (known t.rest none) (known t.rest none) a)
  where
    known : (ts : List Token) → length ts ≡ 0 → ((ahead 0 ts).kind == EOF) ≡ true × (nat_lt 0 (length ts) ≡ false × (((ahead 0 ts).contextual == DYN_KW) ≡ false × Unit {0}))
    known [] e = (refl, (refl, (refl, tt)))
    known (x ∷ ts) e = absurd (let z : suc (length ts) ≡ 0 = e in cc)

pub word-left : (a : Rule) {c : Condition} {v : View} → starts at_the_end a ≡ Some false → Saw c (begins looks a) v true → 1 ≤ tokens v
unfolding tokens
word-left a {c} {v} e saw = within (length (left v)) refl
  where
    here : Reading
    here = record { given = forest.End; rest = left v }

    within : (n : ℕ) → length (left v) ≡ n → 1 ≤ length (left v)
    within zero none = absurd (true≢false (sym (saw.at here refl) ∙ no-dyn (is_on c) a e here none))
    within (suc n) some = omega (arith, some)

-- A parameter of a closure begins in whatever mode.
pub closure-param-anywhere : {c : Condition} {b : Bool} {v : View} → Saw Off (begins looks closure_param) v b → Saw c (begins looks closure_param) v b
unfolding look_of begins_below whole rule items statements expressions patterns types paths there_at shift passes is_silent begins in_mode from_start row one_of any_of no_longer longest is_longer sees
closure-param-anywhere saw = record { at = λ s e. saw.at s e }

-- Whether a match arm begins does not depend on what was given before it.
pub arm-there : {c : Condition} {b : Bool} {v : View} → Saw c (looks rules.match_arm) v b → Saw c (from_start (looks rules.match_arm)) v b
unfolding look_of begins_below whole rule items statements expressions patterns types paths there_at shift passes is_silent begins in_mode from_start row one_of any_of no_longer longest is_longer sees
arm-there saw = record { at = λ s e. saw.at s e }

pub param-left : {v : View} → Saw Off (begins looks closure_param) v true → 1 ≤ tokens v
unfolding look_of begins_below whole rule items statements expressions patterns types paths there_at shift passes is_silent begins in_mode from_start row one_of any_of no_longer longest is_longer
param-left saw = begun-left closure_param refl saw

-- Where a look is there, and would not be if another one were, that other one is not.
pub saw-without : (l m : Look) {c : Condition} {fs : List Fact} {v : View} → Known c fs v → Saw c m v true → tells (Answers l true ∷ fs) m ≡ Some false → Saw c l v false
saw-without l m {c} {fs} {v} known saw excludes = record { at = λ s e. one s (sees (is_on c) s l) refl (known.at s e) (saw.at s e) }
  where
    one : (s : Reading) (b : Bool) → sees (is_on c) s l ≡ b → HoldAll (is_on c) s fs → sees (is_on c) s m ≡ true → sees (is_on c) s l ≡ false
    one s false is h there = is
    one s true is h there =
        let no : sees (is_on c) s m ≡ false = subst (λ (o : Option Bool). Right (is_on c) s m o) excludes (is_told (is_on c) s (Answers l true ∷ fs) (is, h) m) in
        absurd (let z : true ≡ false = sym there ∙ no in cc)

-- where a function pointer type is next, its rule begins
pub fn-ptr-begins : {c : Condition} {v : View} → Saw c fn_ptr_begins v true → Saw c (begins looks fn_ptr_type) v true
unfolding begins from_start sees one_of any_of row no_longer longest is_longer there_at is_silent passes shift
fn-ptr-begins {c} {v} saw = record { at = λ s e. one s ((ahead 0 s.rest).kind == FN_KW) ((ahead 0 s.rest).kind == UNSAFE_KW) ((ahead 0 s.rest).kind == EXTERN_KW) refl refl refl (saw.at s e) }
  where
    one : (s : Reading) (f u x : Bool) → ((ahead 0 s.rest).kind == FN_KW) ≡ f → ((ahead 0 s.rest).kind == UNSAFE_KW) ≡ u → ((ahead 0 s.rest).kind == EXTERN_KW) ≡ x
        → sees (is_on c) s fn_ptr_begins ≡ true → sees (is_on c) s (begins looks fn_ptr_type) ≡ true
    one s f true x is iu ix there = rw iu refl
    one s f false true is iu ix there = rw (iu, ix) refl
    one s true false false is iu ix there = rw (iu, ix, is) refl
    one s false false false is iu ix there = absurd (let z : false ≡ true = rw (is, iu, ix) at there in cc)

-- a range operator and its operand, if one follows
pub reads-open-end : {c : Condition} {b : Bool} {old new : View} (mark : RangeMark) → IsMark (Some mark) old → EndsRange c (spelling_of mark) b old new → Reads c open_range old new
reads-open-end {c} {b} {old} {new} mark next ends = which b ends
  where
    which : (b : Bool) → EndsRange c (spelling_of mark) b old new → Reads c open_range old new
    which true e = reads-open-range mark next e.near (e.to refl)
    which false e = reads-open-range-alone mark next e.near (e.alone refl)

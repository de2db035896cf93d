-- Lists of items and of statements, wherever they end.
use Rattle.std.proofs.Common.{◌≡◌, ℕ, ◌≤◌, nat_lt, Bool, true, false, not, length, refl, sym, ap}
use Rattle.parser_input.specs.Kinds.{R_CURLY}
use Rattle.parser_events.specs.View.{View}
use Rattle.rust_grammar.specs.Rule as rules
use Rattle.rust_grammar.specs.Rule.{Rule, Look, Kind, Left, Call, Unless}
use Rattle.rust_grammar.specs.Meaning.{sees}
use Rattle.rust_grammar.specs.Notation.{more}
use Rattle.rust_grammar.specs.Expressions.{expressions}
use Rattle.rust_grammar.specs.Items.{items}
use Rattle.rust_grammar.specs.Meaning.{begins_below, look_of}
use Rattle.rust_grammar.specs.Notation.{any_of, is_longer, no_longer, longest, one_of, row}
use Rattle.rust_grammar.specs.Paths.{paths}
use Rattle.rust_grammar.specs.Patterns.{patterns}
use Rattle.rust_grammar.specs.Rule.{begins, in_mode, from_start, is_silent, passes, shift, there_at}
use Rattle.rust_grammar.specs.Statements.{statements, end_of, statement_of}
use Rattle.rust_grammar.specs.Types.{types}
use Rattle.rust_grammar.specs.Whole.{rule, whole}
use Rattle.rust_grammar.specs.Words.{'r_curly'}
use Rattle.grammar_reader.specs.Told.{ends_of, listing_of}
use Rattle.grammar_reader.specs.declared.grammar.list_end.ListEnd.{ListEnd}
use Rattle.grammar_reader.specs.declared.grammar.list_end.ListEnd.TheVariants as list_ends
use Rattle.grammar_reader.proofs.Elements.{saw-denied}
use Rattle.grammar_reader.proofs.Seeing.{left-there, left-some}
use Rattle.rust_productions.specs.Looks.{tokens}
use Rattle.rust_productions.specs.Reads.{looks, FromStart, Gives, Reads, Saw}
use Rattle.rust_productions.specs.declared.condition.Condition.{Condition}
use Rattle.rust_productions.specs.declared.condition.Condition.TheVariants.{Off}
use Rattle.rust_productions.proofs.ByHand.{goes, reads-more}
use Rattle.rust_productions.proofs.Choices.{gives-from_start}
use Rattle.rust_productions.proofs.Facts.{nothing, ◌and◌}
use Rattle.rust_productions.proofs.Seen.{saw-both, saw-no-left, saw-told, starts-here}
use Rattle.rust_productions.proofs.Turns.{EndsAtEnd}

-- Each list ends where no token is left, one in braces at its brace as well, and none at any other token.
pub ended-at-end : (end : ListEnd) {c : Condition} {v : View} → Saw c Left v false → Saw c (ends_of end) v true
unfolding row there_at
ended-at-end list_ends.Brace saw = saw-told (saw and nothing) refl
ended-at-end list_ends.Input saw = saw-told (saw and nothing) refl

pub ended-at-brace : {c : Condition} {v : View} → Saw c (Kind 0 R_CURLY) v true → Saw c (ends_of list_ends.Brace) v true
unfolding row there_at
ended-at-brace saw = saw-told (saw and nothing) refl

pub not-at-brace : {c : Condition} {v : View} → Saw c Left v true → Saw c (ends_of list_ends.Input) v false
not-at-brace saw = saw-told (saw and nothing) refl

pub not-ended : (end : ListEnd) {c : Condition} {v : View} → Saw c Left v true → Saw c (Kind 0 R_CURLY) v false → Saw c (ends_of end) v false
unfolding row there_at
not-ended list_ends.Brace some other = saw-told (some and other and nothing) refl
not-ended list_ends.Input some other = saw-told (some and nothing) refl

-- A token is left where a list has not ended.
pub left-within : (end : ListEnd) {c : Condition} {v : View} → Saw c (ends_of end) v false → Saw c Left v true
unfolding sees
left-within list_ends.Brace saw = left-there 'r_curly' saw
left-within list_ends.Input {c} {v} saw = record { at = λ s e. undenied (nat_lt 0 (length s.rest)) (saw.at s e) }
  where
    undenied : (b : Bool) → not b ≡ false → b ≡ true
    undenied true e = refl
    undenied false e = sym e

pub some-within : (end : ListEnd) {c : Condition} {v : View} → Saw c (ends_of end) v false → 1 ≤ tokens v
some-within end saw = left-some (left-within end saw)

-- What a list repeats begins where that begins, and where the list has not ended.
pub over : (a : Rule) {l : Look} {c : Condition} {v : View} → Saw c l v true → Saw c (begins looks (Unless l a)) v false
unfolding begins
over a f = saw-no-left (saw-denied f)

pub within : (a : Rule) {l : Look} {b : Bool} {c : Condition} {v : View} → Saw c l v false → Saw c (begins looks a) v b → Saw c (begins looks (Unless l a)) v b
unfolding begins
within a f g = saw-both (saw-denied f) g

pub over-at-end : (end : ListEnd) (a : Rule) → EndsAtEnd Off (Unless (ends_of end) a)
unfolding begins sees
over-at-end list_ends.Brace a t none = let e : nat_lt 0 (length t.rest) ≡ false = ap (λ (n : ℕ). nat_lt 0 n) none in rw e refl
over-at-end list_ends.Input a t none = let e : nat_lt 0 (length t.rest) ≡ false = ap (λ (n : ℕ). nat_lt 0 n) none in rw e refl

-- A statement begins at each token.
pub statement-begins : (end : ListEnd) {c : Condition} {v : View} → Saw c Left v true → Saw c (begins looks (Call (listing_of end).one)) v true
unfolding look_of begins_below whole rule items statements expressions patterns types paths there_at shift passes is_silent begins in_mode from_start row one_of any_of no_longer longest is_longer
statement-begins list_ends.Brace saw = starts-here (Call rules.statement) (saw and nothing) refl
statement-begins list_ends.Input saw = starts-here (Call rules.macro_statement) (saw and nothing) refl

-- the rules of a statement, and of the end of an expression statement
pub gives-statement : (end : ListEnd) {c : Condition} {old new : View} → FromStart c (statement_of (listing_of end)) old new → Gives (listing_of end).one c old new
unfolding rule items statements
gives-statement list_ends.Brace p = gives-from_start p
gives-statement list_ends.Input p = gives-from_start p

pub reads-end : (end : ListEnd) {c : Condition} {old new : View} → Reads c (end_of (listing_of end)) old new → Reads c (more (listing_of end).end) old new
unfolding rule items statements
reads-end list_ends.Brace {c} p = reads-more c (goes rules.statement_end c p)
reads-end list_ends.Input {c} p = reads-more c (goes rules.macro_statement_end c p)

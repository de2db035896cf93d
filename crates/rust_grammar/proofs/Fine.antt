-- A test of a table: no production comes back to itself before it takes a token.
use Rattle.std.specs.Prelude.{◌==◌, nat_lt, Bool, true, false, not, ◌&&◌, ◌||◌, length}
use Rattle.parser_input.specs.Kinds.{EOF}
use Rattle.rust_grammar.specs.Rule.{Production, Look, Always, Never, Kind, Contextual, Joint, Whole, Left, InCondition, Given, Both, Either, Not, Rule, Nothing, One, Any, Then, Near, Or, Opt, Star, Node, Wrap, Want, Say, Skip, Split, When, Unless, Call, Continue, Mode, Lead, begins}
use Rattle.rust_grammar.specs.Meaning.{Table, look_of}

-- a rule that surely takes a token where one is left
unfoldable pub takes : (Production → Bool) → Rule → Bool
takes f Nothing = false
takes f (One x) = nat_lt 0 (length x.parts)
takes f Any = true
takes f (Then a b) = takes f a || takes f b
takes f (Near w a b) = takes f a || takes f b
takes f (Or a b) = takes f a && takes f b
takes f (Opt a) = false
takes f (Star a) = false
takes f (Node k a) = takes f a
takes f (Wrap k a) = takes f a
takes f (Want a m) = false
takes f (Say m) = false
takes f (Skip m) = true
takes f Split = true
takes f (When l a) = takes f a
takes f (Unless l a) = takes f a
takes f (Call x) = f x
takes f (Continue x) = f x
takes f (Mode c a) = takes f a
takes f (Lead a) = takes f a

-- each production that is called before a token was taken has a lower rank
unfoldable pub ranked : (takes_one is_lower : Production → Bool) → (taken : Bool) → Rule → Bool
ranked f low t Nothing = true
ranked f low t (One x) = true
ranked f low t Any = true
ranked f low t (Then a b) = ranked f low t a && ranked f low (t || takes f a) b
ranked f low t (Near w a b) = ranked f low t a && ranked f low (t || takes f a) b
ranked f low t (Or a b) = ranked f low t a && ranked f low t b
ranked f low t (Opt a) = ranked f low t a
ranked f low t (Star a) = ranked f low t a
ranked f low t (Node k a) = ranked f low t a
ranked f low t (Wrap k a) = ranked f low t a
ranked f low t (Want a m) = ranked f low t a
ranked f low t (Say m) = true
ranked f low t (Skip m) = true
ranked f low t Split = true
ranked f low t (When l a) = ranked f low t a
ranked f low t (Unless l a) = ranked f low t a
ranked f low t (Call x) = t || low x
ranked f low t (Continue x) = t || low x
ranked f low t (Mode c a) = ranked f low t a
ranked f low t (Lead a) = ranked f low t a

-- a look that fails where no token is left
unfoldable pub fails : Look → Bool
fails Always = false
fails Never = true
fails (Kind n k) = not (EOF == k)
fails (Contextual n k) = not (EOF == k)
fails (Joint n) = true
fails (Whole n) = true
fails Left = true
fails InCondition = false
fails Given = false
fails (Both a b) = fails a || fails b
fails (Either a b) = fails a && fails b
fails (Not a) = false

-- each production that is called where no token is left has a lower rank
unfoldable pub ranked_at_end : (Production → Look) → (is_lower : Production → Bool) → Rule → Bool
ranked_at_end l low Nothing = true
ranked_at_end l low (One x) = true
ranked_at_end l low Any = true
ranked_at_end l low (Then a b) = ranked_at_end l low a && ranked_at_end l low b
ranked_at_end l low (Near w a b) = ranked_at_end l low a && ranked_at_end l low b
ranked_at_end l low (Or a b) = (fails (begins l a) || ranked_at_end l low a) && ranked_at_end l low b
ranked_at_end l low (Opt a) = fails (begins l a) || ranked_at_end l low a
ranked_at_end l low (Star a) = true
ranked_at_end l low (Node k a) = ranked_at_end l low a
ranked_at_end l low (Wrap k a) = ranked_at_end l low a
ranked_at_end l low (Want a m) = fails (begins l a) || ranked_at_end l low a
ranked_at_end l low (Say m) = true
ranked_at_end l low (Skip m) = true
ranked_at_end l low Split = true
ranked_at_end l low (When k a) = ranked_at_end l low a
ranked_at_end l low (Unless k a) = ranked_at_end l low a
ranked_at_end l low (Call x) = low x
ranked_at_end l low (Continue x) = low x
ranked_at_end l low (Mode c a) = ranked_at_end l low a
ranked_at_end l low (Lead a) = ranked_at_end l low a

-- The test, for one production: its rank is one, its claim is true, and its calls go down.
unfoldable pub fine : Table → (Production → Bool) → Production → Bool
fine g f x =
    let low = λ (y : Production). nat_lt (g.rank y) (g.rank x) in
    nat_lt (g.rank x) g.ranks && (not (f x) || takes f (g.rule x)) && ranked f low false (g.rule x) && ranked_at_end (look_of g) low (g.rule x)

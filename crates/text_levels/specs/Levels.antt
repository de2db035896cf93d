-- A bound on the levels that reading a text takes, counted over its tokens.
use Rattle.std.specs.Prelude.{ℕ, ◌+◌, ◌-◌, ◌^◌, ◌==◌, ◌&&◌, ◌||◌, Bool, not, min, max, List, [], ◌∷◌, drop, map, if◌then◌else◌}
use Rattle.parser_input.specs.Keywords.{is_keyword}
use Rattle.parser_input.specs.Kind.{is_l_delimiter, is_trivia}
use Rattle.parser_input.specs.Kinds as kinds
use Rattle.parser_input.specs.Lexed.{Lexed, lexed}
use Rattle.parser_input.specs.declared.edition.Edition.{Edition}
use Rattle.parser_input.specs.declared.edition.Edition.TheVariants.{Edition2024}
use Rattle.text_levels.specs.declared.counter.Frame.{Frame}

-- a sum that stays at its greatest value
abbrev pub plus : ℕ → ℕ → ℕ
plus a b = min (a + b) (2 ^ 64 - 1)

-- what closes an opening bracket
abbrev pub closing_of : ℕ → ℕ
closing_of kind =
    if kind == kinds.L_PAREN then kinds.R_PAREN else if kind == kinds.L_BRACK then kinds.R_BRACK else kinds.R_CURLY

-- a token that opens no level and ends none
abbrev pub is_operand : ℕ → Bool
is_operand kind =
    (kind == kinds.IDENT) || (kind == kinds.LIFETIME_IDENT) || (kind == kinds.UNDERSCORE) || (kind == kinds.ERROR) || (kind == kinds.INT_NUMBER)
    || (kind == kinds.FLOAT_NUMBER) || (kind == kinds.CHAR) || (kind == kinds.BYTE) || (kind == kinds.STRING) || (kind == kinds.BYTE_STRING)
    || (kind == kinds.C_STRING)

-- a token that an expression or a pattern may end with, so that a `|` after it begins no closure
abbrev pub may_end : ℕ → Bool
may_end kind =
    (kind == kinds.R_PAREN) || (kind == kinds.R_BRACK) || (kind == kinds.R_CURLY)
    || (is_operand kind && not (kind == kinds.LIFETIME_IDENT) && not (kind == kinds.ERROR))

-- a token that goes on with an expression that a `}` ends
abbrev pub continues : ℕ → Bool
continues kind =
    (kind == kinds.ELSE_KW) || (kind == kinds.AS_KW) || not ((kind == kinds.POUND) || is_operand kind || is_keyword Edition2024 kind)

-- ---- the levels inside a bracket

-- none yet: `base` are those around it and the bracket's own
abbrev pub begun : ℕ → ℕ → Frame
begun closing base = record { closing = closing; base = base; pending = 0; angles = 0; closures = 0 }

abbrev pub total : Frame → ℕ
total f = plus (plus (plus f.base f.pending) f.angles) f.closures

abbrev pub with_pending : Frame → ℕ → Frame
with_pending f pending =
    record { closing = f.closing; base = f.base; pending = pending; angles = f.angles; closures = f.closures }

abbrev pub with_angles : Frame → ℕ → Frame
with_angles f angles =
    record { closing = f.closing; base = f.base; pending = f.pending; angles = angles; closures = f.closures }

abbrev pub with_closures : Frame → ℕ → Frame
with_closures f closures =
    record { closing = f.closing; base = f.base; pending = f.pending; angles = f.angles; closures = closures }

-- one more level that ends at the next `;` or `,`
abbrev pub more_pending : Frame → Frame
more_pending f = with_pending f (plus f.pending 1)

-- neither in generic arguments nor in the parameters of a closure
abbrev pub is_plain : Frame → Bool
is_plain f = (f.angles == 0) && (f.closures == 0)

-- what is pending ends, where that can be
abbrev pub ended : Frame → Frame
ended f = if is_plain f then with_pending f 0 else f

-- a `|` begins a closure, or is an operator
abbrev pub at_pipe : ℕ → Frame → Frame
at_pipe last f = if may_end last then more_pending f else with_closures f (plus f.closures 1)

-- a `>` ends generic arguments, unless it is that of `->` or `=>`
abbrev pub at_angle : ℕ → Frame → Frame
at_angle last f =
    if (last == kinds.MINUS) || (last == kinds.EQ) then more_pending f
    else with_angles (more_pending f) (f.angles - 1)

-- a token after `last` that is neither a bracket nor an operand
abbrev pub at_operator : ℕ → ℕ → Frame → Frame
at_operator last kind f =
    if kind == kinds.SEMICOLON then begun f.closing f.base
    else if kind == kinds.COMMA then ended f
    else if kind == kinds.L_ANGLE then with_angles f (plus f.angles 1)
    else if kind == kinds.PIPE then at_pipe last f
    else if kind == kinds.R_ANGLE then at_angle last f
    else more_pending f

-- ---- the count

-- the frames around the present one, the innermost first; the token before, and the greatest count so far
pub record Count : Type 0 where
  pub around : List Frame
  pub present : Frame
  pub last : ℕ
  pub greatest : ℕ

abbrev pub start : Count
start = record { around = []; present = begun kinds.EOF 0; last = kinds.EOF; greatest = 0 }

abbrev pub in_frames : Count → List Frame → Frame → Count
in_frames c around present = record { around = around; present = present; last = c.last; greatest = c.greatest }

-- what is pending ends at a token that cannot go on with the expression that a `}` ends
abbrev pub after_block : ℕ → Count → Count
after_block kind c =
    if (c.last == kinds.R_CURLY) && not (continues kind) then in_frames c c.around (ended c.present) else c

abbrev pub opened : ℕ → Count → Count
opened kind c = in_frames c (c.present ∷ c.around) (begun (closing_of kind) (plus (total c.present) 1))

-- the frame that a closing bracket leads back to
abbrev pub innermost : List Frame → Frame → Frame
innermost [] present = present
innermost (f ∷ fs) present = f

-- what the bracket holds may be an operand of what follows
abbrev pub closed : Count → Count
closed c = in_frames c (drop 1 c.around) (more_pending (innermost c.around c.present))

abbrev pub moved : ℕ → Count → Count
moved kind c =
    if is_l_delimiter kind then opened kind c
    else if kind == c.present.closing then closed c
    else if is_operand kind then c
    else in_frames c c.around (at_operator c.last kind c.present)

-- a token passed
abbrev pub noted : ℕ → Count → Count
noted kind c =
    record { around = c.around; present = c.present; last = kind; greatest = max c.greatest (total c.present) }

unfoldable pub counted : ℕ → Count → Count
counted kind c = if is_trivia kind then c else noted kind (moved kind (after_block kind c))

-- tokens one after another
abbrev pub counted_all : List ℕ → Count → Count
counted_all [] c = c
counted_all (kind ∷ kinds) c = counted_all kinds (counted kind c)

abbrev pub kinds_of : List Lexed → List ℕ
kinds_of = map (λ l. l.leaf.kind)

-- a bound on the levels that reading a text takes
unfoldable pub levels : Edition → List ℕ → ℕ
levels edition text = (counted_all (kinds_of (lexed edition text)) start).greatest

-- the greatest bound of a text that is read
abbrev pub LEVELS : ℕ
LEVELS = 5000

-- The rules that a grammar is written in.
use Rattle.std.specs.Prelude.{ℕ, ◌+◌, Bool, true, false, List, [], ◌∷◌, Option, Some, None, if◌then◌else◌}
use Rattle.parser_events.specs.Forest.{Message}

-- The productions: items, names and paths, types, patterns, statements, expressions.
pub data Production : Type 0 where
  source_file : Production
  macro_items : Production
  macro_statements : Production
  item : Production
  body : Production
  assoc_items : Production
  variants : Production
  record_fields : Production
  tuple_fields : Production
  visibility : Production
  attribute : Production
  meta : Production
  token_tree : Production
  use_tree : Production
  use_list : Production
  params : Production
  param : Production
  name : Production
  lifetime : Production
  name_ref : Production
  path : Production
  type_path : Production
  expr_path : Production
  generic_args : Production
  generic_arg : Production
  generic_params : Production
  generic_param : Production
  bounds : Production
  bound : Production
  where_clause : Production
  where_pred : Production
  any_type : Production
  ret_type : Production
  pattern : Production
  single_pattern : Production
  pattern_fields : Production
  pattern_field : Production
  literal : Production
  statement_list : Production
  block : Production
  statement : Production
  macro_statement : Production
  statement_end : Production
  macro_statement_end : Production
  expression : Production
  operation : Production
  operation_tail : Production
  pipe_tail : Production
  disjunction : Production
  conjunction : Production
  comparison : Production
  bit_or : Production
  bit_xor : Production
  bit_and : Production
  bit_shift : Production
  sum : Production
  product : Production
  cast : Production
  prefixed : Production
  postfix : Production
  after_dot : Production
  arguments : Production
  atom : Production
  field_values : Production
  field_value : Production
  block_like : Production
  if_expr : Production
  match_arms : Production
  match_arm : Production
  type_no_bounds : Production
  pattern_atom : Production
  arm_body : Production

-- What a choice asks of the place: the n-th token ahead is of a kind, of a contextual kind, touches the next, says that the
-- whole language is read; a token is left; condition mode is on; the present production has given something.
pub data Look : Type 0 where
  Always : Look
  Never : Look
  Kind : (n kind : ℕ) → Look
  Contextual : (n kind : ℕ) → Look
  Joint : (n : ℕ) → Look
  Whole : (n : ℕ) → Look
  Left : Look
  InCondition : Look
  Given : Look
  Both : Look → Look → Look
  Either : Look → Look → Look
  Not : Look → Look

-- A spelling: the kind of its leaf, the contextual kind of its first input token where that is asked, and the kinds of its input
-- tokens, all but the last joint.
pub record Spelling : Type 0 where
  pub kind : ℕ
  pub contextual : Option ℕ
  pub parts : List ℕ

-- The ten forms are: one leaf (One, Any); a sequence (Nothing, Then, Near, which asks the looks of both parts, those of the
-- second as many tokens further on as the first takes); a choice by looks (Or, When, Unless); an option; a repetition; a node; a
-- wrap around all that the present production gave so far; an expected part (Want: it, or a message); an error (Say: a message;
-- Skip: a message about the next token, which is taken; Split: a float after a dot); a lead (what the present production gave so
-- far stands first in the one node that a rule gives, in which nothing was given before). Call begins a production in which
-- nothing was given, Continue goes on in the present one, Mode reads a rule in condition mode or out of it.
-- A choice reads its first part where that begins, and else its second, of which it asks nothing: where all looks of a chain of
-- choices fail, its last part is read. When replaces the looks of its rule by its own, Unless asks besides those of its
-- rule that its look fails; both say only where a rule begins, not what it gives.
pub data Rule : Type 0 where
  Nothing : Rule
  One : Spelling → Rule
  Any : Rule
  Then : Rule → Rule → Rule
  Near : (width : ℕ) → Rule → Rule → Rule
  Or : Rule → Rule → Rule
  When : Look → Rule → Rule
  Unless : Look → Rule → Rule
  Opt : Rule → Rule
  Star : Rule → Rule
  Node : (kind : ℕ) → Rule → Rule
  Wrap : (kind : ℕ) → Rule → Rule
  Want : Rule → (message : Message) → Rule
  Say : (message : Message) → Rule
  Skip : (message : Message) → Rule
  Split : Rule
  Call : Production → Rule
  Continue : Production → Rule
  Mode : (condition : Bool) → Rule → Rule
  Lead : Rule → Rule

-- tokens of these kinds from the n-th on, all but the last joint
unfoldable pub there_at : ℕ → List ℕ → Look
there_at n [] = Always
there_at n (k ∷ []) = Kind n k
there_at n (k ∷ l ∷ ks) = Both (Kind n k) (Both (Joint n) (there_at (n + 1) (l ∷ ks)))

-- a look, and the contextual kind that is asked of the n-th token, if one is
abbrev pub with_contextual : ℕ → Option ℕ → Look → Look
with_contextual n None l = l
with_contextual n (Some k) l = Both (Contextual n k) l

-- the spelling from the n-th token on
abbrev pub spelled_at : ℕ → Spelling → Look
spelled_at n x = with_contextual n x.contextual (there_at n x.parts)

-- A look, m tokens further ahead. Whether a token is left, and whether something was given, is still asked of the place itself;
-- the whole grammar asks neither of them further ahead, as a law says.
unfoldable pub shift : ℕ → Look → Look
shift m Always = Always
shift m Never = Never
shift m (Kind n k) = Kind (n + m) k
shift m (Contextual n k) = Contextual (n + m) k
shift m (Joint n) = Joint (n + m)
shift m (Whole n) = Whole (n + m)
shift m Left = Left
shift m InCondition = InCondition
shift m Given = Given
shift m (Both a b) = Both (shift m a) (shift m b)
shift m (Either a b) = Either (shift m a) (shift m b)
shift m (Not a) = Not (shift m a)

-- a look where the mode is set
unfoldable pub in_mode : Bool → Look → Look
in_mode c InCondition = if c then Always else Never
in_mode c (Both a b) = Both (in_mode c a) (in_mode c b)
in_mode c (Either a b) = Either (in_mode c a) (in_mode c b)
in_mode c (Not a) = Not (in_mode c a)
in_mode c l = l

-- a look where nothing was given
unfoldable pub from_start : Look → Look
from_start Given = Never
from_start (Both a b) = Both (from_start a) (from_start b)
from_start (Either a b) = Either (from_start a) (from_start b)
from_start (Not a) = Not (from_start a)
from_start l = l

-- a rule that may give nothing where its looks fail: a sequence looks past it
unfoldable pub passes : Rule → Bool
passes (Opt a) = true
passes (Star a) = true
passes (Mode c a) = passes a
passes r = false

-- a rule that asks nothing and takes nothing
unfoldable pub is_silent : Rule → Bool
is_silent Nothing = true
is_silent (Say m) = true
is_silent r = false

-- Where a rule begins, given where the productions begin. A part that is wanted begins where the part itself does. In a node, in
-- a lead, and in a production that is called, nothing has been given yet.
unfoldable pub begins : (Production → Look) → Rule → Look
begins f Nothing = Always
begins f (One x) = spelled_at 0 x
begins f Any = Left
begins f (Then a b) =
    let first = begins f a in
    let second = begins f b in
    let both = Either first second in
    let sure = if passes a then both else first in
    if is_silent a then second else sure
begins f (Near w a b) = Both (begins f a) (shift w (begins f b))
begins f (Or a b) = Either (begins f a) (begins f b)
begins f (When l a) = l
begins f (Unless l a) = Both (Not l) (begins f a)
begins f (Opt a) = begins f a
begins f (Star a) = begins f a
begins f (Node kind a) = from_start (begins f a)
begins f (Wrap kind a) = begins f a
begins f (Want a m) = begins f a
begins f (Say m) = Always
begins f (Skip m) = Left
begins f Split = Left
begins f (Call x) = from_start (f x)
begins f (Continue x) = f x
begins f (Mode c a) = in_mode c (begins f a)
begins f (Lead a) = from_start (begins f a)

-- What the profile reads is kept.
use Rattle.std.proofs.Common.{◌≡◌, Bool, true, false, List, [], ◌∷◌, refl, sym, ap, ◌∙◌, inl, inr, if◌then◌else◌, true≢false}
use Rattle.std.proofs.lemmas.Bool.{cases_Bool}
use Rattle.parser_input.specs.Input.{input, token_of}
use Rattle.parser_input.specs.Leaf.{Leaf, is_trivia}
use Rattle.parser_input.specs.declared.edition.Edition.{Edition}
use Rattle.parser_events.specs.Forest as forest
use Rattle.rust_grammar.specs.Rule.{Production, Rule, Continue, source_file, macro_items, macro_statements, item, body, assoc_items, variants, record_fields, tuple_fields, visibility, attribute, meta, token_tree, use_tree, use_list, params, param, name, lifetime, name_ref, path, type_path, expr_path, generic_args, generic_arg, generic_params, generic_param, bounds, bound, where_clause, where_pred, any_type, ret_type, pattern, single_pattern, pattern_fields, pattern_field, literal, statement_list, block, statement, macro_statement, statement_end, macro_statement_end, expression, operation, operation_tail, pipe_tail, disjunction, conjunction, comparison, bit_or, bit_xor, bit_and, bit_shift, sum, product, cast, prefixed, postfix, after_dot, arguments, atom, field_values, field_value, block_like, if_expr, match_arms, match_arm, type_no_bounds, begins, passes, is_silent, shift, in_mode, from_start, there_at, pattern_atom, arm_body}
use Rattle.rust_grammar.specs.Notation.{row, one_of, any_of, is_longer, no_longer, longest}
use Rattle.rust_grammar.specs.Meaning.{Reading, Calls, read, sees, meaning, look_of, begins_below}
use Rattle.rust_grammar.specs.Paths.{paths}
use Rattle.rust_grammar.specs.Types.{types}
use Rattle.rust_grammar.specs.Patterns.{patterns}
use Rattle.rust_grammar.specs.Expressions.{expressions}
use Rattle.rust_grammar.specs.Statements.{statements}
use Rattle.rust_grammar.specs.Items.{items}
use Rattle.rust_grammar.specs.Whole.{rule, rank, whole}
use Rattle.rust_grammar.specs.Profile.{profile_paths, profile_types, profile_patterns, profile_expressions, profile_statements, profile_items, profile_rule, profile_rank, profile}
use Rattle.rust_grammar.specs.Entry.{entry}
use Rattle.rust_grammar.specs.Kept.{say_nothing, is_profile, ProfileBeginsAsBefore, ProfileReadsAsBefore, ProfileEntriesAreKept}
use Rattle.rust_grammar.proofs.Known.{same_look, is_never}
use Rattle.rust_grammar.proofs.Spelling.{same_parts}
use Rattle.rust_grammar.proofs.Quiet.{both_quiet, either_quiet, not_quiet, quiet, alike, alike-seen, is_new}
use Rattle.rust_grammar.proofs.KeptRules.{stands_for, stands, same_message, same_spelling, same_call, same_mode, is_left_out, kept, Silent, stays-silent, kept-so}
use Rattle.rust_grammar.proofs.ProfileTable.{profile_fine, profile-means}
use Rattle.rust_grammar.proofs.WholeTable.{claim}
use Rattle.rust_grammar.proofs.Induction.{HoldOf, meaning-holds-of, meaning-holds}

-- where each production begins
all_alike : (x : Production) → (if stands x then alike (look_of whole x) (look_of profile (stands_for x)) else true) ≡ true
unfolding stands stands_for alike same_look quiet both_quiet either_quiet not_quiet look_of begins_below begins passes is_silent shift in_mode from_start there_at row one_of any_of is_longer no_longer longest rule rank whole paths types patterns expressions statements items profile_rule profile_rank profile profile_paths profile_types profile_patterns profile_expressions profile_statements profile_items
all_alike source_file = refl
all_alike macro_items = refl
all_alike macro_statements = refl
all_alike item = refl
all_alike body = refl
all_alike assoc_items = refl
all_alike variants = refl
all_alike record_fields = refl
all_alike tuple_fields = refl
all_alike visibility = refl
all_alike attribute = refl
all_alike meta = refl
all_alike token_tree = refl
all_alike use_tree = refl
all_alike use_list = refl
all_alike params = refl
all_alike param = refl
all_alike name = refl
all_alike lifetime = refl
all_alike name_ref = refl
all_alike path = refl
all_alike type_path = refl
all_alike expr_path = refl
all_alike generic_args = refl
all_alike generic_arg = refl
all_alike generic_params = refl
all_alike generic_param = refl
all_alike bounds = refl
all_alike bound = refl
all_alike where_clause = refl
all_alike where_pred = refl
all_alike any_type = refl
all_alike ret_type = refl
all_alike pattern = refl
all_alike single_pattern = refl
all_alike pattern_fields = refl
all_alike pattern_field = refl
all_alike literal = refl
all_alike statement_list = refl
all_alike block = refl
all_alike statement = refl
all_alike macro_statement = refl
all_alike statement_end = refl
all_alike macro_statement_end = refl
all_alike expression = refl
all_alike operation = refl
all_alike operation_tail = refl
all_alike pipe_tail = refl
all_alike disjunction = refl
all_alike conjunction = refl
all_alike comparison = refl
all_alike bit_or = refl
all_alike bit_xor = refl
all_alike bit_and = refl
all_alike bit_shift = refl
all_alike sum = refl
all_alike product = refl
all_alike cast = refl
all_alike prefixed = refl
all_alike postfix = refl
all_alike after_dot = refl
all_alike arguments = refl
all_alike atom = refl
all_alike field_values = refl
all_alike field_value = refl
all_alike block_like = refl
all_alike if_expr = refl
all_alike match_arms = refl
all_alike match_arm = refl
all_alike type_no_bounds = refl
all_alike pattern_atom = refl
all_alike arm_body = refl

-- the rule of the profile that each is compared with
unfoldable old_rule : Production → Rule
old_rule type_no_bounds = Continue any_type
old_rule single_pattern = Continue single_pattern
old_rule pattern_atom = profile_rule single_pattern
old_rule x = profile_rule x

all_kept : (x : Production) → (if stands x then kept (look_of whole) (look_of profile) (rule x) (old_rule x) else true) ≡ true
unfolding old_rule stands stands_for kept same_message same_spelling same_call same_mode same_parts is_left_out is_new is_never alike same_look quiet both_quiet either_quiet not_quiet look_of begins_below begins passes is_silent shift in_mode from_start there_at row one_of any_of is_longer no_longer longest rule rank whole paths types patterns expressions statements items profile_rule profile_rank profile profile_paths profile_types profile_patterns profile_expressions profile_statements profile_items
all_kept source_file = refl
all_kept macro_items = refl
all_kept macro_statements = refl
all_kept item = refl
all_kept body = refl
all_kept assoc_items = refl
all_kept variants = refl
all_kept record_fields = refl
all_kept tuple_fields = refl
all_kept visibility = refl
all_kept attribute = refl
all_kept meta = refl
all_kept token_tree = refl
all_kept use_tree = refl
all_kept use_list = refl
all_kept params = refl
all_kept param = refl
all_kept name = refl
all_kept lifetime = refl
all_kept name_ref = refl
all_kept path = refl
all_kept type_path = refl
all_kept expr_path = refl
all_kept generic_args = refl
all_kept generic_arg = refl
all_kept generic_params = refl
all_kept generic_param = refl
all_kept bounds = refl
all_kept bound = refl
all_kept where_clause = refl
all_kept where_pred = refl
all_kept any_type = refl
all_kept ret_type = refl
all_kept pattern = refl
all_kept single_pattern = refl
all_kept pattern_fields = refl
all_kept pattern_field = refl
all_kept literal = refl
all_kept statement_list = refl
all_kept block = refl
all_kept statement = refl
all_kept macro_statement = refl
all_kept statement_end = refl
all_kept macro_statement_end = refl
all_kept expression = refl
all_kept operation = refl
all_kept operation_tail = refl
all_kept pipe_tail = refl
all_kept disjunction = refl
all_kept conjunction = refl
all_kept comparison = refl
all_kept bit_or = refl
all_kept bit_xor = refl
all_kept bit_and = refl
all_kept bit_shift = refl
all_kept sum = refl
all_kept product = refl
all_kept cast = refl
all_kept prefixed = refl
all_kept postfix = refl
all_kept after_dot = refl
all_kept arguments = refl
all_kept atom = refl
all_kept field_values = refl
all_kept field_value = refl
all_kept block_like = refl
all_kept if_expr = refl
all_kept match_arms = refl
all_kept match_arm = refl
all_kept type_no_bounds = refl
all_kept pattern_atom = refl
all_kept arm_body = refl

chosen-test : (b t : Bool) → b ≡ true → (if b then t else true) ≡ true → t ≡ true
chosen-test true t e h = h
chosen-test false t e h = absurd (true≢false (sym e))

-- what the profile gives, by the rule that is compared
old-means : (x : Production) (c : Bool) (s : Reading) → meaning profile (stands_for x) c s ≡ read (look_of profile) (meaning profile) c (old_rule x) s
unfolding old_rule stands_for read
old-means type_no_bounds c s = refl
old-means single_pattern c s = refl
old-means pattern_atom c s = profile-means single_pattern c s
old-means x c s = profile-means x c s

abbrev Keeps : Production → Bool → Reading → Reading → Type 0
Keeps y d t u = stands y ≡ true → Silent t → u ≡ meaning profile (stands_for y) d t

abbrev KeepsSilent : Production → Bool → Reading → Reading → Type 0
KeepsSilent y d t u = Silent t → Silent u

abbrev Anything : Production → Bool → Reading → Reading → Type 0
Anything y d t u = Unit {0}

unfoldable unmade : Calls
unmade y d t = t

unmade-silent : HoldOf KeepsSilent unmade
unfolding unmade
unmade-silent y d t h = h

productions-silent : HoldOf KeepsSilent (meaning whole)
productions-silent = meaning-holds KeepsSilent Anything unmade unmade-silent (λ y d t. tt) (λ y d t. tt) (λ call p q x c s h. stays-silent (look_of whole) call p (rule x) c s h)

profile-silent : HoldOf KeepsSilent (meaning profile)
profile-silent = meaning-holds-of profile claim profile_fine KeepsSilent Anything unmade unmade-silent (λ y d t. tt) (λ y d t. tt) (λ call p q x c s h. stays-silent (look_of profile) call p (profile.rule x) c s h)

-- What is taken for calls that are not made: what the profile gives.
unfoldable other : Calls
other y d t = meaning profile (stands_for y) d t

other-keeps : HoldOf Keeps other
unfolding other
other-keeps y d t e h = refl

other-silent : HoldOf KeepsSilent other
unfolding other
other-silent y d t h = profile-silent (stands_for y) d t h

productions-kept : HoldOf Keeps (meaning whole)
productions-kept =
    meaning-holds Keeps KeepsSilent other other-keeps other-silent productions-silent
    (λ call p q x c s e h.
    kept-so (look_of whole) (look_of profile) call (meaning profile) q p (rule x) (old_rule x) c s (chosen-test (stands x) _ e (all_kept x)) h ∙ sym (old-means x c s))

own : (x : Production) → is_profile x ≡ true → (stands x ≡ true) × (stands_for x ≡ x)
unfolding is_profile stands stands_for
own type_no_bounds e = absurd (true≢false (sym e))
own pattern_atom e = absurd (true≢false (sym e))
own arm_body e = absurd (true≢false (sym e))
own x e = (refl, refl)

-- THE laws.
pub begins-as-before : ProfileBeginsAsBefore
begins-as-before x c s e h =
    let o = own x e in
    alike-seen (look_of whole x) (look_of profile (stands_for x)) c s (chosen-test (stands x) _ o.0 (all_alike x)) h
    ∙ ap (λ (y : Production). sees c s (look_of profile y)) o.1

pub reads-as-before : ProfileReadsAsBefore
reads-as-before x c s e h = let o = own x e in productions-kept x c s o.0 h ∙ ap (λ (y : Production). meaning profile y c s) o.1

silent-input : (edition : Edition) (ls : List Leaf) → say_nothing (input false edition ls) ≡ true
unfolding input say_nothing token_of
silent-input edition [] = refl
silent-input edition (l ∷ ls) = elim (cases_Bool (is_trivia l)) [
  | inl e ↦ rw e (silent-input edition ls)
  | inr e ↦ rw e (silent-input edition ls)
]

pub entries-as-before : ProfileEntriesAreKept
unfolding entry
entries-as-before x edition ls e =
    let ts = input false edition ls in
    let start : Reading = record { given = forest.End; rest = ts } in
    let n = silent-input edition ls in
    rw (reads-as-before x false start e n, begins-as-before x false start e n) refl

-- The lists that open with one token, and the parts that are expected or optional in several places.
use Rattle.std.proofs.Common.{◌≡◌, ◌≢◌, ℕ, ◌+◌, ◌≤◌, Bool, refl, subst, arith}
use Rattle.parser_events.specs.View.{View}
use Rattle.parser_input.specs.Kinds.{EOF}
use Rattle.rust_grammar.specs.Shared.{path_type}
use Rattle.rust_grammar.specs.Words.{one, '<', 'where'}
use Rattle.grammar_reader.specs.Lists.{closing_in, element_in, kind_in, left_by, list_of, opening_in}
use Rattle.grammar_reader.specs.Parts.{part_begins, part_of}
use Rattle.grammar_reader.specs.Told.{element_of, looks_before, looks_in}
use Rattle.grammar_reader.specs.declared.grammar.lists.Element.{Element}
use Rattle.grammar_reader.specs.declared.grammar.lists.Element.TheVariants as elements
use Rattle.grammar_reader.specs.declared.grammar.lists.ListKind.{ListKind}
use Rattle.grammar_reader.specs.declared.grammar.lists.ListKind.TheVariants as lists
use Rattle.grammar_reader.specs.declared.grammar.parts.Part.{Part}
use Rattle.grammar_reader.specs.declared.grammar.parts.Part.TheVariants as parts
use Rattle.rust_productions.specs.Reads.{looks, Reads, Saw}
use Rattle.rust_productions.specs.declared.condition.Condition.{Condition}
use Rattle.rust_productions.proofs.Begins.{saw-type-path}
use Rattle.rust_productions.proofs.Facts.{begun, nothing, ◌and◌}
use Rattle.rust_productions.proofs.Ranges.{begins-call}
use Rattle.rust_productions.proofs.Seen.{starts-here}
use Rattle.rust_grammar.specs.Expressions.{expressions}
use Rattle.rust_grammar.specs.Items.{items}
use Rattle.rust_grammar.specs.Meaning.{begins_below, look_of}
use Rattle.rust_grammar.specs.Notation.{any_of, is_longer, no_longer, longest, one_of, row, next, wide, listed, ◌⟨◌⟩}
use Rattle.rust_grammar.specs.Paths.{paths}
use Rattle.rust_grammar.specs.Patterns.{patterns}
use Rattle.rust_grammar.specs.Rule as rules
use Rattle.rust_grammar.specs.Rule.{begins, in_mode, from_start, is_silent, passes, shift, there_at, Call, When}
use Rattle.rust_grammar.specs.Statements.{statements}
use Rattle.rust_grammar.specs.Types.{types}
use Rattle.rust_grammar.specs.Whole.{rule, whole}

-- A list reads as its kind says if its node, its delimiters and its elements are those of that kind.
pub reads-list :
    (list : ListKind) (kind opening : ℕ) (element : Element) (closing : ℕ) {c : Condition} {old new : View}
    → kind ≡ kind_in list → opening ≡ opening_in list → element ≡ element_in list → closing ≡ closing_in list
    → Reads c (kind ⟨ listed kind (one opening) (element_of element) (one closing) ⟩) old new → Reads c (list_of list) old new
reads-list list kind opening element closing {c} {old} {new} is opens holds closes p =
    subst (λ (k : ℕ). Reads c (k ⟨ listed k (one (opening_in list)) (element_of (element_in list)) (one (closing_in list)) ⟩) old new) is
    (subst (λ (o : ℕ). Reads c (kind ⟨ listed kind (one o) (element_of (element_in list)) (one (closing_in list)) ⟩) old new) opens
    (subst (λ (e : Element). Reads c (kind ⟨ listed kind (one opening) (element_of e) (one (closing_in list)) ⟩) old new) holds
    (subst (λ (z : ℕ). Reads c (kind ⟨ listed kind (one opening) (element_of element) (one z) ⟩) old new) closes p)))

pub closes-inside : (list : ListKind) → closing_in list ≢ EOF
closes-inside lists.Arguments e = absurd (omega (arith, e))
closes-inside lists.Captures e = absurd (omega (arith, e))
closes-inside lists.ClosureParams e = absurd (omega (arith, e))
closes-inside lists.FieldValues e = absurd (omega (arith, e))
closes-inside lists.FnPtrParams e = absurd (omega (arith, e))
closes-inside lists.GenericParams e = absurd (omega (arith, e))
closes-inside lists.Params e = absurd (omega (arith, e))
closes-inside lists.PatternFields e = absurd (omega (arith, e))
closes-inside lists.RecordFields e = absurd (omega (arith, e))
closes-inside lists.SlicePattern e = absurd (omega (arith, e))
closes-inside lists.TupleFields e = absurd (omega (arith, e))
closes-inside lists.TuplePattern e = absurd (omega (arith, e))
closes-inside lists.Variants e = absurd (omega (arith, e))

-- Its opening token pays for the looks at the end of a list.
pub list-pays : (e : Element) → left_by e + looks_before e + looks_in e + 11 ≤ 4096
list-pays elements.Captured = omega arith
list-pays elements.ClosureParam = omega arith
list-pays elements.Expression = omega arith
list-pays elements.FieldValue = omega arith
list-pays elements.FnPtrParam = omega arith
list-pays elements.GenericArg = omega arith
list-pays elements.GenericParam = omega arith
list-pays elements.Param = omega arith
list-pays elements.Pattern = omega arith
list-pays elements.PatternField = omega arith
list-pays elements.RecordField = omega arith
list-pays elements.TupleField = omega arith
list-pays elements.Type = omega arith
list-pays elements.TypeArg = omega arith
list-pays elements.Variant = omega arith

-- A part begins where its rule does.
pub part-there : (part : Part) {c : Condition} {b : Bool} {v : View} → Saw c (part_begins part) v b → Saw c (begins looks (part_of part)) v b
unfolding look_of begins_below whole rule items statements expressions patterns types paths there_at shift passes is_silent begins in_mode from_start row one_of any_of no_longer longest is_longer
part-there parts.Arguments saw = begins-call rules.arguments saw
part-there parts.AssocItems saw = begins-call rules.assoc_items saw
part-there parts.Block saw = begins-call rules.block saw
part-there parts.ClosureParams saw = saw
part-there parts.FnPtrParams saw = saw
part-there parts.GenericArgs saw = begins-call rules.generic_args saw
part-there parts.GenericParams saw = begins-call rules.generic_params saw
part-there parts.MatchArms saw = begins-call rules.match_arms saw
part-there parts.NewGenericParams saw = starts-here (part_of parts.NewGenericParams) (saw and nothing) refl
part-there parts.NewWhereClause saw = starts-here (part_of parts.NewWhereClause) (saw and nothing) refl
part-there parts.Params saw = begins-call rules.params saw
part-there parts.PathType saw = starts-here path_type (begun rules.type_path (saw-type-path saw) nothing) refl
part-there parts.Pattern saw = begins-call rules.pattern saw
part-there parts.RecordFields saw = begins-call rules.record_fields saw
part-there parts.SinglePattern saw = begins-call rules.single_pattern saw
part-there parts.StatementList saw = begins-call rules.statement_list saw
part-there parts.Type saw = begins-call rules.any_type saw
part-there parts.TypeNoBounds saw = begins-call rules.type_no_bounds saw
part-there parts.Variants saw = begins-call rules.variants saw
part-there parts.WhereClause saw = begins-call rules.where_clause saw
part-there parts.WherePred saw = begins-call rules.where_pred saw

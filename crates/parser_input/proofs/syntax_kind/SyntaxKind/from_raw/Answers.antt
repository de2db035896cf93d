use Rattle.std.proofs.Common.{◌≡◌, slice_get, ◌∙◌, subst, sym, IfSome}
use Rattle.parser_input.specs.Kind.{raw_of}
use Rattle.parser_input.specs.KindTable.{all_kinds}
use Rattle.parser_input.proofs.KindTable.{copied_item, raw_of-get, slice_get-kinds}
use Rattle.parser_input.proofs.syntax_kind.SyntaxKind.from_raw.Goals as goal

taken : (c : goal.After-copied) → c.copied.result ≡ slice_get all_kinds c.args.raw
unfolding all_kinds
taken c = c.copied.ensures ∙ copied_item all_kinds c.args.raw c.get.result c.get.ensures.lookup

pub returns-clause-number : goal.returns-clause-number
returns-clause-number c = subst (λ r. IfSome r (λ kind. raw_of kind ≡ c.args.raw)) (sym (taken c)) (raw_of-get c.args.raw)

pub returns-clause-inverse : goal.returns-clause-inverse
returns-clause-inverse c kind h = taken c ∙ rw (← h) (slice_get-kinds kind)

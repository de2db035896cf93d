use Rattle.std.proofs.Common.{◌≡◌, List, ℕ, Bool, true, false, ◌&&◌, nat_eq, ap, sym, ◌∙◌}
use Rattle.std.specs.Cmp.Lexicographic.{pointwise}
use Rattle.parser_input.specs.Kind.{raw_of}
use Rattle.parser_input.specs.declared.syntax_kind.SyntaxKind.{SyntaxKind}
use Rattle.rowan.specs.Place.{kind_at, text_at}
use Rattle.renamer.specs.Taken.{named_kind, naming_of}
use Rattle.renamer.proofs.RawKinds.{named-kind}
use Rattle.renamer.proofs.element.is_named.Goals as goal

pub returns-then-is_of_kind_in : goal.returns-then-is_of_kind_in
returns-then-is_of_kind_in c =
    let place = c.args.token.now.place in
    let by = naming_of c.args.names.now in
    let kind : nat_eq (kind_at place) (named_kind by) ≡ true =
    sym (named-kind by (kind_at place)) ∙ ap (λ (k : SyntaxKind). nat_eq (raw_of k) (named_kind by)) (sym c.kind.ensures) ∙ sym c.is_of_kind_in.ensures ∙ c.if-is_of_kind_in.true in
    c.eq.ensures ∙ ap (λ (t : List ℕ). pointwise nat_eq t by.old) c.text.ensures ∙ sym (ap (λ (b : Bool). b && pointwise nat_eq (text_at place) by.old) kind)

pub returns-else-is_of_kind_in : goal.returns-else-is_of_kind_in
returns-else-is_of_kind_in c =
    let place = c.args.token.now.place in
    let by = naming_of c.args.names.now in
    let kind : nat_eq (kind_at place) (named_kind by) ≡ false =
    sym (named-kind by (kind_at place)) ∙ ap (λ (k : SyntaxKind). nat_eq (raw_of k) (named_kind by)) (sym c.kind.ensures) ∙ sym c.is_of_kind_in.ensures ∙ c.if-is_of_kind_in.false in
    c.if-is_of_kind_in.false ∙ sym (ap (λ (b : Bool). b && pointwise nat_eq (text_at place) by.old) kind)

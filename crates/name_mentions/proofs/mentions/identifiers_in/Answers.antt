use Rattle.std.proofs.Common.{◌≡◌, ◌∙◌, ℕ, ◌+◌, ◌<◌, [], ap, sym, arith, length}
use Rattle.std.proofs.lemmas.List.Sums.{count_by_more_no, count_by_more_yes}
use Rattle.parser_input.specs.Kinds.{EOF}
use Rattle.parser_input.specs.Lexed.{quiet}
use Rattle.parser_input.specs.Stored.{leaf_at}
use Rattle.name_mentions.specs.Mentions.{is_identifier}
use Rattle.name_mentions.proofs.MentionLemmas.{leaf-is-name}
use Rattle.name_mentions.proofs.mentions.identifiers_in.Goals.{then-has_name, else-has_name}
use Rattle.name_mentions.proofs.mentions.identifiers_in.Goals as goal

pub loop-i-preserved : goal.loop-i-preserved
loop-i-preserved c =
    let name = c.args.name.now in
    let leaves = c.args.tokens.now.leaves in
    let i = c.loop-i.i in
    let l = leaf_at leaves i in
    let h : i < length leaves = omega arith in
    let is : c.has_name.result ≡ is_identifier name l =
    c.has_name.ensures ∙ leaf-is-name name _ c.text.result.now l c.text.utf8 c.kind.ensures c.text.ensures in
    elim c.if-has_name.branch [
      | then-has_name w ↦ record {
        few = omega (arith, w.count-is, c.loop-i.invariant.few);
        same =
            w.count-is
            ∙ ap (λ (k : ℕ). k + 1) c.loop-i.invariant.same
            ∙ sym (count_by_more_yes (is_identifier name) leaves i (quiet EOF []) h (sym is ∙ w.if-has_name.true));
      }
      | else-has_name w ↦ record {
        few = omega (arith, w.count-is, c.loop-i.invariant.few);
        same =
            w.count-is
            ∙ c.loop-i.invariant.same
            ∙ sym (count_by_more_no (is_identifier name) leaves i (quiet EOF []) h (sym is ∙ w.if-has_name.false));
      }
    ]

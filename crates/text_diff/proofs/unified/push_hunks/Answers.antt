use Rattle.std.proofs.Common.{◌≡◌, ◌∙◌, ◌<◌, ◌++◌, refl, ap, sym, map, length, List, ℕ, arith, append_assoc, append-nil}
use Rattle.std.specs.List.{flat_map}
use Rattle.std.proofs.lemmas.Bool.{eqb-true}
use Rattle.text_diff.specs.Lines.{Line}
use Rattle.text_diff.specs.Unified.{hunk_text}
use Rattle.text_diff.proofs.HunkLemmas.{first-of, texts-none}
use Rattle.text_diff.proofs.unified.push_hunks.Goals as goal

pub loop-rest-init : goal.loop-rest-init
loop-rest-init c = record { text = refl; run = (0, 0, record { run = c.requires; starts = λ d ds e. omega arith }) }

pub push_hunk-requires-clause-run : goal.push_hunk-requires-clause-run
push_hunk-requires-clause-run c =
    let run = c.loop-rest.invariant.run in
    let some : 0 < length c.loop-rest.rest.now = omega (arith, c.group_len.ensures.some, c.group_len.ensures.within) in
    rw c.split_at.ensures.front
    (first-of (map (λ l. l.now) c.args.old.now) (map (λ l. l.now) c.args.new.now) c.loop-rest.rest.now run.0 run.1 c.group_len.result run.2 some c.group_len.ensures.value).group

pub loop-rest-preserved : goal.loop-rest-preserved
loop-rest-preserved c =
    let run = c.loop-rest.invariant.run in
    let some : 0 < length c.loop-rest.rest.now = omega (arith, c.group_len.ensures.some, c.group_len.ensures.within) in
    let first = first-of (map (λ l. l.now) c.args.old.now) (map (λ l. l.now) c.args.new.now) c.loop-rest.rest.now run.0 run.1 c.group_len.result run.2 some c.group_len.ensures.value in
    let text = rw c.split_at.ensures.front at c.in_ok-push_hunk.ensures in
    record {
      text = rw (c.split_at.ensures.back, text, append_assoc) (ap (λ v. c.loop-rest.text.items ++ v) (sym first.texts) ∙ c.loop-rest.invariant.text);
      run = (first.next_old, first.next_new, rw c.split_at.ensures.back first.next);
    }

pub returns : goal.returns
returns c =
    let none : length c.loop-rest.rest.now ≡ 0 = eqb-true _ _ (sym c.is_empty.ensures ∙ c.loop-rest-test.false) in
    sym (append-nil c.loop-rest.text.items)
    ∙ ap (λ v. c.loop-rest.text.items ++ v) (sym (texts-none (map (λ l. l.now) c.args.old.now) (map (λ l. l.now) c.args.new.now) c.loop-rest.rest.now none))
    ∙ c.loop-rest.invariant.text

use Rattle.std.proofs.Common.{◌≡◌, ◌∙◌, ◌<◌, ◌⊎◌, length, arith, ap, sym, Some, None, inl, inr}
use Rattle.std.specs.Prelude.{is_some, unwrap_or, string_bytes, IsCharBoundary}
use Rattle.std.specs.List.{replace_range}
use Rattle.text_changes.specs.Places.{offset_in}
use Rattle.text_changes.specs.Changes.{changed}
use Rattle.text_changes.proofs.ChangeLemmas.{is-kept, length-replaced}
use Rattle.text_changes.proofs.change.apply_change.Goals as goal
use Rattle.text_changes.proofs.change.apply_change.Goals.{then-start-end-via-then-start-end, then-start-end-via-else-start-end+then-len-end}

kept : (c : goal.Joined-then-start-end) → changed c.args.encoding c.args.limit (string_bytes c.args.text.now) c.args.change.now ≡ None
kept c =
    let is-start : offset_in c.args.encoding (string_bytes c.args.text.now) c.args.change.now.start ≡ Some c.in-Some-Some.start = rw c.as_str.ensures.value at (sym c.in_ok-found.ensures.start ∙ c.in-Some-Some.is-0) in
    let is-end : offset_in c.args.encoding (string_bytes c.args.text.now) c.args.change.now.end ≡ Some c.in-Some-Some.end = rw c.as_str.ensures.value at (sym c.in_ok-found.ensures.end ∙ c.in-Some-Some.is-1) in
    let cuts : IsCharBoundary (string_bytes c.args.text.now) c.in-Some-Some.end = rw (c.in-Some-Some.is-1, c.as_str.ensures.value) at c.in_ok-found.ensures.cuts_end in
    let why : (c.in-Some-Some.end < c.in-Some-Some.start) ⊎ (c.args.limit < length (replace_range (string_bytes c.args.text.now) c.in-Some-Some.start c.in-Some-Some.end c.args.change.now.text.now)) = elim c.then-start-end.branch [
      | then-start-end-via-then-start-end w ↦ inl w.if-start-end.true
      | then-start-end-via-else-start-end+then-len-end w ↦
          let len = length-replaced (string_bytes c.args.text.now) c.args.change.now.text.now c.in-Some-Some.start c.in-Some-Some.end w.if-start-end.false cuts.0 in
          inr (omega (arith, len, w.len.ensures, w.if-len-end.true))
    ] in
    is-kept c.args.encoding c.args.limit (string_bytes c.args.text.now) c.args.change.now c.in-Some-Some.start c.in-Some-Some.end is-start is-end why

pub returns-then-start-end-clause-made : goal.returns-then-start-end-clause-made
returns-then-start-end-clause-made c = ap is_some (sym (kept c))

pub returns-then-start-end-clause-text : goal.returns-then-start-end-clause-text
returns-then-start-end-clause-text c = ap (λ found. unwrap_or found (string_bytes c.args.text.now)) (sym (kept c))

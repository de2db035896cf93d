use Rattle.std.proofs.Common.{◌≡◌, ◌∙◌, ◌+◌, ◌-◌, ◌++◌, List, ℕ, ap, chars, drop, length, string_bytes, eqb, false, arith, sym}
use Rattle.std.specs.Char.{len_utf8}
use Rattle.std.proofs.lemmas.Bool.Decides.{nat_tests}
use Rattle.std.proofs.lemmas.Iterator.{YieldsList-from_chars}
use Rattle.std.proofs.lemmas.Iterator.Consumers.{YieldsList-turn, YieldsList-end}
use Rattle.std.proofs.lemmas.List.{length_push}
use Rattle.shown_lines.specs.Shown.{below, caret_line}
use Rattle.shown_lines.proofs.Characters.{caret-end, caret-more, caret-stop}
use Rattle.shown_lines.proofs.caret_line.Goals.{in-None, in-Some+then-left-eq0}
use Rattle.shown_lines.proofs.caret_line.Goals as goal

pub loop-c-preserved : goal.loop-c-preserved
loop-c-preserved c =
    let cs = chars c.args.line.now in
    let n = length c.loop-c.yielded in
    let x = c.in-Some.c in
    let t = YieldsList-turn (YieldsList-from_chars c.args.line.now c.utf8.line cc) c.loop-c.yielded _ c.loop-c.yielded_by _ _ x c.in-Some.is c.next.ensures.steps in
    let more = length_push c.loop-c.yielded x in
    let left : eqb c.loop-c.left 0 ≡ false = grind (arith, nat_tests) in
    let less : c.saturating_sub-left.result ≡ c.loop-c.left - len_utf8 x =
    c.saturating_sub-left.ensures ∙ ap (λ (k : ℕ). c.loop-c.left - k) c.len_utf8.ensures.value in
    let pushed : string_bytes c.push_str.new.self ≡ string_bytes c.loop-c.front ++ below x =
    c.in_ok-push_str.ensures.bytes ∙ ap (λ (v : List ℕ). string_bytes c.loop-c.front ++ v) c.below.ensures in
    ap (λ (k : ℕ). string_bytes c.push_str.new.self ++ caret_line c.saturating_sub-left.result (drop k cs)) more
    ∙ ap (λ (k : ℕ). string_bytes c.push_str.new.self ++ caret_line k (drop (n + 1) cs)) less
    ∙ caret-more (string_bytes c.push_str.new.self) (string_bytes c.loop-c.front) c.loop-c.left cs n x t left pushed
    ∙ c.loop-c.invariant

pub returns : goal.returns
returns c =
    let cs = chars c.args.line.now in
    let n = length c.loop-c.yielded in
    let front = string_bytes c.loop-c.front in
    elim c.match-next.branch [
      | in-None w ↦
          let t = YieldsList-end (YieldsList-from_chars c.args.line.now c.utf8.line cc) c.loop-c.yielded _ c.loop-c.yielded_by _ _ w.in-None.is c.next.ensures.steps in
          sym (caret-end front cs c.loop-c.left n (omega (arith, t.1))) ∙ c.loop-c.invariant
      | in-Some+then-left-eq0 w ↦
          sym (ap (λ (k : ℕ). front ++ caret_line k (drop n cs)) w.if-left-eq0.true ∙ caret-stop front (drop n cs)) ∙ c.loop-c.invariant
    ]

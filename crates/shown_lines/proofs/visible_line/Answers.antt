use Rattle.std.proofs.Common.{◌≡◌, ◌∙◌, ◌++◌, ℕ, ap, chars, drop, length, string_bytes, encode_utf8, arith, sym}
use Rattle.std.proofs.lemmas.Iterator.{YieldsList-from_chars}
use Rattle.std.proofs.lemmas.Iterator.Consumers.{YieldsList-turn, YieldsList-end}
use Rattle.std.proofs.lemmas.List.{length_push}
use Rattle.shown_lines.specs.Shown.{visible, visible_line}
use Rattle.shown_lines.proofs.Characters.{line-end, line-more}
use Rattle.shown_lines.proofs.visible_line.Goals as goal

pub loop-c-preserved : goal.loop-c-preserved
loop-c-preserved c =
    let cs = chars c.args.line.now in
    let n = length c.loop-c.yielded in
    let t = YieldsList-turn (YieldsList-from_chars c.args.line.now c.utf8.line cc) c.loop-c.yielded _ c.loop-c.yielded_by _ _ c.in-Some.c c.in-Some.is c.next.ensures.steps in
    let more = length_push c.loop-c.yielded c.in-Some.c in
    let pushed : string_bytes c.push.new.self ≡ string_bytes c.loop-c.shown ++ encode_utf8 (visible c.in-Some.c) =
    c.in_ok-push.ensures.bytes ∙ ap (λ (v : ℕ). string_bytes c.loop-c.shown ++ encode_utf8 v) c.visible.ensures in
    ap (λ (k : ℕ). string_bytes c.push.new.self ++ visible_line (drop k cs)) more
    ∙ line-more (string_bytes c.push.new.self) (string_bytes c.loop-c.shown) cs n c.in-Some.c t pushed
    ∙ c.loop-c.invariant

pub returns : goal.returns
returns c =
    let cs = chars c.args.line.now in
    let n = length c.loop-c.yielded in
    let t = YieldsList-end (YieldsList-from_chars c.args.line.now c.utf8.line cc) c.loop-c.yielded _ c.loop-c.yielded_by _ _ c.in-None.is c.next.ensures.steps in
    sym (line-end (string_bytes c.loop-c.shown) cs n (omega (arith, t.1))) ∙ c.loop-c.invariant

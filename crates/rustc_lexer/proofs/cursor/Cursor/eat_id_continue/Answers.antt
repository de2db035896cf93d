use Rattle.std.proofs.Common.{◌≡◌, ◌<◌, ◌∙◌, ◌&&◌, ltb, ap, sym, drop, chars, get_or, arith}
use Rattle.rustc_lexer.specs.Characters.{is_id_continue}
use Rattle.rustc_lexer.specs.Scan.{run_len}
use Rattle.rustc_lexer.proofs.Seams.{closed-found, run-front, run-front-all}
use Rattle.rustc_lexer.proofs.Wide.{wide_and, continue_zero}
use Rattle.rustc_lexer.proofs.cursor.Cursor.eat_id_continue.Goals as goal

pub range_from-self-inside-requires : goal.range_from-self-inside-requires
range_from-self-inside-requires c =
    let found = closed-found (λ b. ltb b 128 && is_id_continue b) (λ b h. wide_and is_id_continue b h) c.self.inside.rest.now c.as_bytes.result.now c.continue_len-n.result c.self.invariant c.as_bytes.ensures.value c.continue_len-n.ensures in
    λ _. found.boundary

pub returns-then-first-ge128 : goal.returns-then-first-ge128
returns-then-first-ge128 c =
    let found = closed-found (λ b. ltb b 128 && is_id_continue b) (λ b h. wide_and is_id_continue b h) c.self.inside.rest.now c.as_bytes.result.now c.continue_len-n.result c.self.invariant c.as_bytes.ensures.value c.continue_len-n.ensures in
    let front = ap chars c.range_from-self-inside.ensures.value ∙ found.left ∙ ap (λ z. drop (run_len (λ b. ltb b 128 && is_id_continue b) z) z) c.self.view_is in
    c.eat_wide_id_continue.ensures ∙ ap (λ z. drop (run_len is_id_continue z) z) front ∙ run-front is_id_continue c.args.self.now

pub returns-else-first-ge128 : goal.returns-else-first-ge128
returns-else-first-ge128 c =
    let found = closed-found (λ b. ltb b 128 && is_id_continue b) (λ b h. wide_and is_id_continue b h) c.self.inside.rest.now c.as_bytes.result.now c.continue_len-n.result c.self.invariant c.as_bytes.ensures.value c.continue_len-n.ensures in
    let front = ap chars c.range_from-self-inside.ensures.value ∙ found.left ∙ ap (λ z. drop (run_len (λ b. ltb b 128 && is_id_continue b) z) z) c.self.view_is in
    let here : get_or (drop (run_len (λ b. ltb b 128 && is_id_continue b) c.args.self.now) c.args.self.now) 0 0 ≡ c.first.result = sym (c.first.ensures ∙ ap (λ z. get_or z 0 0) front) in
    let small : get_or (drop (run_len (λ b. ltb b 128 && is_id_continue b) c.args.self.now) c.args.self.now) 0 0 < 128 = omega (arith, c.if-first-ge128.false) in
    front ∙ run-front-all is_id_continue c.args.self.now continue_zero small

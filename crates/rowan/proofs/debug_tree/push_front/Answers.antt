use Rattle.std.proofs.Common.{◌≡◌, ◌++◌, length, refl, replicate, arith, ap, ◌∙◌, append_assoc}
use Rattle.std.specs.Prelude.{string_bytes}
use Rattle.std.specs.List.{concat}
use Rattle.std.specs.Fmt.{decimal}
use lib.Chars.{codes}
use Rattle.std.proofs.lemmas.Result.{on_ok_weaker}
use Rattle.rowan.specs.Debug.{line_front}
use Rattle.rowan.proofs.Printing.{twice_len, one_more, after_as}
use Rattle.rowan.proofs.debug_tree.push_front.Goals as goal

pub levels-preserved : goal.levels-preserved
levels-preserved c =
    one_more _ _ _ _ c.levels._level c.levels.invariant c.in_ok-push_str.ensures.bytes

pub returns-clause-front : goal.returns-clause-front
returns-clause-front c =
    let n : c.levels._level ≡ c.args.depth = omega arith in
    let levels = concat (replicate c.args.depth (codes "  ")) in
    let i : string_bytes c.levels.to ≡ string_bytes c.args.to.now ++ levels = c.levels.invariant ∙ ap (λ k. string_bytes c.args.to.now ++ concat (replicate k (codes "  "))) n in
    let rest = c.args.name.now ++ (codes "@" ++ (decimal c.args.start ++ (codes ".." ++ decimal c.args.end))) in
    let e : levels ++ rest ≡ line_front c.args.depth c.args.name.now c.args.start c.args.end = simp append_assoc in
    on_ok_weaker c.write.result (after_as (string_bytes c.args.to.now) (string_bytes c.levels.to) (string_bytes c.write.new.self) levels rest _ i e) c.write.ensures.bytes

pub prove-unreachable-requires : goal.prove-unreachable-requires
prove-unreachable-requires c =
    let n : c.levels._level ≡ c.args.depth = omega arith in
    let i : string_bytes c.levels.to ≡ string_bytes c.args.to.now ++ concat (replicate c.args.depth (codes "  ")) = c.levels.invariant ∙ ap (λ k. string_bytes c.args.to.now ++ concat (replicate k (codes "  "))) n in
    let t = twice_len (string_bytes c.args.to.now) (codes "  ") c.args.depth refl in
    let l = ap length i in
    omega (arith, t, l, c.len.ensures, c.if-prove.true)

use Rattle.std.proofs.Common.{◌≡◌, ◌∙◌, ◌+◌, ◌++◌, ◌∷◌, [], List, ℕ, ap, append_assoc, append-nil, arith, chars, drop, length, sym}
use Rattle.std.proofs.lemmas.Iterator.{YieldsList-from_chars}
use Rattle.std.proofs.lemmas.Iterator.Consumers.{YieldsList-turn, YieldsList-end}
use Rattle.std.proofs.lemmas.List.{at_drop_all, at_drop_more, length_push}
use Rattle.path_globs.proofs.chars_of.Goals as goal

pub loop-c-preserved : goal.loop-c-preserved
loop-c-preserved c =
    let cs = chars c.args.text.now in
    let n = length c.loop-c.yielded in
    let x = c.in-Some.c in
    let t = YieldsList-turn (YieldsList-from_chars c.args.text.now c.utf8.text cc) c.loop-c.yielded _ c.loop-c.yielded_by _ _ x c.in-Some.is c.next.ensures.steps in
    let more = length_push c.loop-c.yielded x in
    let split : drop n cs ≡ x ∷ drop (n + 1) cs = at_drop_more (λ (l : List ℕ). l) cs n x t.0 ∙ ap (λ (y : ℕ). y ∷ drop (n + 1) cs) (sym t.1) in
    ap (λ (l : List ℕ). l ++ drop (length (c.loop-c.yielded ++ x ∷ [])) cs) c.in_ok-push.ensures.items
    ∙ ap (λ (k : ℕ). (c.loop-c.found.items ++ x ∷ []) ++ drop k cs) more
    ∙ append_assoc c.loop-c.found.items (x ∷ []) (drop (n + 1) cs)
    ∙ ap (λ (l : List ℕ). c.loop-c.found.items ++ l) (sym split)
    ∙ c.loop-c.invariant

pub returns : goal.returns
returns c =
    let cs = chars c.args.text.now in
    let n = length c.loop-c.yielded in
    let t = YieldsList-end (YieldsList-from_chars c.args.text.now c.utf8.text cc) c.loop-c.yielded _ c.loop-c.yielded_by _ _ c.in-None.is c.next.ensures.steps in
    sym (append-nil c.loop-c.found.items)
    ∙ ap (λ (l : List ℕ). c.loop-c.found.items ++ l) (sym (at_drop_all (λ (l : List ℕ). l) cs n (omega (arith, t.1))))
    ∙ c.loop-c.invariant

use Rattle.std.proofs.Common.{◌≡◌, ◌+◌, ◌∷◌, [], ◌++◌, length, take, drop, sym, ◌∙◌, ap, subst, arith}
use Rattle.std.proofs.lemmas.List.{take_more, drop_more, take-append-drop, length-take-le}
use Rattle.tree_rewrite.specs.Change.{has_collision, replaces}
use Rattle.tree_rewrite.specs.Held.{Holds, IsPut, IsTaken, IsPutOrTaken}
use Rattle.tree_rewrite.proofs.HeldLemmas.{held-more, held-taken}
use Rattle.tree_rewrite.proofs.held_ways.held_ways.Goals as goal

pub returns-then-not-branch-clause-collision : goal.returns-then-not-branch-clause-collision
returns-then-not-branch-clause-collision c =
    let xs = c.args.changes.now in
    let i = c.loop-number.number in
    let x = c.index-changes-number.result in
    let taken : IsTaken (replaces x) c.loop-number.held = subst (IsPutOrTaken (replaces x) i c.loop-number.held c.put_change.new.held) c.if-not-branch.true c.in_ok-put_change.ensures.put in
    let rest : drop i xs ≡ x ∷ drop (i + 1) xs = drop_more xs i x c.loop-number-test.true ∙ ap (λ d. d ∷ drop (i + 1) xs) (sym c.index-changes-number.is) in
    let whole : take i xs ++ x ∷ drop (i + 1) xs ≡ xs = ap (λ l. take i xs ++ l) (sym rest) ∙ take-append-drop i xs in
    sym (ap has_collision (sym whole) ∙ held-taken c.loop-number.held (take i xs) x (drop (i + 1) xs) taken c.loop-number.invariant.holds)

pub loop-number-preserved : goal.loop-number-preserved
loop-number-preserved c =
    let xs = c.args.changes.now in
    let i = c.loop-number.number in
    let x = c.index-changes-number.result in
    let m = c.loop-number.held in
    let k = c.put_change.new.held in
    let put : IsPut (replaces x) i m k = subst (IsPutOrTaken (replaces x) i m k) c.if-not-branch.false c.in_ok-put_change.ensures.put in
    let long : i ≡ length (take i xs) = sym (length-take-le i xs (omega arith)) in
    let more = held-more m k (take i xs) x (subst (λ n. IsPut (replaces x) n m k) long put) c.loop-number.invariant.holds c.loop-number.invariant.apart in
    let split : take (i + 1) xs ≡ take i xs ++ x ∷ [] = take_more xs i x c.loop-number-test.true ∙ ap (λ d. take i xs ++ d ∷ []) (sym c.index-changes-number.is) in
    record { sound = c.in_ok-put_change.ensures.sound; holds = subst (Holds k) (sym split) more.0; apart = ap has_collision split ∙ more.1 }

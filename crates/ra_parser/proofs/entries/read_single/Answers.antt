use Rattle.std.proofs.Common.{◌≤◌, List, [], ◌∷◌, length, sym, ap, subst, arith}
use Rattle.parser_input.specs.Input.{Token}
use Rattle.parser_events.specs.Forest.{Forest}
use Rattle.parser_events.specs.Marked.{End, marked}
use Rattle.parser_events.specs.Seen.{message_of}
use Rattle.rust_productions.specs.Looks.{tokens}
use Rattle.rust_productions.specs.Stands.{Holds, left}
use Rattle.rust_productions.specs.declared.condition.Condition.TheVariants.{Off}
use Rattle.rust_productions.proofs.Facts.{saw-so}
use Rattle.rust_productions.proofs.Seen.{saw-after}
use Rattle.ra_parser.specs.Entries.{single_of}
use Rattle.ra_parser.proofs.Entered.{from, read_from, no-list, entry-missing, entry-over, entry-whole, opened-seen, seen-from, single-read}
use Rattle.ra_parser.proofs.Taking.{none-left, some-left}
use Rattle.ra_parser.proofs.entries.read_single.Goals as goal

pub stray-requires : goal.stray-requires
stray-requires c = record { marker = c.begins.ensures.same.innermost _ c.start-frame.ensures.marker }

pub read-requires : goal.read-requires
read-requires c = record {
  begins = saw-after c.begins.ensures.same (saw-so c.begins.ensures.sees c.if-not-begins.false);
  some = omega (arith, c.begins.ensures.some c.if-not-begins.false, c.begins.ensures.left);
}

pub stray-requires-then-at_token : goal.stray-requires-then-at_token
stray-requires-then-at_token c = record { marker = c.at_token.ensures.same.innermost _ (c.read.ensures.gives.does.innermost _ (c.begins.ensures.same.innermost _ c.start-frame.ensures.marker)) }

pub abandon-requires : goal.abandon-requires
abandon-requires c = c.at_token.ensures.same.innermost _ (c.read.ensures.gives.does.innermost _ (c.begins.ensures.same.innermost _ c.start-frame.ensures.marker))

pub returns-then-not-begins-clause-tree : goal.returns-then-not-begins-clause-tree
returns-then-not-begins-clause-tree c =
    let x = single_of c.args.single in
    let ts = left c.args.p.now in
    let opened = opened-seen c.requires.nodes c.start-frame.ensures.opens c.begins.ensures.same in
    let seen = seen-from x c.args.p.now c.start-frame.ensures.opens.rest (saw-so c.begins.ensures.sees c.if-not-begins.true) in
    subst (λ (f : Forest). Holds c.stray.new.p.nodes (marked f ∷ []))
    (sym (entry-missing x ts (message_of c.missing.result) (no-list c.args.single) seen c.missing.ensures))
    (c.stray.ensures.tree (from ts) opened.rest opened.trees)

pub returns-then-at_token-clause-tree : goal.returns-then-at_token-clause-tree
unfolding tokens
returns-then-at_token-clause-tree c =
    let x = single_of c.args.single in
    let ts = left c.args.p.now in
    let opened = opened-seen c.requires.nodes c.start-frame.ensures.opens c.begins.ensures.same in
    let seen = seen-from x c.args.p.now c.start-frame.ensures.opens.rest (saw-so c.begins.ensures.sees c.if-not-begins.false) in
    let now = single-read opened c.read.ensures.gives c.at_token.ensures.same in
    let some : 1 ≤ tokens c.read.new.p = some-left (saw-so (c.at_token.ensures.sees Off) c.if-at_token.true) in
    let over : 1 ≤ length (read_from x ts).rest = omega (arith, some, c.at_token.ensures.left, ap (λ (us : List Token). length us) now.rest) in
    subst (λ (f : Forest). Holds c.stray-then-at_token.new.p.nodes (marked f ∷ [])) (sym (entry-over x ts (no-list c.args.single) seen over))
    (c.stray-then-at_token.ensures.tree (read_from x ts) now.rest now.trees)

pub returns-clause-tree : goal.returns-clause-tree
unfolding tokens
returns-clause-tree c =
    let x = single_of c.args.single in
    let ts = left c.args.p.now in
    let opened = opened-seen c.requires.nodes c.start-frame.ensures.opens c.begins.ensures.same in
    let seen = seen-from x c.args.p.now c.start-frame.ensures.opens.rest (saw-so c.begins.ensures.sees c.if-not-begins.false) in
    let now = single-read opened c.read.ensures.gives c.at_token.ensures.same in
    let none : tokens c.read.new.p ≤ 0 = none-left (saw-so (c.at_token.ensures.sees Off) c.if-at_token.false) in
    let all : length (read_from x ts).rest ≤ 0 = omega (arith, none, c.at_token.ensures.left, ap (λ (us : List Token). length us) now.rest) in
    subst (λ (f : Forest). Holds c.abandon.new.p.nodes (marked f ∷ [])) (sym (entry-whole x ts (no-list c.args.single) seen all))
    (c.abandon.ensures.leaves.nodes (marked (read_from x ts).given) End [] now.trees)

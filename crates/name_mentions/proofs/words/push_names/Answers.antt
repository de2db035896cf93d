use Rattle.std.proofs.Common.{◌≡◌, ◌+◌, ◌<◌, ◌++◌, append_assoc, append-nil, add-zero, drop, length, []}
use Rattle.std.proofs.lemmas.List.{drop_all, take_rest}
use Rattle.name_mentions.specs.Words.{mention_if}
use Rattle.name_mentions.proofs.WordLemmas.{names-drop, names-end}
use Rattle.name_mentions.proofs.words.push_names.Goals as goal

pub loop-i-init : goal.loop-i-init
loop-i-init c = rw add-zero

pub loop-i-preserved : goal.loop-i-preserved
loop-i-preserved c =
    let h : c.loop-i.i < length c.args.text.now = c.loop-i-test.true in
    let e = names-drop c.args.name.now c.args.place c.loop-i.second c.loop-i.last c.args.start c.loop-i.i 0 c.args.text.now h in
    let more : c.push_mention.new.found.items ≡ c.loop-i.found.items ++ mention_if c.is_name-is_mention.result c.args.place (c.args.start + c.loop-i.i) =
    c.in_ok-push_mention.ensures in
    rw (more, c.is_name-is_mention.ensures, take_rest, append_assoc, ← e) c.loop-i.invariant

pub returns : goal.returns
returns c =
    let none = names-end c.args.name.now c.args.place c.loop-i.second c.loop-i.last (c.args.start + c.loop-i.i) in
    let e : drop c.loop-i.i c.args.text.now ≡ [] = drop_all c.loop-i.i c.args.text.now c.loop-i-test.false in
    simp append-nil at (rw (e, none) at c.loop-i.invariant)

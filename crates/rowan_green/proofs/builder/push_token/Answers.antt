use Rattle.std.specs.Rc.{rc_with_value}
use Rattle.rowan_green.proofs.KeptLemmas.{rooted_err}
use Rattle.rowan_green.proofs.builder.push_token.Goals as goal

pub returns-clause-rooted : goal.returns-clause-rooted
returns-clause-rooted c =
    let z = c.make_arena.ensures c.args.done.now.items c.requires in
    rooted_err c.push_token.result c.args.arena.now c.make_arena.new.arena c.in-Some.shared (rc_with_value c.in-Some.shared c.push_token.new.self) c.in-Some-get_mut.arena.now c.args.done.now.items c.push_token.new.done.items c.in-Some.is c.in-Some-get_mut.ensures.value z.rooted c.push_token.ensures.err c.push_token.ensures.kept

use Rattle.std.proofs.Common.{◌≡◌, map, [], Bor, List, ℕ}
use Rattle.std.proofs.Math.ListN.{get_or, get_or-map}
use Rattle.parser_input.specs.Kind.{name_of}
use Rattle.parser_input.proofs.KindTable.{name-at}
use Rattle.parser_input.specs.KindTable.{all_kinds}
use Rattle.parser_input.proofs.syntax_kind.SyntaxKind.name.Goals as goal

pub returns : goal.returns
unfolding all_kinds
returns c =
    let e : get_or (map name_of all_kinds) c.to_raw.result [] ≡ name_of c.args.self = name-at c.args.self c.to_raw.result c.to_raw.ensures.number in
    rw (← get_or-map (λ (r : Bor (List ℕ)). r.now)) e

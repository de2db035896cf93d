use Rattle.std.proofs.Common.{◌-◌, drop, length, map, sym, ap, ◌∙◌, arith}
use Rattle.std.specs.List.{drop-map}
use Rattle.std.proofs.lemmas.List.{take_all, length-drop}
use Rattle.parser_input.specs.Packed.{seen}
use Rattle.parser_input.proofs.input.InputTokens.take.Goals as goal

pub returns : goal.returns
returns c =
    let n = c.args.n in
    let items = c.self.inside.tokens.now in
    ap (map seen) (take_all (length items - n) (drop n items) (omega (arith, length-drop n items)))
    ∙ sym (drop-map seen n items) ∙ ap (drop n) c.self.view_is

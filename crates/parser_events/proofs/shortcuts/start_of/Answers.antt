-- The leaves before a place are a text, whose bytes are counted.
use Rattle.std.proofs.Common.{ℕ, List, length, sym, ap, ◌∙◌, take}
use Rattle.std.proofs.Math.Nat.{sub-zero}
use Rattle.std.proofs.Math.Utf8.{encodes}
use Rattle.std.proofs.lemmas.Str.{encodes-chars}
use Rattle.parser_input.specs.Lexed.{leaves_of}
use Rattle.parser_events.specs.Dress.{joined}
use Rattle.parser_events.proofs.Putting.{slice-text}
use Rattle.parser_events.proofs.shortcuts.start_of.Goals as goal

pub returns : goal.returns
returns c =
    let ls = c.args.lexed.now.leaves in
    ap length (sym (encodes-chars c.range_text.result.now c.range_text.utf8))
    ∙ ap (λ (t : List ℕ). length (encodes t)) (c.range_text.ensures ∙ slice-text ls 0 c.args.i ∙ ap (λ (n : ℕ). joined (take n (leaves_of ls))) (sub-zero c.args.i))

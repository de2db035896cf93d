-- The text of the leaf is the encoding of its characters.
use Rattle.std.proofs.Common.{ℕ, List, OnOk, ap, subst, sym, length}
use Rattle.std.proofs.lemmas.Str.{encodes-chars}
use Rattle.parser_input.specs.Kind.{raw_of}
use Rattle.tree_lines.specs.Listed.{IsPushed}
use Rattle.tree_lines.proofs.rows.Rows.put.Goals as goal

pub returns : goal.returns
returns c =
    subst (λ (n : ℕ). OnOk c.push.result (IsPushed c.args.self.now (raw_of c.args.kind) n c.push.new.self))
    (ap (λ (t : List ℕ). length t) (sym (encodes-chars c.args.text.now c.utf8.text))) c.push.ensures

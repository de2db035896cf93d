-- The messages are those of the stored leaves.
use Rattle.std.proofs.Common.{◌∙◌, List, Option, sym, ap, map}
use Rattle.parser_input.specs.Faults.{faults, faults_from}
use Rattle.parser_input.specs.Stored.{Whole}
use Rattle.parser_input.specs.declared.lexed_str.StoredLeaf.{StoredLeaf}
use Rattle.parser_input.specs.declared.message.Message.{Message}
use Rattle.parser_input.proofs.Faults.{seen-messages}
use Rattle.parser_input.proofs.lexed_str.LexedStr.errors.Goals as goal

pub returns : goal.returns
returns c =
    let s = c.self.inside in
    c.of.ensures ∙ ap (λ (l : List StoredLeaf). faults_from 0 l) c.deref.ensures.value
    ∙ ap (λ (ms : List (Option Message)). faults 0 ms) (sym (seen-messages s.text.now 0 s.leaves.items))
    ∙ ap (λ (w : Whole). faults 0 (map (λ l. l.message) w.leaves)) c.self.view_is

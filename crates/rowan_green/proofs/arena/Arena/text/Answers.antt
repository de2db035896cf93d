use Rattle.std.proofs.Common.{◌∙◌}
use Rattle.rowan_green.proofs.ArenaReading.{text_from, text_to, text_read}
use Rattle.rowan_green.proofs.arena.Arena.text.Goals as goal

pub range-requires-clause-start_boundary : goal.range-requires-clause-start_boundary
range-requires-clause-start_boundary c = λ h. text_from c.args.self.now c.args.entry _ _ c.requires c.as_str.ensures.value c.start_of-start.ensures

pub range-requires-clause-end_boundary : goal.range-requires-clause-end_boundary
range-requires-clause-end_boundary c = text_to c.args.self.now c.args.entry _ _ c.requires c.as_str.ensures.value c.end_of-end.ensures

pub returns : goal.returns
returns c = c.range.ensures.value ∙ text_read c.args.self.now c.args.entry _ _ _ c.requires c.as_str.ensures.value c.start_of-start.ensures c.end_of-end.ensures

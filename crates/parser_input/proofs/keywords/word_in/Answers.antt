use Rattle.std.proofs.Math.ListN.{get_or-map}
use Rattle.parser_input.specs.Keywords.{words}
use Rattle.parser_input.specs.WordTable.{row_of}
use Rattle.parser_input.proofs.WordPlaces.{place-below, slice_get-words}
use Rattle.std.specs.Prelude.{slice_index}
use Rattle.parser_input.specs.declared.word_table.TheConstants.{PLACES}
use Rattle.parser_input.proofs.keywords.word_in.Goals as goal

pub bounds-slot-2 : goal.bounds-slot-2
bounds-slot-2 c = place-below c.args.slot

pub returns : goal.returns
unfolding words
returns c = rw (← get_or-map row_of) (slice_get-words (slice_index PLACES c.args.slot) _ (place-below c.args.slot))

-- What a hold owns: nothing, or what a box of its document owns.
use base.Fml.{Fml, ftrue}
use base.Stored.{Coded}
use denote.RawPtr.{Ptr}
use Rattle.std.specs.Prelude.{Option, None, Some}
use Rattle.std.specs.Coded.{coded_option}
use Rattle.std.specs.Box.Ownership.{box_owns}
use Rattle.std.specs.declared.alloc.Global.{Global}
use Rattle.std.specs.contracts.impls.GlobalAllocator.TheImpl.{ghosts}
use Rattle.kept_document.specs.contracts.kept.Kept.{the_row}

abbrev pub Held : Type 0
Held = the_row.Denot

abbrev pub held_coded : Coded (Option Held)
held_coded = coded_option the_row.coded

abbrev pub hold_owns : Global → Ptr → Option Held → Fml
hold_owns alloc p None = ftrue
hold_owns alloc p (Some x) = box_owns (ghosts.dealloc_token alloc) the_row p x

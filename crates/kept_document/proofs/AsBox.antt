-- A hold and its parts own what a box at the same types owns.
use mir.Syntax.{impl, tnil, dnil}
use mathlib.Core.List.{[]}
use denote.Signature.{Slot, plain}
use Rattle.std.proofs.BoxSteps.Form.{Bx}
use Rattle.std.specs.contracts.alloc.Global as Heap
use Rattle.std.specs.contracts.impls.GlobalAllocator.TheImpl.{ghosts, dict}
use Rattle.std.proofs.alloc.Global.TheLaws as heap
use Rattle.kept_document.specs.contracts.kept.Kept as Document
use Rattle.kept_document.proofs.kept.Kept.TheLaws as document
use Rattle.boxed_parts.specs.contracts.parts.Parts as Parts
use Rattle.kept_document.specs.contracts.hold.Hold as Hold
use Rattle.kept_document.specs.Held.{Held}
use Rattle.std.proofs.Common.{◌≡◌, refl, false, true}
use Rattle.std.specs.Prelude.{Option, None, Some, IsSome}

abbrev pub E : Bx
E = record { row = Document.the_row; laws = document.the_row_laws; al = record { row = Heap.the_row; laws = heap.the_row_laws; g = ghosts; d = dict; drops = impl [] tnil dnil } }

abbrev pub FromParts : Slot 0
FromParts = plain (λ _. Parts.the_row Document.the_row Heap.the_row ghosts)

abbrev pub FromHold : Slot 0
FromHold = plain (λ _. Hold.the_row)

pub record Found (k : Option Held) : Type 0 where
  pub it : Held
  pub same : k ≡ Some it

pub found : (k : Option Held) → IsSome k → Found k
found None is = let bad : false ≡ true = is in cc
found (Some x) is = record { it = x; same = refl }

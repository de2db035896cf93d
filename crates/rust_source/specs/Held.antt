-- What contracts see of a source.
use Rattle.std.specs.Prelude.{ℕ}
use Rattle.std.specs.declared.alloc.Global.{Global}
use Rattle.rust_document.specs.Step.{State}

-- the allocator, the document, and the tree number that is next, 2^32 if none is left
pub record Held : Type 0 where
  pub alloc : Global
  pub document : State
  pub next : ℕ

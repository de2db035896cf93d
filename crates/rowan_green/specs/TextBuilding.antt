-- What a contract sees of a builder over a text that is given whole.
use Rattle.std.specs.Prelude.{◌≡◌, ℕ, ◌+◌, List, [], ◌∷◌, ◌++◌, length, reverse}
use Rattle.rowan_green.specs.Forest.{Tree}
use Rattle.rowan_green.specs.Word.{opens, token, words}
use Rattle.rowan_green.specs.Building.{Building, nothing_built, with_sign, with_opened, with_closed}
use Rattle.rowan_green.specs.declared.utility_types.NodeOrToken.TheVariants.{Node}
use Rattle.rowan_green.specs.declared.error.GreenError.{GreenError}
use Rattle.rowan_green.specs.declared.error.GreenError.TheVariants.{TooLong, Unbalanced, NoMemory}
use Rattle.rowan_green.specs.declared.arena.Arena.{Arena}
use Rattle.rowan_green.specs.declared.arena.Entry.{Entry}
use Rattle.rowan_green.specs.declared.builder.OpenNode.{OpenNode}
use Rattle.rowan_green.specs.Arena.{IsGrowing, piece, items_in, terms_at, terms_over}
use Rattle.rowan_green.specs.Kept.{IsRootedBy}
use Rattle.rowan_green.specs.OpenNodes.{IsNested}

-- the calls that were accepted; the text; how many of its bytes the tokens have
pub record TextBuilding : Type 0 where
  pub building : Building
  pub text : List ℕ
  pub used : ℕ

-- nothing was called
abbrev pub text_given : List ℕ → TextBuilding
text_given text = record { building = nothing_built; text = text; used = 0 }

-- one more token: the next `len` bytes of the text
abbrev pub with_piece : TextBuilding → ℕ → ℕ → TextBuilding
with_piece b kind len = record {
  building = with_sign b.building (token (record { kind = kind; text = piece b.text b.used len }));
  text = b.text;
  used = b.used + len;
}

-- one more node is open
abbrev pub with_node : TextBuilding → ℕ → TextBuilding
with_node b kind = record {
  building = with_opened b.building (b.building.word ++ opens kind ∷ []);
  text = b.text;
  used = b.used;
}

-- the innermost open node is closed
abbrev pub with_end : TextBuilding → TextBuilding
with_end b = record { building = with_closed b.building; text = b.text; used = b.used }

-- why there is no tree: it is not one complete node, or memory is out
abbrev pub MayNotFinish : Building → GreenError → Type 0
MayNotFinish b TooLong = ⊥
MayNotFinish b Unbalanced = (t : Tree) → b.word ≡ words (Node t ∷ []) → ⊥
MayNotFinish b NoMemory = Unit {0}

-- what holds of such a builder
pub record IsTextBuilder (os : List OpenNode) (arena : Arena) (done : List Entry) : Type 0 where
  pub growing : IsGrowing arena done
  pub nested : IsNested (reverse os) (length (terms_over arena done))
  pub root : os ≡ [] → IsRootedBy (terms_over arena done) (terms_at (items_in arena))

-- What manifests of Cargo say of the edition of their files.
use Rattle.std.specs.Prelude.{ℕ, Bool, true, false, List, codes, Option, Some, None, option_and_then}
use Rattle.toml.specs.Data.{Data, as_str, get}
use Rattle.parser_input.specs.Edition.{edition_named}
use Rattle.parser_input.specs.declared.edition.Edition.{Edition}
use Rattle.parser_input.specs.declared.edition.Edition.TheVariants.{Edition2015}
use Rattle.cargo_editions.specs.declared.manifest.Said.{Said}
use Rattle.cargo_editions.specs.declared.manifest.Said.TheVariants as said

-- An edition, the workspace's edition, none, or a text that names none.
pub data Answer : Type 0 where
  Names : Edition → Answer
  OfWorkspace : Answer
  Silent : Answer
  NamesNone : List ℕ → Answer

abbrev pub by_name : List ℕ → Option Edition → Answer
by_name name (Some edition) = Names edition
by_name name None = NamesNone name

-- A member that is no text, as `edition.workspace`, stands for the workspace's edition.
abbrev pub by_text : Option (List ℕ) → Answer
by_text None = OfWorkspace
by_text (Some name) = by_name name (edition_named name)

-- A package without the member is of edition 2015.
abbrev pub by_member : Option Data → Answer
by_member None = Names Edition2015
by_member (Some d) = by_text (as_str d)

abbrev pub package_answer : Data → Answer
package_answer p = by_member (get (codes "edition") p)

abbrev pub package_data : Bool → Data → Option Data
package_data false manifest = get (codes "package") manifest
package_data true manifest = option_and_then (get (codes "package")) (get (codes "workspace") manifest)

abbrev pub by_package : Option Data → Answer
by_package None = Silent
by_package (Some p) = package_answer p

-- what a manifest says of its package, or of the packages of its workspace
abbrev pub answer_in : Bool → Data → Answer
answer_in of_workspace manifest = by_package (package_data of_workspace manifest)

-- an answer in code
abbrev pub answer_of : Said → Answer
answer_of (said.Edition edition) = Names edition
answer_of said.Workspace = OfWorkspace
answer_of said.Nothing = Silent
answer_of (said.Unknown name) = NamesNone name.now

-- Folders, and the names of files in them.
use Rattle.std.specs.Prelude.{◌≡◌, ℕ, List, ◌∷◌, ◌++◌}

-- A path is that of a folder, a slash and the name in it.
abbrev pub IsNamed : (folder path name : List ℕ) → Type 0
IsNamed folder path name = path ≡ folder ++ 47 ∷ name

-- The file is in the folder.
abbrev pub IsIn : (folder path : List ℕ) → Type 0
IsIn folder path = (name : List ℕ) × IsNamed folder path name

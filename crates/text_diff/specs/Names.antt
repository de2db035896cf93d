-- The lines of a diff that name its texts, as `git` writes them.
use Rattle.std.specs.Prelude.{ℕ, ◌+◌, ◌/◌, ◌%◌, ◌==◌, ◌||◌, nat_lt, Bool, List, [], ◌∷◌, ◌++◌, codes, if◌then◌else◌}
use Rattle.std.specs.List.{flat_map, list_any}

-- A byte that does not stand in a name as it is: a control character, a quote or a backslash.
abbrev pub is_special : ℕ → Bool
is_special b = nat_lt b 32 || b == 34 || b == 92 || b == 127

-- a byte of a quoted name: a quote and a backslash stand behind a backslash, a control character is its three octal digits behind one
abbrev pub escaped : ℕ → List ℕ
escaped b =
    if is_special b
    then (if b == 34 || b == 92 then 92 ∷ b ∷ [] else 92 ∷ (48 + b / 64) ∷ (48 + b / 8 % 8) ∷ (48 + b % 8) ∷ [])
    else b ∷ []

-- the name of a text, behind its side and a slash; in quotes if a byte of it does not stand as it is
abbrev pub name_text : ℕ → List ℕ → List ℕ
name_text side path =
    if list_any is_special path
    then 34 ∷ side ∷ 47 ∷ (flat_map escaped path ++ 34 ∷ [])
    else side ∷ 47 ∷ path

-- the lines that name the texts; a tab ends a name, so that it may have spaces
abbrev pub names_text : List ℕ → List ℕ
names_text path = codes "--- " ++ (name_text 97 path ++ (codes "\t\n+++ " ++ (name_text 98 path ++ codes "\t\n")))

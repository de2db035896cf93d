-- What the profile reads is kept.
use Rattle.std.specs.Prelude.{◌≡◌, Bool, true, false, not, ◌&&◌, List, [], ◌∷◌}
use Rattle.parser_input.specs.Input.{Token, input}
use Rattle.parser_input.specs.Leaf.{Leaf}
use Rattle.parser_input.specs.declared.edition.Edition.{Edition}
use Rattle.rust_grammar.specs.Rule.{Production, type_no_bounds, pattern_atom, arm_body}
use Rattle.rust_grammar.specs.Meaning.{Reading, sees, look_of, meaning}
use Rattle.rust_grammar.specs.Entry.{entry}
use Rattle.rust_grammar.specs.Profile.{profile}
use Rattle.rust_grammar.specs.Whole.{whole}
use Rattle.rust_grammar.specs.Laws.{entry_of}

-- none of these tokens says that the whole language is read
unfoldable pub say_nothing : List Token → Bool
say_nothing [] = true
say_nothing (t ∷ ts) = not t.whole && say_nothing ts

-- the productions that the profile has
unfoldable pub is_profile : Production → Bool
is_profile type_no_bounds = false
is_profile pattern_atom = false
is_profile arm_body = false
is_profile x = true

-- Over such tokens each production of the profile begins where it does in the profile's table, and gives the same.
abbrev pub ProfileBeginsAsBefore : Type 0
ProfileBeginsAsBefore =
    (x : Production) (in_condition : Bool) (s : Reading)
    → is_profile x ≡ true → say_nothing s.rest ≡ true → sees in_condition s (look_of whole x) ≡ sees in_condition s (look_of profile x)

abbrev pub ProfileReadsAsBefore : Type 0
ProfileReadsAsBefore =
    (x : Production) (in_condition : Bool) (s : Reading)
    → is_profile x ≡ true → say_nothing s.rest ≡ true → meaning whole x in_condition s ≡ meaning profile x in_condition s

-- So is the tree of each entry, of a text that is read in the profile.
abbrev pub ProfileEntriesAreKept : Type 0
ProfileEntriesAreKept =
    (x : Production) (edition : Edition) (leaves : List Leaf)
    → is_profile x ≡ true → entry_of x false edition leaves ≡ entry profile x (input false edition leaves)

-- Steps through the members of a JSON object.
use Rattle.std.proofs.Common.{◌≡◌, ℕ, List, [], ◌∷◌, ◌++◌, map, Option, Some, None, option_map, refl, sym, ap, ◌∙◌, append-nil, append_assoc}
use Rattle.std.specs.Prelude.{option_and_then}
use Rattle.serde_json.specs.Data.{Data, Members, no_members, member}
use Rattle.serde_json.specs.Find.{as_array, as_object}
use Rattle.ra_parser.specs.declared.grammar.Grammar.{Grammar}
use Rattle.document_requests.specs.Request.{Command, all_in, command_by}
use Rattle.source_rewrites.specs.CommandFile.{Asked, asked, asked_in, asked_of}
use Rattle.source_rewrites.specs.declared.command_file.FileCommands.{FileCommands}

-- the commands that a value lists
abbrev pub listed : Grammar → Data → Option (List Command)
listed grammar d = option_and_then (all_in (command_by grammar)) (as_array d)

-- a path and its commands
abbrev pub file_asked : List ℕ → List Command → Asked
file_asked path commands = record { path = path; commands = commands }

-- the first file and the others, where its commands are known
abbrev with_others : Grammar → List ℕ → Members → Option (List Command) → Option (List Asked)
with_others grammar path rest commands = option_and_then (λ cs. option_map (λ others. file_asked path cs ∷ others) (asked_in grammar rest)) commands

mapped_next : {X : Type 0} (done : List X) (x : X) (o : Option (List X)) → option_map (λ xs. done ++ xs) (option_map (λ xs. x ∷ xs) o) ≡ option_map (λ xs. (done ++ x ∷ []) ++ xs) o
mapped_next done x None = refl
mapped_next done x (Some xs) = ap Some (sym (append_assoc done (x ∷ []) xs))

map_last : {X C : Type 0} (seen : C → X) (old : List C) (c : C) → map seen (old ++ c ∷ []) ≡ map seen old ++ seen c ∷ []
map_last seen [] c = refl
map_last seen (x ∷ old) c = ap (λ cs. seen x ∷ cs) (map_last seen old c)

same-option : {X : Type 0} (o : Option X) → option_map (λ x. x) o ≡ o
same-option None = refl
same-option (Some x) = refl

-- all members are left
pub file_first : (grammar : Grammar) (left : Members) (d : Data) (done : List FileCommands) → Some left ≡ as_object d → done ≡ [] → option_map (λ files. map asked done ++ files) (asked_in grammar left) ≡ asked_of grammar d
file_first grammar left d done is none =
    ap (λ (fs : List FileCommands). option_map (λ files. map asked fs ++ files) (asked_in grammar left)) none
    ∙ same-option (asked_in grammar left) ∙ ap (λ (o : Option Members). option_and_then (asked_in grammar) o) is

-- one more file
pub file_next :
    (grammar : Grammar) (left : Members) (path : List ℕ) (d : Data) (rest : Members) (cs : List Command) (old new : List FileCommands) (f : FileCommands) (all : Option (List Asked))
    → left ≡ member path d rest → listed grammar d ≡ Some cs → new ≡ old ++ f ∷ [] → asked f ≡ file_asked path cs
    → option_map (λ files. map asked old ++ files) (asked_in grammar left) ≡ all
    → option_map (λ files. map asked new ++ files) (asked_in grammar rest) ≡ all
file_next grammar left path d rest cs old new f all cut found longer same before =
    let names : map asked new ≡ map asked old ++ file_asked path cs ∷ [] =
    ap (map asked) longer ∙ map_last asked old f ∙ ap (λ (x : Asked). map asked old ++ x ∷ []) same in
    ap (λ (done : List Asked). option_map (λ files. done ++ files) (asked_in grammar rest)) names
    ∙ sym (mapped_next (map asked old) (file_asked path cs) (asked_in grammar rest))
    ∙ sym (ap (λ (o : Option (List Command)). option_map (λ files. map asked old ++ files) (with_others grammar path rest o)) found)
    ∙ sym (ap (λ (ms : Members). option_map (λ files. map asked old ++ files) (asked_in grammar ms)) cut)
    ∙ before

-- a member whose value is no list of commands
pub file_none :
    (grammar : Grammar) (left : Members) (path : List ℕ) (d : Data) (rest : Members) (done : List Asked) (all : Option (List Asked))
    → left ≡ member path d rest → listed grammar d ≡ None
    → option_map (λ files. done ++ files) (asked_in grammar left) ≡ all → None ≡ all
file_none grammar left path d rest done all cut none before =
    sym (ap (λ (o : Option (List Command)). option_map (λ files. done ++ files) (with_others grammar path rest o)) none)
    ∙ sym (ap (λ (ms : Members). option_map (λ files. done ++ files) (asked_in grammar ms)) cut)
    ∙ before

-- no member is left
pub file_all :
    (grammar : Grammar) (left : Members) (done : List Asked) (all : Option (List Asked)) → left ≡ no_members
    → option_map (λ files. done ++ files) (asked_in grammar left) ≡ all → Some done ≡ all
file_all grammar left done all cut before =
    ap Some (sym (append-nil done)) ∙ sym (ap (λ (ms : Members). option_map (λ files. done ++ files) (asked_in grammar ms)) cut) ∙ before

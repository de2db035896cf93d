-- What is printed of the matches of a pattern as JSON: an object for each file, on a line of its own.
use Rattle.std.specs.Prelude.{◌≡◌, ℕ, ◌+◌, ◌==◌, ◌&&◌, not, Bool, true, false, List, [], ◌∷◌, ◌++◌, codes, drop, length, Option, Some, None, if◌then◌else◌}
use Rattle.std.specs.List.{flat_map, list_any}
use Rattle.std.specs.Str.{bytes_eq}
use Rattle.std.specs.Fmt.{decimal}
use Rattle.serde_json.specs.Data.{string}
use Rattle.serde_json.specs.Written.{compact_text}
use Rattle.line_index.specs.declared.encoding.Encoding.TheVariants.{Utf32}
use Rattle.line_index.specs.declared.line_col.LineCol.{LineCol}
use Rattle.line_index.specs.Columns.{line_col}
use Rattle.rowan.specs.Place.{start_of, end_of}
use Rattle.rowan_green.specs.Leaf.{Leaf}
use Rattle.syntax_tree.specs.Handle.{element_of}
use Rattle.syntax_tree.specs.declared.element.SyntaxElement.{SyntaxElement}
use Rattle.syntax_tree.specs.declared.element.SyntaxElement.TheVariants.{Node}
use Rattle.rust_document.specs.Step.{State, root_element}
use Rattle.tree_patterns.specs.Patterns.{Shape, places}
use Rattle.tree_patterns.specs.Places.{place_of, is_sequence}
use Rattle.tree_patterns.specs.declared.place.Place.{Place}
use Rattle.tree_patterns.specs.declared.fragment.Fragment.{Fragment}
use Rattle.tree_patterns.specs.declared.fragment.Fragment.TheVariants as fragments
use Rattle.tree_search.specs.Fit.{Bound}
use Rattle.tree_search.specs.Matching.{Names}
use Rattle.tree_search.specs.Search.{AreMatches, Found}

abbrev pub json_string : List ℕ → List ℕ
json_string text = compact_text (string text)

-- the bytes of an element, behind a comma
abbrev pub span_item : SyntaxElement → List ℕ
span_item e =
    codes ",{\"start\":" ++ (decimal (start_of (element_of e).place) ++ (codes ",\"end\":" ++ (decimal (end_of (element_of e).place) ++ codes "}")))

-- the bytes of elements, a comma between two of them
abbrev pub spans : List SyntaxElement → List ℕ
spans v = drop 1 (flat_map span_item v)

-- the leaf of a place stands for any number of elements
abbrev pub runs : Option Place → Bool
runs None = false
runs (Some place) = is_sequence place

-- what a place stands for: the bytes of its element, or those of a run as a list
abbrev pub value : Bool → List SyntaxElement → List ℕ
value true v = codes "[" ++ (spans v ++ codes "]")
value false v = spans v

-- a place is the first of its name, and has one
abbrev pub is_shown : (seen : Names) → List ℕ → Bool
is_shown seen n = not (bytes_eq n (codes "_")) && not (list_any (λ m. bytes_eq m n) seen)

-- the member of a place, behind a comma
abbrev pub member_item : Leaf → List SyntaxElement → List ℕ
member_item l v = codes "," ++ (json_string l.text ++ (codes ":" ++ value (runs (place_of l.kind)) v))

-- what the places of a pattern stand for: a member for each name, by its first place
abbrev pub members : (seen : Names) → List Leaf → Bound → List ℕ
members seen [] bound = []
members seen (l ∷ ls) [] = []
members seen (l ∷ ls) (v ∷ vs) = (if is_shown seen l.text then member_item l v else []) ++ members (seen ++ l.text ∷ []) ls vs

-- where a match is: its bytes, and its line and column, counted from 1
abbrev pub place_members : (start end : ℕ) → LineCol → List ℕ
place_members start end place =
    codes "{\"start\":" ++ (decimal start ++ (codes ",\"end\":" ++ (decimal end ++ (codes ",\"line\":" ++ (decimal (place.line + 1) ++ (codes ",\"column\":" ++ decimal (place.col + 1)))))))

-- a match in a text, behind a comma
abbrev pub match_item : List Leaf → List ℕ → Found → List ℕ
match_item ls text m =
    codes "," ++ (place_members (start_of (element_of m.element).place) (end_of (element_of m.element).place)
    (line_col Utf32 text (start_of (element_of m.element).place)) ++ (codes ",\"bindings\":{" ++ (drop 1 (members [] ls m.bound) ++ codes "}}")))

abbrev pub fragment_word : Fragment → List ℕ
fragment_word fragments.Expression = codes "expression"
fragment_word fragments.«Type» = codes "type"
fragment_word fragments.Pattern = codes "pattern"
fragment_word fragments.Statement = codes "statement"
fragment_word fragments.Item = codes "item"

-- what the object of a file begins with
abbrev pub object_head : List ℕ → Fragment → List ℕ
object_head path fragment =
    codes "{\"path\":" ++ (json_string path ++ (codes ",\"fragment\":\"" ++ (fragment_word fragment ++ codes "\",\"matches\":[")))

-- the object of a file
abbrev pub file_object : List ℕ → Fragment → List ℕ → List ℕ
file_object path fragment items = object_head path fragment ++ (drop 1 items ++ codes "]}\n")

-- the object of a file with matches; of none there is nothing
abbrev pub object_of : List ℕ → Shape → List ℕ → List Found → List ℕ
object_of path p text ms =
    if length ms == 0 then [] else file_object path p.fragment (flat_map (match_item (places p.tree) text) ms)

-- Behind the old rows is the object of the matches of a pattern in a document, if there are some; they are as many as is said.
pub record IsObject (path : List ℕ) (d : State) (p : Shape) (old new : List ℕ) (count : ℕ) : Type 0 where
  pub matches : List Found
  pub found : AreMatches p (Node (root_element d) ∷ []) matches
  pub rows : new ≡ old ++ object_of path p d.text matches
  pub counted : count ≡ length matches

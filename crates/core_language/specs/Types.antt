-- Paths and types of the core language: derivations, each with its tokens and its tree. Functions into tokens take the tokens
-- that stand after, functions into trees the trees that stand after.
use Rattle.std.specs.Prelude.{ℕ, Bool, List, [], ◌∷◌}
use Rattle.parser_input.specs.Kinds.{AMP, COLON, COLON2, IDENT, L_BRACK, MUT_KW, NAME_REF, PATH, PATH_SEGMENT, PATH_TYPE, REF_TYPE, R_BRACK, SLICE_TYPE}
use Rattle.parser_input.specs.Input.{Token}
use Rattle.parser_events.specs.Forest.{Forest, End, Leaf, Node}
use Rattle.core_language.specs.Tokens.{of_kind, name_token, joint_tokens}

-- `mut`, or nothing
pub data Mutability : Type 0 where
  Immutable : Mutability
  Mutable : (mut : Bool) → Mutability

-- the token of `mut`
abbrev pub mut_tokens : Mutability → List Token → List Token
mut_tokens Immutable more = more
mut_tokens (Mutable mut) more = of_kind MUT_KW mut ∷ more

-- its leaf
abbrev pub mut_tree : Mutability → Forest → Forest
mut_tree Immutable f = f
mut_tree (Mutable mut) f = Leaf MUT_KW 1 f

-- Names joined by `::`, the last one outermost: `a::b::c` is c below `a::b`.
pub data Path : Type 0 where
  Name : (name : Bool) → Path
  Below : Path → (colons name : Bool) → Path

-- the tokens of a path
abbrev pub path_tokens : Path → List Token → List Token
path_tokens (Name name) more = name_token name ∷ more
path_tokens (Below p colons name) more = path_tokens p (joint_tokens (COLON ∷ COLON ∷ []) colons (name_token name ∷ more))

-- the node of a name that refers to something
abbrev pub name_ref_tree : Forest → Forest
name_ref_tree f = Node NAME_REF (Leaf IDENT 1 End) f

-- the node of one name of a path
abbrev pub segment_tree : Forest
segment_tree = Node PATH_SEGMENT (name_ref_tree End) End

-- what the node of a path holds
abbrev pub inside_path : Path → Forest
inside_path (Name name) = segment_tree
inside_path (Below p colons name) = Node PATH (inside_path p) (Leaf COLON2 2 segment_tree)

-- the node of a path
abbrev pub path_tree : Path → Forest → Forest
path_tree p f = Node PATH (inside_path p) f

-- A type: a path, `&` and a type, or `[`, a type and `]`.
pub data CoreType : Type 0 where
  PathType : Path → CoreType
  ReferenceType : (ampersand : Bool) → Mutability → CoreType → CoreType
  SliceType : (opening : Bool) → CoreType → (closing : Bool) → CoreType

-- the tokens of a type
abbrev pub type_tokens : CoreType → List Token → List Token
type_tokens (PathType p) more = path_tokens p more
type_tokens (ReferenceType ampersand m t) more = of_kind AMP ampersand ∷ mut_tokens m (type_tokens t more)
type_tokens (SliceType opening t closing) more = of_kind L_BRACK opening ∷ type_tokens t (of_kind R_BRACK closing ∷ more)

-- the kind of its node
abbrev pub type_kind : CoreType → ℕ
type_kind (PathType p) = PATH_TYPE
type_kind (ReferenceType ampersand m t) = REF_TYPE
type_kind (SliceType opening t closing) = SLICE_TYPE

-- what its node holds
abbrev pub inside_type : CoreType → Forest
inside_type (PathType p) = path_tree p End
inside_type (ReferenceType ampersand m t) = Leaf AMP 1 (mut_tree m (Node (type_kind t) (inside_type t) End))
inside_type (SliceType opening t closing) = Leaf L_BRACK 1 (Node (type_kind t) (inside_type t) (Leaf R_BRACK 1 End))

-- the node of a type
abbrev pub type_tree : CoreType → Forest → Forest
type_tree t f = Node (type_kind t) (inside_type t) f

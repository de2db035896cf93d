-- Cases by hand: where tokens touch, and the literals and operators that no case of the reference implementation has.
use Rattle.std.proofs.Common.{Bool, true, false, List, [], ◌∷◌, refl, arith}
use Rattle.parser_input.specs.Input.{Token}
use Rattle.parser_input.specs.Kinds.{AMP, AMP2, BIN_EXPR, BYTE, COLON, COLON2, C_STRING, FALSE_KW, FLOAT_NUMBER, IDENT, LITERAL, L_ANGLE, L_BRACK, MINUS, MUT_KW, NAME_REF, PATH, PATH_EXPR, PATH_SEGMENT, PATH_TYPE, PREFIX_EXPR, REF_EXPR, REF_TYPE, R_BRACK, SLASH, SLICE_TYPE}
use Rattle.parser_events.specs.Forest.{Forest, End, Leaf, Node}
use Rattle.core_language.specs.Tokens.{of_kind, name_token}
use Rattle.core_language.specs.Types.{Immutable, Mutable, Name, Below, PathType, ReferenceType, SliceType}
use Rattle.core_language.specs.Operators.{Byte, CText, FalseWord, FloatNumber, Negate, LogicalAnd, BitAnd, Less, Divide}
use Rattle.core_language.specs.Expressions.{Literal, Named, Prefixed, Borrow, Binary}
use Rattle.core_language.specs.Language.{IsCoreType, IsCoreExpression}
use Rattle.core_language.proofs.Read.{expressions-one}

-- a name as a segment
abbrev a_segment : Forest
a_segment = Node PATH_SEGMENT (Node NAME_REF (Leaf IDENT 1 End) End) End

-- the name as a path
abbrev a_path : Forest
a_path = Node PATH a_segment End

-- the name as an expression
abbrev a_name : Forest → Forest
a_name f = Node PATH_EXPR a_path f

-- `a & &b`
abbrev and_borrow : Forest
and_borrow = Node BIN_EXPR (a_name (Leaf AMP 1 (Node REF_EXPR (Leaf AMP 1 (a_name End)) End))) End

and-apart : IsCoreExpression (name_token false ∷ of_kind AMP false ∷ of_kind AMP true ∷ name_token false ∷ []) and_borrow
and-apart = record {
  expression = Binary (Named (Name false)) BitAnd false (Borrow true Immutable (Named (Name false)));
  well_formed = (tt, (tt, omega arith), omega arith, omega arith, refl);
  has_tokens = refl;
  has_tree = refl;
}

-- `a &&b`
abbrev and_joined : List Token
and_joined = name_token false ∷ of_kind AMP true ∷ of_kind AMP true ∷ name_token false ∷ []

and-joined : IsCoreExpression and_joined (Node BIN_EXPR (a_name (Leaf AMP2 2 (a_name End))) End)
and-joined = record {
  expression = Binary (Named (Name false)) LogicalAnd true (Named (Name false));
  well_formed = (tt, tt, omega arith, omega arith, refl);
  has_tokens = refl;
  has_tree = refl;
}

-- which is no `a & &b`
not-and-borrow : IsCoreExpression and_joined and_borrow → ⊥
not-and-borrow c =
    let same = expressions-one and_joined _ and_borrow and-joined c in
    absurd cc

-- `a &&&b`
and-and-borrow : IsCoreExpression
    (name_token false ∷ of_kind AMP true ∷ of_kind AMP true ∷ of_kind AMP true ∷ name_token false ∷ [])
    (Node BIN_EXPR (a_name (Leaf AMP2 2 (Node REF_EXPR (Leaf AMP 1 (a_name End)) End))) End)
and-and-borrow = record {
  expression = Binary (Named (Name false)) LogicalAnd true (Borrow true Immutable (Named (Name false)));
  well_formed = (tt, (tt, omega arith), omega arith, omega arith, refl);
  has_tokens = refl;
  has_tree = refl;
}

-- `&&mut a`
borrow-borrow : IsCoreExpression
    (of_kind AMP true ∷ of_kind AMP true ∷ of_kind MUT_KW false ∷ name_token false ∷ [])
    (Node REF_EXPR (Leaf AMP 1 (Node REF_EXPR (Leaf AMP 1 (Leaf MUT_KW 1 (a_name End))) End)) End)
borrow-borrow = record {
  expression = Borrow true Immutable (Borrow true (Mutable false) (Named (Name false)));
  well_formed = ((tt, omega arith), omega arith);
  has_tokens = refl;
  has_tree = refl;
}

-- `a<-b::c`, where all touch
less-negate : (last : Bool) → IsCoreExpression
    (name_token true ∷ of_kind L_ANGLE true ∷ of_kind MINUS true ∷ name_token true ∷ of_kind COLON true ∷ of_kind COLON true ∷ name_token last ∷ [])
    (Node BIN_EXPR (a_name (Leaf L_ANGLE 1 (Node PREFIX_EXPR (Leaf MINUS 1 (Node PATH_EXPR (Node PATH (Node PATH a_segment (Leaf COLON2 2 a_segment)) End) End)) End))) End)
less-negate last = record {
  expression = Binary (Named (Name true)) Less true (Prefixed Negate true (Named (Below (Name true) true last)));
  well_formed = (tt, (tt, omega arith), omega arith, omega arith, refl);
  has_tokens = refl;
  has_tree = refl;
}

-- `b'x'/c"s"` and `false/1.5`, where a float's token touches the next one or not
byte-divided : IsCoreExpression
    (of_kind BYTE true ∷ of_kind SLASH true ∷ of_kind C_STRING false ∷ [])
    (Node BIN_EXPR (Node LITERAL (Leaf BYTE 1 End) (Leaf SLASH 1 (Node LITERAL (Leaf C_STRING 1 End) End))) End)
byte-divided = record {
  expression = Binary (Literal Byte true) Divide true (Literal CText false);
  well_formed = (tt, tt, omega arith, omega arith, refl);
  has_tokens = refl;
  has_tree = refl;
}

false-divided : (float : Bool) → IsCoreExpression
    (of_kind FALSE_KW false ∷ of_kind SLASH false ∷ of_kind FLOAT_NUMBER float ∷ [])
    (Node BIN_EXPR (Node LITERAL (Leaf FALSE_KW 1 End) (Leaf SLASH 1 (Node LITERAL (Leaf FLOAT_NUMBER 1 End) End))) End)
false-divided float = record {
  expression = Binary (Literal FalseWord false) Divide false (Literal FloatNumber float);
  well_formed = (tt, tt, omega arith, omega arith, refl);
  has_tokens = refl;
  has_tree = refl;
}

-- the type `&&mut[a]`
reference-twice : IsCoreType
    (of_kind AMP true ∷ of_kind AMP true ∷ of_kind MUT_KW true ∷ of_kind L_BRACK true ∷ name_token true ∷ of_kind R_BRACK false ∷ [])
    (Node REF_TYPE (Leaf AMP 1 (Node REF_TYPE (Leaf AMP 1 (Leaf MUT_KW 1 (Node SLICE_TYPE (Leaf L_BRACK 1 (Node PATH_TYPE a_path (Leaf R_BRACK 1 End))) End))) End)) End)
reference-twice = record {
  type = ReferenceType true Immutable (ReferenceType true (Mutable true) (SliceType true (PathType (Name true)) false));
  has_tokens = refl;
  has_tree = refl;
}

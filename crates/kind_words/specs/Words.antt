-- The words of the language for kinds.
use Rattle.std.specs.Prelude.{ℕ, ◌==◌, ◌||◌, List, codes, if◌then◌else◌}
use Rattle.parser_input.specs.Kind.{name_of, raw_of}
use Rattle.parser_input.specs.Kinds.{L_PAREN, R_PAREN, L_CURLY, R_CURLY, L_BRACK, R_BRACK, L_ANGLE, R_ANGLE, SEMICOLON, COMMA, COLON, COLON2, DOT, EQ, BANG, PIPE, FAT_ARROW, THIN_ARROW, AS_KW, CONST_KW, FN_KW, FOR_KW, IN_KW, LET_KW, MUT_KW, SELF_KW, WHERE_KW, IDENT, NAME, NAME_REF, LIFETIME, LIFETIME_IDENT, PATH, PATH_TYPE, PATH_SEGMENT, LITERAL, STMT_LIST, BLOCK_EXPR, USE_TREE_LIST, VARIANT_LIST, RECORD_FIELD_LIST, PARAM_LIST, ASSOC_ITEM_LIST, ARG_LIST, MATCH_ARM_LIST, GENERIC_ARG_LIST, GENERIC_PARAM_LIST, USE_TREE, RET_TYPE, META, TOKEN_TREE, CONST_ARG, TYPE_BOUND, WHERE_CLAUSE, WHERE_PRED}
use Rattle.parser_input.specs.declared.syntax_kind.SyntaxKind.{SyntaxKind}

-- the spelling of a bracket of a kind; of others what is given
abbrev pub bracket_words : ℕ → List ℕ → List ℕ
bracket_words kind other =
    if kind == L_PAREN then codes "("
    else (if kind == R_PAREN then codes ")"
    else (if kind == L_CURLY then codes "{"
    else (if kind == R_CURLY then codes "}"
    else (if kind == L_BRACK then codes "["
    else (if kind == R_BRACK then codes "]"
    else (if kind == L_ANGLE then codes "<"
    else (if kind == R_ANGLE then codes ">"
    else other)))))))

-- the spelling of another mark of a kind; of others what is given
abbrev pub mark_words : ℕ → List ℕ → List ℕ
mark_words kind other =
    if kind == SEMICOLON then codes ";"
    else (if kind == COMMA then codes ","
    else (if kind == COLON then codes ":"
    else (if kind == COLON2 then codes "::"
    else (if kind == DOT then codes "."
    else (if kind == EQ then codes "="
    else (if kind == BANG then codes "!"
    else (if kind == PIPE then codes "|"
    else (if kind == FAT_ARROW then codes "=>"
    else (if kind == THIN_ARROW then codes "->"
    else other)))))))))

-- the spelling of a keyword of a kind; of others what is given
abbrev pub keyword_words : ℕ → List ℕ → List ℕ
keyword_words kind other =
    if kind == AS_KW then codes "as"
    else (if kind == CONST_KW then codes "const"
    else (if kind == FN_KW then codes "fn"
    else (if kind == FOR_KW then codes "for"
    else (if kind == IN_KW then codes "in"
    else (if kind == LET_KW then codes "let"
    else (if kind == MUT_KW then codes "mut"
    else (if kind == SELF_KW then codes "self"
    else (if kind == WHERE_KW then codes "where"
    else other))))))))

-- what a name, a literal or a block is called of a kind; of others what is given
abbrev pub name_words : ℕ → List ℕ → List ℕ
name_words kind other =
    if kind == IDENT then codes "an identifier"
    else (if kind == NAME || kind == NAME_REF then codes "a name"
    else (if kind == LIFETIME || kind == LIFETIME_IDENT then codes "a lifetime"
    else (if kind == PATH || kind == PATH_TYPE then codes "a path"
    else (if kind == PATH_SEGMENT then codes "a path segment"
    else (if kind == LITERAL then codes "a literal"
    else (if kind == STMT_LIST || kind == BLOCK_EXPR then codes "a block"
    else other))))))

-- what a list is called of a kind; of others what is given
abbrev pub list_words : ℕ → List ℕ → List ℕ
list_words kind other =
    if kind == USE_TREE_LIST then codes "a list of use trees"
    else (if kind == VARIANT_LIST then codes "a list of variants"
    else (if kind == RECORD_FIELD_LIST then codes "a list of fields"
    else (if kind == PARAM_LIST then codes "a parameter list"
    else (if kind == ASSOC_ITEM_LIST then codes "a list of associated items"
    else (if kind == ARG_LIST then codes "an argument list"
    else (if kind == MATCH_ARM_LIST then codes "a list of match arms"
    else (if kind == GENERIC_ARG_LIST then codes "generic arguments"
    else (if kind == GENERIC_PARAM_LIST then codes "generic parameters"
    else other))))))))

-- what another part is called of a kind; of others what is given
abbrev pub part_words : ℕ → List ℕ → List ℕ
part_words kind other =
    if kind == USE_TREE then codes "a use tree"
    else (if kind == RET_TYPE then codes "a return type"
    else (if kind == META then codes "an attribute"
    else (if kind == TOKEN_TREE then codes "a token tree"
    else (if kind == CONST_ARG then codes "a const argument"
    else (if kind == TYPE_BOUND then codes "a bound"
    else (if kind == WHERE_CLAUSE then codes "a where clause"
    else (if kind == WHERE_PRED then codes "a where predicate"
    else other)))))))

-- The words of a kind; one that has none is called by its name.
abbrev pub words_of : SyntaxKind → List ℕ
words_of kind =
    let k = raw_of kind in
    bracket_words k (mark_words k (keyword_words k (name_words k (list_words k (part_words k (name_of kind))))))

-- The spellings: a word, a mark of one character, and marks of several, whose input tokens touch each other.
use Rattle.std.specs.Prelude.{ℕ, List, [], ◌∷◌, Some, None}
use Rattle.parser_input.specs.Kinds.{SEMICOLON, COMMA, DOT, L_PAREN, R_PAREN, L_CURLY, R_CURLY, L_BRACK, R_BRACK, AT, POUND, QUESTION, COLON, EQ, BANG, L_ANGLE, R_ANGLE, MINUS, AMP, PIPE, PLUS, STAR, SLASH, CARET, PERCENT, DOT2, DOT2EQ, COLON2, EQ2, FAT_ARROW, NEQ, THIN_ARROW, LTEQ, GTEQ, AMP2, PIPE2, SHL, SHR, PLUSEQ, MINUSEQ, STAREQ, SLASHEQ, PERCENTEQ, AMPEQ, PIPEEQ, CARETEQ, SHLEQ, SHREQ, INT_NUMBER, FLOAT_NUMBER, CHAR, BYTE, STRING, BYTE_STRING, C_STRING, IDENT, UNDERSCORE, LIFETIME_IDENT, AS_KW, BREAK_KW, CONST_KW, CONTINUE_KW, CRATE_KW, ELSE_KW, ENUM_KW, FALSE_KW, FN_KW, FOR_KW, IF_KW, IMPL_KW, IN_KW, LET_KW, LOOP_KW, MATCH_KW, MOD_KW, MOVE_KW, MUT_KW, PUB_KW, REF_KW, RETURN_KW, SELF_KW, SELF_TYPE_KW, STATIC_KW, STRUCT_KW, SUPER_KW, TRAIT_KW, TRUE_KW, TYPE_KW, UNSAFE_KW, USE_KW, WHERE_KW, WHILE_KW, DYN_KW, SHEBANG, FRONTMATTER, DEFER_KW, PIPE_GT, TILDE, EXTERN_KW, ASYNC_KW, AWAIT_KW, GEN_KW, TRY_KW, MACRO_KW, UNION_KW, MACRO_RULES_KW, AUTO_KW, DEFAULT_KW, SAFE_KW, RAW_KW}
use Rattle.rust_grammar.specs.Rule.{Spelling}

-- a spelling of one token
abbrev pub one : ℕ → Spelling
one k = record { kind = k; contextual = None; parts = k ∷ [] }

-- a spelling of several tokens, told by the kinds of its characters
abbrev pub joined : ℕ → List ℕ → Spelling
joined k ks = record { kind = k; contextual = None; parts = ks }

-- a spelling of several tokens, the first of which has the leaf's kind as its contextual kind
abbrev pub marked : ℕ → List ℕ → Spelling
marked k ks = record { kind = k; contextual = Some k; parts = ks }

abbrev pub 'dots' : Spelling
'dots' = joined DOT2 (DOT ∷ DOT ∷ [])

abbrev pub 'dots_eq' : Spelling
'dots_eq' = joined DOT2EQ (DOT ∷ DOT ∷ EQ ∷ [])

abbrev pub '::' : Spelling
'::' = joined COLON2 (COLON ∷ COLON ∷ [])

abbrev pub '==' : Spelling
'==' = joined EQ2 (EQ ∷ EQ ∷ [])

abbrev pub '=>' : Spelling
'=>' = joined FAT_ARROW (EQ ∷ R_ANGLE ∷ [])

abbrev pub '!=' : Spelling
'!=' = joined NEQ (BANG ∷ EQ ∷ [])

abbrev pub '->' : Spelling
'->' = joined THIN_ARROW (MINUS ∷ R_ANGLE ∷ [])

abbrev pub '<=' : Spelling
'<=' = joined LTEQ (L_ANGLE ∷ EQ ∷ [])

abbrev pub '>=' : Spelling
'>=' = joined GTEQ (R_ANGLE ∷ EQ ∷ [])

abbrev pub '&&' : Spelling
'&&' = joined AMP2 (AMP ∷ AMP ∷ [])

abbrev pub '||' : Spelling
'||' = joined PIPE2 (PIPE ∷ PIPE ∷ [])

abbrev pub '|>' : Spelling
'|>' = marked PIPE_GT (PIPE ∷ R_ANGLE ∷ [])

abbrev pub '<<' : Spelling
'<<' = joined SHL (L_ANGLE ∷ L_ANGLE ∷ [])

abbrev pub '>>' : Spelling
'>>' = joined SHR (R_ANGLE ∷ R_ANGLE ∷ [])

abbrev pub '+=' : Spelling
'+=' = joined PLUSEQ (PLUS ∷ EQ ∷ [])

abbrev pub '-=' : Spelling
'-=' = joined MINUSEQ (MINUS ∷ EQ ∷ [])

abbrev pub '*=' : Spelling
'*=' = joined STAREQ (STAR ∷ EQ ∷ [])

abbrev pub '/=' : Spelling
'/=' = joined SLASHEQ (SLASH ∷ EQ ∷ [])

abbrev pub '%=' : Spelling
'%=' = joined PERCENTEQ (PERCENT ∷ EQ ∷ [])

abbrev pub '&=' : Spelling
'&=' = joined AMPEQ (AMP ∷ EQ ∷ [])

abbrev pub '|=' : Spelling
'|=' = joined PIPEEQ (PIPE ∷ EQ ∷ [])

abbrev pub '^=' : Spelling
'^=' = joined CARETEQ (CARET ∷ EQ ∷ [])

abbrev pub '<<=' : Spelling
'<<=' = joined SHLEQ (L_ANGLE ∷ L_ANGLE ∷ EQ ∷ [])

abbrev pub '>>=' : Spelling
'>>=' = joined SHREQ (R_ANGLE ∷ R_ANGLE ∷ EQ ∷ [])

abbrev pub 'semi' : Spelling
'semi' = one SEMICOLON

abbrev pub 'comma' : Spelling
'comma' = one COMMA

abbrev pub 'dot' : Spelling
'dot' = one DOT

abbrev pub 'l_paren' : Spelling
'l_paren' = one L_PAREN

abbrev pub 'r_paren' : Spelling
'r_paren' = one R_PAREN

abbrev pub 'l_curly' : Spelling
'l_curly' = one L_CURLY

abbrev pub 'r_curly' : Spelling
'r_curly' = one R_CURLY

abbrev pub '[' : Spelling
'[' = one L_BRACK

abbrev pub ']' : Spelling
']' = one R_BRACK

abbrev pub 'at' : Spelling
'at' = one AT

abbrev pub '#' : Spelling
'#' = one POUND

abbrev pub '?' : Spelling
'?' = one QUESTION

abbrev pub ':' : Spelling
':' = one COLON

abbrev pub '=' : Spelling
'=' = one EQ

abbrev pub '!' : Spelling
'!' = one BANG

abbrev pub '<' : Spelling
'<' = one L_ANGLE

abbrev pub '>' : Spelling
'>' = one R_ANGLE

abbrev pub '-' : Spelling
'-' = one MINUS

abbrev pub '&' : Spelling
'&' = one AMP

abbrev pub '|' : Spelling
'|' = one PIPE

abbrev pub '+' : Spelling
'+' = one PLUS

abbrev pub '*' : Spelling
'*' = one STAR

abbrev pub '/' : Spelling
'/' = one SLASH

abbrev pub '^' : Spelling
'^' = one CARET

abbrev pub '%' : Spelling
'%' = one PERCENT

abbrev pub 'break' : Spelling
'break' = one BREAK_KW

abbrev pub 'const' : Spelling
'const' = one CONST_KW

abbrev pub 'continue' : Spelling
'continue' = one CONTINUE_KW

abbrev pub 'crate' : Spelling
'crate' = one CRATE_KW

abbrev pub 'defer' : Spelling
'defer' = one DEFER_KW

abbrev pub 'else' : Spelling
'else' = one ELSE_KW

abbrev pub 'enum' : Spelling
'enum' = one ENUM_KW

abbrev pub 'false' : Spelling
'false' = one FALSE_KW

abbrev pub 'fn' : Spelling
'fn' = one FN_KW

abbrev pub 'for' : Spelling
'for' = one FOR_KW

abbrev pub 'if' : Spelling
'if' = one IF_KW

abbrev pub 'impl' : Spelling
'impl' = one IMPL_KW

abbrev pub 'in' : Spelling
'in' = one IN_KW

abbrev pub 'let' : Spelling
'let' = one LET_KW

abbrev pub 'loop' : Spelling
'loop' = one LOOP_KW

abbrev pub 'match' : Spelling
'match' = one MATCH_KW

abbrev pub 'mod' : Spelling
'mod' = one MOD_KW

abbrev pub 'move' : Spelling
'move' = one MOVE_KW

abbrev pub 'mut' : Spelling
'mut' = one MUT_KW

abbrev pub 'pub' : Spelling
'pub' = one PUB_KW

abbrev pub 'ref' : Spelling
'ref' = one REF_KW

abbrev pub 'return' : Spelling
'return' = one RETURN_KW

abbrev pub 'self' : Spelling
'self' = one SELF_KW

abbrev pub 'Self' : Spelling
'Self' = one SELF_TYPE_KW

abbrev pub 'static' : Spelling
'static' = one STATIC_KW

abbrev pub 'struct' : Spelling
'struct' = one STRUCT_KW

abbrev pub 'super' : Spelling
'super' = one SUPER_KW

abbrev pub 'trait' : Spelling
'trait' = one TRAIT_KW

abbrev pub 'true' : Spelling
'true' = one TRUE_KW

abbrev pub 'type' : Spelling
'type' = one TYPE_KW

abbrev pub 'unsafe' : Spelling
'unsafe' = one UNSAFE_KW

abbrev pub 'use' : Spelling
'use' = one USE_KW

abbrev pub 'where' : Spelling
'where' = one WHERE_KW

abbrev pub 'while' : Spelling
'while' = one WHILE_KW

abbrev pub 'as' : Spelling
'as' = one AS_KW

abbrev pub 'dyn' : Spelling
'dyn' = one DYN_KW

abbrev pub '_' : Spelling
'_' = one UNDERSCORE

abbrev pub 'ident' : Spelling
'ident' = one IDENT

abbrev pub 'lifetime' : Spelling
'lifetime' = one LIFETIME_IDENT

abbrev pub 'int' : Spelling
'int' = one INT_NUMBER

abbrev pub 'float' : Spelling
'float' = one FLOAT_NUMBER

abbrev pub 'char' : Spelling
'char' = one CHAR

abbrev pub 'byte' : Spelling
'byte' = one BYTE

abbrev pub 'string' : Spelling
'string' = one STRING

abbrev pub 'byte_string' : Spelling
'byte_string' = one BYTE_STRING

abbrev pub 'c_string' : Spelling
'c_string' = one C_STRING

abbrev pub 'shebang' : Spelling
'shebang' = one SHEBANG

abbrev pub 'frontmatter' : Spelling
'frontmatter' = one FRONTMATTER

-- the word `dyn` where it is no keyword of the edition
abbrev pub 'contextual_dyn' : Spelling
'contextual_dyn' = joined DYN_KW (IDENT ∷ [])

-- words and marks that only the grammar of the whole language reads
abbrev pub 'tilde' : Spelling
'tilde' = one TILDE

abbrev pub 'extern' : Spelling
'extern' = one EXTERN_KW

abbrev pub 'async' : Spelling
'async' = one ASYNC_KW

abbrev pub 'await' : Spelling
'await' = one AWAIT_KW

abbrev pub 'gen' : Spelling
'gen' = one GEN_KW

abbrev pub 'try' : Spelling
'try' = one TRY_KW

abbrev pub 'macro' : Spelling
'macro' = one MACRO_KW

-- words that are keywords only where a row asks for them
abbrev pub 'contextual_union' : Spelling
'contextual_union' = joined UNION_KW (IDENT ∷ [])

abbrev pub 'contextual_macro_rules' : Spelling
'contextual_macro_rules' = joined MACRO_RULES_KW (IDENT ∷ [])

abbrev pub 'contextual_auto' : Spelling
'contextual_auto' = joined AUTO_KW (IDENT ∷ [])

abbrev pub 'contextual_default' : Spelling
'contextual_default' = joined DEFAULT_KW (IDENT ∷ [])

abbrev pub 'contextual_safe' : Spelling
'contextual_safe' = joined SAFE_KW (IDENT ∷ [])

abbrev pub 'contextual_raw' : Spelling
'contextual_raw' = joined RAW_KW (IDENT ∷ [])

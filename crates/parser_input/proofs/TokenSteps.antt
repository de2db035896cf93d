-- Token by token, where the tokens are known.
use Rattle.std.proofs.Common.{◌≡◌, ◌∙◌, ◌≤◌, ◌<◌, ◌+◌, ℕ, suc, false, List, [], ◌∷◌, length, take, drop, get_or, refl, sym, subst, ap, arith, chars, length-drop}
use Rattle.std.proofs.Math.Seq.{drop-cons}
use Rattle.std.proofs.Math.Utf8.{encodes}
use Rattle.std.proofs.lemmas.List.{drop_all, drop-drop}
use Rattle.std.proofs.lemmas.Str.{chars-nil, encodes-chars}
use Rattle.rustc_lexer.specs.Characters.{size}
use Rattle.rustc_lexer.specs.Lexeme.{lexeme}
use Rattle.rustc_lexer.specs.Tokens as lexer
use Rattle.rustc_lexer.specs.declared.token.Token.{Token}
use Rattle.rustc_lexer.proofs.Cutting.{first-length, list-cons, list-nil, next-some}
use Rattle.parser_input.specs.Leaf.{leaf_of}
use Rattle.parser_input.specs.Lexed.{Lexed, is_split}
use Rattle.parser_input.specs.Stored.{Found, leaf_next}
use Rattle.parser_input.specs.declared.edition.Edition.{Edition}
use Rattle.parser_input.specs.declared.lexed_str.StoredLeaf.{StoredLeaf}
use Rattle.parser_input.proofs.LexedSteps.{at-size, leaf-whole}

some_text : (t : List ℕ) (x : Token) (xs : List Token) → lexer.token_list t ≡ x ∷ xs → 1 ≤ length t
some_text [] x xs e = let none : [] ≡ x ∷ xs = sym (list-nil [] refl) ∙ e in absurd (cc)
some_text (c ∷ cs) x xs e = omega arith

some_bytes : (bs : List ℕ) → 1 ≤ length (chars bs) → 0 < length bs
some_bytes [] h = absurd (omega (arith, ap (λ (l : List ℕ). length l) chars-nil))
some_bytes (b ∷ bs) h = omega arith

-- the next token is that of the text that is left
pub record Held (text : List ℕ) (place : ℕ) (tokens : List Token) (i : ℕ) (token : Token) : Type 0 where
  pub some : place < length text
  pub is : token ≡ lexer.token (lexer.first_lexeme (chars (drop place text)))
  pub rest : drop (i + 1) tokens ≡ lexer.token_list (drop (lexeme (chars (drop place text))).taken (chars (drop place text)))

pub held : (text : List ℕ) (place : ℕ) (tokens : List Token) (i : ℕ) (d : Token) → i < length tokens → drop i tokens ≡ lexer.token_list (chars (drop place text)) → Held text place tokens i (get_or tokens i d)
held text place tokens i d h e =
    let t = chars (drop place text) in
    let x = get_or tokens i d in
    let more : suc i ≡ i + 1 = omega arith in
    let split : drop i tokens ≡ x ∷ drop (i + 1) tokens = drop-cons tokens i d h ∙ ap (λ (k : ℕ). x ∷ drop k tokens) more in
    let listed : lexer.token_list t ≡ x ∷ drop (i + 1) tokens = sym e ∙ split in
    let long : 1 ≤ length t = some_text t x (drop (i + 1) tokens) listed in
    let first = next-some t long in
    let both : x ∷ drop (i + 1) tokens ≡ lexer.token (lexer.next_lexeme t) ∷ lexer.token_list (drop (length (lexer.next_lexeme t).text) t) = sym listed ∙ list-cons t long in
    let head : x ≡ lexer.token (lexer.next_lexeme t) = cc in
    let tail : drop (i + 1) tokens ≡ lexer.token_list (drop (length (lexer.next_lexeme t).text) t) = cc in
    let taken : length (lexer.next_lexeme t).text ≡ (lexeme t).taken = ap (λ (l : lexer.Lexeme). length l.text) first ∙ first-length t in
    record {
      some = omega (arith, some_bytes (drop place text) long, length-drop place text);
      is = head ∙ ap (λ (l : lexer.Lexeme). lexer.token l) first;
      rest = tail ∙ ap (λ (n : ℕ). lexer.token_list (drop n t)) taken;
    }

-- what is left after a token that is one leaf
pub after-token : (edition : Edition) (text : List ℕ) (place : ℕ) (ps : List StoredLeaf) (end : ℕ) → Found edition text place ps → is_split edition (lexer.first_lexeme (chars (drop place text))).kind ≡ false → end ≡ place + size (leaf_next edition (chars (drop place text))).leaf.text → chars (drop end text) ≡ drop (lexeme (chars (drop place text))).taken (chars (drop place text))
unfolding lexer.first_lexeme leaf_of
after-token edition text place ps end f whole e =
    let rest = drop place text in
    let t = chars rest in
    let n = (lexeme t).taken in
    let a = at-size rest n f.utf8 in
    let own : (leaf_next edition t).leaf.text ≡ take n t = ap (λ (x : Lexed). x.leaf.text) (leaf-whole edition (lexer.first_lexeme t) whole) in
    let at : end ≡ place + size (take n t) = e ∙ ap (λ (x : List ℕ). place + size x) own in
    ap (λ (k : ℕ). chars (drop k text)) at ∙ ap (λ (l : List ℕ). chars l) (sym (drop-drop (size (take n t)) place text)) ∙ a.left

none_listed : (t : List ℕ) → lexer.token_list t ≡ [] → t ≡ []
none_listed [] e = refl
none_listed (c ∷ cs) e =
    let listed = list-cons (c ∷ cs) (omega arith) in
    let wrong : [] ≡ lexer.token (lexer.next_lexeme (c ∷ cs)) ∷ lexer.token_list (drop (length (lexer.next_lexeme (c ∷ cs)).text) (c ∷ cs)) = sym e ∙ listed in
    absurd (cc)

-- where no token is left, no text is
pub found-end : (edition : Edition) (text : List ℕ) (place : ℕ) (ps : List StoredLeaf) (tokens : List Token) (i : ℕ) → Found edition text place ps → length tokens ≤ i → drop i tokens ≡ lexer.token_list (chars (drop place text)) → Found edition text (length text) ps
found-end edition text place ps tokens i f h e =
    let rest = drop place text in
    let none : chars rest ≡ [] = none_listed (chars rest) (sym e ∙ drop_all i tokens h) in
    let gone : rest ≡ [] = sym (encodes-chars rest f.utf8) ∙ ap encodes none in
    let end : place ≡ length text = omega (arith, ap (λ (l : List ℕ). length l) gone, length-drop place text, f.within) in
    subst (λ (k : ℕ). Found edition text k ps) end f

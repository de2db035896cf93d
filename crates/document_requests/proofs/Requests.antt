-- The request in some bytes.
use Rattle.std.proofs.Common.{◌≡◌, ℕ, List, Bool, true, false, refl, sym, ap, ◌∙◌, Option, Some, None, Result, Ok, Err, IfOk}
use Rattle.std.specs.Prelude.{◌&&◌, codes, if◌then◌else◌, option_and_then}
use Rattle.std.specs.Str.{IsUtf8, is_utf8}
use Rattle.std.proofs.lemmas.Str.{IsUtf8-from_is_utf8, is_utf8-from_IsUtf8}
use Rattle.serde_json.specs.Data.{Data}
use Rattle.serde_json.specs.Find.{as_str, get}
use Rattle.serde_json.specs.Read.{read}
use Rattle.serde_json.specs.Written.{has_float}
use Rattle.document_requests.specs.Floats.{writes_float}
use Rattle.document_requests.specs.Outcome.{output, ran_of}
use Rattle.document_requests.specs.Output.{NamesProfile, Rejected, of_value, of_value_if_any, output_of, ran, ran_as, replies, served_if_any}
use Rattle.document_requests.specs.Request.{grammar_in, request_by, request_of, text_in}
use Rattle.document_requests.specs.Words.{grammar_named}
use Rattle.ra_parser.specs.declared.grammar.Grammar.TheVariants.{Profile}
use Rattle.document_requests.specs.declared.serve.Outcome.{Outcome}
use Rattle.document_requests.specs.declared.reply.Refusal.TheVariants.{Request, Float}
use Rattle.document_requests.specs.declared.request.Format.{Format}
use Rattle.document_requests.specs.declared.request.Format.TheVariants.{Single, Line}

-- where the bytes are UTF-8 or not
told : Format → Bool → List ℕ → Type 0
told format b bytes = Rejected Request ≡ (if b then of_value_if_any format bytes (read bytes) else Rejected Request)

by_test : (format : Format) (bytes : List ℕ) (b : Bool) → is_utf8 bytes ≡ b → ¬ (IsUtf8 bytes) → told format b bytes
unfolding told
by_test format bytes true is fails = absurd (fails (IsUtf8-from_is_utf8 bytes is))
by_test format bytes false is fails = refl

pub no_text : (format : Format) (bytes : List ℕ) → ¬ (IsUtf8 bytes) → Rejected Request ≡ ran_as format bytes
unfolding told
no_text format bytes fails = by_test format bytes (is_utf8 bytes) refl fails

pub value_read :
    (format : Format) (text bytes : List ℕ) (d : Data)
    → text ≡ bytes → IsUtf8 bytes → read text ≡ Some d → of_value format text d ≡ ran_as format bytes
value_read format text bytes d same utf8 is =
    ap (λ t. of_value format t d) same ∙ sym
    (ap (λ b. if b then of_value_if_any format bytes (read bytes) else Rejected Request) (is_utf8-from_IsUtf8 bytes utf8)
    ∙ ap (of_value_if_any format bytes) (ap read (sym same) ∙ is))

-- ---- where the profile is named

profile-named : (member : Option Data) → option_and_then as_str member ≡ Some (codes "profile") → grammar_in member ≡ Some Profile
profile-named None is = absurd (cc)
profile-named (Some d) is = ap (option_and_then grammar_named) is

same_request : (format : Format) (d : Data) → text_in (codes "grammar") d ≡ Some (codes "profile") → request_of format d ≡ request_of Single d
same_request Single d is = refl
same_request Line d is = ap (option_and_then (λ grammar. request_by grammar d)) (profile-named (get (codes "grammar") d) is)

same_value :
    (format : Format) (text : List ℕ) (found : Option Data)
    → ((d : Data) → found ≡ Some d → text_in (codes "grammar") d ≡ Some (codes "profile")) → of_value_if_any format text found ≡ of_value_if_any Single text found
same_value format text None named = refl
same_value format text (Some d) named =
    ap (λ r. if has_float d && writes_float text then Rejected Float else served_if_any r) (same_request format d (named d refl))

-- all formats have one result
pub same_ran : (format : Format) (bytes : List ℕ) → NamesProfile bytes → ran_as format bytes ≡ ran bytes
same_ran format bytes named = ap (λ r. if is_utf8 bytes then r else Rejected Request) (same_value format bytes (read bytes) named)

pub ran_alike :
    {E : Type 0} (r : Result Outcome E) (format : Format) (bytes : List ℕ)
    → IfOk r (λ o. ran_of o ≡ ran_as format bytes) → IfOk r (λ o. NamesProfile bytes → ran_of o ≡ ran bytes)
ran_alike (Ok o) format bytes is = λ named. is ∙ same_ran format bytes named
ran_alike (Err e) format bytes is = tt

-- what ran tells what is written
pub outputs : {E : Type 0} (r : Result Outcome E) (bytes : List ℕ) → IfOk r (λ o. ran_of o ≡ ran bytes) → IfOk r (λ o. output o ≡ replies bytes)
outputs (Ok o) bytes is = ap output_of is
outputs (Err e) bytes is = tt

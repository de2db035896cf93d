-- Lemmas on clients.
use Rattle.std.proofs.Common.{All, ◌≢◌, ◌≡◌, ◌==◌, ℕ, ◌+◌, ◌-◌, ◌^◌, ◌<◌, ◌≤◌, min, Bool, true, false, ◌||◌, List, [], ◌∷◌, ◌++◌, length, get_or, take, drop, zero, suc, drop-cons, Option, None, Some, Result, Ok, Err, refl, ap, sym, subst, ◌∙◌, append_assoc, arith, inl, inr}
use Rattle.std.specs.Prelude.{IfSome, IfErr, OnOk, OnErr, option_map, is_err, IsTrue, ◌↔◌, if◌then◌else◌}
use Rattle.std.specs.Io.KnownBytes.{Appends, Consumes, IsAtEnd, Keeps, ReadConsumes, WriteAppends}
use Rattle.std.proofs.KnownBytes.{Appends-nil, Consumes-nil, Consumes-trans}
use Rattle.std.proofs.lemmas.Bool.{eqb-true, ne_eqb, true≢false}
use Rattle.std.proofs.lemmas.List.{append-nil, take-append-drop, take_all, length-drop}
use Rattle.std.proofs.lemmas.List.Elements.{All-append, All-nil}
use Rattle.std.proofs.lemmas.Grind.{flat_map-append}
use Rattle.line_reader.specs.Clients.{AppendsFront, Exchange, IsFresh, IsReady, NoneFailed, OneReadFailed, OneWriteFailed, Reads, SameReading, Seen, StopsServing, StopsWriting, Writes, Wrote, WroteFront, counted, exchanged, handed, is_end, is_failed_write}
use Rattle.line_reader.specs.Lines.{IsPlain, line_feed, answers, lines, open_part, whole_lines}
use Rattle.line_reader.specs.Parts.{IsFront}
use Rattle.line_reader.specs.declared.serve.Stop.{Stop}
use Rattle.line_reader.specs.declared.serve.Stop.TheVariants.{Reading, Writing, Memory}
use Rattle.line_reader.proofs.LineLemmas.{cut, lines-last, lines-none, open-ended, open-is-plain, open-nil, open-plain, whole-ended, whole-nil, whole-plain}

-- ---- results

pub on_ok : {T E : Type 0} (r : Result T E) (P Q : Type 0) → (P → Q) → OnOk r P → OnOk r Q
on_ok (Ok x) P Q f p = f p
on_ok (Err e) P Q f p = tt

pub on_err : {T E : Type 0} (r : Result T E) (P Q : Type 0) → (P → Q) → OnErr r P → OnErr r Q
on_err (Ok x) P Q f p = tt
on_err (Err e) P Q f p = f p

pub in-ok : {T E : Type 0} (r : Result T E) (P : Type 0) → P → OnOk r P
in-ok (Ok x) P p = p
in-ok (Err e) P p = tt

pub in-err : {T E : Type 0} (r : Result T E) (P : Type 0) → P → OnErr r P
in-err (Ok x) P p = tt
in-err (Err e) P p = p

-- ---- bytes that were exchanged

exchanged-none : (known : Option Exchange) → known ≡ exchanged [] [] known
exchanged-none None = refl
exchanged-none (Some e) = rw (append-nil e.sent, append-nil e.written) refl

exchanged-both : (a b c d : List ℕ) (known : Option Exchange) → exchanged c d (exchanged a b known) ≡ exchanged (a ++ c) (b ++ d) known
exchanged-both a b c d None = refl
exchanged-both a b c d (Some e) = rw (append_assoc e.sent a c, append_assoc e.written b d) refl

appends-both : (old mid new : Option (List ℕ)) (first second : List ℕ) → Appends old mid first → Appends mid new second → Appends old new (first ++ second)
appends-both None mid new first second before last = tt
appends-both (Some xs) None new first second before last = absurd before
appends-both (Some xs) (Some ys) None first second before last = absurd last
appends-both (Some xs) (Some ys) (Some zs) first second before last = last ∙ ap (λ bytes. bytes ++ second) before ∙ append_assoc xs first second

keeps-appends : (old new : Option (List ℕ)) → Keeps old new → Appends old new []
keeps-appends None new k = tt
keeps-appends (Some xs) None k = absurd k
keeps-appends (Some xs) (Some ys) k = k ∙ sym (append-nil xs)

same-appends : (old new : Option (List ℕ)) → new ≡ old → Appends old new []
same-appends old new same = subst (λ k. Appends old k []) (sym same) (Appends-nil old)

pub wrote-none : (s : Seen) → Wrote s s []
wrote-none s = record { exchange = exchanged-none s.exchange; contents = Appends-nil s.contents }

pub wrote-both : (old mid new : Seen) (first second : List ℕ) → Wrote old mid first → Wrote mid new second → Wrote old new (first ++ second)
wrote-both old mid new first second a b = record {
  exchange = b.exchange ∙ ap (exchanged [] second) a.exchange ∙ exchanged-both [] first [] second old.exchange;
  contents = appends-both old.contents mid.contents new.contents first second a.contents b.contents;
}

pub front-none : (s : Seen) (bytes : List ℕ) → WroteFront s s bytes
front-none s bytes = record { front = []; rest = bytes; all = refl; wrote = wrote-none s }

pub front-all : (old new : Seen) (bytes : List ℕ) → Wrote old new bytes → WroteFront old new bytes
front-all old new bytes w = record { front = bytes; rest = []; all = sym (append-nil bytes); wrote = w }

pub front-more : (old new : Seen) (first second : List ℕ) → WroteFront old new first → WroteFront old new (first ++ second)
front-more old new first second h = record { front = h.front; rest = h.rest ++ second; all = ap (λ bytes. bytes ++ second) h.all ∙ append_assoc h.front h.rest second; wrote = h.wrote }

pub front-then : (old mid new : Seen) (first second : List ℕ) → Wrote old mid first → WroteFront mid new second → WroteFront old new (first ++ second)
front-then old mid new first second a h = record {
  front = first ++ h.front;
  rest = h.rest;
  all = ap (λ bytes. first ++ bytes) h.all ∙ sym (append_assoc first h.front h.rest);
  wrote = wrote-both old mid new first h.front a h.wrote;
}

-- ---- calls

pub same-none : (s : Seen) → SameReading s s
same-none s = record { left = refl; is_ended = refl; reads = refl; failed = refl }

pub same-both : (old mid new : Seen) → SameReading old mid → SameReading mid new → SameReading old new
same-both old mid new a b = record { left = b.left ∙ a.left; is_ended = b.is_ended ∙ a.is_ended; reads = b.reads ∙ a.reads; failed = b.failed ∙ a.failed }

pub none-none : (s : Seen) → NoneFailed s s
none-none s = record { reads = refl; writes = refl }

pub none-both : (old mid new : Seen) → NoneFailed old mid → NoneFailed mid new → NoneFailed old new
none-both old mid new a b = record { reads = b.reads ∙ a.reads; writes = b.writes ∙ a.writes }

pub stops-both : (old mid new : Seen) (stop : Stop) → NoneFailed old mid → StopsWriting mid new stop → StopsWriting old new stop
stops-both old mid new Reading a b = absurd b
stops-both old mid new Writing a b = record { reads = b.reads ∙ a.reads; writes = b.writes ∙ ap (λ n. counted (n + 1)) a.writes }
stops-both old mid new Memory a b = none-both old mid new a b

pub stops-serving : (old new : Seen) (stop : Stop) → StopsWriting old new stop → StopsServing old new stop
stops-serving old new Reading h = absurd h
stops-serving old new Writing h = h
stops-serving old new Memory h = h

-- ---- writes

-- a write that takes something did not fail
pub write-kept : {E : Type 0} (r : Result ℕ E) (n : ℕ) (old mid new : Seen) (bytes : List ℕ) → NoneFailed old mid → Writes mid new r bytes → r ≡ Ok n → (n ≡ 0 → ⊥) → NoneFailed old new
write-kept r n old mid new bytes before w done some =
    let failed : is_failed_write r ≡ false = ap is_failed_write done ∙ ne_eqb n 0 some in
    record {
      reads = w.reading.failed ∙ before.reads;
      writes = w.failed ∙ ap (λ (b : Bool). if b then counted (mid.failed_writes + 1) else mid.failed_writes) failed ∙ before.writes;
    }

pub write-failed : {E : Type 0} (r : Result ℕ E) (old mid new : Seen) (bytes : List ℕ) → NoneFailed old mid → Writes mid new r bytes → is_failed_write r ≡ true → OneWriteFailed old new
write-failed r old mid new bytes before w failed = record {
  reads = w.reading.failed ∙ before.reads;
  writes = w.failed ∙ ap (λ (b : Bool). if b then counted (mid.failed_writes + 1) else mid.failed_writes) failed ∙ ap (λ n. counted (n + 1)) before.writes;
}

-- what a write takes was written
pub write-taken : {E : Type 0} (r : Result ℕ E) (n : ℕ) (old new : Seen) (bytes : List ℕ) → Writes old new r bytes → r ≡ Ok n → Wrote old new (take n bytes)
write-taken (Ok m) n old new bytes w done =
    let same : m ≡ n = (let e = done in cc) in
    subst (λ k. Wrote old new (take k bytes)) same (record { exchange = w.exchange; contents = w.contents })
write-taken (Err e) n old new bytes w done = absurd (cc)

-- a write that failed wrote nothing
pub write-nothing : {E : Type 0} (r : Result ℕ E) (old new : Seen) (bytes : List ℕ) → Writes old new r bytes → is_failed_write r ≡ true → Wrote old new []
write-nothing (Ok n) old new bytes w failed = subst (λ k. Wrote old new (take k bytes)) (eqb-true n 0 failed) (record { exchange = w.exchange; contents = w.contents })
write-nothing (Err e) old new bytes w failed = record { exchange = w.exchange; contents = keeps-appends old.contents new.contents w.contents }

-- what is left after a write of n bytes
pub record Left (old new : Seen) (bytes rest : List ℕ) : Type 0 where
  pub front : List ℕ
  pub all : bytes ≡ front ++ rest
  pub wrote : Wrote old new front

pub left-all : (s : Seen) (bytes : List ℕ) → Left s s bytes bytes
left-all s bytes = record { front = []; all = refl; wrote = wrote-none s }

pub left-more : (old mid new : Seen) (bytes rest : List ℕ) (n : ℕ) → Left old mid bytes rest → Wrote mid new (take n rest) → Left old new bytes (take (length rest - n) (drop n rest))
left-more old mid new bytes rest n l w = record {
  front = l.front ++ take n rest;
  all = l.all ∙ ap (λ r. l.front ++ r) (sym (take-append-drop n rest)) ∙ sym (append_assoc l.front (take n rest) (drop n rest)) ∙ ap (λ r. (l.front ++ take n rest) ++ r) (sym whole);
  wrote = wrote-both old mid new l.front (take n rest) l.wrote w;
}
  where
    whole : take (length rest - n) (drop n rest) ≡ drop n rest
    whole = take_all (length rest - n) (drop n rest) (omega (arith, length-drop n rest))

pub left-none : (old new : Seen) (bytes rest : List ℕ) → Left old new bytes rest → rest ≡ [] → Wrote old new bytes
left-none old new bytes rest l none = subst (Wrote old new) (sym (l.all ∙ ap (λ r. l.front ++ r) none ∙ append-nil l.front)) l.wrote

pub left-front : (old mid new : Seen) (bytes rest : List ℕ) → Left old mid bytes rest → Wrote mid new [] → WroteFront old new bytes
left-front old mid new bytes rest l w = record {
  front = l.front;
  rest = rest;
  all = l.all;
  wrote = subst (Wrote old new) (append-nil l.front) (wrote-both old mid new l.front [] l.wrote w);
}

-- ---- the last line

pub last-none : (answer_to : List ℕ → List ℕ) (s : Seen) (begun : List ℕ) → begun ≡ [] → Wrote s s (answers answer_to (lines begun))
last-none answer_to s begun none = subst (Wrote s s) (sym (ap (answers answer_to) (lines-none begun none))) (wrote-none s)

last-is : (answer_to : List ℕ → List ℕ) (begun : List ℕ) → IsPlain begun → (begun ≡ [] → ⊥) → answer_to begun ≡ answers answer_to (lines begun)
last-is answer_to begun plain some = sym (ap (answers answer_to) (lines-last begun plain some) ∙ append-nil (answer_to begun))

pub last-one : (answer_to : List ℕ → List ℕ) (old new : Seen) (begun : List ℕ) → IsPlain begun → (begun ≡ [] → ⊥) → Wrote old new (answer_to begun) → Wrote old new (answers answer_to (lines begun))
last-one answer_to old new begun plain some w = subst (Wrote old new) (last-is answer_to begun plain some) w

pub last-front : (answer_to : List ℕ → List ℕ) (old new : Seen) (begun : List ℕ) → IsPlain begun → (begun ≡ [] → ⊥) → WroteFront old new (answer_to begun) → WroteFront old new (answers answer_to (lines begun))
last-front answer_to old new begun plain some w = subst (WroteFront old new) (last-is answer_to begun plain some) w

-- of a line that is not empty
empty-is-not : (limit : ℕ) (kept begun : List ℕ) (is_long is_empty : Bool) → ((limit : ℕ) (front : List ℕ) → IsFront limit front kept is_long → IsTrue is_empty ↔ front ≡ []) → is_empty ≡ false → IsFront limit begun kept is_long → begun ≡ [] → ⊥
empty-is-not limit kept begun is_long is_empty tells not front none = (let is = (tells limit begun front).1 none in absurd (true≢false (sym is ∙ not)))

pub last-written :
    {T E : Type 0} (r : Result T E) (answer_to : List ℕ → List ℕ) (limit : ℕ) (old new : Seen) (kept : List ℕ) (is_long is_empty : Bool) →
    ((limit : ℕ) (front : List ℕ) → IsFront limit front kept is_long → IsTrue is_empty ↔ front ≡ []) → is_empty ≡ false →
    OnOk r ((sent : List ℕ) → IsFront limit sent kept is_long → Wrote old new (answer_to sent)) →
    OnOk r ((begun : List ℕ) → IsPlain begun → IsFront limit begun kept is_long → Wrote old new (answers answer_to (lines begun)))
last-written (Ok x) answer_to limit old new kept is_long is_empty tells not told = λ begun plain front. last-one answer_to old new begun plain (empty-is-not limit kept begun is_long is_empty tells not front) (told begun front)
last-written (Err e) answer_to limit old new kept is_long is_empty tells not told = tt

pub last-unwritten :
    {T E : Type 0} (r : Result T E) (answer_to : List ℕ → List ℕ) (limit : ℕ) (old new : Seen) (kept : List ℕ) (is_long is_empty : Bool) →
    ((limit : ℕ) (front : List ℕ) → IsFront limit front kept is_long → IsTrue is_empty ↔ front ≡ []) → is_empty ≡ false →
    OnErr r ((sent : List ℕ) → IsFront limit sent kept is_long → WroteFront old new (answer_to sent)) →
    OnErr r ((begun : List ℕ) → IsPlain begun → IsFront limit begun kept is_long → WroteFront old new (answers answer_to (lines begun)))
last-unwritten (Ok x) answer_to limit old new kept is_long is_empty tells not told = tt
last-unwritten (Err e) answer_to limit old new kept is_long is_empty tells not told = λ begun plain front. last-front answer_to old new begun plain (empty-is-not limit kept begun is_long is_empty tells not front) (told begun front)

-- ---- the lines of a chunk

-- Some lines of the bytes were answered, and the front of the next one is kept.
pub record Chunk (answer_to : List ℕ → List ℕ) (limit : ℕ) (old new : Seen) (bytes rest kept : List ℕ) (is_long : Bool) : Type 0 where
  pub done : List (List ℕ)
  pub begun : List ℕ
  pub plain : IsPlain begun
  pub kept_front : IsFront limit begun kept is_long
  pub whole : whole_lines bytes ≡ done ++ whole_lines (begun ++ rest)
  pub part : open_part bytes ≡ open_part (begun ++ rest)
  pub wrote : Wrote old new (answers answer_to done)

pub chunk-none : (answer_to : List ℕ → List ℕ) (limit : ℕ) (s : Seen) (begun rest kept : List ℕ) (is_long : Bool) → IsPlain begun → IsFront limit begun kept is_long → Chunk answer_to limit s s (begun ++ rest) rest kept is_long
chunk-none answer_to limit s begun rest kept is_long plain front = record { done = []; begun = begun; plain = plain; kept_front = front; whole = refl; part = refl; wrote = wrote-none s }

-- all bytes are taken
pub chunk-end : (answer_to : List ℕ → List ℕ) (limit : ℕ) (old new : Seen) (bytes kept : List ℕ) (is_long : Bool) → Chunk answer_to limit old new bytes [] kept is_long →
    IsFront limit (open_part bytes) kept is_long × Wrote old new (answers answer_to (whole_lines bytes))
chunk-end answer_to limit old new bytes kept is_long c =
    let same : c.begun ++ [] ≡ c.begun = append-nil c.begun in
    let part : open_part bytes ≡ c.begun = c.part ∙ ap open_part same ∙ open-plain c.begun c.plain in
    let whole : whole_lines bytes ≡ c.done = c.whole ∙ ap (λ r. c.done ++ whole_lines r) same ∙ ap (λ ls. c.done ++ ls) (whole-plain c.begun c.plain) ∙ append-nil c.done in
    (subst (λ p. IsFront limit p kept is_long) (sym part) c.kept_front, subst (λ ls. Wrote old new (answers answer_to ls)) (sym whole) c.wrote)

pub chunk-taken : (answer_to : List ℕ → List ℕ) (limit : ℕ) (old new : Seen) (bytes rest kept : List ℕ) (is_long : Bool) → length rest ≡ 0 → Chunk answer_to limit old new bytes rest kept is_long →
    IsFront limit (open_part bytes) kept is_long × Wrote old new (answers answer_to (whole_lines bytes))
chunk-taken answer_to limit old new bytes [] kept is_long none c = chunk-end answer_to limit old new bytes kept is_long c
chunk-taken answer_to limit old new bytes (b ∷ rest) kept is_long none c = absurd (omega arith)

-- the line is longer by a part, by the same limit
pub longer : (limit limit' : ℕ) (part kept kept' : List ℕ) (is_long is_long' : Bool) → limit' ≡ limit →
    ((front : List ℕ) → IsFront limit' front kept is_long → IsFront limit' (front ++ part) kept' is_long') →
    (front : List ℕ) → IsFront limit front kept is_long → IsFront limit (front ++ part) kept' is_long'
longer limit limit' part kept kept' is_long is_long' same h front f =
    subst (λ n. IsFront n (front ++ part) kept' is_long') same (h front (subst (λ n. IsFront n front kept is_long) (sym same) f))

-- what is written of the answers where the next line's answer is not written whole
pub chunk-front : (answer_to : List ℕ → List ℕ) (limit : ℕ) (old mid new : Seen) (bytes rest kept part more : List ℕ) (is_long : Bool) → (c : Chunk answer_to limit old mid bytes rest kept is_long) →
    IsPlain part → rest ≡ part ++ (10 ∷ more) → WroteFront mid new (answer_to (c.begun ++ part)) → WroteFront old new (answers answer_to (whole_lines bytes))
chunk-front answer_to limit old mid new bytes rest kept part more is_long c plain cut-here w =
    let line = c.begun ++ part in
    let whole : whole_lines (c.begun ++ rest) ≡ line ∷ whole_lines more =
    ap (λ r. whole_lines (c.begun ++ r)) cut-here ∙ ap whole_lines (sym (append_assoc c.begun part (10 ∷ more))) ∙ whole-ended line more (All-append (λ byte. byte ≢ line_feed) c.begun part c.plain plain) in
    let all : answers answer_to (whole_lines bytes) ≡ answers answer_to c.done ++ (answer_to line ++ answers answer_to (whole_lines more)) =
    ap (answers answer_to) (c.whole ∙ ap (λ ls. c.done ++ ls) whole) ∙ flat_map-append answer_to c.done (line ∷ whole_lines more) in
    subst (WroteFront old new) (sym all) (front-then old mid new (answers answer_to c.done) _ c.wrote (front-more mid new (answer_to line) (answers answer_to (whole_lines more)) w))

pub chunk-unwritten :
    {T E : Type 0} (r : Result T E) (answer_to : List ℕ → List ℕ) (limit : ℕ) (old mid new : Seen) (chunk rest part more first kept kept' : List ℕ) (was_long is_long is_long' : Bool) →
    ((begun : List ℕ) → IsPlain begun → IsFront limit begun first was_long → Chunk answer_to limit old mid (begun ++ chunk) rest kept is_long) →
    IsPlain part → rest ≡ part ++ (10 ∷ more) → ((front : List ℕ) → IsFront limit front kept is_long → IsFront limit (front ++ part) kept' is_long') →
    ((sent : List ℕ) → IsFront limit sent kept' is_long' → WroteFront mid new (answer_to sent)) →
    OnErr r ((begun : List ℕ) → IsPlain begun → IsFront limit begun first was_long → WroteFront old new (answers answer_to (whole_lines (begun ++ chunk))))
chunk-unwritten (Ok x) answer_to limit old mid new chunk rest part more first kept kept' was_long is_long is_long' h plain cut-here line told = tt
chunk-unwritten (Err e) answer_to limit old mid new chunk rest part more first kept kept' was_long is_long is_long' h plain cut-here line told = λ begun p f.
    let k = h begun p f in
    chunk-front answer_to limit old mid new (begun ++ chunk) rest kept part more is_long k plain cut-here (told (k.begun ++ part) (line k.begun k.kept_front))

-- what is written of the answers so far
pub chunk-part : (answer_to : List ℕ → List ℕ) (limit : ℕ) (old new : Seen) (bytes rest kept : List ℕ) (is_long : Bool) → Chunk answer_to limit old new bytes rest kept is_long → WroteFront old new (answers answer_to (whole_lines bytes))
chunk-part answer_to limit old new bytes rest kept is_long c =
    subst (WroteFront old new) (sym (ap (answers answer_to) c.whole ∙ flat_map-append answer_to c.done (whole_lines (c.begun ++ rest))))
    (front-more old new (answers answer_to c.done) (answers answer_to (whole_lines (c.begun ++ rest))) (front-all old new (answers answer_to c.done) c.wrote))

-- a line more is answered
pub chunk-more : (answer_to : List ℕ → List ℕ) (limit : ℕ) (old mid new : Seen) (bytes rest kept part more kept' : List ℕ) (is_long is_long' : Bool) → (c : Chunk answer_to limit old mid bytes rest kept is_long) →
    IsPlain part → rest ≡ part ++ (10 ∷ more) → kept' ≡ [] → is_long' ≡ false → Wrote mid new (answer_to (c.begun ++ part)) → Chunk answer_to limit old new bytes more kept' is_long'
chunk-more answer_to limit old mid new bytes rest kept part more kept' is_long is_long' c plain cut-here none short w =
    let line = c.begun ++ part in
    let is-plain = All-append (λ byte. byte ≢ line_feed) c.begun part c.plain plain in
    let same : c.begun ++ rest ≡ line ++ (10 ∷ more) = ap (λ r. c.begun ++ r) cut-here ∙ sym (append_assoc c.begun part (10 ∷ more)) in
    record {
      done = c.done ++ line ∷ [];
      begun = [];
      plain = All-nil (λ byte. byte ≢ line_feed);
      kept_front = rw (none, short) (refl, omega arith);
      whole = c.whole ∙ ap (λ r. c.done ++ whole_lines r) same ∙ ap (λ ls. c.done ++ ls) (whole-ended line more is-plain) ∙ sym (append_assoc c.done (line ∷ []) (whole_lines more));
      part = c.part ∙ ap open_part same ∙ open-ended line more is-plain;
      wrote = subst (Wrote old new) (sym (flat_map-append answer_to c.done (line ∷ []) ∙ ap (λ t. answers answer_to c.done ++ t) (append-nil (answer_to line)))) (wrote-both old mid new _ _ c.wrote w);
    }

-- the last part of a chunk, which has no line feed
pub chunk-last : (answer_to : List ℕ → List ℕ) (limit : ℕ) (old new : Seen) (bytes rest part kept kept' : List ℕ) (is_long is_long' : Bool) → (c : Chunk answer_to limit old new bytes rest kept is_long) →
    rest ≡ part → IsPlain part → IsFront limit (c.begun ++ part) kept' is_long' → Chunk answer_to limit old new bytes [] kept' is_long'
chunk-last answer_to limit old new bytes rest part kept kept' is_long is_long' c all plain front =
    let same : c.begun ++ rest ≡ (c.begun ++ part) ++ [] = ap (λ r. c.begun ++ r) all ∙ sym (append-nil (c.begun ++ part)) in
    record {
      done = c.done;
      begun = c.begun ++ part;
      plain = All-append (λ byte. byte ≢ line_feed) c.begun part c.plain plain;
      kept_front = front;
      whole = c.whole ∙ ap (λ r. c.done ++ whole_lines r) same;
      part = c.part ∙ ap open_part same;
      wrote = c.wrote;
    }

-- the bytes behind a line feed
tail-is : (behind : List ℕ) (b : ℕ) (more : List ℕ) → behind ≡ b ∷ more → take (length behind - 1) (drop 1 behind) ≡ more
tail-is behind b more is = rw is (take_all _ more (omega arith))

pub feed-cut : (rest part behind : List ℕ) (n : ℕ) → part ≡ take n rest → behind ≡ drop n rest → (n < length rest → get_or rest n 0 ≡ line_feed) → (length behind ≡ 0 → ⊥) →
    rest ≡ part ++ (10 ∷ take (length behind - 1) (drop 1 behind))
feed-cut rest part behind n front back at some =
    let within : n < length rest = (let size = ap length back in let dropped = length-drop n rest in omega arith) in
    let here : behind ≡ 10 ∷ drop (suc n) rest = back ∙ drop-cons rest n 0 within ∙ ap (λ b. b ∷ drop (suc n) rest) (at within) in
    sym (take-append-drop n rest) ∙ ap (λ p. p ++ drop n rest) (sym front) ∙ ap (λ r. part ++ r) (sym back ∙ here ∙ ap (λ r. 10 ∷ r) (sym (tail-is behind 10 (drop (suc n) rest) here)))

-- nothing is behind the part
pub all-part : (rest part behind : List ℕ) (n : ℕ) → part ≡ take n rest → behind ≡ drop n rest → length behind ≡ 0 → rest ≡ part
all-part rest part behind n front back none =
    let size = ap length back in
    let dropped = length-drop n rest in
    sym (take_all n rest (omega arith)) ∙ sym front

pub plain-part : (rest part : List ℕ) (n : ℕ) → part ≡ take n rest → IsPlain (take n rest) → IsPlain part
plain-part rest part n front plain = subst (λ p. IsPlain p) (sym front) plain

-- ---- all lines

-- as many reads were made as turns, as far as they can be counted
pub record AreCounted (turn reads : ℕ) : Type 0 where
  pub least : turn ≤ reads
  pub most : 0 < turn → reads ≤ 2 ^ 64 - 1

-- what was read and answered so far
pub record IsServing (answer_to : List ℕ → List ℕ) (limit : ℕ) (first now : Seen) (kept : List ℕ) (is_long : Bool) (turn : ℕ) : Type 0 where
  pub taken : List ℕ
  pub exchange : now.exchange ≡ exchanged taken (answers answer_to (whole_lines taken)) first.exchange
  pub left : Consumes first.left now.left taken
  pub kept_front : IsFront limit (open_part taken) kept is_long
  pub contents : Appends first.contents now.contents (answers answer_to (whole_lines taken))
  pub none_failed : NoneFailed first now
  pub goes_on : now.is_ended ≡ false
  pub reads : AreCounted turn now.reads

pub serving-none : (answer_to : List ℕ → List ℕ) (limit : ℕ) (first : Seen) (kept : List ℕ) (is_long : Bool) → IsFresh first → kept ≡ [] → is_long ≡ false → IsServing answer_to limit first first kept is_long 0
serving-none answer_to limit first kept is_long fresh none short =
    let nothing : answers answer_to (whole_lines []) ≡ [] = ap (answers answer_to) whole-nil in
    record {
      taken = [];
      exchange = rw nothing (exchanged-none first.exchange);
      left = Consumes-nil first.left;
      kept_front = rw (open-nil, none, short) (refl, omega arith);
      contents = rw nothing (Appends-nil first.contents);
      none_failed = none-none first;
      goes_on = fresh.goes_on;
      reads = record { least = omega arith; most = λ some. absurd (omega arith) };
    }

ready-exchange : (answer_to : List ℕ → List ℕ) (known : Option Exchange) (taken : List ℕ) → IfSome known (λ e. (e.sent ≡ []) × (e.written ≡ [])) →
    IfSome (exchanged taken (answers answer_to (whole_lines taken)) known) (λ e. e.written ≡ answers answer_to (whole_lines e.sent))
ready-exchange answer_to None taken h = tt
ready-exchange answer_to (Some e) taken h = rw (h.0, h.1) refl

-- it can be read from
pub is-ready : (answer_to : List ℕ → List ℕ) (limit : ℕ) (first now : Seen) (kept : List ℕ) (is_long : Bool) (turn : ℕ) → IsFresh first → IsServing answer_to limit first now kept is_long turn → IsReady answer_to now
is-ready answer_to limit first now kept is_long turn fresh s = record {
  answered = subst (λ k. IfSome k (λ e. e.written ≡ answers answer_to (whole_lines e.sent))) (sym s.exchange) (ready-exchange answer_to first.exchange s.taken fresh.none);
  goes_on = s.goes_on;
}

-- a read of some bytes
pub record Got (now mid : Seen) (bytes : List ℕ) : Type 0 where
  pub exchange : mid.exchange ≡ exchanged bytes [] now.exchange
  pub left : Consumes now.left mid.left bytes
  pub contents : mid.contents ≡ now.contents
  pub none_failed : NoneFailed now mid
  pub reads : mid.reads ≡ counted (now.reads + 1)

got-of : (E : Type 0) (n : ℕ) (now mid : Seen) (buffer : List ℕ) → Reads {E = E} now mid (Ok n) buffer → Got now mid (take n buffer)
got-of E n now mid buffer h = record { exchange = h.exchange; left = h.left.0; contents = h.contents; none_failed = record { reads = h.failed; writes = h.writes }; reads = h.reads }

pub got : (E : Type 0) (r : Result ℕ E) (n : ℕ) (now mid : Seen) (buffer : List ℕ) → Reads now mid r buffer → r ≡ Ok n → Got now mid (take n buffer)
got E r n now mid buffer h done = got-of E n now mid buffer (subst (λ (r : Result ℕ E). Reads now mid r buffer) done h)

no-end : (E : Type 0) (n len : ℕ) → (n ≡ 0 → ⊥) → is_end {E = E} (Ok n) len ≡ false
no-end E n zero some = refl
no-end E n (suc len) some = ne_eqb n 0 some

or-false : (b : Bool) → b ≡ false → (b || false) ≡ false
or-false true h = h
or-false false h = refl

pub goes-on : (E : Type 0) (r : Result ℕ E) (n : ℕ) (now mid : Seen) (buffer : List ℕ) → Reads now mid r buffer → r ≡ Ok n → (n ≡ 0 → ⊥) → now.is_ended ≡ false → mid.is_ended ≡ false
goes-on E r n now mid buffer h done some before =
    let last : is_end r (length buffer) ≡ false = ap (λ (r : Result ℕ E). is_end r (length buffer)) done ∙ no-end E n (length buffer) some in
    h.is_ended ∙ ap (λ b. now.is_ended || b) last ∙ or-false now.is_ended before

next-count : (turn reads reads' : ℕ) → AreCounted turn reads → turn < 2 ^ 64 - 1 → reads' ≡ counted (reads + 1) → AreCounted (turn + 1) reads'
next-count turn reads reads' c below is = (let least = c.least in record { least = omega arith; most = λ some. omega arith })

-- the lines of a chunk more
pub serving-more :
    (answer_to : List ℕ → List ℕ) (limit : ℕ) (first now mid new : Seen) (kept bytes kept' : List ℕ) (is_long is_long' : Bool) (turn : ℕ) →
    (s : IsServing answer_to limit first now kept is_long turn) → Got now mid bytes → mid.is_ended ≡ false → turn < 2 ^ 64 - 1 → SameReading mid new → NoneFailed mid new →
    ((begun : List ℕ) → IsPlain begun → IsFront limit begun kept is_long → IsFront limit (open_part (begun ++ bytes)) kept' is_long') →
    ((begun : List ℕ) → IsPlain begun → IsFront limit begun kept is_long → Wrote mid new (answers answer_to (whole_lines (begun ++ bytes)))) →
    IsServing answer_to limit first new kept' is_long' (turn + 1)
serving-more answer_to limit first now mid new kept bytes kept' is_long is_long' turn s g on below same none front wrote =
    let begun = open_part s.taken in
    let plain = open-is-plain s.taken in
    let k = cut s.taken bytes in
    let w = wrote begun plain s.kept_front in
    let done : List ℕ = answers answer_to (whole_lines s.taken) in
    let more : List ℕ = answers answer_to (whole_lines (begun ++ bytes)) in
    let all : done ++ more ≡ answers answer_to (whole_lines (s.taken ++ bytes)) = sym (ap (answers answer_to) k.whole ∙ flat_map-append answer_to (whole_lines s.taken) (whole_lines (begun ++ bytes))) in
    let read : mid.exchange ≡ exchanged (s.taken ++ bytes) (done ++ []) first.exchange = g.exchange ∙ ap (exchanged bytes []) s.exchange ∙ exchanged-both s.taken done bytes [] first.exchange in
    let both : new.exchange ≡ exchanged ((s.taken ++ bytes) ++ []) ((done ++ []) ++ more) first.exchange = w.exchange ∙ ap (exchanged [] more) read ∙ exchanged-both (s.taken ++ bytes) (done ++ []) [] more first.exchange in
    record {
      taken = s.taken ++ bytes;
      exchange = both ∙ ap (λ t. exchanged t ((done ++ []) ++ more) first.exchange) (append-nil (s.taken ++ bytes)) ∙ ap (λ t. exchanged (s.taken ++ bytes) (t ++ more) first.exchange) (append-nil done) ∙ ap (λ t. exchanged (s.taken ++ bytes) t first.exchange) all;
      left = subst (λ l. Consumes first.left l (s.taken ++ bytes)) (sym same.left) (Consumes-trans first.left now.left mid.left s.taken bytes s.left g.left);
      kept_front = subst (λ p. IsFront limit p kept' is_long') (sym k.rest) (front begun plain s.kept_front);
      contents = subst (Appends first.contents new.contents) all (appends-both first.contents now.contents new.contents done more s.contents (subst (λ l. Appends l new.contents more) g.contents w.contents));
      none_failed = none-both first mid new (none-both first now mid s.none_failed g.none_failed) none;
      goes_on = same.is_ended ∙ on;
      reads = next-count turn now.reads new.reads s.reads below (same.reads ∙ g.reads);
    }

-- ---- where it stops

-- the input where all of it was read
all-read : (first now mid : Option (List ℕ)) (taken : List ℕ) → Consumes first now taken → Consumes now mid [] → IsAtEnd mid → IfSome first (λ input. input ≡ taken)
all-read None now mid taken a b e = tt
all-read (Some xs) None mid taken a b e = absurd a
all-read (Some xs) (Some ys) None taken a b e = absurd b
all-read (Some xs) (Some ys) (Some zs) taken a b e = a ∙ ap (λ r. taken ++ r) (b ∙ e) ∙ append-nil taken

lines-all : (taken : List ℕ) → lines taken ≡ whole_lines taken ++ lines (open_part taken)
lines-all taken =
    let k = cut taken [] in
    ap lines (sym (append-nil taken)) ∙ k.lines ∙ ap (λ r. whole_lines taken ++ lines r) (append-nil (open_part taken))

answers-all : (answer_to : List ℕ → List ℕ) (taken : List ℕ) → answers answer_to (lines taken) ≡ answers answer_to (whole_lines taken) ++ answers answer_to (lines (open_part taken))
answers-all answer_to taken = ap (answers answer_to) (lines-all taken) ∙ flat_map-append answer_to (whole_lines taken) (lines (open_part taken))

some-input : (first : Option (List ℕ)) (taken : List ℕ) (P : List ℕ → Type 0) → IfSome first (λ input. input ≡ taken) → P taken → IfSome first P
some-input None taken P is p = tt
some-input (Some input) taken P is p = subst P (sym is) p

-- the last line is answered
pub serving-end :
    (T E F : Type 0) (r : Result T E) (q : Result ℕ F) (n : ℕ) (answer_to : List ℕ → List ℕ) (limit : ℕ) (first now mid new : Seen) (kept buffer : List ℕ) (is_long : Bool) (turn : ℕ) →
    (s : IsServing answer_to limit first now kept is_long turn) → Reads now mid q buffer → q ≡ Ok n → n ≡ 0 → 0 < length buffer →
    OnOk r ((begun : List ℕ) → IsPlain begun → IsFront limit begun kept is_long → Wrote mid new (answers answer_to (lines begun))) →
    OnOk r (IfSome first.left (λ input. Appends first.contents new.contents (answers answer_to (lines input))))
serving-end T E F (Err e) q n answer_to limit first now mid new kept buffer is_long turn s h done none some w = tt
serving-end T E F (Ok x) q n answer_to limit first now mid new kept buffer is_long turn s h done none some w =
    let h' : Reads {E = F} now mid (Ok 0) buffer = subst (λ (q : Result ℕ F). Reads now mid q buffer) (done ∙ ap Ok none) h in
    let is = all-read first.left now.left mid.left s.taken s.left h'.left.0 (h'.left.1 refl some) in
    let last = w (open_part s.taken) (open-is-plain s.taken) s.kept_front in
    let done' : List ℕ = answers answer_to (whole_lines s.taken) in
    let more : List ℕ = answers answer_to (lines (open_part s.taken)) in
    let P : List ℕ → Type 0 = λ input. Appends first.contents new.contents (answers answer_to (lines input)) in
    some-input first.left s.taken P is
    (subst (Appends first.contents new.contents) (sym (answers-all answer_to s.taken)) (appends-both first.contents now.contents new.contents done' more s.contents (subst (λ l. Appends l new.contents more) h.contents last.contents)))

pub serving-end-front :
    (T E F : Type 0) (r : Result T E) (q : Result ℕ F) (n : ℕ) (answer_to : List ℕ → List ℕ) (limit : ℕ) (first now mid new : Seen) (kept buffer : List ℕ) (is_long : Bool) (turn : ℕ) →
    (s : IsServing answer_to limit first now kept is_long turn) → Reads now mid q buffer → q ≡ Ok n → n ≡ 0 → 0 < length buffer →
    OnErr r ((begun : List ℕ) → IsPlain begun → IsFront limit begun kept is_long → WroteFront mid new (answers answer_to (lines begun))) →
    OnErr r (IfSome first.left (λ input. AppendsFront first.contents new.contents (answers answer_to (lines input))))
serving-end-front T E F (Ok x) q n answer_to limit first now mid new kept buffer is_long turn s h done none some w = tt
serving-end-front T E F (Err e) q n answer_to limit first now mid new kept buffer is_long turn s h done none some w =
    let h' : Reads {E = F} now mid (Ok 0) buffer = subst (λ (q : Result ℕ F). Reads now mid q buffer) (done ∙ ap Ok none) h in
    let is = all-read first.left now.left mid.left s.taken s.left h'.left.0 (h'.left.1 refl some) in
    let last = w (open_part s.taken) (open-is-plain s.taken) s.kept_front in
    let done' : List ℕ = answers answer_to (whole_lines s.taken) in
    let P : List ℕ → Type 0 = λ input. AppendsFront first.contents new.contents (answers answer_to (lines input)) in
    some-input first.left s.taken P is (
      done' ++ last.front,
      last.rest,
      answers-all answer_to s.taken ∙ ap (λ b. done' ++ b) last.all ∙ sym (append_assoc done' last.front last.rest),
      appends-both first.contents now.contents new.contents done' last.front s.contents (subst (λ l. Appends l new.contents last.front) h.contents last.wrote.contents),
    )

-- some of the input was read
part-read : (answer_to : List ℕ → List ℕ) (first now old new : Option (List ℕ)) (taken front more : List ℕ) → Consumes first now taken → Appends old new front →
    answers answer_to (whole_lines taken) ≡ front ++ more → IfSome first (λ input. AppendsFront old new (answers answer_to (lines input)))
part-read answer_to None now old new taken front more left w is = tt
part-read answer_to (Some input) None old new taken front more left w is = absurd left
part-read answer_to (Some input) (Some rest) old new taken front more left w is =
    let k = cut taken rest in
    let last : List ℕ = answers answer_to (lines (open_part taken ++ rest)) in
    (front, more ++ last, ap (λ i. answers answer_to (lines i)) left ∙ ap (answers answer_to) k.lines ∙ flat_map-append answer_to (whole_lines taken) (lines (open_part taken ++ rest)) ∙ ap (λ b. b ++ last) is ∙ append_assoc front more last, w)

pub serving-part : (answer_to : List ℕ → List ℕ) (limit : ℕ) (first now : Seen) (contents : Option (List ℕ)) (kept : List ℕ) (is_long : Bool) (turn : ℕ) → IsServing answer_to limit first now kept is_long turn → contents ≡ now.contents →
    IfSome first.left (λ input. AppendsFront first.contents contents (answers answer_to (lines input)))
serving-part answer_to limit first now contents kept is_long turn s same =
    part-read answer_to first.left now.left first.contents contents s.taken (answers answer_to (whole_lines s.taken)) [] s.left (subst (λ l. Appends first.contents l (answers answer_to (whole_lines s.taken))) (sym same) s.contents) (sym (append-nil (answers answer_to (whole_lines s.taken))))

pub serving-chunk-front :
    (answer_to : List ℕ → List ℕ) (limit : ℕ) (first now mid new : Seen) (kept bytes : List ℕ) (is_long : Bool) (turn : ℕ) →
    (s : IsServing answer_to limit first now kept is_long turn) → Got now mid bytes →
    ((begun : List ℕ) → IsPlain begun → IsFront limit begun kept is_long → WroteFront mid new (answers answer_to (whole_lines (begun ++ bytes)))) →
    IfSome first.left (λ input. AppendsFront first.contents new.contents (answers answer_to (lines input)))
serving-chunk-front answer_to limit first now mid new kept bytes is_long turn s g front =
    let begun = open_part s.taken in
    let f = front begun (open-is-plain s.taken) s.kept_front in
    let k = cut s.taken bytes in
    let done : List ℕ = answers answer_to (whole_lines s.taken) in
    let is : answers answer_to (whole_lines (s.taken ++ bytes)) ≡ (done ++ f.front) ++ f.rest =
    ap (answers answer_to) k.whole ∙ flat_map-append answer_to (whole_lines s.taken) (whole_lines (begun ++ bytes)) ∙ ap (λ b. done ++ b) f.all ∙ sym (append_assoc done f.front f.rest) in
    part-read answer_to first.left mid.left first.contents new.contents (s.taken ++ bytes) (done ++ f.front) f.rest (Consumes-trans first.left now.left mid.left s.taken bytes s.left g.left)
    (appends-both first.contents now.contents new.contents done f.front s.contents (subst (λ l. Appends l new.contents f.front) g.contents f.wrote.contents)) is

-- as many reads were made as can be counted
pub all-counted : (turn reads : ℕ) → AreCounted turn reads → 2 ^ 64 - 1 ≤ turn → reads ≡ 2 ^ 64 - 1
all-counted turn reads c end = (let least = c.least in let most = c.most (omega arith) in omega arith)

-- Commands take tree numbers and give none back.
use Rattle.std.proofs.Common.{◌≡◌, ◌≤◌, ◌<◌, ℕ, suc, ◌+◌, ◌^◌, ◌==◌, zero, Bool, true, false, List, [], ◌∷◌, length, map, drop, slice_index_or, refl, sym, ap, subst, ◌∙◌, arith, Option, Some, None, if◌then◌else◌}
use Rattle.std.specs.Prelude.{nat_lt}
use Rattle.syntax_editor.specs.Editing.{Editing, untouched}
use Rattle.syntax_editor.specs.Recording as records
use Rattle.syntax_editor.specs.Recording.{Recording, inserting, replacing}
use Rattle.syntax_tree.specs.Element.{Element}
use Rattle.syntax_tree.specs.Handle.{parent_of}
use Rattle.rowan.specs.Place.{index_of}
use Rattle.rust_document.specs.Edit.{can_edit, edited}
use Rattle.rust_document.specs.Payload.{Payload, IsDetached, One, Whole, payload_in}
use Rattle.rust_document.specs.Step as step
use Rattle.rust_document.specs.Step.{State, Verdict, MAX_TEXT, root_element, verdict}
use Rattle.document_requests.specs.Applied.{TakesSome}
use Rattle.document_requests.specs.Asked.{change as change_in}
use Rattle.document_requests.specs.Reasons.{number_after_reasons}
use Rattle.document_requests.specs.Request as asked
use Rattle.document_requests.specs.Request.{Change, Command, Put, Delete}
use Rattle.document_requests.specs.Rules.{accepted_clean, clean_answer_to, clean_committed, clean_settled, have_no_messages}
use Rattle.document_requests.specs.Session.{Session, Answer, Taken, Given, Withheld, Prepared, Ready, Stopped, number_after_taking, number_after_preparing, numbered_payload, payload_entry, if_any, part_of, taken_of, recorded, inserted_at, put_element, put_taken, put_at, deleted_at, found, taken, prepared_by, and_then, prepared, accepted, answer_to, settled, committed, read_anew, edited_by, answer}
use Rattle.document_requests.specs.declared.reply.Refusal.{Refusal}
use Rattle.document_requests.specs.declared.reply.Refusal.TheVariants as refusals
use Rattle.document_requests.specs.declared.request.Change.{Change as ChangeCode}
use Rattle.document_requests.specs.declared.request.Entry.{Entry}
use Rattle.document_requests.specs.declared.request.Op.{Op}
use Rattle.document_requests.specs.declared.request.Op.TheVariants as ops

-- ---- what is put

any-number : (o : Option Element) (next : ℕ) → number_after_taking (if_any o next) ≡ next
any-number None next = refl
any-number (Some e) next = refl

either-counts : (b : Bool) (entry : Entry) (e : Element) (next : ℕ) → next ≤ number_after_taking (if b then Withheld refusals.NoTreeNumber next else part_of entry e (next + 1))
either-counts true entry e next = omega arith
either-counts false entry e next =
    let is : number_after_taking (part_of entry e (next + 1)) ≡ next + 1 = any-number _ (next + 1) in
    omega (arith, is)

taken-counts : (entry : Entry) (o : Option Element) (next : ℕ) → next ≤ number_after_taking (taken_of entry o next)
taken-counts entry None next = omega arith
taken-counts entry (Some e) next = either-counts (next == 2 ^ 32) entry e next

numbered-is : (next : ℕ) (p : Payload) (e : Element) → IsDetached next p e → numbered_payload next p ≡ Some e
numbered-is next (Whole t) e h = ap Some (sym h)
numbered-is next (One l) e h = ap Some (sym h)
numbered-is next p e h = absurd h

some-number : (entry : Entry) (e : Element) (next : ℕ) → (next == 2 ^ 32) ≡ false → number_after_taking (taken_of entry (Some e) next) ≡ next + 1
some-number entry e next left = rw left (any-number _ (next + 1))

-- ---- what is recorded

recorded-number : (e : Editing) (next : ℕ) (r : Recording) → number_after_preparing (recorded e next r) ≡ next
recorded-number e next records.Foreign = refl
recorded-number e next records.BadRange = refl
recorded-number e next records.BadTarget = refl
recorded-number e next (records.Recorded changes) = refl

inserted-number : (o : Option Element) (i : ℕ) (e : Editing) (next : ℕ) (new : Element) → number_after_preparing (inserted_at o i e next new) ≡ next
inserted-number None i e next new = refl
inserted-number (Some parent) i e next new = recorded-number e next (inserting e parent i (new ∷ []))

put-number : (op : Op) (old : Element) (e : Editing) (next : ℕ) (new : Element) → number_after_preparing (put_element op old e next new) ≡ next
put-number ops.Replace old e next new = recorded-number e next (replacing e old (new ∷ []))
put-number ops.Before old e next new = inserted-number (parent_of old) (index_of old.place) e next new
put-number ops.After old e next new = inserted-number (parent_of old) (index_of old.place + 1) e next new

-- what is put takes as many numbers as its text
pub taken-number : (op : Op) (old : Element) (e : Editing) (t : Taken) → number_after_preparing (put_taken op old e t) ≡ number_after_taking t
taken-number op old e (Given new next) = put-number op old e next new
taken-number op old e (Withheld refusal next) = refl

deleted-number : (o : Option Element) (e : Editing) (next : ℕ) → number_after_preparing (deleted_at o e next) ≡ next
deleted-number None e next = refl
deleted-number (Some old) e next = recorded-number e next (replacing e old [])

put-counts : (op : Op) (o : Option Element) (entry : Entry) (text : List ℕ) (d : State) (e : Editing) (next : ℕ) → next ≤ number_after_preparing (put_at op o entry text d e next)
put-counts op None entry text d e next = omega arith
put-counts op (Some old) entry text d e next =
    let is = taken-number op old e (taken entry d text next) in
    let counts = taken-counts entry (numbered_payload next (payload_in (payload_entry entry) d.grammar d.edition text)) next in
    omega (arith, is, counts)

pub preparing-counts : (c : Change) (d : State) (e : Editing) (next : ℕ) → next ≤ number_after_preparing (prepared_by c d e next)
preparing-counts (Put op target entry text) d e next = put-counts op (found d target) entry text d e next
preparing-counts (Delete target) d e next =
    let is = deleted-number (found d target) e next in
    omega (arith, is)

then-counts :
    (more : Editing → ℕ → Prepared) → ((e : Editing) (next : ℕ) → next ≤ number_after_preparing (more e next))
    → (p : Prepared) → number_after_preparing p ≤ number_after_preparing (and_then more p)
then-counts more counts (Ready e next) = counts e next
then-counts more counts (Stopped refusal next) = omega arith

all-count : (cs : List Change) (d : State) (e : Editing) (next : ℕ) → next ≤ number_after_preparing (prepared cs d e next)
all-count [] d e next = omega arith
all-count (c ∷ cs) d e next =
    let first = preparing-counts c d e next in
    let more = then-counts (prepared cs d) (λ e n. all-count cs d e n) (prepared_by c d e next) in
    omega (arith, first, more)

-- what the first change takes, all take
first-counts : (c : Change) (cs : List Change) (d : State) (e : Editing) (next : ℕ) → number_after_preparing (prepared_by c d e next) ≤ number_after_preparing (prepared (c ∷ cs) d e next)
first-counts c cs d e next = then-counts (prepared cs d) (λ e n. all-count cs d e n) (prepared_by c d e next)

-- a list from a place on: the item there, and those after it
rest-of : {A B : Type 0} (f : A → B) (xs : List A) (i : ℕ) (x : A) → i < length xs → map f (drop i xs) ≡ f (slice_index_or xs i x) ∷ map f (drop (i + 1) xs)
rest-of f [] i x within = absurd (omega (arith, within))
rest-of f (y ∷ ys) zero x within = refl
rest-of f (y ∷ ys) (suc i) x within =
    let same : suc i + 1 ≡ suc (i + 1) = omega arith in
    rest-of f ys i x (omega (arith, within)) ∙ ap (λ n. f (slice_index_or ys i x) ∷ map f (drop n (y ∷ ys))) (sym same)

-- a change that was prepared gave no number back
pub ready-after :
    (changes : List ChangeCode) (i : ℕ) (x : ChangeCode) (d : State) (e made : Editing) (next after : ℕ)
    → prepared_by (change_in (slice_index_or changes i x)) d e next ≡ Ready made after → next ≤ after
ready-after changes i x d e made next after ready =
    let counts = preparing-counts (change_in (slice_index_or changes i x)) d e next in
    let is = ap number_after_preparing ready in
    omega (arith, counts, is)

-- what the next change takes, those that are left take
pub rest-count :
    (changes : List ChangeCode) (i : ℕ) (x : ChangeCode) (d : State) (e : Editing) (next n : ℕ) → i < length changes
    → TakesSome next n (number_after_preparing (prepared_by (change_in (slice_index_or changes i x)) d e next))
    → n ≤ number_after_preparing (prepared (map change_in (drop i changes)) d e next)
rest-count changes i x d e next n within took =
    let rest = map change_in (drop (i + 1) changes) in
    let is = ap (λ cs. number_after_preparing (prepared cs d e next)) (rest-of change_in changes i x within) in
    let first = first-counts (change_in (slice_index_or changes i x)) rest d e next in
    let most = took.1 in
    omega (arith, most, first, is)

-- ---- what is answered

either : (b : Bool) (n : ℕ) (x y : Answer) → n ≤ x.after.next → n ≤ y.after.next → n ≤ (if b then x else y).after.next
either true n x y one other = one
either false n x y one other = other

accepted-counts : (s : Session) (e : Editing) → s.next ≤ (accepted s e).after.next
accepted-counts s e = either (s.next == 2 ^ 32) s.next _ _ (omega arith) (omega arith)

verdict-counts : (v : Verdict) (s : Session) (e : Editing) → s.next ≤ (answer_to v s e).after.next
verdict-counts step.Foreign s e = omega arith
verdict-counts step.Intersecting s e = omega arith
verdict-counts step.MissingMapping s e = omega arith
verdict-counts step.TooLong s e = omega arith
verdict-counts step.Unfaithful s e = omega arith
verdict-counts step.Accepted s e = accepted-counts s e

pub settled-counts : (d : State) (p : Prepared) → number_after_preparing p ≤ (settled d p).after.next
settled-counts d (Ready e next) = verdict-counts (verdict d e) (record { document = d; next = next }) e
settled-counts d (Stopped refusal next) = omega arith

pub committed-counts : (cs : List Change) (s : Session) → s.next ≤ (committed cs s).after.next
committed-counts cs s =
    let before = all-count cs s.document (untouched (root_element s.document)) s.next in
    let after = settled-counts s.document (prepared cs s.document (untouched (root_element s.document)) s.next) in
    omega (arith, before, after)

-- of changes that were prepared, a commit takes as many numbers as these, or more
pub ready-counts :
    (cs : List Change) (s : Session) (top e : Editing) (next : ℕ)
    → top ≡ untouched (root_element s.document) → prepared cs s.document top s.next ≡ Ready e next
    → TakesSome s.next next (committed cs s).after.next
ready-counts cs s top e next own ready =
    let all = prepared cs s.document (untouched (root_element s.document)) s.next in
    let is : number_after_preparing all ≡ next = ap (λ (x : Editing). number_after_preparing (prepared cs s.document x s.next)) (sym own) ∙ ap number_after_preparing ready in
    let before = all-count cs s.document (untouched (root_element s.document)) s.next in
    let after = settled-counts s.document all in
    (omega (arith, before, is), omega (arith, after, is))

read-counts : (s : Session) (text : List ℕ) → s.next ≤ (read_anew s text).after.next
read-counts s text = either (nat_lt MAX_TEXT (length text)) s.next _ _ (omega arith) (either (s.next == 2 ^ 32) s.next _ _ (omega arith) (omega arith))

pub edited-counts : (start stop : ℕ) (text : List ℕ) (s : Session) → s.next ≤ (edited_by start stop text s).after.next
edited-counts start stop text s = either (can_edit s.document.text start stop) s.next _ _ (read-counts s (edited s.document.text start stop text)) (omega arith)

pub answer-counts : (c : Command) (s : Session) → s.next ≤ (answer c s).after.next
answer-counts (asked.Edit start stop text) s = edited-counts start stop text s
answer-counts (asked.Commit changes) s = committed-counts changes s
answer-counts asked.Tree s = omega arith
answer-counts asked.Errors s = omega arith

-- ---- where a commit is to leave no messages

clean-accepted-counts : (s : Session) (e : Editing) → s.next ≤ (accepted_clean s e).after.next
clean-accepted-counts s e = either (have_no_messages s.document e) s.next _ _ (accepted-counts s e) (omega arith)

clean-verdict-counts : (v : Verdict) (s : Session) (e : Editing) → s.next ≤ (clean_answer_to v s e).after.next
clean-verdict-counts step.Foreign s e = omega arith
clean-verdict-counts step.Intersecting s e = omega arith
clean-verdict-counts step.MissingMapping s e = omega arith
clean-verdict-counts step.TooLong s e = omega arith
clean-verdict-counts step.Unfaithful s e = omega arith
clean-verdict-counts step.Accepted s e = clean-accepted-counts s e

pub clean-settled-counts : (d : State) (p : Prepared) → number_after_preparing p ≤ (clean_settled d p).after.next
clean-settled-counts d (Ready e next) = clean-verdict-counts (verdict d e) (record { document = d; next = next }) e
clean-settled-counts d (Stopped refusal next) = omega arith

pub clean-committed-counts : (cs : List Change) (s : Session) → s.next ≤ (clean_committed cs s).after.next
clean-committed-counts cs s =
    let before = all-count cs s.document (untouched (root_element s.document)) s.next in
    let after = clean-settled-counts s.document (prepared cs s.document (untouched (root_element s.document)) s.next) in
    omega (arith, before, after)

pub clean-ready-counts :
    (cs : List Change) (s : Session) (top e : Editing) (next : ℕ)
    → top ≡ untouched (root_element s.document) → prepared cs s.document top s.next ≡ Ready e next
    → TakesSome s.next next (clean_committed cs s).after.next
clean-ready-counts cs s top e next own ready =
    let all = prepared cs s.document (untouched (root_element s.document)) s.next in
    let is : number_after_preparing all ≡ next = ap (λ (x : Editing). number_after_preparing (prepared cs s.document x s.next)) (sym own) ∙ ap number_after_preparing ready in
    let before = all-count cs s.document (untouched (root_element s.document)) s.next in
    let after = clean-settled-counts s.document all in
    (omega (arith, before, is), omega (arith, after, is))

-- the changes take numbers and give none back
pub reasons-counts : (cs : List Change) (d : State) (next : ℕ) → next ≤ number_after_reasons cs d next
reasons-counts cs d next = all-count cs d (untouched (root_element d)) next

pub reasons-ready : (cs : List Change) (d : State) (top e : Editing) (next after : ℕ) → top ≡ untouched (root_element d) → prepared cs d top next ≡ Ready e after → after ≡ number_after_reasons cs d next
reasons-ready cs d top e next after own ready = sym (ap (λ (x : Editing). number_after_preparing (prepared cs d x next)) (sym own) ∙ ap number_after_preparing ready)

pub reasons-stopped : (cs : List Change) (d : State) (top : Editing) (next after : ℕ) (refusal : Refusal) → top ≡ untouched (root_element d) → prepared cs d top next ≡ Stopped refusal after → after ≡ number_after_reasons cs d next
reasons-stopped cs d top next after refusal own stopped = sym (ap (λ (x : Editing). number_after_preparing (prepared cs d x next)) (sym own) ∙ ap number_after_preparing stopped)

pub reasons-some : (cs : List Change) (d : State) (top : Editing) (next after : ℕ) → top ≡ untouched (root_element d) → TakesSome next after (number_after_preparing (prepared cs d top next)) → TakesSome next after (number_after_reasons cs d next)
reasons-some cs d top next after own took = subst (λ (x : Editing). TakesSome next after (number_after_preparing (prepared cs d x next))) own took

pub reasons-all : (cs : List Change) (d : State) (next after : ℕ) → after ≡ number_after_reasons cs d next → TakesSome next after (number_after_reasons cs d next)
reasons-all cs d next after is = (let counts = reasons-counts cs d next in (omega (arith, counts, is), omega (arith, is)))

pub reasons-none : (cs : List Change) (d : State) (next : ℕ) → TakesSome next next (number_after_reasons cs d next)
reasons-none cs d next = (omega arith, reasons-counts cs d next)

-- Commands one after another.
use Rattle.std.proofs.Common.{◌≡◌, ℕ, zero, suc, ◌+◌, ◌<◌, List, [], ◌∷◌, ◌++◌, length, get_or, take, map, refl, sym, ap, ◌∙◌, arith, append_assoc}
use Rattle.std.proofs.lemmas.List.{append-nil, take_all}
use Rattle.document_requests.specs.Applied.{Runs, RunsFront, TakesSome}
use Rattle.document_requests.specs.Answered.{reply as answered}
use Rattle.document_requests.specs.Asked.{command}
use Rattle.document_requests.specs.Reply.{Reply}
use Rattle.document_requests.specs.Session.{Session, Answer, Run, answer, begun, run}
use Rattle.document_requests.specs.declared.reply.Reply.{Reply as ReplyCode}
use Rattle.document_requests.specs.declared.request.Command.{Command}

abbrev ended : Run → Answer → Run
ended r a = record { replies = r.replies ++ a.reply ∷ []; after = a.after }

-- one command more comes last
run_last :
    (commands : List Command) (i : ℕ) (c : Command) (s : Session)
    → i < length commands → c ≡ get_or commands i c
    → run (take (i + 1) (map command commands)) s ≡ ended (run (take i (map command commands)) s) (answer (command c) (run (take i (map command commands)) s).after)
run_last [] i c s within is = absurd (omega arith)
run_last (x ∷ commands) zero c s within is = rw is refl
run_last (x ∷ commands) (suc i) c s within is =
    let same : suc i + 1 ≡ suc (i + 1) = omega arith in
    let first = answer (command x) s in
    ap (λ n. run (take n (map command (x ∷ commands))) s) same ∙ ap (begun first) (run_last commands i c first.after (omega arith) is)

pub run_next :
    (commands : List Command) (i : ℕ) (c : Command) (s : Session) (earlier told longer : List Reply) (now after : Session) (reply : Reply)
    → i < length commands → c ≡ get_or commands i c
    → Runs (take i (map command commands)) s earlier told now
    → answer (command c) now ≡ record { reply = reply; after = after }
    → longer ≡ told ++ reply ∷ []
    → Runs (take (i + 1) (map command commands)) s earlier longer after
run_next commands i c s earlier told longer now after reply within is before answered more =
    let r = run (take i (map command commands)) s in
    let last : answer (command c) r.after ≡ record { reply = reply; after = after } = ap (answer (command c)) (sym before.1) ∙ answered in
    let whole : run (take (i + 1) (map command commands)) s ≡ ended r (record { reply = reply; after = after }) = run_last commands i c s within is ∙ ap (ended r) last in (
      more ∙ ap (λ t. t ++ reply ∷ []) before.0 ∙ append_assoc earlier r.replies (reply ∷ []) ∙ ap (λ (whole : Run). earlier ++ whole.replies) (sym whole),
      ap (λ (whole : Run). whole.after) (sym whole),
    )

pub run_none : (commands : List Command) (s : Session) (earlier : List Reply) → Runs (take 0 (map command commands)) s earlier earlier s
run_none commands s earlier = (sym (append-nil earlier), refl)

length-commands : (commands : List Command) → length (map command commands) ≡ length commands
length-commands [] = refl
length-commands (x ∷ commands) = ap suc (length-commands commands)

pub run_all : (commands : List Command) (i : ℕ) (s : Session) (earlier told : List Reply) (after : Session) → i ≡ length commands → Runs (take i (map command commands)) s earlier told after → Runs (map command commands) s earlier told after
run_all commands i s earlier told after past runs =
    let whole : take i (map command commands) ≡ map command commands = take_all i (map command commands) (omega (arith, length-commands commands)) in
    rw whole at runs

map_last : (replies : List ReplyCode) (r : ReplyCode) → map answered (replies ++ r ∷ []) ≡ map answered replies ++ answered r ∷ []
map_last [] r = refl
map_last (x ∷ replies) r = ap (λ rs. answered x ∷ rs) (map_last replies r)

-- a reply more
pub pushed : (old mid new : List ReplyCode) (r : ReplyCode) → mid ≡ old → new ≡ mid ++ r ∷ [] → map answered new ≡ map answered old ++ answered r ∷ []
pushed old mid new r same more = ap (map answered) (more ∙ ap (λ rs. rs ++ r ∷ []) same) ∙ map_last old r

-- the command after those that were run was stopped
pub stopped :
    (commands : List Command) (i : ℕ) (c : Command) (s : Session) (earlier told : List Reply) (now after : Session)
    → i < length commands → c ≡ get_or commands i c
    → Runs (take i (map command commands)) s earlier told now
    → after.document ≡ now.document → TakesSome now.next after.next (answer (command c) now).after.next
    → RunsFront (map command commands) s earlier told after
stopped commands i c s earlier told now after within is before same took =
    let r = run (take i (map command commands)) s in
    let more : run (take (i + 1) (map command commands)) s ≡ ended r (answer (command c) r.after) = run_last commands i c s within is in
    let next : (run (take (i + 1) (map command commands)) s).after.next ≡ (answer (command c) now).after.next =
    ap (λ (x : Run). x.after.next) more ∙ ap (λ (x : Session). (answer (command c) x).after.next) (sym before.1) in
    let now_is : now.next ≡ r.after.next = ap (λ (x : Session). x.next) before.1 in
    let least = took.0 in
    let most = took.1 in
    record {
      count = i;
      fewer = omega (arith, within, length-commands commands);
      told = before.0;
      same = same ∙ ap (λ (x : Session). x.document) before.1;
      numbers = (omega (arith, least, now_is), omega (arith, most, next));
    }

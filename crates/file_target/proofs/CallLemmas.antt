-- Lemmas on calls.
use Rattle.std.proofs.Common.{◌≡◌, ℕ, Bool, true, false, List, [], ◌∷◌, ◌++◌, Option, None, Some, Result, Ok, Err, refl, ap, sym, subst, ◌∙◌, append_assoc, inl, inr}
use Rattle.std.specs.Prelude.{IfSome, OnErr, option_map, ◌⊎◌}
use Rattle.std.specs.Str.{bytes_eq}
use Rattle.std.proofs.lemmas.List.{append-nil}
use Rattle.std.proofs.lemmas.Slice.Eq.{bytes_eq-Decides}
use Rattle.file_target.specs.Calls.{Adds, AreWhole, Call, Create, Examine, IsReplaced, IsWhole, NewFile, Remove, Rename, Resolve, SetMode, SetOwner, Sync, SyncDirectory, Write, empty_file, file_after, new_file, next_file, unless_at, whole_file}
use Rattle.file_target.specs.declared.system.Status.{Status}
use Rattle.file_target.specs.declared.version.Version.{Version}
use Rattle.file_target.specs.Replacing.{Follows, HasFile, IsAt, IsLeft, IsPut, IsPutWhole}

after-one : (f : Option NewFile) (calls : List Call) (call : Call) → file_after f (calls ++ call ∷ []) ≡ next_file (file_after f calls) call
after-one f [] call = refl
after-one f (c ∷ calls) call = after-one (next_file f c) calls call

whole-one : (bytes : List ℕ) (f : Option NewFile) (calls : List Call) (call : Call) → AreWhole bytes f calls → IsWhole bytes (file_after f calls) call → AreWhole bytes f (calls ++ call ∷ [])
whole-one bytes f [] call h w = (w, tt)
whole-one bytes f (c ∷ calls) call h w = (h.0, whole-one bytes (next_file f c) calls call h.1 w)

at-one : (bytes : List ℕ) (front : List Call) (file file' : Option NewFile) (calls : List Call) (call : Call) → IsAt bytes front file calls → IsWhole bytes file call → next_file file call ≡ file' → IsAt bytes front file' (calls ++ call ∷ [])
at-one bytes front file file' calls call s w is = record {
  more = s.more ++ call ∷ [];
  all = ap (λ c. c ++ call ∷ []) s.all ∙ append_assoc front s.more (call ∷ []);
  leaves = after-one None calls call ∙ ap (λ f. next_file f call) s.leaves ∙ is;
  whole = whole-one bytes None calls call s.whole (subst (λ f. IsWhole bytes f call) (sym s.leaves) w);
}

-- one call more
pub next-at : (bytes : List ℕ) (front : List Call) (file file' : Option NewFile) (old new : Option (List Call)) (call : Call) → Adds old new call → IsWhole bytes file call → next_file file call ≡ file' →
    IfSome old (IsAt bytes front file) → IfSome new (IsAt bytes front file')
next-at bytes front file file' None new call adds w is s = subst (λ o. IfSome o (IsAt bytes front file')) (sym adds) tt
next-at bytes front file file' (Some calls) new call adds w is s = subst (λ o. IfSome o (IsAt bytes front file')) (sym adds) (at-one bytes front file file' calls call s w is)

-- a new file at the path
pub has-file : (bytes : List ℕ) (front : List Call) (file : NewFile) (path : List ℕ) (known : Option (List Call)) → file.path ≡ path → IfSome known (IsAt bytes front (Some file)) → IfSome known (HasFile bytes front path)
has-file bytes front file path None at s = tt
has-file bytes front file path (Some calls) at s = record { file = file; at = at; is = s }

pub has-left : (bytes : List ℕ) (front : List Call) (file : NewFile) (path : List ℕ) (known : Option (List Call)) → file.path ≡ path → IfSome known (IsAt bytes front (Some file)) → IfSome known (IsLeft bytes front path)
has-left bytes front file path None at s = tt
has-left bytes front file path (Some calls) at s = inl (record { file = file; at = at; is = s })

pub none-left : (bytes : List ℕ) (front : List Call) (path : List ℕ) (known : Option (List Call)) → IfSome known (IsAt bytes front None) → IfSome known (IsLeft bytes front path)
none-left bytes front path None s = tt
none-left bytes front path (Some calls) s = inr s

pub same-left : (path : List ℕ) (file : NewFile) → file.path ≡ path → unless_at path file ≡ None
same-left path file at = rw ((bytes_eq-Decides file.path path).1 at) refl

-- ---- the new file is made

pub not-made : (bytes : List ℕ) (front : List Call) (old new : Option (List Call)) (path : List ℕ) (ok : Bool) → ok ≡ false → Adds old new (Create path ok) → IfSome old (IsAt bytes front None) → IfSome new (IsAt bytes front None)
not-made bytes front old new path true is adds s = absurd (cc)
not-made bytes front old new path false is adds s = next-at bytes front None None old new (Create path false) adds tt refl s

pub made : (bytes : List ℕ) (front : List Call) (old new : Option (List Call)) (path at : List ℕ) (ok : Bool) → ok ≡ true → path ≡ at → Adds old new (Create path ok) → IfSome old (IsAt bytes front None) → IfSome new (IsAt bytes front (Some (empty_file at)))
made bytes front old new path at false is same adds s = absurd (cc)
made bytes front old new path at true is same adds s =
    subst (λ p. IfSome new (IsAt bytes front (Some (empty_file p)))) same (next-at bytes front None (Some (empty_file path)) old new (Create path true) adds tt refl s)

-- ---- its owner

pub examined-at : (bytes : List ℕ) (front : List Call) (file : NewFile) (old new : Option (List Call)) (path : List ℕ) (status : Option Status) → Adds old new (Examine path status) → IfSome old (IsAt bytes front (Some file)) → IfSome new (IsAt bytes front (Some file))
examined-at bytes front file old new path status adds s = next-at bytes front (Some file) (Some file) old new (Examine path status) adds tt refl s

pub owned-at : (bytes : List ℕ) (front : List Call) (file : NewFile) (old new : Option (List Call)) (path : List ℕ) (owner : Option ℕ) (group : ℕ) (ok : Bool) → Adds old new (SetOwner path owner group ok) → IfSome old (IsAt bytes front (Some file)) → IfSome new (IsAt bytes front (Some file))
owned-at bytes front file old new path owner group ok adds s = next-at bytes front (Some file) (Some file) old new (SetOwner path owner group ok) adds tt refl s

-- ---- it is filled

abbrev with_mode : List ℕ → ℕ → NewFile
with_mode path mode = record { path = path; bytes = Some []; mode = Some mode; is_synced = false }

abbrev unsynced : List ℕ → List ℕ → ℕ → NewFile
unsynced path bytes mode = record { path = path; bytes = Some bytes; mode = Some mode; is_synced = false }

mode-set : (bytes : List ℕ) (front : List Call) (path : List ℕ) (mode : ℕ) (a b : Option (List Call)) (ok : Bool) → ok ≡ true → Adds a b (SetMode mode ok) →
    IfSome a (IsAt bytes front (Some (empty_file path))) → IfSome b (IsAt bytes front (Some (with_mode path mode)))
mode-set bytes front path mode a b false is adds s = absurd (cc)
mode-set bytes front path mode a b true is adds s = next-at bytes front _ (Some (with_mode path mode)) a b (SetMode mode true) adds tt refl s

written : (bytes : List ℕ) (front : List Call) (path : List ℕ) (mode : ℕ) (a b : Option (List Call)) (ok : Bool) → ok ≡ true → Adds a b (Write bytes ok) →
    IfSome a (IsAt bytes front (Some (with_mode path mode))) → IfSome b (IsAt bytes front (Some (unsynced path bytes mode)))
written bytes front path mode a b false is adds s = absurd (cc)
written bytes front path mode a b true is adds s = next-at bytes front _ (Some (unsynced path bytes mode)) a b (Write bytes true) adds tt refl s

synced : (bytes : List ℕ) (front : List Call) (path : List ℕ) (mode : ℕ) (a b : Option (List Call)) (ok : Bool) → ok ≡ true → Adds a b (Sync ok) →
    IfSome a (IsAt bytes front (Some (unsynced path bytes mode))) → IfSome b (IsAt bytes front (Some (whole_file path bytes mode)))
synced bytes front path mode a b false is adds s = absurd (cc)
synced bytes front path mode a b true is adds s = next-at bytes front _ (Some (whole_file path bytes mode)) a b (Sync true) adds tt refl s

pub filled : (bytes : List ℕ) (front : List Call) (path : List ℕ) (mode : ℕ) (a b c d : Option (List Call)) (m w k : Bool) → m ≡ true → w ≡ true → k ≡ true →
    Adds a b (SetMode mode m) → Adds b c (Write bytes w) → Adds c d (Sync k) → IfSome a (IsAt bytes front (Some (empty_file path))) → IfSome d (IsAt bytes front (Some (whole_file path bytes mode)))
filled bytes front path mode a b c d m w k is-m is-w is-k add-m add-w add-k s =
    synced bytes front path mode c d k is-k add-k (written bytes front path mode b c w is-w add-w (mode-set bytes front path mode a b m is-m add-m s))

pub mode-failed : (bytes : List ℕ) (front : List Call) (path : List ℕ) (mode : ℕ) (a b : Option (List Call)) (m : Bool) → m ≡ false → Adds a b (SetMode mode m) → IfSome a (IsAt bytes front (Some (empty_file path))) → IfSome b (HasFile bytes front path)
mode-failed bytes front path mode a b true is adds s = absurd (cc)
mode-failed bytes front path mode a b false is adds s = has-file bytes front (empty_file path) path b refl (next-at bytes front _ (Some (empty_file path)) a b (SetMode mode false) adds tt refl s)

pub write-failed : (bytes : List ℕ) (front : List Call) (path : List ℕ) (mode : ℕ) (a b c : Option (List Call)) (m w : Bool) → m ≡ true → w ≡ false → Adds a b (SetMode mode m) → Adds b c (Write bytes w) →
    IfSome a (IsAt bytes front (Some (empty_file path))) → IfSome c (HasFile bytes front path)
write-failed bytes front path mode a b c m true is-m is add-m add-w s = absurd (cc)
write-failed bytes front path mode a b c m false is-m is add-m add-w s =
    has-file bytes front (record { path = path; bytes = None; mode = Some mode; is_synced = false }) path c refl
    (next-at bytes front _ (Some (record { path = path; bytes = None; mode = Some mode; is_synced = false })) b c (Write bytes false) add-w tt refl (mode-set bytes front path mode a b m is-m add-m s))

pub sync-failed : (bytes : List ℕ) (front : List Call) (path : List ℕ) (mode : ℕ) (a b c d : Option (List Call)) (m w k : Bool) → m ≡ true → w ≡ true → k ≡ false →
    Adds a b (SetMode mode m) → Adds b c (Write bytes w) → Adds c d (Sync k) → IfSome a (IsAt bytes front (Some (empty_file path))) → IfSome d (HasFile bytes front path)
sync-failed bytes front path mode a b c d m w true is-m is-w is add-m add-w add-k s = absurd (cc)
sync-failed bytes front path mode a b c d m w false is-m is-w is add-m add-w add-k s =
    has-file bytes front (unsynced path bytes mode) path d refl
    (next-at bytes front _ (Some (unsynced path bytes mode)) c d (Sync false) add-k tt refl (written bytes front path mode b c w is-w add-w (mode-set bytes front path mode a b m is-m add-m s)))

pub mode-unset : {T E : Type 0} (r : Result T E) (bytes : List ℕ) (mode : ℕ) (a b : Option (List Call)) (m : Bool) → m ≡ false → Adds a b (SetMode mode m) →
    OnErr r ((front : List Call) (path : List ℕ) → IfSome a (IsAt bytes front (Some (empty_file path))) → IfSome b (HasFile bytes front path))
mode-unset (Ok x) bytes mode a b m is add-m = tt
mode-unset (Err e) bytes mode a b m is add-m = λ front path s. mode-failed bytes front path mode a b m is add-m s

pub unwritten : {T E : Type 0} (r : Result T E) (bytes : List ℕ) (mode : ℕ) (a b c : Option (List Call)) (m w : Bool) → m ≡ true → w ≡ false → Adds a b (SetMode mode m) → Adds b c (Write bytes w) →
    OnErr r ((front : List Call) (path : List ℕ) → IfSome a (IsAt bytes front (Some (empty_file path))) → IfSome c (HasFile bytes front path))
unwritten (Ok x) bytes mode a b c m w is-m is add-m add-w = tt
unwritten (Err e) bytes mode a b c m w is-m is add-m add-w = λ front path s. write-failed bytes front path mode a b c m w is-m is add-m add-w s

pub not-synced : {T E : Type 0} (r : Result T E) (bytes : List ℕ) (mode : ℕ) (a b c d : Option (List Call)) (m w k : Bool) → m ≡ true → w ≡ true → k ≡ false → Adds a b (SetMode mode m) → Adds b c (Write bytes w) → Adds c d (Sync k) →
    OnErr r ((front : List Call) (path : List ℕ) → IfSome a (IsAt bytes front (Some (empty_file path))) → IfSome d (HasFile bytes front path))
not-synced (Ok x) bytes mode a b c d m w k is-m is-w is add-m add-w add-k = tt
not-synced (Err e) bytes mode a b c d m w k is-m is-w is add-m add-w add-k = λ front path s. sync-failed bytes front path mode a b c d m w k is-m is-w is add-m add-w add-k s

-- ---- it is put

three : (a b c d : Option (List Call)) (x y z : Call) (before : List Call) → Adds a b x → Adds b c y → Adds c d z → a ≡ Some before → d ≡ Some (before ++ (x ∷ y ∷ z ∷ []))
three a b c d x y z before add-x add-y add-z is =
    let first : b ≡ Some (before ++ x ∷ []) = add-x ∙ ap (option_map (λ calls. calls ++ x ∷ [])) is in
    let second : c ≡ Some ((before ++ x ∷ []) ++ y ∷ []) = add-y ∙ ap (option_map (λ calls. calls ++ y ∷ [])) first in
    let third : d ≡ Some (((before ++ x ∷ []) ++ y ∷ []) ++ z ∷ []) = add-z ∙ ap (option_map (λ calls. calls ++ z ∷ [])) second in
    third ∙ ap (λ calls. Some (calls ++ z ∷ [])) (append_assoc before (x ∷ []) (y ∷ [])) ∙ ap Some (append_assoc before (x ∷ y ∷ []) (z ∷ []))

three-none : (a b c d : Option (List Call)) (x y z : Call) → Adds a b x → Adds b c y → Adds c d z → a ≡ None → d ≡ None
three-none a b c d x y z add-x add-y add-z is =
    let first : b ≡ None = add-x ∙ ap (option_map (λ calls. calls ++ x ∷ [])) is in
    let second : c ≡ None = add-y ∙ ap (option_map (λ calls. calls ++ y ∷ [])) first in
    add-z ∙ ap (option_map (λ calls. calls ++ z ∷ [])) second

pub was-put : (from to : List ℕ) (version : Version) (a b c d : Option (List Call)) (found : Option Status) (status : Status) (renamed ok : Bool) → found ≡ Some status → status.version ≡ version → renamed ≡ true →
    Adds a b (Examine to found) → Adds b c (Rename from to renamed) → Adds c d (SyncDirectory to ok) → IfSome d (Follows a (IsPut from to version))
was-put from to version None b c d found status renamed ok is-found same is-renamed add-x add-y add-z =
    subst (λ o. IfSome o (Follows None (IsPut from to version))) (sym (three-none None b c d (Examine to found) (Rename from to renamed) (SyncDirectory to ok) add-x add-y add-z refl)) tt
was-put from to version (Some before) b c d found status renamed ok is-found same is-renamed add-x add-y add-z =
    let all = three (Some before) b c d (Examine to found) (Rename from to renamed) (SyncDirectory to ok) before add-x add-y add-z refl in
    subst (λ o. IfSome o (Follows (Some before) (IsPut from to version))) (sym all) (
      before,
      refl,
      record {
        again = status;
        is_synced = ok;
        all = ap (λ f. before ++ (Examine to f ∷ Rename from to renamed ∷ SyncDirectory to ok ∷ [])) is-found ∙ ap (λ r. before ++ (Examine to (Some status) ∷ Rename from to r ∷ SyncDirectory to ok ∷ [])) is-renamed;
        unchanged = same;
      },
    )

pub left-examined : (bytes : List ℕ) (front : List Call) (from to : List ℕ) (mode : ℕ) (a b : Option (List Call)) (found : Option Status) → Adds a b (Examine to found) →
    IfSome a (IsAt bytes front (Some (whole_file from bytes mode))) → IfSome b (IsLeft bytes front from)
left-examined bytes front from to mode a b found adds s = has-left bytes front (whole_file from bytes mode) from b refl (examined-at bytes front _ a b to found adds s)

renamed-at : (bytes : List ℕ) (front : List Call) (from to : List ℕ) (mode : ℕ) (a b : Option (List Call)) (ok : Bool) → ok ≡ true → Adds a b (Rename from to ok) →
    IfSome a (IsAt bytes front (Some (whole_file from bytes mode))) → IfSome b (IsAt bytes front None)
renamed-at bytes front from to mode a b false is adds s = absurd (cc)
renamed-at bytes front from to mode a b true is adds s = next-at bytes front _ None a b (Rename from to true) adds (mode, refl) (same-left from (whole_file from bytes mode) refl) s

pub left-unrenamed : (bytes : List ℕ) (front : List Call) (from to : List ℕ) (mode : ℕ) (a b c : Option (List Call)) (found : Option Status) (ok : Bool) → ok ≡ false → Adds a b (Examine to found) → Adds b c (Rename from to ok) →
    IfSome a (IsAt bytes front (Some (whole_file from bytes mode))) → IfSome c (IsLeft bytes front from)
left-unrenamed bytes front from to mode a b c found true is add-x add-y s = absurd (cc)
left-unrenamed bytes front from to mode a b c found false is add-x add-y s =
    has-left bytes front (whole_file from bytes mode) from c refl (next-at bytes front _ (Some (whole_file from bytes mode)) b c (Rename from to false) add-y (mode, refl) refl (examined-at bytes front _ a b to found add-x s))

pub left-put : (bytes : List ℕ) (front : List Call) (from to : List ℕ) (mode : ℕ) (a b c d : Option (List Call)) (found : Option Status) (ok done : Bool) → ok ≡ true → Adds a b (Examine to found) → Adds b c (Rename from to ok) → Adds c d (SyncDirectory to done) →
    IfSome a (IsAt bytes front (Some (whole_file from bytes mode))) → IfSome d (IsLeft bytes front from)
left-put bytes front from to mode a b c d found ok done is add-x add-y add-z s =
    none-left bytes front from d (next-at bytes front None None c d (SyncDirectory to done) add-z tt refl (renamed-at bytes front from to mode b c ok is add-y (examined-at bytes front _ a b to found add-x s)))

pub file-left : (bytes : List ℕ) (front : List Call) (path : List ℕ) (known : Option (List Call)) → IfSome known (HasFile bytes front path) → IfSome known (IsLeft bytes front path)
file-left bytes front path None h = tt
file-left bytes front path (Some calls) h = inl h

pub put-whole : (bytes : List ℕ) (front : List Call) (from to : List ℕ) (status : Status) (a b : Option (List Call)) → IfSome a (IsAt bytes front (Some (whole_file from bytes status.mode))) → IfSome b (Follows a (IsPut from to status.version)) →
    IfSome b (IsPutWhole bytes front from to status)
put-whole bytes front from to status a None s h = tt
put-whole bytes front from to status None (Some after) s h = (let is = h.1 in absurd (cc))
put-whole bytes front from to status (Some calls) (Some after) s h =
    let same : calls ≡ h.0 = (let is = h.1 in cc) in
    record { before = h.0; is = subst (IsAt bytes front (Some (whole_file from bytes status.mode))) same s; put = h.2 }

-- ---- a file is replaced

pub started : (bytes : List ℕ) (known : Option (List Call)) → IfSome known (λ calls. calls ≡ []) → IfSome known (IsAt bytes [] None)
started bytes None s = tt
started bytes (Some calls) s = subst (IsAt bytes [] None) (sym s) (record { more = []; all = refl; leaves = refl; whole = tt })

pub resolved-at : (bytes : List ℕ) (known new : Option (List Call)) (path : List ℕ) (found : Option (List ℕ)) → IfSome known (λ calls. calls ≡ []) → Adds known new (Resolve path found) → IfSome new (IsAt bytes [] None)
resolved-at bytes known new path found s adds = next-at bytes [] None None known new (Resolve path found) adds tt refl (started bytes known s)

pub examined-none : (bytes : List ℕ) (a b c : Option (List Call)) (path target : List ℕ) (found : Option (List ℕ)) (status : Option Status) → IfSome a (λ calls. calls ≡ []) → Adds a b (Resolve path found) → Adds b c (Examine target status) → IfSome c (IsAt bytes [] None)
examined-none bytes a b c path target found status s add-x add-y = next-at bytes [] None None b c (Examine target status) add-y tt refl (resolved-at bytes a b path found s add-x)

-- the first two calls
pub begun : (bytes : List ℕ) (a b c : Option (List Call)) (path target at : List ℕ) (found : Option (List ℕ)) (seen : Option Status) (status : Status) → found ≡ Some target → at ≡ target → seen ≡ Some status →
    IfSome a (λ calls. calls ≡ []) → Adds a b (Resolve path found) → Adds b c (Examine at seen) → IfSome c (IsAt bytes (Resolve path (Some target) ∷ Examine target (Some status) ∷ []) None)
begun bytes None b c path target at found seen status is-found is-at is-seen s add-x add-y =
    let first : b ≡ None = add-x in
    let second : c ≡ None = add-y ∙ ap (option_map (λ calls. calls ++ Examine at seen ∷ [])) first in
    subst (λ o. IfSome o (IsAt bytes (Resolve path (Some target) ∷ Examine target (Some status) ∷ []) None)) (sym second) tt
begun bytes (Some calls) b c path target at found seen status is-found is-at is-seen s add-x add-y =
    let front : List Call = Resolve path (Some target) ∷ Examine target (Some status) ∷ [] in
    let first : b ≡ Some (Resolve path found ∷ []) = add-x ∙ ap (λ cs. Some (cs ++ Resolve path found ∷ [])) s in
    let second : c ≡ Some (Resolve path found ∷ Examine at seen ∷ []) = add-y ∙ ap (option_map (λ calls. calls ++ Examine at seen ∷ [])) first in
    let third : c ≡ Some front = second ∙ ap (λ f. Some (Resolve path f ∷ Examine at seen ∷ [])) is-found ∙ ap (λ t. Some (Resolve path (Some target) ∷ Examine t seen ∷ [])) is-at ∙ ap (λ e. Some (Resolve path (Some target) ∷ Examine target e ∷ [])) is-seen in
    subst (λ o. IfSome o (IsAt bytes front None)) (sym third) (record { more = []; all = refl; leaves = refl; whole = (tt, (tt, tt)) })

pub is-whole : (bytes : List ℕ) (front : List Call) (known : Option (List Call)) → IfSome known (IsAt bytes front None) → IfSome known (AreWhole bytes None)
is-whole bytes front None s = tt
is-whole bytes front (Some calls) s = s.whole

pub is-left : (bytes : List ℕ) (front : List Call) (known : Option (List Call)) → IfSome known (IsAt bytes front None) → IfSome known (λ calls. new_file calls ≡ None)
is-left bytes front None s = tt
is-left bytes front (Some calls) s = s.leaves

pub left-whole : (bytes : List ℕ) (front : List Call) (path : List ℕ) (known : Option (List Call)) → IfSome known (IsLeft bytes front path) → IfSome known (AreWhole bytes None)
left-whole bytes front path None s = tt
left-whole bytes front path (Some calls) (inl h) = h.is.whole
left-whole bytes front path (Some calls) (inr s) = s.whole

file-removed : (bytes : List ℕ) (front : List Call) (path : List ℕ) (calls : List Call) (ok : Bool) → IsLeft bytes front path calls → IsAt bytes front None (calls ++ Remove path ok ∷ [])
file-removed bytes front path calls ok (inl h) = at-one bytes front (Some h.file) None calls (Remove path ok) h.is tt (same-left path h.file h.at)
file-removed bytes front path calls ok (inr s) = at-one bytes front None None calls (Remove path ok) s tt refl

-- a file that did not get the path is removed
pub removed : (bytes : List ℕ) (front : List Call) (path at : List ℕ) (old new : Option (List Call)) (ok : Bool) → at ≡ path → Adds old new (Remove at ok) → IfSome old (IsLeft bytes front path) → IfSome new (IsAt bytes front None)
removed bytes front path at None new ok same adds h = subst (λ o. IfSome o (IsAt bytes front None)) (sym adds) tt
removed bytes front path at (Some calls) new ok same adds h =
    subst (λ o. IfSome o (IsAt bytes front None)) (sym (adds ∙ ap (λ p. Some (calls ++ Remove p ok ∷ [])) same)) (file-removed bytes front path calls ok h)

after-three : (f : Option NewFile) (calls : List Call) (x y z : Call) → file_after f (calls ++ (x ∷ y ∷ z ∷ [])) ≡ next_file (next_file (next_file (file_after f calls) x) y) z
after-three f [] x y z = refl
after-three f (c ∷ calls) x y z = after-three (next_file f c) calls x y z

put-left-here : (bytes : List ℕ) (front : List Call) (from to : List ℕ) (status : Status) (calls : List Call) → IsPutWhole bytes front from to status calls → new_file calls ≡ None
put-left-here bytes front from to status calls p =
    ap new_file p.put.all ∙ after-three None p.before (Examine to (Some p.put.again)) (Rename from to true) (SyncDirectory to p.put.is_synced) ∙ ap (λ f. next_file (next_file (next_file f (Examine to (Some p.put.again))) (Rename from to true)) (SyncDirectory to p.put.is_synced)) p.is.leaves
    ∙ ap (λ f. next_file f (SyncDirectory to p.put.is_synced)) (same-left from (whole_file from bytes status.mode) refl)

pub put-left : (bytes : List ℕ) (front : List Call) (from to : List ℕ) (status : Status) (known : Option (List Call)) → IfSome known (IsPutWhole bytes front from to status) → IfSome known (λ calls. new_file calls ≡ None)
put-left bytes front from to status None p = tt
put-left bytes front from to status (Some calls) p = put-left-here bytes front from to status calls p

pub replaced : (bytes path from target at : List ℕ) (version : Version) (status : Status) (known : Option (List Call)) → at ≡ target → status.version ≡ version →
    IfSome known (IsPutWhole bytes (Resolve path (Some target) ∷ Examine target (Some status) ∷ []) from at status) → IfSome known (IsReplaced path version bytes)
replaced bytes path from target at version status None same expected p = tt
replaced bytes path from target at version status (Some calls) same expected p = record {
  target = target;
  status = status;
  more = p.is.more;
  from = from;
  again = p.put.again;
  is_synced = p.put.is_synced;
  all = p.put.all ∙ ap (λ t. p.before ++ (Examine t (Some p.put.again) ∷ Rename from t true ∷ SyncDirectory t p.put.is_synced ∷ [])) same
      ∙ ap (λ b. b ++ (Examine target (Some p.put.again) ∷ Rename from target true ∷ SyncDirectory target p.put.is_synced ∷ [])) p.is.all;
  expected = expected;
  unchanged = p.put.unchanged ∙ expected;
  whole = sym (ap new_file p.is.all) ∙ p.is.leaves;
}

-- a call at a path that is equal
pub made-at : (bytes : List ℕ) (front : List Call) (path at : List ℕ) (known : Option (List Call)) → at ≡ path → IfSome known (IsAt bytes front (Some (empty_file path))) → IfSome known (IsAt bytes front (Some (empty_file at)))
made-at bytes front path at known same s = subst (λ p. IfSome known (IsAt bytes front (Some (empty_file p)))) (sym same) s

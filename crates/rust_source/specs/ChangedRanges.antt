-- The changed ranges of a text beside those of a new text.
use Rattle.std.specs.Prelude.{◌≡◌, ◌+◌, ◌<◌, ◌≤◌, ◌^◌, ◌&&◌, ◌||◌, nat_eq, nat_le, nat_lt, if◌then◌else◌, ℕ, zero, suc, Bool, true, false, List, [], ◌∷◌, ◌++◌, map, reverse, length, slice_range, bytes_eq}
use Rattle.std.specs.Str.{IsCharBoundary}
use Rattle.rowan.specs.Place.{start_of, text_at}
use Rattle.syntax_tree.specs.Handle.{element_of}
use Rattle.syntax_tree.specs.declared.element.SyntaxElement.{SyntaxElement}
use Rattle.tree_rewrite.specs.Changed.{text_len}
use Rattle.tree_rewrite.specs.Marked.{Marked, nothing, inner, token}
use Rattle.tree_rewrite.specs.Pieces.{is_outermost}
use Rattle.tree_rewrite.specs.declared.piece.Piece.{Piece}
use Rattle.tree_rewrite.specs.declared.piece.Piece.TheVariants.{Whole, Open, Group, Close}
use Rattle.rust_document.specs.Edit.{can_edit}
use Rattle.rust_source.specs.declared.changed_ranges.ChangedRange.{ChangedRange}
use Rattle.rust_source.specs.declared.changed_ranges.Agreement.{Agreement}
use Rattle.rust_source.specs.declared.changed_ranges.Level.{Level}
use Rattle.rust_source.specs.declared.changed_ranges.StandingRange.{StandingRange}
use Rattle.rust_source.specs.declared.changed_ranges.Walk.{Walk}

-- ---- outside of them the texts are the same

-- From an offset of each text to another, both are the same.
pub record AreSame (before after : List ℕ) (from at to end : ℕ) : Type 0 where
  pub ordered_before : from ≤ to
  pub ordered_after : at ≤ end
  pub same : slice_range before from to ≡ slice_range after at end

-- So they are but for these ranges, which come in order and can be edited.
abbrev pub AgreeBetween : (before after : List ℕ) → (from at : ℕ) → List ChangedRange → (to end : ℕ) → Type 0
AgreeBetween before after from at [] to end = AreSame before after from at to end
AgreeBetween before after from at (c ∷ cs) to end =
    AreSame before after from at c.before.start.0 c.after.start.0
    × ((can_edit before c.before.start.0 c.before.end.0 ≡ true)
    × ((can_edit after c.after.start.0 c.after.end.0 ≡ true)
    × AgreeBetween before after c.before.end.0 c.after.end.0 cs to end))

-- The ranges are all that differs: each range of the text before has the one beside it in its place.
abbrev pub AreChanges : (before after : List ℕ) → List ChangedRange → Type 0
AreChanges before after cs = AgreeBetween before after 0 0 cs (length before) (length after)

-- ---- they are what lies between the tokens that no change inserted

-- tokens that no change inserted: their range in the text before, and their range in the text after
pub record Standing : Type 0 where
  pub start : ℕ
  pub end : ℕ
  pub place : ℕ
  pub stop : ℕ

-- the tokens with `bytes` bytes, from an offset of each text on; none without a byte
abbrev pub standing_at : (start place bytes : ℕ) → List Standing
standing_at start place zero = []
standing_at start place (suc n) = record { start = start; end = start + suc n; place = place; stop = place + suc n } ∷ []

-- The tokens of a list of marked terms that no change inserted, in order, where the text after has the list at `place`. In the text
-- before, a token starts where its origin does. What is below an inserted node is inserted.
abbrev pub unchanged_in : ℕ → Marked → List Standing
unchanged_in place nothing = []
unchanged_in place (inner m k f r) = (if m.put then [] else unchanged_in place f) ++ unchanged_in (place + text_len f) r
unchanged_in place (token m l r) =
    (if m.put then [] else standing_at (start_of m.origin.place) place (length l.text)) ++ unchanged_in (place + length l.text) r

-- tokens that come next in both texts
abbrev pub follows : Standing → Standing → Bool
follows s t = nat_eq t.start s.end && nat_eq t.place s.stop

abbrev pub up_to : Standing → Standing → Standing
up_to s t = record { start = s.start; end = t.end; place = s.place; stop = t.stop }

-- these tokens, then those of a list; what comes next in both texts is of one range
abbrev pub joined : Standing → List Standing → List Standing
joined s [] = s ∷ []
joined s (t ∷ ts) = if follows s t then joined (up_to s t) ts else (s ∷ joined t ts)

-- no token, at the start of both texts
abbrev pub at_start : Standing
at_start = record { start = 0; end = 0; place = 0; stop = 0 }

-- They stay: both texts have the same bytes there, behind the tokens that stay before them.
abbrev pub stays : (before after : List ℕ) → (from at : ℕ) → Standing → Bool
stays before after from at s =
    nat_le from s.start && nat_le at s.place && (can_edit before s.start s.end && can_edit after s.place s.stop)
    && bytes_eq (slice_range before s.start s.end) (slice_range after s.place s.stop)

-- the range from one offset to another in both texts, if there is a byte in it
abbrev pub if_any : (from to at end : ℕ) → List ((ℕ × ℕ) × (ℕ × ℕ))
if_any from to at end = if nat_lt from to || nat_lt at end then ((from, to), (at, end)) ∷ [] else []

-- what lies between the tokens that stay, from an offset of each text to its end
abbrev pub between : (before after : List ℕ) → (from at : ℕ) → List Standing → List ((ℕ × ℕ) × (ℕ × ℕ))
between before after from at [] = if_any from (length before) at (length after)
between before after from at (s ∷ ss) =
    if stays before after from at s then if_any from s.start at s.place ++ between before after s.end s.stop ss else between before after from at ss

abbrev pub bounds : ChangedRange → (ℕ × ℕ) × (ℕ × ℕ)
bounds c = ((c.before.start.0, c.before.end.0), (c.after.start.0, c.after.end.0))

-- The ranges are those between the tokens of the rewritten tree that no change inserted.
abbrev pub AreRewritten : (before after : List ℕ) → Marked → List ChangedRange → Type 0
AreRewritten before after m cs = map bounds cs ≡ between before after 0 0 (joined at_start (unchanged_in 0 m))

-- ---- up to two places; only proofs use what follows

pub record Agrees (a : Agreement) : Type 0 where
  pub ranges : AgreeBetween a.before.now a.after.now 0 0 a.ranges.items a.before_end a.after_end
  pub before_boundary : IsCharBoundary a.before.now a.before_end
  pub after_boundary : IsCharBoundary a.after.now a.after_end

-- the changed ranges so far, and those that follow where these tokens come next
abbrev pub ahead : Agreement → List Standing → List ((ℕ × ℕ) × (ℕ × ℕ))
ahead a ss = map bounds a.ranges.items ++ between a.before.now a.after.now a.before_end a.after_end ss

-- the same texts, up to these places
pub record IsMoved (old new : Agreement) (to end : ℕ) : Type 0 where
  pub before : new.before.now ≡ old.before.now
  pub after : new.after.now ≡ old.after.now
  pub before_end : new.before_end ≡ to
  pub after_end : new.after_end ≡ end
  pub ranges : map bounds new.ranges.items ≡ map bounds old.ranges.items ++ if_any old.before_end to old.after_end end

abbrev pub standing_of : StandingRange → Standing
standing_of r = record { start = r.before.start.0; end = r.before.end.0; place = r.after.start.0; stop = r.after.end.0 }

-- Both texts have the same bytes there, behind the ends.
pub record CanKeep (a : Agreement) (s : Standing) : Type 0 where
  pub before_order : a.before_end ≤ s.start
  pub after_order : a.after_end ≤ s.place
  pub before_start : IsCharBoundary a.before.now s.start
  pub before_end : IsCharBoundary a.before.now s.end
  pub after_start : IsCharBoundary a.after.now s.place
  pub after_end : IsCharBoundary a.after.now s.stop
  pub same : slice_range a.before.now s.start s.end ≡ slice_range a.after.now s.place s.stop

-- an agreement of texts of less than 2^32 bytes
pub record CanWalk (a : Agreement) : Type 0 where
  pub agrees : Agrees a
  pub before : length a.before.now < 2 ^ 32
  pub after : length a.after.now < 2 ^ 32

-- one of the same texts
pub record HasWalked (old new : Agreement) : Type 0 where
  pub agrees : Agrees new
  pub before : new.before.now ≡ old.before.now
  pub after : new.after.now ≡ old.after.now

-- ---- the tokens that stay, by the pieces of the rewritten tree

-- outside of all nodes
abbrev pub top_level : Level
top_level = record { is_inserted = false; is_in_group = false }

abbrev pub in_a_node : Level → Level
in_a_node l = record { is_inserted = l.is_inserted; is_in_group = false }

-- (the flag of the outermost of the groups that an element is directly in says whether it is inserted)
abbrev pub in_a_group : Bool → Level → Level
in_a_group b l = record { is_inserted = if l.is_in_group then l.is_inserted else (l.is_inserted || b); is_in_group = true }

abbrev pub bytes_of : SyntaxElement → ℕ
bytes_of e = length (text_at (element_of e).place)

-- the whole elements that no change inserted, where the text after has the first piece at `place`
abbrev pub standing : Level → List Level → ℕ → List Piece → List Standing
standing l around place [] = []
standing l around place (Whole e ∷ ps) =
    (if l.is_inserted then [] else standing_at (start_of (element_of e).place) place (bytes_of e)) ++ standing l around (place + bytes_of e) ps
standing l around place (Open e ∷ ps) = standing (in_a_node l) (l ∷ around) place ps
standing l around place (Group n ∷ ps) = standing (in_a_group (is_outermost n) l) (l ∷ around) place ps
standing l [] place (Close ∷ ps) = standing l [] place ps
standing l (outer ∷ around) place (Close ∷ ps) = standing outer around place ps

-- the changed ranges where these pieces come next
abbrev pub changes_with : Walk → List Piece → List ((ℕ × ℕ) × (ℕ × ℕ))
changes_with w ps = ahead w.agreement (joined (standing_of w.run) (standing w.level (reverse w.around.items) w.place ps))

-- The register of the discipline in full: what the lines of one work outside its heals, or of one heal, show.
use Rattle.std.specs.Prelude.{◌≡◌, ℕ, zero, suc, ◌+◌, ◌^◌, ◌<◌, ◌≤◌, Bool, true, false, ◌&&◌, ◌||◌, not, ◌==◌, nat_lt, if◌then◌else◌, ◌⊎◌, slice_index, Option, None, Some}
use Rattle.afr_base.specs.declared.ids.Kind.{Kind}
use Rattle.afr_base.specs.declared.ids.Kind.TheVariants.{Bytes, Attrs, Names}
use Rattle.afr_base.specs.declared.marks.Marks.{Marks}
use Rattle.afr_object.specs.declared.entry.View.{View}
use Rattle.afr_lines.specs.declared.request.Area.{Area}
use Rattle.afr_lines.specs.declared.request.Area.TheVariants.{Range, Name}
use Rattle.afr_model_moves.specs.Sets.{any, empty}
use Rattle.afr_model_moves.specs.Honest.{view_marks}
use Rattle.afr_model_moves.specs.Rules.{Register, fresh, is_none, area_object, no_views}
use Rattle.afr_model_moves.specs.Lines.{range_of, name_of}

-- the steps of a transaction, from Open to Posts, and those of a heal in their order; Untouched is where no line was
pub data Step : Type 0 where
  Untouched : Step
  Open : Step
  Pres : Step
  Applies : Step
  Posts : Step
  HealLocks : Step
  WorkLocks : Step
  Looks : Step
  Reads : Step
  HealPres : Step
  Mends : Step
  Settles : Step
  Unlocks : Step
  HealUnlocks : Step

-- the place of a step in its order
abbrev pub rank : Step → ℕ
rank Untouched = 0
rank Open = 1
rank Pres = 2
rank Applies = 3
rank Posts = 4
rank HealLocks = 5
rank WorkLocks = 6
rank Looks = 7
rank Reads = 8
rank HealPres = 9
rank Mends = 10
rank Settles = 11
rank Unlocks = 12
rank HealUnlocks = 13

-- whether two steps are the same
abbrev pub same_step : Step → Step → Bool
same_step a b = rank a == rank b

-- the parts of a heal; only that of bytes has more than the first
pub data HealPart : Type 0 where
  Opening : HealPart
  Piece : HealPart
  Finish : HealPart

-- whether it is the first part
abbrev pub is_opening : HealPart → Bool
is_opening Opening = true
is_opening _ = false

-- whether it is a piece
abbrev pub is_piece : HealPart → Bool
is_piece Piece = true
is_piece _ = false

-- whether it is the last part of a heal of bytes
abbrev pub is_finish : HealPart → Bool
is_finish Finish = true
is_finish _ = false

-- the register that the law uses, and beside it the steps, the views and what may be the source
pub record Exact : Type 0 where
  pub law : Register
  pub step : Step
  pub asked : ℕ → Bool  -- the bricks that were asked in this step; a held lock and a failed unlock are asked again
  pub unlocked : Bool  -- the transaction has an Unlock line of its area
  pub reached : ℕ → Bool  -- the bricks that answered the present looks, and their views
  pub views : ℕ → Option View
  pub first_reached : ℕ → Bool  -- those of a heal's first looks
  pub first_views : ℕ → Option View
  pub part : HealPart
  pub possible : ℕ → Bool  -- the bricks that may be the source, as far as the lines tell
  pub reads : ℕ → Option ℕ  -- the positions of the reads of this piece, by brick
  pub upto : ℕ  -- the bytes of the pieces that are done
  pub broken : Bool  -- only unlocks and the end are left

-- no brick has a read
abbrev pub no_reads : ℕ → Option ℕ
no_reads x = None

-- every brick
abbrev pub everywhere : ℕ → Bool
everywhere x = true

-- where no line of the work or heal was
abbrev pub untouched : Exact
untouched = record {
  law = fresh;
  step = Untouched;
  asked = empty;
  unlocked = false;
  reached = empty;
  views = no_views;
  first_reached = empty;
  first_views = no_views;
  part = Opening;
  possible = everywhere;
  reads = no_reads;
  upto = 0;
  broken = false;
}

-- the bricks that were asked, if this is the present step
abbrev pub asked_in : Exact → Step → ℕ → Bool
asked_in r step = if same_step r.step step then r.asked else empty

-- the test holds of each brick below n
abbrev pub all : ℕ → (ℕ → Bool) → Bool
all zero test = true
all (suc n) test = test n && all n test

-- each brick of the set was asked
abbrev pub over : ℕ → (ℕ → Bool) → (ℕ → Bool) → Bool
over n set asked = all n (λ x. not (set x) || asked x)

-- a brick with a copy, by the views
abbrev pub holder : (ℕ → Option View) → ℕ → Bool
holder views x = not (is_none (views x))

-- whether a view accuses brick s
abbrev pub accuses : Kind → Option View → ℕ → Bool
accuses kind None s = false
accuses kind (Some view) s = not (slice_index (view_marks view kind).pending s == 0)

-- no view accuses brick s
abbrev pub unaccused : ℕ → Kind → (ℕ → Option View) → ℕ → Bool
unaccused n kind views s = all n (λ x. not (accuses kind (views x) s))

-- a holder, no arbiter of bytes, that no view accuses
abbrev pub good : ℕ → (ℕ → Kind → Bool) → Kind → (ℕ → Option View) → ℕ → Bool
good n keeps kind views s = holder views s && keeps s kind && unaccused n kind views s

-- whether a number of the kind is above zero
abbrev pub has_number : Marks → Bool
has_number marks = not (marks.dirty == 0) || any 5 (λ c. not (slice_index marks.pending c == 0))

-- a holder's view with a number of this kind
abbrev pub shows_number : Kind → Option View → Bool
shows_number kind None = false
shows_number kind (Some view) = has_number (view_marks view kind)

-- the length that a view shows
abbrev pub len_of : Option View → ℕ
len_of None = 0
len_of (Some view) = view.len

-- a range below 2^63, the range of the attributes, a name or a whole directory
abbrev pub IsArea : Area → Type 0
IsArea (Range g from to) = (from < to) × ((to ≤ 2 ^ 63) ⊎ ((from ≡ 2 ^ 63) × (to ≡ 2 ^ 63 + 1)))
IsArea (Name g name) = Unit {0}

-- the kind of cells that an area covers
abbrev pub area_kind : Area → Kind
area_kind (Range g from to) = if nat_lt from (2 ^ 63) then Bytes else Attrs
area_kind (Name g name) = Names

-- the kind of the area that is there
abbrev pub kind_in : Option Area → Kind
kind_in None = Bytes
kind_in (Some area) = area_kind area

-- all of one kind of one object
abbrev pub whole_area : ℕ → Kind → Area
whole_area g Bytes = range_of g 0 (2 ^ 63)
whole_area g Attrs = range_of g (2 ^ 63) (2 ^ 63 + 1)
whole_area g Names = name_of g None

-- the length of a piece
abbrev pub span : ℕ
span = 131072

-- the range of the piece at this place
abbrev pub piece_area : ℕ → ℕ → Area
piece_area g at = range_of g at (at + span)

-- the object and kind are those of the area
abbrev pub PlaneIn : Option Area → ℕ → Kind → Type 0
PlaneIn None g kind = ⊥
PlaneIn (Some area) g kind = (g ≡ area_object area) × (kind ≡ area_kind area)

-- the object is that of the area
abbrev pub is_on : Option Area → ℕ → Bool
is_on None g = false
is_on (Some area) g = g == area_object area

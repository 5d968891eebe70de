-- The moves that an actor may make.
use Rattle.std.specs.Prelude.{◌≡◌, ℕ, zero, suc, ◌<◌, Bool, true, false, ◌&&◌, not, ◌==◌, if◌then◌else◌, ◌⊎◌, ◌≤◌, ◌+◌, ◌^◌, slice_index, List as Seq, [], ◌∷◌, Option, None, Some, ◌||◌}
use Rattle.afr_model_moves.specs.Sets.{any, empty, with, without}
use Rattle.afr_object.specs.declared.change.Change.TheVariants.{Write, Cut, SetAttr, Make, Remove}
use Rattle.afr_model_moves.specs.Cells.{Cell, what_code, is_cell, object_of, kind_of, touches, covers}
use Rattle.afr_model_moves.specs.Past.{Log, is_of, is_gone, place, opens, mends, object, repaired}
use Rattle.afr_base.specs.Bricks.{member}
use Rattle.afr_base.specs.Majority.{IsMajority}
use Rattle.afr_lines.specs.Overlap.{same_area}
use Rattle.afr_model_moves.specs.Honest.{plane_kind, view_marks}
use Rattle.afr_base.specs.declared.ids.Kind.{Kind}
use Rattle.afr_base.specs.declared.ids.Kind.TheVariants.{Bytes, Attrs, Names}
use Rattle.afr_object.specs.declared.entry.View.{View}
use Rattle.afr_base.specs.declared.marks.Marks.{Marks}
use Rattle.afr_object.specs.declared.change.Repair.{Repair}
use Rattle.afr_object.specs.declared.change.Repair.TheVariants.{CutTo, Copy, PutAttrs, PutNames}
use Rattle.afr_lines.specs.declared.request.Area.TheVariants.{Range, Name}
use Rattle.afr_lines.specs.declared.lock.Domain.TheVariants.{Work, Heal}
use Rattle.afr_lines.specs.declared.request.Area.{Area}
use Rattle.afr_object.specs.declared.change.Change.{Change}
use Rattle.afr_lines.specs.declared.request.Request.{Request}
use Rattle.afr_lines.specs.declared.request.Request.TheVariants.{Lock, Unlock, Look, Pre, Apply, Post, Mend, Settle}
use Rattle.afr_lines.specs.declared.answer.Told.{Told}
use Rattle.afr_lines.specs.declared.answer.Told.TheVariants.{Granted, Seen, Done, Given}
use Rattle.afr_lines.specs.declared.line.Line.{Line}
use Rattle.afr_lines.specs.declared.line.Line.TheVariants.{Ask, Begin, HealBegin, End, HealEnd, Event}
use Rattle.afr_model_moves.specs.Lines.{is_ok, begin_by, ask_by, look_at, range_of}
use Rattle.afr_model_moves.specs.Tally.{tally}

-- what the lines of one work outside its heals, or of one heal, show
pub record Register : Type 0 where
  pub number : ℕ  -- suc of the position of the present Begin or HealBegin line, or 0
  pub area : Option Area
  pub held : ℕ → Bool  -- the bricks where the actor holds the area
  pub second : Option Area  -- another area that the transaction named, and where it is held
  pub second_held : ℕ → Bool
  pub seen : ℕ → Bool  -- in a transaction, those that were looked at under the lock before the Begin; in a heal, those locked at the HealBegin
  pub closed : ℕ → Bool  -- the bricks where an Unlock line of the area was written since
  pub pre : ℕ → Bool
  pub done : ℕ → Bool
  pub post : ℕ → Bool
  pub heal : Bool  -- the lines of a heal
  pub object : ℕ  -- its object and kind
  pub kind : Kind
  pub healing : ℕ → Bool  -- the bricks where the actor holds the Heal lock
  pub start : ℕ  -- suc of the position of its first HealBegin line, or 0
  pub view : ℕ → Option View  -- the views since the last HealBegin, under the lock
  pub first : ℕ → Option View  -- those since the first one, before the second
  pub mended : ℕ → Cell → ℕ  -- suc of the number of the last piece whose Mend line changed the cell there, or 0
  pub raised : ℕ → Bool  -- the bricks where the heal's Pre was told Done
  pub settled : ℕ → Bool

-- no brick was looked at
abbrev pub no_views : ℕ → Option View
no_views x = None

-- no piece changed a cell
abbrev pub no_cells : ℕ → Cell → ℕ
no_cells x cell = 0

-- the register of no line
abbrev pub fresh : Register
fresh = record {
  number = 0;
  area = None;
  held = empty;
  second = None;
  second_held = empty;
  seen = empty;
  closed = empty;
  pre = empty;
  done = empty;
  post = empty;
  heal = false;
  object = 0;
  kind = Bytes;
  healing = empty;
  start = 0;
  view = no_views;
  first = no_views;
  mended = no_cells;
  raised = empty;
  settled = empty;
}

-- a new transaction, or a new piece of a heal
abbrev pub begun : Register → Area → Register
begun r area = record r { number = 0; area = Some area; held = empty; second = None; second_held = empty; seen = empty; closed = empty; pre = empty; done = empty; post = empty; view = no_views }

-- whether the area that was named is this one
abbrev pub is_area : Option Area → Area → Bool
is_area None area = false
is_area (Some mine) area = same_area mine area

-- a look of a transaction: it counts before the Begin, where the area is held
abbrev pub looked : Register → ℕ → Register
looked r b = if (r.number == 0) && r.held b then record r { seen = with r.seen b } else r

-- the views with one more
abbrev pub put_view : (ℕ → Option View) → ℕ → View → ℕ → Option View
put_view views b view x = if x == b then Some view else views x

-- whether there is no view
abbrev pub is_none : Option View → Bool
is_none None = true
is_none (Some view) = false

-- a look of a heal under the lock
abbrev pub viewed : Register → ℕ → ℕ → View → Register
viewed r b g view =
    if not (r.number == 0) && r.seen b && not (r.closed b) && (g == r.object) && r.healing b && not (r.settled b)
    then record r { view = put_view r.view b view; first = if (r.number == r.start) && is_none (r.first b) then put_view r.first b view else r.first }
    else r

-- a look, in a heal or outside one
abbrev pub looking : Register → ℕ → ℕ → View → Register
looking r b g view = if r.heal then viewed r b g view else looked r b

-- where the second area is still held once it was given back at b
abbrev pub second_freed : Register → Area → ℕ → ℕ → Bool
second_freed r area b = if is_area r.second area then without r.second_held b else r.second_held

-- an Unlock line of the area, whatever it was told
abbrev pub unlocked : Register → Area → ℕ → Register
unlocked r area b = if is_area r.area area then record r { closed = with r.closed b } else r

-- an Unlock line that was told Done gives the area back, or the second one
abbrev pub released : Register → Area → ℕ → Register
released r area b = if is_area r.area area then record r { closed = with r.closed b; held = without r.held b } else record r { second_held = second_freed r area b }

-- whether the actor holds a Work lock
abbrev pub busy : ℕ → Register → Bool
busy n r = any n r.held || any n r.second_held

-- the second area after a lock of this one was asked for
abbrev pub second_of : Register → Area → Option Area
second_of r area = if is_area r.area area then r.second else Some area

-- a Work Lock line while the actor holds none begins a transaction or a piece
abbrev pub locking : ℕ → Register → Area → Register
locking n r area = if busy n r then record r { second = second_of r area } else begun r area

-- while it holds one, a lock of another area is the second
abbrev pub granting : ℕ → Register → Area → ℕ → Register
granting n r area b = if busy n r && not (is_area r.area area) then record r { second = Some area; second_held = with r.second_held b } else (let s = locking n r area in record s { held = with s.held b })

-- the object of an area, by its number
abbrev pub area_object : Area → ℕ
area_object (Range g from to) = g.0
area_object (Name g name) = g.0

-- which cells the last piece changed, with those of this repair at b
abbrev pub mend_cells : (ℕ → Cell → ℕ) → ℕ → ℕ → Repair → ℕ → Cell → ℕ
mend_cells cells number b repair c cell = if (c == b) && mends repair cell then number else cells c cell

-- the Heal lock is always the same range of the object
abbrev pub heal_area : ℕ → Area
heal_area g = range_of g 0 (2 ^ 63)

-- where the Heal lock is still held once this area of its domain was given back at b
abbrev pub heal_freed : Register → Area → ℕ → ℕ → Bool
heal_freed r area b = if same_area (heal_area r.object) area then without r.healing b else r.healing

-- what a request and its answer leave in the register
abbrev pub note_ask : ℕ → Register → ℕ → Request → Told → Register
note_ask n r b (Lock Work area) Granted = granting n r area b
note_ask n r b (Lock Work area) told = locking n r area
note_ask n r b (Lock Heal area) Granted = record r { heal = true; object = area_object area; healing = with r.healing b }
note_ask n r b (Lock Heal area) told = record r { heal = true; object = area_object area }
note_ask n r b (Unlock Work area) Done = released r area b
note_ask n r b (Unlock Work area) told = unlocked r area b
note_ask n r b (Unlock Heal area) Done = record r { healing = heal_freed r area b }
note_ask n r b (Look g) (Seen view) = looking r b g.0 view
note_ask n r b (Pre g kind) Done = record r { pre = with r.pre b; raised = with r.raised b }
note_ask n r b (Apply q) Done = record r { done = with r.done b }
note_ask n r b (Post q g kind missed) Done = record r { post = with r.post b }
note_ask n r b (Mend repair) Done = record r { mended = mend_cells r.mended r.number b repair }
note_ask n r b (Settle g kind less) Done = record r { settled = with r.settled b }
note_ask n r b _ _ = r

-- a session that ended took its locks along
abbrev pub dropping : Bool → ℕ → Register → Register
dropping true b r = record r { held = without r.held b; second_held = without r.second_held b; healing = without r.healing b }
dropping false b r = r

-- a HealBegin line
abbrev pub piece : Register → ℕ → Kind → Register
piece r t kind = record r { number = suc t; seen = r.held; closed = empty; kind = kind; start = if r.start == 0 then suc t else r.start; view = no_views }

-- what a line of the actor leaves in its register
abbrev pub note : ℕ → Register → ℕ → Option Line → Register
note n r t (Some (Ask a b request told took)) = dropping (is_gone told) b.0 (note_ask n r b.0 request told)
note n r t (Some (Begin a change)) = record r { number = suc t }
note n r t (Some (HealBegin a g kind)) = piece r t kind
note n r t (Some (HealEnd a g kind reply)) = fresh
note n r t _ = r

-- the register that stands for the lines of the work or heal that the line belongs to
abbrev pub in_force : Bool → Register → Register
in_force true r = fresh
in_force false r = r

-- the register of an actor after a line, which may be of another
abbrev pub register_after : ℕ → Bool → Bool → Register → ℕ → Option Line → Register
register_after n false first r t line = r
register_after n true first r t line = note n (in_force first r) t line

-- the register of actor a before t
unfoldable pub register : ℕ → Log → ℕ → ℕ → Register
register n log zero a = fresh
register n log (suc t) a = register_after n (is_of a (log t)) (opens (place log t a) (log t)) (register n log t a) t (log t)

-- the last attempt, if there is one, was closed at a majority
abbrev pub LastPosted : ℕ → Register → Type 0
LastPosted n r = (r.number ≡ 0) ⊎ IsMajority n r.post

-- a first Work lock comes in a heal, or after an attempt that was closed at a majority
pub record MayLock (n : ℕ) (r : Register) : Type 0 where
  pub first : busy n r ≡ false → (r.heal ≡ true) ⊎ LastPosted n r

-- the line begins an attempt on this object and kind
abbrev pub PlaneIs : Option Line → ℕ → Kind → Type 0
PlaneIs (Some (Begin a change)) g kind = (object change ≡ g) × (plane_kind change ≡ kind)
PlaneIs _ g kind = ⊥

-- the operation is the attempt's own, where its pre-op was done and the area wasn't given back
pub record MayApply (r : Register) (b q : ℕ) : Type 0 where
  pub outside : r.heal ≡ false
  pub own : r.number ≡ suc q
  pub ready : r.pre b ≡ true
  pub open_still : r.closed b ≡ false

-- the post-op is the attempt's own, where the operation was done; it names exactly the bricks where it wasn't
pub record MayPost (n : ℕ) (log : Log) (t a : ℕ) (r : Register) (b q g : ℕ) (kind : Kind) (missed : ℕ → Bool) : Type 0 where
  pub outside : r.heal ≡ false
  pub own : r.number ≡ suc q
  pub plane : PlaneIs (log q) g kind
  pub ready : r.done b ≡ true
  pub open_still : r.closed b ≡ false
  pub exact : (c : ℕ) → c < n → missed c ≡ not (r.done c)
  -- once per brick: a second one would take back another's raise
  pub once : (tally log t a).posts b ≡ false

-- the area has a cell of the change's object and kind
abbrev pub SomeCell : Option Area → Change → Type 0
SomeCell None change = ⊥
SomeCell (Some area) change = (cell : Cell) × (is_cell cell ≡ true) × (object_of cell ≡ object change) × (kind_of cell ≡ plane_kind change) × (covers area cell ≡ true)

-- the area has each cell that the change touches
abbrev pub CoveredBy : Option Area → Change → Type 0
CoveredBy None change = ⊥
CoveredBy (Some area) change = (cell : Cell) → touches change cell ≡ true → covers area cell ≡ true

-- whether an object of this kind, 1 for a file and 2 for a directory, can be changed so
abbrev pub fits_change : ℕ → Change → Bool
fits_change k (Write g at bytes) = k == 1
fits_change k (Cut g len) = k == 1
fits_change k (SetAttr g key value) = not (k == 0)
fits_change k (Make dir name g what) = k == 2
fits_change k (Remove dir name what) = k == 2

-- a look of the actor showed an object that the change fits
pub record SeenFit (log : Log) (t a x : ℕ) (change : Change) : Type 0 where
  pub l : ℕ
  pub view : View
  pub past : l < t
  pub is : log l ≡ Some (ask_by a x (look_at (object change)) (Seen view) true)
  pub fit : fits_change (what_code view.what) change ≡ true

-- an attempt begins outside heals, once in a transaction, within the area
pub record MayBegin (r : Register) (change : Change) : Type 0 where
  pub outside : r.heal ≡ false
  pub first : r.number ≡ 0
  pub within : CoveredBy r.area change
  -- the area isn't empty, so the first lock of a heal keeps out even a change that touches nothing
  pub some : SomeCell r.area change

-- the change of the attempt fits what the actor saw on x before
pub record FitAt (log : Log) (q a x : ℕ) : Type 0 where
  pub change : Change
  pub is : log q ≡ Some (begin_by a change)
  pub fit : SeenFit log q a x change

-- a Pre of a heal: on its object and kind, in its first piece, after the first look there, before each Mend, once per brick
pub record MayRaise (log : Log) (t a : ℕ) (r : Register) (b g : ℕ) (kind : Kind) : Type 0 where
  pub object_same : g ≡ r.object
  pub kind_same : kind ≡ r.kind
  pub first_piece : r.number ≡ r.start
  pub view : View
  pub looked : r.first b ≡ Some view
  pub before_mends : (tally log t a).mending ≡ false
  pub once : (tally log t a).raises b ≡ false

-- a pre-op comes after the Begin or HealBegin, on its object and kind, at a brick that was looked at
pub record MayPre (log : Log) (t a : ℕ) (r : Register) (b g : ℕ) (kind : Kind) : Type 0 where
  pub begun_already : (r.number ≡ 0) → ⊥
  pub holder : r.seen b ≡ true
  pub open_still : r.closed b ≡ false
  -- on the attempt's object and kind
  pub plane : (q : ℕ) → r.heal ≡ false → r.number ≡ suc q → PlaneIs (log q) g kind
  pub within : r.heal ≡ true → MayRaise log t a r b g kind
  pub fit : (q : ℕ) → r.heal ≡ false → r.number ≡ suc q → FitAt log q a b

-- a Heal lock of an object comes before the heal's first HealBegin, first or after others of this heal
pub record MayHealLock (first : Bool) (r : Register) (area : Area) : Type 0 where
  pub object : ℕ
  pub range : area ≡ heal_area object
  pub early : r.start ≡ 0
  pub place : (first ≡ true) ⊎ ((r.heal ≡ true) × (r.object ≡ object))

-- the area has each cell of the object and kind
abbrev pub CoversAll : Option Area → ℕ → Kind → Type 0
CoversAll None g kind = ⊥
CoversAll (Some area) g kind = (cell : Cell) → is_cell cell ≡ true → object_of cell ≡ g → kind_of cell ≡ kind → covers area cell ≡ true

-- a HealBegin names the heal's object and kind, once after its Work locks; the first one has the whole kind locked
pub record MayHealBegin (r : Register) (g : ℕ) (kind : Kind) : Type 0 where
  pub inside : r.heal ≡ true
  pub same : g ≡ r.object
  pub first : r.number ≡ 0
  pub kind_same : (r.start ≡ 0) ⊎ (kind ≡ r.kind)
  pub whole : r.start ≡ 0 → CoversAll r.area g kind

-- a majority of views since the HealBegin, none of which accuses s
pub record UnaccusedViews (n : ℕ) (keeps : ℕ → Kind → Bool) (log : Log) (t a : ℕ) (r : Register) (s : ℕ) : Type 0 where
  pub among : ℕ → Bool
  pub majority : IsMajority n among
  pub member : among s ≡ true
  pub below : s < n
  pub copy : keeps s r.kind ≡ true
  -- the source isn't one of the bricks that the heal changes
  pub aside : (r.kind ≡ Names) ⊎ ((tally log t a).raises s ≡ false)
  pub good : (x : ℕ) → x < n → among x ≡ true → (view : View) × (r.view x ≡ Some view) × (slice_index (view_marks view r.kind).pending s ≡ 0)

-- the line at read showed the contents of an unaccused copy after the HealBegin
pub record ReadOf (n : ℕ) (keeps : ℕ → Kind → Bool) (log : Log) (t a : ℕ) (r : Register) (read : ℕ) : Type 0 where
  pub s : ℕ
  pub request : Request
  pub is : log read ≡ Some (ask_by a s request Given true)
  pub since : r.number ≤ read
  pub past : read < t
  pub source : UnaccusedViews n keeps log t a r s

-- a fact of each read that is named
abbrev pub EachRead : (ℕ → Type 0) → Seq (Option ℕ) → Type 0
EachRead P [] = Unit {0}
EachRead P (None ∷ reads) = EachRead P reads
EachRead P (Some r ∷ reads) = P r × EachRead P reads

-- whether a read is named
abbrev pub some_read : Seq (Option ℕ) → Bool
some_read [] = false
some_read (None ∷ reads) = some_read reads
some_read (Some r ∷ reads) = true

-- the length that the copy s was seen to have
pub record CutOf (n : ℕ) (keeps : ℕ → Kind → Bool) (log : Log) (t a : ℕ) (r : Register) (len : ℕ) : Type 0 where
  pub s : ℕ
  pub view : View
  pub seen : r.view s ≡ Some view
  pub length : len ≡ view.len
  pub source : UnaccusedViews n keeps log t a r s

-- what a repair brings was seen at an unaccused copy since the HealBegin
abbrev pub BringsSeen : ℕ → (ℕ → Kind → Bool) → Log → ℕ → ℕ → Register → Repair → Type 0
BringsSeen n keeps log t a r (CutTo g len) = CutOf n keeps log t a r len
BringsSeen n keeps log t a r (Copy g at span read) = ReadOf n keeps log t a r read
BringsSeen n keeps log t a r (PutAttrs g read) = ReadOf n keeps log t a r read
BringsSeen n keeps log t a r (PutNames g reads) = EachRead (ReadOf n keeps log t a r) reads × (some_read reads ≡ true)

-- the kind of the cells that a repair changes
abbrev pub repair_kind : Repair → Kind
repair_kind (CutTo g len) = Bytes
repair_kind (Copy g at span read) = Bytes
repair_kind (PutAttrs g read) = Attrs
repair_kind (PutNames g reads) = Names

-- the area has each cell that the repair changes
abbrev pub CoversMend : Option Area → Repair → Type 0
CoversMend None repair = ⊥
CoversMend (Some area) repair = (cell : Cell) → mends repair cell ≡ true → covers area cell ≡ true

-- a repair comes in a heal at a locked brick that the heal raised, within the area, with contents of an unaccused copy
pub record MayMend (n : ℕ) (keeps : ℕ → Kind → Bool) (log : Log) (t a : ℕ) (r : Register) (b : ℕ) (repair : Repair) : Type 0 where
  pub inside : r.heal ≡ true
  pub begun_already : (r.number ≡ 0) → ⊥
  pub locked : r.seen b ≡ true
  pub open_still : r.closed b ≡ false
  pub object_same : repaired repair ≡ r.object
  pub kind_same : repair_kind repair ≡ r.kind
  pub within : CoversMend r.area repair
  pub contents : BringsSeen n keeps log t a r repair
  -- under the Heal lock, after the heal's Pre there, before its Settle there
  pub healing : r.healing b ≡ true
  pub unsettled : r.settled b ≡ false
  pub raised : r.raised b ≡ true
  -- a piece has one repair
  pub one : ((tally log t a).repair ≡ None) ⊎ ((tally log t a).repair ≡ Some repair)

-- c got every cell, and whatever the heal gave any brick
pub record Sink (log : Log) (t a : ℕ) (r : Register) (c : ℕ) : Type 0 where
  pub raised : r.raised c ≡ true
  pub whole : (cell : Cell) → is_cell cell ≡ true → object_of cell ≡ r.object → kind_of cell ≡ r.kind → (r.mended c cell ≡ 0) → ⊥
  pub level : (cell : Cell) → (tally log t a).given cell ≤ r.mended c cell

-- all copies took part: each but one source is a sink, and for names each is
pub record Full (n : ℕ) (keeps : ℕ → Kind → Bool) (log : Log) (t a : ℕ) (r : Register) : Type 0 where
  pub s : ℕ
  pub sinks : (c : ℕ) → c < n → keeps c r.kind ≡ true → ((c ≡ s) × (r.kind ≡ Names → ⊥)) ⊎ Sink log t a r c

-- a test as a number
abbrev pub one_if : Bool → ℕ
one_if true = 1
one_if false = 0

-- what is taken back for c is nothing, or what the first look saw, where each cell of c was mended since
pub record MaySettle (n : ℕ) (keeps : ℕ → Kind → Bool) (log : Log) (t a : ℕ) (r : Register) (b g : ℕ) (kind : Kind) (less : Marks) : Type 0 where
  pub inside : r.heal ≡ true
  pub begun_already : (r.number ≡ 0) → ⊥
  pub locked : r.seen b ≡ true
  pub open_still : r.closed b ≡ false
  pub object_same : g ≡ r.object
  pub kind_same : kind ≡ r.kind
  pub whole : CoversAll r.area g kind
  pub healing : r.healing b ≡ true
  pub once : r.settled b ≡ false
  pub view : View
  pub seen : r.first b ≡ Some view
  pub exact : (c : ℕ) → (slice_index less.pending c ≡ 0)
      ⊎ ((slice_index less.pending c ≡ slice_index (view_marks view kind).pending c) × (keeps c kind ≡ true → (cell : Cell) → is_cell cell ≡ true → object_of cell ≡ g → kind_of cell ≡ kind → (r.mended c cell ≡ 0) → ⊥))
  -- the dirty number is that of the first look and the heal's own raise, or nothing
  pub cleaned : (less.dirty ≡ 0) ⊎ ((less.dirty ≡ (view_marks view kind).dirty + one_if (r.raised b)) × Full n keeps log t a r)

-- the request is one that the lines so far allow
abbrev pub MayAsk : ℕ → (ℕ → Kind → Bool) → Log → ℕ → ℕ → Bool → Register → ℕ → Request → Type 0
MayAsk n keeps log t a first r b (Lock Work area) = MayLock n r
MayAsk n keeps log t a first r b (Lock Heal area) = MayHealLock first r area
MayAsk n keeps log t a first r b (Pre g kind) = MayPre log t a r b g.0 kind
MayAsk n keeps log t a first r b (Apply q) = MayApply r b q
MayAsk n keeps log t a first r b (Post q g kind missed) = MayPost n log t a r b q g.0 kind (member missed)
MayAsk n keeps log t a first r b (Mend repair) = MayMend n keeps log t a r b repair
MayAsk n keeps log t a first r b (Settle g kind less) = MaySettle n keeps log t a r b g.0 kind less
MayAsk n keeps log t a first r b _ = Unit {0}

-- a work ends outside heals without a Work lock, and with Ok only after a majority of post-ops
pub record MayEnd (n : ℕ) (r : Register) (ok : Bool) : Type 0 where
  pub outside : r.heal ≡ false
  pub free : any n r.held ≡ false
  pub posted : ok ≡ true → LastPosted n r

-- a heal ends without a Work lock
pub record MayHealEnd (n : ℕ) (r : Register) : Type 0 where
  pub inside : r.heal ≡ true
  pub free : any n r.held ≡ false

-- first: the line begins a work or a heal
abbrev pub May : ℕ → (ℕ → Kind → Bool) → Log → ℕ → (ℕ → Bool) → (ℕ → Register) → Option Line → Type 0
May n keeps log t first of None = Unit {0}
May n keeps log t first of (Some (Ask a b request told took)) = (b.0 < n) × MayAsk n keeps log t a.0 (first a.0) (of a.0) b.0 request
May n keeps log t first of (Some (Begin a change)) = MayBegin (of a.0) change
May n keeps log t first of (Some (HealBegin a g kind)) = MayHealBegin (of a.0) g.0 kind
May n keeps log t first of (Some (End a reply)) = MayEnd n (of a.0) (is_ok reply)
May n keeps log t first of (Some (HealEnd a g kind reply)) = MayHealEnd n (of a.0)
May n keeps log t first of (Some (Event e)) = Unit {0}

-- whether the line at t begins a work or a heal of a
abbrev pub opened : Log → ℕ → ℕ → Bool
opened log t a = opens (place log t a) (log t)

-- the register in force at the line at t
abbrev pub present : ℕ → Log → ℕ → ℕ → Register
present n log t a = in_force (opened log t a) (register n log t a)

-- each line is a move that the lines before it allow its actor
abbrev pub Lawful : ℕ → (ℕ → Kind → Bool) → Log → Type 0
Lawful n keeps log = (t : ℕ) → May n keeps log t (opened log t) (present n log t) (log t)

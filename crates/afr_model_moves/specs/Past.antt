-- What the lines of a log before a position say: sessions, locks, marks and values.
use Rattle.afr_object.specs.declared.change.Change.{Change}
use Rattle.std.specs.Prelude.{◌≡◌, ℕ, zero, suc, ◌+◌, ◌-◌, ◌^◌, Bool, true, false, ◌&&◌, ◌||◌, not, ◌==◌, nat_le, nat_lt, if◌then◌else◌, slice_index, List, [], ◌∷◌, max, Option, None, Some}
use Rattle.afr_base.specs.declared.ids.What.{What}
use Rattle.afr_base.specs.declared.ids.What.TheVariants.{File, Dir}
use Rattle.afr_model_moves.specs.Cells.{Cell, Byte, Attr, Entry, what_code, entry_code, fits, object_of, touches, leaves}
use Rattle.afr_base.specs.declared.ids.Kind.{Kind}
use Rattle.afr_lines.specs.declared.lock.Domain.{Domain}
use Rattle.afr_lines.specs.declared.lock.Domain.TheVariants.{Heal}
use Rattle.afr_lines.specs.declared.request.Area.{Area}
use Rattle.afr_object.specs.declared.change.Change.TheVariants.{Write, Cut, SetAttr, Make, Remove}
use Rattle.afr_object.specs.declared.change.Repair.{Repair}
use Rattle.afr_object.specs.declared.change.Repair.TheVariants.{CutTo, Copy, PutAttrs, PutNames}
use Rattle.afr_lines.specs.declared.request.Request.TheVariants.{Lock, Unlock, Apply, Post, Mend, Settle}
use Rattle.afr_lines.specs.declared.answer.Told.{Told}
use Rattle.afr_lines.specs.declared.answer.Told.TheVariants.{Granted, NotConnected}
use Rattle.afr_lines.specs.declared.line.Event.TheVariants.{Stop, Start, Cut as CutLink, Join, Kill}
use Rattle.afr_lines.specs.declared.line.Line.{Line}
use Rattle.afr_base.specs.Bricks.{member}
use Rattle.afr_lines.specs.Locks.{same_domain}
use Rattle.afr_lines.specs.Overlap.{same_area, overlap}
use Rattle.afr_lines.specs.Places.{Place, Fresh, Indexed, Between, Within, next_place}
use Rattle.afr_base.specs.Kinds.{same_kind}
use Rattle.afr_lines.specs.declared.line.Line.TheVariants.{Ask, Begin, HealBegin, End, HealEnd, Event}

-- the lines by their position; None where there is none
abbrev pub Log : Type 0
Log = ℕ → Option Line

-- the lines before t alone
abbrev pub before : Log → ℕ → Log
before log t q = if nat_lt q t then log q else None

-- whose line it is
abbrev pub is_of : ℕ → Option Line → Bool
is_of a None = false
is_of a (Some (Ask x b request told took)) = x.0 == a
is_of a (Some (Begin x change)) = x.0 == a
is_of a (Some (HealBegin x g kind)) = x.0 == a
is_of a (Some (End x reply)) = x.0 == a
is_of a (Some (HealEnd x g kind reply)) = x.0 == a
is_of a (Some (Event e)) = false

-- whether the answer says that there is no session
abbrev pub is_gone : Told → Bool
is_gone NotConnected = true
is_gone _ = false

-- the line ends the session of actor a with brick b
unfoldable pub ends : ℕ → ℕ → Option Line → Bool
ends a b (Some (Ask x y request told took)) = (x.0 == a) && (y.0 == b) && took && is_gone told
ends a b (Some (Event (Stop y))) = y.0 == b
ends a b (Some (Event (CutLink x y))) = (x.0 == a) && (y.0 == b)
ends a b (Some (Event (Kill x))) = x.0 == a
ends _ _ _ = false

-- where an actor stands after a line, if it is the actor's
abbrev pub place_after : Bool → Place → Option Line → Place
place_after true place (Some line) = next_place place line
place_after _ place _ = place

-- where actor a stands before t
unfoldable pub place : Log → ℕ → ℕ → Place
place log zero a = Fresh
place log (suc t) a = place_after (is_of a (log t)) (place log t a) (log t)

-- the line asks for a lock of a heal
abbrev pub is_heal_lock : Option Line → Bool
is_heal_lock (Some (Ask x b (Lock Heal area) told took)) = true
is_heal_lock _ = false

-- the line begins a work or a heal
unfoldable pub opens : Place → Option Line → Bool
opens Fresh line = true
opens Indexed line = is_heal_lock line
opens Between line = is_heal_lock line
opens Within line = false

-- whether brick b is started after a line
abbrev pub started_after : Bool → ℕ → Option Line → Bool
started_after was b (Some (Event (Stop y))) = if y.0 == b then false else was
started_after was b (Some (Event (Start y))) = if y.0 == b then true else was
started_after was b _ = was

-- whether brick b is started before t
unfoldable pub started : Log → ℕ → ℕ → Bool
started log zero b = true
started log (suc t) b = started_after (started log t b) b (log t)

-- whether the link of a and b is up after a line
abbrev pub linked_after : Bool → ℕ → ℕ → Option Line → Bool
linked_after was a b (Some (Event (CutLink x y))) = if (x.0 == a) && (y.0 == b) then false else was
linked_after was a b (Some (Event (Join x y))) = if (x.0 == a) && (y.0 == b) then true else was
linked_after was a b _ = was

-- whether the link of a and b is up before t
unfoldable pub linked : Log → ℕ → ℕ → ℕ → Bool
linked log zero a b = true
linked log (suc t) a b = linked_after (linked log t a b) a b (log t)

-- the line begins a work or a heal of a, and finds the brick
unfoldable pub opening : Log → ℕ → ℕ → ℕ → Bool
opening log t a b = is_of a (log t) && opens (place log t a) (log t) && started log t b && linked log t a b

-- whether the session of a with b is live before t
unfoldable pub joined : Log → ℕ → ℕ → ℕ → Bool
joined log zero a b = false
joined log (suc t) a b = (joined log t a b || opening log t a b) && not (ends a b (log t))

-- the line at t grants a lock on brick b
abbrev pub grants : ℕ → Option Line → Bool
grants b (Some (Ask x y (Lock domain area) Granted took)) = y.0 == b
grants _ _ = false

-- the line gives a lock of a on b back, of this domain and area
abbrev pub unlocks : ℕ → ℕ → Domain → Area → Option Line → Bool
unlocks a b domain area (Some (Ask x y (Unlock d e) told took)) = same_domain domain d && same_area area e && (x.0 == a) && (y.0 == b) && took
unlocks _ _ _ _ _ = false

-- the line ends the lock that an earlier line was granted on brick b
abbrev pub frees : ℕ → Option Line → Option Line → Bool
frees b (Some (Ask a y (Lock domain area) told took)) line = ends a.0 b line || unlocks a.0 b domain area line
frees _ _ _ = false

-- the lock that the line at p was granted on b is held before t
unfoldable pub held : Log → ℕ → ℕ → ℕ → Bool
held log zero b p = false
held log (suc t) b p = if p == t then grants b (log t) else (held log t b p && not (frees b (before log t p) (log t)))

-- the lock of an earlier line is in the way of this one
abbrev pub blocks : ℕ → Domain → Area → Option Line → Bool
blocks a domain area (Some (Ask x y (Lock d e) told took)) = same_domain domain d && not (x.0 == a) && overlap area e
blocks _ _ _ _ = false

-- suc of the position of the last Begin or HealBegin line of a, or 0
abbrev pub last_after : ℕ → ℕ → ℕ → Option Line → ℕ
last_after was a t (Some (Begin x change)) = if x.0 == a then suc t else was
last_after was a t (Some (HealBegin x g kind)) = if x.0 == a then suc t else was
last_after was a t _ = was

-- suc of the position of the last Begin or HealBegin line of a before t, or 0
unfoldable pub last : Log → ℕ → ℕ → ℕ
last log zero a = 0
last log (suc t) a = last_after (last log t a) a t (log t)

-- the tables of one brick, as far as kinds of objects and cells go; a kind is 1 for a file, 2 for a directory, 0 for no object
pub record Tables : Type 0 where
  pub kinds : ℕ → ℕ
  pub cells : Cell → ℕ

-- what every brick has at the beginning, which kinds of cells each brick keeps, and how many names there are
pub record Beginning : Type 0 where
  pub kinds : ℕ → ℕ
  pub cells : Cell → ℕ
  pub keeps : ℕ → Kind → Bool
  pub names : ℕ
  pub named : (d m g : ℕ) (what : What) → cells (Entry d m) ≡ entry_code g what → kinds g ≡ what_code what

-- the object that a change is of
abbrev pub object : Change → ℕ
object (Write g at bytes) = g.0
object (Cut g len) = g.0
object (SetAttr g key v) = g.0
object (Make dir name g what) = dir.0
object (Remove dir name what) = dir.0

-- the object of the attempt that a line begins
abbrev pub object_of_line : Option Line → ℕ
object_of_line (Some (Begin a change)) = object change
object_of_line _ = 0

-- the object that a repair is of
abbrev pub repaired : Repair → ℕ
repaired (CutTo g len) = g.0
repaired (Copy g at span read) = g.0
repaired (PutAttrs g read) = g.0
repaired (PutNames g reads) = g.0

-- the object whose copy a request is carried out on
abbrev pub target : Log → Option Line → ℕ
target log (Some (Ask a y (Apply q) told took)) = object_of_line (log q)
target log (Some (Ask a y (Mend repair) told took)) = repaired repair
target _ _ = 0

-- what a change makes of object g
abbrev pub made : ℕ → Option Line → ℕ
made g (Some (Begin x (Make dir name h what))) = if h.0 == g then what_code what else 0
made _ _ = 0

-- the kind that one of these entries gives object g
abbrev pub named_kind : ℕ → (ℕ → ℕ) → ℕ → ℕ
named_kind zero entries g = 0
named_kind (suc m) entries g = if entries m == entry_code g File then 1 else if entries m == entry_code g Dir then 2 else named_kind m entries g

-- the kind that was there, or else a new one
abbrev pub keep : ℕ → ℕ → ℕ
keep zero new = new
keep (suc k) new = suc k

-- the attempt that the line begins touches the cell
abbrev pub changes : Option Line → Cell → Bool
changes (Some (Begin x change)) cell = touches change cell
changes _ _ = false

-- what the attempt that the line begins leaves in the cell
abbrev pub leaves_of : Option Line → Cell → ℕ
leaves_of (Some (Begin x change)) cell = leaves change cell
leaves_of _ _ = 0

-- whether a repair changes the cell
abbrev pub mends : Repair → Cell → Bool
mends (CutTo g len) (Byte h i) = (g.0 == h) && nat_le len i && nat_lt i (2 ^ 63)
mends (Copy g at span read) (Byte h i) = (g.0 == h) && nat_le at i && nat_lt i (at + span) && nat_lt i (2 ^ 63)
mends (PutAttrs g read) (Attr h k) = g.0 == h
mends (PutNames g reads) (Entry h n) = g.0 == h
mends _ _ = false

-- suc of the number with which the line touches the cell on brick b, or 0
abbrev pub touch_of : Log → (ℕ → ℕ) → ℕ → Cell → Option Line → ℕ
touch_of log number b cell (Some (Ask a y (Apply q) told took)) = if (y.0 == b) && took && changes (log q) cell then suc q else 0
touch_of log number b cell (Some (Ask a y (Mend repair) told took)) = if (y.0 == b) && took && mends repair cell then number a.0 else 0
touch_of _ _ _ _ _ = 0

-- a later number in place of an earlier one
abbrev pub over : ℕ → ℕ → ℕ
over zero was = was
over (suc n) was = suc n

-- the actor of a request
abbrev pub actor_of : Option Line → ℕ
actor_of (Some (Ask a b request told took)) = a.0
actor_of _ = 0

-- the brick of a request
abbrev pub brick_of : Option Line → ℕ
brick_of (Some (Ask a b request told took)) = b.0
brick_of _ = 0

-- the greatest of what the named reads showed: of two entries of one name, that with the greater gfid
abbrev pub most : (ℕ → ℕ) → List (Option ℕ) → ℕ
most shown [] = 0
most shown (None ∷ reads) = most shown reads
most shown (Some r ∷ reads) = max (shown r) (most shown reads)

-- what a line leaves on a cell that it touches; `past` has the values at each earlier position
abbrev pub left_by : Log → (ℕ → ℕ → Cell → ℕ) → Option Line → Cell → ℕ
left_by log past (Some (Ask a y (Apply q) told took)) cell = leaves_of (log q) cell
left_by log past (Some (Ask a y (Mend (Copy g at span read)) told took)) cell = past read (brick_of (log read)) cell
left_by log past (Some (Ask a y (Mend (PutAttrs g read)) told took)) cell = past read (brick_of (log read)) cell
left_by log past (Some (Ask a y (Mend (PutNames g reads)) told took)) cell = most (λ r. past r (brick_of (log r)) cell) reads
left_by _ _ _ _ = 0

-- the kind of the object g that the line makes on b: a Make's, or that of an entry of the merged list
abbrev pub makes : ℕ → Log → (ℕ → ℕ → Cell → ℕ) → ℕ → ℕ → Option Line → ℕ
makes names log past b g (Some (Ask a y (Apply q) told took)) = if (y.0 == b) && took then made g (log q) else 0
makes names log past b g (Some (Ask a y (Mend (PutNames d reads)) told took)) = if (y.0 == b) && took then named_kind names (λ m. most (λ r. past r (brick_of (log r)) (Entry d.0 m)) reads) g else 0
makes _ _ _ _ _ _ = 0

-- what a line leaves where it touches the cell, and else what was there
abbrev pub choose : ℕ → ℕ → ℕ → ℕ
choose zero was new = was
choose (suc n) was new = new

-- the tables of b after the line at t
abbrev pub after : ℕ → Log → (ℕ → ℕ) → ℕ → ℕ → (ℕ → ℕ → Tables) → Option Line → Tables
after names log number t b past line =
    record {
      kinds = λ g. keep ((past t b).kinds g) (if (past t b).kinds (target log line) == 0 then 0 else makes names log (λ u c cell. (past u c).cells cell) b g line);
      cells = λ cell. choose (if fits ((past t b).kinds (object_of cell)) cell then touch_of log number b cell line else 0) ((past t b).cells cell) (left_by log (λ u c d. (past u c).cells d) line cell);
    }

-- the tables at each position up to t
unfoldable pub tables : Beginning → Log → ℕ → ℕ → ℕ → Tables
tables start log zero u b = record { kinds = start.kinds; cells = start.cells }
tables start log (suc t) u b = if nat_le u t then tables start log t u b else after start.names (before log t) (last log t) t b (tables start log t) (log t)

-- what brick b has in the cell at position u, by the lines before t
abbrev pub values : Beginning → Log → ℕ → ℕ → ℕ → Cell → ℕ
values files log t u b cell = (tables files log t u b).cells cell

-- what brick b has in the cell before t
abbrev pub value : Beginning → Log → ℕ → ℕ → Cell → ℕ
value files log t b cell = values files log t t b cell

-- the kind of object g on brick b before t; 0 is no object
abbrev pub kind_at : Beginning → Log → ℕ → ℕ → ℕ → ℕ
kind_at files log t b g = (tables files log t t b).kinds g

-- whether brick b has object g before t
abbrev pub holds : Beginning → Log → ℕ → ℕ → ℕ → Bool
holds files log t b g = not (kind_at files log t b g == 0)

-- the kind that g was made with: that of the opening object, or of the Make two positions below
abbrev pub born : Beginning → Log → ℕ → ℕ
born files log g = keep (files.kinds g) (made g (log (g - 2)))

-- suc of the number with which the line touches the cell, where the brick has the object, of a kind with such cells
abbrev pub touch : Beginning → Log → ℕ → ℕ → Cell → ℕ
touch files log t b cell = if fits (kind_at files log t b (object_of cell)) cell then touch_of (before log t) (last log t) b cell (log t) else 0

-- suc of the number of the last line that touched the cell on b before t, or 0
unfoldable pub stamp : Beginning → Log → ℕ → ℕ → Cell → ℕ
stamp files log zero b cell = 0
stamp files log (suc t) b cell = over (touch files log t b cell) (stamp files log t b cell)

-- the line adds to what x holds against c on the object and kind
abbrev pub named : ℕ → ℕ → ℕ → Kind → Option Line → Bool
named x c g kind (Some (Ask a y (Post q h k missed) told took)) = (y.0 == x) && took && (h.0 == g) && same_kind k kind && member missed c
named _ _ _ _ _ = false

-- how many lines before t added to what x holds against c, where x had the object
unfoldable pub posts : Beginning → Log → ℕ → ℕ → ℕ → ℕ → Kind → ℕ
posts files log zero x c g kind = 0
posts files log (suc t) x c g kind = (if holds files log t x g && named x c g kind (log t) then 1 else 0) + posts files log t x c g kind

-- what a settling at x takes back of what it holds against c
abbrev pub taken : ℕ → ℕ → ℕ → Kind → Option Line → ℕ
taken x c g kind (Some (Ask a y (Settle h k less) told took)) = if (y.0 == x) && took && (h.0 == g) && same_kind k kind then slice_index less.pending c else 0
taken _ _ _ _ _ = 0

-- how much the lines before t took back of what x holds against c
unfoldable pub settled : Beginning → Log → ℕ → ℕ → ℕ → ℕ → Kind → ℕ
settled files log zero x c g kind = 0
settled files log (suc t) x c g kind = (if holds files log t x g then taken x c g kind (log t) else 0) + settled files log t x c g kind

-- what x holds against c before t
abbrev pub pending : Beginning → Log → ℕ → ℕ → ℕ → ℕ → Kind → ℕ
pending files log t x c g kind = posts files log t x c g kind - settled files log t x c g kind

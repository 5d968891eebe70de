-- What the lines of a work show: its path, its looks, and the bricks that did each phase.
use Rattle.std.specs.Prelude.{ℕ, ◌+◌, ◌==◌, ◌&&◌, ◌||◌, Bool, true, false, List, [], ◌∷◌, Option, Some, None, length, take, drop, if◌then◌else◌}
use Rattle.std.specs.BTreeMap.{is_at}
use Rattle.std.specs.Map.{lookup}
use Rattle.afr_base.specs.Bricks.{added_if}
use Rattle.afr_base.specs.declared.ids.Gfid.{Gfid}
use Rattle.afr_choice.specs.Looks.{no_looks, with_look, without_look}
use Rattle.afr_choice.specs.declared.looked.Looked.{Looked}
use Rattle.afr_object.specs.Tables.{Table, copy_at, key_cmp}
use Rattle.afr_object.specs.declared.entry.Entry.{Entry}
use Rattle.afr_object.specs.Object.{Object}
use Rattle.afr_lines.specs.Areas.{object_of_area}
use Rattle.afr_lines.specs.Work.{Work}
use Rattle.afr_lines.specs.declared.answer.Told.{Told}
use Rattle.afr_lines.specs.declared.answer.Told.TheVariants as as_told
use Rattle.afr_lines.specs.declared.line.Line.{Line}
use Rattle.afr_lines.specs.declared.line.Line.TheVariants.{Ask, Begin}
use Rattle.afr_lines.specs.declared.reply.Good.{Good}
use Rattle.afr_lines.specs.declared.reply.Good.TheVariants as good
use Rattle.afr_lines.specs.declared.request.Request.{Request}
use Rattle.afr_lines.specs.declared.request.Request.TheVariants as request
use Rattle.afr_lines.specs.declared.lock.Domain.TheVariants.{Work as WorkDomain}
use Rattle.afr_plan.specs.declared.plan.Plan.{Plan}
use Rattle.afr_model.specs.Tables.{holds, entry_at}
pub use Rattle.afr_object.specs.Tables.{root_entry}

-- ---- answers
-- the brick refused, or couldn't be reached
abbrev pub is_fault : Told → Bool
is_fault as_told.Failed = true
is_fault as_told.NotConnected = true
is_fault other = false

-- whether the brick carried the request out
abbrev pub is_done : Told → Bool
is_done as_told.Done = true
is_done other = false

-- whether the lock was granted
abbrev pub is_granted : Told → Bool
is_granted as_told.Granted = true
is_granted other = false

-- whether another holds a lock in the way
abbrev pub is_held : Told → Bool
is_held (as_told.Held owner) = true
is_held other = false

-- ---- the path
-- where a work stands on its path: at an object, after so many names; or its last name isn't there, or wasn't told
pub data Path : Type 0 where
  At : ℕ → Entry → Path
  NoName : Path
  Untold : Path

-- one more name was read
abbrev pub one_name : Option Entry → Path → Path
one_name (Some entry) (At read object) = At (read + 1) entry
one_name None (At read object) = NoName
one_name entry path = path

-- what a line makes of it
abbrev pub path_after : Plan → Line → List Line → Path → Path
path_after p (Ask a b (request.ReadName g name) as_told.Given took) older path = one_name (entry_at g name (holds p older b.0)) path
path_after p (Ask a b (request.ReadName g name) told took) older path = Untold
path_after p line older path = path

-- how far the lines of a work have read its path
abbrev pub path_by : Plan → Work → Path
path_by p [] = At 0 root_entry
path_by p (x ∷ w) = path_after p x.0 x.1 (path_by p w)

-- ---- the looks
-- what a look's answer shows of brick b
abbrev pub look_shows : ℕ → Told → Looked → Looked
look_shows b (as_told.Seen view) looked = with_look b (Some view) looked
look_shows b as_told.NoObject looked = with_look b None looked
look_shows b told looked = without_look b looked

-- what a line shows of an object: a look its view; a lock on it makes the earlier looks void
abbrev pub looked_after : Gfid → Line → Looked → Looked
looked_after g (Ask a b (request.Look h) told took) looked = if h.0 == g.0 then look_shows b.0 told looked else looked
looked_after g (Ask a b (request.Lock WorkDomain area) told took) looked = if (object_of_area area).0 == g.0 then no_looks else looked
looked_after g line looked = looked

-- what the last looks at an object show
abbrev pub looked_by : Gfid → Work → Looked
looked_by g [] = no_looks
looked_by g (x ∷ w) = looked_after g x.0 (looked_by g w)

-- ---- the bricks that were asked
-- the bricks whose last line that matters passes a test
abbrev pub among : (Line → List ℕ → List ℕ) → Work → List ℕ
among f [] = []
among f (x ∷ w) = f x.0 (among f w)

-- those that were looked at, since the last lock on the object
abbrev pub looking : Gfid → Line → List ℕ → List ℕ
looking g (Ask a b (request.Look h) told took) s = if h.0 == g.0 then added_if true b.0 s else s
looking g (Ask a b (request.Lock WorkDomain area) told took) s = if (object_of_area area).0 == g.0 then [] else s
looking g line s = s

-- those that were asked for the pre-op of the attempt
abbrev pub preparing : Line → List ℕ → List ℕ
preparing (Ask a b (request.Pre g kind) told took) s = added_if true b.0 s
preparing (Begin a change) s = []
preparing line s = s

-- those that did it
abbrev pub prepared : Line → List ℕ → List ℕ
prepared (Ask a b (request.Pre g kind) told took) s = added_if (is_done told) b.0 s
prepared (Begin a change) s = []
prepared line s = s

-- those that were asked for the operation
abbrev pub applying : Line → List ℕ → List ℕ
applying (Ask a b (request.Apply attempt) told took) s = added_if true b.0 s
applying (Begin a change) s = []
applying line s = s

-- those that did it
abbrev pub applied_at : Line → List ℕ → List ℕ
applied_at (Ask a b (request.Apply attempt) told took) s = added_if (is_done told) b.0 s
applied_at (Begin a change) s = []
applied_at line s = s

-- those that were asked for the post-op
abbrev pub posting : Line → List ℕ → List ℕ
posting (Ask a b (request.Post attempt g kind missed) told took) s = added_if true b.0 s
posting (Begin a change) s = []
posting line s = s

-- those that did it
abbrev pub posted : Line → List ℕ → List ℕ
posted (Ask a b (request.Post attempt g kind missed) told took) s = added_if (is_done told) b.0 s
posted (Begin a change) s = []
posted line s = s

-- ---- tests of a whole work
-- some line passes
abbrev pub has : (Line → Bool) → Work → Bool
has test [] = false
has test (x ∷ w) = test x.0 || has test w

-- a line looks at the object
abbrev pub looks_at : Gfid → Line → Bool
looks_at g (Ask a b (request.Look h) told took) = h.0 == g.0
looks_at g line = false

-- a line asks for a lock on the object
abbrev pub locks : Gfid → Line → Bool
locks g (Ask a b (request.Lock WorkDomain area) told took) = (object_of_area area).0 == g.0
locks g line = false

-- whether a line begins an attempt
abbrev pub begins_attempt : Line → Bool
begins_attempt (Begin a change) = true
begins_attempt line = false

-- a read of a name, names, bytes or an attribute was told a fault
abbrev pub refuses_read : Line → Bool
refuses_read (Ask a b (request.ReadName g name) told took) = is_fault told
refuses_read (Ask a b (request.List g) told took) = is_fault told
refuses_read (Ask a b (request.ReadBytes g at len) told took) = is_fault told
refuses_read (Ask a b (request.ReadAttr g key) told took) = is_fault told
refuses_read line = false

-- the number of the work's last attempt
abbrev pub begun_after : Line → List Line → Option ℕ → Option ℕ
begun_after (Begin a change) older was = Some (length older)
begun_after line older was = was

-- the position of the attempt that a work has begun
abbrev pub begun_by : Work → Option ℕ
begun_by [] = None
begun_by (x ∷ w) = begun_after x.0 x.1 (begun_by w)

-- a request, an unlock aside, was told a fault
abbrev pub tells_fault : Line → Bool
tells_fault (Ask a b (request.Unlock domain area) told took) = false
tells_fault (Ask a b request told took) = is_fault told
tells_fault line = false

-- whether a line after the work's first Begin was
abbrev pub is_faulted : Work → Bool
is_faulted [] = false
is_faulted (x ∷ w) = (has begins_attempt w && tells_fault x.0) || is_faulted w

-- ---- what was read
-- what a copy gives to a read of its bytes, its names or an attribute
abbrev pub shown_by : Request → Object → Good
shown_by (request.ReadBytes g at len) o = good.Bytes (take len (drop at o.content))
shown_by (request.List g) o = good.Names o.names
shown_by (request.ReadAttr g key) o = good.Value (lookup (is_at (key_cmp key)) o.attrs)
shown_by request o = good.Done

-- nothing was asked; it wasn't told; or it was given
pub data Reading : Type 0 where
  NotAsked : Reading
  Refused : Reading
  Gave : Good → Reading

-- what was given, by the tables of the brick
abbrev pub given_by : Request → Option Object → Reading
given_by request None = Refused
given_by request (Some o) = Gave (shown_by request o)

-- a read was told that it was given
abbrev pub reading_told : Request → Gfid → Told → Table → Reading
reading_told request g as_told.Given t = given_by request (copy_at g t)
reading_told request g told t = Refused

-- what a line makes of it
abbrev pub reading_after : Plan → Line → List Line → Reading → Reading
reading_after p (Ask a b (request.ReadBytes g at len) told took) older was = reading_told (request.ReadBytes g at len) g told (holds p older b.0)
reading_after p (Ask a b (request.List g) told took) older was = reading_told (request.List g) g told (holds p older b.0)
reading_after p (Ask a b (request.ReadAttr g key) told took) older was = reading_told (request.ReadAttr g key) g told (holds p older b.0)
reading_after p line older was = was

-- what the last read of bytes, names or an attribute showed
abbrev pub reading_by : Plan → Work → Reading
reading_by p [] = NotAsked
reading_by p (x ∷ w) = reading_after p x.0 x.1 (reading_by p w)

-- Which line each entry of the log stands for.
use Rattle.std.specs.Prelude.{ℕ, ◌+◌, ◌<◌, ◌^◌, nat_lt, if◌then◌else◌, not, ◌&&◌, Bool, true, false, List, [], ◌∷◌, map, slice_index_or}
use Rattle.afr_base.specs.Marks.{no_marks, with_marks, zero_marks}
use Rattle.afr_base.specs.declared.ids.Gfid.{Gfid}
use Rattle.afr_base.specs.declared.ids.Kind.{Kind}
use Rattle.afr_base.specs.declared.ids.Kind.TheVariants.{Bytes, Attrs, Names}
use Rattle.afr_base.specs.declared.marks.Marks.{Marks}
use Rattle.afr_base.specs.declared.ids.What.{What}
use Rattle.afr_base.specs.declared.ids.What.TheVariants.{File, Dir}
use Rattle.afr_lines.specs.declared.answer.Told.{Told}
use Rattle.afr_lines.specs.declared.answer.Told.TheVariants as told
use Rattle.afr_lines.specs.declared.line.Event.TheVariants.{Stop}
use Rattle.afr_lines.specs.declared.line.Line.{Line}
use Rattle.afr_lines.specs.declared.line.Line.TheVariants.{Ask, Event, HealBegin, HealEnd}
use Rattle.afr_lines.specs.declared.request.Area.TheVariants.{Range, Name}
use Rattle.afr_lines.specs.declared.request.Request.{Request}
use Rattle.afr_lines.specs.declared.request.Request.TheVariants as request
use Rattle.afr_object.specs.declared.change.Repair.TheVariants as repair
use Rattle.afr_log.specs.Log.{asked_line, reply_in}
use Rattle.afr_log.specs.declared.id.Id.{Id}
use Rattle.afr_log.specs.declared.packed.By.{By}
use Rattle.afr_log.specs.declared.packed.Short.{Short}
use Rattle.afr_log.specs.declared.packed.Short.TheVariants as short
use Rattle.afr_log.specs.declared.packed.Packed.{Packed}
use Rattle.afr_log.specs.declared.packed.Packed.TheVariants as entry
use Rattle.afr_log.specs.declared.small.SmallMarks.{SmallMarks}

-- the gfid that a short one stands for: as it is below 2 ^ 63, and from there on those from 2 ^ 64 on
abbrev pub gfid_in : Id → Gfid
gfid_in id = record { 0 = if nat_lt id.0 (2 ^ 63) then id.0 else id.0 + 2 ^ 63 }

-- the answer that a short one stands for
abbrev pub told_in : Short → Told
told_in short.Granted = told.Granted
told_in (short.Held owner) = told.Held owner
told_in (short.CleanFile len) = told.Seen (record { what = File; len = len; marks = no_marks })
told_in (short.CleanDir len) = told.Seen (record { what = Dir; len = len; marks = no_marks })
told_in short.Done = told.Done
told_in short.Given = told.Given
told_in short.NoObject = told.NoObject
told_in short.NotConnected = told.NotConnected
told_in short.Failed = told.Failed

-- what a look tells that shows numbers of one kind alone
abbrev pub marked : What → ℕ → Kind → Marks → Told
marked what len kind marks = told.Seen (record { what = what; len = len; marks = with_marks kind marks no_marks })

-- small numbers as they are
abbrev pub marks_in : SmallMarks → Marks
marks_in small = record { dirty = small.dirty; pending = small.pending }

-- what a look at a file tells that shows numbers of both its kinds
abbrev pub file_marked : ℕ → Marks → Marks → Told
file_marked len bytes attrs = told.Seen (record { what = File; len = len; marks = record { bytes = bytes; attrs = attrs; names = zero_marks } })

-- and a look at a directory
abbrev pub dir_marked : ℕ → Marks → Marks → Told
dir_marked len names attrs = told.Seen (record { what = Dir; len = len; marks = record { bytes = zero_marks; attrs = attrs; names = names } })

-- the line of a request
abbrev pub ask_by : By → Request → Line
ask_by by asked = Ask by.actor by.brick asked (told_in by.told) by.took

-- a line that no log shows: it only stands where no line is kept
abbrev pub no_line : Line
no_line = Event (Stop (record { 0 = 0 }))

-- the line of an entry, where these lines are kept
abbrev pub line_of : List Line → Packed → Line
line_of kept (entry.LockRange domain by id from to) = ask_by by (request.Lock domain (Range (gfid_in id) from to))
line_of kept (entry.LockName domain by id name) = ask_by by (request.Lock domain (Name (gfid_in id) name))
line_of kept (entry.UnlockRange domain by id from to) = ask_by by (request.Unlock domain (Range (gfid_in id) from to))
line_of kept (entry.UnlockName domain by id name) = ask_by by (request.Unlock domain (Name (gfid_in id) name))
line_of kept (entry.Look by id) = ask_by by (request.Look (gfid_in id))
line_of kept (entry.FileBytes brick actor len id marks) = Ask actor brick (request.Look (gfid_in id)) (marked File len Bytes marks) true
line_of kept (entry.FileAttrs brick actor len id marks) = Ask actor brick (request.Look (gfid_in id)) (marked File len Attrs marks) true
line_of kept (entry.FileBoth brick actor len id bytes attrs) = Ask actor brick (request.Look (gfid_in id)) (file_marked len (marks_in bytes) (marks_in attrs)) true
line_of kept (entry.DirNames brick actor len id marks) = Ask actor brick (request.Look (gfid_in id)) (marked Dir len Names marks) true
line_of kept (entry.DirAttrs brick actor len id marks) = Ask actor brick (request.Look (gfid_in id)) (marked Dir len Attrs marks) true
line_of kept (entry.DirBoth brick actor len id names attrs) = Ask actor brick (request.Look (gfid_in id)) (dir_marked len (marks_in names) (marks_in attrs)) true
line_of kept (entry.ReadBytes by id at len) = ask_by by (request.ReadBytes (gfid_in id) at len)
line_of kept (entry.ReadName by id name) = ask_by by (request.ReadName (gfid_in id) name)
line_of kept (entry.List by id) = ask_by by (request.List (gfid_in id))
line_of kept (entry.ReadAttr by id key) = ask_by by (request.ReadAttr (gfid_in id) key)
line_of kept (entry.ReadAttrs by id) = ask_by by (request.ReadAttrs (gfid_in id))
line_of kept (entry.Index by) = ask_by by request.Index
line_of kept (entry.Pre kind by id) = ask_by by (request.Pre (gfid_in id) kind)
line_of kept (entry.Apply by attempt) = ask_by by (request.Apply attempt)
line_of kept (entry.Post kind missed by id attempt) = ask_by by (request.Post attempt (gfid_in id) kind missed)
line_of kept (entry.CutTo by id len) = ask_by by (request.Mend (repair.CutTo (gfid_in id) len))
line_of kept (entry.Copy by id at span read) = ask_by by (request.Mend (repair.Copy (gfid_in id) at span read))
line_of kept (entry.PutAttrs by id read) = ask_by by (request.Mend (repair.PutAttrs (gfid_in id) read))
line_of kept (entry.Settled kind by id less) = asked_line by (request.Settle (gfid_in id) kind less) told.Done
line_of kept (entry.HealBegun kind actor id) = HealBegin actor (gfid_in id) kind
line_of kept (entry.HealEnded kind actor end id) = HealEnd actor (gfid_in id) kind (reply_in end)
line_of kept (entry.Kept place) = slice_index_or kept place no_line

-- which entries are locks, unlocks, parts of an attempt, repairs and settlings; what is left is read, or shows numbers, or is no request
abbrev pub is_lock : Packed → Bool
is_lock (entry.LockRange domain by id from to) = true
is_lock (entry.LockName domain by id name) = true
is_lock packed = false

abbrev pub is_unlock : Packed → Bool
is_unlock (entry.UnlockRange domain by id from to) = true
is_unlock (entry.UnlockName domain by id name) = true
is_unlock packed = false

abbrev pub is_change : Packed → Bool
is_change (entry.Pre kind by id) = true
is_change (entry.Apply by attempt) = true
is_change (entry.Post kind missed by id attempt) = true
is_change packed = false

abbrev pub is_mend : Packed → Bool
is_mend (entry.CutTo by id len) = true
is_mend (entry.Copy by id at span read) = true
is_mend (entry.PutAttrs by id read) = true
is_mend packed = false

abbrev pub is_settled : Packed → Bool
is_settled (entry.Settled kind by id less) = true
is_settled packed = false

abbrev pub is_both : Packed → Bool
is_both (entry.FileBoth brick actor len id bytes attrs) = true
is_both (entry.DirBoth brick actor len id names attrs) = true
is_both packed = false

abbrev pub is_dir_or_both : Packed → Bool
is_dir_or_both (entry.DirNames brick actor len id marks) = true
is_dir_or_both (entry.DirAttrs brick actor len id marks) = true
is_dir_or_both packed = is_both packed

abbrev pub is_marked : Packed → Bool
is_marked (entry.FileBytes brick actor len id marks) = true
is_marked (entry.FileAttrs brick actor len id marks) = true
is_marked packed = is_dir_or_both packed

-- which entries are no requests
abbrev pub is_unasked : Packed → Bool
is_unasked (entry.Kept place) = true
is_unasked (entry.HealBegun kind actor id) = true
is_unasked (entry.HealEnded kind actor end id) = true
is_unasked packed = false

abbrev pub is_read : Packed → Bool
is_read packed = not (is_lock packed) && not (is_unlock packed) && not (is_change packed) && not (is_mend packed) && not (is_settled packed) && not (is_marked packed) && not (is_unasked packed)

-- an entry that names a kept line names one of this many
abbrev pub IsThere : ℕ → Packed → Type 0
IsThere count (entry.Kept place) = place < count
IsThere count packed = Unit {0}

-- each entry that names a kept line names one of this many
abbrev pub AreThere : ℕ → List Packed → Type 0
AreThere count [] = Unit {0}
AreThere count (packed ∷ more) = IsThere count packed × AreThere count more

-- the lines of all entries
abbrev pub lines_in : List Line → List Packed → List Line
lines_in kept packed = map (line_of kept) packed

-- What the lines of a work show of the removal of a directory, and what its bricks may tell.
use Rattle.std.specs.Prelude.{◌≡◌, ℕ, ◌-◌, ◌<◌, ◌==◌, Bool, true, false, List, [], Some, None, length}
use Rattle.afr_base.specs.Bricks.{member, IsIn}
use Rattle.afr_base.specs.Majority.{is_majority}
use Rattle.afr_base.specs.declared.ids.Gfid.{Gfid}
use Rattle.afr_base.specs.declared.ids.Kind.TheVariants.{Names}
use Rattle.afr_base.specs.declared.ids.NameId.{NameId}
use Rattle.afr_base.specs.declared.ids.What.TheVariants.{Dir}
use Rattle.afr_choice.specs.Looks.{no_looks}
use Rattle.afr_discipline.specs.Notes.{asked_at}
use Rattle.afr_discipline.specs.declared.register.Register.{Register}
use Rattle.afr_discipline.specs.declared.register.Step.TheVariants.{Pres, Applies, Posts}
use Rattle.afr_lines.specs.Areas.{area_for}
use Rattle.afr_lines.specs.Overlap.{same_area}
use Rattle.afr_lines.specs.Told.{told_by}
use Rattle.afr_lines.specs.Work.{Work}
use Rattle.afr_lines.specs.declared.answer.Answer.{Answer}
use Rattle.afr_lines.specs.declared.line.Line.{Line}
use Rattle.afr_lines.specs.declared.line.Line.TheVariants.{Ask}
use Rattle.afr_lines.specs.declared.reply.Good.TheVariants as good
use Rattle.afr_lines.specs.declared.request.Area.{Area}
use Rattle.afr_lines.specs.declared.request.Request.{Request}
use Rattle.afr_lines.specs.declared.request.Request.TheVariants.{Unlock}
use Rattle.afr_object.specs.Tables.{object_of}
use Rattle.afr_object.specs.declared.change.Change.{Change}
use Rattle.afr_object.specs.declared.entry.Entry.{Entry}
use Rattle.afr_lines.specs.declared.lock.Domain.TheVariants.{Work as WorkDomain}
use Rattle.afr_plan.specs.declared.command.Command.TheVariants as command
use Rattle.afr_plan.specs.declared.plan.Plan.{Plan}
use Rattle.afr_model.specs.Answered.{IsAnswered}
use Rattle.afr_model.specs.Commands.{area_on, change_named}
use Rattle.afr_model.specs.Refusals.{both_locked, by_views}
use Rattle.afr_model.specs.Showing.{At, Gave, NotAsked, among, applied_at, applying, begins_attempt, begun_by, has, locks, looked_by, looking, path_by, posted, posting, prepared, preparing, reading_by, refuses_read}
use Rattle.afr_model.specs.Skipped.{IsChildLocked, IsLooked, is_whole}
use Rattle.afr_model.specs.Standing.{asking, asks_name, change_by, getting, holding, locks_area, place_by, suffices, up_to}
use Rattle.afr_law_client.specs.Read.Lines.{CanAnswer}
use Rattle.afr_client_entry.specs.Removals.Removal.{Removing, reply_of, whole}
use Rattle.afr_client_entry.specs.declared.removing.child.Child.{Child}
use Rattle.afr_client_entry.specs.declared.removing.stage.RemovalEnding.{RemovalEnding}
use Rattle.afr_client_entry.specs.declared.removing.stage.RemovalStage.{RemovalStage}
use Rattle.afr_client_entry.specs.declared.removing.stage.RemovalStage.TheVariants.{Locking, Looking, Listing, Beginning, Preparing, Applying, Posting, Closing}
use Rattle.afr_law_client.specs.Fits.{AreExcused, Fits, FitsPhase, IsCalm, missed_by}
use Rattle.afr_law_client.specs.Tells.{AreAllowed, AreIdle, OnPre, lookups_allow}

-- a directory, as its name would give it
abbrev pub dir_at : Gfid → Entry
dir_at g = record { gfid = g; what = Dir }

-- a line releases a Work lock, or tries to
abbrev pub releases : Line → Bool
releases (Ask a b (Unlock WorkDomain area) told took) = true
releases line = false

-- the register's locks of the name and of the child are those of the lines, which have released none
pub record AreHeld (name child : Area) (r : Register) (w : Work) : Type 0 where
  pub of_name : (b : ℕ) → member r.held b ≡ member (among (holding name) w) b
  pub of_child : (b : ℕ) → member r.second_held b ≡ member (among (holding child) w) b
  pub kept : has releases w ≡ false

-- the removal is of the last name of the path, which leads from its directory to another one
pub record IsOfPath (path : List NameId) (change : Change) (child : Gfid) : Type 0 where
  pub some : 0 < length path
  pub area : area_on (object_of change) (command.Rmdir path) ≡ Some (area_for change)
  pub named : (at : ℕ) → change_named (object_of change) at (command.Rmdir path) ≡ Some change
  pub apart : (child.0 == (object_of change).0) ≡ false

-- the sets of the register are the folds of the lines
pub record AreSets (r : Register) (w : Work) : Type 0 where
  pub prepared : r.pre ≡ among prepared w
  pub applied : r.done ≡ among applied_at w
  pub posted : r.post ≡ among posted w
  pub number : r.begun ≡ begun_by w

-- where the path has led: to the directory, and with its last name to the child
pub record HasLed (p : Plan) (path : List NameId) (dir child : Gfid) (w : Work) : Type 0 where
  pub place : place_by p (command.Rmdir path) w ≡ At (length path - 1) (dir_at dir)
  pub leads : path_by p w ≡ At (length path) (dir_at child)

-- what the lines show from the read of the name to the first unlock: the name leads to the child, it is locked, and its directory was looked at
pub record RemovalGoes (p : Plan) (path : List NameId) (change : Change) (r : Register) (child : Gfid) (w : Work) : Type 0 where
  pub shape : r.shape ≡ p.shape
  pub words : IsOfPath path change child
  pub led : HasLed p path (object_of change) child w
  pub locked : AreAllowed p.shape change w
  pub looks : r.looked ≡ looked_by (object_of change) w
  pub allows : lookups_allow p.shape change r.looked ≡ true
  pub sets : AreSets r w
  pub looked : IsLooked p.shape.n w
  pub alone : (area : Area) → is_whole area ≡ false → same_area area (area_for change) ≡ false → has (locks_area area) w ≡ false
  pub excused : AreExcused w
  pub calm : IsCalm w

-- no attempt was begun, nothing was listed, and no read was refused
pub record IsOpen (p : Plan) (w : Work) : Type 0 where
  pub idle : AreIdle w
  pub unread : reading_by p w ≡ NotAsked
  pub unrefused : has refuses_read w ≡ false

-- the bricks that hold a lock at the end of some lines
abbrev pub held_in : Area → Work → ℕ → Bool
held_in area w b = member (among (holding area) w) b

-- while the child is locked: each brick that wasn't asked still holds the name's lock, if it did when the name was read
pub record OnLocks (p : Plan) (change : Change) (r : Register) (c : Child) (w : Work) : Type 0 where
  pub opened : IsOpen p w
  pub holds : AreHeld (area_for change) (whole c) r w
  pub asked : c.lock_asked ≡ among (asking (whole c)) w
  pub left : (b : ℕ) → held_in (area_for change) (up_to asks_name w) b ≡ true → member (among (asking (whole c)) w) b ≡ false → held_in (area_for change) w b ≡ true
  pub fewer : (b : ℕ) → held_in (area_for change) w b ≡ true → held_in (area_for change) (up_to asks_name w) b ≡ true
  pub unseen : c.looked ≡ no_looks

-- while it is looked at: each brick that held both locks after the child's last one, and wasn't looked at, still holds them
pub record OnLooks (p : Plan) (change : Change) (r : Register) (c : Child) (w : Work) : Type 0 where
  pub opened : IsOpen p w
  pub holds : AreHeld (area_for change) (whole c) r w
  pub locked : has (locks c.gfid) w ≡ true
  pub all : (b : ℕ) → held_in (area_for change) (up_to asks_name w) b ≡ true → member (among (asking (whole c)) w) b ≡ true
  pub fewer : (b : ℕ) → held_in (area_for change) w b ≡ true → held_in (area_for change) (up_to asks_name w) b ≡ true
  pub majority : is_majority p.shape.n (among (getting (whole c)) w) ≡ true
  pub shows : c.looked ≡ looked_by c.gfid w
  pub at : c.look_asked ≡ among (looking c.gfid) w
  pub left : (b : ℕ) → held_in (area_for change) (up_to (locks_area (whole c)) w) b ≡ true → held_in (whole c) (up_to (locks_area (whole c)) w) b ≡ true → member (among (looking c.gfid) w) b ≡ false
      → (held_in (area_for change) w b ≡ true) × (held_in (whole c) w b ≡ true)

-- the holders of the directory where the name and the child were locked at the child's last line
abbrev pub takers_by : Change → Gfid → Work → List ℕ
takers_by change child w = both_locked (Some (area_for change)) (object_of change) child w

-- the child was locked and looked at as it must be, and the locks and looks refuse nothing; whoever doesn't take part missed something
pub record IsJudged (p : Plan) (change : Change) (c : Child) (w : Work) : Type 0 where
  pub child : IsChildLocked p (object_of change) c.gfid (area_for change) w
  pub majority : is_majority p.shape.n (among (getting (whole c)) w) ≡ true
  pub take : IsIn (takers_by change c.gfid w) c.takers
  pub taken : IsIn c.takers (takers_by change c.gfid w)
  pub enough : suffices p.shape Names (looked_by (object_of change) w) (takers_by change c.gfid w) ≡ true
  pub shows : c.looked ≡ looked_by c.gfid w
  pub passes : by_views p.shape Names (looked_by c.gfid w) ≡ None
  pub others : (b : ℕ) → b < p.shape.n → member c.takers b ≡ false → member (missed_by (object_of change) w) b ≡ true

-- the child was listed, and has no names
pub record IsEmpty (p : Plan) (w : Work) : Type 0 where
  pub empty : reading_by p w ≡ Gave (good.Names [])
  pub unrefused : has refuses_read w ≡ false

-- an attempt of the change was begun
pub record IsBegun (change : Change) (w : Work) : Type 0 where
  pub began : has begins_attempt w ≡ true
  pub attempt : ℕ
  pub number : begun_by w ≡ Some attempt
  pub is_change : change_by w ≡ Some change

-- while the operation is asked
pub record OnApply (takers asked : List ℕ) (w : Work) : Type 0 where
  pub pre_all : IsIn takers (among preparing w)
  pub apply : asked ≡ among applying w
  pub no_post : among posting w ≡ []
  pub no_post_did : among posted w ≡ []

-- while the post-op is asked
pub record OnPost (p : Plan) (change : Change) (takers asked : List ℕ) (w : Work) : Type 0 where
  pub pre_all : IsIn takers (among preparing w)
  pub apply_all : IsIn (among prepared w) (among applying w)
  pub enough : suffices p.shape Names (looked_by (object_of change) w) (among applied_at w) ≡ true
  pub post : asked ≡ among posting w

-- an attempt goes on, of a child that is locked and empty
pub record Tries (p : Plan) (change : Change) (c : Child) (w : Work) : Type 0 where
  pub empty : IsEmpty p w
  pub judged : IsJudged p change c w
  pub begun : IsBegun change w

-- only unlocks are left: the work is answered as it must be
pub record OnlyUnlocksLeft (p : Plan) (path : List NameId) (dir child : Gfid) (r : Register) (why : RemovalEnding) (w : Work) : Type 0 where
  pub led : HasLed p path dir child w
  pub answered : IsAnswered p (command.Rmdir path) w (reply_of why r)

-- what the lines show at each stage
abbrev pub During : RemovalStage → Plan → List NameId → Removing → Work → Type 0
During Locking p path m w = RemovalGoes p path m.change m.register m.child.gfid w × OnLocks p m.change m.register m.child w
During Looking p path m w = RemovalGoes p path m.change m.register m.child.gfid w × OnLooks p m.change m.register m.child w
During Listing p path m w = RemovalGoes p path m.change m.register m.child.gfid w × IsOpen p w × IsJudged p m.change m.child w
During Beginning p path m w = RemovalGoes p path m.change m.register m.child.gfid w × AreIdle w × IsEmpty p w × IsJudged p m.change m.child w
During Preparing p path m w = RemovalGoes p path m.change m.register m.child.gfid w × Tries p m.change m.child w × OnPre (asked_at m.register Pres) w
During Applying p path m w = RemovalGoes p path m.change m.register m.child.gfid w × Tries p m.change m.child w × OnApply m.child.takers (asked_at m.register Applies) w
During Posting p path m w = RemovalGoes p path m.change m.register m.child.gfid w × Tries p m.change m.child w × OnPost p m.change m.child.takers (asked_at m.register Posts) w
During (Closing why) p path m w = OnlyUnlocksLeft p path (object_of m.change) m.child.gfid m.register why w

-- the lines of a work show where its removal stands
abbrev pub RemovalTells : Plan → List NameId → Removing → Work → Type 0
RemovalTells p path m w = During m.stage p path m w

-- a brick does what it was asked, or misses it
pub record CanTell (request : Request) (heard : Answer) : Type 0 where
  pub fits : Fits request (told_by heard)
  pub phase : FitsPhase request (told_by heard)

-- what a brick may answer: what its tables show where the child is listed
abbrev pub CanHear : RemovalStage → Plan → ℕ → Request → List Line → Answer → Type 0
CanHear Listing p b request log heard = CanAnswer p b request log heard
CanHear stage p b request log heard = CanTell request heard

-- A rename: each of its lines is about what its two paths name, and its reply has its cause.
use Rattle.std.specs.Prelude.{◌≡◌, ◌⊎◌, ℕ, ◌==◌, ◌<◌, not, Bool, true, false, List, [], ◌∷◌, Option, Some, None, length, if◌then◌else◌}
use Rattle.std.specs.Option.{option_map}
use Rattle.afr_base.specs.Bricks.{member}
use Rattle.afr_base.specs.Majority.{is_majority}
use Rattle.afr_base.specs.declared.ids.Gfid.{Gfid}
use Rattle.afr_base.specs.declared.ids.NameId.{NameId}
use Rattle.afr_base.specs.declared.ids.What.TheVariants.{File}
use Rattle.afr_base.specs.declared.ids.Kind.TheVariants.{Names}
use Rattle.afr_object.specs.Tables.{is_dir}
use Rattle.afr_object.specs.declared.change.Change.{Change}
use Rattle.afr_object.specs.declared.change.Change.TheVariants as change
use Rattle.afr_object.specs.declared.entry.Entry.{Entry}
use Rattle.afr_lines.specs.Work.{Work}
use Rattle.afr_lines.specs.declared.line.Line.{Line}
use Rattle.afr_lines.specs.declared.line.Line.TheVariants.{Begin, End}
use Rattle.afr_lines.specs.declared.reply.Good.TheVariants as good
use Rattle.afr_lines.specs.declared.reply.Reply.{Reply}
use Rattle.afr_lines.specs.declared.reply.Reply.TheVariants as reply
use Rattle.afr_lines.specs.declared.request.Area.{Area}
use Rattle.afr_plan.specs.declared.command.Command.{Command}
use Rattle.afr_plan.specs.declared.command.Command.TheVariants as command
use Rattle.afr_plan.specs.declared.plan.Plan.{Plan}
use Rattle.afr_model.specs.Answered.{IsAbout, is_by_views}
use Rattle.afr_model.specs.Commands.{last_of, steps_of}
use Rattle.afr_model.specs.Keeping.{KeepsTo}
use Rattle.afr_model.specs.Refusals.{by_area, refusal}
use Rattle.afr_model.specs.Showing.{Path, At, path_by, among, begins_attempt, has, is_faulted, posted, refuses_read, tells_fault}
use Rattle.afr_model.specs.Skipped.{AsksAll, IsLooked, SkipsNothing}
use Rattle.afr_model.specs.Standing.{area_here, asking, asks_name, looks_here, place_by}
use Rattle.afr_model.specs.Parts.{Part, Walks, Makes, Removes, part_at, the_walk, the_make, the_removal, first_part, second_part}

-- ---- what its words name
-- the first path has led to this file
abbrev pub HasFound : Plan → List NameId → Gfid → Work → Type 0
HasFound p from g w = path_by p (the_walk from w) ≡ At (length from) (record { gfid = g; what = File })

-- the new name: the second path's last one, in the directory that the names before it lead to, for the file that the first path has led to
pub record MakesLink (p : Plan) (from to : List NameId) (w : Work) (begun : Change) : Type 0 where
  pub file : Gfid
  pub found : HasFound p from file w
  pub dir : Entry
  pub led : place_by p (command.Create to) (the_make from w) ≡ At (steps_of (command.Create to)) dir
  pub named : option_map (λ name. change.Make dir.gfid name file File) (last_of to) ≡ Some begun

-- the making is closed at a majority, and only then the old name is looked for
abbrev pub IsMade : Plan → List NameId → Work → Type 0
IsMade p from w = is_majority p.shape.n (among posted (the_make from w)) ≡ true

-- the old name leads to the file still
pub record StillLeads (p : Plan) (from : List NameId) (w : Work) : Type 0 where
  pub file : Gfid
  pub found : HasFound p from file w
  pub still : path_by p (the_removal from w) ≡ At (length from) (record { gfid = file; what = File })

-- ---- each line
-- what a line of a part keeps to
abbrev pub KeepsToPart : Part → Plan → List NameId → List NameId → Line → ℕ → Work → Type 0
KeepsToPart Walks p from to line at w = KeepsTo p (command.Stat from) line at (the_walk from w)
KeepsToPart Makes p from to (Begin a begun) at w = (has begins_attempt (the_make from w) ≡ false) × MakesLink p from to w begun
KeepsToPart Makes p from to line at w = KeepsTo p (command.Create to) line at (the_make from w)
KeepsToPart Removes p from to line at w = KeepsTo p (command.Unlink from) line at (the_removal from w)

-- a line of a rename keeps to its two paths
abbrev pub KeepsToRename : Plan → List NameId → List NameId → Line → ℕ → Work → Type 0
KeepsToRename p from to line at w = KeepsToPart (part_at from line w) p from to line at w

-- what begins the removal
abbrev pub BeginsRemoval : Plan → List NameId → Line → Work → Type 0
BeginsRemoval p from (Begin a begun) w = StillLeads p from w
BeginsRemoval p from line w = Unit {0}

-- a line of a part is about what the words name there
abbrev pub IsOfPart : Part → Plan → List NameId → List NameId → Line → Work → Type 0
IsOfPart Walks p from to line w = IsAbout p (command.Stat from) line (the_walk from w)
IsOfPart Makes p from to line w = ((file : Gfid) × HasFound p from file w) × IsAbout p (command.Create to) line (the_make from w)
IsOfPart Removes p from to line w = IsMade p from w × BeginsRemoval p from line w × IsAbout p (command.Unlink from) line (the_removal from w)

-- ---- its reply
-- why it can't go on before its second transaction, or nothing
abbrev pub refusal_at : Path → Plan → List NameId → List NameId → Work → Option Reply
refusal_at (At read object) p from to w =
    if read == length from then (if is_dir object.what then Some reply.IsDir else refusal p (command.Create to) (the_make from w))
    else refusal p (command.Stat from) (the_walk from w)
refusal_at path p from to w = refusal p (command.Stat from) (the_walk from w)

-- the same, by where the first path stands
abbrev pub rename_refusal : Plan → List NameId → List NameId → Work → Option Reply
rename_refusal p from to w = refusal_at (path_by p (the_walk from w)) p from to w

-- the answer by the post-ops of both attempts; without the first there is none
abbrev pub by_halves : Plan → List NameId → Work → Option Reply
by_halves p from w =
    if not (has begins_attempt (the_make from w)) then None
    else (if not (is_majority p.shape.n (among posted (the_make from w))) then Some reply.Failed
    else (if is_majority p.shape.n (among posted (the_removal from w)) then Some (reply.Ok good.Done) else Some reply.Half))

-- the refusal, or what the attempts answer
abbrev pub or_halves : Option Reply → Option Reply → Option Reply
or_halves (Some said) next = Some said
or_halves None next = next

-- the reply of a rename
abbrev pub rename_reply : Plan → List NameId → List NameId → Work → Option Reply
rename_reply p from to w = or_halves (rename_refusal p from to w) (by_halves p from w)

-- where it stands before its second transaction: the command whose views refuse it, and that command's lines
abbrev pub asks_at : Path → List NameId → List NameId → Command
asks_at (At read object) from to = if read == length from then command.Create to else command.Stat from
asks_at path from to = command.Stat from

-- and the lines of that command
abbrev pub asked_lines : Path → List NameId → Work → Work
asked_lines (At read object) from w = if read == length from then the_make from w else the_walk from w
asked_lines path from w = the_walk from w

-- each brick was asked for what that command asks where it stands
abbrev pub AsksAllOf : Plan → Command → Work → Type 0
AsksAllOf p c w = AsksAll p.shape.n (looks_here c (place_by p c w)) (area_here c (place_by p c w)) w

-- the lock of the old name
abbrev pub old_area : Plan → List NameId → Work → Option Area
old_area p from w = area_here (command.Unlink from) (place_by p (command.Unlink from) (the_removal from w))

-- there is a reply
abbrev pub is_some_reply : Option Reply → Bool
is_some_reply None = false
is_some_reply (Some said) = true

-- why a rename stays half: a request of its second transaction was told a fault, its views refuse it, or the old name leads elsewhere
pub data IsHalved (p : Plan) (from : List NameId) (w : Work) : Type 0 where
  ByFault : has tells_fault (second_part w) ≡ true → IsHalved p from w
  ByViews : is_some_reply (by_area p.shape Names (old_area p from w) (the_removal from w)) ≡ true → IsHalved p from w
  ByName : (StillLeads p from w → ⊥) → IsHalved p from w

-- after a making that was closed at a majority the old name's lock was asked of every brick, and nothing of an unlink was skipped
pub record IsLookedFor (p : Plan) (from : List NameId) (w : Work) : Type 0 where
  pub area : Area
  pub of : old_area p from w ≡ Some area
  pub all : (b : ℕ) → b < p.shape.n → member (among (asking area) (the_removal from w)) b ≡ true
  pub whole : SkipsNothing p (command.Unlink from) (the_removal from w)

-- the lines after the last name
abbrev pub since_name : Work → Work
since_name [] = []
since_name (x ∷ w) = if asks_name x.0 then [] else x ∷ since_name w

-- the looks before a name, since the name before it, are at every brick, where they are at an object that wasn't locked
abbrev pub LegEnds : Bool → ℕ → Work → Type 0
LegEnds true n w = IsLooked n (since_name w)
LegEnds false n w = Unit {0}

-- so it is before each name
abbrev pub AreLegs : ℕ → Work → Type 0
AreLegs n [] = Unit {0}
AreLegs n (x ∷ w) = LegEnds (asks_name x.0) n w × AreLegs n w

-- a rename has ended: its reply has its cause, and nothing was skipped
pub record IsRenamed (p : Plan) (from to : List NameId) (w : Work) (said : Reply) : Type 0 where
  pub caused : rename_reply p from to w ≡ Some said
  pub asked : (refused : Reply) → rename_refusal p from to w ≡ Some refused → is_by_views refused ≡ true
      → AsksAllOf p (asks_at (path_by p (the_walk from w)) from to) (asked_lines (path_by p (the_walk from w)) from w)
  pub failed : said ≡ reply.Failed → ((has begins_attempt (the_make from w) ≡ true) × (is_faulted (the_make from w) ≡ true)) ⊎ (has refuses_read (first_part w) ≡ true)
  pub halved : said ≡ reply.Half → IsHalved p from w
  pub undisturbed : has begins_attempt w ≡ true → is_faulted w ≡ false → (said ≡ reply.Ok good.Done) ⊎ ((said ≡ reply.Half) × (has begins_attempt (second_part w) ≡ false))
  pub legs : AreLegs p.shape.n (first_part w)
  pub last_leg : IsLooked p.shape.n (since_name (first_part w))
  pub walked : SkipsNothing p (command.Stat from) (the_walk from w)
  pub made : SkipsNothing p (command.Create to) (the_make from w)
  pub looked_for : IsMade p from w → IsLookedFor p from w

-- a line of a rename is about what its words name
abbrev pub IsOfRename : Plan → List NameId → List NameId → Line → Work → Type 0
IsOfRename p from to (End a said) w = IsRenamed p from to w said
IsOfRename p from to line w = IsOfPart (part_at from line w) p from to line w

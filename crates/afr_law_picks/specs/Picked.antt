-- By which copy a client's work reads next: one that the read rule picked by the last looks of its lines.
use Rattle.std.specs.Prelude.{◌≡◌, ℕ, true, []}
use Rattle.afr_base.specs.declared.ids.Gfid.{Gfid}
use Rattle.afr_base.specs.declared.ids.Kind.{Kind}
use Rattle.afr_base.specs.declared.ids.Kind.TheVariants.{Names}
use Rattle.afr_choice.specs.Looks.{view_at}
use Rattle.afr_client_entry.specs.declared.stage.EntryStage.{EntryStage}
use Rattle.afr_client_entry.specs.declared.stage.EntryStage.TheVariants as entering
use Rattle.afr_client_entry.specs.declared.stage.Found.{Found}
use Rattle.afr_client_entry.specs.declared.stage.Found.TheVariants.{Unread}
use Rattle.afr_client_read.specs.Job.{kind_of}
use Rattle.afr_client_read.specs.declared.job.LookupJob.{LookupJob}
use Rattle.afr_client_read.specs.declared.stage.LookupStage.{LookupStage}
use Rattle.afr_client_read.specs.declared.stage.LookupStage.TheVariants as reading
use Rattle.afr_client_write.specs.declared.stage.WriteStage.{WriteStage}
use Rattle.afr_client_write.specs.declared.stage.WriteStage.TheVariants as writing
use Rattle.afr_lines.specs.Work.{Work as Lines}
use Rattle.afr_lines.specs.declared.reply.Good.TheVariants.{Stat}
use Rattle.afr_lines.specs.declared.reply.Reply.{Reply}
use Rattle.afr_lines.specs.declared.reply.Reply.TheVariants.{Ok}
use Rattle.afr_model.specs.Chosen.{Picks, candidates_of}
use Rattle.afr_model.specs.Commands.{kind_looked}
use Rattle.afr_model.specs.Moved.{len_in}
use Rattle.afr_model.specs.Showing.{among, looked_by}
use Rattle.afr_plan.specs.declared.command.Command.TheVariants as command
use Rattle.afr_plan.specs.declared.plan.Plan.{Plan}
use Rattle.afr_law_picks.specs.Readings.{looked_here}
use Rattle.afr_client_entry.specs.Removals.Removal.{Removing}
use Rattle.afr_client_entry.specs.declared.removing.stage.RemovalStage.{RemovalStage}
use Rattle.afr_client_entry.specs.declared.removing.stage.RemovalStage.TheVariants.{Listing}
use Rattle.afr_client_transaction.specs.Progress.{TransactionProgress, is_beginning}
use Rattle.afr_client_walk.specs.declared.walk.Walk.{Walk}
use Rattle.afr_client_walk.specs.declared.walk.WalkStep.{WalkStep}
use Rattle.afr_client_walk.specs.declared.walk.WalkStep.TheVariants.{Arrived, Looking, Naming, Stopped}
use Rattle.afr_client.specs.declared.work.WorkMachine.{WorkMachine}
use Rattle.afr_model.specs.Parts.{the_make, the_removal}
use Rattle.afr_client_entry.specs.declared.renaming.paths.Paths.{Paths}
use Rattle.afr_client_entry.specs.declared.renaming.stage.RenameStage.{RenameStage}
use Rattle.afr_client_entry.specs.declared.renaming.stage.RenameStage.TheVariants as renaming
use Rattle.afr_client.specs.declared.work.WorkMachine.TheVariants.{Idle, Lookup, Write, Entry, Rename}

-- the rule picked this brick by the last looks at an object
abbrev pub PicksOf : Picks → Plan → Gfid → Kind → Lines → ℕ → Type 0
PicksOf picks p g kind lines b = picks (candidates_of p.shape kind (looked_by g lines)) b

-- a walk that looks has asked these bricks since the last name, and one that has arrived none; one that reads a name does so where the rule said
abbrev pub PickedStep : Picks → Plan → WalkStep → Gfid → Lines → Type 0
PickedStep picks p (Looking s) g lines = s.asked ≡ among looked_here lines
PickedStep picks p (Naming b) g lines = PicksOf picks p g Names lines b.0
PickedStep picks p Arrived g lines = among looked_here lines ≡ []
PickedStep picks p (Stopped why) g lines = Unit {0}

abbrev pub PickedWalk : Picks → Plan → Walk → Lines → Type 0
PickedWalk picks p w lines = PickedStep picks p w.step w.object.gfid lines

-- a stat tells the length that a brick so picked showed
abbrev pub PickedEnd : Picks → Plan → Reply → Lines → Type 0
PickedEnd picks p (Ok (Stat entry len)) lines = (b : ℕ) × PicksOf picks p entry.gfid (kind_looked (command.Stat []) entry.what) lines b × (len ≡ len_in (view_at b (looked_by entry.gfid lines)))
PickedEnd picks p said lines = Unit {0}

-- a read
abbrev pub PickedRead : Picks → Plan → LookupJob → LookupStage → Walk → Lines → Type 0
PickedRead picks p job reading.Walking w lines = PickedWalk picks p w lines
PickedRead picks p job (reading.Looking s) w lines = s.asked ≡ among looked_here lines
PickedRead picks p job (reading.Reading b of) w lines = PicksOf picks p w.object.gfid (kind_of job w.object.what) lines b.0
PickedRead picks p job (reading.Ending said) w lines = PickedEnd picks p said lines

-- a write, a cut or a setattr reads names on its way alone
abbrev pub PickedWrite : Picks → Plan → WriteStage → Walk → Lines → Type 0
PickedWrite picks p (writing.Walking job) w lines = PickedWalk picks p w lines
PickedWrite picks p (writing.Changing t) w lines = Unit {0}
PickedWrite picks p (writing.Ending said) w lines = PickedEnd picks p said lines

-- under the lock of a name it is read before the attempt
abbrev pub PickedUnder : Picks → Plan → Gfid → TransactionProgress → Found → Lines → Type 0
PickedUnder picks p g t (Unread b) lines = is_beginning t.stage ≡ true → PicksOf picks p g Names lines b.0
PickedUnder picks p g t found lines = Unit {0}

-- and the directory that is removed is listed before that
abbrev pub PickedAt : Picks → Plan → RemovalStage → Removing → Lines → Type 0
PickedAt picks p Listing m lines = PicksOf picks p m.child.gfid Names lines m.child.reader.0
PickedAt picks p stage m lines = Unit {0}

-- a command on a name
abbrev pub PickedEntry : Picks → Plan → EntryStage → Walk → Lines → Type 0
PickedEntry picks p entering.Walking w lines = PickedWalk picks p w lines
PickedEntry picks p (entering.Changing t found) w lines = PickedUnder picks p w.object.gfid t found lines
PickedEntry picks p (entering.Removes m) w lines = PickedAt picks p m.stage m lines
PickedEntry picks p (entering.Ending said) w lines = PickedEnd picks p said lines

-- a rename: its walks, and the read of each name under its lock
abbrev pub PickedRename : Picks → Plan → RenameStage → Paths → Lines → Type 0
PickedRename picks p renaming.Finding x lines = PickedWalk picks p x.first lines
PickedRename picks p renaming.Walking x lines = PickedWalk picks p x.second (the_make x.first.path lines)
PickedRename picks p (renaming.Making t found) x lines = PickedUnder picks p x.second.object.gfid t found (the_make x.first.path lines)
PickedRename picks p (renaming.Removing t found) x lines = PickedUnder picks p x.dir t found (the_removal x.first.path lines)
PickedRename picks p (renaming.Ending said) x lines = PickedEnd picks p said lines

-- a client's present work
abbrev pub PickedIn : Picks → Plan → WorkMachine → Lines → Type 0
PickedIn picks p Idle lines = Unit {0}
PickedIn picks p (Lookup m) lines = PickedRead picks p m.job m.stage m.walk lines
PickedIn picks p (Write m) lines = PickedWrite picks p m.stage m.walk lines
PickedIn picks p (Entry m) lines = PickedEntry picks p m.stage m.walk lines
PickedIn picks p (Rename m) lines = PickedRename picks p m.stage m.paths lines

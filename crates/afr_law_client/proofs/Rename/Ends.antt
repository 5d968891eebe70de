-- The machine of a rename and its lines, stage by stage.
use Rattle.std.proofs.Common.{◌≡◌, ℕ, Bool, true, false, List, ◌∷◌, length, refl, sym, ap, ◌∙◌, subst, if◌then◌else◌}
use Rattle.afr_base.specs.declared.ids.ActorId.{ActorId}
use Rattle.afr_base.specs.declared.ids.BrickId.{BrickId}
use Rattle.afr_base.specs.declared.ids.Kind.{Kind}
use Rattle.afr_lines.specs.Told.{told_by}
use Rattle.afr_lines.specs.Work.{Work, work}
use Rattle.afr_lines.specs.declared.line.Line.{Line}
use Rattle.afr_lines.specs.declared.line.Line.TheVariants.{Ask, Begin}
use Rattle.afr_lines.specs.declared.line.Next.TheVariants as next
use Rattle.afr_lines.specs.declared.request.Request.{Request}
use Rattle.afr_object.specs.Tables.{object_of}
use Rattle.afr_object.specs.declared.change.Change.{Change}
use Rattle.afr_plan.specs.declared.command.Command.{Command}
use Rattle.afr_plan.specs.declared.plan.Plan.{Plan}
use Rattle.afr_model.specs.Blamed.{IsBlaming}
use Rattle.afr_model.specs.Following.{KeepsToCommand}
use Rattle.afr_model.specs.Kept.{IsKept}
use Rattle.afr_model.specs.Parts.{the_make, the_walk}
use Rattle.afr_model.specs.Renamed.{IsRenamed}
use Rattle.afr_model.specs.Replied.{IsOf}
use Rattle.afr_model.specs.Showing.{begins_attempt, has, locks}
use Rattle.afr_client_transaction.specs.Outcome.{outcome_of}
use Rattle.afr_client_transaction.specs.Progress.{TransactionProgress, is_over, next_at as next_change, numbered}
use Rattle.afr_client_transaction.specs.declared.stage.Stage.TheVariants.{Locking}
use Rattle.afr_law_client.specs.About.{BlamesNext}
use Rattle.afr_law_client.specs.Laws.{IsNextLine}
use Rattle.afr_client_walk.specs.Choosing.{IsAmong}
use Rattle.afr_client_entry.specs.declared.stage.Found.{Found}
use Rattle.afr_client_entry.specs.declared.stage.Found.TheVariants.{Unread, Fits, Refused}
use Rattle.afr_law_client.specs.Entry.EntryTelling.{OnChange}
use Rattle.afr_client_entry.specs.Renames.Against.{half_reply}
use Rattle.afr_client_entry.specs.Renames.Paths.{reads_new, reads_old}
use Rattle.afr_client_entry.specs.Renames.Rename.{IsMaking, IsRename, answered, choices_at, is_done, making_after, next_at, removing_next, second_begun, stage_begun, turned}
use Rattle.afr_client_entry.specs.Renames.Under.{next_under}
use Rattle.afr_client_entry.specs.declared.renaming.paths.Paths.{Paths}
use Rattle.afr_client_entry.specs.declared.renaming.stage.RenameStage.{RenameStage}
use Rattle.afr_client_entry.specs.declared.renaming.stage.RenameStage.TheVariants.{Finding, Walking, Making, Removing, Ending}
use Rattle.afr_law_client.specs.Rename.RenameLaws.{RenameAbout, RenameBegun, RenameBlames, RenameEnds, RenameKeepsName, RenameTellsMore}
use Rattle.afr_law_client.specs.Rename.RenameTelling.{CanHear, CanHearMaking, MakesNewName, RenameTells, TellsIn, command_of, to_of}
use Rattle.afr_law_client.proofs.Rename.Begins.{about_walks, blames_walks, ends_walks, more_walks}
use Rattle.afr_law_client.proofs.Rename.EndsMaking.{making_ends}
use Rattle.afr_law_client.proofs.Rename.EndsRemoving.{removing_ends}
use Rattle.afr_law_client.proofs.Rename.MakingAbout.{making_line}
use Rattle.afr_law_client.proofs.Rename.MakingBlames.{blamed_front, under_blames}
use Rattle.afr_law_client.proofs.Rename.MakingLocks.{begins_own}
use Rattle.afr_law_client.proofs.Rename.MakingRead.{making_begun, making_more}
use Rattle.afr_law_client.proofs.Rename.MakingWalked.{walk_untouched, whole}
use Rattle.afr_law_client.proofs.Rename.RemovingAbout.{removing_line, turn_line}
use Rattle.afr_law_client.proofs.Rename.RemovingBegins.{turn_more}
use Rattle.afr_law_client.proofs.Rename.RemovingMore.{removing_begun, removing_more}
use Rattle.afr_law_client.proofs.Rename.RemovingWhole.{begun_is, removing_blames, removing_keeps}

-- ---- the second transaction's next line
-- while it isn't over it is that under its locks
goes_asks : (found : Found) (at : ℕ) (x : Paths) (t : TransactionProgress) (b : BrickId) (request : Request) → removing_next found at x t ≡ next.Ask b request → next_under found at (reads_old x) t ≡ next.Ask b request
goes_asks found at x t b request e = go (is_over t.stage t) e
  where
    go : (o : Bool) → (if o then next.End (half_reply (outcome_of t.change t.register)) else next_under found at (reads_old x) t) ≡ next.Ask b request → next_under found at (reads_old x) t ≡ next.Ask b request
    go true f = absurd (cc f)
    go false f = f

goes_begins : (found : Found) (at : ℕ) (x : Paths) (t : TransactionProgress) (change : Change) → removing_next found at x t ≡ next.Begin change → next_under found at (reads_old x) t ≡ next.Begin change
goes_begins found at x t change e = go (is_over t.stage t) e
  where
    go : (o : Bool) → (if o then next.End (half_reply (outcome_of t.change t.register)) else next_under found at (reads_old x) t) ≡ next.Begin change → next_under found at (reads_old x) t ≡ next.Begin change
    go true f = absurd (cc f)
    go false f = f

-- the register is of the plan's bricks
shape_of : (found : Found) (p : Plan) (t : TransactionProgress) (w : Work) → OnChange found p t w → t.register.shape ≡ p.shape
shape_of (Unread copy) p t w k = k.0.tells.shape_is
shape_of Fits p t w k = k.tells.shape_is
shape_of (Refused why) p t w k = k.before.shape_is

-- ---- the making
module _ (p : Plan) (x : Paths) (t : TransactionProgress) (found : Found) (lines : Work) (k : MakesNewName p x t found lines) (sound : IsMaking x t found) where
  making_over : (attempt : ℕ) (kind : Kind) (missed : List ℕ) (b : ℕ) → has begins_attempt (the_make x.first.path lines) ≡ true → has (locks (object_of t.change)) (the_make x.first.path lines) ≡ true
      → IsBlaming p attempt (object_of t.change) kind missed b (the_make x.first.path lines) → IsBlaming p attempt (object_of t.change) kind missed b lines
  making_over attempt kind missed b begins locked blamed =
      subst (λ (w : Work). IsBlaming p attempt (object_of t.change) kind missed b w) (whole p x lines k.on)
      (blamed_front p attempt (object_of t.change) kind missed b (the_make x.first.path lines) (the_walk x.first.path lines) (walk_untouched p x lines k.on.walked) locked blamed)

  making_blames : (at : ℕ) → BlamesNext p lines (next_at at (Making t found) x)
  making_blames at = go (is_done t)
    where
      go : (d : Bool) → BlamesNext p lines (if d then next_change Locking at (turned x t) else next_under found at (reads_new x) t)
      go true = tt
      go false = under_blames p (the_make x.first.path lines) lines t at (reads_new x) found making_over sound.under.sound (λ b. tt) k.tells.on

making_keeps : (p : Plan) (x : Paths) (t : TransactionProgress) (found : Found) (log : List Line) (a : ActorId) (change : Change) → MakesNewName p x t found (work a.0 log) → IsMaking x t found → next_at (length log) (Making t found) x ≡ next.Begin change → IsKept p (Begin a change) log
making_keeps p x t found log a change k sound e = go (is_done t) e
  where
    go : (d : Bool) → (if d then next_change Locking (length log) (turned x t) else next_under found (length log) (reads_new x) t) ≡ next.Begin change → IsKept p (Begin a change) log
    go true f = absurd (cc f)
    go false f =
        let own = begins_own found p (length log) (reads_new x) t (the_make x.first.path (work a.0 log)) change k.tells.on f in
        subst (λ (c : Change). IsKept p (Begin a c) log) (ap (numbered (length log)) (sym sound.under.of) ∙ begun_is t.stage (length log) t change own.1) tt

-- ---- the laws
pub more : RenameTellsMore
more p c m lines a b request chosen heard took log sound k e can among = go m.stage sound k.stage e can among
  where
    x : Paths
    x = m.paths

    go : (stage : RenameStage) → IsRename m.paths stage → TellsIn p stage m.paths lines → next_at (length log) stage m.paths ≡ next.Ask b request → CanHear stage p m.paths b.0 request log heard → IsAmong (choices_at stage heard (length log) m.paths) chosen
        → RenameTells p c (answered chosen heard (length log) (record { paths = m.paths; stage = stage })) ((Ask a b request (told_by heard) took, log) ∷ lines)
    go Finding s t e can among = more_walks p c m.paths lines k.shape k.named Finding refl a b request chosen heard took log s t e can among
    go Walking s t e can among = more_walks p c m.paths lines k.shape k.named Walking refl a b request chosen heard took log s t e can among
    go (Making t found) s y e can among = by (is_done t) refl e can
      where
        by : (d : Bool) → is_done t ≡ d → (if d then next_change Locking (length log) (turned m.paths t) else next_under found (length log) (reads_new m.paths) t) ≡ next.Ask b request
            → CanHearMaking d found t.stage p m.paths b.0 request log heard
            → RenameTells p c (record { paths = m.paths; stage = if d then second_begun (told_by heard) (length log) m.paths t else making_after chosen found heard (length log) m.paths t }) ((Ask a b request (told_by heard) took, log) ∷ lines)
        by true f e can = record {
          shape = k.shape;
          named = k.named;
          stage = turn_more p m.paths t found lines a log y s.sound f (shape_of found p t (the_make m.paths.first.path lines) y.tells.on) b request (told_by heard) took e can;
        }
        by false f e can = record { shape = k.shape; named = k.named; stage = making_more p m.paths t lines a log found y s.sound b request chosen heard took e can }
    go (Removing t found) s y e can among = record {
      shape = k.shape;
      named = k.named;
      stage = removing_more p m.paths t lines a log found y s.sound b request chosen heard took (goes_asks found (length log) m.paths t b request e) can;
    }
    go (Ending said) s t e can among = absurd (cc e)

pub begun : RenameBegun
begun p c m lines a change chosen log sound k e = go m.stage sound k.stage e
  where
    go : (stage : RenameStage) → IsRename m.paths stage → TellsIn p stage m.paths lines → next_at (length log) stage m.paths ≡ next.Begin change → RenameTells p c (record { paths = m.paths; stage = stage_begun stage (length log) }) ((Begin a change, log) ∷ lines)
    go Finding s t e = absurd (cc e)
    go Walking s t e = absurd (cc e)
    go (Making t found) s y e = record { shape = k.shape; named = k.named; stage = making_begun p m.paths t lines a log found y s.sound change (by (is_done t) e) }
      where
        by : (d : Bool) → (if d then next_change Locking (length log) (turned m.paths t) else next_under found (length log) (reads_new m.paths) t) ≡ next.Begin change → next_under found (length log) (reads_new m.paths) t ≡ next.Begin change
        by true f = absurd (cc f)
        by false f = f
    go (Removing t found) s y e = record { shape = k.shape; named = k.named; stage = removing_begun p m.paths t lines a log found y s.sound change (goes_begins found (length log) m.paths t change e) }
    go (Ending said) s t e = absurd (cc e)

pub about : RenameAbout
about p c m lines a told line log sound k is = go m.stage sound k.stage is
  where
    go : (stage : RenameStage) → IsRename m.paths stage → TellsIn p stage m.paths lines → IsNextLine a (next_at (length log) stage m.paths) told line → IsOf p c line lines × KeepsToCommand p c line (length log) lines
    go Finding s t is = about_walks p c m.paths lines k.shape k.named Finding refl a told line log s t is
    go Walking s t is = about_walks p c m.paths lines k.shape k.named Walking refl a told line log s t is
    go (Making t found) s y is = subst (λ (d : Command). IsOf p d line lines × KeepsToCommand p d line (length log) lines) (sym k.named) (by (is_done t) refl is)
      where
        by : (d : Bool) → is_done t ≡ d → IsNextLine a (if d then next_change Locking (length log) (turned m.paths t) else next_under found (length log) (reads_new m.paths) t) told line
            → IsOf p (command_of m.paths) line lines × KeepsToCommand p (command_of m.paths) line (length log) lines
        by true f is = turn_line p m.paths s.paths t found lines a log told line y s.sound f is
        by false f is = making_line p m.paths t found lines a log told line y s.sound is
    go (Removing t found) s y is = subst (λ (d : Command). IsOf p d line lines × KeepsToCommand p d line (length log) lines) (sym k.named) (by (is_over t.stage t) is)
      where
        by : (o : Bool) → IsNextLine a (if o then next.End (half_reply (outcome_of t.change t.register)) else next_under found (length log) (reads_old m.paths) t) told line
            → IsOf p (command_of m.paths) line lines × KeepsToCommand p (command_of m.paths) line (length log) lines
        by true is = absurd is
        by false is = removing_line p m.paths s.paths t found lines a log told line y s.sound is
    go (Ending said) s t is = absurd is

pub blames : RenameBlames
blames p c m lines at sound k = go m.stage sound k.stage
  where
    go : (stage : RenameStage) → IsRename m.paths stage → TellsIn p stage m.paths lines → BlamesNext p lines (next_at at stage m.paths)
    go Finding s t = blames_walks p c m.paths lines k.shape k.named Finding refl at s
    go Walking s t = blames_walks p c m.paths lines k.shape k.named Walking refl at s
    go (Making t found) s y = making_blames p m.paths t found lines y s.sound at
    go (Removing t found) s y = by (is_over t.stage t)
      where
        by : (o : Bool) → BlamesNext p lines (if o then next.End (half_reply (outcome_of t.change t.register)) else next_under found at (reads_old m.paths) t)
        by true = tt
        by false = removing_blames p m.paths t found lines y at s.sound
    go (Ending said) s t = tt

pub ends : RenameEnds
ends p c m lines at said sound k e = go m.stage sound k.stage e
  where
    go : (stage : RenameStage) → IsRename m.paths stage → TellsIn p stage m.paths lines → next_at at stage m.paths ≡ next.End said → IsRenamed p m.paths.first.path (to_of m.paths) lines said
    go Finding s t e = absurd (cc e)
    go Walking s t e = absurd (cc e)
    go (Making t found) s y e = by (is_done t) refl e
      where
        by : (d : Bool) → is_done t ≡ d → (if d then next_change Locking at (turned m.paths t) else next_under found at (reads_new m.paths) t) ≡ next.End said → IsRenamed p m.paths.first.path (to_of m.paths) lines said
        by true f e = absurd (cc e)
        by false f e = making_ends p m.paths t found lines at said y s.sound f e
    go (Removing t found) s y e = removing_ends p m.paths t found lines at said s.paths y s.sound e
    go (Ending here) s t e = ends_walks p c m.paths lines k.shape k.named (Ending here) refl at said t e

pub names : RenameKeepsName
names p c m log a change sound k e = go m.stage sound k.stage e
  where
    go : (stage : RenameStage) → IsRename m.paths stage → TellsIn p stage m.paths (work a.0 log) → next_at (length log) stage m.paths ≡ next.Begin change → IsKept p (Begin a change) log
    go Finding s t e = absurd (cc e)
    go Walking s t e = absurd (cc e)
    go (Making t found) s y e = making_keeps p m.paths t found log a change y s.sound e
    go (Removing t found) s y e = removing_keeps p m.paths t found log a change y s.sound (goes_begins found (length log) m.paths t change e)
    go (Ending said) s t e = absurd (cc e)

-- A command on a name has somebody left to ask, and the discipline allows what it asks.
use Rattle.std.proofs.Common.{◌≡◌, ℕ, ◌<◌, Bool, true, false, refl, sym, ap, ◌∙◌, inl, inr, if◌then◌else◌}
use Rattle.afr_base.specs.declared.ids.BrickId.{BrickId}
use Rattle.afr_base.specs.declared.ids.Gfid.{Gfid}
use Rattle.afr_base.specs.declared.ids.Kind.TheVariants.{Names}
use Rattle.afr_base.specs.declared.ids.Shape.{Shape}
use Rattle.afr_object.specs.Tables.{is_dir}
use Rattle.afr_choice.specs.VerdictLemmas.{good_are_holders, good_below, holders_are_reached}
use Rattle.afr_lines.specs.Areas.{kind_for}
use Rattle.afr_lines.specs.declared.line.Next.{Next}
use Rattle.afr_lines.specs.declared.line.Next.TheVariants as next
use Rattle.afr_lines.specs.declared.reply.Reply.TheVariants as reply
use Rattle.afr_model_moves.specs.Lines.{is_ok}
use Rattle.afr_discipline.specs.Stands.{no_lines}
use Rattle.afr_discipline.specs.declared.register.Move.{Move}
use Rattle.afr_discipline.specs.declared.register.Move.TheVariants as move
use Rattle.afr_discipline.specs.declared.register.Register.{Register}
use Rattle.afr_discipline.specs.declared.register.Step.TheVariants as step
use Rattle.afr_discipline.specs.Free.{Allows, IsFree, IsMoveOf}
use Rattle.afr_client_walk.specs.Walk.{IsWalk}
use Rattle.afr_client_walk.specs.declared.walk.Walk.{Walk}
use Rattle.afr_client_walk.specs.declared.walk.WalkStep.{WalkStep}
use Rattle.afr_client_walk.specs.declared.walk.WalkStep.TheVariants as walking
use Rattle.afr_discipline.proofs.FreeLemmas.{allows_end, shape_is}
use Rattle.afr_client_walk.proofs.WalkLemmas.{asks_allowed}
use Rattle.afr_client_transaction.specs.Laws as transaction
use Rattle.afr_client_transaction.specs.Progress as progress
use Rattle.afr_client_transaction.specs.Progress.{TransactionProgress, is_beginning, starting}
use Rattle.afr_client_transaction.specs.Sound.{IsUnused, Suits}
use Rattle.afr_client_transaction.proofs.Allowed.{allowed_moves}
use Rattle.afr_client_transaction.proofs.Kept.{sound_first}
use Rattle.afr_client_transaction.proofs.ReadLemmas.{read_allowed, refusal_moves}
use Rattle.afr_client_entry.specs.Removals.Removal as removal
use Rattle.afr_client_entry.proofs.Removals.AllowedLemmas.{allowed_moves as removal_moves}
use Rattle.afr_client_entry.specs.Entry.{IsChanging, IsEntry, IsStage, after_step, after_walk, at_directory, next_at, next_under, reads_name, register_at}
use Rattle.afr_client_entry.specs.Job.{change_of, reply_to}
use Rattle.afr_client_entry.specs.Laws.{AllowedNext}
use Rattle.afr_client_entry.specs.declared.job.EntryJob.{EntryJob}
use Rattle.afr_client_entry.specs.declared.job.EntryJob.TheVariants as job
use Rattle.afr_client_entry.specs.declared.refusal.Refusal.{Refusal}
use Rattle.afr_client_entry.specs.declared.refusal.Refusal.TheVariants as refusal
use Rattle.afr_client_entry.specs.declared.stage.EntryStage.{EntryStage}
use Rattle.afr_client_entry.specs.declared.stage.EntryStage.TheVariants.{Walking, Changing, Removes, Ending}
use Rattle.afr_client_entry.specs.declared.stage.Found.{Found}
use Rattle.afr_client_entry.specs.declared.stage.Found.TheVariants.{Unread, Fits, Refused}

-- ---- where a transaction begins
-- a walk leaves a register that nothing was locked in
pub unused : (shape : Shape) (r : Register) → IsFree shape r → IsUnused r
unused shape r (inl e) = inl (e ∙ ap no_lines (sym (shape_is shape r (inl e))))
unused shape r (inr e) = inr (e ∙ ap (λ (s : Shape). record (no_lines s) { step = step.Open }) (sym (shape_is shape r (inr e))))

-- a change of a name has an area, of the kind of names
pub suits : (g : Gfid) (j : EntryJob) → Suits (change_of g j)
suits g (job.Create name) = record { valid = refl; kind = refl }
suits g (job.Mkdir name) = record { valid = refl; kind = refl }
suits g (job.Unlink name) = record { valid = refl; kind = refl }
suits g (job.Rmdir name) = record { valid = refl; kind = refl }

pub of_names : (g : Gfid) (j : EntryJob) → kind_for (change_of g j) ≡ Names
of_names g (job.Create name) = refl
of_names g (job.Mkdir name) = refl
of_names g (job.Unlink name) = refl
of_names g (job.Rmdir name) = refl

is_at_directory : (w : Walk) (j : EntryJob) → IsWalk w → IsStage w j (at_directory w.object w.register j)
is_at_directory w j k = go (is_dir w.object.what)
  where
    shape : w.register.shape ≡ w.shape
    shape = shape_is w.shape w.register k.free

    go : (d : Bool) → IsStage w j (if d then Changing (starting (change_of w.object.gfid j) w.register) (Unread (record { 0 = 0 })) else Ending reply.NotDir)
    go true = record {
      sound = sound_first w.register (change_of w.object.gfid j) (unused w.shape w.register k.free) (rw shape k.few) (rw shape k.some) (suits w.object.gfid j);
      of_job = refl;
      in_turn = refl;
      fits = refl;
      reads = λ h. absurd (cc h);
    }
    go false = tt

pub arrives : (j : EntryJob) (w : Walk) → IsWalk w → IsEntry w j (at_directory w.object w.register j)
arrives j w k = record { sound = k; ready = is_at_directory w j k }

pub is_after_walk : (j : EntryJob) (w : Walk) → IsWalk w → IsEntry w j (after_walk j w)
is_after_walk j w k = record { sound = k; ready = go w.step refl }
  where
    go : (step : WalkStep) → w.step ≡ step → IsStage w j (after_step step j w)
    go (walking.Looking s) e = rw e refl
    go (walking.Naming b) e = rw e refl
    go walking.Arrived e = is_at_directory w j k
    go (walking.Stopped why) e = tt

-- ---- who is asked for the name
pub kind_is : (w : Walk) (j : EntryJob) (t : TransactionProgress) (found : Found) → IsChanging w j t found → kind_for t.change ≡ Names
kind_is w j t found k = ap kind_for k.of_job ∙ of_names w.object.gfid j

reader_inside : (w : Walk) (j : EntryJob) (t : TransactionProgress) (b : BrickId) → IsChanging w j t (Unread b) → is_beginning t.stage ≡ true → b.0 < t.register.shape.n
reader_inside w j t b k e = k.sound.base.shown.reached b.0 (holders_are_reached t.register.looked b.0 (good_are_holders t.register.shape t.register.looked Names b.0 (k.reads e)))

pub reader_small : (w : Walk) (j : EntryJob) (t : TransactionProgress) (b : BrickId) → IsChanging w j t (Unread b) → is_beginning t.stage ≡ true → b.0 < 5
reader_small w j t b k e = good_below t.register.shape t.register.looked Names b.0 (k.reads e)

-- ---- what is asked
-- a move of a line is one for the transaction too
pub moves : (line : Next) (of : Move) → IsMoveOf line of → transaction.IsMoveOf line of
moves (next.Ask b request) (move.Ask c asked) is = is
moves (next.Begin change) (move.Begin of) is = is
moves (next.End said) (move.End ok) is = is
moves line of is = absurd is

pub not_ok : (why : Refusal) → is_ok (reply_to why) ≡ false
not_ok refusal.Failed = refl
not_ok refusal.NoEntry = refl
not_ok refusal.Exists = refl
not_ok refusal.IsDir = refl
not_ok refusal.NotDir = refl

allowed_under : (found : Found) (w : Walk) (j : EntryJob) (t : TransactionProgress) → IsChanging w j t found → (at : ℕ) → Allows t.register (next_under found at j w t)
allowed_under (Unread b) w j t k at = go (is_beginning t.stage) refl
  where
    go : (e : Bool) → is_beginning t.stage ≡ e → Allows t.register (if e then next.Ask b (reads_name j w) else progress.next_at t.stage at t)
    go true e = λ of is. read_allowed t k.sound b (reads_name j w) (reader_inside w j t b k e) refl of (moves (next.Ask b (reads_name j w)) of is)
    go false e = λ of is. allowed_moves t k.sound at of (moves (progress.next_at t.stage at t) of is)
allowed_under Fits w j t k at = λ of is. allowed_moves t k.sound at of (moves (progress.next_at t.stage at t) of is)
allowed_under (Refused why) w j t k at = go (progress.is_over t.stage t) refl
  where
    go : (e : Bool) → progress.is_over t.stage t ≡ e → Allows t.register (if e then next.End (reply_to why) else progress.next_at t.stage at t)
    go true e = λ of is. refusal_moves t k.sound e (reply_to why) (not_ok why) of (moves (next.End (reply_to why)) of is)
    go false e = λ of is. allowed_moves t k.sound at of (moves (progress.next_at t.stage at t) of is)

allowed_at : (stage : EntryStage) (w : Walk) (j : EntryJob) → IsEntry w j stage → (at : ℕ) → Allows (register_at stage w) (next_at at stage j w)
allowed_at Walking w j k at = asks_allowed w k.sound k.ready
allowed_at (Changing t found) w j k at = allowed_under found w j t k.ready at
allowed_at (Removes m) w j k at = λ of is. removal_moves m k.ready.sound of (moves (removal.next_at m.stage m) of is)
allowed_at (Ending said) w j k at = allows_end w.shape w.register said k.sound.free

-- whatever the bricks have answered so far, the next line is allowed
pub allowed_next : AllowedNext
allowed_next m k at = allowed_at m.stage m.walk m.job k at

-- Each line of a write that counts takes one from the lines that it has left.
use Rattle.std.proofs.Common.{◌≡◌, ℕ, ◌+◌, ◌*◌, ◌≤◌, ◌&&◌, Bool, true, false, inl, refl, sym, subst, ap, arith, length}
use Rattle.std.specs.Prelude.{if◌then◌else◌}
use Rattle.afr_base.specs.declared.ids.BrickId.{BrickId}
use Rattle.afr_base.specs.declared.ids.Shape.{Shape}
use Rattle.afr_object.specs.Tables.{is_dir}
use Rattle.afr_object.specs.declared.entry.Entry.{Entry}
use Rattle.afr_discipline.specs.declared.register.Register.{Register}
use Rattle.afr_client_write.specs.Job.{change_of, is_empty, is_of_bytes, is_too_large}
use Rattle.afr_client_write.specs.Write.{IsStage, after_step, after_walk, answered, at_object, begun_in, choices_at, heard_by}
use Rattle.afr_client_write.specs.declared.job.WriteJob.{WriteJob}
use Rattle.afr_client_write.specs.declared.stage.WriteStage.TheVariants.{Changing, Ending, Walking}
use Rattle.afr_client_write.specs.declared.stage.WriteStage.{WriteStage}
use Rattle.afr_lines.specs.Told.{told_by}
use Rattle.afr_lines.specs.declared.answer.Answer.{Answer}
use Rattle.afr_lines.specs.declared.answer.Told.{Told}
use Rattle.afr_lines.specs.declared.line.Heard.TheVariants as heard
use Rattle.afr_lines.specs.declared.reply.Good.TheVariants as good
use Rattle.afr_lines.specs.declared.reply.Reply.TheVariants as reply
use Rattle.afr_law_pace.proofs.Nearer.{begins, nearer, some_end, starts}
use Rattle.afr_law_pace.proofs.Walks.{shape_kept, walk_nearer, walk_starts}
use Rattle.afr_law_pace.specs.Left.{asks_again, lines_left}
use Rattle.afr_law_pace.specs.Walks.{walk_left}
use Rattle.afr_law_pace.specs.Writes.{Asks, FitsWrite, WriteBeginsNearer, WriteComesNearer, WriteKeepsEnd, WriteStartsWithin, again_at, whole_change, write_left, write_left_at}
use Rattle.afr_client_transaction.specs.Progress as transaction
use Rattle.afr_client_transaction.specs.Progress.{TransactionProgress, begun, fed, is_beginning, starting}
use Rattle.afr_client_transaction.specs.Sound.{IsAsking}
use Rattle.afr_client_transaction.specs.declared.stage.Stage.TheVariants.{Applying, Beginning, Closing, Locking, Looking, Posting, Preparing}
use Rattle.afr_client_transaction.specs.declared.stage.Stage.{Stage}
use Rattle.afr_client_walk.proofs.WalkLemmas.{is_walked}
use Rattle.afr_client_walk.specs.Choosing.{IsAmong}
use Rattle.afr_discipline.specs.Free.{IsFree}
use Rattle.afr_discipline.proofs.FreeLemmas.{shape_is}
use Rattle.afr_client_walk.specs.Walk as walks
use Rattle.afr_client_walk.specs.Walk.{IsWalk, is_walking, walk_from, walked}
use Rattle.afr_client_walk.specs.declared.walk.Walk.{Walk}
use Rattle.afr_client_walk.specs.declared.walk.WalkStep.TheVariants as walking
use Rattle.afr_client_walk.specs.declared.walk.WalkStep.{WalkStep}

-- the end, where it comes at once
one_low : (k n : ℕ) → 1 ≤ k + whole_change n
one_low k n = omega arith

-- what the object makes of the write
object_left : (k : ℕ) (object : Entry) (shape : Shape) (r : Register) (job : WriteJob) (w : Walk) → r.shape ≡ shape → write_left_at (at_object object r job) w ≤ k + whole_change shape.n
object_left k object shape r job w same = go (is_of_bytes job && is_dir object.what) (is_empty job)
  where
    begin : lines_left (starting (change_of object.gfid job) r) ≤ k + whole_change shape.n
    begin =
        let h : lines_left (starting (change_of object.gfid job) r) ≤ 6 * shape.n + 2 = subst (λ (q : Shape). lines_left (starting (change_of object.gfid job) r) ≤ 6 * q.n + 2) same (starts (change_of object.gfid job) r) in
        sum (lines_left (starting (change_of object.gfid job) r)) shape.n h
      where
        sum : (l n : ℕ) → l ≤ 6 * n + 2 → l ≤ k + whole_change n
        sum l n h = omega (arith, h)

    go : (d e : Bool) → write_left_at (if d then Ending reply.IsDir else (if e then Ending (reply.Ok good.Done) else Changing (starting (change_of object.gfid job) r))) w ≤ k + whole_change shape.n
    go true e = one_low k shape.n
    go false true = one_low k shape.n
    go false false = begin

-- where a walk leaves it
walk_leaves : (k : ℕ) (w : Walk) (job : WriteJob) → IsFree w.shape w.register → walk_left w ≤ k → write_left_at (after_walk job w) w ≤ k + whole_change w.shape.n
walk_leaves k w job free h = go w.step
  where
    still : walk_left w + whole_change w.shape.n ≤ k + whole_change w.shape.n
    still = sum (walk_left w) (whole_change w.shape.n) h
      where
        sum : (l c : ℕ) → l ≤ k → l + c ≤ k + c
        sum l c h = omega (arith, h)

    go : (s : WalkStep) → write_left_at (after_step s job w) w ≤ k + whole_change w.shape.n
    go (walking.Looking s) = still
    go (walking.Naming b) = still
    go walking.Arrived = object_left k w.object w.shape w.register job w (shape_is w.shape w.register free)
    go (walking.Stopped why) = one_low k w.shape.n

module _ (w : Walk) (k : IsWalk w) (chosen : BrickId) (a : Answer) (at : ℕ) where
  abbrev x : Walk
  x = walked chosen a at w

  by_walk : (job : WriteJob) → is_walking w.step ≡ true → IsAmong (walks.choices_of a w) chosen → write_left_at (after_walk job x) x + 1 ≤ walk_left w + whole_change w.shape.n
  by_walk job e among =
      let less = walk_nearer w k e chosen a at in
      let kept = is_walked chosen a at w k e among in
      let same : x.shape ≡ w.shape = shape_kept chosen a w.step (walks.noted (walks.next_in w) (told_by a) at w) in
      sum (walk_left w) (walk_left x) x.shape.n w.shape.n less (ap (λ (q : Shape). q.n) same) (λ m h. walk_leaves m x job kept.free h)
    where
      sum : (l r n o : ℕ) → r + 1 ≤ l → n ≡ o → ((m : ℕ) → r ≤ m → write_left_at (after_walk job x) x ≤ m + whole_change n) → write_left_at (after_walk job x) x + 1 ≤ l + whole_change o
      sum l r n o h e f = let g = f r (omega arith) in omega (arith, h, e, g)

-- a transaction that asks has its answer
pub told_is : (told : Told) (at : ℕ) (t : TransactionProgress) (stage : Stage) → IsAsking stage t → (if is_beginning stage then t else fed stage told at t) ≡ transaction.answered stage told at t
told_is told at t Locking e = refl
told_is told at t Looking e = refl
told_is told at t Beginning e = absurd e
told_is told at t Preparing e = refl
told_is told at t Applying e = refl
told_is told at t Posting e = refl
told_is told at t Closing e = refl

by_stage : (w : Walk) (stage : WriteStage) → IsWalk w → IsStage w stage → Asks stage → (chosen : BrickId) (a : Answer) (at : ℕ) → IsAmong (choices_at stage a w) chosen → FitsWrite stage (told_by a)
    → write_left (answered chosen a at (record { walk = w; stage = stage })) + (if again_at stage (told_by a) then 0 else 1) ≤ write_left_at stage w
by_stage w (Walking job) k i asks chosen a at among fits = by_walk w k chosen a at job i.0 among
by_stage w (Changing t) k i asks chosen a at among fits =
    subst (λ (q : TransactionProgress). lines_left q + (if asks_again t.stage (told_by a) then 0 else 1) ≤ lines_left t) (sym (told_is (told_by a) at t t.stage asks)) (nearer t i.0 asks (told_by a) at fits)
by_stage w (Ending said) k i asks chosen a at among fits = absurd asks

pub write_nearer : WriteComesNearer
write_nearer m k asks chosen a at among fits = by_stage m.walk m.stage k.sound k.ready asks chosen a at among fits

pub write_begins : WriteBeginsNearer
write_begins m t is first chosen at = subst (λ (s : WriteStage). write_left (heard_by chosen (heard.Begun at) (record { walk = m.walk; stage = s })) + 1 ≤ write_left_at s m.walk) (sym is)
    (subst (λ (q : TransactionProgress). lines_left q + 1 ≤ lines_left t) (sym begins_is) (begins t first at))
  where
    begins_is : begun_in at t ≡ begun at t
    begins_is = subst (λ (s : Stage). (if is_beginning s then begun at t else t) ≡ begun at t) (sym first) refl

pub write_end : WriteKeepsEnd
write_end m = go m.stage
  where
    go : (s : WriteStage) → 1 ≤ write_left_at s m.walk
    go (Walking job) = one_low (walk_left m.walk) m.walk.shape.n
    go (Changing t) = some_end t
    go (Ending said) = omega arith

pub write_starts : WriteStartsWithin
write_starts shape path job = go (is_too_large job)
  where
    w : Walk
    w = walk_from shape path

    go : (e : Bool) → write_left_at (if e then Ending reply.TooLarge else after_walk job w) w ≤ length path * (shape.n + 1) + whole_change shape.n
    go true = one_low (length path * (shape.n + 1)) shape.n
    go false = walk_leaves (length path * (shape.n + 1)) w job (inl refl) (walk_starts shape path)

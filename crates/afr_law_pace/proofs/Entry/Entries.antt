-- Each line of a command on a name that counts takes one from the lines that it has left.
use Rattle.std.proofs.Common.{◌≡◌, ℕ, ◌+◌, ◌*◌, ◌≤◌, Bool, true, false, inl, refl, sym, subst, ap, arith, length, Option, Some, None}
use Rattle.std.specs.Prelude.{if◌then◌else◌}
use Rattle.afr_base.specs.Bricks.{lowest}
use Rattle.afr_base.specs.declared.ids.BrickId.{BrickId}
use Rattle.afr_base.specs.declared.ids.Gfid.{Gfid}
use Rattle.afr_base.specs.declared.ids.Shape.{Shape}
use Rattle.afr_discipline.specs.Laws.{ShapesKept}
use Rattle.afr_discipline.specs.Notes.{noted_ask}
use Rattle.afr_discipline.specs.declared.register.Move.TheVariants as move
use Rattle.afr_discipline.specs.declared.register.Register.{Register}
use Rattle.afr_client_entry.specs.Entry.{IsStage, after_step, after_walk, answered, at_directory, child_after, choices_at, found_after, found_by, name_noted, or_removes, progress_after, reads_name, settled, stage_begun}
use Rattle.afr_client_entry.specs.Job.{change_of, child_by, ruled_out}
use Rattle.afr_client_entry.specs.declared.job.EntryJob.{EntryJob}
use Rattle.afr_client_entry.specs.declared.refusal.Refusal.{Refusal}
use Rattle.afr_client_entry.specs.declared.stage.EntryStage.TheVariants.{Changing, Ending, Removes, Walking}
use Rattle.afr_client_entry.specs.declared.stage.EntryStage.{EntryStage}
use Rattle.afr_client_entry.specs.declared.stage.Found.TheVariants.{Fits, Refused, Unread}
use Rattle.afr_client_entry.specs.declared.stage.Found.{Found}
use Rattle.afr_law_pace.proofs.Entry.Removals.{removal_begins, removal_end, removal_nearer, removal_starts}
use Rattle.afr_law_pace.specs.Entry.Entries.{AsksEntry, AsksUnder, BeginsEntry, EntryBeginsNearer, EntryComesNearer, EntryKeepsEnd, EntryStartsWithin, FitsEntry, entry_again, entry_left, entry_left_at, for_name, whole_entry}
use Rattle.afr_law_pace.specs.Entry.Removals.{removal_again, removal_left}
use Rattle.afr_lines.specs.Told.{told_by}
use Rattle.afr_lines.specs.declared.answer.Answer.{Answer}
use Rattle.afr_lines.specs.declared.answer.Told.{Told}
use Rattle.afr_lines.specs.declared.reply.Reply.TheVariants as reply
use Rattle.afr_lines.specs.declared.request.Request.{Request}
use Rattle.afr_object.specs.Tables.{is_dir}
use Rattle.afr_object.specs.declared.entry.Entry.{Entry}
use Rattle.afr_law_pace.proofs.Nearer.{begins, by_stage, most, nearer, some_end, starts, step_of}
use Rattle.afr_law_pace.proofs.Walks.{shape_kept, walk_nearer, walk_starts}
use Rattle.afr_law_pace.proofs.Writes.{told_is}
use Rattle.afr_law_pace.specs.Left.{asks_again, left_at, lines_left}
use Rattle.afr_law_pace.specs.Left as pace
use Rattle.afr_law_pace.specs.Walks.{walk_left}
use Rattle.afr_client_entry.specs.Removals.Removal as removal
use Rattle.afr_client_entry.specs.Removals.Removal.{Removing}
use Rattle.afr_client_entry.specs.Removals.Sound as removing
use Rattle.afr_client_entry.specs.declared.removing.stage.RemovalStage.TheVariants as removes
use Rattle.afr_client_entry.specs.declared.removing.stage.RemovalStage.{RemovalStage}
use Rattle.afr_client_transaction.specs.Progress as transaction
use Rattle.afr_client_transaction.specs.Progress.{TransactionProgress, begun, fed, is_beginning, left, request_at, starting}
use Rattle.afr_client_transaction.specs.Sound.{During, IsAsking, Sound}
use Rattle.afr_client_transaction.specs.declared.stage.Stage.TheVariants.{Applying, Beginning, Closing, Locking, Looking, Posting, Preparing}
use Rattle.afr_client_transaction.specs.declared.stage.Stage.{Stage}
use Rattle.afr_discipline.proofs.FreeLemmas.{shape_is}
use Rattle.afr_client_walk.proofs.WalkLemmas.{is_walked}
use Rattle.afr_client_walk.specs.Choosing.{IsAmong}
use Rattle.afr_discipline.specs.Free.{IsFree}
use Rattle.afr_client_walk.specs.Walk as walks
use Rattle.afr_client_walk.specs.Walk.{IsWalk, is_walking, walk_from, walked}
use Rattle.afr_client_walk.specs.declared.walk.Walk.{Walk}
use Rattle.afr_client_walk.specs.declared.walk.WalkStep.TheVariants as walking
use Rattle.afr_client_walk.specs.declared.walk.WalkStep.{WalkStep}

-- ---- the walk
-- the end, where it comes at once
one_low : (k n : ℕ) → 1 ≤ k + whole_entry n
one_low k n = omega arith

-- what the directory makes of the command
directory_left : (k : ℕ) (dir : Entry) (r : Register) (job : EntryJob) (w : Walk) → r.shape ≡ w.shape → entry_left_at (at_directory dir r job) w ≤ k + whole_entry w.shape.n
directory_left k dir r job w same = go (is_dir dir.what)
  where
    sum : (l n o : ℕ) → l ≤ 6 * n + 2 → n ≡ o → l + (3 * n + 2) ≤ k + whole_entry o
    sum l n o h e = omega (arith, h, e)

    go : (d : Bool) → entry_left_at (if d then Changing (starting (change_of dir.gfid job) r) (Unread (record { 0 = 0 })) else Ending reply.NotDir) w ≤ k + whole_entry w.shape.n
    go true = sum (lines_left (starting (change_of dir.gfid job) r)) r.shape.n w.shape.n (starts (change_of dir.gfid job) r) (ap (λ (q : Shape). q.n) same)
    go false = one_low k w.shape.n

-- where a walk leaves it
walk_leaves : (k : ℕ) (w : Walk) (job : EntryJob) → IsFree w.shape w.register → walk_left w ≤ k → entry_left_at (after_walk job w) w ≤ k + whole_entry w.shape.n
walk_leaves k w job free h = go w.step
  where
    still : walk_left w + whole_entry w.shape.n ≤ k + whole_entry w.shape.n
    still = sum (walk_left w) (whole_entry w.shape.n) h
      where
        sum : (l c : ℕ) → l ≤ k → l + c ≤ k + c
        sum l c h = omega (arith, h)

    go : (s : WalkStep) → entry_left_at (after_step s job w) w ≤ k + whole_entry w.shape.n
    go (walking.Looking s) = still
    go (walking.Naming b) = still
    go walking.Arrived = directory_left k w.object w.register job w (shape_is w.shape w.register free)
    go (walking.Stopped why) = one_low k w.shape.n

module _ (w : Walk) (k : IsWalk w) (chosen : BrickId) (a : Answer) (at : ℕ) where
  abbrev x : Walk
  x = walked chosen a at w

  by_walk : (job : EntryJob) → is_walking w.step ≡ true → IsAmong (walks.choices_of a w) chosen → entry_left_at (after_walk job x) x + 1 ≤ walk_left w + whole_entry w.shape.n
  by_walk job e among =
      let less = walk_nearer w k e chosen a at in
      let kept = is_walked chosen a at w k e among in
      let same : x.shape ≡ w.shape = shape_kept chosen a w.step (walks.noted (walks.next_in w) (told_by a) at w) in
      sum (walk_left w) (walk_left x) x.shape.n w.shape.n less (ap (λ (q : Shape). q.n) same) (λ m h. walk_leaves m x job kept.free h)
    where
      sum : (l r n o : ℕ) → r + 1 ≤ l → n ≡ o → ((m : ℕ) → r ≤ m → entry_left_at (after_walk job x) x ≤ m + whole_entry n) → entry_left_at (after_walk job x) x + 1 ≤ l + whole_entry o
      sum l r n o h e f = let g = f r (omega arith) in omega (arith, h, e, g)

-- ---- under the lock of the name
-- a request keeps the bricks
pub asked_shape : ShapesKept → (r : Register) (at b : ℕ) (asked : Request) (told : Told) → (noted_ask r at b asked told).shape ≡ r.shape
asked_shape shapes r at b asked told = shapes r (move.Ask (record { 0 = b }) (record { ref_ptr = (0, 0); now = asked })) told at

module _ (shapes : ShapesKept) (w : Walk) (job : EntryJob) (t : TransactionProgress) (sound : Sound t) (chosen : BrickId) (a : Answer) (at : ℕ) where
  abbrev n : ℕ
  n = t.register.shape.n

  abbrev told : Told
  told = told_by a

  -- the lines after an answer, as long as the name isn't read
  abbrev UnreadNearer : BrickId → Stage → Type 0
  UnreadNearer b stage =
      entry_left_at (or_removes (child_after (Unread b) a job stage) (if is_beginning stage then settled (ruled_out job a) (name_noted b job w told at t) else fed stage told at t) (found_after chosen (Unread b) a job stage)) w
      + (if asks_again stage told then 0 else 1) ≤ left_at stage t + (3 * n + 2)

  -- the transaction goes on
  goes : (b : BrickId) (stage : Stage) → During stage t → IsAsking stage t → pace.FitsAnUnlock stage told → lines_left (transaction.answered stage told at t) + (3 * (transaction.answered stage told at t).register.shape.n + 2) + step_of (asks_again stage told) ≤ left_at stage t + (3 * n + 2)
  goes b stage d e fits =
      sum (lines_left (transaction.answered stage told at t)) (transaction.answered stage told at t).register.shape.n (step_of (asks_again stage told)) (left_at stage t) n (by_stage t sound told at stage d e fits)
      (ap (λ (q : Shape). q.n) (asked_shape shapes t.register at (lowest (left stage t)) (request_at stage t) told))
    where
      sum : (l k c m o : ℕ) → l + c ≤ m → k ≡ o → l + (3 * k + 2) + c ≤ m + (3 * o + 2)
      sum l k c m o h e = omega (arith, h, e)

  -- the name is read
  reads : (b : BrickId) → t.stage ≡ Beginning → UnreadNearer b Beginning
  reads b first = go (child_by job a) (ruled_out job a)
    where
      u : TransactionProgress
      u = name_noted b job w told at t

      same : u.register.shape.n ≡ n
      same = ap (λ (q : Shape). q.n) (asked_shape shapes t.register at b.0 (reads_name job w) told)

      whole : (l k o : ℕ) → l ≤ 7 * k + 3 → k ≡ o → l + 1 ≤ 4 * o + 2 + (3 * o + 2)
      whole l k o h e = omega (arith, h, e)

      fitting : (stage : Stage) → stage ≡ Beginning → left_at stage u + 0 + 1 ≤ 4 * n + 2 + (3 * n + 2)
      fitting stage is = subst (λ (s : Stage). left_at s u + 0 + 1 ≤ 4 * n + 2 + (3 * n + 2)) (sym is) (omega (arith, same))

      go : (child : Option Gfid) (why : Option Refusal) → entry_left_at (or_removes child (settled why u) (found_by why)) w + 1 ≤ 4 * n + 2 + (3 * n + 2)
      go (Some g) None = whole (removal_left (removal.removing u.change u.register g)) u.register.shape.n n (removal_starts u.change u.register g) same
      go (Some g) (Some why) = whole (removal_left (removal.removing u.change u.register g)) u.register.shape.n n (removal_starts u.change u.register g) same
      go None None = fitting u.stage first
      go None (Some why) = (let k = most u.register.shape.n (left Closing u) in omega (arith, k, same))

  unread : (b : BrickId) (stage : Stage) → t.stage ≡ stage → During stage t → AsksUnder (Unread b) stage t → pace.FitsAnUnlock stage told → UnreadNearer b stage
  unread b Beginning is d e fits = reads b is
  unread b Locking is d e fits = goes b Locking d e fits
  unread b Looking is d e fits = goes b Looking d e fits
  unread b Preparing is d e fits = goes b Preparing d e fits
  unread b Applying is d e fits = goes b Applying d e fits
  unread b Posting is d e fits = goes b Posting d e fits
  unread b Closing is d e fits = goes b Closing d e fits

  -- the name was read
  read : IsAsking t.stage t → pace.FitsAnUnlock t.stage told → lines_left (if is_beginning t.stage then t else fed t.stage told at t) + 0 + step_of (asks_again t.stage told) ≤ lines_left t + 0
  read e fits = subst (λ (q : TransactionProgress). lines_left q + 0 + step_of (asks_again t.stage told) ≤ lines_left t + 0) (sym (told_is told at t t.stage e)) (let h = nearer t sound e told at fits in omega (arith, h))

  changing : (found : Found) → AsksUnder found t.stage t → pace.FitsAnUnlock t.stage told
      → entry_left_at (or_removes (child_after found a job t.stage) (progress_after found a at job w t) (found_after chosen found a job t.stage)) w + step_of (asks_again t.stage told) ≤ lines_left t + for_name found n
  changing (Unread b) e fits = unread b t.stage refl sound.during e fits
  changing Fits e fits = read e fits
  changing (Refused why) e fits = read e fits

-- ---- a removal
removal_told : (chosen : BrickId) (a : Answer) (at : ℕ) (m : Removing) (stage : RemovalStage) → removing.IsAsking stage m → (if removal.is_beginning stage then m else removal.answered chosen stage a at m) ≡ removal.answered chosen stage a at m
removal_told chosen a at m removes.Locking e = refl
removal_told chosen a at m removes.Looking e = refl
removal_told chosen a at m removes.Listing e = refl
removal_told chosen a at m removes.Beginning e = absurd e
removal_told chosen a at m removes.Preparing e = refl
removal_told chosen a at m removes.Applying e = refl
removal_told chosen a at m removes.Posting e = refl
removal_told chosen a at m (removes.Closing why) e = refl

-- ---- the command
by_entry : ShapesKept → (w : Walk) (job : EntryJob) (stage : EntryStage) → IsWalk w → IsStage w job stage → AsksEntry stage → (chosen : BrickId) (a : Answer) (at : ℕ) → IsAmong (choices_at stage a at w) chosen → FitsEntry stage (told_by a)
    → entry_left (answered chosen a at (record { walk = w; job = job; stage = stage })) + step_of (entry_again stage (told_by a)) ≤ entry_left_at stage w
by_entry shapes w job Walking k i asks chosen a at among fits = by_walk w k chosen a at job i among
by_entry shapes w job (Changing t found) k i asks chosen a at among fits = changing shapes w job t i.sound chosen a at found asks fits
by_entry shapes w job (Removes m) k i asks chosen a at among fits =
    subst (λ (q : Removing). removal_left q + step_of (removal_again m.stage (told_by a)) ≤ removal_left m) (sym (removal_told chosen a at m m.stage asks)) (removal_nearer m i.sound asks chosen a at fits)
by_entry shapes w job (Ending said) k i asks chosen a at among fits = absurd asks

pub entry_nearer : ShapesKept → EntryComesNearer
entry_nearer shapes m k asks chosen a at among fits = by_entry shapes m.walk m.job m.stage k.sound k.ready asks chosen a at among fits

pub entry_begins : EntryBeginsNearer
entry_begins m first chosen at = go m.stage first
  where
    under : (t : TransactionProgress) → t.stage ≡ Beginning → lines_left (if is_beginning t.stage then begun at t else t) + 0 + 1 ≤ lines_left t + 0
    under t is = subst (λ (s : Stage). lines_left (if is_beginning s then begun at t else t) + 0 + 1 ≤ lines_left t + 0) (sym is) (let h = begins t is at in omega (arith, h))

    go : (stage : EntryStage) → BeginsEntry stage → entry_left_at (stage_begun stage at) m.walk + 1 ≤ entry_left_at stage m.walk
    go (Changing t Fits) is = under t is
    go (Changing t (Refused why)) is = under t is
    go (Changing t (Unread b)) is = absurd is
    go (Removes x) is = subst (λ (s : RemovalStage). removal_left (if removal.is_beginning s then removal.begun at x else x) + 1 ≤ removal_left x) (sym is) (removal_begins x is at)
    go Walking is = absurd is
    go (Ending said) is = absurd is

pub entry_end : EntryKeepsEnd
entry_end m = go m.stage
  where
    go : (s : EntryStage) → 1 ≤ entry_left_at s m.walk
    go Walking = one_low (walk_left m.walk) m.walk.shape.n
    go (Changing t found) = (let h = some_end t in omega (arith, h))
    go (Removes x) = removal_end x
    go (Ending said) = omega arith

pub entry_starts : EntryStartsWithin
entry_starts shape path job = walk_leaves (length path * (shape.n + 1)) (walk_from shape path) job (inl refl) (walk_starts shape path)

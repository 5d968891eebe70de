-- Each line of a read takes one from the lines that it has left.
use Rattle.std.proofs.Common.{◌≡◌, ℕ, ◌+◌, ◌*◌, ◌≤◌, ◌==◌, Bool, true, false, refl, sym, ap, arith, [], length, true≢false}
use Rattle.std.specs.Prelude.{if◌then◌else◌}
use Rattle.afr_base.specs.Bricks.{is_nothing, member}
use Rattle.afr_base.specs.declared.ids.BrickId.{BrickId}
use Rattle.afr_base.specs.declared.ids.Shape.{Shape}
use Rattle.afr_base.specs.declared.ids.What.{What}
use Rattle.afr_choice.specs.Verdict.{verdict_of}
use Rattle.afr_choice.specs.declared.looked.Looked.{Looked}
use Rattle.afr_choice.specs.declared.verdict.Verdict.{Verdict}
use Rattle.afr_choice.specs.declared.verdict.Verdict.TheVariants.{Short, Bare, Split, Sources}
use Rattle.afr_client_read.specs.Job.{kind_of}
use Rattle.afr_client_read.specs.Lookup.{IsStage, after_step, after_walk, answered, asked_at, at_object, from_copy, is_asking, object_judged}
use Rattle.afr_client_read.specs.declared.job.LookupJob.{LookupJob}
use Rattle.afr_client_read.specs.declared.job.LookupJob.TheVariants as job
use Rattle.afr_client_read.specs.declared.stage.LookupStage.TheVariants.{Ending, Looking, Reading, Walking}
use Rattle.afr_client_read.specs.declared.stage.LookupStage.{LookupStage}
use Rattle.afr_client_read.specs.declared.job.Wanted.TheVariants as content
use Rattle.afr_lines.specs.Told.{told_by}
use Rattle.afr_lines.specs.declared.reply.Good.TheVariants as good
use Rattle.afr_lines.specs.declared.reply.Reply.TheVariants as reply
use Rattle.afr_lines.specs.declared.answer.Answer.{Answer}
use Rattle.afr_object.specs.Tables.{is_dir, is_file}
use Rattle.afr_object.specs.declared.entry.Entry.{Entry}
use Rattle.afr_counting.proofs.Counts.{count_most}
use Rattle.afr_law_pace.proofs.Walks.{look_falls, shape_kept, walk_nearer, walk_starts}
use Rattle.afr_law_pace.specs.Left.{count}
use Rattle.afr_law_pace.specs.Lookups.{ReadComesNearer, ReadKeepsEnd, ReadStartsWithin, read_left, read_left_at}
use Rattle.afr_law_pace.specs.Walks.{walk_left}
use Rattle.afr_client_walk.specs.Looks.{IsLooks, heard_look, left_to_look, no_look}
use Rattle.afr_client_walk.specs.Walk as walks
use Rattle.afr_client_walk.specs.Walk.{IsWalk, is_walking, walk_from, walked}
use Rattle.afr_client_walk.specs.declared.looks.Looks.{Looks}
use Rattle.afr_client_walk.specs.declared.walk.Walk.{Walk}
use Rattle.afr_client_walk.specs.declared.walk.WalkStep.TheVariants as walking
use Rattle.afr_client_walk.specs.declared.walk.WalkStep.{WalkStep}

-- a sum with what is left is at least this
two : (k n : ℕ) → 1 ≤ k + n + 2
two k n = omega arith

-- what the object makes of the read
object_left : (k : ℕ) (j : LookupJob) (what : What) (w : Walk) → read_left_at (at_object j what) w ≤ k + w.shape.n + 2
object_left k j what w = go j
  where
    looks : read_left_at (Looking no_look) w ≤ k + w.shape.n + 2
    looks = sum (count w.shape.n (left_to_look w.shape.n no_look)) w.shape.n (count_most w.shape.n (member (left_to_look w.shape.n no_look)))
      where
        sum : (c n : ℕ) → c ≤ n → c + 2 ≤ k + n + 2
        sum c n h = omega (arith, h)

    either : (d : Bool) (said : LookupStage) → read_left_at said w ≤ k + w.shape.n + 2 → read_left_at (if d then said else Looking no_look) w ≤ k + w.shape.n + 2
    either true said h = h
    either false said h = looks

    go : (j : LookupJob) → read_left_at (at_object j what) w ≤ k + w.shape.n + 2
    go (job.Read at len) = either (is_dir what) _ (two k w.shape.n)
    go job.Ls = either (is_file what) _ (two k w.shape.n)
    go (job.GetAttr key) = looks
    go job.Stat = looks

-- where a walk leaves it
walk_leaves : (k : ℕ) (w : Walk) (j : LookupJob) → walk_left w ≤ k → read_left_at (after_walk j w) w ≤ k + w.shape.n + 2
walk_leaves k w j h = go w.step
  where
    still : walk_left w + w.shape.n + 2 ≤ k + w.shape.n + 2
    still = sum (walk_left w) w.shape.n h
      where
        sum : (l n : ℕ) → l ≤ k → l + n + 2 ≤ k + n + 2
        sum l n h = omega (arith, h)

    go : (s : WalkStep) → read_left_at (after_step s j w) w ≤ k + w.shape.n + 2
    go (walking.Looking s) = still
    go (walking.Naming b) = still
    go walking.Arrived = object_left k j w.object.what w
    go (walking.Stopped why) = two k w.shape.n

-- the copy that was chosen takes a read at most
copy_left : (j : LookupJob) (object : Entry) (looked : Looked) (b : BrickId) (w : Walk) → read_left_at (from_copy j object looked b) w ≤ 2
copy_left (job.Read at len) object looked b w = go (len == 0)
  where
    go : (e : Bool) → read_left_at (if e then Ending (reply.Ok (good.Bytes [])) else Reading b (content.Bytes at len)) w ≤ 2
    go true = omega arith
    go false = omega arith
copy_left (job.GetAttr key) object looked b w = omega arith
copy_left job.Ls object looked b w = omega arith
copy_left job.Stat object looked b w = omega arith

module _ (chosen : BrickId) (a : Answer) (at : ℕ) (j : LookupJob) where
  abbrev Nearer : LookupStage → Walk → Type 0
  Nearer stage w = read_left (answered chosen a at (record { walk = w; job = j; stage = stage })) + 1 ≤ read_left_at stage w

  on_way : (w : Walk) → IsWalk w → is_walking w.step ≡ true → Nearer Walking w
  on_way w k e =
      let less = walk_nearer w k e chosen a at in
      let same : (walked chosen a at w).shape ≡ w.shape = shape_kept chosen a w.step (walks.noted (walks.next_in w) (told_by a) at w) in
      sum (walk_left w) (walk_left (walked chosen a at w)) (walked chosen a at w).shape.n w.shape.n (read_left_at (after_walk j (walked chosen a at w)) (walked chosen a at w)) less (ap (λ (q : Shape). q.n) same) (λ m h. walk_leaves m (walked chosen a at w) j h)
    where
      sum : (l r n o x : ℕ) → r + 1 ≤ l → n ≡ o → ((m : ℕ) → r ≤ m → x ≤ m + n + 2) → x + 1 ≤ l + o + 2
      sum l r n o x h e f = let g = f r (omega arith) in omega (arith, h, e, g)

  looking : (w : Walk) (s : Looks) → IsLooks w.shape.n s → Nearer (Looking s) w
  looking w s looks = go (is_nothing (left_to_look w.shape.n t)) (verdict_of w.shape t.looked (kind_of j w.object.what))
    where
      t : Looks
      t = heard_look w.shape.n (told_by a) s

      z : Walk
      z = walks.noted (asked_at (Looking s) w) (told_by a) at w

      falls : count w.shape.n (left_to_look w.shape.n t) + 1 ≤ count w.shape.n (left_to_look w.shape.n s)
      falls = look_falls w.shape.n s t looks.left refl

      low : (x : ℕ) → x ≤ 2 → x + 1 ≤ count w.shape.n (left_to_look w.shape.n s) + 2
      low x h = sum (count w.shape.n (left_to_look w.shape.n t)) (count w.shape.n (left_to_look w.shape.n s)) falls
        where
          sum : (c d : ℕ) → c + 1 ≤ d → x + 1 ≤ d + 2
          sum c d f = omega (arith, f, h)

      still : count w.shape.n (left_to_look w.shape.n t) + 2 + 1 ≤ count w.shape.n (left_to_look w.shape.n s) + 2
      still = sum (count w.shape.n (left_to_look w.shape.n t)) (count w.shape.n (left_to_look w.shape.n s)) falls
        where
          sum : (c d : ℕ) → c + 1 ≤ d → c + 2 + 1 ≤ d + 2
          sum c d f = omega (arith, f)

      go : (e : Bool) (v : Verdict) → read_left_at (if e then object_judged chosen j w.object v t.looked else Looking t) z + 1 ≤ read_left_at (Looking s) w
      go false v = still
      go true Short = low 1 (omega arith)
      go true Bare = low 1 (omega arith)
      go true Split = low 1 (omega arith)
      go true (Sources sources) = low (read_left_at (from_copy j w.object t.looked chosen) z) (copy_left j w.object t.looked chosen z)

  by_stage : (w : Walk) (stage : LookupStage) → IsWalk w → IsStage w.shape.n w.step stage → is_asking stage ≡ true → Nearer stage w
  by_stage w Walking k i e = on_way w k i
  by_stage w (Looking s) k i e = looking w s i
  by_stage w (Reading b of) k i e = omega arith
  by_stage w (Ending said) k i e = absurd (true≢false (sym e))

pub read_nearer : ReadComesNearer
read_nearer m k e chosen a at = by_stage chosen a at m.job m.walk m.stage k.sound k.ready e

pub read_end : ReadKeepsEnd
read_end m = go m.stage
  where
    go : (s : LookupStage) → 1 ≤ read_left_at s m.walk
    go Walking = two (walk_left m.walk) m.walk.shape.n
    go (Looking s) = low (count m.walk.shape.n (left_to_look m.walk.shape.n s))
      where
        low : (c : ℕ) → 1 ≤ c + 2
        low c = omega arith
    go (Reading b of) = omega arith
    go (Ending said) = omega arith

pub read_starts : ReadStartsWithin
read_starts shape path j = walk_leaves (length path * (shape.n + 1)) (walk_from shape path) j (walk_starts shape path)

-- Each line of a rename that counts takes one from the lines that it has left.
use Rattle.std.proofs.Common.{◌≡◌, ℕ, ◌+◌, ◌*◌, ◌-◌, ◌<◌, ◌≤◌, Bool, true, false, refl, sym, subst, ap, arith, length}
use Rattle.std.specs.Prelude.{if◌then◌else◌}
use Rattle.std.proofs.lemmas.List.{length-take}
use Rattle.std.proofs.lemmas.Nat.{mul-le}
use Rattle.afr_base.specs.declared.ids.BrickId.{BrickId}
use Rattle.afr_base.specs.declared.ids.Shape.{Shape}
use Rattle.afr_discipline.specs.Laws.{ShapesKept}
use Rattle.afr_client_entry.specs.declared.stage.Found.{Found}
use Rattle.afr_lines.specs.Told.{told_by}
use Rattle.afr_lines.specs.declared.answer.Answer.{Answer}
use Rattle.afr_lines.specs.declared.reply.Reply.TheVariants as reply
use Rattle.afr_object.specs.Tables.{is_dir}
use Rattle.afr_law_pace.proofs.Nearer.{begins, most, some_end, starts, step_of}
use Rattle.afr_law_pace.proofs.Walks.{shape_kept, walk_nearer, walk_starts}
use Rattle.afr_law_pace.specs.Left as pace
use Rattle.afr_law_pace.specs.Left.{asks_again, count, lines_left}
use Rattle.afr_law_pace.specs.Walks.{for_others, walk_left, walk_left_at}
use Rattle.afr_client_entry.proofs.Renames.RenameLemmas.{first_paths, second_paths}
use Rattle.afr_client_entry.specs.Renames.Against.{against_new, against_old}
use Rattle.afr_client_entry.specs.Renames.Paths.{IsPaths, first_walked, front, making_of, reads_new, reads_old, second_walked}
use Rattle.afr_client_entry.specs.Renames.Rename.{IsMaking, IsSound, after_first, after_second, answered, at_directory, choices_at, first_left, is_done, making_after, second_begun, second_left, stage_begun, unread}
use Rattle.afr_client_entry.specs.Renames.Under.{found_after, progress_after}
use Rattle.afr_client_entry.specs.declared.renaming.paths.Paths.{Paths}
use Rattle.afr_client_entry.specs.declared.renaming.stage.RenameStage.TheVariants.{Ending, Finding, Making, Removing, Walking}
use Rattle.afr_client_entry.specs.declared.renaming.stage.RenameStage.{RenameStage}
use Rattle.afr_law_pace.proofs.Rename.Parts.{begins_there, begun_is, part_nearer, part_shape, turn_nearer}
use Rattle.afr_law_pace.specs.Rename.Renames.{AsksMaking, AsksRename, BeginsRename, FitsRename, RenameBeginsNearer, RenameComesNearer, RenameKeepsEnd, RenameStartsWithin, for_read, rename_again, rename_left, rename_left_at, whole_part}
use Rattle.afr_client_transaction.specs.Progress.{TransactionProgress, begun, starting}
use Rattle.afr_client_transaction.specs.declared.stage.Stage.TheVariants.{Locking}
use Rattle.afr_discipline.proofs.FreeLemmas.{shape_is}
use Rattle.afr_client_walk.specs.Choosing.{IsAmong}
use Rattle.afr_discipline.specs.Free.{IsFree}
use Rattle.afr_client_walk.specs.Looks.{left_to_look}
use Rattle.afr_client_walk.specs.Walk as walks
use Rattle.afr_client_walk.specs.Walk.{IsStep, IsWalk, is_walking, walk_from}
use Rattle.afr_client_walk.specs.declared.walk.Walk.{Walk}
use Rattle.afr_client_walk.specs.declared.walk.WalkStep.TheVariants as walking
use Rattle.afr_client_walk.specs.declared.walk.WalkStep.{WalkStep}

-- ---- the walks
-- a walk has looks and a read left for each name at most
walk_most : (w : Walk) → IsWalk w → walk_left w ≤ length w.path * (w.shape.n + 1)
walk_most w k = go w.step k.step
  where
    whole : (m d read : ℕ) → d * m + m ≤ (d + (read + 1)) * m
    whole m d read = omega arith

    one_name : (m names d read : ℕ) → names ≡ d + (read + 1) → d * m + m ≤ names * m
    one_name m names d read e = subst (λ (z : ℕ). d * m + m ≤ z * m) (sym e) (whole m d read)

    sum : (f g c n : ℕ) → f + (n + 1) ≤ g → c ≤ n → f + c + 1 ≤ g
    sum f g c n h l = omega (arith, h, l)

    sum_one : (f g n : ℕ) → f + (n + 1) ≤ g → f + 1 ≤ g
    sum_one f g n h = omega (arith, h)

    next : w.read < length w.path → for_others w + (w.shape.n + 1) ≤ length w.path * (w.shape.n + 1)
    next less = one_name (w.shape.n + 1) (length w.path) (length w.path - (w.read + 1)) w.read (omega (arith, less))

    go : (s : WalkStep) → IsStep w.shape.n (length w.path) w.read s → walk_left_at s w ≤ length w.path * (w.shape.n + 1)
    go (walking.Looking s) h = sum (for_others w) (length w.path * (w.shape.n + 1)) (count w.shape.n (left_to_look w.shape.n s)) w.shape.n (next h.1) (most w.shape.n (left_to_look w.shape.n s))
    go (walking.Naming b) h = sum_one (for_others w) (length w.path * (w.shape.n + 1)) w.shape.n (next h.1)
    go walking.Arrived h = omega arith
    go (walking.Stopped why) h = omega arith

-- the end, where it comes at once
one_low : (k n : ℕ) → 1 ≤ k + 2 * whole_part n + 1
one_low k n = omega arith

-- what the directory makes of the rename
directory_left : (k : ℕ) (x : Paths) → x.second.register.shape ≡ x.second.shape → rename_left_at (at_directory x) x ≤ k + 2 * whole_part x.second.shape.n + 1
directory_left k x same = go (is_dir x.second.object.what)
  where
    sum : (l n o : ℕ) → l ≤ 6 * n + 2 → n ≡ o → l + 1 + (6 * n + 2) ≤ k + 2 * (6 * o + 2) + 1
    sum l n o h e = omega (arith, h, e)

    go : (d : Bool) → rename_left_at (if d then Making (starting (making_of x x.second.object.gfid) x.second.register) unread else Ending reply.NotDir) x ≤ k + 2 * whole_part x.second.shape.n + 1
    go true =
        sum (lines_left (starting (making_of x x.second.object.gfid) x.second.register)) x.second.register.shape.n x.second.shape.n
        (starts (making_of x x.second.object.gfid) x.second.register) (ap (λ (q : Shape). q.n) same)
    go false = one_low k x.second.shape.n

-- where the second walk leaves it
second_leaves : (k : ℕ) (x : Paths) → IsFree x.second.shape x.second.register → walk_left x.second ≤ k → rename_left_at (after_second x) x ≤ k + 2 * whole_part x.second.shape.n + 1
second_leaves k x free h = go x.second.step
  where
    sum : (l c : ℕ) → l ≤ k → l + c + 1 ≤ k + c + 1
    sum l c h = omega (arith, h)

    still : walk_left x.second + 2 * whole_part x.second.shape.n + 1 ≤ k + 2 * whole_part x.second.shape.n + 1
    still = sum (walk_left x.second) (2 * whole_part x.second.shape.n) h

    go : (s : WalkStep) → rename_left_at (second_left s x) x ≤ k + 2 * whole_part x.second.shape.n + 1
    go (walking.Looking s) = still
    go (walking.Naming b) = still
    go walking.Arrived = directory_left k x (shape_is x.second.shape x.second.register free)
    go (walking.Stopped why) = one_low k x.second.shape.n

-- the lines for the names of the second path
abbrev names_left : Paths → ℕ
names_left x = length x.second.path * (x.second.shape.n + 1)

-- where the first walk leaves it: the second one has all its names before it
first_leaves : (k : ℕ) (x : Paths) → IsPaths x → walk_left x.first ≤ k → rename_left_at (after_first x) x ≤ k + names_left x + 2 * whole_part x.second.shape.n + 1
first_leaves k x p h = go x.first.step
  where
    sum : (l m c : ℕ) → l ≤ k → l + m + c + 1 ≤ k + m + c + 1
    sum l m c h = omega (arith, h)

    more : (l m : ℕ) → l ≤ m → l ≤ k + m
    more l m h = omega (arith, h)

    still : walk_left x.first + names_left x + 2 * whole_part x.second.shape.n + 1 ≤ k + names_left x + 2 * whole_part x.second.shape.n + 1
    still = sum (walk_left x.first) (names_left x) (2 * whole_part x.second.shape.n) h

    arrived : (d : Bool) → rename_left_at (if d then Ending reply.IsDir else after_second x) x ≤ k + names_left x + 2 * whole_part x.second.shape.n + 1
    arrived true = one_low (k + names_left x) x.second.shape.n
    arrived false = second_leaves (k + names_left x) x p.second.free (more (walk_left x.second) (names_left x) (walk_most x.second p.second))

    go : (s : WalkStep) → rename_left_at (first_left s x) x ≤ k + names_left x + 2 * whole_part x.second.shape.n + 1
    go (walking.Looking s) = still
    go (walking.Naming b) = still
    go walking.Arrived = arrived (is_dir x.first.object.what)
    go (walking.Stopped why) = one_low (k + names_left x) x.second.shape.n

module _ (x : Paths) (p : IsPaths x) (chosen : BrickId) (a : Answer) (at : ℕ) where
  abbrev y : Paths
  y = first_walked chosen a at x

  abbrev z : Paths
  z = second_walked chosen a at x

  by_first : is_walking x.first.step ≡ true → IsAmong (walks.choices_of a x.first) chosen → rename_left_at (after_first y) y + 1 ≤ rename_left_at Finding x
  by_first e among =
      sum (rename_left_at (after_first y) y) (walk_left y.first) (walk_left x.first) (names_left x) (2 * whole_part x.second.shape.n)
      (walk_nearer x.first p.first e chosen a at) (first_leaves (walk_left y.first) y (first_paths chosen a at x p e among) (omega arith))
    where
      sum : (l r k c d : ℕ) → r + 1 ≤ k → l ≤ r + c + d + 1 → l + 1 ≤ k + c + d + 1
      sum l r k c d h f = omega (arith, h, f)

  by_second : is_walking x.second.step ≡ true → IsAmong (walks.choices_of a x.second) chosen → rename_left_at (after_second z) z + 1 ≤ rename_left_at Walking x
  by_second e among =
      sum (rename_left_at (after_second z) z) (walk_left z.second) (walk_left x.second) z.second.shape.n x.second.shape.n
      (walk_nearer x.second p.second e chosen a at) (ap (λ (q : Shape). q.n) (shape_kept chosen a x.second.step (walks.noted (walks.next_in x.second) (told_by a) at x.second)))
      (second_leaves (walk_left z.second) z (second_paths chosen a at x p e among).second.free (omega arith))
    where
      sum : (l r k n o : ℕ) → r + 1 ≤ k → n ≡ o → l ≤ r + 2 * (6 * n + 2) + 1 → l + 1 ≤ k + 2 * (6 * o + 2) + 1
      sum l r k n o h e f = omega (arith, h, e, f)

-- ---- the transactions
module _ (shapes : ShapesKept) (x : Paths) (chosen : BrickId) (a : Answer) (at : ℕ) (t : TransactionProgress) (found : Found) where
  -- the first transaction after an answer, before it is done
  abbrev after : TransactionProgress
  after = progress_after found (against_new a) (reads_new x) (told_by a) at t

  by_making : IsMaking x t found → AsksMaking (is_done t) found t → pace.FitsAnUnlock (if is_done t then Locking else t.stage) (told_by a)
      → rename_left_at (if is_done t then second_begun (told_by a) at x t else making_after chosen found a at x t) x + step_of (asks_again (if is_done t then Locking else t.stage) (told_by a)) ≤ rename_left_at (Making t found) x
  by_making k asks fits = go (is_done t) refl asks fits
    where
      sum : (l r s e f n o : ℕ) → l + r + s ≤ e + f → n ≡ o → l + r + (6 * n + 2) + s ≤ e + f + (6 * o + 2)
      sum l r s e f n o h same = omega (arith, h, same)

      go : (d : Bool) → is_done t ≡ d → AsksMaking d found t → pace.FitsAnUnlock (if d then Locking else t.stage) (told_by a)
          → rename_left_at (if d then second_begun (told_by a) at x t else making_after chosen found a at x t) x + step_of (asks_again (if d then Locking else t.stage) (told_by a)) ≤ lines_left t + for_read found + whole_part t.register.shape.n
      go true done asks fits = turn_nearer x t found k done (told_by a) at fits
      go false done asks fits =
          sum (lines_left after) (for_read (found_after chosen found (against_new a) t.stage)) (step_of (asks_again t.stage (told_by a))) (lines_left t) (for_read found) after.register.shape.n t.register.shape.n
          (part_nearer shapes t (against_new a) (reads_new x) (told_by a) at k.under.sound chosen found asks fits) (ap (λ (q : Shape). q.n) (part_shape shapes t (against_new a) (reads_new x) (told_by a) at found asks))

-- ---- the rename
by_stage : ShapesKept → (x : Paths) (stage : RenameStage) → IsPaths x → IsSound x stage → AsksRename stage → (chosen : BrickId) (a : Answer) (at : ℕ) → IsAmong (choices_at stage a at x) chosen → FitsRename stage (told_by a)
    → rename_left (answered chosen a at (record { paths = x; stage = stage })) + step_of (rename_again stage (told_by a)) ≤ rename_left_at stage x
by_stage shapes x Finding p k asks chosen a at among fits = by_first x p chosen a at k among
by_stage shapes x Walking p k asks chosen a at among fits = by_second x p chosen a at k.0 among
by_stage shapes x (Making t found) p k asks chosen a at among fits = by_making shapes x chosen a at t found k asks fits
by_stage shapes x (Removing t found) p k asks chosen a at among fits = part_nearer shapes t (against_old x.first.object.gfid a) (reads_old x) (told_by a) at k.under.sound chosen found asks fits
by_stage shapes x (Ending said) p k asks chosen a at among fits = absurd asks

pub rename_nearer : ShapesKept → RenameComesNearer
rename_nearer shapes m k asks chosen a at among fits = by_stage shapes m.paths m.stage k.paths k.sound asks chosen a at among fits

pub rename_begins : RenameBeginsNearer
rename_begins m first chosen at = go m.stage first
  where
    sum : (l k r w : ℕ) → l + 1 ≤ k → l + r + w + 1 ≤ k + r + w
    sum l k r w h = omega (arith, h)

    sum_last : (l k r : ℕ) → l + 1 ≤ k → l + r + 1 ≤ k + r
    sum_last l k r h = omega (arith, h)

    go : (stage : RenameStage) → BeginsRename stage → rename_left_at (stage_begun stage at) m.paths + 1 ≤ rename_left_at stage m.paths
    go Finding is = absurd is
    go Walking is = absurd is
    go (Making t found) is =
        subst (λ (q : TransactionProgress). lines_left q + for_read found + whole_part q.register.shape.n + 1 ≤ lines_left t + for_read found + whole_part t.register.shape.n) (sym (begun_is found t at is))
        (sum (lines_left (begun at t)) (lines_left t) (for_read found) (whole_part t.register.shape.n) (begins t (begins_there found t is) at))
    go (Removing t found) is =
        subst (λ (q : TransactionProgress). lines_left q + for_read found + 1 ≤ lines_left t + for_read found) (sym (begun_is found t at is))
        (sum_last (lines_left (begun at t)) (lines_left t) (for_read found) (begins t (begins_there found t is) at))
    go (Ending said) is = absurd is

pub rename_end : RenameKeepsEnd
rename_end m = go m.stage
  where
    go : (s : RenameStage) → 1 ≤ rename_left_at s m.paths
    go Finding = one_low (walk_left m.paths.first + length m.paths.second.path * (m.paths.second.shape.n + 1)) m.paths.second.shape.n
    go Walking = one_low (walk_left m.paths.second) m.paths.second.shape.n
    go (Making t found) = (let h = some_end t in omega (arith, h))
    go (Removing t found) = (let h = some_end t in omega (arith, h))
    go (Ending said) = omega arith

pub rename_starts : RenameStartsWithin
rename_starts shape from to = sum (walk_left (walk_from shape from)) (length (front to) * (shape.n + 1)) (length from) (length to) shape.n (walk_starts shape from) (mul-le (length (front to)) (shape.n + 1) (length to) (shape.n + 1) shorter (omega arith))
  where
    shorter : length (front to) ≤ length to
    shorter = (let e = length-take (length to - 1) to in omega (arith, e))

    sum : (w f l m n : ℕ) → w ≤ l * (n + 1) → f ≤ m * (n + 1) → w + f + 2 * (6 * n + 2) + 1 ≤ (l + m) * (n + 1) + 14 * n + 6
    sum w f l m n h e = omega (arith, h, e)

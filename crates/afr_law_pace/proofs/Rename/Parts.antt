-- Each line of one of a rename's transactions that counts takes one from the lines that it has left.
use Rattle.std.proofs.Common.{◌≡◌, ℕ, ◌+◌, ◌*◌, ◌≤◌, true, refl, sym, subst, ap, ◌∙◌, arith, inl, Option, Some, None}
use Rattle.std.specs.Prelude.{if◌then◌else◌}
use Rattle.afr_base.specs.Bricks.{lowest}
use Rattle.afr_base.specs.declared.ids.BrickId.{BrickId}
use Rattle.afr_base.specs.declared.ids.Shape.{Shape}
use Rattle.afr_client_transaction.proofs.Again.FollowsLemmas.{again_new}
use Rattle.afr_discipline.specs.Laws.{ShapesKept}
use Rattle.afr_discipline.specs.Stands.{no_lines}
use Rattle.afr_client_entry.specs.Entry.{found_by, progress_begun, settled}
use Rattle.afr_client_entry.specs.declared.refusal.Refusal.{Refusal}
use Rattle.afr_client_entry.specs.declared.stage.Found.TheVariants.{Fits, Refused, Unread}
use Rattle.afr_client_entry.specs.declared.stage.Found.{Found}
use Rattle.afr_lines.specs.declared.answer.Told.{Told}
use Rattle.afr_lines.specs.declared.request.Request.{Request}
use Rattle.afr_law_pace.proofs.Nearer.{by_stage, most, nearer, some_end, starts, step_of}
use Rattle.afr_law_pace.proofs.Writes.{told_is}
use Rattle.afr_law_pace.specs.Left as pace
use Rattle.afr_law_pace.specs.Left.{asks_again, left_at, lines_left}
use Rattle.afr_client_entry.proofs.Renames.RenameLemmas.{done_is, removal_suits}
use Rattle.afr_client_entry.specs.Renames.Paths.{removal_of}
use Rattle.afr_client_entry.specs.Renames.Rename.{IsMaking, is_done, turned}
use Rattle.afr_client_entry.specs.Renames.Under.{found_after, progress_after}
use Rattle.afr_client_entry.specs.declared.renaming.paths.Paths.{Paths}
use Rattle.afr_law_pace.specs.Rename.Renames.{for_read, whole_part}
use Rattle.afr_law_pace.specs.Entry.Entries.{AsksUnder, BeginsUnder}
use Rattle.afr_law_pace.proofs.Entry.Entries.{asked_shape}
use Rattle.afr_client_transaction.proofs.Kept.{sound_first}
use Rattle.afr_client_transaction.specs.Between.{noted_read}
use Rattle.afr_client_transaction.specs.Progress as transaction
use Rattle.afr_client_transaction.specs.Progress.{TransactionProgress, begun, fed, is_beginning, left, request_at, starting}
use Rattle.afr_client_transaction.specs.Sound.{During, IsAsking, Sound}
use Rattle.afr_client_transaction.specs.declared.stage.Stage.TheVariants.{Applying, Beginning, Closing, Locking, Looking, Posting, Preparing}
use Rattle.afr_client_transaction.specs.declared.stage.Stage.{Stage}

module _ (shapes : ShapesKept) (t : TransactionProgress) (why : Option Refusal) (asked : Request) (told : Told) (at : ℕ) where
  -- the name is noted, and the change goes on or not
  named_shape : (b : BrickId) → (settled why (noted_read b.0 asked told at t)).register.shape ≡ t.register.shape
  named_shape b = go why
    where
      go : (why : Option Refusal) → (settled why (noted_read b.0 asked told at t)).register.shape ≡ t.register.shape
      go None = asked_shape shapes t.register at b.0 asked told
      go (Some r) = asked_shape shapes t.register at b.0 asked told

  answered_shape : (stage : Stage) → (transaction.answered stage told at t).register.shape ≡ t.register.shape
  answered_shape stage = asked_shape shapes t.register at (lowest (left stage t)) (request_at stage t) told

  told_shape : (stage : Stage) → IsAsking stage t → (if is_beginning stage then t else fed stage told at t).register.shape ≡ t.register.shape
  told_shape stage e = ap (λ (q : TransactionProgress). q.register.shape) (told_is told at t stage e) ∙ answered_shape stage

  -- an answer keeps the bricks
  pub part_shape : (found : Found) → AsksUnder found t.stage t → (progress_after found why asked told at t).register.shape ≡ t.register.shape
  part_shape (Unread b) e = go t.stage e
    where
      go : (stage : Stage) → AsksUnder (Unread b) stage t → (if is_beginning stage then settled why (noted_read b.0 asked told at t) else fed stage told at t).register.shape ≡ t.register.shape
      go Beginning e = named_shape b
      go Locking e = answered_shape Locking
      go Looking e = answered_shape Looking
      go Preparing e = answered_shape Preparing
      go Applying e = answered_shape Applying
      go Posting e = answered_shape Posting
      go Closing e = answered_shape Closing
  part_shape Fits e = told_shape t.stage e
  part_shape (Refused r) e = told_shape t.stage e

  module _ (sound : Sound t) (chosen : BrickId) where
    abbrev n : ℕ
    n = t.register.shape.n

    -- the lines after an answer, as long as the name isn't read
    abbrev UnreadNearer : BrickId → Stage → Type 0
    UnreadNearer b stage =
        lines_left (if is_beginning stage then settled why (noted_read b.0 asked told at t) else fed stage told at t) + for_read (if is_beginning stage then found_by why else Unread chosen)
        + (if asks_again stage told then 0 else 1) ≤ left_at stage t + 1

    -- the transaction goes on
    goes : (stage : Stage) → During stage t → IsAsking stage t → pace.FitsAnUnlock stage told → lines_left (transaction.answered stage told at t) + 1 + step_of (asks_again stage told) ≤ left_at stage t + 1
    goes stage d e fits = sum (lines_left (transaction.answered stage told at t)) (step_of (asks_again stage told)) (left_at stage t) (by_stage t sound told at stage d e fits)
      where
        sum : (l c m : ℕ) → l + c ≤ m → l + 1 + c ≤ m + 1
        sum l c m h = omega (arith, h)

    -- the name is read
    reads : (b : BrickId) → t.stage ≡ Beginning → UnreadNearer b Beginning
    reads b first = go why
      where
        u : TransactionProgress
        u = noted_read b.0 asked told at t

        same : u.register.shape.n ≡ n
        same = ap (λ (q : Shape). q.n) (asked_shape shapes t.register at b.0 asked told)

        fitting : (stage : Stage) → stage ≡ Beginning → left_at stage u + 0 + 1 ≤ 4 * n + 2 + 1
        fitting stage is = subst (λ (s : Stage). left_at s u + 0 + 1 ≤ 4 * n + 2 + 1) (sym is) (omega (arith, same))

        go : (why : Option Refusal) → lines_left (settled why u) + for_read (found_by why) + 1 ≤ 4 * n + 2 + 1
        go None = fitting u.stage first
        go (Some r) = (let k = most u.register.shape.n (left Closing u) in omega (arith, k, same))

    unread : (b : BrickId) (stage : Stage) → t.stage ≡ stage → During stage t → AsksUnder (Unread b) stage t → pace.FitsAnUnlock stage told → UnreadNearer b stage
    unread b Beginning is d e fits = reads b is
    unread b Locking is d e fits = goes Locking d e fits
    unread b Looking is d e fits = goes Looking d e fits
    unread b Preparing is d e fits = goes Preparing d e fits
    unread b Applying is d e fits = goes Applying d e fits
    unread b Posting is d e fits = goes Posting d e fits
    unread b Closing is d e fits = goes Closing d e fits

    -- the name was read
    read : IsAsking t.stage t → pace.FitsAnUnlock t.stage told → lines_left (if is_beginning t.stage then t else fed t.stage told at t) + 0 + step_of (asks_again t.stage told) ≤ lines_left t + 0
    read e fits = subst (λ (q : TransactionProgress). lines_left q + 0 + step_of (asks_again t.stage told) ≤ lines_left t + 0) (sym (told_is told at t t.stage e)) (let h = nearer t sound e told at fits in omega (arith, h))

    pub part_nearer : (found : Found) → AsksUnder found t.stage t → pace.FitsAnUnlock t.stage told
        → lines_left (progress_after found why asked told at t) + for_read (found_after chosen found why t.stage) + step_of (asks_again t.stage told) ≤ lines_left t + for_read found
    part_nearer (Unread b) e fits = unread b t.stage refl sound.during e fits
    part_nearer Fits e fits = read e fits
    part_nearer (Refused r) e fits = read e fits

-- ---- a Begin line
pub begins_there : (found : Found) (t : TransactionProgress) → BeginsUnder found t.stage → t.stage ≡ Beginning
begins_there (Unread b) t is = absurd is
begins_there Fits t is = is
begins_there (Refused why) t is = is

pub begun_is : (found : Found) (t : TransactionProgress) (at : ℕ) → BeginsUnder found t.stage → progress_begun found at t ≡ begun at t
begun_is (Unread b) t at is = absurd is
begun_is Fits t at is = subst (λ (s : Stage). (if is_beginning s then begun at t else t) ≡ begun at t) (sym is) refl
begun_is (Refused why) t at is = subst (λ (s : Stage). (if is_beginning s then begun at t else t) ≡ begun at t) (sym is) refl

-- ---- the turn
-- the second transaction's first lock: before it the first one had its end left, and the second one was counted whole
pub turn_nearer : (x : Paths) (t : TransactionProgress) (found : Found) → IsMaking x t found → is_done t ≡ true → (told : Told) (at : ℕ) → pace.FitsAnUnlock Locking told
    → lines_left (fed Locking told at (turned x t)) + 1 + step_of (asks_again Locking told) ≤ lines_left t + for_read found + whole_part t.register.shape.n
turn_nearer x t found k done told at fits =
    let d = done_is t k.under.sound done in
    let same = again_new t (removal_of x) told at k.under.sound k.plain d.0 in
    let sound = sound_first (no_lines t.register.shape) (removal_of x) (inl refl) k.under.sound.base.few d.2 (removal_suits x) in
    let near = nearer (starting (removal_of x) (no_lines t.register.shape)) sound sound.ready told at fits in
    sum (lines_left (fed Locking told at (turned x t))) (lines_left (fed Locking told at (starting (removal_of x) (no_lines t.register.shape)))) (step_of (asks_again Locking told)) (lines_left (starting (removal_of x) (no_lines t.register.shape))) t.register.shape.n (lines_left t) (for_read found)
    (ap lines_left same) near (starts (removal_of x) (no_lines t.register.shape)) (some_end t)
  where
    sum : (l m s w n e r : ℕ) → l ≡ m → m + s ≤ w → w ≤ 6 * n + 2 → 1 ≤ e → l + 1 + s ≤ e + r + (6 * n + 2)
    sum l m s w n e r same near low end = omega (arith, same, near, low, end)

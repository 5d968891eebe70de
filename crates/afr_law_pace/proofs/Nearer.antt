-- Each line of a transaction that counts takes one from the lines that it has left.
use Rattle.std.proofs.Common.{◌≡◌, ℕ, ◌+◌, ◌*◌, ◌<◌, ◌≤◌, not, Bool, true, false, inl, inr, refl, sym, subst, arith, List, [], true≢false}
use Rattle.std.specs.Prelude.{if◌then◌else◌}
use Rattle.afr_base.specs.Bricks.{added, added_if, below, is_nothing, lowest, member, minus, removed}
use Rattle.afr_base.specs.Majority.{is_majority}
use Rattle.afr_base.specs.SetLemmas.{lowest_in, lowest_left, some_member, within_below}
use Rattle.afr_choice.specs.Verdict.{holders_of}
use Rattle.afr_choice.specs.VerdictLemmas.{holders_below}
use Rattle.afr_choice.specs.Looks.{no_looks}
use Rattle.afr_discipline.specs.Notes.{asked_at, dropped, is_working, noted_ask, noted_law, second_left, stayed}
use Rattle.afr_discipline.specs.declared.register.Register.{Register}
use Rattle.afr_discipline.specs.declared.register.Step.TheVariants as step
use Rattle.afr_lines.specs.Areas.{area_for, kind_for}
use Rattle.afr_lines.specs.declared.answer.Told.TheVariants.{Done, Failed, NotConnected}
use Rattle.afr_lines.specs.declared.answer.Told.{Told}
use Rattle.afr_lines.specs.declared.request.Request.TheVariants as request
use Rattle.afr_model_moves.specs.Note.{is_failed, is_held}
use Rattle.afr_model_moves.specs.Past.{is_gone}
use Rattle.afr_model_moves.specs.Rules.{is_area}
use Rattle.afr_model_moves.proofs.AreaLemmas.{own_area}
use Rattle.afr_lines.specs.declared.lock.Domain.TheVariants.{Work}
use Rattle.afr_counting.proofs.Counts.{count_most}
use Rattle.afr_law_pace.proofs.Counting.{asked_falls, removed_falls}
use Rattle.afr_law_pace.specs.Laws.{BeginsNearer, ComesNearer, KeepsEnd, StartsWithin}
use Rattle.afr_law_pace.specs.Left.{FitsAnUnlock, asks_again, count, left_at, lines_left}
use Rattle.afr_client_transaction.proofs.Parts.{holder_shows}
use Rattle.afr_client_transaction.proofs.Requests.{after_outside, noted_is}
use Rattle.afr_client_transaction.specs.Progress.{TransactionProgress, after, begun, enough, gone_on, left, may_start, request_at, sets_after, starting}
use Rattle.afr_client_transaction.specs.Sound.{During, IsAsking, Sound}
use Rattle.afr_client_transaction.specs.declared.stage.Stage.TheVariants.{Applying, Beginning, Closing, Locking, Looking, Posting, Preparing}
use Rattle.afr_client_transaction.specs.declared.stage.Stage.{Stage}

pub most : (n : ℕ) (s : List ℕ) → count n s ≤ n
most n s = count_most n (member s)

-- a lost session takes no phase along
pub pre_kept : (gone : Bool) (b : ℕ) (l : Register) → (dropped gone b l).pre ≡ l.pre
pre_kept true b l = refl
pre_kept false b l = refl

pub done_kept : (gone : Bool) (b : ℕ) (l : Register) → (dropped gone b l).done ≡ l.done
done_kept true b l = refl
done_kept false b l = refl

-- ---- where nobody is left to ask
-- none where the brick is asked again, else one
abbrev pub step_of : Bool → ℕ
step_of again = if again then 0 else 1

pub step_low : (again : Bool) → step_of again ≤ 1
step_low true = omega arith
step_low false = omega arith

module _ (x : TransactionProgress) (c target : ℕ) where
  abbrev n : ℕ
  n = x.register.shape.n

  -- the stage goes on, or the next one comes
  goes_on : (stage : Stage) → left_at stage x + c ≤ target → left_at (gone_on stage x.change x.register x.asked) x + c ≤ target → left_at (after stage x) x + c ≤ target
  goes_on stage a b = go (is_nothing (left stage x))
    where
      go : (e : Bool) → left_at (if e then gone_on stage x.change x.register x.asked else stage) x + c ≤ target
      go true = b
      go false = a

  either : (stage : Stage) → left_at stage x + c ≤ target → left_at Closing x + c ≤ target → (on : Bool) → left_at (if on then stage else Closing) x + c ≤ target
  either stage a b true = a
  either stage a b false = b

  end_low : n + 1 + c ≤ target → left_at Closing x + c ≤ target
  end_low h = (let k = most n (left Closing x) in omega (arith, k, h))

  locks_next : n + 4 * n + 2 + c ≤ target → left_at (gone_on Locking x.change x.register x.asked) x + c ≤ target
  locks_next h = (let k = most n (left Looking x) in either Looking (omega (arith, k, h)) (end_low (omega (arith, h))) (is_majority x.register.shape.n x.asked.locked_on))

  looks_next : 4 * n + 2 + c ≤ target → left_at (gone_on Looking x.change x.register x.asked) x + c ≤ target
  looks_next h = either Beginning h (end_low (omega (arith, h))) (may_start x.register x.change)

  pres_next : n + 2 * n + 1 + c ≤ target → left_at (gone_on Preparing x.change x.register x.asked) x + c ≤ target
  pres_next h = (let k = most n (left Applying x) in either Applying (omega (arith, k, h)) (end_low (omega (arith, h))) (enough x.register (kind_for x.change) x.register.pre))

  applies_next : n + n + 1 + c ≤ target → left_at (gone_on Applying x.change x.register x.asked) x + c ≤ target
  applies_next h = (let k = most n (left Posting x) in either Posting (omega (arith, k, h)) (end_low (omega (arith, h))) (enough x.register (kind_for x.change) x.register.done))

-- ---- from one moment to the next
module _ (m x : TransactionProgress) (same : x.register.shape.n ≡ m.register.shape.n) where
  abbrev k : ℕ
  k = m.register.shape.n

  locked_nearer : (again : Bool) → count k (minus (below k) x.asked.lock_asked) + step_of again ≤ count k (minus (below k) m.asked.lock_asked) → left_at (after Locking x) x + step_of again ≤ left_at Locking m
  locked_nearer again falls =
      let low = step_low again in
      goes_on x (step_of again) (left_at Locking m) Locking
      (subst (λ (z : ℕ). count z (minus (below z) x.asked.lock_asked) + 5 * z + 2 + step_of again ≤ left_at Locking m) (sym same) (omega (arith, falls)))
      (locks_next x (step_of again) (left_at Locking m) (omega (arith, same, falls, low)))

  looked_nearer : count k (minus x.asked.locked_on x.asked.looked_at) + 1 ≤ count k (left Looking m) → left_at (after Looking x) x + 1 ≤ left_at Looking m
  looked_nearer falls =
      goes_on x 1 (left_at Looking m) Looking
      (subst (λ (z : ℕ). count z (minus x.asked.locked_on x.asked.looked_at) + 4 * z + 2 + 1 ≤ left_at Looking m) (sym same) (omega (arith, falls)))
      (looks_next x 1 (left_at Looking m) (omega (arith, same, falls)))

  prepared_nearer : count k (left Preparing x) + 1 ≤ count k (left Preparing m) → left_at (after Preparing x) x + 1 ≤ left_at Preparing m
  prepared_nearer falls =
      goes_on x 1 (left_at Preparing m) Preparing
      (subst (λ (z : ℕ). count z (left Preparing x) + 3 * z + 1 + 1 ≤ left_at Preparing m) (sym same) (omega (arith, falls)))
      (pres_next x 1 (left_at Preparing m) (omega (arith, same, falls)))

  applied_nearer : count k (left Applying x) + 1 ≤ count k (left Applying m) → left_at (after Applying x) x + 1 ≤ left_at Applying m
  applied_nearer falls =
      goes_on x 1 (left_at Applying m) Applying
      (subst (λ (z : ℕ). count z (left Applying x) + 2 * z + 1 + 1 ≤ left_at Applying m) (sym same) (omega (arith, falls)))
      (applies_next x 1 (left_at Applying m) (omega (arith, same, falls)))

  posted_nearer : count k (left Posting x) + 1 ≤ count k (left Posting m) → left_at (after Posting x) x + 1 ≤ left_at Posting m
  posted_nearer falls =
      goes_on x 1 (left_at Posting m) Posting
      (subst (λ (z : ℕ). count z (left Posting x) + z + 1 + 1 ≤ left_at Posting m) (sym same) (omega (arith, falls)))
      (end_low x 1 (left_at Posting m) (omega (arith, same, falls)))

  closed_nearer : (again : Bool) → count k x.register.held + step_of again ≤ count k m.register.held → left_at (after Closing x) x + step_of again ≤ left_at Closing m
  closed_nearer again falls =
      let h : left_at Closing x + step_of again ≤ left_at Closing m = subst (λ (z : ℕ). count z x.register.held + 1 + step_of again ≤ left_at Closing m) (sym same) (omega (arith, falls)) in
      goes_on x (step_of again) (left_at Closing m) Closing h h

-- ---- an answer
module _ (m : TransactionProgress) (s : Sound m) (told : Told) (at : ℕ) where
  abbrev r : Register
  r = m.register

  abbrev asked_of : Stage → ℕ
  asked_of stage = lowest (left stage m)

  abbrev register_by : Stage → Register
  register_by stage = after_outside r (asked_of stage) (request_at stage m) told

  abbrev next_by : Stage → TransactionProgress
  next_by stage = sets_after stage (asked_of stage) told (register_by stage) m

  abbrev Nearer : Stage → TransactionProgress → Type 0
  Nearer stage x = left_at (after stage x) x + step_of (asks_again stage told) ≤ left_at stage m

  -- the machine with the register as it computes outside a heal
  seen : (stage : Stage) → Nearer stage (next_by stage) → Nearer stage (sets_after stage (asked_of stage) told (noted_ask r at (asked_of stage) (request_at stage m) told) m)
  seen stage h = subst (λ (q : Register). Nearer stage (sets_after stage (asked_of stage) told q m)) (sym (noted_is r at (asked_of stage) (request_at stage m) told s.base.outside)) h

  -- the shape stays
  lock_shape : (register_by Locking).shape.n ≡ r.shape.n
  lock_shape = go (is_working r)
    where
      go : (w : Bool) → (if w then stayed r else record r { step = step.Open; asked = []; unlocked = false; looked = no_looks }).shape.n ≡ r.shape.n
      go true = refl
      go false = refl

  locking : is_nothing (left Locking m) ≡ false → Nearer Locking (next_by Locking)
  locking e = go (is_held told) refl
    where
      there : (member m.asked.lock_asked (lowest (left Locking m)) ≡ false) × (member (below r.shape.n) (lowest (left Locking m)) ≡ true)
      there = lowest_left (below r.shape.n) m.asked.lock_asked e

      falls : (h : Bool) → count r.shape.n (minus (below r.shape.n) (added_if (not h) (lowest (left Locking m)) m.asked.lock_asked)) + step_of h ≤ count r.shape.n (minus (below r.shape.n) m.asked.lock_asked)
      falls true = omega arith
      falls false = asked_falls r.shape.n (lowest (left Locking m)) (below r.shape.n) m.asked.lock_asked (within_below r.shape.n _ there.1) there.1 there.0

      go : (h : Bool) → is_held told ≡ h → Nearer Locking (next_by Locking)
      go h f = locked_nearer m (next_by Locking) lock_shape (is_held told) (falls (is_held told))

  looking : During Looking m → is_nothing (left Looking m) ≡ false → Nearer Looking (next_by Looking)
  looking d e =
      let there = lowest_left m.asked.locked_on m.asked.looked_at e in
      looked_nearer m (next_by Looking) refl (asked_falls r.shape.n (lowest (left Looking m)) m.asked.locked_on m.asked.looked_at (d.within _ there.1) there.1 there.0)

  preparing : is_nothing (left Preparing m) ≡ false → Nearer Preparing (next_by Preparing)
  preparing e =
      let there = lowest_left (holders_of r.looked) (asked_at r step.Pres) e in
      let small = s.base.shown.reached _ (holder_shows _ r.looked there.1 (holders_below r.looked _ there.1)).1 in
      prepared_nearer m (next_by Preparing) refl (asked_falls r.shape.n (lowest (left Preparing m)) (holders_of r.looked) (asked_at r step.Pres) small there.1 there.0)

  applying : is_nothing (left Applying m) ≡ false → Nearer Applying (next_by Applying)
  applying e =
      let there = lowest_left r.pre (asked_at r step.Applies) e in
      let falls = asked_falls r.shape.n (lowest (left Applying m)) r.pre (asked_at r step.Applies) (s.base.pre_within _ there.1) there.1 there.0 in
      applied_nearer m (next_by Applying) refl
      (subst (λ (q : List ℕ). count r.shape.n (minus q (added (lowest (left Applying m)) (asked_at r step.Applies))) + 1 ≤ count r.shape.n (left Applying m))
      (sym (pre_kept (is_gone told) (lowest (left Applying m)) (noted_law r (lowest (left Applying m)) (request_at Applying m) told))) falls)

  posting : is_nothing (left Posting m) ≡ false → Nearer Posting (next_by Posting)
  posting e =
      let there = lowest_left r.done (asked_at r step.Posts) e in
      let falls = asked_falls r.shape.n (lowest (left Posting m)) r.done (asked_at r step.Posts) (s.base.done_within _ there.1) there.1 there.0 in
      posted_nearer m (next_by Posting) refl
      (subst (λ (q : List ℕ). count r.shape.n (minus q (added (lowest (left Posting m)) (asked_at r step.Posts))) + 1 ≤ count r.shape.n (left Posting m))
      (sym (done_kept (is_gone told) (lowest (left Posting m)) (noted_law r (lowest (left Posting m)) (request_at Posting m) told))) falls)

  closing : FitsAnUnlock Closing told → is_nothing (left Closing m) ≡ false → Nearer Closing (next_by Closing)
  closing fits e = closed_nearer m (next_by Closing) refl (is_failed told) (part told fits)
    where
      b : ℕ
      b = lowest (left Closing m)

      here : member r.held b ≡ true
      here = lowest_in r.held e

      low : b < r.shape.n
      low = s.base.held_within b here

      own : is_area r.area (area_for m.change) ≡ true
      own = own_area r.area (area_for m.change) (s.base.of_held (some_member r.held b here))

      removed_one : count r.shape.n (removed b r.held) + 1 ≤ count r.shape.n r.held
      removed_one = removed_falls r.shape.n b r.held low here

      given : (x : Bool) → x ≡ true → (if x then record r { held = removed b r.held } else record r { second_held = second_left r (area_for m.change) b }).held ≡ removed b r.held
      given true f = refl
      given false f = absurd (true≢false (sym f))

      done : (t : Told) → t ≡ Done → count r.shape.n (dropped (is_gone t) b (noted_law r b (request.Unlock Work (area_for m.change)) t)).held + step_of (is_failed t) ≤ count r.shape.n r.held
      done t is = subst (λ (d : Told). count r.shape.n (dropped (is_gone d) b (noted_law r b (request.Unlock Work (area_for m.change)) d)).held + step_of (is_failed d) ≤ count r.shape.n r.held) (sym is)
          (subst (λ (q : List ℕ). count r.shape.n q + 1 ≤ count r.shape.n r.held) (sym (given (is_area r.area (area_for m.change)) own)) removed_one)

      lost : (t : Told) → t ≡ NotConnected → count r.shape.n (dropped (is_gone t) b (noted_law r b (request.Unlock Work (area_for m.change)) t)).held + step_of (is_failed t) ≤ count r.shape.n r.held
      lost t is = subst (λ (d : Told). count r.shape.n (dropped (is_gone d) b (noted_law r b (request.Unlock Work (area_for m.change)) d)).held + step_of (is_failed d) ≤ count r.shape.n r.held) (sym is) removed_one

      failed : (t : Told) → t ≡ Failed → count r.shape.n (dropped (is_gone t) b (noted_law r b (request.Unlock Work (area_for m.change)) t)).held + step_of (is_failed t) ≤ count r.shape.n r.held
      failed t is = subst (λ (d : Told). count r.shape.n (dropped (is_gone d) b (noted_law r b (request.Unlock Work (area_for m.change)) d)).held + step_of (is_failed d) ≤ count r.shape.n r.held) (sym is) (omega arith)

      part : (t : Told) → FitsAnUnlock Closing t → count r.shape.n (dropped (is_gone t) b (noted_law r b (request.Unlock Work (area_for m.change)) t)).held + step_of (is_failed t) ≤ count r.shape.n r.held
      part t (inl is) = done t is
      part t (inr (inl is)) = lost t is
      part t (inr (inr is)) = failed t is

  pub by_stage : (stage : Stage) → During stage m → IsAsking stage m → FitsAnUnlock stage told → left_at (after stage (sets_after stage (asked_of stage) told (noted_ask r at (asked_of stage) (request_at stage m) told) m)) (sets_after stage (asked_of stage) told (noted_ask r at (asked_of stage) (request_at stage m) told) m) + step_of (asks_again stage told) ≤ left_at stage m
  by_stage Locking d e fits = seen Locking (locking e)
  by_stage Looking d e fits = seen Looking (looking d e)
  by_stage Beginning d e fits = absurd e
  by_stage Preparing d e fits = seen Preparing (preparing e)
  by_stage Applying d e fits = seen Applying (applying e)
  by_stage Posting d e fits = seen Posting (posting e)
  by_stage Closing d e fits = seen Closing (closing fits e)

pub nearer : ComesNearer
nearer m s e told at fits = by_stage m s told at m.stage s.during e fits

pub begins : BeginsNearer
begins m is at = (let k = most m.register.shape.n (left Preparing (begun at m)) in subst (λ (stage : Stage). lines_left (begun at m) + 1 ≤ left_at stage m) (sym is) (omega (arith, k)))

pub some_end : KeepsEnd
some_end m = go m.stage
  where
    go : (stage : Stage) → 1 ≤ left_at stage m
    go Locking = omega arith
    go Looking = omega arith
    go Beginning = omega arith
    go Preparing = omega arith
    go Applying = omega arith
    go Posting = omega arith
    go Closing = omega arith

pub starts : StartsWithin
starts change r = (let k = most r.shape.n (left Locking (starting change r)) in omega (arith, k))

-- Each line of a removal that counts takes one from the lines that it has left.
use Rattle.std.proofs.Common.{◌≡◌, ℕ, ◌+◌, ◌*◌, ◌<◌, ◌≤◌, ◌⊎◌, inl, inr, not, Bool, true, false, refl, sym, ◌∙◌, subst, ap, arith, List, [], Some, None, true≢false}
use Rattle.std.specs.Prelude.{if◌then◌else◌}
use Rattle.afr_base.specs.Bricks.{added, added_if, is_nothing, lowest, member, minus, removed}
use Rattle.afr_base.specs.SetLemmas.{lowest_in, lowest_left}
use Rattle.afr_base.specs.declared.ids.BrickId.{BrickId}
use Rattle.afr_choice.specs.Verdict.{holders_of}
use Rattle.afr_choice.specs.VerdictLemmas.{holders_below}
use Rattle.afr_discipline.specs.Notes.{asked_at, dropped, noted_law}
use Rattle.afr_discipline.specs.declared.register.Register.{Register}
use Rattle.afr_discipline.specs.declared.register.Step.TheVariants as step
use Rattle.afr_law_pace.proofs.Entry.Sets.{common_less, left_falls, left_less, removed_in, removed_less}
use Rattle.afr_law_pace.proofs.Entry.Stages.{applies_next, goes_on, list_next, locks_next, looks_next, posts_next, pres_next}
use Rattle.afr_law_pace.specs.Entry.Removals.{FitsRemoval, RemovalBeginsNearer, RemovalComesNearer, RemovalKeepsEnd, RemovalStartsWithin, closing_left, removal_again, removal_left, removal_left_in}
use Rattle.afr_lines.specs.Areas.{area_for}
use Rattle.afr_lines.specs.Told.{told_by}
use Rattle.afr_lines.specs.declared.answer.Answer.{Answer}
use Rattle.afr_lines.specs.declared.answer.Told.TheVariants as as_told
use Rattle.afr_lines.specs.declared.answer.Told.{Told}
use Rattle.afr_lines.specs.declared.request.Area.{Area}
use Rattle.afr_lines.specs.declared.request.Request.TheVariants as request
use Rattle.afr_model_moves.specs.Note.{is_failed, is_held}
use Rattle.afr_model_moves.specs.Past.{is_gone}
use Rattle.afr_model_moves.specs.Rules.{is_area}
use Rattle.afr_model_moves.proofs.AreaLemmas.{own_area}
use Rattle.afr_law_pace.proofs.Counting.{asked_falls, removed_falls}
use Rattle.afr_law_pace.proofs.Nearer.{done_kept, most, pre_kept, step_of}
use Rattle.afr_law_pace.specs.Left.{count}
use Rattle.afr_lines.specs.declared.lock.Domain.TheVariants.{Work}
use Rattle.afr_client_entry.proofs.Removals.AfterLemmas.{locked_is}
use Rattle.afr_client_entry.proofs.Removals.Facts.{apart, common_left, is_busy}
use Rattle.afr_client_entry.specs.Removals.Removal.{Removing, answered, begun, both_held, brick_at, left_in, moved, request_at, unlocks, untouched, whole}
use Rattle.afr_client_entry.specs.Removals.Sound.{During, IsAsking, Sound}
use Rattle.afr_client_entry.specs.declared.removing.child.Child.{Child}
use Rattle.afr_client_entry.specs.declared.removing.stage.RemovalEnding.{RemovalEnding}
use Rattle.afr_client_entry.specs.declared.removing.stage.RemovalStage.TheVariants.{Applying, Beginning, Closing, Listing, Locking, Looking, Posting, Preparing}
use Rattle.afr_client_entry.specs.declared.removing.stage.RemovalStage.{RemovalStage}
use Rattle.afr_client_transaction.proofs.Parts.{holder_shows}
use Rattle.afr_client_transaction.proofs.Requests.{after_outside, locked_w, noted_is}

-- ---- what an answer leaves of the locks
dropped_held : (gone : Bool) (b : ℕ) (l : Register) (x : ℕ) → member (dropped gone b l).held x ≡ true → member l.held x ≡ true
dropped_held true b l x e = removed_in b l.held x e
dropped_held false b l x e = e

dropped_second : (gone : Bool) (b : ℕ) (l : Register) (x : ℕ) → member (dropped gone b l).second_held x ≡ true → member l.second_held x ≡ true
dropped_second true b l x e = removed_in b l.second_held x e
dropped_second false b l x e = e

-- a lock of the directory takes none of its name's
lock_held : (r : Register) (child : Area) (b : ℕ) (told : Told) (x : ℕ) → member (locked_w true false r child b told).held x ≡ true → member r.held x ≡ true
lock_held r child b as_told.Granted x e = e
lock_held r child b as_told.NotConnected x e = removed_in b r.held x e
lock_held r child b told x e = e

-- ---- an unlock
-- of the name, or of the directory
data Own (r : Register) (b : ℕ) (area : Area) : Type 0 where
  First : is_area r.area area ≡ true → member r.held b ≡ true → Own r b area
  Second : is_area r.area area ≡ false → is_area r.second area ≡ true → member r.second_held b ≡ true → Own r b area

-- the locks after it, where no session is lost
abbrev freed : Bool → Bool → Register → ℕ → Register
freed own second r b = if own then record r { held = removed b r.held } else record r { second_held = if second then removed b r.second_held else r.second_held }

module _ (r : Register) (b : ℕ) (area : Area) (low : b < r.shape.n) where
  abbrev Less : Register → ℕ → Type 0
  Less q taken = count r.shape.n q.second_held + count r.shape.n q.held + 1 + taken ≤ closing_left r

  freed_less : Own r b area → Less (freed (is_area r.area area) (is_area r.second area) r b) 1
  freed_less (First own here) = rw own (let k = removed_falls r.shape.n b r.held low here in omega (arith, k))
  freed_less (Second other own here) = rw (other, own) (let k = removed_falls r.shape.n b r.second_held low here in omega (arith, k))

  lost_less : Own r b area → Less (dropped true b r) 1
  lost_less (First own here) = (let k = removed_falls r.shape.n b r.held low here in let j = removed_less r.shape.n b r.second_held in omega (arith, k, j))
  lost_less (Second other own here) = (let k = removed_falls r.shape.n b r.second_held low here in let j = removed_less r.shape.n b r.held in omega (arith, k, j))

  abbrev UnlockLess : Told → Type 0
  UnlockLess told = Less (after_outside r b (request.Unlock Work area) told) (step_of (is_failed told))

  unlock_less : Own r b area → (told : Told) → (told ≡ as_told.Done) ⊎ (told ≡ as_told.NotConnected) ⊎ (told ≡ as_told.Failed) → UnlockLess told
  unlock_less own told (inl is) = subst UnlockLess (sym is) (freed_less own)
  unlock_less own told (inr (inl is)) = subst UnlockLess (sym is) (lost_less own)
  unlock_less own told (inr (inr is)) = subst UnlockLess (sym is) (omega arith)

-- ---- an answer
module _ (m : Removing) (s : Sound m) (chosen : BrickId) (a : Answer) (at : ℕ) where
  abbrev r : Register
  r = m.register

  abbrev c : Child
  c = m.child

  abbrev n : ℕ
  n = r.shape.n

  abbrev told : Told
  told = told_by a

  abbrev Nearer : RemovalStage → Removing → Type 0
  Nearer stage x = removal_left x + step_of (removal_again stage told) ≤ removal_left_in stage r c

  -- the removal with the register as it computes outside a heal
  seen : (stage : RemovalStage) → Nearer stage (moved chosen stage (brick_at stage m) a (after_outside r (brick_at stage m) (request_at stage m) told) m) → Nearer stage (answered chosen stage a at m)
  seen stage h = subst (λ (q : Register). Nearer stage (moved chosen stage (brick_at stage m) a q m)) (sym (noted_is r at (brick_at stage m) (request_at stage m) told s.base.outside)) h

  locking : is_nothing (left_in Locking r c) ≡ false → Nearer Locking (answered chosen Locking a at m)
  locking e = seen Locking (subst (λ (q : Register). Nearer Locking (moved chosen Locking b a q m)) (sym (locked_is m.change (whole c) r b small s.base s.areas (is_busy r b small there.1) (apart m.change s.removes r.area c.gfid s.areas.named) told)) here)
    where
      b : ℕ
      b = lowest (left_in Locking r c)

      there : (member c.lock_asked b ≡ false) × (member r.held b ≡ true)
      there = lowest_left r.held c.lock_asked e

      small : b < n
      small = s.base.held_within b there.1

      q : Register
      q = locked_w true false r (whole c) b told

      falls : (h : Bool) → count n (minus q.held (added_if (not h) b c.lock_asked)) + step_of h ≤ count n (left_in Locking r c)
      falls true = (let k = left_less n r.held q.held c.lock_asked (lock_held r (whole c) b told) in omega (arith, k))
      falls false = left_falls n b r.held q.held c.lock_asked (lock_held r (whole c) b told) small there.1 there.0

      d : Child
      d = record c { lock_asked = added_if (not (is_held told)) b c.lock_asked }

      here : Nearer Locking (moved chosen Locking b a q m)
      here = (let k = falls (is_held told) in
          goes_on q d (step_of (is_held told)) (removal_left_in Locking r c) Locking (omega (arith, k)) (locks_next q d (step_of (is_held told)) (removal_left_in Locking r c) (omega (arith, k))))

  looking : is_nothing (left_in Looking r c) ≡ false → Nearer Looking (answered chosen Looking a at m)
  looking e = seen Looking (goes_on q d 1 (removal_left_in Looking r c) Looking (omega (arith, falls)) (looks_next q d 1 (removal_left_in Looking r c) (omega (arith, falls))))
    where
      b : ℕ
      b = lowest (left_in Looking r c)

      there : (member c.look_asked b ≡ false) × (member (both_held r) b ≡ true)
      there = lowest_left (both_held r) c.look_asked e

      q : Register
      q = after_outside r b (request.Look c.gfid) told

      d : Child
      d = (moved chosen Looking b a q m).child

      falls : count n (minus (both_held q) (added b c.look_asked)) + 1 ≤ count n (left_in Looking r c)
      falls = left_falls n b (both_held r) (both_held q) c.look_asked (common_less r.held r.second_held q.held q.second_held (dropped_held (is_gone told) b r) (dropped_second (is_gone told) b r))
          (s.base.held_within b (common_left r.held r.second_held b there.1)) there.1 there.0

  listing : Nearer Listing (answered chosen Listing a at m)
  listing = seen Listing (list_next (after_outside r c.reader.0 (request.List c.gfid) told) c 1 (removal_left_in Listing r c) (omega arith) a m.change)

  preparing : During Preparing m → is_nothing (left_in Preparing r c) ≡ false → Nearer Preparing (answered chosen Preparing a at m)
  preparing during e = seen Preparing (goes_on q c 1 (removal_left_in Preparing r c) Preparing (omega (arith, falls)) (pres_next q c 1 (removal_left_in Preparing r c) (omega (arith, falls))))
    where
      b : ℕ
      b = lowest (left_in Preparing r c)

      there : (member (asked_at r step.Pres) b ≡ false) × (member c.takers b ≡ true)
      there = lowest_left c.takers (asked_at r step.Pres) e

      holds : member (holders_of r.looked) b ≡ true
      holds = during.1.among b there.1

      q : Register
      q = after_outside r b (request_at Preparing m) told

      falls : count n (minus c.takers (added b (asked_at r step.Pres))) + 1 ≤ count n (left_in Preparing r c)
      falls = asked_falls n b c.takers (asked_at r step.Pres) (s.base.shown.reached b (holder_shows b r.looked holds (holders_below r.looked b holds)).1) there.1 there.0

  applying : is_nothing (left_in Applying r c) ≡ false → Nearer Applying (answered chosen Applying a at m)
  applying e = seen Applying (goes_on q c 1 (removal_left_in Applying r c) Applying (omega (arith, falls)) (applies_next q c 1 (removal_left_in Applying r c) (omega (arith, falls))))
    where
      b : ℕ
      b = lowest (left_in Applying r c)

      there : (member (asked_at r step.Applies) b ≡ false) × (member r.pre b ≡ true)
      there = lowest_left r.pre (asked_at r step.Applies) e

      q : Register
      q = after_outside r b (request_at Applying m) told

      falls : count n (minus q.pre (added b (asked_at r step.Applies))) + 1 ≤ count n (left_in Applying r c)
      falls = subst (λ (z : List ℕ). count n (minus z (added b (asked_at r step.Applies))) + 1 ≤ count n (left_in Applying r c)) (sym (pre_kept (is_gone told) b (noted_law r b (request_at Applying m) told)))
          (asked_falls n b r.pre (asked_at r step.Applies) (s.base.pre_within b there.1) there.1 there.0)

  posting : is_nothing (left_in Posting r c) ≡ false → Nearer Posting (answered chosen Posting a at m)
  posting e = seen Posting (goes_on q c 1 (removal_left_in Posting r c) Posting (omega (arith, falls)) (posts_next q c 1 (removal_left_in Posting r c) (omega (arith, falls))))
    where
      b : ℕ
      b = lowest (left_in Posting r c)

      there : (member (asked_at r step.Posts) b ≡ false) × (member r.done b ≡ true)
      there = lowest_left r.done (asked_at r step.Posts) e

      q : Register
      q = after_outside r b (request_at Posting m) told

      falls : count n (minus q.done (added b (asked_at r step.Posts))) + 1 ≤ count n (left_in Posting r c)
      falls = subst (λ (z : List ℕ). count n (minus z (added b (asked_at r step.Posts))) + 1 ≤ count n (left_in Posting r c)) (sym (done_kept (is_gone told) b (noted_law r b (request_at Posting m) told)))
          (asked_falls n b r.done (asked_at r step.Posts) (s.base.done_within b there.1) there.1 there.0)

  closing : (why : RemovalEnding) → FitsRemoval (Closing why) told → is_nothing (left_in (Closing why) r c) ≡ false → Nearer (Closing why) (answered chosen (Closing why) a at m)
  closing why fits e = seen (Closing why) (goes_on q c (step_of (is_failed told)) (closing_left r) (Closing why) less less)
    where
      b : ℕ
      b = lowest (left_in (Closing why) r c)

      q : Register
      q = after_outside r b (request_at (Closing why) m) told

      second_own : ((r.second ≡ None) × (r.second_held ≡ [])) ⊎ (r.second ≡ Some (whole c)) → is_nothing r.second_held ≡ false → is_area r.second (whole c) ≡ true
      second_own (inl none) some = absurd (true≢false (ap is_nothing (sym none.1) ∙ some))
      second_own (inr is) some = own_area r.second (whole c) is

      pick : (f : Bool) → is_nothing r.second_held ≡ f → is_nothing (if f then r.held else r.second_held) ≡ false
          → (lowest (if f then r.held else r.second_held) < n) × Own r (lowest (if f then r.held else r.second_held)) (if f then area_for m.change else whole c)
      pick true k some = (let here = lowest_in r.held some in (s.base.held_within (lowest r.held) here, First (own_area r.area (area_for m.change) s.areas.named) here))
      pick false k some = (let here = lowest_in r.second_held some in (s.areas.within (lowest r.second_held) here, Second (apart m.change s.removes r.area c.gfid s.areas.named) (second_own s.areas.second_is k) here))

      less : closing_left q + step_of (is_failed told) ≤ closing_left r
      less = (let p = pick (is_nothing r.second_held) refl e in unlock_less r b (unlocks m.change r c) p.0 p.1 told fits)

  by_stage : (stage : RemovalStage) → During stage m → IsAsking stage m → FitsRemoval stage told → Nearer stage (answered chosen stage a at m)
  by_stage Locking d e fits = locking e
  by_stage Looking d e fits = looking e
  by_stage Listing d e fits = listing
  by_stage Beginning d e fits = absurd e
  by_stage Preparing d e fits = preparing d e
  by_stage Applying d e fits = applying e
  by_stage Posting d e fits = posting e
  by_stage (Closing why) d e fits = closing why fits e

pub removal_nearer : RemovalComesNearer
removal_nearer m s e chosen a at fits = by_stage m s chosen a at m.stage s.during e fits

pub removal_begins : RemovalBeginsNearer
removal_begins m is at = (let k = most m.register.shape.n (left_in Preparing (begun at m).register m.child) in subst (λ (stage : RemovalStage). removal_left (begun at m) + 1 ≤ removal_left_in stage m.register m.child) (sym is) (omega (arith, k)))

pub removal_end : RemovalKeepsEnd
removal_end m = go m.stage
  where
    go : (stage : RemovalStage) → 1 ≤ removal_left_in stage m.register m.child
    go Locking = omega arith
    go Looking = omega arith
    go Listing = omega arith
    go Beginning = omega arith
    go Preparing = omega arith
    go Applying = omega arith
    go Posting = omega arith
    go (Closing why) = omega arith

pub removal_starts : RemovalStartsWithin
removal_starts change r g = (let k = most r.shape.n (left_in Locking r (untouched g)) in
    let h = goes_on r (untouched g) 0 (7 * r.shape.n + 3) Locking (omega (arith, k)) (locks_next r (untouched g) 0 (7 * r.shape.n + 3) (omega arith)) in
    omega (arith, h))

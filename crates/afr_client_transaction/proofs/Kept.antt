-- A transaction stays sound, whatever its bricks answer.
use Rattle.std.proofs.Common.{inl, inr, ◌≡◌, ℕ, ◌<◌, ◌≤◌, Bool, true, false, List, [], ◌∷◌, refl, sym, ◌∙◌, subst, arith, if◌then◌else◌}
use Rattle.std.proofs.lemmas.Bool.Decides.{nat_tests}
use Rattle.afr_base.specs.Bricks.{below, lowest, member, minus, is_nothing}
use Rattle.afr_base.specs.Majority.{is_majority, is_most}
use Rattle.afr_base.specs.SetLemmas.{lowest_left, lowest_in, majority_some, within_below, below_all, some_member}
use Rattle.afr_object.specs.Tables.{object_of}
use Rattle.afr_object.specs.declared.change.Change.{Change}
use Rattle.afr_choice.specs.Verdict.{holders_of}
use Rattle.afr_choice.specs.VerdictLemmas.{holders_below}
use Rattle.afr_lines.specs.Areas.{area_for, kind_for}
use Rattle.afr_lines.specs.declared.answer.Told.{Told}
use Rattle.afr_lines.specs.declared.line.Next.{Next}
use Rattle.afr_lines.specs.declared.line.Next.TheVariants as next
use Rattle.afr_lines.specs.declared.request.Request.{Request}
use Rattle.afr_base.specs.declared.ids.BrickId.{BrickId}
use Rattle.afr_base.specs.declared.ids.Kind.{Kind}
use Rattle.afr_base.specs.declared.ids.Shape.{Shape}
use Rattle.afr_model_moves.specs.Honest.{plane_kind}
use Rattle.afr_model_moves.specs.Register.{holder, rank, same_step}
use Rattle.afr_discipline.specs.declared.register.Register.{Register}
use Rattle.afr_discipline.specs.declared.register.Step.{Step}
use Rattle.afr_discipline.specs.declared.register.Step.TheVariants as step
use Rattle.afr_discipline.specs.Free.{is_ask}
use Rattle.afr_discipline.specs.Tests.{suffices_by}
use Rattle.afr_discipline.specs.Notes.{asked_at, noted_ask}
use Rattle.afr_model_moves.specs.Keeps.{keeps_in}
use Rattle.afr_discipline.specs.Stands.{no_lines, step_of, views_of}
use Rattle.afr_client_transaction.specs.declared.stage.Stage.{Stage}
use Rattle.afr_client_transaction.specs.declared.stage.Stage.TheVariants.{Locking, Looking, Beginning, Preparing, Applying, Posting, Closing}
use Rattle.afr_client_transaction.specs.Outcome.{reply_of}
use Rattle.afr_client_transaction.specs.Progress.{TransactionProgress, left, request_at, gone_on, after, answered, asked_by, asks, next_at, sets_after, on_stage, starting, begun, enough, fed, is_over, may_start, number_in}
use Rattle.afr_client_transaction.specs.Laws.{StaysSound}
use Rattle.afr_client_transaction.specs.declared.stage.LocksAndLooks.{LocksAndLooks}
use Rattle.afr_client_transaction.specs.Sound.{Posted, IsBase, IsUnused, Suits, HasBegun, During, IsAsking, Ready, Sound}
use Rattle.afr_client_transaction.proofs.Parts.{both, denied, holder_is, holder_shows, shown_none, some_of_most}
use Rattle.afr_client_transaction.proofs.Quorum.{quorum_there}
use Rattle.afr_client_transaction.proofs.Requests.{posts_lock, posts_look, quorum_pre, quorum_apply, quorum_post, posted_unlock, after_outside, noted_is, lock_kept, look_base, look_area, pre_base, pre_begun, apply_base, apply_begun, apply_enough, post_base, post_begun, post_enough, unlock_base}

-- ---- where the machine stands then
pub minus_nil : (s : List ℕ) → is_nothing s ≡ false → is_nothing (minus s []) ≡ false
minus_nil [] h = h
minus_nil (x ∷ xs) h = refl

pub none_asked : (r : Register) (s : Step) (most : ℕ) → rank (step_of r.step) ≤ most → most < rank (step_of s) → asked_at r s ≡ []
none_asked r s most low high = pick (same_step (step_of r.step) (step_of s)) apart
  where
    apart : same_step (step_of r.step) (step_of s) ≡ false
    apart = grind (arith, nat_tests, low, high)

    pick : (x : Bool) → x ≡ false → (if x then r.asked else []) ≡ []
    pick true h = absurd (cc h)
    pick false h = refl

pub later : (change : Change) (r : Register) (low high : ℕ) → low ≤ high → HasBegun low change r → HasBegun high change r
later change r low high l k = let o = k.order in record { number = k.number; is_begun = k.is_begun; open_still = k.open_still; named = k.named; order = omega (arith, o, l) }

pub most_of : (r : Register) (kind : Kind) (s : List ℕ) → enough r kind s ≡ true → is_majority r.shape.n s ≡ true
most_of r kind s h = (both (is_most r.shape.n (member s)) _ h).0

module _ (x : TransactionProgress) (suits : Suits x.change) (base : IsBase x.change x.register) where
  stands : (stage : Stage) → During stage x → Posted stage x → Ready stage x → Sound (on_stage stage x)
  stands Locking d p e = record { suits = suits; base = base; during = d; posted = p; ready = e }
  stands Looking d p e = record { suits = suits; base = base; during = d; posted = p; ready = e }
  stands Beginning d p e = record { suits = suits; base = base; during = d; posted = p; ready = e }
  stands Preparing d p e = record { suits = suits; base = base; during = d; posted = p; ready = e }
  stands Applying d p e = record { suits = suits; base = base; during = d; posted = p; ready = e }
  stands Posting d p e = record { suits = suits; base = base; during = d; posted = p; ready = e }
  stands Closing d p e = record { suits = suits; base = base; during = d; posted = p; ready = e }

  after_locks : During Locking x → Posted Locking x → Sound (on_stage (after Locking x) x)
  after_locks d p = go (is_nothing (left Locking x)) refl
    where
      majority : (f : Bool) → is_majority x.register.shape.n x.asked.locked_on ≡ f → Sound (on_stage (if f then Looking else Closing) x)
      majority true f =
          let one = some_of_most x.register.shape.n (member x.asked.locked_on) f in
          let held : is_nothing x.register.held ≡ false = some_member x.register.held one.0 (d.0.same one.0 ∙ one.2) in
          stands Looking (record { named = base.of_held held; within = d.0.within }) p (rw d.1 (minus_nil x.asked.locked_on (some_member x.asked.locked_on one.0 one.2)))
      majority false f = stands Closing tt (inl p) tt

      go : (e : Bool) → is_nothing (left Locking x) ≡ e → Sound (on_stage (if e then gone_on Locking x.change x.register x.asked else Locking) x)
      go true e = majority (is_majority x.register.shape.n x.asked.locked_on) refl
      go false e = stands Locking d p e

  after_looks : During Looking x → Posted Looking x → Sound (on_stage (after Looking x) x)
  after_looks d p = go (is_nothing (left Looking x)) refl
    where
      start : (f : Bool) → may_start x.register x.change ≡ f → Sound (on_stage (if f then Beginning else Closing) x)
      start true f = stands Beginning (d.named, f) p tt
      start false f = stands Closing tt (inl p) tt

      go : (e : Bool) → is_nothing (left Looking x) ≡ e → Sound (on_stage (if e then gone_on Looking x.change x.register x.asked else Looking) x)
      go true e = start (may_start x.register x.change) refl
      go false e = stands Looking d p e

  after_pres : During Preparing x → Posted Preparing x → Sound (on_stage (after Preparing x) x)
  after_pres d p = go (is_nothing (left Preparing x)) refl
    where
      suffices : (f : Bool) → enough x.register (kind_for x.change) x.register.pre ≡ f → Sound (on_stage (if f then Applying else Closing) x)
      suffices true f =
          stands Applying (later x.change x.register 2 3 (omega arith) d, f) p
          (rw (none_asked x.register step.Applies 2 d.order (omega arith)) (majority_some x.register.shape.n x.register.pre (most_of x.register (kind_for x.change) x.register.pre f)))
      suffices false f = stands Closing tt (inr p) tt

      go : (e : Bool) → is_nothing (left Preparing x) ≡ e → Sound (on_stage (if e then gone_on Preparing x.change x.register x.asked else Preparing) x)
      go true e = suffices (enough x.register (kind_for x.change) x.register.pre) refl
      go false e = stands Preparing d p e

  after_applies : During Applying x → Posted Applying x → Sound (on_stage (after Applying x) x)
  after_applies d p = go (is_nothing (left Applying x)) refl
    where
      suffices : (f : Bool) → enough x.register (kind_for x.change) x.register.done ≡ f → Sound (on_stage (if f then Posting else Closing) x)
      suffices true f =
          stands Posting (later x.change x.register 3 4 (omega arith) d.0, f) p
          (rw (none_asked x.register step.Posts 3 d.0.order (omega arith)) (majority_some x.register.shape.n x.register.done (most_of x.register (kind_for x.change) x.register.done f)))
      suffices false f = stands Closing tt (inr p) tt

      go : (e : Bool) → is_nothing (left Applying x) ≡ e → Sound (on_stage (if e then gone_on Applying x.change x.register x.asked else Applying) x)
      go true e = suffices (enough x.register (kind_for x.change) x.register.done) refl
      go false e = stands Applying d p e

  after_posts : During Posting x → Posted Posting x → Sound (on_stage (after Posting x) x)
  after_posts d p = go (is_nothing (left Posting x)) refl
    where
      go : (e : Bool) → is_nothing (left Posting x) ≡ e → Sound (on_stage (if e then Closing else Posting) x)
      go true e = stands Closing tt (inr p) tt
      go false e = stands Posting d p e

  after_unlock : Posted Closing x → Sound (on_stage (after Closing x) x)
  after_unlock p = go (is_nothing (left Closing x))
    where
      go : (e : Bool) → Sound (on_stage (if e then Closing else Closing) x)
      go true = stands Closing tt p tt
      go false = stands Closing tt p tt

-- ---- an answer
module _ (m : TransactionProgress) (s : Sound m) (told : Told) (at : ℕ) where
  abbrev r : Register
  r = m.register

  abbrev register_by : Stage → Register
  register_by stage = after_outside r (lowest (left stage m)) (request_at stage m) told

  -- the machine with the register as it computes outside a heal
  seen : (stage : Stage) → Sound (on_stage (after stage (sets_after stage (lowest (left stage m)) told (register_by stage) m)) (sets_after stage (lowest (left stage m)) told (register_by stage) m)) → Sound (answered stage told at m)
  seen stage h =
      subst (λ (q : Register). Sound (on_stage (after stage (sets_after stage (lowest (left stage m)) told q m)) (sets_after stage (lowest (left stage m)) told q m)))
      (sym (noted_is r at (lowest (left stage m)) (request_at stage m) told s.base.outside)) h

  pub kept_by : (stage : Stage) → During stage m → Posted stage m → IsAsking stage m → Sound (answered stage told at m)
  kept_by Locking d p e =
      let asked = lowest_left (below r.shape.n) m.asked.lock_asked e in
      let k = lock_kept m.change r (lowest (left Locking m)) m.asked.lock_asked m.asked.locked_on (within_below r.shape.n _ asked.1) asked.0 s.base d.0 told in
      seen Locking (after_locks (sets_after Locking (lowest (left Locking m)) told (register_by Locking) m) s.suits k.base (k.locks, d.1) (posts_lock m.change r (lowest (left Locking m)) (area_for m.change) told p))
  kept_by Looking d p e =
      let small = d.within _ (lowest_left m.asked.locked_on m.asked.looked_at e).1 in
      seen Looking (after_looks (sets_after Looking (lowest (left Looking m)) told (register_by Looking) m) s.suits (look_base m.change r (lowest (left Looking m)) small s.base (object_of m.change) told)
      (record { named = look_area m.change r (lowest (left Looking m)) small s.base (object_of m.change) told ∙ d.named; within = d.within }) (posts_look m.change r (lowest (left Looking m)) (object_of m.change) told p))
  kept_by Beginning d p e = absurd e
  kept_by Preparing d p e =
      let asked = lowest_left (holders_of r.looked) (asked_at r step.Pres) e in
      let small = s.base.shown.reached _ (holder_shows _ r.looked asked.1 (holders_below r.looked _ asked.1)).1 in
      let b = lowest (left Preparing m) in
      seen Preparing (after_pres (sets_after Preparing b told (register_by Preparing) m) s.suits (pre_base m.change r b small s.base (object_of m.change) (kind_for m.change) told)
      (pre_begun m.change r b small s.base (object_of m.change) (kind_for m.change) told d) (quorum_pre m.change r b (object_of m.change) (kind_for m.change) told p))
  kept_by Applying d p e =
      let b = lowest (left Applying m) in
      let small = s.base.pre_within _ (lowest_left r.pre (asked_at r step.Applies) e).1 in
      let q = number_in r.begun in
      seen Applying (after_applies (sets_after Applying b told (register_by Applying) m) s.suits (apply_base m.change r b small s.base q told)
      (apply_begun m.change r b small s.base q told d.0, apply_enough m.change r b small s.base q told (kind_for m.change) d.1) (quorum_apply m.change r b q told p))
  kept_by Posting d p e =
      let b = lowest (left Posting m) in
      let small = s.base.done_within _ (lowest_left r.done (asked_at r step.Posts) e).1 in
      let q = number_in r.begun in
      let g = object_of m.change in
      let missed = minus (below r.shape.n) r.done in
      seen Posting (after_posts (sets_after Posting b told (register_by Posting) m) s.suits (post_base m.change r b small s.base q g (kind_for m.change) missed told)
      (post_begun m.change r b small s.base q g (kind_for m.change) missed told d.0, post_enough m.change r b small s.base q g (kind_for m.change) missed told (kind_for m.change) d.1) (quorum_post m.change r b q g (kind_for m.change) missed told p))
  kept_by Closing d p e =
      let b = lowest (left Closing m) in
      seen Closing (after_unlock (sets_after Closing b told (register_by Closing) m) s.suits (unlock_base m.change r b (s.base.held_within _ (lowest_in r.held e)) s.base told e) (posted_unlock m.change r b (area_for m.change) told p))

-- whatever a brick answers, the machine stays sound
pub kept : (m : TransactionProgress) → Sound m → (told : Told) (at : ℕ) → IsAsking m.stage m → Sound (answered m.stage told at m)
kept m s told at e = kept_by m s told at m.stage s.during s.posted e

-- the attempt has its number
pub kept_begin : (m : TransactionProgress) → Sound m → m.stage ≡ Beginning → (at : ℕ) → Sound (begun at m)
kept_begin m s is at = go m.stage is s.during
  where
    low : 1 ≤ 2
    low = omega arith

    go : (stage : Stage) → stage ≡ Beginning → During stage m → Sound (begun at m)
    go Beginning e d =
        let r = m.register in
        let split = both _ (suffices_by r.shape.n (keeps_in r.shape) (plane_kind m.change) (views_of r.looked) (holder (views_of r.looked))) d.1 in
        let one = some_of_most r.shape.n (holder (views_of r.looked)) (both (is_most r.shape.n (holder (views_of r.looked))) _ split.1).0 in
        let first = both _ _ (both _ _ (both _ _ (both _ _ (both _ _ split.0).0).0).0).0 in
        record {
          suits = s.suits;
          base = s.base;
          during = record { number = at; is_begun = refl; open_still = denied r.unlocked first.1; named = d.0; order = low };
          posted = quorum_there m.change r.shape r.looked s.base.few s.base.shown (both _ (is_majority r.shape.n r.looked.reached) split.0).1 split.1;
          ready = minus_nil (holders_of r.looked) (some_member (holders_of r.looked) one.0 (holder_is r.shape.n one.0 r.looked s.base.few one.1 s.base.shown one.2));
        }
    go Locking e d = absurd (cc e)
    go Looking e d = absurd (cc e)
    go Preparing e d = absurd (cc e)
    go Applying e d = absurd (cc e)
    go Posting e d = absurd (cc e)
    go Closing e d = absurd (cc e)

-- at its first lock it has everybody to ask, whatever the work's free lines were
pub sound_first : (r : Register) (change : Change) → IsUnused r → r.shape.n ≤ 5 → 0 < r.shape.n → Suits change → Sound (starting change r)
sound_first r change unused few some suits = by unused
  where
    among : (x : Step) (shape : Shape) → shape.n ≤ 5 → 0 < shape.n → Sound (starting change (record (no_lines shape) { step = x }))
    among x shape few some = record {
      suits = suits;
      base = record {
        few = few;
        outside = refl;
        no_second = refl;
        none_second = refl;
        none_healing = refl;
        held_within = λ b m. absurd (cc m);
        shown = shown_none shape.n;
        pre_within = λ b m. absurd (cc m);
        done_within = λ b m. absurd (cc m);
        no_bytes = refl;
        of_held = λ h. absurd (cc h);
      };
      during = (record { first = refl; open_still = refl; same = λ b. refl; among = λ b m. absurd (cc m); within = λ b m. absurd (cc m) }, refl);
      posted = refl;
      ready = minus_nil (below shape.n) (some_member (below shape.n) 0 (below_all shape.n 0 few some));
    }

    by : IsUnused r → Sound (starting change r)
    by (inl e) = subst (λ (q : Register). Sound (starting change q)) (sym e) (among step.Untouched r.shape few some)
    by (inr e) = subst (λ (q : Register). Sound (starting change q)) (sym e) (among step.Open r.shape few some)

-- what the code makes is what the answer makes
pub fed_is : (m : TransactionProgress) (told : Told) (at b : ℕ) (q : Request) (x : Register) (stage : Stage) (s : LocksAndLooks) → b ≡ lowest (left m.stage m) → q ≡ request_at m.stage m → x ≡ noted_ask m.register at b q told
    → s ≡ asked_by m.stage b told m.asked
    → stage ≡ after m.stage (record { change = m.change; register = x; stage = m.stage; asked = s })
    → (record { change = m.change; register = x; stage = stage; asked = s }) ≡ answered m.stage told at m
fed_is m told at b q x stage s eb eq ex es est = rw (est, es, ex, eq, eb) refl

-- where the next line is neither a request nor a Begin line, no lock is left
pub over_at : (stage : Stage) (at : ℕ) (m : TransactionProgress) → (stage ≡ Beginning → ⊥) → is_ask (next_at stage at m) ≡ false → is_over stage m ≡ true
over_at Beginning at m away none = absurd (away refl)
over_at Closing at m away none = go (is_nothing m.register.held) none
  where
    go : (over : Bool) → is_ask (if over then next.End (reply_of m.change m.register) else asks Closing m) ≡ false → over ≡ true
    go true none = refl
    go false none = absurd (cc none)
over_at stage at m away none = absurd (cc none)

-- whether a line is a request or a Begin line
abbrev pub asks_or_begins : Next → Bool
asks_or_begins (next.Ask b q) = true
asks_or_begins (next.Begin change) = true
asks_or_begins other = false

-- where the next line is one of these, more is left than the end
pub more_left : (stage : Stage) (m : TransactionProgress) (at : ℕ) → asks_or_begins (next_at stage at m) ≡ true → is_over stage m ≡ false
more_left Closing m at e = go (is_nothing m.register.held) e
  where
    go : (over : Bool) → asks_or_begins (if over then next.End (reply_of m.change m.register) else asks Closing m) ≡ true → over ≡ false
    go true e = absurd (cc e)
    go false e = refl
more_left stage m at e = refl

-- where none is left, the next line is the End line
pub ends_at : (stage : Stage) (at : ℕ) (m : TransactionProgress) → is_over stage m ≡ true → next_at stage at m ≡ next.End (reply_of m.change m.register)
ends_at Closing at m over = rw over refl
ends_at stage at m over = absurd (cc over)

-- whoever is left to ask is asked next
pub some_left : (stage : Stage) (at : ℕ) (m : TransactionProgress) → is_nothing (left stage m) ≡ false → asks stage m ≡ next_at stage at m
some_left Locking at m some = refl
some_left Looking at m some = refl
some_left Beginning at m some = absurd (cc some)
some_left Preparing at m some = refl
some_left Applying at m some = refl
some_left Posting at m some = refl
some_left Closing at m some = rw some refl

-- a next line that is a request is the one that the transaction asks
pub asked_of : (stage : Stage) (at : ℕ) (m : TransactionProgress) (b : BrickId) (q : Request) → Ready stage m → next_at stage at m ≡ next.Ask b q → IsAsking stage m × (asks stage m ≡ next.Ask b q)
asked_of Locking at m b q ready e = (ready, e)
asked_of Looking at m b q ready e = (ready, e)
asked_of Beginning at m b q ready e = absurd (cc e)
asked_of Preparing at m b q ready e = (ready, e)
asked_of Applying at m b q ready e = (ready, e)
asked_of Posting at m b q ready e = (ready, e)
asked_of Closing at m b q ready e = go (is_nothing m.register.held) refl e
  where
    go : (over : Bool) → is_nothing m.register.held ≡ over → (if over then next.End (reply_of m.change m.register) else asks Closing m) ≡ next.Ask b q → IsAsking Closing m × (asks Closing m ≡ next.Ask b q)
    go true none e = absurd (cc e)
    go false some e = (some, e)

-- two requests that are one ask the same brick for the same
pub same_asked : (b c : BrickId) (q r : Request) → next.Ask b q ≡ next.Ask c r → (c ≡ b) × (r ≡ q)
same_asked b c q r e = (cc e, cc e)

-- a transaction that isn't over asks, but for its Begin line
pub asking_of : (stage : Stage) (m : TransactionProgress) → Ready stage m → is_over stage m ≡ false → (stage ≡ Beginning → ⊥) → IsAsking stage m
asking_of Locking m ready more away = ready
asking_of Looking m ready more away = ready
asking_of Beginning m ready more away = absurd (away refl)
asking_of Preparing m ready more away = ready
asking_of Applying m ready more away = ready
asking_of Posting m ready more away = ready
asking_of Closing m ready more away = more

pub answers_line : (stage : Stage) (told : Told) (at : ℕ) (m : TransactionProgress) → (stage ≡ Beginning → ⊥) → answered stage told at m ≡ fed stage told at m
answers_line Locking told at m away = refl
answers_line Looking told at m away = refl
answers_line Beginning told at m away = absurd (away refl)
answers_line Preparing told at m away = refl
answers_line Applying told at m away = refl
answers_line Posting told at m away = refl
answers_line Closing told at m away = refl

-- whatever is told at the next line, the transaction stays sound
pub stays_sound : StaysSound
stays_sound m s more told at = go m.stage refl
  where
    by : (stage : Stage) → m.stage ≡ stage → (stage ≡ Beginning → ⊥) → Sound (fed stage told at m)
    by stage e away =
        subst Sound (answers_line stage told at m away)
        (kept_by m s told at stage (subst (λ (x : Stage). During x m) e s.during) (subst (λ (x : Stage). Posted x m) e s.posted) (asking_of stage m (subst (λ (x : Stage). Ready x m) e s.ready) (subst (λ (x : Stage). is_over x m ≡ false) e more) away))

    go : (stage : Stage) → m.stage ≡ stage → Sound (fed stage told at m)
    go Locking e = by Locking e (λ h. cc h)
    go Looking e = by Looking e (λ h. cc h)
    go Beginning e = kept_begin m s e at
    go Preparing e = by Preparing e (λ h. cc h)
    go Applying e = by Applying e (λ h. cc h)
    go Posting e = by Posting e (λ h. cc h)
    go Closing e = by Closing e (λ h. cc h)

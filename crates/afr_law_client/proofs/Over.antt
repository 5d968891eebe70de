-- A transaction that has only unlocks left: its reply has its cause, and nothing was skipped.
use Rattle.std.proofs.Common.{◌≡◌, ℕ, zero, suc, ◌+◌, ◌-◌, ◌^◌, ◌<◌, ◌≤◌, ◌==◌, not, nat_le, min, Bool, true, false, List, [], Option, None, Some, length, refl, sym, ap, ◌∙◌, arith, subst, if◌then◌else◌, inl}
use Rattle.std.proofs.lemmas.Bool.Decides.{nat_tests}
use Rattle.afr_base.specs.Bricks.{member, is_nothing, IsIn}
use Rattle.afr_base.specs.Majority.{is_majority, count_below}
use Rattle.afr_base.specs.SetLemmas.{majority_grows}
use Rattle.afr_base.specs.declared.ids.Gfid.{Gfid}
use Rattle.afr_base.specs.declared.ids.Kind.{Kind}
use Rattle.afr_base.specs.declared.ids.Shape.{Shape}
use Rattle.afr_object.specs.Tables.{object_of}
use Rattle.afr_object.specs.declared.change.Change.{Change}
use Rattle.afr_object.specs.declared.change.Change.TheVariants as change
use Rattle.afr_choice.specs.Looks.{no_looks}
use Rattle.afr_choice.specs.Verdict.{good_copies, holders_of}
use Rattle.afr_choice.specs.declared.looked.Looked.{Looked}
use Rattle.afr_lines.specs.Areas.{area_for, kind_for, object_of_area}
use Rattle.afr_lines.specs.Overlap.{same_area}
use Rattle.afr_lines.specs.Work.{Work}
use Rattle.afr_lines.specs.declared.reply.Good.TheVariants as good
use Rattle.afr_lines.specs.declared.reply.Reply.{Reply}
use Rattle.afr_lines.specs.declared.reply.Reply.TheVariants as reply
use Rattle.afr_lines.specs.declared.request.Area.{Area}
use Rattle.afr_model_moves.specs.Keeps.{keeps_in}
use Rattle.afr_model_moves.specs.Register.{holder}
use Rattle.afr_model_moves.proofs.Changes.{kind_same}
use Rattle.afr_model_moves.proofs.AreaLemmas.{same_area_is}
use Rattle.afr_discipline.specs.Stands.{views_of}
use Rattle.afr_discipline.specs.Tests.{ends_low, fits_view, lies_in, suffices_by}
use Rattle.afr_plan.specs.declared.command.Command.{Command}
use Rattle.afr_plan.specs.declared.plan.Plan.{Plan}
use Rattle.afr_client_transaction.specs.Outcome.{reply_for, reply_of}
use Rattle.afr_client_transaction.specs.Progress.{TransactionProgress, numbered}
use Rattle.afr_client_transaction.specs.Sound.{Shown, Sound}
use Rattle.afr_client_transaction.specs.declared.reply.TransactionOutcome.TheVariants.{Acknowledged, NoQuorum, FewCopies, SplitBrain, Failed}
use Rattle.afr_client_transaction.specs.declared.stage.Stage.{Stage}
use Rattle.afr_client_transaction.specs.declared.stage.Stage.TheVariants.{Closing}
use Rattle.afr_client_transaction.proofs.Parts.{both, pair}
use Rattle.afr_model.specs.Answered.{by_posts, Answers, IsCaused, Refuses}
use Rattle.afr_model.specs.Commands.{is_rmdir}
use Rattle.afr_model.specs.Refusals.{by_locks, by_views, or_else}
use Rattle.afr_model.specs.Showing.{Path, At, NoName, Untold, path_by, looked_by, among, looking, prepared, applied_at, posted, has, looks_at, locks, begins_attempt, is_faulted}
use Rattle.afr_model.specs.Skipped.{takers, AsksAll, WentThroughPhases, IsLocked, SkipsNothing}
use Rattle.afr_model.specs.Standing.{looks_here, place_by, change_by, getting, locks_area, suffices}
use Rattle.afr_law_client.specs.About.{IsFitting, LedToEnd}
use Rattle.afr_law_client.specs.Fits.{IsCalm}
use Rattle.afr_law_client.specs.Laws.{AsksAllForLocks, EndsAnswered, FailedByBrick, RepliesExactly, SkipsNone, UndisturbedIsDone}
use Rattle.afr_law_client.specs.Tells.{AreLocked, LinesGoThroughPhases, During, IsUnder, OnUnlocks, TooFew, Tried, Unfit, Tells, lookups_allow}
use Rattle.afr_law_client.proofs.About.{passes}
use Rattle.afr_law_client.proofs.Small.{no_change, numbered_kind, numbered_object, object_named, same_gfid, self}
use Rattle.afr_law_client.proofs.Views.{all_of, carried_there, holders_suffice, suffices_grows}

-- nobody is no majority
none_most : (n : ℕ) → is_majority n [] ≡ false
none_most n = let k = count n in grind (arith, nat_tests, k)
  where
    count : (n : ℕ) → count_below n (member []) ≡ 0
    count zero = refl
    count (suc n) = omega (arith, count n)

-- a change that is not too large lies in its area
lies : (c : Change) → ends_low c ≡ true → lies_in (Some (area_for c)) c ≡ true
lies (change.Write g at bytes) low = pair _ _ (pair _ _ (pair _ _ (self g.0) (grind (arith, nat_tests))) (ends (at + length bytes) low)) (below (at + length bytes) low)
  where
    ends : (end : ℕ) → nat_le end 1048576 ≡ true → nat_le end (min end (2 ^ 64 - 1)) ≡ true
    ends end low = grind (arith, nat_tests, low)

    below : (end : ℕ) → nat_le end 1048576 ≡ true → nat_le (min end (2 ^ 64 - 1)) (2 ^ 63) ≡ true
    below end low = grind (arith, nat_tests, low)
lies (change.Cut g len) low = rw (self g.0) (grind (arith, nat_tests))
lies (change.SetAttr g key value) low = rw (self g.0) refl
lies (change.Make dir name g what) low = rw (self dir.0, self name.0) refl
lies (change.Remove dir name what) low = rw (self dir.0, self name.0) refl

-- what refuses a command at its locks is no failure
not_failed : (most reached copies split : Bool) (views : List _)
    → (if not most then Some reply.NoQuorum
    else (if not reached then Some reply.NoQuorum else (if not copies then Some reply.FewCopies else (if split then Some (reply.SplitBrain views) else None))))
    ≡ Some reply.Failed
    → ⊥
not_failed false reached copies split views h = cc h
not_failed true false copies split views h = cc h
not_failed true true false split views h = cc h
not_failed true true true true views h = cc h
not_failed true true true false views h = cc h

module _ (p : Plan) (w : Work) (m : TransactionProgress) (s : Sound m) (t : Tells p w m) where
  abbrev g : Gfid
  g = object_of m.change

  abbrev kind : Kind
  kind = kind_for m.change

  abbrev looked : Looked
  looked = looked_by g w

  abbrev said : Reply
  said = reply_of m.change m.register

  -- the reply by the lines
  abbrev reply_from : Looked → List ℕ → Reply
  reply_from views post =
      reply_for (if not (is_majority p.shape.n views.reached) then NoQuorum
      else (if not (is_majority p.shape.n (holders_of views)) then FewCopies
      else (if is_nothing (good_copies p.shape views kind) then SplitBrain views.views else (if is_majority p.shape.n post then Acknowledged else Failed))))

  said_from : m.register.looked ≡ looked → said ≡ reply_from looked (among posted w)
  said_from e = rw (t.shape_is, e, t.sets.posted) refl

  few : p.shape.n ≤ 5
  few = subst (λ (shape : Shape). shape.n ≤ 5) t.shape_is s.base.few

  shown : m.register.looked ≡ looked → Shown p.shape.n looked
  shown e = subst (λ (views : Looked). Shown p.shape.n views) e (subst (λ (shape : Shape). Shown shape.n m.register.looked) t.shape_is s.base.shown)

  -- ---- too few locks
  few_replied : AreLocked p.shape.n g (area_for m.change) w → m.register.looked ≡ no_looks → is_majority p.shape.n (among (getting (area_for m.change)) w) ≡ false
      → by_locks p.shape kind (area_for m.change) w ≡ Some said
  few_replied locked unseen lacking = rw (lacking, unseen, none_most m.register.shape.n) refl

  -- ---- lookups that don't allow the change
  unfit_replied : m.register.looked ≡ looked → is_majority p.shape.n (among (getting (area_for m.change)) w) ≡ true → lookups_allow p.shape m.change m.register.looked ≡ false → IsFitting p.shape.n m.change looked
      → by_locks p.shape kind (area_for m.change) w ≡ Some said
  unfit_replied e most unfit k =
      locks_passed ∙ go (is_majority p.shape.n looked.reached) refl (is_majority p.shape.n (holders_of looked)) refl (is_nothing (good_copies p.shape looked kind)) refl ∙ ap Some (sym (said_from e))
    where
      locks_passed : by_locks p.shape kind (area_for m.change) w ≡ by_views p.shape kind looked
      locks_passed = rw (most, object_named m.change) refl

      allowed : is_majority p.shape.n looked.reached ≡ true → is_majority p.shape.n (holders_of looked) ≡ true → is_nothing (good_copies p.shape looked kind) ≡ false → lookups_allow p.shape m.change looked ≡ true
      allowed q h n =
          pair _ _ (pair _ _ (pair _ _ (pair _ _ (lies m.change k.low) k.low) (all_of p.shape.n (λ x. fits_view (views_of looked x) m.change) k.fits)) q)
          (subst (λ (of : Kind). suffices_by p.shape.n (keeps_in p.shape) of (views_of looked) (holder (views_of looked)) ≡ true) (sym (kind_same m.change)) (carried_there p.shape looked kind few (shown e) h n))

      go : (q : Bool) → is_majority p.shape.n looked.reached ≡ q → (h : Bool) → is_majority p.shape.n (holders_of looked) ≡ h → (n : Bool) → is_nothing (good_copies p.shape looked kind) ≡ n
          → by_views p.shape kind looked ≡ Some (reply_from looked (among posted w))
      go false f h i n j = rw f refl
      go true f false i n j = rw (f, i) refl
      go true f true i true j = rw (f, i, j) refl
      go true f true i false j =
          let fits = allowed f i j in
          let denied : lookups_allow p.shape m.change looked ≡ false = subst (λ (views : Looked). lookups_allow p.shape m.change views ≡ false) e unfit in
          absurd (cc (fits, denied))

  -- ---- an attempt
  abbrev Under : Type 0
  Under = IsUnder p.shape m.change m.register.looked m.asked.looked_at w

  tried_said : (u : Under) → said ≡ (if is_majority p.shape.n (among posted w) then reply.Ok good.Done else reply.Failed)
  tried_said u = said_from u.looks.shows ∙ rw (u.allows.quorum.reached, u.allows.quorum.copies, u.allows.quorum.clean) (go (is_majority p.shape.n (among posted w)))
    where
      go : (most : Bool) → reply_for (if most then Acknowledged else Failed) ≡ (if most then reply.Ok good.Done else reply.Failed)
      go true = refl
      go false = refl

  tried_answered : (u : Under) → by_posts p.shape w ≡ Some said
  tried_answered u = rw (u.attempt.began) (ap Some (sym (tried_said u)))

  -- the reply has its cause
  pub replied : OnUnlocks p.shape m.change m.register.looked m.asked.looked_at w → IsFitting p.shape.n m.change looked → or_else (by_locks p.shape kind (area_for m.change) w) (by_posts p.shape w) ≡ Some said
  replied (TooFew idle locked looks unseen lacking) k = rw (few_replied locked unseen lacking) refl
  replied (Unfit idle locked looks majority looked_all unfit) k = rw (unfit_replied looks.shows majority unfit k) refl
  replied (Tried u whole) k = rw (passes p w m s t u.allows) (tried_answered u)

  -- ---- nothing has failed
  -- all that were asked did it, so a majority has done post-op
  calm_done : (u : Under) → LinesGoThroughPhases p.shape m.change w → IsCalm w → is_faulted w ≡ false → is_majority p.shape.n (among posted w) ≡ true
  calm_done u whole calm none = majority_grows p.shape.n (among applied_at w) (among posted w) post_all (both (is_majority p.shape.n (among applied_at w)) _ applies).0
    where
      pre_all : IsIn (holders_of looked) (among prepared w)
      pre_all = subst (λ (x : List ℕ). IsIn (holders_of looked) x) (sym (calm none).pre_is) whole.pre_all

      prepares : suffices p.shape kind looked (among prepared w) ≡ true
      prepares = suffices_grows p.shape kind looked (holders_of looked) (among prepared w) pre_all (holders_suffice p.shape kind looked u.allows.quorum.copies u.allows.quorum.clean)

      apply_all : IsIn (among prepared w) (among applied_at w)
      apply_all = subst (λ (x : List ℕ). IsIn (among prepared w) x) (sym (calm none).apply_is) (whole.apply_all prepares)

      applies : suffices p.shape kind looked (among applied_at w) ≡ true
      applies = suffices_grows p.shape kind looked (among prepared w) (among applied_at w) apply_all prepares

      post_all : IsIn (among applied_at w) (among posted w)
      post_all = subst (λ (x : List ℕ). IsIn (among applied_at w) x) (sym (calm none).post_is) (whole.post_all prepares applies)

  pub undisturbed : OnUnlocks p.shape m.change m.register.looked m.asked.looked_at w → IsCalm w → has begins_attempt w ≡ true → is_faulted w ≡ false → said ≡ reply.Ok good.Done
  undisturbed (TooFew idle locked looks unseen lacking) calm begun none = let no = idle.unbegun in absurd (cc (begun, no))
  undisturbed (Unfit idle locked looks majority looked_all unfit) calm begun none = let no = idle.unbegun in absurd (cc (begun, no))
  undisturbed (Tried u whole) calm begun none = tried_said u ∙ rw (calm_done u whole calm none) refl

  -- what the locks refuse has not failed
  refused : by_locks p.shape kind (area_for m.change) w ≡ Some said → said ≡ reply.Failed → ⊥
  refused e f =
      not_failed (is_majority p.shape.n (among (getting (area_for m.change)) w)) (is_majority p.shape.n views.reached) (is_majority p.shape.n (holders_of views)) (is_nothing (good_copies p.shape views kind)) views.views (e ∙ ap Some f)
    where
      views : Looked
      views = looked_by (object_of_area (area_for m.change)) w

  pub failed : OnUnlocks p.shape m.change m.register.looked m.asked.looked_at w → IsFitting p.shape.n m.change looked → IsCalm w → said ≡ reply.Failed → (has begins_attempt w ≡ true) × (is_faulted w ≡ true)
  failed (TooFew idle locked looks unseen lacking) k calm f = absurd (refused (few_replied locked unseen lacking) f)
  failed (Unfit idle locked looks majority looked_all unfit) k calm f = absurd (refused (unfit_replied looks.shows majority unfit k) f)
  failed (Tried u whole) k calm f = (u.attempt.began, go (is_faulted w) refl)
    where
      go : (x : Bool) → is_faulted w ≡ x → x ≡ true
      go true e = refl
      go false e = let done = undisturbed (Tried u whole) calm u.attempt.began e in absurd (cc (done, f))

-- ---- nothing is skipped
module _ (p : Plan) (w : Work) (m : TransactionProgress) (t : Tells p w m) where
  abbrev on : Type 0
  on = OnUnlocks p.shape m.change m.register.looked m.asked.looked_at w

  pub all_locked : on → AreLocked p.shape.n (object_of m.change) (area_for m.change) w
  all_locked (TooFew idle locked looks unseen lacking) = locked
  all_locked (Unfit idle locked looks majority looked_all unfit) = locked
  all_locked (Tried u whole) = u.allows.locked

  all_looked : on → is_majority p.shape.n (among (getting (area_for m.change)) w) ≡ true → IsIn (among (getting (area_for m.change)) w) (among (looking (object_of m.change)) w)
  all_looked (TooFew idle locked looks unseen lacking) most = absurd (cc (most, lacking))
  all_looked (Unfit idle locked looks majority looked_all unfit) most = looked_all
  all_looked (Tried u whole) most = u.allows.looked_all

  -- the area, and every object
  locked_is : on → (area : Area) → has (locks_area area) w ≡ true → (f : Bool) → same_area area (area_for m.change) ≡ f → IsLocked p.shape.n w area
  locked_is d area asked false e = let free = t.alone.unlocked area e in absurd (cc (asked, free))
  locked_is d area asked true e = subst (λ (area : Area). IsLocked p.shape.n w area) (sym (same_area_is area (area_for m.change) e)) (record {
    all = (all_locked d).all;
    looked = λ most. subst (λ (h : Gfid). IsIn (among (getting (area_for m.change)) w) (among (looking h) w)) (sym (object_named m.change)) (all_looked d most);
  })

  looked_is : on → (h : Gfid) → has (looks_at h) w ≡ true → has (locks h) w ≡ false → (f : Bool) → ((object_of m.change).0 == h.0) ≡ f → (b : ℕ) → b < p.shape.n → member (among (looking h) w) b ≡ true
  looked_is d h seen free true e b l =
      let here : has (locks h) w ≡ true = subst (λ (h : Gfid). has (locks h) w ≡ true) (same_gfid (object_of m.change) h e) (all_locked d).locked in
      absurd (cc (here, free))
  looked_is d h seen free false e b l = t.alone.looked h e seen b l

  -- the bricks at which an attempt begins
  takers_are : (c : Command) → is_rmdir c ≡ false → (h : Gfid) (path : Path) → takers c h path w ≡ holders_of (looked_by h w)
  takers_are c plain h (At read child) = rw plain refl
  takers_are c plain h NoName = refl
  takers_are c plain h Untold = refl

  just : {A : Type 0} → (x y : A) → Some x ≡ Some y → x ≡ y
  just x y e = cc e

  unbegun : {A : Type 0} → has begins_attempt w ≡ false → (change : Change) → change_by w ≡ Some change → A
  unbegun none change is = let no = no_change w none in absurd (cc (no, is))

  carried_is : (c : Command) → is_rmdir c ≡ false → on → (change : Change) → change_by w ≡ Some change → WentThroughPhases p c change w
  carried_is c plain (TooFew idle locked looks unseen lacking) change is = unbegun idle.unbegun change is
  carried_is c plain (Unfit idle locked looks majority looked_all unfit) change is = unbegun idle.unbegun change is
  carried_is c plain (Tried u whole) change is =
      subst (λ (change : Change). WentThroughPhases p c change w) (just (numbered u.attempt.attempt m.change) change (sym u.attempt.is_change ∙ is))
      (carried_of (object_of (numbered u.attempt.attempt m.change)) (kind_for (numbered u.attempt.attempt m.change)) (numbered_object u.attempt.attempt m.change) (numbered_kind u.attempt.attempt m.change) refl refl)
    where
      carried_of : (h : Gfid) (kind : Kind) → h ≡ object_of m.change → kind ≡ kind_for m.change → object_of (numbered u.attempt.attempt m.change) ≡ h → kind_for (numbered u.attempt.attempt m.change) ≡ kind
          → WentThroughPhases p c (numbered u.attempt.attempt m.change) w
      carried_of h kind e f eh ef = record {
        prepared_all = rw (numbered_object u.attempt.attempt m.change, takers_are c plain (object_of m.change) (path_by p w)) whole.pre_all;
        applied_all = rw (numbered_object u.attempt.attempt m.change, numbered_kind u.attempt.attempt m.change) whole.apply_all;
        posted_all = rw (numbered_object u.attempt.attempt m.change, numbered_kind u.attempt.attempt m.change) whole.post_all;
      }

  pub skips : (c : Command) → is_rmdir c ≡ false → on → SkipsNothing p c w
  skips c plain d = record {
    looked = λ h seen free. looked_is d h seen free ((object_of m.change).0 == h.0) refl;
    locked = λ area whole asked. locked_is d area asked (same_area area (area_for m.change)) refl;
    child = λ rmdir. absurd (cc (rmdir, plain));
    carried = carried_is c plain d;
  }

-- ---- the laws
closing : (p : Plan) (w : Work) (m : TransactionProgress) → Tells p w m → m.stage ≡ Closing → OnUnlocks p.shape m.change m.register.looked m.asked.looked_at w
closing p w m t e = subst (λ (stage : Stage). During stage p.shape m w) e t.during

pub replies_exactly : RepliesExactly
replies_exactly p w m s t e fits = replied p w m s t (closing p w m t e) fits

pub asks_all_for_locks : AsksAllForLocks
asks_all_for_locks p w m t e = (all_locked p w m t (closing p w m t e)).all

pub skips_none : SkipsNone
skips_none p c w m t e plain = skips p w m t c plain (closing p w m t e)

pub failed_by_brick : FailedByBrick
failed_by_brick p w m s t e fits calm = failed p w m s t (closing p w m t e) fits calm

pub undisturbed_is_done : UndisturbedIsDone
undisturbed_is_done p w m s t e calm = undisturbed p w m s t (closing p w m t e) calm

-- what the locks refuse, or the post-ops answer, is the cause of the command's reply
caused : (p : Plan) (c : Command) (w : Work) (change : Change) (said : Reply) → LedToEnd p c change w → (refuses : Option Reply) → by_locks p.shape (kind_for change) (area_for change) w ≡ refuses
    → or_else refuses (by_posts p.shape w) ≡ Some said → IsCaused p c w said
caused p c w change reply_said k (Some other) e h = Refuses (k.refuses ∙ e ∙ h)
caused p c w change reply_said k None e h = Answers (k.refuses ∙ e) k.object k.led (k.answers ∙ h)

pub ends_answered : EndsAnswered
ends_answered p c w m s t e fits calm k = record {
  caused = caused p c w m.change said k (by_locks p.shape (kind_for m.change) (area_for m.change) w) refl (replies_exactly p w m s t e fits);
  asked = λ views. subst (λ (area : Option Area). AsksAll p.shape.n (looks_here c (place_by p c w)) area w) (sym k.area) (asks_all_for_locks p w m t e);
  failed = λ none. inl (failed_by_brick p w m s t e fits calm none);
  undisturbed = undisturbed_is_done p w m s t e calm;
  whole = skips_none p c w m t e k.plain;
}
  where
    said : Reply
    said = reply_of m.change m.register

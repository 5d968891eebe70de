-- The lines still show how far a transaction is after one more, whatever was told.
use Rattle.std.proofs.Common.{◌≡◌, ℕ, ◌==◌, Bool, true, false, List, [], ◌∷◌, Option, None, length, refl, sym, ap, ◌∙◌, subst}
use Rattle.afr_base.specs.Bricks.{added, added_if, below, lowest, member, minus}
use Rattle.afr_base.specs.SetLemmas.{lowest_left, member_added, member_removed, within_below}
use Rattle.afr_base.specs.declared.ids.ActorId.{ActorId}
use Rattle.afr_base.specs.declared.ids.Gfid.{Gfid}
use Rattle.afr_object.specs.Tables.{object_of}
use Rattle.afr_choice.specs.Looks.{no_looks}
use Rattle.afr_choice.specs.declared.looked.Looked.{Looked}
use Rattle.afr_lines.specs.Areas.{area_for, kind_for}
use Rattle.afr_lines.specs.Work.{Work}
use Rattle.afr_lines.specs.declared.answer.Told.{Told}
use Rattle.afr_lines.specs.declared.line.Line.{Line}
use Rattle.afr_lines.specs.declared.line.Line.TheVariants.{Ask, Begin}
use Rattle.afr_lines.specs.declared.request.Area.{Area}
use Rattle.afr_model_moves.specs.Note as note
use Rattle.afr_model_moves.specs.Register.{is_on}
use Rattle.afr_model_moves.proofs.AreaLemmas.{same_area_self}
use Rattle.afr_discipline.specs.Notes.{asked_at, counts, noted_ask, shown}
use Rattle.afr_discipline.specs.declared.register.Register.{Register}
use Rattle.afr_discipline.specs.declared.register.Step.TheVariants as step
use Rattle.afr_client_transaction.specs.Progress.{TransactionProgress, answered, answered_by, begun, left, number_in, numbered, request_at}
use Rattle.afr_client_transaction.specs.Sound as sound
use Rattle.afr_client_transaction.specs.Sound.{IsAsking, IsBase, Posted, Sound}
use Rattle.afr_client_transaction.specs.declared.stage.Stage.{Stage}
use Rattle.afr_client_transaction.specs.declared.stage.Stage.TheVariants.{Locking, Looking, Beginning, Preparing, Applying, Posting, Closing}
use Rattle.afr_client_transaction.proofs.Kept.{kept_by}
use Rattle.afr_client_transaction.proofs.Parts.{deny, no_or, pair}
use Rattle.afr_client_transaction.proofs.Requests.{after_outside, lock_kept, look_area, noted_is}
use Rattle.afr_plan.specs.declared.plan.Plan.{Plan}
use Rattle.afr_model.specs.Showing.{looked_by, among, looking, has, locks}
use Rattle.afr_law_client.specs.Tells.{During, HasSets, IsAlone, IsUnseen, OnUnlocks, TooFew, Tried, Unfit, Tells}
use Rattle.afr_law_client.proofs.GoneOn.{gone_locks, gone_looks, gone_pres, gone_applies, gone_posts, gone_unlock}
use Rattle.afr_law_client.proofs.Leaves.{Leaves, LeavesAll, lock_leaves, look_counts, look_leaves, look_holds, look_still, pre_leaves, pre_asks, pre_before, apply_leaves, apply_asks, apply_before, post_leaves, post_asks, unlock_leaves}
use Rattle.afr_law_client.proofs.Small.{done_told, granted_told, held_told, marked_new, no_number, number_named, object_named, self, shown_told}

module _ (p : Plan) (w : Work) (m : TransactionProgress) (a : ActorId) (told : Told) (took : Bool) (older : List Line) (s : Sound m) (t : Tells p w m) where
  abbrev r : Register
  r = m.register

  abbrev brick : Stage → ℕ
  brick stage = lowest (left stage m)

  abbrev noted_at : Stage → Register
  noted_at stage = noted_ask r (length older) (brick stage) (request_at stage m) told

  abbrev told_at : Stage → TransactionProgress
  told_at stage = answered_by stage (brick stage) told (length older) m

  abbrev more : Stage → Work
  more stage = (Ask a (record { 0 = brick stage }) (request_at stage m) told took, older) ∷ w

  -- the register as it computes outside a heal
  noted_same : (stage : Stage) → after_outside r (brick stage) (request_at stage m) told ≡ noted_at stage
  noted_same stage = sym (noted_is r (length older) (brick stage) (request_at stage m) told s.base.outside)

  base_at : (stage : Stage) → sound.During stage m → Posted stage m → IsAsking stage m → IsBase m.change (noted_at stage)
  base_at stage d q e = (kept_by m s told (length older) stage d q e).base

  -- ---- a lock
  module _ (d : During Locking p.shape m w) (k : sound.During Locking m) (q : Posted Locking m) (e : IsAsking Locking m) where
    new : (member m.asked.lock_asked (brick Locking) ≡ false) × (member (below r.shape.n) (brick Locking) ≡ true)
    new = lowest_left (below r.shape.n) m.asked.lock_asked e

    lock_left : Leaves (noted_at Locking) r.shape no_looks None [] [] []
    lock_left =
        subst (λ (y : Register). Leaves y r.shape no_looks None [] [] []) (noted_same Locking)
        (lock_leaves r (brick Locking) (area_for m.change) d.shows k.0.first (t.sets.prepared ∙ d.idle.no_pre_did) (t.sets.applied ∙ d.idle.no_apply_did) (t.sets.posted ∙ d.idle.no_post_did) told)

    lock_sets : HasSets (told_at Locking) (more Locking)
    lock_sets = record {
      asked = rw (same_area_self (area_for m.change), ← held_told told, ← t.sets.asked) (marked_new _ (brick Locking) m.asked.lock_asked new.0);
      granted = rw (same_area_self (area_for m.change), ← granted_told told, t.sets.granted) refl;
      prepared = lock_left.pre_is ∙ sym d.idle.no_pre_did;
      applied = lock_left.done_is ∙ sym d.idle.no_apply_did;
      posted = lock_left.post_is ∙ sym d.idle.no_post_did;
      number = lock_left.begun_is ∙ sym (no_number w d.idle.unbegun);
    }

    lock_alone : IsAlone p.shape.n (object_of m.change) (area_for m.change) (more Locking)
    lock_alone = record { unlocked = λ other f. rw f (t.alone.unlocked other f); looked = λ h f. rw (object_named m.change, f) (t.alone.looked h f) }

    unseen : IsUnseen (has (locks (object_of m.change)) (more Locking)) (looked_by (object_of m.change) (more Locking)) (among (looking (object_of m.change)) (more Locking))
    unseen = record {
      locked = rw (object_named m.change, self (object_of m.change).0) refl;
      unseen = rw (object_named m.change, self (object_of m.change).0) refl;
      unlooked = rw (object_named m.change, self (object_of m.change).0) refl;
    }

    pub told_lock : Tells p (more Locking) (answered Locking told (length older) m)
    told_lock =
        gone_locks p (more Locking) (told_at Locking) (lock_left.shape_is ∙ t.shape_is) lock_sets lock_alone (base_at Locking k q e)
        (record { idle = d.idle; shows = lock_left.looked_is; at = d.at; unseen = λ any. unseen }) unseen
        (subst (λ (y : Register). sound.OnLocks y.shape.n y.begun y.unlocked y.held (told_at Locking).asked.lock_asked (told_at Locking).asked.locked_on) (noted_same Locking)
        (lock_kept m.change r (brick Locking) m.asked.lock_asked m.asked.locked_on (within_below r.shape.n _ new.1) new.0 s.base k.0 told).locks)

  -- ---- a look
  module _ (d : During Looking p.shape m w) (k : sound.During Looking m) (q : Posted Looking m) (e : IsAsking Looking m) where
    abbrev g : Gfid
    g = object_of m.change

    unlooked : (member m.asked.looked_at (brick Looking) ≡ false) × (member m.asked.locked_on (brick Looking) ≡ true)
    unlooked = lowest_left m.asked.locked_on m.asked.looked_at e

    counted : counts r (brick Looking) g.0 ≡ true
    counted =
        look_counts r (brick Looking) g (t.sets.number ∙ no_number w d.idle.unbegun)
        (d.held_on (brick Looking) (subst (λ (x : List ℕ). member x (brick Looking) ≡ true) t.sets.granted unlooked.1) (subst (λ (x : List ℕ). member x (brick Looking) ≡ false) d.looks.at unlooked.0))
        (subst (λ (o : Option Area). is_on o g.0 ≡ true) (sym k.named) (rw (number_named m.change) (self g.0)))

    look_left : Leaves (noted_at Looking) r.shape (shown r.looked (brick Looking) told) r.begun r.pre r.done r.post
    look_left = subst (λ (y : Register). Leaves y r.shape (shown r.looked (brick Looking) told) r.begun r.pre r.done r.post) (noted_same Looking) (look_leaves r (brick Looking) g told counted)

    look_sets : HasSets (told_at Looking) (more Looking)
    look_sets = record {
      asked = t.sets.asked;
      granted = t.sets.granted;
      prepared = look_left.pre_is ∙ t.sets.prepared;
      applied = look_left.done_is ∙ t.sets.applied;
      posted = look_left.post_is ∙ t.sets.posted;
      number = look_left.begun_is ∙ t.sets.number;
    }

    look_alone : IsAlone p.shape.n (object_of m.change) (area_for m.change) (more Looking)
    look_alone = record { unlocked = t.alone.unlocked; looked = λ h f. rw f (t.alone.looked h f) }

    holds : (c : ℕ) → member (added (brick Looking) (among (looking g) w)) c ≡ false → member r.held c ≡ true → member (noted_at Looking).held c ≡ true
    holds c out held =
        let apart = no_or (brick Looking == c) (member (among (looking g) w) c) (sym (member_added (brick Looking) (among (looking g) w) c) ∙ out) in
        subst (λ (y : Register). member y.held c ≡ true) (noted_same Looking)
        (look_holds r (brick Looking) g told c (member_removed (brick Looking) r.held c ∙ pair _ _ (deny _ apart.0) held) held)

    unlooked_before : (c : ℕ) → member (added (brick Looking) (among (looking g) w)) c ≡ false → member (among (looking g) w) c ≡ false
    unlooked_before c out = (no_or (brick Looking == c) (member (among (looking g) w) c) (sym (member_added (brick Looking) (among (looking g) w) c) ∙ out)).1

    now_looked : among (looking g) (more Looking) ≡ added (brick Looking) (among (looking g) w)
    now_looked = rw (self g.0) refl

    pub told_look : Tells p (more Looking) (answered Looking told (length older) m)
    told_look =
        gone_looks p (more Looking) (told_at Looking) (look_left.shape_is ∙ t.shape_is) look_sets look_alone (base_at Looking k q e)
        (record {
          idle = d.idle;
          locked = d.locked;
          majority = d.majority;
          looks = record { shows = look_left.looked_is ∙ rw (self g.0, ← d.looks.shows) (shown_told (brick Looking) told r.looked); at = ap (added (brick Looking)) d.looks.at ∙ sym now_looked };
          still = subst (λ (y : Register). y.unlocked ≡ false) (noted_same Looking) (look_still r (brick Looking) g told ∙ d.still);
          held_on = λ c granted out.
              let apart : member (added (brick Looking) (among (looking g) w)) c ≡ false = subst (λ (x : List ℕ). member x c ≡ false) now_looked out in
              holds c apart (d.held_on c granted (unlooked_before c apart));
        })
        (area_kept ∙ k.named)
      where
        area_kept : (noted_at Looking).area ≡ r.area
        area_kept = subst (λ (y : Register). y.area ≡ r.area) (noted_same Looking) (look_area m.change r (brick Looking) (k.within _ unlooked.1) s.base g told)

  -- ---- the phases
  pub told_pre : During Preparing p.shape m w → sound.During Preparing m → Posted Preparing m → IsAsking Preparing m → Tells p (more Preparing) (answered Preparing told (length older) m)
  told_pre d k q e =
      gone_pres p (more Preparing) (told_at Preparing) (left_by.shape_is ∙ t.shape_is)
      (record {
        asked = t.sets.asked;
        granted = t.sets.granted;
        prepared = left_by.pre_is ∙ rw (done_told told, t.sets.prepared) refl;
        applied = left_by.done_is ∙ t.sets.applied;
        posted = left_by.post_is ∙ t.sets.posted;
        number = left_by.begun_is ∙ t.sets.number;
      })
      (record { unlocked = t.alone.unlocked; looked = t.alone.looked }) (base_at Preparing k q e) (
        record { attempt = d.0.attempt; allows = d.0.allows; looks = record { shows = left_by.looked_is ∙ d.0.looks.shows; at = d.0.looks.at } },
        record {
          pre = subst (λ (y : Register). asked_at y step.Pres ≡ added (brick Preparing) (asked_at r step.Pres)) (noted_same Preparing) (pre_asks r (brick Preparing) (object_of m.change) (kind_for m.change) told) ∙ ap (added (brick Preparing)) d.1.pre;
          no_apply = d.1.no_apply;
          no_apply_did = d.1.no_apply_did;
          no_post = d.1.no_post;
          no_post_did = d.1.no_post_did;
        },
      )
      (subst (λ (y : Register). asked_at y step.Applies ≡ []) (noted_same Preparing) (pre_before r (brick Preparing) (object_of m.change) (kind_for m.change) told))
    where
      left_by : Leaves (noted_at Preparing) r.shape r.looked r.begun (added_if (note.is_done told) (brick Preparing) r.pre) r.done r.post
      left_by = subst (λ (y : Register). Leaves y r.shape r.looked r.begun (added_if (note.is_done told) (brick Preparing) r.pre) r.done r.post) (noted_same Preparing) (pre_leaves r (brick Preparing) (object_of m.change) (kind_for m.change) told)

  pub told_apply : During Applying p.shape m w → sound.During Applying m → Posted Applying m → IsAsking Applying m → Tells p (more Applying) (answered Applying told (length older) m)
  told_apply d k q e =
      gone_applies p (more Applying) (told_at Applying) (left_by.shape_is ∙ t.shape_is)
      (record {
        asked = t.sets.asked;
        granted = t.sets.granted;
        prepared = left_by.pre_is ∙ t.sets.prepared;
        applied = left_by.done_is ∙ rw (done_told told, t.sets.applied) refl;
        posted = left_by.post_is ∙ t.sets.posted;
        number = left_by.begun_is ∙ t.sets.number;
      })
      (record { unlocked = t.alone.unlocked; looked = t.alone.looked }) (base_at Applying k q e) (
        record { attempt = d.0.attempt; allows = d.0.allows; looks = record { shows = left_by.looked_is ∙ d.0.looks.shows; at = d.0.looks.at } },
        record {
          pre_all = d.1.pre_all;
          apply = subst (λ (y : Register). asked_at y step.Applies ≡ added (brick Applying) (asked_at r step.Applies)) (noted_same Applying) (apply_asks r (brick Applying) (number_in r.begun) told) ∙ ap (added (brick Applying)) d.1.apply;
          no_post = d.1.no_post;
          no_post_did = d.1.no_post_did;
        },
      )
      (subst (λ (y : Register). asked_at y step.Posts ≡ []) (noted_same Applying) (apply_before r (brick Applying) (number_in r.begun) told))
    where
      left_by : Leaves (noted_at Applying) r.shape r.looked r.begun r.pre (added_if (note.is_done told) (brick Applying) r.done) r.post
      left_by = subst (λ (y : Register). Leaves y r.shape r.looked r.begun r.pre (added_if (note.is_done told) (brick Applying) r.done) r.post) (noted_same Applying) (apply_leaves r (brick Applying) (number_in r.begun) told)

  pub told_post : During Posting p.shape m w → sound.During Posting m → Posted Posting m → IsAsking Posting m → Tells p (more Posting) (answered Posting told (length older) m)
  told_post d k q e =
      gone_posts p (more Posting) (told_at Posting) (left_by.shape_is ∙ t.shape_is)
      (record {
        asked = t.sets.asked;
        granted = t.sets.granted;
        prepared = left_by.pre_is ∙ t.sets.prepared;
        applied = left_by.done_is ∙ t.sets.applied;
        posted = left_by.post_is ∙ rw (done_told told, t.sets.posted) refl;
        number = left_by.begun_is ∙ t.sets.number;
      })
      (record { unlocked = t.alone.unlocked; looked = t.alone.looked }) (base_at Posting k q e) (
        record { attempt = d.0.attempt; allows = d.0.allows; looks = record { shows = left_by.looked_is ∙ d.0.looks.shows; at = d.0.looks.at } },
        record {
          pre_all = d.1.pre_all;
          apply_all = d.1.apply_all;
          enough = d.1.enough;
          post = subst (λ (y : Register). asked_at y step.Posts ≡ added (brick Posting) (asked_at r step.Posts)) (noted_same Posting)
              (post_asks r (brick Posting) (number_in r.begun) (object_of m.change) (kind_for m.change) missed told) ∙ ap (added (brick Posting)) d.1.post;
        },
      )
    where
      missed : List ℕ
      missed = minus (below r.shape.n) r.done

      left_by : Leaves (noted_at Posting) r.shape r.looked r.begun r.pre r.done (added_if (note.is_done told) (brick Posting) r.post)
      left_by = subst (λ (y : Register). Leaves y r.shape r.looked r.begun r.pre r.done (added_if (note.is_done told) (brick Posting) r.post)) (noted_same Posting) (post_leaves r (brick Posting) (number_in r.begun) (object_of m.change) (kind_for m.change) missed told)

  -- ---- an unlock
  unlocked_more : OnUnlocks p.shape m.change r.looked m.asked.looked_at w → OnUnlocks p.shape m.change r.looked m.asked.looked_at (more Closing)
  unlocked_more (TooFew idle locked looks unseen few) = TooFew idle locked (record { shows = looks.shows; at = looks.at }) unseen few
  unlocked_more (Unfit idle locked looks majority looked_all unfit) = Unfit idle locked (record { shows = looks.shows; at = looks.at }) majority looked_all unfit
  unlocked_more (Tried u whole) = Tried (record { attempt = u.attempt; allows = u.allows; looks = record { shows = u.looks.shows; at = u.looks.at } }) whole

  pub told_unlock : During Closing p.shape m w → sound.During Closing m → Posted Closing m → IsAsking Closing m → Tells p (more Closing) (answered Closing told (length older) m)
  told_unlock d k q e =
      gone_unlock p (more Closing) (told_at Closing) (left_by.shape_is ∙ t.shape_is)
      (record {
        asked = t.sets.asked;
        granted = t.sets.granted;
        prepared = left_by.pre_is ∙ t.sets.prepared;
        applied = left_by.done_is ∙ t.sets.applied;
        posted = left_by.post_is ∙ t.sets.posted;
        number = left_by.begun_is ∙ t.sets.number;
      })
      (record { unlocked = t.alone.unlocked; looked = t.alone.looked }) (base_at Closing k q e)
      (subst (λ (shown : Looked). OnUnlocks p.shape m.change shown m.asked.looked_at (more Closing)) (sym left_by.looked_is) (unlocked_more d))
    where
      left_by : LeavesAll (noted_at Closing) r
      left_by = subst (λ (y : Register). LeavesAll y r) (noted_same Closing) (unlock_leaves r (brick Closing) (area_for m.change) told)

  -- ---- the Begin line
  pub told_begin : During Beginning p.shape m w → Tells p ((Begin a (numbered (length older) m.change), older) ∷ w) (begun (length older) m)
  told_begin d = record {
    shape_is = t.shape_is;
    sets = record {
      asked = t.sets.asked;
      granted = t.sets.granted;
      prepared = t.sets.prepared ∙ d.idle.no_pre_did;
      applied = t.sets.applied ∙ d.idle.no_apply_did;
      posted = t.sets.posted ∙ d.idle.no_post_did;
      number = refl;
    };
    alone = record { unlocked = t.alone.unlocked; looked = t.alone.looked };
    during = (
      record {
        attempt = record { began = refl; attempt = length older; number = refl; is_change = refl };
        allows = d.allows;
        looks = record { shows = d.looks.shows; at = d.looks.at };
      },
      record { pre = refl; no_apply = refl; no_apply_did = refl; no_post = refl; no_post_did = refl },
    );
  }

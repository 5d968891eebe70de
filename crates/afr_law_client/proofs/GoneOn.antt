-- Where a transaction stands once nobody is left to ask, as its lines show it.
use Rattle.std.proofs.Common.{◌≡◌, ℕ, ◌<◌, ◌≤◌, Bool, true, false, List, [], None, Some, refl, sym, ◌∙◌, subst, if◌then◌else◌}
use Rattle.afr_base.specs.Bricks.{below, member, minus, is_nothing, IsIn}
use Rattle.afr_base.specs.Majority.{is_majority}
use Rattle.afr_base.specs.SetLemmas.{below_all, none_left}
use Rattle.afr_base.specs.declared.ids.Shape.{Shape}
use Rattle.afr_object.specs.Tables.{object_of}
use Rattle.afr_choice.specs.Verdict.{holders_of}
use Rattle.afr_choice.specs.declared.looked.Looked.{Looked}
use Rattle.afr_lines.specs.Areas.{area_for, kind_for}
use Rattle.afr_lines.specs.Work.{Work}
use Rattle.afr_model_moves.specs.Honest.{plane_kind}
use Rattle.afr_model_moves.specs.Keeps.{keeps_in}
use Rattle.afr_model_moves.specs.Register.{holder}
use Rattle.afr_discipline.specs.Notes.{asked_at}
use Rattle.afr_discipline.specs.Stands.{views_of}
use Rattle.afr_discipline.specs.Tests.{suffices_by}
use Rattle.afr_discipline.specs.declared.register.Step.TheVariants.{Pres, Applies, Posts}
use Rattle.afr_client_transaction.specs.Progress.{TransactionProgress, left, gone_on, after, on_stage, enough, may_start}
use Rattle.afr_client_transaction.specs.Sound as sound
use Rattle.afr_client_transaction.specs.Sound.{HasQuorum, IsBase}
use Rattle.afr_client_transaction.specs.declared.stage.Stage.{Stage}
use Rattle.afr_client_transaction.specs.declared.stage.Stage.TheVariants.{Locking, Looking, Beginning, Preparing, Applying, Posting, Closing}
use Rattle.afr_client_transaction.proofs.Parts.{both}
use Rattle.afr_client_transaction.proofs.Quorum.{quorum_there}
use Rattle.afr_plan.specs.declared.plan.Plan.{Plan}
use Rattle.afr_model.specs.Showing.{looked_by, among, looking, preparing, prepared, applying, applied_at, posting, has, locks}
use Rattle.afr_model.specs.Standing.{asking, getting, suffices}
use Rattle.afr_law_client.specs.Tells.{During, HasSets, IsAlone, IsUnder, IsUnseen, TooFew, Tried, Unfit, Tells, lookups_allow}
use Rattle.afr_law_client.proofs.Small.{no_number}
use Rattle.afr_law_client.proofs.Views.{same_enough}

module _ (p : Plan) (w : Work) (x : TransactionProgress) (shape_is : x.register.shape ≡ p.shape) (sets : HasSets x w) (alone : IsAlone p.shape.n (object_of x.change) (area_for x.change) w) (base : IsBase x.change x.register) where
  few : p.shape.n ≤ 5
  few = subst (λ (shape : Shape). shape.n ≤ 5) shape_is base.few

  stands : (stage : Stage) → During stage p.shape (on_stage stage x) w → Tells p w (on_stage stage x)
  stands stage d = record { shape_is = shape_is; sets = sets; alone = alone; during = d }

  granted : List ℕ
  granted = among (getting (area_for x.change)) w

  -- ---- the locks
  majority_is : (f : Bool) → is_majority x.register.shape.n x.asked.locked_on ≡ f → is_majority p.shape.n (among (getting (area_for x.change)) w) ≡ f
  majority_is f e =
      subst (λ (shape : Shape). is_majority shape.n (among (getting (area_for x.change)) w) ≡ f) shape_is
      (subst (λ (s : List ℕ). is_majority x.register.shape.n s ≡ f) sets.granted e)

  all_asked : is_nothing (left Locking x) ≡ true → (b : ℕ) → b < p.shape.n → member (among (asking (area_for x.change)) w) b ≡ true
  all_asked e b l =
      let none : is_nothing (minus (below p.shape.n) x.asked.lock_asked) ≡ true = subst (λ (shape : Shape). is_nothing (minus (below shape.n) x.asked.lock_asked) ≡ true) shape_is e in
      subst (λ (s : List ℕ). member s b ≡ true) sets.asked (none_left (below p.shape.n) x.asked.lock_asked none b (below_all p.shape.n b few l))

  pub gone_locks : During Locking p.shape x w → IsUnseen (has (locks (object_of x.change)) w) (looked_by (object_of x.change) w) (among (looking (object_of x.change)) w)
      → sound.OnLocks x.register.shape.n x.register.begun x.register.unlocked x.register.held x.asked.lock_asked x.asked.locked_on → Tells p w (on_stage (after Locking x) x)
  gone_locks d unseen k = go (is_nothing (left Locking x)) refl
    where
      majority : is_nothing (left Locking x) ≡ true → (f : Bool) → is_majority x.register.shape.n x.asked.locked_on ≡ f → Tells p w (on_stage (if f then Looking else Closing) x)
      majority e true f = stands Looking (record {
        idle = d.idle;
        locked = record { locked = unseen.locked; all = all_asked e };
        majority = majority_is true f;
        looks = record { shows = d.shows ∙ sym unseen.unseen; at = d.at ∙ sym unseen.unlooked };
        still = k.open_still;
        held_on = λ b m n. k.same b ∙ subst (λ (s : List ℕ). member s b ≡ true) (sym sets.granted) m;
      })
      majority e false f = stands Closing (TooFew d.idle (record { locked = unseen.locked; all = all_asked e }) (record { shows = d.shows ∙ sym unseen.unseen; at = d.at ∙ sym unseen.unlooked }) d.shows (majority_is false f))

      go : (e : Bool) → is_nothing (left Locking x) ≡ e → Tells p w (on_stage (if e then gone_on Locking x.change x.register x.asked else Locking) x)
      go true e = majority e (is_majority x.register.shape.n x.asked.locked_on) refl
      go false e = stands Locking d

  -- ---- the looks
  -- before a Begin the discipline's test is one of the views
  start_is : x.register.begun ≡ None → x.register.unlocked ≡ false → x.register.area ≡ Some (area_for x.change) → may_start x.register x.change ≡ lookups_allow x.register.shape x.change x.register.looked
  start_is first still named = rw (first, still, named) refl

  pub gone_looks : During Looking p.shape x w → x.register.area ≡ Some (area_for x.change) → Tells p w (on_stage (after Looking x) x)
  gone_looks d named = go (is_nothing (left Looking x)) refl
    where
      looked_all : is_nothing (left Looking x) ≡ true → IsIn (among (getting (area_for x.change)) w) (among (looking (object_of x.change)) w)
      looked_all e b m =
          subst (λ (s : List ℕ). member s b ≡ true) d.looks.at
          (none_left x.asked.locked_on x.asked.looked_at e b (subst (λ (s : List ℕ). member s b ≡ true) (sym sets.granted) m))

      quorum : may_start x.register x.change ≡ true → HasQuorum x.change x.register.shape x.register.looked
      quorum f =
          let split = both _ (suffices_by x.register.shape.n (keeps_in x.register.shape) (plane_kind x.change) (views_of x.register.looked) (holder (views_of x.register.looked))) f in
          quorum_there x.change x.register.shape x.register.looked base.few base.shown (both _ (is_majority x.register.shape.n x.register.looked.reached) split.0).1 split.1

      start : is_nothing (left Looking x) ≡ true → (f : Bool) → may_start x.register x.change ≡ f → Tells p w (on_stage (if f then Beginning else Closing) x)
      start e true f = stands Beginning (record {
        idle = d.idle;
        allows = record {
          locked = d.locked;
          majority = d.majority;
          looked_all = looked_all e;
          quorum = subst (λ (looked : Looked). HasQuorum x.change p.shape looked) d.looks.shows (subst (λ (shape : Shape). HasQuorum x.change shape x.register.looked) shape_is (quorum f));
        };
        looks = d.looks;
      })
      start e false f = stands Closing (Unfit d.idle d.locked d.looks d.majority (looked_all e)
          (subst (λ (shape : Shape). lookups_allow shape x.change x.register.looked ≡ false) shape_is (sym (start_is (sets.number ∙ no_number w d.idle.unbegun) d.still named) ∙ f)))

      go : (e : Bool) → is_nothing (left Looking x) ≡ e → Tells p w (on_stage (if e then gone_on Looking x.change x.register x.asked else Looking) x)
      go true e = start e (may_start x.register x.change) refl
      go false e = stands Looking d

  -- ---- the phases
  abbrev Suffices : List ℕ → Bool
  Suffices s = suffices p.shape (kind_for x.change) (looked_by (object_of x.change) w) s

  enough_is : IsUnder p.shape x.change x.register.looked x.asked.looked_at w → (s t : List ℕ) → s ≡ t → (f : Bool) → enough x.register (kind_for x.change) s ≡ f → Suffices t ≡ f
  enough_is u s t e f h =
      subst (λ (s : List ℕ). Suffices s ≡ f) e
      (subst (λ (looked : Looked). suffices p.shape (kind_for x.change) looked s ≡ f) u.looks.shows
      (subst (λ (shape : Shape). suffices shape (kind_for x.change) x.register.looked s ≡ f) shape_is (sym (same_enough x.register.shape x.register.looked (kind_for x.change) base.few base.shown s) ∙ h)))

  short : {A : Type 0} → (s : List ℕ) → Suffices s ≡ false → Suffices s ≡ true → A
  short s few enough = absurd (cc (few, enough))

  pub gone_pres : During Preparing p.shape x w → asked_at x.register Applies ≡ [] → Tells p w (on_stage (after Preparing x) x)
  gone_pres d fresh = go (is_nothing (left Preparing x)) refl
    where
      pre_all : is_nothing (left Preparing x) ≡ true → IsIn (holders_of (looked_by (object_of x.change) w)) (among preparing w)
      pre_all e =
          subst (λ (looked : Looked). IsIn (holders_of looked) (among preparing w)) d.0.looks.shows
          (subst (λ (s : List ℕ). IsIn (holders_of x.register.looked) s) d.1.pre (none_left (holders_of x.register.looked) (asked_at x.register Pres) e))

      on : is_nothing (left Preparing x) ≡ true → (f : Bool) → enough x.register (kind_for x.change) x.register.pre ≡ f → Tells p w (on_stage (if f then Applying else Closing) x)
      on e true f = stands Applying (d.0, record { pre_all = pre_all e; apply = fresh ∙ sym d.1.no_apply; no_post = d.1.no_post; no_post_did = d.1.no_post_did })
      on e false f =
          let few = enough_is d.0 x.register.pre (among prepared w) sets.prepared false f in
          stands Closing (Tried d.0 (record { pre_all = pre_all e; apply_all = λ enough. short (among prepared w) few enough; post_all = λ enough. short (among prepared w) few enough }))

      go : (e : Bool) → is_nothing (left Preparing x) ≡ e → Tells p w (on_stage (if e then gone_on Preparing x.change x.register x.asked else Preparing) x)
      go true e = on e (enough x.register (kind_for x.change) x.register.pre) refl
      go false e = stands Preparing d

  pub gone_applies : During Applying p.shape x w → asked_at x.register Posts ≡ [] → Tells p w (on_stage (after Applying x) x)
  gone_applies d fresh = go (is_nothing (left Applying x)) refl
    where
      apply_all : is_nothing (left Applying x) ≡ true → IsIn (among prepared w) (among applying w)
      apply_all e =
          subst (λ (s : List ℕ). IsIn s (among applying w)) sets.prepared
          (subst (λ (s : List ℕ). IsIn x.register.pre s) d.1.apply (none_left x.register.pre (asked_at x.register Applies) e))

      on : is_nothing (left Applying x) ≡ true → (f : Bool) → enough x.register (kind_for x.change) x.register.done ≡ f → Tells p w (on_stage (if f then Posting else Closing) x)
      on e true f = stands Posting (d.0, record { pre_all = d.1.pre_all; apply_all = apply_all e; enough = enough_is d.0 x.register.done (among applied_at w) sets.applied true f; post = fresh ∙ sym d.1.no_post })
      on e false f =
          let few = enough_is d.0 x.register.done (among applied_at w) sets.applied false f in
          stands Closing (Tried d.0 (record { pre_all = d.1.pre_all; apply_all = λ enough. apply_all e; post_all = λ before enough. short (among applied_at w) few enough }))

      go : (e : Bool) → is_nothing (left Applying x) ≡ e → Tells p w (on_stage (if e then gone_on Applying x.change x.register x.asked else Applying) x)
      go true e = on e (enough x.register (kind_for x.change) x.register.done) refl
      go false e = stands Applying d

  pub gone_posts : During Posting p.shape x w → Tells p w (on_stage (after Posting x) x)
  gone_posts d = go (is_nothing (left Posting x)) refl
    where
      post_all : is_nothing (left Posting x) ≡ true → IsIn (among applied_at w) (among posting w)
      post_all e =
          subst (λ (s : List ℕ). IsIn s (among posting w)) sets.applied
          (subst (λ (s : List ℕ). IsIn x.register.done s) d.1.post (none_left x.register.done (asked_at x.register Posts) e))

      go : (e : Bool) → is_nothing (left Posting x) ≡ e → Tells p w (on_stage (if e then Closing else Posting) x)
      go true e = stands Closing (Tried d.0 (record { pre_all = d.1.pre_all; apply_all = λ enough. d.1.apply_all; post_all = λ before enough. post_all e }))
      go false e = stands Posting d

  pub gone_unlock : During Closing p.shape x w → Tells p w (on_stage (after Closing x) x)
  gone_unlock d = go (is_nothing (left Closing x))
    where
      go : (e : Bool) → Tells p w (on_stage (if e then Closing else Closing) x)
      go true = stands Closing d
      go false = stands Closing d

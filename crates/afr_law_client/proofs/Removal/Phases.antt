-- The phases of the attempt: what the lines show after one more, and where the removal stands then.
use Rattle.std.proofs.Common.{◌≡◌, ℕ, ◌<◌, arith, Bool, true, false, List, [], ◌∷◌, None, length, refl, sym, ap, ◌∙◌, subst, if◌then◌else◌}
use Rattle.afr_base.specs.Bricks.{added, added_if, below, member, minus, is_nothing, IsIn}
use Rattle.afr_base.specs.SetLemmas.{lowest_left, none_left}
use Rattle.afr_base.specs.declared.ids.ActorId.{ActorId}
use Rattle.afr_base.specs.declared.ids.BrickId.{BrickId}
use Rattle.afr_base.specs.declared.ids.Gfid.{Gfid}
use Rattle.afr_base.specs.declared.ids.Kind.TheVariants.{Names}
use Rattle.afr_base.specs.declared.ids.NameId.{NameId}
use Rattle.afr_choice.specs.Verdict.{holders_of}
use Rattle.afr_choice.specs.VerdictLemmas.{holders_below}
use Rattle.afr_discipline.specs.Notes.{asked_at}
use Rattle.afr_discipline.specs.declared.register.Register.{Register}
use Rattle.afr_discipline.specs.declared.register.Step.TheVariants as step
use Rattle.afr_lines.specs.Told.{told_by}
use Rattle.afr_lines.specs.Work.{Work}
use Rattle.afr_lines.specs.declared.answer.Answer.{Answer}
use Rattle.afr_lines.specs.declared.answer.Told.{Told}
use Rattle.afr_lines.specs.declared.line.Line.{Line}
use Rattle.afr_lines.specs.declared.line.Line.TheVariants.{Ask}
use Rattle.afr_lines.specs.declared.request.Area.{Area}
use Rattle.afr_lines.specs.declared.request.Area.TheVariants.{Name}
use Rattle.afr_lines.specs.declared.request.Request.TheVariants as request
use Rattle.afr_model_moves.specs.Note as note
use Rattle.afr_object.specs.Tables.{object_of}
use Rattle.afr_plan.specs.declared.plan.Plan.{Plan}
use Rattle.afr_model.specs.Showing.{among, applied_at, applying, has, looked_by, posting, prepared, preparing}
use Rattle.afr_model.specs.Standing.{locks_any, suffices}
use Rattle.afr_client_entry.specs.Removals.Removal.{Removing, after, answered, brick_at, gone_on, left, moved, on_stage, request_at, sets_after}
use Rattle.afr_client_entry.specs.Removals.Sound as sound
use Rattle.afr_client_entry.specs.Removals.Sound.{IsAsking, IsBase, IsRemoval, Sound}
use Rattle.afr_client_entry.specs.declared.removing.stage.RemovalEnding.TheVariants.{Counted}
use Rattle.afr_client_entry.specs.declared.removing.stage.RemovalStage.TheVariants.{Preparing, Applying, Posting, Closing}
use Rattle.afr_client_entry.proofs.Removals.AfterLemmas.{apply_base, post_base, pre_base}
use Rattle.afr_client_transaction.specs.Progress.{enough, number_in}
use Rattle.afr_client_transaction.proofs.Parts.{holder_shows}
use Rattle.afr_client_transaction.proofs.Requests.{after_outside, noted_is}
use Rattle.afr_law_client.specs.Tells.{OnPre}
use Rattle.afr_law_client.proofs.Calm.{calm_ask}
use Rattle.afr_law_client.proofs.Excused.{any_lock, ask_excused}
use Rattle.afr_law_client.proofs.Leaves.{Leaves, apply_asks, apply_before, apply_leaves, post_asks, post_leaves, pre_asks, pre_before, pre_leaves}
use Rattle.afr_law_client.proofs.Small.{done_told}
use Rattle.afr_law_client.specs.Removal.RemovalTelling.{CanTell, OnApply, OnPost, RemovalGoes, RemovalTells, Tries}
use Rattle.afr_law_client.proofs.Removal.Lines.{goes_plain}
use Rattle.afr_law_client.proofs.Removal.Listing.{judged_ask}
use Rattle.afr_law_client.proofs.Removal.Refused.{answered_after}
use Rattle.afr_law_client.proofs.Removal.Takers.{enough_is}

-- ---- where nobody is left to ask
module _ (p : Plan) (path : List NameId) (x : Removing) (w : Work) (removes : IsRemoval x.change) (base : IsBase x.change x.register) (k : RemovalGoes p path x.change x.register x.child.gfid w) (t : Tries p x.change x.child w) where
  abbrev Suffices : List ℕ → Bool
  Suffices s = suffices p.shape Names (looked_by (object_of x.change) w) s

  same_as : (s v : List ℕ) → s ≡ v → (f : Bool) → enough x.register Names s ≡ f → Suffices v ≡ f
  same_as s v e f h = subst (λ (y : List ℕ). Suffices y ≡ f) e (sym (enough_is p path x.change x.register x.child.gfid w base k s) ∙ h)

  short : {A : Type 0} → (s : List ℕ) → Suffices s ≡ false → Suffices s ≡ true → A
  short s few enough = absurd (cc (few, enough))

  pub gone_pres : OnPre (asked_at x.register step.Pres) w → asked_at x.register step.Applies ≡ [] → RemovalTells p path (on_stage (after Preparing x) x) w
  gone_pres d fresh = go (is_nothing (left Preparing x)) refl
    where
      pre_all : is_nothing (left Preparing x) ≡ true → IsIn x.child.takers (among preparing w)
      pre_all e = subst (λ (s : List ℕ). IsIn x.child.takers s) d.pre (none_left x.child.takers (asked_at x.register step.Pres) e)

      on : is_nothing (left Preparing x) ≡ true → (f : Bool) → enough x.register Names x.register.pre ≡ f → RemovalTells p path (on_stage (if f then Applying else Closing Counted) x) w
      on e true f = (k, t, record { pre_all = pre_all e; apply = fresh ∙ sym d.no_apply; no_post = d.no_post; no_post_did = d.no_post_did })
      on e false f =
          let few = same_as x.register.pre (among prepared w) k.sets.prepared false f in
          record { led = k.led; answered = answered_after p path x.change x.register x.child w removes k t (pre_all e) (λ enough. short (among prepared w) few enough) (λ enough. short (among prepared w) few enough) }

      go : (e : Bool) → is_nothing (left Preparing x) ≡ e → RemovalTells p path (on_stage (if e then gone_on Preparing x.register x.child else Preparing) x) w
      go true e = on e (enough x.register Names x.register.pre) refl
      go false e = (k, t, d)

  pub gone_applies : OnApply x.child.takers (asked_at x.register step.Applies) w → asked_at x.register step.Posts ≡ [] → RemovalTells p path (on_stage (after Applying x) x) w
  gone_applies d fresh = go (is_nothing (left Applying x)) refl
    where
      apply_all : is_nothing (left Applying x) ≡ true → IsIn (among prepared w) (among applying w)
      apply_all e =
          subst (λ (s : List ℕ). IsIn s (among applying w)) k.sets.prepared
          (subst (λ (s : List ℕ). IsIn x.register.pre s) d.apply (none_left x.register.pre (asked_at x.register step.Applies) e))

      on : is_nothing (left Applying x) ≡ true → (f : Bool) → enough x.register Names x.register.done ≡ f → RemovalTells p path (on_stage (if f then Posting else Closing Counted) x) w
      on e true f = (k, t, record { pre_all = d.pre_all; apply_all = apply_all e; enough = same_as x.register.done (among applied_at w) k.sets.applied true f; post = fresh ∙ sym d.no_post })
      on e false f =
          let few = same_as x.register.done (among applied_at w) k.sets.applied false f in
          record { led = k.led; answered = answered_after p path x.change x.register x.child w removes k t d.pre_all (λ enough. apply_all e) (λ before enough. short (among applied_at w) few enough) }

      go : (e : Bool) → is_nothing (left Applying x) ≡ e → RemovalTells p path (on_stage (if e then gone_on Applying x.register x.child else Applying) x) w
      go true e = on e (enough x.register Names x.register.done) refl
      go false e = (k, t, d)

  pub gone_posts : OnPost p x.change x.child.takers (asked_at x.register step.Posts) w → RemovalTells p path (on_stage (after Posting x) x) w
  gone_posts d = go (is_nothing (left Posting x)) refl
    where
      post_all : is_nothing (left Posting x) ≡ true → IsIn (among applied_at w) (among posting w)
      post_all e =
          subst (λ (s : List ℕ). IsIn s (among posting w)) k.sets.applied
          (subst (λ (s : List ℕ). IsIn x.register.done s) d.post (none_left x.register.done (asked_at x.register step.Posts) e))

      go : (e : Bool) → is_nothing (left Posting x) ≡ e → RemovalTells p path (on_stage (if e then Closing Counted else Posting) x) w
      go true e = record { led = k.led; answered = answered_after p path x.change x.register x.child w removes k t d.pre_all (λ enough. d.apply_all) (λ before enough. post_all e) }
      go false e = (k, t, d)

-- ---- a line of a phase
module _ (p : Plan) (path : List NameId) (m : Removing) (w : Work) (a : ActorId) (chosen : BrickId) (heard : Answer) (took : Bool) (log : List Line) (s : Sound m) (k : RemovalGoes p path m.change m.register m.child.gfid w) (t : Tries p m.change m.child w) where
  abbrev r : Register
  r = m.register

  abbrev told : Told
  told = told_by heard

  abbrev g : Gfid
  g = object_of m.change

  abbrev whole_child : Area
  whole_child = Name m.child.gfid None

  locked : has locks_any w ≡ true
  locked = any_lock g w k.locked.locked.locked

  -- ---- pre-op
  pub told_pre : OnPre (asked_at r step.Pres) w → sound.During Preparing m → IsAsking Preparing m → CanTell (request_at Preparing m) heard
      → RemovalTells p path (answered chosen Preparing heard (length log) m) ((Ask a (record { 0 = brick_at Preparing m }) (request_at Preparing m) told took, log) ∷ w)
  told_pre d ds e can =
      subst (λ (y : Register). RemovalTells p path (moved chosen Preparing b.0 heard y m) more) (sym (noted_is r (length log) b.0 (request_at Preparing m) told s.base.outside))
      (gone_pres p path now more s.removes (pre_base m.change whole_child r b.0 small s.base s.areas g Names told) goes_on tries
      (record { pre = pre_asks r b.0 g Names told ∙ ap (added b.0) d.pre; no_apply = d.no_apply; no_apply_did = d.no_apply_did; no_post = d.no_post; no_post_did = d.no_post_did })
      (pre_before r b.0 g Names told))
    where
      b : BrickId
      b = record { 0 = brick_at Preparing m }

      q : Register
      q = after_outside r b.0 (request.Pre g Names) told

      now : Removing
      now = sets_after Preparing b.0 told q m

      more : Work
      more = (Ask a b (request.Pre g Names) told took, log) ∷ w

      holds : member (holders_of r.looked) b.0 ≡ true
      holds = ds.1.among b.0 (lowest_left m.child.takers (asked_at r step.Pres) e).1

      small : b.0 < r.shape.n
      small = s.base.shown.reached b.0 (holder_shows b.0 r.looked holds (holders_below r.looked b.0 holds)).1

      left_by : Leaves q r.shape r.looked r.begun (added_if (note.is_done told) b.0 r.pre) r.done r.post
      left_by = pre_leaves r b.0 g Names told

      goes_on : RemovalGoes p path m.change q m.child.gfid more
      goes_on =
          goes_plain p path m.change r q m.child.gfid a b told took log w k r.begun (added_if (note.is_done told) b.0 r.pre) r.done r.post left_by (request.Pre g Names) tt
          (record { prepared = left_by.pre_is ∙ rw (done_told told, k.sets.prepared) refl; applied = left_by.done_is ∙ k.sets.applied; posted = left_by.post_is ∙ k.sets.posted; number = left_by.begun_is ∙ k.sets.number })
          (ask_excused a b (request.Pre g Names) told took log w can.fits can.phase locked (omega (arith, small, s.base.few)) k.excused)
          (calm_ask a b (request.Pre g Names) told took log w t.begun.began can.phase k.calm)

      tries : Tries p m.change m.child more
      tries = record {
        empty = record { empty = t.empty.empty; unrefused = t.empty.unrefused };
        judged = judged_ask p m.change m.child w t.judged log a b told took (request.Pre g Names) tt;
        begun = record { began = t.begun.began; attempt = t.begun.attempt; number = t.begun.number; is_change = t.begun.is_change };
      }

  -- ---- the operation
  pub told_apply : OnApply m.child.takers (asked_at r step.Applies) w → sound.During Applying m → IsAsking Applying m → CanTell (request_at Applying m) heard
      → RemovalTells p path (answered chosen Applying heard (length log) m) ((Ask a (record { 0 = brick_at Applying m }) (request_at Applying m) told took, log) ∷ w)
  told_apply d ds e can =
      subst (λ (y : Register). RemovalTells p path (moved chosen Applying b.0 heard y m) more) (sym (noted_is r (length log) b.0 (request_at Applying m) told s.base.outside))
      (gone_applies p path now more s.removes (apply_base m.change whole_child r b.0 small s.base s.areas n told) goes_on tries
      (record { pre_all = d.pre_all; apply = apply_asks r b.0 n told ∙ ap (added b.0) d.apply; no_post = d.no_post; no_post_did = d.no_post_did })
      (apply_before r b.0 n told))
    where
      b : BrickId
      b = record { 0 = brick_at Applying m }

      n : ℕ
      n = number_in r.begun

      q : Register
      q = after_outside r b.0 (request.Apply n) told

      now : Removing
      now = sets_after Applying b.0 told q m

      more : Work
      more = (Ask a b (request.Apply n) told took, log) ∷ w

      small : b.0 < r.shape.n
      small = s.base.pre_within b.0 (lowest_left r.pre (asked_at r step.Applies) e).1

      left_by : Leaves q r.shape r.looked r.begun r.pre (added_if (note.is_done told) b.0 r.done) r.post
      left_by = apply_leaves r b.0 n told

      goes_on : RemovalGoes p path m.change q m.child.gfid more
      goes_on =
          goes_plain p path m.change r q m.child.gfid a b told took log w k r.begun r.pre (added_if (note.is_done told) b.0 r.done) r.post left_by (request.Apply n) tt
          (record { prepared = left_by.pre_is ∙ k.sets.prepared; applied = left_by.done_is ∙ rw (done_told told, k.sets.applied) refl; posted = left_by.post_is ∙ k.sets.posted; number = left_by.begun_is ∙ k.sets.number })
          (ask_excused a b (request.Apply n) told took log w can.fits can.phase locked (omega (arith, small, s.base.few)) k.excused)
          (calm_ask a b (request.Apply n) told took log w t.begun.began can.phase k.calm)

      tries : Tries p m.change m.child more
      tries = record {
        empty = record { empty = t.empty.empty; unrefused = t.empty.unrefused };
        judged = judged_ask p m.change m.child w t.judged log a b told took (request.Apply n) tt;
        begun = record { began = t.begun.began; attempt = t.begun.attempt; number = t.begun.number; is_change = t.begun.is_change };
      }

  -- ---- post-op
  pub told_post : OnPost p m.change m.child.takers (asked_at r step.Posts) w → sound.During Posting m → IsAsking Posting m → CanTell (request_at Posting m) heard
      → RemovalTells p path (answered chosen Posting heard (length log) m) ((Ask a (record { 0 = brick_at Posting m }) (request_at Posting m) told took, log) ∷ w)
  told_post d ds e can =
      subst (λ (y : Register). RemovalTells p path (moved chosen Posting b.0 heard y m) more) (sym (noted_is r (length log) b.0 (request_at Posting m) told s.base.outside))
      (gone_posts p path now more s.removes (post_base m.change whole_child r b.0 small s.base s.areas n g Names missed told) goes_on tries
      (record { pre_all = d.pre_all; apply_all = d.apply_all; enough = d.enough; post = post_asks r b.0 n g Names missed told ∙ ap (added b.0) d.post }))
    where
      b : BrickId
      b = record { 0 = brick_at Posting m }

      n : ℕ
      n = number_in r.begun

      missed : List ℕ
      missed = minus (below r.shape.n) r.done

      q : Register
      q = after_outside r b.0 (request.Post n g Names missed) told

      now : Removing
      now = sets_after Posting b.0 told q m

      more : Work
      more = (Ask a b (request.Post n g Names missed) told took, log) ∷ w

      small : b.0 < r.shape.n
      small = s.base.done_within b.0 (lowest_left r.done (asked_at r step.Posts) e).1

      left_by : Leaves q r.shape r.looked r.begun r.pre r.done (added_if (note.is_done told) b.0 r.post)
      left_by = post_leaves r b.0 n g Names missed told

      goes_on : RemovalGoes p path m.change q m.child.gfid more
      goes_on =
          goes_plain p path m.change r q m.child.gfid a b told took log w k r.begun r.pre r.done (added_if (note.is_done told) b.0 r.post) left_by (request.Post n g Names missed) tt
          (record { prepared = left_by.pre_is ∙ k.sets.prepared; applied = left_by.done_is ∙ k.sets.applied; posted = left_by.post_is ∙ rw (done_told told, k.sets.posted) refl; number = left_by.begun_is ∙ k.sets.number })
          (ask_excused a b (request.Post n g Names missed) told took log w can.fits can.phase tt (omega (arith, small, s.base.few)) k.excused)
          (calm_ask a b (request.Post n g Names missed) told took log w t.begun.began can.phase k.calm)

      tries : Tries p m.change m.child more
      tries = record {
        empty = record { empty = t.empty.empty; unrefused = t.empty.unrefused };
        judged = judged_ask p m.change m.child w t.judged log a b told took (request.Post n g Names missed) tt;
        begun = record { began = t.begun.began; attempt = t.begun.attempt; number = t.begun.number; is_change = t.begun.is_change };
      }

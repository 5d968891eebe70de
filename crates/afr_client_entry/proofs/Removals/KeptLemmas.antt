-- A removal stays sound, whatever its bricks answer.
use Rattle.std.proofs.Common.{◌≡◌, ℕ, ◌<◌, ◌≤◌, not, Bool, true, false, List, [], ◌∷◌, refl, sym, subst, ap, ◌∙◌, arith, inl, Option, None, Some, if◌then◌else◌}
use Rattle.afr_base.specs.Bricks.{below, lowest, member, minus, is_nothing}
use Rattle.afr_base.specs.Majority.{is_majority}
use Rattle.afr_base.specs.SetLemmas.{lowest_in, lowest_left, majority_some, some_member}
use Rattle.afr_base.specs.declared.ids.BrickId.{BrickId}
use Rattle.afr_base.specs.declared.ids.Gfid.{Gfid}
use Rattle.afr_base.specs.declared.ids.Kind.TheVariants.{Names}
use Rattle.afr_base.specs.declared.ids.Shape.{Shape}
use Rattle.afr_object.specs.Tables.{object_of}
use Rattle.afr_object.specs.declared.change.Change.{Change}
use Rattle.afr_object.specs.declared.entry.View.{View}
use Rattle.afr_choice.specs.Verdict.{good_copies, holders_of}
use Rattle.afr_choice.specs.VerdictLemmas.{good_below, holders_below}
use Rattle.afr_choice.specs.declared.looked.Looked.{Looked}
use Rattle.afr_lines.specs.Areas.{area_for}
use Rattle.afr_lines.specs.Told.{told_by}
use Rattle.afr_lines.specs.declared.answer.Answer.{Answer}
use Rattle.afr_lines.specs.declared.answer.Answer.TheVariants as answer
use Rattle.afr_lines.specs.declared.answer.Told.{Told}
use Rattle.afr_lines.specs.declared.request.Request.{Request}
use Rattle.afr_model_moves.specs.Keeps.{keeps_in}
use Rattle.afr_model_moves.specs.Honest.{plane_kind}
use Rattle.afr_model_moves.specs.Register.{holder}
use Rattle.afr_discipline.specs.Notes.{asked_at, noted_ask}
use Rattle.afr_discipline.specs.Stands.{views_of}
use Rattle.afr_discipline.specs.Tests.{suffices_by}
use Rattle.afr_discipline.specs.declared.register.Register.{Register}
use Rattle.afr_discipline.specs.declared.register.Step.TheVariants as step
use Rattle.afr_client_transaction.specs.Progress.{enough, may_start, number_in}
use Rattle.afr_client_transaction.specs.Sound.{Shown}
use Rattle.afr_client_transaction.proofs.Kept.{later, minus_nil, most_of, none_asked}
use Rattle.afr_client_transaction.proofs.Parts.{both, denied, holder_shows, shown_none}
use Rattle.afr_client_transaction.proofs.Requests.{after_outside, locked_w, noted_is}
use Rattle.afr_rule.specs.Choosing.{Calls}
use Rattle.afr_rule.specs.declared.candidate.Candidate.{Candidate}
use Rattle.afr_client_walk.specs.Choosing.{IsAmong, RuleAnswers, reader_of}
use Rattle.afr_client_walk.proofs.ChoosingLemmas.{among_good, answers_among, some_among}
use Rattle.afr_client_entry.specs.Removals.Laws.{BeginsSound, StaysSound}
use Rattle.afr_client_entry.specs.Removals.Removal.{Removing, after, against, answered, begun, both_held, brick_at, child_after, child_reads, choices_at, choices_in, gone_on, has_takers, is_beginning, is_over, left, listed, moved, offered, offered_after, on_stage, or_close, reads_at, register_after, removing, request_at, sets_after, stage_after, takers_of, unlocks, untouched, whole}
use Rattle.afr_client_entry.specs.Removals.Sound.{During, HasAreas, HasTakers, IsAsking, IsBase, IsRemoval, IsUnbegun, Ready, Sound}
use Rattle.afr_client_entry.specs.declared.removing.child.Child.{Child}
use Rattle.afr_client_entry.specs.declared.removing.stage.RemovalEnding.{RemovalEnding}
use Rattle.afr_client_entry.specs.declared.removing.stage.RemovalEnding.TheVariants.{Counted, NoQuorum, FewCopies, SplitBrain, NotEmpty, Failed}
use Rattle.afr_client_entry.specs.declared.removing.stage.RemovalStage.{RemovalStage}
use Rattle.afr_client_entry.specs.declared.removing.stage.RemovalStage.TheVariants.{Locking, Looking, Listing, Beginning, Preparing, Applying, Posting, Closing}
use Rattle.afr_client_entry.proofs.Removals.AfterLemmas.{apply_areas, apply_base, apply_begun, apply_enough, child_shown, list_areas, list_base, lock_areas, lock_base, lock_unbegun, locked_is, look_areas, look_base, look_unbegun, post_areas, post_base, post_begun, post_enough, pre_areas, pre_base, pre_begun, unlock_areas, unlock_base}
use Rattle.afr_client_entry.proofs.Removals.Facts.{apart, common_left, common_right, is_busy, list_asked, lock_asked, look_asked, some_takers}

-- ---- the copy that is listed
-- where the looks rule nothing out, there is a good copy
pub some_good : (shape : Shape) (looked : Looked) → against shape looked ≡ None → is_nothing (good_copies shape looked Names) ≡ false
some_good shape looked e = clean (is_majority shape.n looked.reached) (is_majority shape.n (holders_of looked)) (is_nothing (good_copies shape looked Names)) looked.views e
  where
    clean : (a b c : Bool) (views : List (Option View)) → (if not a then Some NoQuorum else (if not b then Some FewCopies else (if c then Some (SplitBrain views) else None))) ≡ None → c ≡ false
    clean false b c views h = absurd (cc h)
    clean true false c views h = absurd (cc h)
    clean true true true views h = absurd (cc h)
    clean true true false views h = refl

-- so it is where they lead to the list
pub listed_good : (x : Removing) → after Looking x ≡ Listing → is_nothing (good_copies x.register.shape x.child.looked Names) ≡ false
listed_good x h = go (is_nothing (left Looking x)) h
  where
    judged : (why : Option RemovalEnding) → against x.register.shape x.child.looked ≡ why → or_close why Listing ≡ Listing → is_nothing (good_copies x.register.shape x.child.looked Names) ≡ false
    judged None e h = some_good x.register.shape x.child.looked e
    judged (Some why) e h = absurd (cc h)

    takes : (f : Bool) → (if f then or_close (against x.register.shape x.child.looked) Listing else Closing NoQuorum) ≡ Listing → is_nothing (good_copies x.register.shape x.child.looked Names) ≡ false
    takes true h = judged (against x.register.shape x.child.looked) refl h
    takes false h = absurd (cc h)

    go : (e : Bool) → (if e then gone_on Looking x.register x.child else Looking) ≡ Listing → is_nothing (good_copies x.register.shape x.child.looked Names) ≡ false
    go true h = takes (has_takers x.register) h
    go false h = absurd (cc h)

-- ---- where the removal stands then
module _ (x : Removing) (removes : IsRemoval x.change) (base : IsBase x.change x.register) (areas : HasAreas x.change (whole x.child) x.register) (child : Shown x.register.shape.n x.child.looked) where
  stands : (stage : RemovalStage) → During stage x → Ready stage x → Sound (on_stage stage x)
  stands Locking d e = record { removes = removes; base = base; areas = areas; child = child; during = d; ready = e }
  stands Looking d e = record { removes = removes; base = base; areas = areas; child = child; during = d; ready = e }
  stands Listing d e = record { removes = removes; base = base; areas = areas; child = child; during = d; ready = e }
  stands Beginning d e = record { removes = removes; base = base; areas = areas; child = child; during = d; ready = e }
  stands Preparing d e = record { removes = removes; base = base; areas = areas; child = child; during = d; ready = e }
  stands Applying d e = record { removes = removes; base = base; areas = areas; child = child; during = d; ready = e }
  stands Posting d e = record { removes = removes; base = base; areas = areas; child = child; during = d; ready = e }
  stands (Closing why) d e = record { removes = removes; base = base; areas = areas; child = child; during = d; ready = e }

  pub after_locks : During Locking x → Sound (on_stage (after Locking x) x)
  after_locks d = go (is_nothing (left Locking x)) refl
    where
      takes : (f : Bool) → has_takers x.register ≡ f → Sound (on_stage (if f then Looking else Closing NoQuorum) x)
      takes true f =
          let one = some_takers x.register f in
          let held : member (both_held x.register) one.0 ≡ true = common_right (holders_of x.register.looked) (both_held x.register) one.0 one.1 in
          stands Looking d.0 (rw d.1 (minus_nil (both_held x.register) (some_member (both_held x.register) one.0 held)))
      takes false f = stands (Closing NoQuorum) tt tt

      go : (e : Bool) → is_nothing (left Locking x) ≡ e → Sound (on_stage (if e then gone_on Locking x.register x.child else Locking) x)
      go true e = takes (has_takers x.register) refl
      go false e = stands Locking d e

  pub after_looks : During Looking x → x.child.takers ≡ takers_of x.register → IsAmong (offered (after Looking x) x.register.shape x.child.looked) x.child.reader → Sound (on_stage (after Looking x) x)
  after_looks d t among = go (is_nothing (left Looking x)) refl among
    where
      takers : has_takers x.register ≡ true → HasTakers x
      takers f =
          let one = some_takers x.register f in
          record {
            among = λ b m. common_left (holders_of x.register.looked) (both_held x.register) b (subst (λ (s : List ℕ). member s b ≡ true) t m);
            some = rw t (some_member (takers_of x.register) one.0 one.1);
          }

      judged : (why : Option RemovalEnding) → against x.register.shape x.child.looked ≡ why → has_takers x.register ≡ true → IsAmong (offered (or_close why Listing) x.register.shape x.child.looked) x.child.reader → Sound (on_stage (or_close why Listing) x)
      judged None e f h = stands Listing (d, takers f, among_good x.register.shape x.child.looked Names x.child.reader (some_good x.register.shape x.child.looked e) h) tt
      judged (Some why) e f h = stands (Closing why) tt tt

      takes : (f : Bool) → has_takers x.register ≡ f → IsAmong (offered (if f then or_close (against x.register.shape x.child.looked) Listing else Closing NoQuorum) x.register.shape x.child.looked) x.child.reader
          → Sound (on_stage (if f then or_close (against x.register.shape x.child.looked) Listing else Closing NoQuorum) x)
      takes true f h = judged (against x.register.shape x.child.looked) refl f h
      takes false f h = stands (Closing NoQuorum) tt tt

      go : (e : Bool) → is_nothing (left Looking x) ≡ e → IsAmong (offered (if e then gone_on Looking x.register x.child else Looking) x.register.shape x.child.looked) x.child.reader
          → Sound (on_stage (if e then gone_on Looking x.register x.child else Looking) x)
      go true e h = takes (has_takers x.register) refl h
      go false e h = stands Looking d e

  pub after_list : HasTakers x → (a : Answer) → Sound (on_stage (listed a x.change x.register) x)
  after_list takers (answer.Names []) = start (may_start x.register x.change) refl
    where
      start : (f : Bool) → may_start x.register x.change ≡ f → Sound (on_stage (if f then Beginning else Closing Failed) x)
      start true f = stands Beginning (f, takers) tt
      start false f = stands (Closing Failed) tt tt
  after_list takers (answer.Names (y ∷ names)) = stands (Closing NotEmpty) tt tt
  after_list takers a = stands (Closing Failed) tt tt

  pub after_pres : During Preparing x → Sound (on_stage (after Preparing x) x)
  after_pres d = go (is_nothing (left Preparing x)) refl
    where
      suffices : (f : Bool) → enough x.register Names x.register.pre ≡ f → Sound (on_stage (if f then Applying else Closing Counted) x)
      suffices true f =
          stands Applying (later x.change x.register 2 3 (omega arith) d.0, f)
          (rw (none_asked x.register step.Applies 2 d.0.order (omega arith)) (majority_some x.register.shape.n x.register.pre (most_of x.register Names x.register.pre f)))
      suffices false f = stands (Closing Counted) tt tt

      go : (e : Bool) → is_nothing (left Preparing x) ≡ e → Sound (on_stage (if e then gone_on Preparing x.register x.child else Preparing) x)
      go true e = suffices (enough x.register Names x.register.pre) refl
      go false e = stands Preparing d e

  pub after_applies : During Applying x → Sound (on_stage (after Applying x) x)
  after_applies d = go (is_nothing (left Applying x)) refl
    where
      suffices : (f : Bool) → enough x.register Names x.register.done ≡ f → Sound (on_stage (if f then Posting else Closing Counted) x)
      suffices true f =
          stands Posting (later x.change x.register 3 4 (omega arith) d.0, f)
          (rw (none_asked x.register step.Posts 3 d.0.order (omega arith)) (majority_some x.register.shape.n x.register.done (most_of x.register Names x.register.done f)))
      suffices false f = stands (Closing Counted) tt tt

      go : (e : Bool) → is_nothing (left Applying x) ≡ e → Sound (on_stage (if e then gone_on Applying x.register x.child else Applying) x)
      go true e = suffices (enough x.register Names x.register.done) refl
      go false e = stands Applying d e

  pub after_posts : During Posting x → Sound (on_stage (after Posting x) x)
  after_posts d = go (is_nothing (left Posting x)) refl
    where
      go : (e : Bool) → is_nothing (left Posting x) ≡ e → Sound (on_stage (if e then Closing Counted else Posting) x)
      go true e = stands (Closing Counted) tt tt
      go false e = stands Posting d e

  pub after_unlock : (why : RemovalEnding) → Sound (on_stage (after (Closing why) x) x)
  after_unlock why = go (is_nothing (left (Closing why) x))
    where
      go : (e : Bool) → Sound (on_stage (if e then Closing why else Closing why) x)
      go true = stands (Closing why) tt tt
      go false = stands (Closing why) tt tt

-- the copy that was chosen at the end of the looks is listed
looks_kept : (chosen : BrickId) (x : Removing) → IsRemoval x.change → IsBase x.change x.register → HasAreas x.change (whole x.child) x.register → Shown x.register.shape.n x.child.looked
    → During Looking x → x.child.takers ≡ takers_of x.register → IsAmong (offered (after Looking x) x.register.shape x.child.looked) chosen → Sound (on_stage (after Looking x) (reads_at chosen Looking x))
looks_kept chosen x removes base areas child d t among = after_looks (reads_at chosen Looking x) removes base areas child d t among

-- ---- an answer
module _ (chosen : BrickId) (m : Removing) (s : Sound m) (a : Answer) (at : ℕ) where
  abbrev r : Register
  r = m.register

  abbrev told : Told
  told = told_by a

  -- the removal with the register as it computes outside a heal
  seen : (stage : RemovalStage) → Sound (moved chosen stage (brick_at stage m) a (after_outside r (brick_at stage m) (request_at stage m) told) m) → Sound (answered chosen stage a at m)
  seen stage h = subst (λ (q : Register). Sound (moved chosen stage (brick_at stage m) a q m)) (sym (noted_is r at (brick_at stage m) (request_at stage m) told s.base.outside)) h

  kept_lock : During Locking m → IsAsking Locking m → Sound (answered chosen Locking a at m)
  kept_lock d e =
      let b = brick_at Locking m in
      let held : member r.held b ≡ true = lock_asked m e in
      let small : b < r.shape.n = s.base.held_within _ held in
      let c = whole m.child in
      let q = locked_w true false r c b told in
      seen Locking
      (subst (λ (q : Register). Sound (moved chosen Locking b a q m)) (sym (locked_is m.change c r b small s.base s.areas (is_busy r b small held) (apart m.change s.removes r.area m.child.gfid s.areas.named) told))
      (after_locks (sets_after Locking b told q m) s.removes (lock_base m.change c r b small s.base s.areas told) (lock_areas m.change c r b small s.base s.areas told) s.child
      (lock_unbegun m.change c r b small s.base s.areas told d.0, d.1)))

  kept_look : During Looking m → IsAsking Looking m → IsAmong (choices_at Looking a at m) chosen → Sound (answered chosen Looking a at m)
  kept_look d e among =
      let b = brick_at Looking m in
      let small : b < r.shape.n = s.base.held_within _ (look_asked m e) in
      let c = whole m.child in
      let g = m.child.gfid in
      seen Looking
      (looks_kept chosen (sets_after Looking b told (after_outside r b (request_at Looking m) told) m) s.removes (look_base m.change c r b small s.base s.areas g told) (look_areas m.change c r b small s.base s.areas g told)
      (child_shown m.change c r b small s.base s.areas m.child.looked told s.child) (look_unbegun m.change c r b small s.base s.areas g told d) refl
      (subst (λ (q : Register). IsAmong (choices_in Looking a (sets_after Looking b told q m)) chosen) (noted_is r at b (request_at Looking m) told s.base.outside) among))

  kept_list : During Listing m → Sound (answered chosen Listing a at m)
  kept_list d =
      let b = brick_at Listing m in
      let small : b < r.shape.n = list_asked m s.child d.2 in
      let c = whole m.child in
      let g = m.child.gfid in
      seen Listing
      (after_list (sets_after Listing b told (after_outside r b (request_at Listing m) told) m) s.removes (list_base m.change c r b small s.base s.areas g told) (list_areas m.change c r b small s.base s.areas g told) s.child d.1 a)

  kept_pre : During Preparing m → IsAsking Preparing m → Sound (answered chosen Preparing a at m)
  kept_pre d e =
      let b = brick_at Preparing m in
      let holds = d.1.among _ (lowest_left m.child.takers (asked_at r step.Pres) e).1 in
      let small : b < r.shape.n = s.base.shown.reached _ (holder_shows _ r.looked holds (holders_below r.looked _ holds)).1 in
      let c = whole m.child in
      let g = object_of m.change in
      seen Preparing
      (after_pres (sets_after Preparing b told (after_outside r b (request_at Preparing m) told) m) s.removes (pre_base m.change c r b small s.base s.areas g Names told) (pre_areas m.change c r b small s.base s.areas g Names told) s.child
      (pre_begun m.change c r b small s.base s.areas g Names told d.0, d.1))

  kept_apply : During Applying m → IsAsking Applying m → Sound (answered chosen Applying a at m)
  kept_apply d e =
      let b = brick_at Applying m in
      let small : b < r.shape.n = s.base.pre_within _ (lowest_left r.pre (asked_at r step.Applies) e).1 in
      let c = whole m.child in
      let q = number_in r.begun in
      seen Applying
      (after_applies (sets_after Applying b told (after_outside r b (request_at Applying m) told) m) s.removes (apply_base m.change c r b small s.base s.areas q told) (apply_areas m.change c r b small s.base s.areas q told) s.child
      (apply_begun m.change c r b small s.base s.areas q told d.0, apply_enough m.change c r b small s.base s.areas q told Names d.1))

  kept_post : During Posting m → IsAsking Posting m → Sound (answered chosen Posting a at m)
  kept_post d e =
      let b = brick_at Posting m in
      let small : b < r.shape.n = s.base.done_within _ (lowest_left r.done (asked_at r step.Posts) e).1 in
      let c = whole m.child in
      let q = number_in r.begun in
      let g = object_of m.change in
      let missed = minus (below r.shape.n) r.done in
      seen Posting
      (after_posts (sets_after Posting b told (after_outside r b (request_at Posting m) told) m) s.removes (post_base m.change c r b small s.base s.areas q g Names missed told)
      (post_areas m.change c r b small s.base s.areas q g Names missed told) s.child
      (post_begun m.change c r b small s.base s.areas q g Names missed told d.0, post_enough m.change c r b small s.base s.areas q g Names missed told Names d.1))

  kept_unlock : (why : RemovalEnding) → IsAsking (Closing why) m → Sound (answered chosen (Closing why) a at m)
  kept_unlock why e =
      let b = brick_at (Closing why) m in
      let small : b < r.shape.n = unlock_small r.second_held r.held s.areas.within s.base.held_within e in
      let c = whole m.child in
      let area = unlocks m.change r m.child in
      seen (Closing why)
      (after_unlock (sets_after (Closing why) b told (after_outside r b (request_at (Closing why) m) told) m) s.removes (unlock_base m.change c r b small s.base s.areas area told) (unlock_areas m.change c r b small s.base s.areas area told) s.child why)
    where
      unlock_small : (s h : List ℕ) → ((b : ℕ) → member s b ≡ true → b < r.shape.n) → ((b : ℕ) → member h b ≡ true → b < r.shape.n) → is_nothing (if is_nothing s then h else s) ≡ false → lowest (if is_nothing s then h else s) < r.shape.n
      unlock_small [] h one two e = two _ (lowest_in h e)
      unlock_small (x ∷ xs) h one two e = one _ (lowest_in (x ∷ xs) refl)

  pub kept_by : (stage : RemovalStage) → During stage m → IsAsking stage m → IsAmong (choices_at stage a at m) chosen → Sound (answered chosen stage a at m)
  kept_by Locking d e among = kept_lock d e
  kept_by Looking d e among = kept_look d e among
  kept_by Listing d e among = kept_list d
  kept_by Beginning d e among = absurd e
  kept_by Preparing d e among = kept_pre d e
  kept_by Applying d e among = kept_apply d e
  kept_by Posting d e among = kept_post d e
  kept_by (Closing why) d e among = kept_unlock why e

-- a removal that isn't over asks, but for its Begin line
pub asking_of : (stage : RemovalStage) (m : Removing) → Ready stage m → is_over stage m ≡ false → is_beginning stage ≡ false → IsAsking stage m
asking_of Locking m ready more away = ready
asking_of Looking m ready more away = ready
asking_of Listing m ready more away = tt
asking_of Beginning m ready more away = absurd (cc away)
asking_of Preparing m ready more away = ready
asking_of Applying m ready more away = ready
asking_of Posting m ready more away = ready
asking_of (Closing why) m ready more away = more

-- whatever is told at the next line, the removal stays sound
pub stays_sound : StaysSound
stays_sound m s more away chosen a at among = kept_by chosen m s a at m.stage s.during (asking_of m.stage m s.ready more away) among

-- the attempt has its number
pub begins_sound : BeginsSound
begins_sound m s is at = go m.stage is s.during
  where
    low : 1 ≤ 2
    low = omega arith

    go : (stage : RemovalStage) → is_beginning stage ≡ true → During stage m → Sound (begun at m)
    go Beginning e d =
        let r = m.register in
        let split = both _ (suffices_by r.shape.n (keeps_in r.shape) (plane_kind m.change) (views_of r.looked) (holder (views_of r.looked))) d.0 in
        let first = both _ _ (both _ _ (both _ _ (both _ _ (both _ _ split.0).0).0).0).0 in
        record {
          removes = s.removes;
          base = s.base;
          areas = s.areas;
          child = s.child;
          during = (record { number = at; is_begun = refl; open_still = denied r.unlocked first.1; named = s.areas.named; order = low }, d.1);
          ready = minus_nil m.child.takers d.1.some;
        }
    go stage e d = absurd (cc e)

-- before its first line
pub sound_first : (change : Change) (r : Register) (g : Gfid) → IsRemoval change → IsBase change r → r.area ≡ Some (area_for change) → r.second ≡ None → r.second_held ≡ [] → IsUnbegun r → Sound (removing change r g)
sound_first change r g removes base named second held unbegun =
    after_locks (record { change = change; register = r; stage = Locking; child = untouched g }) removes base
    (record { named = named; within = λ b m. absurd (none b (rw held at m)); second_is = inl (second, held) }) (shown_none r.shape.n) (unbegun, refl)
  where
    none : (b : ℕ) → member [] b ≡ true → ⊥
    none b h = cc h

-- it goes on outside heals
pub stays_outside : (m : Removing) → Sound m → is_over m.stage m ≡ false → is_beginning m.stage ≡ false → (a : Answer) (at : ℕ) → (register_after m.stage a at m).inside ≡ false
stays_outside m s more away a at = let one = some_among (choices_at m.stage a at m) in (stays_sound m s more away one.0 a at one.1).base.outside

-- the copy that is listed is on one of the five bricks
pub reader_small : (m : Removing) → Sound m → m.stage ≡ Listing → m.child.reader.0 < 5
reader_small m s is = let d : During Listing m = subst (λ (stage : RemovalStage). During stage m) is s.during in good_below m.register.shape m.child.looked Names m.child.reader.0 d.2

-- what the code makes is what the answer makes
pub answered_is : (chosen : BrickId) (m : Removing) (a : Answer) (at b : ℕ) (q : Request) (told : Told) (x : Register) (stage : RemovalStage) (c d : Child)
    → b ≡ brick_at m.stage m → q ≡ request_at m.stage m → told ≡ told_by a → x ≡ noted_ask m.register at b q told → c ≡ child_after m.stage b told x m.child
    → stage ≡ stage_after m.stage a (record { change = m.change; register = x; stage = m.stage; child = c }) → d ≡ child_reads chosen m.stage c
    → (record { change = m.change; register = x; stage = stage; child = d }) ≡ answered chosen m.stage a at m
answered_is chosen m a at b q told x stage c d eb eq et ex ec es ed = rw (ed, es, ec, ex, et, eq, eb) refl

-- and what it asks the rule for is what the answer leaves to choose from
pub offered_is : {F : Type 0} (calls : Calls F) (choose : F) (picked : Option BrickId) (m : Removing) (a : Answer) (at b : ℕ) (q : Request) (told : Told) (x : Register) (stage : RemovalStage) (c : Child)
    → b ≡ brick_at m.stage m → q ≡ request_at m.stage m → told ≡ told_by a → x ≡ noted_ask m.register at b q told → c ≡ child_after m.stage b told x m.child
    → stage ≡ stage_after m.stage a (record { change = m.change; register = x; stage = m.stage; child = c }) → RuleAnswers calls choose (offered_after m.stage stage x.shape c.looked) picked
    → RuleAnswers calls choose (choices_at m.stage a at m) picked
offered_is calls choose picked m a at b q told x stage c eb eq et ex ec es h = subst (λ (from : List Candidate). RuleAnswers calls choose from picked) (rw (es, ec, ex, et, eq, eb) refl) h

-- and where the looks lead to the list, there is a good copy
pub some_to_list : (m : Removing) (a : Answer) (x : Register) (stage : RemovalStage) (c : Child) → stage ≡ stage_after m.stage a (record { change = m.change; register = x; stage = m.stage; child = c }) → m.stage ≡ Looking → stage ≡ Listing
    → is_nothing (good_copies x.shape c.looked Names) ≡ false
some_to_list m a x stage c es was now =
    listed_good (record { change = m.change; register = x; stage = m.stage; child = c })
    (subst (λ (w : RemovalStage). stage_after w a (record { change = m.change; register = x; stage = m.stage; child = c }) ≡ Listing) was (sym es ∙ now))

-- the code's register goes on outside heals
pub noted_outside : (m n : Removing) → m ≡ n → Sound m → is_over n.stage n ≡ false → is_beginning n.stage ≡ false → (a : Answer) (at b : ℕ) (q : Request) (told : Told) (x : Register)
    → b ≡ brick_at n.stage n → q ≡ request_at n.stage n → told ≡ told_by a → x ≡ noted_ask m.register at b q told → x.inside ≡ false
noted_outside m n view s more away a at b q told x eb eq et ex = subst (λ (r : Register). r.inside ≡ false) (sym is) (stays_outside n (subst Sound view s) more away a at)
  where
    is : x ≡ register_after n.stage a at n
    is = ex ∙ ap (λ (m : Removing). noted_ask m.register at b q told) view ∙ rw (et, eq, eb) refl

-- what the code's removal is, after it has answered
pub record Answered {F : Type 0} (calls : Calls F) (choose : F) (picked : Option BrickId) (a : Answer) (at : ℕ) (n new : Removing) : Type 0 where
  pub sound : Sound new
  pub answers : RuleAnswers calls choose (choices_at n.stage a at n) picked
  pub value : new ≡ answered (reader_of picked) n.stage a at n

pub answer_is : {F : Type 0} (calls : Calls F) (choose : F) (picked : Option BrickId) (m n : Removing) → m ≡ n → Sound m → is_over n.stage n ≡ false → is_beginning n.stage ≡ false
    → (a : Answer) (at b : ℕ) (q : Request) (told : Told) (x : Register) (stage : RemovalStage) (c d : Child) → b ≡ brick_at n.stage n → q ≡ request_at n.stage n → told ≡ told_by a → x ≡ noted_ask m.register at b q told
    → c ≡ child_after m.stage b told x m.child → stage ≡ stage_after m.stage a (record { change = m.change; register = x; stage = m.stage; child = c })
    → RuleAnswers calls choose (offered_after m.stage stage x.shape c.looked) picked → d ≡ child_reads (reader_of picked) m.stage c
    → Answered calls choose picked a at n (record { change = m.change; register = x; stage = stage; child = d })
answer_is calls choose picked m n view s more away a at b q told x stage c d eb eq et ex ec es h ed = record {
  sound = subst Sound (sym made) (stays_sound n (subst Sound view s) more away (reader_of picked) a at (answers_among calls choose (choices_at n.stage a at n) picked asked));
  answers = asked;
  value = made;
}
  where
    here_b : b ≡ brick_at m.stage m
    here_b = eb ∙ ap (λ (y : Removing). brick_at y.stage y) (sym view)

    here_q : q ≡ request_at m.stage m
    here_q = eq ∙ ap (λ (y : Removing). request_at y.stage y) (sym view)

    asked : RuleAnswers calls choose (choices_at n.stage a at n) picked
    asked = subst (λ (y : Removing). RuleAnswers calls choose (choices_at y.stage a at y) picked) view (offered_is calls choose picked m a at b q told x stage c here_b here_q et ex ec es h)

    made : (record { change = m.change; register = x; stage = stage; child = d }) ≡ answered (reader_of picked) n.stage a at n
    made = subst (λ (y : Removing). (record { change = m.change; register = x; stage = stage; child = d }) ≡ answered (reader_of picked) y.stage a at y) view
        (answered_is (reader_of picked) m a at b q told x stage c d here_b here_q et ex ec es ed)

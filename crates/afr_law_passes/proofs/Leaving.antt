-- A request of a heal leaves an object and kind unchanged, as long as no heal of them goes on past its looks.
use Rattle.std.proofs.Common.{Bool, ap, arith, inl, inr, refl, subst, sym, true, true≢false, ℕ, ◌<◌, ◌∙◌, ◌≡◌, ◌≤◌}
use Rattle.std.specs.Prelude.{List as Seq, None, Option, Some, if◌then◌else◌, slice_index}
use Rattle.std.proofs.lemmas.Bool.{eqb-true}
use Rattle.afr_base.specs.declared.ids.ActorId.{ActorId}
use Rattle.afr_base.specs.declared.ids.BrickId.{BrickId}
use Rattle.afr_base.specs.declared.ids.Gfid.{Gfid}
use Rattle.afr_base.specs.declared.ids.Kind.{Kind}
use Rattle.afr_base.specs.declared.ids.Kind.TheVariants.{Attrs, Bytes, Names}
use Rattle.afr_object.specs.Tables.{copy_at, view_of}
use Rattle.afr_object.specs.declared.change.Repair.{Repair}
use Rattle.afr_object.specs.declared.entry.View.{View}
use Rattle.afr_object.specs.Object.{Object}
use Rattle.afr_lines.specs.declared.answer.Told.{Told}
use Rattle.afr_lines.specs.declared.answer.Told.TheVariants.{Done, Given, NoObject, Seen}
use Rattle.afr_lines.specs.declared.line.Line.{Line}
use Rattle.afr_lines.specs.declared.line.Line.TheVariants.{Ask}
use Rattle.afr_lines.specs.declared.request.Area.{Area}
use Rattle.afr_lines.specs.declared.request.Request.{Request}
use Rattle.afr_lines.specs.declared.request.Request.TheVariants.{Apply, Index, List, Lock, Look, Mend, Post, Pre, ReadAttr, ReadAttrs, ReadBytes, ReadName, Settle, Unlock}
use Rattle.afr_lines.specs.declared.lock.Domain.TheVariants.{Heal, Work}
use Rattle.afr_plan.specs.declared.plan.Plan.{Plan}
use Rattle.afr_model.specs.Sums.{dirty_of, pending_of}
use Rattle.afr_model.specs.Tables.{holds}
use Rattle.afr_law_tables.specs.CopyLaws.{gfid_is}
use Rattle.afr_model_moves.specs.Honest.{view_marks}
use Rattle.afr_model_moves.specs.Note.{left_in_heal, next_part, put}
use Rattle.afr_model_moves.specs.Past.{is_gone}
use Rattle.afr_model_moves.specs.Past as position
use Rattle.afr_model_moves.specs.Register.{Exact, HealPart, Looks, Opening, Step, WorkLocks, holder, is_opening, rank}
use Rattle.afr_model_moves.specs.Rules as weak
use Rattle.afr_model_moves.specs.Rules.{Register, repair_kind}
use Rattle.afr_model_moves.specs.Steps.{goes_on, looks_over, may_heal, onward, settles_over}
use Rattle.afr_model_moves.proofs.Tests.{same_kind_yes}
use Rattle.afr_law.proofs.Discipline.AskFields.{WorkLocked, frees_heal, frees_work, sees, work_locked}
use Rattle.afr_law.proofs.Discipline.Firsts.{FirstsOf}
use Rattle.afr_law.proofs.Discipline.StagesAlong.{StageOf}
use Rattle.afr_law.proofs.Heals.Conditions.{Resumes, Starts, Waits, WorkPlace, attrs_onward, bytes_onward, heal_lock_step, heal_unlock_goes, heal_unlock_over, list_onward, look_object, mend_test, mends_pres, onward_goes, onward_kind, onward_looks, onward_object, pre_onward, pres_looks, settle_onward, settles_mends, unlock_goes, unlock_over, work_place}
use Rattle.afr_law.proofs.Heals.Views.{here_or, put_other, put_same}
use Rattle.afr_law_quiet.proofs.Copies.After.{mend_onward}
use Rattle.afr_law_quiet.proofs.Copies.Premises.{Premises, sums}
use Rattle.afr_law_quiet.proofs.Copies.Told.{Hears}
use Rattle.afr_law_passes.specs.Converged.{IsUnchanged}
use Rattle.afr_law_passes.proofs.Parts.{Spares}

-- ---- a heal that has only looked
-- what a view shows of the kind is what the sums were
abbrev pub ShowsWas : Plan → Seq Line → Gfid → Kind → ℕ → View → Type 0
ShowsWas p was g kind x view = ((view_marks view kind).dirty ≡ dirty_of p was x g kind) × ((c : ℕ) → c < 5 → slice_index (view_marks view kind).pending c ≡ pending_of p was x c g kind)

-- a heal of the object and kind comes no further than its first looks, and they show what was there
pub record Looking (p : Plan) (was : Seq Line) (g : Gfid) (kind : Kind) (step : Step) (part : HealPart) (first_views : ℕ → Option View) : Type 0 where
  pub first : part ≡ Opening
  pub low : rank step ≤ 7
  pub seen : (x : ℕ) (view : View) → first_views x ≡ Some view → (x < p.shape.n) × ShowsWas p was g kind x view

-- a copy shows what was there
shows_was : (p : Plan) (was older : Seq Line) → Premises p older → (g : Gfid) (kind : Kind) → IsUnchanged p was older g kind → (b : ℕ) → b < p.shape.n → (o : Object) → copy_at g (holds p older b) ≡ Some o → ShowsWas p was g kind b (view_of o)
shows_was p was older q g kind same b low o there = (let w = sums p older q b g kind o there in (w.0 ∙ same.dirty b low, λ c near. w.1 c near ∙ same.pending b c low))

module _ (p : Plan) (keeps : ℕ → Kind → Bool) (was : Seq Line) (g : Gfid) (kind : Kind) (older : Seq Line) (q : Premises p older) (r : Exact) (t s : ℕ) (inside : r.law.heal ≡ true) (stage : StageOf r) (firsts : FirstsOf r)
    (same : IsUnchanged p was older g kind) (early : r.law.object ≡ g.0 → r.law.kind ≡ kind → Looking p was g kind r.step r.part r.first_views)
    (stop : goes_on p.shape.n keeps r s ≡ true → looks_over p.shape.n keeps r s ≡ true → r.law.object ≡ g.0 → r.law.kind ≡ kind → ⊥) (x : ActorId) (y : BrickId) (below : y.0 < p.shape.n) (took : Bool) where
  abbrev pub n : ℕ
  n = p.shape.n

  abbrev pub law_after : Request → Told → Register
  law_after request told = weak.dropping (is_gone told) y.0 (weak.note_ask n r.law y.0 request told)

  no_view : rank r.step ≤ 6 → r.part ≡ Opening → (z : ℕ) (v : View) → r.first_views z ≡ Some v → ⊥
  no_view low first z v e = (let there : holder r.first_views z ≡ true = rw e refl in true≢false (sym (firsts.reached z there) ∙ firsts.early inside low first z))

  stops_on : (h : ℕ) (k : Kind) → onward n keeps r s h k ≡ true → h ≡ g.0 → k ≡ kind → ⊥
  stops_on h k e o c = stop (onward_goes n keeps r s h k e) (onward_looks n keeps r s h k e) (sym (eqb-true h r.law.object (onward_object n keeps r s h k e)) ∙ o) (sym (same_kind_yes k r.law.kind (onward_kind n keeps r s h k e)) ∙ c)

  -- what a request leaves
  pub record Leaves (request : Request) (told : Told) : Type 0 where
    pub spared : Spares g kind (Ask x y request told took)
    pub unseen : (law_after request told).object ≡ g.0 → (law_after request told).kind ≡ kind → Looking p was g kind (left_in_heal n r t y.0 request told).step (left_in_heal n r t y.0 request told).part (left_in_heal n r t y.0 request told).first_views

  heal_lock : (area : Area) (told : Told) → rank r.step ≡ 5 → Leaves (Lock Heal area) told
  heal_lock area told five = record {
    spared = tt;
    unseen = λ o k. record { first = (stage.early inside (omega (arith, five))).0; low = omega arith; seen = λ z v e. absurd (no_view (omega (arith, five)) (stage.early inside (omega (arith, five))).0 z v e) };
  }

  work_lock : (area : Area) (told : Told) → may_heal n keeps r s y.0 (Lock Work area) ≡ true → Leaves (Lock Work area) told
  work_lock area told e = record { spared = tt; unseen = λ o k. go (sym w.object ∙ o) (sym w.rest.kind ∙ k) (work_place n keeps r s y.0 area e) }
    where
      w : WorkLocked n r.law (law_after (Lock Work area) told) y.0 area (is_gone told)
      w = work_locked n r.law y.0 area told

      go : r.law.object ≡ g.0 → r.law.kind ≡ kind → WorkPlace n keeps r s y.0 area → Looking p was g kind WorkLocks (next_part r area) r.first_views
      go o k (Waits at still own lock fresh) = (let i = early o k in record { first = still ∙ i.first; low = omega arith; seen = i.seen })
      go o k (Starts five still lock) = (let i = early o k in record { first = still ∙ i.first; low = omega arith; seen = i.seen })
      go o k (Resumes twelve still idle bytes unfinished lock next) = (let i = early o k in let near = i.low in absurd (omega (arith, twelve, near)))

  look : (h : Gfid) (told : Told) → may_heal n keeps r s y.0 (Look h) ≡ true → Hears p older y.0 (Look h) told → Leaves (Look h) told
  look h told e hear = record { spared = tt; unseen = seen told hear }
    where
      here : r.law.object ≡ g.0 → h ≡ g
      here o = gfid_is h g (eqb-true h.0 r.law.object (look_object n keeps r s y.0 h.0 e) ∙ o)

      more : (v : Option View) → r.law.object ≡ g.0 → r.law.kind ≡ kind → ((view : View) → v ≡ Some view → ShowsWas p was g kind y.0 view) → (views : ℕ → Option View) → views ≡ (if is_opening r.part then put r.first_views y.0 v else r.first_views) → Looking p was g kind Looks r.part views
      more v o k shown views is = (let i = early o k in record { first = i.first; low = omega arith; seen = λ z view m. found i z view (sym (ap (λ (f : ℕ → Option View). f z) is ∙ ap (λ (b : Bool). (if b then put r.first_views y.0 v else r.first_views) z) (ap is_opening i.first)) ∙ m) })
        where
          found : Looking p was g kind r.step r.part r.first_views → (z : ℕ) (view : View) → put r.first_views y.0 v z ≡ Some view → (z < n) × ShowsWas p was g kind z view
          found i z view m = elim (here_or y.0 z) [
            | inl at ↦ subst (λ (j : ℕ). (j < n) × ShowsWas p was g kind j view) (sym at) (below, shown view (sym (put_same r.first_views y.0 v) ∙ ap (put r.first_views y.0 v) (sym at) ∙ m))
            | inr other ↦ i.seen z view (sym (put_other r.first_views y.0 z v other) ∙ m)
          ]

      seen : (d : Told) → Hears p older y.0 (Look h) d → (law_after (Look h) d).object ≡ g.0 → (law_after (Look h) d).kind ≡ kind → Looking p was g kind Looks r.part (left_in_heal n r t y.0 (Look h) d).first_views
      seen (Seen view) shown o k = (
          let w = sees r.law y.0 h.0 view in
          let mine : r.law.object ≡ g.0 = sym w.object ∙ o in
          more (Some view) mine (sym w.kind ∙ k) (λ v m. subst (ShowsWas p was g kind y.0) (let one : view ≡ v = cc m in sym shown.2 ∙ one) (shows_was p was older q g kind same y.0 below shown.0 (subst (λ (j : Gfid). copy_at j (holds p older y.0) ≡ Some shown.0) (here mine) shown.1))) _ refl
          )
      seen NoObject shown o k = more None o k (λ v m. absurd (cc m)) _ refl
      seen d shown o k = absurd shown

  -- a request after the looks
  onwards : (request : Request) (told : Told) → Spares g kind (Ask x y request told took) → goes_on n keeps r s ≡ true → looks_over n keeps r s ≡ true → ((law_after request told).object ≡ r.law.object) → ((law_after request told).kind ≡ r.law.kind) → Leaves request told
  onwards request told spares e far o k = record { spared = spares; unseen = λ i j. absurd (stop e far (sym o ∙ i) (sym k ∙ j)) }

  -- a request on the heal's object and kind
  forth : (request : Request) (told : Told) (h : ℕ) (k : Kind) → Spares g kind (Ask x y request told took) → onward n keeps r s h k ≡ true → ((law_after request told).object ≡ r.law.object) → ((law_after request told).kind ≡ r.law.kind) → Leaves request told
  forth request told h k spares e = onwards request told spares (onward_goes n keeps r s h k e) (onward_looks n keeps r s h k e)

  mends : (repair : Repair) → may_heal n keeps r s y.0 (Mend repair) ≡ true → onward n keeps r s (position.repaired repair) (repair_kind repair) ≡ true
  mends repair e = mend_onward n keeps r s repair (mend_test n keeps r s y.0 repair e)

  settled_looks : settles_over n keeps r s ≡ true → looks_over n keeps r s ≡ true
  settled_looks e = pres_looks n keeps r s (mends_pres n keeps r s (settles_mends n keeps r s e))

  pub leaves : (request : Request) (told : Told) → may_heal n keeps r s y.0 request ≡ true → Hears p older y.0 request told → Leaves request told
  leaves (Lock Heal area) told e h = heal_lock area told (heal_lock_step n keeps r s y.0 area e)
  leaves (Lock Work area) told e h = work_lock area told e
  leaves (Unlock Work area) Done e h = (let w = frees_work n r.law y.0 area Done in onwards (Unlock Work area) Done tt (unlock_goes n keeps r s y.0 area e) (settled_looks (unlock_over n keeps r s y.0 area e)) w.0.object w.0.rest.kind)
  leaves (Unlock Work area) told e h = absurd h
  leaves (Unlock Heal area) Done e h = (let w = frees_heal n r.law y.0 area Done in onwards (Unlock Heal area) Done tt (heal_unlock_goes n keeps r s y.0 area e) (settled_looks (heal_unlock_over n keeps r s y.0 area e)) w.object w.rest.kind)
  leaves (Unlock Heal area) told e h = absurd h
  leaves (Look i) told e h = look i told e h
  leaves (ReadBytes i at len) Given e h = forth (ReadBytes i at len) Given i.0 Bytes tt (bytes_onward n keeps r s y.0 i at len e) refl refl
  leaves (ReadBytes i at len) NoObject e h = forth (ReadBytes i at len) NoObject i.0 Bytes tt (bytes_onward n keeps r s y.0 i at len e) refl refl
  leaves (ReadBytes i at len) told e h = absurd h
  leaves (ReadAttrs i) Given e h = forth (ReadAttrs i) Given i.0 Attrs tt (attrs_onward n keeps r s y.0 i e) refl refl
  leaves (ReadAttrs i) NoObject e h = forth (ReadAttrs i) NoObject i.0 Attrs tt (attrs_onward n keeps r s y.0 i e) refl refl
  leaves (ReadAttrs i) told e h = absurd h
  leaves (List i) Given e h = forth (List i) Given i.0 Names tt (list_onward n keeps r s y.0 i e) refl refl
  leaves (List i) NoObject e h = forth (List i) NoObject i.0 Names tt (list_onward n keeps r s y.0 i e) refl refl
  leaves (List i) told e h = absurd h
  leaves (Pre i k) Done e h = (let o = pre_onward n keeps r s y.0 i.0 k e in forth (Pre i k) Done i.0 k (stops_on i.0 k o) o refl refl)
  leaves (Pre i k) NoObject e h = (let o = pre_onward n keeps r s y.0 i.0 k e in forth (Pre i k) NoObject i.0 k (stops_on i.0 k o) o refl refl)
  leaves (Pre i k) told e h = absurd h
  leaves (Mend repair) Done e h = forth (Mend repair) Done (position.repaired repair) (repair_kind repair) (λ i k. stops_on (position.repaired repair) (repair_kind repair) (mends repair e) i (sym k)) (mends repair e) refl refl
  leaves (Mend repair) NoObject e h = forth (Mend repair) NoObject (position.repaired repair) (repair_kind repair) (λ i k. stops_on (position.repaired repair) (repair_kind repair) (mends repair e) i (sym k)) (mends repair e) refl refl
  leaves (Mend repair) told e h = absurd h
  leaves (Settle i k less) Done e h = (let o = settle_onward n keeps r s y.0 i.0 k less e in forth (Settle i k less) Done i.0 k (stops_on i.0 k o) o refl refl)
  leaves (Settle i k less) NoObject e h = (let o = settle_onward n keeps r s y.0 i.0 k less e in forth (Settle i k less) NoObject i.0 k (stops_on i.0 k o) o refl refl)
  leaves (Settle i k less) told e h = absurd h
  leaves (Apply i) told e h = absurd (true≢false (sym e))
  leaves (Post i j k missed) told e h = absurd (true≢false (sym e))
  leaves (ReadName i name) told e h = absurd (true≢false (sym e))
  leaves (ReadAttr i key) told e h = absurd (true≢false (sym e))
  leaves Index told e h = absurd (true≢false (sym e))

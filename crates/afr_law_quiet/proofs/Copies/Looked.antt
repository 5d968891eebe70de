-- In an undisturbed heal of an object that every brick has, the first looks show every copy.
use Rattle.std.proofs.Common.{Bool, ap, arith, false, inl, inr, refl, subst, sym, true, true≢false, ℕ, ◌<◌, ◌∙◌, ◌≡◌, ◌≤◌, ◌⊎◌, ◌∷◌}
use Rattle.std.specs.Prelude.{List as Seq, None, Option, Some, if◌then◌else◌, ◌==◌}
use Rattle.std.proofs.lemmas.Bool.{cases_lt, eqb-true}
use Rattle.afr_base.specs.declared.ids.Gfid.{Gfid}
use Rattle.afr_base.specs.declared.ids.Kind.{Kind}
use Rattle.afr_base.specs.declared.ids.Kind.TheVariants.{Attrs, Bytes, Names}
use Rattle.afr_object.specs.declared.entry.View.{View}
use Rattle.afr_lines.specs.Work.{Work as Lines}
use Rattle.afr_lines.specs.declared.answer.Told.{Told}
use Rattle.afr_lines.specs.declared.answer.Told.TheVariants.{Done, Given, NoObject, Seen}
use Rattle.afr_lines.specs.declared.line.Line.{Line}
use Rattle.afr_lines.specs.declared.request.Area.{Area}
use Rattle.afr_lines.specs.declared.request.Request.{Request}
use Rattle.afr_lines.specs.declared.request.Request.TheVariants.{Apply, Index, List, Lock, Look, Mend, Post, Pre, ReadAttr, ReadAttrs, ReadBytes, ReadName, Settle, Unlock}
use Rattle.afr_lines.specs.declared.lock.Domain.TheVariants.{Heal, Work}
use Rattle.afr_plan.specs.declared.plan.Plan.{Plan}
use Rattle.afr_model.specs.Sums.{has_object}
use Rattle.afr_law_tables.specs.CopyLaws.{gfid_is}
use Rattle.afr_law_tables.specs.TableLaws.{copy_stays}
use Rattle.afr_model_moves.specs.Note.{breaks, left_in_heal, next_part, put}
use Rattle.afr_model_moves.specs.Past.{is_gone}
use Rattle.afr_model_moves.specs.Register.{Exact, HealPart, HealPres, HealUnlocks, Looks, Mends, Opening, Reads, Settles, Step, Unlocks, WorkLocks, asked_in, holder, is_opening, over, rank}
use Rattle.afr_model_moves.specs.Rules as weak
use Rattle.afr_model_moves.specs.Rules.{Register}
use Rattle.afr_model_moves.specs.Sets.{with}
use Rattle.afr_model_moves.specs.Steps.{looks_at, looks_over, may_heal}
use Rattle.afr_model_moves.proofs.Tests.{next_not_opening, with_cases}
use Rattle.afr_law.proofs.Discipline.AskFields.{frees_heal, frees_work, sees, work_locked}
use Rattle.afr_law.proofs.Discipline.StagesAlong.{StageOf}
use Rattle.afr_law.proofs.Heals.Areas.{opening_or}
use Rattle.afr_law.proofs.Heals.Conditions.{Resumes, Starts, Waits, WorkPlace, asked_is, attrs_onward, bytes_onward, heal_lock_step, heal_unlock_over, list_onward, look_object, look_step, looks_far, looks_is, looks_passed, mend_pres, mends_pres, onward_looks, over_at, passed_over, pre_onward, pres_looks, settle_onward, settles_mends, unlock_over, work_place}
use Rattle.afr_law.proofs.Heals.Views.{here_or, put_other, put_same}
use Rattle.afr_law_quiet.specs.Undisturbed.{IsEverywhere, begun_after, if_begin, or_log}
use Rattle.afr_law_quiet.proofs.Copies.Locked.{LockedIn}
use Rattle.afr_law_quiet.proofs.Copies.Told.{Hears}

-- the gfid of a number
abbrev pub gfid : ℕ → Gfid
gfid g = record { 0 = g }

-- every brick has the object still, and the first looks show it
pub record Shown (p : Plan) (older : Seq Line) (step : Step) (part : HealPart) (asked : ℕ → Bool) (first_views : ℕ → Option View) (object : ℕ) : Type 0 where
  pub everywhere : IsEverywhere p older (gfid object)
  pub looked : part ≡ Opening → step ≡ Looks → (x : ℕ) → x < p.shape.n → asked x ≡ true → holder first_views x ≡ true
  pub all : (part ≡ Opening → ⊥) ⊎ (8 ≤ rank step) → (x : ℕ) → x < p.shape.n → holder first_views x ≡ true

-- so it is in a heal that began with every brick having the object
pub record Looked (p : Plan) (older : Seq Line) (w : Lines) (step : Step) (part : HealPart) (asked : ℕ → Bool) (first_views : ℕ → Option View) (object : ℕ) : Type 0 where
  pub unbegun : part ≡ Opening → rank step ≤ 6 → begun_after w ≡ None
  pub begun : (part ≡ Opening → ⊥) ⊎ (7 ≤ rank step) → begun_after w ≡ None → ⊥
  pub shown : (first : Seq Line) → begun_after w ≡ Some first → IsEverywhere p first (gfid object) → Shown p older step part asked first_views object

-- the same of a register
abbrev pub LookedIn : Plan → Seq Line → Lines → Exact → Register → Type 0
LookedIn p older w r law = Looked p older w r.step r.part r.asked r.first_views law.object

or_none : (o : Option (Seq Line)) → or_log o None ≡ o
or_none None = refl
or_none (Some x) = refl

no_first : (o : Option (Seq Line)) (first : Seq Line) → o ≡ None → o ≡ Some first → ⊥
no_first o first e k = cc (sym e ∙ k)

module _ (p : Plan) (keeps : ℕ → Kind → Bool) (older : Seq Line) (w : Lines) (r : Exact) (locks : LockedIn p.shape.n r r.law) where
  -- once the looks are over they have shown all
  pub looked_all : (s : ℕ) → looks_over p.shape.n keeps r s ≡ true → Shown p older r.step r.part r.asked r.first_views r.law.object → (x : ℕ) → x < p.shape.n → holder r.first_views x ≡ true
  looked_all s e h x low = elim (opening_or r.part) [
    | inr later ↦ h.all (inl later) x low
    | inl first ↦ elim (cases_lt 7 (rank r.step)) [
      | inl far ↦ h.all (inr (omega (arith, far))) x low
      | inr near ↦ (
          let set : over p.shape.n (looks_at r Opening) (asked_in r Looks) ≡ true = subst (λ (q : HealPart). over p.shape.n (looks_at r q) (asked_in r Looks) ≡ true) first (passed_over p.shape.n keeps r s Looks (looks_passed p.shape.n keeps r s e) near) in
          let w = asked_is r Looks x (over_at p.shape.n (looks_at r Opening) (asked_in r Looks) set x low (locks.under first (looks_far p.shape.n keeps r s e) (omega (arith, near)) x low)) in
          h.looked first (looks_is r.step w.0) x low w.1
          )
    ]
  ]

  module _ (stage : StageOf r) (t b : ℕ) (below : b < p.shape.n) (inside : r.law.heal ≡ true) (h : LookedIn p older w r r.law) (line : Line) (quiet : if_begin line older ≡ None) where
    abbrev pub Works : Lines
    Works = (line, older) ∷ w

    same_begun : begun_after Works ≡ begun_after w
    same_begun = ap (or_log (begun_after w)) quiet ∙ or_none (begun_after w)

    stays : (object : ℕ) → IsEverywhere p older (gfid object) → IsEverywhere p (line ∷ older) (gfid object)
    stays object every x low = copy_stays p line older x (gfid object) (every x low)

    abbrev pub LookedAfter : Request → Told → Type 0
    LookedAfter request told = LookedIn p (line ∷ older) Works (left_in_heal p.shape.n r t b request told) (weak.dropping (is_gone told) b (weak.note_ask p.shape.n r.law b request told))

    abbrev LookedOn : Step → HealPart → (ℕ → Bool) → (ℕ → Option View) → ℕ → Type 0
    LookedOn step part asks views object = Looked p (line ∷ older) Works step part asks views object

    moved : (step : Step) (part : HealPart) (asks : ℕ → Bool) (views : ℕ → Option View) (object : ℕ) → object ≡ r.law.object → LookedOn step part asks views r.law.object → LookedOn step part asks views object
    moved step part asks views object e = subst (λ o. LookedOn step part asks views o) (sym e)

    -- a step after the looks
    far_on : (next : Step) (asks : ℕ → Bool) (s : ℕ) → looks_over p.shape.n keeps r s ≡ true → 8 ≤ rank next → LookedOn next r.part asks r.first_views r.law.object
    far_on next asks s e far = record {
      unbegun = λ f low. absurd (omega (arith, low, far));
      begun = λ m k. h.begun (inr (looks_far p.shape.n keeps r s e)) (sym same_begun ∙ k);
      shown = λ first k every. (let g = h.shown first (sym same_begun ∙ k) every in record {
        everywhere = stays r.law.object g.everywhere;
        looked = λ f m. absurd (let seven : rank next ≡ 7 = ap rank m in omega (arith, seven, far));
        all = λ m x low. looked_all s e g x low;
      });
    }

    -- a step before the first looks
    early_on : (next : Step) (asks : ℕ → Bool) (object : ℕ) → r.part ≡ Opening → rank r.step ≤ 6 → rank next ≤ 6 → LookedOn next r.part asks r.first_views object
    early_on next asks object f low up = record {
      unbegun = λ m k. same_begun ∙ h.unbegun f low;
      begun = λ m. elim m [ inl later ↦ absurd (later f) | inr far ↦ absurd (omega (arith, far, up)) ];
      shown = λ first k every. absurd (no_first (begun_after w) first (h.unbegun f low) (sym same_begun ∙ k));
    }

    -- a Work lock of a later part
    lock_on : (asks : ℕ → Bool) (part : HealPart) → (part ≡ Opening → ⊥) → ((r.part ≡ Opening → ⊥) ⊎ (8 ≤ rank r.step)) → LookedOn WorkLocks part asks r.first_views r.law.object
    lock_on asks part later far = record {
      unbegun = λ m k. absurd (later m);
      begun = λ m k. h.begun (elim far [ inl l ↦ inl l | inr l ↦ inr (omega (arith, l)) ]) (sym same_begun ∙ k);
      shown = λ first k every. (let g = h.shown first (sym same_begun ∙ k) every in record {
        everywhere = stays r.law.object g.everywhere;
        looked = λ f m. absurd (cc m);
        all = λ m x low. g.all far x low;
      });
    }

    work_lock : (s : ℕ) (area : Area) (told : Told) → may_heal p.shape.n keeps r s b (Lock Work area) ≡ true → LookedAfter (Lock Work area) told
    work_lock s area told e = moved _ _ _ _ _ (work_locked p.shape.n r.law b area told).object (go (work_place p.shape.n keeps r s b area e))
      where
        asks : ℕ → Bool
        asks = (left_in_heal p.shape.n r t b (Lock Work area) told).asked

        near : rank r.step ≤ 6 → next_part r area ≡ r.part → LookedOn WorkLocks (next_part r area) asks r.first_views r.law.object
        near low same = elim (opening_or r.part) [
          | inl f ↦ subst (λ q. LookedOn WorkLocks q asks r.first_views r.law.object) (sym same) (early_on WorkLocks asks r.law.object f low (omega arith))
          | inr later ↦ lock_on asks (next_part r area) (λ k. later (sym same ∙ k)) (inl later)
        ]

        go : WorkPlace p.shape.n keeps r s b area → LookedOn WorkLocks (next_part r area) asks r.first_views r.law.object
        go (Waits at same own lock fresh) = (let six : rank r.step ≡ 6 = ap rank at in near (omega (arith, six)) same)
        go (Starts five same lock) = near (omega (arith, five)) same
        go (Resumes twelve same idle bytes unfinished lock next) = lock_on asks (next_part r area) (λ k. next_not_opening _ (sym same ∙ k)) (inr (omega (arith, twelve)))

    -- a look
    look_seen : (g : Gfid) (view : View) → rank r.step ≡ 7 → LookedOn Looks r.part (with (asked_in r Looks) b) (if is_opening r.part then put r.first_views b (Some view) else r.first_views) r.law.object
    look_seen g view at = record {
      unbegun = λ f low. absurd (omega (arith, low));
      begun = λ m k. h.begun (inr (omega (arith, at))) (sym same_begun ∙ k);
      shown = λ first k every. (let q = h.shown first (sym same_begun ∙ k) every in record {
        everywhere = stays r.law.object q.everywhere;
        looked = λ f m x low asks. (
            let op : is_opening r.part ≡ true = ap is_opening f in
            rw op (elim (here_or b x) [
              | inl here ↦ subst (λ y. holder (put r.first_views b (Some view)) y ≡ true) (sym here) (rw (put_same r.first_views b (Some view)) refl)
              | inr other ↦ elim (with_cases (asked_in r Looks) b x asks) [
                | inl here ↦ absurd (other here)
                | inr was ↦ (let w = asked_is r Looks x was in rw (put_other r.first_views b x (Some view) other) (q.looked f (looks_is r.step at) x low w.1))
              ]
            ])
            );
        all = λ m x low. elim m [
          | inl later ↦ kept (is_opening r.part) refl later x (q.all (inl later) x low)
          | inr far ↦ absurd (omega (arith, far))
        ];
      });
    }
      where
        kept : (op : Bool) → is_opening r.part ≡ op → (r.part ≡ Opening → ⊥) → (x : ℕ) → holder r.first_views x ≡ true → holder (if op then put r.first_views b (Some view) else r.first_views) x ≡ true
        kept true e later x k = absurd (later (is r.part e))
          where
            is : (q : HealPart) → is_opening q ≡ true → q ≡ Opening
            is Opening m = refl
            is q m = absurd (true≢false (sym m))
        kept false e later x k = k

    look_none : (g : Gfid) → (g.0 == r.law.object) ≡ true → rank r.step ≡ 7 → has_object p older g b ≡ false → LookedAfter (Look g) NoObject
    look_none g same at none = record {
      unbegun = λ f low. absurd (omega (arith, low));
      begun = λ m k. h.begun (inr (omega (arith, at))) (sym same_begun ∙ k);
      shown = λ first k every. (let q = h.shown first (sym same_begun ∙ k) every in absurd (true≢false (sym (subst (λ (y : Gfid). has_object p older y b ≡ true) (sym (gfid_is g (gfid r.law.object) (eqb-true g.0 r.law.object same))) (q.everywhere b below)) ∙ none)));
    }

    pub looked_asked : (request : Request) (told : Told) (s : ℕ) → may_heal p.shape.n keeps r s b request ≡ true → breaks r request told ≡ false → Hears p older b request told → LookedAfter request told
    looked_asked (Lock Heal area) told s e un k = (let five = heal_lock_step p.shape.n keeps r s b area e in early_on _ _ _ (stage.early inside (omega (arith, five))).0 (omega (arith, five)) (omega arith))
    looked_asked (Lock Work area) told s e un k = work_lock s area told e
    looked_asked (Unlock Work area) Done s e un k = moved _ _ _ _ _ (frees_work p.shape.n r.law b area Done).0.object (far_on Unlocks _ s (pres_looks p.shape.n keeps r s (mends_pres p.shape.n keeps r s (settles_mends p.shape.n keeps r s (unlock_over p.shape.n keeps r s b area e)))) (omega arith))
    looked_asked (Unlock Work area) told s e un k = absurd k
    looked_asked (Unlock Heal area) Done s e un k = moved _ _ _ _ _ (frees_heal p.shape.n r.law b area Done).object (far_on HealUnlocks _ s (pres_looks p.shape.n keeps r s (mends_pres p.shape.n keeps r s (settles_mends p.shape.n keeps r s (heal_unlock_over p.shape.n keeps r s b area e)))) (omega arith))
    looked_asked (Unlock Heal area) told s e un k = absurd k
    looked_asked (Look g) (Seen view) s e un k = moved _ _ _ _ _ (sees r.law b g.0 view).object (look_seen g view (look_step p.shape.n keeps r s b g.0 e))
    looked_asked (Look g) NoObject s e un k = look_none g (look_object p.shape.n keeps r s b g.0 e) (look_step p.shape.n keeps r s b g.0 e) k
    looked_asked (Look g) told s e un k = absurd k
    looked_asked (ReadBytes g at len) Given s e un k = far_on Reads _ s (onward_looks p.shape.n keeps r s g.0 Bytes (bytes_onward p.shape.n keeps r s b g at len e)) (omega arith)
    looked_asked (ReadBytes g at len) NoObject s e un k = far_on Reads _ s (onward_looks p.shape.n keeps r s g.0 Bytes (bytes_onward p.shape.n keeps r s b g at len e)) (omega arith)
    looked_asked (ReadBytes g at len) told s e un k = absurd k
    looked_asked (ReadAttrs g) Given s e un k = far_on Reads _ s (onward_looks p.shape.n keeps r s g.0 Attrs (attrs_onward p.shape.n keeps r s b g e)) (omega arith)
    looked_asked (ReadAttrs g) NoObject s e un k = far_on Reads _ s (onward_looks p.shape.n keeps r s g.0 Attrs (attrs_onward p.shape.n keeps r s b g e)) (omega arith)
    looked_asked (ReadAttrs g) told s e un k = absurd k
    looked_asked (List g) Given s e un k = far_on Reads _ s (onward_looks p.shape.n keeps r s g.0 Names (list_onward p.shape.n keeps r s b g e)) (omega arith)
    looked_asked (List g) NoObject s e un k = far_on Reads _ s (onward_looks p.shape.n keeps r s g.0 Names (list_onward p.shape.n keeps r s b g e)) (omega arith)
    looked_asked (List g) told s e un k = absurd k
    looked_asked (Pre g kind) Done s e un k = far_on HealPres _ s (onward_looks p.shape.n keeps r s g.0 kind (pre_onward p.shape.n keeps r s b g.0 kind e)) (omega arith)
    looked_asked (Pre g kind) NoObject s e un k = far_on HealPres _ s (onward_looks p.shape.n keeps r s g.0 kind (pre_onward p.shape.n keeps r s b g.0 kind e)) (omega arith)
    looked_asked (Pre g kind) told s e un k = absurd k
    looked_asked (Mend repair) Done s e un k = far_on Mends _ s (pres_looks p.shape.n keeps r s (mend_pres p.shape.n keeps r s b repair e)) (omega arith)
    looked_asked (Mend repair) NoObject s e un k = far_on Mends _ s (pres_looks p.shape.n keeps r s (mend_pres p.shape.n keeps r s b repair e)) (omega arith)
    looked_asked (Mend repair) told s e un k = absurd k
    looked_asked (Settle g kind less) Done s e un k = far_on Settles _ s (onward_looks p.shape.n keeps r s g.0 kind (settle_onward p.shape.n keeps r s b g.0 kind less e)) (omega arith)
    looked_asked (Settle g kind less) NoObject s e un k = far_on Settles _ s (onward_looks p.shape.n keeps r s g.0 kind (settle_onward p.shape.n keeps r s b g.0 kind less e)) (omega arith)
    looked_asked (Settle g kind less) told s e un k = absurd k
    looked_asked (Apply q) told s e un k = absurd (true≢false (sym e))
    looked_asked (Post q g kind missed) told s e un k = absurd (true≢false (sym e))
    looked_asked (ReadName g name) told s e un k = absurd (true≢false (sym e))
    looked_asked (ReadAttr g key) told s e un k = absurd (true≢false (sym e))
    looked_asked Index told s e un k = absurd (true≢false (sym e))

-- a HealBegin line
pub looked_begun : (p : Plan) (older : Seq Line) (w : Lines) (r : Exact) (asks : ℕ → Bool) (line : Line) → if_begin line older ≡ Some older → rank r.step ≡ 6 → LookedIn p older w r r.law
    → ((x : ℕ) → asks x ≡ false) → Looked p (line ∷ older) ((line, older) ∷ w) Looks r.part asks r.first_views r.law.object
looked_begun p older w r asks line begins at h none = record {
  unbegun = λ f low. absurd (omega (arith, low));
  begun = λ m k. some (begun_after w) k;
  shown = λ first k every. go (begun_after w) refl first k every;
}
  where
    some : (o : Option (Seq Line)) → or_log o (if_begin line older) ≡ None → ⊥
    some None k = cc (sym begins ∙ k)
    some (Some l) k = cc k

    go : (o : Option (Seq Line)) → begun_after w ≡ o → (first : Seq Line) → or_log o (if_begin line older) ≡ Some first → IsEverywhere p first (gfid r.law.object) → Shown p (line ∷ older) Looks r.part asks r.first_views r.law.object
    go None e first k every = record {
      everywhere = λ x low. copy_stays p line older x (gfid r.law.object) (subst (λ l. IsEverywhere p l (gfid r.law.object)) (let same : first ≡ older = cc (sym begins ∙ k) in same) every x low);
      looked = λ f m x low asked. absurd (true≢false (sym asked ∙ none x));
      all = λ m x low. elim m [ inl later ↦ absurd (h.begun (inl later) e) | inr far ↦ absurd (omega (arith, far)) ];
    }
    go (Some l) e first k every = (
        let same : first ≡ l = cc k in
        let q = h.shown l e (subst (λ l. IsEverywhere p l (gfid r.law.object)) same every) in
        record {
          everywhere = λ x low. copy_stays p line older x (gfid r.law.object) (q.everywhere x low);
          looked = λ f m x low asked. absurd (true≢false (sym asked ∙ none x));
          all = λ m x low. elim m [ inl later ↦ q.all (inl later) x low | inr far ↦ absurd (omega (arith, far)) ];
        }
        )

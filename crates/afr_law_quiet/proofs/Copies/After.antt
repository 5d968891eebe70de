-- What is clear stays clear to the end of an undisturbed round: a heal that finds no number changes nothing.
use Rattle.std.proofs.Common.{Bool, ap, arith, false, inl, inr, not, refl, subst, sym, true, true≢false, ℕ, suc, zero, ◌&&◌, ◌<◌, ◌∙◌, ◌≡◌, ◌≤◌, ◌∷◌}
use Rattle.std.specs.Prelude.{List as Seq, None, Option, Some, if◌then◌else◌, nat_lt, slice_index, ◌==◌}
use Rattle.std.proofs.lemmas.Bool.{cases_lt, eqb-true}
use Rattle.std.proofs.lemmas.Bool.Decides.{nat_tests}
use Rattle.afr_base.specs.Bricks.{and_left, and_right, member}
use Rattle.afr_base.specs.Kinds.{same_kind}
use Rattle.afr_base.specs.declared.ids.ActorId.{ActorId}
use Rattle.afr_base.specs.declared.ids.BrickId.{BrickId}
use Rattle.afr_base.specs.declared.ids.Gfid.{Gfid}
use Rattle.afr_base.specs.declared.ids.Kind.{Kind}
use Rattle.afr_base.specs.declared.ids.Kind.TheVariants.{Attrs, Bytes, Names}
use Rattle.afr_base.specs.declared.marks.Marks.{Marks}
use Rattle.afr_object.specs.Tables.{copy_at, view_of}
use Rattle.afr_object.specs.declared.change.Repair.{Repair}
use Rattle.afr_object.specs.declared.change.Repair.TheVariants.{Copy, CutTo, PutAttrs, PutNames}
use Rattle.afr_object.specs.declared.entry.View.{View}
use Rattle.afr_object.specs.Object.{Object}
use Rattle.afr_lines.specs.declared.answer.Told.{Told}
use Rattle.afr_lines.specs.declared.answer.Told.TheVariants.{Done, Given, NoObject, Seen}
use Rattle.afr_lines.specs.declared.line.Line.{Line}
use Rattle.afr_lines.specs.declared.line.Line.TheVariants.{Ask, End}
use Rattle.afr_lines.specs.declared.request.Area.{Area}
use Rattle.afr_lines.specs.declared.request.Request.{Request}
use Rattle.afr_lines.specs.declared.request.Request.TheVariants.{Apply, Index, List, Lock, Look, Mend, Post, Pre, ReadAttr, ReadAttrs, ReadBytes, ReadName, Settle, Unlock}
use Rattle.afr_lines.specs.declared.lock.Domain.TheVariants.{Heal, Work}
use Rattle.afr_plan.specs.declared.plan.Plan.{Plan}
use Rattle.afr_model.specs.Sums.{blames, opens_op, pending_of}
use Rattle.afr_model.specs.Tables.{holds}
use Rattle.afr_law_tables.specs.Clear.{IsClearOn}
use Rattle.afr_law_tables.specs.Codes.{kept_by}
use Rattle.afr_law_tables.specs.CopyLaws.{gfid_is}
use Rattle.afr_model_moves.specs.Discipline.{MayAskExactly, MayExactly, present}
use Rattle.afr_model_moves.specs.Heal.{Gives, Goes}
use Rattle.afr_model_moves.specs.Honest.{view_marks}
use Rattle.afr_model_moves.specs.Note.{left_in_heal, next_part, put}
use Rattle.afr_model_moves.specs.Past.{is_gone}
use Rattle.afr_model_moves.specs.Past as position
use Rattle.afr_model_moves.specs.Positions.{by_position}
use Rattle.afr_model_moves.specs.Register.{Exact, HealPart, Looks, Opening, Step, WorkLocks, has_number, holder, is_opening, rank, shows_number, untouched}
use Rattle.afr_model_moves.specs.Rules as weak
use Rattle.afr_model_moves.specs.Rules.{Register, repair_kind}
use Rattle.afr_model_moves.specs.Sets.{any}
use Rattle.afr_model_moves.specs.Steps.{goes_on, goes_on_at, may_heal, may_mend, onward}
use Rattle.afr_model_moves.proofs.Tests.{same_kind_yes, some_yes}
use Rattle.afr_law.proofs.Discipline.AskFields.{WorkLocked, frees_heal, frees_work, sees, work_locked}
use Rattle.afr_law.proofs.Discipline.Asks.{kept}
use Rattle.afr_law.proofs.Discipline.Firsts.{FirstsOf}
use Rattle.afr_law.proofs.Discipline.StagesAlong.{StageOf}
use Rattle.afr_law.proofs.Heals.Conditions.{Resumes, Starts, Waits, WorkPlace, attrs_onward, bytes_onward, heal_lock_step, heal_unlock_goes, list_onward, look_object, mend_test, onward_goes, onward_kind, onward_object, pre_onward, settle_onward, unlock_goes, work_place}
use Rattle.afr_law.proofs.Heals.Views.{here_or, put_other, put_same}
use Rattle.afr_law.proofs.Model.Causes.{exact_causes}
use Rattle.afr_law.specs.ModelCauses.{HaveCauses}
use Rattle.afr_law_quiet.proofs.Copies.Premises.{Premises, moves, sums}
use Rattle.afr_law_quiet.proofs.Copies.Stretch.{now_of}
use Rattle.afr_law_quiet.proofs.Copies.Sums.{counted_none, dirty_same, pending_same}
use Rattle.afr_law_quiet.proofs.Copies.Told.{Hears}

-- ---- no number stands against a brick that the volume hasn't

pub none_beyond : (p : Plan) (log : Seq Line) → Premises p log → (x c : ℕ) (g : Gfid) (kind : Kind) → p.shape.n ≤ c → pending_of p log x c g kind ≡ 0
none_beyond p log q x c g kind far = go (nat_lt 0 (pending_of p log x c g kind)) refl
  where
    not_named : (c n : ℕ) (y : Bool) → n ≤ c → (nat_lt c n && y) ≡ true → ⊥
    not_named c n y far e = grind (arith, nat_tests)

    caused : nat_lt 0 (pending_of p log x c g kind) ≡ true → ⊥
    caused e = (
        let w = now_of (HaveCauses p) log (exact_causes p log q.five q.short q.honest q.lawful) x c g kind e in
        let may : MayExactly p.shape.n (kept_by p) (present p.shape.n (kept_by p) (by_position log) w.position) (Some (Ask w.actor (record { 0 = x }) (Post w.attempt g kind w.missed) w.told true))
        = subst (MayExactly p.shape.n (kept_by p) (present p.shape.n (kept_by p) (by_position log) w.position)) w.posted (moves p log q w.position) in
        posted (present p.shape.n (kept_by p) (by_position log) w.position w.actor.0) w.attempt w.missed may.1 w.named
        )
      where
        posted : (r : Exact) (attempt : ℕ) (missed : Seq ℕ) → MayAskExactly p.shape.n (kept_by p) r x (Post attempt g kind missed) → member missed c ≡ true → ⊥
        posted r attempt missed (inl out) named = not_named c p.shape.n _ far (sym (out.1.exact c) ∙ named)
        posted r attempt missed (inr (Goes m)) named = true≢false (sym m.allowed)
        posted r attempt missed (inr (Gives i broken k)) named = k

    go : (some : Bool) → nat_lt 0 (pending_of p log x c g kind) ≡ some → pending_of p log x c g kind ≡ 0
    go true e = absurd (caused e)
    go false e = grind (arith, nat_tests)

-- ---- views without a number
-- all numbers of the kind are 0 in a view
abbrev pub IsZero : Kind → View → Type 0
IsZero kind view = has_number (view_marks view kind) ≡ false

none_any : (n : ℕ) (test : ℕ → Bool) → ((c : ℕ) → c < n → test c ≡ false) → any n test ≡ false
none_any zero test h = refl
none_any (suc n) test h = rw (h n (omega arith)) (none_any n test (λ c low. h c (omega (arith, low))))

zero_number : (marks : Marks) → marks.dirty ≡ 0 → ((c : ℕ) → c < 5 → slice_index marks.pending c ≡ 0) → has_number marks ≡ false
zero_number marks d h = rw d (none_any 5 (λ c. not (slice_index marks.pending c == 0)) (λ c low. rw (h c low) refl))

-- a clear copy shows none
shows_zero : (p : Plan) (older : Seq Line) → Premises p older → (b : ℕ) (g : Gfid) (kind : Kind) (o : Object) → copy_at g (holds p older b) ≡ Some o → IsClearOn p older g kind b → IsZero kind (view_of o)
shows_zero p older q b g kind o there clear = (
    let w = sums p older q b g kind o there in
    zero_number (view_marks (view_of o) kind) (w.0 ∙ clear.0) (λ c low. w.1 c low ∙ elim (cases_lt c p.shape.n) [ inl near ↦ clear.1 c near | inr far ↦ none_beyond p older q b c g kind far ])
    )

-- a heal whose first looks show no number goes on nowhere
no_goes : (n : ℕ) (keeps : ℕ → Kind → Bool) (r : Exact) (s : ℕ) → r.part ≡ Opening → ((x : ℕ) (v : View) → r.first_views x ≡ Some v → IsZero r.law.kind v) → goes_on n keeps r s ≡ true → ⊥
no_goes n keeps r s first none e = (
    let some = some_yes n (λ x. shows_number r.law.kind (r.first_views x)) (and_right _ _ (subst (λ q. goes_on_at n keeps r s q ≡ true) first (and_right _ _ e))) in
    go some.0 (r.first_views some.0) refl some.2
    )
  where
    go : (x : ℕ) (o : Option View) → r.first_views x ≡ o → shows_number r.law.kind o ≡ true → ⊥
    go x None k m = true≢false (sym m)
    go x (Some v) k m = true≢false (sym m ∙ none x v k)

-- a repair goes on in a heal of its object and kind
pub mend_onward : (n : ℕ) (keeps : ℕ → Kind → Bool) (r : Exact) (s : ℕ) (repair : Repair) → may_mend n keeps r s repair ≡ true → onward n keeps r s (position.repaired repair) (repair_kind repair) ≡ true
mend_onward n keeps r s (CutTo g len) e = and_left _ _ (and_left _ _ e)
mend_onward n keeps r s (Copy g at some read) e = and_left _ _ (and_left _ _ (and_left _ _ (and_left _ _ e)))
mend_onward n keeps r s (PutAttrs g read) e = and_left _ _ e
mend_onward n keeps r s (PutNames g reads) e = and_left _ _ (and_left _ _ e)

-- ---- along the rest of a round
-- a line within a work that changes no bytes of an object, as far as it is of the kind
abbrev pub Spares : Kind → Gfid → Line → Type 0
Spares kind g (Ask x y (Apply q) told took) = ⊥
Spares kind g (End x reply) = ⊥
Spares kind g (Ask x y (Mend repair) told took) = kind ≡ Bytes → position.repaired repair ≡ g.0 → repair_kind repair ≡ Bytes → ⊥
Spares kind g line = Unit {0}

-- a heal of the object and kind comes no further than its first looks
pub record Early (kind : Kind) (step : Step) (part : HealPart) (first_views : ℕ → Option View) : Type 0 where
  pub first : part ≡ Opening
  pub low : rank step ≤ 7
  pub zero : (x : ℕ) (view : View) → first_views x ≡ Some view → IsZero kind view

-- all numbers of the object and kind are 0, a fact that sparing lines keep holds, nothing is begun outside heals, and a heal of them is at its beginning
pub record After (p : Plan) (g : Gfid) (kind : Kind) (K : Seq Line → Type 0) (older : Seq Line) (r : Exact) : Type 0 where
  pub clear : (x : ℕ) → x < p.shape.n → IsClearOn p older g kind x
  pub kept : K older
  pub idle : r.law.heal ≡ false → r.law.number ≡ 0
  pub early : r.law.heal ≡ true → r.broken ≡ false → r.law.object ≡ g.0 → r.law.kind ≡ kind → Early kind r.step r.part r.first_views

-- where no line of a work or heal is yet
pub after_fresh : (p : Plan) (g : Gfid) (kind : Kind) (K : Seq Line → Type 0) (older : Seq Line) → ((x : ℕ) → x < p.shape.n → IsClearOn p older g kind x) → K older → After p g kind K older untouched
after_fresh p g kind K older clear kept = record { clear = clear; kept = kept; idle = λ e. refl; early = λ e. absurd (true≢false (sym e)) }

module _ (p : Plan) (g : Gfid) (kind : Kind) (older : Seq Line) (line : Line) where
  pub clear_by : ((x : ℕ) → opens_op p x g kind line older ≡ 0) → ((x c : ℕ) → blames p x c g kind line older ≡ 0) → ((x : ℕ) → x < p.shape.n → IsClearOn p older g kind x) → (x : ℕ) → x < p.shape.n → IsClearOn p (line ∷ older) g kind x
  clear_by opens blame clear x low = (
      let h = clear x low in
      ((let d = h.0 in let e = dirty_same p x g kind line older (opens x) in omega (arith, d, e)), λ c near. (let d = h.1 c near in let e = pending_same p x g kind line older c (blame x c) in omega (arith, d, e)))
      )

module _ (p : Plan) (keeps : ℕ → Kind → Bool) (g : Gfid) (kind : Kind) (older : Seq Line) (q : Premises p older) (r : Exact) (t s : ℕ) (inside : r.law.heal ≡ true) (stage : StageOf r) (firsts : FirstsOf r)
    (clear : (x : ℕ) → x < p.shape.n → IsClearOn p older g kind x) (early : r.law.object ≡ g.0 → r.law.kind ≡ kind → Early kind r.step r.part r.first_views) (x : ActorId) (y : BrickId) (below : y.0 < p.shape.n) (took : Bool) where
  abbrev pub n : ℕ
  n = p.shape.n

  abbrev pub law_after : Request → Told → Register
  law_after request told = weak.dropping (is_gone told) y.0 (weak.note_ask n r.law y.0 request told)

  no_view : rank r.step ≤ 6 → r.part ≡ Opening → (z : ℕ) (v : View) → r.first_views z ≡ Some v → ⊥
  no_view low first z v e = (let there : holder r.first_views z ≡ true = rw e refl in true≢false (sym (firsts.reached z there) ∙ firsts.early inside low first z))

  stops : goes_on n keeps r s ≡ true → r.law.object ≡ g.0 → r.law.kind ≡ kind → ⊥
  stops e o k = (let w = early o k in no_goes n keeps r s w.first (λ z v m. subst (λ c. IsZero c v) (sym k) (w.zero z v m)) e)

  stops_on : (h : ℕ) (k : Kind) → onward n keeps r s h k ≡ true → h ≡ g.0 → k ≡ kind → ⊥
  stops_on h k e o c = stops (onward_goes n keeps r s h k e) (sym (eqb-true h r.law.object (onward_object n keeps r s h k e)) ∙ o) (sym (same_kind_yes k r.law.kind (onward_kind n keeps r s h k e)) ∙ c)

  -- what a request leaves
  pub record Leaves (request : Request) (told : Told) : Type 0 where
    pub cleared : (z : ℕ) → z < n → IsClearOn p (Ask x y request told took ∷ older) g kind z
    pub spared : Spares kind g (Ask x y request told took)
    pub unseen : (law_after request told).object ≡ g.0 → (law_after request told).kind ≡ kind → Early kind (left_in_heal n r t y.0 request told).step (left_in_heal n r t y.0 request told).part (left_in_heal n r t y.0 request told).first_views

  same_clear : (request : Request) (told : Told) → ((z : ℕ) → opens_op p z g kind (Ask x y request told took) older ≡ 0) → ((z c : ℕ) → blames p z c g kind (Ask x y request told took) older ≡ 0) → (z : ℕ) → z < n → IsClearOn p (Ask x y request told took ∷ older) g kind z
  same_clear request told opens blame = clear_by p g kind older (Ask x y request told took) opens blame clear

  heal_lock : (area : Area) (told : Told) → rank r.step ≡ 5 → Leaves (Lock Heal area) told
  heal_lock area told five = record {
    cleared = same_clear (Lock Heal area) told (λ z. refl) (λ z c. refl);
    spared = tt;
    unseen = λ o k. record { first = (stage.early inside (omega (arith, five))).0; low = omega arith; zero = λ z v e. absurd (no_view (omega (arith, five)) (stage.early inside (omega (arith, five))).0 z v e) };
  }

  work_lock : (area : Area) (told : Told) → may_heal n keeps r s y.0 (Lock Work area) ≡ true → Leaves (Lock Work area) told
  work_lock area told e = record { cleared = same_clear (Lock Work area) told (λ z. refl) (λ z c. refl); spared = tt; unseen = λ o k. go (sym w.object ∙ o) (sym w.rest.kind ∙ k) (work_place n keeps r s y.0 area e) }
    where
      w : WorkLocked n r.law (law_after (Lock Work area) told) y.0 area (is_gone told)
      w = work_locked n r.law y.0 area told

      go : r.law.object ≡ g.0 → r.law.kind ≡ kind → WorkPlace n keeps r s y.0 area → Early kind WorkLocks (next_part r area) r.first_views
      go o k (Waits at same own lock fresh) = (let i = early o k in record { first = same ∙ i.first; low = omega arith; zero = i.zero })
      go o k (Starts five same lock) = (let i = early o k in record { first = same ∙ i.first; low = omega arith; zero = i.zero })
      go o k (Resumes twelve same idle bytes unfinished lock next) = (let i = early o k in let near = i.low in absurd (omega (arith, twelve, near)))

  look : (h : Gfid) (told : Told) → may_heal n keeps r s y.0 (Look h) ≡ true → Hears p older y.0 (Look h) told → Leaves (Look h) told
  look h told e hear = record { cleared = same_clear (Look h) told (λ z. refl) (λ z c. refl); spared = tt; unseen = seen told hear }
    where
      here : r.law.object ≡ g.0 → h ≡ g
      here o = gfid_is h g (eqb-true h.0 r.law.object (look_object n keeps r s y.0 h.0 e) ∙ o)

      more : (v : Option View) → r.law.object ≡ g.0 → r.law.kind ≡ kind → ((view : View) → v ≡ Some view → IsZero kind view) → (views : ℕ → Option View) → views ≡ (if is_opening r.part then put r.first_views y.0 v else r.first_views) → Early kind Looks r.part views
      more v o k none views is = (let i = early o k in record { first = i.first; low = omega arith; zero = λ z view m. found i z view (sym (ap (λ (f : ℕ → Option View). f z) is ∙ ap (λ (b : Bool). (if b then put r.first_views y.0 v else r.first_views) z) (ap is_opening i.first)) ∙ m) })
        where
          found : Early kind r.step r.part r.first_views → (z : ℕ) (view : View) → put r.first_views y.0 v z ≡ Some view → IsZero kind view
          found i z view m = elim (here_or y.0 z) [
            | inl same ↦ none view (sym (put_same r.first_views y.0 v) ∙ ap (put r.first_views y.0 v) (sym same) ∙ m)
            | inr other ↦ i.zero z view (sym (put_other r.first_views y.0 z v other) ∙ m)
          ]

      seen : (d : Told) → Hears p older y.0 (Look h) d → (law_after (Look h) d).object ≡ g.0 → (law_after (Look h) d).kind ≡ kind → Early kind Looks r.part (left_in_heal n r t y.0 (Look h) d).first_views
      seen (Seen view) shown o k = (
          let w = sees r.law y.0 h.0 view in
          let mine : r.law.object ≡ g.0 = sym w.object ∙ o in
          more (Some view) mine (sym w.kind ∙ k) (λ v m. subst (IsZero kind) (let same : view ≡ v = cc m in sym shown.2 ∙ same) (shows_zero p older q y.0 g kind shown.0 (subst (λ (j : Gfid). copy_at j (holds p older y.0) ≡ Some shown.0) (here mine) shown.1) (clear y.0 below))) _ refl
          )
      seen NoObject shown o k = more None o k (λ v m. absurd (cc m)) _ refl
      seen d shown o k = absurd shown

  -- a request after the looks
  onwards : (request : Request) (told : Told) → ((z : ℕ) → opens_op p z g kind (Ask x y request told took) older ≡ 0) → ((z c : ℕ) → blames p z c g kind (Ask x y request told took) older ≡ 0) → Spares kind g (Ask x y request told took) → goes_on n keeps r s ≡ true
      → ((law_after request told).object ≡ r.law.object) → ((law_after request told).kind ≡ r.law.kind) → Leaves request told
  onwards request told opens blame spares e o k = record { cleared = same_clear request told opens blame; spared = spares; unseen = λ i j. absurd (stops e (sym o ∙ i) (sym k ∙ j)) }

  pre_opens : (h : Gfid) (k : Kind) (told : Told) → onward n keeps r s h.0 k ≡ true → (z : ℕ) → opens_op p z g kind (Ask x y (Pre h k) told took) older ≡ 0
  pre_opens h k told e z = go ((h.0 == g.0) && same_kind k kind) refl
    where
      go : (b : Bool) → ((h.0 == g.0) && same_kind k kind) ≡ b → opens_op p z g kind (Ask x y (Pre h k) told took) older ≡ 0
      go true m = absurd (stops_on h.0 k e (eqb-true h.0 g.0 (and_left _ _ m)) (same_kind_yes k kind (and_right _ _ m)))
      go false m = counted_none p z g kind y.0 h k took older 1 m

  pub leaves : (request : Request) (told : Told) → may_heal n keeps r s y.0 request ≡ true → Hears p older y.0 request told → Leaves request told
  leaves (Lock Heal area) told e h = heal_lock area told (heal_lock_step n keeps r s y.0 area e)
  leaves (Lock Work area) told e h = work_lock area told e
  leaves (Unlock Work area) Done e h = (let w = frees_work n r.law y.0 area Done in onwards (Unlock Work area) Done (λ z. refl) (λ z c. refl) tt (unlock_goes n keeps r s y.0 area e) w.0.object w.0.rest.kind)
  leaves (Unlock Work area) told e h = absurd h
  leaves (Unlock Heal area) Done e h = (let w = frees_heal n r.law y.0 area Done in onwards (Unlock Heal area) Done (λ z. refl) (λ z c. refl) tt (heal_unlock_goes n keeps r s y.0 area e) w.object w.rest.kind)
  leaves (Unlock Heal area) told e h = absurd h
  leaves (Look i) told e h = look i told e h
  leaves (ReadBytes i at len) Given e h = onwards (ReadBytes i at len) Given (λ z. refl) (λ z c. refl) tt (onward_goes n keeps r s i.0 Bytes (bytes_onward n keeps r s y.0 i at len e)) refl refl
  leaves (ReadBytes i at len) NoObject e h = onwards (ReadBytes i at len) NoObject (λ z. refl) (λ z c. refl) tt (onward_goes n keeps r s i.0 Bytes (bytes_onward n keeps r s y.0 i at len e)) refl refl
  leaves (ReadBytes i at len) told e h = absurd h
  leaves (ReadAttrs i) Given e h = onwards (ReadAttrs i) Given (λ z. refl) (λ z c. refl) tt (onward_goes n keeps r s i.0 Attrs (attrs_onward n keeps r s y.0 i e)) refl refl
  leaves (ReadAttrs i) NoObject e h = onwards (ReadAttrs i) NoObject (λ z. refl) (λ z c. refl) tt (onward_goes n keeps r s i.0 Attrs (attrs_onward n keeps r s y.0 i e)) refl refl
  leaves (ReadAttrs i) told e h = absurd h
  leaves (List i) Given e h = onwards (List i) Given (λ z. refl) (λ z c. refl) tt (onward_goes n keeps r s i.0 Names (list_onward n keeps r s y.0 i e)) refl refl
  leaves (List i) NoObject e h = onwards (List i) NoObject (λ z. refl) (λ z c. refl) tt (onward_goes n keeps r s i.0 Names (list_onward n keeps r s y.0 i e)) refl refl
  leaves (List i) told e h = absurd h
  leaves (Pre i k) Done e h = (let o = pre_onward n keeps r s y.0 i.0 k e in onwards (Pre i k) Done (pre_opens i k Done o) (λ z c. refl) tt (onward_goes n keeps r s i.0 k o) refl refl)
  leaves (Pre i k) NoObject e h = (let o = pre_onward n keeps r s y.0 i.0 k e in onwards (Pre i k) NoObject (pre_opens i k NoObject o) (λ z c. refl) tt (onward_goes n keeps r s i.0 k o) refl refl)
  leaves (Pre i k) told e h = absurd h
  leaves (Mend repair) Done e h = (let o = mend_onward n keeps r s repair (mend_test n keeps r s y.0 repair e) in onwards (Mend repair) Done (λ z. refl) (λ z c. refl) (λ b i k. stops_on (position.repaired repair) (repair_kind repair) o i (k ∙ sym b)) (onward_goes n keeps r s (position.repaired repair) (repair_kind repair) o) refl refl)
  leaves (Mend repair) NoObject e h = (let o = mend_onward n keeps r s repair (mend_test n keeps r s y.0 repair e) in onwards (Mend repair) NoObject (λ z. refl) (λ z c. refl) (λ b i k. stops_on (position.repaired repair) (repair_kind repair) o i (k ∙ sym b)) (onward_goes n keeps r s (position.repaired repair) (repair_kind repair) o) refl refl)
  leaves (Mend repair) told e h = absurd h
  leaves (Settle i k less) Done e h = (let o = settle_onward n keeps r s y.0 i.0 k less e in onwards (Settle i k less) Done (λ z. refl) (λ z c. refl) tt (onward_goes n keeps r s i.0 k o) refl refl)
  leaves (Settle i k less) NoObject e h = (let o = settle_onward n keeps r s y.0 i.0 k less e in onwards (Settle i k less) NoObject (λ z. refl) (λ z c. refl) tt (onward_goes n keeps r s i.0 k o) refl refl)
  leaves (Settle i k less) told e h = absurd h
  leaves (Apply i) told e h = absurd (true≢false (sym e))
  leaves (Post i j k missed) told e h = absurd (true≢false (sym e))
  leaves (ReadName i name) told e h = absurd (true≢false (sym e))
  leaves (ReadAttr i key) told e h = absurd (true≢false (sym e))
  leaves Index told e h = absurd (true≢false (sym e))

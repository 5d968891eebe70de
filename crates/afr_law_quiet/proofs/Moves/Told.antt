-- What each line of a heal that stands alone adds to what its lines show: its later looks show no source that moved.
use Rattle.std.proofs.Common.{◌≡◌, ℕ, ◌+◌, ◌<◌, ◌≤◌, Bool, true, false, ◌⊎◌, inl, inr, refl, sym, ap, ◌∙◌, subst, arith, true≢false, List, [], ◌∷◌, length, not, ◌≢◌}
use Rattle.std.specs.Prelude.{Option, None, Some, if◌then◌else◌, ◌==◌, is_some}
use Rattle.std.proofs.lemmas.Bool.{eq-eqb, eqb-true}
use Rattle.afr_base.specs.Bricks.{from_table, member}
use Rattle.afr_base.specs.declared.ids.Gfid.{Gfid}
use Rattle.afr_base.specs.declared.ids.Kind.{Kind}
use Rattle.afr_base.specs.declared.ids.Kind.TheVariants.{Attrs, Bytes, Names}
use Rattle.afr_choice.specs.Looks.{no_looks, view_at}
use Rattle.afr_choice.specs.declared.looked.Looked.{Looked}
use Rattle.afr_object.specs.declared.entry.View.{View}
use Rattle.afr_lines.specs.Areas.{object_of_area}
use Rattle.afr_lines.specs.Overlap.{same_area}
use Rattle.afr_lines.specs.Places.{opens, place_of}
use Rattle.afr_lines.specs.Work.{Work, work}
use Rattle.afr_lines.specs.declared.answer.Told.{Told}
use Rattle.afr_lines.specs.declared.answer.Told.TheVariants.{NoObject, Seen}
use Rattle.afr_lines.specs.declared.line.Line.{Line}
use Rattle.afr_lines.specs.declared.request.Area.{Area}
use Rattle.afr_lines.specs.declared.request.Request.{Request}
use Rattle.afr_lines.specs.declared.request.Request.TheVariants.{Apply, Index, List as ListNames, Lock, Look, Mend, Post, Pre, ReadAttr, ReadAttrs, ReadBytes, ReadName, Settle, Unlock}
use Rattle.afr_lines.specs.declared.lock.Domain.{Domain}
use Rattle.afr_lines.specs.declared.lock.Domain.TheVariants.{Heal, Work as WorkDomain}
use Rattle.afr_model.specs.Following.{Follows, KeepsToTask, ToCommand, ToCrawl, ToItem, ToRound}
use Rattle.afr_model.specs.Healing.{First, first_after, first_by, heal_by, whole_of}
use Rattle.afr_model.specs.Honest.{IsHonest}
use Rattle.afr_model.specs.Moved.{is_whole_by, len_in, pieces}
use Rattle.afr_model.specs.Rounds.{heal_due}
use Rattle.afr_model.specs.Showing.{among, look_shows, looked_by, prepared}
use Rattle.afr_model_moves.proofs.Tests.{next_not_opening, same_self}
use Rattle.afr_model_moves.specs.Discipline.{note}
use Rattle.afr_model_moves.specs.Heal.{MayHeal, MayHealBegin}
use Rattle.afr_model_moves.specs.Lines.{ask_by, heal_begin_by, look_at}
use Rattle.afr_model_moves.specs.Note.{left_in_heal, next_part, view_of}
use Rattle.afr_model_moves.specs.Past.{is_gone}
use Rattle.afr_model_moves.specs.Register.{Exact, Finish, HealLocks, HealPart, HealPres, HealUnlocks, Looks, Mends, Opening, Piece, Reads, Settles, Step, Unlocks, WorkLocks, is_opening, rank, whole_area}
use Rattle.afr_model_moves.specs.Rules as weak
use Rattle.afr_model_moves.specs.Rules.{fresh, heal_area, is_none}
use Rattle.afr_model_moves.specs.Steps.{looks_at}
use Rattle.afr_model_moves.specs.Tally.{Tally}
use Rattle.afr_plan.specs.declared.plan.Plan.{Plan}
use Rattle.afr_law_tables.specs.Codes.{kept_by}
use Rattle.afr_law.proofs.Discipline.AskFields.{heal_locked}
use Rattle.afr_law.proofs.Discipline.Inner.{turn_in}
use Rattle.afr_law.proofs.Discipline.StagesAlong.{StageOf}
use Rattle.afr_law.proofs.Heals.Along.{healed_by, opened_by}
use Rattle.afr_law.proofs.Heals.Areas.{AreasIn, opening_or}
use Rattle.afr_law.proofs.Heals.Raises.{RaisesIn, pres_opening}
use Rattle.afr_law.proofs.Heals.Conditions.{Resumes, Starts, Waits, WorkPlace, attrs_onward, bytes_onward, heal_lock_step, heal_unlock_over, list_onward, look_object, look_step, look_turn, looks_far, looks_is, mend_pres, mends_pres, onward_looks, pre_onward, pre_turn, pres_looks, settle_mends, settles_mends, unlock_over, work_place}
use Rattle.afr_law.proofs.Heals.Sights.{not_opening}
use Rattle.afr_law.proofs.Model.Tasks.{heal_begins_no_command}
use Rattle.afr_law.proofs.Model.Works.{work_more}
use Rattle.afr_law_quiet.proofs.Moves.Absent.{IsAbsent, absent_now}
use Rattle.afr_law_quiet.proofs.Moves.Along.{Joined, Premises, along, earlier, force, reg}
use Rattle.afr_law_quiet.proofs.Moves.Kept.{KeptIn}
use Rattle.afr_law_quiet.proofs.Moves.KeptAlong.{Same, after_same, broken_stays, heal_same, kept_now}
use Rattle.afr_law_quiet.proofs.Moves.Seen.{row_here}
use Rattle.afr_law_quiet.proofs.Moves.Shows.{Row, Shows, ShowsIn, UnmovedIn, locked_first, none_outside, opens_outside, shows_locked, shows_on, shown_five, shown_reached, shown_seen, shown_view}
use Rattle.afr_law_quiet.proofs.Moves.InForce.{areas_of, raises_of, stage_of}
use Rattle.afr_law_quiet.proofs.Moves.PartLocks.{part_locked}
use Rattle.afr_law_quiet.proofs.Moves.Raised.{IsNoPre, pre_raises, raised_after}

none_view : (v : Option View) → is_none v ≡ true → v ≡ None
none_view None e = refl
none_view (Some view) e = absurd (true≢false (sym e))

-- nobody was looked at
unlooked : (x : ℕ) → x < 5 → view_at x no_looks ≡ None
unlooked x low = none_view (view_at x no_looks) (from_table 5 (λ y. is_none (view_at y no_looks)) refl x low)

module _ (p : Plan) (a : ℕ) where
  abbrev pub IsTold : List Line → Exact → Type 0
  IsTold log r = Follows false p log → UnmovedIn p (work a log) r.law.object r.law.kind × (r.broken ≡ false → ShowsIn p.shape.n (work a log) r.law.object r.step r.part r.first_views r.law.raised)

  -- ---- the first lock of a heal
  first_told : (older : List Line) (b g : ℕ) (told : Told) (took : Bool) → opens (place_of a older) (ask_by a b (Lock Heal (heal_area g)) told took) ≡ true
      → (let r = opened_by p.shape.n (kept_by p) (length older) a b (heal_area g) told took in let w = (ask_by a b (Lock Heal (heal_area g)) told took, older) ∷ work a older in
      UnmovedIn p w r.law.object r.law.kind × ShowsIn p.shape.n w r.law.object r.step r.part r.first_views r.law.raised)
  first_told older b g told took opened = (
    record { is_due = λ some. absurd (omega (arith, some, none)); bytes = λ more. absurd (omega (arith, more, none)); five = rw outside refl; rows = λ more. absurd (omega (arith, more, none)) },
    record {
      before = λ low first. (rw outside refl, none);
      looking = λ first e. absurd (cc e);
      after = λ c. elim c [ inl later ↦ absurd (later refl) | inr far ↦ absurd (omega (arith, far)) ];
      one = λ e. omega (arith, none);
      over = λ later. absurd (later refl);
      five = rw outside refl;
      viewed = λ x low. rw outside (unlooked x low);
      seen = λ x low e. absurd (true≢false (sym (seen x e) ∙ ap is_some (unlooked x low)));
      low = λ x e. absurd (true≢false (sym e ∙ rw outside refl));
      raises = λ x. rw outside (sym (ap (λ (f : ℕ → Bool). f x) (heal_locked p.shape.n fresh b (heal_area g) told).rest.raised));
      empty = λ e. absurd (cc e);
      piece = λ e. absurd (cc e);
    },
  )
    where
      outside : heal_by (work a older) ≡ []
      outside = none_outside a older (opens_outside (place_of a older) (ask_by a b (Lock Heal (heal_area g)) told took) opened)

      none : pieces (heal_by ((ask_by a b (Lock Heal (heal_area g)) told took, older) ∷ work a older)) ≡ 0
      none = rw outside refl

      seen : (x : ℕ) → is_some (view_at x (first_by (heal_by ((ask_by a b (Lock Heal (heal_area g)) told took, older) ∷ work a older))).looked) ≡ true → is_some (view_at x no_looks) ≡ true
      seen x e = rw outside at e

  -- ---- a request of a heal that goes on
  module _ (older : List Line) (b : ℕ) (told : Told) (took : Bool) (below : b < p.shape.n) (few : p.shape.n ≤ 5) (u : UnmovedIn p (work a older) (reg p a older).law.object (reg p a older).law.kind)
      (s : ShowsIn p.shape.n (work a older) (reg p a older).law.object (reg p a older).step (reg p a older).part (reg p a older).first_views (reg p a older).law.raised) where
    abbrev After : Request → Type 0
    After request = (let l = left_in_heal p.shape.n (reg p a older) (length older) b request told in let w = (ask_by a b request told took, older) ∷ work a older in
        UnmovedIn p w (reg p a older).law.object (reg p a older).law.kind
        × ShowsIn p.shape.n w (reg p a older).law.object l.step l.part l.first_views (weak.dropping (is_gone told) b (weak.note_ask p.shape.n (reg p a older).law b request told)).raised)

    lock_heal : (area : Area) → MayHeal p.shape.n (kept_by p) (reg p a older) b (Lock Heal area) → (reg p a older).part ≡ Opening → After (Lock Heal area)
    lock_heal area m first = (
        let five : rank (reg p a older).step ≡ 5 = heal_lock_step p.shape.n (kept_by p) (reg p a older) m.source b area m.allowed in
        let locked = locked_first a b Heal area told took (first_by (heal_by (work a older))) in
        let before = s.before (omega (arith, five)) first in
        let none = before.1 in (
          record { is_due = u.is_due; bytes = u.bytes; five = u.five; rows = λ more. absurd (omega (arith, more, none)) },
          shows_locked p.shape.n (reg p a older).step HealLocks (reg p a older).part (reg p a older).part (reg p a older).first_views (reg p a older).law.raised _ (first_by (heal_by (work a older))) _ _ _ _ _ _ _ locked.0 locked.1 locked.2 (omega arith)
              (raised_after p.shape.n (reg p a older).law b (Lock Heal area) told tt) (λ e. (e, omega (arith, five))) (λ later. inl later) (λ e. absurd (cc e)) (λ e. absurd (cc (first, e))) s,
        )
        )

    -- a Work lock of a later part makes the earlier looks void
    lock_work : (area : Area) → AreasIn (reg p a older) (reg p a older).law → StageOf (reg p a older) → MayHeal p.shape.n (kept_by p) (reg p a older) b (Lock WorkDomain area) → After (Lock WorkDomain area)
    lock_work area areas stage m = (
      record { is_due = u.is_due; bytes = u.bytes; five = five ((object_of_area area).0 == r.law.object); rows = λ more x reached. absurd (true≢false (sym reached ∙ ap (λ (l : List ℕ). member l x) (emptied (inl (λ first. (let o = s.one first in omega (arith, more, o))))))) },
      shows_locked p.shape.n r.step WorkLocks r.part (next_part r area) r.first_views r.law.raised _ (first_by (heal_by (work a older))) _ _ _ _ _ _ _ locked.0 locked.1 locked.2 (omega arith)
          (raised_after p.shape.n r.law b (Lock WorkDomain area) told tt) early was (λ e later. emptied (was later)) (λ e. (part_locked p r b area areas stage m (piece_later e)).1 e) s,
    )
      where
        r : Exact
        r = reg p a older

        locked : ((first_after (ask_by a b (Lock WorkDomain area) told took) (first_by (heal_by (work a older)))).looked ≡ (first_by (heal_by (work a older))).looked) × ((first_after (ask_by a b (Lock WorkDomain area) told took) (first_by (heal_by (work a older)))).begun ≡ (first_by (heal_by (work a older))).begun)
            × ((first_by (heal_by (work a older))).begun ≡ true → (first_after (ask_by a b (Lock WorkDomain area) told took) (first_by (heal_by (work a older)))).still ≡ false)
        locked = locked_first a b WorkDomain area told took (first_by (heal_by (work a older)))

        five : (hit : Bool) → length (if hit then no_looks else looked_by (record { 0 = r.law.object }) (heal_by (work a older))).views ≡ 5
        five true = refl
        five false = u.five

        emptied : (r.part ≡ Opening → ⊥) ⊎ (7 ≤ rank r.step) → (if (object_of_area area).0 == r.law.object then no_looks else looked_by (record { 0 = r.law.object }) (heal_by (work a older))).reached ≡ []
        emptied later = (let e : ((object_of_area area).0 == r.law.object) ≡ true = eq-eqb (object_of_area area).0 r.law.object (part_locked p r b area areas stage m later).0 in rw e refl)

        by_place : WorkPlace p.shape.n (kept_by p) r m.source b area → ((rank r.step ≤ 6) × (next_part r area ≡ r.part)) ⊎ ((rank r.step ≡ 12) × (next_part r area ≡ Opening → ⊥))
        by_place (Waits at unmoved own lock new) = inl (omega (arith, ap rank at), unmoved)
        by_place (Starts five unmoved lock) = inl (omega (arith, five), unmoved)
        by_place (Resumes twelve unmoved idle kind unfinished lock next) = inr (twelve, λ e. next_not_opening (same_area (whole_area r.law.object Bytes) area) (sym unmoved ∙ e))

        early : next_part r area ≡ Opening → (r.part ≡ Opening) × (rank r.step ≤ 6)
        early e = elim (by_place (work_place p.shape.n (kept_by p) r m.source b area m.allowed)) [ inl w ↦ (sym w.1 ∙ e, w.0) | inr w ↦ absurd (w.1 e) ]

        was : (next_part r area ≡ Opening → ⊥) → (r.part ≡ Opening → ⊥) ⊎ (7 ≤ rank r.step)
        was later = elim (by_place (work_place p.shape.n (kept_by p) r m.source b area m.allowed)) [ inl w ↦ inl (λ e. later (w.1 ∙ e)) | inr w ↦ inr (let t = w.0 in omega (arith, t)) ]

        piece_later : next_part r area ≡ Piece → (r.part ≡ Opening → ⊥) ⊎ (7 ≤ rank r.step)
        piece_later e = was (λ f. cc (e, f))

    -- ---- looks
    five_looked : (g : Gfid) (hit : Bool) → length (if hit then look_shows b told (looked_by (record { 0 = (reg p a older).law.object }) (heal_by (work a older))) else looked_by (record { 0 = (reg p a older).law.object }) (heal_by (work a older))).views ≡ 5
    five_looked g true = shown_five told b (looked_by (record { 0 = (reg p a older).law.object }) (heal_by (work a older))) ∙ u.five
    five_looked g false = u.five

    small : b < 5
    small = omega (arith, below, few)

    look_first : (g : Gfid) → MayHeal p.shape.n (kept_by p) (reg p a older) b (Look g) → (reg p a older).part ≡ Opening → After (Look g)
    look_first g m first = (
      record { is_due = u.is_due; bytes = u.bytes; five = five_looked g (g.0 == r.law.object); rows = λ more. absurd (let o = s.one first in omega (arith, more, o)) },
      rw (s.looking first at, ap is_opening first) (record {
        before = λ low. absurd (omega (arith, low));
        looking = λ e f. refl;
        after = λ c. s.after (inr (omega (arith, seven)));
        one = s.one;
        over = λ later. absurd (later first);
        five = shown_five told b s0.looked ∙ s.five;
        viewed = λ x low. shown_view told b x s0.looked s.five small ∙ put_same (x == b) x low;
        seen = λ x low e. shown_seen told b x s0.looked s.five small low (s.seen x low) e;
        low = λ x e. elim (shown_reached told b x s0.looked e) [ inl w ↦ subst (λ (y : ℕ). y < p.shape.n) (sym w.0) below | inr w ↦ s.low x w.1 ];
        raises = λ x. s.raises x ∙ ap (λ (f : ℕ → Bool). f x) (sym (raised_after p.shape.n r.law b (Look g) told tt));
        empty = λ e. absurd (cc e);
        piece = λ e. absurd (cc (first, e));
      }),
    )
      where
        r : Exact
        r = reg p a older

        s0 : First
        s0 = first_by (heal_by (work a older))

        seven : rank r.step ≡ 7
        seven = look_step p.shape.n (kept_by p) r m.source b g.0 m.allowed

        at : r.step ≡ Looks
        at = looks_is r.step seven

        put_same : (hit : Bool) (x : ℕ) → x < 5 → (if hit then view_of told else view_at x s0.looked) ≡ (if hit then view_of told else r.first_views x)
        put_same true x low = refl
        put_same false x low = s.viewed x low

    look_later : (g : Gfid) → MayHeal p.shape.n (kept_by p) (reg p a older) b (Look g) → ((reg p a older).part ≡ Opening → ⊥) → IsHonest p (ask_by a b (Look g) told took) older → (reg p a older).law.kind ≡ Bytes → KeptIn p older (reg p a older)
        → IsAbsent p a older (reg p a older).law.object (reg p a older).first_reached (reg p a older).first_views → (t : Tally) → RaisesIn p.shape.n (kept_by p) (reg p a older) (reg p a older).law t → After (Look g)
    look_later g m later honest bytes k none t raises = (
      rw (s.over later, object_test) (record { is_due = u.is_due; bytes = u.bytes; five = shown_five told b looked ∙ u.five; rows = λ more x e. row more x (shown_reached told b x looked e) }),
      rw (s.over later, not_opening r.part later) (record {
        before = λ low. absurd (omega (arith, low));
        looking = λ e. absurd (later e);
        after = λ c. s.after (inl later);
        one = s.one;
        over = λ l. refl;
        five = s.five;
        viewed = s.viewed;
        seen = s.seen;
        low = s.low;
        raises = λ x. s.raises x ∙ ap (λ (f : ℕ → Bool). f x) (sym (raised_after p.shape.n r.law b (Look g) told tt));
        empty = λ e. absurd (cc e);
        piece = s.piece;
      }),
    )
      where
        r : Exact
        r = reg p a older

        s0 : First
        s0 = first_by (heal_by (work a older))

        looked : Looked
        looked = looked_by (record { 0 = r.law.object }) (heal_by (work a older))

        whole : Bool
        whole = is_whole_by (whole_of (record { 0 = r.law.object }) Bytes) (heal_by (work a older))

        object_test : (g.0 == r.law.object) ≡ true
        object_test = look_object p.shape.n (kept_by p) r m.source b g.0 m.allowed

        here : IsHonest p (ask_by a b (look_at r.law.object) told took) older
        here = subst (λ (h : ℕ). IsHonest p (ask_by a b (look_at h) told took) older) (eqb-true g.0 r.law.object object_test) honest

        reached : r.first_reached b ≡ true
        reached = again r.part later (turn_in p.shape.n (kept_by p) r m.source Looks b (look_turn p.shape.n (kept_by p) r m.source b g.0 m.allowed))
          where
            again : (part : HealPart) → (part ≡ Opening → ⊥) → looks_at r part b ≡ true → r.first_reached b ≡ true
            again Opening l e = absurd (l refl)
            again Piece l e = e
            again Finish l e = e

        at_ten : rank r.step ≤ 10
        at_ten = (let seven : rank r.step ≡ 7 = look_step p.shape.n (kept_by p) r m.source b g.0 m.allowed in omega (arith, seven))

        view_here : view_at b (look_shows b told looked) ≡ view_of told
        view_here = shown_view told b b looked u.five small ∙ itself (b == b) (same_self b)
          where
            itself : (hit : Bool) → hit ≡ true → (if hit then view_of told else view_at b looked) ≡ view_of told
            itself true e = refl
            itself false e = absurd (true≢false (sym e))

        view_there : (x : ℕ) → x ≢ b → view_at x (look_shows b told looked) ≡ view_at x looked
        view_there x apart = shown_view told b x looked u.five small ∙ other (x == b) refl
          where
            other : (hit : Bool) → (x == b) ≡ hit → (if hit then view_of told else view_at x looked) ≡ view_at x looked
            other true e = absurd (apart (eqb-true x b e))
            other false e = refl

        row : 1 < pieces (heal_by (work a older)) → (x : ℕ) → ((x ≡ b) × ((told ≡ NoObject) ⊎ ((v : View) × (told ≡ Seen v)))) ⊎ ((x ≢ b) × (member looked.reached x ≡ true)) → Row p.shape s0.looked (among prepared (heal_by (work a older))) (look_shows b told looked) whole x
        row more x (inl w) = subst (Row p.shape s0.looked (among prepared (heal_by (work a older))) (look_shows b told looked) whole) (sym w.0)
            (row_here p a older r t few bytes k none raises s0 (pieces (heal_by (work a older))) (among prepared (heal_by (work a older))) looked whole s later m.source m.below m.possible b below told took reached at_ten here (look_shows b told looked)
            (elim w.1 [ inl d ↦ inl (d, view_here ∙ ap view_of d) | inr v ↦ inr (v.0, v.1, view_here ∙ ap view_of v.1) ]))
        row more x (inr w) = (let old = u.rows more x w.1 in record {
          source = old.source;
          blames = λ v e. old.blames v (sym (view_there x w.0) ∙ e);
          length = λ all copy. ap len_in (view_there x w.0) ∙ old.length all copy;
        })

    -- ---- what comes after the looks
    on : (request : Request) (next : Step) → 7 ≤ rank (reg p a older).step → 8 ≤ rank next → IsNoPre request
        → Shows p.shape.n next (reg p a older).part (reg p a older).first_views (weak.dropping (is_gone told) b (weak.note_ask p.shape.n (reg p a older).law b request told)).raised (record (first_by (heal_by (work a older))) { still = false })
        (pieces (heal_by (work a older))) (among prepared (heal_by (work a older))) (looked_by (record { 0 = (reg p a older).law.object }) (heal_by (work a older))) (is_whole_by (whole_of (record { 0 = (reg p a older).law.object }) Bytes) (heal_by (work a older)))
    on request next far late plain = shows_on p.shape.n (reg p a older).step next (reg p a older).part (reg p a older).first_views (reg p a older).law.raised
        (weak.dropping (is_gone told) b (weak.note_ask p.shape.n (reg p a older).law b request told)).raised (first_by (heal_by (work a older))) (pieces (heal_by (work a older))) (among prepared (heal_by (work a older)))
        (looked_by (record { 0 = (reg p a older).law.object }) (heal_by (work a older))) (is_whole_by (whole_of (record { 0 = (reg p a older).law.object }) Bytes) (heal_by (work a older))) far late (raised_after p.shape.n (reg p a older).law b request told plain) s

    pre : (g : Gfid) (kind : Kind) → AreasIn (reg p a older) (reg p a older).law → MayHeal p.shape.n (kept_by p) (reg p a older) b (Pre g kind) → After (Pre g kind)
    pre g kind areas m = (
      record { is_due = u.is_due; bytes = u.bytes; five = u.five; rows = λ more. absurd (let o = s.one first in omega (arith, more, o)) },
      record {
        before = λ low. absurd (omega (arith, low));
        looking = λ e f. absurd (cc f);
        after = λ c. s.after (inr far);
        one = s.one;
        over = λ later. refl;
        five = s.five;
        viewed = s.viewed;
        seen = s.seen;
        low = s.low;
        raises = pre_raises p.shape.n (reg p a older).law b g kind told (among prepared (heal_by (work a older))) s.raises;
        empty = λ e. absurd (cc e);
        piece = λ e. absurd (cc (first, e));
      },
    )
      where
        r : Exact
        r = reg p a older

        far : 7 ≤ rank r.step
        far = looks_far p.shape.n (kept_by p) r m.source (onward_looks p.shape.n (kept_by p) r m.source g.0 kind (pre_onward p.shape.n (kept_by p) r m.source b g.0 kind m.allowed))

        first : r.part ≡ Opening
        first = pres_opening (kept_by p) r m.source r.law.kind r.part b areas.bytes (turn_in p.shape.n (kept_by p) r m.source HealPres b (pre_turn p.shape.n (kept_by p) r m.source b g.0 kind m.allowed))

    -- each request
    asked_told : (request : Request) → MayHeal p.shape.n (kept_by p) (reg p a older) b request → IsHonest p (ask_by a b request told took) older → AreasIn (reg p a older) (reg p a older).law → StageOf (reg p a older)
        → ((reg p a older).law.kind ≡ Bytes → KeptIn p older (reg p a older)) → IsAbsent p a older (reg p a older).law.object (reg p a older).first_reached (reg p a older).first_views
        → (t : Tally) × RaisesIn p.shape.n (kept_by p) (reg p a older) (reg p a older).law t → After request
    asked_told (Lock Heal area) m honest areas stage k none raises = (let five : rank (reg p a older).step ≡ 5 = heal_lock_step p.shape.n (kept_by p) (reg p a older) m.source b area m.allowed in lock_heal area m (stage.early m.inside (omega (arith, five))).0)
    asked_told (Lock WorkDomain area) m honest areas stage k none raises = lock_work area areas stage m
    asked_told (Look g) m honest areas stage k none raises = elim (opening_or (reg p a older).part) [
      | inl first ↦ look_first g m first
      | inr later ↦ (let bytes = areas.bytes later in look_later g m later honest bytes (k bytes) none raises.0 raises.1)
    ]
    asked_told (ReadBytes g at len) m honest areas stage k none raises = (u, on (ReadBytes g at len) Reads (looks_far p.shape.n (kept_by p) (reg p a older) m.source (onward_looks p.shape.n (kept_by p) (reg p a older) m.source g.0 Bytes (bytes_onward p.shape.n (kept_by p) (reg p a older) m.source b g at len m.allowed))) (omega arith) tt)
    asked_told (ReadAttrs g) m honest areas stage k none raises = (u, on (ReadAttrs g) Reads (looks_far p.shape.n (kept_by p) (reg p a older) m.source (onward_looks p.shape.n (kept_by p) (reg p a older) m.source g.0 Attrs (attrs_onward p.shape.n (kept_by p) (reg p a older) m.source b g m.allowed))) (omega arith) tt)
    asked_told (ListNames g) m honest areas stage k none raises = (u, on (ListNames g) Reads (looks_far p.shape.n (kept_by p) (reg p a older) m.source (onward_looks p.shape.n (kept_by p) (reg p a older) m.source g.0 Names (list_onward p.shape.n (kept_by p) (reg p a older) m.source b g m.allowed))) (omega arith) tt)
    asked_told (Pre g kind) m honest areas stage k none raises = pre g kind areas m
    asked_told (Mend repair) m honest areas stage k none raises = (u, on (Mend repair) Mends (looks_far p.shape.n (kept_by p) (reg p a older) m.source (pres_looks p.shape.n (kept_by p) (reg p a older) m.source (mend_pres p.shape.n (kept_by p) (reg p a older) m.source b repair m.allowed))) (omega arith) tt)
    asked_told (Settle g kind down) m honest areas stage k none raises = (u, on (Settle g kind down) Settles (looks_far p.shape.n (kept_by p) (reg p a older) m.source (pres_looks p.shape.n (kept_by p) (reg p a older) m.source (mends_pres p.shape.n (kept_by p) (reg p a older) m.source (settle_mends p.shape.n (kept_by p) (reg p a older) m.source b g.0 kind down m.allowed)))) (omega arith) tt)
    asked_told (Unlock WorkDomain area) m honest areas stage k none raises = (u, on (Unlock WorkDomain area) Unlocks (looks_far p.shape.n (kept_by p) (reg p a older) m.source (pres_looks p.shape.n (kept_by p) (reg p a older) m.source (mends_pres p.shape.n (kept_by p) (reg p a older) m.source (settles_mends p.shape.n (kept_by p) (reg p a older) m.source (unlock_over p.shape.n (kept_by p) (reg p a older) m.source b area m.allowed))))) (omega arith) tt)
    asked_told (Unlock Heal area) m honest areas stage k none raises = (u, on (Unlock Heal area) HealUnlocks (looks_far p.shape.n (kept_by p) (reg p a older) m.source (pres_looks p.shape.n (kept_by p) (reg p a older) m.source (mends_pres p.shape.n (kept_by p) (reg p a older) m.source (settles_mends p.shape.n (kept_by p) (reg p a older) m.source (heal_unlock_over p.shape.n (kept_by p) (reg p a older) m.source b area m.allowed))))) (omega arith) tt)
    asked_told (ReadName g name) m honest areas stage k none raises = absurd (true≢false (sym m.allowed))
    asked_told (ReadAttr g key) m honest areas stage k none raises = absurd (true≢false (sym m.allowed))
    asked_told (Apply q) m honest areas stage k none raises = absurd (true≢false (sym m.allowed))
    asked_told (Post q g kind missed) m honest areas stage k none raises = absurd (true≢false (sym m.allowed))
    asked_told Index m honest areas stage k none raises = absurd (true≢false (sym m.allowed))

  -- ---- each line
  own_work : (older : List Line) (b : ℕ) (request : Request) (told : Told) (took : Bool) → work a (ask_by a b request told took ∷ older) ≡ (ask_by a b request told took, older) ∷ work a older
  own_work older b request told took = work_more a (ask_by a b request told took) older (same_self a) refl

  -- a line stands after the lines of its work
  abbrev pub Known : List Line → Exact → Type 0
  Known log r = Joined a log → IsTold log r

  goes_told : (older : List Line) (b : ℕ) (request : Request) (told : Told) (took : Bool) → Premises p (ask_by a b request told took ∷ older) → force p a (ask_by a b request told took) older ≡ reg p a older → b < p.shape.n → MayHeal p.shape.n (kept_by p) (reg p a older) b request
      → Known older (reg p a older) → Known (ask_by a b request told took ∷ older) (healed_by p.shape.n (kept_by p) (reg p a older) (length older) a b request told took)
  goes_told older b request told took premises same below m was joined follows = (
    subst (λ (w : Work). UnmovedIn p w (weak.dropping (is_gone told) b (weak.note_ask p.shape.n r.law b request told)).object (weak.dropping (is_gone told) b (weak.note_ask p.shape.n r.law b request told)).kind) (sym (own_work older b request told took))
        (subst (λ (g : ℕ). UnmovedIn p ((ask_by a b request told took, older) ∷ work a older) g (weak.dropping (is_gone told) b (weak.note_ask p.shape.n r.law b request told)).kind) (sym heal.0)
        (subst (UnmovedIn p ((ask_by a b request told took, older) ∷ work a older) r.law.object) (sym heal.1) now.0)),
    λ whole. subst (λ (w : Work). ShowsIn p.shape.n w (weak.dropping (is_gone told) b (weak.note_ask p.shape.n r.law b request told)).object (left_in_heal p.shape.n r (length older) b request told).step (left_in_heal p.shape.n r (length older) b request told).part (left_in_heal p.shape.n r (length older) b request told).first_views (weak.dropping (is_gone told) b (weak.note_ask p.shape.n r.law b request told)).raised) (sym (own_work older b request told took))
        (subst (λ (g : ℕ). ShowsIn p.shape.n ((ask_by a b request told took, older) ∷ work a older) g (left_in_heal p.shape.n r (length older) b request told).step (left_in_heal p.shape.n r (length older) b request told).part (left_in_heal p.shape.n r (length older) b request told).first_views (weak.dropping (is_gone told) b (weak.note_ask p.shape.n r.law b request told)).raised) (sym heal.0) now.1),
  )
    where
      r : Exact
      r = reg p a older

      line : Line
      line = ask_by a b request told took

      heal : Same r.law (weak.dropping (is_gone told) b (weak.note_ask p.shape.n r.law b request told))
      heal = heal_same p a r b request told m

      before : Joined a older
      before = joined.0 (same_self a) refl

      old : UnmovedIn p (work a older) r.law.object r.law.kind × (r.broken ≡ false → ShowsIn p.shape.n (work a older) r.law.object r.step r.part r.first_views r.law.raised)
      old = was before follows.1

      now : After older b told took below premises.five old.0 (old.1 m.whole) request
      now = asked_told older b told took below premises.five old.0 (old.1 m.whole) request m premises.honest.0 (areas_of p a line older premises same m.inside m.whole) (stage_of p a line older premises same)
          (kept_now p a older (earlier p line older premises) before m.inside m.whole).1 (absent_now p a older (earlier p line older premises) before m.inside m.whole) (raises_of p a line older premises same m.inside m.whole)

  -- a heal that is broken only unlocks
  gives_told : (older : List Line) (b : ℕ) (domain : Domain) (area : Area) (told : Told) (took : Bool) → (reg p a older).broken ≡ true
      → Known older (reg p a older) → Known (ask_by a b (Unlock domain area) told took ∷ older) (healed_by p.shape.n (kept_by p) (reg p a older) (length older) a b (Unlock domain area) told took)
  gives_told older b domain area told took broken was joined follows = (
    subst (λ (w : Work). UnmovedIn p w (weak.dropping (is_gone told) b (weak.note_ask p.shape.n r.law b (Unlock domain area) told)).object (weak.dropping (is_gone told) b (weak.note_ask p.shape.n r.law b (Unlock domain area) told)).kind) (sym (own_work older b (Unlock domain area) told took))
        (subst (λ (g : ℕ). UnmovedIn p ((ask_by a b (Unlock domain area) told took, older) ∷ work a older) g (weak.dropping (is_gone told) b (weak.note_ask p.shape.n r.law b (Unlock domain area) told)).kind) (sym heal.0)
        (subst (UnmovedIn p ((ask_by a b (Unlock domain area) told took, older) ∷ work a older) r.law.object) (sym heal.1) old.0)),
    λ whole. absurd (true≢false (sym (broken_stays p a older b domain area told took broken) ∙ whole)),
  )
    where
      r : Exact
      r = reg p a older

      unlocks : (d : Domain) → Same r.law (weak.dropping (is_gone told) b (weak.note_ask p.shape.n r.law b (Unlock d area) told))
      unlocks WorkDomain = after_same p.shape.n r.law b (Unlock WorkDomain area) told tt
      unlocks Heal = after_same p.shape.n r.law b (Unlock Heal area) told tt

      heal : Same r.law (weak.dropping (is_gone told) b (weak.note_ask p.shape.n r.law b (Unlock domain area) told))
      heal = unlocks domain

      old : UnmovedIn p (work a older) r.law.object r.law.kind × (r.broken ≡ false → ShowsIn p.shape.n (work a older) r.law.object r.step r.part r.first_views r.law.raised)
      old = was (joined.0 (same_self a) refl) follows.1

  -- a HealBegin line names the heal that is due
  due_here : (older : List Line) (g : ℕ) (kind : Kind) → Follows false p (heal_begin_by a g kind ∷ older) → heal_due p (work a older) ≡ Some (record { 0 = g }, kind)
  due_here older g kind follows = go follows.0.1.0.keeps
    where
      go : KeepsToTask false p a (heal_begin_by a g kind) older → heal_due p (work a older) ≡ Some (record { 0 = g }, kind)
      go (ToCommand c e k) = absurd (heal_begins_no_command p c (record { 0 = a }) (record { 0 = g }) kind (length older) (work a older) k)
      go (ToRound plain h b e k) = k
      go (ToCrawl crawls who b e k) = absurd (true≢false (sym crawls))
      go (ToItem crawls h item given k) = absurd (true≢false (sym crawls))

  begins_told : (older : List Line) (g : ℕ) (kind : Kind) → Premises p (heal_begin_by a g kind ∷ older) → force p a (heal_begin_by a g kind) older ≡ reg p a older → MayHealBegin p.shape.n (reg p a older) g kind
      → Known older (reg p a older) → Known (heal_begin_by a g kind ∷ older) (note p.shape.n (kept_by p) (reg p a older) (length older) (Some (heal_begin_by a g kind)))
  begins_told older g kind premises same may was joined follows = (
    subst (λ (w : Work). UnmovedIn p w r.law.object kind) (sym own) (record {
      is_due = λ some. due_here older g kind follows ∙ (λ i. Some (record { 0 = may.object i }, kind));
      bytes = bytes;
      five = old.0.five;
      rows = λ more x e. absurd (true≢false (sym e ∙ ap (λ (l : List ℕ). member l x) (s.empty may.step (later_of more))));
    }),
    λ whole. subst (λ (w : Work). ShowsIn p.shape.n w r.law.object Looks r.part r.first_views r.law.raised) (sym own) (record {
      before = λ low. absurd (omega (arith, low));
      looking = λ first e. ap not (s.before (omega (arith, six)) first).0;
      after = λ c. refl;
      one = λ first. (let none = (s.before (omega (arith, six)) first).1 in omega (arith, none));
      over = λ later. ap not (s.after (inl later));
      five = s.five;
      viewed = s.viewed;
      seen = s.seen;
      low = s.low;
      raises = s.raises;
      empty = λ e. absurd (cc e);
      piece = s.piece;
    }),
  )
    where
      r : Exact
      r = reg p a older

      own : work a (heal_begin_by a g kind ∷ older) ≡ (heal_begin_by a g kind, older) ∷ work a older
      own = work_more a (heal_begin_by a g kind) older (same_self a) refl

      old : UnmovedIn p (work a older) r.law.object r.law.kind × (r.broken ≡ false → ShowsIn p.shape.n (work a older) r.law.object r.step r.part r.first_views r.law.raised)
      old = was (joined.0 (same_self a) refl) follows.1

      s : ShowsIn p.shape.n (work a older) r.law.object r.step r.part r.first_views r.law.raised
      s = old.1 may.whole

      six : rank r.step ≡ 6
      six = ap rank may.step

      later_of : 1 < pieces (heal_by (work a older)) + 1 → r.part ≡ Opening → ⊥
      later_of more first = (let none = (s.before (omega (arith, six)) first).1 in omega (arith, more, none))

      bytes : 1 < pieces (heal_by (work a older)) + 1 → kind ≡ Bytes
      bytes more = may.later (later_of more) ∙ (areas_of p a (heal_begin_by a g kind) older premises same may.inside may.whole).bytes (later_of more)

  -- so it is after each line of a heal
  pub told_now : (log : List Line) → Premises p log → Joined a log → Follows false p log → (reg p a log).law.heal ≡ true → UnmovedIn p (work a log) (reg p a log).law.object (reg p a log).law.kind
  told_now log premises joined follows on = (along p a Known firsts goes_told gives_told begins_told log premises joined on joined follows).0
    where
      firsts : (older : List Line) (b g : ℕ) (told : Told) (took : Bool) → Premises p (ask_by a b (Lock Heal (heal_area g)) told took ∷ older) → opens (place_of a older) (ask_by a b (Lock Heal (heal_area g)) told took) ≡ true → b < p.shape.n
          → Known (ask_by a b (Lock Heal (heal_area g)) told took ∷ older) (opened_by p.shape.n (kept_by p) (length older) a b (heal_area g) told took)
      firsts older b g told took premises opened below j f = (
          let r = opened_by p.shape.n (kept_by p) (length older) a b (heal_area g) told took in
          let k = first_told older b g told took opened in
          let own = own_work older b (Lock Heal (heal_area g)) told took in
          (subst (λ (w : Work). UnmovedIn p w r.law.object r.law.kind) (sym own) k.0, λ whole. subst (λ (w : Work). ShowsIn p.shape.n w r.law.object r.step r.part r.first_views r.law.raised) (sym own) k.1)
          )

-- The area of each part of a heal.
use Rattle.afr_base.specs.declared.ids.Kind.{Kind}
use Rattle.afr_base.specs.declared.ids.Kind.TheVariants.{Attrs, Bytes, Names}
use Rattle.afr_law.proofs.Discipline.AskFields.{WorkLocked, frees_heal, frees_work, sees, work_locked}
use Rattle.afr_model_moves.specs.Discipline.{MovesExactly, note, present}
use Rattle.afr_model_moves.specs.Heal.{MayHealBegin}
use Rattle.afr_model_moves.specs.Note.{left_in_heal, next_part}
use Rattle.afr_model_moves.specs.Register.{Exact, Finish, HealPart, HealPres, HealUnlocks, Looks, Mends, Opening, Piece, Reads, Settles, Step, Unlocks, WorkLocks, len_of, piece_area, rank, whole_area}
use Rattle.afr_model_moves.specs.Steps.{may_heal}
use Rattle.afr_law.proofs.Heals.Along.{healing_now, opened_by}
use Rattle.afr_law.proofs.Heals.Conditions.{Resumes, Starts, Waits, WorkPlace, attrs_onward, attrs_turn, bytes_onward, bytes_turn, heal_lock_step, list_onward, list_turn, look_step, mend_test, mend_turn, pre_onward, pre_turn, settle_onward, settle_turn, work_place}
use Rattle.afr_law.proofs.Discipline.Inner.{turn_low}
use Rattle.afr_model_moves.specs.Rules.{fresh, Register, busy, heal_area}
use Rattle.afr_model_moves.specs.Lines.{heal_begin_by}
use Rattle.afr_model_moves.specs.Sets.{with}
use Rattle.afr_law.proofs.Discipline.Stages.{mend_far, onward_far}
use Rattle.afr_law.proofs.Discipline.StagesAlong.{StageOf, stage_now}
use Rattle.afr_model_moves.proofs.AreaLemmas.{same_area_is, is_area_is}
use Rattle.afr_lines.specs.declared.answer.Told.{Told}
use Rattle.afr_lines.specs.declared.answer.Told.TheVariants.{Done, NotConnected, Seen}
use Rattle.afr_lines.specs.declared.request.Area.{Area}
use Rattle.afr_lines.specs.declared.request.Request.{Request}
use Rattle.afr_lines.specs.declared.request.Request.TheVariants.{Apply, Index, List, Lock, Look, Mend, Post, Pre, ReadAttr, ReadAttrs, ReadBytes, ReadName, Settle, Unlock}
use Rattle.afr_lines.specs.Overlap.{same_area}
use Rattle.afr_lines.specs.declared.lock.Domain.TheVariants.{Heal, Work}
use Rattle.std.proofs.Common.{Bool, ap, arith, false, inl, inr, refl, subst, sym, true, true≢false, ℕ, ◌∙◌, ◌≡◌, ◌≤◌, ◌⊎◌}
use Rattle.std.proofs.lemmas.Bool.Decides.{nat_tests}
use Rattle.std.specs.Prelude.{Option, Some, if◌then◌else◌, nat_lt}
use Rattle.afr_model_moves.specs.Rules as weak
use Rattle.afr_model_moves.specs.Past.{Log, is_gone}
use Rattle.afr_model_moves.proofs.Tests.{same_kind_yes}

-- the whole of a kind at first and at last, and a piece between
abbrev pub part_area : ℕ → Kind → ℕ → HealPart → Area
part_area g kind upto Piece = piece_area g upto
part_area g kind upto heal_part = whole_area g kind

-- later parts are of bytes, and each part has its area
pub record Areas (step : Step) (heal_part : HealPart) (kind : Kind) (object upto : ℕ) (area : Option Area) : Type 0 where
  pub bytes : (heal_part ≡ Opening → ⊥) → kind ≡ Bytes
  pub here : (heal_part ≡ Opening → ⊥) ⊎ (7 ≤ rank step) → rank step ≤ 11 → area ≡ Some (part_area object kind upto heal_part)

-- the same of a register
abbrev pub AreasIn : Exact → Register → Type 0
AreasIn r w = Areas r.step r.part w.kind w.object r.upto w.area

-- a piece is not the whole
pub piece_apart : (g upto : ℕ) → same_area (whole_area g Bytes) (piece_area g upto) ≡ false
piece_apart g upto = grind (arith, nat_tests)

pub opening_or : (p : HealPart) → (p ≡ Opening) ⊎ (p ≡ Opening → ⊥)
opening_or Opening = inl refl
opening_or Piece = inr (λ e. cc e)
opening_or Finish = inr (λ e. cc e)

module _ (n : ℕ) (keeps : ℕ → Kind → Bool) (r : Exact) (t b : ℕ) (inside : r.law.heal ≡ true) (s : StageOf r) (h : AreasIn r r.law) where
  abbrev AreasAfter : Request → Told → Type 0
  AreasAfter request told = AreasIn (left_in_heal n r t b request told) (weak.dropping (is_gone told) b (weak.note_ask n r.law b request told))

  -- a later step of the part
  on : (next : Step) (w : Register) → 7 ≤ rank r.step → rank r.step ≤ 11 → w.kind ≡ r.law.kind → w.object ≡ r.law.object → w.area ≡ r.law.area → Areas next r.part w.kind w.object r.upto w.area
  on next w far low k o a = record {
    bytes = λ e. k ∙ h.bytes e;
    here = λ e low_now. a ∙ h.here (inr far) low ∙ (λ i. Some (part_area (sym o i) (sym k i) r.upto r.part));
  }

  gone_fields : (gone : Bool) (w : Register) → ((weak.dropping gone b w).kind ≡ w.kind) × ((weak.dropping gone b w).object ≡ w.object) × ((weak.dropping gone b w).area ≡ w.area)
  gone_fields true w = (refl, refl, refl)
  gone_fields false w = (refl, refl, refl)

  plain : (next : Step) → 7 ≤ rank r.step → rank r.step ≤ 11 → (told : Told) → Areas next r.part (weak.dropping (is_gone told) b r.law).kind (weak.dropping (is_gone told) b r.law).object r.upto (weak.dropping (is_gone told) b r.law).area
  plain next far low told = (let g = gone_fields (is_gone told) r.law in on next (weak.dropping (is_gone told) b r.law) far low g.0 g.1 g.2)

  lock : (area : Area) (told : Told) (source : ℕ) → may_heal n keeps r source b (Lock Work area) ≡ true → AreasAfter (Lock Work area) told
  lock area told source e = go (work_place n keeps r source b area e)
    where
      w : WorkLocked n r.law (weak.dropping (is_gone told) b (weak.note_ask n r.law b (Lock Work area) told)) b area (is_gone told)
      w = work_locked n r.law b area told

      next : Register
      next = weak.dropping (is_gone told) b (weak.note_ask n r.law b (Lock Work area) told)

      -- where the area is the present one
      same : r.law.area ≡ Some area → next.area ≡ Some area
      same k = elim w.area_now [ inl now ↦ now | inr old ↦ old.1 ∙ k ]

      new : busy n r.law ≡ false → next.area ≡ Some area
      new idle = elim w.area_now [ inl now ↦ now | inr old ↦ absurd (true≢false (sym old.0 ∙ idle)) ]

      part : (heal_part : HealPart) → (heal_part ≡ Opening → ⊥) → r.law.kind ≡ Bytes → next.area ≡ Some (part_area r.law.object Bytes r.upto heal_part) → Areas WorkLocks heal_part next.kind next.object r.upto next.area
      part heal_part some bytes k = record {
        bytes = λ e. w.rest.kind ∙ bytes;
        here = λ e low. k ∙ (λ i. Some (part_area (sym w.object i) (sym (w.rest.kind ∙ bytes) i) r.upto heal_part));
      }

      stays : rank r.step ≤ 6 → ((r.part ≡ Opening → ⊥) → r.law.area ≡ Some area) → next_part r area ≡ r.part → AreasAfter (Lock Work area) told
      stays low own same_phase = subst (λ p. Areas WorkLocks p next.kind next.object r.upto next.area) (sym same_phase) (record {
        bytes = λ e. w.rest.kind ∙ h.bytes e;
        here = λ e low_now. elim e [
          | inl later ↦ same (own later) ∙ sym (own later) ∙ h.here (inl later) (omega (arith, low)) ∙ (λ i. Some (part_area (sym w.object i) (sym w.rest.kind i) r.upto r.part))
          | inr far ↦ absurd (omega (arith, far))
        ];
      })

      go : WorkPlace n keeps r source b area → AreasAfter (Lock Work area) told
      go (Waits at same_phase own lock fresh) = (let six : rank r.step ≡ 6 = ap rank at in stays (omega (arith, six)) (λ later. is_area_is r.law.area area own) same_phase)
      go (Starts five same_phase lock) = stays (omega (arith, five)) (λ later. absurd (later (s.early inside (omega (arith, five))).0)) same_phase
      go (Resumes twelve same_phase idle bytes unfinished lock chosen) = pick (nat_lt r.upto (len_of (r.first_views source))) chosen
        where
          is_bytes : r.law.kind ≡ Bytes
          is_bytes = same_kind_yes r.law.kind Bytes bytes

          pick : (more : Bool) → (if more then same_area (piece_area r.law.object r.upto) area else same_area (whole_area r.law.object Bytes) area) ≡ true → AreasAfter (Lock Work area) told
          pick true k = (
              let is : piece_area r.law.object r.upto ≡ area = same_area_is (piece_area r.law.object r.upto) area k in
              let heal_part : next_part r area ≡ Piece = same_phase ∙ ap (λ (x : Area). if same_area (whole_area r.law.object Bytes) x then Finish else Piece) (sym is) ∙ ap (λ (x : Bool). if x then Finish else Piece) (piece_apart r.law.object r.upto) in
              subst (λ p. Areas WorkLocks p next.kind next.object r.upto next.area) (sym heal_part) (part Piece (λ e. cc e) is_bytes (new idle ∙ ap Some (sym is)))
              )
          pick false k = (
              let is : whole_area r.law.object Bytes ≡ area = same_area_is (whole_area r.law.object Bytes) area k in
              let heal_part : next_part r area ≡ Finish = same_phase ∙ ap (λ (x : Bool). if x then Finish else Piece) k in
              subst (λ p. Areas WorkLocks p next.kind next.object r.upto next.area) (sym heal_part) (part Finish (λ e. cc e) is_bytes (new idle ∙ ap Some (sym is)))
              )

  freed : (next : Step) (upto : ℕ) (w : Register) → 12 ≤ rank next → w.kind ≡ r.law.kind → Areas next r.part w.kind w.object upto w.area
  freed next upto w far k = record { bytes = λ e. k ∙ h.bytes e; here = λ e low. absurd (omega (arith, far, low)) }

  pub areas_asked : (request : Request) (told : Told) (source : ℕ) → may_heal n keeps r source b request ≡ true → AreasAfter request told
  areas_asked (Lock Heal area) told source e = record {
    bytes = λ k. absurd (k (s.early inside (let five = heal_lock_step n keeps r source b area e in omega (arith, five))).0);
    here = λ k low. elim k [ inl later ↦ absurd (later (s.early inside (let five = heal_lock_step n keeps r source b area e in omega (arith, five))).0) | inr far ↦ absurd (omega (arith, far)) ];
  }
  areas_asked (Lock Work area) told source e = lock area told source e
  areas_asked (Look g) told source e = (let at : rank r.step ≡ 7 = look_step n keeps r source b g.0 e in look told (omega (arith, at)) (omega (arith, at)))
    where
      look : (d : Told) → 7 ≤ rank r.step → rank r.step ≤ 11 → AreasAfter (Look g) d
      look (Seen view) far low = (let k = sees r.law b g.0 view in on Looks (weak.looking r.law b g.0 view) far low k.kind k.object k.area)
      look NotConnected far low = on Looks (weak.dropping true b r.law) far low refl refl refl
      look _ far low = on Looks r.law far low refl refl refl
  areas_asked (ReadBytes g at len) told source e = (let low : rank r.step ≤ 8 = turn_low n keeps r source Reads b (bytes_turn n keeps r source b g at len e) in plain Reads (onward_far n keeps r source g.0 Bytes (bytes_onward n keeps r source b g at len e)) (omega (arith, low)) told)
  areas_asked (ReadAttrs g) told source e = (let low : rank r.step ≤ 8 = turn_low n keeps r source Reads b (attrs_turn n keeps r source b g e) in plain Reads (onward_far n keeps r source g.0 Attrs (attrs_onward n keeps r source b g e)) (omega (arith, low)) told)
  areas_asked (List g) told source e = (let low : rank r.step ≤ 8 = turn_low n keeps r source Reads b (list_turn n keeps r source b g e) in plain Reads (onward_far n keeps r source g.0 Names (list_onward n keeps r source b g e)) (omega (arith, low)) told)
  areas_asked (Pre g kind) told source e = (let low : rank r.step ≤ 9 = turn_low n keeps r source HealPres b (pre_turn n keeps r source b g.0 kind e) in pre told (onward_far n keeps r source g.0 kind (pre_onward n keeps r source b g.0 kind e)) (omega (arith, low)))
    where
      pre : (d : Told) → 7 ≤ rank r.step → rank r.step ≤ 11 → AreasAfter (Pre g kind) d
      pre Done far low = on HealPres (record r.law { pre = with r.law.pre b; raised = with r.law.raised b }) far low refl refl refl
      pre NotConnected far low = on HealPres (weak.dropping true b r.law) far low refl refl refl
      pre _ far low = on HealPres r.law far low refl refl refl
  areas_asked (Mend repair) told source e = (let low : rank r.step ≤ 10 = turn_low n keeps r source Mends b (mend_turn n keeps r source b repair e) in mend told (mend_far n keeps r source repair (mend_test n keeps r source b repair e)) (omega (arith, low)))
    where
      mend : (d : Told) → 7 ≤ rank r.step → rank r.step ≤ 11 → AreasAfter (Mend repair) d
      mend Done far low = on Mends (record r.law { mended = weak.mend_cells r.law.mended r.law.number b repair }) far low refl refl refl
      mend NotConnected far low = on Mends (weak.dropping true b r.law) far low refl refl refl
      mend _ far low = on Mends r.law far low refl refl refl
  areas_asked (Settle g kind less) told source e = settle told (onward_far n keeps r source g.0 kind (settle_onward n keeps r source b g.0 kind less e)) (turn_low n keeps r source Settles b (settle_turn n keeps r source b g.0 kind less e))
    where
      settle : (d : Told) → 7 ≤ rank r.step → rank r.step ≤ 11 → AreasAfter (Settle g kind less) d
      settle Done far low = on Settles (record r.law { settled = with r.law.settled b }) far low refl refl refl
      settle NotConnected far low = on Settles (weak.dropping true b r.law) far low refl refl refl
      settle _ far low = on Settles r.law far low refl refl refl
  areas_asked (Unlock Work area) told source e = freed Unlocks (left_in_heal n r t b (Unlock Work area) told).upto (weak.dropping (is_gone told) b (weak.note_ask n r.law b (Unlock Work area) told)) (omega arith)
      ((gone_fields (is_gone told) (weak.note_ask n r.law b (Unlock Work area) told)).0 ∙ (frees_work n r.law b area told).0.rest.kind)
  areas_asked (Unlock Heal area) told source e = freed HealUnlocks r.upto (weak.dropping (is_gone told) b (weak.note_ask n r.law b (Unlock Heal area) told)) (omega arith)
      ((gone_fields (is_gone told) (weak.note_ask n r.law b (Unlock Heal area) told)).0 ∙ (frees_heal n r.law b area told).rest.kind)
  areas_asked (Apply q) told source e = absurd (true≢false (sym e))
  areas_asked (Post q g kind missed) told source e = absurd (true≢false (sym e))
  areas_asked (ReadName g name) told source e = absurd (true≢false (sym e))
  areas_asked (ReadAttr g key) told source e = absurd (true≢false (sym e))
  areas_asked Index told source e = absurd (true≢false (sym e))

module _ (n : ℕ) (keeps : ℕ → Kind → Bool) (log : Log) (moves : MovesExactly n keeps log) where
  first_lock : (t a b g : ℕ) (told : Told) (took : Bool) → AreasIn (opened_by n keeps t a b (heal_area g) told took) (opened_by n keeps t a b (heal_area g) told took).law
  first_lock t a b g told took = record { bytes = λ e. absurd (e refl); here = λ e low. elim e [ inl later ↦ absurd (later refl) | inr far ↦ absurd (omega (arith, far)) ] }

  begins : (r : Exact) (t a g : ℕ) (kind : Kind) → MayHealBegin n r g kind → AreasIn r r.law → AreasIn (note n keeps r t (Some (heal_begin_by a g kind))) (note n keeps r t (Some (heal_begin_by a g kind))).law
  begins r t a g kind may h = record {
    bytes = λ e. may.later e ∙ h.bytes e;
    here = λ e low. elim (opening_or r.part) [
      | inl first ↦ may.opening first ∙ (λ i. Some (whole_area (may.object i) kind)) ∙ whole r.part first
      | inr later ↦ h.here (inl later) (let six : rank r.step ≡ 6 = ap rank may.step in omega (arith, six)) ∙ (λ i. Some (part_area r.law.object (sym (may.later later) i) r.upto r.part))
    ];
  }
    where
      whole : (p : HealPart) → p ≡ Opening → Some (whole_area r.law.object kind) ≡ Some (part_area r.law.object kind r.upto p)
      whole p e = λ i. Some (part_area r.law.object kind r.upto (sym e i))

  pub areas_now : (t a : ℕ) → (present n keeps log t a).law.heal ≡ true → (present n keeps log t a).broken ≡ false → AreasIn (present n keeps log t a) (present n keeps log t a).law
  areas_now = healing_now n keeps log moves (λ t a r k. AreasIn r r.law) (λ t a r k h. h) (λ t a b g told took is below. first_lock t a b g told took)
      (λ t a b request told took is below m un h. areas_asked n keeps (present n keeps log t a) t b m.inside (stage_now n keeps log moves t a) h request told m.source m.allowed)
      (λ t a g kind is may h. begins (present n keeps log t a) t a g kind may h)

-- Along all lines of a heal each copy has what the heal gave any.
use Rattle.afr_base.specs.declared.ids.Kind.{Kind}
use Rattle.afr_base.specs.declared.ids.Kind.TheVariants.{Attrs, Bytes, Names}
use Rattle.afr_base.specs.declared.marks.Marks.{Marks}
use Rattle.afr_law.proofs.Discipline.AskFields.{WorkLocked, frees_heal, frees_work, sees, work_locked}
use Rattle.afr_model_moves.specs.Discipline.{MovesExactly, note, present}
use Rattle.afr_model_moves.specs.Heal.{MayHealBegin}
use Rattle.afr_model_moves.specs.Note.{breaks, fails, left_in_heal, next_part, put, view_of}
use Rattle.afr_model_moves.specs.Register.{Exact, Finish, HealLocks, HealPart, HealPres, HealUnlocks, Looks, Opening, Piece, Reads, Settles, Step, Unlocks, WorkLocks, asked_in, everywhere, is_piece, len_of, no_reads, piece_area, rank, span, whole_area}
use Rattle.afr_model_moves.specs.Steps.{may_heal, mends_over, settles_at}
use Rattle.afr_law.proofs.Discipline.Firsts.{firsts_now}
use Rattle.afr_law.proofs.Heals.Along.{healed_by, healing_now, opened_by}
use Rattle.afr_law.proofs.Heals.Areas.{AreasIn, areas_now, opening_or, piece_apart}
use Rattle.afr_law.proofs.Heals.Holds.{kept_law}
use Rattle.afr_law.proofs.Heals.Mends.{after_mends, first_part, later_part, tally_after_ask}
use Rattle.afr_law.proofs.Heals.Raises.{pres_opening, raise_set}
use Rattle.afr_law.proofs.Heals.Sights.{not_opening}
use Rattle.afr_law.proofs.Heals.Conditions.{Resumes, Starts, Waits, WorkPlace, attrs_onward, attrs_turn, bytes_onward, bytes_turn, heal_lock_step, heal_unlock_over, list_onward, list_turn, look_step, mend_test, pre_onward, pre_turn, settle_mends, settle_onward, settle_turn, settles_mends, unlock_over, work_place}
use Rattle.afr_law.proofs.Discipline.Inner.{turn_in, turn_low}
use Rattle.afr_model_moves.specs.Rules.{fresh, no_views, Register, heal_area}
use Rattle.afr_model_moves.specs.Lines.{ask_by, heal_begin_by, look_at, pre_on, settle_on}
use Rattle.afr_law.proofs.Discipline.Projection.{tally_at}
use Rattle.afr_model_moves.specs.Sets.{empty, with}
use Rattle.afr_law.proofs.Discipline.Stages.{mend_far, onward_far, settles_far}
use Rattle.afr_law.proofs.Discipline.StagesAlong.{StageOf, stage_now}
use Rattle.afr_model_moves.proofs.AreaLemmas.{same_area_is}
use Rattle.afr_model_moves.specs.Tally.{Tally, blank, note_tally}
use Rattle.afr_law.proofs.Discipline.Untouched.{newest_now}
use Rattle.afr_lines.specs.declared.answer.Told.{Told}
use Rattle.afr_lines.specs.declared.answer.Told.TheVariants.{Done, Failed, NotConnected, Seen}
use Rattle.afr_lines.specs.declared.request.Area.{Area}
use Rattle.afr_lines.specs.declared.request.Request.{Request}
use Rattle.afr_lines.specs.declared.request.Request.TheVariants.{Apply, Index, List, Lock, Look, Mend, Post, Pre, ReadAttr, ReadAttrs, ReadBytes, ReadName, Settle, Unlock}
use Rattle.afr_lines.specs.Overlap.{same_area}
use Rattle.afr_object.specs.declared.change.Repair.{Repair}
use Rattle.afr_object.specs.declared.entry.View.{View}
use Rattle.afr_lines.specs.declared.lock.Domain.TheVariants.{Heal, Work}
use Rattle.std.proofs.Common.{Bool, ap, arith, false, inl, inr, refl, subst, suc, sym, true, true≢false, ℕ, ◌&&◌, ◌+◌, ◌<◌, ◌∙◌, ◌≡◌, ◌≤◌, ◌⊎◌}
use Rattle.std.proofs.lemmas.Bool.Decides.{nat_tests}
use Rattle.std.specs.Prelude.{None, Option, Some, if◌then◌else◌, nat_lt}
use Rattle.afr_model_moves.specs.Past.{Log, is_gone, last}
use Rattle.afr_model_moves.specs.Rules as weak
use Rattle.afr_model_moves.specs.Cells.{Attr, Byte, Cell, Entry}
use Rattle.afr_law.proofs.Heals.Mended.{Mended, Brought, MendedIn, IsWide, unmended_yet}
use Rattle.afr_law.proofs.Heals.MendsAlong.{Wide, MendAfter, mend_told}
use Rattle.afr_model_moves.proofs.Tests.{same_kind_yes, next_not_opening}
use Rattle.afr_base.specs.Bricks.{and_left, and_right}
use Rattle.std.proofs.lemmas.Bool.{ltb-false}

module _ (n : ℕ) (keeps : ℕ → Kind → Bool) (t b : ℕ) (r : Exact) (k : Tally) (number : ℕ) (number_is : number ≡ r.law.number) (some_number : 7 ≤ rank r.step → r.law.number ≡ 0 → ⊥) (s : StageOf r) (inside : r.law.heal ≡ true) (areas : AreasIn r r.law) (h : MendedIn n keeps r r.law k) where
  abbrev pub Then : Request → Told → Type 0
  Then request told = MendAfter n keeps t b r k number number_is some_number s inside areas h request told (tally_after_ask number k b request)

  less : (request : Request) (s : ℕ) → (r.possible s && may_heal n keeps r s b request) ≡ true → r.possible s ≡ true
  less request s p = and_left _ _ p

  allows : (request : Request) (s : ℕ) → (r.possible s && may_heal n keeps r s b request) ≡ true → may_heal n keeps r s b request ≡ true
  allows request s p = and_right _ _ p

  bytes_later : (r.part ≡ Opening → ⊥) → r.law.kind ≡ Bytes
  bytes_later = areas.bytes

  -- looks and reads
  quiet : (next : Step) (asks possible : ℕ → Bool) (first_views : ℕ → Option View) (reads : ℕ → Option ℕ) (w : Register) → 7 ≤ rank r.step → rank r.step ≤ 8 → rank next ≤ 8 → ((s : ℕ) → possible s ≡ true → r.possible s ≡ true)
      → ((r.part ≡ Opening → ⊥) → r.first_views ≡ first_views) → w.kind ≡ r.law.kind → w.object ≡ r.law.object → w.mended ≡ r.law.mended
      → Mended n keeps next r.part w.kind asks possible first_views reads r.upto w.object w.number w.mended k
  quiet next asks possible first_views reads w far low up shrinks views kind_same object_same mended_same = elim (opening_or r.part) [
    | inl first ↦ first_part n keeps t 0 b r k number number_is some_number areas h next r.part w.kind asks possible first_views reads w.object w.number w.mended k.raises first refl (omega (arith, low)) (omega (arith, up)) (λ f. far)
    | inr later ↦ subst (λ (v : ℕ → Option View). Mended n keeps next r.part w.kind asks possible v reads r.upto w.object w.number w.mended k) (views later)
        (later_part n keeps t 0 b r k number number_is some_number areas h next r.part w.kind asks possible reads w.object w.number w.mended k.raises (inl later) later (bytes_later later) kind_same object_same mended_same (λ at. omega (arith, at, low)) (omega (arith, up)) (λ f. (far, omega (arith, low))) (λ f. h.finish_none far) shrinks
        (λ e s p. h.finished e s (shrinks s p)))
  ]

  work : (area : Area) (told : Told) (source : ℕ) → may_heal n keeps r source b (Lock Work area) ≡ true → Then (Lock Work area) told
  work area told source e = go (work_place n keeps r source b area e)
    where
      w : WorkLocked n r.law (weak.dropping (is_gone told) b (weak.note_ask n r.law b (Lock Work area) told)) b area (is_gone told)
      w = work_locked n r.law b area told

      stays : rank r.step ≤ 6 → next_part r area ≡ r.part → Then (Lock Work area) told
      stays low same = (
          let next = weak.dropping (is_gone told) b (weak.note_ask n r.law b (Lock Work area) told) in
          let l = left_in_heal n r t b (Lock Work area) told in
          elim (opening_or r.part) [
            | inl first ↦ first_part n keeps t 0 b r k number number_is some_number areas h WorkLocks (next_part r area) next.kind l.asked (λ s. r.possible s && may_heal n keeps r s b (Lock Work area)) r.first_views r.reads next.object next.number next.mended k.raises first same (omega (arith, low)) (omega arith) (λ f. absurd (omega (arith, f)))
            | inr later ↦ later_part n keeps t 0 b r k number number_is some_number areas h WorkLocks (next_part r area) next.kind l.asked (λ s. r.possible s && may_heal n keeps r s b (Lock Work area)) r.reads next.object next.number next.mended k.raises (inl later) (λ m. later (sym same ∙ m)) (bytes_later later) w.rest.kind w.object w.rest.mended (λ at. omega (arith, at, low)) (omega arith)
                (λ f. absurd (omega (arith, f))) (λ f. absurd (omega (arith, f))) (less (Lock Work area)) (λ m s p. h.finished (sym same ∙ m) s (less (Lock Work area) s p))
          ]
          )

      finishes : next_part r area ≡ Finish → (s : ℕ) → (r.possible s && may_heal n keeps r s b (Lock Work area)) ≡ true → rank r.step ≡ 12 → len_of (r.first_views s) ≤ r.upto
      finishes m s p twelve = chosen (work_place n keeps r s b area (allows (Lock Work area) s p))
        where
          pick : (more : Bool) → nat_lt r.upto (len_of (r.first_views s)) ≡ more → (if more then same_area (piece_area r.law.object r.upto) area else same_area (whole_area r.law.object Bytes) area) ≡ true
              → next_part r area ≡ (if same_area (whole_area r.law.object Bytes) area then Finish else Piece) → len_of (r.first_views s) ≤ r.upto
          pick false q c same = ltb-false r.upto (len_of (r.first_views s)) q
          pick true q c same = (
              let is : piece_area r.law.object r.upto ≡ area = same_area_is (piece_area r.law.object r.upto) area c in
              let piece : next_part r area ≡ Piece = same ∙ ap (λ (x : Area). if same_area (whole_area r.law.object Bytes) x then Finish else Piece) (sym is) ∙ ap (λ (x : Bool). if x then Finish else Piece) (piece_apart r.law.object r.upto) in
              absurd (cc (sym m ∙ piece))
              )

          chosen : WorkPlace n keeps r s b area → len_of (r.first_views s) ≤ r.upto
          chosen (Waits at same own lock fresh) = (let six : rank r.step ≡ 6 = ap rank at in absurd (omega (arith, six, twelve)))
          chosen (Starts five same lock) = absurd (omega (arith, five, twelve))
          chosen (Resumes also same idle bytes unfinished lock choice) = pick (nat_lt r.upto (len_of (r.first_views s))) refl choice same

      go : WorkPlace n keeps r source b area → Then (Lock Work area) told
      go (Waits at same own lock fresh) = (let six : rank r.step ≡ 6 = ap rank at in stays (omega (arith, six)) same)
      go (Starts five same lock) = stays (omega (arith, five)) same
      go (Resumes twelve same idle bytes unfinished lock choice) = (
          let next = weak.dropping (is_gone told) b (weak.note_ask n r.law b (Lock Work area) told) in
          let l = left_in_heal n r t b (Lock Work area) told in
          later_part n keeps t 0 b r k number number_is some_number areas h WorkLocks (next_part r area) next.kind l.asked (λ s. r.possible s && may_heal n keeps r s b (Lock Work area)) r.reads next.object next.number next.mended k.raises (inr (omega (arith, twelve))) (λ m. next_not_opening (same_area (whole_area r.law.object Bytes) area) (sym same ∙ m))
          (same_kind_yes r.law.kind Bytes bytes) w.rest.kind w.object w.rest.mended (λ at. omega (arith, at, twelve)) (omega arith) (λ f. absurd (omega (arith, f))) (λ f. absurd (omega (arith, f))) (less (Lock Work area)) (λ m s p. finishes m s p twelve)
          )

  lock : (area : Area) (told : Told) (source : ℕ) → may_heal n keeps r source b (Lock Heal area) ≡ true → Then (Lock Heal area) told
  lock area told source e = (
      let five : rank r.step ≡ 5 = heal_lock_step n keeps r source b area e in
      let next = weak.dropping (is_gone told) b (weak.note_ask n r.law b (Lock Heal area) told) in
      first_part n keeps t 0 b r k number number_is some_number areas h HealLocks r.part next.kind (with (asked_in r HealLocks) b) (λ s. r.possible s && may_heal n keeps r s b (Lock Heal area)) r.first_views r.reads next.object next.number next.mended k.raises
      (s.early inside (omega (arith, five))).0 refl (omega (arith, five)) (omega arith) (λ f. absurd (omega (arith, f)))
      )

  look : (g : ℕ) (told : Told) (source : ℕ) → may_heal n keeps r source b (look_at g) ≡ true → Then (look_at g) told
  look g told source e = (
      let seven : rank r.step ≡ 7 = look_step n keeps r source b g e in
      let l = left_in_heal n r t b (look_at g) told in
      let next = weak.dropping (is_gone told) b (weak.note_ask n r.law b (look_at g) told) in
      let same = fields told in
      quiet Looks l.asked (λ s. r.possible s && may_heal n keeps r s b (look_at g)) l.first_views r.reads next (omega (arith, seven)) (omega (arith, seven)) (omega arith) (less (look_at g))
      (λ later. sym (ap (λ (c : Bool). if c then put r.first_views b (view_of told) else r.first_views) (not_opening r.part later))) same.0 same.1 same.2
      )
    where
      fields : (d : Told) → ((weak.dropping (is_gone d) b (weak.note_ask n r.law b (look_at g) d)).kind ≡ r.law.kind) × ((weak.dropping (is_gone d) b (weak.note_ask n r.law b (look_at g) d)).object ≡ r.law.object) × ((weak.dropping (is_gone d) b (weak.note_ask n r.law b (look_at g) d)).mended ≡ r.law.mended)
      fields (Seen view) = (let v = sees r.law b g view in (v.kind, v.object, v.mended))
      fields NotConnected = (refl, refl, refl)
      fields _ = (refl, refl, refl)

  read : (request : Request) (asks : ℕ → Bool) (reads : ℕ → Option ℕ) (told : Told) → 7 ≤ rank r.step → rank r.step ≤ 8
      → Mended n keeps Reads r.part (weak.dropping (is_gone told) b r.law).kind asks (λ s. r.possible s && may_heal n keeps r s b request) r.first_views reads r.upto (weak.dropping (is_gone told) b r.law).object (weak.dropping (is_gone told) b r.law).number (weak.dropping (is_gone told) b r.law).mended k
  read request asks reads told far low = go (is_gone told)
    where
      go : (gone : Bool) → Mended n keeps Reads r.part (weak.dropping gone b r.law).kind asks (λ s. r.possible s && may_heal n keeps r s b request) r.first_views reads r.upto (weak.dropping gone b r.law).object (weak.dropping gone b r.law).number (weak.dropping gone b r.law).mended k
      go true = quiet Reads asks (λ s. r.possible s && may_heal n keeps r s b request) r.first_views reads (weak.dropping true b r.law) far low (omega arith) (less request) (λ later. refl) refl refl refl
      go false = quiet Reads asks (λ s. r.possible s && may_heal n keeps r s b request) r.first_views reads r.law far low (omega arith) (less request) (λ later. refl) refl refl refl

  pre : (g : ℕ) (kind : Kind) (told : Told) (source : ℕ) → may_heal n keeps r source b (pre_on g kind) ≡ true → fails told ≡ false → Then (pre_on g kind) told
  pre g kind told source e ok = go told ok
    where
      first : r.part ≡ Opening
      first = pres_opening keeps r source r.law.kind r.part b areas.bytes (turn_in n keeps r source HealPres b (pre_turn n keeps r source b g kind e))

      low : rank r.step ≤ 9
      low = turn_low n keeps r source HealPres b (pre_turn n keeps r source b g kind e)

      far : 7 ≤ rank r.step
      far = onward_far n keeps r source g kind (pre_onward n keeps r source b g kind e)

      plain : (asks : ℕ → Bool) → Mended n keeps HealPres r.part r.law.kind asks (λ s. r.possible s && may_heal n keeps r s b (pre_on g kind)) r.first_views r.reads r.upto r.law.object r.law.number r.law.mended (record k { raises = with k.raises b })
      plain asks = first_part n keeps t 0 b r k number number_is some_number areas h HealPres r.part r.law.kind asks (λ s. r.possible s && may_heal n keeps r s b (pre_on g kind)) r.first_views r.reads r.law.object r.law.number r.law.mended (with k.raises b) first refl low (omega arith) (λ f. far)

      go : (d : Told) → fails d ≡ false → Then (pre_on g kind) d
      go Done m = plain (with (asked_in r HealPres) b)
      go NotConnected m = absurd (true≢false m)
      go Failed m = absurd (true≢false m)
      go _ m = plain (asked_in r HealPres)

  -- what comes after the Mends
  finished : (request : Request) (next : Step) (asks : ℕ → Bool) (upto : ℕ) (w : Register) → 11 ≤ rank next → w.kind ≡ r.law.kind → w.object ≡ r.law.object → w.mended ≡ r.law.mended → 7 ≤ rank r.step
      → ((s : ℕ) → may_heal n keeps r s b request ≡ true → mends_over n keeps r s ≡ true) → (r.part ≡ Opening → upto ≡ 0) → (r.part ≡ Finish → upto ≡ r.upto)
      → ((i : ℕ) → i < upto → (i < r.upto) ⊎ ((r.part ≡ Piece) × (rank r.step ≤ 11) × (r.upto ≤ i) × (i < r.upto + span))) → (r.part ≡ Piece → rank next ≡ 11 → ⊥)
      → Mended n keeps next r.part w.kind asks (λ s. r.possible s && may_heal n keeps r s b request) r.first_views r.reads upto w.object w.number w.mended k
  finished request next asks upto w late kind_same object_same mended_same far over_now start last bytes settling = after_mends n keeps t 0 b r k number number_is some_number areas h next asks (λ s. r.possible s && may_heal n keeps r s b request) upto w.number w.mended w.kind w.object late kind_same object_same mended_same far
      (λ s p. (less request s p, over_now s (allows request s p))) start last bytes settling

  settle : (g : ℕ) (kind : Kind) (taken : Marks) (told : Told) (source : ℕ) → may_heal n keeps r source b (settle_on g kind taken) ≡ true → fails told ≡ false → Then (settle_on g kind taken) told
  settle g kind taken told source e ok = go told ok
    where
      far : 7 ≤ rank r.step
      far = onward_far n keeps r source g kind (settle_onward n keeps r source b g kind taken e)

      no_piece : (kind : Kind) (part : HealPart) → ((part ≡ Opening → ⊥) → kind ≡ Bytes) → settles_at r kind part b ≡ true → part ≡ Piece → ⊥
      no_piece Bytes Piece bytes m p = true≢false (sym m)
      no_piece Attrs Piece bytes m p = cc (bytes (λ q. cc q))
      no_piece Names Piece bytes m p = cc (bytes (λ q. cc q))
      no_piece kind Opening bytes m p = cc p
      no_piece kind Finish bytes m p = cc p

      plain : (asks : ℕ → Bool) (w : Register) → w.kind ≡ r.law.kind → w.object ≡ r.law.object → w.mended ≡ r.law.mended → Mended n keeps Settles r.part w.kind asks (λ s. r.possible s && may_heal n keeps r s b (settle_on g kind taken)) r.first_views r.reads r.upto w.object w.number w.mended k
      plain asks w c o m = finished (settle_on g kind taken) Settles asks r.upto w (omega arith) c o m far (λ s p. settle_mends n keeps r s b g kind taken p) h.no_bytes (λ q. refl) (λ i l. inl l)
          (λ p at. no_piece r.law.kind r.part areas.bytes (turn_in n keeps r source Settles b (settle_turn n keeps r source b g kind taken e)) p)

      go : (d : Told) → fails d ≡ false → Then (settle_on g kind taken) d
      go Done m = plain (with (asked_in r Settles) b) (record r.law { settled = with r.law.settled b }) refl refl refl
      go NotConnected m = absurd (true≢false m)
      go Failed m = absurd (true≢false m)
      go _ m = plain (asked_in r Settles) r.law refl refl refl

  unlock : (area : Area) (told : Told) (source : ℕ) → may_heal n keeps r source b (Unlock Work area) ≡ true → is_gone told ≡ false → Then (Unlock Work area) told
  unlock area told source e ok = (
      let f = (frees_work n r.law b area told).0 in
      let w = weak.note_ask n r.law b (Unlock Work area) told in
      let l = left_in_heal n r t b (Unlock Work area) told in
      subst (λ (w : Register). Mended n keeps Unlocks r.part w.kind l.asked (λ s. r.possible s && may_heal n keeps r s b (Unlock Work area)) r.first_views r.reads l.upto w.object w.number w.mended k) (sym (kept_law (is_gone told) b w ok))
      (finished (Unlock Work area) Unlocks l.asked l.upto w (omega arith) f.rest.kind f.object f.rest.mended (settles_far n keeps r source (unlock_over n keeps r source b area e)) (λ s p. settles_mends n keeps r s (unlock_over n keeps r s b area p))
      (λ first. ap (λ p. if is_piece p && nat_lt (rank r.step) (rank Unlocks) then r.upto + span else r.upto) first ∙ h.no_bytes first)
      (λ last. ap (λ p. if is_piece p && nat_lt (rank r.step) (rank Unlocks) then r.upto + span else r.upto) last) (λ i l. bytes i l) (λ p at. omega (arith, at)))
      )
    where
      piece_is : (p : HealPart) → is_piece p ≡ true → p ≡ Piece
      piece_is Piece m = refl
      piece_is Opening m = absurd (true≢false (sym m))
      piece_is Finish m = absurd (true≢false (sym m))

      eleven : (m : ℕ) → nat_lt m 12 ≡ true → m ≤ 11
      eleven m q = grind (arith, nat_tests)

      split : (i m : ℕ) → (i < m) ⊎ (m ≤ i)
      split i m = go (nat_lt i m) refl
        where
          go : (low : Bool) → nat_lt i m ≡ low → (i < m) ⊎ (m ≤ i)
          go true q = inl (grind (arith, nat_tests))
          go false q = inr (grind (arith, nat_tests))

      bytes : (i : ℕ) → i < (if is_piece r.part && nat_lt (rank r.step) (rank Unlocks) then r.upto + span else r.upto) → (i < r.upto) ⊎ ((r.part ≡ Piece) × (rank r.step ≤ 11) × (r.upto ≤ i) × (i < r.upto + span))
      bytes i l = go (is_piece r.part) refl (nat_lt (rank r.step) 12) refl l
        where
          go : (piece : Bool) → is_piece r.part ≡ piece → (early : Bool) → nat_lt (rank r.step) 12 ≡ early → i < (if piece && early then r.upto + span else r.upto) → (i < r.upto) ⊎ ((r.part ≡ Piece) × (rank r.step ≤ 11) × (r.upto ≤ i) × (i < r.upto + span))
          go true p true q m = elim (split i r.upto) [ inl low ↦ inl low | inr high ↦ inr (piece_is r.part p, eleven (rank r.step) q, high, m) ]
          go true p false q m = inl m
          go false p early q m = inl m

  unlock_heal : (area : Area) (told : Told) (source : ℕ) → may_heal n keeps r source b (Unlock Heal area) ≡ true → is_gone told ≡ false → Then (Unlock Heal area) told
  unlock_heal area told source e ok = (
      let f = frees_heal n r.law b area told in
      let w = weak.note_ask n r.law b (Unlock Heal area) told in
      let l = left_in_heal n r t b (Unlock Heal area) told in
      subst (λ (w : Register). Mended n keeps HealUnlocks r.part w.kind l.asked (λ s. r.possible s && may_heal n keeps r s b (Unlock Heal area)) r.first_views r.reads r.upto w.object w.number w.mended k) (sym (kept_law (is_gone told) b w ok))
      (finished (Unlock Heal area) HealUnlocks l.asked r.upto w (omega arith) f.rest.kind f.object f.rest.mended (settles_far n keeps r source (heal_unlock_over n keeps r source b area e)) (λ s p. settles_mends n keeps r s (heal_unlock_over n keeps r s b area p))
      h.no_bytes (λ q. refl) (λ i l. inl l) (λ p at. omega (arith, at)))
      )

  pub mended_asked : (request : Request) (told : Told) (source : ℕ) → may_heal n keeps r source b request ≡ true → r.possible source ≡ true → breaks r request told ≡ false → ((repair : Repair) → request ≡ Mend repair → IsWide repair) → Then request told
  mended_asked (Lock Heal area) told source e possible un wide = lock area told source e
  mended_asked (Lock Work area) told source e possible un wide = work area told source e
  mended_asked (Look g) told source e possible un wide = look g.0 told source e
  mended_asked (ReadBytes g at len) told source e possible un wide = read (ReadBytes g at len) (left_in_heal n r t b (ReadBytes g at len) told).asked (left_in_heal n r t b (ReadBytes g at len) told).reads told (onward_far n keeps r source g.0 Bytes (bytes_onward n keeps r source b g at len e)) (turn_low n keeps r source Reads b (bytes_turn n keeps r source b g at len e))
  mended_asked (ReadAttrs g) told source e possible un wide = read (ReadAttrs g) (left_in_heal n r t b (ReadAttrs g) told).asked (left_in_heal n r t b (ReadAttrs g) told).reads told (onward_far n keeps r source g.0 Attrs (attrs_onward n keeps r source b g e)) (turn_low n keeps r source Reads b (attrs_turn n keeps r source b g e))
  mended_asked (List g) told source e possible un wide = read (List g) (left_in_heal n r t b (List g) told).asked (left_in_heal n r t b (List g) told).reads told (onward_far n keeps r source g.0 Names (list_onward n keeps r source b g e)) (turn_low n keeps r source Reads b (list_turn n keeps r source b g e))
  mended_asked (Pre g kind) told source e possible un wide = pre g.0 kind told source e un
  mended_asked (Mend repair) told source e possible un wide = mend_told n keeps t b r k number number_is some_number s inside areas h repair source e possible (wide repair refl) told un
  mended_asked (Settle g kind taken) told source e possible un wide = settle g.0 kind taken told source e un
  mended_asked (Unlock Work area) told source e possible un wide = unlock area told source e un
  mended_asked (Unlock Heal area) told source e possible un wide = unlock_heal area told source e un
  mended_asked (Apply q) told source e possible un wide = absurd (true≢false (sym e))
  mended_asked (Post q g kind missed) told source e possible un wide = absurd (true≢false (sym e))
  mended_asked (ReadName g name) told source e possible un wide = absurd (true≢false (sym e))
  mended_asked (ReadAttr g key) told source e possible un wide = absurd (true≢false (sym e))
  mended_asked Index told source e possible un wide = absurd (true≢false (sym e))

-- a line of a heal, with what the tally has after it
ask_mended : (n : ℕ) (keeps : ℕ → Kind → Bool) (t a b : ℕ) (r : Exact) (k : Tally) (newest : ℕ) → (7 ≤ rank r.step → newest ≡ r.law.number) → (7 ≤ rank r.step → r.law.number ≡ 0 → ⊥) → StageOf r → r.law.heal ≡ true → AreasIn r r.law → MendedIn n keeps r r.law k
    → (request : Request) (told : Told) (took : Bool) (source : ℕ) → may_heal n keeps r source b request ≡ true → r.possible source ≡ true → breaks r request told ≡ false → ((repair : Repair) → request ≡ Mend repair → IsWide repair)
    → MendedIn n keeps (healed_by n keeps r t a b request told took) (healed_by n keeps r t a b request told took).law (note_tally newest k (Some (ask_by a b request told took)))
ask_mended n keeps t a b r k newest same some s inside areas h (Mend repair) told took source e possible un wide = mended_asked n keeps t b r k newest (same (mend_far n keeps r source repair (mend_test n keeps r source b repair e))) some s inside areas h (Mend repair) told source e possible un wide
ask_mended n keeps t a b r k newest same some s inside areas h (Lock domain area) told took source e possible un wide = mended_asked n keeps t b r k r.law.number refl some s inside areas h (Lock domain area) told source e possible un wide
ask_mended n keeps t a b r k newest same some s inside areas h (Unlock domain area) told took source e possible un wide = mended_asked n keeps t b r k r.law.number refl some s inside areas h (Unlock domain area) told source e possible un wide
ask_mended n keeps t a b r k newest same some s inside areas h (Look g) told took source e possible un wide = mended_asked n keeps t b r k r.law.number refl some s inside areas h (Look g) told source e possible un wide
ask_mended n keeps t a b r k newest same some s inside areas h (ReadBytes g at len) told took source e possible un wide = mended_asked n keeps t b r k r.law.number refl some s inside areas h (ReadBytes g at len) told source e possible un wide
ask_mended n keeps t a b r k newest same some s inside areas h (ReadAttrs g) told took source e possible un wide = mended_asked n keeps t b r k r.law.number refl some s inside areas h (ReadAttrs g) told source e possible un wide
ask_mended n keeps t a b r k newest same some s inside areas h (List g) told took source e possible un wide = mended_asked n keeps t b r k r.law.number refl some s inside areas h (List g) told source e possible un wide
ask_mended n keeps t a b r k newest same some s inside areas h (Pre g kind) told took source e possible un wide = mended_asked n keeps t b r k r.law.number refl some s inside areas h (Pre g kind) told source e possible un wide
ask_mended n keeps t a b r k newest same some s inside areas h (Settle g kind taken) told took source e possible un wide = mended_asked n keeps t b r k r.law.number refl some s inside areas h (Settle g kind taken) told source e possible un wide
ask_mended n keeps t a b r k newest same some s inside areas h (Apply q) told took source e possible un wide = absurd (true≢false (sym e))
ask_mended n keeps t a b r k newest same some s inside areas h (Post q g kind missed) told took source e possible un wide = absurd (true≢false (sym e))
ask_mended n keeps t a b r k newest same some s inside areas h (ReadName g name) told took source e possible un wide = absurd (true≢false (sym e))
ask_mended n keeps t a b r k newest same some s inside areas h (ReadAttr g key) told took source e possible un wide = absurd (true≢false (sym e))
ask_mended n keeps t a b r k newest same some s inside areas h Index told took source e possible un wide = absurd (true≢false (sym e))

begins_mended : (n : ℕ) (keeps : ℕ → Kind → Bool) (r : Exact) (k : Tally) (newest t a g : ℕ) (kind : Kind) → AreasIn r r.law → MayHealBegin n r g kind → MendedIn n keeps r r.law k
    → MendedIn n keeps (note n keeps r t (Some (heal_begin_by a g kind))) (note n keeps r t (Some (heal_begin_by a g kind))).law (note_tally newest k (Some (heal_begin_by a g kind)))
begins_mended n keeps r k newest t a g kind areas may h = elim (opening_or r.part) [
  | inl first ↦ unmended_yet n keeps Looks r.part kind empty r.possible r.first_views no_reads r.upto r.law.object (suc t) r.law.mended (record k { repair = None }) first (omega arith) (h.no_bytes first)
      (λ m. (let late : 10 ≤ rank r.step = h.mending m first in absurd (omega (arith, late, six)))) (h.unmended first (omega (arith, six))) (λ f rep e. cc e)
  | inr later ↦ record {
    mending = λ m e. absurd (later e);
    no_bytes = λ e. absurd (later e);
    unmended = λ e. absurd (later e);
    repaired_so = λ f l rep e. absurd (cc e);
    finish_none = λ f e. refl;
    asked_mended = λ at. absurd (cc at);
    covered = λ s x p low q cell real o c m z. h.covered s x p low (ap (λ d. raise_set keeps r.first_views s d x) (sym (may.later later)) ∙ q) cell real o (c ∙ may.later later) (still later (len_of (r.first_views s)) cell m) z;
    finished = h.finished;
    no_settling = λ e at. absurd (omega (arith, at));
    level = λ s x p low q cell. elim (h.level s x p low (ap (λ d. raise_set keeps r.first_views s d x) (sym (may.later later)) ∙ q) cell) [ inl fine ↦ inl fine | inr w ↦ absurd (cc (sym may.step ∙ w.at)) ];
  }
]
  where
    six : rank r.step ≡ 6
    six = ap rank may.step

    still : (r.part ≡ Opening → ⊥) → (len : ℕ) (cell : Cell) → Brought Looks r.part r.upto len cell → Brought r.step r.part r.upto len cell
    still later len (Byte g i) (inl w) = inl (inl later, w.1)
    still later len (Byte g i) (inr l) = inr l
    still later len (Attr g i) m = absurd (omega (arith, m))
    still later len (Entry g i) m = absurd (omega (arith, m))

module _ (n : ℕ) (keeps : ℕ → Kind → Bool) (log : Log) (wide : Wide log) (moves : MovesExactly n keeps log) where
  first_mended : (t a b g : ℕ) (told : Told) (took : Bool) → MendedIn n keeps (opened_by n keeps t a b (heal_area g) told took) (opened_by n keeps t a b (heal_area g) told took).law blank
  first_mended t a b g told took = (
      let w = opened_by n keeps t a b (heal_area g) told took in
      unmended_yet n keeps HealLocks Opening w.law.kind w.asked everywhere no_views no_reads 0 w.law.object w.law.number w.law.mended blank refl (omega arith) refl (λ e. cc e) (λ cell. refl) (λ far. absurd (omega (arith, far)))
      )

  -- a heal's number is that of its last HealBegin line
  pub numbers_now : (t a : ℕ) → (present n keeps log t a).law.heal ≡ true → (present n keeps log t a).broken ≡ false → 7 ≤ rank (present n keeps log t a).step → (present n keeps log t a).law.number ≡ 0 → ⊥
  numbers_now t a on whole far = ((firsts_now n keeps log moves t a).1 on whole).numbers far

  pub mended_now : (t a : ℕ) → (present n keeps log t a).law.heal ≡ true → (present n keeps log t a).broken ≡ false → MendedIn n keeps (present n keeps log t a) (present n keeps log t a).law (tally_at log t a)
  mended_now = healing_now n keeps log moves (λ t a r k. MendedIn n keeps r r.law k) (λ t a r k h. h) (λ t a b g told took is below. first_mended t a b g told took)
      (λ t a b request told took is below m un h. ask_mended n keeps t a b (present n keeps log t a) (tally_at log t a) (last log t a) (λ far. (newest_now n keeps log moves t a).last (numbers_now t a m.inside m.whole far)) (λ far. numbers_now t a m.inside m.whole far)
      (stage_now n keeps log moves t a) m.inside (areas_now n keeps log moves t a m.inside m.whole) h request told took m.source m.allowed m.possible un (λ repair e. wide t a b repair told took (is ∙ ap (λ q. Some (ask_by a b q told took)) e)))
      (λ t a g kind is may h. begins_mended n keeps (present n keeps log t a) (tally_at log t a) (last log t a) t a g kind (areas_now n keeps log moves t a may.inside may.whole) may h)

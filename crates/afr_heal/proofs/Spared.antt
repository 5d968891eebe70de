-- A heal's bytes stay below the length of its source and one piece more.
use Rattle.std.proofs.Common.{ℕ, ◌≡◌, ◌+◌, ◌<◌, ◌≤◌, ◌^◌, ◌&&◌, if◌then◌else◌, Bool, arith, false, nat_lt, refl, subst, sym, true}
use Rattle.std.proofs.lemmas.Bool.Decides.{nat_tests}
use Rattle.afr_base.specs.declared.ids.Gfid.{Gfid}
use Rattle.afr_base.specs.declared.ids.Kind.{Kind}
use Rattle.afr_base.specs.declared.ids.Kind.TheVariants.{Attrs, Bytes, Names}
use Rattle.afr_discipline.specs.Turns.{less_in}
use Rattle.afr_heal.proofs.Finding.{turn_low}
use Rattle.afr_heal.proofs.Parts.{both, pair}
use Rattle.afr_heal.proofs.StagesWalk.{after_elim, at_unlocks, broken_elim, first_elim, heal_elim, lock_elim, look_elim, looks_later}
use Rattle.afr_heal.specs.Answers.{asked_for, source_after}
use Rattle.afr_heal.specs.Carried.{IsNamed}
use Rattle.afr_heal.specs.Engine.{lock_next, next_of}
use Rattle.afr_heal.specs.Requests.{area_now, next_area, read_in, repair_in}
use Rattle.afr_heal.specs.Spare.{IsSpare, Spare, SpareNext, StaysSpare}
use Rattle.afr_heal.specs.Standing.{AtFirst, Ending, First, Going, Healing, Looking, Parting, Standing, Viewing, Working}
use Rattle.afr_lines.specs.Overlap.{same_area}
use Rattle.afr_lines.specs.declared.answer.Told.{Told}
use Rattle.afr_lines.specs.declared.request.Area.{Area}
use Rattle.afr_lines.specs.declared.request.Request.{Request}
use Rattle.afr_lines.specs.declared.request.Request.TheVariants.{List, Lock, Look, Mend, Pre, ReadAttrs, ReadBytes, Settle, Unlock}
use Rattle.afr_model_moves.specs.Register.{Exact, Finish, HealLocks, HealPart, HealPres, HealUnlocks, Looks, Mends, Opening, Piece, Reads, Settles, Step, Unlocks, WorkLocks, is_opening, is_piece, len_of, piece_area, rank, same_step, span, whole_area}
use Rattle.afr_model_moves.specs.Rules.{heal_area}
use Rattle.afr_model_moves.specs.Steps.{turn}
use Rattle.afr_model_moves.proofs.AreaLemmas.{same_area_self}
use Rattle.afr_lines.specs.declared.lock.Domain.TheVariants.{Heal, Work}

-- a request that leaves the part, its bytes and the first views
abbrev is_plain : Request → Bool
is_plain (Lock Heal area) = true
is_plain (ReadBytes g at len) = true
is_plain (ReadAttrs g) = true
is_plain (List g) = true
is_plain (Pre g kind) = true
is_plain (Mend repair) = true
is_plain (Settle g kind less) = true
is_plain (Unlock Heal area) = true
is_plain request = false

module _ (n : ℕ) (keeps : ℕ → Kind → Bool) (pick : (ℕ → Bool) → ℕ) where
  abbrev inside : Exact → Exact
  inside q = record q { law = record q.law { heal = true } }

  inside_is : (r : Exact) → r.law.heal ≡ true → r ≡ inside r
  inside_is r h = λ i. record r { law = record r.law { heal = h i } }

  abbrev After : Exact → ℕ → ℕ → ℕ → Request → Told → Type 0
  After r s t b request told = IsSpare (asked_for n keeps r t b request told) (source_after n keeps pick (asked_for n keeps r t b request told) s)

  -- the step of a request
  abbrev step_for : Request → Step
  step_for (Lock Heal area) = HealLocks
  step_for (Look g) = Looks
  step_for (Pre g kind) = HealPres
  step_for (Mend repair) = Mends
  step_for (Settle g kind less) = Settles
  step_for (Unlock Work area) = Unlocks
  step_for (Unlock Heal area) = HealUnlocks
  step_for request = Reads

  -- a later step of the same part
  onward : (part : HealPart) (upto len : ℕ) (old new : Step) → (nat_lt (rank new) 12 ≡ true → nat_lt (rank old) 12 ≡ true) → Spare part upto old len → Spare part upto new len
  onward part upto len old new order k = record {
    zero_first = k.zero_first;
    low = k.low;
    piece = λ h. let w = both (is_piece part) (nat_lt (rank new) 12) h in k.piece (pair _ _ w.0 (order w.1));
  }

  module _ (q : Exact) (s t b : ℕ) (k : IsSpare q s) where
    zero_low : (upto len : ℕ) → upto ≡ 0 → nat_lt upto (len + span) ≡ true
    zero_low upto len e = grind (arith, nat_tests, e)

    -- after a look of the opening any copy may be the source
    looked : (g : Gfid) (told : Told) → (nat_lt 7 12 ≡ true → nat_lt (rank q.step) 12 ≡ true) → After (inside q) s t b (Look g) told
    looked g told order = go q.part refl
      where
        placed : (part : HealPart) → q.part ≡ part → q ≡ record q { part = part }
        placed part e = λ i. record q { part = e i }

        go : (part : HealPart) → q.part ≡ part → After (inside q) s t b (Look g) told
        go Opening e =
            let none : q.upto ≡ 0 = k.zero_first (rw e refl) in
            subst (λ (q : Exact). After (inside q) s t b (Look g) told) (sym (placed Opening e)) (record { zero_first = λ h. none; low = zero_low q.upto _ none; piece = λ h. absurd (cc h) })
        go Piece e = subst (λ (q : Exact). After (inside q) s t b (Look g) told) (sym (placed Piece e)) (onward Piece q.upto (len_of (q.first_views s)) q.step Looks order (subst (λ (part : HealPart). Spare part q.upto q.step (len_of (q.first_views s))) e k))
        go Finish e = subst (λ (q : Exact). After (inside q) s t b (Look g) told) (sym (placed Finish e)) (onward Finish q.upto (len_of (q.first_views s)) q.step Looks order (subst (λ (part : HealPart). Spare part q.upto q.step (len_of (q.first_views s))) e k))

    released : (area : Area) (told : Told) → After (inside q) s t b (Unlock Work area) told
    released area told = by (is_piece q.part && nat_lt (rank q.step) 12) refl
      where
        more : (upto len : ℕ) → nat_lt upto len ≡ true → nat_lt (upto + span) (len + span) ≡ true
        more upto len h = grind (arith, nat_tests, h)

        no_both : (x : Bool) → (x && false) ≡ true → ⊥
        no_both true h = cc h
        no_both false h = cc h

        no_piece : (part : HealPart) → is_opening part ≡ true → is_piece part ≡ true → ⊥
        no_piece Opening a b = cc b
        no_piece Piece a b = cc a
        no_piece Finish a b = cc a

        by : (f : Bool) → (is_piece q.part && nat_lt (rank q.step) 12) ≡ f → Spare q.part (if is_piece q.part && nat_lt (rank q.step) 12 then q.upto + span else q.upto) Unlocks (len_of (q.first_views s))
        by true e = rw e (record { zero_first = λ h. absurd (no_piece q.part h (both (is_piece q.part) _ e).0); low = more q.upto (len_of (q.first_views s)) (k.piece e); piece = λ h. absurd (no_both (is_piece q.part) h) })
        by false e = rw e (record { zero_first = k.zero_first; low = k.low; piece = λ h. absurd (no_both (is_piece q.part) h) })

    locked : (area : Area) (told : Told) → same_step q.step Unlocks ≡ false → (nat_lt 6 12 ≡ true → nat_lt (rank q.step) 12 ≡ true) → After (inside q) s t b (Lock Work area) told
    locked area told other order = rw other (onward q.part q.upto (len_of (q.first_views s)) q.step WorkLocks order k)

    plain : (request : Request) (told : Told) → (nat_lt (rank (step_for request)) 12 ≡ true → nat_lt (rank q.step) 12 ≡ true) → is_plain request ≡ true → After (inside q) s t b request told
    plain (Lock Heal area) told order e = onward q.part q.upto (len_of (q.first_views s)) q.step HealLocks order k
    plain (ReadBytes g at len) told order e = onward q.part q.upto (len_of (q.first_views s)) q.step Reads order k
    plain (ReadAttrs g) told order e = onward q.part q.upto (len_of (q.first_views s)) q.step Reads order k
    plain (List g) told order e = onward q.part q.upto (len_of (q.first_views s)) q.step Reads order k
    plain (Pre g kind) told order e = onward q.part q.upto (len_of (q.first_views s)) q.step HealPres order k
    plain (Mend repair) told order e = onward q.part q.upto (len_of (q.first_views s)) q.step Mends order k
    plain (Settle g kind less) told order e = onward q.part q.upto (len_of (q.first_views s)) q.step Settles order k
    plain (Unlock Heal area) told order e = onward q.part q.upto (len_of (q.first_views s)) q.step HealUnlocks order k
    plain _ told order e = absurd (cc e)

    -- the first Work lock of the next part
    parted : (g : Gfid) (told : Told) → same_step q.step Unlocks ≡ true → q.law.object ≡ g.0 → nat_lt (len_of (q.first_views s)) (2 ^ 63) ≡ true → After (inside q) s t b (lock_next (inside q) s g b) told
    parted g told at object short = by (nat_lt q.upto (len_of (q.first_views s))) refl
      where
        by : (f : Bool) → nat_lt q.upto (len_of (q.first_views s)) ≡ f
            → Spare (if same_step q.step Unlocks then (if same_area (whole_area q.law.object Bytes) (next_area q s g) then Finish else Piece) else q.part) q.upto WorkLocks (len_of (q.first_views s))
        by true e = rw at (each (same_area (whole_area q.law.object Bytes) (next_area q s g)))
          where
            each : (f : Bool) → Spare (if f then Finish else Piece) q.upto WorkLocks (len_of (q.first_views s))
            each true = record { zero_first = λ h. absurd (cc h); low = k.low; piece = λ h. absurd (cc h) }
            each false = record { zero_first = λ h. absurd (cc h); low = k.low; piece = λ h. e }
        by false e =
            let same : same_area (whole_area q.law.object Bytes) (if nat_lt q.upto (len_of (q.first_views s)) then piece_area g.0 q.upto else whole_area g.0 Bytes) ≡ true = rw (e, object) (same_area_self (whole_area g.0 Bytes)) in
            rw (at, same) (record { zero_first = λ h. absurd (cc h); low = k.low; piece = λ h. absurd (cc h) })

  -- ---- by the stage
  module _ (r : Exact) (s : ℕ) (g : Gfid) (kind : Kind) (some : 0 < n) (few : n ≤ 5) (named : IsNamed kind r) (k : IsSpare r s) where
    in_heal : r.law.heal ≡ true → (t b : ℕ) (request : Request) (told : Told) → After (inside r) s t b request told → After r s t b request told
    in_heal h t b request told a = subst (λ (r : Exact). After r s t b request told) (sym (inside_is r h)) a

    -- the order of the steps of a part
    in_order : (step : Step) (b : ℕ) → turn n keeps r s step b ≡ true → nat_lt (rank step) 12 ≡ true → nat_lt (rank r.step) 12 ≡ true
    in_order step b t h = let low = turn_low n keeps r s step b t in grind (arith, nat_tests, low, h)

    by_stage : Standing n keeps r s g kind → SpareNext n keeps pick r s g kind (next_of n keeps r s g kind)
    by_stage (First w) = first_elim n keeps r s g kind w (SpareNext n keeps pick r s g kind) (λ t told. opened w t told)
      where
        opened : AtFirst n r → (t : ℕ) (told : Told) → After r s t 0 (Lock Heal (heal_area g.0)) told
        opened w t told =
            let eh = w.outside in
            let is : r ≡ record r { law = record r.law { heal = false } } = λ i. record r { law = record r.law { heal = eh i } } in
            let order : nat_lt (rank HealLocks) 12 ≡ true → nat_lt (rank r.step) 12 ≡ true = λ h. rw w.step refl in
            subst (λ (r : Exact). After r s t 0 (Lock Heal (heal_area g.0)) told) (sym is) (onward r.part r.upto (len_of (r.first_views s)) r.step HealLocks order k)
    by_stage (Healing w) = heal_elim n keeps r s g kind w (SpareNext n keeps pick r s g kind)
        (λ b l h t told. in_heal w.base.inside t b (Lock Heal (heal_area g.0)) told (plain r s t b k (Lock Heal (heal_area g.0)) told (in_order HealLocks b h) refl))
        (λ o b l h t told. in_heal w.base.inside t b (Lock Work (area_now r g kind)) told (locked r s t b k (area_now r g kind) told (rw w.step refl) (λ e. rw w.step refl)))
    by_stage (Working w) = lock_elim n keeps r s g kind (SpareNext n keeps pick r s g kind) w.whole w.step
        (λ b l h t told. in_heal w.base.inside t b (Lock Work (area_now r g kind)) told (locked r s t b k (area_now r g kind) told (rw w.step refl) (λ e. rw w.step refl)))
        (λ o t. onward r.part r.upto (len_of (r.first_views s)) r.step Looks (λ e. rw w.step refl) k)
    by_stage (Parting w) = lock_elim n keeps r s g kind (SpareNext n keeps pick r s g kind) w.whole w.step
        (λ b l h t told. in_heal w.base.inside t b (Lock Work (area_now r g kind)) told (locked r s t b k (area_now r g kind) told (rw w.step refl) (λ e. rw w.step refl)))
        (λ o t. onward r.part r.upto (len_of (r.first_views s)) r.step Looks (λ e. rw w.step refl) k)
    by_stage (Looking w) = look_elim n keeps r s g kind (SpareNext n keeps pick r s g kind) w.whole w.step (rw w.opening w.more)
        (λ b l h t told. in_heal w.base.inside t b (Look g) told (looked r s t b k g told (λ e. rw w.step refl)))
    by_stage (Viewing w) = look_elim n keeps r s g kind (SpareNext n keeps pick r s g kind) w.whole w.step (looks_later n keeps r s g kind w.part w.more)
        (λ b l h t told. in_heal w.base.inside t b (Look g) told (looked r s t b k g told (λ e. rw w.step refl)))
    by_stage (Ending w) = broken_elim n keeps r s g kind (SpareNext n keeps pick r s g kind) w.broken
        (λ b l h t told. in_heal w.base.inside t b (Unlock Work (area_now r g kind)) told (released r s t b k (area_now r g kind) told))
        (λ none b l h t told. in_heal w.base.inside t b (Unlock Heal (heal_area g.0)) told (plain r s t b k (Unlock Heal (heal_area g.0)) told (λ e. absurd (cc e)) refl))
        (λ none off. tt)
    by_stage (Going w) = after_elim n keeps r s g kind w (SpareNext n keeps pick r s g kind)
        (λ b l h t told. in_heal w.base.inside t b (read_in r g kind) told (reads kind t b told (in_order Reads b h)))
        (λ o b l h t told. in_heal w.base.inside t b (Pre g kind) told (plain r s t b k (Pre g kind) told (in_order HealPres b h) refl))
        (λ o b l h t told. in_heal w.base.inside t b (Mend (repair_in r s g kind r.part)) told (plain r s t b k (Mend (repair_in r s g kind r.part)) told (in_order Mends b h) refl))
        (λ o b l h t told. in_heal w.base.inside t b (Settle g kind (less_in n keeps r s kind b)) told (plain r s t b k (Settle g kind (less_in n keeps r s kind b)) told (in_order Settles b h) refl))
        (λ o b l h t told. in_heal w.base.inside t b (Unlock Work (area_now r g kind)) told (released r s t b k (area_now r g kind) told))
        (λ o u p b l h t told. in_heal w.base.inside t b (lock_next r s g b) told (parted r s t b k g told (let e = at_unlocks n keeps r s g kind w u p in rw e refl) w.base.is_object (named.short s)))
        (λ o u p b l h t told. in_heal w.base.inside t b (Unlock Heal (heal_area g.0)) told (plain r s t b k (Unlock Heal (heal_area g.0)) told (λ e. absurd (cc e)) refl))
        (λ u h. tt)
      where
        reads : (kind' : Kind) (t b : ℕ) (told : Told) → (nat_lt (rank Reads) 12 ≡ true → nat_lt (rank r.step) 12 ≡ true) → After (inside r) s t b (read_in r g kind') told
        reads Bytes t b told o = plain r s t b k (ReadBytes g r.upto span) told o refl
        reads Attrs t b told o = plain r s t b k (ReadAttrs g) told o refl
        reads Names t b told o = plain r s t b k (List g) told o refl

pub stays_spare : StaysSpare
stays_spare n keeps pick r s g kind some few standing named k = by_stage n keeps pick r s g kind some few named k standing

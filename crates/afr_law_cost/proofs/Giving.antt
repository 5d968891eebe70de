-- Each line of a heal that gives locks back, or asks the first lock of its next part, comes nearer to its end.
use Rattle.std.proofs.Common.{◌≡◌, ℕ, suc, ◌+◌, ◌*◌, ◌<◌, ◌≤◌, ◌&&◌, not, nat_lt, Bool, true, false, refl, sym, ◌∙◌, subst, ap, arith, if◌then◌else◌}
use Rattle.std.proofs.lemmas.Bool.Decides.{nat_tests}
use Rattle.std.proofs.Math.Bool.{and-false}
use Rattle.afr_base.specs.Majority.{count_below}
use Rattle.afr_base.specs.declared.ids.Gfid.{Gfid}
use Rattle.afr_base.specs.declared.ids.Kind.{Kind}
use Rattle.afr_base.specs.declared.ids.Kind.TheVariants.{Attrs, Bytes, Names}
use Rattle.afr_heal.proofs.Finding.{turn_set}
use Rattle.afr_heal.proofs.Parts.{not_both}
use Rattle.afr_heal.proofs.StagesForms.{going_at, released_own, unlocked_own}
use Rattle.afr_heal.specs.Answers.{asked_for, fits, source_after}
use Rattle.afr_heal.specs.Engine.{has_part}
use Rattle.afr_heal.specs.Requests.{next_area}
use Rattle.afr_heal.specs.Standing.{AfterLooks}
use Rattle.afr_lines.specs.Overlap.{same_area}
use Rattle.afr_lines.specs.declared.answer.Told.{Told}
use Rattle.afr_lines.specs.declared.answer.Told.TheVariants as as_told
use Rattle.afr_lines.specs.declared.request.Area.{Area}
use Rattle.afr_lines.specs.declared.request.Request.{Request}
use Rattle.afr_lines.specs.declared.request.Request.TheVariants.{Lock, Unlock}
use Rattle.afr_model_moves.proofs.AreaLemmas.{heal_freed_own, same_area_self}
use Rattle.afr_model_moves.specs.Note.{next_part}
use Rattle.afr_model_moves.specs.Register.{Exact, Finish, HealPart, HealPres, HealUnlocks, Mends, Piece, Reads, Settles, Unlocks, WorkLocks, asked_in, is_opening, is_piece, len_of, piece_area, rank, same_step, span, whole_area}
use Rattle.afr_model_moves.specs.Rules as weak
use Rattle.afr_model_moves.specs.Rules.{Register, heal_area}
use Rattle.afr_model_moves.specs.Sets.{with, without}
use Rattle.afr_model_moves.specs.Steps.{may_heal, set_of, turn}
use Rattle.afr_lines.specs.declared.lock.Domain.TheVariants.{Heal, Work}
use Rattle.afr_law_cost.specs.Left.{giving, left_in, lines_left, parts_left, parts_of, pieces, taken, times, todo}
use Rattle.afr_law_cost.proofs.Bounds.{bound_part}
use Rattle.afr_law_cost.proofs.Counting.{count_none, left_most, left_one, pieces_fall, times_less}
use Rattle.afr_counting.proofs.Counts.{count_falls, count_less}
use Rattle.afr_model_moves.proofs.Tests.{with_self, without_in}
use Rattle.afr_law_cost.proofs.Early.{as_was, granted_healing, locked_healing}
use Rattle.afr_law_cost.proofs.Middle.{sets, whole}
use Rattle.afr_law.proofs.Model.Sums.{no_post}
use Rattle.afr_law.proofs.Discipline.AskFields.{without_here}

-- ---- counts
-- where every brick is behind, none is left
none_left : (n : ℕ) (set : ℕ → Bool) → left_in n set (λ x. true) ≤ 0
none_left n set = count_none n (λ x. set x && not true) (λ x. and-false (set x))

no_parts : (n k : ℕ) (h : Bool) → h ≡ false → parts_left n h k ≤ 0
no_parts n k true e = absurd (not_both true refl e)
no_parts n k false e = omega arith

most_parts : (n k : ℕ) (h : Bool) → parts_left n h k ≤ times (suc k) (4 * n + 1)
most_parts n k true = omega arith
most_parts n k false = omega arith

some_parts : (n k : ℕ) (h : Bool) → h ≡ true → parts_left n h k ≡ times (suc k) (4 * n + 1)
some_parts n k true e = refl
some_parts n k false e = absurd (not_both false e refl)

held_falls : (n : ℕ) (held : ℕ → Bool) (b : ℕ) → b < n → held b ≡ true → count_below n (without held b) + 1 ≤ count_below n held
held_falls n held b l h = count_falls n held (without held b) b (λ x l e. without_in held b x e) l h (without_here held b)

held_less : (n : ℕ) (held : ℕ → Bool) (b : ℕ) → count_below n (without held b) ≤ count_below n held
held_less n held b = count_less n held (without held b) (λ x l e. without_in held b x e)

module _ (n : ℕ) (keeps : ℕ → Kind → Bool) (pick : (ℕ → Bool) → ℕ) (q : Exact) (s : ℕ) (g : Gfid) (kind : Kind) (area : Area) (k : AfterLooks n keeps (going_at q g kind area) s g kind) (b at : ℕ) (l : b < n) where
  abbrev r : Exact
  r = going_at q g kind area

  abbrev after : Request → Told → Exact
  after request told = asked_for n keeps r at b request told

  abbrev NearsHere : Request → Told → Type 0
  NearsHere request told = lines_left n keeps (after request told) (source_after n keeps pick (after request told) s) kind + taken request told ≤ lines_left n keeps r s kind

  all_left : lines_left n keeps r s kind ≡ sets n keeps q s g kind area k r + parts_of n r s kind + giving n r
  all_left = whole n keeps q s g kind area k

  -- ---- the unlocks of a part
  abbrev after_piece : ℕ
  after_piece = if is_piece q.part && nat_lt (rank q.step) 12 then q.upto + span else q.upto

  abbrev unlocked_at : (ℕ → Bool) → (ℕ → Bool) → Register → Exact
  unlocked_at asked possible law = record r { step = Unlocks; asked = asked; possible = possible; upto = after_piece; broken = false; law = law }

  -- the lines that are left at the unlocks
  unlocks_most : (asked possible closed held : ℕ → Bool) → lines_left n keeps (unlocked_at asked possible (record r.law { closed = closed; held = held })) s kind ≤ parts_of n r s kind + (count_below n held + count_below n q.law.healing + 1)
  unlocks_most asked possible closed held =
      let r1 = unlocked_at asked possible (record r.law { closed = closed; held = held }) in
      let a : todo n keeps r1 s Reads ≤ 0 = none_left n (set_of n keeps r1 s Reads) in
      let b : todo n keeps r1 s HealPres ≤ 0 = none_left n (set_of n keeps r1 s HealPres) in
      let c : todo n keeps r1 s Mends ≤ 0 = none_left n (set_of n keeps r1 s Mends) in
      let d : todo n keeps r1 s Settles ≤ 0 = none_left n (set_of n keeps r1 s Settles) in
      let e : parts_of n r1 s kind ≡ parts_of n r s kind = ap (λ (upto : ℕ). parts_left n (has_part kind q.part) (pieces (len_of (q.first_views s)) upto)) (no_post (is_piece q.part) (after_piece + span) after_piece) in
      omega (arith, a, b, c, d, e)

  pub near_unlocks : turn n keeps r s Unlocks b ≡ true → (told : Told) → fits (Unlock Work area) told ≡ true → NearsHere (Unlock Work area) told
  near_unlocks t as_told.Done f =
      subst (λ (law : Register). lines_left n keeps (unlocked_at (with (asked_in r Unlocks) b) (λ x. r.possible x && may_heal n keeps r x b (Unlock Work area)) law) s kind + 1 ≤ lines_left n keeps r s kind) (sym (released_own n r.law area b refl))
      (let h = unlocks_most (with (asked_in r Unlocks) b) (λ x. r.possible x && may_heal n keeps r x b (Unlock Work area)) (with r.law.closed b) (without r.law.held b) in
      let j = held_falls n q.law.held b l (turn_set n keeps r s Unlocks b t) in
      let e = all_left in
      omega (arith, h, j, e))
  near_unlocks t as_told.Failed f =
      subst (λ (law : Register). lines_left n keeps (unlocked_at (asked_in r Unlocks) (λ x. r.possible x && may_heal n keeps r x b (Unlock Work area)) law) s kind + 0 ≤ lines_left n keeps r s kind) (sym (unlocked_own n r.law area b refl))
      (let h = unlocks_most (asked_in r Unlocks) (λ x. r.possible x && may_heal n keeps r x b (Unlock Work area)) (with r.law.closed b) r.law.held in
      let e = all_left in
      omega (arith, h, e))
  near_unlocks t as_told.NotConnected f =
      subst (λ (law : Register). count_below n (without law.held b) + count_below n (without law.healing b) + 1 + 1 ≤ lines_left n keeps r s kind) (sym (unlocked_own n r.law area b refl))
      (let h = held_falls n q.law.held b l (turn_set n keeps r s Unlocks b t) in
      let j = held_less n q.law.healing b in
      let e = all_left in
      omega (arith, h, j, e))
  near_unlocks t _ f = absurd (cc f)

  -- ---- the Heal locks are given back
  abbrev given_at : (ℕ → Bool) → (ℕ → Bool) → (ℕ → Bool) → Exact
  given_at asked possible healing = record r { step = HealUnlocks; asked = asked; possible = possible; broken = false; law = record r.law { healing = healing } }

  given_most : has_part kind q.part ≡ false → (asked possible healing : ℕ → Bool) → lines_left n keeps (given_at asked possible healing) s kind ≤ count_below n q.law.held + count_below n healing + 1
  given_most last asked possible healing =
      let r1 = given_at asked possible healing in
      let a : todo n keeps r1 s Reads ≤ 0 = none_left n (set_of n keeps r1 s Reads) in
      let b : todo n keeps r1 s HealPres ≤ 0 = none_left n (set_of n keeps r1 s HealPres) in
      let c : todo n keeps r1 s Mends ≤ 0 = none_left n (set_of n keeps r1 s Mends) in
      let d : todo n keeps r1 s Settles ≤ 0 = none_left n (set_of n keeps r1 s Settles) in
      let e : parts_of n r1 s kind ≤ 0 = no_parts n (pieces (len_of (q.first_views s)) (if is_piece q.part && false then q.upto + span else q.upto)) (has_part kind q.part) last in
      omega (arith, a, b, c, d, e)

  pub near_heals : has_part kind q.part ≡ false → turn n keeps r s HealUnlocks b ≡ true → (told : Told) → fits (Unlock Heal (heal_area g.0)) told ≡ true → NearsHere (Unlock Heal (heal_area g.0)) told
  near_heals last t as_told.Done f =
      subst (λ (healing : ℕ → Bool). lines_left n keeps (given_at (with (asked_in r HealUnlocks) b) (λ x. r.possible x && may_heal n keeps r x b (Unlock Heal (heal_area g.0))) healing) s kind + 1 ≤ lines_left n keeps r s kind) (sym (heal_freed_own r.law b))
      (let h = given_most last (with (asked_in r HealUnlocks) b) (λ x. r.possible x && may_heal n keeps r x b (Unlock Heal (heal_area g.0))) (without r.law.healing b) in
      let j = held_falls n q.law.healing b l (turn_set n keeps r s HealUnlocks b t) in
      let e = all_left in
      omega (arith, h, j, e))
  near_heals last t as_told.Failed f =
      let h = given_most last (asked_in r HealUnlocks) (λ x. r.possible x && may_heal n keeps r x b (Unlock Heal (heal_area g.0))) r.law.healing in
      let e = all_left in
      omega (arith, h, e)
  near_heals last t as_told.NotConnected f =
      let h : count_below n (without q.law.healing b) + 1 ≤ count_below n q.law.healing = held_falls n q.law.healing b l (turn_set n keeps r s HealUnlocks b t) in
      let j = held_less n q.law.held b in
      let e = all_left in
      gone_sum (count_below n (without q.law.held b)) (count_below n (without q.law.healing b)) (count_below n q.law.held) (count_below n q.law.healing) (sets n keeps q s g kind area k r) (parts_of n r s kind) (lines_left n keeps r s kind) j h e
    where
      gone_sum : (a' h' a h v p m : ℕ) → a' ≤ a → h' + 1 ≤ h → m ≡ v + p + (a + h + 1) → a' + h' + 1 + 1 ≤ m
      gone_sum a' h' a h v p m i j e = omega (arith, i, j, e)
  near_heals last t _ f = absurd (cc f)

  -- ---- the first lock of the next part
  module _ (u : rank q.step ≡ 12) (p : has_part kind q.part ≡ true) (short : len_of (q.first_views s) ≤ 1048576) where
    abbrev there : Area
    there = next_area r s g

    abbrev len : ℕ
    len = len_of (q.first_views s)

    abbrev new_part : HealPart
    new_part = if same_area (whole_area g.0 Bytes) there then Finish else Piece

    later : is_opening new_part ≡ false
    later = by_area (same_area (whole_area g.0 Bytes) there)
      where
        by_area : (f : Bool) → is_opening (if f then Finish else Piece) ≡ false
        by_area true = refl
        by_area false = refl

    part_is : next_part r there ≡ new_part
    part_is = let e : same_step q.step Unlocks ≡ true = rw u refl in rw e refl

    abbrev parts_then : HealPart → ℕ
    parts_then part = parts_left n (has_part kind part) (pieces len (if is_piece part && true then q.upto + span else q.upto))

    no_finish : (kind : Kind) → has_part kind Finish ≡ false
    no_finish Bytes = refl
    no_finish Attrs = refl
    no_finish Names = refl

    before_part : parts_of n r s kind ≡ times (suc (pieces len q.upto)) (4 * n + 1)
    before_part =
        let e : nat_lt (rank q.step) 12 ≡ false = grind (arith, nat_tests, u) in
        some_parts n (pieces len (if is_piece q.part && nat_lt (rank q.step) 12 then q.upto + span else q.upto)) (has_part kind q.part) p
        ∙ ap (λ (a : Bool). times (suc (pieces len (if is_piece q.part && a then q.upto + span else q.upto))) (4 * n + 1)) e
        ∙ ap (λ (upto : ℕ). times (suc (pieces len upto)) (4 * n + 1)) (no_post (is_piece q.part) (q.upto + span) q.upto)

    part_falls : parts_then new_part + (4 * n + 1) ≤ times (suc (pieces len q.upto)) (4 * n + 1)
    part_falls = go (nat_lt q.upto len) refl (same_area (whole_area g.0 Bytes) there) refl
      where
        go : (f : Bool) → nat_lt q.upto len ≡ f → (e : Bool) → same_area (whole_area g.0 Bytes) (if f then piece_area g.0 q.upto else whole_area g.0 Bytes) ≡ e → parts_then (if e then Finish else Piece) + (4 * n + 1) ≤ times (suc (pieces len q.upto)) (4 * n + 1)
        go f a true c = (let h = no_parts n (pieces len q.upto) (has_part kind Finish) (no_finish kind) in omega (arith, h))
        go true a false c =
            let low : q.upto < len = grind (arith, nat_tests, a) in
            let fall = pieces_fall span len q.upto low (omega (arith, short)) in
            let h = times_less (suc (pieces len (q.upto + span))) (pieces len q.upto) (4 * n + 1) (omega (arith, fall)) in
            let j = most_parts n (pieces len (q.upto + span)) (has_part kind Piece) in
            omega (arith, h, j)
        go false a false c = absurd (not_both (same_area (whole_area g.0 Bytes) (whole_area g.0 Bytes)) (same_area_self (whole_area g.0 Bytes)) c)

    abbrev next : Told → Exact
    next told = asked_for n keeps r at b (Lock Work there) told

    next_left : (told : Told) → fits (Lock Work there) told ≡ true → left_in n q.first_reached (next told).asked + taken (Lock Work there) told ≤ n
    next_left as_told.Granted f = left_one n q.first_reached (with (asked_in r WorkLocks) b) b l (with_self (asked_in r WorkLocks) b)
    next_left (as_told.Held owner) f = (let h = left_most n q.first_reached (asked_in r WorkLocks) in omega (arith, h))
    next_left as_told.Failed f = left_one n q.first_reached (with (asked_in r WorkLocks) b) b l (with_self (asked_in r WorkLocks) b)
    next_left as_told.NotConnected f = left_one n q.first_reached (with (asked_in r WorkLocks) b) b l (with_self (asked_in r WorkLocks) b)
    next_left _ f = absurd (cc f)

    next_healing : (told : Told) → fits (Lock Work there) told ≡ true → count_below n (next told).law.healing ≤ count_below n q.law.healing
    next_healing as_told.Granted f = count_less n q.law.healing (weak.granting n r.law there b).healing (λ x l h. as_was (weak.granting n r.law there b).healing q.law.healing (granted_healing n r.law there b) x h)
    next_healing (as_told.Held owner) f = count_less n q.law.healing (weak.locking n r.law there).healing (λ x l h. as_was (weak.locking n r.law there).healing q.law.healing (locked_healing n r.law there) x h)
    next_healing as_told.Failed f = count_less n q.law.healing (weak.locking n r.law there).healing (λ x l h. as_was (weak.locking n r.law there).healing q.law.healing (locked_healing n r.law there) x h)
    next_healing as_told.NotConnected f = count_less n q.law.healing (without (weak.locking n r.law there).healing b) (λ x l h. as_was (weak.locking n r.law there).healing q.law.healing (locked_healing n r.law there) x (without_in (weak.locking n r.law there).healing b x h))
    next_healing _ f = absurd (cc f)

    next_later : is_opening (next_part r there) ≡ false
    next_later = ap is_opening part_is ∙ later

    pub near_next : (told : Told) → fits (Lock Work there) told ≡ true → NearsHere (Lock Work there) told
    near_next told f =
        let h = bound_part n keeps (next told) s kind refl next_later in
        let a = next_left told f in
        let c = next_healing told f in
        let d : parts_of n (next told) s kind ≡ parts_then new_part = ap parts_then part_is in
        let e = all_left in
        sum (lines_left n keeps (next told) s kind) (left_in n q.first_reached (next told).asked) (parts_of n (next told) s kind) (parts_then new_part) (parts_of n r s kind) (times (suc (pieces len q.upto)) (4 * n + 1)) (count_below n (next told).law.healing) (count_below n q.law.healing)
        (count_below n q.law.held) (sets n keeps q s g kind area k r) (taken (Lock Work there) told) (lines_left n keeps r s kind) h a c d before_part part_falls e
      where
        sum : (l' left p1 p' p w h' h a v c m : ℕ) → l' ≤ left + (n + 1) + (2 * n + p1 + h' + 1) → left + c ≤ n → h' ≤ h → p1 ≡ p' → p ≡ w → p' + (4 * n + 1) ≤ w → m ≡ v + p + (a + h + 1) → l' + c ≤ m
        sum l' left p1 p' p w h' h a v c m i j o d e f y = omega (arith, i, j, o, d, e, f, y)

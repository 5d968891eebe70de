-- What the discipline allows in each stage of a heal: the request of each step, with a copy as its source.
use Rattle.std.proofs.Common.{ℕ, ◌≡◌, ◌<◌, ◌≤◌, ◌&&◌, ◌||◌, ◌==◌, ◌∷◌, if◌then◌else◌, [], Bool, None, Option, Some, arith, false, nat_le, nat_lt, not, refl, subst, suc, sym, true, zero}
use Rattle.afr_base.specs.Kinds.{same_kind}
use Rattle.afr_base.specs.Majority.{is_most}
use Rattle.afr_base.specs.declared.ids.Gfid.{Gfid}
use Rattle.afr_base.specs.declared.ids.Kind.{Kind}
use Rattle.afr_base.specs.declared.ids.Kind.TheVariants.{Attrs, Bytes, Names}
use Rattle.afr_discipline.specs.Five.{has_read}
use Rattle.afr_discipline.specs.Inside.{may_end_heal}
use Rattle.afr_discipline.specs.Turns.{less_by, marks_in, pending_less}
use Rattle.afr_heal.proofs.Finding.{passed_behind, turn_set}
use Rattle.afr_heal.proofs.Parts.{any_no, both, deny, or_true, pair}
use Rattle.afr_heal.proofs.StagesWalk.{at_unlocks, enough_heal, is_free, not_healing, past_heal}
use Rattle.afr_heal.specs.Engine.{has_part, lock_next}
use Rattle.afr_heal.specs.Requests.{area_or, next_area, position, read_in, repair_in, request_in}
use Rattle.afr_heal.specs.Standing.{AfterLooks, AtHeal, AtWork, IsBase, OfKind}
use Rattle.afr_lines.specs.Overlap.{same_area}
use Rattle.afr_lines.specs.declared.request.Area.{Area}
use Rattle.afr_lines.specs.declared.request.Request.TheVariants.{Mend}
use Rattle.afr_model_moves.specs.Honest.{view_marks}
use Rattle.afr_model_moves.specs.Register.{Exact, Finish, HealLocks, HealPart, HealPres, HealUnlocks, Looks, Mends, Opening, Piece, Reads, Settles, Step, Unlocks, WorkLocks, good, holder, is_finish, is_opening, len_of, over, piece_area, rank, same_step, whole_area}
use Rattle.afr_model_moves.specs.Rules.{heal_area, is_area, is_none, some_read}
use Rattle.afr_model_moves.specs.Sets.{empty}
use Rattle.afr_model_moves.specs.Steps.{after_unlocks, is_lowest, is_whole, locks_at, looks_over, may_heal, mends_at, mends_over, onward, passed, pres_over, reads_at, reads_over, same_read, same_reads, set_of, settles_at, settles_over, takes, turn}
use Rattle.afr_object.specs.declared.entry.View.{View}
use Rattle.afr_model_moves.proofs.Tests.{same_kind_self, same_self}
use Rattle.afr_model_moves.proofs.AreaLemmas.{same_area_self}

-- the area of this part is the register's own
pub own_now : (o : Option Area) (whole area : Area) → o ≡ Some area → is_area o (area_or o whole) ≡ true
own_now o whole area e = subst (λ (o : Option Area). is_area o (area_or o whole) ≡ true) (sym e) (same_area_self area)

-- ---- what each request needs
module _ (n : ℕ) (keeps : ℕ → Kind → Bool) (r : Exact) (s : ℕ) (g : Gfid) where
  read_ok : (kind : Kind) (b : ℕ) → onward n keeps r s g.0 kind ≡ true → turn n keeps r s Reads b ≡ true → may_heal n keeps r s b (read_in r g kind) ≡ true
  read_ok Bytes b o t = pair _ _ (pair _ _ (pair _ _ o t) (same_self r.upto)) refl
  read_ok Attrs b o t = pair _ _ o t
  read_ok Names b o t = pair _ _ o t

  read_same : (o : Option ℕ) → has_read o ≡ true → same_read o (Some (position o)) ≡ true
  read_same None h = absurd (cc h)
  read_same (Some q) h = same_self q

  reads_same : (o : Option ℕ) → same_read o o ≡ true
  reads_same None = refl
  reads_same (Some q) = same_self q

  some_five : (a b c d e : Option ℕ) (x : ℕ) → x < 5 → (x ≡ 0 → has_read a ≡ true) → (x ≡ 1 → has_read b ≡ true) → (x ≡ 2 → has_read c ≡ true) → (x ≡ 3 → has_read d ≡ true) → (x ≡ 4 → has_read e ≡ true)
      → some_read (a ∷ b ∷ c ∷ d ∷ e ∷ []) ≡ true
  some_five (Some q) b c d e x l ha hb hc hd he = refl
  some_five None (Some q) c d e x l ha hb hc hd he = refl
  some_five None None (Some q) d e x l ha hb hc hd he = refl
  some_five None None None (Some q) e x l ha hb hc hd he = refl
  some_five None None None None (Some q) x l ha hb hc hd he = refl
  some_five None None None None None zero l ha hb hc hd he = absurd (cc (ha refl))
  some_five None None None None None (suc zero) l ha hb hc hd he = absurd (cc (hb refl))
  some_five None None None None None (suc (suc zero)) l ha hb hc hd he = absurd (cc (hc refl))
  some_five None None None None None (suc (suc (suc zero))) l ha hb hc hd he = absurd (cc (hd refl))
  some_five None None None None None (suc (suc (suc (suc zero)))) l ha hb hc hd he = absurd (cc (he refl))
  some_five None None None None None (suc (suc (suc (suc (suc x))))) l ha hb hc hd he = absurd (omega (arith, l))

  some_of_reads : n ≤ 5 → s < n → has_read (r.reads s) ≡ true → some_read (r.reads 0 ∷ r.reads 1 ∷ r.reads 2 ∷ r.reads 3 ∷ r.reads 4 ∷ []) ≡ true
  some_of_reads few l h = some_five (r.reads 0) (r.reads 1) (r.reads 2) (r.reads 3) (r.reads 4) s (omega (arith, l, few)) at at at at at
    where
      at : {x : ℕ} → s ≡ x → has_read (r.reads x) ≡ true
      at {x} e = subst (λ (y : ℕ). has_read (r.reads y) ≡ true) e h

  mend_ok : n ≤ 5 → s < n → (kind : Kind) (part : HealPart) (b : ℕ) → r.part ≡ part → OfKind kind part → good n keeps kind r.first_views s ≡ true → (reads_at n keeps r s kind part s ≡ true → has_read (r.reads s) ≡ true) → mends_at keeps r s kind part b ≡ true
      → onward n keeps r s g.0 kind ≡ true → pres_over n keeps r s ≡ true → turn n keeps r s Mends b ≡ true → may_heal n keeps r s b (Mend (repair_in r s g kind part)) ≡ true
  mend_ok few l Bytes Opening b e of is noted set o p t = let opening : is_opening r.part ≡ true = rw e refl in pair _ _ (pair _ _ (pair _ _ (pair _ _ o opening) (same_self (len_of (r.first_views s)))) p) t
  mend_ok few l Bytes Piece b e of is noted set o p t =
      let later : not (is_opening r.part) ≡ true = rw e refl in
      pair _ _ (pair _ _ (pair _ _ (pair _ _ (pair _ _ (pair _ _ o later) (same_self r.upto)) refl) (read_same (r.reads s) (noted (same_self s)))) p) t
  mend_ok few l Bytes Finish b e of is noted set o p t = absurd (cc set)
  mend_ok few l Attrs Opening b e of is noted set o p t = pair _ _ (pair _ _ (pair _ _ o (read_same (r.reads s) (noted (same_self s)))) p) t
  mend_ok few l Attrs Piece b e of is noted set o p t = absurd of
  mend_ok few l Attrs Finish b e of is noted set o p t = absurd of
  mend_ok few l Names Opening b e of is noted set o p t =
      let same : same_reads r.reads 0 (r.reads 0 ∷ r.reads 1 ∷ r.reads 2 ∷ r.reads 3 ∷ r.reads 4 ∷ []) ≡ true = pair _ _ (reads_same (r.reads 0)) (pair _ _ (reads_same (r.reads 1)) (pair _ _ (reads_same (r.reads 2)) (pair _ _ (reads_same (r.reads 3)) (pair _ _ (reads_same (r.reads 4)) refl)))) in
      pair _ _ (pair _ _ (pair _ _ (pair _ _ o same) (some_of_reads few l (noted is))) p) t
  mend_ok few l Names Piece b e of is noted set o p t = absurd of
  mend_ok few l Names Finish b e of is noted set o p t = absurd of

  takes_ok : (kind : Kind) (b : ℕ) (view : Option View) → not (is_none view) ≡ true → takes n keeps r s b kind (less_by n keeps r s b kind (marks_in kind view)) view ≡ true
  takes_ok kind b None h = absurd (cc h)
  takes_ok kind b (Some view) h = pair _ _ (pair _ _ (at 4) (pair _ _ (at 3) (pair _ _ (at 2) (pair _ _ (at 1) (pair _ _ (at 0) refl))))) (same_self _)
    where
      at : (c : ℕ) → (pending_less n r s kind (view_marks view kind) c == pending_less n r s kind (view_marks view kind) c) ≡ true
      at c = same_self (pending_less n r s kind (view_marks view kind) c)

  settles_hold : (kind : Kind) (part : HealPart) (b : ℕ) → settles_at r kind part b ≡ true → holder r.first_views b ≡ true
  settles_hold Bytes Opening b h = absurd (cc h)
  settles_hold Bytes Piece b h = absurd (cc h)
  settles_hold Bytes Finish b h = h
  settles_hold Attrs part b h = h
  settles_hold Names part b h = h

  whole_ok : (kind : Kind) → is_whole (whole_area g.0 kind) g.0 ≡ true
  whole_ok Bytes = rw (same_area_self (whole_area g.0 Bytes)) refl
  whole_ok Attrs = rw (same_area_self (whole_area g.0 Attrs)) (or_true' (same_area (whole_area g.0 Bytes) (whole_area g.0 Attrs)))
    where
      or_true' : (x : Bool) → (x || true || same_area (whole_area g.0 Names) (whole_area g.0 Attrs)) ≡ true
      or_true' true = refl
      or_true' false = refl
  whole_ok Names = rw (same_area_self (whole_area g.0 Names)) (or_true (same_area (whole_area g.0 Bytes) (whole_area g.0 Names) || same_area (whole_area g.0 Attrs) (whole_area g.0 Names)))

  next_ok : (object : ℕ) → object ≡ g.0 → (f : Bool) (upto : ℕ) → (if f then same_area (piece_area object upto) (if f then piece_area g.0 upto else whole_area g.0 Bytes) else same_area (whole_area object Bytes) (if f then piece_area g.0 upto else whole_area g.0 Bytes)) ≡ true
  next_ok object e true upto = rw e (same_area_self (piece_area g.0 upto))
  next_ok object e false upto = rw e (same_area_self (whole_area g.0 Bytes))

-- ---- the stages up to the looks of a part: x is any copy that may be the source
module _ (n : ℕ) (keeps : ℕ → Kind → Bool) (r : Exact) (s : ℕ) (g : Gfid) (kind : Kind) where
  -- the Heal lock is of the heal's object
  pub heal_area_ok : IsBase g r → same_area (heal_area r.law.object) (heal_area g.0) ≡ true
  heal_area_ok k = rw k.is_object (same_area_self (heal_area g.0))

  -- a Heal lock
  pub heal_lock_ok : AtHeal n keeps r g → (x b : ℕ) → turn n keeps r s HealLocks b ≡ true → may_heal n keeps r x b (request_in n keeps r s g kind HealLocks b) ≡ true
  heal_lock_ok k x b t = let at : same_step r.step HealLocks ≡ true = rw k.step refl in pair _ _ (pair _ _ at t) (heal_area_ok k.base)

  -- the first Work lock
  pub first_lock_ok : AtHeal n keeps r g → passed n keeps r s HealLocks ≡ true → (x b : ℕ) → turn n keeps r s WorkLocks b ≡ true → may_heal n keeps r x b (request_in n keeps r s g kind WorkLocks b) ≡ true
  first_lock_ok k h x b t =
      let no_work : same_step r.step WorkLocks ≡ false = rw k.step refl in
      let at : same_step r.step HealLocks ≡ true = rw k.step refl in
      let low : nat_le (rank r.step) (rank HealLocks) ≡ true = rw k.step refl in
      let enough = enough_heal n keeps r s g kind k h in
      let of : is_whole (area_or r.law.area (whole_area g.0 kind)) r.law.object ≡ true = rw (k.no_area, k.base.is_object) (whole_ok n keeps r s g kind) in
      let lowest : is_lowest r.law.healing empty b ≡ true = rw (k.step, k.opening) at t in
      rw (no_work, at) (pair _ _ (pair _ _ (pair _ _ (pair _ _ low enough.0) enough.1) of) lowest)

  -- another Work lock of a part
  pub lock_ok : (x : ℕ) (area : Area) → r.step ≡ WorkLocks → r.law.area ≡ Some area → (b : ℕ) → turn n keeps r s WorkLocks b ≡ true → may_heal n keeps r x b (request_in n keeps r s g kind WorkLocks b) ≡ true
  lock_ok x area at is b t =
      let now : same_step r.step WorkLocks ≡ true = rw at refl in
      let lowest : is_lowest (locks_at r r.part) r.asked b ≡ true = rw at at t in
      rw now (pair _ _ (own_now r.law.area (whole_area g.0 kind) area is) lowest)

  -- all were asked their Work lock, and a majority granted it
  pub enough_work : AtWork n keeps r g kind → over n (locks_at r r.part) r.asked ≡ true → is_most n r.law.held ≡ true
  enough_work k h =
      let o : over n r.law.healing r.asked ≡ true = rw k.opening at h in
      let opening : is_opening r.part ≡ true = rw k.opening refl in
      go (is_opening r.part) (over n r.law.healing r.asked) (is_most n r.law.held) opening o k.going
    where
      go : (p o m : Bool) → p ≡ true → o ≡ true → (p && o && not m) ≡ false → m ≡ true
      go true true true p o h = refl
      go true true false p o h = absurd (cc h)
      go true false m p o h = absurd (cc o)
      go false o m p q h = absurd (cc p)

  -- a look of a part
  pub look_ok : (x : ℕ) → IsBase g r → r.step ≡ Looks → (b : ℕ) → turn n keeps r s Looks b ≡ true → may_heal n keeps r x b (request_in n keeps r s g kind Looks b) ≡ true
  look_ok x base at b t = let now : same_step r.step Looks ≡ true = rw at refl in pair _ _ (pair _ _ now t) (rw base.is_object (same_self g.0))

-- ---- the stages after the looks of a part, with s as the source
module _ (n : ℕ) (keeps : ℕ → Kind → Bool) (r : Exact) (s : ℕ) (g : Gfid) (kind : Kind) (few : n ≤ 5) (k : AfterLooks n keeps r s g kind) where
  -- the heal goes on with its source, on its object and kind
  pub is_onward : onward n keeps r s g.0 kind ≡ true
  is_onward = pair _ _ (pair _ _ (pair _ _ k.onwards k.looked) (rw k.base.is_object (same_self g.0))) (rw k.is_kind (same_kind_self kind))

  -- the source is a good copy of the first looks
  pub is_good : good n keeps kind r.first_views s ≡ true
  is_good = subst (λ (kind : Kind). good n keeps kind r.first_views s ≡ true) k.is_kind (both (good n keeps r.law.kind r.first_views s) _ k.onwards).0

  -- a read
  pub may_read : (b : ℕ) → b < n → turn n keeps r s Reads b ≡ true → may_heal n keeps r s b (request_in n keeps r s g kind Reads b) ≡ true
  may_read b l t = read_ok n keeps r s g kind b is_onward t

  -- a pre-op
  pub may_pre : reads_over n keeps r s ≡ true → (b : ℕ) → b < n → turn n keeps r s HealPres b ≡ true → may_heal n keeps r s b (request_in n keeps r s g kind HealPres b) ≡ true
  may_pre o b l t = pair _ _ (pair _ _ is_onward o) t

  -- the reads are over before the mends
  pub reads_passed : pres_over n keeps r s ≡ true → passed n keeps r s Reads ≡ true
  reads_passed o = (both (looks_over n keeps r s) (passed n keeps r s Reads) (both (reads_over n keeps r s) (passed n keeps r s HealPres) o).0).1

  -- a mend
  pub may_mends : pres_over n keeps r s ≡ true → (b : ℕ) → b < n → turn n keeps r s Mends b ≡ true → may_heal n keeps r s b (request_in n keeps r s g kind Mends b) ≡ true
  may_mends o b l t =
      mend_ok n keeps r s g few k.below kind r.part b refl k.of_kind is_good noted
      (subst (λ (kind : Kind). mends_at keeps r s kind r.part b ≡ true) k.is_kind (turn_set n keeps r s Mends b t)) is_onward o t
    where
      noted : reads_at n keeps r s kind r.part s ≡ true → has_read (r.reads s) ≡ true
      noted h =
          let set : set_of n keeps r s Reads s ≡ true = subst (λ (kind : Kind). reads_at n keeps r s kind r.part s ≡ true) (sym k.is_kind) h in
          k.noted s k.below set (passed_behind n keeps r s Reads (reads_passed o) s k.below set)

  -- a settling
  pub may_settles : mends_over n keeps r s ≡ true → (b : ℕ) → b < n → turn n keeps r s Settles b ≡ true → may_heal n keeps r s b (request_in n keeps r s g kind Settles b) ≡ true
  may_settles o b l t = pair _ _ (pair _ _ (pair _ _ is_onward o) t) (takes_ok n keeps r s g kind b (r.first_views b) (settles_hold n keeps r s g r.law.kind r.part b (turn_set n keeps r s Settles b t)))

  -- an unlock
  pub may_unlocks : settles_over n keeps r s ≡ true → (b : ℕ) → b < n → turn n keeps r s Unlocks b ≡ true → may_heal n keeps r s b (request_in n keeps r s g kind Unlocks b) ≡ true
  may_unlocks o b l t = pair _ _ (pair _ _ (pair _ _ k.onwards o) t) (own_now r.law.area (whole_area g.0 kind) k.area k.area_is)

  -- the first Work lock of the next part
  pub may_part : passed n keeps r s Unlocks ≡ true → has_part kind r.part ≡ true → (b : ℕ) → b < n → is_lowest r.first_reached (λ x. false) b ≡ true → may_heal n keeps r s b (lock_next r s g b) ≡ true
  may_part h p b l t =
      let at = at_unlocks n keeps r s g kind k h p in
      let no_work : same_step r.step WorkLocks ≡ false = rw at refl in
      let no_heal : same_step r.step HealLocks ≡ false = rw at refl in
      let unlocks : same_step r.step Unlocks ≡ true = rw at refl in
      let two = both (same_kind kind Bytes) (not (is_finish r.part)) p in
      let bytes : same_kind r.law.kind Bytes ≡ true = rw k.is_kind two.0 in
      let goes_on_there : after_unlocks n r (next_area r s g) s ≡ true = pair _ _ (pair _ _ (pair _ _ unlocks (deny _ (is_free n keeps r s g kind k h))) bytes) (next_ok n keeps r s g r.law.object k.base.is_object (nat_lt r.upto (len_of (r.first_views s))) r.upto) in
      rw (no_work, no_heal) (pair _ _ (pair _ _ goes_on_there two.1) t)

  -- a Heal unlock
  pub may_heals : settles_over n keeps r s ≡ true → passed n keeps r s Unlocks ≡ true → has_part kind r.part ≡ false → (b : ℕ) → b < n → turn n keeps r s HealUnlocks b ≡ true → may_heal n keeps r s b (request_in n keeps r s g kind HealUnlocks b) ≡ true
  may_heals o h p b l t =
      let last : has_part r.law.kind r.part ≡ false = rw k.is_kind p in
      pair _ _ (pair _ _ (pair _ _ (pair _ _ (pair _ _ k.onwards o) (deny _ (is_free n keeps r s g kind k h))) (deny _ last)) t) (heal_area_ok n keeps r s g kind k.base)

  -- the end
  pub may_end : passed n keeps r s Unlocks ≡ true → passed n keeps r s HealUnlocks ≡ true → may_end_heal n r ≡ true
  may_end h u =
      let last = last_step r.step (past_heal n keeps r s g kind k u) in
      pair _ _ (pair _ _ (deny _ (is_free n keeps r s g kind k h)) (deny _ (any_no n r.law.healing (not_healing n keeps r s g kind k u)))) (rw last (or_true r.broken))
    where
      last_step : (step : Step) → nat_lt (rank step) 13 ≡ false → same_step step HealUnlocks ≡ true
      last_step HealUnlocks h = refl
      last_step _ h = cc h

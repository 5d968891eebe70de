-- The test of a move outside a heal is true exactly where the discipline allows the move.
use Rattle.std.proofs.Common.{◌≡◌, ℕ, suc, ◌+◌, ◌^◌, ◌<◌, ◌≤◌, ◌&&◌, ◌||◌, not, ◌==◌, nat_le, nat_lt, Bool, true, false, List, refl, sym, ◌∙◌, ap, arith, Option, None, Some, ◌⊎◌, inl, inr, length}
use Rattle.std.proofs.lemmas.Bool.{eqb-true, and_parts, and_from, not-true, not_from_false, eq-eqb, leb-true, ltb-true, lt-ltb}
use Rattle.std.proofs.lemmas.Bool.Decides.{nat_tests}
use Rattle.afr_base.specs.Majority.{is_most}
use Rattle.afr_base.specs.Bricks.{member, minus, below, is_nothing, lowest}
use Rattle.afr_base.specs.SetLemmas.{below_all, lowest_left, none_left, within_below}
use Rattle.afr_base.specs.declared.ids.Kind.{Kind}
use Rattle.afr_base.specs.declared.ids.NameId.{NameId}
use Rattle.afr_object.specs.declared.change.Change.{Change}
use Rattle.afr_object.specs.declared.change.Change.TheVariants.{Write, Cut, SetAttr, Make, Remove}
use Rattle.afr_object.specs.declared.entry.View.{View}
use Rattle.afr_lines.specs.declared.lock.Domain.TheVariants.{Work, Heal}
use Rattle.afr_lines.specs.declared.request.Area.{Area}
use Rattle.afr_lines.specs.declared.request.Area.TheVariants.{Range, Name}
use Rattle.afr_lines.specs.declared.request.Request.{Request}
use Rattle.afr_lines.specs.declared.request.Request.TheVariants.{Lock, Unlock, Look, ReadBytes, ReadName, List as ListNames, ReadAttr, ReadAttrs, Index, Pre, Apply, Post, Mend, Settle}
use Rattle.afr_model_moves.specs.Sets.{any}
use Rattle.afr_model_moves.specs.Cells.{what_code}
use Rattle.afr_model_moves.specs.Honest.{plane_kind}
use Rattle.afr_model_moves.specs.Rules.{busy, fits_change, heal_area}
use Rattle.afr_model_moves.specs.Discipline.{MayAskExactly}
use Rattle.afr_model_moves.specs.Heal.{InHeal, Goes, Gives, MayHealEnd}
use Rattle.afr_model_moves.specs.Register.{Exact, Step, Untouched, Open, Pres, Applies, Posts, HealLocks, WorkLocks, Looks, Reads, HealPres, Mends, Settles, Unlocks, HealUnlocks, all, holder, kind_in, same_step}
use Rattle.afr_model_moves.specs.Transaction.{EndsLow, LiesIn, MayApply, MayBegin, MayEnd, MayOpen, MayPost, MayPre, Outside}
use Rattle.afr_discipline.specs.declared.register.Move.{Move}
use Rattle.afr_discipline.specs.declared.register.Move.TheVariants as move
use Rattle.afr_discipline.specs.Moves.{IffTrue, MayMove}
use Rattle.afr_discipline.specs.declared.register.Register.{Register}
use Rattle.afr_model_moves.specs.Keeps.{keeps_in}
use Rattle.afr_discipline.specs.Stands.{seen_as}
use Rattle.afr_discipline.proofs.StandsLemmas.{filled}
use Rattle.afr_discipline.specs.Tests.{ends_low, fits_view, has_name, is_heal_area, last_posted, lies_in, may_apply, may_ask_outside, may_begin, may_end, may_move_outside, may_open, may_post, may_pre, misses, once, plane_in, same_flag, suffices_by}
use Rattle.afr_discipline.proofs.Decides.{le_test, posted_yes, posted_no, work_yes, work_no, once_yes, once_no, suffices_yes, suffices_no, plane_yes, plane_no}
use Rattle.afr_model_moves.proofs.Tests.{all_yes, all_no, most_yes, most_no, some_number}

-- the change lies in the area
name_yes : (name : Option NameId) (m : NameId) → has_name name m ≡ true → (name ≡ None) ⊎ (name ≡ Some m)
name_yes None m h = inl refl
name_yes (Some k) m h = inr (ap (λ (i : ℕ). Some (record { 0 = i })) (eqb-true k.0 m.0 h))

name_no : (name : Option NameId) (m : NameId) → (name ≡ None) ⊎ (name ≡ Some m) → has_name name m ≡ true
name_no name m (inl e) = rw e refl
name_no name m (inr e) = rw e (eq-eqb m.0 m.0 refl)

lies_yes : (area : Option Area) (change : Change) → lies_in area change ≡ true → LiesIn area change
lies_yes None change h = absurd (cc h)
lies_yes (Some (Range g from to)) (Write k at bytes) h =
    let w = and_parts _ (nat_le to (2 ^ 63)) h in
    let v = and_parts _ (nat_le (at + length bytes) to) w.0 in
    let u = and_parts (g.0 == k.0) (nat_le from at) v.0 in
    (eqb-true g.0 k.0 u.0, leb-true from at u.1, leb-true (at + length bytes) to v.1, leb-true to (2 ^ 63) w.1)
lies_yes (Some (Range g from to)) (Cut k len) h =
    let w = and_parts _ (to == 2 ^ 63) h in
    let v = and_parts (g.0 == k.0) (nat_le from len) w.0 in
    (eqb-true g.0 k.0 v.0, leb-true from len v.1, eqb-true to (2 ^ 63) w.1)
lies_yes (Some (Range g from to)) (SetAttr k key value) h =
    let w = and_parts _ (to == 2 ^ 63 + 1) h in
    let v = and_parts (g.0 == k.0) (from == 2 ^ 63) w.0 in
    (eqb-true g.0 k.0 v.0, eqb-true from (2 ^ 63) v.1, eqb-true to (2 ^ 63 + 1) w.1)
lies_yes (Some (Range g from to)) (Make k m new what) h = absurd (cc h)
lies_yes (Some (Range g from to)) (Remove k m what) h = absurd (cc h)
lies_yes (Some (Name g name)) (Make k m new what) h = let w = and_parts (g.0 == k.0) (has_name name m) h in (eqb-true g.0 k.0 w.0, name_yes name m w.1)
lies_yes (Some (Name g name)) (Remove k m what) h = let w = and_parts (g.0 == k.0) (has_name name m) h in (eqb-true g.0 k.0 w.0, name_yes name m w.1)
lies_yes (Some (Name g name)) (Write k at bytes) h = absurd (cc h)
lies_yes (Some (Name g name)) (Cut k len) h = absurd (cc h)
lies_yes (Some (Name g name)) (SetAttr k key value) h = absurd (cc h)

lies_no : (area : Option Area) (change : Change) → LiesIn area change → lies_in area change ≡ true
lies_no None change h = absurd h
lies_no (Some (Range g from to)) (Write k at bytes) h =
    and_from _ (nat_le to (2 ^ 63)) (and_from _ (nat_le (at + length bytes) to) (and_from (g.0 == k.0) (nat_le from at) (eq-eqb g.0 k.0 h.0) (le_test from at h.1)) (le_test (at + length bytes) to h.2)) (le_test to (2 ^ 63) h.3)
lies_no (Some (Range g from to)) (Cut k len) h =
    and_from _ (to == 2 ^ 63) (and_from (g.0 == k.0) (nat_le from len) (eq-eqb g.0 k.0 h.0) (le_test from len h.1)) (eq-eqb to (2 ^ 63) h.2)
lies_no (Some (Range g from to)) (SetAttr k key value) h =
    and_from _ (to == 2 ^ 63 + 1) (and_from (g.0 == k.0) (from == 2 ^ 63) (eq-eqb g.0 k.0 h.0) (eq-eqb from (2 ^ 63) h.1)) (eq-eqb to (2 ^ 63 + 1) h.2)
lies_no (Some (Range g from to)) (Make k m new what) h = absurd h
lies_no (Some (Range g from to)) (Remove k m what) h = absurd h
lies_no (Some (Name g name)) (Make k m new what) h = and_from (g.0 == k.0) (has_name name m) (eq-eqb g.0 k.0 h.0) (name_no name m h.1)
lies_no (Some (Name g name)) (Remove k m what) h = and_from (g.0 == k.0) (has_name name m) (eq-eqb g.0 k.0 h.0) (name_no name m h.1)
lies_no (Some (Name g name)) (Write k at bytes) h = absurd h
lies_no (Some (Name g name)) (Cut k len) h = absurd h
lies_no (Some (Name g name)) (SetAttr k key value) h = absurd h

low_yes : (change : Change) → ends_low change ≡ true → EndsLow change
low_yes (Write k at bytes) h = leb-true (at + length bytes) 1048576 h
low_yes (Cut k len) h = tt
low_yes (SetAttr k key value) h = tt
low_yes (Make k m new what) h = tt
low_yes (Remove k m what) h = tt

low_no : (change : Change) → EndsLow change → ends_low change ≡ true
low_no (Write k at bytes) h = le_test (at + length bytes) 1048576 h
low_no (Cut k len) h = refl
low_no (SetAttr k key value) h = refl
low_no (Make k m new what) h = refl
low_no (Remove k m what) h = refl

fit_no : (shown : Option View) (change : Change) → ((view : View) → shown ≡ Some view → fits_change (what_code view.what) change ≡ true) → fits_view shown change ≡ true
fit_no None change h = refl
fit_no (Some view) change h = h view refl

fit_yes : (shown : Option View) (change : Change) (view : View) → fits_view shown change ≡ true → shown ≡ Some view → fits_change (what_code view.what) change ≡ true
fit_yes shown change view h e = let k : fits_view (Some view) change ≡ true = rw e at h in k

begin_yes : (n : ℕ) (keeps : ℕ → Kind → Bool) (r : Exact) (change : Change) → r.law.heal ≡ false → may_begin n keeps r change ≡ true → MayBegin n keeps r change
begin_yes n keeps r change out h =
    let a = and_parts _ (suffices_by n keeps (plane_kind change) r.views (holder r.views)) h in
    let b = and_parts _ (is_most n r.reached) a.0 in
    let c = and_parts _ (all n (λ x. fits_view (r.views x) change)) b.0 in
    let d = and_parts _ (ends_low change) c.0 in
    let e = and_parts _ (lies_in r.law.area change) d.0 in
    let f = and_parts (r.law.number == 0) (not r.unlocked) e.0 in
    record {
      outside = out;
      first = eqb-true r.law.number 0 f.0;
      open_still = not-true r.unlocked f.1;
      lies = lies_yes r.law.area change e.1;
      low = low_yes change d.1;
      fits = λ x view l shown. fit_yes (r.views x) change view (all_yes n (λ x. fits_view (r.views x) change) c.1 x l) shown;
      reached = most_yes n r.reached b.1;
      holders = suffices_yes n keeps (plane_kind change) r.views (holder r.views) a.1;
    }

begin_no : (n : ℕ) (keeps : ℕ → Kind → Bool) (r : Exact) (change : Change) → MayBegin n keeps r change → may_begin n keeps r change ≡ true
begin_no n keeps r change m =
    and_from _ (suffices_by n keeps (plane_kind change) r.views (holder r.views))
    (and_from _ (is_most n r.reached)
    (and_from _ (all n (λ x. fits_view (r.views x) change))
    (and_from _ (ends_low change)
    (and_from _ (lies_in r.law.area change) (and_from (r.law.number == 0) (not r.unlocked) (eq-eqb r.law.number 0 m.first) (not_from_false r.unlocked m.open_still)) (lies_no r.law.area change m.lies))
    (low_no change m.low))
    (all_no n (λ x. fits_view (r.views x) change) (λ x l. fit_no (r.views x) change (λ view shown. m.fits x view l shown))))
    (most_no n r.reached m.reached))
    (suffices_no n keeps (plane_kind change) r.views (holder r.views) m.holders)

not_zero : (k : ℕ) → not (k == 0) ≡ true → k ≡ 0 → ⊥
not_zero k h e = let w : not (0 == 0) ≡ true = rw e at h in absurd (cc w)

pre_yes : (n : ℕ) (r : Exact) (b g : ℕ) (kind : Kind) → r.law.heal ≡ false → may_pre r b g kind ≡ true → MayPre n r b g kind
pre_yes n r b g kind out h =
    let x = and_parts _ (once r Pres b) h in
    let y = and_parts _ (holder r.views b) x.0 in
    let z = and_parts (not (r.law.number == 0)) (plane_in r.law.area g kind) y.0 in
    record { outside = out; begun_already = not_zero r.law.number z.0; plane = plane_yes r.law.area g kind z.1; holds = y.1; turn = once_yes r Pres b x.1 }

pre_no : (n : ℕ) (r : Exact) (b g : ℕ) (kind : Kind) → MayPre n r b g kind → may_pre r b g kind ≡ true
pre_no n r b g kind m =
    and_from _ (once r Pres b) (and_from _ (holder r.views b) (and_from (not (r.law.number == 0)) (plane_in r.law.area g kind) (some_number r.law.number m.begun_already) (plane_no r.law.area g kind m.plane)) m.holds) (once_no r Pres b m.turn)

apply_yes : (n : ℕ) (keeps : ℕ → Kind → Bool) (r : Exact) (b q : ℕ) → r.law.heal ≡ false → may_apply n keeps r b q ≡ true → MayApply n keeps r b q
apply_yes n keeps r b q out h =
    let x = and_parts _ (once r Applies b) h in
    let y = and_parts _ (suffices_by n keeps (kind_in r.law.area) r.views r.law.pre) x.0 in
    let z = and_parts (r.law.number == suc q) (r.law.pre b) y.0 in
    record { outside = out; own = eqb-true r.law.number (suc q) z.0; ready = z.1; enough = suffices_yes n keeps (kind_in r.law.area) r.views r.law.pre y.1; turn = once_yes r Applies b x.1 }

apply_no : (n : ℕ) (keeps : ℕ → Kind → Bool) (r : Exact) (b q : ℕ) → MayApply n keeps r b q → may_apply n keeps r b q ≡ true
apply_no n keeps r b q m =
    and_from _ (once r Applies b)
    (and_from _ (suffices_by n keeps (kind_in r.law.area) r.views r.law.pre) (and_from (r.law.number == suc q) (r.law.pre b) (eq-eqb r.law.number (suc q) m.own) m.ready) (suffices_no n keeps (kind_in r.law.area) r.views r.law.pre m.enough))
    (once_no r Applies b m.turn)

same_flag_yes : (x y : Bool) → same_flag x y ≡ true → x ≡ y
same_flag_yes true y h = sym h
same_flag_yes false true h = absurd (cc h)
same_flag_yes false false h = refl

pub same_flag_no : (x y : Bool) → x ≡ y → same_flag x y ≡ true
same_flag_no true y h = sym h
same_flag_no false true h = absurd (cc h)
same_flag_no false false h = refl

misses_yes : (n : ℕ) (done : ℕ → Bool) (missed : List ℕ) → n ≤ 5 → misses n done missed ≡ true → (c : ℕ) → member missed c ≡ (nat_lt c n && not (done c))
misses_yes n done missed few h c =
    let w = and_parts (is_nothing (minus missed (below 5))) (all 5 (λ c. same_flag (member missed c) (nat_lt c n && not (done c)))) h in
    elim (cases c) [
      | inl small ↦ same_flag_yes (member missed c) (nat_lt c n && not (done c)) (all_yes 5 (λ c. same_flag (member missed c) (nat_lt c n && not (done c))) w.1 c small)
      | inr large ↦ beyond (member missed c) refl w.0 (λ l. absurd (omega (arith, l, large))) (nat_lt c n) (over c large)
    ]
  where
    cases : (c : ℕ) → (c < 5) ⊎ (5 ≤ c)
    cases c = grind arith

    over : (c : ℕ) → 5 ≤ c → nat_lt c n ≡ false
    over c l = grind (arith, nat_tests, few)

    beyond : (x : Bool) → member missed c ≡ x → is_nothing (minus missed (below 5)) ≡ true → (c < 5 → ⊥) → (y : Bool) → y ≡ false → x ≡ (y && not (done c))
    beyond false e none apart y f = rw f refl
    beyond true e none apart true f = absurd (cc f)
    beyond true e none apart false f = absurd (apart (within_below 5 c (none_left missed (below 5) none c e)))

misses_no : (n : ℕ) (done : ℕ → Bool) (missed : List ℕ) → n ≤ 5 → ((c : ℕ) → member missed c ≡ (nat_lt c n && not (done c))) → misses n done missed ≡ true
misses_no n done missed few h =
    and_from (is_nothing (minus missed (below 5))) (all 5 (λ c. same_flag (member missed c) (nat_lt c n && not (done c))))
    (none (is_nothing (minus missed (below 5))) refl)
    (all_no 5 (λ c. same_flag (member missed c) (nat_lt c n && not (done c))) (λ c l. same_flag_no (member missed c) (nat_lt c n && not (done c)) (h c)))
  where
    none : (x : Bool) → is_nothing (minus missed (below 5)) ≡ x → x ≡ true
    none true e = refl
    none false e =
        let w = lowest_left missed (below 5) e in
        let c : ℕ = lowest (minus missed (below 5)) in
        let k : (nat_lt c n && not (done c)) ≡ true = sym (h c) ∙ w.1 in
        let l : c < n = ltb-true c n (and_parts (nat_lt c n) (not (done c)) k).0 in
        let m : member (below 5) c ≡ true = below_all 5 c (omega arith) (omega (arith, l, few)) in
        absurd (cc (w.0, m))

post_yes : (n : ℕ) (keeps : ℕ → Kind → Bool) (r : Exact) (b q g : ℕ) (kind : Kind) (missed : List ℕ) → n ≤ 5 → r.law.heal ≡ false → may_post n keeps r b q g kind missed ≡ true → MayPost n keeps r b q g kind (member missed)
post_yes n keeps r b q g kind missed few out h =
    let u = and_parts _ (misses n r.law.done missed) h in
    let v = and_parts _ (once r Posts b) u.0 in
    let x = and_parts _ (suffices_by n keeps kind r.views r.law.done) v.0 in
    let y = and_parts _ (r.law.done b) x.0 in
    let z = and_parts (r.law.number == suc q) (plane_in r.law.area g kind) y.0 in
    record {
      outside = out;
      own = eqb-true r.law.number (suc q) z.0;
      plane = plane_yes r.law.area g kind z.1;
      ready = y.1;
      enough = suffices_yes n keeps kind r.views r.law.done x.1;
      exact = misses_yes n r.law.done missed few u.1;
      turn = once_yes r Posts b v.1;
    }

post_no : (n : ℕ) (keeps : ℕ → Kind → Bool) (r : Exact) (b q g : ℕ) (kind : Kind) (missed : List ℕ) → n ≤ 5 → MayPost n keeps r b q g kind (member missed) → may_post n keeps r b q g kind missed ≡ true
post_no n keeps r b q g kind missed few m =
    and_from _ (misses n r.law.done missed)
    (and_from _ (once r Posts b)
    (and_from _ (suffices_by n keeps kind r.views r.law.done)
    (and_from _ (r.law.done b) (and_from (r.law.number == suc q) (plane_in r.law.area g kind) (eq-eqb r.law.number (suc q) m.own) (plane_no r.law.area g kind m.plane)) m.ready)
    (suffices_no n keeps kind r.views r.law.done m.enough))
    (once_no r Posts b m.turn))
    (misses_no n r.law.done missed few m.exact)

first_yes : (s : Step) → same_step s Untouched ≡ true → s ≡ Untouched
first_yes Untouched h = refl
first_yes Open h = absurd (cc h)
first_yes Pres h = absurd (cc h)
first_yes Applies h = absurd (cc h)
first_yes Posts h = absurd (cc h)
first_yes HealLocks h = absurd (cc h)
first_yes WorkLocks h = absurd (cc h)
first_yes Looks h = absurd (cc h)
first_yes Reads h = absurd (cc h)
first_yes HealPres h = absurd (cc h)
first_yes Mends h = absurd (cc h)
first_yes Settles h = absurd (cc h)
first_yes Unlocks h = absurd (cc h)
first_yes HealUnlocks h = absurd (cc h)

heal_area_yes : (area : Area) → is_heal_area area ≡ true → (g : ℕ) × (area ≡ heal_area g)
heal_area_yes (Name g name) h = absurd (cc h)
heal_area_yes (Range g from to) h =
    let w = and_parts (from == 0) (to == 2 ^ 63) h in
    (g.0, ap (λ (i : ℕ). Range g i to) (eqb-true from 0 w.0) ∙ ap (λ (i : ℕ). Range g 0 i) (eqb-true to (2 ^ 63) w.1))

open_yes : (r : Exact) (b : ℕ) (area : Area) → may_open r b area ≡ true → MayOpen r b area
open_yes r b area h =
    let w = and_parts _ (is_heal_area area) h in
    let v = and_parts (same_step r.step Untouched) (b == 0) w.0 in
    let a = heal_area_yes area w.1 in
    record { first = first_yes r.step v.0; lowest = eqb-true b 0 v.1; g = a.0; range = a.1 }

open_no : (r : Exact) (b : ℕ) (area : Area) → MayOpen r b area → may_open r b area ≡ true
open_no r b area m = rw (m.first, m.lowest, m.range) refl

ask_yes : (n : ℕ) (keeps : ℕ → Kind → Bool) (r : Exact) (b : ℕ) (request : Request) → n ≤ 5 → r.law.heal ≡ false → may_ask_outside n keeps r b request ≡ true → Outside n keeps r b request
ask_yes n keeps r b (Lock Work area) few out h = work_yes n r area out h
ask_yes n keeps r b (Lock Heal area) few out h = open_yes r b area h
ask_yes n keeps r b (Pre g kind) few out h = pre_yes n r b g.0 kind out h
ask_yes n keeps r b (Apply q) few out h = apply_yes n keeps r b q out h
ask_yes n keeps r b (Post q g kind missed) few out h = post_yes n keeps r b q g.0 kind missed few out h
ask_yes n keeps r b (Mend repair) few out h = absurd (cc h)
ask_yes n keeps r b (Settle g kind ltb-true) few out h = absurd (cc h)
ask_yes n keeps r b (Unlock domain area) few out h = tt
ask_yes n keeps r b (Look g) few out h = tt
ask_yes n keeps r b (ReadBytes g at len) few out h = tt
ask_yes n keeps r b (ReadName g name) few out h = tt
ask_yes n keeps r b (ListNames g) few out h = tt
ask_yes n keeps r b (ReadAttr g key) few out h = tt
ask_yes n keeps r b (ReadAttrs g) few out h = tt
ask_yes n keeps r b Index few out h = tt

ask_no : (n : ℕ) (keeps : ℕ → Kind → Bool) (r : Exact) (b : ℕ) (request : Request) → n ≤ 5 → Outside n keeps r b request → may_ask_outside n keeps r b request ≡ true
ask_no n keeps r b (Lock Work area) few m = work_no n r area m
ask_no n keeps r b (Lock Heal area) few m = open_no r b area m
ask_no n keeps r b (Pre g kind) few m = pre_no n r b g.0 kind m
ask_no n keeps r b (Apply q) few m = apply_no n keeps r b q m
ask_no n keeps r b (Post q g kind missed) few m = post_no n keeps r b q g.0 kind missed few m
ask_no n keeps r b (Mend repair) few m = absurd m
ask_no n keeps r b (Settle g kind ltb-true) few m = absurd m
ask_no n keeps r b (Unlock domain area) few m = refl
ask_no n keeps r b (Look g) few m = refl
ask_no n keeps r b (ReadBytes g at len) few m = refl
ask_no n keeps r b (ReadName g name) few m = refl
ask_no n keeps r b (ListNames g) few m = refl
ask_no n keeps r b (ReadAttr g key) few m = refl
ask_no n keeps r b (ReadAttrs g) few m = refl
ask_no n keeps r b Index few m = refl

in_no_heal : (n : ℕ) (keeps : ℕ → Kind → Bool) (r : Exact) (b : ℕ) (request : Request) → r.law.heal ≡ false → InHeal n keeps r b request → ⊥
in_no_heal n keeps r b request out (Goes m) = absurd (cc (out, m.inside))
in_no_heal n keeps r b request out (Gives inside broken unlock) = absurd (cc (out, inside))

asked_no : (n : ℕ) (keeps : ℕ → Kind → Bool) (r : Exact) (b : ℕ) (request : Request) → n ≤ 5 → r.law.heal ≡ false → MayAskExactly n keeps r b request → may_ask_outside n keeps r b request ≡ true
asked_no n keeps r b request few out (inl m) = ask_no n keeps r b request few m.1
asked_no n keeps r b request few out (inr m) = absurd (in_no_heal n keeps r b request out m)

end_yes : (n : ℕ) (r : Exact) (ok : Bool) → r.law.heal ≡ false → may_end n r ok ≡ true → MayEnd n r ok
end_yes n r ok out h =
    let x = and_parts _ (not ok || last_posted n r.law) h in
    let y = and_parts (not (busy n r.law)) (not (any n r.law.healing)) x.0 in
    record { outside = out; free = not-true (busy n r.law) y.0; healed = not-true (any n r.law.healing) y.1; posted = λ said. posted_yes n r.law (told ok (last_posted n r.law) x.1 said) }
  where
    told : (a b : Bool) → (not a || b) ≡ true → a ≡ true → b ≡ true
    told true b h k = h
    told false b h k = absurd (cc k)

end_no : (n : ℕ) (r : Exact) (ok : Bool) → MayEnd n r ok → may_end n r ok ≡ true
end_no n r ok m =
    and_from _ (not ok || last_posted n r.law) (and_from (not (busy n r.law)) (not (any n r.law.healing)) (not_from_false (busy n r.law) m.free) (not_from_false (any n r.law.healing) m.healed)) (told ok (last_posted n r.law) (λ said. posted_no n r.law (m.posted said)))
  where
    told : (a b : Bool) → (a ≡ true → b ≡ true) → (not a || b) ≡ true
    told true b h = h refl
    told false b h = refl

finished : (n : ℕ) (r : Exact) (ok : Bool) → r.law.heal ≡ false → MayEnd n r ok ⊎ MayHealEnd n r → may_end n r ok ≡ true
finished n r ok out (inl m) = end_no n r ok m
finished n r ok out (inr m) = absurd (cc (out, m.inside))

pub decided : (n : ℕ) (keeps : ℕ → Kind → Bool) (r : Exact) (step : Move) → n ≤ 5 → r.law.heal ≡ false → IffTrue (may_move_outside n keeps r step) (MayMove n keeps r step)
decided n keeps r (move.Ask b request) few out = record {
  yes = λ h. (let w = and_parts (nat_lt b.0 n) (may_ask_outside n keeps r b.0 request.now) h in (ltb-true b.0 n w.0, inl (out, ask_yes n keeps r b.0 request.now few out w.1)));
  complete = λ m. and_from (nat_lt b.0 n) (may_ask_outside n keeps r b.0 request.now) (lt-ltb b.0 n m.0) (asked_no n keeps r b.0 request.now few out m.1);
}
decided n keeps r (move.Begin change) few out = record { yes = λ h. begin_yes n keeps r change.now out h; complete = λ m. begin_no n keeps r change.now m }
decided n keeps r (move.HealBegin g kind) few out = record { yes = λ h. absurd (cc h); complete = λ m. absurd (cc (out, m.inside)) }
decided n keeps r (move.End ok) few out = record { yes = λ h. inl (end_yes n r ok out h); complete = λ m. finished n r ok out m }

-- what a work may ask outside a heal is told by the fields that the program has
pub asks_unseen : (p : Register) (r : Exact) (b : ℕ) (request : Request) → may_ask_outside p.shape.n (keeps_in p.shape) (filled p r) b request ≡ may_ask_outside p.shape.n (keeps_in p.shape) (seen_as p) b request
asks_unseen p r b (Lock Work area) = refl
asks_unseen p r b (Lock Heal area) = refl
asks_unseen p r b (Pre g kind) = refl
asks_unseen p r b (Apply q) = refl
asks_unseen p r b (Post q g kind missed) = refl
asks_unseen p r b (Mend repair) = refl
asks_unseen p r b (Settle g kind ltb-true) = refl
asks_unseen p r b _ = refl

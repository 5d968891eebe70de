-- The moves of a transaction are those of the weak discipline.
use Rattle.afr_base.specs.declared.ids.Kind.{Kind}
use Rattle.afr_base.specs.declared.ids.Kind.TheVariants.{Attrs, Bytes}
use Rattle.afr_model_moves.specs.Cells.{Attr, Byte, Cell, Entry, covers, is_name, touches}
use Rattle.afr_law.proofs.Discipline.Clear.{ClearOf}
use Rattle.afr_model_moves.specs.Register.{Exact, IsArea, PlaneIn, area_kind, holder, is_on}
use Rattle.afr_model_moves.specs.Honest.{plane_kind}
use Rattle.afr_model_moves.specs.Rules.{CoveredBy, PlaneIs, area_object}
use Rattle.afr_model_moves.specs.Lines.{ask_by, look_at}
use Rattle.afr_model_moves.specs.Past.{value, Log, object}
use Rattle.afr_model_moves.specs.Tally.{tally}
use Rattle.afr_lines.specs.declared.answer.Told.TheVariants.{Seen}
use Rattle.afr_lines.specs.declared.request.Area.{Area}
use Rattle.afr_lines.specs.declared.request.Area.TheVariants.{Name, Range}
use Rattle.afr_object.specs.declared.change.Change.{Change}
use Rattle.afr_object.specs.declared.change.Change.TheVariants.{Cut, Make, Remove, SetAttr, Write}
use Rattle.afr_object.specs.declared.entry.View.{View}
use Rattle.std.proofs.Common.{Bool, ap, arith, false, inl, inr, length, not, refl, subst, sym, true, true≢false, ℕ, ◌&&◌, ◌+◌, ◌<◌, ◌∙◌, ◌≡◌, ◌≤◌, ◌⊎◌}
use Rattle.std.proofs.lemmas.Bool.Decides.{nat_tests}
use Rattle.std.specs.Prelude.{None, Option, Some, if◌then◌else◌, nat_le, nat_lt, ◌==◌, ◌^◌}
use Rattle.afr_model_moves.specs.Rules as weak
use Rattle.afr_model_moves.specs.Transaction.{LiesIn, MayWork, MayBegin, MayPre, MayApply, MayPost}

-- a change that lies in an area touches only what the area covers
abbrev pub Within : Area → Change → Type 0
Within area change = (cell : Cell) → touches change cell ≡ true → covers area cell ≡ true

lies_within : (area : Area) (change : Change) → LiesIn (Some area) change → Within area change
unfolding touches covers
lies_within (Range g from to) (Write h at bytes) lies (Byte o i) e = (let p = lies.0 in let q = lies.1 in let s = lies.2 in grind (arith, nat_tests))
lies_within (Range g from to) (Cut h len) lies (Byte o i) e = (let p = lies.0 in let q = lies.1 in let s = lies.2 in grind (arith, nat_tests))
lies_within (Range g from to) (SetAttr h key value) lies (Attr o k) e = (let p = lies.0 in let q = lies.1 in let s = lies.2 in grind (arith, nat_tests))
lies_within (Name g name) (Make h m new what) lies (Entry o k) e = named (lies.1) lies.0
  where
    named : (name ≡ None) ⊎ (name ≡ Some m) → g.0 ≡ h.0 → ((g.0 == o) && is_name name k) ≡ true
    named (inl none) p = rw none (grind (arith, nat_tests))
    named (inr some) p = rw some (grind (arith, nat_tests))
lies_within (Name g name) (Remove h m what) lies (Entry o k) e = named (lies.1) lies.0
  where
    named : (name ≡ None) ⊎ (name ≡ Some m) → g.0 ≡ h.0 → ((g.0 == o) && is_name name k) ≡ true
    named (inl none) p = rw none (grind (arith, nat_tests))
    named (inr some) p = rw some (grind (arith, nat_tests))
lies_within (Range g from to) (Make h m new what) lies cell e = absurd lies
lies_within (Range g from to) (Remove h m what) lies cell e = absurd lies
lies_within (Name g name) (Write h at bytes) lies cell e = absurd lies
lies_within (Name g name) (Cut h len) lies cell e = absurd lies
lies_within (Name g name) (SetAttr h key value) lies cell e = absurd lies
lies_within _ _ lies (Byte o i) e = cc
lies_within _ _ lies (Attr o i) e = cc
lies_within _ _ lies (Entry o i) e = cc

lies_covered : (area : Option Area) (change : Change) → LiesIn area change → CoveredBy area change
lies_covered None change lies = absurd lies
lies_covered (Some area) change lies = lies_within area change lies

-- and it is of the area's object and kind
pub lies_plane : (area : Area) (change : Change) → IsArea area → LiesIn (Some area) change → (object change ≡ area_object area) × (plane_kind change ≡ area_kind area)
lies_plane (Range g from to) (Write h at bytes) valid lies = (sym lies.0, sym (bytes_kind (nat_lt from (2 ^ 63)) (let p = lies.1 in let q = lies.2 in let s = lies.3 in let v = valid.0 in grind (arith, nat_tests))))
  where
    bytes_kind : (low : Bool) → low ≡ true → (if low then Bytes else Attrs) ≡ Bytes
    bytes_kind low e = rw e refl
lies_plane (Range g from to) (Cut h len) valid lies = (sym lies.0, sym (bytes_kind (nat_lt from (2 ^ 63)) (let p = lies.1 in let q = lies.2 in let v = valid.0 in grind (arith, nat_tests))))
  where
    bytes_kind : (low : Bool) → low ≡ true → (if low then Bytes else Attrs) ≡ Bytes
    bytes_kind low e = rw e refl
lies_plane (Range g from to) (SetAttr h key value) valid lies = (sym lies.0, sym (attrs_kind (nat_lt from (2 ^ 63)) (let p = lies.1 in grind (arith, nat_tests))))
  where
    attrs_kind : (low : Bool) → low ≡ false → (if low then Bytes else Attrs) ≡ Attrs
    attrs_kind low e = rw e refl
lies_plane (Name g name) (Make h m new what) valid lies = (sym lies.0, refl)
lies_plane (Name g name) (Remove h m what) valid lies = (sym lies.0, refl)
lies_plane (Range g from to) (Make h m new what) valid lies = absurd lies
lies_plane (Range g from to) (Remove h m what) valid lies = absurd lies
lies_plane (Name g name) (Write h at bytes) valid lies = absurd lies
lies_plane (Name g name) (Cut h len) valid lies = absurd lies
lies_plane (Name g name) (SetAttr h key value) valid lies = absurd lies

plane_both : (area : Option Area) (change : Change) (g : ℕ) (kind : Kind) → ((mine : Area) → area ≡ Some mine → IsArea mine) → LiesIn area change → PlaneIn area g kind → (object change ≡ g) × (plane_kind change ≡ kind)
plane_both None change g kind valid lies plane = absurd lies
plane_both (Some area) change g kind valid lies plane = (let w = lies_plane area change (valid area refl) lies in (w.0 ∙ sym plane.0, w.1 ∙ sym plane.1))

on_object : (area : Option Area) (change : Change) (g : ℕ) → ((mine : Area) → area ≡ Some mine → IsArea mine) → LiesIn area change → is_on area g ≡ true → object change ≡ g
on_object None change g valid lies on = absurd lies
on_object (Some area) change g valid lies on = (let w = lies_plane area change (valid area refl) lies in w.0 ∙ same (area_object area) on)
  where
    same : (o : ℕ) → (g == o) ≡ true → o ≡ g
    same o e = grind (arith, nat_tests)

pub held_view : (views : ℕ → Option View) (b : ℕ) → holder views b ≡ true → (view : View) × (views b ≡ Some view)
held_view views b h = go (views b) refl h
  where
    go : (v : Option View) → views b ≡ v → not (weak.is_none v) ≡ true → (view : View) × (views b ≡ Some view)
    go None e k = absurd (cc k)
    go (Some view) e k = (view, e)

-- an area has a cell of each object and kind that lies in it
lies_some : (area : Area) (change : Change) → IsArea area → LiesIn (Some area) change → weak.SomeCell (Some area) change
unfolding covers
lies_some (Range g from to) (Write h at bytes) valid lies = (Byte g.0 from, low valid.1 lies, lies.0, refl, here)
  where
    low : (to ≤ 2 ^ 63) ⊎ ((from ≡ 2 ^ 63) × (to ≡ 2 ^ 63 + 1)) → (g.0 ≡ h.0) × (from ≤ at) × (at + length bytes ≤ to) × (to ≤ 2 ^ 63) → nat_lt from (2 ^ 63) ≡ true
    low v w = (let p = valid.0 in let q = w.3 in grind (arith, nat_tests))

    here : ((g.0 == g.0) && nat_le from from && nat_lt from to) ≡ true
    here = (let p = valid.0 in grind (arith, nat_tests))
lies_some (Range g from to) (Cut h len) valid lies = (Byte g.0 from, low, lies.0, refl, here)
  where
    low : nat_lt from (2 ^ 63) ≡ true
    low = (let p = valid.0 in let q = lies.2 in grind (arith, nat_tests))

    here : ((g.0 == g.0) && nat_le from from && nat_lt from to) ≡ true
    here = (let p = valid.0 in grind (arith, nat_tests))
lies_some (Range g from to) (SetAttr h key value) valid lies = (Attr g.0 0, refl, lies.0, refl, here)
  where
    here : ((g.0 == g.0) && nat_le from (2 ^ 63) && nat_lt (2 ^ 63) to) ≡ true
    here = (let p = lies.1 in let q = lies.2 in grind (arith, nat_tests))
lies_some (Name g name) (Make h m new what) valid lies = (Entry g.0 m.0, refl, lies.0, refl, named lies.1)
  where
    named : (name ≡ None) ⊎ (name ≡ Some m) → ((g.0 == g.0) && is_name name m.0) ≡ true
    named (inl none) = rw none (grind (arith, nat_tests))
    named (inr some) = rw some (grind (arith, nat_tests))
lies_some (Name g name) (Remove h m what) valid lies = (Entry g.0 m.0, refl, lies.0, refl, named lies.1)
  where
    named : (name ≡ None) ⊎ (name ≡ Some m) → ((g.0 == g.0) && is_name name m.0) ≡ true
    named (inl none) = rw none (grind (arith, nat_tests))
    named (inr some) = rw some (grind (arith, nat_tests))
lies_some (Range g from to) (Make h m new what) valid lies = absurd lies
lies_some (Range g from to) (Remove h m what) valid lies = absurd lies
lies_some (Name g name) (Write h at bytes) valid lies = absurd lies
lies_some (Name g name) (Cut h len) valid lies = absurd lies
lies_some (Name g name) (SetAttr h key value) valid lies = absurd lies

lies_somewhere : (area : Option Area) (change : Change) → ((mine : Area) → area ≡ Some mine → IsArea mine) → LiesIn area change → weak.SomeCell area change
lies_somewhere None change valid lies = absurd lies
lies_somewhere (Some area) change valid lies = lies_some area change (valid area refl) lies

module _ (n : ℕ) (keeps : ℕ → Kind → Bool) (log : Log) (t a : ℕ) (r : Exact) (c : ClearOf n log t a r r.law) where
  -- each move of a transaction is one of the weak discipline
  pub weak_work : (area : Area) → MayWork n r area → weak.MayLock n r.law
  weak_work area may = record { first = λ e. inr (may.next e) }

  pub weak_begin : (change : Change) → MayBegin n keeps r change → weak.MayBegin r.law change
  weak_begin change may = record { outside = may.outside; first = may.first; within = lies_covered r.law.area change may.lies; some = lies_somewhere r.law.area change c.valid may.lies }

  pub weak_pre : (b g : ℕ) (kind : Kind) → b < n → MayPre n r b g kind → weak.MayPre log t a r.law b g kind
  weak_pre b g kind below may =
      let v = held_view r.views b may.holds in
      let l = c.looks b v.0 v.1 in
      record {
        begun_already = may.begun_already;
        holder = l.counted;
        open_still = c.open_still may.turn.open_still b;
        plane = λ q out e. (let w = c.begun q e in subst (λ l. PlaneIs l g kind) (sym w.is) (plane_both r.law.area w.change g kind c.valid w.lies may.plane));
        within = λ in_heal. absurd (true≢false (sym in_heal ∙ may.outside));
        fit = λ q out e. (
            let w = c.begun q e in
            record {
              change = w.change;
              is = w.is;
              fit = record {
                l = l.l;
                view = v.0;
                past = l.before q e;
                is = l.is ∙ ap (λ k. Some (ask_by a b (look_at k) (Seen v.0) true)) (sym (on_object r.law.area w.change l.g c.valid w.lies l.on));
                fit = w.fits b v.0 below v.1;
              };
            }
            );
      }

  pub weak_apply : (b q : ℕ) → MayApply n keeps r b q → weak.MayApply r.law b q
  weak_apply b q may = record { outside = may.outside; own = may.own; ready = may.ready; open_still = c.open_still may.turn.open_still b }

  pub weak_post : (b q g : ℕ) (kind : Kind) (missed : ℕ → Bool) → MayPost n keeps r b q g kind missed → (tally log t a).posts b ≡ false → weak.MayPost n log t a r.law b q g kind missed
  weak_post b q g kind missed may once =
      let w = c.begun q may.own in
      record {
        outside = may.outside;
        own = may.own;
        plane = subst (λ l. PlaneIs l g kind) (sym w.is) (plane_both r.law.area w.change g kind c.valid w.lies may.plane);
        ready = may.ready;
        open_still = c.open_still may.turn.open_still b;
        exact = λ x low. may.exact x ∙ below x low;
        once = once;
      }
    where
      below : (x : ℕ) → x < n → (nat_lt x n && not (r.law.done x)) ≡ not (r.law.done x)
      below x low = (let e : nat_lt x n ≡ true = grind (arith, nat_tests) in rw e refl)

-- What a register says of the locks of its actor, and what a request leaves of it.
use Rattle.afr_model_moves.proofs.AreaLemmas.{is_area_is}
use Rattle.std.specs.Prelude.{List as Seq, Option, Some, ◌==◌, if◌then◌else◌}
use Rattle.afr_lines.specs.Locks.{same_domain}
use Rattle.afr_lines.specs.Overlap.{same_area}
use Rattle.std.proofs.Common.{◌≡◌, ℕ, suc, ◌<◌, Bool, true, false, ◌&&◌, not, ◌⊎◌, inl, inr, refl, sym, ap, ◌∙◌, subst, arith, true≢false}
use Rattle.std.proofs.lemmas.Bool.Decides.{nat_tests}
use Rattle.afr_base.specs.declared.ids.Kind.{Kind}
use Rattle.afr_object.specs.declared.entry.View.{View}
use Rattle.afr_base.specs.declared.marks.Marks.{Marks}
use Rattle.afr_object.specs.declared.change.Repair.{Repair}
use Rattle.afr_lines.specs.declared.lock.Domain.{Domain}
use Rattle.afr_lines.specs.declared.lock.Domain.TheVariants.{Work, Heal}
use Rattle.afr_lines.specs.declared.request.Area.{Area}
use Rattle.afr_lines.specs.declared.request.Request.{Request}
use Rattle.afr_lines.specs.declared.request.Request.TheVariants.{Lock, Unlock, Look, Pre, Apply, Post, Mend, Settle}
use Rattle.afr_lines.specs.declared.answer.Told.{Told}
use Rattle.afr_lines.specs.declared.answer.Told.TheVariants.{Granted, Seen, Done}
use Rattle.afr_model_moves.specs.Sets.{with, without, empty}
use Rattle.afr_model_moves.specs.Past.{Log, held, unlocks, joined, is_gone}
use Rattle.afr_model_moves.specs.Rules.{Register, fresh, begun, is_area, looked, viewed, looking, put_view, is_none, unlocked, released, locking, granting, heal_area, heal_freed, area_object, mend_cells, note_ask, dropping, MayHealLock, busy, second_of, second_freed}
use Rattle.afr_law.proofs.Safety.Locks.{Grant, held_on}
use Rattle.afr_model_moves.specs.Lines.{ask_by, look_at, pre_on, post_on, settle_on}
use Rattle.std.proofs.lemmas.Bool.{ne_eqb}
use Rattle.afr_model_moves.proofs.Tests.{with_cases, with_false, no_number}

-- no lock of this domain is given up by the request
pub KeepsLocks : Domain → Request → Type 0
KeepsLocks domain request = (x y a b : ℕ) (area : Area) (told : Told) (took : Bool) → unlocks a b domain area (Some (ask_by x y request told took)) ≡ false

-- the requests of which a register notes nothing
abbrev pub Plain : Request → Type 0
Plain (Pre g kind) = ⊥
Plain (Apply q) = ⊥
Plain (Post q g kind missed) = ⊥
Plain (Mend repair) = ⊥
Plain (Settle g kind less) = ⊥
Plain _ = Unit {0}

-- what a request and its answer do to the register
pub data Noted (n : ℕ) (r : Register) (b : ℕ) (request : Request) (told : Told) (s : Register) : Type 0 where
  Grants : (area : Area) → request ≡ Lock Work area → told ≡ Granted → s ≡ granting n r area b → Noted n r b request told s
  Waits : (area : Area) → request ≡ Lock Work area → s ≡ locking n r area → Noted n r b request told s
  Frees : (area : Area) → request ≡ Unlock Work area → told ≡ Done → s ≡ released r area b → Noted n r b request told s
  Tries : (area : Area) → request ≡ Unlock Work area → (told ≡ Done → ⊥) → s ≡ unlocked r area b → Noted n r b request told s
  HealGrants : (area : Area) → request ≡ Lock Heal area → told ≡ Granted → s ≡ record r { heal = true; object = area_object area; healing = with r.healing b } → Noted n r b request told s
  HealWaits : (area : Area) → request ≡ Lock Heal area → s ≡ record r { heal = true; object = area_object area } → Noted n r b request told s
  HealFrees : (area : Area) → request ≡ Unlock Heal area → told ≡ Done → s ≡ record r { healing = heal_freed r area b } → Noted n r b request told s
  HealTries : (area : Area) → request ≡ Unlock Heal area → (told ≡ Done → ⊥) → s ≡ r → Noted n r b request told s
  Looks : (g : ℕ) (view : View) → request ≡ look_at g → told ≡ Seen view → s ≡ looking r b g view → Noted n r b request told s
  Pres : (g : ℕ) (kind : Kind) → request ≡ pre_on g kind → told ≡ Done → s ≡ record r { pre = with r.pre b; raised = with r.raised b } → Noted n r b request told s
  Applies : (q : ℕ) → request ≡ Apply q → told ≡ Done → s ≡ record r { done = with r.done b } → Noted n r b request told s
  Posts : (q g : ℕ) (kind : Kind) (missed : Seq ℕ) → request ≡ post_on q g kind missed → told ≡ Done → s ≡ record r { post = with r.post b } → Noted n r b request told s
  Mends : (repair : Repair) → request ≡ Mend repair → told ≡ Done → s ≡ record r { mended = mend_cells r.mended r.number b repair } → Noted n r b request told s
  Settles : (g : ℕ) (kind : Kind) (less : Marks) → request ≡ settle_on g kind less → told ≡ Done → s ≡ record r { settled = with r.settled b } → Noted n r b request told s
  Same : ((domain : Domain) → KeepsLocks domain request) → (told ≡ Done → Plain request) → s ≡ r → Noted n r b request told s

pub noted : (n : ℕ) (r : Register) (b : ℕ) (request : Request) (told : Told) → Noted n r b request told (note_ask n r b request told)
unfolding KeepsLocks
noted n r b (Lock Work area) Granted = Grants area refl refl refl
noted n r b (Lock Work area) _ = Waits area refl refl
noted n r b (Lock Heal area) Granted = HealGrants area refl refl refl
noted n r b (Lock Heal area) _ = HealWaits area refl refl
noted n r b (Unlock Work area) Done = Frees area refl refl refl
noted n r b (Unlock Work area) _ = Tries area refl (λ e. cc) refl
noted n r b (Unlock Heal area) Done = HealFrees area refl refl refl
noted n r b (Unlock Heal area) _ = HealTries area refl (λ e. cc) refl
noted n r b (Look g) (Seen view) = Looks g.0 view refl refl refl
noted n r b (Pre g kind) Done = Pres g.0 kind refl refl refl
noted n r b (Pre g kind) _ = Same (λ d x y a c area told took. refl) (λ e. absurd (cc e)) refl
noted n r b (Apply q) Done = Applies q refl refl refl
noted n r b (Apply q) _ = Same (λ d x y a c area told took. refl) (λ e. absurd (cc e)) refl
noted n r b (Post q g kind missed) Done = Posts q g.0 kind missed refl refl refl
noted n r b (Post q g kind missed) _ = Same (λ d x y a c area told took. refl) (λ e. absurd (cc e)) refl
noted n r b (Mend repair) Done = Mends repair refl refl refl
noted n r b (Mend repair) _ = Same (λ d x y a c area told took. refl) (λ e. absurd (cc e)) refl
noted n r b (Settle g kind less) Done = Settles g.0 kind less refl refl refl
noted n r b (Settle g kind less) _ = Same (λ d x y a c area told took. refl) (λ e. absurd (cc e)) refl
noted n r b _ _ = Same (λ d x y a c area told took. refl) (λ e. tt) refl

-- a lock of actor a on brick x, that the brick has as long as the session lasts
pub record HeldAt (log : Log) (t a x : ℕ) (domain : Domain) (start : ℕ) (area : Option Area) : Type 0 where
  pub p : ℕ
  pub mine : Area
  pub is : area ≡ Some mine
  pub grant : Grant log p a x domain mine
  pub past : p < t
  pub before : (h : ℕ) → start ≡ suc h → p < h
  pub on : joined log t a x ≡ true → held log t x p ≡ true

-- the lock that was held on a brick before the number was given
pub record SeenAt (log : Log) (t a x : ℕ) (area : Option Area) (number : ℕ) (closed : Bool) : Type 0 where
  pub p : ℕ
  pub mine : Area
  pub is : area ≡ Some mine
  pub grant : Grant log p a x Work mine
  pub past : p < t
  pub before : (q : ℕ) → number ≡ suc q → p < q
  pub on : closed ≡ false → joined log t a x ≡ true → held log t x p ≡ true

pub record Standing (log : Log) (t a : ℕ) (r : Register) : Type 0 where
  pub here : (x : ℕ) → r.held x ≡ true → HeldAt log t a x Work 0 r.area
  pub under : (x : ℕ) → r.seen x ≡ true → SeenAt log t a x r.area r.number (r.closed x)
  pub healing : (x : ℕ) → r.healing x ≡ true → HeldAt log t a x Heal r.start (Some (heal_area r.object))

pub standing_fresh : (log : Log) (t a : ℕ) → Standing log t a fresh
standing_fresh log t a = record { here = λ x h. cc; under = λ x h. cc; healing = λ x h. cc }

pub standing_begun : (log : Log) (t a : ℕ) (r : Register) (area : Area) → Standing log t a r → Standing log t a (begun r area)
standing_begun log t a r area s = record { here = λ x h. cc; under = λ x h. cc; healing = s.healing }

-- the line at t leaves the locks of the actor on brick x as they are, but for the end of a session
pub record Leaves (log : Log) (t a x : ℕ) (domain : Domain) (area : Option Area) : Type 0 where
  pub back : joined log (suc t) a x ≡ true → joined log t a x ≡ true
  pub still : (mine : Area) → area ≡ Some mine → unlocks a x domain mine (log t) ≡ false

pub held_next : (log : Log) (t a x : ℕ) (domain : Domain) (start : ℕ) (area : Option Area) → HeldAt log t a x domain start area → Leaves log t a x domain area → HeldAt log (suc t) a x domain start area
held_next log t a x domain start area h leaves = record {
  p = h.p;
  mine = h.mine;
  is = h.is;
  grant = h.grant;
  past = omega (arith, h.past);
  before = h.before;
  on = λ live. held_on log t a x h.p domain h.mine h.grant (h.on (leaves.back live)) live (leaves.still h.mine h.is);
}

pub seen_next : (log : Log) (t a x : ℕ) (area : Option Area) (number : ℕ) (closed : Bool) → SeenAt log t a x area number closed → Leaves log t a x Work area → SeenAt log (suc t) a x area number closed
seen_next log t a x area number closed h leaves = record {
  p = h.p;
  mine = h.mine;
  is = h.is;
  grant = h.grant;
  past = omega (arith, h.past);
  before = h.before;
  on = λ open_still live. held_on log t a x h.p Work h.mine h.grant (h.on open_still (leaves.back live)) live (leaves.still h.mine h.is);
}

pub standing_next : (log : Log) (t a : ℕ) (r : Register) → Standing log t a r → ((x : ℕ) → joined log (suc t) a x ≡ true → joined log t a x ≡ true) → ((x : ℕ) (domain : Domain) (mine : Area) → unlocks a x domain mine (log t) ≡ false) → Standing log (suc t) a r
standing_next log t a r s back still = record {
  here = λ x h. held_next log t a x Work 0 r.area (s.here x h) (record { back = back x; still = λ mine e. still x Work mine });
  under = λ x h. seen_next log t a x r.area r.number (r.closed x) (s.under x h) (record { back = back x; still = λ mine e. still x Work mine });
  healing = λ x h. held_next log t a x Heal r.start (Some (heal_area r.object)) (s.healing x h) (record { back = back x; still = λ mine e. still x Heal mine });
}

pub without_true : (set : ℕ → Bool) (b x : ℕ) → without set b x ≡ true → (x ≡ b → ⊥) × (set x ≡ true)
without_true set b x h = grind (arith, nat_tests)

pub standing_dropped : (log : Log) (t a b : ℕ) (gone : Bool) (r : Register) → Standing log t a r → Standing log t a (dropping gone b r)
standing_dropped log t a b false r s = s
standing_dropped log t a b true r s = record {
  here = λ x h. s.here x (without_true r.held b x h).1;
  under = s.under;
  healing = λ x h. s.healing x (without_true r.healing b x h).1;
}

pub standing_granted : (log : Log) (t a b : ℕ) (r : Register) → Standing log t a r → HeldAt log t a b Work 0 r.area → Standing log t a (record r { held = with r.held b })
standing_granted log t a b r s new = record {
  here = λ x h. elim (with_cases r.held b x h) [
    | inl is ↦ subst (λ y. HeldAt log t a y Work 0 r.area) (sym is) new
    | inr other ↦ s.here x other
  ];
  under = s.under;
  healing = s.healing;
}

pub standing_looked : (log : Log) (t a b : ℕ) (r : Register) → Standing log t a r → Standing log t a (looked r b)
standing_looked log t a b r s = go (r.number == 0) (r.held b) refl refl
  where
    go : (first mine : Bool) → (r.number == 0) ≡ first → r.held b ≡ mine → Standing log t a (if first && mine then record r { seen = with r.seen b } else r)
    go false mine e f = s
    go true false e f = s
    go true true e f = (
        let h = s.here b f in
        record {
          here = s.here;
          under = λ x k. elim (with_cases r.seen b x k) [
            | inl is ↦ subst (λ y. SeenAt log t a y r.area r.number (r.closed y)) (sym is) (record {
              p = h.p;
              mine = h.mine;
              is = h.is;
              grant = h.grant;
              past = h.past;
              before = λ q number. absurd (no_number r.number q e number);
              on = λ open_still live. h.on live;
            })
            | inr other ↦ s.under x other
          ];
          healing = s.healing;
        }
        )

pub standing_looking : (log : Log) (t a b g : ℕ) (view : View) (r : Register) → Standing log t a r → Standing log t a (looking r b g view)
standing_looking log t a b g view r s = go r.heal
  where
    see : (sure : Bool) (first : ℕ → Option View) → Standing log t a (if sure then record r { view = put_view r.view b view; first = first } else r)
    see true first = record { here = s.here; under = s.under; healing = s.healing }
    see false first = s

    go : (heal : Bool) → Standing log t a (if heal then viewed r b g view else looked r b)
    go true = see (not (r.number == 0) && r.seen b && not (r.closed b) && (g == r.object) && r.healing b && not (r.settled b)) (if (r.number == r.start) && is_none (r.first b) then put_view r.first b view else r.first)
    go false = standing_looked log t a b r s

-- a register on which the line at t has not been noted: it stands, or it is fresh
pub data Onward (log : Log) (t a : ℕ) (first : Bool) (r : Register) : Type 0 where
  Goes : Standing log t a r → ((x : ℕ) → joined log (suc t) a x ≡ true → joined log t a x ≡ true) → first ≡ false → Onward log t a first r
  New : r ≡ fresh → Onward log t a first r

pub onward : (log : Log) (t a : ℕ) (first : Bool) (r : Register) → Onward log t a first r → ((x : ℕ) (domain : Domain) (mine : Area) → unlocks a x domain mine (log t) ≡ false) → Standing log (suc t) a r
onward log t a first r (Goes s back old) still = standing_next log t a r s back still
onward log t a first r (New is) still = subst (Standing log (suc t) a) (sym is) (standing_fresh log (suc t) a)

-- what honesty says of an Unlock line
abbrev pub FairUnlock : Request → Told → Bool → Type 0
FairUnlock request told took = (domain : Domain) (area : Area) → request ≡ Unlock domain area → (told ≡ Done) ⊎ (is_gone told ≡ true) ⊎ (took ≡ false)

pub unlocks_at : (log : Log) (t a b x : ℕ) (domain other : Domain) (area mine : Area) (told : Told) (took : Bool) → log t ≡ Some (ask_by a b (Unlock other area) told took)
    → (same_area mine area ≡ false) ⊎ ((x ≡ b → ⊥) ⊎ (took ≡ false)) → unlocks a x domain mine (log t) ≡ false
unlocks_at log t a b x domain other area mine told took is why = rw is (elim why [
  | inl e ↦ part (same_domain domain other) (same_area mine area) (a == a) (b == x) took (inl e)
  | inr (inl e) ↦ part (same_domain domain other) (same_area mine area) (a == a) (b == x) took (inr (inl (ne_eqb b x (λ k. e (sym k)))))
  | inr (inr e) ↦ part (same_domain domain other) (same_area mine area) (a == a) (b == x) took (inr (inr e))
])
  where
    part : (d s m y k : Bool) → (s ≡ false) ⊎ ((y ≡ false) ⊎ (k ≡ false)) → (d && s && m && y && k) ≡ false
    part d s m y k (inl e) = grind arith
    part d s m y k (inr (inl e)) = grind arith
    part d s m y k (inr (inr e)) = grind arith

module _ (log : Log) (t a b : ℕ) (area : Area) (told : Told) (took first : Bool) (r : Register) (is : log t ≡ Some (ask_by a b (Unlock Work area) told took)) where
  heal_still : (x : ℕ) (mine : Area) → unlocks a x Heal mine (log t) ≡ false
  heal_still x mine = rw is refl

  other_area : (of : Option Area) (mine : Area) → is_area of area ≡ false → of ≡ Some mine → same_area mine area ≡ false
  other_area of mine e f = subst (λ o. is_area o area ≡ false) f e

  -- an Unlock line of another area
  unlock_other : Standing log t a r → ((x : ℕ) → joined log (suc t) a x ≡ true → joined log t a x ≡ true) → is_area r.area area ≡ false → Standing log (suc t) a r
  unlock_other s back e = record {
    here = λ x h. held_next log t a x Work 0 r.area (s.here x h) (record { back = back x; still = λ mine f. unlocks_at log t a b x Work Work area mine told took is (inl (other_area r.area mine e f)) });
    under = λ x h. seen_next log t a x r.area r.number (r.closed x) (s.under x h) (record { back = back x; still = λ mine f. unlocks_at log t a b x Work Work area mine told took is (inl (other_area r.area mine e f)) });
    healing = λ x h. held_next log t a x Heal r.start (Some (heal_area r.object)) (s.healing x h) (record { back = back x; still = λ mine f. heal_still x mine });
  }

  under_closed : Standing log t a r → ((x : ℕ) → joined log (suc t) a x ≡ true → joined log t a x ≡ true) → (x : ℕ) → r.seen x ≡ true → SeenAt log (suc t) a x r.area r.number (with r.closed b x)
  under_closed s back x h =
      let w = s.under x h in
      record {
        p = w.p;
        mine = w.mine;
        is = w.is;
        grant = w.grant;
        past = omega (arith, w.past);
        before = w.before;
        on = λ open_still live.
            let k = with_false r.closed b x open_still in
            held_on log t a x w.p Work w.mine w.grant (w.on k.1 (back x live)) live (unlocks_at log t a b x Work Work area w.mine told took is (inr (inl k.0)));
      }

  -- one of the area that is told Done, or that nothing came of
  unlock_own : Standing log t a r → ((x : ℕ) → joined log (suc t) a x ≡ true → joined log t a x ≡ true) → Standing log (suc t) a (record r { closed = with r.closed b; held = without r.held b })
  unlock_own s back = record {
    here = λ x h. held_next log t a x Work 0 r.area (s.here x (without_true r.held b x h).1) (record { back = back x; still = λ mine f. unlocks_at log t a b x Work Work area mine told took is (inr (inl (without_true r.held b x h).0)) });
    under = λ x h. under_closed s back x h;
    healing = λ x h. held_next log t a x Heal r.start (Some (heal_area r.object)) (s.healing x h) (record { back = back x; still = λ mine f. heal_still x mine });
  }

  unlock_refused : Standing log t a r → ((x : ℕ) → joined log (suc t) a x ≡ true → joined log t a x ≡ true) → took ≡ false → Standing log (suc t) a (record r { closed = with r.closed b })
  unlock_refused s back e = record {
    here = λ x h. held_next log t a x Work 0 r.area (s.here x h) (record { back = back x; still = λ mine f. unlocks_at log t a b x Work Work area mine told took is (inr (inr e)) });
    under = λ x h. under_closed s back x h;
    healing = λ x h. held_next log t a x Heal r.start (Some (heal_area r.object)) (s.healing x h) (record { back = back x; still = λ mine f. heal_still x mine });
  }

  pub standing_released : Onward log t a first r → Standing log (suc t) a (released r area b)
  standing_released (New e) = subst (λ q. Standing log (suc t) a (released q area b)) (sym e) (standing_fresh log (suc t) a)
  standing_released (Goes s back old) = go (is_area r.area area) refl
    where
      go : (same : Bool) → is_area r.area area ≡ same → Standing log (suc t) a (if same then record r { closed = with r.closed b; held = without r.held b } else record r { second_held = second_freed r area b })
      go false e = (let o = unlock_other s back e in record { here = o.here; under = o.under; healing = o.healing })
      go true e = unlock_own s back

  pub standing_tried : Onward log t a first r → (drop : Bool) → (drop ≡ true) ⊎ (took ≡ false) → Standing log (suc t) a (dropping drop b (unlocked r area b))
  standing_tried (New e) drop why = subst (λ q. Standing log (suc t) a (dropping drop b (unlocked q area b))) (sym e) (standing_dropped log (suc t) a b drop fresh (standing_fresh log (suc t) a))
  standing_tried (Goes s back old) drop why = go (is_area r.area area) refl drop why
    where
      go : (same : Bool) → is_area r.area area ≡ same → (drop : Bool) → (drop ≡ true) ⊎ (took ≡ false) → Standing log (suc t) a (dropping drop b (if same then record r { closed = with r.closed b } else r))
      go false e drop why = standing_dropped log (suc t) a b drop r (unlock_other s back e)
      go true e true why = (let o = unlock_own s back in record { here = o.here; under = o.under; healing = λ x h. o.healing x (without_true r.healing b x h).1 })
      go true e false (inl wrong) = absurd (cc wrong)
      go true e false (inr refused) = unlock_refused s back refused

-- an Unlock line of the Heal domain leaves the locks at the other bricks
heal_elsewhere : (log : Log) (t a b : ℕ) (area : Area) (told : Told) (took first : Bool) (r : Register) → log t ≡ Some (ask_by a b (Unlock Heal area) told took) → Onward log t a first r → Standing log (suc t) a (record r { healing = without r.healing b })
heal_elsewhere log t a b area told took first r is (New e) = subst (λ q. Standing log (suc t) a (record q { healing = without q.healing b })) (sym e) (record { here = λ x h. cc; under = λ x h. cc; healing = λ x h. absurd (true≢false (sym (without_true empty b x h).1)) })
heal_elsewhere log t a b area told took first r is (Goes s back old) = record {
  here = λ x h. held_next log t a x Work 0 r.area (s.here x h) (record { back = back x; still = λ mine f. rw is refl });
  under = λ x h. seen_next log t a x r.area r.number (r.closed x) (s.under x h) (record { back = back x; still = λ mine f. rw is refl });
  healing = λ x h. held_next log t a x Heal r.start (Some (heal_area r.object)) (s.healing x (without_true r.healing b x h).1) (record { back = back x; still = λ mine f. unlocks_at log t a b x Heal Heal area mine told took is (inr (inl (without_true r.healing b x h).0)) });
}

-- and one of another area all of them
heal_other : (log : Log) (t a b : ℕ) (area : Area) (told : Told) (took first : Bool) (r : Register) → log t ≡ Some (ask_by a b (Unlock Heal area) told took) → Onward log t a first r → same_area (heal_area r.object) area ≡ false → Standing log (suc t) a r
heal_other log t a b area told took first r is (New e) apart = subst (Standing log (suc t) a) (sym e) (standing_fresh log (suc t) a)
heal_other log t a b area told took first r is (Goes s back old) apart = record {
  here = λ x h. held_next log t a x Work 0 r.area (s.here x h) (record { back = back x; still = λ mine f. rw is refl });
  under = λ x h. seen_next log t a x r.area r.number (r.closed x) (s.under x h) (record { back = back x; still = λ mine f. rw is refl });
  healing = λ x h. held_next log t a x Heal r.start (Some (heal_area r.object)) (s.healing x h) (record { back = back x; still = λ mine f. unlocks_at log t a b x Heal Heal area mine told took is (inl (other mine f)) });
}
  where
    other : (mine : Area) → Some (heal_area r.object) ≡ Some mine → same_area mine area ≡ false
    other mine f = subst (λ (o : Option Area). is_area o area ≡ false) f apart

-- an Unlock line of the Heal domain that is told Done
pub standing_heal_freed : (log : Log) (t a b : ℕ) (area : Area) (told : Told) (took first : Bool) (r : Register) → log t ≡ Some (ask_by a b (Unlock Heal area) told took) → Onward log t a first r → Standing log (suc t) a (record r { healing = heal_freed r area b })
standing_heal_freed log t a b area told took first r is on = go (same_area (heal_area r.object) area) refl
  where
    go : (own : Bool) → same_area (heal_area r.object) area ≡ own → Standing log (suc t) a (record r { healing = if own then without r.healing b else r.healing })
    go true e = heal_elsewhere log t a b area told took first r is on
    go false e = (let o = heal_other log t a b area told took first r is on e in record { here = o.here; under = o.under; healing = o.healing })

pub standing_heal_tried : (log : Log) (t a b : ℕ) (area : Area) (told : Told) (took first : Bool) (r : Register) → log t ≡ Some (ask_by a b (Unlock Heal area) told took) → Onward log t a first r → (drop : Bool) → (drop ≡ true) ⊎ (took ≡ false) → Standing log (suc t) a (dropping drop b r)
standing_heal_tried log t a b area told took first r is on true why = (
    let o = heal_elsewhere log t a b area told took first r is on in
    record { here = λ x h. o.here x (without_true r.held b x h).1; under = o.under; healing = o.healing }
    )
standing_heal_tried log t a b area told took first r is on false (inl wrong) = absurd (cc wrong)
standing_heal_tried log t a b area told took first r is (New e) false (inr refused) = subst (Standing log (suc t) a) (sym e) (standing_fresh log (suc t) a)
standing_heal_tried log t a b area told took first r is (Goes s back old) false (inr refused) = record {
  here = λ x h. held_next log t a x Work 0 r.area (s.here x h) (record { back = back x; still = λ mine f. rw is refl });
  under = λ x h. seen_next log t a x r.area r.number (r.closed x) (s.under x h) (record { back = back x; still = λ mine f. rw is refl });
  healing = λ x h. held_next log t a x Heal r.start (Some (heal_area r.object)) (s.healing x h) (record { back = back x; still = λ mine f. unlocks_at log t a b x Heal Heal area mine told took is (inr (inr refused)) });
}

-- a Lock line of the transaction, or the first of a new one
pub standing_locking : (n : ℕ) (log : Log) (t a : ℕ) (area : Area) (r : Register) → Standing log t a r → Standing log t a (locking n r area)
standing_locking n log t a area r s = go (busy n r)
  where
    go : (some : Bool) → Standing log t a (if some then record r { second = second_of r area } else begun r area)
    go true = record { here = s.here; under = s.under; healing = s.healing }
    go false = standing_begun log t a r area s

pub locking_area : (n : ℕ) (area : Area) (r : Register) → (busy n r && not (is_area r.area area)) ≡ false → (locking n r area).area ≡ Some area
locking_area n area r e = go (busy n r) refl
  where
    mine : (x y : Bool) → (x && not y) ≡ false → x ≡ true → y ≡ true
    mine x y e f = grind arith

    go : (some : Bool) → busy n r ≡ some → (if some then record r { second = second_of r area } else begun r area).area ≡ Some area
    go true f = is_area_is r.area area (mine (busy n r) (is_area r.area area) e f)
    go false f = refl

-- a Heal Lock line
pub standing_heal_locking : (log : Log) (t a : ℕ) (first : Bool) (area : Area) (healing : ℕ → Bool) (r : Register) → Onward log t a first r → Standing log (suc t) a r → MayHealLock first r area
    → ((x : ℕ) → healing x ≡ true → (HeldAt log (suc t) a x Heal r.start (Some area)) ⊎ (r.healing x ≡ true)) → Standing log (suc t) a (record r { heal = true; object = area_object area; healing = healing })
standing_heal_locking log t a first area healing r on s may new = record {
  here = s.here;
  under = s.under;
  healing = λ x h. elim (new x h) [
    | inl w ↦ subst (λ (o : Area). HeldAt log (suc t) a x Heal r.start (Some o)) (sym (named may)) w
    | inr old ↦ subst (λ g. HeldAt log (suc t) a x Heal r.start (Some (heal_area g))) (same may on x old) (s.healing x old)
  ];
}
  where
    named : (m : MayHealLock first r area) → heal_area (area_object area) ≡ area
    named m = ap (λ (o : Area). heal_area (area_object o)) m.range ∙ sym m.range

    same : (m : MayHealLock first r area) → Onward log t a first r → (x : ℕ) → r.healing x ≡ true → r.object ≡ area_object area
    same m (New e) x h = absurd (true≢false (sym h ∙ ap (λ (q : Register). q.healing x) e))
    same m (Goes old back later) x h = elim m.place [ inl yes_first ↦ absurd (true≢false (sym yes_first ∙ later)) | inr w ↦ w.1 ∙ sym (ap area_object m.range) ]

pub keeps_all : (request : Request) → ((domain : Domain) → KeepsLocks domain request) → (log : Log) (t a b : ℕ) (told : Told) (took : Bool) → log t ≡ Some (ask_by a b request told took) → (x : ℕ) (domain : Domain) (mine : Area) → unlocks a x domain mine (log t) ≡ false
unfolding KeepsLocks
keeps_all request keeps log t a b told took is x domain mine = rw is (keeps domain a b a x mine told took)

pub lock_keeps : (d : Domain) (area : Area) (domain : Domain) → KeepsLocks domain (Lock d area)
unfolding KeepsLocks
lock_keeps d area domain x y a b mine told took = refl

pub look_keeps : (g : ℕ) (domain : Domain) → KeepsLocks domain (look_at g)
unfolding KeepsLocks
look_keeps g domain x y a b mine told took = refl

pub pre_keeps : (g : ℕ) (kind : Kind) (domain : Domain) → KeepsLocks domain (pre_on g kind)
unfolding KeepsLocks
pre_keeps g kind domain x y a b mine told took = refl

pub apply_keeps : (q : ℕ) (domain : Domain) → KeepsLocks domain (Apply q)
unfolding KeepsLocks
apply_keeps q domain x y a b mine told took = refl

pub post_keeps : (q g : ℕ) (kind : Kind) (missed : Seq ℕ) (domain : Domain) → KeepsLocks domain (post_on q g kind missed)
unfolding KeepsLocks
post_keeps q g kind missed domain x y a b mine told took = refl

pub mend_keeps : (repair : Repair) (domain : Domain) → KeepsLocks domain (Mend repair)
unfolding KeepsLocks
mend_keeps repair domain x y a b mine told took = refl

pub settle_keeps : (g : ℕ) (kind : Kind) (less : Marks) (domain : Domain) → KeepsLocks domain (settle_on g kind less)
unfolding KeepsLocks
settle_keeps g kind less domain x y a b mine told took = refl

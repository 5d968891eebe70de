-- An acknowledged attempt has Post lines told Done at a majority.
use Rattle.afr_lines.specs.declared.reply.Reply.{Reply}
use Rattle.afr_lines.specs.declared.fault.Fault.{Fault}
use Rattle.afr_base.specs.Majority.{IsMajority}
use Rattle.afr_lines.specs.Places.{Place, Fresh, Indexed, Between, Within, next_place}
use Rattle.std.proofs.Common.{◌≡◌, ℕ, zero, suc, ◌<◌, ◌≤◌, Bool, true, false, ◌&&◌, not, ◌⊎◌, inl, inr, refl, sym, ap, ◌∙◌, subst, arith, true≢false}
use Rattle.std.specs.Prelude.{Option, None, Some, ◌==◌, if◌then◌else◌, nat_lt}
use Rattle.std.proofs.lemmas.Bool.Decides.{nat_tests}
use Rattle.afr_base.specs.declared.ids.Kind.{Kind}
use Rattle.afr_object.specs.declared.entry.View.{View}
use Rattle.afr_object.specs.declared.change.Change.{Change}
use Rattle.afr_lines.specs.declared.lock.Domain.TheVariants.{Work, Heal}
use Rattle.afr_lines.specs.declared.request.Area.{Area}
use Rattle.afr_lines.specs.declared.request.Request.{Request}
use Rattle.afr_lines.specs.declared.request.Request.TheVariants.{Lock}
use Rattle.afr_lines.specs.declared.answer.Told.{Told}
use Rattle.afr_lines.specs.declared.line.Line.{Line}
use Rattle.afr_lines.specs.declared.line.Line.TheVariants.{End}
use Rattle.afr_model_moves.specs.Sets.{with, without}
use Rattle.afr_model_moves.specs.Past.{Beginning, Log, held, opens, place, is_of, is_gone}
use Rattle.afr_model_moves.specs.Honest.{Honest}
use Rattle.afr_model_moves.specs.Rules.{Register, fresh, MayBegin, MayHealEnd, LastPosted, begun, is_area, looked, viewed, put_view, is_none, locking, area_object, note_ask, dropping, note, in_force, register, MayAsk, MayLock, MayHealLock, MayHealBegin, Lawful, opened, present, busy, second_of, second_freed}
use Rattle.afr_law.specs.Safe.{end_of, or_else, outcome, Acknowledged}
use Rattle.afr_law.proofs.Safety.Standing.{Noted, noted, Grants, Waits, Frees, Tries, HealGrants, HealWaits, HealFrees, HealTries, Looks, Pres, Applies, Posts, Mends, Settles, Same}
use Rattle.afr_law.proofs.Safety.Registers.{MayOf, registers_at, Own, Asks, Begins, HealBegins, Ends, HealEnds}
use Rattle.afr_law.proofs.Safety.Numbers.{Recorded, Numbered, numbered_fresh, numbered_next, numbered_own, force_fresh, last_foreign}
use Rattle.afr_model_moves.specs.Lines.{ask_by, begin_by, heal_begin_by, end_by, heal_end_by, is_ok}
use Rattle.std.proofs.lemmas.Bool.{cases_lt}
use Rattle.afr_model_moves.proofs.Tests.{same_self}

-- Post lines at a majority
pub record Fixed (n : ℕ) (log : Log) (t a q : ℕ) : Type 0 where
  pub among : ℕ → Bool
  pub majority : IsMajority n among
  pub recorded : (x : ℕ) → among x ≡ true → Recorded log t a x q

fixed_next : (n : ℕ) (log : Log) (t a q : ℕ) → Fixed n log t a q → Fixed n log (suc t) a q
fixed_next n log t a q f = record {
  among = f.among;
  majority = f.majority;
  recorded = λ x h. (let w = f.recorded x h in record { p = w.p; g = w.g; kind = w.kind; missed = w.missed; is = w.is; past = omega (arith, w.past) });
}

-- an attempt is under way, or has no End line with Ok, or its Post lines
pub record Fate (n : ℕ) (log : Log) (t a : ℕ) (r : Register) : Type 0 where
  pub numbers : Numbered log t a r
  pub going : (q : ℕ) (change : Change) → log q ≡ Some (begin_by a change) → q < t → outcome log t a q ≡ None → (r.number ≡ suc q) ⊎ Fixed n log t a q
  pub gone : (q : ℕ) (change : Change) → log q ≡ Some (begin_by a change) → q < t → outcome log t a q ≡ Some true → Fixed n log t a q
  pub rests : (place log t a ≡ Within → ⊥) → (q : ℕ) (change : Change) → log q ≡ Some (begin_by a change) → q < t → outcome log t a q ≡ None → ⊥
  pub healing : r.heal ≡ true → (q : ℕ) (change : Change) → log q ≡ Some (begin_by a change) → q < t → outcome log t a q ≡ None → ⊥

-- the attempt of the register, where its Post lines are at a majority
own_fixed : (n : ℕ) (log : Log) (t a q : ℕ) (r : Register) → Numbered log t a r → LastPosted n r → r.number ≡ suc q → Fixed n log t a q
own_fixed n log t a q r s (inl none) e = absurd (omega (arith, none, e))
own_fixed n log t a q r s (inr most) e = record { among = r.post; majority = most; recorded = λ x h. s.posted q x e h }

outcome_next : (log : Log) (t a q : ℕ) → end_of a (log t) ≡ None → outcome log (suc t) a q ≡ outcome log t a q
unfolding outcome
outcome_next log t a q none = rw none (same (nat_lt q t) (outcome log t a q))
  where
    same : (b : Bool) (o : Option Bool) → or_else o (if b then None else None) ≡ o
    same true None = refl
    same false None = refl
    same b (Some ok) = refl

outcome_new : (log : Log) (t a q : ℕ) → t ≤ q → outcome log t a q ≡ None
unfolding outcome
outcome_new log zero a q h = refl
outcome_new log (suc t) a q h = rw (outcome_new log t a q (omega arith)) (let no : nat_lt q t ≡ false = grind (arith, nat_tests) in rw no refl)

end_foreign : (a : ℕ) (line : Option Line) → is_of a line ≡ false → end_of a line ≡ None
end_foreign a (Some (End x reply)) h = rw h refl
end_foreign a _ h = refl

pub place_foreign : (log : Log) (t a : ℕ) → is_of a (log t) ≡ false → place log (suc t) a ≡ place log t a
unfolding place
place_foreign log t a h = rw h refl

-- a line after which the register has the same number, and that is no End line
fate_next : (n : ℕ) (log : Log) (t a : ℕ) (r s : Register) → end_of a (log t) ≡ None → ((change : Change) → log t ≡ Some (begin_by a change) → ⊥) → Numbered log (suc t) a s
    → ((q : ℕ) → r.number ≡ suc q → (s.number ≡ suc q) ⊎ (r.heal ≡ true) ⊎ Fixed n log (suc t) a q) → ((place log (suc t) a ≡ Within → ⊥) → place log t a ≡ Within → ⊥)
    → (s.heal ≡ true → (r.heal ≡ true) ⊎ (place log t a ≡ Within → ⊥)) → Fate n log t a r → Fate n log (suc t) a s
fate_next n log t a r s none other numbers keeps place heal f = record {
  numbers = numbers;
  going = λ q change is past k. elim (f.going q change is (earlier q change is past) (sym (outcome_next log t a q none) ∙ k)) [
    | inl mine ↦ elim (keeps q mine) [
      | inl same ↦ inl same
      | inr (inl inside) ↦ absurd (f.healing inside q change is (earlier q change is past) (sym (outcome_next log t a q none) ∙ k))
      | inr (inr fixed) ↦ inr fixed
    ]
    | inr fixed ↦ inr (fixed_next n log t a q fixed)
  ];
  gone = λ q change is past k. fixed_next n log t a q (f.gone q change is (earlier q change is past) (sym (outcome_next log t a q none) ∙ k));
  rests = λ out q change is past k. f.rests (place out) q change is (earlier q change is past) (sym (outcome_next log t a q none) ∙ k);
  healing = λ inside q change is past k. elim (heal inside) [
    | inl was ↦ f.healing was q change is (earlier q change is past) (sym (outcome_next log t a q none) ∙ k)
    | inr out ↦ f.rests out q change is (earlier q change is past) (sym (outcome_next log t a q none) ∙ k)
  ];
}
  where
    earlier : (q : ℕ) (change : Change) → log q ≡ Some (begin_by a change) → q < suc t → q < t
    earlier q change is past = elim (cases_lt q t) [ inl fine ↦ fine | inr late ↦ absurd (let e : q ≡ t = omega arith in other change (sym (ap log e) ∙ is)) ]

-- what opens a work or a heal isn't within one
pub opens_out : (p : Place) (line : Option Line) → opens p line ≡ true → p ≡ Within → ⊥
unfolding opens
opens_out Fresh line e k = cc
opens_out Indexed line e k = cc
opens_out Between line e k = cc
opens_out Within line e k = true≢false (sym e)

-- the number after a request, and whether a heal is under way
record After (n : ℕ) (log : Log) (t a : ℕ) (r s : Register) : Type 0 where
  number : (s.number ≡ r.number) ⊎ (r.heal ≡ true) ⊎ LastPosted n r
  heal : s.heal ≡ true → (r.heal ≡ true) ⊎ (place log t a ≡ Within → ⊥)

after_request : (n : ℕ) (keeps : ℕ → Kind → Bool) (log : Log) (t a : ℕ) (r : Register) (b : ℕ) (request : Request) (told : Told) → MayAsk n keeps log t a (opened log t a) r b request → After n log t a r (note_ask n r b request told)
after_request n keeps log t a r b request told may = go (note_ask n r b request told) (noted n r b request told)
  where
    m : (other : Request) → request ≡ other → MayAsk n keeps log t a (opened log t a) r b other
    m other e = subst (MayAsk n keeps log t a (opened log t a) r b) e may

    put : (s l : Register) → s ≡ l → After n log t a r l → After n log t a r s
    put s l e k = subst (After n log t a r) (sym e) k

    still : (s : Register) → s.number ≡ r.number → s.heal ≡ r.heal → After n log t a r s
    still s p q = record { number = inl p; heal = λ h. inl (sym q ∙ h) }

    locked : (area : Area) → MayLock n r → (held : ℕ → Bool) → After n log t a r (record (locking n r area) { held = held })
    locked area k held = pick (busy n r) refl
      where
        pick : (some : Bool) → busy n r ≡ some → After n log t a r (record (if some then record r { second = second_of r area } else begun r area) { held = held })
        pick true e = record { number = inl refl; heal = λ h. inl h }
        pick false e = record { number = inr (k.first e); heal = λ h. inl h }

    healed : (area : Area) → MayHealLock (opened log t a) r area → (healing : ℕ → Bool) → After n log t a r (record r { heal = true; object = area_object area; healing = healing })
    healed area k healing = record {
      number = inl refl;
      heal = λ h. elim k.place [ inl first ↦ inr (opens_out (place log t a) (log t) first) | inr w ↦ inl w.0 ];
    }

    sees : (g : ℕ) (view : View) (heal : Bool) → After n log t a r (if heal then viewed r b g view else looked r b)
    sees g view true = pick (not (r.number == 0) && r.seen b && not (r.closed b) && (g == r.object) && r.healing b && not (r.settled b)) (if (r.number == r.start) && is_none (r.first b) then put_view r.first b view else r.first)
      where
        pick : (hit : Bool) (first : ℕ → Option View) → After n log t a r (if hit then record r { view = put_view r.view b view; first = first } else r)
        pick true first = record { number = inl refl; heal = λ h. inl h }
        pick false first = record { number = inl refl; heal = λ h. inl h }
    sees g view false = pick ((r.number == 0) && r.held b)
      where
        pick : (hit : Bool) → After n log t a r (if hit then record r { seen = with r.seen b } else r)
        pick true = record { number = inl refl; heal = λ h. inl h }
        pick false = record { number = inl refl; heal = λ h. inl h }

    freed : (area : Area) (hit : Bool) → After n log t a r (if hit then record r { closed = with r.closed b; held = without r.held b } else record r { second_held = second_freed r area b })
    freed area true = record { number = inl refl; heal = λ h. inl h }
    freed area false = record { number = inl refl; heal = λ h. inl h }

    tried : (hit : Bool) → After n log t a r (if hit then record r { closed = with r.closed b } else r)
    tried true = record { number = inl refl; heal = λ h. inl h }
    tried false = record { number = inl refl; heal = λ h. inl h }

    go : (s : Register) → Noted n r b request told s → After n log t a r s
    go s (Grants area what said e) = put s _ e (pick (busy n r && not (is_area r.area area)))
      where
        pick : (other : Bool) → After n log t a r (if other then record r { second = Some area; second_held = with r.second_held b } else (let k = locking n r area in record k { held = with k.held b }))
        pick true = record { number = inl refl; heal = λ h. inl h }
        pick false = locked area (m (Lock Work area) what) (with (locking n r area).held b)
    go s (Waits area what e) = put s _ e (locked area (m (Lock Work area) what) (locking n r area).held)
    go s (Frees area what said e) = put s _ e (freed area (is_area r.area area))
    go s (Tries area what other e) = put s _ e (tried (is_area r.area area))
    go s (HealGrants area what said e) = put s _ e (healed area (m (Lock Heal area) what) (with r.healing b))
    go s (HealWaits area what e) = put s _ e (healed area (m (Lock Heal area) what) r.healing)
    go s (HealFrees area what said e) = put s _ e (record { number = inl refl; heal = λ h. inl h })
    go s (HealTries area what other e) = put s _ e (record { number = inl refl; heal = λ h. inl h })
    go s (Looks g view what said e) = put s _ e (sees g view r.heal)
    go s (Pres g kind what said e) = put s _ e (record { number = inl refl; heal = λ h. inl h })
    go s (Applies q what said e) = put s _ e (record { number = inl refl; heal = λ h. inl h })
    go s (Posts q g kind missed what said e) = put s _ e (record { number = inl refl; heal = λ h. inl h })
    go s (Mends repair what said e) = put s _ e (record { number = inl refl; heal = λ h. inl h })
    go s (Settles g kind less what said e) = put s _ e (record { number = inl refl; heal = λ h. inl h })
    go s (Same keeps plain e) = put s _ e (record { number = inl refl; heal = λ h. inl h })

after_dropped : (n : ℕ) (log : Log) (t a : ℕ) (r s : Register) (gone : Bool) (b : ℕ) → After n log t a r s → After n log t a r (dropping gone b s)
after_dropped n log t a r s true b k = record { number = k.number; heal = k.heal }
after_dropped n log t a r s false b k = k

asked_within : (p : Place) (a b : ℕ) (request : Request) (told : Told) (took : Bool) → p ≡ Within → next_place p (ask_by a b request told took) ≡ Within
asked_within p a b request told took e = rw e refl

begun_place : (p : Place) (a : ℕ) (change : Change) → next_place p (begin_by a change) ≡ Within
begun_place Fresh a change = refl
begun_place Indexed a change = refl
begun_place Between a change = refl
begun_place Within a change = refl

outcome_end : (log : Log) (t a q : ℕ) (reply : Reply) → log t ≡ Some (end_by a reply) → q < t → outcome log (suc t) a q ≡ or_else (outcome log t a q) (Some (is_ok reply))
unfolding outcome
outcome_end log t a q reply is less =
    let yes : nat_lt q t ≡ true = grind (arith, nat_tests) in
    rw (is, same_self a, yes) refl

place_own : (log : Log) (t a : ℕ) (line : Line) → log t ≡ Some line → is_of a (Some line) ≡ true → place log (suc t) a ≡ next_place (place log t a) line
unfolding place
place_own log t a line is mine = rw (is, mine) refl

end_none : (log : Log) (t a : ℕ) (line : Line) → log t ≡ Some line → end_of a (Some line) ≡ None → end_of a (log t) ≡ None
end_none log t a line is e = rw is e

fate_fresh : (n : ℕ) (log : Log) (t a : ℕ) (r : Register) → (place log t a ≡ Within → ⊥) → Fate n log t a r → Fate n log t a fresh
fate_fresh n log t a r at f = record {
  numbers = numbered_fresh log t a;
  going = λ q change is past k. absurd (f.rests at q change is past k);
  gone = f.gone;
  rests = f.rests;
  healing = λ inside. absurd (cc inside);
}

module _ (n : ℕ) (keeps : ℕ → Kind → Bool) (files : Beginning) (faults : ℕ → ℕ → Option Fault) (log : Log) (honest : Honest files faults log) (lawful : Lawful n keeps log) where
  fate_own : (t a : ℕ) (r : Register) → (opened log t a ≡ true → r ≡ fresh) → Fate n log t a r → MayOf n keeps files faults log honest lawful t a (opened log t a) r (log t) → Own log t a → Fate n log (suc t) a (note n r t (log t))
  fate_own t a r new f may (Asks b request told took is) =
      let line = ask_by a b request told took in
      let mine : is_of a (Some line) ≡ true = same_self a in
      let after = after_dropped n log t a r (note_ask n r b request told) (is_gone told) b (after_request n keeps log t a r b request told (subst (MayOf n keeps files faults log honest lawful t a (opened log t a) r) is may).1) in
      let numbers : Numbered log (suc t) a (dropping (is_gone told) b (note_ask n r b request told)) = subst (λ l. Numbered log (suc t) a (note n r t l)) is (numbered_own n keeps files faults log honest lawful t a (opened log t a) r new f.numbers may (Asks b request told took is)) in
      rw is (fate_next n log t a r (dropping (is_gone told) b (note_ask n r b request told)) (end_none log t a line is refl) (λ change e. cc (e, is)) numbers
      (λ q e. elim after.number [
        | inl same ↦ inl (same ∙ e)
        | inr (inl inside) ↦ inr (inl inside)
        | inr (inr full) ↦ inr (inr (fixed_next n log t a q (own_fixed n log t a q r f.numbers full e)))
      ])
      (λ out at. out (place_own log t a line is mine ∙ asked_within (place log t a) a b request told took at))
      after.heal f)
  fate_own t a r new f may (Begins change is) = record {
    numbers = numbered_own n keeps files faults log honest lawful t a (opened log t a) r new f.numbers may (Begins change is);
    going = λ q c at past k. elim (cases_lt q t) [
      | inl early ↦ elim (f.going q c at early (sym (outcome_next log t a q (end_none log t a (begin_by a change) is refl)) ∙ k)) [
        | inl mine ↦ absurd (let m : MayBegin r change = subst (MayOf n keeps files faults log honest lawful t a (opened log t a) r) is may in omega (arith, mine, m.first))
        | inr fixed ↦ inr (fixed_next n log t a q fixed)
      ]
      | inr late ↦ inl (let e : t ≡ q = omega arith in rw is (ap suc e))
    ];
    gone = λ q c at past k. elim (cases_lt q t) [
      | inl early ↦ fixed_next n log t a q (f.gone q c at early (sym (outcome_next log t a q (end_none log t a (begin_by a change) is refl)) ∙ k))
      | inr late ↦ absurd (cc (sym k, outcome_next log t a q (end_none log t a (begin_by a change) is refl), outcome_new log t a q late))
    ];
    rests = λ out. absurd (out (place_own log t a (begin_by a change) is (same_self a) ∙ begun_place (place log t a) a change));
    healing = λ inside. absurd (let m : MayBegin r change = subst (MayOf n keeps files faults log honest lawful t a (opened log t a) r) is may in true≢false (sym (subst (λ l. (note n r t l).heal ≡ true) is inside) ∙ m.outside));
  }
  fate_own t a r new f may (HealBegins g kind is) = record {
    numbers = numbered_own n keeps files faults log honest lawful t a (opened log t a) r new f.numbers may (HealBegins g kind is);
    going = λ q c at past k. absurd (none q c at past k);
    gone = λ q c at past k. fixed_next n log t a q (f.gone q c at (earlier q c at past) (sym (outcome_next log t a q (end_none log t a (heal_begin_by a g kind) is refl)) ∙ k));
    rests = λ out q c at past k. none q c at past k;
    healing = λ inside q c at past k. none q c at past k;
  }
    where
      earlier : (q : ℕ) (c : Change) → log q ≡ Some (begin_by a c) → q < suc t → q < t
      earlier q c at past = elim (cases_lt q t) [ inl fine ↦ fine | inr late ↦ absurd (let e : q ≡ t = omega arith in cc (ap log e, at, is)) ]

      none : (q : ℕ) (c : Change) → log q ≡ Some (begin_by a c) → q < suc t → outcome log (suc t) a q ≡ None → ⊥
      none q c at past k = (
          let m : MayHealBegin r g kind = subst (MayOf n keeps files faults log honest lawful t a (opened log t a) r) is may in
          f.healing m.inside q c at (earlier q c at past) (sym (outcome_next log t a q (end_none log t a (heal_begin_by a g kind) is refl)) ∙ k)
          )
  fate_own t a r new f may (HealEnds g kind reply is) = record {
    numbers = numbered_own n keeps files faults log honest lawful t a (opened log t a) r new f.numbers may (HealEnds g kind reply is);
    going = λ q c at past k. absurd (none q c at past k);
    gone = λ q c at past k. fixed_next n log t a q (f.gone q c at (earlier q c at past) (sym (outcome_next log t a q (end_none log t a (heal_end_by a g kind reply) is refl)) ∙ k));
    rests = λ out q c at past k. none q c at past k;
    healing = λ inside q c at past k. none q c at past k;
  }
    where
      earlier : (q : ℕ) (c : Change) → log q ≡ Some (begin_by a c) → q < suc t → q < t
      earlier q c at past = elim (cases_lt q t) [ inl fine ↦ fine | inr late ↦ absurd (let e : q ≡ t = omega arith in cc (ap log e, at, is)) ]

      none : (q : ℕ) (c : Change) → log q ≡ Some (begin_by a c) → q < suc t → outcome log (suc t) a q ≡ None → ⊥
      none q c at past k = (
          let m : MayHealEnd n r = subst (MayOf n keeps files faults log honest lawful t a (opened log t a) r) is may in
          f.healing m.inside q c at (earlier q c at past) (sym (outcome_next log t a q (end_none log t a (heal_end_by a g kind reply) is refl)) ∙ k)
          )
  fate_own t a r new f may (Ends reply is) = record {
    numbers = numbered_own n keeps files faults log honest lawful t a (opened log t a) r new f.numbers may (Ends reply is);
    going = λ q c at past k. absurd (ended q c at past k);
    gone = λ q c at past k. fixed_next n log t a q (closes q c at (earlier q c at past) (outcome log t a q) refl (sym (outcome_end log t a q reply is (earlier q c at past)) ∙ k));
    rests = λ e q c at past k. ended q c at past k;
    healing = λ inside q c at past k. ended q c at past k;
  }
    where
      earlier : (q : ℕ) (c : Change) → log q ≡ Some (begin_by a c) → q < suc t → q < t
      earlier q c at past = elim (cases_lt q t) [ inl fine ↦ fine | inr late ↦ absurd (let e : q ≡ t = omega arith in cc (ap log e, at, is)) ]

      some_last : (o : Option Bool) → or_else o (Some (is_ok reply)) ≡ None → ⊥
      some_last None e = cc
      some_last (Some w) e = cc

      ended : (q : ℕ) (c : Change) → log q ≡ Some (begin_by a c) → q < suc t → outcome log (suc t) a q ≡ None → ⊥
      ended q c at past k = some_last (outcome log t a q) (sym (outcome_end log t a q reply is (earlier q c at past)) ∙ k)

      closes : (q : ℕ) (c : Change) → log q ≡ Some (begin_by a c) → q < t → (o : Option Bool) → outcome log t a q ≡ o → or_else o (Some (is_ok reply)) ≡ Some true → Fixed n log t a q
      closes q c at less None e k =
          elim (f.going q c at less e) [
            | inl mine ↦ own_fixed n log t a q r f.numbers ((subst (MayOf n keeps files faults log honest lawful t a (opened log t a) r) is may).posted (cc k)) mine
            | inr fixed ↦ fixed
          ]
      closes q c at less (Some w) e k = f.gone q c at less (e ∙ k)

  fates : (t a : ℕ) → Fate n log t a (register n log t a)
  fates =
      registers_at n keeps files faults log honest lawful (Fate n log) start
      (λ t a other f. fate_next n log t a (register n log t a) (register n log t a) (end_foreign a (log t) other) (λ change e. foreign_begin t a change other e)
      (numbered_next log t a (register n log t a) (last_foreign log t a other) f.numbers) (λ q e. inl e) (λ out at. out (place_foreign log t a other ∙ at)) (λ h. inl h) f)
      (λ t a mine f may. fate_own t a (present n log t a) (λ e. force_fresh n keeps files faults log honest lawful (opened log t a) (register n log t a) e) (opening_fate t a (opened log t a) refl f) may mine)
    where
      start : (a : ℕ) → Fate n log 0 a fresh
      start a = record {
        numbers = numbered_fresh log 0 a;
        going = λ q c at past k. absurd (omega arith);
        gone = λ q c at past k. absurd (omega arith);
        rests = λ e q c at past k. absurd (omega arith);
        healing = λ inside q c at past k. absurd (omega arith);
      }

      foreign_begin : (t a : ℕ) (change : Change) → is_of a (log t) ≡ false → log t ≡ Some (begin_by a change) → ⊥
      foreign_begin t a change other e = absurd (cc (sym (subst (λ l. is_of a l ≡ false) e other), same_self a))

      opening_fate : (t a : ℕ) (first : Bool) → opened log t a ≡ first → Fate n log t a (register n log t a) → Fate n log t a (in_force first (register n log t a))
      opening_fate t a false e f = f
      opening_fate t a true e f = fate_fresh n log t a (register n log t a) (opens_out (place log t a) (log t) e) f

  pub acknowledged_fixed : (t q : ℕ) → (w : Acknowledged log t q) → Fixed n log t w.a q
  acknowledged_fixed t q w = (fates t w.a).gone q w.change w.is w.past w.ok

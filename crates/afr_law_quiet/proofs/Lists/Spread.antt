-- An object with a number above 0 is held by a majority: its pre-op came after looks that showed one.
use Rattle.std.proofs.Common.{◌≡◌, ℕ, suc, ◌&&◌, ◌||◌, ◌==◌, Bool, true, false, inl, inr, refl, sym, ◌∙◌, subst, ap, Option, Some, None, true≢false}
use Rattle.std.specs.Prelude.{if◌then◌else◌}
use Rattle.std.proofs.lemmas.Bool.{eqb-true, not-true}
use Rattle.afr_base.specs.Majority.{IsMajority, is_most}
use Rattle.afr_base.specs.declared.ids.Kind.{Kind}
use Rattle.afr_lines.specs.declared.fault.Fault.{Fault}
use Rattle.afr_lines.specs.declared.answer.Told.{Told}
use Rattle.afr_lines.specs.declared.line.Line.{Line}
use Rattle.afr_lines.specs.declared.line.Line.TheVariants.{Ask, Begin, End, Event, HealBegin, HealEnd}
use Rattle.afr_lines.specs.declared.request.Area.{Area}
use Rattle.afr_lines.specs.declared.request.Request.{Request}
use Rattle.afr_lines.specs.declared.request.Request.TheVariants.{Lock, Look, Unlock}
use Rattle.afr_lines.specs.declared.lock.Domain.TheVariants.{Heal, Work}
use Rattle.afr_model_moves.specs.Discipline.{LawfulExactly, MayAskExactly, MayExactly, MovesExactly, note, present}
use Rattle.afr_model_moves.specs.Heal.{Gives, Goes, MayHeal}
use Rattle.afr_model_moves.specs.Honest.{Honest}
use Rattle.afr_model_moves.specs.Lines.{ask_by, look_at, pre_on}
use Rattle.afr_model_moves.specs.Note.{breaks, left_in_heal, left_outside, put_look, stay}
use Rattle.afr_model_moves.specs.Past.{Beginning, Log, holds, is_gone, is_of}
use Rattle.afr_model_moves.specs.Register.{Exact, PlaneIn, holder, is_on, Open}
use Rattle.afr_model_moves.specs.Rules as weak
use Rattle.afr_model_moves.specs.Rules.{Register, area_object, busy}
use Rattle.afr_model_moves.specs.Steps.{may_heal}
use Rattle.afr_model_moves.specs.Transaction.{MayPre}
use Rattle.afr_model_moves.proofs.Tests.{most_yes, some_number}
use Rattle.afr_law.proofs.Discipline.Asks.{IsHealLock, heal_asked, heal_dropped, kept, lock_number}
use Rattle.afr_law.proofs.Discipline.Cleans.{clean_now}
use Rattle.afr_law.proofs.Discipline.Clear.{ClearOf}
use Rattle.afr_law.proofs.Discipline.Projection.{along_now}
use Rattle.afr_law.proofs.Discipline.Transactions.{held_view}
use Rattle.afr_law.proofs.Heals.Answers.{honestly, still_there}
use Rattle.afr_law.proofs.Heals.Areas.{opening_or}
use Rattle.afr_law.proofs.Heals.Conditions.{goes_enough, onward_goes, onward_object, pre_onward}
use Rattle.afr_law.proofs.Heals.Sights.{sights_now}
use Rattle.afr_law_quiet.proofs.Lists.Tails.{most_more}
use Rattle.afr_model_moves.specs.Sets.{empty}
use Rattle.afr_lines.specs.declared.answer.Told.TheVariants.{Seen}

-- outside a heal, once it has begun an attempt, an actor has seen a majority of holders
abbrev Seeing : ℕ → ℕ → ℕ → Exact → Type 0
Seeing n t a r = r.law.heal ≡ false → (r.law.number ≡ 0 → ⊥) → IsMajority n (holder r.views)

number_dropped : (gone : Bool) (b : ℕ) (w : Register) → (weak.dropping gone b w).number ≡ w.number
number_dropped true b w = refl
number_dropped false b w = refl

views_outside : (n : ℕ) (r : Exact) (b : ℕ) (request : Request) (told : Told) → (IsHealLock request → ⊥) → (r.law.number ≡ 0 → ⊥) → ((weak.note_ask n r.law b request told).number ≡ 0 → ⊥) → IsMajority n (holder r.views)
    → IsMajority n (holder (left_outside n r b request told).views)
views_outside n r b (Lock Work area) told free old new most = go (busy n r.law) refl
  where
    go : (held : Bool) → busy n r.law ≡ held → IsMajority n (holder (if held then stay r else record r { step = Open; asked = empty; unlocked = false; reached = empty; views = weak.no_views }).views)
    go true e = most
    go false e = absurd (new (lock_number n r.law b area told e))
views_outside n r b (Lock Heal area) told free old new most = absurd (free tt)
views_outside n r b (Look g) told free old new most = go ((r.law.number == 0) && r.law.held b && is_on r.law.area g.0) (begun (r.law.number == 0) (not-true (r.law.number == 0) (some_number r.law.number old)))
  where
    begun : (x : Bool) → x ≡ false → (x && r.law.held b && is_on r.law.area g.0) ≡ false
    begun true e = absurd (true≢false e)
    begun false e = refl

    go : (counts : Bool) → counts ≡ false → IsMajority n (holder (put_look (stay r) counts b told).views)
    go true e = absurd (true≢false e)
    go false e = most
views_outside n r b (Unlock Work area) told free old new most = most
views_outside n r b (Unlock Heal area) told free old new most = most
views_outside n r b request told free old new most = most

module _ (n : ℕ) (keeps : ℕ → Kind → Bool) (log : Log) (moves : MovesExactly n keeps log) where
  asked_seeing : (t a b : ℕ) (request : Request) (told : Told) (took : Bool) (r : Exact) → Seeing n t a r → Seeing n (suc t) a (note n keeps r t (Some (ask_by a b request told took)))
  asked_seeing t a b request told took r see out begun = go r.law.heal refl
    where
      w : (r.law.heal ≡ false) × (IsHealLock request → ⊥)
      w = heal_asked n r.law b request told (sym (heal_dropped (is_gone told) b (weak.note_ask n r.law b request told)) ∙ out)

      new : (weak.note_ask n r.law b request told).number ≡ 0 → ⊥
      new e = begun (number_dropped (is_gone told) b (weak.note_ask n r.law b request told) ∙ e)

      old : r.law.number ≡ 0 → ⊥
      old e = new (elim (kept n r.law b request told).number [ inl k ↦ k ∙ e | inr k ↦ k ])

      go : (heal : Bool) → r.law.heal ≡ heal
          → IsMajority n (holder (if heal then record (left_in_heal n r t b request told) { possible = λ s. r.possible s && may_heal n keeps r s b request; broken = r.broken || breaks r request told } else left_outside n r b request told).views)
      go true e = absurd (true≢false (sym e ∙ w.0))
      go false e = views_outside n r b request told w.1 old new (see e old)

  own_seeing : (t a : ℕ) (r : Exact) (line : Option Line) → is_of a line ≡ true → Seeing n t a r → MayExactly n keeps (λ x. r) line → Seeing n (suc t) a (note n keeps r t line)
  own_seeing t a r None mine see may = see
  own_seeing t a r (Some (Ask x b request told took)) mine see may = subst (λ k. Seeing n (suc t) a (note n keeps r t (Some (ask_by k b.0 request told took)))) (sym (eqb-true x.0 a mine)) (asked_seeing t a b.0 request told took r see)
  own_seeing t a r (Some (Begin x change)) mine see may = λ out begun. may.holders.majority
  own_seeing t a r (Some (HealBegin x g kind)) mine see may = λ out begun. absurd (true≢false (sym may.inside ∙ out))
  own_seeing t a r (Some (HealEnd x g kind reply)) mine see may = λ out begun. absurd (begun refl)
  own_seeing t a r (Some (End x reply)) mine see may = see
  own_seeing t a r (Some (Event e)) mine see may = see

  seeing : (t a : ℕ) → Seeing n t a (present n keeps log t a)
  seeing = along_now n keeps log moves (Seeing n) (λ t a out begun. absurd (begun refl)) (λ t a r other see. see) (λ t a mine see may. own_seeing t a (present n keeps log t a) (log t) mine see may)

module _ (n : ℕ) (files : Beginning) (faults : ℕ → ℕ → Option Fault) (log : Log) (honest : Honest files faults log) (exactly : LawfulExactly n files log) where
  on_area : (area : Option Area) (g h : ℕ) (kind : Kind) → PlaneIn area g kind → is_on area h ≡ true → h ≡ g
  on_area None g h kind plane on = absurd plane
  on_area (Some mine) g h kind plane on = eqb-true h (area_object mine) on ∙ sym plane.0

  by_client : (t a b g : ℕ) (kind : Kind) → (present n files.keeps log t a).law.heal ≡ false → MayPre n (present n files.keeps log t a) b g kind → IsMajority n (λ x. holds files log t x g)
  by_client t a b g kind out may =
      let r : Exact = present n files.keeps log t a in
      let clear : ClearOf n log t a r r.law = clean_now n files.keeps log (honestly files faults log honest).shown exactly.moves t a out in
      most_more n (holder r.views) (λ x. holds files log t x g)
      (λ x low h. (let v = held_view r.views x h in let look = clear.looks x v.0 v.1 in let same : look.g ≡ g = on_area r.law.area g look.g kind may.plane look.on in
      still_there files faults log honest look.l t a x g v.0 look.past (look.is ∙ ap (λ (o : ℕ). Some (ask_by a x (look_at o) (Seen v.0) true)) same)))
      (seeing n files.keeps log exactly.moves t a out may.begun_already)

  by_heal : (t a b g : ℕ) (kind : Kind) → MayHeal n files.keeps (present n files.keeps log t a) b (pre_on g kind) → IsMajority n (λ x. holds files log t x g)
  by_heal t a b g kind m =
      let r : Exact = present n files.keeps log t a in
      let sights = sights_now n files.keeps log (honestly files faults log honest) exactly.moves t a m.inside m.whole in
      let on = pre_onward n files.keeps r m.source b g kind m.allowed in
      let same : g ≡ r.law.object = eqb-true g r.law.object (onward_object n files.keeps r m.source g kind on) in
      let most : is_most n (holder r.first_views) ≡ true = elim (opening_or r.part) [ inl first ↦ goes_enough n files.keeps r m.source (onward_goes n files.keeps r m.source g kind on) first | inr later ↦ sights.enough (inl later) ] in
      most_more n (holder r.first_views) (λ x. holds files log t x g)
      (λ x low h. (let v = held_view r.first_views x h in let look = sights.origin x v.0 v.1 in
      still_there files faults log honest look.l t a x g look.view look.past (look.is ∙ ap (λ (o : ℕ). Some (ask_by a x (look_at o) (Seen look.view) true)) (sym same))))
      (most_yes n (holder r.first_views) most)

  pub pre_spread : (t a b g : ℕ) (kind : Kind) (told : Told) (took : Bool) → log t ≡ Some (ask_by a b (pre_on g kind) told took) → IsMajority n (λ x. holds files log t x g)
  pre_spread t a b g kind told took is =
      let may : MayExactly n files.keeps (present n files.keeps log t) (Some (ask_by a b (pre_on g kind) told took)) = subst (λ (l : Option Line). MayExactly n files.keeps (present n files.keeps log t) l) is (exactly.moves t) in
      go may.1
    where
      go : MayAskExactly n files.keeps (present n files.keeps log t a) b (pre_on g kind) → IsMajority n (λ x. holds files log t x g)
      go (inl w) = by_client t a b g kind w.0 w.1
      go (inr (Goes m)) = by_heal t a b g kind m
      go (inr (Gives inside broken free)) = absurd free

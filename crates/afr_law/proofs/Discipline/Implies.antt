-- The exact discipline implies the weak one.
use Rattle.afr_base.specs.Bricks.{member}
use Rattle.afr_base.specs.declared.ids.Kind.{Kind}
use Rattle.afr_lines.specs.declared.fault.Fault.{Fault}
use Rattle.afr_law.proofs.Discipline.Cleans.{clean_now}
use Rattle.afr_model_moves.specs.Discipline.{LawfulExactly, MayAskExactly, MayExactly, MovesExactly, NumbersInRange, present}
use Rattle.afr_model_moves.specs.Heal.{Gives, Goes, MayHealBegin}
use Rattle.afr_model_moves.specs.Ranges.{RepairInRange}
use Rattle.afr_model_moves.specs.Register.{rank}
use Rattle.afr_law.proofs.Heals.Answers.{Honestly, honestly}
use Rattle.afr_law.proofs.Heals.Areas.{opening_or}
use Rattle.afr_law.proofs.Heals.MendsAlong.{Wide}
use Rattle.afr_law.proofs.Heals.Moves.{whole_covers}
use Rattle.afr_law.proofs.Heals.Opening.{opens_here}
use Rattle.afr_law.proofs.Heals.Settles.{Fives, settle_works}
use Rattle.afr_law.proofs.Heals.Conditions.{heal_lock_area, heal_lock_step}
use Rattle.afr_law.proofs.Heals.Works.{mend_works, pre_works}
use Rattle.afr_model_moves.specs.Lines.{ask_by}
use Rattle.afr_model_moves.specs.Past.{Beginning, Log, place}
use Rattle.afr_law.proofs.Discipline.PostsOnce.{post_once}
use Rattle.afr_law.proofs.Discipline.Projection.{present_law}
use Rattle.afr_law.proofs.Discipline.StagesAlong.{StageOf, stage_now}
use Rattle.afr_model_moves.proofs.AreaLemmas.{same_area_is}
use Rattle.afr_law.proofs.Discipline.Transactions.{weak_apply, weak_begin, weak_post, weak_pre, weak_work}
use Rattle.afr_lines.specs.declared.answer.Told.{Told}
use Rattle.afr_lines.specs.declared.line.Line.{Line}
use Rattle.afr_lines.specs.declared.line.Line.TheVariants.{Ask, Begin, End, Event, HealBegin, HealEnd}
use Rattle.afr_lines.specs.declared.request.Request.{Request}
use Rattle.afr_lines.specs.declared.request.Request.TheVariants.{Apply, Lock, Mend, Post, Pre, Settle}
use Rattle.afr_object.specs.declared.change.Repair.{Repair}
use Rattle.afr_object.specs.declared.change.Repair.TheVariants.{Copy, CutTo, PutAttrs, PutNames}
use Rattle.afr_lines.specs.declared.lock.Domain.TheVariants.{Heal, Work}
use Rattle.std.proofs.Common.{Bool, arith, inl, inr, refl, subst, sym, true≢false, ℕ, ◌<◌, ◌≡◌}
use Rattle.std.specs.Prelude.{None, Option, Some}
use Rattle.afr_model_moves.specs.Rules as weak
use Rattle.afr_model_moves.specs.Rules.{CoversAll, Lawful, heal_area}
use Rattle.afr_law.proofs.Heals.Mended.{IsWide}
use Rattle.afr_model_moves.specs.Honest.{Honest}
use Rattle.std.proofs.lemmas.Bool.{or_parts}

module _ (n : ℕ) (keeps : ℕ → Kind → Bool) (log : Log) (honest : Honestly log) (wide : Wide log) (fives : Fives log) (moves : MovesExactly n keeps log) where
  ask_weak : (t a b : ℕ) (request : Request) (told : Told) (took : Bool) → log t ≡ Some (ask_by a b request told took) → b < n → MayAskExactly n keeps (present n keeps log t a) b request
      → weak.MayAsk n keeps log t a (weak.opened log t a) (present n keeps log t a).law b request
  ask_weak t a b (Lock Work area) told took is below (inl k) = weak_work n keeps log t a (present n keeps log t a) (clean_now n keeps log honest.shown moves t a k.0) area k.1
  ask_weak t a b (Lock Work area) told took is below (inr (Goes m)) = record { first = λ e. inl m.inside }
  ask_weak t a b (Lock Heal area) told took is below (inl k) = record {
    object = k.1.g;
    range = k.1.range;
    early = ((stage_now n keeps log moves t a).outside k.0).0;
    place = inl (opens_here n keeps log moves t a b area told took is k.1.first);
  }
  ask_weak t a b (Lock Heal area) told took is below (inr (Goes m)) = (
      let r = present n keeps log t a in
      let at : rank r.step ≡ 5 = heal_lock_step n keeps r m.source b area m.allowed in
      record {
        object = r.law.object;
        range = sym (same_area_is (heal_area r.law.object) area (heal_lock_area n keeps r m.source b area m.allowed));
        early = ((stage_now n keeps log moves t a).early m.inside (omega (arith, at))).1;
        place = inr (m.inside, refl);
      }
      )
  ask_weak t a b (Pre g kind) told took is below (inl k) = weak_pre n keeps log t a (present n keeps log t a) (clean_now n keeps log honest.shown moves t a k.0) b g.0 kind below k.1
  ask_weak t a b (Pre g kind) told took is below (inr (Goes m)) = pre_works n keeps log honest wide moves t a b below g.0 kind m
  ask_weak t a b (Apply q) told took is below (inl k) = weak_apply n keeps log t a (present n keeps log t a) (clean_now n keeps log honest.shown moves t a k.0) b q k.1
  ask_weak t a b (Apply q) told took is below (inr (Goes m)) = absurd (true≢false (sym m.allowed))
  ask_weak t a b (Post q g kind missed) told took is below (inl k) = weak_post n keeps log t a (present n keeps log t a) (clean_now n keeps log honest.shown moves t a k.0) b q g.0 kind (member missed) k.1 (post_once n keeps log moves t a b q g.0 kind (member missed) k.1)
  ask_weak t a b (Post q g kind missed) told took is below (inr (Goes m)) = absurd (true≢false (sym m.allowed))
  ask_weak t a b (Mend repair) told took is below (inl k) = absurd k.1
  ask_weak t a b (Mend repair) told took is below (inr (Goes m)) = mend_works n keeps log honest wide moves t a b below repair (wide t a b repair told took is) m
  ask_weak t a b (Settle g kind less) told took is below (inl k) = absurd k.1
  ask_weak t a b (Settle g kind less) told took is below (inr (Goes m)) = settle_works n keeps log honest wide moves t a b below g.0 kind less (fives t a b g.0 kind less told took is) m
  ask_weak t a b (Lock Work area) told took is below (inr (Gives i broken k)) = absurd k
  ask_weak t a b (Lock Heal area) told took is below (inr (Gives i broken k)) = absurd k
  ask_weak t a b (Pre g kind) told took is below (inr (Gives i broken k)) = absurd k
  ask_weak t a b (Apply q) told took is below (inr (Gives i broken k)) = absurd k
  ask_weak t a b (Post q g kind missed) told took is below (inr (Gives i broken k)) = absurd k
  ask_weak t a b (Mend repair) told took is below (inr (Gives i broken k)) = absurd k
  ask_weak t a b (Settle g kind less) told took is below (inr (Gives i broken k)) = absurd k
  ask_weak t a b _ told took is below k = tt

  begin_weak : (t a g : ℕ) (kind : Kind) → MayHealBegin n (present n keeps log t a) g kind → weak.MayHealBegin (present n keeps log t a).law g kind
  begin_weak t a g kind may = (
      let r = present n keeps log t a in
      let s : StageOf r = stage_now n keeps log moves t a in
      record {
        inside = may.inside;
        same = may.object;
        first = s.waiting may.inside may.step;
        kind_same = elim (opening_or r.part) [ inl e ↦ inl (s.opening may.inside may.step e) | inr e ↦ inr (may.later e) ];
        whole = λ z. elim (opening_or r.part) [ inl e ↦ subst (λ area. CoversAll area g kind) (sym (may.opening e)) (whole_covers g kind) | inr e ↦ absurd (s.later e z) ];
      }
      )

  may_weak : (t : ℕ) (line : Option Line) → log t ≡ line → MayExactly n keeps (present n keeps log t) line → weak.May n keeps log t (weak.opened log t) (λ a. (present n keeps log t a).law) line
  may_weak t None is may = tt
  may_weak t (Some (Ask a b request told took)) is may = (may.0, ask_weak t a.0 b.0 request told took is may.0 may.1)
  may_weak t (Some (Begin a change)) is may = weak_begin n keeps log t a.0 (present n keeps log t a.0) (clean_now n keeps log honest.shown moves t a.0 may.outside) change may
  may_weak t (Some (HealBegin a g kind)) is may = begin_weak t a.0 g.0 kind may
  may_weak t (Some (End a reply)) is may = record { outside = may.outside; free = (or_parts _ _ may.free).0; posted = may.posted }
  may_weak t (Some (HealEnd a g kind reply)) is may = record { inside = may.inside; free = (or_parts _ _ may.free).0 }
  may_weak t (Some (Event e)) is may = tt

  pub moves_imply : Lawful n keeps log
  moves_imply t = subst (λ (X : Type 0). X) (λ i. weak.May n keeps log t (weak.opened log t) (λ a. present_law n keeps log t a i) (log t)) (may_weak t (log t) refl (moves t))

-- the ranges of a line give its arrays one place a brick
pub wide_line : (repair : Repair) → RepairInRange repair → IsWide repair
wide_line (PutNames g from) range = range.1
wide_line (CutTo g len) range = tt
wide_line (Copy g place some read) range = tt
wide_line (PutAttrs g read) range = tt

-- honest lines that keep the discipline in full keep the weak one
pub implies : (n : ℕ) (files : Beginning) (faults : ℕ → ℕ → Option Fault) (log : Log) → LawfulExactly n files log → Honest files faults log → Lawful n files.keeps log
implies n files faults log lawful honest = moves_imply n files.keeps log (honestly files faults log honest)
    (λ t a b repair told took is. wide_line repair (subst NumbersInRange is (lawful.ranges t)).2)
    (λ t a b g kind less told took is. ((subst NumbersInRange is (lawful.ranges t)).2).1.1) lawful.moves

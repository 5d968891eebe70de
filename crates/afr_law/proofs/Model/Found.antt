-- Where the next request of an honest and lawful log changes a copy, there is one, and its brick can carry the request out.
use Rattle.std.proofs.Common.{◌≡◌, ℕ, suc, ◌+◌, ◌-◌, ◌<◌, ◌≤◌, Bool, true, false, refl, sym, ◌∙◌, ap, subst, arith, List, ◌∷◌, length, Option, Some, ◌||◌}
use Rattle.std.specs.Prelude.{option_and_then, List as Seq}
use Rattle.afr_base.specs.Bricks.{member}
use Rattle.afr_base.specs.declared.ids.ActorId.{ActorId}
use Rattle.afr_base.specs.declared.ids.BrickId.{BrickId}
use Rattle.afr_base.specs.declared.ids.Gfid.{Gfid}
use Rattle.afr_base.specs.declared.ids.Kind.{Kind}
use Rattle.afr_base.specs.declared.marks.Marks.{Marks}
use Rattle.afr_lines.specs.declared.fault.Fault.{Fault}
use Rattle.afr_lines.specs.Log.{change_of}
use Rattle.afr_lines.specs.declared.answer.Told.{Told}
use Rattle.afr_lines.specs.declared.line.Line.{Line}
use Rattle.afr_lines.specs.declared.line.Line.TheVariants.{Ask}
use Rattle.afr_lines.specs.declared.request.Request.{Request}
use Rattle.afr_lines.specs.declared.request.Request.TheVariants.{Apply, Mend, Post, Pre, Settle}
use Rattle.afr_model.specs.Honest.{Honest as IsHonestLog, fault_in}
use Rattle.afr_model.specs.Sums.{has_object}
use Rattle.afr_object.specs.Repairs as repairs
use Rattle.afr_object.specs.Tables.{object_of}
use Rattle.afr_object.specs.declared.change.Change.{Change}
use Rattle.afr_object.specs.declared.change.Repair.{Repair}
use Rattle.afr_object.specs.declared.change.Repair.TheVariants.{Copy, CutTo, PutAttrs, PutNames}
use Rattle.afr_object.specs.declared.entry.View.{View}
use Rattle.afr_plan.specs.declared.plan.Plan.{Plan}
use Rattle.afr_law.proofs.Safety.Acts.{may_ask}
use Rattle.afr_law.proofs.Model.Discipline.{exactly_below}
use Rattle.afr_law.proofs.Model.Next.{Comes, comes}
use Rattle.afr_law.specs.Beginning.{start_of}
use Rattle.afr_law.proofs.Model.Repairs.{next_fits}
use Rattle.afr_law.proofs.Model.Settles.{all_honest, all_lawful, take_within}
use Rattle.afr_law.proofs.Model.SoundLog.{LawfulBelow}
use Rattle.afr_law.proofs.Model.Sums.{holds_is}
use Rattle.afr_law_tables.specs.Codes.{kept_by}
use Rattle.afr_law.specs.Exactly.{IsLawfulExactly, name_bound}
use Rattle.afr_law.proofs.Heals.Answers.{holds_later, still_there}
use Rattle.afr_law.proofs.Heals.Looks.{done_finds}
use Rattle.afr_law.proofs.Heals.Marks.{Ready, ready}
use Rattle.afr_law.proofs.Heals.EachLine.{viewings}
use Rattle.afr_model_moves.specs.Honest.{Honest, HonestLine, asked, plane_kind}
use Rattle.afr_model_moves.specs.Rules.{FitAt, Lawful, MayApply, MayMend, MayPost, MayPre, MayRaise, MaySettle, PlaneIs, present}
use Rattle.afr_model_moves.specs.Lines.{ask_by, begin_by, post_on, pre_on, settle_on}
use Rattle.afr_law.specs.ModelFits.{HasCopy, ModelNextCarries, ModelNextFound}
use Rattle.afr_law.specs.ModelNext.{is_carried_out}
use Rattle.afr_law.proofs.Safety.Numbers.{Prepared}
use Rattle.afr_model_moves.specs.Past.{Beginning, Log, holds, joined, object, opening, repaired}
use Rattle.afr_model_moves.specs.Positions.{by_position}
use Rattle.afr_model_moves.proofs.ByPosition.{past_at, past_whole}
use Rattle.afr_law.proofs.Alike.Raises.{plane_object, plane_one}
use Rattle.afr_model_moves.proofs.Tests.{positive}
use Rattle.afr_model_moves.proofs.Changes.{object_same}
use Rattle.afr_law_tables.specs.Carrying.{CanCarry}

-- ---- by positions
module _ (n : ℕ) (keeps : ℕ → Kind → Bool) (files : Beginning) (faults : ℕ → ℕ → Option Fault) (log : Log) (honest : Honest files faults log) (lawful : Lawful n keeps log) where
  now : (t a : ℕ) → Ready n keeps files faults log honest lawful t a (present n log t a)
  now t a = ready n keeps files faults log honest lawful t a (viewings n keeps files faults log honest lawful t a)

  -- a copy that was there is there
  later : (p t b g : ℕ) → p < t → holds files log p b g ≡ true → holds files log t b g ≡ true
  later p t b g past h = (let d : t ≡ (t - p) + p = omega (arith, past) in subst (λ u. holds files log u b g ≡ true) (sym d) (holds_later files log b g p (t - p) h))

  prepared_there : (t a b q g : ℕ) (kind : Kind) → Prepared log t a b q → PlaneIs (log q) g kind → holds files log t b g ≡ true
  prepared_there t a b q g kind w plane =
      let found : holds files log w.p b w.g ≡ true = done_finds files log w.p a b (pre_on w.g w.kind) true (joined log w.p a b || opening log w.p a b) (faults b (suc (asked log w.p b))) (subst (HonestLine files faults log w.p) w.is (honest w.p)) in
      subst (λ (o : ℕ). holds files log t b o ≡ true) (plane_one (log q) w.g g w.kind kind w.plane plane).0 (later w.p t b w.g w.past found)

  -- a brick that a heal looked at first
  first_there : (t a b : ℕ) (view : View) → (present n log t a).first b ≡ Some view → holds files log t b (present n log t a).object ≡ true
  first_there t a b view seen = (let f = (now t a).viewing.firsts b view seen in still_there files faults log honest f.look.l t a b (present n log t a).object view f.past f.look.is)

  plane_of : (q a : ℕ) (change : Change) → log q ≡ Some (begin_by a change) → PlaneIs (log q) (object change) (plane_kind change)
  plane_of q a change is = subst (λ l. PlaneIs l (object change) (plane_kind change)) (sym is) (refl, refl)

  pre_there : (t a b g : ℕ) (kind : Kind) (told : Told) (took : Bool) → log t ≡ Some (ask_by a b (pre_on g kind) told took) → holds files log t b g ≡ true
  pre_there t a b g kind told took is = by ((present n log t a).heal) refl
    where
      may : MayPre log t a (present n log t a) b g kind
      may = may_ask n keeps files faults log honest lawful t a b (pre_on g kind) told took is

      m : (q : ℕ) × ((present n log t a).number ≡ suc q)
      m = positive (present n log t a).number may.begun_already

      by : (heal : Bool) → (present n log t a).heal ≡ heal → holds files log t b g ≡ true
      by false e = (
          let f : FitAt log m.0 a b = may.fit m.0 e m.1 in
          let past = ((now t a).numbers.newest m.0 m.1).0 in
          let there = still_there files faults log honest f.fit.l t a b (object f.change) f.fit.view (let l = f.fit.past in omega (arith, l, past)) f.fit.is in
          subst (λ (o : ℕ). holds files log t b o ≡ true) (plane_object (log m.0) a g f.change kind f.is (may.plane m.0 e m.1)).0 there
          )
      by true e = (let raise : MayRaise log t a (present n log t a) b g kind = may.within e in subst (λ (o : ℕ). holds files log t b o ≡ true) (sym raise.object_same) (first_there t a b raise.view raise.looked))

  apply_there : (t a b q : ℕ) (told : Told) (took : Bool) → log t ≡ Some (ask_by a b (Apply q) told took) → (q < t) × ((change : Change) × (log q ≡ Some (begin_by a change)) × (holds files log t b (object change) ≡ true))
  apply_there t a b q told took is =
      let may : MayApply (present n log t a) b q = may_ask n keeps files faults log honest lawful t a b (Apply q) told took is in
      let numbers = (now t a).numbers in
      let attempt = numbers.attempt q may.outside may.own in
      ((numbers.newest q may.own).0, (attempt.change, attempt.is, prepared_there t a b q (object attempt.change) _ (numbers.prepared q b may.outside may.own may.ready) (plane_of q a attempt.change attempt.is)))

  post_there : (t a b q g : ℕ) (kind : Kind) (missed : Seq ℕ) (told : Told) (took : Bool) → log t ≡ Some (ask_by a b (post_on q g kind missed) told took) → holds files log t b g ≡ true
  post_there t a b q g kind missed told took is =
      let may : MayPost n log t a (present n log t a) b q g kind (member missed) = may_ask n keeps files faults log honest lawful t a b (post_on q g kind missed) told took is in
      let numbers = (now t a).numbers in
      prepared_there t a b q g kind (numbers.prepared q b may.outside may.own (numbers.acted b may.ready)) may.plane

  mend_there : (t a b : ℕ) (repair : Repair) (told : Told) (took : Bool) → log t ≡ Some (ask_by a b (Mend repair) told took) → holds files log t b (repaired repair) ≡ true
  mend_there t a b repair told took is =
      let may : MayMend n keeps log t a (present n log t a) b repair = may_ask n keeps files faults log honest lawful t a b (Mend repair) told took is in
      let w = (now t a).viewing.raised_first b may.inside may.raised in
      subst (λ (o : ℕ). holds files log t b o ≡ true) (sym may.object_same) (first_there t a b w.0 w.1)

  settle_there : (t a b g : ℕ) (kind : Kind) (less : Marks) (told : Told) (took : Bool) → log t ≡ Some (ask_by a b (settle_on g kind less) told took) → holds files log t b g ≡ true
  settle_there t a b g kind less told took is =
      let may : MaySettle n keeps log t a (present n log t a) b g kind less = may_ask n keeps files faults log honest lawful t a b (settle_on g kind less) told took is in
      subst (λ (o : ℕ). holds files log t b o ≡ true) (sym may.object_same) (first_there t a b may.view may.seen)

-- ---- in the list
repaired_is : (r : Repair) → repaired r ≡ (repairs.repaired r).0
repaired_is (CutTo g len) = refl
repaired_is (Copy g at span read) = refl
repaired_is (PutAttrs g read) = refl
repaired_is (PutNames g reads) = refl

module _ (p : Plan) (n : ℕ) (five : p.shape.n ≤ 5) (log : List Line) (a : ActorId) (b : BrickId) (told : Told) (took : Bool) where
  -- the line that asks for it, and the log with it by positions
  abbrev asks : Request → Line
  asks r = Ask a b r told took

  abbrev L : Request → Log
  L r = by_position (asks r ∷ log)

  module _ (r : Request) (below : LawfulBelow p n (asks r ∷ log)) (honest : IsHonestLog p (asks r ∷ log)) where
    honestly : Honest (start_of p n) (fault_in p.faults) (L r)
    honestly = all_honest p n five (asks r ∷ log) below honest (take_within p n five log below.1 honest.1)

    weakly : Lawful p.shape.n (kept_by p) (L r)
    weakly = all_lawful p n five (asks r ∷ log) below

    here : L r (length log) ≡ Some (asks r)
    here = (past_whole (asks r ∷ log)).0

    there : (g : Gfid) → holds (start_of p n) (L r) (length log) b.0 g.0 ≡ true → has_object p log g b.0 ≡ true
    there g h = sym (holds_is p n (L r) b.0 log (past_whole (asks r ∷ log)).1 below.1 g.0) ∙ h

  copy_by : (r : Request) → LawfulBelow p n (asks r ∷ log) → IsHonestLog p (asks r ∷ log) → HasCopy p log b.0 r
  copy_by (Pre g kind) below honest =
      let r = Pre g kind in
      there r below honest g (pre_there p.shape.n (kept_by p) (start_of p n) (fault_in p.faults) (L r) (honestly r below honest) (weakly r below honest) (length log) a.0 b.0 g.0 kind told took (here r below honest))
  copy_by (Apply q) below honest =
      let r = Apply q in
      let w = apply_there p.shape.n (kept_by p) (start_of p n) (fault_in p.faults) (L r) (honestly r below honest) (weakly r below honest) (length log) a.0 b.0 q told took (here r below honest) in
      let change = w.1.0 in (
        change,
        ap (option_and_then change_of) (sym (past_at (L r) log (past_whole (asks r ∷ log)).1 q w.0) ∙ w.1.1),
        there r below honest (object_of change) (subst (λ (o : ℕ). holds (start_of p n) (L r) (length log) b.0 o ≡ true) (object_same change) w.1.2),
      )
  copy_by (Post q g kind missed) below honest =
      let r = Post q g kind missed in
      there r below honest g (post_there p.shape.n (kept_by p) (start_of p n) (fault_in p.faults) (L r) (honestly r below honest) (weakly r below honest) (length log) a.0 b.0 q g.0 kind missed told took (here r below honest))
  copy_by (Mend repair) below honest =
      let r = Mend repair in
      there r below honest (repairs.repaired repair) (subst (λ (o : ℕ). holds (start_of p n) (L r) (length log) b.0 o ≡ true) (repaired_is repair)
      (mend_there p.shape.n (kept_by p) (start_of p n) (fault_in p.faults) (L r) (honestly r below honest) (weakly r below honest) (length log) a.0 b.0 repair told took (here r below honest)))
  copy_by (Settle g kind less) below honest =
      let r = Settle g kind less in
      there r below honest g (settle_there p.shape.n (kept_by p) (start_of p n) (fault_in p.faults) (L r) (honestly r below honest) (weakly r below honest) (length log) a.0 b.0 g.0 kind less told took (here r below honest))
  copy_by r below honest = tt

-- ---- in the words of the model
module _ (p : Plan) (log : List Line) (a : ActorId) (b : BrickId) (r : Request) (five : p.shape.n ≤ 5) (short : length log < 4000000) (honest : IsHonestLog p log) (lawful : IsLawfulExactly p log) where
  found_by : Comes p log a b r → HasCopy p log b.0 r
  found_by w = copy_by p (name_bound p) five log a b w.told w.took r (exactly_below p (Ask a b r w.told w.took ∷ log) five (omega (arith, short)) (w.said, honest) (w.next, lawful)) (w.said, honest)

  carries_by : Comes p log a b r → is_carried_out p a b r log ≡ true → CanCarry p log b.0 r
  carries_by w carried = (next_fits p log (Ask a b r w.told w.took) five short honest lawful w.said w.next).0 (w.is ∙ carried)

pub next_found : ModelNextFound
next_found p log a b (Pre g kind) five short honest lawful may = found_by p log a b (Pre g kind) five short honest lawful (comes p log a b (Pre g kind) may tt)
next_found p log a b (Apply q) five short honest lawful may = found_by p log a b (Apply q) five short honest lawful (comes p log a b (Apply q) may tt)
next_found p log a b (Post q g kind missed) five short honest lawful may = found_by p log a b (Post q g kind missed) five short honest lawful (comes p log a b (Post q g kind missed) may tt)
next_found p log a b (Mend repair) five short honest lawful may = found_by p log a b (Mend repair) five short honest lawful (comes p log a b (Mend repair) may tt)
next_found p log a b (Settle g kind less) five short honest lawful may = found_by p log a b (Settle g kind less) five short honest lawful (comes p log a b (Settle g kind less) may tt)
next_found p log a b r five short honest lawful may = tt

pub next_carries : ModelNextCarries
next_carries p log a b (Pre g kind) five short honest lawful may carried = carries_by p log a b (Pre g kind) five short honest lawful (comes p log a b (Pre g kind) may tt) carried
next_carries p log a b (Apply q) five short honest lawful may carried = carries_by p log a b (Apply q) five short honest lawful (comes p log a b (Apply q) may tt) carried
next_carries p log a b (Post q g kind missed) five short honest lawful may carried = carries_by p log a b (Post q g kind missed) five short honest lawful (comes p log a b (Post q g kind missed) may tt) carried
next_carries p log a b (Mend repair) five short honest lawful may carried = carries_by p log a b (Mend repair) five short honest lawful (comes p log a b (Mend repair) may tt) carried
next_carries p log a b (Settle g kind less) five short honest lawful may carried = carries_by p log a b (Settle g kind less) five short honest lawful (comes p log a b (Settle g kind less) may tt) carried
next_carries p log a b r five short honest lawful may carried = tt

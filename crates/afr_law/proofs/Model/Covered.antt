-- Who changes a brick in an honest and lawful log holds the locks for it there.
use Rattle.std.proofs.Common.{◌≡◌, ℕ, suc, ◌<◌, ◌≤◌, Bool, true, false, inl, inr, refl, sym, ◌∙◌, ap, subst, arith, List, [], ◌∷◌, length, Option, Some, Contains}
use Rattle.std.specs.Prelude.{option_and_then}
use Rattle.afr_base.specs.declared.ids.ActorId.{ActorId}
use Rattle.afr_base.specs.declared.ids.BrickId.{BrickId}
use Rattle.afr_base.specs.declared.ids.Kind.{Kind}
use Rattle.afr_base.specs.declared.marks.Marks.{Marks}
use Rattle.afr_base.specs.Bricks.{member}
use Rattle.afr_lines.specs.declared.fault.Fault.{Fault}
use Rattle.afr_lines.specs.Log.{change_of}
use Rattle.afr_lines.specs.declared.answer.Told.{Told}
use Rattle.afr_lines.specs.declared.answer.Told.TheVariants.{Granted}
use Rattle.afr_lines.specs.declared.line.Line.{Line}
use Rattle.afr_lines.specs.declared.line.Line.TheVariants.{Ask}
use Rattle.afr_lines.specs.declared.request.Area.{Area}
use Rattle.afr_lines.specs.declared.request.Request.{Request}
use Rattle.afr_lines.specs.declared.request.Request.TheVariants.{Apply, Lock, Mend, Post, Pre, Settle}
use Rattle.afr_model.specs.Honest.{Honest as IsHonestLog, IsHonest, fault_in}
use Rattle.afr_model.specs.Locks.{locks_held}
use Rattle.afr_plan.specs.declared.plan.Plan.{Plan}
use Rattle.afr_lines.specs.declared.lock.Domain.{Domain}
use Rattle.afr_lines.specs.declared.lock.Domain.TheVariants.{Heal, Work}
use Rattle.afr_lines.specs.declared.lock.HeldLock.{HeldLock}
use Rattle.afr_model_moves.specs.Covering.{Changes, Covers, HasHealLock, IsCovered}
use Rattle.afr_model_moves.specs.Discipline.{LawfulExactly, MayExactly}
use Rattle.afr_model_moves.specs.Discipline as exactly
use Rattle.afr_model_moves.specs.Honest.{Honest}
use Rattle.afr_model_moves.specs.Lines.{ask_by, settle_on}
use Rattle.afr_model_moves.specs.Past.{Beginning, Log, held, opens, place}
use Rattle.afr_model_moves.specs.Positions.{by_position}
use Rattle.afr_model_moves.specs.Rules.{Lawful, MayApply, MayMend, MayPost, MayPre, MaySettle, Register, heal_area, present}
use Rattle.afr_law.proofs.Discipline.ByList.{exactly_lawful}
use Rattle.afr_law.proofs.Discipline.Covers.{change_there, covers_now}
use Rattle.afr_law.proofs.Discipline.Lockable.{forced_has, lock_has}
use Rattle.afr_law.proofs.Discipline.Projection.{present_law}
use Rattle.afr_law.proofs.Heals.Answers.{honestly}
use Rattle.afr_law.proofs.Heals.Looks.{mend_works, settle_works}
use Rattle.afr_law.proofs.Heals.Pieces.{ShortLooks}
use Rattle.afr_law.proofs.Model.Discipline.{exactly_below, weakly_lawful}
use Rattle.afr_law.proofs.Model.Locks.{In, held_in, line_for}
use Rattle.afr_law.proofs.Model.Next.{comes}
use Rattle.afr_model_moves.proofs.ByPosition.{IsPast, past_at, past_whole}
use Rattle.afr_law.proofs.Model.Repairs.{ends_each, short_looks}
use Rattle.afr_law.proofs.Model.Settles.{all_honest, all_lawful, take_within}
use Rattle.afr_law.proofs.Model.SoundLog.{LawfulBelow}
use Rattle.afr_law.proofs.Safety.Acts.{Working, may_ask, working}
use Rattle.afr_law.specs.Beginning.{start_of}
use Rattle.afr_law_tables.specs.Codes.{kept_by}
use Rattle.afr_law.specs.Exactly.{IsLawfulExactly, name_bound}
use Rattle.afr_law.specs.ModelCovered.{ModelCarriedCovered, ModelNextCovered, ModelNextLocks, change_for}
use Rattle.afr_law.specs.ModelNext.{IsNext, asking}
use Rattle.afr_model_moves.proofs.Tests.{positive}

-- ---- by positions
-- a lock of actor a on brick b that is held at t
record Under (log : Log) (t a b : ℕ) (domain : Domain) (area : Option Area) : Type 0 where
  p : ℕ
  mine : Area
  is : area ≡ Some mine
  took : Bool
  grant : log p ≡ Some (ask_by a b (Lock domain mine) Granted took)
  on : held log t b p ≡ true

module _ (n : ℕ) (keeps : ℕ → Kind → Bool) (files : Beginning) (faults : ℕ → ℕ → Option Fault) (log : Log) (honest : Honest files faults log) (lawful : Lawful n keeps log) where
  -- the register in force
  abbrev now : ℕ → ℕ → Register
  now t a = present n log t a

  under : (t a b : ℕ) → Working n keeps files faults log honest lawful t a b (now t a) → (now t a).seen b ≡ true → (now t a).closed b ≡ false → Under log t a b Work (now t a).area
  under t a b w seen open_still =
      let lock = w.standing.under b seen in
      record { p = lock.p; mine = lock.mine; is = lock.is; took = lock.grant.took; grant = lock.grant.is; on = lock.on open_still w.live }

  work_under : (t a b : ℕ) (request : Request) (told : Told) → Changes request → log t ≡ Some (ask_by a b request told true) → Under log t a b Work (now t a).area
  work_under t a b (Pre g kind) told so is =
      let may : MayPre log t a (now t a) b g.0 kind = may_ask n keeps files faults log honest lawful t a b (Pre g kind) told true is in
      let m = positive (now t a).number may.begun_already in
      under t a b (working n keeps files faults log honest lawful t a b (Pre g kind) told m.0 is m.1) may.holder may.open_still
  work_under t a b (Apply q) told so is =
      let may : MayApply (now t a) b q = may_ask n keeps files faults log honest lawful t a b (Apply q) told true is in
      let w = working n keeps files faults log honest lawful t a b (Apply q) told q is may.own in
      under t a b w (w.numbers.ready b may.ready) may.open_still
  work_under t a b (Post q g kind missed) told so is =
      let may : MayPost n log t a (now t a) b q g.0 kind (member missed) = may_ask n keeps files faults log honest lawful t a b (Post q g kind missed) told true is in
      let w = working n keeps files faults log honest lawful t a b (Post q g kind missed) told q is may.own in
      under t a b w (w.numbers.ready b (w.numbers.acted b may.ready)) may.open_still
  work_under t a b (Mend repair) told so is =
      let may : MayMend n keeps log t a (now t a) b repair = may_ask n keeps files faults log honest lawful t a b (Mend repair) told true is in
      under t a b (mend_works n keeps files faults log honest lawful t a b repair told is).2 may.locked may.open_still
  work_under t a b (Settle g kind less) told so is =
      let may : MaySettle n keeps log t a (now t a) b g.0 kind less = may_ask n keeps files faults log honest lawful t a b (Settle g kind less) told true is in
      under t a b (settle_works n keeps files faults log honest lawful t a b g.0 kind less told is).2 may.locked may.open_still
  work_under t a b request told so is = absurd so

  heal_under : (t a b g : ℕ) (kind : Kind) (less : Marks) (told : Told) → log t ≡ Some (ask_by a b (settle_on g kind less) told true) → Under log t a b Heal (Some (heal_area g))
  heal_under t a b g kind less told is =
      let may : MaySettle n keeps log t a (now t a) b g kind less = may_ask n keeps files faults log honest lawful t a b (settle_on g kind less) told true is in
      let w = (settle_works n keeps files faults log honest lawful t a b g kind less told is).2 in
      let lock = w.standing.healing b may.healing in
      record { p = lock.p; mine = lock.mine; is = ap (λ (o : ℕ). Some (heal_area o)) may.object_same ∙ lock.is; took = lock.grant.took; grant = lock.grant.is; on = lock.on w.live }

  -- the attempt of an Apply comes before it
  apply_later : (t a b q : ℕ) (told : Told) → log t ≡ Some (ask_by a b (Apply q) told true) → q < t
  apply_later t a b q told is =
      let may : MayApply (now t a) b q = may_ask n keeps files faults log honest lawful t a b (Apply q) told true is in
      ((working n keeps files faults log honest lawful t a b (Apply q) told q is may.own).numbers.newest q may.own).0

-- ---- in the list
contains_in : (lock : HeldLock Area) (locks : List (HeldLock Area)) → In lock locks → Contains locks lock
contains_in lock [] h = absurd h
contains_in lock (x ∷ locks) (inl e) = (0, omega arith, sym e)
contains_in lock (x ∷ locks) (inr h) = (let w = contains_in lock locks h in (suc w.0, omega (arith, w.1), w.2))

-- the lock stands in the list of those that are held
lock_stands : (L : Log) (b : ℕ) (older : List Line) → IsPast L older → (a : ActorId) (domain : Domain) (area : Option Area) (w : Under L (length older) a.0 b domain area) → Contains (locks_held b older) (record { owner = a; domain = domain; area = w.mine })
lock_stands L b older h a domain area w =
    let f = held_in L b older h w.p w.on in
    let same : f.0 ≡ record { owner = a; domain = domain; area = w.mine } = same_lock f.0 f.1 (sym f.2 ∙ w.grant) in
    contains_in (record { owner = a; domain = domain; area = w.mine }) (locks_held b older) (subst (λ (l : HeldLock Area). In l (locks_held b older)) same f.3)
  where
    same_lock : (lock : HeldLock Area) (took : Bool) → Some (line_for b lock took) ≡ Some (ask_by a.0 b (Lock domain w.mine) Granted w.took) → lock ≡ record { owner = a; domain = domain; area = w.mine }
    same_lock lock took e =
        let owner : lock.owner ≡ a = cc e in
        let scope : lock.domain ≡ domain = cc e in
        let area : lock.area ≡ w.mine = cc e in
        (λ i. record { owner = owner i; domain = scope i; area = area i })

module _ (p : Plan) (n : ℕ) (five : p.shape.n ≤ 5) (log : List Line) (a : ActorId) (b : BrickId) (told : Told) where
  -- the line that asks for it, and the log with it by positions
  abbrev asks : Request → Line
  asks r = Ask a b r told true

  abbrev L : Request → Log
  L r = by_position (asks r ∷ log)

  module _ (r : Request) (below : LawfulBelow p n (asks r ∷ log)) (honest : IsHonestLog p (asks r ∷ log)) (lawful : LawfulExactly p.shape.n (start_of p n) (L r)) (looks : ShortLooks (L r)) (so : Changes r) where
    told_all : Honest (start_of p n) (fault_in p.faults) (L r)
    told_all = all_honest p n five (asks r ∷ log) below honest (take_within p n five log below.1 honest.1)

    weakly : Lawful p.shape.n (kept_by p) (L r)
    weakly = all_lawful p n five (asks r ∷ log) below

    past : IsPast (L r) (asks r ∷ log)
    past = past_whole (asks r ∷ log)

    work : Under (L r) (length log) a.0 b.0 Work (present p.shape.n (L r) (length log) a.0).area
    work = work_under p.shape.n (kept_by p) (start_of p n) (fault_in p.faults) (L r) told_all weakly (length log) a.0 b.0 r told so past.0

    may : MayExactly p.shape.n (kept_by p) (exactly.present p.shape.n (kept_by p) (L r) (length log)) (Some (asks r))
    may = subst (MayExactly p.shape.n (kept_by p) (exactly.present p.shape.n (kept_by p) (L r) (length log))) past.0 (lawful.moves (length log))

    covers_there : Covers work.mine r (change_there (L r) r)
    covers_there =
        covers_now p.shape.n (kept_by p) (L r) (honestly (start_of p n) (fault_in p.faults) (L r) told_all).shown looks lawful.moves (length log) a.0 b.0 r may.1 so work.mine
        (ap (λ (w : Register). w.area) (present_law p.shape.n (kept_by p) (L r) (length log) a.0) ∙ work.is)

  -- the attempt at its position is that of the list
  same_change : (r : Request) → LawfulBelow p n (asks r ∷ log) → IsHonestLog p (asks r ∷ log) → Changes r → change_there (L r) r ≡ change_for r log
  same_change (Apply q) below honest so =
      let r = Apply q in
      let past = past_whole (asks r ∷ log) in
      let said = all_honest p n five (asks r ∷ log) below honest (take_within p n five log below.1 honest.1) in
      let early : q < length log = apply_later p.shape.n (kept_by p) (start_of p n) (fault_in p.faults) (L r) said (all_lawful p n five (asks r ∷ log) below) (length log) a.0 b.0 q told past.0 in
      ap (option_and_then change_of) (past_at (L r) log past.1 q early)
  same_change (Pre g kind) below honest so = refl
  same_change (Post q g kind missed) below honest so = refl
  same_change (Mend repair) below honest so = refl
  same_change (Settle g kind less) below honest so = refl
  same_change r below honest so = absurd so

  heal_lock : (r : Request) → LawfulBelow p n (asks r ∷ log) → IsHonestLog p (asks r ∷ log) → HasHealLock (locks_held b.0 log) a r
  heal_lock (Settle g kind less) below honest =
      let r = Settle g kind less in
      let past = past_whole (asks r ∷ log) in
      let said = all_honest p n five (asks r ∷ log) below honest (take_within p n five log below.1 honest.1) in
      let w = heal_under p.shape.n (kept_by p) (start_of p n) (fault_in p.faults) (L r) said (all_lawful p n five (asks r ∷ log) below) (length log) a.0 b.0 g.0 kind less told past.0 in
      let same : w.mine ≡ heal_area g.0 = cc (sym w.is) in
      subst (λ (x : Area). Contains (locks_held b.0 log) (record { owner = a; domain = Heal; area = x })) same (lock_stands (L r) b.0 log past.1 a Heal (Some (heal_area g.0)) w)
  heal_lock r below honest = tt

  covered_by : (r : Request) (below : LawfulBelow p n (asks r ∷ log)) (honest : IsHonestLog p (asks r ∷ log)) → LawfulExactly p.shape.n (start_of p n) (L r) → ShortLooks (L r) → Changes r → IsCovered (locks_held b.0 log) a r (change_for r log)
  covered_by r below honest lawful looks so =
      let w = work r below honest lawful looks so in
      record {
        area = w.mine;
        work = lock_stands (L r) b.0 log (past_whole (asks r ∷ log)).1 a Work (present p.shape.n (L r) (length log) a.0).area w;
        covers = subst (Covers w.mine r) (same_change r below honest so) (covers_there r below honest lawful looks so);
        heal = heal_lock r below honest;
      }

-- ---- in the words of the model
pub next_covered : ModelNextCovered
next_covered p log a b request told five short honest lawful said next so =
    let line : Line = Ask a b request told true in
    let whole : IsLawfulExactly p (line ∷ log) = (next, lawful) in
    let told_all : IsHonestLog p (line ∷ log) = (said, honest) in
    let weak = weakly_lawful p (line ∷ log) five (omega (arith, short)) told_all whole in
    let low = ends_each p.shape.n p (line ∷ log) whole in
    covered_by p (name_bound p) five log a b told request (exactly_below p (line ∷ log) five (omega (arith, short)) told_all whole) told_all
    (exactly_lawful p.shape.n (start_of p (name_bound p)) (line ∷ log) whole) (short_looks p (line ∷ log) low weak told_all) so

pub carried_covered : ModelCarriedCovered
carried_covered p log a b r five short honest lawful may carried so =
    let w = comes p log a b r may so in
    let took : w.took ≡ true = w.is ∙ carried in
    next_covered p log a b r w.told five short honest lawful (subst (λ (k : Bool). IsHonest p (Ask a b r w.told k) log) took w.said) (subst (λ (k : Bool). IsNext p (Ask a b r w.told k) log) took w.next) so

pub next_locks : ModelNextLocks
next_locks p log a b domain area lawful may =
    let moves = (exactly_lawful p.shape.n (start_of p (name_bound p)) log lawful).moves in
    let first = opens (place (by_position log) (length log) a.0) (Some (asking a b (Lock domain area))) in
    lock_has p.shape.n (kept_by p) (exactly.in_force first (exactly.exact p.shape.n (kept_by p) (by_position log) (length log) a.0)) b.0
    (forced_has p.shape.n (kept_by p) (by_position log) moves first (length log) a.0) domain area (may.1).1

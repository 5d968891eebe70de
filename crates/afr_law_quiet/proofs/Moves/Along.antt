-- What holds of a heal from its first lock on, and goes on along its lines, holds after each of them.
use Rattle.std.proofs.Common.{◌≡◌, ℕ, ◌<◌, ◌≤◌, Bool, true, false, inl, inr, refl, sym, ap, ◌∙◌, subst, arith, true≢false, List, [], ◌∷◌, length}
use Rattle.std.specs.Prelude.{Option, Some, if◌then◌else◌}
use Rattle.std.proofs.lemmas.Bool.{eqb-true}
use Rattle.afr_base.specs.declared.ids.Kind.{Kind}
use Rattle.afr_lines.specs.Places as session
use Rattle.afr_lines.specs.Places.{place_of}
use Rattle.afr_lines.specs.Work.{is_end, is_of, work}
use Rattle.afr_lines.specs.declared.answer.Told.{Told}
use Rattle.afr_lines.specs.declared.line.Line.{Line}
use Rattle.afr_lines.specs.declared.line.Line.TheVariants.{Ask, Begin, End, Event, HealBegin, HealEnd}
use Rattle.afr_lines.specs.declared.request.Area.{Area}
use Rattle.afr_lines.specs.declared.request.Request.{Request}
use Rattle.afr_lines.specs.declared.request.Request.TheVariants.{Lock, Unlock}
use Rattle.afr_lines.specs.declared.lock.Domain.{Domain}
use Rattle.afr_lines.specs.declared.lock.Domain.TheVariants.{Heal, Work as WorkDomain}
use Rattle.afr_model.specs.Honest.{Honest}
use Rattle.afr_model_moves.proofs.ByPosition.{newest_at, older_at, past_whole}
use Rattle.afr_model_moves.proofs.Places.{of_same, opens_same, place_is}
use Rattle.afr_model_moves.proofs.Followed as followed
use Rattle.afr_model_moves.specs.Discipline.{MayAskExactly, MayExactly, MovesExactly, in_force, note, present}
use Rattle.afr_model_moves.specs.Followed.{register_by}
use Rattle.afr_model_moves.specs.Heal.{Gives, Goes, InHeal, IsUnlock, MayHeal, MayHealBegin}
use Rattle.afr_model_moves.specs.Lines.{ask_by, heal_begin_by}
use Rattle.afr_model_moves.specs.Past as past
use Rattle.afr_model_moves.specs.Past.{Log, is_gone}
use Rattle.afr_model_moves.specs.Positions.{by_position}
use Rattle.afr_model_moves.specs.Register.{Exact, Untouched, untouched}
use Rattle.afr_model_moves.specs.Rules as weak
use Rattle.afr_model_moves.specs.Rules.{heal_area}
use Rattle.afr_model_moves.specs.Transaction.{MayOpen, Outside}
use Rattle.afr_plan.specs.declared.plan.Plan.{Plan}
use Rattle.afr_law_tables.specs.Codes.{kept_by}
use Rattle.afr_law.proofs.Discipline.Asks.{IsHealLock, kept, kept_dropped}
use Rattle.afr_law.proofs.Discipline.ByList.{exactly_lawful}
use Rattle.afr_law.proofs.Discipline.Projection.{same_actor}
use Rattle.afr_law.proofs.Discipline.Untouched.{still_now}
use Rattle.afr_law.proofs.Heals.Along.{healed_by, healed_is, opened_by}
use Rattle.afr_law.proofs.Heals.Opening.{opens_here}
use Rattle.afr_law.specs.Beginning.{start_of}
use Rattle.afr_law.specs.Exactly.{IsLawfulExactly, name_bound}

-- what is presumed of a log
pub record Premises (p : Plan) (log : List Line) : Type 0 where
  pub five : p.shape.n ≤ 5
  pub short : length log ≤ 4000000
  pub honest : Honest p log
  pub lawful : IsLawfulExactly p log

-- and so of the lines before the newest
pub earlier : (p : Plan) (line : Line) (older : List Line) → Premises p (line ∷ older) → Premises p older
earlier p line older k = record { five = k.five; short = (let s = k.short in omega (arith, s)); honest = k.honest.1; lawful = k.lawful.1 }

-- the lines of the actor's present work stand together at the end of the log
abbrev pub Joined : ℕ → List Line → Type 0
Joined a [] = Unit {0}
Joined a (line ∷ older) = (is_of a line ≡ true → is_end line ≡ false → Joined a older) × (is_of a line ≡ false → work a older ≡ [])

module _ (p : Plan) (a : ℕ) where
  -- the register of the actor after these lines
  abbrev pub reg : List Line → Exact
  reg log = register_by p.shape.n (kept_by p) a log

  -- the one in force at a line
  abbrev pub force : Line → List Line → Exact
  force line older = in_force (session.opens (place_of a older) line) (reg older)

  -- the line opens a work or a heal by positions, where it does by the list
  opened_is : (line : Line) (older : List Line) → weak.opened (by_position (line ∷ older)) (length older) a ≡ session.opens (place_of a older) line
  opened_is line older = (λ i. past.opens (place_is (by_position (line ∷ older)) a older (past_whole (line ∷ older)).1 i) (newest_at line older i)) ∙ opens_same (place_of a older) line

  -- it is the register in force by positions
  pub present_is : (line : Line) (older : List Line) → present p.shape.n (kept_by p) (by_position (line ∷ older)) (length older) a ≡ force line older
  present_is line older =
      (λ i. in_force (weak.opened (by_position (line ∷ older)) (length older) a) (followed.exact_same (by_position (line ∷ older)) (by_position older) (length older) (older_at line older) p.shape.n (kept_by p) a (length older) (omega arith) i))
      ∙ (λ i. in_force (opened_is line older i) (sym (followed.register_is p.shape.n (kept_by p) a older) i))

  -- a line of the actor is a move that its register in force allows
  pub moves_of : (log : List Line) → Premises p log → MovesExactly p.shape.n (kept_by p) (by_position log)
  moves_of log k = (exactly_lawful p.shape.n (start_of p (name_bound p)) log k.lawful).moves

  pub may_own : (line : Line) (older : List Line) → Premises p (line ∷ older) → is_of a line ≡ true → MayExactly p.shape.n (kept_by p) (λ x. force line older) (Some line)
  may_own line older k mine =
      subst (λ (r : Exact). MayExactly p.shape.n (kept_by p) (λ x. r) (Some line)) (present_is line older)
      (subst (λ (l : Option Line). MayExactly p.shape.n (kept_by p) (λ x. present p.shape.n (kept_by p) (by_position (line ∷ older)) (length older) a) l) (newest_at line older)
      (same_actor p.shape.n (kept_by p) (by_position (line ∷ older)) (length older) a (by_position (line ∷ older) (length older)) (ap (past.is_of a) (newest_at line older) ∙ of_same a line ∙ mine) (moves_of (line ∷ older) k (length older))))

  -- within a heal the register in force is the one after the lines before
  pub in_heal_is : (f : Bool) (r : Exact) → (in_force f r).law.heal ≡ true → in_force f r ≡ r
  in_heal_is true r e = absurd (true≢false (sym e))
  in_heal_is false r e = refl

  -- what holds of the first lock of a heal and goes on along its lines
  module _ (P : List Line → Exact → Type 0)
      (first : (older : List Line) (b g : ℕ) (told : Told) (took : Bool) → Premises p (ask_by a b (Lock Heal (heal_area g)) told took ∷ older) → session.opens (place_of a older) (ask_by a b (Lock Heal (heal_area g)) told took) ≡ true → b < p.shape.n
      → P (ask_by a b (Lock Heal (heal_area g)) told took ∷ older) (opened_by p.shape.n (kept_by p) (length older) a b (heal_area g) told took))
      (goes : (older : List Line) (b : ℕ) (request : Request) (told : Told) (took : Bool) → Premises p (ask_by a b request told took ∷ older) → force (ask_by a b request told took) older ≡ reg older → b < p.shape.n → MayHeal p.shape.n (kept_by p) (reg older) b request
      → P older (reg older) → P (ask_by a b request told took ∷ older) (healed_by p.shape.n (kept_by p) (reg older) (length older) a b request told took))
      (gives : (older : List Line) (b : ℕ) (domain : Domain) (area : Area) (told : Told) (took : Bool) → (reg older).broken ≡ true
      → P older (reg older) → P (ask_by a b (Unlock domain area) told took ∷ older) (healed_by p.shape.n (kept_by p) (reg older) (length older) a b (Unlock domain area) told took))
      (begins : (older : List Line) (g : ℕ) (kind : Kind) → Premises p (heal_begin_by a g kind ∷ older) → force (heal_begin_by a g kind) older ≡ reg older → MayHealBegin p.shape.n (reg older) g kind
      → P older (reg older) → P (heal_begin_by a g kind ∷ older) (note p.shape.n (kept_by p) (reg older) (length older) (Some (heal_begin_by a g kind)))) where
    abbrev Within : List Line → Exact → Type 0
    Within log r = r.law.heal ≡ true → P log r

    -- the first lock of a heal
    opens_lock : (older : List Line) (b : ℕ) (area : Area) (told : Told) (took : Bool) → Premises p (ask_by a b (Lock Heal area) told took ∷ older) → b < p.shape.n → MayOpen (force (ask_by a b (Lock Heal area) told took) older) b area
        → P (ask_by a b (Lock Heal area) told took ∷ older) (note p.shape.n (kept_by p) (force (ask_by a b (Lock Heal area) told took) older) (length older) (Some (ask_by a b (Lock Heal area) told took)))
    opens_lock older b area told took k below may = subst (λ (r : Exact). P (line ∷ older) (note p.shape.n (kept_by p) r (length older) (Some line))) (sym fresh) (subst Fits (sym may.range) done)
      where
        line : Line
        line = ask_by a b (Lock Heal area) told took

        L : Log
        L = by_position (line ∷ older)

        untouched_there : (present p.shape.n (kept_by p) L (length older) a).step ≡ Untouched
        untouched_there = ap (λ (r : Exact). r.step) (present_is line older) ∙ may.first

        fresh : force line older ≡ untouched
        fresh = sym (present_is line older) ∙ still_now p.shape.n (kept_by p) L (moves_of (line ∷ older) k) (length older) a untouched_there

        opened : session.opens (place_of a older) line ≡ true
        opened = sym (opened_is line older) ∙ opens_here p.shape.n (kept_by p) L (moves_of (line ∷ older) k) (length older) a b area told took (newest_at line older) untouched_there

        Fits : Area → Type 0
        Fits e = P (ask_by a b (Lock Heal e) told took ∷ older) (note p.shape.n (kept_by p) untouched (length older) (Some (ask_by a b (Lock Heal e) told took)))

        done : Fits (heal_area may.g)
        done = first older b may.g told took (subst (λ (e : Area). Premises p (ask_by a b (Lock Heal e) told took ∷ older)) may.range k) (ap (λ (e : Area). session.opens (place_of a older) (ask_by a b (Lock Heal e) told took)) (sym may.range) ∙ opened) below

    lock_at : (request : Request) → IsHealLock request → (area : Area) × (request ≡ Lock Heal area)
    lock_at (Lock Heal area) h = (area, refl)
    lock_at _ h = absurd h

    opens_line : (older : List Line) (b : ℕ) (request : Request) (told : Told) (took : Bool) → Premises p (ask_by a b request told took ∷ older) → b < p.shape.n → Outside p.shape.n (kept_by p) (force (ask_by a b request told took) older) b request
        → (area : Area) × (request ≡ Lock Heal area) → P (ask_by a b request told took ∷ older) (note p.shape.n (kept_by p) (force (ask_by a b request told took) older) (length older) (Some (ask_by a b request told took)))
    opens_line older b (Lock Heal area) told took k below may lock = opens_lock older b area told took k below may
    opens_line older b (Lock WorkDomain area) told took k below may lock = absurd (cc lock.1)
    opens_line older b _ told took k below may lock = absurd (cc lock.1)

    -- a request of the actor
    asks : (older : List Line) (b : ℕ) (request : Request) (told : Told) (took : Bool) → Premises p (ask_by a b request told took ∷ older) → b < p.shape.n → MayAskExactly p.shape.n (kept_by p) (force (ask_by a b request told took) older) b request
        → Within older (reg older) → Within (ask_by a b request told took ∷ older) (note p.shape.n (kept_by p) (force (ask_by a b request told took) older) (length older) (Some (ask_by a b request told took)))
    asks older b request told took k below (inl out) was on = (
        let r = force (ask_by a b request told took) older in
        elim (kept_dropped request r.law (weak.note_ask p.shape.n r.law b request told) (is_gone told) b (kept p.shape.n r.law b request told)).heal [
          | inl same ↦ absurd (true≢false (sym on ∙ same ∙ out.0))
          | inr lock ↦ opens_line older b request told took k below out.1 (lock_at request lock.1)
        ]
        )
    asks older b request told took k below (inr inside) was on = subst (λ (r : Exact). P (ask_by a b request told took ∷ older) (note p.shape.n (kept_by p) r (length older) (Some (ask_by a b request told took)))) (sym same)
        (subst (P (ask_by a b request told took ∷ older)) (healed_is p.shape.n (kept_by p) (reg older) (length older) a b request told took healing)
        (within request below (subst (λ (r : Exact). InHeal p.shape.n (kept_by p) r b request) same inside) k same))
      where
        in_it : (r : Exact) → InHeal p.shape.n (kept_by p) r b request → r.law.heal ≡ true
        in_it r (Goes m) = m.inside
        in_it r (Gives i broken f) = i

        same : force (ask_by a b request told took) older ≡ reg older
        same = in_heal_is (session.opens (place_of a older) (ask_by a b request told took)) (reg older) (in_it (force (ask_by a b request told took) older) inside)

        healing : (reg older).law.heal ≡ true
        healing = ap (λ (r : Exact). r.law.heal) (sym same) ∙ in_it (force (ask_by a b request told took) older) inside

        unlocks : (q : Request) → IsUnlock q → (reg older).broken ≡ true → P (ask_by a b q told took ∷ older) (healed_by p.shape.n (kept_by p) (reg older) (length older) a b q told took)
        unlocks (Unlock domain area) f broken = gives older b domain area told took broken (was healing)
        unlocks _ f broken = absurd f

        within : (q : Request) → b < p.shape.n → InHeal p.shape.n (kept_by p) (reg older) b q → Premises p (ask_by a b q told took ∷ older) → force (ask_by a b q told took) older ≡ reg older
            → P (ask_by a b q told took ∷ older) (healed_by p.shape.n (kept_by p) (reg older) (length older) a b q told took)
        within q low (Goes m) premises e = goes older b q told took premises e low m (was healing)
        within q low (Gives i broken f) premises e = unlocks q f broken

    -- a line of the actor
    own_line : (line : Line) (older : List Line) → Premises p (line ∷ older) → is_of a line ≡ true → MayExactly p.shape.n (kept_by p) (λ x. force line older) (Some line) → Within older (reg older)
        → Within (line ∷ older) (note p.shape.n (kept_by p) (force line older) (length older) (Some line))
    own_line (Ask x b request told took) older k mine may was =
        subst (λ (line : Line). Within (line ∷ older) (note p.shape.n (kept_by p) (force line older) (length older) (Some line))) (sym is)
        (asks older b.0 request told took (subst (λ (line : Line). Premises p (line ∷ older)) is k) may.0 (subst (λ (line : Line). MayAskExactly p.shape.n (kept_by p) (force line older) b.0 request) is may.1) was)
      where
        is : Ask x b request told took ≡ ask_by a b.0 request told took
        is = ap (λ (y : ℕ). ask_by y b.0 request told took) (eqb-true x.0 a mine)
    own_line (Begin x change) older k mine may was = λ on. absurd (true≢false (sym on ∙ may.outside))
    own_line (HealBegin x g kind) older k mine may was = λ on.
        subst (λ (line : Line). P (line ∷ older) (note p.shape.n (kept_by p) (force (HealBegin x g kind) older) (length older) (Some line))) (sym is)
        (subst (λ (r : Exact). P (heal_begin_by a g.0 kind ∷ older) (note p.shape.n (kept_by p) r (length older) (Some (heal_begin_by a g.0 kind)))) (sym same)
        (begins older g.0 kind (subst (λ (line : Line). Premises p (line ∷ older)) is k) (subst (λ (line : Line). force line older ≡ reg older) is same) (subst (λ (r : Exact). MayHealBegin p.shape.n r g.0 kind) same may) (was (ap (λ (r : Exact). r.law.heal) (sym same) ∙ may.inside))))
      where
        is : HealBegin x g kind ≡ heal_begin_by a g.0 kind
        is = ap (λ (y : ℕ). heal_begin_by y g.0 kind) (eqb-true x.0 a mine)

        same : force (HealBegin x g kind) older ≡ reg older
        same = in_heal_is (session.opens (place_of a older) (HealBegin x g kind)) (reg older) may.inside
    own_line (HealEnd x g kind reply) older k mine may was = λ on. absurd (true≢false (sym on))
    own_line (End x reply) older k mine may was = λ on. absurd (true≢false (sym on ∙ may.outside))
    own_line (Event e) older k mine may was = absurd (true≢false (sym mine))

    -- the actor is in no heal where it has no work
    unhealed : (log : List Line) → Premises p log → work a log ≡ [] → (reg log).law.heal ≡ false
    unhealed [] k e = refl
    unhealed (line ∷ older) k e = go (is_of a line) refl (unhealed older (earlier p line older k)) e
      where
        ends : (x : Line) → is_end x ≡ true → MayExactly p.shape.n (kept_by p) (λ y. force line older) (Some x) → (note p.shape.n (kept_by p) (force line older) (length older) (Some x)).law.heal ≡ false
        ends (End x reply) f may = may.outside
        ends (Ask x b request told took) f may = absurd (true≢false (sym f))
        ends (Begin x change) f may = absurd (true≢false (sym f))
        ends (HealBegin x g kind) f may = absurd (true≢false (sym f))
        ends (HealEnd x g kind reply) f may = absurd (true≢false (sym f))
        ends (Event x) f may = absurd (true≢false (sym f))

        own : is_of a line ≡ true → (last : Bool) → is_end line ≡ last → (if last then [] else (line, older) ∷ work a older) ≡ [] → (note p.shape.n (kept_by p) (force line older) (length older) (Some line)).law.heal ≡ false
        own mine true f e = ends line f (may_own line older k mine)
        own mine false f e = absurd (cc e)

        go : (mine : Bool) → is_of a line ≡ mine → (work a older ≡ [] → (reg older).law.heal ≡ false) → (if mine then (if is_end line then [] else (line, older) ∷ work a older) else work a older) ≡ []
            → (if mine then note p.shape.n (kept_by p) (force line older) (length older) (Some line) else reg older).law.heal ≡ false
        go true f rest e = own f (is_end line) refl e
        go false f rest e = rest e

    pub along : (log : List Line) → Premises p log → Joined a log → (reg log).law.heal ≡ true → P log (reg log)
    along [] k j on = absurd (true≢false (sym on))
    along (line ∷ older) k j on = go (is_of a line) refl (λ more. along older (earlier p line older k) more) on
      where
        ended : (x : Line) → is_end x ≡ true → MayExactly p.shape.n (kept_by p) (λ y. force line older) (Some x) → (note p.shape.n (kept_by p) (force line older) (length older) (Some x)).law.heal ≡ true → ⊥
        ended (End x reply) f may on = true≢false (sym on ∙ may.outside)
        ended (Ask x b request told took) f may on = true≢false (sym f)
        ended (Begin x change) f may on = true≢false (sym f)
        ended (HealBegin x g kind) f may on = true≢false (sym f)
        ended (HealEnd x g kind reply) f may on = true≢false (sym f)
        ended (Event x) f may on = true≢false (sym f)

        own : is_of a line ≡ true → (Joined a older → Within older (reg older)) → (last : Bool) → is_end line ≡ last → Within (line ∷ older) (note p.shape.n (kept_by p) (force line older) (length older) (Some line))
        own mine rest true f on = absurd (ended line f (may_own line older k mine) on)
        own mine rest false f on = own_line line older k mine (may_own line older k mine) (rest (j.0 mine f)) on

        go : (mine : Bool) → is_of a line ≡ mine → (Joined a older → Within older (reg older)) → (if mine then note p.shape.n (kept_by p) (force line older) (length older) (Some line) else reg older).law.heal ≡ true
            → P (line ∷ older) (if mine then note p.shape.n (kept_by p) (force line older) (length older) (Some line) else reg older)
        go true f rest on = own f rest (is_end line) refl on
        go false f rest on = absurd (true≢false (sym on ∙ unhealed older (earlier p line older k) (j.1 f)))

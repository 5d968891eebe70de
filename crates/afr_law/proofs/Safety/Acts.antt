-- Lines that act on a cell, and the lock under which they do.
use Rattle.std.specs.Prelude.{List as Seq, Option, None, Some, ◌==◌, if◌then◌else◌}
use Rattle.afr_lines.specs.declared.fault.Fault.{Fault}
use Rattle.afr_base.specs.Bricks.{member}
use Rattle.std.proofs.Common.{◌≡◌, ℕ, zero, suc, ◌<◌, ◌≤◌, Bool, true, false, ◌&&◌, ◌||◌, not, ◌⊎◌, inl, inr, refl, sym, ap, ◌∙◌, subst, arith}
use Rattle.afr_base.specs.declared.ids.Kind.{Kind}
use Rattle.afr_object.specs.declared.change.Repair.{Repair}
use Rattle.afr_object.specs.declared.change.Change.{Change}
use Rattle.afr_lines.specs.declared.request.Area.{Area}
use Rattle.afr_lines.specs.declared.request.Request.{Request}
use Rattle.afr_lines.specs.declared.request.Request.TheVariants.{Apply}
use Rattle.afr_lines.specs.declared.answer.Told.{Told}
use Rattle.afr_lines.specs.declared.line.Line.{Line}
use Rattle.afr_lines.specs.declared.line.Line.TheVariants.{Begin, HealBegin}
use Rattle.afr_model_moves.specs.Cells.{Cell, covers, touches, is_cell, object_of, kind_of}
use Rattle.afr_model_moves.specs.Past.{Beginning, Log, last, last_after, changes, mends, started, linked, joined, opening, opens, place, is_of}
use Rattle.afr_model_moves.specs.Honest.{HonestAsk, HonestLine, Honest, asked}
use Rattle.afr_model_moves.specs.Rules.{Register, CoveredBy, CoversAll, CoversMend, PlaneIs, MayApply, MayPost, in_force, register, May, MayAsk, Lawful, opened, present}
use Rattle.afr_law.proofs.Safety.Locks.{Locked, apart_others}
use Rattle.afr_law.proofs.Safety.Standing.{Standing}
use Rattle.afr_law.proofs.Safety.Registers.{standing}
use Rattle.afr_law.proofs.Safety.Numbers.{Applied, Numbered, numbered, last_asked}
use Rattle.afr_model_moves.specs.Lines.{ask_by, post_on}
use Rattle.std.proofs.lemmas.Bool.{cases_lt, cases_eq}

-- suc of a number stands in `last` from its line on
last_cases : (log : Log) (t a : ℕ) → (last log (suc t) a ≡ last log t a) ⊎ (last log (suc t) a ≡ suc t)
unfolding last
last_cases log t a = go (log t)
  where
    pick : (b : Bool) → ((if b then suc t else last log t a) ≡ last log t a) ⊎ ((if b then suc t else last log t a) ≡ suc t)
    pick true = inr refl
    pick false = inl refl

    go : (line : Option Line) → (last_after (last log t a) a t line ≡ last log t a) ⊎ (last_after (last log t a) a t line ≡ suc t)
    go (Some (Begin x change)) = pick (x.0 == a)
    go (Some (HealBegin x g kind)) = pick (x.0 == a)
    go _ = inl refl

last_under : (log : Log) (a t : ℕ) → last log t a ≤ t
unfolding last
last_under log a zero = omega arith
last_under log a (suc t) = elim (last_cases log t a) [ inl e ↦ omega (arith, e, last_under log a t) | inr e ↦ omega (arith, e) ]

pub last_rises : (log : Log) (a t u : ℕ) → t ≤ u → last log t a ≤ last log u a
last_rises log a t zero h = (let e : t ≡ 0 = omega arith in rw e (omega arith))
last_rises log a t (suc u) h =
    elim (cases_lt u t) [
      | inl over ↦ (let e : t ≡ suc u = omega arith in rw e (omega arith))
      | inr under ↦ (let before = last_rises log a t u under in elim (last_cases log u a) [ inl e ↦ omega (arith, before, e) | inr e ↦ omega (arith, last_under log a t, under, e) ])
    ]

last_is : (log : Log) (a u m : ℕ) → last log u a ≡ suc m → (m < u) × (last log (suc m) a ≡ suc m)
unfolding last
last_is log a zero m e = absurd (cc e)
last_is log a (suc u) m e =
    elim (last_cases log u a) [
      | inl same ↦ (let w = last_is log a u m (sym same ∙ e) in (omega (arith, w.0), w.1))
      | inr new ↦ (let here : m ≡ u = omega (arith, new, e) in (omega (arith, here), rw here new))
    ]

-- number n acts on the cell at brick b, by the line at t
pub record Act (log : Log) (cell : Cell) (n b t : ℕ) : Type 0 where
  pub a : ℕ
  pub locked : Locked log cell n a b t
  pub newest : last log t a ≡ suc n
  pub ask : last log (suc t) a ≡ last log t a

pub act_later : (log : Log) (cell : Cell) (n b t : ℕ) → Act log cell n b t → n < t
act_later log cell n b t act = act.locked.after

pub acts_apart : (files : Beginning) (faults : ℕ → ℕ → Option Fault) (log : Log) → Honest files faults log → (cell : Cell) (n m b t u : ℕ) → Act log cell n b t → Act log cell m b u → n < m → t < m
acts_apart files faults log honest cell n m b t u one two less =
    elim (cases_eq one.a two.a) [
      | inl same ↦ (
          elim (cases_lt t m) [
            | inl early ↦ early
            | inr late ↦ absurd (
                let was = last_is log two.a u m two.newest in
                let mine : last log (suc m) one.a ≡ suc m = rw same was.1 in
                let over : last log (suc m) one.a ≤ last log (suc t) one.a = last_rises log one.a (suc m) (suc t) (omega (arith, late)) in
                omega (arith, mine, over, one.ask, one.newest, less)
                )
          ]
          )
      | inr other ↦ apart_others files faults log honest cell n m one.a two.a b t u one.locked two.locked other less
    ]

live_took : (files : Beginning) (log : Log) (t a b : ℕ) (request : Request) (told : Told) (live : Bool) (fault : Option Fault) → HonestAsk files log t a b request told true live fault → live ≡ true
live_took files log t a b request told false fault h = absurd (cc h.1)
live_took files log t a b request told true fault h = refl

module _ (n : ℕ) (keeps : ℕ → Kind → Bool) (files : Beginning) (faults : ℕ → ℕ → Option Fault) (log : Log) (honest : Honest files faults log) (lawful : Lawful n keeps log) where
  -- what a line that was carried out for a numbered register shows
  pub record Working (t a b : ℕ) (r : Register) : Type 0 where
    pub late : opened log t a ≡ false
    pub standing : Standing log t a r
    pub numbers : Numbered log t a r
    pub live : joined log t a b ≡ true

  pub working : (t a b : ℕ) (request : Request) (told : Told) (q : ℕ) → log t ≡ Some (ask_by a b request told true) → (present n log t a).number ≡ suc q → Working t a b (present n log t a)
  unfolding opening
  working t a b request told q is number = go (opens (place log t a) (log t)) refl number
    where
      live : (joined log t a b || opening log t a b) ≡ true
      live = live_took files log t a b request told (joined log t a b || opening log t a b) (faults b (suc (asked log t b))) (subst (HonestLine files faults log t) is (honest t))

      part : (j i o s l : Bool) → o ≡ false → (j || (i && o && s && l)) ≡ true → j ≡ true
      part true i o s l e h = refl
      part false i o s l e h = grind arith

      go : (first : Bool) → opens (place log t a) (log t) ≡ first → (in_force first (register n log t a)).number ≡ suc q → Working t a b (in_force first (register n log t a))
      go true e k = absurd (cc k)
      go false e k = record {
        late = e;
        standing = standing n keeps files faults log honest lawful t a;
        numbers = numbered n keeps files faults log honest lawful t a;
        live = part (joined log t a b) (is_of a (log t)) (opens (place log t a) (log t)) (started log t b) (linked log t a b) e live;
      }

  covered_from : (cell : Cell) (area : Option Area) (mine : Area) (change : Change) → CoveredBy area change → area ≡ Some mine → touches change cell ≡ true → covers mine cell ≡ true
  covered_from cell None mine change h e touch = absurd h
  covered_from cell (Some area) mine change h e touch = go mine (cc e)
    where
      go : (mine : Area) → area ≡ mine → covers mine cell ≡ true
      go mine same = rw (← same) (h cell touch)

  pub mend_covers : (cell : Cell) (area : Option Area) (mine : Area) (repair : Repair) → CoversMend area repair → area ≡ Some mine → mends repair cell ≡ true → covers mine cell ≡ true
  mend_covers cell None mine repair h e touch = absurd h
  mend_covers cell (Some area) mine repair h e touch = go mine (cc e)
    where
      go : (mine : Area) → area ≡ mine → covers mine cell ≡ true
      go mine same = rw (← same) (h cell touch)

  pub all_covers : (cell : Cell) (area : Option Area) (mine : Area) (g : ℕ) (kind : Kind) → CoversAll area g kind → area ≡ Some mine → is_cell cell ≡ true → object_of cell ≡ g → kind_of cell ≡ kind → covers mine cell ≡ true
  all_covers cell None mine g kind h e real o k = absurd h
  all_covers cell (Some area) mine g kind h e real o k = go mine (cc e)
    where
      go : (mine : Area) → area ≡ mine → covers mine cell ≡ true
      go mine same = rw (← same) (h cell real o k)

  -- an act of the present number at a brick that was locked before it
  pub acting : (cell : Cell) (t a b : ℕ) (r : Register) (request : Request) (told : Told) (q : ℕ) → log t ≡ Some (ask_by a b request told true) → Working t a b r → r.number ≡ suc q → r.seen b ≡ true → r.closed b ≡ false
      → ((mine : Area) → r.area ≡ Some mine → covers mine cell ≡ true) → Act log cell q b t
  acting cell t a b r request told q is w number seen open_still inside =
      let lock = w.standing.under b seen in
      let newest = w.numbers.newest q number in
      record {
        a = a;
        locked = record {
          p = lock.p;
          area = lock.mine;
          grant = lock.grant;
          before = lock.before q number;
          after = newest.0;
          still = lock.on open_still w.live;
          covered = inside lock.mine lock.is;
        };
        newest = newest.1;
        ask = last_asked log t a b request told true is;
      }

  attempt_covers : (cell : Cell) (t a b q : ℕ) (r : Register) → Working t a b r → r.heal ≡ false → r.number ≡ suc q → changes (log q) cell ≡ true → (mine : Area) → r.area ≡ Some mine → covers mine cell ≡ true
  attempt_covers cell t a b q r w out number touch mine e =
      let attempt = w.numbers.attempt q out number in
      covered_from cell r.area mine attempt.change attempt.within e (subst (λ l. changes l cell ≡ true) attempt.is touch)

  pub may_ask : (t a b : ℕ) (request : Request) (told : Told) (took : Bool) → log t ≡ Some (ask_by a b request told took) → MayAsk n keeps log t a (opened log t a) (present n log t a) b request
  may_ask t a b request told took is = (subst (May n keeps log t (opened log t) (present n log t)) is (lawful t)).1

  pub apply_acts : (cell : Cell) (t a b q : ℕ) (told : Told) → log t ≡ Some (ask_by a b (Apply q) told true) → changes (log q) cell ≡ true → Act log cell q b t
  apply_acts cell t a b q told is touch =
      let may : MayApply (present n log t a) b q = may_ask t a b (Apply q) told true is in
      let w = working t a b (Apply q) told q is may.own in
      acting cell t a b (present n log t a) (Apply q) told q is w may.own (w.numbers.ready b may.ready) may.open_still
      (attempt_covers cell t a b q (present n log t a) w may.outside may.own touch)

  pub post_acts : (cell : Cell) (t a b q g : ℕ) (kind : Kind) (missed : Seq ℕ) (told : Told) → log t ≡ Some (ask_by a b (post_on q g kind missed) told true) → changes (log q) cell ≡ true → Act log cell q b t
  post_acts cell t a b q g kind missed told is touch =
      let may : MayPost n log t a (present n log t a) b q g kind (member missed) = may_ask t a b (post_on q g kind missed) told true is in
      let w = working t a b (post_on q g kind missed) told q is may.own in
      acting cell t a b (present n log t a) (post_on q g kind missed) told q is w may.own (w.numbers.ready b (w.numbers.acted b may.ready)) may.open_still
      (attempt_covers cell t a b q (present n log t a) w may.outside may.own touch)

  -- each brick that a Post line doesn't name has the attempt
  pub post_exact : (t a b q g : ℕ) (kind : Kind) (missed : Seq ℕ) (told : Told) → log t ≡ Some (ask_by a b (post_on q g kind missed) told true) → (c : ℕ) → c < n → (member missed c ≡ true) ⊎ Applied log t a c q
  post_exact t a b q g kind missed told is c below =
      let may : MayPost n log t a (present n log t a) b q g kind (member missed) = may_ask t a b (post_on q g kind missed) told true is in
      let w = working t a b (post_on q g kind missed) told q is may.own in
      go ((present n log t a).done c) refl (may.exact c below) (w.numbers.applied q c may.own)
    where
      go : (done : Bool) → (present n log t a).done c ≡ done → member missed c ≡ not ((present n log t a).done c) → ((present n log t a).done c ≡ true → Applied log t a c q) → (member missed c ≡ true) ⊎ Applied log t a c q
      go true e m f = inr (f e)
      go false e m f = inl (m ∙ ap not e)

  pub post_plane : (t a b q g : ℕ) (kind : Kind) (missed : Seq ℕ) (told : Told) → log t ≡ Some (ask_by a b (post_on q g kind missed) told true) → PlaneIs (log q) g kind
  post_plane t a b q g kind missed told is =
      let may : MayPost n log t a (present n log t a) b q g kind (member missed) = may_ask t a b (post_on q g kind missed) told true is in may.plane

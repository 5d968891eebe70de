-- Who was told that another holds the lock waits for one that goes on, and not all can wait.
use Rattle.std.proofs.Common.{◌≡◌, ℕ, suc, ◌+◌, ◌*◌, ◌<◌, ◌≤◌, ◌&&◌, ◌||◌, not, ◌==◌, Bool, true, false, inl, inr, refl, sym, ◌∙◌, subst, ap, arith, Option, Some, None, true≢false}
use Rattle.std.specs.Prelude.{if◌then◌else◌}
use Rattle.std.proofs.lemmas.Bool.{eqb-true}
use Rattle.std.proofs.lemmas.Bool.Decides.{nat_tests}
use Rattle.afr_base.specs.Bricks.{and_right}
use Rattle.afr_base.specs.declared.ids.ActorId.{ActorId}
use Rattle.afr_lines.specs.declared.fault.Fault.TheVariants.{Fail, Lost}
use Rattle.afr_lines.specs.declared.fault.Fault.{Fault}
use Rattle.afr_lines.specs.Overlap.{overlap}
use Rattle.afr_lines.specs.declared.answer.Told.TheVariants.{Granted, Held}
use Rattle.afr_lines.specs.declared.answer.Told.{Told}
use Rattle.afr_lines.specs.declared.line.Line.TheVariants.{Ask, Begin, End, Event, HealBegin, HealEnd}
use Rattle.afr_lines.specs.declared.line.Line.{Line}
use Rattle.afr_lines.specs.declared.request.Area.TheVariants.{Name, Range}
use Rattle.afr_lines.specs.declared.request.Area.{Area}
use Rattle.afr_lines.specs.declared.request.Request.TheVariants.{Lock}
use Rattle.afr_model_moves.proofs.Tests.{first_equal, same_self}
use Rattle.afr_model_moves.specs.Discipline.{MayExactly, MovesExactly, exact, exact_after, in_force, note, present}
use Rattle.afr_model_moves.specs.Honest.{Honest, HonestAsk, asked}
use Rattle.afr_model_moves.specs.Lines.{ask_by}
use Rattle.afr_model_moves.specs.Past.{Beginning, Log, blocks, held, is_of, joined, opening, opens, place}
use Rattle.afr_model_moves.specs.Rules as weak
use Rattle.afr_model_moves.specs.Rules.{Register, area_object, begun, busy, is_area}
use Rattle.afr_lines.specs.declared.lock.Domain.TheVariants.{Heal, Work}
use Rattle.afr_lines.specs.declared.lock.Domain.{Domain}
use Rattle.afr_law_bound.proofs.Begun.{begun_now}
use Rattle.afr_law_bound.proofs.Circle.{Gathered, In, gather, no_rise}
use Rattle.afr_law_bound.proofs.Kept.{Has, IsOneOf, has_busy, kept, locks, one_of}
use Rattle.afr_law_bound.proofs.Nones.{NoSecond, nones_now}
use Rattle.afr_law.proofs.Safety.Acks.{opens_out}
use Rattle.afr_law.proofs.Safety.Sessions.{held_joined, held_line, honest_at}
use Rattle.afr_law.proofs.Discipline.Projection.{same_actor}
use Rattle.afr_law.proofs.Safety.Locks.{Grant}
use Rattle.afr_law_bound.specs.Waiting.{First, Holds, IsBelow, IsStill, RisesTo, Second, Waits}

overlap_object : (x y : Area) → overlap x y ≡ true → area_object x ≡ area_object y
overlap_object (Range g from to) (Range h start stop) e = first_equal g.0 h.0 _ e
overlap_object (Name g n) (Name h m) e = first_equal g.0 h.0 _ e
overlap_object (Range g from to) (Name h m) e = absurd (true≢false (sym e))
overlap_object (Name g n) (Range h start stop) e = absurd (true≢false (sym e))

-- what is in the way is held by another, on the same object
blocking : (a x b : ℕ) (domain : Domain) (area e : Area) (took : Bool) → blocks a Work area (Some (ask_by x b (Lock domain e) Granted took)) ≡ true → (domain ≡ Work) × (x ≡ a → ⊥) × (area_object e ≡ area_object area)
blocking a x b Heal area e took h = absurd (true≢false (sym h))
blocking a x b Work area e took h = (refl, λ same. other (x == a) (let k : (x == a) ≡ true = grind (arith, nat_tests, same) in k) h, sym (overlap_object area e (and_right (not (x == a)) (overlap area e) h)))
  where
    other : (m : Bool) → m ≡ true → (not m && overlap area e) ≡ true → ⊥
    other true k l = true≢false (sym l)
    other false k l = true≢false (sym k)

-- whom a line is of
not_of : (a x b : ℕ) (area : Area) (told : Told) (took : Bool) → (x ≡ a → ⊥) → is_of x (Some (ask_by a b (Lock Work area) told took)) ≡ false
not_of a x b area told took apart = go (a == x) refl
  where
    go : (m : Bool) → (a == x) ≡ m → m ≡ false
    go true e = absurd (apart (sym (eqb-true a x e)))
    go false e = refl

-- asking in vain, the actor holds no more than it held
locking_holds : (n : ℕ) (w : Register) (area : Area) (c : ℕ) (mine : Area) → NoSecond w → (busy n w ≡ true → IsOneOf w area) → Holds (weak.locking n w area) c mine → Holds w c mine
locking_holds n w area c mine none one = go (busy n w) (is_area w.area area) refl refl
  where
    go : (some own : Bool) → busy n w ≡ some → is_area w.area area ≡ own → Holds (if some then record w { second = if own then w.second else Some area } else begun w area) c mine → Holds w c mine
    go true true e f (First is m) = First is m
    go true true e f (Second is m) = Second is m
    go true false e f (First is m) = First is m
    go true false e f (Second is m) = elim (one e) [
      | inl own ↦ absurd (true≢false (sym own ∙ f))
      | inr (inl empty) ↦ absurd (true≢false (sym m ∙ none empty c))
      | inr (inr same) ↦ Second (same ∙ is) m
    ]
    go false own e f (First is m) = absurd (true≢false (sym m))
    go false own e f (Second is m) = absurd (true≢false (sym m))

module _ (n : ℕ) (files : Beginning) (faults : ℕ → ℕ → Option Fault) (log : Log) (honest : Honest files faults log) (moves : MovesExactly n files.keeps log) where
  abbrev register : ℕ → ℕ → Register
  register t a = (exact n files.keeps log t a).law

  -- a line of another leaves the register
  other_line : (t a : ℕ) → is_of a (log t) ≡ false → register (suc t) a ≡ register t a
  unfolding exact
  other_line t a e = go (is_of a (log t)) e
    where
      go : (mine : Bool) → mine ≡ false → (exact_after n files.keeps mine (opens (place log t a) (log t)) (exact n files.keeps log t a) t (log t)).law ≡ (exact n files.keeps log t a).law
      go true f = absurd (true≢false f)
      go false f = refl

  own_line : (t a : ℕ) → is_of a (log t) ≡ true → register (suc t) a ≡ (note n files.keeps (present n files.keeps log t a) t (log t)).law
  unfolding exact
  own_line t a e = go (is_of a (log t)) e
    where
      go : (mine : Bool) → mine ≡ true → (exact_after n files.keeps mine (opens (place log t a) (log t)) (exact n files.keeps log t a) t (log t)).law ≡ (note n files.keeps (present n files.keeps log t a) t (log t)).law
      go true f = refl
      go false f = absurd (true≢false (sym f))

  module _ (t a b : ℕ) (area : Area) (owner : ActorId) (took : Bool) (is : log t ≡ Some (ask_by a b (Lock Work area) (Held owner) took)) where
    mine : is_of a (log t) ≡ true
    mine = ap (is_of a) is ∙ same_self a

    may : MayExactly n files.keeps (λ x. present n files.keeps log t a) (Some (ask_by a b (Lock Work area) (Held owner) took))
    may = subst (MayExactly n files.keeps (λ x. present n files.keeps log t a)) is (same_actor n files.keeps log t a (log t) mine (moves t))

    -- the register after the line
    after : register (suc t) a ≡ weak.locking n (present n files.keeps log t a).law area
    after = own_line t a mine ∙ ap (λ (l : Option Line). (note n files.keeps (present n files.keeps log t a) t l).law) is

    one : busy n (present n files.keeps log t a).law ≡ true → IsOneOf (present n files.keeps log t a).law area
    one some = one_of n files.keeps (present n files.keeps log t a) (begun_now n files.keeps log moves t a) b area some may.1

    rising_after : RisesTo n (present n files.keeps log t a).law b area → RisesTo n (register (suc t) a) b area
    rising_after rises c held_area low h =
        rises c held_area low (locking_holds n (present n files.keeps log t a).law area c held_area (nones_now n files.keeps log moves t a) one (subst (λ (w : Register). Holds w c held_area) after h))

    way : (live : Bool) (fault : Option Fault) → HonestAsk files log t a b (Lock Work area) (Held owner) took live fault → (p : ℕ) × (held log t b p ≡ true) × (blocks a Work area (log p) ≡ true)
    way false fault h = absurd (cc h.0)
    way true (Some Fail) h = absurd (cc h.0)
    way true (Some Lost) h = absurd (cc h.0)
    way true None h = h.0

    -- who is told so waits, for one that has a session
    pub told_waits : RisesTo n (present n files.keeps log t a).law b area → (w : Waits n files.keeps log (suc t) a) × (joined log t w.owner w.b ≡ true) × (w.owner ≡ a → ⊥)
    told_waits rises =
        let w = way (joined log t a b || opening log t a b) (faults b (suc (asked log t b))) (honest_at files faults log honest t a b (Lock Work area) (Held owner) took is) in
        let l = held_line log t b w.0 w.1 in
        let k = blocking a l.0 b l.1 area l.2 l.3 (ap (blocks a Work area) (sym l.4) ∙ w.2) in
        let grant : Grant log w.0 l.0 b Work l.2 = record { took = l.3; is = l.4 ∙ ap (λ (d : Domain). Some (ask_by l.0 b (Lock d l.2) Granted l.3)) k.0 } in
        let has = (kept n files faults log honest moves t l.0).locks b w.0 l.2 grant w.1 in
        let same : register (suc t) l.0 ≡ register t l.0 = other_line t l.0 (ap (is_of l.0) is ∙ not_of a l.0 b area (Held owner) took k.1) in (
          record {
            b = b;
            area = area;
            below = may.0;
            rises = rising_after rises;
            owner = l.0;
            taken = l.2;
            holds = subst (λ (r : Register). Holds r b l.2) (sym same) has.holds;
            same = k.2;
          },
          held_joined files faults log honest t l.0 b w.0 Work l.2 grant w.1,
          k.1,
        )

    -- what an actor holds, it holds after that line of its own
    pub told_holds : (c : ℕ) (taken : Area) → c < n → Holds (register t a) c taken → Holds (register (suc t) a) c taken
    told_holds c taken low h =
        let r = present n files.keeps log t a in
        let has : Has n r.law c taken = forced (opens (place log t a) (log t)) refl in
        subst (λ (w : Register). Holds w c taken) (sym after) (locks n r.law c taken has b area (one (has_busy n r.law c taken has)) (Held owner)).holds
      where
        forced : (first : Bool) → opens (place log t a) (log t) ≡ first → Has n (in_force first (exact n files.keeps log t a)).law c taken
        forced false e = record { below = low; holds = h }
        forced true e = absurd (true≢false (sym (has_busy n (register t a) c taken (record { below = low; holds = h })) ∙ (kept n files faults log honest moves t a).rest (opens_out (place log t a) (log t) e)))

  -- ---- further lines
  -- an actor that waits goes on waiting while others are told of nothing done
  holds_on : (t x c : ℕ) (taken : Area) → c < n → IsStill (log t) → Holds (register t x) c taken → Holds (register (suc t) x) c taken
  holds_on t x c taken low still h = go (log t) refl still
    where
      same : is_of x (log t) ≡ false → Holds (register (suc t) x) c taken
      same e = subst (λ (w : Register). Holds w c taken) (sym (other_line t x e)) h

      go : (line : Option Line) → log t ≡ line → IsStill line → Holds (register (suc t) x) c taken
      go (Some (Ask a b (Lock Work area) (Held owner) took)) is still = turn (a.0 == x) refl
        where
          turn : (m : Bool) → (a.0 == x) ≡ m → Holds (register (suc t) x) c taken
          turn true e = (let at : log t ≡ Some (ask_by x b.0 (Lock Work area) (Held owner) took) = is ∙ ap (λ (k : ℕ). Some (ask_by k b.0 (Lock Work area) (Held owner) took)) (eqb-true a.0 x e) in told_holds t x b.0 area owner took at c taken low h)
          turn false e = same (ap (is_of x) is ∙ e)
      go (Some (Event event)) is still = same (ap (is_of x) is)
      go (Some (Ask a b _ told took)) is still = absurd still
      go (Some (Begin a change)) is still = absurd still
      go (Some (HealBegin a g kind)) is still = absurd still
      go (Some (End a said)) is still = absurd still
      go (Some (HealEnd a g kind said)) is still = absurd still
      go None is still = absurd still

  pub waits_on : (t a : ℕ) → IsStill (log t) → is_of a (log t) ≡ false → (w : Waits n files.keeps log t a) → (v : Waits n files.keeps log (suc t) a) × (v.owner ≡ w.owner)
  waits_on t a still other w = (
    record {
      b = w.b;
      area = w.area;
      below = w.below;
      rises = λ c mine low h. w.rises c mine low (subst (λ (r : Register). Holds r c mine) (other_line t a other) h);
      owner = w.owner;
      taken = w.taken;
      holds = holds_on t w.owner w.b w.taken w.below still w.holds;
      same = w.same;
    },
    refl,
  )

  -- ---- not all can wait
  -- the place of a lock, as a number
  abbrev rank_of : ℕ → ℕ → ℕ
  rank_of g b = g * 8 + b

  below_rank : (g b h c : ℕ) → b < 8 → IsBelow g b h c → rank_of g b < rank_of h c
  below_rank g b h c low (inl less) = omega (arith, low, less)
  below_rank g b h c low (inr w) = omega (arith, low, w.0, w.1)

  -- of actors below k, of whom each waits for one of them, there is none
  pub nobody : (few : n ≤ 8) (t k : ℕ) (test : ℕ → Bool) (P : ℕ → Type 0) → ((a : ℕ) → a < k → test a ≡ true → P a) → (waits : (a : ℕ) → P a → Waits n files.keeps log t a)
      → ((a : ℕ) (h : P a) → ((waits a h).owner < k) × (test (waits a h).owner ≡ true)) → (a : ℕ) → a < k → test a ≡ true → ⊥
  nobody few t k test P has waits closed a low is =
      let g = gather P test k has in
      let first = g.each a low is in
      no_rise measure g.all (λ x h. next g x) first.0 first.1
    where
      measure : (a : ℕ) × P a → ℕ
      measure x = rank_of (area_object (waits x.0 x.1).area) (waits x.0 x.1).b

      next : (g : Gathered P test k) (x : (a : ℕ) × P a) → (y : (a : ℕ) × P a) × In y g.all × (measure x < measure y)
      next g x = (
          let w = waits x.0 x.1 in
          let o = closed x.0 x.1 in
          let y = g.each w.owner o.0 o.1 in
          let v = waits (y.0).0 (y.0).1 in
          let up = v.rises w.b w.taken w.below (subst (λ (z : ℕ). Holds (register t z) w.b w.taken) (sym y.2) w.holds) in
          (y.0, y.1, below_rank (area_object w.area) w.b (area_object v.area) v.b (let l = w.below in omega (arith, l, few)) (subst (λ (z : ℕ). IsBelow z w.b (area_object v.area) v.b) w.same up))
          )

-- Where nothing is recorded against an object and kind, its copies are alike.
use Rattle.std.proofs.Common.{◌≡◌, ℕ, suc, ◌<◌, ◌≤◌, Bool, true, false, ◌⊎◌, inl, inr, refl, sym, ap, ◌∙◌, subst, arith, true≢false}
use Rattle.std.specs.Prelude.{Option, Some}
use Rattle.afr_base.specs.declared.ids.Kind.{Kind}
use Rattle.afr_base.specs.declared.ids.Kind.TheVariants.{Names}
use Rattle.afr_lines.specs.declared.fault.Fault.{Fault}
use Rattle.afr_object.specs.declared.entry.View.{View}
use Rattle.afr_object.specs.declared.change.Repair.{Repair}
use Rattle.afr_lines.specs.declared.lock.Domain.TheVariants.{Heal}
use Rattle.afr_lines.specs.declared.request.Request.TheVariants.{Apply, Mend}
use Rattle.afr_lines.specs.declared.answer.Told.{Told}
use Rattle.afr_lines.specs.declared.answer.Told.TheVariants.{Done}
use Rattle.afr_model_moves.specs.Cells.{Cell, fits, is_cell, object_of, kind_of, covers}
use Rattle.afr_model_moves.specs.Past.{Beginning, Log, born, before, last, held, changes, mends, stamp, left_by, values, value, actor_of}
use Rattle.afr_law.specs.Dirty.{DirtyTracked}
use Rattle.afr_model_moves.specs.Honest.{Honest}
use Rattle.afr_model_moves.specs.Tally.{tally}
use Rattle.afr_model_moves.specs.Rules.{Register, in_force, register, PlaneIs, MayPre, MayRaise, MayApply, MayMend, Sink, Lawful, opened, present}
use Rattle.afr_law.specs.Alike.{Unrecorded, Alike}
use Rattle.afr_model_moves.specs.Lines.{ask_by, pre_on, post_on}
use Rattle.afr_law.proofs.Safety.Locks.{held_from, excluded}
use Rattle.afr_law.proofs.Safety.Numbers.{Prepared}
use Rattle.afr_law.proofs.Safety.Acts.{Act, acts_apart, Working, working, may_ask, mend_covers}
use Rattle.afr_law.proofs.Heals.Looks.{SettleLine, look_acts, OwnPre, FirstAt, Viewing, mends_plane, heal_overlap, mend_works, settle_works}
use Rattle.afr_law.proofs.Heals.Marks.{ready}
use Rattle.afr_law.proofs.Heals.EachLine.{viewings}
use Rattle.afr_law.proofs.Safety.CellLemmas.{begins, PostedAt}
use Rattle.afr_law.proofs.Safety.CellHistory.{Brought, brings, copy_reached, copy_rises, untouched_value, unfit_value}
use Rattle.afr_law.proofs.Alike.Since.{since}
use Rattle.afr_law.proofs.Alike.Tallies.{present_tallied}
use Rattle.afr_law.proofs.Alike.Raises.{plane_one, no_piece, raise, PostBack, Swept, OwnOf, Why, ByPost, BySweep, ByOwn, raises_at, pre_act, look_act, present_start, sweep_piece, line_of, taken_back}
use Rattle.afr_law.proofs.Alike.Copies.{Fate, Everywhere, Overtaken, Brought as BroughtOn, Copies, alike}
use Rattle.afr_law.proofs.Alike.Traces.{plane_of, brought_by, brought_is, Leaves, ByRepair, number_past, one, writes, LastTouch, LastMade, LastMended, last_touch}
use Rattle.std.proofs.lemmas.Bool.{cases_lt, cases_eq}
use Rattle.afr_model_moves.proofs.Tests.{three_cases, positive}

module _ (n : ℕ) (files : Beginning) (faults : ℕ → ℕ → Option Fault) (log : Log) (honest : Honest files faults log) (lawful : Lawful n files.keeps log) (shown : DirtyTracked files log) where
  -- the register of a numbered line is no fresh one
  present_number : (t a : ℕ) → ((present n log t a).number ≡ 0 → ⊥) → present n log t a ≡ register n log t a
  present_number t a some = go (opened log t a) some
    where
      go : (first : Bool) → ((in_force first (register n log t a)).number ≡ 0 → ⊥) → in_force first (register n log t a) ≡ register n log t a
      go true k = absurd (k refl)
      go false k = refl

  view_at : (t a : ℕ) → Viewing files log t a (present n log t a)
  view_at t a = (ready n files.keeps files faults log honest lawful t a (viewings n files.keeps files faults log honest lawful t a)).viewing

  -- a Pre line of the heal that goes on at v
  in_heal : (v c h p y g : ℕ) (k : Kind) → (present n log v c).start ≡ suc h → h < p → p < v → log p ≡ Some (ask_by c y (pre_on g k) Done true) → ((present n log p c).start ≡ suc h) × MayRaise log p c (present n log p c) y g k × ((present n log p c).number ≡ 0 → ⊥)
  in_heal v c h p y g k start low high is =
      let may : MayPre log p c (present n log p c) y g k = may_ask n files.keeps files faults log honest lawful p c y (pre_on g k) Done true is in
      let same = present_number p c may.begun_already in
      let s = (since n files.keeps files faults log honest lawful v c).start h p (present_start n files.keeps files faults log honest lawful shown y g k v c h start) low (omega (arith, high)) in
      (ap (λ (q : Register). q.start) same ∙ s.0, may.within (ap (λ (q : Register). q.heal) same ∙ s.1), may.begun_already)

  module _ (cell : Cell) (real : is_cell cell ≡ true) (fit : fits (born files log (object_of cell)) cell ≡ true) where
    -- the object of the cell, and its kind
    abbrev g : ℕ
    g = object_of cell

    abbrev kind : Kind
    kind = kind_of cell

    -- its stamp on a brick, and its value there
    abbrev on : ℕ → ℕ → ℕ
    on t b = stamp files log t b cell

    abbrev has_value : ℕ → ℕ → ℕ
    has_value t b = value files log t b cell

    -- the bricks of the volume that keep such cells
    abbrev IsCopy : ℕ → Type 0
    IsCopy c = (c < n) × (files.keeps c kind ≡ true)

    -- a line acts on the cell there with this number
    abbrev Acts : ℕ → ℕ → ℕ → Type 0
    Acts = Act log cell

    -- what became of the last number m on a copy
    abbrev FateOf : ℕ → ℕ → Type 0
    FateOf t m = Fate IsCopy ℕ on has_value Acts (Leaves n files faults log honest lawful cell) t m

    risen : (c : ℕ) → files.keeps c kind ≡ true → (t u : ℕ) → t ≤ u → on t c ≤ on u c
    risen c copy t u low = copy_rises n files faults log honest lawful cell real fit c copy t u low

    -- a brick that a heal changed has what no earlier number left
    sink_stamp : (x v c : ℕ) (w : Swept n files.keeps files faults log honest lawful shown x g kind v) → Sink log v w.a (present n log v w.a) c → w.first.h < on v c
    sink_stamp x v c w sink =
        let r = present n log v w.a in
        let given = positive (r.mended c cell) (sink.whole cell real w.may.object_same w.may.kind_same) in
        let mended = (view_at v w.a).mended c cell given.0 given.1 in
        let stamped = mended.2 fit in
        omega (arith, mended.1, stamped, given.1, w.first.start_is)

    overtaken : (t x v m : ℕ) (w : Swept n files.keeps files faults log honest lawful shown x g kind v) → v < t → m < w.first.h → FateOf t m
    overtaken t x v m w past less = Overtaken w.full.s (λ c copy. over c copy (w.full.sinks c copy.0 (subst (λ k. files.keeps c k ≡ true) w.may.kind_same copy.1)))
      where
        over : (c : ℕ) → IsCopy c → ((c ≡ w.full.s) × ((present n log v w.a).kind ≡ Names → ⊥)) ⊎ Sink log v w.a (present n log v w.a) c → (c ≡ w.full.s) ⊎ (suc m < on t c)
        over c copy (inl e) = inl e.0
        over c copy (inr sink) = inr (omega (arith, less, sink_stamp x v c w sink, risen c copy.1 v t (omega (arith, past))))

    -- an attempt's raise isn't a heal's
    not_own : (x v p a q i : ℕ) (k : Kind) (w : Swept n files.keeps files faults log honest lawful shown x g kind v) (o : OwnOf n files.keeps files faults log honest lawful shown x g kind v w) → o.p ≡ p
        → log p ≡ Some (ask_by a x (pre_on i k) Done true) → last log p a ≡ suc q → PlaneIs (log q) g kind → ⊥
    not_own x v p a q i k w o e is newest plane =
        let r = present n log v w.a in
        let its : log p ≡ Some (ask_by w.a x (pre_on r.object r.kind) Done true) = subst (λ j. log j ≡ Some (ask_by w.a x (pre_on r.object r.kind) Done true)) e o.is in
        let actor : a ≡ w.a = ap actor_of (sym is ∙ its) in
        let last_its : last log p w.a ≡ suc w.first.h = subst (λ j. last log j w.a ≡ r.start) e o.newest ∙ w.first.start_is in
        let last_mine : last log p w.a ≡ suc q = subst (λ j. last log p j ≡ suc q) actor newest in
        let same : q ≡ w.first.h = omega (arith, last_its, last_mine) in
        let piece = sweep_piece n files.keeps files faults log honest lawful shown x g kind v w in
        no_piece (log q) w.a piece.g g piece.kind kind (ap log same ∙ piece.is) plane

    module _ (t : ℕ) (quiet : Unrecorded n files log t g kind) where
      -- an attempt: its Post there names no copy, or those that it named have been changed since; or a heal took its raise back
      made_fate : (b m u a : ℕ) (told : Told) → b < n → u < t → log u ≡ Some (ask_by a b (Apply m) told true) → changes (log m) cell ≡ true → FateOf t m
      made_fate b m u a told below less is hit = by back.3
        where
          may : MayApply (present n log u a) b m
          may = may_ask n files.keeps files faults log honest lawful u a b (Apply m) told true is

          work : Working n files.keeps files faults log honest lawful u a b (present n log u a)
          work = working n files.keeps files faults log honest lawful u a b (Apply m) told m is may.own

          pre : Prepared log u a b m
          pre = work.numbers.prepared m b may.outside may.own may.ready

          plane : PlaneIs (log m) g kind
          plane = plane_of (log m) cell hit

          same : (pre.g ≡ g) × (pre.kind ≡ kind)
          same = plane_one (log m) pre.g g pre.kind kind pre.plane plane

          mine : raise n files.keeps files faults log honest lawful shown b g kind pre.p ≡ true
          mine = raises_at n files.keeps files faults log honest lawful shown b g kind pre.p a pre.g pre.kind pre.is same.0 same.1

          back : (v : ℕ) × (pre.p < v) × (v < t) × Why n files.keeps files faults log honest lawful shown b g kind v pre.p
          back = taken_back n files.keeps files faults log honest lawful shown b g kind t pre.p (quiet.clean b below) mine (omega (arith, pre.past, less))

          reaches : PostBack n files.keeps files faults log honest lawful shown b g kind back.0 pre.p → (c : ℕ) → IsCopy c → m < on t c
          reaches k c copy = (
              let its : log pre.p ≡ Some (ask_by k.a b (pre_on k.pre.g k.pre.kind) Done true) = subst (λ j. log j ≡ Some (ask_by k.a b (pre_on k.pre.g k.pre.kind) Done true)) k.here k.pre.is in
              let actor : k.a ≡ a = ap actor_of (sym its ∙ pre.is) in
              let newest : last log pre.p a ≡ suc k.q = subst (λ j. last log pre.p j ≡ suc k.q) actor (subst (λ j. last log j k.a ≡ suc k.q) k.here k.pre.newest) in
              let attempt : k.q ≡ m = omega (arith, newest, pre.newest) in
              let post : PostedAt files log cell m b back.0 = record {
                a = k.a;
                g = g;
                kind = kind;
                missed = k.missed;
                told = k.told;
                is = k.is ∙ ap (λ j. Some (ask_by k.a b (post_on j g kind k.missed) k.told true)) attempt;
                touch = hit;
                held_there = k.there;
              } in
              copy_reached n files faults log honest lawful cell real fit t b c m back.0 copy.1 copy.0 post back.2 (omega (arith, quiet.unaccused b c below copy.0))
              )

          by : Why n files.keeps files faults log honest lawful shown b g kind back.0 pre.p → FateOf t m
          by (ByPost k) = Everywhere (reaches k)
          by (BySweep w early) = overtaken t b back.0 m w back.2 after
            where
              after : m < w.first.h
              after = (
                  let act = pre_act n files.keeps files faults log honest lawful shown b g kind u a m plane pre in
                  let look = look_act n files.keeps files faults log honest lawful shown b g kind back.0 w act.cell act.real act.object_is act.kind_is in
                  elim (three_cases m w.first.h) [
                    | inl under ↦ under
                    | inr (inl equal) ↦ absurd (let piece = sweep_piece n files.keeps files faults log honest lawful shown b g kind back.0 w in no_piece (log m) w.a piece.g g piece.kind kind (ap log equal ∙ piece.is) plane)
                    | inr (inr over) ↦ absurd (let soon = acts_apart files faults log honest act.cell w.first.h m b w.first.look.l pre.p look act.act over in omega (arith, soon, early, pre.after))
                  ]
                  )
          by (ByOwn w o e) = absurd (not_own b back.0 pre.p a m pre.g pre.kind w o e pre.is pre.newest plane)

      -- a piece of a heal: its heal settled with all copies, or a later one did
      module _ (b m u a : ℕ) (repair : Repair) (told : Told) (below : b < n) (less : u < t) (is : log u ≡ Some (ask_by a b (Mend repair) told true)) (hit : mends repair cell ≡ true) (number : (present n log u a).number ≡ suc m) where
        -- the register of the Mend line
        abbrev r : Register
        r = present n log u a

        may : MayMend n files.keeps log u a (present n log u a) b repair
        may = may_ask n files.keeps files faults log honest lawful u a b (Mend repair) told true is

        work : Working n files.keeps files faults log honest lawful u a b (present n log u a)
        work = (mend_works n files.keeps files faults log honest lawful u a b repair told is).2

        object_is : r.object ≡ g
        object_is = sym may.object_same ∙ (mends_plane repair cell hit).0

        kind_is : r.kind ≡ kind
        kind_is = sym may.kind_same ∙ (mends_plane repair cell hit).1

        seen_first : (view : View) × (r.first b ≡ Some view)
        seen_first = (view_at u a).raised_first b may.inside may.raised

        first : FirstAt files log u a b r.start r.object r.kind (r.settled b) (r.healing b) r.heal (r.raised b) seen_first.0
        first = (view_at u a).firsts b seen_first.0 seen_first.1

        own : OwnPre log u a b r.object r.kind r.start first.look.l
        own = first.own may.inside may.raised

        mine : raise n files.keeps files faults log honest lawful shown b g kind own.p ≡ true
        mine = raises_at n files.keeps files faults log honest lawful shown b g kind own.p a r.object r.kind own.is object_is kind_is

        back : (v : ℕ) × (own.p < v) × (v < t) × Why n files.keeps files faults log honest lawful shown b g kind v own.p
        back = taken_back n files.keeps files faults log honest lawful shown b g kind t own.p (quiet.clean b below) mine (omega (arith, own.past, less))

        -- the heal that took the raise back settled there after this line
        later : (v : ℕ) (w : Swept n files.keeps files faults log honest lawful shown b g kind v) → own.p < v → u < v
        later v w past =
            elim (three_cases u v) [
              | inl under ↦ under
              | inr (inl same) ↦ absurd (let line : log v ≡ Some (ask_by a b (Mend repair) told true) = subst (λ j. log j ≡ Some (ask_by a b (Mend repair) told true)) same is in cc (line, w.is))
              | inr (inr over) ↦ absurd (first.none may.unsettled may.healing work.live v (omega (arith, own.later, past)) over (moved (line_of n files.keeps files faults log honest lawful shown b g kind v w)))
            ]
          where
            moved : SettleLine files log v b g kind → SettleLine files log v b r.object r.kind
            moved line = subst (λ o. SettleLine files log v b o r.kind) (sym object_is) (subst (SettleLine files log v b g) (sym kind_is) line)

        -- two heals don't hold the Heal lock there at one time, and one heal raises there once, after its first look
        behind : (v : ℕ) (w : Swept n files.keeps files faults log honest lawful shown b g kind v) → u < v → own.p < w.first.look.l → w.first.h ≤ m → ⊥
        behind v w past early low = elim (cases_eq a w.a) [ inl same ↦ one_heal same | inr other ↦ two_heals other ]
          where
            s : Register
            s = present n log v w.a

            high : m < u
            high = (number_past n files faults log honest lawful cell u a b m repair told is number).0

            two_heals : (a ≡ w.a → ⊥) → ⊥
            two_heals other = (
                let its_work = settle_works n files.keeps files faults log honest lawful v w.a b g kind w.less w.told w.is in
                let lock = work.standing.healing b may.healing in
                let its = its_work.2.standing.healing b w.may.healing in
                let its_held : held log u b its.p ≡ true = held_from log v u b its.p (its.on w.live) (omega (arith, its.before w.first.h w.first.start_is, low, high)) (omega (arith, past)) in
                let same_object : r.object ≡ (present n log v w.a).object = object_is ∙ w.may.object_same in
                excluded files faults log honest cell Heal refl u b lock.p its.p a w.a lock.mine its.mine lock.grant its.grant
                (heal_overlap (present n log v w.a).object r.object its.mine lock.mine its.is lock.is (sym same_object))
                (heal_overlap r.object (present n log v w.a).object lock.mine its.mine lock.is its.is same_object)
                other (lock.on work.live) its_held
                )

            one_heal : a ≡ w.a → ⊥
            one_heal same = (
                let start_v : (register n log v a).start ≡ suc w.first.h = present_start n files.keeps files faults log honest lawful shown b g kind v a w.first.h (ap (λ j. (present n log v j).start) same ∙ w.first.start_is) in
                let follow = (since n files.keeps files faults log honest lawful v a).start w.first.h u start_v (omega (arith, low, high)) (omega (arith, past)) in
                let here = present_number u a may.begun_already in
                let begun : r.start ≡ suc w.first.h = ap (λ (q : Register). q.start) here ∙ follow.0 in
                let raised_u : (register n log u a).raised b ≡ true = sym (ap (λ (q : Register). q.raised b) here) ∙ may.raised in
                let raised_v : (register n log v a).raised b ≡ true = follow.2 b raised_u in
                let there = present_number v w.a w.may.begun_already in
                let raised_s : (present n log v w.a).raised b ≡ true = ap (λ (q : Register). q.raised b) there ∙ ap (λ j. (register n log v j).raised b) (sym same) ∙ raised_v in
                let o = w.first.own w.may.inside raised_s in
                let line : log own.p ≡ Some (ask_by w.a b (pre_on r.object r.kind) Done true) = own.is ∙ ap (λ j. Some (ask_by j b (pre_on r.object r.kind) Done true)) same in
                let inside = in_heal v w.a w.first.h o.p b (present n log v w.a).object (present n log v w.a).kind w.first.start_is (omega (arith, w.first.look.after, o.later)) o.past o.is in
                let asked = (present_tallied n files.keeps files faults log honest lawful o.p w.a inside.2).raises own.p b r.object r.kind Done true line (omega (arith, early, o.later)) (λ none. omega (arith, none, inside.0)) (omega (arith, inside.0, begun, first.start_is, first.look.after, own.later)) in
                true≢false (sym asked ∙ inside.1.once)
                )

        -- the settling heal is this one
        settled_own : (v : ℕ) (w : Swept n files.keeps files faults log honest lawful shown b g kind v) (o : OwnOf n files.keeps files faults log honest lawful shown b g kind v w) → o.p ≡ own.p → v < t → u < v → FateOf t m
        settled_own v w o e soon past = by brought.source.aside
          where
            s : Register
            s = present n log v w.a

            actor : a ≡ w.a
            actor = (
                let its : log own.p ≡ Some (ask_by w.a b (pre_on (present n log v w.a).object (present n log v w.a).kind) Done true) = subst (λ j. log j ≡ Some (ask_by w.a b (pre_on (present n log v w.a).object (present n log v w.a).kind) Done true)) e o.is in
                ap actor_of (sym own.is ∙ its)
                )

            one_start : (present n log v w.a).start ≡ r.start
            one_start = (
                let its : last log own.p w.a ≡ (present n log v w.a).start = subst (λ j. last log j w.a ≡ (present n log v w.a).start) e o.newest in
                let ours : last log own.p w.a ≡ r.start = subst (λ j. last log own.p j ≡ r.start) actor own.newest in
                sym its ∙ ours
                )

            line : log u ≡ Some (ask_by w.a b (Mend repair) told true)
            line = is ∙ ap (λ j. Some (ask_by j b (Mend repair) told true)) actor

            start_low : r.start ≤ u
            start_low = omega (arith, first.start_is, first.look.after, own.later, own.past)

            brought : Brought n files faults log honest lawful cell real fit u a (present n log u a) m (left_by (before log u) (values files log u) (log u) cell)
            brought = brings n files faults log honest lawful cell real fit u a b (present n log u a) m repair told is (view_at u a) number may hit

            given : (c : ℕ) → IsCopy c → Sink log v w.a (present n log v w.a) c → m < on t c
            given c copy sink = (
                let put = (present_tallied n files.keeps files faults log honest lawful v w.a w.may.begun_already).mends u b repair told true line past (λ none. omega (arith, none, w.first.start_is)) (omega (arith, start_low, one_start)) in
                let level : last log u w.a ≤ (present n log v w.a).mended c cell = omega (arith, put.1 cell hit, sink.level cell) in
                let newest : last log u w.a ≡ suc m = subst (λ j. last log u j ≡ suc m) actor (number_past n files faults log honest lawful cell u a b m repair told is number).1 in
                let some = positive ((present n log v w.a).mended c cell) (λ none. omega (arith, level, newest, none)) in
                let mended = (view_at v w.a).mended c cell some.0 some.1 in
                let stamped = mended.2 fit in
                omega (arith, level, newest, some.1, stamped, risen c copy.1 v t (omega (arith, soon)))
                )

            keeps_there : (c : ℕ) → files.keeps c kind ≡ true → files.keeps c (present n log v w.a).kind ≡ true
            keeps_there c copy = subst (λ k. files.keeps c k ≡ true) w.may.kind_same copy

            -- the source is the copy that was not changed
            source : (tally log u a).raises brought.s ≡ false → brought.s ≡ w.full.s
            source aside =
                elim (w.full.sinks brought.s brought.source.below (keeps_there brought.s (subst (λ k. files.keeps brought.s k ≡ true) kind_is brought.source.copy))) [
                  | inl e ↦ e.0
                  | inr sink ↦ absurd (
                      let f = (view_at v w.a).raised_first brought.s w.may.inside sink.raised in
                      let its = (view_at v w.a).firsts brought.s f.0 f.1 in
                      let i = its.own w.may.inside sink.raised in
                      let low : r.start ≤ i.p = omega (arith, its.start_is, one_start, its.look.after, i.later) in
                      elim (three_cases i.p u) [
                        | inl before_u ↦ (
                            let asked = (present_tallied n files.keeps files faults log honest lawful u a may.begun_already).raises i.p brought.s (present n log v w.a).object (present n log v w.a).kind Done true (i.is ∙ ap (λ j. Some (ask_by j brought.s (pre_on (present n log v w.a).object (present n log v w.a).kind) Done true)) (sym actor)) before_u (λ none. omega (arith, none, first.start_is)) low in
                            true≢false (sym asked ∙ aside)
                            )
                        | inr (inl at_u) ↦ (let its_line : log u ≡ Some (ask_by w.a brought.s (pre_on (present n log v w.a).object (present n log v w.a).kind) Done true) = subst (λ j. log j ≡ Some (ask_by w.a brought.s (pre_on (present n log v w.a).object (present n log v w.a).kind) Done true)) at_u i.is in cc (its_line, is))
                        | inr (inr after_u) ↦ (
                            let inside = in_heal v w.a its.h i.p brought.s (present n log v w.a).object (present n log v w.a).kind its.start_is (omega (arith, its.look.after, i.later)) i.past i.is in
                            let put = (present_tallied n files.keeps files faults log honest lawful i.p w.a inside.2).mends u b repair told true line after_u (λ none. omega (arith, none, inside.0)) (omega (arith, inside.0, its.start_is, one_start, start_low)) in
                            true≢false (sym put.0 ∙ inside.1.before_mends)
                            )
                      ]
                      )
                ]

            by : (r.kind ≡ Names) ⊎ ((tally log u a).raises brought.s ≡ false) → FateOf t m
            by (inl names) = Everywhere (λ c copy. elim (w.full.sinks c copy.0 (keeps_there c copy.1)) [
              | inl e ↦ absurd (e.1 (sym w.may.kind_same ∙ sym kind_is ∙ names))
              | inr sink ↦ given c copy sink
            ])
            by (inr aside) = (
                let same = source aside in
                let view = brought.source.good brought.s brought.source.below brought.source.member in
                let k = (view_at u a).views brought.s view.0 view.1 in
                let inside : covers k.mine cell ≡ true = mend_covers n files.keeps files faults log honest lawful cell r.area k.mine repair may.within k.area_is hit in
                let number_same : k.h ≡ m = omega (arith, k.number_is, number) in
                let act : Act log cell m brought.s k.look.l = subst (λ j. Act log cell j brought.s k.look.l) number_same (look_acts log cell a brought.s k.h r.object view.0 k.mine k.look inside) in
                let piece = work.numbers.piece m may.inside number in
                let from : value files log brought.read brought.s cell ≡ brought_by n files faults log honest lawful cell repair = sym brought.from ∙ ap (λ l. left_by (before log u) (values files log u) l cell) is ∙ brought_is n files faults log honest lawful cell u a b r repair told may.contents in
                BroughtOn brought.s brought.read k.look.l
                (λ c copy. elim (w.full.sinks c copy.0 (keeps_there c copy.1)) [ inl e ↦ inl (e.0 ∙ sym same) | inr sink ↦ inr (given c copy sink) ])
                brought.since (omega (arith, brought.past, less)) act
                (ByRepair a piece.g piece.kind piece.is u b repair told is number from)
                )

        mended_fate : FateOf t m
        mended_fate = by back.3
          where
            by : Why n files.keeps files faults log honest lawful shown b g kind back.0 own.p → FateOf t m
            by (ByPost k) = absurd (
                let its : log own.p ≡ Some (ask_by k.a b (pre_on k.pre.g k.pre.kind) Done true) = subst (λ j. log j ≡ Some (ask_by k.a b (pre_on k.pre.g k.pre.kind) Done true)) k.here k.pre.is in
                let same : k.a ≡ a = ap actor_of (sym its ∙ own.is) in
                let newest : last log own.p a ≡ suc k.q = subst (λ j. last log own.p j ≡ suc k.q) same (subst (λ j. last log j k.a ≡ suc k.q) k.here k.pre.newest) in
                let equal : k.q ≡ first.h = omega (arith, newest, own.newest, first.start_is) in
                let piece = (since n files.keeps files faults log honest lawful u a).piece first.h (present_start n files.keeps files faults log honest lawful shown b g kind u a first.h first.start_is) in
                no_piece (log k.q) a piece.g g piece.kind kind (ap log equal ∙ piece.is) k.plane
                )
            by (BySweep w early) = (
                let past = later back.0 w back.1 in
                elim (cases_lt m w.first.h) [
                  | inl under ↦ overtaken t b back.0 m w back.2 under
                  | inr over ↦ absurd (behind back.0 w past early over)
                ]
                )
            by (ByOwn w o e) = settled_own back.0 w o e back.2 (later back.0 w back.1)

      fate : (b m : ℕ) → IsCopy b → on t b ≡ suc m → FateOf t m
      fate b m copy e = go (last_touch n files faults log honest lawful cell t b m e)
        where
          go : LastTouch n files faults log honest lawful cell t b m → FateOf t m
          go (LastMade u a told less is hit) = made_fate b m u a told copy.0 less is hit
          go (LastMended u a repair told less is hit number) = mended_fate b m u a repair told copy.0 less is hit number

    copies : Copies
    copies = record {
      IsCopy = IsCopy;
      Value = ℕ;
      stamp = on;
      value = has_value;
      Acts = Acts;
      Leaves = Leaves n files faults log honest lawful cell;
      Quiet = λ t. Unrecorded n files log t g kind;
      one = one n files faults log honest lawful cell;
      apart = acts_apart files faults log honest cell;
      start = λ b copy. begins files log b cell;
      writes = λ t b copy. writes n files faults log honest lawful cell t b;
      fate = λ t quiet b m copy e. fate t quiet b m copy e;
    }

    alike_real : (t : ℕ) → Unrecorded n files log t g kind → (b c : ℕ) → IsCopy b → IsCopy c → has_value t b ≡ has_value t c
    unfolding copies
    alike_real t quiet b c copy other = alike copies t quiet b c copy other

  pub undiverged : (t : ℕ) → Alike n files log t
  undiverged t cell quiet b c below under copy other = by_cell (is_cell cell) refl (fits (born files log (object_of cell)) cell) refl
    where
      by_cell : (real : Bool) → is_cell cell ≡ real → (fit : Bool) → fits (born files log (object_of cell)) cell ≡ fit → value files log t b cell ≡ value files log t c cell
      by_cell true real true fit = alike_real cell real fit t quiet b c (below, copy) (under, other)
      by_cell true real false unfit = unfit_value n files faults log honest lawful b cell unfit t ∙ sym (unfit_value n files faults log honest lawful c cell unfit t)
      by_cell false unreal fit e = untouched_value files log b cell unreal t ∙ sym (untouched_value files log c cell unreal t)

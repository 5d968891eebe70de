-- The history of one cell, with heals.
use Rattle.afr_base.specs.Kinds.{same_kind}
use Rattle.afr_lines.specs.declared.fault.Fault.{Fault}
use Rattle.afr_base.specs.Bricks.{member, and_right}
use Rattle.std.proofs.Common.{◌≡◌, ℕ, zero, suc, ◌+◌, ◌^◌, ◌-◌, ◌<◌, ◌≤◌, Bool, true, false, ◌&&◌, ◌||◌, ◌⊎◌, inl, inr, refl, sym, ap, ◌∙◌, subst, arith, true≢false}
use Rattle.std.specs.Prelude.{Option, Some, ◌==◌, slice_index, nat_le, nat_lt, length, List as Seq}
use Rattle.std.proofs.lemmas.Bool.Decides.{nat_tests}
use Rattle.afr_base.specs.declared.ids.Kind.{Kind}
use Rattle.afr_object.specs.declared.entry.View.{View}
use Rattle.afr_object.specs.declared.change.Repair.{Repair}
use Rattle.afr_lines.specs.declared.request.Area.{Area}
use Rattle.afr_lines.specs.declared.request.Request.{Request}
use Rattle.afr_lines.specs.declared.request.Request.TheVariants.{Apply, Mend}
use Rattle.afr_lines.specs.declared.answer.Told.{Told}
use Rattle.afr_lines.specs.declared.answer.Told.TheVariants.{Done}
use Rattle.afr_lines.specs.declared.line.Line.{Line}
use Rattle.afr_lines.specs.declared.line.Line.TheVariants.{Begin}
use Rattle.afr_model_moves.specs.Cells.{Cell, covers, object_of, kind_of, Byte, Attr, Entry, fits, is_cell, touches}
use Rattle.afr_model_moves.specs.Past.{Beginning, Log, born, before, brick_of, holds, touch, over, stamp, choose, left_by, leaves_of, values, value, named, posts, settled, changes, mends, joined, opening, object, object_of_line}
use Rattle.afr_model_moves.specs.Honest.{HonestLine, Honest, finds, Shows, view_marks, asked, begins_attempt}
use Rattle.afr_model_moves.specs.Rules.{Register, MayPost, MayMend, MaySettle, UnaccusedViews, ReadOf, CutOf, BringsSeen, piece, Lawful, present, repair_kind}
use Rattle.afr_base.specs.declared.ids.Kind.TheVariants.{Bytes}
use Rattle.afr_object.specs.declared.change.Repair.TheVariants.{CutTo, Copy, PutAttrs, PutNames}
use Rattle.afr_object.specs.declared.change.Change.TheVariants.{Write, Cut}
use Rattle.afr_law.specs.Safe.{Acknowledged, Current, Opening, Left, IsGoodCopy, Safe}
use Rattle.afr_law.proofs.Safety.Core.{History, Clean, kept_on, one_cell, one_read, reached, stamp_rises}
use Rattle.afr_law.proofs.Safety.Locks.{before_is}
use Rattle.afr_law.proofs.Safety.Numbers.{Recorded, Piece}
use Rattle.afr_law.proofs.Safety.Acts.{Act, act_later, acts_apart, working, may_ask, mend_covers, apply_acts, post_acts, post_exact, post_plane}
use Rattle.afr_law.proofs.Heals.Looks.{SettleLine, settle_line, Viewing, done_finds, mends_plane, mend_works, mend_acts, settle_works}
use Rattle.afr_law.proofs.Heals.Marks.{ready}
use Rattle.afr_law.proofs.Heals.EachLine.{viewings}
use Rattle.afr_law.proofs.Safety.Touches.{Touched, touched, Not, Made, Mended, stamp_next, value_next, values_at}
use Rattle.afr_law.proofs.Safety.Objects.{holds_fits, unfit_nowhere, seen_born, change_fits}
use Rattle.afr_base.specs.Majority.{majorities_share, IsMajority}
use Rattle.afr_law.proofs.Safety.Acks.{Fixed, acknowledged_fixed}
use Rattle.afr_model_moves.specs.Lines.{ask_by, post_on, settle_on, cut_to}
use Rattle.afr_law.proofs.Safety.CellLemmas.{PostedAt, change_plane, post_here, leaves_at, IsOriginAt, origin_later, CountsAt, posts_rise, begins, no_marks, LooksCell, looks_act, shows_at, most_is, WrittenAt, cut_zero}
use Rattle.afr_model_moves.proofs.Tests.{same_self, same_kind_self, positive}

module _ (n : ℕ) (files : Beginning) (faults : ℕ → ℕ → Option Fault) (log : Log) (honest : Honest files faults log) (lawful : Lawful n files.keeps log) (cell : Cell) (real : is_cell cell ≡ true) (fit : fits (born files log (object_of cell)) cell ≡ true) where
  finds_at : (t a b : ℕ) (request : Request) → log t ≡ Some (ask_by a b request Done true) → finds files log t b request ≡ true
  finds_at t a b request is = done_finds files log t a b request true (joined log t a b || opening log t a b) (faults b (suc (asked log t b))) (subst (HonestLine files faults log t) is (honest t))

  named_at : (x b p a q g : ℕ) (kind : Kind) (missed : Seq ℕ) (told : Told) → log p ≡ Some (ask_by a x (post_on q g kind missed) told true) → g ≡ object_of cell → kind ≡ kind_of cell → member missed b ≡ true
      → named x b (object_of cell) (kind_of cell) (log p) ≡ true
  named_at x b p a q g kind missed told is object_is kind_is hit =
      rw is (all_four (x == x) (g == object_of cell) (same_kind kind (kind_of cell)) (member missed b) (same_self x) (equal g (object_of cell) object_is) (rw kind_is (same_kind_self (kind_of cell))) hit)
    where
      all_four : (x y z w : Bool) → x ≡ true → y ≡ true → z ≡ true → w ≡ true → (x && true && y && z && w) ≡ true
      all_four x y z w a b c d = rw (a, b, c, d) refl

      equal : (g h : ℕ) → g ≡ h → (g == h) ≡ true
      equal g h e = grind (arith, nat_tests)

  -- an operation that was told Done put its number on the cell
  pub applied_touch : (a b q m : ℕ) → log m ≡ Some (ask_by a b (Apply q) Done true) → changes (log q) cell ≡ true → object_of_line (log q) ≡ object_of cell → touch files log m b cell ≡ suc q
  applied_touch a b q m is hit object_is =
      let less : q < m = act_later log cell q b m (apply_acts n files.keeps files faults log honest lawful cell m a b q Done is hit) in
      let same = before_is log m q less in
      let there : holds files log m b (object_of cell) ≡ true = subst (λ g. holds files log m b g ≡ true) object_is (subst (λ l. holds files log m b (object_of_line l) ≡ true) same (and_right (begins_attempt (before log m q)) (holds files log m b (object_of_line (before log m q))) (finds_at m a b (Apply q) is))) in
      let right = holds_fits files faults log honest m b cell fit there in
      let hit_before : changes (before log m q) cell ≡ true = subst (λ l. changes l cell ≡ true) (sym same) hit in
      rw (right, is, same_self b, hit_before) refl

  names_at : (q x p b : ℕ) → PostedAt files log cell q x p → b < n →
      (posts files log (suc p) x b (object_of cell) (kind_of cell) ≡ suc (posts files log p x b (object_of cell) (kind_of cell))) ⊎ ((m : ℕ) × (m < p) × (stamp files log (suc m) b cell ≡ suc q))
  unfolding posts
  names_at q x p b w below =
      let plane = post_here (log q) cell w.g w.kind (post_plane n files.keeps files faults log honest lawful p w.a x q w.g w.kind w.missed w.told w.is) w.touch in
      elim (post_exact n files.keeps files faults log honest lawful p w.a x q w.g w.kind w.missed w.told w.is b below) [
        | inl missed ↦ inl (rw (w.held_there, named_at x b p w.a q w.g w.kind w.missed w.told w.is plane.0 plane.1 missed) (omega arith))
        | inr applied ↦ inr (applied.m, applied.past, stamp_next files log applied.m b cell ∙ ap (λ k. over k (stamp files log applied.m b cell)) (applied_touch w.a b q applied.m applied.is w.touch plane.2))
      ]

  -- the copy s was clean at the looks of the register's number
  pub clean : (t a : ℕ) (r : Register) (h s : ℕ) → Viewing files log t a r → r.number ≡ suc h → ((mine : Area) → r.area ≡ Some mine → covers mine cell ≡ true) → r.object ≡ object_of cell → r.kind ≡ kind_of cell → UnaccusedViews n files.keeps log t a r s
      → Clean n (LooksCell log cell) (λ u x c. posts files log u x c (object_of cell) (kind_of cell)) (λ u x c. settled files log u x c (object_of cell) (kind_of cell)) h s
  clean t a r h s v number inside object_is kind_is views = record {
    among = views.among;
    majority = views.majority;
    looked = λ x below member. look_of x (views.good x below member);
  }
    where
      look_of : (x : ℕ) → ((view : View) × (r.view x ≡ Some view) × (slice_index (view_marks view r.kind).pending s ≡ 0))
          → (l : ℕ) × LooksCell log cell h x l × (posts files log l x s (object_of cell) (kind_of cell) ≤ settled files log l x s (object_of cell) (kind_of cell)) × (settled files log l x s (object_of cell) (kind_of cell) ≡ settled files log h x s (object_of cell) (kind_of cell))
      look_of x good = (
          let view = good.0 in
          let k = v.views x view good.1 in
          let l = k.look.l in
          let shows : Shows files log l x r.object view = shows_at files log l a x r.object view (joined log l a x || opening log l a x) (faults x (suc (asked log l x))) (subst (HonestLine files faults log l) k.look.is (honest l)) in
          let none : posts files log l x s r.object r.kind ≤ settled files log l x s r.object r.kind = omega (arith, shows.marks r.kind s views.copy, good.2) in
          let none_here : posts files log l x s (object_of cell) (kind_of cell) ≤ settled files log l x s (object_of cell) (kind_of cell) =
          subst (λ g. posts files log l x s g (kind_of cell) ≤ settled files log l x s g (kind_of cell)) object_is (subst (λ o. posts files log l x s r.object o ≤ settled files log l x s r.object o) kind_is none) in
          let marks : settled files log l x s (object_of cell) (kind_of cell) ≡ settled files log k.h x s (object_of cell) (kind_of cell) =
          subst (λ g. settled files log l x s g (kind_of cell) ≡ settled files log k.h x s g (kind_of cell)) object_is (subst (λ o. settled files log l x s r.object o ≡ settled files log k.h x s r.object o) kind_is (k.marks s)) in
          let same : k.h ≡ h = omega (arith, number, k.number_is) in
          let at_k : (l : ℕ) × LooksCell log cell k.h x l × (posts files log l x s (object_of cell) (kind_of cell) ≤ settled files log l x s (object_of cell) (kind_of cell)) × (settled files log l x s (object_of cell) (kind_of cell) ≡ settled files log k.h x s (object_of cell) (kind_of cell)) =
          (l, record { a = a; object = r.object; view = view; mine = k.mine; look = k.look; at = refl; inside = inside k.mine k.area_is }, none_here, marks) in
          subst (λ j. (l : ℕ) × LooksCell log cell j x l × (posts files log l x s (object_of cell) (kind_of cell) ≤ settled files log l x s (object_of cell) (kind_of cell)) × (settled files log l x s (object_of cell) (kind_of cell) ≡ settled files log j x s (object_of cell) (kind_of cell))) same at_k
          )

  -- the value that a Mend leaves is that of a clean copy since the number
  pub record Brought (t a : ℕ) (r : Register) (h v : ℕ) : Type 0 where
    pub read : ℕ
    pub s : ℕ
    pub from : v ≡ value files log read s cell
    pub since : h ≤ read
    pub past : read ≤ t
    pub source : UnaccusedViews n files.keeps log t a r s

  read_brings : (t a : ℕ) (r : Register) (h read : ℕ) → r.number ≡ suc h → ReadOf n files.keeps log t a r read → Brought t a r h (values files log t read (brick_of (before log t read)) cell)
  read_brings t a r h read number w = record {
    read = read;
    s = w.s;
    from = values_at files log t read (brick_of (before log t read)) cell (omega (arith, w.past)) ∙ ap (λ b. value files log read b cell) (ap brick_of (before_is log t read w.past ∙ w.is));
    since = omega (arith, w.since, number);
    past = omega (arith, w.past);
    source = w.source;
  }

  cut_brings : (t a : ℕ) (r : Register) (h g len : ℕ) → Viewing files log t a r → r.number ≡ suc h → r.object ≡ object_of cell → mends (cut_to g len) cell ≡ true → Bytes ≡ r.kind → CutOf n files.keeps log t a r len → Brought t a r h 0
  cut_brings t a r h g len v number object_is inside bytes w =
      let k = v.views w.s w.view w.seen in
      let l = k.look.l in
      let shows : Shows files log l w.s r.object w.view = shows_at files log l a w.s r.object w.view (joined log l a w.s || opening log l a w.s) (faults w.s (suc (asked log l w.s))) (subst (HonestLine files faults log l) k.look.is (honest l)) in
      record {
        read = l;
        s = w.s;
        from = sym (cut_zero files log l w.s r.object w.view g len cell (subst (λ k. files.keeps w.s k ≡ true) (sym bytes) w.source.copy) w.length shows object_is inside);
        since = omega (arith, number, k.number_is, k.look.after);
        past = omega (arith, k.past);
        source = w.source;
      }

  pub brings : (t a b : ℕ) (r : Register) (h : ℕ) (repair : Repair) (told : Told) → log t ≡ Some (ask_by a b (Mend repair) told true) → Viewing files log t a r → r.number ≡ suc h → MayMend n files.keeps log t a r b repair → mends repair cell ≡ true
      → Brought t a r h (left_by (before log t) (values files log t) (log t) cell)
  brings t a b r h repair told is v number may inside = rw is (go repair (sym may.object_same ∙ (mends_plane repair cell inside).0) may.kind_same may.contents inside)
    where
      go : (repair : Repair) → r.object ≡ object_of cell → repair_kind repair ≡ r.kind → BringsSeen n files.keeps log t a r repair → mends repair cell ≡ true → Brought t a r h (left_by (before log t) (values files log t) (Some (ask_by a b (Mend repair) told true)) cell)
      go (CutTo g len) object_is same w inside = cut_brings t a r h g.0 len v number object_is inside same w
      go (Copy g at span read) object_is same w inside = read_brings t a r h read number w
      go (PutAttrs g read) object_is same w inside = read_brings t a r h read number w
      go (PutNames g reads) object_is same w inside = (
          let best = most_is (ReadOf n files.keeps log t a r) (λ q. values files log t q (brick_of (before log t q)) cell) reads w.0 w.1 in
          subst (Brought t a r h) (sym best.2) (read_brings t a r h best.0 number best.1)
          )

  no_attempt : (a h : ℕ) → Piece log a h → changes (log h) cell ≡ true → ⊥
  no_attempt a h piece touch = true≢false (sym (subst (λ l. changes l cell ≡ true) piece.is touch))

  writes_at : (t b : ℕ) → WrittenAt n files.keeps files log cell t b
  writes_at t b = go (touched files log t b cell)
    where
      go : Touched files log t b cell → WrittenAt n files.keeps files log cell t b
      go (Not e) = inl (stamp_next files log t b cell ∙ rw e refl, value_next files log t b cell ∙ rw e refl)
      go (Made a q told is past inside e) = (
          let act = apply_acts n files.keeps files faults log honest lawful cell t a b q told is inside in
          inr (inl (q, act, stamp_next files log t b cell ∙ rw e refl, value_next files log t b cell ∙ rw (e, is) (ap (λ l. leaves_of l cell) (before_is log t q (act_later log cell q b t act))), (omega (arith, act_later log cell q b t act), inside)))
          )
      go (Mended a repair told is inside e) = (
          let may : MayMend n files.keeps log t a (present n log t a) b repair = may_ask n files.keeps files faults log honest lawful t a b (Mend repair) told true is in
          let w = mend_works n files.keeps files faults log honest lawful t a b repair told is in
          let h = w.0 in
          let number : (present n log t a).number ≡ suc h = w.1 in
          let v = (ready n files.keeps files faults log honest lawful t a (viewings n files.keeps files faults log honest lawful t a)).viewing in
          let hit : touch files log t b cell ≡ suc h = e ∙ (w.2.numbers.newest h number).1 in
          let plane = mends_plane repair cell inside in
          let object_is : (present n log t a).object ≡ object_of cell = sym may.object_same ∙ plane.0 in
          let kind_is : (present n log t a).kind ≡ kind_of cell = sym may.kind_same ∙ plane.1 in
          let brought = brings t a b (present n log t a) h repair told is v number may inside in
          inr (inr (
            h,
            brought.read,
            brought.s,
            mend_acts n files.keeps files faults log honest lawful cell t a b repair told is inside,
            stamp_next files log t b cell ∙ rw hit refl,
            value_next files log t b cell ∙ ap (λ k. choose k (value files log t b cell) (left_by (before log t) (values files log t) (log t) cell)) hit ∙ brought.from,
            brought.since,
            brought.past,
            subst (λ k. files.keeps brought.s k ≡ true) kind_is brought.source.copy,
            brought.source.below,
            (λ counts. no_attempt a h (w.2.numbers.piece h may.inside number) counts.touch),
            clean t a (present n log t a) h brought.s v number (λ mine f. mend_covers n files.keeps files faults log honest lawful cell (present n log t a).area mine repair may.within f inside) object_is kind_is brought.source,
          ))
          )

  settled_step : (t x c : ℕ) (w : SettleLine files log t x (object_of cell) (kind_of cell)) → settled files log (suc t) x c (object_of cell) (kind_of cell) ≡ slice_index w.less.pending c + settled files log t x c (object_of cell) (kind_of cell)
  unfolding settled
  settled_step t x c w = rw (w.there, w.is, same_self x, same_self (object_of cell), same_kind_self (kind_of cell)) refl

  settles_at : (t x c : ℕ) → files.keeps c (kind_of cell) ≡ true →
      (settled files log (suc t) x c (object_of cell) (kind_of cell) ≡ settled files log t x c (object_of cell) (kind_of cell))
      ⊎ ((l : ℕ) × (h : ℕ) × LooksCell log cell h x l × (l ≤ t)
      × (settled files log (suc t) x c (object_of cell) (kind_of cell) ≡ settled files log t x c (object_of cell) (kind_of cell) + (posts files log l x c (object_of cell) (kind_of cell) - settled files log l x c (object_of cell) (kind_of cell)))
      × (settled files log t x c (object_of cell) (kind_of cell) ≡ settled files log l x c (object_of cell) (kind_of cell)) × (h < stamp files log t c cell))
  settles_at t x c copy =
      elim (settle_line files log t x (object_of cell) (kind_of cell)) [
        | inl eq ↦ inl (eq c)
        | inr w ↦ go w (may_ask n files.keeps files faults log honest lawful t w.a x (settle_on (object_of cell) (kind_of cell) w.less) w.told true w.is)
      ]
    where
      go : (w : SettleLine files log t x (object_of cell) (kind_of cell)) → MaySettle n files.keeps log t w.a (present n log t w.a) x (object_of cell) (kind_of cell) w.less →
          (settled files log (suc t) x c (object_of cell) (kind_of cell) ≡ settled files log t x c (object_of cell) (kind_of cell))
          ⊎ ((l : ℕ) × (h : ℕ) × LooksCell log cell h x l × (l ≤ t)
          × (settled files log (suc t) x c (object_of cell) (kind_of cell) ≡ settled files log t x c (object_of cell) (kind_of cell) + (posts files log l x c (object_of cell) (kind_of cell) - settled files log l x c (object_of cell) (kind_of cell)))
          × (settled files log t x c (object_of cell) (kind_of cell) ≡ settled files log l x c (object_of cell) (kind_of cell)) × (h < stamp files log t c cell))
      go w may = elim (may.exact c) [
        | inl zero_less ↦ inl (omega (arith, settled_step t x c w, zero_less))
        | inr full ↦ (
            let r = present n log t w.a in
            let work = settle_works n files.keeps files faults log honest lawful t w.a x (object_of cell) (kind_of cell) w.less w.told w.is in
            let v = (ready n files.keeps files faults log honest lawful t w.a (viewings n files.keeps files faults log honest lawful t w.a)).viewing in
            let f = v.firsts x may.view may.seen in
            let l = f.look.l in
            let shows : Shows files log l x r.object may.view = shows_at files log l w.a x r.object may.view (joined log l w.a x || opening log l w.a x) (faults x (suc (asked log l x))) (subst (HonestLine files faults log l) f.look.is (honest l)) in
            let seen : slice_index (view_marks may.view (kind_of cell)).pending c ≡ posts files log l x c (object_of cell) (kind_of cell) - settled files log l x c (object_of cell) (kind_of cell) =
            subst (λ g. slice_index (view_marks may.view (kind_of cell)).pending c ≡ posts files log l x c g (kind_of cell) - settled files log l x c g (kind_of cell)) (sym may.object_same) (shows.marks (kind_of cell) c copy) in
            let same : settled files log t x c (object_of cell) (kind_of cell) ≡ settled files log l x c (object_of cell) (kind_of cell) =
            subst (λ g. settled files log t x c g (kind_of cell) ≡ settled files log l x c g (kind_of cell)) (sym may.object_same) (subst (λ o. settled files log t x c r.object o ≡ settled files log l x c r.object o) (sym may.kind_same) (f.same may.once may.healing work.2.live c)) in
            let given = positive ((present n log t w.a).mended c cell) (full.1 copy cell real refl refl) in
            let mended = v.mended c cell given.0 given.1 in
            inr (
              l,
              f.h,
              record { a = w.a; object = r.object; view = may.view; mine = f.mine; look = f.look; at = refl; inside = f.whole cell real may.object_same may.kind_same },
              omega (arith, f.past),
              omega (arith, settled_step t x c w, full.0, seen),
              same,
              (let low = mended.2 fit in omega (arith, mended.1, low, f.start_is)),
            )
            )
      ]

  history : History
  history = record {
    bricks = n;
    Value = ℕ;
    leaves = leaves_at files log cell;
    IsOrigin = IsOriginAt log cell;
    IsCopy = λ b. files.keeps b (kind_of cell) ≡ true;
    stamp = λ t b. stamp files log t b cell;
    value = λ t b. value files log t b cell;
    posts = λ t x c. posts files log t x c (object_of cell) (kind_of cell);
    settled = λ t x c. settled files log t x c (object_of cell) (kind_of cell);
    Acts = λ q b t. Act log cell q b t;
    Looks = LooksCell log cell;
    Posted = PostedAt files log cell;
    Counts = CountsAt n files log cell;
    acts_later = act_later log cell;
    apart = acts_apart files faults log honest cell;
    looks-acts = looks_act log cell;
    posted-acts = λ q x p w. post_acts n files.keeps files faults log honest lawful cell p w.a x q w.g w.kind w.missed w.told w.is w.touch;
    start = λ b copy. start_at b;
    opening = λ t. tt;
    origin_later = origin_later log cell;
    writes = λ t b copy. writes_at t b;
    posts_rise = posts_rise files log (object_of cell) (kind_of cell);
    posts_start = λ x c. posts_start_at x c;
    names = λ q x p b copy w below. names_at q x p b w below;
    settles = λ t x c copy. settles_at t x c copy;
    counted = λ q w. (w.among, w.majority, w.posted);
  }
    where
      start_at : (b : ℕ) → (stamp files log 0 b cell ≡ 0) × (value files log 0 b cell ≡ files.cells cell)
      start_at b = begins files log b cell

      posts_start_at : (x c : ℕ) → (posts files log 0 x c (object_of cell) (kind_of cell) ≡ 0) × (settled files log 0 x c (object_of cell) (kind_of cell) ≡ 0)
      posts_start_at x c = no_marks files log x c (object_of cell) (kind_of cell)

  -- a copy that a brick with a Post line doesn't accuse has the attempt, or a later number
  pub copy_reached : (t x c q p : ℕ) → files.keeps c (kind_of cell) ≡ true → c < n → PostedAt files log cell q x p → p < t
      → posts files log t x c (object_of cell) (kind_of cell) ≤ settled files log t x c (object_of cell) (kind_of cell) → q < stamp files log t c cell
  unfolding history
  copy_reached t x c q p copy below posted past none = reached history t x c q p copy below posted past none

  pub copy_rises : (c : ℕ) → files.keeps c (kind_of cell) ≡ true → (t u : ℕ) → t ≤ u → stamp files log t c cell ≤ stamp files log u c cell
  unfolding history
  copy_rises c copy t u low = stamp_rises history c copy t u low

  -- what a counted attempt put on a copy stays there, or something later
  pub copy_keeps : (t b q m : ℕ) → files.keeps b (kind_of cell) ≡ true → CountsAt n files log cell q → m < t → stamp files log (suc m) b cell ≡ suc q
      → (from : ℕ) × IsOriginAt log cell t from × (value files log t b cell ≡ leaves_at files log cell from) × (q < from)
  unfolding history
  copy_keeps t b q m copy counts past put = kept_on history t b q m copy counts past put

  -- what a copy has that some looks at a majority, since a moment, didn't accuse is left by no attempt before one that was acknowledged by then
  pub copy_read : (r b since : ℕ) (among : ℕ → Bool) → IsMajority n among → files.keeps b (kind_of cell) ≡ true → b < n
      → ((x : ℕ) → x < n → among x ≡ true → (l : ℕ) × (since ≤ l) × (l ≤ r) × (posts files log l x b (object_of cell) (kind_of cell) ≤ settled files log l x b (object_of cell) (kind_of cell)))
      → (from : ℕ) × IsOriginAt log cell r from × (value files log r b cell ≡ leaves_at files log cell from)
      × ((q : ℕ) → CountsAt n files log cell q → (done : ℕ → Bool) → IsMajority n done → ((x : ℕ) → x < n → done x ≡ true → (p : ℕ) × (p < since) × PostedAt files log cell q x p) → q < from)
  unfolding history
  copy_read r b since among majority copy below looks = one_read history r b since among majority copy below looks

  pub recorded_at : (t a x q : ℕ) → Recorded log t a x q → changes (log q) cell ≡ true → (p : ℕ) × (p < t) × PostedAt files log cell q x p
  recorded_at t a x q w touch =
      let plane = post_here (log q) cell w.g w.kind (post_plane n files.keeps files faults log honest lawful w.p a x q w.g w.kind w.missed Done w.is) touch in (
        w.p,
        w.past,
        record {
          a = a;
          g = w.g;
          kind = w.kind;
          missed = w.missed;
          told = Done;
          is = w.is;
          touch = touch;
          held_there = subst (λ g. holds files log w.p x g ≡ true) plane.0 (finds_at w.p a x (post_on q w.g w.kind w.missed) w.is);
        },
      )

  pub counts_at : (t a q : ℕ) → Fixed n log t a q → changes (log q) cell ≡ true → CountsAt n files log cell q
  counts_at t a q f touch = record {
    touch = touch;
    among = f.among;
    majority = f.majority;
    posted = λ x below member. (let w = recorded_at t a x q (f.recorded x member) touch in (w.0, w.2));
  }

  current : (t b from : ℕ) → IsOriginAt log cell t from → value files log t b cell ≡ leaves_at files log cell from
      → ((k : ℕ) → Acknowledged log t k → changes (log k) cell ≡ true → k < from) → Current files log t b cell
  current t b zero legal same newest = Opening same (λ k acked touch. absurd (let less = newest k acked touch in omega (arith, less)))
  current t b (suc q) legal same newest = Left q legal.0 legal.1 same (λ k acked touch. (let less = newest k acked touch in omega (arith, less)))

and_last : (x y : Bool) → y ≡ false → (x && y) ≡ false
and_last x y e = grind arith

-- nothing touches a place past the last byte
pub no_change : (line : Option Line) (cell : Cell) → is_cell cell ≡ false → changes line cell ≡ false
unfolding touches
no_change (Some (Begin a (Write g at bytes))) (Byte h i) e = and_last ((g.0 == h) && nat_le at i && nat_lt i (at + length bytes)) (nat_lt i (2 ^ 63)) e
no_change (Some (Begin a (Cut g len))) (Byte h i) e = and_last ((g.0 == h) && nat_le len i) (nat_lt i (2 ^ 63)) e
no_change _ (Byte h i) e = refl
no_change _ (Attr h k) e = absurd (cc e)
no_change _ (Entry h m) e = absurd (cc e)

no_mending : (repair : Repair) (cell : Cell) → is_cell cell ≡ false → mends repair cell ≡ false
no_mending (CutTo g len) (Byte h i) e = and_last ((g.0 == h) && nat_le len i) (nat_lt i (2 ^ 63)) e
no_mending (Copy g at span read) (Byte h i) e = and_last ((g.0 == h) && nat_le at i && nat_lt i (at + span)) (nat_lt i (2 ^ 63)) e
no_mending _ (Byte h i) e = refl
no_mending _ (Attr h k) e = absurd (cc e)
no_mending _ (Entry h m) e = absurd (cc e)

pub untouched_value : (files : Beginning) (log : Log) (b : ℕ) (cell : Cell) → is_cell cell ≡ false → (t : ℕ) → value files log t b cell ≡ files.cells cell
untouched_value files log b cell e zero = (begins files log b cell).1
untouched_value files log b cell e (suc t) = value_next files log t b cell ∙ go (touched files log t b cell) (untouched_value files log b cell e t)
  where
    go : Touched files log t b cell → value files log t b cell ≡ files.cells cell → choose (touch files log t b cell) (value files log t b cell) (left_by (before log t) (values files log t) (log t) cell) ≡ files.cells cell
    go (Not k) was = rw k was
    go (Made a q told is past hit k) before = absurd (true≢false (sym hit ∙ no_change (log q) cell e))
    go (Mended a repair told is hit k) before = absurd (true≢false (sym hit ∙ no_mending repair cell e))

module _ (n : ℕ) (files : Beginning) (faults : ℕ → ℕ → Option Fault) (log : Log) (honest : Honest files faults log) (lawful : Lawful n files.keeps log) where
  real_cell : (t : ℕ) (among : ℕ → Bool) → IsMajority n among → (b : ℕ) (cell : Cell) → IsGoodCopy n files.keeps files log t among (object_of cell) (kind_of cell) b → is_cell cell ≡ true → fits (born files log (object_of cell)) cell ≡ true → Current files log t b cell
  unfolding history
  real_cell t among majority b cell good real fit =
      let w = one_cell (history n files faults log honest lawful cell real fit) t b among majority good.copy good.below
      (λ x below member. omega (arith, good.unaccused x below member)) in
      current n files faults log honest lawful cell real fit t b w.0 w.1 w.2
      (λ k acked touch. (
      let f = acknowledged_fixed n files.keeps files faults log honest lawful t k acked in
      w.3 k (counts_at n files faults log honest lawful cell real fit t acked.a k f touch) f.among f.majority
      (λ x below member. recorded_at n files faults log honest lawful cell real fit t acked.a x k (f.recorded x member) touch)
      ))

  pub unfit_value : (b : ℕ) (cell : Cell) → fits (born files log (object_of cell)) cell ≡ false → (t : ℕ) → value files log t b cell ≡ files.cells cell
  unfit_value b cell unfit zero = (begins files log b cell).1
  unfit_value b cell unfit (suc t) =
      let none : touch files log t b cell ≡ 0 = rw (unfit_nowhere files faults log honest t b cell unfit) refl in
      value_next files log t b cell ∙ rw none (unfit_value b cell unfit t)

  -- no attempt on such a cell has a Post line that was told Done
  unfit_post : (cell : Cell) (t a x q : ℕ) → Recorded log t a x q → changes (log q) cell ≡ true → fits (born files log (object_of cell)) cell ≡ true
  unfit_post cell t a x q w hit =
      let may : MayPost n log w.p a (present n log w.p a) x q w.g w.kind (member w.missed) = may_ask n files.keeps files faults log honest lawful w.p a x (post_on q w.g w.kind w.missed) Done true w.is in
      let work = working n files.keeps files faults log honest lawful w.p a x (post_on q w.g w.kind w.missed) Done q w.is may.own in
      let attempt = work.numbers.attempt q may.outside may.own in
      let seen : (present n log w.p a).pre x ≡ true = work.numbers.acted x may.ready in
      let inside : touches attempt.change cell ≡ true = subst (λ l. changes l cell ≡ true) attempt.is hit in
      let right = seen_born files faults log honest q a x attempt.change (attempt.fit x seen) in
      subst (λ g. fits (born files log g) cell ≡ true) (change_plane attempt.change cell inside).0 (change_fits (born files log (object attempt.change)) attempt.change cell right inside)

  pub unfit_acked : (cell : Cell) (t k : ℕ) → fits (born files log (object_of cell)) cell ≡ false → Acknowledged log t k → changes (log k) cell ≡ true → ⊥
  unfit_acked cell t k unfit acked hit =
      let f = acknowledged_fixed n files.keeps files faults log honest lawful t k acked in
      let x = majorities_share n f.among f.among f.majority f.majority in
      true≢false (sym (unfit_post cell t acked.a x.0 k (f.recorded x.0 x.2) hit) ∙ unfit)

  pub safe : (t : ℕ) → Safe n files.keeps files log t
  safe t among majority b cell good = by_cell (is_cell cell) refl (fits (born files log (object_of cell)) cell) refl
    where
      by_cell : (real : Bool) → is_cell cell ≡ real → (fit : Bool) → fits (born files log (object_of cell)) cell ≡ fit → Current files log t b cell
      by_cell true real true fit = real_cell t among majority b cell good real fit
      by_cell true real false unfit = Opening (unfit_value b cell unfit t) (λ k acked hit. unfit_acked cell t k unfit acked hit)
      by_cell false unreal fit e = Opening (untouched_value files log b cell unreal t) (λ k acked hit. true≢false (sym hit ∙ no_change (log k) cell unreal))

-- What the register of a heal says of its looks, its mends and its marks.
use Rattle.afr_base.specs.Kinds.{same_kind}
use Rattle.afr_lines.specs.declared.fault.Fault.TheVariants.{Fail, Lost}
use Rattle.afr_lines.specs.declared.fault.Fault.{Fault}
use Rattle.afr_lines.specs.Overlap.{overlap}
use Rattle.std.proofs.Common.{◌≡◌, ℕ, suc, ◌+◌, ◌^◌, ◌<◌, ◌≤◌, Bool, true, false, ◌&&◌, ◌||◌, not, ◌⊎◌, inl, inr, refl, ◌∙◌, subst, arith, true≢false}
use Rattle.std.specs.Prelude.{Option, None, Some, ◌==◌, nat_le, nat_lt}
use Rattle.afr_base.specs.declared.ids.Kind.{Kind}
use Rattle.afr_object.specs.declared.entry.View.{View}
use Rattle.afr_base.specs.declared.marks.Marks.{Marks}
use Rattle.afr_object.specs.declared.change.Repair.{Repair}
use Rattle.afr_lines.specs.declared.lock.Domain.TheVariants.{Work}
use Rattle.afr_lines.specs.declared.request.Area.{Area}
use Rattle.afr_lines.specs.declared.request.Request.{Request}
use Rattle.afr_lines.specs.declared.request.Request.TheVariants.{Mend, Settle}
use Rattle.afr_lines.specs.declared.answer.Told.{Told}
use Rattle.afr_lines.specs.declared.answer.Told.TheVariants.{Seen, Done, NotConnected}
use Rattle.afr_lines.specs.declared.line.Line.{Line}
use Rattle.afr_lines.specs.declared.line.Line.TheVariants.{Ask}
use Rattle.afr_model_moves.specs.Cells.{Cell, covers, fits, is_cell, object_of, kind_of, Byte, Attr, Entry}
use Rattle.afr_model_moves.specs.Past.{Beginning, Log, born, held, ends, last, holds, touch, stamp, settled, mends, joined, opening, repaired}
use Rattle.afr_model_moves.specs.Honest.{HonestAsk, Honest, finds, Tells, Answers}
use Rattle.afr_model_moves.specs.Rules.{Register, fresh, CoversAll, MayMend, MaySettle, repair_kind, heal_area, dropping, Lawful, present}
use Rattle.afr_object.specs.declared.change.Repair.TheVariants.{CutTo, Copy, PutAttrs, PutNames}
use Rattle.afr_law.proofs.Safety.Locks.{Grant}
use Rattle.afr_law.proofs.Safety.Standing.{without_true}
use Rattle.afr_law.proofs.Safety.Numbers.{last_asked}
use Rattle.afr_law.proofs.Safety.Acts.{Act, act_later, acts_apart, Working, working, acting, may_ask, mend_covers, apply_acts}
use Rattle.afr_law.proofs.Safety.Rising.{rises_once}
use Rattle.afr_law.proofs.Safety.Touches.{Touched, touched, Not, Made, Mended, stamp_next, stamp_start}
use Rattle.afr_model_moves.specs.Lines.{ask_by, look_at, pre_on, settle_on}
use Rattle.std.proofs.lemmas.Bool.{cases_lt, eqb-true}
use Rattle.afr_model_moves.proofs.Tests.{same_self, first_equal, same_kind_yes, positive, four_parts}
use Rattle.afr_base.specs.Bricks.{and_left}

-- a Settle line that a brick with the object carried out
pub record SettleLine (files : Beginning) (log : Log) (t x g : ℕ) (kind : Kind) : Type 0 where
  pub a : ℕ
  pub less : Marks
  pub told : Told
  pub is : log t ≡ Some (ask_by a x (settle_on g kind less) told true)
  pub there : holds files log t x g ≡ true

pub settle_line : (files : Beginning) (log : Log) (t x g : ℕ) (kind : Kind) → ((c : ℕ) → settled files log (suc t) x c g kind ≡ settled files log t x c g kind) ⊎ SettleLine files log t x g kind
unfolding settled
settle_line files log t x g kind = here (holds files log t x g) refl
  where
    none : (m : ℕ) → 0 + m ≡ m
    none m = omega arith

    go : (line : Option Line) → log t ≡ line → holds files log t x g ≡ true → ((c : ℕ) → settled files log (suc t) x c g kind ≡ settled files log t x c g kind) ⊎ SettleLine files log t x g kind
    go (Some (Ask a y (Settle h k less) told took)) is there = pick ((y.0 == x) && took && (h.0 == g) && same_kind k kind) refl
      where
        pick : (hit : Bool) → ((y.0 == x) && took && (h.0 == g) && same_kind k kind) ≡ hit → ((c : ℕ) → settled files log (suc t) x c g kind ≡ settled files log t x c g kind) ⊎ SettleLine files log t x g kind
        pick false e = inl (λ c. rw (there, is, e) (none (settled files log t x c g kind)))
        pick true e = (
            let w = four_parts (y.0 == x) took (h.0 == g) (same_kind k kind) e in
            inr (record { a = a.0; less = less; told = told; is = is ∙ (λ i. Some (ask_by a.0 (eqb-true y.0 x w.0 i) (settle_on (eqb-true h.0 g w.2 i) (same_kind_yes k kind w.3 i) less) told (w.1 i))); there = there })
            )
    go _ is there = inl (λ c. rw (there, is) (none (settled files log t x c g kind)))

    here : (has_it : Bool) → holds files log t x g ≡ has_it → ((c : ℕ) → settled files log (suc t) x c g kind ≡ settled files log t x c g kind) ⊎ SettleLine files log t x g kind
    here true e = go (log t) refl e
    here false e = inl (λ c. rw e (none (settled files log t x c g kind)))

-- a look of a heal under its lock
pub record LookAt (log : Log) (a x h object : ℕ) (view : View) (mine : Area) : Type 0 where
  pub l : ℕ
  pub is : log l ≡ Some (ask_by a x (look_at object) (Seen view) true)
  pub after : h < l
  pub p : ℕ
  pub grant : Grant log p a x Work mine
  pub before : p < h
  pub still : held log l x p ≡ true
  pub newest : last log l a ≡ suc h

pub look_acts : (log : Log) (cell : Cell) (a x h object : ℕ) (view : View) (mine : Area) (w : LookAt log a x h object view mine) → covers mine cell ≡ true → Act log cell h x w.l
look_acts log cell a x h object view mine w inside = record {
  a = a;
  locked = record { p = w.p; area = mine; grant = w.grant; before = w.before; after = w.after; still = w.still; covered = inside };
  newest = w.newest;
  ask = last_asked log w.l a x (look_at object) (Seen view) true w.is;
}

pub record ViewedAt (files : Beginning) (log : Log) (t a x number object : ℕ) (kind : Kind) (area : Option Area) (view : View) : Type 0 where
  pub h : ℕ
  pub number_is : number ≡ suc h
  pub mine : Area
  pub area_is : area ≡ Some mine
  pub look : LookAt log a x h object view mine
  pub past : look.l < t
  pub marks : (c : ℕ) → settled files log look.l x c object kind ≡ settled files log h x c object kind

-- the heal's own Pre at a brick, after its first look there
pub record OwnPre (log : Log) (t a x object : ℕ) (kind : Kind) (start l : ℕ) : Type 0 where
  pub p : ℕ
  pub later : l < p
  pub past : p < t
  pub is : log p ≡ Some (ask_by a x (pre_on object kind) Done true)
  pub newest : last log p a ≡ start

own_later : (log : Log) (t a x object : ℕ) (kind : Kind) (start l : ℕ) → OwnPre log t a x object kind start l → OwnPre log (suc t) a x object kind start l
own_later log t a x object kind start l o = record { p = o.p; later = o.later; past = omega (arith, o.past); is = o.is; newest = o.newest }

pub record FirstAt (files : Beginning) (log : Log) (t a x start object : ℕ) (kind : Kind) (settled_already healing heal raised_already : Bool) (view : View) : Type 0 where
  pub h : ℕ
  pub start_is : start ≡ suc h
  pub mine : Area
  pub look : LookAt log a x h object view mine
  pub past : look.l < t
  pub whole : (cell : Cell) → is_cell cell ≡ true → object_of cell ≡ object → kind_of cell ≡ kind → covers mine cell ≡ true
  pub same : settled_already ≡ false → healing ≡ true → joined log t a x ≡ true → (c : ℕ) → settled files log t x c object kind ≡ settled files log look.l x c object kind
  pub none : settled_already ≡ false → healing ≡ true → joined log t a x ≡ true → (u : ℕ) → look.l ≤ u → u < t → SettleLine files log u x object kind → ⊥
  pub own : heal ≡ true → raised_already ≡ true → OwnPre log t a x object kind start look.l

pub record Viewing (files : Beginning) (log : Log) (t a : ℕ) (r : Register) : Type 0 where
  pub views : (x : ℕ) (view : View) → r.view x ≡ Some view → ViewedAt files log t a x r.number r.object r.kind r.area view
  pub firsts : (x : ℕ) (view : View) → r.first x ≡ Some view → FirstAt files log t a x r.start r.object r.kind (r.settled x) (r.healing x) r.heal (r.raised x) view
  pub wholly : (h : ℕ) → r.number ≡ suc h → r.start ≡ suc h → CoversAll r.area r.object r.kind
  pub mended : (c : ℕ) (cell : Cell) (m : ℕ) → r.mended c cell ≡ suc m → (r.start ≡ 0 → ⊥) × (r.start ≤ suc m) × (fits (born files log (object_of cell)) cell ≡ true → suc m ≤ stamp files log t c cell)
  pub raised_first : (x : ℕ) → r.heal ≡ true → r.raised x ≡ true → (view : View) × (r.first x ≡ Some view)
  pub began : r.heal ≡ true → (r.number ≡ 0 → ⊥) → r.start ≡ 0 → ⊥
  pub seen_began : (x : ℕ) (view : View) → r.view x ≡ Some view → r.start ≡ 0 → ⊥
  pub steady : (h x : ℕ) → r.heal ≡ true → r.number ≡ suc h → r.seen x ≡ true → r.healing x ≡ true → r.settled x ≡ false → joined log t a x ≡ true → (c : ℕ) → settled files log t x c r.object r.kind ≡ settled files log h x c r.object r.kind

pub viewing_fresh : (files : Beginning) (log : Log) (t a : ℕ) → Viewing files log t a fresh
viewing_fresh files log t a = record {
  views = λ x view e. absurd (cc);
  firsts = λ x view e. absurd (cc);
  wholly = λ h e f. absurd (cc);
  mended = λ c cell m e. absurd (cc);
  raised_first = λ x inside e. absurd (cc inside);
  began = λ inside some. absurd (cc);
  seen_began = λ x view e. absurd (cc);
  steady = λ h x inside. absurd (cc);
}

pub viewing_dropped : (files : Beginning) (log : Log) (t a b : ℕ) (gone : Bool) (r : Register) → Viewing files log t a r → Viewing files log t a (dropping gone b r)
viewing_dropped files log t a b false r s = s
viewing_dropped files log t a b true r s = record {
  views = s.views;
  firsts = λ x view e. (let w = s.firsts x view e in record {
    h = w.h;
    start_is = w.start_is;
    mine = w.mine;
    look = w.look;
    past = w.past;
    whole = w.whole;
    same = λ un heal live c. w.same un (without_true r.healing b x heal).1 live c;
    none = λ un heal live u low high line. w.none un (without_true r.healing b x heal).1 live u low high line;
    own = w.own;
  });
  wholly = s.wholly;
  mended = s.mended;
  raised_first = s.raised_first;
  began = s.began;
  seen_began = s.seen_began;
  steady = λ h x inside number seen heal un live c. s.steady h x inside number seen (without_true r.healing b x heal).1 un live c;
}

-- what the line at t leaves to a brick's marks, as far as the Heal lock goes
abbrev pub Quiet : Beginning → Log → ℕ → ℕ → Register → (ℕ → Bool) → (ℕ → Bool) → Type 0
Quiet files log t a r settled_now healing_now =
    (x : ℕ) → (r.start ≡ 0 → ⊥) → settled_now x ≡ false → healing_now x ≡ true → joined log (suc t) a x ≡ true
    → (r.settled x ≡ false) × (r.healing x ≡ true) × (joined log t a x ≡ true) × (SettleLine files log t x r.object r.kind → ⊥)

-- no Settle line, nothing taken back
pub unsettled : (files : Beginning) (log : Log) (t x g : ℕ) (kind : Kind) → (SettleLine files log t x g kind → ⊥) → (c : ℕ) → settled files log (suc t) x c g kind ≡ settled files log t x c g kind
unsettled files log t x g kind none c = elim (settle_line files log t x g kind) [ inl eq ↦ eq c | inr w ↦ absurd (none w) ]

-- a line that changes neither number nor views nor mended cells
pub viewing_next : (files : Beginning) (log : Log) (t a : ℕ) (r : Register) (held closed pre done post settled_now healing_now : ℕ → Bool)
    → ((c : ℕ) (cell : Cell) → stamp files log t c cell ≤ stamp files log (suc t) c cell) → Quiet files log t a r settled_now healing_now → Viewing files log t a r
    → Viewing files log (suc t) a (record r { held = held; closed = closed; pre = pre; done = done; post = post; settled = settled_now; healing = healing_now })
viewing_next files log t a r held closed pre done post settled_now healing_now rises quiet s = record {
  views = λ x view e. (let w = s.views x view e in record { h = w.h; number_is = w.number_is; mine = w.mine; area_is = w.area_is; look = w.look; past = omega (arith, w.past); marks = w.marks });
  firsts = λ x view e. (let w = s.firsts x view e in record {
    h = w.h;
    start_is = w.start_is;
    mine = w.mine;
    look = w.look;
    past = omega (arith, w.past);
    whole = w.whole;
    same = λ un heal live c. (let q = quiet x (λ none. omega (arith, none, w.start_is)) un heal live in unsettled files log t x r.object r.kind q.3 c ∙ w.same q.0 q.1 q.2 c);
    none = λ un heal live u low high line. (
        let q = quiet x (λ none. omega (arith, none, w.start_is)) un heal live in
        elim (cases_lt u t) [
          | inl early ↦ w.none q.0 q.1 q.2 u low early line
          | inr last ↦ q.3 (let e : u ≡ t = omega (arith, last, high) in subst (λ k. SettleLine files log k x r.object r.kind) e line)
        ]
        );
    own = λ inside mine. own_later log t a x r.object r.kind r.start w.look.l (w.own inside mine);
  });
  wholly = s.wholly;
  mended = λ c cell m e. (let w = s.mended c cell m e in (w.0, w.1, λ fit. (let low = w.2 fit in omega (arith, low, rises c cell))));
  raised_first = s.raised_first;
  began = s.began;
  seen_began = s.seen_began;
  steady = λ h x inside number seen heal un live c. (let q = quiet x (s.began inside (λ none. omega (arith, none, number))) un heal live in unsettled files log t x r.object r.kind q.3 c ∙ s.steady h x inside number seen q.1 q.0 q.2 c);
}

-- a brick that told Done to an operation has the object
pub done_finds : (files : Beginning) (log : Log) (t a b : ℕ) (request : Request) (took live : Bool) (fault : Option Fault) → HonestAsk files log t a b request Done took live fault → finds files log t b request ≡ true
done_finds files log t a b request took false fault h = absurd (cc h.0)
done_finds files log t a b request took true (Some Fail) h = absurd (cc h.0)
done_finds files log t a b request took true (Some Lost) h = absurd (cc h.0)
done_finds files log t a b request took true None h = go (finds files log t b request) refl h.0
  where
    go : (yes : Bool) → finds files log t b request ≡ yes → Tells files log t a b request Done yes → yes ≡ true
    go true e k = refl
    go false e k = absurd (cc k)

-- a repair changes cells of its object and kind
pub mends_plane : (repair : Repair) (cell : Cell) → mends repair cell ≡ true → (repaired repair ≡ object_of cell) × (repair_kind repair ≡ kind_of cell)
mends_plane (CutTo g len) (Byte h i) e = (first_equal g.0 h (nat_le len i) (and_left ((g.0 == h) && nat_le len i) (nat_lt i (2 ^ 63)) e), refl)
mends_plane (Copy g at span read) (Byte h i) e = (first_equal g.0 h (nat_le at i) (and_left ((g.0 == h) && nat_le at i) (nat_lt i (at + span)) (and_left ((g.0 == h) && nat_le at i && nat_lt i (at + span)) (nat_lt i (2 ^ 63)) e)), refl)
mends_plane (PutAttrs g read) (Attr h k) e = (eqb-true g.0 h e, refl)
mends_plane (PutNames g reads) (Entry h m) e = (eqb-true g.0 h e, refl)
mends_plane _ (Byte h i) e = absurd (cc e)
mends_plane _ (Attr h i) e = absurd (cc e)
mends_plane _ (Entry h i) e = absurd (cc e)

pub heal_ranges : (g : ℕ) → overlap (heal_area g) (heal_area g) ≡ true
heal_ranges g = rw (same_self g) refl

pub heal_overlap : (g h : ℕ) (a b : Area) → Some (heal_area g) ≡ Some a → Some (heal_area h) ≡ Some b → g ≡ h → overlap a b ≡ true
heal_overlap g h a b e f same =
    let ea : heal_area g ≡ a = cc e in
    let eb : heal_area h ≡ b = cc f in
    rw (← ea, ← eb, same) (heal_ranges h)

pub settle_told : (files : Beginning) (log : Log) (t a b g : ℕ) (kind : Kind) (less : Marks) (told : Told) (live : Bool) (fault : Option Fault) → HonestAsk files log t a b (settle_on g kind less) told true live fault → holds files log t b g ≡ true → (told ≡ Done) ⊎ (told ≡ NotConnected)
settle_told files log t a b g kind less told false fault h there = inr h.0
settle_told files log t a b g kind less told true (Some Fail) h there = absurd (true≢false h.1)
settle_told files log t a b g kind less told true (Some Lost) h there = inr h.0
settle_told files log t a b g kind less told true None h there = inl (go told (subst (Tells files log t a b (settle_on g kind less) told) there h.0))
  where
    go : (told : Told) → Answers files log t a b (settle_on g kind less) told → told ≡ Done
    go Done h = refl
    go _ h = absurd h

pub lost_ends : (log : Log) (t a b : ℕ) (request : Request) → log t ≡ Some (ask_by a b request NotConnected true) → joined log (suc t) a b ≡ true → ⊥
unfolding joined ends
lost_ends log t a b request is live = no_more (joined log t a b || opening log t a b) (a == a) (b == b) (same_self a) (same_self b) (subst (λ l. ((joined log t a b || opening log t a b) && not (ends a b l)) ≡ true) is live)
  where
    no_more : (j x y : Bool) → x ≡ true → y ≡ true → (j && not (x && y && true && true)) ≡ true → ⊥
    no_more j x y p q e = grind arith

module _ (n : ℕ) (keeps : ℕ → Kind → Bool) (files : Beginning) (faults : ℕ → ℕ → Option Fault) (log : Log) (honest : Honest files faults log) (lawful : Lawful n keeps log) where
  -- a Mend or Settle line has a number, and acts under its lock
  pub mend_works : (t a b : ℕ) (repair : Repair) (told : Told) → log t ≡ Some (ask_by a b (Mend repair) told true)
      → (h : ℕ) × ((present n log t a).number ≡ suc h) × Working n keeps files faults log honest lawful t a b (present n log t a)
  mend_works t a b repair told is =
      let may : MayMend n keeps log t a (present n log t a) b repair = may_ask n keeps files faults log honest lawful t a b (Mend repair) told true is in
      let q = positive (present n log t a).number may.begun_already in
      (q.0, q.1, working n keeps files faults log honest lawful t a b (Mend repair) told q.0 is q.1)

  pub mend_acts : (cell : Cell) (t a b : ℕ) (repair : Repair) (told : Told) (is : log t ≡ Some (ask_by a b (Mend repair) told true)) → mends repair cell ≡ true → Act log cell (mend_works t a b repair told is).0 b t
  mend_acts cell t a b repair told is touch =
      let may : MayMend n keeps log t a (present n log t a) b repair = may_ask n keeps files faults log honest lawful t a b (Mend repair) told true is in
      let w = mend_works t a b repair told is in
      acting n keeps files faults log honest lawful cell t a b (present n log t a) (Mend repair) told w.0 is w.2 w.1 may.locked may.open_still
      (λ mine e. mend_covers n keeps files faults log honest lawful cell (present n log t a).area mine repair may.within e touch)

  pub settle_works : (t a b g : ℕ) (kind : Kind) (less : Marks) (told : Told) → log t ≡ Some (ask_by a b (settle_on g kind less) told true)
      → (h : ℕ) × ((present n log t a).number ≡ suc h) × Working n keeps files faults log honest lawful t a b (present n log t a)
  settle_works t a b g kind less told is =
      let may : MaySettle n keeps log t a (present n log t a) b g kind less = may_ask n keeps files faults log honest lawful t a b (settle_on g kind less) told true is in
      let q = positive (present n log t a).number may.begun_already in
      (q.0, q.1, working n keeps files faults log honest lawful t a b (settle_on g kind less) told q.0 is q.1)

  -- a stamp changes by an act of the number that it becomes
  pub stamp_step : (t b : ℕ) (cell : Cell) → (stamp files log (suc t) b cell ≡ stamp files log t b cell) ⊎ ((q : ℕ) × Act log cell q b t × (stamp files log (suc t) b cell ≡ suc q))
  stamp_step t b cell = go (touched files log t b cell)
    where
      go : Touched files log t b cell → (stamp files log (suc t) b cell ≡ stamp files log t b cell) ⊎ ((q : ℕ) × Act log cell q b t × (stamp files log (suc t) b cell ≡ suc q))
      go (Not e) = inl (stamp_next files log t b cell ∙ rw e refl)
      go (Made a q told is past inside e) = inr (q, apply_acts n keeps files faults log honest lawful cell t a b q told is inside, stamp_next files log t b cell ∙ rw e refl)
      go (Mended a repair told is touch e) = (
          let w = mend_works t a b repair told is in
          inr (w.0, mend_acts cell t a b repair told is touch, stamp_next files log t b cell ∙ rw (e, (w.2.numbers.newest w.0 w.1).1) refl)
          )

  pub stamp_rises : (t c : ℕ) (cell : Cell) → stamp files log t c cell ≤ stamp files log (suc t) c cell
  stamp_rises t c cell =
      rises_once (λ u. stamp files log u c cell) (λ q u. Act log cell q c u) (λ q u act. act_later log cell q c u act) (λ q m u v one two. acts_apart files faults log honest cell q m c u v one two)
      (stamp_start files log c cell) (λ u. stamp_step u c cell) t

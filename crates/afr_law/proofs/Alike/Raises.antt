-- What took a raise of a dirty number back: its attempt's Post, a Settle whose first look saw it, or its own heal's Settle.
use Rattle.std.proofs.Common.{◌≡◌, ℕ, suc, ◌+◌, ◌-◌, ◌<◌, ◌≤◌, Bool, true, false, ◌&&◌, ◌||◌, ◌⊎◌, inl, inr, refl, sym, ap, ◌∙◌, subst, arith, true≢false}
use Rattle.std.specs.Prelude.{Option, None, Some, ◌==◌, nat_lt, List as Seq}
use Rattle.std.proofs.lemmas.Bool.Decides.{nat_tests}
use Rattle.afr_base.specs.Bricks.{member}
use Rattle.afr_base.specs.declared.ids.Kind.{Kind}
use Rattle.afr_base.specs.declared.marks.Marks.{Marks}
use Rattle.afr_lines.specs.declared.fault.Fault.{Fault}
use Rattle.afr_base.specs.Kinds.{same_kind}
use Rattle.afr_object.specs.declared.change.Change.{Change}
use Rattle.afr_lines.specs.declared.request.Area.{Area}
use Rattle.afr_lines.specs.declared.request.Request.{Request}
use Rattle.afr_lines.specs.declared.request.Request.TheVariants.{Pre, Post, Settle}
use Rattle.afr_lines.specs.declared.answer.Told.{Told}
use Rattle.afr_lines.specs.declared.answer.Told.TheVariants.{Seen, Done}
use Rattle.afr_lines.specs.declared.line.Line.{Line}
use Rattle.afr_lines.specs.declared.line.Line.TheVariants.{Ask, Begin}
use Rattle.afr_model_moves.specs.Cells.{Cell, is_cell, object_of, kind_of, covers}
use Rattle.afr_model_moves.specs.Past.{Beginning, Log, last, holds, joined, opening, object, actor_of}
use Rattle.afr_law.specs.Dirty.{raising, raised, lowering, lowered, dirty, NoneBelow, TracksDirty, DirtyTracked}
use Rattle.afr_model_moves.specs.Honest.{HonestLine, Honest, view_marks, plane_kind, asked}
use Rattle.afr_model_moves.specs.Rules.{PlaneIs, SomeCell, MayPre, MayPost, MaySettle, Full, one_if, Lawful, present, opened, register, in_force}
use Rattle.afr_model_moves.specs.Lines.{ask_by, begin_by, heal_begin_by, look_at, pre_on, post_on, settle_on}
use Rattle.afr_law.proofs.Safety.Numbers.{Prepared, Piece}
use Rattle.afr_law.proofs.Safety.Sessions.{all_four}
use Rattle.afr_law.proofs.Safety.Acts.{Act, acts_apart, Working, working, acting, may_ask}
use Rattle.afr_law.proofs.Heals.Looks.{SettleLine, look_acts, OwnPre, FirstAt, Viewing, done_finds, settle_works}
use Rattle.afr_law.proofs.Heals.Marks.{ready}
use Rattle.afr_law.proofs.Heals.EachLine.{viewings}
use Rattle.afr_law.proofs.Alike.Since.{since}
use Rattle.afr_law.proofs.Alike.Tallies.{present_tallied}
use Rattle.afr_law.proofs.Alike.Units.{Step, Still, Raises, Lowers, Takes, TakesOwn, clears, single, seen, gone, covers_all}
use Rattle.afr_model_moves.proofs.Tests.{same_self, three_cases, same_kind_self, four_parts, same_kind_yes, positive}
use Rattle.std.proofs.lemmas.Bool.{eqb-true, or_cases, ltb-true}

pub equal_is : (x p : ℕ) → (x == p) ≡ true → p ≡ x
equal_is x p e = grind (arith, nat_tests)

-- an attempt has one object and kind
pub plane_one : (line : Option Line) (g h : ℕ) (k l : Kind) → PlaneIs line g k → PlaneIs line h l → (g ≡ h) × (k ≡ l)
plane_one (Some (Begin a change)) g h k l v w = (sym v.0 ∙ w.0, sym v.1 ∙ w.1)
plane_one _ g h k l v w = absurd v

pub plane_object : (line : Option Line) (a g : ℕ) (change : Change) (kind : Kind) → line ≡ Some (begin_by a change) → PlaneIs line g kind → (object change ≡ g) × (plane_kind change ≡ kind)
plane_object line a g change kind is plane = subst (λ l. PlaneIs l g kind) is plane

-- no attempt is a piece of a heal
pub no_piece : (line : Option Line) (a g h : ℕ) (k kind : Kind) → line ≡ Some (heal_begin_by a g k) → PlaneIs line h kind → ⊥
no_piece line a g h k kind is plane = subst (λ l. PlaneIs l h kind) is plane

some_covers : (area : Option Area) (change : Change) → SomeCell area change → (cell : Cell) × (is_cell cell ≡ true) × (object_of cell ≡ object change) × (kind_of cell ≡ plane_kind change) × ((mine : Area) → area ≡ Some mine → covers mine cell ≡ true)
some_covers None change s = absurd s
some_covers (Some area) change s = (s.0, s.1, s.2, s.3, λ mine e. here mine (cc e))
  where
    here : (mine : Area) → area ≡ mine → covers mine s.0 ≡ true
    here mine same = rw (← same) s.4

module _ (n : ℕ) (keeps : ℕ → Kind → Bool) (files : Beginning) (faults : ℕ → ℕ → Option Fault) (log : Log) (honest : Honest files faults log) (lawful : Lawful n keeps log) (shown : DirtyTracked files log) (x g : ℕ) (kind : Kind) where
  -- the line at p raises the dirty number of x on the object and kind
  abbrev pub raise : ℕ → Bool
  raise p = holds files log p x g && raising x g kind (log p)

  -- a Post takes back its attempt's raise
  pub record PostBack (t p : ℕ) : Type 0 where
    pub a : ℕ
    pub q : ℕ
    pub missed : Seq ℕ
    pub told : Told
    pub is : log t ≡ Some (ask_by a x (post_on q g kind missed) told true)
    pub there : holds files log t x g ≡ true
    pub pre : Prepared log t a x q
    pub here : pre.p ≡ p
    pub plane : PlaneIs (log q) g kind

  -- a Settle takes back dirty numbers
  pub record Swept (t : ℕ) : Type 0 where
    pub a : ℕ
    pub less : Marks
    pub told : Told
    pub is : log t ≡ Some (ask_by a x (settle_on g kind less) told true)
    pub there : holds files log t x g ≡ true
    pub may : MaySettle n keeps log t a (present n log t a) x g kind less
    pub first : FirstAt files log t a x (present n log t a).start (present n log t a).object (present n log t a).kind ((present n log t a).settled x) ((present n log t a).healing x) (present n log t a).heal ((present n log t a).raised x) may.view
    pub full : Full n keeps log t a (present n log t a)
    pub live : joined log t a x ≡ true

  -- the settling heal's own Pre at x
  abbrev pub OwnOf : (t : ℕ) → Swept t → Type 0
  OwnOf t w = OwnPre log t w.a x (present n log t w.a).object (present n log t w.a).kind (present n log t w.a).start w.first.look.l

  -- why the line at t takes the raise at p back
  pub data Why (t p : ℕ) : Type 0 where
    ByPost : PostBack t p → Why t p
    BySweep : (w : Swept t) → p < w.first.look.l → Why t p
    ByOwn : (w : Swept t) (o : OwnOf t w) → o.p ≡ p → Why t p

  -- the same, of the one raise that the line takes back by name
  pub data Named (t p : ℕ) : Type 0 where
    NamedPost : PostBack t p → Named t p
    NamedOwn : (w : Swept t) (o : OwnOf t w) → o.p ≡ p → Named t p

  -- what was raised before t
  abbrev up : ℕ → ℕ
  up t = raised files log t x g kind

  -- what was taken back before t
  abbrev down : ℕ → ℕ
  down t = lowered files log t x g kind

  -- what the line at t does to the dirty number, with the reason
  pub record Stepped (t : ℕ) : Type 0 where
    pub step : Step raise up down t
    pub why : (p : ℕ) → clears raise up down t step p ≡ true → Why t p
    pub named : (p : ℕ) → single raise up down t step p ≡ true → Named t p
    pub sight : (p u : ℕ) → seen raise up down t step p u → (w : Swept t) × (p < w.first.look.l) × (w.first.look.l ≤ u)

  up_same : (t : ℕ) → raise t ≡ false → up (suc t) ≡ up t
  unfolding raised
  up_same t e = rw e refl_of
    where
      refl_of : 0 + raised files log t x g kind ≡ raised files log t x g kind
      refl_of = omega arith

  up_more : (t : ℕ) → raise t ≡ true → up (suc t) ≡ suc (up t)
  unfolding raised
  up_more t e = rw e refl_of
    where
      refl_of : 1 + raised files log t x g kind ≡ suc (raised files log t x g kind)
      refl_of = omega arith

  down_by : (t m : ℕ) → holds files log t x g ≡ true → lowering x g kind (log t) ≡ m → down (suc t) ≡ m + down t
  unfolding lowered
  down_by t m there e = rw (there, e) refl

  down_none : (t : ℕ) → holds files log t x g ≡ false → down (suc t) ≡ down t
  unfolding lowered
  down_none t none = rw none refl_of
    where
      refl_of : 0 + lowered files log t x g kind ≡ lowered files log t x g kind
      refl_of = omega arith

  still : (t : ℕ) → raise t ≡ false → down (suc t) ≡ down t → Stepped t
  still t none same = record {
    step = Still none (up_same t none) same;
    why = λ p e. absurd (true≢false (sym e));
    named = λ p e. absurd (true≢false (sym e));
    sight = λ p u e. absurd e;
  }

  -- a Pre that was told Done on the object and kind is a raise
  pub raises_at : (p a h : ℕ) (k : Kind) → log p ≡ Some (ask_by a x (pre_on h k) Done true) → h ≡ g → k ≡ kind → raise p ≡ true
  raises_at p a h k is object_is kind_is =
      let found : holds files log p x h ≡ true = done_finds files log p a x (pre_on h k) true (joined log p a x || opening log p a x) (faults x (suc (asked log p x))) (subst (HonestLine files faults log p) is (honest p)) in
      let there : holds files log p x g ≡ true = subst (λ o. holds files log p x o ≡ true) object_is found in
      rw (there, is) (all_four (x == x) true (h == g) (same_kind k kind) (same_self x) refl (subst (λ o. (h == o) ≡ true) object_is (same_self h)) (rw kind_is (same_kind_self kind)))

  posted : (t a q : ℕ) (missed : Seq ℕ) (told : Told) → log t ≡ Some (ask_by a x (post_on q g kind missed) told true) → holds files log t x g ≡ true → raise t ≡ false → lowering x g kind (log t) ≡ 1 → Stepped t
  posted t a q missed told is there none one =
      let may : MayPost n log t a (present n log t a) x q g kind (member missed) = may_ask n keeps files faults log honest lawful t a x (post_on q g kind missed) told true is in
      let w = working n keeps files faults log honest lawful t a x (post_on q g kind missed) told q is may.own in
      let pre : Prepared log t a x q = w.numbers.prepared q x may.outside may.own (w.numbers.acted x may.ready) in
      let same = plane_one (log q) pre.g g pre.kind kind pre.plane may.plane in
      let back : PostBack t pre.p = record { a = a; q = q; missed = missed; told = told; is = is; there = there; pre = pre; here = refl; plane = may.plane } in
      record {
        step = Lowers pre.p pre.past (raises_at pre.p a pre.g pre.kind pre.is same.0 same.1) none (up_same t none) (let fell = down_by t 1 there one in omega (arith, fell));
        why = λ p e. subst (Why t) (equal_is p pre.p e) (ByPost back);
        named = λ p e. subst (Named t) (equal_is p pre.p e) (NamedPost back);
        sight = λ p u e. absurd e;
      }

  swept : (t a : ℕ) (less : Marks) (told : Told) → log t ≡ Some (ask_by a x (settle_on g kind less) told true) → holds files log t x g ≡ true → raise t ≡ false → lowering x g kind (log t) ≡ less.dirty → Stepped t
  swept t a less told is there none one = by may.cleaned
    where
      may : MaySettle n keeps log t a (present n log t a) x g kind less
      may = may_ask n keeps files faults log honest lawful t a x (settle_on g kind less) told true is

      by : (less.dirty ≡ 0) ⊎ ((less.dirty ≡ (view_marks may.view kind).dirty + one_if ((present n log t a).raised x)) × Full n keeps log t a (present n log t a)) → Stepped t
      by (inl zero_less) = still t none (down_by t less.dirty there one ∙ ap (λ m. m + down t) zero_less ∙ plus t)
        where
          plus : (t : ℕ) → 0 + down t ≡ down t
          plus t = omega arith
      by (inr (amount, full)) = own ((present n log t a).raised x) refl
        where
          work : (h : ℕ) × ((present n log t a).number ≡ suc h) × Working n keeps files faults log honest lawful t a x (present n log t a)
          work = settle_works n keeps files faults log honest lawful t a x g kind less told is

          v : Viewing files log t a (present n log t a)
          v = (ready n keeps files faults log honest lawful t a (viewings n keeps files faults log honest lawful t a)).viewing

          f : FirstAt files log t a x (present n log t a).start (present n log t a).object (present n log t a).kind ((present n log t a).settled x) ((present n log t a).healing x) (present n log t a).heal ((present n log t a).raised x) may.view
          f = v.firsts x may.view may.seen

          w : Swept t
          w = record { a = a; less = less; told = told; is = is; there = there; may = may; first = f; full = full; live = work.2.live }

          l : ℕ
          l = f.look.l

          saw : NoneBelow files log l x g kind → (view_marks may.view kind).dirty ≡ up l - down l
          saw none_below = subst (λ o. NoneBelow files log l x o kind → (view_marks may.view kind).dirty ≡ raised files log l x o kind - lowered files log l x o kind) (sym may.object_same) (subst (TracksDirty files log l) f.look.is (shown l) kind) none_below

          fell : down (suc t) ≡ less.dirty + down t
          fell = down_by t less.dirty there one

          bit : (b : Bool) → b ≡ true → one_if b ≡ 1
          bit true e = refl
          bit false e = absurd (cc e)

          no_bit : (b : Bool) → b ≡ false → one_if b ≡ 0
          no_bit false e = refl
          no_bit true e = absurd (cc e)

          own : (mine : Bool) → (present n log t a).raised x ≡ mine → Stepped t
          own false e = record {
            step = Takes l (omega (arith, f.past)) none (up_same t none) (λ none_below. omega (arith, fell, amount, saw none_below, no_bit ((present n log t a).raised x) e));
            why = λ p k. BySweep w (ltb-true p l k);
            named = λ p k. absurd (true≢false (sym k));
            sight = λ p u k. (w, k.0, k.1);
          }
          own true e = (
              let o : OwnOf t w = f.own may.inside e in
              record {
                step = TakesOwn l o.p (omega (arith, o.later)) o.past (raises_at o.p a (present n log t a).object (present n log t a).kind o.is (sym may.object_same) (sym may.kind_same)) none (up_same t none) (λ none_below. omega (arith, fell, amount, saw none_below, bit ((present n log t a).raised x) e));
                why = λ p k. elim (or_cases (nat_lt p l) (p == o.p) k) [
                  | inl under ↦ BySweep w (ltb-true p l under)
                  | inr same ↦ ByOwn w o (equal_is p o.p same)
                ];
                named = λ p k. NamedOwn w o (equal_is p o.p k);
                sight = λ p u k. (w, k.0, k.1);
              }
              )

  pub stepped : (t : ℕ) → Stepped t
  stepped t = here (holds files log t x g) refl
    where
      go : (line : Option Line) → log t ≡ line → holds files log t x g ≡ true → Stepped t
      go (Some (Ask a y (Pre h k) told took)) is there = pick ((y.0 == x) && took && (h.0 == g) && same_kind k kind) refl
        where
          pick : (hit : Bool) → ((y.0 == x) && took && (h.0 == g) && same_kind k kind) ≡ hit → Stepped t
          pick false e = still t (rw (there, is, e) refl) (down_by t 0 there (rw is refl) ∙ none t)
            where
              none : (t : ℕ) → 0 + down t ≡ down t
              none t = omega arith
          pick true e = (
              let some : raise t ≡ true = rw (there, is, e) refl in
              record {
                step = Raises some (up_more t some) (down_by t 0 there (rw is refl) ∙ none t);
                why = λ p k. absurd (true≢false (sym k));
                named = λ p k. absurd (true≢false (sym k));
                sight = λ p u k. absurd k;
              }
              )
            where
              none : (t : ℕ) → 0 + down t ≡ down t
              none t = omega arith
      go (Some (Ask a y (Post q h k missed) told took)) is there = pick ((y.0 == x) && took && (h.0 == g) && same_kind k kind) refl
        where
          quiet : raise t ≡ false
          quiet = rw (there, is) refl

          none : (t : ℕ) → 0 + down t ≡ down t
          none t = omega arith

          pick : (hit : Bool) → ((y.0 == x) && took && (h.0 == g) && same_kind k kind) ≡ hit → Stepped t
          pick false e = still t quiet (down_by t 0 there (rw (is, e) refl) ∙ none t)
          pick true e = (
              let w = four_parts (y.0 == x) took (h.0 == g) (same_kind k kind) e in
              posted t a.0 q missed told (is ∙ (λ i. Some (ask_by a.0 (eqb-true y.0 x w.0 i) (post_on q (eqb-true h.0 g w.2 i) (same_kind_yes k kind w.3 i) missed) told (w.1 i)))) there quiet (rw (is, e) refl)
              )
      go (Some (Ask a y (Settle h k less) told took)) is there = pick ((y.0 == x) && took && (h.0 == g) && same_kind k kind) refl
        where
          quiet : raise t ≡ false
          quiet = rw (there, is) refl

          none : (t : ℕ) → 0 + down t ≡ down t
          none t = omega arith

          pick : (hit : Bool) → ((y.0 == x) && took && (h.0 == g) && same_kind k kind) ≡ hit → Stepped t
          pick false e = still t quiet (down_by t 0 there (rw (is, e) refl) ∙ none t)
          pick true e = (
              let w = four_parts (y.0 == x) took (h.0 == g) (same_kind k kind) e in
              swept t a.0 less told (is ∙ (λ i. Some (ask_by a.0 (eqb-true y.0 x w.0 i) (settle_on (eqb-true h.0 g w.2 i) (same_kind_yes k kind w.3 i) less) told (w.1 i)))) there quiet (rw (is, e) refl)
              )
      go _ is there = still t (rw (there, is) refl) (down_by t 0 there (rw is refl) ∙ none t)
        where
          none : (t : ℕ) → 0 + down t ≡ down t
          none t = omega arith

      here : (has_it : Bool) → holds files log t x g ≡ has_it → Stepped t
      here true e = go (log t) refl e
      here false e = still t (rw e refl) (down_none t e)

  -- an act of an attempt on some cell of the object and kind
  pub record PlaneAct (q t : ℕ) : Type 0 where
    pub cell : Cell
    pub real : is_cell cell ≡ true
    pub object_is : object_of cell ≡ g
    pub kind_is : kind_of cell ≡ kind
    pub act : Act log cell q x t

  attempt_act : (t a q : ℕ) (request : Request) (told : Told) → log t ≡ Some (ask_by a x request told true) → Working n keeps files faults log honest lawful t a x (present n log t a) → (present n log t a).heal ≡ false → (present n log t a).number ≡ suc q
      → (present n log t a).seen x ≡ true → (present n log t a).closed x ≡ false → PlaneIs (log q) g kind → PlaneAct q t
  attempt_act t a q request told is w out own seen_there open_still plane =
      let attempt = w.numbers.attempt q out own in
      let c = some_covers (present n log t a).area attempt.change attempt.some in
      let here = plane_object (log q) a g attempt.change kind attempt.is plane in
      record {
        cell = c.0;
        real = c.1;
        object_is = c.2 ∙ here.0;
        kind_is = c.3 ∙ here.1;
        act = acting n keeps files faults log honest lawful c.0 t a x (present n log t a) request told q is w own seen_there open_still c.4;
      }

  post_act : (t p : ℕ) (w : PostBack t p) → PlaneAct w.q t
  post_act t p w =
      let request = post_on w.q g kind w.missed in
      let may : MayPost n log t w.a (present n log t w.a) x w.q g kind (member w.missed) = may_ask n keeps files faults log honest lawful t w.a x request w.told true w.is in
      let work = working n keeps files faults log honest lawful t w.a x request w.told w.q w.is may.own in
      attempt_act t w.a w.q request w.told w.is work may.outside may.own (work.numbers.ready x (work.numbers.acted x may.ready)) may.open_still w.plane

  pub pre_act : (t a q : ℕ) → PlaneIs (log q) g kind → (w : Prepared log t a x q) → PlaneAct q w.p
  pre_act t a q plane w =
      let request = pre_on w.g w.kind in
      let may : MayPre log w.p a (present n log w.p a) x w.g w.kind = may_ask n keeps files faults log honest lawful w.p a x request Done true w.is in
      let m = positive (present n log w.p a).number may.begun_already in
      let work = working n keeps files faults log honest lawful w.p a x request Done m.0 w.is m.1 in
      let same : m.0 ≡ q = (let newest = (work.numbers.newest m.0 m.1).1 in omega (arith, newest, w.newest)) in
      let own : (present n log w.p a).number ≡ suc q = m.1 ∙ ap suc same in
      attempt_act w.p a q request Done w.is work (outside ((present n log w.p a).heal) refl work.numbers.piece own) own may.holder may.open_still plane
    where
      outside : (heal : Bool) → (present n log w.p a).heal ≡ heal → ((h : ℕ) → (present n log w.p a).heal ≡ true → (present n log w.p a).number ≡ suc h → Piece log a h) → (present n log w.p a).number ≡ suc q → (present n log w.p a).heal ≡ false
      outside false e piece own = e
      outside true e piece own = (let k = piece q e own in absurd (no_piece (log q) a k.g g k.kind kind k.is plane))

  pub look_act : (t : ℕ) (w : Swept t) (cell : Cell) → is_cell cell ≡ true → object_of cell ≡ g → kind_of cell ≡ kind → Act log cell w.first.h x w.first.look.l
  look_act t w cell real object_is kind_is =
      let r = present n log t w.a in
      look_acts log cell w.a x w.first.h r.object w.may.view w.first.mine w.first.look (w.first.whole cell real (object_is ∙ w.may.object_same) (kind_is ∙ w.may.kind_same))

  pub present_start : (t a h : ℕ) → (present n log t a).start ≡ suc h → (register n log t a).start ≡ suc h
  present_start t a h e = go (opened log t a) e
    where
      go : (first : Bool) → (in_force first (register n log t a)).start ≡ suc h → (register n log t a).start ≡ suc h
      go true k = absurd (cc k)
      go false k = k

  pub sweep_piece : (t : ℕ) (w : Swept t) → Piece log w.a w.first.h
  sweep_piece t w = (since n keeps files faults log honest lawful t w.a).piece w.first.h (present_start t w.a w.first.h w.first.start_is)

  -- a Settle's first look stands outside an attempt's Pre and Post
  no_straddle : (u p t : ℕ) (w : PostBack u p) (s : Swept t) → p < s.first.look.l → s.first.look.l < u → ⊥
  no_straddle u p t w s early late =
      let pre = pre_act u w.a w.q w.plane w.pre in
      let post = post_act u p w in
      let h = s.first.h in
      let l = s.first.look.l in
      let look_one = look_act t s pre.cell pre.real pre.object_is pre.kind_is in
      let look_two = look_act t s post.cell post.real post.object_is post.kind_is in
      elim (three_cases w.q h) [
        | inl less ↦ (let soon = acts_apart files faults log honest post.cell w.q h x u l post.act look_two less in omega (arith, soon, late, s.first.look.after))
        | inr (inl same) ↦ (let piece = sweep_piece t s in no_piece (log w.q) s.a piece.g g piece.kind kind (ap log same ∙ piece.is) w.plane)
        | inr (inr more) ↦ (let soon = acts_apart files faults log honest pre.cell h w.q x l w.pre.p look_one pre.act more in omega (arith, soon, early, w.here, w.pre.after))
      ]

  -- a raise is an attempt's or a heal's, not both
  no_both : (u t p : ℕ) (w : PostBack u p) (s : Swept t) (o : OwnOf t s) → o.p ≡ p → ⊥
  no_both u t p w s o e =
      let one : log p ≡ Some (ask_by w.a x (pre_on w.pre.g w.pre.kind) Done true) = subst (λ k. log k ≡ Some (ask_by w.a x (pre_on w.pre.g w.pre.kind) Done true)) w.here w.pre.is in
      let two : log p ≡ Some (ask_by s.a x (pre_on (present n log t s.a).object (present n log t s.a).kind) Done true) = subst (λ k. log k ≡ Some (ask_by s.a x (pre_on (present n log t s.a).object (present n log t s.a).kind) Done true)) e o.is in
      let actor : w.a ≡ s.a = ap actor_of (sym one ∙ two) in
      let mine : last log p w.a ≡ suc w.q = subst (λ k. last log k w.a ≡ suc w.q) w.here w.pre.newest in
      let its : last log p w.a ≡ suc s.first.h = rw actor (subst (λ k. last log k s.a ≡ (present n log t s.a).start) e o.newest ∙ s.first.start_is) in
      let same : w.q ≡ s.first.h = omega (arith, mine, its) in
      let piece = sweep_piece t s in
      no_piece (log w.q) s.a piece.g g piece.kind kind (ap log same ∙ piece.is) w.plane

  pub line_of : (u : ℕ) → Swept u → SettleLine files log u x g kind
  line_of u w = record { a = w.a; less = w.less; told = w.told; is = w.is; there = w.there }

  -- between a heal's first look and its Settle there is no other
  no_sweep : (t u : ℕ) (w : Swept t) → w.first.look.l ≤ u → u < t → SettleLine files log u x g kind → ⊥
  no_sweep t u w low high line =
      let r = present n log t w.a in
      w.first.none w.may.once w.may.healing w.live u low high (subst (λ o. SettleLine files log u x o r.kind) w.may.object_same (subst (SettleLine files log u x g) w.may.kind_same line))

  step_of : (t : ℕ) → Step raise up down t
  step_of t = (stepped t).step

  alone : (t p : ℕ) → single raise up down t (step_of t) p ≡ true → (u : ℕ) → u < t → clears raise up down u (step_of u) p ≡ false
  unfolding step_of
  alone t p one u less = go (clears raise up down u (stepped u).step p) refl ((stepped t).named p one)
    where
      against : Named t p → Why u p → ⊥
      against (NamedPost w) (ByPost k) = (
          let mine : log p ≡ Some (ask_by w.a x (pre_on w.pre.g w.pre.kind) Done true) = subst (λ j. log j ≡ Some (ask_by w.a x (pre_on w.pre.g w.pre.kind) Done true)) w.here w.pre.is in
          let its : log p ≡ Some (ask_by k.a x (pre_on k.pre.g k.pre.kind) Done true) = subst (λ j. log j ≡ Some (ask_by k.a x (pre_on k.pre.g k.pre.kind) Done true)) k.here k.pre.is in
          let actor : k.a ≡ w.a = ap actor_of (sym its ∙ mine) in
          let may : MayPost n log t w.a (present n log t w.a) x w.q g kind (member w.missed) = may_ask n keeps files faults log honest lawful t w.a x (post_on w.q g kind w.missed) w.told true w.is in
          let asked = (present_tallied n keeps files faults log honest lawful t w.a (λ none. omega (arith, none, may.own))).posts u x k.q g kind k.missed k.told true (k.is ∙ ap (λ b. Some (ask_by b x (post_on k.q g kind k.missed) k.told true)) actor) less (λ none. omega (arith, none, may.own)) (omega (arith, may.own, w.pre.after, w.here, k.here, k.pre.past)) in
          true≢false (sym asked ∙ may.once)
          )
      against (NamedPost w) (BySweep s early) = no_straddle t p u w s early (omega (arith, s.first.past, less))
      against (NamedPost w) (ByOwn s o e) = no_both t u p w s o e
      against (NamedOwn s o e) (ByPost k) = no_both u t p k s o e
      against (NamedOwn s o e) (BySweep k early) = no_sweep t u s (omega (arith, o.later, e, early, k.first.past)) less (line_of u k)
      against (NamedOwn s o e) (ByOwn k i f) = no_sweep t u s (omega (arith, o.later, e, f, i.past)) less (line_of u k)

      go : (c : Bool) → clears raise up down u (stepped u).step p ≡ c → Named t p → clears raise up down u (stepped u).step p ≡ false
      go false e named = e
      go true e named = absurd (against named ((stepped u).why p e))

  stands : (t p u : ℕ) → raise p ≡ true → u < t → seen raise up down t (step_of t) p u → clears raise up down u (step_of u) p ≡ false
  unfolding step_of
  stands t p u mine less saw = go (clears raise up down u (stepped u).step p) refl ((stepped t).sight p u saw)
    where
      against : (w : Swept t) → p < w.first.look.l → w.first.look.l ≤ u → Why u p → ⊥
      against w early low (ByPost k) = no_straddle u p t k w early (past (three_cases w.first.look.l u))
        where
          past : (w.first.look.l < u) ⊎ (w.first.look.l ≡ u) ⊎ (u < w.first.look.l) → w.first.look.l < u
          past (inl under) = under
          past (inr (inl same)) = absurd (
              let look : log u ≡ Some (ask_by w.a x (look_at (present n log t w.a).object) (Seen w.may.view) true) = subst (λ j. log j ≡ Some (ask_by w.a x (look_at (present n log t w.a).object) (Seen w.may.view) true)) same w.first.look.is in
              cc (look, k.is)
              )
          past (inr (inr over)) = absurd (omega (arith, over, low))
      against w early low (BySweep s k) = no_sweep t u w low less (line_of u s)
      against w early low (ByOwn s o k) = no_sweep t u w low less (line_of u s)

      go : (c : Bool) → clears raise up down u (stepped u).step p ≡ c → ((w : Swept t) × (p < w.first.look.l) × (w.first.look.l ≤ u)) → clears raise up down u (stepped u).step p ≡ false
      go false e w = e
      go true e w = absurd (against w.0 w.1 w.2 ((stepped u).why p e))

  begins : (up 0 ≡ 0) × (down 0 ≡ 0)
  unfolding raised lowered
  begins = (refl, refl)

  -- where the dirty number is 0, each raise was taken back
  pub taken_back : (t p : ℕ) → dirty files log t x g kind ≡ 0 → raise p ≡ true → p < t → (u : ℕ) × (p < u) × (u < t) × Why u p
  unfolding step_of
  taken_back t p none mine less =
      let w = gone raise up down begins step_of alone stands t p (omega (arith, none)) mine less in
      (w.0, w.1, w.2, (stepped w.0).why p w.3)

  -- no dirty number is below 0
  pub none_below : (t : ℕ) → down t ≤ up t
  unfolding step_of
  none_below t = covers_all raise up down begins step_of alone stands t

-- The copy that was good by the looks of the last attempt: who accuses it among those that did this attempt shows an overlap.
use Rattle.std.proofs.Common.{◌≡◌, ℕ, zero, suc, ◌<◌, ◌≤◌, Bool, true, false, ◌&&◌, ◌||◌, ◌⊎◌, not, inl, inr, refl, sym, ◌∙◌, ap, subst, arith, true≢false, List}
use Rattle.std.specs.Prelude.{None, Option, Some, slice_index, ◌==◌}
use Rattle.std.proofs.lemmas.Bool.{cases_eq, cases_lt, eqb-true, and_parts}
use Rattle.afr_base.specs.Bricks.{member}
use Rattle.afr_base.specs.Kinds.{same_kind}
use Rattle.afr_base.specs.Majority.{IsMajority}
use Rattle.afr_base.specs.declared.ids.ActorId.{ActorId}
use Rattle.afr_base.specs.declared.ids.Kind.{Kind}
use Rattle.afr_lines.specs.declared.fault.Fault.{Fault}
use Rattle.afr_object.specs.declared.entry.View.{View}
use Rattle.afr_lines.specs.declared.answer.Told.{Told}
use Rattle.afr_lines.specs.declared.answer.Told.TheVariants.{Done, Seen}
use Rattle.afr_lines.specs.declared.line.Line.{Line}
use Rattle.afr_lines.specs.declared.line.Line.TheVariants.{Ask}
use Rattle.afr_lines.specs.declared.request.Area.{Area}
use Rattle.afr_lines.specs.declared.request.Request.TheVariants.{Apply, Post}
use Rattle.afr_model_moves.specs.Discipline.{LawfulExactly, MayAskExactly, MayExactly, present}
use Rattle.afr_model_moves.specs.Heal.{Gives, Goes}
use Rattle.afr_model_moves.specs.Honest.{Honest, HonestLine, asked, view_marks}
use Rattle.afr_model_moves.specs.Lines.{ask_by, look_at, post_on}
use Rattle.afr_model_moves.specs.Past.{Beginning, Log, holds, joined, opening, pending, posts, settled}
use Rattle.afr_model_moves.specs.Register.{PlaneIn, accuses, holder, is_on, unaccused}
use Rattle.afr_model_moves.specs.Rules as weak
use Rattle.afr_model_moves.specs.Rules.{Lawful, Register, area_object, is_none}
use Rattle.afr_model_moves.specs.Transaction.{MayPost}
use Rattle.afr_model_moves.proofs.Tests.{all_yes, same_kind_self, same_kind_yes, same_self, three_parts}
use Rattle.afr_law.proofs.Discipline.Implies.{implies}
use Rattle.afr_law.proofs.Discipline.Projection.{present_law}
use Rattle.afr_law.proofs.Heals.Answers.{honestly, still_there}
use Rattle.afr_law.proofs.Safety.Acts.{may_ask, working}
use Rattle.afr_law.proofs.Safety.CellLemmas.{shows_at}
use Rattle.afr_law.proofs.Safety.Numbers.{Applied, Numbered}
use Rattle.afr_law_promises.specs.Missed.ByPosition.{CauseSince}
use Rattle.afr_law_promises.proofs.Missed.Posted.{cause_since}
use Rattle.afr_law_promises.proofs.Whole.Along.{stands_now}
use Rattle.afr_law_promises.proofs.Whole.Looks.{IsOneWork, SeenHere, StandsOf}
use Rattle.afr_law_quiet.proofs.Moves.Seen.{none_against}

-- ---- post-ops
-- a post-op on the object and kind that was carried out
abbrev is_post : ℕ → Kind → Option Line → Bool
is_post g kind (Some (Ask a y (Post q h k missed) told took)) = took && (h.0 == g) && same_kind k kind
is_post g kind _ = false

-- one of this attempt
abbrev is_post_of : ℕ → ℕ → Kind → Option Line → Bool
is_post_of j g kind (Some (Ask a y (Post q h k missed) told took)) = (q == j) && (took && (h.0 == g) && same_kind k kind)
is_post_of j g kind _ = false

record PostLine (g : ℕ) (kind : Kind) (line : Option Line) : Type 0 where
  pub a : ℕ
  pub b : ℕ
  pub q : ℕ
  pub missed : List ℕ
  pub told : Told
  pub is : line ≡ Some (ask_by a b (post_on q g kind missed) told true)

post_line : (g : ℕ) (kind : Kind) (line : Option Line) → is_post g kind line ≡ true → PostLine g kind line
post_line g kind (Some (Ask a y (Post q h k missed) told took)) e =
    let w = three_parts took (h.0 == g) (same_kind k kind) e in
    record { a = a.0; b = y.0; q = q; missed = missed; told = told; is = λ i. Some (ask_by a.0 y.0 (post_on q (eqb-true h.0 g w.1 i) (same_kind_yes k kind w.2 i) missed) told (w.0 i)) }
post_line g kind _ e = absurd (true≢false (sym e))

post_of_line : (j g : ℕ) (kind : Kind) (line : Option Line) → is_post_of j g kind line ≡ true → (w : PostLine g kind line) × (w.q ≡ j)
unfolding post_line
post_of_line j g kind (Some (Ask a y (Post q h k missed) told took)) e =
    let both = and_parts (q == j) (took && (h.0 == g) && same_kind k kind) e in
    (post_line g kind (Some (Ask a y (Post q h k missed) told took)) both.1, eqb-true q j both.0)
post_of_line j g kind _ e = absurd (true≢false (sym e))

post_tests : (a b q g : ℕ) (kind : Kind) (missed : List ℕ) (told : Told) (line : Option Line) → line ≡ Some (ask_by a b (post_on q g kind missed) told true) → (is_post g kind line ≡ true) × (is_post_of q g kind line ≡ true)
post_tests a b q g kind missed told line is = (rw (is, same_self g) (same_kind_self kind), rw (is, same_self q, same_self g) (same_kind_self kind))

-- ---- positions
-- the last position that passes a test
last_before : (test : ℕ → Bool) (t : ℕ) → ((m : ℕ) → m < t → test m ≡ false) ⊎ ((p : ℕ) × (p < t) × (test p ≡ true) × ((m : ℕ) → p < m → m < t → test m ≡ false))
last_before test zero = inl (λ m low. absurd (omega (arith, low)))
last_before test (suc t) = go (test t) refl (last_before test t)
  where
    go : (hit : Bool) → test t ≡ hit → ((m : ℕ) → m < t → test m ≡ false) ⊎ ((p : ℕ) × (p < t) × (test p ≡ true) × ((m : ℕ) → p < m → m < t → test m ≡ false))
        → ((m : ℕ) → m < suc t → test m ≡ false) ⊎ ((p : ℕ) × (p < suc t) × (test p ≡ true) × ((m : ℕ) → p < m → m < suc t → test m ≡ false))
    go true e rest = inr (t, omega arith, e, λ m over low. absurd (omega (arith, over, low)))
    go false e (inl none) = inl (λ m low. elim (cases_lt m t) [ inl early ↦ none m early | inr late ↦ subst (λ (k : ℕ). test k ≡ false) (omega (arith, late, low)) e ])
    go false e (inr w) = inr (w.0, omega (arith, w.1), w.2, λ m over low. elim (cases_lt m t) [ inl early ↦ w.3 m over early | inr late ↦ subst (λ (k : ℕ). test k ≡ false) (omega (arith, late, low)) e ])

-- the first one
first_before : (test : ℕ → Bool) (t : ℕ) → ((m : ℕ) → m < t → test m ≡ false) ⊎ ((p : ℕ) × (p < t) × (test p ≡ true) × ((m : ℕ) → m < p → test m ≡ false))
first_before test zero = inl (λ m low. absurd (omega (arith, low)))
first_before test (suc t) = go (test t) refl (first_before test t)
  where
    go : (hit : Bool) → test t ≡ hit → ((m : ℕ) → m < t → test m ≡ false) ⊎ ((p : ℕ) × (p < t) × (test p ≡ true) × ((m : ℕ) → m < p → test m ≡ false))
        → ((m : ℕ) → m < suc t → test m ≡ false) ⊎ ((p : ℕ) × (p < suc t) × (test p ≡ true) × ((m : ℕ) → m < p → test m ≡ false))
    go hit e (inr w) = inr (w.0, omega (arith, w.1), w.2, w.3)
    go true e (inl none) = inr (t, omega arith, e, none)
    go false e (inl none) = inl (λ m low. elim (cases_lt m t) [ inl early ↦ none m early | inr late ↦ subst (λ (k : ℕ). test k ≡ false) (omega (arith, late, low)) e ])

first_upto : (test : ℕ → Bool) (t : ℕ) → test t ≡ true → (p : ℕ) × (p ≤ t) × (test p ≡ true) × ((m : ℕ) → m < p → test m ≡ false)
first_upto test t hit = elim (first_before test (suc t)) [
  | inl none ↦ absurd (true≢false (sym hit ∙ none t (omega arith)))
  | inr w ↦ (w.0, omega (arith, w.1), w.2, w.3)
]

-- ---- views
same_object : (area : Option Area) (g h : ℕ) (kind : Kind) → PlaneIn area g kind → is_on area h ≡ true → h ≡ g
same_object None g h kind plane on = absurd plane
same_object (Some area) g h kind plane on = eqb-true h (area_object area) on ∙ sym plane.0

-- a holder's view that accuses nobody
shown_none : (kind : Kind) (s : ℕ) (seen : Option View) → not (is_none seen) ≡ true → not (accuses kind seen s) ≡ true → (view : View) × (seen ≡ Some view) × (slice_index (view_marks view kind).pending s ≡ 0)
shown_none kind s None there none = absurd (true≢false (sym there))
shown_none kind s (Some view) there none = (view, refl, none_against (slice_index (view_marks view kind).pending s) none)

abbrev as_actor : ℕ → ActorId
as_actor a = record { 0 = a }

-- ---- the overlap
-- between a look at the object and a post-op of one work stands a post-op of another attempt
pub record OverlapAt (log : Log) (t g : ℕ) (kind : Kind) : Type 0 where
  pub l : ℕ
  pub k : ℕ
  pub m : ℕ
  pub after : l < k
  pub before : k < m
  pub past : m < t
  pub a : ℕ
  pub x : ℕ
  pub view : View
  pub looked : log l ≡ Some (ask_by a x (look_at g) (Seen view) true)
  pub q : ℕ
  pub b : ℕ
  pub missed : List ℕ
  pub told : Told
  pub closes : log m ≡ Some (ask_by a b (post_on q g kind missed) told true)
  pub one_work : IsOneWork log a l m
  pub y : ℕ
  pub z : ℕ
  pub r : ℕ
  pub others : List ℕ
  pub heard : Told
  pub comes : log k ≡ Some (ask_by y z (post_on r g kind others) heard true)
  pub apart : r ≡ q → ⊥

-- a copy that a majority holds nothing against
pub record WholeAt (n : ℕ) (files : Beginning) (log : Log) (t g : ℕ) (kind : Kind) : Type 0 where
  pub s : ℕ
  pub below : s < n
  pub keeps : files.keeps s kind ≡ true
  pub there : holds files log t s g ≡ true
  pub among : ℕ → Bool
  pub majority : IsMajority n among
  pub inside : among s ≡ true
  pub unblamed : (x : ℕ) → x < n → among x ≡ true → pending files log t x s g kind ≡ 0

module _ (n : ℕ) (files : Beginning) (faults : ℕ → ℕ → Option Fault) (log : Log) (honest : Honest files faults log) (exactly : LawfulExactly n files log) where
  lawful : Lawful n files.keeps log
  lawful = implies n files faults log exactly honest

  may_post : (p a b q g : ℕ) (kind : Kind) (missed : List ℕ) (told : Told) → log p ≡ Some (ask_by a b (post_on q g kind missed) told true) → MayPost n files.keeps (present n files.keeps log p a) b q g kind (member missed)
  may_post p a b q g kind missed told is = go (subst (MayExactly n files.keeps (present n files.keeps log p)) is (exactly.moves p)).1
    where
      go : MayAskExactly n files.keeps (present n files.keeps log p a) b (post_on q g kind missed) → MayPost n files.keeps (present n files.keeps log p a) b q g kind (member missed)
      go (inl k) = k.1
      go (inr (Goes m)) = absurd (true≢false (sym m.allowed))
      go (inr (Gives i broken k)) = absurd k

  -- the look of a brick at an object, in the work that goes on at p, that showed nothing against s
  record ShowsNone (p a x s g : ℕ) (kind : Kind) : Type 0 where
    l : ℕ
    view : View
    past : l < p
    is : log l ≡ Some (ask_by a x (look_at g) (Seen view) true)
    work : IsOneWork log a l p
    none : pending files log l x s g kind ≡ 0

  -- what a post-op stands on
  record Closes (p a q g : ℕ) (kind : Kind) : Type 0 where
    s : ℕ
    below : s < n
    keeps : files.keeps s kind ≡ true
    among : ℕ → Bool
    majority : IsMajority n among
    inside : among s ≡ true
    applied : Applied log p a s q
    earlier : q < p
    work : IsOneWork log a q p
    shown : (x : ℕ) → x < n → among x ≡ true → ShowsNone p a x s g kind

  stood : (p a b q g : ℕ) (kind : Kind) (missed : List ℕ) (told : Told) → log p ≡ Some (ask_by a b (post_on q g kind missed) told true) → Numbered log p a (present n files.keeps log p a).law
  stood p a b q g kind missed told is =
      let may : weak.MayPost n log p a (weak.present n log p a) b q g kind (member missed) = may_ask n files.keeps files faults log honest lawful p a b (post_on q g kind missed) told true is in
      subst (Numbered log p a) (sym (present_law n files.keeps log p a)) (working n files.keeps files faults log honest lawful p a b (post_on q g kind missed) told q is may.own).numbers

  stands : (p a b q g : ℕ) (kind : Kind) (missed : List ℕ) (told : Told) → log p ≡ Some (ask_by a b (post_on q g kind missed) told true) → StandsOf log p a (present n files.keeps log p a) (present n files.keeps log p a).law
  stands p a b q g kind missed told is = stands_now n files.keeps log (honestly files faults log honest).shown exactly.moves p a (may_post p a b q g kind missed told is).outside

  closes : (p a b q g : ℕ) (kind : Kind) (missed : List ℕ) (told : Told) → log p ≡ Some (ask_by a b (post_on q g kind missed) told true) → Closes p a q g kind
  closes p a b q g kind missed told is = record {
    s = may.enough.source;
    below = may.enough.below;
    keeps = good.1;
    among = r.done;
    majority = may.enough.majority;
    inside = may.enough.member;
    applied = numbers.applied q may.enough.source may.own may.enough.member;
    earlier = (numbers.newest q may.own).0;
    work = on.begun q may.own;
    shown = λ x low done. shows x low done;
  }
    where
      r : Register
      r = (present n files.keeps log p a).law

      views : ℕ → Option View
      views = (present n files.keeps log p a).views

      may : MayPost n files.keeps (present n files.keeps log p a) b q g kind (member missed)
      may = may_post p a b q g kind missed told is

      numbers : Numbered log p a r
      numbers = stood p a b q g kind missed told is

      on : StandsOf log p a (present n files.keeps log p a) r
      on = stands p a b q g kind missed told is

      good : (holder views may.enough.source ≡ true) × (files.keeps may.enough.source kind ≡ true) × (unaccused n kind views may.enough.source ≡ true)
      good = three_parts (holder views may.enough.source) (files.keeps may.enough.source kind) (unaccused n kind views may.enough.source) may.enough.unblamed

      shows : (x : ℕ) → x < n → r.done x ≡ true → ShowsNone p a x may.enough.source g kind
      shows x low done = (
          let w = shown_none kind may.enough.source (views x) (on.holders x (numbers.acted x done)) (all_yes n (λ y. not (accuses kind (views y) may.enough.source)) good.2 x low) in
          go w.0 w.2 (on.looks x w.0 w.1)
          )
        where
          go : (view : View) → slice_index (view_marks view kind).pending may.enough.source ≡ 0 → SeenHere log p a x r.area view → ShowsNone p a x may.enough.source g kind
          go view none seen = (
              let at : log seen.l ≡ Some (ask_by a x (look_at g) (Seen view) true) = seen.is ∙ ap (λ (h : ℕ). Some (ask_by a x (look_at h) (Seen view) true)) (same_object r.area g seen.g kind may.plane seen.on) in
              let told_here = shows_at files log seen.l a x g view (joined log seen.l a x || opening log seen.l a x) (faults x (suc (asked log seen.l x))) (subst (HonestLine files faults log seen.l) at (honest seen.l)) in
              record { l = seen.l; view = view; past = seen.past; is = at; work = seen.work; none = sym (told_here.marks kind may.enough.source good.1) ∙ none }
              )

  -- an attempt has one actor
  one_actor : (p m a c b d q g h : ℕ) (kind kind2 : Kind) (missed others : List ℕ) (told heard : Told) → log p ≡ Some (ask_by a b (post_on q g kind missed) told true) → log m ≡ Some (ask_by c d (post_on q h kind2 others) heard true) → c ≡ a
  one_actor p m a c b d q g h kind kind2 missed others told heard is at =
      let one = (stood p a b q g kind missed told is).attempt q (may_post p a b q g kind missed told is).outside (may_post p a b q g kind missed told is).own in
      let other = (stood m c d q h kind2 others heard at).attempt q (may_post m c d q h kind2 others heard at).outside (may_post m c d q h kind2 others heard at).own in
      let same : as_actor c ≡ as_actor a = cc (one.is, other.is) in
      ap (λ (k : ActorId). k.0) same

  -- what an actor is at goes on to a later line of its attempt
  work_on : (a q l p u : ℕ) → q < p → IsOneWork log a l p → IsOneWork log a q u → IsOneWork log a l u
  work_on a q l p u less first second k low high ends = elim (cases_lt k p) [
    | inl early ↦ first k low early ends
    | inr late ↦ second k (omega (arith, less, late)) high ends
  ]

  module _ (t g : ℕ) (kind : Kind) (alone : OverlapAt log t g kind → ⊥) where
    nothing_first : (x c : ℕ) → pending files log 0 x c g kind ≡ 0
    unfolding posts settled
    nothing_first x c = refl

    -- nobody accuses where nothing was posted
    unposted : ((m : ℕ) → m < t → is_post g kind (log m) ≡ false) → (x c : ℕ) → pending files log t x c g kind ≡ 0
    unposted none x c = go (pending files log t x c g kind) refl
      where
        go : (m : ℕ) → pending files log t x c g kind ≡ m → pending files log t x c g kind ≡ 0
        go zero e = e
        go (suc m) e = (
            let w = (cause_since n files faults log honest lawful 0 t x c g kind (omega arith) (nothing_first x c) (omega (arith, e))).cause in
            absurd (true≢false (sym (post_tests w.a x w.q g kind w.missed w.told (log w.p) w.posted).0 ∙ none w.p w.past))
            )

    module _ (p : ℕ) (past : p < t) (w : PostLine g kind (log p)) (later : (m : ℕ) → p < m → m < t → is_post g kind (log m) ≡ false)
        (p0 : ℕ) (low : p0 ≤ p) (first : PostLine g kind (log p0)) (own : first.q ≡ w.q) (early : (m : ℕ) → m < p0 → is_post_of w.q g kind (log m) ≡ false) where
      post_first : log p0 ≡ Some (ask_by first.a first.b (post_on w.q g kind first.missed) first.told true)
      post_first = first.is ∙ ap (λ (q : ℕ). Some (ask_by first.a first.b (post_on q g kind first.missed) first.told true)) own

      chosen : Closes p0 first.a w.q g kind
      chosen = closes p0 first.a first.b w.q g kind first.missed first.told post_first

      same_actor : w.a ≡ first.a
      same_actor = one_actor p0 p first.a w.a first.b w.b w.q g g kind kind first.missed w.missed first.told w.told post_first w.is

      work_last : IsOneWork log first.a w.q p
      work_last = subst (λ (a : ℕ). IsOneWork log a w.q p) same_actor ((stands p w.a w.b w.q g kind w.missed w.told w.is).begun w.q (may_post p w.a w.b w.q g kind w.missed w.told w.is).own)

      -- whoever holds something against the copy has it from the same attempt, which the copy did, or from another
      caught : (x : ℕ) (seen : ShowsNone p0 first.a x chosen.s g kind) → CauseSince log seen.l t x chosen.s g kind → ⊥
      caught x seen c = elim (cases_lt p c.cause.p) [
        | inl over ↦ true≢false (sym tests.0 ∙ later c.cause.p over c.cause.past)
        | inr under ↦ elim (cases_eq c.cause.q w.q) [
          | inl same ↦ elim (cases_lt c.cause.p p0) [
            | inl before ↦ true≢false (sym (subst (λ (q : ℕ). is_post_of q g kind (log c.cause.p) ≡ true) same tests.1) ∙ early c.cause.p before)
            | inr after ↦ c.cause.not_done chosen.applied.m first.a (omega (arith, chosen.applied.past, after)) (chosen.applied.is ∙ ap (λ (q : ℕ). Some (ask_by first.a chosen.s (Apply q) Done true)) (sym same))
          ]
          | inr other ↦ alone (record {
            l = seen.l;
            k = c.cause.p;
            m = p;
            after = above seen.l c.cause.p c.after seen.is c.cause.posted;
            before = apart c.cause.p under other c.cause.posted;
            past = past;
            a = first.a;
            x = x;
            view = seen.view;
            looked = seen.is;
            q = w.q;
            b = w.b;
            missed = w.missed;
            told = w.told;
            closes = w.is ∙ ap (λ (a : ℕ). Some (ask_by a w.b (post_on w.q g kind w.missed) w.told true)) same_actor;
            one_work = work_on first.a w.q seen.l p0 p chosen.earlier seen.work work_last;
            y = c.cause.a;
            z = x;
            r = c.cause.q;
            others = c.cause.missed;
            heard = c.cause.told;
            comes = c.cause.posted;
            apart = other;
          })
        ]
      ]
        where
          tests : (is_post g kind (log c.cause.p) ≡ true) × (is_post_of c.cause.q g kind (log c.cause.p) ≡ true)
          tests = post_tests c.cause.a x c.cause.q g kind c.cause.missed c.cause.told (log c.cause.p) c.cause.posted

          -- a look is no post-op
          above : (l m : ℕ) → l ≤ m → log l ≡ Some (ask_by first.a x (look_at g) (Seen seen.view) true) → log m ≡ Some (ask_by c.cause.a x (post_on c.cause.q g kind c.cause.missed) c.cause.told true) → l < m
          above l m le look post = elim (cases_lt l m) [
            | inl less ↦ less
            | inr over ↦ (let same : l ≡ m = omega (arith, le, over) in absurd (cc (look, subst (λ (k : ℕ). log k ≡ Some (ask_by c.cause.a x (post_on c.cause.q g kind c.cause.missed) c.cause.told true)) (sym same) post)))
          ]

          -- nor is it the last one
          apart : (m : ℕ) → m ≤ p → (c.cause.q ≡ w.q → ⊥) → log m ≡ Some (ask_by c.cause.a x (post_on c.cause.q g kind c.cause.missed) c.cause.told true) → m < p
          apart m le other post = elim (cases_lt m p) [
            | inl less ↦ less
            | inr over ↦ (let same : m ≡ p = omega (arith, le, over) in absurd (other (cc (w.is, subst (λ (k : ℕ). log k ≡ Some (ask_by c.cause.a x (post_on c.cause.q g kind c.cause.missed) c.cause.told true)) same post))))
          ]

      whole : WholeAt n files log t g kind
      whole = record {
        s = chosen.s;
        below = chosen.below;
        keeps = chosen.keeps;
        there = (let own = chosen.shown chosen.s chosen.below chosen.inside in still_there files faults log honest own.l t first.a chosen.s g own.view (omega (arith, own.past, low, past)) own.is);
        among = chosen.among;
        majority = chosen.majority;
        inside = chosen.inside;
        unblamed = λ x below inside. unblamed x (chosen.shown x below inside);
      }
        where
          unblamed : (x : ℕ) → ShowsNone p0 first.a x chosen.s g kind → pending files log t x chosen.s g kind ≡ 0
          unblamed x seen = go (pending files log t x chosen.s g kind) refl
            where
              go : (m : ℕ) → pending files log t x chosen.s g kind ≡ m → pending files log t x chosen.s g kind ≡ 0
              go zero e = e
              go (suc m) e = absurd (caught x seen (cause_since n files faults log honest lawful seen.l t x chosen.s g kind (omega (arith, seen.past, low, past)) seen.none (omega (arith, e))))

    pub whole_at : ((x c : ℕ) → pending files log t x c g kind ≡ 0) ⊎ WholeAt n files log t g kind
    whole_at = elim (last_before (λ m. is_post g kind (log m)) t) [
      | inl none ↦ inl (unposted none)
      | inr w ↦ (
          let line = post_line g kind (log w.0) w.2 in
          let f = first_upto (λ m. is_post_of line.q g kind (log m)) w.0 (post_tests line.a line.b line.q g kind line.missed line.told (log w.0) line.is).1 in
          let first = post_of_line line.q g kind (log f.0) f.2 in
          inr (whole w.0 w.1 line w.3 f.0 f.1 first.0 first.1 f.3)
          )
    ]

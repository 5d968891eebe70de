-- Each move of a heal is allowed, and leaves what its machine keeps.
use Rattle.std.proofs.Common.{ℕ, ◌≡◌, ◌<◌, ◌≤◌, ◌^◌, ◌&&◌, if◌then◌else◌, Bool, arith, false, nat_lt, refl, subst, suc, sym, true, zero}
use Rattle.std.proofs.lemmas.Bool.Decides.{nat_tests}
use Rattle.afr_base.specs.SetLemmas.{below_all}
use Rattle.afr_base.specs.declared.ids.Gfid.{Gfid}
use Rattle.afr_base.specs.declared.ids.Kind.{Kind}
use Rattle.afr_base.specs.declared.ids.Shape.{Shape}
use Rattle.afr_discipline.specs.declared.register.Register.{Register}
use Rattle.afr_discipline.specs.Inside.{may_ask_inside, may_end_heal, may_heal_begin, may_move}
use Rattle.afr_discipline.specs.Laws.{NotesStand, ShapesKept}
use Rattle.afr_discipline.specs.Notes.{noted}
use Rattle.afr_discipline.specs.Stands.{HasFive, Stands, no_lines, seen_as}
use Rattle.afr_discipline.specs.Tests.{may_ask_outside}
use Rattle.afr_discipline.specs.declared.register.Move.{Move}
use Rattle.afr_heal.proofs.Allowed.{heal_next_allowed}
use Rattle.afr_heal.proofs.Carried.{restyled_is, self_stands, standing_carried}
use Rattle.afr_heal.proofs.Kept.{heal_stands}
use Rattle.afr_heal.proofs.NamedLemmas.{stays_named}
use Rattle.afr_heal.proofs.Parts.{both}
use Rattle.afr_heal.proofs.StagesForms.{shape}
use Rattle.afr_heal.specs.Answers.{PicksOne, asked_for, begun_at, fits, in_range}
use Rattle.afr_heal.specs.Carried.{AsksOf, BeginsOf, Heals, IsNamed, MovesOf, next_by, source_by}
use Rattle.afr_heal.specs.Engine.{Ask, Begins, Ends, NextOfHeal, next_of}
use Rattle.afr_heal.specs.Laws.{Keeps, allows_next, asks_well}
use Rattle.afr_heal.specs.Moves.{HealsAllowed, HealsBegun, HealsKept, HealsMove, HealsNew}
use Rattle.afr_heal.specs.Standing.{First, Standing}
use Rattle.afr_lines.specs.declared.answer.Told.{Told}
use Rattle.afr_lines.specs.declared.request.Request.{Request}
use Rattle.afr_model_moves.specs.Keeps.{keeps_in}
use Rattle.afr_model_moves.specs.Register.{Exact, len_of}
use Rattle.afr_discipline.specs.declared.register.Move.TheVariants as move

-- ---- the program's register
keeps_next : (n : ℕ) (keeps : ℕ → Kind → Bool) (pick : (ℕ → Bool) → ℕ) (r : Exact) (s : ℕ) (g : Gfid) (kind : Kind) (next : NextOfHeal) → next_of n keeps r s g kind ≡ next → Keeps n keeps pick r s g kind (next_of n keeps r s g kind) → Keeps n keeps pick r s g kind next
keeps_next n keeps pick r s g kind next e h = subst (λ (next : NextOfHeal). Keeps n keeps pick r s g kind next) e h

module _ (notes : NotesStand) (shapes : ShapesKept) (pick : (ℕ → Bool) → ℕ) (p : Register) (s : ℕ) (g : Gfid) (kind : Kind) (picks : PicksOne p.shape.n pick) (k : Heals p s g kind) where
  after_ask : (step : Move) (told : Told) (t b : ℕ) (request : Request) → AsksOf step b request → next_by p s g kind ≡ Ask b request → b < 5 → fits request told ≡ true → in_range told ≡ true → HasFive (noted p step told t)
      → Heals (noted p step told t) (source_by pick p (noted p step told t) t b request told s) g kind
  after_ask (move.Ask brick ref) told t b request w next small f range five = record {
    some = subst (λ (shape : Shape). 0 < shape.n) (sym same) k.some;
    few = subst (λ (shape : Shape). shape.n ≤ 5) (sym same) k.few;
    five = five;
    standing = subst (λ (shape : Shape). Standing shape.n (keeps_in shape) (seen_as new) source g kind) (sym same) stood;
    named = named_now;
  }
    where
      new : Register
      new = noted p (move.Ask brick ref) told t

      same : new.shape ≡ p.shape
      same = shapes p (move.Ask brick ref) told t

      source : ℕ
      source = source_by pick p new t b request told s

      abbrev_after : Exact
      abbrev_after = asked_for p.shape.n (keeps_in p.shape) (seen_as p) t b request told

      there : Stands new abbrev_after
      there = subst (λ (c : ℕ). Stands new (asked_for p.shape.n (keeps_in p.shape) (seen_as p) t c request told)) w.0
          (subst (λ (request : Request). Stands new (asked_for p.shape.n (keeps_in p.shape) (seen_as p) t brick.0 request told)) w.1
          (notes p (seen_as p) (move.Ask brick ref) told t k.few k.five (subst (λ (c : ℕ). c < 5) (sym w.0) small) (self_stands p)))

      stood : Standing p.shape.n (keeps_in p.shape) (seen_as new) source g kind
      stood =
          let by_exact = keeps_next p.shape.n (keeps_in p.shape) pick (seen_as p) s g kind (Ask b request) next (heal_stands p.shape.n (keeps_in p.shape) pick (seen_as p) s g kind k.some k.few picks k.standing) t told f in
          subst (λ (shape : Shape). Standing shape.n (keeps_in shape) (seen_as new) source g kind) same
          (standing_carried new abbrev_after source g kind there (subst (λ (shape : Shape). Standing shape.n (keeps_in shape) abbrev_after source g kind) (sym same) by_exact))

      named_now : IsNamed kind (seen_as new)
      named_now =
          let by_exact = stays_named p.shape.n (keeps_in p.shape) (seen_as p) s g kind k.some k.few k.standing k.named t b request told next f range in
          subst (λ (r : Exact). IsNamed kind r) (restyled_is new abbrev_after there) (record { named = by_exact.named; short = by_exact.short })
  after_ask (move.Begin change) told t b request w next small f range five = absurd w
  after_ask (move.HealBegin h what) told t b request w next small f range five = absurd w
  after_ask (move.End ok) told t b request w next small f range five = absurd w

  after_begin : (step : Move) (told : Told) (t : ℕ) → BeginsOf step g kind → next_by p s g kind ≡ Begins → HasFive (noted p step told t) → Heals (noted p step told t) s g kind
  after_begin (move.HealBegin h what) told t w next five = record {
    some = subst (λ (shape : Shape). 0 < shape.n) (sym same) k.some;
    few = subst (λ (shape : Shape). shape.n ≤ 5) (sym same) k.few;
    five = five;
    standing = subst (λ (shape : Shape). Standing shape.n (keeps_in shape) (seen_as new) s g kind) (sym same) stood;
    named = record { named = k.named.named; short = k.named.short };
  }
    where
      new : Register
      new = noted p (move.HealBegin h what) told t

      same : new.shape ≡ p.shape
      same = shapes p (move.HealBegin h what) told t

      there : Stands new (begun_at p.shape.n (keeps_in p.shape) (seen_as p) t g kind)
      there = subst (λ (what : Kind). Stands new (begun_at p.shape.n (keeps_in p.shape) (seen_as p) t g what)) w.1 (notes p (seen_as p) (move.HealBegin h what) told t k.few k.five tt (self_stands p))

      stood : Standing p.shape.n (keeps_in p.shape) (seen_as new) s g kind
      stood =
          let by_exact = keeps_next p.shape.n (keeps_in p.shape) pick (seen_as p) s g kind Begins next (heal_stands p.shape.n (keeps_in p.shape) pick (seen_as p) s g kind k.some k.few picks k.standing) t in
          subst (λ (shape : Shape). Standing shape.n (keeps_in shape) (seen_as new) s g kind) same
          (standing_carried new (begun_at p.shape.n (keeps_in p.shape) (seen_as p) t g kind) s g kind there (subst (λ (shape : Shape). Standing shape.n (keeps_in shape) (begun_at p.shape.n (keeps_in p.shape) (seen_as p) t g kind) s g kind) (sym same) by_exact))
  after_begin (move.Ask brick ref) told t w next five = absurd w
  after_begin (move.Begin change) told t w next five = absurd w
  after_begin (move.End ok) told t w next five = absurd w

pub heals_begun : NotesStand → ShapesKept → HealsBegun
heals_begun notes shapes pick p s g kind picks k step told t w next five = after_begin notes shapes pick p s g kind picks k step told t w next five

pub heals_kept : NotesStand → ShapesKept → HealsKept
heals_kept notes shapes pick p s g kind picks k step told t b request w next f range five =
    let allowed = heal_next_allowed p.shape.n (keeps_in p.shape) (seen_as p) s g kind k.some k.few k.standing in
    let asks : asks_well p.shape.n (keeps_in p.shape) (seen_as p) b request ≡ true = subst (λ (next : NextOfHeal). allows_next p.shape.n (keeps_in p.shape) (seen_as p) g kind next ≡ true) next allowed in
    let low = (both (nat_lt b p.shape.n) _ asks).0 in
    let few = k.few in
    after_ask notes shapes pick p s g kind picks k step told t b request w next (small b p.shape.n low few) f range five
  where
    small : (b n : ℕ) → nat_lt b n ≡ true → n ≤ 5 → b < 5
    small b n h l = grind (arith, nat_tests, h, l)

pub heals_new : HealsNew
heals_new shape s g kind some few = record {
  some = some;
  few = few;
  five = record { looked = refl; seen = refl; reads = refl };
  standing = First (record { outside = refl; whole = refl; step = refl; opening = refl; every = λ x l. below_all shape.n x few l; none_held = λ x. refl; no_second = λ x. refl; no_area = refl; none_first = λ x. refl });
  named = record { named = λ a e. absurd (cc e); short = shorts };
}
  where
    shorts : (x : ℕ) → nat_lt (len_of ((seen_as (no_lines shape)).first_views x)) (2 ^ 63) ≡ true
    shorts zero = refl
    shorts (suc zero) = refl
    shorts (suc (suc zero)) = refl
    shorts (suc (suc (suc zero))) = refl
    shorts (suc (suc (suc (suc zero)))) = refl
    shorts (suc (suc (suc (suc (suc x))))) = refl

pub heals_allowed : HealsAllowed
heals_allowed p s g kind k = (heal_next_allowed p.shape.n (keeps_in p.shape) (seen_as p) s g kind k.some k.few k.standing, k.named.named)

-- ---- the move of the next line
module _ (p : Register) (g : Gfid) (kind : Kind) where
  asks_move : (heal inside outside low : Bool) → (low && (if heal then inside else outside)) ≡ true → (if heal then (low && inside) else (low && outside)) ≡ true
  asks_move true inside outside low h = h
  asks_move false inside outside low h = h

  heal_move : (heal test other : Bool) → (heal && test) ≡ true → (if heal then test else other) ≡ true
  heal_move true test other h = h
  heal_move false test other h = absurd (cc h)

  may_next : (next : NextOfHeal) (step : Move) → allows_next p.shape.n (keeps_in p.shape) (seen_as p) g kind next ≡ true → MovesOf g kind next step → may_move p.shape.n (keeps_in p.shape) (seen_as p) step ≡ true
  may_next (Ask b request) (move.Ask brick ref) h w =
      asks_move p.inside (may_ask_inside p.shape.n (keeps_in p.shape) (seen_as p) brick.0 ref.now) (may_ask_outside p.shape.n (keeps_in p.shape) (seen_as p) brick.0 ref.now) (nat_lt brick.0 p.shape.n)
      (subst (λ (c : ℕ). asks_well p.shape.n (keeps_in p.shape) (seen_as p) c ref.now ≡ true) (sym w.0) (subst (λ (request : Request). asks_well p.shape.n (keeps_in p.shape) (seen_as p) b request ≡ true) (sym w.1) h))
  may_next (Ask b request) (move.Begin change) h w = absurd w
  may_next (Ask b request) (move.HealBegin c what) h w = absurd w
  may_next (Ask b request) (move.End ok) h w = absurd w
  may_next Begins (move.HealBegin c what) h w =
      heal_move p.inside (may_heal_begin p.shape.n (seen_as p) c.0 what) false
      (subst (λ (c : Gfid). (p.inside && may_heal_begin p.shape.n (seen_as p) c.0 what) ≡ true) (sym w.0) (subst (λ (what : Kind). (p.inside && may_heal_begin p.shape.n (seen_as p) g.0 what) ≡ true) (sym w.1) h))
  may_next Begins (move.Ask brick ref) h w = absurd w
  may_next Begins (move.Begin change) h w = absurd w
  may_next Begins (move.End ok) h w = absurd w
  may_next Ends (move.End ok) h w = heal_move p.inside (may_end_heal p.shape.n (seen_as p)) _ h
  may_next Ends (move.Ask brick ref) h w = absurd w
  may_next Ends (move.Begin change) h w = absurd w
  may_next Ends (move.HealBegin c what) h w = absurd w

pub heals_move : HealsMove
heals_move p s g kind k step w = may_next p g kind (next_by p s g kind) step (heals_allowed p s g kind k).0 w

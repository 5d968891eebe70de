-- A heal's invariant over the program's register.
use Rattle.std.proofs.Common.{ℕ, ◌≡◌, ◌<◌, ◌∙◌, Bool, refl, subst, sym}
use Rattle.afr_base.specs.Bricks.{member}
use Rattle.afr_base.specs.declared.ids.Gfid.{Gfid}
use Rattle.afr_base.specs.declared.ids.Kind.{Kind}
use Rattle.afr_discipline.specs.declared.register.Register.{Register}
use Rattle.afr_discipline.specs.Stands.{Stands, seen_as}
use Rattle.afr_heal.specs.Moves.{StandingCarried}
use Rattle.afr_heal.specs.Standing.{Ending, First, Going, Healing, Looking, Parting, Picked, Standing, Viewing, Working}
use Rattle.afr_model_moves.specs.Keeps.{keeps_in}
use Rattle.afr_model_moves.specs.Register.{Exact}
use Rattle.afr_model_moves.specs.Rules.{fresh}

-- ---- the register that the program's stands for
-- the fields of a register that the program keeps, with other copies that may be the source
abbrev pub restyled : Exact → (ℕ → Bool) → Exact
restyled r possible = record r {
  law = record fresh {
    number = r.law.number;
    area = r.law.area;
    held = r.law.held;
    second = r.law.second;
    second_held = r.law.second_held;
    pre = r.law.pre;
    done = r.law.done;
    post = r.law.post;
    heal = r.law.heal;
    object = r.law.object;
    kind = r.law.kind;
    healing = r.law.healing;
    settled = r.law.settled;
  };
  possible = possible;
}

pub restyled_is : (p : Register) (r : Exact) → Stands p r → restyled r (member p.possible) ≡ seen_as p
restyled_is p r k =
    let e1 = k.number in let e2 = k.area in let e3 = k.held in let e4 = k.second in let e5 = k.second_held in let e6 = k.pre in let e7 = k.done in let e8 = k.post in let e9 = k.inside in let e10 = k.object in let e11 = k.kind in let e12 = k.healing in let e13 = k.settled in
    let f1 = k.step in let f2 = k.asked in let f3 = k.unlocked in let f4 = k.reached in let f5 = k.views in let f6 = k.first_reached in let f7 = k.first_views in let f8 = k.part in let f9 = k.reads in let f10 = k.upto in let f11 = k.broken in
    λ i. record {
      law = record fresh { number = e1 i; area = e2 i; held = e3 i; second = e4 i; second_held = e5 i; pre = e6 i; done = e7 i; post = e8 i; heal = e9 i; object = e10 i; kind = e11 i; healing = e12 i; settled = e13 i };
      step = f1 i;
      asked = f2 i;
      unlocked = f3 i;
      reached = f4 i;
      views = f5 i;
      first_reached = f6 i;
      first_views = f7 i;
      part = f8 i;
      possible = member p.possible;
      reads = f9 i;
      upto = f10 i;
      broken = f11 i;
    }

module _ (n : ℕ) (keeps : ℕ → Kind → Bool) (r : Exact) (s : ℕ) (g : Gfid) (kind : Kind) (possible : ℕ → Bool) (same : (x : ℕ) → x < n → r.possible x ≡ possible x) where
  abbrev now : Exact
  now = restyled r possible

  picked : Picked n keeps r s kind → Picked n keeps now s kind
  picked k = record { below = k.below; possible = sym (same s k.below) ∙ k.possible; is_good = k.is_good; many = k.many }

  restyle : Standing n keeps r s g kind → Standing n keeps now s g kind
  restyle (First k) = First (record { outside = k.outside; whole = k.whole; step = k.step; opening = k.opening; every = λ x l. sym (same x l) ∙ k.every x l; none_held = k.none_held; no_second = k.no_second; no_area = k.no_area; none_first = k.none_first })
  restyle (Healing k) = Healing (record { base = k.base; whole = k.whole; step = k.step; opening = k.opening; every = λ x l. sym (same x l) ∙ k.every x l; none_held = k.none_held; no_area = k.no_area; none_first = k.none_first; going = k.going })
  restyle (Working k) = Working (record { base = k.base; whole = k.whole; step = k.step; opening = k.opening; every = λ x l. sym (same x l) ∙ k.every x l; area = k.area; among = k.among; none_first = k.none_first; going = k.going })
  restyle (Looking k) = Looking (record { base = k.base; whole = k.whole; step = k.step; opening = k.opening; is_kind = k.is_kind; every = λ x l. sym (same x l) ∙ k.every x l; area = k.area; among = k.among; first = k.first; more = k.more })
  restyle (Parting k) = Parting (record { base = k.base; whole = k.whole; step = k.step; part = k.part; bytes = k.bytes; is_kind = k.is_kind; picked = picked k.picked; area = k.area; area_is = k.area_is; granted = k.granted; healing = k.healing; told = λ x l m. sym (same x l) ∙ k.told x l m })
  restyle (Viewing k) = Viewing (record { base = k.base; whole = k.whole; step = k.step; part = k.part; bytes = k.bytes; is_kind = k.is_kind; picked = picked k.picked; area = k.area; area_is = k.area_is; holding = k.holding; healing = k.healing; told = λ x l m. sym (same x l) ∙ k.told x l m; more = k.more })
  restyle (Going k) = Going (record {
    base = k.base;
    whole = k.whole;
    is_kind = k.is_kind;
    of_kind = k.of_kind;
    below = k.below;
    possible = sym (same s k.below) ∙ k.possible;
    many = k.many;
    onwards = k.onwards;
    looked = k.looked;
    area = k.area;
    area_is = k.area_is;
    noted = k.noted;
    told = λ bytes x l m h. sym (same x l) ∙ k.told bytes x l m h;
    freed = k.freed;
    holding = k.holding;
    lost = k.lost;
    healing = k.healing;
    parts = k.parts;
  })
  restyle (Ending k) = Ending (record { base = k.base; broken = k.broken })

-- where the exact register stands for the lines of a heal, so does the one that the program's register gives
pub standing_carried : StandingCarried
standing_carried p r s g kind k standing =
    subst (λ (r : Exact). Standing p.shape.n (keeps_in p.shape) r s g kind) (restyled_is p r k) (restyle p.shape.n (keeps_in p.shape) r s g kind (member p.possible) k.possible standing)

-- ---- the register that the program's fields say
pub self_stands : (p : Register) → Stands p (seen_as p)
self_stands p = record {
  number = refl;
  area = refl;
  held = refl;
  second = refl;
  second_held = refl;
  pre = refl;
  done = refl;
  post = refl;
  inside = refl;
  object = refl;
  kind = refl;
  healing = refl;
  settled = refl;
  step = refl;
  asked = refl;
  unlocked = refl;
  reached = refl;
  views = refl;
  first_reached = refl;
  first_views = refl;
  part = refl;
  possible = λ s l. refl;
  reads = refl;
  upto = refl;
  broken = refl;
}

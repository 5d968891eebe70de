-- Each line of a heal comes nearer to its end.
use Rattle.std.proofs.Common.{ℕ, ◌<◌, ◌≤◌, Bool, sym, subst}
use Rattle.afr_base.specs.declared.ids.Gfid.{Gfid}
use Rattle.afr_base.specs.declared.ids.Kind.{Kind}
use Rattle.afr_heal.proofs.Kept.{heal_stands}
use Rattle.afr_heal.proofs.StagesForms.{first_form, going_at, going_form, heal_form, looks_form, lost_form, part_form, views_form, work_form}
use Rattle.afr_heal.proofs.StagesWalk.{after_elim, at_unlocks}
use Rattle.afr_heal.specs.Engine.{next_of}
use Rattle.afr_heal.specs.Standing.{AfterLooks, AtFirst, AtHeal, AtLooks, AtViews, Ending, First, Going, Healing, Looking, Parting, Standing, Viewing, Working}
use Rattle.afr_lines.specs.declared.request.Area.{Area}
use Rattle.afr_model_moves.specs.Register.{Exact, len_of}
use Rattle.afr_law_cost.specs.Laws.{HealComesNearer}
use Rattle.afr_law_cost.specs.Left.{Rooted, Short}
use Rattle.afr_law_cost.proofs.Early.{Nears, near_first, near_heal, near_looks, near_work}
use Rattle.afr_law_cost.proofs.Ending.{near_ending}
use Rattle.afr_law_cost.proofs.Giving.{near_heals, near_next, near_unlocks}
use Rattle.afr_law_cost.proofs.Later.{near_part, near_views}
use Rattle.afr_law_cost.proofs.Middle.{near_mends, near_pres, near_reads, near_settles}

module _ (n : ℕ) (keeps : ℕ → Kind → Bool) (pick : (ℕ → Bool) → ℕ) (some : 0 < n) (s : ℕ) (g : Gfid) (kind : Kind) where
  abbrev NearsAt : Exact → Type 0
  NearsAt r = Nears n keeps pick some r s g kind (next_of n keeps r s g kind)

  going_near : (q : Exact) (area : Area) → len_of (q.first_views s) ≤ 1048576 → AfterLooks n keeps (going_at q g kind area) s g kind → NearsAt (going_at q g kind area)
  going_near q area short k = after_elim n keeps (going_at q g kind area) s g kind k (Nears n keeps pick some (going_at q g kind area) s g kind)
      (λ b l t st at told f. near_reads n keeps q s g kind area k pick b at l t told f)
      (λ o b l t st at told f. near_pres n keeps q s g kind area k pick b at l t told f)
      (λ o b l t st at told f. near_mends n keeps q s g kind area k pick b at l t told f)
      (λ o b l t st at told f. near_settles n keeps q s g kind area k pick b at l t told f)
      (λ o b l t st at told f. near_unlocks n keeps pick q s g kind area k b at l t told f)
      (λ o u p b l t st at told f. near_next n keeps pick q s g kind area k b at l (at_unlocks n keeps (going_at q g kind area) s g kind k u p) p short told f)
      (λ o u last b l t st at told f. near_heals n keeps pick q s g kind area k b at l last t told f)
      (λ u h st. tt)

  nears : (r : Exact) → Rooted r → Short r → Standing n keeps r s g kind → NearsAt r
  nears r rooted short (First k) = (let e = first_form n keeps r s g kind k in subst NearsAt (sym e) (near_first n keeps pick some r s g kind (subst (λ (r : Exact). AtFirst n r) e k)))
  nears r rooted short (Healing k) = (let e = heal_form n keeps r s g kind k in subst NearsAt (sym e) (near_heal n keeps pick some r s g kind (subst (λ (r : Exact). AtHeal n keeps r g) e k)))
  nears r rooted short (Working k) = (let e = work_form n keeps r s g kind k in subst NearsAt (sym e) (near_work n keeps pick some r s g kind))
  nears r rooted short (Looking k) = (let e = looks_form n keeps r s g kind k in subst NearsAt (sym e) (near_looks n keeps pick some r s g kind (subst (λ (r : Exact). AtLooks n keeps r g kind) e k)))
  nears r rooted short (Parting k) = (let e = part_form n keeps r s g kind k in subst NearsAt (sym e) (near_part n keeps pick some r s g kind k.area r.part k.part))
  nears r rooted short (Viewing k) = (let e = views_form n keeps r s g kind k in subst NearsAt (sym e) (near_views n keeps pick some r s g kind k.area r.part k.part (subst (λ (r : Exact). AtViews n keeps r s g kind) e k)))
  nears r rooted short (Going k) = (let e = going_form n keeps r s g kind k in subst NearsAt (sym e) (going_near r k.area (short s) (subst (λ (r : Exact). AfterLooks n keeps r s g kind) e k)))
  nears r rooted short (Ending k) = (let e = lost_form n keeps r s g kind k in subst NearsAt (sym e) (near_ending n keeps pick some r s g kind rooted))

-- each next line of a heal that stands
pub comes_nearer : HealComesNearer
comes_nearer n keeps pick r s g kind some few picks standing rooted short = nears n keeps pick some s g kind r rooted short standing (heal_stands n keeps pick r s g kind some few picks standing)

-- The round that is found is the healer's.
use Rattle.std.proofs.Common.{◌≡◌, ◌∙◌, Some, refl, subst, sym}
use Rattle.afr_base.specs.declared.ids.BrickId.{BrickId}
use Rattle.afr_heal_round.specs.Rounding.{Comes, Rounding, next_of}
use Rattle.afr_heal_round.specs.declared.coming.RoundComing.{RoundComing}
use Rattle.afr_heal_round.specs.declared.coming.RoundComing.TheVariants as coming_of
use Rattle.afr_lines.specs.declared.line.Next.{Next}
use Rattle.afr_lines.specs.declared.line.Next.TheVariants as next
use Rattle.afr_lines.specs.declared.request.Request.{Request}
use Rattle.afr_volume.proofs.lists.asks_whom.Goals as goal

-- the same round
same_round : (one two : Rounding) → Some one ≡ Some two → one ≡ two
same_round one two is = cc is

-- a round that says no request asks nobody
asks_nobody : (said : RoundComing) (request : Request) (line : Next) → ((b : BrickId) → said ≡ coming_of.Ask b → ⊥) → Comes said request line → (b : BrickId) (asked : Request) → line ≡ next.Ask b asked → ⊥
asks_nobody (coming_of.Ask x) request line never k b asked e = never x refl
asks_nobody (coming_of.Begin g kind) request line never k b asked e = absurd (cc (k, e))
asks_nobody (coming_of.HealEnd g kind) request line never k b asked e = let ends = k.1 in absurd (cc (ends, e))
asks_nobody coming_of.End request line never k b asked e = let ends = k.1 in absurd (cc (ends, e))

pub returns-in-Ask-clause-some : goal.returns-in-Ask-clause-some
returns-in-Ask-clause-some c = λ b m e is.
    let same = same_round c.in_ok-round.round.now m (c.in_ok-round.ensures.value ∙ is) in
    let whom : c.in-Ask.brick ≡ b = cc e in
    (c.asks.new.request, subst (λ (r : Rounding). next_of r ≡ next.Ask b c.asks.new.request) same (subst (λ (b : BrickId). next_of c.in_ok-round.round.now ≡ next.Ask b c.asks.new.request) whom c.in-Ask.ensures))

pub returns-in_default-clause-none : goal.returns-in_default-clause-none
returns-in_default-clause-none c = λ m b asked e is line.
    let same = same_round c.in_ok-round.round.now m (c.in_ok-round.ensures.value ∙ is) in
    asks_nobody c.asks.result c.asks.new.request (next_of c.in_ok-round.round.now) c.in_default.not-Ask c.asks.ensures b asked (subst (λ (r : Rounding). next_of r ≡ next.Ask b asked) (sym same) line)

-- What holds of each next line of a heal, and of each answer to it.
use Rattle.std.specs.Prelude.{ℕ, ◌≡◌, ◌<◌, ◌≤◌, ◌&&◌, if◌then◌else◌, Bool, nat_lt, true}
use Rattle.afr_base.specs.declared.ids.Gfid.{Gfid}
use Rattle.afr_base.specs.declared.ids.Kind.{Kind}
use Rattle.afr_discipline.specs.Inside.{may_ask_inside, may_end_heal, may_heal_begin}
use Rattle.afr_discipline.specs.Tests.{may_ask_outside}
use Rattle.afr_heal.specs.Answers.{PicksOne, asked_for, begun_at, fits, source_after}
use Rattle.afr_heal.specs.Engine.{Ask, Begins, Ends, NextOfHeal, next_of}
use Rattle.afr_heal.specs.Standing.{Standing}
use Rattle.afr_lines.specs.declared.answer.Told.{Told}
use Rattle.afr_lines.specs.declared.request.Request.{Request}
use Rattle.afr_model_moves.specs.Register.{Exact}

-- the discipline allows the request at the brick
abbrev pub asks_well : ℕ → (ℕ → Kind → Bool) → Exact → ℕ → Request → Bool
asks_well n keeps r b request = nat_lt b n && (if r.law.heal then may_ask_inside n keeps r b request else may_ask_outside n keeps r b request)

-- the discipline allows the next line
abbrev pub allows_next : ℕ → (ℕ → Kind → Bool) → Exact → Gfid → Kind → NextOfHeal → Bool
allows_next n keeps r g kind (Ask b request) = asks_well n keeps r b request
allows_next n keeps r g kind Begins = r.law.heal && may_heal_begin n r g.0 kind
allows_next n keeps r g kind Ends = r.law.heal && may_end_heal n r

-- the next line of a heal that stands is allowed
abbrev pub HealNextAllowed : Type 0
HealNextAllowed = (n : ℕ) (keeps : ℕ → Kind → Bool) (r : Exact) (s : ℕ) (g : Gfid) (kind : Kind) → 0 < n → n ≤ 5 → Standing n keeps r s g kind → allows_next n keeps r g kind (next_of n keeps r s g kind) ≡ true

-- whatever is told, or once a part has begun, the heal stands
abbrev pub Keeps : (n : ℕ) → (ℕ → Kind → Bool) → ((ℕ → Bool) → ℕ) → Exact → ℕ → Gfid → Kind → NextOfHeal → Type 0
Keeps n keeps pick r s g kind (Ask b request) = (t : ℕ) (told : Told) → fits request told ≡ true → Standing n keeps (asked_for n keeps r t b request told) (source_after n keeps pick (asked_for n keeps r t b request told) s) g kind
Keeps n keeps pick r s g kind Begins = (t : ℕ) → Standing n keeps (begun_at n keeps r t g kind) s g kind
Keeps n keeps pick r s g kind Ends = Unit {0}

-- whatever its bricks answer to its next line, a heal keeps standing
abbrev pub HealStands : Type 0
HealStands = (n : ℕ) (keeps : ℕ → Kind → Bool) (pick : (ℕ → Bool) → ℕ) (r : Exact) (s : ℕ) (g : Gfid) (kind : Kind) → 0 < n → n ≤ 5 → PicksOne n pick → Standing n keeps r s g kind → Keeps n keeps pick r s g kind (next_of n keeps r s g kind)

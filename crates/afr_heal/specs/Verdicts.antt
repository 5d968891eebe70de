-- Why the looks of a heal end it: the register's own test is the verdict, in the opening and later.
use Rattle.std.specs.Prelude.{ℕ, ◌≡◌, ◌<◌, ◌&&◌, if◌then◌else◌, Bool, false, not, true}
use Rattle.afr_base.specs.Majority.{is_most}
use Rattle.afr_base.specs.declared.ids.Kind.{Kind}
use Rattle.afr_base.specs.declared.ids.Kind.TheVariants.{Bytes}
use Rattle.afr_discipline.specs.Turns.{candidate}
use Rattle.afr_model_moves.specs.Register.{Exact, Opening, good, holder, shows_number}
use Rattle.afr_model_moves.specs.Sets.{any}
use Rattle.afr_model_moves.specs.Steps.{goes_on, sink}

-- what the first looks say
pub data HealVerdict : Type 0 where
  Short : HealVerdict
  Nothing : HealVerdict
  Split : HealVerdict
  Sources : HealVerdict

-- a majority answered the first looks, and a majority showed a copy
abbrev pub are_enough : ℕ → Exact → Bool
are_enough n r = is_most n r.first_reached && is_most n (holder r.first_views)

-- some copy has a number of the kind
abbrev pub has_numbers : ℕ → Exact → Bool
has_numbers n r = any n (λ x. shows_number r.law.kind (r.first_views x))

-- some copy is good
abbrev pub has_good : ℕ → (ℕ → Kind → Bool) → Exact → Bool
has_good n keeps r = any n (good n keeps r.law.kind r.first_views)

-- the verdict, in the order in which a heal answers
abbrev pub verdict_by : Bool → Bool → Bool → HealVerdict
verdict_by enough numbers copies = if not enough then Short else (if not numbers then Nothing else (if not copies then Split else Sources))

-- the verdict of the first looks
abbrev pub verdict : ℕ → (ℕ → Kind → Bool) → Exact → HealVerdict
verdict n keeps r = verdict_by (are_enough n r) (has_numbers n r) (has_good n keeps r)

-- the heal goes on with this verdict
abbrev pub goes : HealVerdict → Bool
goes Sources = true
goes other = false

-- while every copy may be the source, the heal goes on exactly where the verdict is Sources
abbrev pub OpeningIsVerdict : Type 0
OpeningIsVerdict = (n : ℕ) (keeps : ℕ → Kind → Bool) (r : Exact) → r.part ≡ Opening → ((x : ℕ) → x < n → r.possible x ≡ true) → any n (candidate n keeps r) ≡ goes (verdict n keeps r)

-- later the source is told: the heal goes on exactly where its source does
abbrev pub LaterIsSource : Type 0
LaterIsSource = (n : ℕ) (keeps : ℕ → Kind → Bool) (r : Exact) (s : ℕ) → s < n → r.law.kind ≡ Bytes → r.possible s ≡ true → ((x : ℕ) → x < n → sink keeps r s x ≡ true → r.possible x ≡ false) → any n (candidate n keeps r) ≡ goes_on n keeps r s

-- A verdict names its bricks in rising order.
use Rattle.std.proofs.Common.{ℕ, not, Bool, true, false, List, if◌then◌else◌}
use Rattle.afr_base.specs.Bricks.{is_nothing}
use Rattle.afr_base.specs.Majority.{is_majority}
use Rattle.afr_base.specs.declared.ids.Kind.{Kind}
use Rattle.afr_base.specs.declared.ids.Shape.{Shape}
use Rattle.afr_choice.specs.declared.looked.Looked.{Looked}
use Rattle.afr_choice.specs.declared.verdict.Verdict.TheVariants.{Short, Bare, Split, Sources}
use Rattle.afr_choice.specs.Verdict.{copies_of, good_copies, is_good, verdict_of}
use Rattle.afr_base.proofs.RisingLemmas.{rising_five}
use Rattle.afr_base.specs.Rising.{IsRising}
use Rattle.afr_report_info.specs.Shown.{HasRising}

by_tests : (most none split : Bool) (sources : List ℕ) → IsRising 0 sources → HasRising (if not most then Short else (if none then Bare else (if split then Split else Sources sources)))
by_tests false none split sources h = tt
by_tests true true split sources h = tt
by_tests true false true sources h = tt
by_tests true false false sources h = h

pub rising_verdict : (shape : Shape) (looked : Looked) (kind : Kind) → HasRising (verdict_of shape looked kind)
rising_verdict shape looked kind =
    by_tests (is_majority shape.n looked.reached) (is_nothing (copies_of shape looked kind)) (is_nothing (good_copies shape looked kind)) (good_copies shape looked kind) (rising_five (is_good shape looked kind))

-- Who accuses whom, which copies are good, and what that makes of a look.
use Rattle.std.specs.Prelude.{ℕ, Bool, false, List, Option, Some, None, filter, is_some, not, ◌&&◌, nat_lt, slice_index, if◌then◌else◌}
use Rattle.std.specs.List.{list_any}
use Rattle.afr_base.specs.Bricks.{all_five, member, is_nothing}
use Rattle.afr_base.specs.Majority.{is_majority}
pub use Rattle.afr_base.specs.Keeping.{is_bytes, keeps}
use Rattle.afr_base.specs.Marks.{marks_of}
use Rattle.afr_base.specs.declared.ids.Kind.{Kind}
use Rattle.afr_base.specs.declared.ids.Shape.{Shape}
use Rattle.afr_object.specs.declared.entry.View.{View}
use Rattle.afr_choice.specs.declared.looked.Looked.{Looked}
use Rattle.afr_choice.specs.declared.verdict.Verdict.{Verdict}
use Rattle.afr_choice.specs.declared.verdict.Verdict.TheVariants.{Short, Bare, Split, Sources}
use Rattle.afr_choice.specs.Looks.{view_at}

-- brick b was reached and has the object
abbrev pub is_holder : Looked → ℕ → Bool
is_holder looked b = member looked.reached b && is_some (view_at b looked)

-- the view has operations of this kind that brick c missed
abbrev pub shown_missed : Kind → ℕ → Option View → Bool
shown_missed kind c None = false
shown_missed kind c (Some view) = nat_lt 0 (slice_index (marks_of kind view.marks).pending c)

-- brick x was reached and accuses brick c
abbrev pub accuses_at : Kind → ℕ → ℕ → Looked → Bool
accuses_at kind x c looked = member looked.reached x && shown_missed kind c (view_at x looked)

-- the bricks that were reached and accuse brick c
abbrev pub accusers_of : Kind → ℕ → Looked → List ℕ
accusers_of kind c looked = filter (λ x. accuses_at kind x c looked) all_five

-- some brick that was reached accuses brick c
abbrev pub is_accused : Kind → Looked → ℕ → Bool
is_accused kind looked c = list_any (λ x. accuses_at kind x c looked) all_five

-- brick b has a copy of what this kind is about
abbrev pub is_copy : Shape → Looked → Kind → ℕ → Bool
is_copy shape looked kind b = is_holder looked b && keeps shape kind b

-- brick b has a copy, and nobody accuses it
abbrev pub is_good : Shape → Looked → Kind → ℕ → Bool
is_good shape looked kind b = is_copy shape looked kind b && not (is_accused kind looked b)

-- the bricks that were reached and have the object
abbrev pub holders_of : Looked → List ℕ
holders_of looked = filter (is_holder looked) all_five

-- the bricks that have a copy of what this kind is about
abbrev pub copies_of : Shape → Looked → Kind → List ℕ
copies_of shape looked kind = filter (is_copy shape looked kind) all_five

-- the copies that nobody accuses
abbrev pub good_copies : Shape → Looked → Kind → List ℕ
good_copies shape looked kind = filter (is_good shape looked kind) all_five

-- too few bricks, no copy, none that is good, or the good ones
abbrev pub verdict_of : Shape → Looked → Kind → Verdict
verdict_of shape looked kind =
    if not (is_majority shape.n looked.reached) then Short
    else (if is_nothing (copies_of shape looked kind) then Bare
    else (if is_nothing (good_copies shape looked kind) then Split
    else Sources (good_copies shape looked kind)))

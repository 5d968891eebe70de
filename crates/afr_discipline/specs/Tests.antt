-- The moves of a work outside its heals, as tests.
use Rattle.std.specs.Prelude.{ℕ, suc, ◌+◌, ◌^◌, ◌&&◌, ◌||◌, not, ◌==◌, nat_le, nat_lt, Bool, true, false, if◌then◌else◌, List, length, Option, None, Some}
use Rattle.afr_base.specs.Bricks.{member, is_nothing, minus, below}
use Rattle.afr_base.specs.Majority.{is_most}
use Rattle.afr_base.specs.declared.ids.Kind.{Kind}
use Rattle.afr_base.specs.declared.ids.NameId.{NameId}
use Rattle.afr_object.specs.declared.change.Change.{Change}
use Rattle.afr_object.specs.declared.change.Change.TheVariants.{Write, Cut, SetAttr, Make, Remove}
use Rattle.afr_object.specs.declared.entry.View.{View}
use Rattle.afr_lines.specs.declared.lock.Domain.TheVariants.{Work, Heal}
use Rattle.afr_lines.specs.declared.request.Area.{Area}
use Rattle.afr_lines.specs.declared.request.Area.TheVariants.{Range, Name}
use Rattle.afr_lines.specs.declared.request.Request.{Request}
use Rattle.afr_lines.specs.declared.request.Request.TheVariants.{Lock, Pre, Apply, Post, Mend, Settle}
use Rattle.afr_base.specs.Kinds.{same_kind}
use Rattle.afr_model_moves.specs.Sets.{any}
use Rattle.afr_model_moves.specs.Cells.{what_code}
use Rattle.afr_model_moves.specs.Honest.{plane_kind}
use Rattle.afr_model_moves.specs.Rules.{Register, busy, is_area, fits_change, area_object}
use Rattle.afr_discipline.specs.declared.register.Move.{Move}
use Rattle.afr_discipline.specs.declared.register.Move.TheVariants.{Ask, Begin, HealBegin, End}
use Rattle.afr_model_moves.specs.Register.{Exact, Step, Untouched, Pres, Applies, Posts, rank, same_step, asked_in, all, holder, good, area_kind, kind_in}

-- no second area was named yet
abbrev pub is_open : Option Area → Bool
is_open None = true
is_open (Some area) = false

-- a range below 2^63, the range of the attributes, a name or a whole directory
abbrev pub is_valid : Area → Bool
is_valid (Range g from to) = nat_lt from to && (nat_le to (2 ^ 63) || ((from == 2 ^ 63) && (to == 2 ^ 63 + 1)))
is_valid (Name g name) = true

-- the name is this, or the whole directory
abbrev pub has_name : Option NameId → NameId → Bool
has_name None m = true
has_name (Some k) m = k.0 == m.0

-- the change lies in the area
abbrev pub lies_at : Area → Change → Bool
lies_at (Range g from to) (Write h at bytes) = (g.0 == h.0) && nat_le from at && nat_le (at + length bytes) to && nat_le to (2 ^ 63)
lies_at (Range g from to) (Cut h len) = (g.0 == h.0) && nat_le from len && (to == 2 ^ 63)
lies_at (Range g from to) (SetAttr h key value) = (g.0 == h.0) && (from == 2 ^ 63) && (to == 2 ^ 63 + 1)
lies_at (Name g name) (Make h m new what) = (g.0 == h.0) && has_name name m
lies_at (Name g name) (Remove h m what) = (g.0 == h.0) && has_name name m
lies_at _ _ = false

-- the change lies in the area that was named
abbrev pub lies_in : Option Area → Change → Bool
lies_in None change = false
lies_in (Some area) change = lies_at area change

-- a Write ends at 1,048,576 or below
abbrev pub ends_low : Change → Bool
ends_low (Write h at bytes) = nat_le (at + length bytes) 1048576
ends_low _ = true

-- the change is for such an object as the view shows
abbrev pub fits_view : Option View → Change → Bool
fits_view None change = true
fits_view (Some view) change = fits_change (what_code view.what) change

-- a majority in which a copy is good
abbrev pub suffices_by : ℕ → (ℕ → Kind → Bool) → Kind → (ℕ → Option View) → (ℕ → Bool) → Bool
suffices_by n keeps kind views set = is_most n set && any n (λ s. set s && good n keeps kind views s)

-- a step that hasn't passed, in which the brick wasn't asked, before the first unlock of the area
abbrev pub once : Exact → Step → ℕ → Bool
once r step b = nat_le (rank r.step) (rank step) && not (asked_in r step b) && not r.unlocked

-- there was no attempt, or its Post was told Done at a majority
abbrev pub last_posted : ℕ → Register → Bool
last_posted n r = (r.number == 0) || is_most n r.post

-- the transaction's area, its second, or the first that could be
abbrev pub one_of : Register → Area → Bool
one_of r area = is_area r.area area || is_open r.second || is_area r.second area

-- the object and kind are those of the area
abbrev pub plane_in : Option Area → ℕ → Kind → Bool
plane_in None g kind = false
plane_in (Some area) g kind = (g == area_object area) && same_kind kind (area_kind area)

-- two flags are the same
abbrev pub same_flag : Bool → Bool → Bool
same_flag true x = x
same_flag false x = not x

-- the missed bricks are exactly the others below n
abbrev pub misses : ℕ → (ℕ → Bool) → List ℕ → Bool
misses n done missed = is_nothing (minus missed (below 5)) && all 5 (λ c. same_flag (member missed c) (nat_lt c n && not (done c)))

-- a Work lock
abbrev pub may_work : ℕ → Exact → Area → Bool
may_work n r area = is_valid area && (if busy n r.law then not r.unlocked && one_of r.law area else last_posted n r.law)

-- the one Begin of a transaction
abbrev pub may_begin : ℕ → (ℕ → Kind → Bool) → Exact → Change → Bool
may_begin n keeps r change =
    (r.law.number == 0) && not r.unlocked && lies_in r.law.area change && ends_low change && all n (λ x. fits_view (r.views x) change)
    && is_most n r.reached && suffices_by n keeps (plane_kind change) r.views (holder r.views)

-- a Pre of a transaction
abbrev pub may_pre : Exact → ℕ → ℕ → Kind → Bool
may_pre r b g kind = not (r.law.number == 0) && plane_in r.law.area g kind && holder r.views b && once r Pres b

-- an Apply
abbrev pub may_apply : ℕ → (ℕ → Kind → Bool) → Exact → ℕ → ℕ → Bool
may_apply n keeps r b q = (r.law.number == suc q) && r.law.pre b && suffices_by n keeps (kind_in r.law.area) r.views r.law.pre && once r Applies b

-- a Post
abbrev pub may_post : ℕ → (ℕ → Kind → Bool) → Exact → ℕ → ℕ → ℕ → Kind → List ℕ → Bool
may_post n keeps r b q g kind missed =
    (r.law.number == suc q) && plane_in r.law.area g kind && r.law.done b && suffices_by n keeps kind r.views r.law.done && once r Posts b && misses n r.law.done missed

-- the range of the Heal lock of an object
abbrev pub is_heal_area : Area → Bool
is_heal_area (Range g from to) = (from == 0) && (to == 2 ^ 63)
is_heal_area (Name g name) = false

-- the first Heal lock of a heal
abbrev pub may_open : Exact → ℕ → Area → Bool
may_open r b area = same_step r.step Untouched && (b == 0) && is_heal_area area

-- a request
abbrev pub may_ask_outside : ℕ → (ℕ → Kind → Bool) → Exact → ℕ → Request → Bool
may_ask_outside n keeps r b (Lock Work area) = may_work n r area
may_ask_outside n keeps r b (Lock Heal area) = may_open r b area
may_ask_outside n keeps r b (Pre g kind) = may_pre r b g.0 kind
may_ask_outside n keeps r b (Apply q) = may_apply n keeps r b q
may_ask_outside n keeps r b (Post q g kind missed) = may_post n keeps r b q g.0 kind missed
may_ask_outside n keeps r b (Mend repair) = false
may_ask_outside n keeps r b (Settle g kind less) = false
may_ask_outside n keeps r b _ = true

-- the end of a work
abbrev pub may_end : ℕ → Exact → Bool → Bool
may_end n r ok = not (busy n r.law) && not (any n r.law.healing) && (not ok || last_posted n r.law)

-- a move
abbrev pub may_move_outside : ℕ → (ℕ → Kind → Bool) → Exact → Move → Bool
may_move_outside n keeps r (Ask b request) = nat_lt b.0 n && may_ask_outside n keeps r b.0 request.now
may_move_outside n keeps r (Begin change) = may_begin n keeps r change.now
may_move_outside n keeps r (HealBegin g kind) = false
may_move_outside n keeps r (End ok) = may_end n r ok

-- Whole heals that run in the logic: how many lines each has, and whether it was broken.
use Rattle.std.proofs.Common.{◌≡◌, ℕ, Bool, true, false, [], ◌∷◌, refl, Some, if◌then◌else◌, ◌==◌}
use Rattle.afr_base.specs.declared.ids.Gfid.{Gfid}
use Rattle.afr_base.specs.declared.ids.Kind.{Kind}
use Rattle.afr_base.specs.declared.ids.Kind.TheVariants.{Bytes, Attrs, Names}
use Rattle.afr_base.specs.declared.ids.What.TheVariants.{File}
use Rattle.afr_base.specs.declared.marks.Marks.{Marks}
use Rattle.afr_object.specs.declared.entry.View.{View}
use Rattle.afr_lines.specs.declared.answer.Told.{Told}
use Rattle.afr_lines.specs.declared.answer.Told.TheVariants.{Granted, Held, Seen, Done, Given, NotConnected, Failed}
use Rattle.afr_lines.specs.declared.request.Request.{Request}
use Rattle.afr_lines.specs.declared.request.Request.TheVariants.{Lock, Unlock, Look, ReadBytes, List, ReadAttrs}
use Rattle.afr_model_moves.specs.Register.{untouched}
use Rattle.afr_heal.specs.Runs.{Play, run}

abbrev marks : ℕ → Marks
marks c = record { dirty = 0; pending = 0 ∷ 0 ∷ c ∷ 0 ∷ 0 ∷ [] }

abbrev view : ℕ → View
view c = record { what = File; len = 140000; marks = record { bytes = marks c; attrs = marks c; names = marks c } }

-- brick 2 missed an operation, and nothing fails
abbrev all_well : ℕ → ℕ → Request → Told
all_well t b (Lock d a) = Granted
all_well t b (Unlock d a) = Done
all_well t b (Look g) = Seen (view (if b == 2 then 0 else 1))
all_well t b (ReadBytes g at len) = Given
all_well t b (ReadAttrs g) = Given
all_well t b (List g) = Given
all_well t b request = Done

-- the line at one position is told something else
abbrev but_at : ℕ → Told → ℕ → ℕ → Request → Told
but_at u told t b request = if t == u then told else all_well t b request

-- nobody missed anything
abbrev no_marks : ℕ → ℕ → Request → Told
no_marks t b (Look g) = Seen (view 0)
no_marks t b request = all_well t b request

-- from this position on, brick 1 accuses brick 0
abbrev against : View
against = record { what = File; len = 140000; marks = record { bytes = record { dirty = 0; pending = 1 ∷ 0 ∷ 0 ∷ 0 ∷ 0 ∷ [] }; attrs = marks 0; names = marks 0 } }

abbrev g : Gfid
g = record { 0 = 7 }

abbrev keeps : ℕ → Kind → Bool
keeps b kind = true

abbrev start : Play
start = record { register = untouched; source = 0; at = 0 }

-- ---- heals that settle
attrs : run 30 3 keeps all_well g Attrs start ≡ Some (25, false)
attrs = refl

names : run 40 3 keeps all_well g Names start ≡ Some (28, false)
names = refl

-- two pieces
bytes : run 90 3 keeps all_well g Bytes start ≡ Some (60, false)
bytes = refl

-- an unlock that failed is asked again
again : run 30 3 keeps (but_at 20 Failed) g Attrs start ≡ Some (26, false)
again = refl

-- a brick that was held out of the looks is unlocked with the others
missed_look : run 30 3 keeps (but_at 9 Failed) g Attrs start ≡ Some (22, false)
missed_look = refl

-- ---- heals that end early
busy : run 30 3 keeps (but_at 1 (Held (record { 0 = 3 }))) g Attrs start ≡ Some (4, true)
busy = refl

nothing : run 30 3 keeps no_marks g Attrs start ≡ Some (17, true)
nothing = refl

-- the read fails: 11 lines, 6 unlocks and the end
failed : run 30 3 keeps (but_at 10 Failed) g Attrs start ≡ Some (18, true)
failed = refl

-- the copy was lost: its locks went with the session
lost : run 30 3 keeps (but_at 11 NotConnected) g Attrs start ≡ Some (17, true)
lost = refl

-- in the first piece, brick 1 accuses the source
moved : run 60 3 keeps (but_at 22 (Seen against)) g Bytes start ≡ Some (31, true)
moved = refl

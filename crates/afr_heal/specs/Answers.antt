-- What an answer leaves of a heal: its register and its source.
use Rattle.std.specs.Prelude.{ℕ, ◌≡◌, ◌<◌, ◌^◌, ◌&&◌, if◌then◌else◌, Bool, Some, false, nat_lt, true}
use Rattle.afr_base.specs.declared.ids.Gfid.{Gfid}
use Rattle.afr_base.specs.declared.ids.Kind.{Kind}
use Rattle.afr_discipline.specs.Turns.{candidate}
use Rattle.afr_lines.specs.declared.answer.Told.{Told}
use Rattle.afr_lines.specs.declared.answer.Told.TheVariants.{Done, Failed, Given, Granted, Held, NoObject, NotConnected, Seen}
use Rattle.afr_lines.specs.declared.request.Request.{Request}
use Rattle.afr_lines.specs.declared.request.Request.TheVariants.{List, Lock, Look, Mend, Pre, ReadAttrs, ReadBytes, Settle, Unlock}
use Rattle.afr_model_moves.specs.Discipline.{note}
use Rattle.afr_model_moves.specs.Lines.{ask_by, heal_begin_by}
use Rattle.afr_model_moves.specs.Register.{Exact, Looks, is_opening, same_step}

-- the answers that bricks give to a request of a heal
abbrev pub fits : Request → Told → Bool
fits request NotConnected = true
fits request Failed = true
fits (Lock domain area) Granted = true
fits (Lock domain area) (Held owner) = true
fits (Unlock domain area) Done = true
fits (Look g) (Seen view) = true
fits (Look g) NoObject = true
fits (ReadBytes g at len) Given = true
fits (ReadAttrs g) Given = true
fits (List g) Given = true
fits (Pre g kind) Done = true
fits (Mend repair) Done = true
fits (Settle g kind less) Done = true
fits request told = false

-- a length that is shown is a word
abbrev pub in_range : Told → Bool
in_range (Seen view) = nat_lt view.len (2 ^ 32)
in_range told = true

-- the register after a request that brick b answered
abbrev pub asked_for : ℕ → (ℕ → Kind → Bool) → Exact → ℕ → ℕ → Request → Told → Exact
asked_for n keeps r t b request told = note n keeps r t (Some (ask_by 0 b request told true))

-- the register after the HealBegin line of a part
abbrev pub begun_at : ℕ → (ℕ → Kind → Bool) → Exact → ℕ → Gfid → Kind → Exact
begun_at n keeps r t g kind = note n keeps r t (Some (heal_begin_by 0 g.0 kind))

-- the rule picks one of the copies below n that pass, if any does
abbrev pub PicksOne : ℕ → ((ℕ → Bool) → ℕ) → Type 0
PicksOne n pick = (p : ℕ → Bool) → (x : ℕ) → x < n → p x ≡ true → (pick p < n) × (p (pick p) ≡ true)

-- a look of the opening leaves the source to the rule; otherwise it stays
abbrev pub source_after : ℕ → (ℕ → Kind → Bool) → ((ℕ → Bool) → ℕ) → Exact → ℕ → ℕ
source_after n keeps pick r s = if same_step r.step Looks && is_opening r.part then pick (candidate n keeps r) else s

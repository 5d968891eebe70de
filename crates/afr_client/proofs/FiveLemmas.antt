-- Each list of a work's register has five places, before and after each line.
use Rattle.std.proofs.Common.{◌≡◌, ℕ, Bool, true, false, [], length, refl, sym, ap, ◌∙◌, subst, if◌then◌else◌}
use Rattle.afr_base.specs.declared.ids.Shape.{Shape}
use Rattle.afr_choice.specs.Looks.{no_looks, with_look, without_look}
use Rattle.afr_choice.specs.LooksLemmas.{length_after_look, length_after_loss}
use Rattle.afr_choice.specs.declared.looked.Looked.{Looked}
use Rattle.afr_lines.specs.declared.lock.Domain.TheVariants as domain
use Rattle.afr_lines.specs.Told.{told_by}
use Rattle.afr_lines.specs.declared.answer.Told.{Told}
use Rattle.afr_lines.specs.declared.request.Request.{Request}
use Rattle.afr_lines.specs.declared.request.Request.TheVariants as request
use Rattle.afr_model_moves.specs.Note.{answers, view_of}
use Rattle.afr_discipline.specs.Notes.{counts, is_working, noted_ask, noted_begin, noted_law, noted_outside, shown, shown_if, stayed}
use Rattle.afr_discipline.specs.Stands.{HasFive, no_lines}
use Rattle.afr_discipline.specs.declared.register.Register.{Register}
use Rattle.afr_discipline.specs.declared.register.Step.TheVariants as step
use Rattle.afr_client_transaction.proofs.Requests.{after_by, noted_is}
use Rattle.afr_client.specs.Laws.{BeginsWithFive, KeepsFive, KeepsFiveBegun}
use Rattle.afr_client.specs.Work.{register_of}
use Rattle.afr_client.proofs.WorkLemmas.{begins_fresh, notes_begin, notes_each, stays_outside}

-- ---- a look
shown_five : (looked : Looked) (b : ℕ) (told : Told) → length looked.views ≡ 5 → length (shown looked b told).views ≡ 5
shown_five looked b told five = go (answers told)
  where
    go : (a : Bool) → length (if a then with_look b (view_of told) looked else without_look b looked).views ≡ 5
    go true = length_after_look b (view_of told) looked ∙ five
    go false = length_after_loss b looked ∙ five

counted_five : (c : Bool) (looked : Looked) (b : ℕ) (told : Told) → length looked.views ≡ 5 → length (shown_if c looked b told).views ≡ 5
counted_five true looked b told five = shown_five looked b told five
counted_five false looked b told five = five

-- ---- a request outside a heal
same_five : (r s : Register) → s.looked ≡ r.looked → s.seen ≡ r.seen → s.reads ≡ r.reads → HasFive r → HasFive s
same_five r s e f g five = record { looked = ap (λ (x : Looked). length x.views) e ∙ five.looked; seen = ap (λ (x : Looked). length x.views) f ∙ five.seen; reads = ap length g ∙ five.reads }

steps_five : (r : Register) (b : ℕ) (asked : Request) (told : Told) → HasFive r → HasFive (noted_outside r b asked told)
steps_five r b (request.Lock domain.Work area) told five = go (is_working r)
  where
    go : (w : Bool) → HasFive (if w then stayed r else record r { step = step.Open; asked = []; unlocked = false; looked = no_looks })
    go true = same_five r (stayed r) refl refl refl five
    go false = record { looked = refl; seen = five.seen; reads = five.reads }
steps_five r b (request.Lock domain.Heal area) told five = record { looked = five.looked; seen = five.seen; reads = five.reads }
steps_five r b (request.Unlock domain.Work area) told five = record { looked = five.looked; seen = five.seen; reads = five.reads }
steps_five r b (request.Unlock domain.Heal area) told five = record { looked = five.looked; seen = five.seen; reads = five.reads }
steps_five r b (request.Look g) told five = record { looked = counted_five (counts r b g.0) r.looked b told five.looked; seen = five.seen; reads = five.reads }
steps_five r b (request.Pre g kind) told five = record { looked = five.looked; seen = five.seen; reads = five.reads }
steps_five r b (request.Apply q) told five = record { looked = five.looked; seen = five.seen; reads = five.reads }
steps_five r b (request.Post q g kind missed) told five = record { looked = five.looked; seen = five.seen; reads = five.reads }
steps_five r b asked told five = record { looked = five.looked; seen = five.seen; reads = five.reads }

law_five : (steps law : Register) (b : ℕ) (told : Told) → HasFive steps → HasFive (after_by steps law b told)
law_five steps law b told five = record { looked = five.looked; seen = five.seen; reads = five.reads }

asked_five : (r : Register) (at b : ℕ) (asked : Request) (told : Told) → r.inside ≡ false → HasFive r → HasFive (noted_ask r at b asked told)
asked_five r at b asked told out five = subst (λ (x : Register). HasFive x) (sym (noted_is r at b asked told out)) (law_five (noted_outside r b asked told) (noted_law r b asked told) b told (steps_five r b asked told five))

begun_five : (r : Register) (at : ℕ) → HasFive r → HasFive (noted_begin r at)
begun_five r at five = record { looked = five.looked; seen = five.seen; reads = five.reads }

fresh_five : (shape : Shape) → HasFive (no_lines shape)
fresh_five shape = record { looked = refl; seen = refl; reads = refl }

-- ---- a work
pub begins_with_five : BeginsWithFive
begins_with_five shape c h = subst (λ (x : Register). HasFive x) (sym (begins_fresh shape c h)) (fresh_five shape)

pub keeps_five : KeepsFive
keeps_five w k five at b asked e chosen a = subst (λ (x : Register). HasFive x) (sym (notes_each w at b asked e chosen a)) (asked_five (register_of w) at b.0 asked (told_by a) (stays_outside w k) five)

pub keeps_five_begun : KeepsFiveBegun
keeps_five_begun w five at change e chosen = subst (λ (x : Register). HasFive x) (sym (notes_begin w at change e chosen)) (begun_five (register_of w) at five)

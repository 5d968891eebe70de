-- Reads and heals whose copy the rules picked, and some whose copy they didn't; both rules pick the lowest good copy.
use Rattle.std.specs.Prelude.{◌≡◌, ℕ, ◌==◌, Bool, [], ◌∷◌, refl}
use Rattle.std.proofs.Common.{ap, sym, ◌∙◌}
use Rattle.afr_base.specs.declared.ids.Kind.TheVariants.{Bytes}
use Rattle.afr_object.specs.Tables.{root}
use Rattle.afr_object.specs.declared.change.Repair.TheVariants.{CutTo}
use Rattle.afr_lines.specs.declared.answer.Told.TheVariants as told
use Rattle.afr_lines.specs.declared.reply.Good.TheVariants as good
use Rattle.afr_lines.specs.declared.reply.HealReply.TheVariants as healed
use Rattle.afr_lines.specs.declared.reply.Reply.TheVariants as reply
use Rattle.afr_lines.specs.declared.request.Request.TheVariants as request
use Rattle.afr_model.specs.Chosen.{IsChosen, Picks, ReadsPicked, SourcePicked, candidates_of}
use Rattle.afr_choice.specs.Looks.{view_at}
use Rattle.afr_model.specs.Moved.{len_in}
use Rattle.afr_model.specs.Showing.{looked_by}
use Rattle.afr_test_model.proofs.HealWords.{attrs_healed, heal_ends, opened, raised, settled}
use Rattle.afr_test_model.proofs.Means.{fails, told_apart}
use Rattle.afr_test_model.proofs.Words.{ask, at_each, at_two, ends, file, file_entry, file_name, heal_ask, led_to_file, look_failed, look_file, look_root, plan, work_of}

-- the lowest candidate
abbrev pub lowest : Picks
lowest [] b = ⊥
lowest (x ∷ more) b = b ≡ x.0

-- brick 0 is picked
abbrev pub is_brick_0 : ℕ → Bool
is_brick_0 b = b == 0

-- ---- reads
-- the candidates are the good copies, with the lengths that they showed
pub the_candidates_are_the_good_copies : candidates_of plan.shape Bytes (looked_by file (work_of (look_failed file 2 ∷ at_two look_file []))) ≡ (0, 0) ∷ (1, 0) ∷ []
the_candidates_are_the_good_copies = refl

-- a name is read at the lowest
pub a_read_of_the_lowest : ReadsPicked lowest plan (ask 0 (request.ReadName root file_name) told.Given) (at_each look_root [])
a_read_of_the_lowest outsider = refl

-- and not at another
pub no_read_of_another : ReadsPicked lowest plan (ask 1 (request.ReadName root file_name) told.Given) (at_each look_root []) → ⊥
no_read_of_another picked = told_apart is_brick_0 0 1 refl refl (sym (picked refl))

-- a stat gives the length at the lowest
pub a_stat_of_the_lowest : ReadsPicked lowest plan (ends (reply.Ok (good.Stat file_entry 0))) (at_each look_file led_to_file)
a_stat_of_the_lowest = (0, refl, refl)

-- a length that brick 0 didn't show
pub no_stat_of_an_unpicked_length : ReadsPicked lowest plan (ends (reply.Ok (good.Stat file_entry 7))) (at_each look_file led_to_file) → ⊥
no_stat_of_an_unpicked_length picked = told_apart is_brick_0 _ _ refl refl (sym (picked.2 ∙ ap (λ (b : ℕ). len_in (view_at b (looked_by file (work_of (at_each look_file led_to_file))))) picked.1))

-- ---- heals
-- a heal that raised and settled numbers has the lowest copy for its source
pub a_heal_from_the_lowest : SourcePicked lowest plan (heal_ends Bytes healed.Settled) settled
a_heal_from_the_lowest changes = record { source = 0; picked = refl; kept = (tt, (tt, (tt, (tt, (tt, (tt, (tt, (tt, (tt, (tt, (tt, (tt, (tt, (tt, (tt, tt))))))))))))))) }

-- one that read at another
pub no_heal_from_another : SourcePicked lowest plan (heal_ends Bytes healed.Settled) (heal_ask 1 (request.ReadBytes file 0 5) told.Given ∷ raised) → ⊥
no_heal_from_another picked = told_apart is_brick_0 0 1 refl refl (sym ((picked refl).kept.0 ∙ (picked refl).picked))

-- one that changed its source
pub no_heal_of_the_source : SourcePicked lowest plan (heal_ends Bytes healed.Settled) (heal_ask 0 (request.Mend (CutTo file 0)) told.Done ∷ raised) → ⊥
no_heal_of_the_source picked = (picked refl).kept.0 (sym (picked refl).picked)

-- one that looked and ended needs no source
pub a_heal_that_looked_needs_none : SourcePicked lowest plan (heal_ends Bytes healed.Short) (opened Bytes attrs_healed)
a_heal_that_looked_needs_none changes = fails changes

-- ---- logs
-- a log whose one read was picked
pub a_chosen_log : IsChosen lowest lowest plan (ask 0 (request.ReadName root file_name) told.Given ∷ at_each look_root [])
a_chosen_log = record { of_reads = (a_read_of_the_lowest, (tt, (tt, (tt, tt)))); of_heals = (tt, (tt, (tt, (tt, tt)))) }

-- one whose read wasn't
pub a_log_not_chosen : IsChosen lowest lowest plan (ask 1 (request.ReadName root file_name) told.Given ∷ at_each look_root []) → ⊥
a_log_not_chosen chosen = no_read_of_another chosen.of_reads.0

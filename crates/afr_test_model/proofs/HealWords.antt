-- The words of the samples on heals: a round of brick 0 after a write that brick 2 missed.
use Rattle.std.specs.Prelude.{ℕ, ◌∷◌, [], List}
use Rattle.afr_base.specs.Marks.{closed_op, no_marks, zero_marks}
use Rattle.afr_base.specs.declared.ids.Kind.{Kind}
use Rattle.afr_base.specs.declared.ids.Kind.TheVariants.{Bytes, Attrs}
use Rattle.afr_base.specs.declared.ids.What.TheVariants.{File}
use Rattle.afr_base.specs.declared.marks.Marks.{Marks}
use Rattle.afr_object.specs.declared.entry.View.{View}
use Rattle.afr_lines.specs.Work.{Work, work}
use Rattle.afr_lines.specs.declared.answer.Told.{Told}
use Rattle.afr_lines.specs.declared.answer.Told.TheVariants as told
use Rattle.afr_lines.specs.declared.line.Line.{Line}
use Rattle.afr_lines.specs.declared.line.Line.TheVariants.{HealBegin, HealEnd}
use Rattle.afr_lines.specs.declared.reply.HealReply.{HealReply}
use Rattle.afr_lines.specs.declared.reply.HealReply.TheVariants as healed
use Rattle.afr_lines.specs.declared.request.Request.TheVariants as request
use Rattle.afr_lines.specs.declared.lock.Domain.TheVariants as domain
use Rattle.afr_model.specs.Healing.{heal_by, whole_of}
use Rattle.afr_test_model.proofs.Words.{at_each, at_two, file, file_view, half_written, heal_ask, healer}

-- ---- works
-- the healer's present round
abbrev pub round_of : List Line → Work
round_of log = work 17 log

-- its present heal
abbrev pub heal_of : List Line → Work
heal_of log = heal_by (round_of log)

-- ---- lines
-- the index of a brick
abbrev pub index : ℕ → Line
index b = heal_ask b request.Index told.Given

-- the start of a heal, or of a later part of it
abbrev pub heals : Kind → Line
heals kind = HealBegin healer file kind

-- the end of a heal
abbrev pub heal_ends : Kind → HealReply → Line
heal_ends kind said = HealEnd healer file kind said

-- the lock that keeps other heals out, whatever is healed
abbrev pub heal_lock : Told → ℕ → Line
heal_lock said b = heal_ask b (request.Lock domain.Heal (whole_of file Bytes)) said

-- the lock that keeps clients out
abbrev pub work_lock : Kind → Told → ℕ → Line
work_lock kind said b = heal_ask b (request.Lock domain.Work (whole_of file kind)) said

-- a look at the file
abbrev pub heal_look : Told → ℕ → Line
heal_look said b = heal_ask b (request.Look file) said

-- a brick's number is raised by the heal
abbrev pub raise : ℕ → Line
raise b = heal_ask b (request.Pre file Bytes) told.Done

-- numbers are taken back
abbrev pub settle : Marks → ℕ → Line
settle less b = heal_ask b (request.Settle file Bytes less) told.Done

-- ---- what the bricks show
-- a copy with five bytes and one write that this brick missed
abbrev pub wrote : ℕ → View
wrote missed = record { what = File; len = 5; marks = record no_marks { bytes = closed_op (missed ∷ []) zero_marks } }

-- the looks after the write: bricks 0 and 1 accuse brick 2
abbrev pub shown : List Line → List Line
shown older = heal_look (told.Seen file_view) 2 ∷ at_two (heal_look (told.Seen (wrote 2))) older

-- ---- a round
-- a heal locks on each brick
abbrev pub locked : Kind → List Line → List Line
locked kind older = at_each (work_lock kind told.Granted) (at_each (heal_lock told.Granted) older)

-- then it begins and looks
abbrev pub opened : Kind → List Line → List Line
opened kind older = shown (heals kind ∷ locked kind older)

-- the round has its index
abbrev pub listed : List Line
listed = index 0 ∷ half_written

-- nothing was wrong with the attributes
abbrev pub attrs_healed : List Line
attrs_healed = heal_ends Attrs healed.Nothing ∷ opened Attrs listed

-- the heal of the bytes looked, and raised the numbers of all but its source
abbrev pub raised : List Line
raised = raise 2 ∷ raise 1 ∷ opened Bytes attrs_healed

-- what is taken back at brick 0
abbrev pub less_0 : Marks
less_0 = record { dirty = 0; pending = 0 ∷ 0 ∷ 1 ∷ 0 ∷ 0 ∷ [] }

-- at brick 1, with the heal's pre-op
abbrev pub less_1 : Marks
less_1 = record { dirty = 1; pending = 0 ∷ 0 ∷ 1 ∷ 0 ∷ 0 ∷ [] }

-- at brick 2, with the heal's pre-op
abbrev pub less_2 : Marks
less_2 = record { dirty = 1; pending = 0 ∷ 0 ∷ 0 ∷ 0 ∷ 0 ∷ [] }

-- it was taken back on each
abbrev pub settled : List Line
settled = settle less_2 2 ∷ settle less_1 1 ∷ settle less_0 0 ∷ raised

-- a later look at which brick 1 accuses the source
abbrev pub moved : List Line
moved = heal_look (told.Seen file_view) 2 ∷ heal_look (told.Seen (wrote 0)) 1 ∷ heal_look (told.Seen (wrote 2)) 0 ∷ heals Bytes ∷ at_each (work_lock Bytes told.Granted) raised

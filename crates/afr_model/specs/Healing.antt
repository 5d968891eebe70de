-- What the lines of a heal show: its first looks, its source, and what it takes back.
use Rattle.std.specs.Prelude.{ℕ, ◌+◌, ◌^◌, not, Bool, true, false, List, [], ◌∷◌, Option, Some, None, if◌then◌else◌}
use Rattle.afr_base.specs.Bricks.{added, added_if, below, member, minus, lowest, is_nothing}
use Rattle.afr_base.specs.Marks.{marks_of, zero_marks}
use Rattle.afr_base.specs.declared.ids.ActorId.{ActorId}
use Rattle.afr_base.specs.declared.ids.Gfid.{Gfid}
use Rattle.afr_base.specs.declared.ids.Kind.{Kind}
use Rattle.afr_base.specs.declared.ids.Kind.TheVariants.{Bytes, Attrs, Names}
use Rattle.afr_base.specs.declared.ids.Shape.{Shape}
use Rattle.afr_base.specs.declared.marks.Marks.{Marks}
use Rattle.afr_choice.specs.Looks.{no_looks, view_at}
use Rattle.afr_choice.specs.Verdict.{copies_of, holders_of}
use Rattle.afr_choice.specs.declared.looked.Looked.{Looked}
use Rattle.afr_object.specs.declared.entry.View.{View}
use Rattle.afr_lines.specs.Work.{Work}
use Rattle.afr_lines.specs.declared.answer.Told.TheVariants as as_told
use Rattle.afr_lines.specs.declared.line.Line.{Line}
use Rattle.afr_lines.specs.declared.line.Line.TheVariants.{Ask, HealBegin, HealEnd}
use Rattle.afr_lines.specs.declared.request.Area.{Area}
use Rattle.afr_lines.specs.declared.request.Area.TheVariants.{Range, Name}
use Rattle.afr_lines.specs.declared.request.Request.TheVariants as request
use Rattle.afr_lines.specs.declared.lock.Domain.TheVariants as domain
use Rattle.afr_model.specs.Showing.{look_shows, among, prepared, is_fault, is_done, is_granted}

-- the lines of the present heal: those after the round's last HealEnd line, or after its Index line
abbrev pub is_border : Line → Bool
is_border (HealEnd a g kind reply) = true
is_border (Ask a b request.Index told took) = true
is_border line = false

-- the lines of a round after its last such line
abbrev pub heal_by : Work → Work
heal_by [] = []
heal_by (x ∷ w) = if is_border x.0 then [] else x ∷ heal_by w

-- what all of one kind is locked by
abbrev pub whole_of : Gfid → Kind → Area
whole_of g Bytes = Range g 0 (2 ^ 63)
whole_of g Attrs = Range g (2 ^ 63) (2 ^ 63 + 1)
whole_of g Names = Name g None

-- ---- the first looks
-- the bricks that failed the first locks or looks, and what the first looks show; they are the looks right after the first HealBegin line
pub record First : Type 0 where
  pub begun : Bool
  pub still : Bool
  pub missing : List ℕ
  pub looked : Looked

-- no line of the heal yet
abbrev pub none_yet : First
none_yet = record { begun = false; still = false; missing = []; looked = no_looks }

-- what a line adds to it
abbrev pub first_after : Line → First → First
first_after (HealBegin a g kind) s = record s { begun = true; still = not s.begun }
first_after (Ask a b (request.Look g) told took) s = if s.still then record s { missing = added_if (is_fault told) b.0 s.missing; looked = look_shows b.0 told s.looked } else s
first_after (Ask a b (request.Lock d area) told took) s = if s.begun then record s { still = false } else record s { missing = added_if (is_fault told) b.0 s.missing }
first_after line s = record s { still = false }

-- the same of all lines of a heal
abbrev pub first_by : Work → First
first_by [] = none_yet
first_by (x ∷ w) = first_after x.0 (first_by w)

-- the holders by the first looks
abbrev pub holders_in : Work → List ℕ
holders_in w = holders_of (first_by w).looked

-- ---- the bricks that were asked
-- those that were asked for the Heal lock
abbrev pub heal_asking : Line → List ℕ → List ℕ
heal_asking (Ask a b (request.Lock domain.Heal area) told took) s = added b.0 s
heal_asking line s = s

-- those that granted it
abbrev pub heal_getting : Line → List ℕ → List ℕ
heal_getting (Ask a b (request.Lock domain.Heal area) told took) s = added_if (is_granted told) b.0 s
heal_getting line s = s

-- those that were asked to settle
abbrev pub settling : Line → List ℕ → List ℕ
settling (Ask a b (request.Settle g kind less) told took) s = added b.0 s
settling line s = s

-- those that did
abbrev pub settled_at : Line → List ℕ → List ℕ
settled_at (Ask a b (request.Settle g kind less) told took) s = added_if (is_done told) b.0 s
settled_at line s = s

-- who held the Heal lock where it was asked first in vain
abbrev pub busy_after : Line → Option ActorId → Option ActorId
busy_after line (Some owner) = Some owner
busy_after (Ask a b (request.Lock domain.Heal area) (as_told.Held owner) took) None = Some owner
busy_after line None = None

-- the same of all lines of a heal
abbrev pub busy_by : Work → Option ActorId
busy_by [] = None
busy_by (x ∷ w) = busy_after x.0 (busy_by w)

-- ---- the source and what is changed
-- the copies on which the heal raised no number; after its pre-ops this is the source
abbrev pub source_of : Shape → Kind → Work → ℕ
source_of shape kind w = lowest (minus (copies_of shape (first_by w).looked kind) (among prepared w))

-- the holders whose copy the heal replaces: for names all, else all but the source
abbrev pub changed_by : Shape → Kind → Work → List ℕ
changed_by shape Names w = holders_in w
changed_by shape kind w = minus (holders_in w) (source_of shape kind w ∷ [])

-- numbers from brick k on, kept where the brick is in the set
abbrev pub kept_of : ℕ → List ℕ → List ℕ → List ℕ
kept_of k s [] = []
kept_of k s (n ∷ ns) = (if member s k then n else 0) ∷ kept_of (k + 1) s ns

-- the numbers of a view
abbrev pub marks_in : Kind → Option View → Marks
marks_in kind None = zero_marks
marks_in kind (Some view) = marks_of kind view.marks

-- what is taken back at brick b: what the first looks showed against the holders that changed; and, where every brick of the volume held the object, what they showed as open, with the heal's own pre-op
abbrev pub less_at : Shape → Kind → Work → ℕ → Marks
less_at shape kind w b = record {
  dirty = if is_nothing (minus (below shape.n) (holders_in w)) then (marks_in kind (view_at b (first_by w).looked)).dirty + (if member (among prepared w) b then 1 else 0) else 0;
  pending = kept_of 0 (changed_by shape kind w) (marks_in kind (view_at b (first_by w).looked)).pending;
}
